use Rattle.std.proofs.Common.{rules, ◌≡◌, codes}
use Rattle.std.specs.Fmt.{decimal}
use Rattle.roster_model.specs.declared.limits.TheConstants.{MOST_LINES}
use Rattle.roster_desk_fault.proofs.Lines.{crowded_text}
use Rattle.roster_desk_fault.proofs.telling.crowded_text.Goals as goal

pub returns : goal.returns
returns c =
    let name : c.as_bytes.result.now ≡ c.person.result.now.id = search rules in
    let most : c.as_bytes-2.result.now ≡ decimal MOST_LINES = search rules in
    let shown : c.as_slice.result.now ≡ c.in_ok-shown.shown.items = search rules in
    record {
      first = c.requires;
      person = c.person.result.now;
      is = c.person.ensures;
      shown = c.in_ok-shown.shown.items;
      all = crowded_text _ c.push_all.new.out.items (codes "NOT FOR SOLVE\n") _ _
          (codes "  why     `roster solve` can't list all legal sets of ") _ _ (codes ": there are more than ") _ _
          (codes ", the empty one counted; others may have as many\n")
          (codes "  wanted  `roster-desk plan`, which takes this book; or a book for a part of the month or base\n")
          c.new-out.ensures.items c.in_ok-push_all.ensures shown name most;
    }
