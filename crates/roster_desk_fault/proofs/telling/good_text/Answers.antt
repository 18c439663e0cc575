use Rattle.std.proofs.Common.{rules, ◌≡◌, codes}
use Rattle.roster_desk_words.proofs.Parts.{parts_of_map}
use Rattle.roster_desk_fault.specs.Kinds.{kind_of}
use Rattle.roster_desk_fault.specs.Told.{IsCounted}
use Rattle.roster_desk_fault.specs.declared.kinds.TheConstants.Kind.{ALL}
use Rattle.roster_desk_fault.proofs.Lines.{good_text}
use Rattle.roster_desk_fault.proofs.telling.good_text.Goals as goal

pub returns : goal.returns
returns c =
    let counts : c.as_slice.result.now ≡ c.in_ok-counts.counts.items = search rules in
    let crowded : c.as_slice-2.result.now ≡ c.in_ok-crowded.crowded.items = search rules in
    record {
      counts = c.in_ok-counts.counts.items;
      counted = parts_of_map IsCounted kind_of ALL c.in_ok-counts.counts.items c.in_ok-counts.ensures;
      last = c.in_ok-crowded.crowded.items;
      crowded = c.in_ok-crowded.ensures;
      all = good_text _ _ (codes "NO FAULT\n") _ _ _ _ c.new-out.ensures.items c.in_ok-push_all.ensures counts crowded;
    }
