use Rattle.std.proofs.Common.{rules, ◌≡◌, ◌∙◌, ap, codes, drop, length}
use Rattle.std.specs.Fmt.{decimal}
use Rattle.roster_model.specs.Record.{word_of}
use Rattle.roster_desk_fault.specs.Kinds.{kind_of}
use Rattle.roster_desk_fault.specs.Told.{most_text}
use Rattle.roster_desk_fault.proofs.Lines.{count_text}
use Rattle.roster_desk_fault.proofs.telling.count_line.Goals as goal

pub returns : goal.returns
returns c =
    let word : c.as_bytes.result.now ≡ word_of (kind_of c.args.kind) = search rules in
    let count : c.as_bytes-2.result.now ≡ decimal c.args.count = search rules in
    let fill = c.filling.ensures ∙ ap (λ w. drop (length w) (codes "        ")) c.word-word.ensures in (
      c.args.count,
      count_text _ _ _ _ _ _ _ _ _ _ _ c.new-out.ensures.items c.in_ok-push_all.ensures c.in_ok-push_most.ensures
          word fill count (ap most_text c.most.ensures),
    )
