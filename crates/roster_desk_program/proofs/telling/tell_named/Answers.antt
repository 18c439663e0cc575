use Rattle.std.proofs.Common.{◌++◌, ◌∷◌, [], codes, append_assoc, sym, subst}
use Rattle.roster_report.specs.Writing.{TellsText}
use Rattle.roster_report.proofs.Told.{tells_both}
use Rattle.roster_desk_program.proofs.telling.tell_named.Goals as goal

pub returns : goal.returns
returns g c =
    let begun = tells_both g.E.Write.contents (codes "error: ") c.args.path.now c.args.errors.now c.tell_text.new.errors c.tell_text-2.new.errors c.tell_text.ensures c.tell_text-2.ensures in
    let all = tells_both g.E.Write.contents (codes "error: " ++ c.args.path.now) (c.args.wrong.now ++ (10 ∷ [])) c.args.errors.now c.tell_text-2.new.errors c.tell_line.new.errors begun c.tell_line.ensures in
    subst (λ text. TellsText g.E.Write.contents text c.args.errors.now c.tell_line.new.errors)
    (sym (append_assoc (codes "error: " ++ c.args.path.now) c.args.wrong.now (10 ∷ []))) all
