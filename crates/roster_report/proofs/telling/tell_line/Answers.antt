use Rattle.std.proofs.Common.{◌∷◌, []}
use Rattle.roster_report.proofs.Told.{tells_both}
use Rattle.roster_report.proofs.telling.tell_line.Goals as goal

pub returns : goal.returns
returns g c =
    tells_both g.E.Write.contents c.args.text.now (10 ∷ []) c.args.errors.now c.tell_text.new.errors c.tell_text-2.new.errors c.tell_text.ensures c.tell_text-2.ensures
