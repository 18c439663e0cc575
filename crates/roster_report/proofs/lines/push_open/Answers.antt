use Rattle.std.proofs.Common.{ap, ◌∙◌, codes, ◌∷◌, ◌++◌, length, ℕ}
use Rattle.std.proofs.lemmas.Result.{on_ok_weaker}
use Rattle.roster_model.specs.Places.{set_of}
use Rattle.roster_model.specs.Texts.{line_of, names_of}
use Rattle.roster_report.proofs.LineOf.{plain-line}
use Rattle.roster_report.proofs.lines.push_open.Goals as goal

pub returns : goal.returns
returns c =
    let number = ap (λ (n : ℕ). c.args.out.now.items ++ line_of (codes "OPEN" ∷ names_of c.args.problem.now (set_of n c.args.places.now))) (ap length c.persons.ensures.value) in
    on_ok_weaker c.end_line.result (λ e. plain-line _ _ _ _ _ _ c.in_ok-extend_from_slice.ensures.items c.in_ok-push_names.ensures e ∙ number) c.end_line.ensures
