use Rattle.std.proofs.Common.{◌≡◌, true, sym, ap, ◌∙◌, rules}
use Rattle.std.proofs.lemmas.Bool.{both_ways}
use Rattle.roster_bases.specs.Bases.{base_of_person, only}
use Rattle.roster_plan_bound.proofs.gap.lines_of_person.Goals as goal

pub returns : goal.returns
returns c =
    let own : only c.args.base (base_of_person c.args.pricing.now c.args.k) ≡ true =
    ap (λ p. only c.args.base (base_of_person p c.args.k)) (sym c.problem-problem.ensures)
    ∙ sym c.if-not-is_person_of.ensures in
    record {
      listed = search rules;
      every = λ here. search rules;
      none = λ other. absurd (both_ways _ other own);
    }
