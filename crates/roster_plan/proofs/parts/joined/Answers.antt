use Rattle.std.proofs.Common.{◌∙◌, inl, inr, ℤ, sym, subst, w64, FitsSigned, rules}
use Rattle.std.proofs.lemmas.Bool.{false≢true}
use Rattle.std.proofs.lemmas.Int.{to_z-of_z}
use Rattle.roster_model.specs.Settled.{IsHeld, IsLowerBound}
use Rattle.roster_plan.proofs.PlannedLemmas.{roster_on}
use Rattle.roster_plan.proofs.parts.joined.Goals as goal

pub greater-bound-requires-clause-first : goal.greater-bound-requires-clause-first
greater-bound-requires-clause-first c =
    let bound : ℤ = c.in_ok-whole.whole.bound in
    let fits : FitsSigned w64 bound = search rules in
    subst (IsLowerBound c.args.problem.now)
    (sym (to_z-of_z w64 bound fits)) c.in_ok-whole.ensures.known.bounded

pub greater-bound-requires-clause-second : goal.greater-bound-requires-clause-second
greater-bound-requires-clause-second c =
    let bound : ℤ = c.args.known.bound in
    let fits : FitsSigned w64 bound = search rules in
    subst (IsLowerBound c.args.problem.now) (sym (to_z-of_z w64 bound fits)) c.requires.known.bounded

pub so_far-requires-clause-held : goal.so_far-requires-clause-held
so_far-requires-clause-held c = elim c.earlier-roster.ensures.from [
  | inl is ↦ subst (IsHeld c.args.problem.now) (sym is) c.in_ok-whole.ensures.known.held
  | inr is ↦ subst (IsHeld c.args.problem.now) (sym is) c.requires.known.held
]

pub so_far-requires-clause-bound : goal.so_far-requires-clause-bound
so_far-requires-clause-bound c =
    let bound : ℤ = c.greater-bound.result in
    let fits : FitsSigned w64 bound = search rules in
    subst (IsLowerBound c.args.problem.now) (sym (to_z-of_z w64 bound fits)) c.greater-bound.ensures.bound

pub returns-clause-planned : goal.returns-clause-planned
returns-clause-planned c = roster_on c.args.problem.now c.args.known.roster c.earlier-roster.result c.so_far.result c.so_far.ensures.known c.so_far.ensures.roster c.earlier-roster.ensures.second

pub returns-clause-best : goal.returns-clause-best
returns-clause-best c all = absurd (false≢true (sym c.if-whole.false ∙ c.in_ok-whole.ensures.best all))
