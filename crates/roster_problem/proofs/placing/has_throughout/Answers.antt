use Rattle.std.proofs.Common.{◌≡◌, ◌<◌, length, get_or}
use Rattle.std.proofs.lemmas.Bool.{false≢true}
use Rattle.roster_model.proofs.SetLemmas.{All-is_among}
use Rattle.roster_problem.proofs.placing.has_throughout.Goals as goal

pub bounds-places-p : goal.bounds-places-p
bounds-places-p c =
    All-is_among
    (λ p. p < length c.args.places.now) c.args.set.now c.in-Some.p c.requires c.in-Some.ensures.place.2

pub returns-then-places-p : goal.returns-then-places-p
returns-then-places-p c = (
  λ h. absurd (false≢true h),
  λ all. absurd (c.if-places-p.true (All-is_among (λ p. get_or c.args.places.now p 0 ≡ c.args.number) c.args.set.now c.in-Some.p all c.in-Some.ensures.place.2)),
)
