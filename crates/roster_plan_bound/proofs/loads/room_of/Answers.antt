use Rattle.std.proofs.Common.{◌≡◌, ℕ, ◌<◌, ◌≤◌, length, get_or, ap, ◌∙◌, sym, subst, arith}
use Rattle.std.proofs.lemmas.Option.{slice_get-get_or}
use Rattle.roster_plan_bound.specs.declared.parts.TheConstants.{MOST_LOAD}
use Rattle.roster_plan_bound.specs.Loads.{load_at, room_at}
use Rattle.roster_plan_bound.proofs.LoadLemmas.{load-few, loads-kept}
use Rattle.roster_plan_bound.proofs.loads.room_of.Goals as goal

pub returns : goal.returns
returns c =
    let problem = c.args.problem.now in
    let k = c.args.k in
    let at = c.binding_of-at.result in
    let loads = c.in_ok-loads.loads.items in
    let spare : c.minutes_at.result ≡ room_at problem k at =
    c.minutes_at.ensures.value ∙ ap (λ xs. get_or xs at 0) (c.deref-4.ensures.value ∙ c.in_ok-rooms.ensures) in
    let is : (p d : ℕ) → p < length loads → get_or loads p d ≡ load_at problem k at p = λ p d inside.
    c.in_ok-loads.ensures.each p (get_or loads p d) (slice_get-get_or loads p d inside) in
    record {
      covers = c.in_ok-loads.ensures.long;
      small = λ p d inside. subst (λ n. n ≤ MOST_LOAD) (sym (is p d inside)) (load-few problem k at p);
      few = c.minutes_at.ensures.few;
      within = λ set line.
          let kept = loads-kept c.sums_of_one_pairing_more.ensures c.limits_are_sums.ensures problem k at loads
          (λ p inside. is p 0 (omega (arith, inside, c.in_ok-loads.ensures.long))) set line in
          omega (arith, kept, spare);
    }
