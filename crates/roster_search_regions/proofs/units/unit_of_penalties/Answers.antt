use Prim.Native.Nat.{◌∣◌}
use Rattle.std.proofs.Common.{◌≡◌, ℕ, get_or, inl, inr, length, sym, ap, ◌∙◌, subst, arith}
use Rattle.std.proofs.lemmas.Bool.{cases_lt}
use Rattle.std.proofs.lemmas.Nat.Gcd.{dvd_trans}
use Rattle.std.proofs.lemmas.Option.{get_or_from_slice_get}
use Rattle.roster_model.specs.records.Pairing.{Pairing}
use Rattle.roster_search_regions.proofs.units.unit_of_penalties.Goals as goal

pub loop-p-preserved : goal.loop-p-preserved
loop-p-preserved c i d before =
    let new : ℕ = c.common-unit.result in
    elim (cases_lt i c.loop-p.p) [
      | inl earlier ↦ dvd_trans new c.common-unit.ensures.1 (c.loop-p.invariant i d earlier)
      | inr last ↦
          let pairings = c.args.problem.now.pairings in
          let same : c.loop-p.p ≡ i = omega arith in
          let here = get_or_from_slice_get pairings c.loop-p.p c.pairing.result.now d c.pairing.ensures in
          let there : get_or pairings i d ≡ c.pairing.result.now =
          sym (ap (λ (j : ℕ). get_or pairings j d) same) ∙ here in
          let penalty =
          c.from.ensures ∙ ap (λ (p : Pairing). p.penalty) (c.behind-problem.view_is ∙ sym there) in
          subst (λ (n : ℕ). new ∣ n) penalty c.common-unit.ensures.0
    ]

pub returns : goal.returns
returns c i d inside =
    c.loop-p.invariant i d (omega (arith, ap length c.pairings-p-end.ensures.value, c.loop-p-test.false))
