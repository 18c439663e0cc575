use Rattle.std.proofs.Common.{◌≡◌, ◌<◌, length, Some, sym, ap, subst, ◌∙◌, inl, inr, arith}
use Rattle.std.specs.Prelude.{slice_get}
use Rattle.std.proofs.lemmas.Bool.{cases_eq, cases_lt, both_ways}
use Rattle.std.proofs.lemmas.Option.{same_Some}
use Rattle.roster_model.specs.records.Crew.{Person}
use Rattle.roster_model.specs.records.Pairing.{Pairing}
use Rattle.roster_model.proofs.SetLemmas.{All-is_among, is_among-from_Contains}
use Rattle.roster_legal_reasons.proofs.rules.base.first_off_base.Goals as goal

pub pairing-requires : goal.pairing-requires
pairing-requires c = All-is_among (λ p. p < length c.args.problem.now.pairings) c.args.set.now c.in-Some.p c.requires.places c.in-Some.ensures.place.2

pub returns-then-pairing-base : goal.returns-then-pairing-base
returns-then-pairing-base c =
    let of_pairing = ap (λ (x : Pairing). x.base) c.behind-problem-in-Some.view_is in
    let of_person = ap (λ (x : Person). x.base) c.behind-problem.view_is in
    record {
      pairing = c.pairing.result.now;
      person = c.person.result.now;
      at_place = c.pairing.ensures;
      of_person = c.person.ensures;
      among = c.in-Some.ensures.place.2;
      other = λ same. c.if-pairing-base.true (of_pairing ∙ same ∙ sym of_person);
      first = λ q earlier before among at. elim (cases_lt q c.loop-p.from) as (λ _. earlier.base ≡ c.person.result.now.base) [
        | inl below ↦ c.loop-p.invariant q earlier below among at ∙ of_person
        | inr on ↦ absurd (both_ways _ (c.in-Some.ensures.least q on before) among)
      ];
    }

pub loop-p-preserved : goal.loop-p-preserved
loop-p-preserved c q pairing below member at =
    elim (cases_eq q c.in-Some.p) [
      | inl here ↦
          let there = subst (λ i. slice_get c.args.problem.now.pairings i ≡ Some pairing) here at in
          let same = same_Some _ _ (sym there ∙ c.pairing.ensures) in
          ap (λ (x : Pairing). x.base) (same ∙ sym c.behind-problem-in-Some.view_is) ∙ c.if-pairing-base.false
      | inr other ↦ elim (cases_lt q c.loop-p.from) [
        | inl before ↦ c.loop-p.invariant q pairing before member at
        | inr on ↦ absurd (both_ways _ (c.in-Some.ensures.least q on (omega arith)) member)
      ]
    ]

pub returns : goal.returns
returns c p pairing person member pairing_is person_is =
    let same = same_Some _ _ (sym person_is ∙ c.person.ensures) in
    let among = is_among-from_Contains c.args.set.now p member in
    let base = elim (cases_lt p c.loop-p.from) as (λ _. pairing.base ≡ c.behind-problem.inside.base) [
      | inl before ↦ c.loop-p.invariant p pairing before among pairing_is
      | inr on ↦ absurd (both_ways _ (c.in_default.ensures.least p on) among)
    ] in
    base ∙ ap (λ (x : Person). x.base) (c.behind-problem.view_is ∙ sym same)
