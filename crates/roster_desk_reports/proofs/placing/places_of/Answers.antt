use Rattle.std.proofs.Common.{◌≡◌, ◌∙◌, length, Some, subst, inl, inr, arith, sym}
use Rattle.std.specs.Prelude.{map, slice_get, All}
use Rattle.std.proofs.lemmas.List.{take-append-le, take_all, length-map}
use Rattle.std.proofs.lemmas.Option.{slice_get_within}
use Rattle.roster_desk_reports.specs.Given.{HasGiven, IsGiven}
use Rattle.roster_desk_reports.specs.Text.{given_by_line}
use Rattle.roster_desk_reports.proofs.Growth.{nobody_has}
use Rattle.roster_desk_reports.proofs.placing.places_of.Goals as goal

-- at first nobody has a pairing, so who has one then has it by a line
pub returns-clause-given : goal.returns-clause-given
returns-clause-given c p k few at =
    let grows = c.in_default.ensures.grows in
    let long : length c.put_lines.new.places ≡ c.in_ok-places.places.len =
    grows.covers ∙ c.deref_mut.ensures.len in
    let same : c.new.result ≡ c.put_lines.new.places =
    c.new.ensures ∙ take-append-le c.in_ok-places.places.len c.put_lines.new.places _ (omega (arith, long))
    ∙ take_all c.in_ok-places.places.len c.put_lines.new.places (omega (arith, long)) in
    let there : slice_get c.put_lines.new.places p ≡ Some k =
    subst (λ places. slice_get places p ≡ Some k) same at in
    elim (grows.only p k few there) [
      | inl before ↦ absurd (nobody_has (length c.args.problem.now.persons) c.deref_mut.result.now p k (subst (All (λ x. x ≡ length c.args.problem.now.persons)) (sym c.deref_mut.ensures.value) c.in_ok-places.ensures.nobody) few before)
      | inr gives ↦ subst (λ lines. IsGiven c.args.problem.now (map given_by_line lines) p k) c.as_slice.ensures.value (gives.0, gives.1, gives.3, gives.4)
    ]

pub returns-clause-has : goal.returns-clause-has
returns-clause-has c i given at =
    let grows = c.in_default.ensures.grows in
    let long : length c.put_lines.new.places ≡ c.in_ok-places.places.len =
    grows.covers ∙ c.deref_mut.ensures.len in
    let same : c.new.result ≡ c.put_lines.new.places =
    c.new.ensures ∙ take-append-le c.in_ok-places.places.len c.put_lines.new.places _ (omega (arith, long))
    ∙ take_all c.in_ok-places.places.len c.put_lines.new.places (omega (arith, long)) in
    let there : slice_get (map given_by_line c.as_slice.result.now) i ≡ Some given =
    subst (λ lines. slice_get (map given_by_line lines) i ≡ Some given)
    (sym c.as_slice.ensures.value) at in
    let inside = slice_get_within (map given_by_line c.as_slice.result.now) i given there in
    let long_lines = length-map c.as_slice.result.now given_by_line in
    subst (λ places. HasGiven c.args.problem.now places given) (sym same)
    (c.in_default.ensures.has i given (omega (arith, inside, long_lines)) there)
