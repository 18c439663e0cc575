use Rattle.std.proofs.Common.{◌≡◌, ℕ, ◌+◌, ◌<◌, [], ◌∷◌, ◌++◌, sym, ap, subst, ◌∙◌, arith}
use Rattle.std.specs.Prelude.{All}
use Rattle.std.proofs.lemmas.Bool.{both_ways, false≢true}
use Rattle.std.proofs.lemmas.List.Elements.{All-cons, All-nil}
use Rattle.roster_model.specs.declared.limits.TheConstants.{MOST_PAIRINGS}
use Rattle.roster_model.specs.Rules.{is_among}
use Rattle.roster_model.proofs.SetLemmas.{All-is_among}
use Rattle.roster_values.specs.Set.{with_place}
use Rattle.roster_lines.specs.Listing.{AreTogether, IsRow}
use Rattle.roster_lines.proofs.Judged.{HasBelow, HasBelow-with, HasBelow-without, IsRow-none, IsRow-whole, illegal_as, legal_as, none_skipped}
use Rattle.roster_lines.proofs.pairs.row_of.Goals.{then-branch+in_ok-row, else-branch}
use Rattle.roster_lines.proofs.pairs.row_of.Goals as goal

pub returns-then-not-has-clause-row : goal.returns-then-not-has-clause-row
returns-then-not-has-clause-row c =
    subst (IsRow c.args.problem.now c.args.k c.args.p) (sym c.empty-row.ensures)
    (IsRow-none c.args.problem.now c.args.k c.requires.parts c.args.alone.now c.requires.alone c.args.p (sym c.has.ensures.value ∙ c.if-not-has.true))

pub with-requires : goal.with-requires
with-requires c =
    All-is_among (λ q. q < MOST_PAIRINGS) c.args.alone.now c.args.p c.has.ensures.places
    (sym c.has.ensures.value ∙ c.if-not-has.false)

pub overflow_add-from : goal.overflow_add-from
overflow_add-from c =
    let few : c.args.p < MOST_PAIRINGS =
    All-is_among (λ q. q < MOST_PAIRINGS) c.args.alone.now c.args.p c.has.ensures.places
    (sym c.has.ensures.value ∙ c.if-not-has.false) in
    omega arith

pub loop-q-init : goal.loop-q-init
loop-q-init c = record {
  judge = c.requires.judge;
  onward = omega arith;
  row =
      subst (HasBelow (AreTogether c.args.problem.now c.args.k c.args.p) (c.args.p + 1))
      (sym c.empty-row.ensures) (λ q. (λ h. absurd (false≢true h), λ h. absurd (omega (arith, h.0, h.1.0))));
}

pub loop-q-preserved : goal.loop-q-preserved
loop-q-preserved c =
    let Together : ℕ → Type 0 = AreTogether c.args.problem.now c.args.k c.args.p in
    let p : ℕ = c.args.p in
    let q : ℕ = c.in-Some.q in
    let from : ℕ = c.loop-q.from in
    let place = c.in-Some.ensures.place in
    let onward = c.loop-q.invariant.onward in
    let later : p < q = omega (arith, place.0) in
    let single : c.in_ok-single.single ≡ p ∷ [] =
    c.in_ok-single.ensures.value ∙ ap (with_place p) c.empty.ensures in
    let pair : c.in_ok-pair.pair ≡ p ∷ q ∷ [] = c.in_ok-pair.ensures.last (subst (All (λ r. r < q)) (sym single) (All-cons (λ r. r < q) p [] later (All-nil (λ r. r < q)))) ∙ ap (λ s. s ++ q ∷ []) single in
    let skipped = none_skipped c.args.problem.now c.args.k c.requires.parts c.args.alone.now c.requires.alone p from q c.in-Some.ensures.least in
    let inside = ((c.requires.alone q).0 place.2).0 in
    let judge = c.loop-q.invariant.judge in
    let said = c.in_ok-is_legal.ensures.value in
    record {
      judge = c.in_ok-is_legal.ensures.same ∙ judge;
      onward = omega arith;
      row = elim c.if-branch.branch [
        | then-branch+in_ok-row w ↦
            HasBelow-with Together c.loop-q.row c.if-branch.row from q c.loop-q.invariant.row place.0 skipped
            (later, inside, legal_as _ c.args.problem.now c.args.k _ (p ∷ q ∷ []) judge pair (said.0 w.if-branch.true))
            (λ r. ap (λ s. is_among s r) w.row-is ∙ w.in_ok-row.ensures.members r)
        | else-branch w ↦
            subst (HasBelow Together (q + 1)) (sym w.row-is)
            (HasBelow-without Together c.loop-q.row from q c.loop-q.invariant.row place.0 skipped (λ is.
            illegal_as _ c.args.problem.now c.args.k _ (p ∷ q ∷ []) judge pair
            (λ legal. both_ways _ w.if-branch.false (said.1 legal)) is.2))
      ];
    }

pub returns-clause-row : goal.returns-clause-row
returns-clause-row c = IsRow-whole c.args.problem.now c.args.k c.requires.parts c.args.alone.now c.requires.alone c.args.p c.loop-q.from c.loop-q.row c.loop-q.invariant.row c.in_default.ensures.least
