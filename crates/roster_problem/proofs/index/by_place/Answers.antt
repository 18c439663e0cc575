use Rattle.std.proofs.Common.{ℕ, Option, Some, None, false, length, sym, ap, subst, ◌∙◌, arith, refl}
use Rattle.std.specs.Prelude.{All}
use Rattle.std.specs.Fn.{FnReturnsAt}
use Rattle.std.proofs.iter.Next.{says_at}
use Rattle.std.proofs.lemmas.List.{length-set}
use Rattle.std.proofs.lemmas.List.{take_all}
use Rattle.std.proofs.lemmas.List.Elements.{All-nil, All-more}
use Rattle.roster_problem.specs.Duties.{IsIndex}
use Rattle.roster_problem.proofs.Indexes.{IsIndex-more, IsIndex-passed, IsIndex-none, inside_at}
use Rattle.roster_problem.proofs.index.by_place.Goals.{in-Some+in_ok-push, in_default}
use Rattle.roster_problem.proofs.index.by_place.Goals as goal

pub loop-i-init : goal.loop-i-init
loop-i-init g c = record {
  long = ap length c.in_ok-lists.ensures ∙ (IsIndex-none (λ p (entry : ℕ). false) c.args.places).long;
  index = λ belongs tells. subst (IsIndex belongs c.args.places _) (sym c.in_ok-lists.ensures) (IsIndex-none belongs c.args.places);
  given = All-nil _;
}

pub push-requires : goal.push-requires
push-requires g c =
    let told = says_at g.F.Fn c.in-Some.ensures refl in
    let known = inside_at (λ entry p. FnReturnsAt g.F.Fn c.args.place_of entry (Some p)) c.args.places c.args.entries.now c.loop-i.i c.in-Some.place c.index-entries-i.result c.requires.there (omega arith) c.index-entries-i.is told in
    let long = c.loop-i.invariant.long in
    omega arith

pub loop-i-preserved : goal.loop-i-preserved
loop-i-preserved g c =
    let told = says_at g.F.Fn c.place_of.ensures refl in
    let given = All-more (λ entry. (place : Option ℕ) × FnReturnsAt g.F.Fn c.args.place_of entry place) c.args.entries.now c.loop-i.i c.index-entries-i.result (omega arith) c.loop-i.invariant.given
    (subst (λ entry. (place : Option ℕ) × FnReturnsAt g.F.Fn c.args.place_of entry place) c.index-entries-i.is (c.place_of.result, told)) in
    elim c.match-place_of.branch [
      | in-Some+in_ok-push w ↦
          let at : FnReturnsAt g.F.Fn c.args.place_of c.index-entries-i.result (Some w.in-Some.place) =
          subst (FnReturnsAt g.F.Fn c.args.place_of c.index-entries-i.result) w.in-Some.is told in
          let known = inside_at (λ entry p. FnReturnsAt g.F.Fn c.args.place_of entry (Some p)) c.args.places c.args.entries.now c.loop-i.i w.in-Some.place c.index-entries-i.result c.requires.there (omega arith) c.index-entries-i.is at in
          record {
            long =
                ap length (w.lists-is ∙ w.in_ok-push.ensures) ∙ length-set c.loop-i.lists w.in-Some.place _
                ∙ c.loop-i.invariant.long;
            index = λ belongs tells. subst (IsIndex belongs c.args.places _) (sym (w.lists-is ∙ w.in_ok-push.ensures))
                (IsIndex-more belongs c.args.places w.in-Some.place c.loop-i.i c.args.entries.now c.index-entries-i.result c.loop-i.lists known (omega arith) c.index-entries-i.is (λ q. tells q c.index-entries-i.result _ at) (c.loop-i.invariant.index belongs tells));
            given = given;
          }
      | in_default w ↦
          let at : FnReturnsAt g.F.Fn c.args.place_of c.index-entries-i.result None =
          subst (FnReturnsAt g.F.Fn c.args.place_of c.index-entries-i.result) w.in_default.is told in
          record {
            long = ap length w.lists-is ∙ c.loop-i.invariant.long;
            index = λ belongs tells. subst (IsIndex belongs c.args.places _) (sym w.lists-is)
                (IsIndex-passed belongs c.args.places c.loop-i.i c.args.entries.now c.index-entries-i.result c.loop-i.lists (omega arith) c.index-entries-i.is (λ q. tells q c.index-entries-i.result _ at) (c.loop-i.invariant.index belongs tells));
            given = given;
          }
    ]

pub returns-clause-index : goal.returns-clause-index
returns-clause-index g c belongs tells =
    let all = take_all c.loop-i.i c.args.entries.now (omega arith) in
    subst (λ entries. IsIndex belongs c.args.places entries c.loop-i.lists) all
    (c.loop-i.invariant.index belongs tells)

pub returns-clause-given : goal.returns-clause-given
returns-clause-given g c =
    subst (All (λ entry. (place : Option ℕ) × FnReturnsAt g.F.Fn c.args.place_of entry place))
    (take_all c.loop-i.i c.args.entries.now (omega arith)) c.loop-i.invariant.given
