use Rattle.std.proofs.Common.{◌<◌, length, eqb, sym, ap, subst, ◌∙◌, ◌++◌}
use Rattle.std.specs.List.{IsDistinct}
use Rattle.roster_model.specs.Rules.{is_among}
use Rattle.roster_model.proofs.SetLemmas.{All-is_among}
use Rattle.roster_legal.proofs.Gathered.{members-more, distinct-more, distinct_rising, gathered-fixed, gathered-all}
use Rattle.roster_legal.proofs.listing.positions_in.Goals as goal

pub loop-p-init : goal.loop-p-init
loop-p-init c =
    let fixed = c.fixed.result.now in
    let items = c.in_ok-extend_from_slice.ensures.items ∙ ap (λ xs. xs ++ fixed) c.requires.empty in
    record {
      distinct =
          subst (IsDistinct eqb) (sym items) (distinct_rising fixed c.fixed.ensures.positions.ascending);
      members = λ i. ap (λ xs. is_among xs i) items ∙ gathered-fixed c.args.k c.args.set.now fixed c.args.problem.now.duties c.fixed.ensures.positions.members i;
    }

pub duties_of-requires : goal.duties_of-requires
duties_of-requires c = All-is_among (λ p. p < length c.args.problem.now.pairings) c.args.set.now c.in-Some.p c.requires.places c.in-Some.ensures.place.2

pub loop-p-preserved : goal.loop-p-preserved
loop-p-preserved c =
    let k = c.args.k in
    let set = c.args.set.now in
    let p = c.in-Some.p in
    let old = c.loop-p.positions.items in
    let new = c.duties_of.result.now in
    let duties = c.args.problem.now.duties in
    let from = c.in-Some.ensures.place.0 in
    record {
      distinct = subst (IsDistinct eqb) (sym c.in_ok-extend_from_slice-2.ensures.items) (distinct-more k c.loop-p.from p set old new duties from c.duties_of.ensures.positions.ascending c.loop-p.invariant.distinct c.loop-p.invariant.members c.duties_of.ensures.positions.members);
      members = λ i. ap (λ xs. is_among xs i) c.in_ok-extend_from_slice-2.ensures.items ∙ members-more k c.loop-p.from p set old new duties from c.in-Some.ensures.place.2 c.in-Some.ensures.least c.loop-p.invariant.members c.duties_of.ensures.positions.members i;
    }

pub returns-clause-members : goal.returns-clause-members
returns-clause-members c i = c.loop-p.invariant.members i ∙ gathered-all c.args.k c.loop-p.from c.args.set.now c.args.problem.now.duties i c.in_default.ensures.least
