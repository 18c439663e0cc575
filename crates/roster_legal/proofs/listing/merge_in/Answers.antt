use Rattle.std.proofs.Common.{◌≡◌, ◌<◌, ℕ, Bool, false, List, length, sym, ap, subst, ◌∙◌, arith}
use Rattle.std.specs.Prelude.{filter}
use Rattle.std.proofs.lemmas.List.Elements.{All-filter}
use Rattle.std.proofs.lemmas.List.Kept.{AllPairs-filter}
use Rattle.roster_model.specs.Problem.{precedes}
use Rattle.roster_model.specs.Rules.{is_listed, duty_list}
use Rattle.roster_model.specs.records.Duty.{Duty}
use Rattle.roster_problem.specs.Duties.{AreTimed, IsInOrder}
use Rattle.roster_model.proofs.SetLemmas.{length_within}
use Rattle.roster_legal.proofs.Gathered.{rising_from_sort, members-sorted, positions_within}
use Rattle.roster_legal.proofs.listing.merge_in.Goals as goal

abbrev listed_with : ℕ → List ℕ → Duty → Bool
listed_with k set duty = is_listed k set duty.holder

pub new-requires-clause-within : goal.new-requires-clause-within
new-requires-clause-within c =
    let members = members-sorted (listed_with c.args.k c.args.set.now) c.in_ok-positions.positions.items c.sort_unstable.new.self.items c.args.problem.now.duties c.duties-duties.result.now c.sort_unstable.ensures.permutation c.in_ok-positions.ensures.members c.duties-duties.ensures.value in
    positions_within
    (listed_with c.args.k c.args.set.now) c.sort_unstable.new.self.items c.duties-duties.result.now members

pub new-requires-clause-bound : goal.new-requires-clause-bound
new-requires-clause-bound c =
    let sorted = c.sort_unstable.new.self.items in
    let members = members-sorted (listed_with c.args.k c.args.set.now) c.in_ok-positions.positions.items sorted c.args.problem.now.duties c.duties-duties.result.now c.sort_unstable.ensures.permutation c.in_ok-positions.ensures.members c.duties-duties.ensures.value in
    let rises = rising_from_sort c.in_ok-positions.positions.items sorted c.in_ok-positions.ensures.distinct c.sort_unstable.ensures.permutation c.sort_unstable.ensures.sorted in
    let few =
    length_within sorted (length c.duties-duties.result.now) rises
    (positions_within (listed_with c.args.k c.args.set.now) sorted c.duties-duties.result.now members) in
    let all = c.duties-duties.ensures.sound.duties in
    let same = ap length c.duties-duties.ensures.value in
    omega arith

listed : (c : goal.After-new) → c.new.result ≡ duty_list c.args.problem.now c.args.k c.args.set.now
listed c =
    let sorted = c.sort_unstable.new.self.items in
    let members = members-sorted (listed_with c.args.k c.args.set.now) c.in_ok-positions.positions.items sorted c.args.problem.now.duties c.duties-duties.result.now c.sort_unstable.ensures.permutation c.in_ok-positions.ensures.members c.duties-duties.ensures.value in
    let rises = rising_from_sort c.in_ok-positions.positions.items sorted c.in_ok-positions.ensures.distinct c.sort_unstable.ensures.permutation c.sort_unstable.ensures.sorted in
    c.new.ensures.filtered (listed_with c.args.k c.args.set.now) rises members
    ∙ ap (λ (ds : List Duty). filter (listed_with c.args.k c.args.set.now) ds) c.duties-duties.ensures.value

pub returns-clause-value : goal.returns-clause-value
returns-clause-value c = listed c

pub returns-clause-ordered : goal.returns-clause-ordered
returns-clause-ordered c =
    subst IsInOrder (sym (listed c)) (AllPairs-filter (λ a b. precedes b a ≡ false) (listed_with c.args.k c.args.set.now) c.args.problem.now.duties c.duties-duties.ensures.ordered)

pub returns-clause-timed : goal.returns-clause-timed
returns-clause-timed c =
    subst AreTimed (sym (listed c)) (All-filter (listed_with c.args.k c.args.set.now) (λ duty. duty.report < duty.release) c.args.problem.now.duties c.duties-duties.ensures.timed)
