use Rattle.std.proofs.Common.{◌≡◌, ◌++◌, sym, ap, ◌∙◌, subst, eqb}
use Rattle.std.specs.List.{IsDistinct}
use Rattle.roster_model.specs.Rules.{is_among}
use Rattle.roster_model.proofs.SetLemmas.{is_among-append}
use Rattle.roster_legal.proofs.Gathered.{IsDistinct-append, distinct_rising, is_among-IsPermutation, rising_from_sort}
use Rattle.roster_legal.proofs.stepping.joined.Goals as goal

-- what is sorted
all : (c : goal.After-sort_unstable)
    → c.extend_from_slice-2.new.self.items ≡ c.args.old.now ++ c.args.more.now
all c =
    c.in_ok-extend_from_slice-2.ensures.items
    ∙ ap (λ xs. xs ++ c.args.more.now) (c.in_ok-extend_from_slice.ensures.items ∙ ap (λ xs. xs ++ c.args.old.now) c.requires.empty)

pub returns-clause-rising : goal.returns-clause-rising
returns-clause-rising c =
    let distinct =
    IsDistinct-append c.args.old.now c.args.more.now (distinct_rising c.args.old.now c.requires.old)
    (distinct_rising c.args.more.now c.requires.more) c.requires.apart in
    rising_from_sort c.extend_from_slice-2.new.self.items c.sort_unstable.new.self.items (subst (IsDistinct eqb) (sym (all c)) distinct) c.sort_unstable.ensures.permutation c.sort_unstable.ensures.sorted

pub returns-clause-members : goal.returns-clause-members
returns-clause-members c i =
    is_among-IsPermutation c.extend_from_slice-2.new.self.items c.sort_unstable.new.self.items i c.sort_unstable.ensures.permutation
    ∙ ap (λ xs. is_among xs i) (all c)
    ∙ is_among-append c.args.old.now c.args.more.now i
