use Rattle.std.proofs.Common.{◌≡◌, ℕ, ◌+◌, ◌-◌, ◌*◌, ◌<◌, true, List, [], length, get_or, Some, refl, subst, sym, ap, ◌∙◌, arith}
use Rattle.std.specs.Prelude.{All, slice_get}
use Rattle.std.proofs.lemmas.List.{length_push}
use Rattle.std.proofs.lemmas.Option.{get_or_from_slice_get, slice_get-get_or}
use Rattle.roster_model.specs.Problem.{Problem}
use Rattle.roster_model.specs.Rules.{is_among}
use Rattle.roster_cost.specs.Amounts.{IsWithin}
use Rattle.roster_plan_bound.specs.declared.network.Network.{Network}
use Rattle.roster_plan_bound.specs.declared.parts.TheConstants.{MOST_AMOUNT, MOST_TARGET_TERM, MOST_CHAIN_VALUE}
use Rattle.roster_plan_bound.specs.Chains.{followers_of, IsRow, IsTail}
use Rattle.roster_plan_bound.proofs.RowLemmas.{follower_alone, rows_more, tails_more, All-within-more}
use Rattle.roster_plan_bound.proofs.rows.add_row.Goals as goal

-- what is found at a place of a list
found_at : {X : Type 0} (xs : List X) (i j : ℕ) (found : X) → found ≡ get_or xs i found → i ≡ j
    → j < length xs → slice_get xs j ≡ Some found
found_at xs i j found is same inside =
    slice_get-get_or xs j found inside ∙ ap Some (sym (is ∙ ap (λ n. get_or xs n found) same))

-- the followers that are found so far behind, of so many pairings, are those of the pairing there
followers_found : (problem : Problem) (network : Network) (count back : ℕ) (found : List ℕ)
    → count ≡ length problem.pairings
    → length network.followers.items ≡ length problem.pairings → back < length problem.pairings
    → found ≡ get_or network.followers.items (count - 1 - back) found
    → found ≡ followers_of network.followers.items (length problem.pairings - 1 - back)
followers_found problem network count back found is covers below at =
    let p : ℕ = length problem.pairings - 1 - back in
    sym (get_or_from_slice_get network.followers.items p found []
    (found_at network.followers.items (count - 1 - back) p found at (omega (arith, is)) (omega (arith, covers, below))))

-- what follows the pairing lies behind it, and may begin a chain
behind : (c : goal.After-followers-3-1) (q : ℕ) → is_among c.index.result.now q ≡ true
    → (length c.args.chains.now.problem.now.pairings - 1 - c.args.back < q) × (q < length c.args.chains.now.problem.now.pairings) × (is_among c.args.chains.now.network.now.first q ≡ true)
behind c q among =
    let problem = c.args.chains.now.problem.now in
    let network = c.args.chains.now.network.now in
    let count = ap length c.pairings-count.ensures.value in
    let p : ℕ = length problem.pairings - 1 - c.args.back in
    let below : c.args.back < length problem.pairings = omega (arith, count, c.requires.some) in
    let followers = followers_found problem network (length c.pairings-count.result.now) c.args.back c.index.result.now count c.requires.network.covers below c.index.ensures in
    follower_alone problem c.args.chains.now.person network
    (λ whole part parts legal. c.part_of_legal_is_legal.ensures problem c.args.chains.now.person whole part c.is_sound.ensures.ordered c.is_sound.ensures.timed parts legal)
    c.requires.network p q (omega (arith, below)) (subst (λ row. is_among row q ≡ true) followers among)

pub row_behind-requires-clause-alone : goal.row_behind-requires-clause-alone
row_behind-requires-clause-alone c q among = (behind c q among).2

pub row_behind-requires-clause-done : goal.row_behind-requires-clause-done
row_behind-requires-clause-done c q among near =
    let after = behind c q among in
    let count = ap length c.pairings-count.ensures.value in
    let below : c.args.back < length c.args.chains.now.problem.now.pairings =
    omega (arith, count, c.requires.some) in
    let long = ap length c.deref.ensures.value ∙ c.requires.so_far.long in
    omega (arith, after.0, after.1, long, below)

pub row_behind-requires-clause-tail : goal.row_behind-requires-clause-tail
row_behind-requires-clause-tail c =
    let problem = c.args.chains.now.problem.now in
    let network = c.args.chains.now.network.now in
    let inv = c.requires.so_far in
    let count = ap length c.pairings-count.ensures.value in
    let from : ℕ = c.all_from-from.result in
    let at =
    found_at c.args.tails.now.items (length c.pairings-count.result.now - from)
    (length problem.pairings - from) c.index-tail.result.now c.index-tail.ensures (omega (arith, count))
    (omega (arith, count, inv.longer, c.requires.some, c.all_from-from.ensures.place)) in
    subst (λ n. IsTail network c.args.chains.now.values.now n c.index-tail.result.now)
    (omega (arith, count, c.all_from-from.ensures.place))
    (inv.are_tails.each (length problem.pairings - from) c.index-tail.result.now (omega arith) at)

pub row_behind-requires-clause-near : goal.row_behind-requires-clause-near
row_behind-requires-clause-near c =
    let inv = c.requires.so_far in
    let count = ap length c.pairings-count.ensures.value in
    let from : ℕ = c.all_from-from.result in
    let long = ap length c.deref.ensures.value ∙ inv.long in
    let tail : All (IsWithin (MOST_TARGET_TERM + length c.args.tails.now.items * MOST_CHAIN_VALUE)) c.index-tail.result.now =
    subst (All (IsWithin (MOST_TARGET_TERM + length c.args.tails.now.items * MOST_CHAIN_VALUE)))
    (sym c.index-tail.ensures)
    (inv.are_tails.within (length c.pairings-count.result.now - from) c.index-tail.result.now
    (omega (arith, count, inv.longer, c.requires.some, c.all_from-from.ensures.place))) in
    All-within-more (MOST_TARGET_TERM + length c.args.tails.now.items * MOST_CHAIN_VALUE) _ c.index-tail.result.now
    (omega (arith, long, inv.longer)) tail

pub longer_tail-requires-clause-row : goal.longer_tail-requires-clause-row
longer_tail-requires-clause-row c =
    let problem = c.args.chains.now.problem.now in
    let network = c.args.chains.now.network.now in
    let count = ap length c.pairings-count.ensures.value in
    let followers = followers_found problem network (length c.pairings-count.result.now) c.args.back c.index.result.now count c.requires.network.covers c.requires.some c.index.ensures in
    subst (λ n. IsRow network c.args.chains.now.values.now (followers_of network.followers.items (n - 1 - c.args.back)) c.in_ok-row.row)
    (sym count)
    (subst (λ first. IsRow network c.args.chains.now.values.now first c.in_ok-row.row) followers c.in_ok-row.ensures.row)

pub longer_tail-requires-clause-few : goal.longer_tail-requires-clause-few
longer_tail-requires-clause-few c =
    let long = ap length c.deref.ensures.value ∙ c.requires.so_far.long in
    let few = c.is_sound.ensures.sound.pairings in
    All-within-more (MOST_TARGET_TERM + (length c.deref.result.now + 1) * MOST_CHAIN_VALUE) MOST_AMOUNT c.in_ok-row.row
    (omega (arith, long, few, c.requires.some)) c.in_ok-row.ensures.within

pub longer_tail-requires-clause-tail : goal.longer_tail-requires-clause-tail
longer_tail-requires-clause-tail c =
    let problem = c.args.chains.now.problem.now in
    let network = c.args.chains.now.network.now in
    let inv = c.requires.so_far in
    let count = ap length c.pairings-count.ensures.value in
    let at = found_at c.args.tails.now.items c.args.back c.args.back c.index-2.result.now c.index-2.ensures refl (omega (arith, inv.longer)) in
    subst (λ n. IsTail network c.args.chains.now.values.now n c.index-2.result.now)
    (omega (arith, count, c.requires.some))
    (inv.are_tails.each c.args.back c.index-2.result.now (omega (arith, count, c.requires.some)) at)

pub returns : goal.returns
returns c =
    let problem = c.args.chains.now.problem.now in
    let network = c.args.chains.now.network.now in
    let values = c.args.chains.now.values.now in
    let inv = c.requires.so_far in
    let count = ap length c.pairings-count.ensures.value in
    let p : ℕ = length problem.pairings - 1 - c.args.back in
    let below : c.args.back < length problem.pairings = omega (arith, count, c.requires.some) in
    let followers = followers_found problem network (length c.pairings-count.result.now) c.args.back c.index.result.now count c.requires.network.covers below c.index.ensures in
    let row = subst (λ first. IsRow network values first c.in_ok-row.row) followers c.in_ok-row.ensures.row in
    let most : ℕ = MOST_TARGET_TERM + (length c.args.rows.now.items + 1) * MOST_CHAIN_VALUE in
    let within : All (IsWithin most) c.in_ok-row.row = subst (λ rs. All (IsWithin (MOST_TARGET_TERM + (length rs + 1) * MOST_CHAIN_VALUE)) c.in_ok-row.row) c.deref.ensures.value c.in_ok-row.ensures.within in
    let tail : All (IsWithin (MOST_TARGET_TERM + length c.args.tails.now.items * MOST_CHAIN_VALUE)) c.index-2.result.now =
    subst (All (IsWithin (MOST_TARGET_TERM + length c.args.tails.now.items * MOST_CHAIN_VALUE)))
    (sym c.index-2.ensures)
    (inv.are_tails.within c.args.back c.index-2.result.now (omega (arith, inv.longer))) in
    record {
      are_rows = rows_more problem network values c.args.rows.now.items c.push.new.self.items c.in_ok-row.row p inv.are_rows c.in_ok-push.ensures.items (omega (arith, below)) (omega (arith, inv.long, below)) row within;
      long =
          ap length c.in_ok-push.ensures.items ∙ length_push c.args.rows.now.items c.in_ok-row.row
          ∙ ap (λ n. n + 1) inv.long;
      are_tails = tails_more problem network values c.args.tails.now.items c.push-2.new.self.items c.in_ok-longer.longer inv.are_tails c.in_ok-push-2.ensures.items
          (λ few. subst (λ n. IsTail network values n c.in_ok-longer.longer) (omega (arith, count, inv.longer, below)) c.in_ok-longer.ensures.tail)
          (All-within-more (most + MOST_CHAIN_VALUE) (MOST_TARGET_TERM + (length c.args.tails.now.items + 1) * MOST_CHAIN_VALUE) c.in_ok-longer.longer (omega (arith, inv.long, inv.longer))
          (c.in_ok-longer.ensures.within most within (All-within-more (MOST_TARGET_TERM + length c.args.tails.now.items * MOST_CHAIN_VALUE) (most + MOST_CHAIN_VALUE) c.index-2.result.now (omega (arith, inv.long, inv.longer)) tail)));
      longer =
          ap length c.in_ok-push-2.ensures.items ∙ length_push c.args.tails.now.items c.in_ok-longer.longer
          ∙ ap (λ n. n + 1) inv.longer;
    }
