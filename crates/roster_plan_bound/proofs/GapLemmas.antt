-- Chains that begin with a set, and what one person's reduced cost is in a roster.
use Rattle.std.proofs.Common.{◌≡◌, ℕ, ◌+◌, ◌-◌, ◌<◌, List, [], ◌∷◌, ◌++◌, length, get_or, Some, refl, sym, ap, ◌∙◌, subst, inl, inr, arith, ℤ, pos, ◌+ℤ◌, ◌-ℤ◌, ◌*ℤ◌, ◌≤ℤ◌}
use Rattle.std.specs.Prelude.{false, slice_get}
use Rattle.std.proofs.lemmas.Bool.{cases_Bool, cases_eq}
use Rattle.std.proofs.lemmas.Int.{ints}
use Rattle.std.proofs.lemmas.List.{get_or_append_left, get_or_push, length_push}
use Rattle.std.proofs.lemmas.List.Elements.{All-nil, All-push}
use Rattle.std.proofs.lemmas.Option.{get_or_from_slice_get, slice_get-get_or, slice_get_within}
use Rattle.roster_model.specs.Costs.{cost_of}
use Rattle.roster_model.specs.Places.{set_of}
use Rattle.roster_model.specs.Problem.{Problem}
use Rattle.roster_model.specs.Rosters.{IsLegalRoster}
use Rattle.roster_model.proofs.CostLemmas.{total-nil}
use Rattle.roster_model.proofs.LineLemmas.{given_line}
use Rattle.roster_cost.specs.Amounts.{cost_without_pairings, IsWithin}
use Rattle.roster_lines_table.specs.Entries.{Entry, sets_of}
use Rattle.roster_lines_table.specs.Person.{lines_at, IsOfTable}
use Rattle.roster_bases.specs.Bases.{base_of_person, only}
use Rattle.roster_bases.specs.Homes.{EachHomeRoster, IsHome}
use Rattle.roster_plan_bound.specs.declared.network.Network.{Network}
use Rattle.roster_plan_bound.specs.Chains.{followers_of, next_state, value_at, IsChain}
use Rattle.roster_plan_bound.specs.Gaps.{AreCheapOf, IsAlong, IsLeastBehind}
use Rattle.roster_plan_bound.specs.Looks.{AreLeasts, IsLook}
use Rattle.roster_plan_bound.specs.Networks.{AreRows}
use Rattle.roster_plan_bound.specs.Reduced.{price_at, reduced, reduced_costs, shares_behind, IsLeastOf}
use Rattle.roster_plan_bound.specs.declared.parts.TheConstants.{MOST_LEAST, PARTS}
use Rattle.roster_plan_bound.proofs.ChainLemmas.{chain-cons, next_inside}
use Rattle.roster_plan_bound.proofs.ShareLemmas.{bound_below, parts_of_cost, reduced_more, reduced_none, IsPriced, IsShared}

-- the end of a chain is one behind the pairing before it
chain_behind : (followers : List (List ℕ)) (first set : List ℕ) (p : ℕ) (rest : List ℕ)
    → IsChain followers first (set ++ p ∷ rest) → IsChain followers (followers_of followers p) rest
unfolding IsChain
chain_behind followers first [] p rest chain = chain.1
chain_behind followers first (q ∷ set) p rest chain =
    chain_behind followers (followers_of followers q) set p rest chain.1

-- what the set brought, the pairing, and the least that may follow it
pub least_behind_is : (problem : Problem) (network : Network) (values : List ℤ) (rows : List (List ℤ))
    (set : List ℕ) (p : ℕ) (value : ℤ) (state : ℕ) (behind : List ℤ)
    → AreRows problem network values rows → 0 < length network.terms.items → p < length problem.pairings
    → slice_get rows (length problem.pairings - 1 - p) ≡ Some behind → IsAlong network values set value state
    → IsLeastBehind network values set p (value +ℤ (value_at values p +ℤ value_at behind (next_state (length network.terms.items) state (get_or network.steps.items p 0))))
least_behind_is problem network values rows set p value state behind are some inside at along rest chain =
    let next : ℕ = next_state (length network.terms.items) state (get_or network.steps.items p 0) in
    let follows = chain_behind network.followers.items network.first set p rest chain in
    let below =
    (are.each p behind inside at).below next
    (next_inside (length network.terms.items) state (get_or network.steps.items p 0) some) rest follows in
    let whole = along.brought (p ∷ rest) in
    let step = chain-cons network values state p rest in
    omega (arith, ints, below, whole, step)

-- ---- what persons' reduced costs are at least

-- of nobody
pub leasts_none : (problem : Problem) (prices : List ℤ) (base : ℕ)
    → AreLeasts problem prices base 0 (pos 0) []
leasts_none problem prices base = record {
  covers = refl;
  small = All-nil (IsWithin MOST_LEAST);
  within = (omega (arith, ints), omega (arith, ints));
  below = λ places roster home. omega (arith, ints, reduced_none problem prices places);
  near = λ places roster home k inside. absurd (omega (arith, inside));
}

-- nothing that is small, and that the reduced cost of person k isn't below in a roster of the base
pub record IsLeastIn (problem : Problem) (prices : List ℤ) (base k : ℕ) (least : ℤ) : Type 0 where
  pub below : EachHomeRoster problem (only base) (λ places. least ≤ℤ reduced problem prices k (set_of k places))
  pub within : IsWithin MOST_LEAST least

-- what is so of all lines is so of those of rosters
pub least_home : (problem : Problem) (prices : List ℤ) (base k : ℕ) (least : ℤ)
    → IsLeastOf problem prices k least → k < length problem.persons → IsLeastIn problem prices base k least
least_home problem prices base k least is person = record {
  below = λ places roster home. is.below (set_of k places) (given_line problem k places roster person);
  within = is.within;
}

-- who is of another base flies nothing
pub least_away : (problem : Problem) (prices : List ℤ) (base k : ℕ) → k < length problem.persons
    → only base (base_of_person problem k) ≡ false → IsLeastIn problem prices base k (pos 0)
least_away problem prices base k person other = record {
  below = λ places roster home. subst (λ set. pos 0 ≤ℤ reduced problem prices k set) (sym (home k person other)) (omega (arith, ints, total-nil (price_at prices)));
  within = (omega (arith, ints), omega (arith, ints));
}

-- of one person more
pub leasts_more : (problem : Problem) (prices : List ℤ) (base k : ℕ) (sum least : ℤ) (each : List ℤ)
    → AreLeasts problem prices base k sum each → IsLeastIn problem prices base k least
    → AreLeasts problem prices base (k + 1) (sum +ℤ least) (each ++ least ∷ [])
leasts_more problem prices base k sum least each are is = record {
  covers = length_push each least ∙ ap (λ n. n + 1) are.covers;
  small = All-push (IsWithin MOST_LEAST) each least are.small is.within;
  within = (let low = are.within.0 in let here = is.within.0 in omega (arith, ints, low, here), let high = are.within.1 in let here = is.within.1 in omega (arith, ints, high, here));
  below = λ places roster home. omega (arith, ints, are.below places roster home, is.below places roster home, reduced_more problem prices k places);
  near = λ places roster home j inside. elim (cases_eq j k) [
    | inl same ↦
        let last : value_at (each ++ least ∷ []) k ≡ least = get_or_push each least (pos 0) k are.covers in
        subst (λ i. (reduced problem prices i (set_of i places) -ℤ value_at (each ++ least ∷ []) i) ≤ℤ (reduced_costs problem prices (k + 1) places -ℤ (sum +ℤ least))) (sym same)
        (omega (arith, ints, last, are.below places roster home, reduced_more problem prices k places))
    | inr other ↦
        let before : j < k = omega (arith, inside, other) in
        let kept : value_at (each ++ least ∷ []) j ≡ value_at each j =
        get_or_append_left each (least ∷ []) (pos 0) j (omega (arith, before, are.covers)) in
        omega (arith, ints, kept, are.near places roster home j before, is.below places roster home, reduced_more problem prices k places)
  ];
}

-- ---- what prices say

-- so no roster of the base costs less than all that comes to, and none of its persons' reduced costs is far
-- above the least
pub look_is : (problem : Problem) (prices : List ℤ) (base : ℕ) (sum terms units : ℤ) (each : List ℤ)
    → ((places : List ℕ) → IsLegalRoster problem places → IsShared problem places)
    → ((places : List ℕ) → IsLegalRoster problem places → IsPriced problem prices places)
    → AreLeasts problem prices base (length problem.persons) sum each
    → EachHomeRoster problem (only base) (λ places. terms ≤ℤ shares_behind problem prices 0 places)
    → ((more : ℤ) → (sum +ℤ terms) ≤ℤ (pos PARTS *ℤ more) → units ≤ℤ more)
    → (pos PARTS *ℤ units) ≤ℤ ((sum +ℤ terms) +ℤ pos PARTS)
    → IsLook problem prices base (cost_without_pairings problem +ℤ units) each
look_is problem prices base sum terms units each shared priced are pairings least near = record {
  bounded = bound_below problem prices base sum terms units shared priced are.below pairings least;
  covers = are.covers;
  small = are.small;
  near = λ places roster home k person.
      let whole = parts_of_cost problem prices places (shared places roster) (priced places roster) in
      let own = are.near places roster home k person in
      omega (arith, ints, whole, own, pairings places roster home, near);
}

-- in a roster of the base that costs no more than so many units above the bound no person's reduced cost is
-- above the limit
pub cheap_enough : (problem : Problem) (prices leasts : List ℤ) (base : ℕ) (bound least limit : ℤ) (gap k : ℕ) (places : List ℕ) → IsLook problem prices base bound leasts → IsLegalRoster problem places → IsHome problem (only base) places → k < length problem.persons
    → cost_of problem places ≤ℤ (bound +ℤ pos gap) → least ≡ value_at leasts k
    → limit ≡ least +ℤ (pos PARTS *ℤ (pos gap +ℤ pos 1))
    → reduced problem prices k (set_of k places) ≤ℤ limit
cheap_enough problem prices leasts base bound least limit gap k places look roster home person cost own is =
    let near = look.near places roster home k person in
    omega (arith, ints, near, cost, own, is)

-- ---- tables

-- for each of the first persons the table has the lines of cheap rosters of the base
abbrev pub HasCheap : Problem → ℕ → ℤ → ℕ → List (List Entry) → ℕ → Type 0
HasCheap problem base bound gap table count =
    EachHomeRoster problem (only base) (λ places. cost_of problem places ≤ℤ (bound +ℤ pos gap)
    → (k : ℕ) → k < count → (i : ℕ) × (slice_get (sets_of (lines_at table k)) i ≡ Some (set_of k places)))

pub cheap_more : (problem : Problem) (base : ℕ) (bound : ℤ) (gap k : ℕ) (table : List (List Entry)) (lines : List Entry) → length table ≡ k → HasCheap problem base bound gap table k
    → EachHomeRoster problem (only base) (λ places. cost_of problem places ≤ℤ (bound +ℤ pos gap)
    → (i : ℕ) × (slice_get (sets_of lines) i ≡ Some (set_of k places)))
    → HasCheap problem base bound gap (table ++ lines ∷ []) (k + 1)
cheap_more problem base bound gap k table lines long before here places roster home cost j inside =
    elim (cases_eq j k) [
      | inl same ↦
          let last : lines_at (table ++ lines ∷ []) j ≡ lines =
          get_or_push table lines [] j (long ∙ sym same) in
          let found = here places roster home cost in
          (found.0, ap (λ ls. slice_get (sets_of ls) found.0) last ∙ found.1 ∙ ap (λ i. Some (set_of i places)) (sym same))
      | inr other ↦
          let kept : lines_at (table ++ lines ∷ []) j ≡ lines_at table j =
          get_or_append_left table (lines ∷ []) [] j (omega (arith, inside, other, long)) in
          let found = before places roster home cost j (omega (arith, inside, other)) in
          (found.0, ap (λ ls. slice_get (sets_of ls) found.0) kept ∙ found.1)
    ]

-- what the lines of person k have that a cheap roster of the base gives
pub cheap_given : (problem : Problem) (prices : List ℤ) (base k : ℕ) (limit : ℤ) (lines : List Entry) (places : List ℕ) → AreCheapOf problem prices base k limit lines → k < length problem.persons
    → IsLegalRoster problem places → IsHome problem (only base) places
    → reduced problem prices k (set_of k places) ≤ℤ limit
    → (i : ℕ) × (slice_get (sets_of lines) i ≡ Some (set_of k places))
cheap_given problem prices base k limit lines places are inside roster home low =
    elim (cases_Bool (only base (base_of_person problem k))) [
      | inl own ↦ are.every own (set_of k places) (given_line problem k places roster inside) low
      | inr other ↦ (0, are.listed.first ∙ ap Some (sym (home k inside other)))
    ]

-- of each of the first persons who is of another base the table has the empty line alone
abbrev pub HasNone : Problem → ℕ → List (List Entry) → Type 0
HasNone problem base table = (k : ℕ) (lines : List Entry) → slice_get table k ≡ Some lines
    → only base (base_of_person problem k) ≡ false → sets_of lines ≡ [] ∷ []

-- so in its rosters nobody of another base flies
pub none_flies : (problem : Problem) (base : ℕ) (table : List (List Entry)) (places : List ℕ)
    → length table ≡ length problem.persons → HasNone problem base table → IsOfTable table places
    → IsHome problem (only base) places
none_flies problem base table places covers none is k person other =
    let inside : k < length table = omega (arith, covers, person) in
    let found = is k inside in
    let empty : sets_of (lines_at table k) ≡ [] ∷ [] =
    none k (lines_at table k) (slice_get-get_or table k [] inside) other in
    let there : slice_get ([] ∷ []) found.0 ≡ Some (set_of k places) =
    ap (λ sets. slice_get sets found.0) (sym empty) ∙ found.1 in
    alone found.0 (set_of k places) there
  where
    alone : (i : ℕ) (set : List ℕ) → slice_get ([] ∷ []) i ≡ Some set → set ≡ []
    alone i set found =
        let first : i ≡ 0 = omega (arith, slice_get_within ([] ∷ []) i set found) in
        sym (get_or_from_slice_get ([] ∷ []) i set [] found) ∙ ap (λ j. get_or ([] ∷ []) j []) first
