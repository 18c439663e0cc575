-- What is found in parts of a region.
use Rattle.std.proofs.Common.{◌≡◌, Bool, true, false, MatchBool, Result, Ok, Err, IfOk, ℕ, ◌+◌, List, Option, Some, None, ℤ, ◌≤ℤ◌, ◌<ℤ◌, refl, ap, sym, subst, ◌∙◌, ◌⊎◌, inl, inr, arith}
use borrow.Author.Differences.{up, down}
use Rattle.std.proofs.lemmas.Bool.{cases_lt}
use Rattle.std.proofs.lemmas.Bool.Decides.{eqb_tells}
use Rattle.std.proofs.lemmas.Int.{ints}
use Rattle.std.proofs.lemmas.Option.{none-some, same_Some, slice_get_cases}
use Rattle.roster_model.specs.Costs.{cost_of}
use Rattle.roster_model.specs.Problem.{Problem}
use Rattle.roster_model.specs.Rosters.{Key, key_of}
use Rattle.roster_model.specs.Settled.{CostsMore, IsFoundWithin, IsHeld, IsWithinCost, Settles}
use Rattle.roster_model.proofs.KeyLemmas.{key_le-refl}
use Rattle.roster_search_least.specs.Least.{IsCheapestBelow, IsCheapestWithin, IsLeastBelow}
use Rattle.roster_search_least.proofs.Keys.{by_cost, no_dearer}
use Rattle.roster_search_regions.specs.Regions.{Has, HasNot, IsIn, IsNarrowed, IsWhollyIn, Region}
use Rattle.roster_search_fixing.specs.Bounds.{CostsAtMost, IsAllAbove}

-- what a test says where its answer is known
pub says_yes : (b : Bool) (Yes No : Type 0) → MatchBool b Yes No → b ≡ true → Yes
says_yes true Yes No says is = says
says_yes false Yes No says is = absurd (cc)

pub says_no : (b : Bool) (Yes No : Type 0) → MatchBool b Yes No → b ≡ false → No
says_no false Yes No says is = says
says_no true Yes No says is = absurd (cc)

-- what follows of a result
pub if_ok : {X E : Type 0} (r : Result X E) (P Q : X → Type 0) → IfOk r P → ((x : X) → P x → Q x) → IfOk r Q
if_ok (Ok x) P Q is f = f x is
if_ok (Err e) P Q is f = tt

pub both_if_ok : {X E : Type 0} (r : Result X E) (P Q R : X → Type 0) → IfOk r P → IfOk r Q
    → ((x : X) → P x → Q x → R x) → IfOk r R
both_if_ok (Ok x) P Q R p q f = f x p q
both_if_ok (Err e) P Q R p q f = tt

-- a roster costs at most so much, or more
pub cost_cases : (most cost : ℤ) → (cost ≤ℤ most) ⊎ (most <ℤ cost)
cost_cases most cost =
    elim (cases_lt (up most + down cost) (up cost + down most)) [
      | inl less ↦ inr (omega (arith, ints))
      | inr more ↦ inl (omega (arith, ints))
    ]

-- a person has a pairing, or hasn't
pub has_cases : (k p : ℕ) (places : List ℕ) → Has k p places ⊎ HasNot k p places
has_cases k p places =
    elim (slice_get_cases places p).1 [
      | inl here ↦ elim (eqb_tells here.0 k) [
        | inl same ↦ inl (here.2 ∙ ap Some same.1)
        | inr other ↦ inr (λ has. other.1 (same_Some _ _ (sym here.2 ∙ has)))
      ]
      | inr past ↦ inr (λ has. none-some _ (sym past.1 ∙ has))
    ]

-- a cheap roster of a part is one of the whole
pub within_part : (problem : Problem) (Kept : List ℕ → Type 0) (old new : Region) (most : ℤ) (key : Key)
    → IsNarrowed problem Kept old new → IsWithinCost problem (IsIn problem new) most key
    → IsWithinCost problem (IsIn problem old) most key
within_part problem Kept old new most key part found = record {
  held = found.held;
  inside = part.inside key.places found.inside;
  within = found.within;
}

-- if a part has all that is cheap, and nothing in it is, nothing is
pub more_than_part : (problem : Problem) (old new : Region) (most : ℤ)
    → IsNarrowed problem (CostsAtMost problem most) old new → CostsMore problem (IsIn problem new) most
    → CostsMore problem (IsIn problem old) most
more_than_part problem old new most part more =
    λ others legal inside. elim (cost_cases most (cost_of problem others)) [
      | inl cheap ↦ more others legal (part.kept others inside cheap)
      | inr above ↦ above
    ]

-- the same of its rosters
pub above_part : (problem : Problem) (old new : Region) (most : ℤ)
    → IsNarrowed problem (CostsAtMost problem most) old new → IsAllAbove problem new most
    → IsAllAbove problem old most
above_part problem old new most part above =
    λ places inside. elim (cost_cases most (cost_of problem places)) [
      | inl cheap ↦ above places (part.kept places inside cheap)
      | inr more ↦ more
    ]

-- what is found in a part that has all that is cheap is what is found in the whole
pub found_in_part : (problem : Problem) (old new : Region) (most : ℤ) (found : Option Key)
    → IsNarrowed problem (CostsAtMost problem most) old new
    → IsFoundWithin problem (IsIn problem new) most found
    → IsFoundWithin problem (IsIn problem old) most found
found_in_part problem old new most None part is = more_than_part problem old new most part is
found_in_part problem old new most (Some key) part is =
    within_part problem (CostsAtMost problem most) old new most key part is

-- ---- parts that have all that is cheap

-- what settles the part settles the whole
pub settled_in_whole : (problem : Problem) (old new : Region) (before after : Key)
    → IsNarrowed problem (CostsAtMost problem before.cost) old new
    → Settles problem (IsIn problem new) (IsIn problem new) (Some before) after
    → Settles problem (IsIn problem old) (IsIn problem old) (Some before) after
settled_in_whole problem old new before after part settled =
    let cheap = no_dearer after before settled.kept in
    record {
      held = settled.held;
      kept = settled.kept;
      least = λ others legal inside. elim (cost_cases before.cost (cost_of problem others)) [
        | inl no_more ↦ settled.least others legal (part.kept others inside no_more)
        | inr more ↦ by_cost after (key_of problem others) (omega (arith, ints))
      ];
      from = elim settled.from [ inl same ↦ inl same | inr own ↦ inr (part.inside after.places own) ];
    }

-- if each roster costs more, the given one is settled
pub settled_below : (problem : Problem) (region : Region) (key : Key) → IsHeld problem key
    → IsAllAbove problem region key.cost
    → Settles problem (IsIn problem region) (IsIn problem region) (Some key) key
settled_below problem region key held above = record {
  held = held;
  kept = key_le-refl key;
  least = λ others legal inside. by_cost key (key_of problem others) (above others inside);
  from = inl refl;
}

-- what settles the whole for a cheapest roster below the limit is the least there
pub least_below : (problem : Problem) (Region : List ℕ → Type 0) (limit : ℤ) (cheapest least : Key)
    → IsCheapestBelow problem Region limit (Some cheapest)
    → Settles problem Region Region (Some cheapest) least → IsLeastBelow problem Region limit (Some least)
least_below problem Region limit cheapest least is settled =
    let below = is.1 in
    let cheap = no_dearer least cheapest settled.kept in (
      record {
        held = settled.held;
        inside = elim settled.from [ inl same ↦ subst (λ k. Region k.places) (same_Some cheapest least same) is.0.inside | inr own ↦ own ];
        least = settled.least;
      },
      omega (arith, ints),
    )

-- what is found in the part of a region that meets a condition
pub found_kept : (problem : Problem) (Kept : List ℕ → Type 0) (old new : Region) (most enough : ℤ)
    (found : Option Key) → IsNarrowed problem Kept old new → IsWhollyIn problem new Kept
    → IsCheapestWithin problem (IsIn problem new) most enough found
    → IsFoundWithin problem (λ places. IsIn problem old places × Kept places) most found
found_kept problem Kept old new most enough None narrowed all none =
    λ others legal inside. none others legal (narrowed.kept others inside.0 inside.1)
found_kept problem Kept old new most enough (Some key) narrowed all found = record {
  held = found.0.held;
  inside = (narrowed.inside key.places found.0.inside, all key.places found.0.inside);
  within = found.0.within;
}
