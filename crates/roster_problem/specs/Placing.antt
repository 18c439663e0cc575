-- A number at the places of a set.
use Rattle.std.specs.Prelude.{◌≡◌, ℕ, ◌<◌, if◌then◌else◌, List, length, slice_index}
use Rattle.roster_model.specs.Rules.{is_among}

-- the number stands at the places of the set, and elsewhere what did before
pub record IsPut (number : ℕ) (set : List ℕ) (old new : List ℕ) : Type 0 where
  pub covers : length new ≡ length old
  pub each : (p : ℕ) → p < length old
      → slice_index new p ≡ (if is_among set p then number else slice_index old p)
