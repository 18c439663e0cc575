-- The sets between two.
use Rattle.std.specs.Prelude.{◌≡◌, ℕ, ◌<◌, true, ◌||◌, List}
use Rattle.roster_model.specs.Rules.{is_among}

-- the set holds all of `must`, and nothing but what is in `must` or `may`
pub record IsBetween (must may set : List ℕ) : Type 0 where
  pub holds : (p : ℕ) → is_among must p ≡ true → is_among set p ≡ true
  pub within : (p : ℕ) → is_among set p ≡ true → (is_among must p || is_among may p) ≡ true

-- the set has each pairing of `must` whose place is before p
abbrev pub HasBefore : List ℕ → List ℕ → ℕ → Type 0
HasBefore set must p = (q : ℕ) → q < p → is_among must q ≡ true → is_among set q ≡ true
