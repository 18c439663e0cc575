-- What is put behind one another.
use Rattle.std.specs.Prelude.{◌≡◌, ℕ, suc, zero}

-- the new one is the old one and what belongs to each number below this one, in their order
unfoldable pub Have : {X : Type 0} → (ℕ → X → X → Type 0) → ℕ → X → X → Type 0
Have Has zero old new = new ≡ old
Have {X} Has (suc k) old new = (mid : X) × Have Has k old mid × Has k mid new
