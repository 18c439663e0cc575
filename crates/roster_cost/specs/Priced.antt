-- Prices of pairings: what a roster costs is split among persons and pairings by them.
use Rattle.std.specs.Prelude.{ℕ, ◌+◌, ◌==◌, if◌then◌else◌, List, [], ◌∷◌, ℤ, pos, ◌+ℤ◌, ◌-ℤ◌}
use Rattle.roster_model.specs.Costs.{line_cost, total}
use Rattle.roster_model.specs.Problem.{Problem}
use Rattle.roster_model.specs.records.Pairing.{Pairing}

-- what a line of person k costs beyond the prices of its pairings: its reduced cost
abbrev pub reduced_cost : Problem → (ℕ → ℤ) → ℕ → List ℕ → ℤ
reduced_cost problem price k set = line_cost problem k set -ℤ total price set

-- the penalty of each pairing that is left open, and the price of each other; the first is pairing p
abbrev pub penalties_and_prices : (ℕ → ℤ) → ℕ → ℕ → List Pairing → List ℕ → ℤ
penalties_and_prices price nobody p [] places = pos 0
penalties_and_prices price nobody p (pairing ∷ pairings) [] = pos 0
penalties_and_prices price nobody p (pairing ∷ pairings) (x ∷ places) =
    (if x == nobody then pos pairing.penalty else price p)
    +ℤ penalties_and_prices price nobody (p + 1) pairings places
