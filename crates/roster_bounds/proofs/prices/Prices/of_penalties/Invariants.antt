use Rattle.std.proofs.Common.{◌≡◌, ◌*◌, ◌/◌, take, map, pos}
use Rattle.std.specs.Prelude.{All}
use Rattle.roster_cost.specs.Amounts.{IsWithin}
use Rattle.roster_bounds.specs.declared.prices.TheConstants.{MOST_PRICE}
use Rattle.roster_bounds.proofs.prices.Prices.of_penalties.Given as goal

-- the prices of the pairings so far
abbrev pub invariant-loop-pairing : goal.invariant-loop-pairing
invariant-loop-pairing l = record {
  prices : l.prices.items
      ≡ map (λ pairing. pos (pairing.penalty * l.halves / 2)) (take l.pairing-index l.pairings);
  within : All (IsWithin MOST_PRICE) l.prices.items;
}
