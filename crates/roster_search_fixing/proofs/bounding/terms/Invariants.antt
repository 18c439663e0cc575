use Rattle.std.proofs.Common.{◌≡◌, ◌<◌, ℕ, length, get_or, pos}
use Rattle.std.specs.Prelude.{All}
use Rattle.roster_cost.specs.Amounts.{IsWithin}
use Rattle.roster_search_regions.specs.declared.terms.TheConstants.{MOST_TERM}
use Rattle.roster_search_regions.specs.Terms.{term_of}
use Rattle.roster_search_fixing.proofs.bounding.terms.Given as goal

-- those of the pairings so far
abbrev pub invariant-loop-p : goal.invariant-loop-p
invariant-loop-p l = record {
  covers : length l.terms.items ≡ l.p;
  term : (q : ℕ) → q < l.p → get_or l.terms.items q (pos 0) ≡ term_of l.problem l.region l.prices l.paid q;
  within : All (IsWithin MOST_TERM) l.terms.items;
}
