use Rattle.std.proofs.Common.{◌≡◌, ◌≤◌, eqb, length}
use Rattle.roster_bases.specs.Bases.{base_of_pairing}
use Rattle.roster_bases.proofs.BaseLemmas.{passing}
use Rattle.roster_bases.proofs.members.count_of_pairings.Given as goal

-- how many of the first pairings
abbrev pub invariant-loop-p : goal.invariant-loop-p
invariant-loop-p l = record {
  few : l.p ≤ length l.problem.pairings;
  own : l.count ≡ length (passing (λ q. eqb (base_of_pairing l.problem q) l.base) l.p);
}
