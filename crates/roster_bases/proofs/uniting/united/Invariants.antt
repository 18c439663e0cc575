use Rattle.std.proofs.Common.{◌≡◌, ℕ, ◌<◌, cond, eqb, get_or, vec_len}
use Rattle.roster_bases.specs.Bases.{base_of_pairing}
use Rattle.roster_bases.proofs.uniting.united.Given as goal

-- the pairings so far are united
abbrev pub invariant-loop-p : goal.invariant-loop-p
invariant-loop-p l = record {
  covers : vec_len l.united ≡ l.p;
  each : (q : ℕ) → q < l.p → get_or l.united.items q 0 ≡ cond (eqb (base_of_pairing l.problem q) l.base) (get_or l.own q 0) (get_or l.places q 0);
}
