use Rattle.std.proofs.Common.{◌≡◌, [], ◌∷◌}
use Rattle.roster_model.specs.Rules.{IsLegal}
use Rattle.roster_lines.proofs.Judged.{HasBelow}
use Rattle.roster_lines.proofs.pairs.alone_of.Given as goal

-- the pairings so far that are legal alone
abbrev pub invariant-loop-p : goal.invariant-loop-p
invariant-loop-p l = record {
  judge : l.judge ≡ l.problem;
  alone : HasBelow (λ q. IsLegal l.problem l.k (q ∷ [])) l.p l.alone;
}
