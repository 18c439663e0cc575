-- The base rule over a part of a set.
use Rattle.std.proofs.Common.{ℕ, List}
use Rattle.roster_model.proofs.SetLemmas.{is_among-from_Contains, Contains-from_is_among}
use Rattle.roster_model.specs.Problem.{Problem}
use Rattle.roster_model.specs.Rules.Base.{KeepsBase}
use Rattle.roster_legal.proofs.Parts.Listed.{IsPart}

pub KeepsBase-part : (problem : Problem) (k : ℕ) (set part : List ℕ) → IsPart part set
    → KeepsBase problem k set → KeepsBase problem k part
KeepsBase-part problem k set part more keeps p pairing person member =
    keeps p pairing person (Contains-from_is_among set p (more p (is_among-from_Contains part p member)))
