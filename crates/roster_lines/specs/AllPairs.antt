-- What threads find of each person.
use Rattle.std.specs.Prelude.{◌≡◌, ℕ, ◌<◌, List, IfOk, IsSomeAnd, length, slice_index_or}
use Rattle.roster_model.specs.Problem.{Problem}
use Rattle.roster_lines.specs.Listing.{ArePairs}
use Rattle.roster_lines.specs.declared.pairs_by_threads.Judged.{Judged}

-- a thread looked for the pairs of person k: they were found, or memory ran out
abbrev pub IsJudged : Problem → ℕ → Judged → Type 0
IsJudged problem k judged = IsSomeAnd judged.pairs (λ found. IfOk found (ArePairs problem k))

-- of each person
pub record AreJudged (problem : Problem) (all : List Judged) : Type 0 where
  pub long : length all ≡ length problem.persons
  pub each : (k : ℕ) (d : Judged) → k < length problem.persons → IsJudged problem k (slice_index_or all k d)
