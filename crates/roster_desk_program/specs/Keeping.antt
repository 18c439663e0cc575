-- What is put into the file that keeps a plan, and what became of that.
use Rattle.std.specs.Prelude.{◌≡◌, ◌⊎◌, ℕ, Bool, true, false, List, Option, IsSomeAnd, option_map}
use Rattle.roster_model.specs.Problem.{Problem}
use Rattle.roster_desk_arguments.specs.declared.line.PlanLine.{PlanLine}
use Rattle.roster_desk_run.specs.Run.{IsKnownText}
use Rattle.roster_desk_program.specs.declared.keeping.Kept.{Kept}
use Rattle.roster_desk_program.specs.declared.keeping.Kept.TheVariants as kept

-- it is the text of what is known of a plan of some book
abbrev pub IsPlanText : List ℕ → Type 0
IsPlanText text = (problem : Problem) × IsKnownText problem text

-- some file couldn't take such a text
abbrev pub HasRefused : {K : Type 0} → (K → Bool) → Type 0
HasRefused {K} has_refused = (slot : K) × (has_refused slot ≡ true)

-- the file doesn't have what was known last
abbrev pub is_lost : Kept → Bool
is_lost kept.Fine = false
is_lost kept.Refused = true
is_lost kept.Short = true

-- what became of a file that couldn't take a text, and of one for whose text there was no memory
abbrev pub kept_of : Bool → Bool → Kept
kept_of true short = kept.Refused
kept_of false true = kept.Short
kept_of false false = kept.Fine

-- the path of the file that keeps the plan, if the line names one
abbrev pub keep_of : PlanLine → Option (List ℕ)
keep_of line = option_map (λ path. path.now) line.keep

-- nothing changed, or the file at the path was lent, if one is named
abbrev pub IsLent : {S : Type 0} → (S → List ℕ → S → Type 0) → Option (List ℕ) → S → S → Type 0
IsLent lends path old new = (new ≡ old) ⊎ IsSomeAnd path (λ path. lends old path new)
