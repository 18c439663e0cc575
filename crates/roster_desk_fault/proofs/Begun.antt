-- The first fault, told once.
use Rattle.std.proofs.Common.{◌≡◌, ◌∙◌, ◌+◌, ◌<◌, ◌∷◌, [], ℕ, List, None, Option, Some, ap, length, subst, sym}
use Rattle.roster_desk_fault.proofs.Kept.{place_of_kept}
use Rattle.roster_desk_fault.specs.Firsts.{AreKept, HasBegun, IsKeptAt, IsTold}
use Rattle.roster_desk_fault.specs.declared.judging.First.{First}
use Rattle.roster_desk_fault.specs.declared.judging.Told.{Told}
use Rattle.roster_desk_fault.specs.declared.rows.Record.{Record}

abbrev some_first : Option First → First → First
some_first (Some x) y = x
some_first None y = y

pub goes_on : (first fault : First) (next later : Option First) (old rows left : List Record) (at : ℕ) (before after : List Told)
    → HasBegun first next old rows before → next ≡ Some fault → AreKept old → IsKeptAt rows fault.row at
    → (at < length rows → IsTold at fault.code before after) → HasBegun first later old left after
goes_on first fault next later old rows left at [] after begun is kept there more =
    let said = more there.within in
    let same : fault ≡ first = ap (λ o. some_first o first) (sym is ∙ begun.0) in
    let here : at + 1 ≡ fault.row = place_of_kept rows fault.row at (subst AreKept (sym begun.1) kept) there in
    subst (λ all. HasBegun first later old left all) (sym said.all)
    (ap (λ n. n + 1) said.place ∙ here ∙ ap (λ f. f.row) same, said.number ∙ ap (λ f. f.code) same)
goes_on first fault next later old rows left at (t ∷ before) after begun is kept there more =
    let said = more there.within in
    subst (λ all. HasBegun first later old left all) (sym said.all) begun
