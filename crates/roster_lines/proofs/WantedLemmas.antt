-- Which lines are wanted: all, or those between two sets.
use Rattle.std.proofs.Common.{◌≡◌, ℕ, true, false, ◌&&◌, ◌||◌, List, ◌∷◌, ◌++◌, Ok, Err, Result, Bool, sym, ◌∙◌, inl, inr, arith}
use Rattle.std.specs.Prelude.{◌↔◌, IfErr, IfOk, IsTrue}
use Rattle.std.proofs.lemmas.Bool.{and_from, and_parts, both_ways, eqb-true, or_cases}
use Rattle.roster_model.specs.declared.limits.TheConstants.{MOST_LINES}
use Rattle.roster_model.specs.Lines.{AreLines, IsLine}
use Rattle.roster_model.specs.Problem.{Problem}
use Rattle.roster_model.specs.Rules.{is_among}
use Rattle.roster_model.proofs.SetLemmas.{Ascends-from_rising, is_among-before, is_among-here}
use Rattle.roster_lines_table.specs.Entries.{Entry, sets_of}
use Rattle.roster_lines_table.proofs.Fronts.{Ascends-parts, among_behind}
use Rattle.roster_lines.specs.declared.extend.LinesFault.{LinesFault}
use Rattle.roster_lines.specs.declared.extend.LinesFault.TheVariants.{TooMany, Memory}
use Rattle.roster_lines.specs.Between.{HasBefore, IsBetween}
use Rattle.roster_lines.specs.SomeLines.{AreWantedLines, IsFaultOf, IsFaultWithin}
use Rattle.roster_lines.proofs.Listed.{among_cases}

-- ---- all are wanted

pub AreLines-wanted : (problem : Problem) (k : ℕ) (made : Result (List Entry) LinesFault)
    → IfOk made (λ lines. AreWantedLines problem k (λ set. Unit {0}) (sets_of lines))
    → IfOk made (λ lines. AreLines problem k (sets_of lines))
AreLines-wanted problem k (Ok lines) is = record {
  some = is.some;
  every = λ set line. is.every set line tt;
}
AreLines-wanted problem k (Err e) is = is

IsFaultOf-one : (problem : Problem) (k : ℕ) (e : LinesFault) → IsFaultWithin problem k MOST_LINES e
    → IsFaultOf problem k e
IsFaultOf-one problem k TooMany more = record { sets = more.sets; some = more.some; many = more.many }
IsFaultOf-one problem k Memory more = more

pub IsFaultOf-within : (problem : Problem) (k : ℕ) (made : Result (List Entry) LinesFault)
    → IfErr made (IsFaultWithin problem k MOST_LINES) → IfErr made (IsFaultOf problem k)
IsFaultOf-within problem k (Ok lines) is = is
IsFaultOf-within problem k (Err e) is = IsFaultOf-one problem k e is

-- ---- those between two sets

-- each of their pairings is in one of the two,
pub none_outside : (must may set : List ℕ) (p : ℕ) (rest : List ℕ)
    → (is_among must p || is_among may p) ≡ false → IsBetween must may (set ++ p ∷ rest) → ⊥
none_outside must may set p rest out between =
    both_ways _ out (between.within p (among_behind set (p ∷ rest) p (is_among-here p rest)))

-- and none of the first is missing
pub has_before : (problem : Problem) (k : ℕ) (must may set : List ℕ) (p : ℕ) (rest : List ℕ)
    → IsLine problem k (set ++ p ∷ rest) → IsBetween must may (set ++ p ∷ rest) → HasBefore set must p
has_before problem k must may set p rest line between q before is =
    let up = (Ascends-parts set p rest (Ascends-from_rising _ line.ascending)).2 in
    elim (among_cases set (p ∷ rest) q (between.holds q is)) [
      | inl here ↦ here
      | inr behind ↦ absurd (elim (or_cases _ _ behind) [
        | inl same ↦ let equal = eqb-true p q same in omega arith
        | inr later ↦ both_ways _ (is_among-before p q rest up.0 (omega arith)) later
      ])
    ]

-- what is in both of two sets is in the first
pub within_both : (alone both among : List ℕ) (p : ℕ)
    → ((q : ℕ) → is_among among q ≡ (is_among alone q && is_among both q)) → is_among among p ≡ true
    → is_among alone p ≡ true
within_both alone both among p each here = (and_parts _ _ (sym (each p) ∙ here)).0

-- so those of their pairings that are legal alone are looked at
pub held_between : (must may both among alone set : List ℕ) (p : ℕ)
    → ((q : ℕ) → is_among both q ≡ (is_among must q || is_among may q))
    → ((q : ℕ) → is_among among q ≡ (is_among alone q && is_among both q)) → IsBetween must may set
    → is_among set p ≡ true → is_among alone p ≡ true → is_among among p ≡ true
held_between must may both among alone set p either each between here single =
    each p ∙ and_from _ _ single (either p ∙ between.within p here)

-- where the answer is no, something is missing
pub not_before : (set must : List ℕ) (p : ℕ) (answer : Bool) → answer ≡ false
    → IsTrue answer ↔ HasBefore set must p → HasBefore set must p → ⊥
not_before set must p answer refused is has = both_ways answer refused (is.1 has)
