-- What is made of the lines of persons, and the table of it.
use Rattle.std.proofs.Common.{◌≡◌, ℕ, ◌<◌, ◌≤◌, List, [], ◌∷◌, ◌++◌, length, get_or, map, Ok, Err, Result, refl, sym, ◌∙◌, subst, arith}
use Rattle.std.specs.Prelude.{IfOk, IfErr}
use Rattle.std.proofs.lemmas.List.{length-map}
use Rattle.std.proofs.lemmas.Option.{same_Some, slice_get_within, slice_get-get_or, slice_get-map}
use Rattle.roster_model.specs.declared.limits.TheConstants.{MOST_LINES}
use Rattle.roster_model.specs.Lines.{AreLines, IsCrowded, IsFirstCrowded}
use Rattle.roster_model.specs.Problem.{Problem}
use Rattle.roster_model.proofs.PushLemmas.{each-push}
use Rattle.roster_lines_table.specs.Entries.{Entry, sets_of}
use Rattle.roster_lines_table.specs.Person.{AreCosted, IsTableOf}
use Rattle.roster_lines_table.proofs.Lists.{not_crowded}
use Rattle.roster_lines_table.proofs.TreeLemmas.{length-sets_of}
use Rattle.roster_lines.specs.declared.extend.LinesFault.{LinesFault}
use Rattle.roster_lines.specs.SomeLines.{IsFaultOf}
use Rattle.roster_lines.specs.Made.{AreMade, IsMadeOf, IsTableSoFar}

-- the clauses of `lines_of` in one
pub IsMadeOf-from_clauses : (problem : Problem) (k : ℕ) (made : Result (List Entry) LinesFault)
    → IfOk made (λ lines. AreLines problem k (sets_of lines)) → IfOk made (AreCosted problem k)
    → IfOk made (λ lines. length lines ≤ MOST_LINES) → IfErr made (IsFaultOf problem k)
    → IsMadeOf problem k made
IsMadeOf-from_clauses problem k (Ok lines) sets costs few fault =
    record { sets = sets; costs = costs; few = few }
IsMadeOf-from_clauses problem k (Err e) sets costs few fault = fault

-- ---- the table, one person after another

pub IsTableSoFar-push : (problem : Problem) (table : List (List Entry)) (lines : List Entry)
    → IsTableSoFar problem table → AreMade problem (length table) lines
    → IsTableSoFar problem (table ++ lines ∷ [])
IsTableSoFar-push problem table lines each made = each-push (AreMade problem) table lines each made

-- if the next person has too many lines, nobody before has
pub IsFirstCrowded-next : (problem : Problem) (table : List (List Entry)) → IsTableSoFar problem table
    → length table < length problem.persons → IsCrowded problem (length table)
    → IsFirstCrowded problem (length table)
IsFirstCrowded-next problem table each person crowded = record {
  person = person;
  crowded = crowded;
  first = λ j before.
      let none : List Entry = [] in
      let lines : List Entry = get_or table j none in
      let made = each j lines (slice_get-get_or table j none before) in
      not_crowded problem j (sets_of lines) made.sets (omega (arith, made.few, length-sets_of lines));
}

-- with the lines of all persons it is whole
pub IsTableOf-whole : (problem : Problem) (table : List (List Entry)) → length table ≡ length problem.persons
    → IsTableSoFar problem table → IsTableOf problem table
IsTableOf-whole problem table covers each =
    let none : List Entry = [] in
    record {
      sets = record {
        covers = length-map table sets_of ∙ covers;
        each = λ k sets at.
            let inside = slice_get_within (map sets_of table) k sets at in
            let there = slice_get-get_or table k none (omega (arith, length-map table sets_of)) in
            let same = same_Some _ _ (sym (slice_get-map sets_of table k ∙ rw there refl) ∙ at) in
            subst (AreLines problem k) same (each k (get_or table k none) there).sets;
      };
      costs = λ k lines at. (each k lines at).costs;
      few = λ k d inside. (each k (get_or table k d) (slice_get-get_or table k d inside)).few;
    }
