-- What a walk of lines settles: at its end one roster, and else one line after another of the next person. A
-- legal roster gives the next person one of their lines, and none that meets a pairing of another
-- (`tried_left`). If all persons have their sets one roster is left, since a list of places is known by the
-- sets of its numbers (`same_places`).
use Rattle.std.proofs.Common.{◌≡◌, ℕ, ◌+◌, ◌<◌, ◌⊎◌, true, List, length, get_or, Some, refl, sym, ◌∙◌, subst, inl, inr, arith}
use Rattle.std.specs.Prelude.{slice_get}
use Rattle.std.proofs.lemmas.Bool.{cases_lt}
use Rattle.std.proofs.lemmas.Option.{same_Some, slice_get_within, get_or_from_slice_get}
use Rattle.roster_model.specs.Problem.{Problem}
use Rattle.roster_model.specs.Rules.{is_among}
use Rattle.roster_model.specs.Places.{set_of, open_number}
use Rattle.roster_model.specs.Lines.{AreLines, IsLine}
use Rattle.roster_model.specs.Rosters.{IsLegalRoster, Key}
use Rattle.roster_model.proofs.PlacesParts.{number_from_set_of, same_number, same_places}
use Rattle.roster_model.proofs.SetLemmas.{All-from_is_among, All-is_among}
use Rattle.roster_lines_table.specs.Entries.{Entry, sets_of}
use Rattle.roster_lines_table.specs.Person.{lines_at, IsTableOf}
use Rattle.roster_lines_table.proofs.TableLemmas.{all_lines_in_table}
use Rattle.roster_model.specs.Settled.{Anywhere, IsHeld, Settles}
use Rattle.roster_test_reference.specs.Walk.{AgreeBefore, IsWalkedTo}
use Rattle.roster_model.proofs.SettledLemmas.{Settles-nothing, Settles-then, Settles-within}
use Rattle.roster_model.proofs.LineLemmas.{given_line}
use Rattle.roster_problem.proofs.PutLemmas.{Throughout}
use Rattle.roster_test_reference.proofs.GivenLine.{GivesLine, given_set, kept_set}

-- ---- the end of the walk

pub walked_to_end : (problem : Problem) (places : List ℕ) → IsWalkedTo problem (length problem.persons) places
    → IsLegalRoster problem places
walked_to_end problem places walked =
    let count : ℕ = length problem.persons in
    record {
      covers = walked.covers;
      numbers = λ p d inside. elim (walked.numbers p d inside) [ inl before ↦ omega arith | inr nobody ↦ omega (arith, nobody) ];
      legal = walked.legal;
    }

-- no other roster gives each person the same set
pub settled_at_end : (problem : Problem) (places : List ℕ) (old new : Key)
    → IsWalkedTo problem (length problem.persons) places
    → Settles problem (λ others. others ≡ places) Anywhere (Some old) new
    → Settles problem (AgreeBefore (length problem.persons) places) Anywhere (Some old) new
settled_at_end problem places old new walked settled =
    let here = walked_to_end problem places walked in
    Settles-within problem (λ others. others ≡ places) (AgreeBefore (length problem.persons) places) Anywhere
    (Some old) new settled
    (λ others legal agree. same_places (length problem.persons) others places (legal.covers ∙ sym here.covers) legal.numbers here.numbers agree)

-- ---- the lines of a person

pub line_in_table : (problem : Problem) (table : List (List Entry)) (k i : ℕ) (set : List ℕ)
    → IsTableOf problem table → k < length problem.persons
    → slice_get (sets_of (lines_at table k)) i ≡ Some set → IsLine problem k set
line_in_table problem table k i set is person at =
    let lines : List (List ℕ) = sets_of (lines_at table k) in
    let all = (all_lines_in_table problem table k is person).some.lines in
    subst (IsLine problem k) (get_or_from_slice_get lines i set set at)
    (all i set (slice_get_within lines i set at))

-- ---- one line after another

-- a list that goes on with one of the first i lines
abbrev pub Tried : List (List ℕ) → ℕ → ℕ → List ℕ → List ℕ → Type 0
Tried lines i k places others =
    AgreeBefore k places others × ((n : ℕ) × (n < i) × (slice_get lines n ≡ Some (set_of k others)))

-- or with this one
abbrev pub GoesOnWith : List ℕ → ℕ → List ℕ → List ℕ → Type 0
GoesOnWith set k places others = AgreeBefore k places others × (set_of k others ≡ set)

one_more : (lines : List (List ℕ)) (i k : ℕ) (set places others : List ℕ) → slice_get lines i ≡ Some set
    → Tried lines (i + 1) k places others → Tried lines i k places others ⊎ GoesOnWith set k places others
one_more lines i k set places others at both =
    elim (cases_lt both.1.0 i) [
      | inl before ↦ inl (both.0, (both.1.0, before, both.1.2))
      | inr on ↦
          let here : both.1.0 ≡ i = omega (arith, both.1.1) in
          let there = subst (λ n. slice_get lines n ≡ Some (set_of k others)) here both.1.2 in
          inr (both.0, same_Some _ _ (sym there ∙ at))
    ]

-- before the first line nothing is settled
pub tried_none : (problem : Problem) (lines : List (List ℕ)) (k : ℕ) (places : List ℕ) (key : Key)
    → IsHeld problem key → Settles problem (Tried lines 0 k places) Anywhere (Some key) key
tried_none problem lines k places key held =
    Settles-nothing problem (Tried lines 0 k places) Anywhere key held
    (λ others both. omega (arith, both.1.1))

-- a line whose places are open is given
pub tried_given : (problem : Problem) (lines : List (List ℕ)) (i k : ℕ) (set places given : List ℕ) (old mid new : Key) → slice_get lines i ≡ Some set → GivesLine problem k set places given → Settles problem (Tried lines i k places) Anywhere (Some old) mid → Settles problem (AgreeBefore (k + 1) given) Anywhere (Some mid) new → Settles problem (Tried lines (i + 1) k places) Anywhere (Some old) new
tried_given problem lines i k set places given old mid new at gives before settled =
    Settles-then problem (Tried lines i k places) (GoesOnWith set k places)
    (Tried lines (i + 1) k places) Anywhere (Some old) mid new before
    (Settles-within problem (AgreeBefore (k + 1) given) (GoesOnWith set k places) Anywhere (Some mid) new settled (λ others legal goes j below. elim (cases_lt j k) [
      | inl less ↦ goes.0 j less ∙ sym (kept_set problem k j set places given gives less)
      | inr on ↦
          let here : k ≡ j = omega arith in
          subst (λ n. set_of n others ≡ set_of n given) here
          (goes.1 ∙ sym (given_set problem k set places given gives))
    ]))
    (λ others legal both. one_more lines i k set places others at both)

-- no legal roster goes on with a line of which a place isn't open
meets_none : (problem : Problem) (k : ℕ) (set places others : List ℕ) → IsWalkedTo problem k places
    → IsLine problem k set → k < length problem.persons → IsLegalRoster problem others
    → GoesOnWith set k places others → Throughout (open_number problem) set places
meets_none problem k set places others walked line person legal goes =
    All-from_is_among (λ p. get_or places p 0 ≡ open_number problem) set (λ p member.
    let place : p < length problem.pairings =
    All-is_among (λ q. q < length problem.pairings) set p line.places member in
    let inside : p < length places = omega (arith, walked.covers) in
    elim (walked.numbers p 0 inside) [
      | inr nobody ↦ nobody
      | inl before ↦
          let number : ℕ = get_or places p 0 in
          let same =
          same_number number p places others (walked.covers ∙ sym legal.covers) inside
          (sym (goes.0 number before)) refl in
          let mine =
          number_from_set_of k p others (omega (arith, legal.covers))
          (subst (λ s. is_among s p ≡ true) (sym goes.1) member) in
          absurd (omega (arith, same, mine))
    ])

-- a line of which a place isn't open is left out
pub tried_left : (problem : Problem) (lines : List (List ℕ)) (i k : ℕ) (set places : List ℕ) (old new : Key)
    → slice_get lines i ≡ Some set → IsWalkedTo problem k places → IsLine problem k set
    → k < length problem.persons → (Throughout (open_number problem) set places → ⊥)
    → Settles problem (Tried lines i k places) Anywhere (Some old) new
    → Settles problem (Tried lines (i + 1) k places) Anywhere (Some old) new
tried_left problem lines i k set places old new at walked line person meets settled =
    Settles-within problem (Tried lines i k places) (Tried lines (i + 1) k places) Anywhere
    (Some old) new settled
    (λ others legal both. elim (one_more lines i k set places others at both) [
      | inl before ↦ before
      | inr goes ↦ absurd (meets (meets_none problem k set places others walked line person legal goes))
    ])

-- after the last line all is settled
pub tried_all : (problem : Problem) (lines : List (List ℕ)) (k : ℕ) (places : List ℕ) (old new : Key)
    → AreLines problem k lines → k < length problem.persons
    → Settles problem (Tried lines (length lines) k places) Anywhere (Some old) new
    → Settles problem (AgreeBefore k places) Anywhere (Some old) new
tried_all problem lines k places old new all person settled =
    Settles-within problem (Tried lines (length lines) k places) (AgreeBefore k places) Anywhere
    (Some old) new settled
    (λ others legal agree.
    let found = all.every (set_of k others) (given_line problem k others legal person) in
    (agree, (found.0, slice_get_within lines found.0 (set_of k others) found.1, found.1)))
