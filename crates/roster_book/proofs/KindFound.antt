-- The first kind that a record has, of those that are left.
use Rattle.std.proofs.Common.{◌≡◌, ◌∙◌, ℕ, ◌+◌, ◌<◌, ◌≤◌, Bool, true, false, ◌&&◌, if◌then◌else◌, List, [], ◌∷◌, length, drop, map, get_or, Option, Some, None, option_map, refl}
use Rattle.std.proofs.lemmas.List.{at_drop_all, at_drop_more}
use Rattle.std.specs.List.{find}
use Rattle.roster_model.specs.Record.{Record, Command, Solve, Check, Replay, is_of}
use Rattle.roster_model.specs.Faults.{kind_in}
use Rattle.roster_book.specs.declared.record.Kind.{Kind}
use Rattle.roster_book.specs.declared.record.TheConstants.Kind.{ALL}
use Rattle.roster_book.specs.View.{is_for, kind_of}

-- one that fails the test is passed over
pub find-passed : {X : Type 0} (test : X → Bool) (xs : List X) (i : ℕ) (x : X) → i < length xs
    → test (get_or xs i x) ≡ false → find test (drop i xs) ≡ find test (drop (i + 1) xs)
find-passed test xs i x inside fails = at_drop_more (find test) xs i x inside ∙ rw fails refl

-- one that passes it is found
pub find-here : {X : Type 0} (test : X → Bool) (xs : List X) (i : ℕ) (x : X) → i < length xs
    → test (get_or xs i x) ≡ true → find test (drop i xs) ≡ Some (get_or xs i x)
find-here test xs i x inside passes = at_drop_more (find test) xs i x inside ∙ rw passes refl

-- and behind the last is none
pub find-none : {X : Type 0} (test : X → Bool) (xs : List X) (i : ℕ) → length xs ≤ i
    → find test (drop i xs) ≡ None
find-none test xs i past = at_drop_all (find test) xs i past

find-map : {X Y : Type 0} (f : X → Y) (test : Y → Bool) (xs : List X)
    → option_map f (find (λ x. test (f x)) xs) ≡ find test (map f xs)
find-map f test [] = refl
find-map f test (x ∷ xs) =
    let P : Bool → Type 0 = λ b. option_map f (if b then Some x else find (λ z. test (f z)) xs) ≡ (if b then Some (f x) else find test (map f xs)) in
    elim (test (f x)) as P [ true ↦ refl | false ↦ find-map f test xs ]

-- whether it is the record's kind, in a book for the command
abbrev pub is_kind_in : Command → Record → Kind → Bool
is_kind_in command fields kind = is_for (kind_of kind) command && is_of (kind_of kind) fields

kinds_for : (command : Command) (fields : Record)
    → find (λ kind. is_for kind command && is_of kind fields) (map kind_of ALL) ≡ kind_in command fields
kinds_for Solve fields = refl
kinds_for Check fields = refl
kinds_for Replay fields = refl

-- the kind of a record is the first of all that it has
pub kind_is : (command : Command) (fields : Record) (found : Option Kind)
    → find (is_kind_in command fields) ALL ≡ found → option_map kind_of found ≡ kind_in command fields
kind_is command fields found e =
    rw (← e) (find-map kind_of (λ kind. is_for kind command && is_of kind fields) ALL ∙ kinds_for command fields)
