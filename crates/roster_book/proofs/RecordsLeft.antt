-- A reader of csv gives the records of its bytes in turn: after a record it stands between two, so that
-- each further one takes a byte at least, and the bytes are enough turns for all records.
use Rattle.std.proofs.Common.{◌≡◌, ◌+◌, ◌<◌, ◌≤◌, ◌==◌, ◌&&◌, ℕ, zero, suc, Bool, true, false, List, [], ◌∷◌, length, Option, Some, None, refl, ap, subst, ◌∙◌, add-one, arith}
use Rattle.std.specs.Prelude.{IfSome, if◌then◌else◌}
use Rattle.csv.specs.Machine.{Read, after_end, ends_at_end, ends_with, field_after, fields_after, in_field, is_end, next_record, start_field, start_record, step}
use Rattle.csv.specs.Reading.{NextIs, ReadsNext, default_config, records_from, records_next}
use Rattle.csv.specs.declared.parser.Action.{Action}
use Rattle.csv.specs.declared.parser.State.{State}
use Rattle.csv.specs.declared.parser.State.TheVariants as st
use Rattle.csv.specs.declared.parser.Terminator.TheVariants as term
use Rattle.roster_book.specs.Reading.{AreSeen, records_between}

-- ---- a byte

-- if it ends a record, it leaves the machine between two
abbrev EndsBetween : State × Action → Type 0
EndsBetween q = is_end q.1 ≡ true → ends_at_end q.0 ≡ false

either-ends : (b : Bool) (x y : State × Action) → EndsBetween x → EndsBetween y
    → EndsBetween (if b then x else y)
either-ends true x y p q = p
either-ends false x y p q = q

after_end-between : (c : ℕ) → ends_at_end (after_end term.CRLF c) ≡ false
after_end-between c = by (c == 13)
  where
    by : (b : Bool) → ends_at_end (if b then st.AfterCr else st.StartRecord) ≡ false
    by true = refl
    by false = refl

in_field-ends : (c : ℕ) → EndsBetween (in_field default_config c)
in_field-ends c = either-ends (c == 44) _ _ (λ e. cc)
    (either-ends (ends_with term.CRLF c) _ _ (λ e. after_end-between c) (λ e. cc))

start_field-ends : (c : ℕ) → EndsBetween (start_field default_config c)
start_field-ends c = either-ends (true && (c == 34)) _ _ (λ e. cc) (in_field-ends c)

start_record-ends : (c : ℕ) → EndsBetween (start_record default_config c)
start_record-ends c = either-ends (ends_with term.CRLF c) _ _ (λ e. cc) (start_field-ends c)

step-ends : (s : State) (c : ℕ) → EndsBetween (step default_config s c)
step-ends st.StartRecord c = start_record-ends c
step-ends st.StartField c = start_field-ends c
step-ends st.InField c = in_field-ends c
step-ends st.InQuoted c = either-ends (true && (c == 34)) _ _ (λ e. cc) (λ e. cc)
step-ends st.InEscape c = λ e. cc e
step-ends st.AfterQuote c = either-ends (true && true && (c == 34)) _ _ (λ e. cc) (in_field-ends c)
step-ends st.InComment c = either-ends (c == 10) _ _ (λ e. cc) (λ e. cc)
step-ends st.AfterCr c = either-ends (c == 10) _ _ (λ e. cc) (start_record-ends c)

-- ---- a record

-- it leaves the machine between two, and at most so many bytes
abbrev Leaves : ℕ → Read → Type 0
Leaves most p = (ends_at_end p.1 ≡ false) × (length p.2 ≤ most)

same-leaves : (most : ℕ) (p q : Read) → Some p ≡ Some q → Leaves most p → Leaves most q
same-leaves most p q e h = let same : p ≡ q = cc in subst (Leaves most) same h

-- the record that a byte begins or goes on with leaves no more than the bytes after that one
cons-leaves : (s : State) (fields : List (List ℕ)) (field : List ℕ) (c : ℕ) (rest : List ℕ) (p : Read)
    → (next_record default_config (step default_config s c).0 (fields_after (step default_config s c).1 fields field) (field_after (step default_config s c).1 c field) rest ≡ Some p → Leaves (length rest) p)
    → next_record default_config s fields field (c ∷ rest) ≡ Some p → Leaves (length rest) p
unfolding next_record
cons-leaves s fields field c rest p more e = by (is_end (step default_config s c).1) refl
  where
    by : (b : Bool) → is_end (step default_config s c).1 ≡ b → Leaves (length rest) p
    by true is = same-leaves (length rest) _ p (rw is at e) (step-ends s c is, omega arith)
    by false is = more (rw is at e)

record-leaves : (s : State) (fields : List (List ℕ)) (field xs : List ℕ) (p : Read)
    → next_record default_config s fields field xs ≡ Some p → Leaves (length xs) p
unfolding next_record
record-leaves s fields field [] p e = by (ends_at_end s) refl
  where
    by : (b : Bool) → ends_at_end s ≡ b → Leaves 0 p
    by true is = same-leaves 0 _ p (rw is at e) (refl, omega arith)
    by false is = cc (rw is at e)
record-leaves s fields field (c ∷ rest) p e =
    let left = cons-leaves s fields field c rest p (record-leaves (step default_config s c).0 (fields_after (step default_config s c).1 fields field) (field_after (step default_config s c).1 c field) rest p) e in
    (left.0, omega arith)

-- if it begins between two records, it takes a byte
record-takes : (s : State) (xs : List ℕ) (p : Read) → ends_at_end s ≡ false
    → next_record default_config s [] [] xs ≡ Some p → (ends_at_end p.1 ≡ false) × (length p.2 < length xs)
unfolding next_record
record-takes s [] p between e = cc (rw between at e)
record-takes s (c ∷ rest) p between e =
    let left = cons-leaves s [] [] c rest p (record-leaves (step default_config s c).0 (fields_after (step default_config s c).1 [] []) (field_after (step default_config s c).1 c []) rest p) e in
    (left.0, omega arith)

-- ---- all records

next-same : (m n : State → List ℕ → List (List (List ℕ))) (o : Option Read)
    → ((p : Read) → o ≡ Some p → m p.1 p.2 ≡ n p.1 p.2) → records_next m o ≡ records_next n o
next-same m n None h = refl
next-same m n (Some p) h = ap (λ (t : List (List (List ℕ))). p.0 ∷ t) (h p refl)

-- more turns than bytes are turns enough
turns-enough : (m n : ℕ) (s : State) (xs : List ℕ) → ends_at_end s ≡ false → length xs < m → length xs < n
    → records_from default_config m s xs ≡ records_from default_config n s xs
unfolding records_from
turns-enough zero n s xs between lm ln = absurd (omega arith)
turns-enough (suc m) zero s xs between lm ln = absurd (omega arith)
turns-enough (suc m) (suc n) s xs between lm ln =
    next-same (records_from default_config m) (records_from default_config n)
    (next_record default_config s [] [] xs) (λ p e.
    let taken = record-takes s xs p between e in
    turns-enough m n p.1 p.2 taken.0 (omega arith) (omega arith))

-- the records of bytes with a first one, and of bytes with none
records-first : (n : ℕ) (s : State) (xs : List ℕ) (p : Read) → next_record default_config s [] [] xs ≡ Some p
    → records_from default_config (n + 1) s xs ≡ p.0 ∷ records_from default_config n p.1 p.2
unfolding records_from
records-first n s xs p e = rw add-one (ap (records_next (records_from default_config n)) e)

records-none : (n : ℕ) (s : State) (xs : List ℕ) → next_record default_config s [] [] xs ≡ None
    → records_from default_config (n + 1) s xs ≡ []
unfolding records_from
records-none n s xs e = rw add-one (ap (records_next (records_from default_config n)) e)

-- a record that begins between two is the first of those that are left, and the others are left then
record-left : (s : State) (xs : List ℕ) (p : Read) → ends_at_end s ≡ false
    → next_record default_config s [] [] xs ≡ Some p
    → AreSeen (records_between s (Some xs)) (p.0 ∷ []) (records_between p.1 (Some p.2))
record-left s xs p between e =
    let taken = record-takes s xs p between e in
    let others = turns-enough (length xs) (length p.2 + 1) p.1 p.2 taken.0 taken.1 (omega arith) in
    rw (between, taken.0)
    (records-first (length xs) s xs p e ∙ ap (λ (t : List (List (List ℕ))). p.0 ∷ t) others)

-- the same, as a read tells it
pub found-left : (s s2 : State) (before after : Option (List ℕ)) (fields : List (List ℕ))
    → ReadsNext default_config s before after true fields s2
    → AreSeen (records_between s before) (fields ∷ []) (records_between s2 after)
found-left s s2 before after fields r = by (ends_at_end s) refl before after r
  where
    found : (xs ys : List ℕ) → ends_at_end s ≡ false → (o : Option Read)
        → next_record default_config s [] [] xs ≡ o
        → NextIs o true fields s2 ys
        → AreSeen (records_between s (Some xs)) (fields ∷ []) (records_between s2 (Some ys))
    found xs ys between None e r = cc r
    found xs ys between (Some p) e r = rw (r.1, r.2, r.3) (record-left s xs p between e)

    by : (b : Bool) → ends_at_end s ≡ b → (before after : Option (List ℕ))
        → ReadsNext default_config s before after true fields s2
        → AreSeen (records_between s before) (fields ∷ []) (records_between s2 after)
    by true is before after r = rw is tt
    by false is None after r = rw is tt
    by false is (Some xs) None r = absurd r
    by false is (Some xs) (Some ys) r = found xs ys is (next_record default_config s [] [] xs) refl r

-- a read that found none had none left
pub none-left : (s s2 : State) (before after : Option (List ℕ)) (fields : List (List ℕ))
    → ReadsNext default_config s before after false fields s2
    → IfSome (records_between s before) (λ left. left ≡ [])
none-left s s2 before after fields r = by (ends_at_end s) refl before after r
  where
    none : (xs ys : List ℕ) → ends_at_end s ≡ false → (o : Option Read)
        → next_record default_config s [] [] xs ≡ o
        → NextIs o false fields s2 ys → IfSome (records_between s (Some xs)) (λ left. left ≡ [])
    none xs ys between None e r = rw between (records-none (length xs) s xs e)
    none xs ys between (Some p) e r = cc r.0

    by : (b : Bool) → ends_at_end s ≡ b → (before after : Option (List ℕ))
        → ReadsNext default_config s before after false fields s2
        → IfSome (records_between s before) (λ left. left ≡ [])
    by true is before after r = rw is tt
    by false is None after r = rw is tt
    by false is (Some xs) None r = absurd r
    by false is (Some xs) (Some ys) r = none xs ys is (next_record default_config s [] [] xs) refl r
