-- Duties that share no minute with the leaves at some positions.
use Rattle.std.proofs.Common.{◌≡◌, ℕ, ◌<◌, List, [], ◌∷◌, ◌++◌, length, get_or, Option, Some, None, refl, sym, ap, subst, ◌∙◌}
use Rattle.std.specs.Prelude.{All, slice_get}
use Rattle.std.specs.Option.{option_to_list}
use Rattle.std.proofs.lemmas.List.Elements.{All-nil, All-cons, All-head, All-tail}
use Rattle.std.proofs.lemmas.Option.{same_Some, slice_get-get_or}
use Rattle.roster_model.specs.records.Leave.{Leave}
use Rattle.roster_problem.specs.Duties.{picked}

-- what holds of the element at a position, if there is one
abbrev pub HoldsAt : {X : Type 0} → (X → Type 0) → List X → ℕ → Type 0
HoldsAt {X} P xs i = (x : X) → slice_get xs i ≡ Some x → P x

option_with : {X : Type 0} (P : X → Type 0) (o : Option X) (ys : List X) → ((x : X) → o ≡ Some x → P x)
    → All P ys → All P (option_to_list o ++ ys)
option_with P None ys here rest = rest
option_with P (Some x) ys here rest = All-cons P x ys (here x refl) rest

option_without : {X : Type 0} (P : X → Type 0) (o : Option X) (ys : List X) → All P (option_to_list o ++ ys)
    → ((x : X) → o ≡ Some x → P x) × All P ys
option_without P None ys all = (λ x h. cc, all)
option_without P (Some y) ys all =
    (λ x h. subst P (same_Some y x h) (All-head P y ys all), All-tail P y ys all)

-- what holds of the elements at some positions, at each of the positions, and the other way round
pub All-picked : {X : Type 0} (P : X → Type 0) (xs : List X) (positions : List ℕ)
    → All (HoldsAt P xs) positions → All P (picked xs positions)
All-picked P xs [] all = All-nil P
All-picked P xs (i ∷ positions) all =
    option_with P (slice_get xs i) (picked xs positions) (All-head (HoldsAt P xs) i positions all)
    (All-picked P xs positions (All-tail (HoldsAt P xs) i positions all))

pub All-at_picked : {X : Type 0} (P : X → Type 0) (xs : List X) (positions : List ℕ)
    → All P (picked xs positions) → All (HoldsAt P xs) positions
All-at_picked P xs [] all = All-nil (HoldsAt P xs)
All-at_picked P xs (i ∷ positions) all =
    let parts = option_without P (slice_get xs i) (picked xs positions) all in
    All-cons (HoldsAt P xs) i positions parts.0 (All-at_picked P xs positions parts.1)

-- the leave at a position that some code has read
pub leave_at : (read leaves : List Leave) (positions : List ℕ) (i p : ℕ) (leave : Leave) → read ≡ leaves
    → All (λ q. q < length leaves) positions → i < length positions → p ≡ get_or positions i 0
    → leave ≡ get_or read p leave → slice_get leaves (get_or positions i 0) ≡ Some leave
leave_at read leaves positions i p leave same within inside place at =
    slice_get-get_or leaves (get_or positions i 0) leave (within i 0 inside)
    ∙ ap Some (ap (λ q. get_or leaves q leave) (sym place) ∙ ap (λ ls. get_or ls p leave) (sym same) ∙ sym at)
