-- The duty of a pairing that was given last, one duty at a time.
use Rattle.std.proofs.Common.{◌≡◌, ℕ, ◌+◌, ◌<◌, Bool, true, false, cond, List, [], ◌∷◌, ◌++◌, length, take, get_or, Option, Some, None, refl, ◌∙◌, ap, append-nil}
use Rattle.std.specs.List.{last_or, filter}
use Rattle.std.proofs.lemmas.List.Elements.{filter_more}
use Rattle.roster_model.specs.records.Duty.{Duty, is_held_by_pairing, last_duty}

last_or-push : {X : Type 0} (o : Option X) (xs : List X) (x : X) → last_or o (xs ++ x ∷ []) ≡ Some x
last_or-push o [] x = refl
last_or-push o (y ∷ xs) x = last_or-push (Some y) xs x

last_of_more : (held : Bool) (so_far : List Duty) (duty : Duty)
    → last_or None (so_far ++ cond held (duty ∷ []) []) ≡ cond held (Some duty) (last_or None so_far)
last_of_more true so_far duty = last_or-push None so_far duty
last_of_more false so_far duty = rw append-nil refl

pub last_more : (place : ℕ) (duties : List Duty) (i : ℕ) (d : Duty) → i < length duties
    → last_duty (take (i + 1) duties) place
    ≡ cond (is_held_by_pairing place (get_or duties i d).holder) (Some (get_or duties i d)) (last_duty (take i duties) place)
last_more place duties i d h =
    ap (last_or None) (filter_more (λ duty. is_held_by_pairing place duty.holder) duties i d h)
    ∙ last_of_more (is_held_by_pairing place (get_or duties i d).holder) (filter (λ duty. is_held_by_pairing place duty.holder) (take i duties)) (get_or duties i d)
