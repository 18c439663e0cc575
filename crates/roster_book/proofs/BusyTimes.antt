-- The times at which a person is busy, looked through one entry after another.
use Rattle.std.proofs.Common.{◌≡◌, ℕ, Bool, true, false, cond, ◌&&◌, ◌||◌, List, [], ◌∷◌, map, refl, sym, ap, ap₂, ◌∙◌}
use Rattle.std.specs.List.{filter, list_any}
use Rattle.std.proofs.lemmas.List.Folds.{list_any-append}
use Rattle.roster_model.specs.Busy.{is_busy, shares_minute, time_of_duty, time_of_leave}
use Rattle.roster_model.specs.Problem.{Problem}
use Rattle.roster_model.specs.records.Duty.{is_held_by_person}
use Rattle.roster_model.specs.records.Leave.{is_leave_of}

any_of_person : {X T : Type 0} (test : X → Bool) (time : X → T) (shares : T → Bool) (xs : List X)
    → list_any (λ x. test x && shares (time x)) xs ≡ list_any shares (map time (filter test xs))
any_of_person test time shares [] = refl
any_of_person {X} {T} test time shares (x ∷ xs) =
    let P : Bool → Type 0 = λ b. ((b && shares (time x)) || list_any (λ y. test y && shares (time y)) xs) ≡ list_any shares (map time (cond b (x ∷ filter test xs) (filter test xs))) in
    elim (test x) as P [
      | true ↦ ap (λ b. shares (time x) || b) (any_of_person test time shares xs)
      | false ↦ any_of_person test time shares xs
    ]

-- a person is busy with fixed duties or on leave
pub busy_with : (tables : Problem) (k from to : ℕ) (on_duty on_leave : Bool) → on_duty ≡ list_any (λ duty. is_held_by_person k duty.holder && shares_minute from to (time_of_duty duty)) tables.duties → on_leave ≡ list_any (λ leave. is_leave_of k leave && shares_minute from to (time_of_leave leave)) tables.leaves → (on_duty || on_leave) ≡ is_busy tables k from to
busy_with tables k from to on_duty on_leave duties leaves =
    ap₂ (λ a b. a || b)
    (duties ∙ any_of_person (λ duty. is_held_by_person k duty.holder) time_of_duty (shares_minute from to) tables.duties)
    (leaves ∙ any_of_person (is_leave_of k) time_of_leave (shares_minute from to) tables.leaves)
    ∙ sym (list_any-append (shares_minute from to) _ _)
