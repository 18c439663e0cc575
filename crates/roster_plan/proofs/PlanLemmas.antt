-- A plan is the earliest of some legal rosters.
use Rattle.std.proofs.Common.{◌≡◌, ℕ, true, List, refl, sym, subst, inl, inr, ℤ}
use Rattle.std.specs.Prelude.{◌⊎◌}
use Rattle.roster_model.specs.Problem.{Problem}
use Rattle.roster_model.specs.Plans.{IsKeptOf, IsPlan, all_open}
use Rattle.roster_model.specs.Rosters.{IsLegalRoster, Key, key_le, key_of}
use Rattle.roster_model.specs.Settled.{IsHeld, IsLowerBound}
use Rattle.roster_model.proofs.KeyLemmas.{key_le-trans}
use Rattle.roster_model.proofs.RosterLemmas.{all_open_legal}

-- a legal roster with its cost
pub held : (problem : Problem) (places : List ℕ) (key : Key) → key ≡ key_of problem places
    → IsLegalRoster problem places → IsHeld problem key
held problem places key is legal = subst (IsHeld problem) (sym is) (record { legal = legal; cost = refl })

-- one of two that are held is held
either : (problem : Problem) (a b key : Key) → IsHeld problem a → IsHeld problem b → (key ≡ a) ⊎ (key ≡ b)
    → IsHeld problem key
either problem a b key first second (inl is) = subst (IsHeld problem) (sym is) first
either problem a b key first second (inr is) = subst (IsHeld problem) (sym is) second

-- the earlier one of what is kept and of no pairings at all is held
pub chosen_held : (problem : Problem) (kept : List ℕ) (start open_one known : Key)
    → IsLegalRoster problem kept
    → start ≡ key_of problem kept → open_one ≡ key_of problem (all_open problem)
    → (known ≡ start) ⊎ (known ≡ open_one) → IsHeld problem known
chosen_held problem kept start open_one known legal starts opens from =
    either problem start open_one known (held problem kept start starts legal)
    (held problem (all_open problem) open_one opens (all_open_legal problem)) from

pub planned : (problem : Problem) (given kept : List ℕ) (start open_one known final : Key) (bound : ℤ)
    → IsKeptOf problem given kept → IsHeld problem final → IsLowerBound problem bound
    → start ≡ key_of problem kept → open_one ≡ key_of problem (all_open problem)
    → key_le known start ≡ true → key_le known open_one ≡ true → key_le final known ≡ true
    → IsPlan problem given final bound
planned problem given kept start open_one known final bound is_kept is_held bounded starts opens not_after_start not_after_open better =
    record {
      held = is_held;
      kept = kept;
      is_kept = is_kept;
      not_after_kept =
          subst (λ k. key_le final k ≡ true) starts (key_le-trans final known start better not_after_start);
      not_after_open =
          subst (λ k. key_le final k ≡ true) opens (key_le-trans final known open_one better not_after_open);
      bounded = bounded;
    }
