-- What holds of the bytes of a report, and which ending a status stands for.
use Rattle.std.proofs.Common.{◌≡◌, ℕ, false, nat_eq, List, Option, Some, None, eq-eqb, sym, ◌∙◌, refl}
use Rattle.std.proofs.lemmas.Bool.{false≢true}
use Rattle.roster_desk_program.specs.Ending.{OfBytes, OfReport, ending_number}
use Rattle.roster_desk_program.specs.declared.ending.Ending.{Ending}
use Rattle.roster_desk_program.specs.declared.ending.Ending.TheVariants as endings

of_bytes : (P Q : Option (List ℕ) → Type 0) → ((report : Option (List ℕ)) → P report → Q report)
    → (known : Option (List ℕ)) → OfBytes (λ bytes. P (Some bytes)) known → OfBytes (λ bytes. Q (Some bytes)) known
of_bytes P Q more None w = (w.0, more (Some w.0) w.1)
of_bytes P Q more (Some bytes) p = more (Some bytes) p

pub of_report : (P Q : Option (List ℕ) → Type 0) → ((report : Option (List ℕ)) → P report → Q report)
    → (bytes_at : List ℕ → Option (List ℕ)) (start : Option (List ℕ)) → OfReport P bytes_at start
    → OfReport Q bytes_at start
of_report P Q more bytes_at None p = more None p
of_report P Q more bytes_at (Some path) p = of_bytes P Q more (bytes_at path) p

differ : (m n : ℕ) → nat_eq m n ≡ false → m ≡ n → ⊥
differ m n apart same = false≢true (sym apart ∙ eq-eqb m n same)

pub is_planned : (ending : Ending) → ending_number ending ≡ 0 → ending ≡ endings.Planned
is_planned endings.Planned e = refl
is_planned endings.Faulty e = absurd (differ 1 0 refl e)
is_planned (endings.StartRefused line wrong) e = absurd (differ 1 0 refl e)
is_planned (endings.TooLong path) e = absurd (differ 1 0 refl e)
is_planned endings.InPlace e = absurd (differ 2 0 refl e)
is_planned endings.Shared e = absurd (differ 2 0 refl e)
is_planned endings.Memory e = absurd (differ 3 0 refl e)
is_planned (endings.Unopened path) e = absurd (differ 4 0 refl e)
is_planned (endings.Unread path) e = absurd (differ 4 0 refl e)
is_planned endings.InputUnread e = absurd (differ 4 0 refl e)
is_planned endings.Unwritten e = absurd (differ 4 0 refl e)
is_planned endings.Unkept e = absurd (differ 4 0 refl e)
is_planned endings.Forgotten e = absurd (differ 4 0 refl e)
