-- Which outcome an exit status stands for.
use Rattle.std.proofs.Common.{◌≡◌, ℕ, false, nat_eq, eq-eqb, sym, ◌∙◌, refl}
use Rattle.std.proofs.lemmas.Bool.{false≢true}
use Rattle.roster_cli_run.specs.Run.{exit_number}
use Rattle.roster_cli_run.specs.declared.status.Status.{Status}
use Rattle.roster_cli_run.specs.declared.status.Status.TheVariants as statuses

pub differ : (m n : ℕ) → nat_eq m n ≡ false → m ≡ n → ⊥
differ m n apart same = false≢true (sym apart ∙ eq-eqb m n same)

pub is_answered : (status : Status) → exit_number status ≡ 0 → status ≡ statuses.Answered
is_answered statuses.Answered e = refl
is_answered statuses.Refused e = absurd (differ 1 0 refl e)
is_answered statuses.Memory e = absurd (differ 3 0 refl e)
is_answered statuses.ReadFailed e = absurd (differ 4 0 refl e)
is_answered statuses.WriteFailed e = absurd (differ 4 0 refl e)

pub is_refused : (status : Status) → exit_number status ≡ 1 → status ≡ statuses.Refused
is_refused statuses.Answered e = absurd (differ 0 1 refl e)
is_refused statuses.Refused e = refl
is_refused statuses.Memory e = absurd (differ 3 1 refl e)
is_refused statuses.ReadFailed e = absurd (differ 4 1 refl e)
is_refused statuses.WriteFailed e = absurd (differ 4 1 refl e)
