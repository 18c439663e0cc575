-- How a command ends that writes to a writer.
use Rattle.std.specs.Prelude.{◌≡◌, ◌⊎◌, ℕ, List, Option, true}
use Rattle.roster_watched.specs.Watch.{has_failed, inner_of, is_flushed}
use Rattle.roster_watched.specs.declared.watched.Watched.{Watched}
use Rattle.roster_report.specs.Writing.{Writes, WritesPart}
use Rattle.roster_desk_given.specs.declared.status.Status.{Status}
use Rattle.roster_desk_given.specs.declared.status.Status.TheVariants as statuses

-- a text that fits was written, whole and flushed
pub record WritesWhole {W : Type 0} (contents : W → Option (List ℕ)) (IsText : List ℕ → Type 0) (old new : Watched W)
    : Type 0 where
  pub whole : Writes IsText (contents (inner_of old)) (contents (inner_of new))
  pub flushed : is_flushed new ≡ true
  pub goes : has_failed new ≡ has_failed old

-- the writer failed, and holds the first bytes of a text that fits
pub record Fails {W : Type 0} (contents : W → Option (List ℕ)) (IsText : List ℕ → Type 0) (old new : Watched W)
    : Type 0 where
  pub part : WritesPart IsText (contents (inner_of old)) (contents (inner_of new))
  pub failed : has_failed new ≡ true

-- no text fits
abbrev pub Nothing : List ℕ → Type 0
Nothing text = ⊥

-- either of them fits
abbrev pub IsEither : (List ℕ → Type 0) → (List ℕ → Type 0) → List ℕ → Type 0
IsEither IsText IsLine text = IsText text ⊎ IsLine text

-- An answer was written, or the line of a fault; or the writer failed on the way; or nothing was written, for want of
-- memory.
abbrev pub Ends : {W : Type 0} → (W → Option (List ℕ)) → (List ℕ → Type 0) → (List ℕ → Type 0)
    → Watched W → Watched W → Status → Type 0
Ends contents IsText IsLine old new statuses.Answered = WritesWhole contents IsText old new
Ends contents IsText IsLine old new statuses.Refused = WritesWhole contents IsLine old new
Ends contents IsText IsLine old new (statuses.StartRefused line wrong) = ⊥
Ends contents IsText IsLine old new statuses.Memory = new ≡ old
Ends contents IsText IsLine old new statuses.ReadFailed = ⊥
Ends contents IsText IsLine old new statuses.WriteFailed = Fails contents (IsEither IsText IsLine) old new
Ends contents IsText IsLine old new statuses.Closed = Fails contents (IsEither IsText IsLine) old new
