-- How a command ends, where its text fits what is promised.
use Rattle.std.proofs.Common.{◌≡◌, ◌⊎◌, ℕ, List, Option, inl, inr, subst, sym}
use Rattle.roster_watched.specs.declared.watched.Watched.{Watched}
use Rattle.roster_desk_given.specs.declared.status.Status.{Status}
use Rattle.roster_desk_given.specs.declared.status.Status.TheVariants as statuses
use Rattle.roster_desk_answers.specs.Ending.{Ends, Fails, IsEither, Nothing, WritesWhole}

either : (P Q R S : List ℕ → Type 0) → ((text : List ℕ) → P text → R text) → ((text : List ℕ) → Q text → S text)
    → (text : List ℕ) → IsEither P Q text → IsEither R S text
either P Q R S first second text (inl is) = inl (first text is)
either P Q R S first second text (inr is) = inr (second text is)

writes : {W : Type 0} → (contents : W → Option (List ℕ)) (P R : List ℕ → Type 0) (old new : Watched W)
    → ((text : List ℕ) → P text → R text) → WritesWhole contents P old new → WritesWhole contents R old new
writes contents P R old new more is = record {
  whole = (is.whole.0, more is.whole.0 is.whole.1, is.whole.2);
  flushed = is.flushed;
  goes = is.goes;
}

fails : {W : Type 0} → (contents : W → Option (List ℕ)) (P R : List ℕ → Type 0) (old new : Watched W)
    → ((text : List ℕ) → P text → R text) → Fails contents P old new → Fails contents R old new
fails contents P R old new more is = record {
  part = (is.part.0, more is.part.0 is.part.1, is.part.2);
  failed = is.failed;
}

-- what fits is promised
pub ends : {W : Type 0} → (contents : W → Option (List ℕ)) (P Q R S : List ℕ → Type 0) (old new : Watched W)
    (status : Status) → ((text : List ℕ) → P text → R text) → ((text : List ℕ) → Q text → S text)
    → Ends contents P Q old new status → Ends contents R S old new status
ends contents P Q R S old new statuses.Answered first second is = writes contents P R old new first is
ends contents P Q R S old new statuses.Refused first second is = writes contents Q S old new second is
ends contents P Q R S old new (statuses.StartRefused line wrong) first second is = is
ends contents P Q R S old new statuses.Memory first second is = is
ends contents P Q R S old new statuses.ReadFailed first second is = is
ends contents P Q R S old new statuses.WriteFailed first second is =
    fails contents (IsEither P Q) (IsEither R S) old new (either P Q R S first second) is
ends contents P Q R S old new statuses.Closed first second is =
    fails contents (IsEither P Q) (IsEither R S) old new (either P Q R S first second) is

-- the text that was written is promised
pub ends_by_text : {W : Type 0} → (contents : W → Option (List ℕ)) (R S : List ℕ → Type 0) (old new : Watched W)
    (status : Status) (text : List ℕ) → R text
    → Ends contents (λ written. written ≡ text) Nothing old new status → Ends contents R S old new status
ends_by_text contents R S old new status text fits is =
    ends contents (λ written. written ≡ text) Nothing R S old new status (λ written e. subst R (sym e) fits)
    (λ written none. absurd none) is

-- the line that was written is promised
pub ends_by_line : {W : Type 0} → (contents : W → Option (List ℕ)) (R S : List ℕ → Type 0) (old new : Watched W)
    (status : Status) → Ends contents Nothing S old new status → Ends contents R S old new status
ends_by_line contents R S old new status is =
    ends contents Nothing S R S old new status (λ written none. absurd none) (λ line e. e) is
