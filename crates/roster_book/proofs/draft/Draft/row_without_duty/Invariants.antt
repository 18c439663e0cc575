use Rattle.std.proofs.Common.{◌≡◌, ℕ, ◌<◌, true}
use Rattle.std.specs.List.{list_any}
use Rattle.roster_model.specs.records.Duty.{is_held_by_pairing}
use Rattle.roster_book.proofs.draft.Draft.row_without_duty.Given as goal

-- each pairing before this one has a duty
abbrev pub invariant-loop-place : goal.invariant-loop-place
invariant-loop-place l =
    (k : ℕ) → k < l.place → list_any (λ duty. is_held_by_pairing k duty.holder) l.self.duties ≡ true
