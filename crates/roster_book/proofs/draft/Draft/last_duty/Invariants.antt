use Rattle.std.proofs.Common.{◌≡◌, option_map, take}
use Rattle.roster_model.specs.records.Duty.{last_duty}
use Rattle.roster_book.proofs.draft.Draft.last_duty.Given as goal

-- the last of the duties seen so far
abbrev pub invariant-loop-duty : goal.invariant-loop-duty
invariant-loop-duty l =
    option_map (λ duty. duty.now) l.last ≡ last_duty (take l.duty-index l.self.duties) l.place
