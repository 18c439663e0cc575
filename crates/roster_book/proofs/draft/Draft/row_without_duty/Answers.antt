use Rattle.std.proofs.Common.{◌≡◌, ◌∙◌, ◌<◌, ℕ, Bool, false, sym, ap, Some, length, get_or, refl, arith}
use Rattle.std.specs.List.{list_any}
use Rattle.roster_model.specs.records.Duty.{is_held_by_pairing}
use Rattle.roster_book.proofs.Enumerated.{first_without_is, none_without}
use Rattle.roster_book.proofs.draft.Draft.row_without_duty.Goals as goal

pub returns-then-not-has_duty_of : goal.returns-then-not-has_duty_of
returns-then-not-has_duty_of c =
    let has : ℕ → Bool = λ k. list_any (λ duty. is_held_by_pairing k duty.holder) c.args.self.now.duties in
    let within : c.loop-place.place < length c.args.self.now.tables.pairings.items =
    rw c.deref-pairing-items.ensures.value at c.loop-place-test.true in
    let item : c.pairing-item.result
    ≡ get_or c.args.self.now.tables.pairings.items c.loop-place.place c.pairing-item.result =
    rw c.deref-pairing-items.ensures.value at c.pairing-item.is in
    let without : has c.loop-place.place ≡ false = sym c.has_duty_of.ensures ∙ c.if-not-has_duty_of.true in
    let found = first_without_is has c.args.self.now.tables.pairings.items c.loop-place.place c.pairing-item.result within item c.loop-place.invariant without in
    rw found (ap (λ pairing. Some pairing.row) c.pairing.view_is)

pub returns : goal.returns
returns c =
    let has : ℕ → Bool = λ k. list_any (λ duty. is_held_by_pairing k duty.holder) c.args.self.now.duties in
    let all =
    none_without has c.args.self.now.tables.pairings.items
    (λ k l. c.loop-place.invariant k (omega (arith, l))) in
    rw all refl
