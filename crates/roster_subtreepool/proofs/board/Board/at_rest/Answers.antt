use Rattle.std.proofs.Common.{◌≡◌, List, [], Option, None, All, sym, ap, ◌∙◌, subst, arith}
use Rattle.std.proofs.lemmas.List.{nil_from_length}
use Rattle.roster_subtreepool_spans.specs.Spans.{Span}
use Rattle.roster_subtreepool.specs.States.{State}
use Rattle.roster_subtreepool.proofs.board.Board.at_rest.Goals as goal

pub returns : goal.returns
returns c =
    let hands : c.deref.result.now ≡ c.args.self.now.hands =
    c.deref.ensures.value ∙ ap (λ (s : State). s.hands) c.self.view_is in
    let none : c.args.self.now.pending ≡ [] = nil_from_length _ (omega arith) in
    let are_empty : List (Option Span) → Type 0 = λ xs. All (λ hand. hand ≡ None) xs in (
      λ yes. record { pending = none; hands = subst are_empty hands (c.are_empty.ensures.0 yes) },
      λ rest. c.are_empty.ensures.1 (subst are_empty (sym hands) rest.hands),
    )
