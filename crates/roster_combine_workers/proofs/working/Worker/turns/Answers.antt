use Rattle.std.proofs.Common.{◌≡◌, ◌+◌, Option, sym, ap, ◌∙◌, subst, arith}
use Rattle.std.specs.Prelude.{IfSome, MatchOption}
use Rattle.std.proofs.lemmas.List.Elements.{All-push, All-same}
use Rattle.roster_model.specs.Rosters.{Key}
use Rattle.roster_model.specs.Settled.{IsHeld}
use Rattle.roster_subtreepool.specs.States.{SettledSpan}
use Rattle.roster_combine_workers.specs.Parts.{IsSettled}
use Rattle.roster_combine_workers.proofs.working.Worker.turns.Goals as goal

pub loop-preserved : goal.loop-preserved
loop-preserved g c =
    let problem = c.args.self.now.problem in
    let table = c.args.self.now.table in
    let one : IsSettled problem table c.in-Some-2.settled = subst (λ (got : Option SettledSpan). IfSome got (IsSettled problem table)) c.in-Some-2.is c.in_ok-settled.ensures.settled in
    let counted : c.turn.new.share ≡ c.loop.share + 1 = subst (λ (got : Option SettledSpan). MatchOption got (c.turn.new.share ≡ c.loop.share) (λ _. c.turn.new.share ≡ c.loop.share + 1)) c.in-Some-2.is c.in_ok-settled.ensures.counted in
    record {
      known = subst (λ (key : Key). IsHeld problem key) (sym (c.in_ok-known-in-Some-2.ensures ∙ ap (λ (part : SettledSpan). part.best) c.settled.view_is)) one.held;
      settled = All-same (IsSettled problem table) _ _ c.in_ok-push-in-Some-2.ensures.items (All-push (IsSettled problem table) c.loop.list.items c.in-Some-2.settled c.loop.invariant.settled one);
      counted = omega (arith, counted, c.loop.invariant.counted, c.in_ok-push-in-Some-2.ensures.len);
    }
