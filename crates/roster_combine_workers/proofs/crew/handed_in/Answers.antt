use Rattle.std.proofs.Common.{◌≡◌, ◌++◌, ◌∷◌, List, [], Vec, Global, map, ap, ◌∙◌, subst, arith, Option, Some}
use Rattle.std.specs.Prelude.{IfOk, IfSome}
use Rattle.std.proofs.lemmas.Result.{IfOk-at_ok}
use Rattle.std.proofs.lemmas.List.{map_push}
use Rattle.std.proofs.lemmas.List.Elements.{All-pop, All-push, All-same}
use Rattle.roster_subtreepool.specs.States.{SettledSpan}
use Rattle.roster_combine_workers.specs.Parts.{AreSettled}
use Rattle.roster_combine_workers.proofs.crew.handed_in.Goals as goal

some_part : {X : Type 0} (P : X → Type 0) (r : Option X) (x : X) → r ≡ Some x → IfSome r P → P x
some_part {X} P r x is all = subst (λ (s : Option X). IfSome s P) is all

pub loop-part-preserved : goal.loop-part-preserved
loop-part-preserved g c =
    let items : Vec SettledSpan Global → List SettledSpan = λ list. list.items in
    record {
      shares = omega (arith, c.loop-part.invariant.shares, c.in_ok-push.ensures.len, c.in-Some.ensures.len);
      settled = λ problem table all.
          let before = c.loop-part.invariant.settled problem table all in
          let popped = All-pop (λ part. IfOk part (λ handed. AreSettled problem table handed.1.items)) c.loop-part.parts.items c.pop.new.self.items c.pop.result c.pop.ensures.items before.0 in
          let one = some_part (λ part. IfOk part (λ handed. AreSettled problem table handed.1.items)) c.pop.result c.in-Some.part c.in-Some.is popped.1 in
          let list : AreSettled problem table c.in_ok-share.list.items = IfOk-at_ok (λ handed. AreSettled problem table handed.1.items) c.in_ok-share.was one in (
            popped.0,
            All-same (AreSettled problem table) (map items c.push-in-Some.new.self.items) (map items c.loop-part.lists.items ++ items c.in_ok-share.list ∷ []) (ap (map items) c.in_ok-push-2.ensures.items ∙ map_push items c.loop-part.lists.items c.in_ok-share.list)
                (All-push (AreSettled problem table) (map items c.loop-part.lists.items) c.in_ok-share.list.items before.1 list),
          );
    }

pub returns-clause-settled : goal.returns-clause-settled
returns-clause-settled g c = λ problem table all. (c.loop-part.invariant.settled problem table all).1
