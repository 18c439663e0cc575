use Rattle.std.proofs.Common.{length, sym, ◌∙◌, subst, arith, rules}
use Rattle.std.specs.Prelude.{IfOk, IsSomeAnd}
use Rattle.std.proofs.lemmas.Iterator.Adapters.{YieldsList-from_vec}
use Rattle.std.proofs.lemmas.Iterator.Consumers.{YieldsList-turn, YieldsList-end}
use Rattle.std.proofs.lemmas.List.{length_push}
use Rattle.roster_model.proofs.PushLemmas.{each-next}
use Rattle.roster_lines.specs.AllPairs.{IsJudged}
use Rattle.roster_lines.specs.Listing.{ArePairs}
use Rattle.roster_lines.proofs.pairs_by_threads.pairs_in.Goals as goal

pub loop-one-preserved : goal.loop-one-preserved
loop-one-preserved c =
    let judged = c.args.judged.items in
    let so_far = c.loop-one.invariant in
    let k = length c.loop-one.yielded in
    let turn = YieldsList-turn (YieldsList-from_vec {s = c.into_iter-one-iterator.result} judged (search rules) (search rules)) c.loop-one.yielded c.loop-one.one-iterator c.loop-one.yielded_by c.next.result c.next.new.self c.in-Some.one c.in-Some.is c.next.ensures.steps in
    let here : IsJudged c.args.problem.now k c.in-Some.one =
    subst (IsJudged c.args.problem.now k) (sym turn.1)
    (c.requires.each k c.in-Some.one (omega (arith, turn.0, c.requires.long))) in
    let asked : IfOk c.found.result (ArePairs c.args.problem.now k) =
    subst (λ one. IsSomeAnd one (λ found. IfOk found (ArePairs c.args.problem.now k))) c.found.ensures here in
    let found : ArePairs c.args.problem.now k c.in_ok-found.field-0 =
    subst (λ found. IfOk found (ArePairs c.args.problem.now k)) c.in_ok-found.was asked in
    let next = each-next (ArePairs c.args.problem.now) k c.loop-one.all.items c.push.new.self.items c.in_ok-found.field-0 c.in_ok-push.ensures.items so_far.long so_far.each found in
    record { long = next.0 ∙ sym (length_push c.loop-one.yielded c.in-Some.one); each = next.1 }

pub returns : goal.returns
returns c =
    let judged = c.args.judged.items in
    let so_far = c.loop-one.invariant in
    let end = YieldsList-end (YieldsList-from_vec {s = c.into_iter-one-iterator.result} judged (search rules) (search rules)) c.loop-one.yielded c.loop-one.one-iterator c.loop-one.yielded_by c.next.result c.next.new.self c.in-None.is c.next.ensures.steps in
    record { long = so_far.long ∙ end.1 ∙ c.requires.long; each = so_far.each }
