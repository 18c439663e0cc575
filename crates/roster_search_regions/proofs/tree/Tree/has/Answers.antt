use Rattle.std.proofs.Common.{[], take, sym, ap, ◌∙◌, subst, arith}
use Rattle.std.specs.Prelude.{All, Contains}
use Rattle.std.proofs.lemmas.Bool.{both_ways}
use Rattle.std.proofs.lemmas.List.{take_all}
use Rattle.roster_model.specs.Rules.{is_among}
use Rattle.roster_search_regions.specs.Regions.{allowed}
use Rattle.roster_search_regions.specs.Trees.{lines_in, next_path, path_after, HasJust}
use Rattle.roster_search_regions.proofs.TreeLemmas.{path_at, All-lines_at, All-lines_none, Contains-at}
use Rattle.roster_search_regions.proofs.tree.Tree.has.Goals as goal
use Rattle.roster_search_regions.proofs.tree.Tree.has.Goals.{else-choice-via-then-choice+else-same, else-choice-via-else-choice}

pub loop-i-init : goal.loop-i-init
unfolding path_after
loop-i-init c = record {
  there = c.new-path.ensures;
  none = All-lines_none (λ line. ¬ HasJust c.args.set.now line);
}

pub returns-then-same : goal.returns-then-same
returns-then-same c =
    let choices = c.choices-choices.result in
    let item = c.at-choice.result in
    let there = c.in_ok-step.ensures ∙ ap (λ path. next_path path item) c.loop-i.invariant.there in
    let found = Contains-at choices c.loop-i.i item c.at-choice.ensures.value c.if-choice.true in (
      _,
      subst (λ lines. Contains lines (allowed (next_path (path_after [] (take c.loop-i.i choices)) item) item.extra)) c.choices-choices.ensures found,
      λ p. ap (λ set. is_among set p) (sym there) ∙ c.is_same-same.ensures.0 c.if-same.true p,
    )

pub loop-i-preserved : goal.loop-i-preserved
loop-i-preserved c =
    let choices = c.choices-choices.result in
    let item = c.at-choice.result in
    let there = c.in_ok-step.ensures ∙ ap (λ path. next_path path item) c.loop-i.invariant.there in
    record {
      there = there ∙ sym (path_at choices c.loop-i.i item c.at-choice.ensures.value);
      none = All-lines_at (λ line. ¬ HasJust c.args.set.now line) choices c.loop-i.i item c.at-choice.ensures.value c.loop-i.invariant.none
          (λ live. λ just. elim c.else-choice.branch [
            | else-choice-via-then-choice+else-same w ↦ both_ways c.is_same-same.result w.if-same.false (c.is_same-same.ensures.1 (λ p. ap (λ set. is_among set p) there ∙ just p))
            | else-choice-via-else-choice w ↦ both_ways _ w.if-choice.false live
          ]);
    }

pub returns : goal.returns
returns c =
    let none = subst (λ cs. All (λ line. ¬ HasJust c.args.set.now line) (lines_in cs)) (take_all c.loop-i.i c.choices-choices.result (omega (arith, c.loop-i-test.false, c.len-i-end.ensures))) c.loop-i.invariant.none in
    subst (All (λ line. ¬ HasJust c.args.set.now line)) c.choices-choices.ensures none
