use Rattle.std.proofs.Common.{ap, sym, ◌∙◌, arith}
use Rattle.std.specs.Prelude.{filter}
use Rattle.std.proofs.lemmas.List.{take_all}
use Rattle.roster_search_regions.specs.Tests.{passes}
use Rattle.roster_search_regions.specs.Trees.{lines_after, lines_in, next_path, path_after}
use Rattle.roster_search_regions.proofs.TreeLemmas.{path_at}
use Rattle.roster_search_regions.proofs.Write.{kept_at, read_on}
use Rattle.roster_search_regions.proofs.tree.Tree.copied_passing.Goals as goal

pub loop-i-init : goal.loop-i-init
unfolding path_after lines_after lines_in
loop-i-init c = record {
  there = c.new-path.ensures;
  writing = c.new-writer.ensures;
}

pub keep-requires-clause-known : goal.keep-requires-clause-known
keep-requires-clause-known c = (_, read_on _ _ c.at-choice.result _ _ _ _ c.in_ok-step.ensures c.loop-i.invariant.there c.pass.ensures c.loop-i.invariant.writing)

pub loop-i-preserved : goal.loop-i-preserved
loop-i-preserved c =
    let choices = c.choices-choices.result in
    let item = c.at-choice.result in
    let now = read_on _ _ item _ _ _ _ c.in_ok-step.ensures c.loop-i.invariant.there c.pass.ensures c.loop-i.invariant.writing in
    record {
      there =
          c.in_ok-step.ensures ∙ ap (λ path. next_path path item) c.loop-i.invariant.there
          ∙ sym (path_at choices c.loop-i.i item c.at-choice.ensures.value);
      writing =
          kept_at (λ line. passes c.args.test.now line.set) choices c.loop-i.i item c.passes.result _ _ _ _
          c.at-choice.ensures.value c.in_ok-step.ensures c.loop-i.invariant.there
          c.passes.ensures
          c.in_ok-keep.ensures now;
    }

pub of-requires : goal.of-requires
of-requires c = (_, _, c.loop-i.invariant.writing)

pub returns : goal.returns
returns c =
    let all =
    take_all c.loop-i.i c.choices-choices.result
    (omega (arith, c.loop-i-test.false, c.len-i-end.ensures)) in
    c.of.ensures
    ∙ c.loop-i.invariant.writing.written
    ∙ ap (λ cs. filter (λ line. passes c.args.test.now line.set) (lines_in cs)) all
    ∙ ap (filter (λ line. passes c.args.test.now line.set)) c.choices-choices.ensures
