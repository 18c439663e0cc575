use Rattle.std.proofs.Common.{◌≡◌, length, map, sym, ap, subst, ◌∙◌, arith}
use Rattle.std.specs.List.{list_all}
use Rattle.std.proofs.lemmas.List.{length-map}
use Rattle.roster_model.specs.Rules.{is_among}
use Rattle.roster_search_regions.specs.Building.{allowed_in}
use Rattle.roster_search_regions.specs.Marks.{picked}
use Rattle.roster_search_regions.specs.Trees.{ArePossible}
use Rattle.roster_search_regions.proofs.MarkLemmas.{picked-all}
use Rattle.roster_search_regions.proofs.RowLemmas.{nothing-certain}
use Rattle.roster_search_regions.proofs.tree.Tree.whole.Goals as goal

pub invariant_of-result : goal.invariant_of-result
invariant_of-result c =
    let lines = c.new-all.result in
    let is : picked lines.marks lines.all ≡ map (allowed_in c.args.scale c.args.lines) c.args.lines =
    ap (λ marks. picked marks lines.all) c.new-all.ensures.marks ∙ picked-all lines.all
    ∙ c.new-all.ensures.all in
    record {
      limited = tt;
      some =
          subst
          (λ ls. ArePossible ls c.possible-possible.result) c.rows.ensures.lines c.possible-possible.ensures;
      all = λ some p.
          ap (λ set. is_among set p) c.empty-certain.ensures
          ∙ sym (ap (list_all (λ line. is_among line.set p)) is ∙ nothing-certain c.args.scale c.args.lines c.args.lines p c.requires.first);
      number = omega (arith, c.width-count.ensures.value, ap length c.lines.ensures, ap length is, length-map c.args.lines (allowed_in c.args.scale c.args.lines));
    }

pub returns : goal.returns
returns c =
    let lines = c.new-all.result in
    ap (λ marks. picked marks lines.all) c.new-all.ensures.marks ∙ picked-all lines.all
    ∙ c.new-all.ensures.all
