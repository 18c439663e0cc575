use Rattle.std.proofs.Common.{◌||◌, w64, refl, sym, ap, ◌∙◌, arith}
use Rattle.std.proofs.lemmas.Int.{to_z-of_z}
use Rattle.roster_model.specs.Rules.{is_among}
use Rattle.roster_search_regions.specs.Regions.{allowed}
use Rattle.roster_search_regions.proofs.Write.{IsWriting-live}
use Rattle.roster_search_regions.proofs.TreeLemmas.{length-lines_in}
use Rattle.roster_search_regions.proofs.writer.Writer.write.Goals as goal

pub overflow_add-self : goal.overflow_add-self
overflow_add-self c =
    let is = c.in_ok-reach.ensures.same c.requires.known.0 c.requires.known.1 in
    let few = length-lines_in c.reach.new.self.choices.items in
    omega (arith, is.tree.number, few)

pub returns : goal.returns
returns c lines before =
    let is = c.in_ok-reach.ensures.same lines before in
    let same = to_z-of_z w64 c.args.extra c.ranges.extra in
    IsWriting-live c.reach.new.self _ c.args.path.now lines _ c.args.extra same is c.in_ok-reach.ensures.there c.in_ok-push.ensures.items
    (λ p. c.or-self.ensures p ∙ ap (λ b. is_among c.reach.new.self.possible p || b) (c.set-set.ensures p))
    (c.certain_with-certain.ensures c.args.path.now lines (allowed c.args.path.now c.args.extra) is (λ p. sym (c.set-set.ensures p)))
    refl c.length-depth.ensures.value
    (record {
      depth = omega (arith, c.length-depth.ensures.bound);
      last = c.last_or_none-last.ensures.bound;
      extra = rw same c.requires.extra;
    })
    refl c.length-depth.ensures.value c.last_or_none-last.ensures.value
