use Rattle.std.proofs.Common.{◌≡◌, ℕ, Bool, true, false, not, List, [], ◌∷◌, refl, sym, subst, ◌∙◌, arith}
use Rattle.std.specs.Prelude.{filter}
use Rattle.roster_model.specs.Rules.{is_among}
use Rattle.roster_search_regions.specs.Held.{lines_held}
use Rattle.roster_search_regions.specs.Regions.{AllowedLine}
use Rattle.roster_search_regions.specs.Trees.{agrees, AreCertain}
use Rattle.roster_search_regions.proofs.ListLemmas.{filter-all, filter-none}
use Rattle.roster_search_regions.proofs.tree.Tree.keeps_all.Goals as goal

not_true : (b : Bool) → not b ≡ true → b ≡ false
not_true false h = refl
not_true true h = sym h

certain_keeps : (lines : List AllowedLine) (certain : List ℕ) (p : ℕ) → AreCertain lines certain
    → is_among certain p ≡ true → filter (λ line. is_among line.set p) lines ≡ lines
certain_keeps [] certain p are has = refl
certain_keeps (line ∷ lines) certain p are has =
    filter-all (λ line. is_among line.set p) (line ∷ lines) (sym (are (omega arith) p) ∙ has)

pub returns-then-wanted : goal.returns-then-wanted
returns-then-wanted c = λ has.
    subst
    (λ lines. filter (λ line. agrees c.args.wanted (is_among line.set c.args.p)) lines ≡ lines) c.self.view_is
    (subst (λ wanted. filter (λ line. agrees wanted (is_among line.set c.args.p)) (lines_held c.self.inside.held) ≡ lines_held c.self.inside.held) (sym c.if-wanted.true)
    (certain_keeps (lines_held c.self.inside.held) c.self.inside.certain c.args.p c.self.invariant.all (sym c.has.ensures.value ∙ has)))

pub returns-else-wanted : goal.returns-else-wanted
returns-else-wanted c = λ hasnt.
    subst
    (λ lines. filter (λ line. agrees c.args.wanted (is_among line.set c.args.p)) lines ≡ lines) c.self.view_is
    (subst (λ wanted. filter (λ line. agrees wanted (is_among line.set c.args.p)) (lines_held c.self.inside.held) ≡ lines_held c.self.inside.held) (sym c.if-wanted.false)
    (filter-none (λ line. is_among line.set c.args.p) (lines_held c.self.inside.held) (sym (c.self.invariant.some c.args.p) ∙ sym c.has-else-wanted.ensures.value ∙ not_true c.has-else-wanted.result hasnt)))
