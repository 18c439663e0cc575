use Rattle.std.proofs.Common.{◌<◌, [], ◌∷◌, ◌++◌, length, refl, sym, subst, inl, inr, arith}
use Rattle.std.proofs.lemmas.Bool.{both_ways}
use Rattle.roster_model.specs.Places.{set_of}
use Rattle.roster_plan.proofs.KeptLemmas.{legal_as, next_places, next_set}
use Rattle.roster_plan.proofs.kept.next_kept.Goals as goal

pub is_legal-requires-clause-places : goal.is_legal-requires-clause-places
is_legal-requires-clause-places c =
    let kept = c.args.kept.now in
    let number = c.args.number in
    let set = next_set kept c.of_places-set.result c.put.new.self c.from-k.result number c.of_places-set.ensures c.from-k.ensures c.put.ensures.last in
    next_places kept c.put.new.self number (length c.args.judge.now.pairings) set
    (subst (λ problem. length kept < length problem.pairings) (sym c.requires.judge) c.requires.more)

pub returns-then-branch-clause-next : goal.returns-then-branch-clause-next
returns-then-branch-clause-next c =
    let kept = c.args.kept.now in
    let number = c.args.number in
    let set = next_set kept c.of_places-set.result c.put.new.self c.from-k.result number c.of_places-set.ensures c.from-k.ensures c.put.ensures.last in
    inl (λ person. legal_as c.args.judge.now c.args.problem.now c.from-k.result number c.put.new.self (set_of number kept ++ length kept ∷ []) c.requires.judge c.from-k.ensures set (c.in_ok-is_legal.ensures.value.0 c.if-branch.true), refl)

pub returns-else-branch-clause-next : goal.returns-else-branch-clause-next
returns-else-branch-clause-next c =
    let kept = c.args.kept.now in
    let number = c.args.number in
    let set = next_set kept c.of_places-set.result c.put.new.self c.from-k.result number c.of_places-set.ensures c.from-k.ensures c.put.ensures.last in
    inr (
      λ fits. both_ways _ c.if-branch.false (c.in_ok-is_legal.ensures.value.1
          (legal_as c.args.problem.now c.args.judge.now number c.from-k.result (set_of number kept ++ length kept ∷ []) c.put.new.self (sym c.requires.judge) (sym c.from-k.ensures) (sym set)
          (fits (omega (arith, c.if-number-nobody.false, c.open_number-nobody.ensures.value))))),
      c.open_number-nobody.ensures.value,
    )
