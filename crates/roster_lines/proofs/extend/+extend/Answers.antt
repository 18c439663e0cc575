use Rattle.std.proofs.Common.{◌≡◌, ℕ, ◌+◌, ◌<◌, ◌≤◌, false, [], ◌∷◌, ◌++◌, length, List, Some, SFits, w64, sym, ap, subst, ◌∙◌, arith, rules}
use Rattle.std.specs.Prelude.{All, slice_get}
use Rattle.std.proofs.lemmas.Int.{to_z-of_z}
use Rattle.std.proofs.lemmas.List.{length_push}
use Rattle.std.proofs.lemmas.Option.{slice_get_within, get_or_from_slice_get}
use Rattle.roster_model.specs.Costs.{line_cost}
use Rattle.roster_model.specs.Lines.{IsLine}
use Rattle.roster_model.specs.Places.{places_le}
use Rattle.roster_model.proofs.SetLemmas.{length_within}
use Rattle.roster_lines_table.specs.Entries.{Entry, sets_of}
use Rattle.roster_lines_table.specs.Person.{AreCosted}
use Rattle.roster_lines_table.proofs.TreeLemmas.{length-sets_of}
use Rattle.roster_lines.specs.Listing.{HoldOnly, IsUpTo, judged_as}
use Rattle.roster_lines.proofs.Marks.{get_push_new, get_push_old, HasMoreLines-push, IsUpTo-push, IsUpTo-return}
use Rattle.roster_lines.proofs.Stems.{costs_pushed, line_there, no_line_there, longer_set, past_candidate, sets_pushed, up_to_candidate}
use Rattle.roster_lines.proofs.extend.+extend.Given as given
use Rattle.roster_lines.proofs.extend.+extend.Goals.{In-Some, In-Some-2, in-Some-2+else-width-listing+in_ok-push+in_ok-extend, in_default-2}
use Rattle.roster_lines.proofs.extend.+extend.Goals as goal

-- what is wanted
abbrev wants : (g : given.Over) (t : ℕ) → In-Some g t → List ℕ → Type 0
wants g t c = g.W.Wanted.wants c.args.listing.now.wanted.now c.args.listing.now.problem.now c.args.listing.now.k

-- the lines up to the candidate,
up : (g : given.Over) (t : ℕ) (c : In-Some g t) → IsUpTo c.args.listing.now.problem.now c.args.listing.now.k (wants g t c) (c.args.stem.now.set ++ c.in-Some.p ∷ []) (sets_of c.loop-p.lines)
up g t c =
    up_to_candidate c.args.listing.now.problem.now c.args.listing.now.k (wants g t c) c.args.stem.now (sets_of c.loop-p.lines) c.loop-p.from c.in-Some.p c.requires.stem c.requires.only c.loop-p.invariant.lines c.in-Some.ensures.place.0 c.in-Some.ensures.least

-- of which the stem's is still the one with its number,
number : (g : given.Over) (t : ℕ) (c : In-Some g t)
    → slice_get (sets_of c.loop-p.lines) c.args.stem.now.number ≡ Some c.args.stem.now.set
number g t c = c.loop-p.invariant.kept c.args.stem.now.number c.args.stem.now.set c.requires.number

-- and what was found behind it: the stem's set with the candidate, a line
found : (g : given.Over) (t : ℕ) (c : In-Some-2 g t) → (c.in-Some-2.longer ≡ judged_as c.args.listing.now.problem.now c.args.listing.now.k c.args.stem.now.among (c.args.stem.now.set ++ c.in-Some.p ∷ [])) × IsLine c.args.listing.now.problem.now c.args.listing.now.k (c.args.stem.now.set ++ c.in-Some.p ∷ [])
found g t c = line_there c.args.listing.now.problem.now c.args.listing.now.k (g.W.Wanted.wants c.args.listing.now.wanted.now c.args.listing.now.problem.now c.args.listing.now.k) c.args.stem.now c.in-Some.p c.in_ok-longer.field-0 c.in-Some-2.longer c.in-Some-2.is c.in_ok-longer.ensures

pub returns-then-width-listing-clause-fault : goal.returns-then-width-listing-clause-fault
returns-then-width-listing-clause-fault g t c =
    let at = goal.at.returns-then-width-listing-clause-fault g t c in
    let line = found g t at.In-Some-2 in
    HasMoreLines-push c.args.listing.now.problem.now c.args.listing.now.k (wants g t at.In-Some)
    (sets_of c.loop-p.lines) _ c.args.listing.now.most (up g t at.In-Some) line.1
    (omega (arith, c.width.ensures.value, c.if-width-listing.true, length-sets_of c.loop-p.lines))

pub push-requires-clause-parent : goal.push-requires-clause-parent
push-requires-clause-parent g t c =
    let inside =
    slice_get_within (sets_of c.loop-p.lines) c.args.stem.now.number c.args.stem.now.set
    (number g t (goal.at.push-requires-clause-parent g t c).In-Some) in
    omega (arith, inside, length-sets_of c.loop-p.lines)

pub push-requires-clause-later : goal.push-requires-clause-later
push-requires-clause-later g t c =
    let set =
    get_or_from_slice_get (sets_of c.loop-p.lines) c.args.stem.now.number c.args.stem.now.set []
    (number g t (goal.at.push-requires-clause-later g t c).In-Some) in
    subst (All (λ q. q < c.in-Some.p)) (sym set)
    (c.requires.stem.behind c.in-Some.p c.in-Some.ensures.place.2)

pub push-requires-clause-ordered : goal.push-requires-clause-ordered
push-requires-clause-ordered g t c =
    let at = (goal.at.push-requires-clause-ordered g t c).In-Some in
    subst (λ mark. All (λ s. places_le mark s ≡ false) (sets_of c.loop-p.lines))
    (sym (longer_set c.loop-p.lines _ c.in-Some.p _ (number g t at))) (up g t at).before

pub below-below-requires-clause-line : goal.below-below-requires-clause-line
below-below-requires-clause-line g t c =
    (found g t (goal.at.below-below-requires-clause-line g t c).In-Some-2).1

pub extend-requires : goal.extend-requires
extend-requires g t c κs within =
    let problem = c.args.listing.now.problem.now in
    let k : ℕ = c.args.listing.now.k in
    let wants : List ℕ → Type 0 = g.W.Wanted.wants c.args.listing.now.wanted.now problem k in
    let stem = c.args.stem.now in
    let p : ℕ = c.in-Some.p in
    let lines = c.loop-p.lines in
    let place = c.in-Some.ensures.place in
    let at = (goal.at.extend-requires g t c).In-Some in
    let below = c.below-below.result in
    let made = c.below-below.ensures.set in
    let same = c.below-below.ensures.among in
    let few = length_within stem.set p c.requires.stem.line.ascending (c.requires.stem.behind p place.2) in
    let deeper = ap length made ∙ length_push stem.set p in
    let fits : SFits w64 c.cost.result = search rules in
    let cost = to_z-of_z w64 c.cost.result fits ∙ c.cost.ensures ∙ ap (line_cost problem k) made in
    let pushed =
    sets_pushed lines c.push.new.self stem.number p _ stem.set below.set c.in_ok-push.ensures
    (number g t at) made in
    let last : below.number ≡ length (sets_of lines) =
    c.below-below.ensures.number ∙ c.width-in-Some-2.ensures.value ∙ sym (length-sets_of lines) in
    let here =
    ap (slice_get (sets_of c.push.new.self)) last ∙ ap (λ s. slice_get s (length (sets_of lines))) pushed
    ∙ get_push_new (sets_of lines) below.set in
    let before = subst (IsUpTo problem k wants (below.set ++ 0 ∷ [])) (sym pushed) (IsUpTo-push problem k wants (sets_of lines) below.set (subst (λ mark. IsUpTo problem k wants mark (sets_of lines)) (sym made) (up g t at)) c.below-below.ensures.stem.line) in
    let costs =
    costs_pushed problem k lines c.push.new.self stem.number p _ stem.set c.in_ok-push.ensures
    (number g t at) cost c.loop-p.invariant.costs in
    let known =
    (found g t (goal.at.extend-requires g t c).In-Some-2).0
    ∙ ap (judged_as problem k stem.among) (sym made)
    ∙ ap (λ among. judged_as problem k among below.set) (sym same) in
    let only = subst (HoldOnly problem k wants) (sym same) c.requires.only in
    let long = ap length c.in_ok-push.ensures ∙ length_push lines _ in
    let room : length c.push.new.self ≤ c.args.listing.now.most =
    omega (arith, long, c.width.ensures.value, c.if-width-listing.false, c.loop-p.invariant.few) in
    (omega (arith, place.1), (within, (known, (c.requires.person, (c.requires.limit, (c.requires.parts, (c.requires.flown, (c.requires.pairs, (c.below-below.ensures.stem, (only, (here, (before, (costs, room)))))))))))))

pub loop-p-preserved : goal.loop-p-preserved
loop-p-preserved g t c =
    let problem = c.args.listing.now.problem.now in
    let k : ℕ = c.args.listing.now.k in
    let wants : List ℕ → Type 0 = g.W.Wanted.wants c.args.listing.now.wanted.now problem k in
    let stem = c.args.stem.now in
    let p : ℕ = c.in-Some.p in
    let lines = c.loop-p.lines in
    let at = (goal.at.loop-p-preserved g t c).In-Some in
    let next = c.requires.stem.places p c.in-Some.ensures.place.2 in
    elim c.match-branch-2.branch [
      | in-Some-2+else-width-listing+in_ok-push+in_ok-extend w ↦
          let made = w.below-below.ensures.set in
          let pushed = sets_pushed lines w.push.new.self stem.number p _ stem.set w.below-below.result.set w.in_ok-push.ensures (number g t at) made in
          let same = ap sets_of (sym w.lines-is) in
          record {
            within = omega arith;
            lines = subst (IsUpTo problem k wants (stem.set ++ (p + 1) ∷ [])) same (IsUpTo-return problem k wants (sets_of w.extend.new.lines) stem.set p (subst (λ s. IsUpTo problem k wants (s ++ length problem.pairings ∷ []) (sets_of w.extend.new.lines)) made w.in_ok-extend.ensures.lines));
            costs = subst (AreCosted problem k) (sym w.lines-is) w.in_ok-extend.ensures.costs;
            few =
                subst (λ (lines : List Entry). length lines ≤ c.args.listing.now.most)
                (sym w.lines-is) w.in_ok-extend.ensures.few;
            kept = λ i s old.
                ap (λ sets. slice_get sets i) (sym same)
                ∙ w.in_ok-extend.ensures.kept i s (ap (λ sets. slice_get sets i) pushed ∙ get_push_old (sets_of lines) w.below-below.result.set s i (c.loop-p.invariant.kept i s old));
          }
      | in_default-2 w ↦
          let same = ap sets_of (sym w.lines-is) in
          record {
            within = omega arith;
            lines = subst (IsUpTo problem k wants (stem.set ++ (p + 1) ∷ [])) same (past_candidate problem k wants stem (sets_of lines) p (up g t at) (no_line_there problem k wants stem p c.in_ok-longer.field-0 w.in_default-2.is c.in_ok-longer.ensures));
            costs = subst (AreCosted problem k) (sym w.lines-is) c.loop-p.invariant.costs;
            few =
                subst (λ (lines : List Entry). length lines ≤ c.args.listing.now.most)
                (sym w.lines-is) c.loop-p.invariant.few;
            kept = λ i s old. ap (λ sets. slice_get sets i) (sym same) ∙ c.loop-p.invariant.kept i s old;
          }
    ]

pub returns-clause-lines : goal.returns-clause-lines
returns-clause-lines g t c =
    let problem = c.args.listing.now.problem.now in
    let stem = c.args.stem.now in
    up_to_candidate problem c.args.listing.now.k (g.W.Wanted.wants c.args.listing.now.wanted.now problem c.args.listing.now.k) stem (sets_of c.loop-p.lines) c.loop-p.from (length problem.pairings) c.requires.stem c.requires.only c.loop-p.invariant.lines c.loop-p.invariant.within (λ q l before. c.in_default.ensures.least q l)
