use Rattle.std.proofs.Common.{◌≡◌, ℕ, true, List, [], ◌∷◌, ◌++◌, length, Some, SFits, w64, sym, ap, subst, ◌∙◌, arith, rules}
use Rattle.std.specs.Prelude.{slice_get}
use Rattle.std.proofs.lemmas.Int.{to_z-of_z}
use Rattle.std.proofs.lemmas.List.Elements.{All-cons, All-nil}
use Rattle.roster_model.specs.Costs.{line_cost}
use Rattle.roster_model.specs.Rules.{is_among}
use Rattle.roster_lines_table.specs.Entries.{Entry, sets_of}
use Rattle.roster_lines_table.specs.Person.{AreCosted}
use Rattle.roster_lines.specs.Listing.{IsUpTo}
use Rattle.roster_lines.proofs.Listed.{alone_of_line}
use Rattle.roster_lines.proofs.Marks.{AreWantedLines-up_to, IsUpTo-empty}
use Rattle.roster_lines.proofs.extend.lines_of_pairs.Goals as goal

pub root-root-requires-clause-alone : goal.root-root-requires-clause-alone
root-root-requires-clause-alone g c p here = (c.requires.pairs.alone p).0 (c.among.ensures.within p here)

pub extend-requires-clause-parts : goal.extend-requires-clause-parts
extend-requires-clause-parts g c = c.parts_are_legal.ensures c.args.k

pub extend-requires-clause-only : goal.extend-requires-clause-only
extend-requires-clause-only g c set p line wanted here =
    let problem = c.args.problem.now in
    let alone =
    alone_of_line problem c.args.k
    (c.parts_are_legal.ensures c.args.k) c.args.pairs.now.alone set p c.requires.pairs.alone line here in
    subst (λ among. is_among among p ≡ true) (sym c.root-root.ensures.among)
    (c.among.ensures.held problem c.args.k set p wanted here alone)

pub extend-requires-clause-number : goal.extend-requires-clause-number
extend-requires-clause-number g c =
    ap (λ lines. slice_get (sets_of lines) c.root-root.result.number) c.in_ok-lines.ensures
    ∙ ap (slice_get ([] ∷ [])) c.root-root.ensures.number
    ∙ ap Some (sym c.root-root.ensures.set)

pub extend-requires-clause-before : goal.extend-requires-clause-before
extend-requires-clause-before g c =
    subst (λ set. IsUpTo c.args.problem.now c.args.k (g.W.Wanted.wants c.args.wanted.now c.args.problem.now c.args.k) (set ++ 0 ∷ []) (sets_of c.in_ok-lines.lines)) (sym c.root-root.ensures.set)
    (subst (λ lines. IsUpTo c.args.problem.now c.args.k (g.W.Wanted.wants c.args.wanted.now c.args.problem.now c.args.k) (0 ∷ []) (sets_of lines)) (sym c.in_ok-lines.ensures) (IsUpTo-empty c.args.problem.now c.args.k (g.W.Wanted.wants c.args.wanted.now c.args.problem.now c.args.k)))

pub extend-requires-clause-costs : goal.extend-requires-clause-costs
extend-requires-clause-costs g c =
    let problem = c.args.problem.now in
    let k : ℕ = c.args.k in
    let fits : SFits w64 c.cost.result = search rules in
    let cost =
    to_z-of_z w64 c.cost.result fits ∙ c.cost.ensures
    ∙ ap (line_cost problem k) c.root-root.ensures.set in
    let costed : Entry → Type 0 = λ entry. entry.cost ≡ line_cost problem k entry.set in
    subst (AreCosted problem k) (sym c.in_ok-lines.ensures) (All-cons costed _ [] cost (All-nil costed))

pub returns-clause-lines : goal.returns-clause-lines
returns-clause-lines g c =
    let problem = c.args.problem.now in
    let wants : List ℕ → Type 0 = g.W.Wanted.wants c.args.wanted.now problem c.args.k in
    let first = ap (λ lines. slice_get (sets_of lines) 0) c.in_ok-lines.ensures in
    AreWantedLines-up_to problem c.args.k wants (sets_of c.extend.new.lines)
    (c.in_ok-extend.ensures.kept 0 [] first)
    (subst (λ set. IsUpTo problem c.args.k wants (set ++ length problem.pairings ∷ []) (sets_of c.extend.new.lines)) c.root-root.ensures.set c.in_ok-extend.ensures.lines)

pub extend-requires-clause-few : goal.extend-requires-clause-few
extend-requires-clause-few g c =
    let long = ap length c.in_ok-lines.ensures in
    omega (arith, long, c.requires.limit.0)
