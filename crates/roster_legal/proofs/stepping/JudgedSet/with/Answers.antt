use Rattle.std.proofs.Common.{◌≡◌, ℕ, ◌+◌, ◌-◌, ◌<◌, ◌≤◌, true, false, [], ◌∷◌, ◌++◌, List, length, ap, subst, sym, ◌∙◌, arith, bit_or}
use Rattle.std.specs.Prelude.{All, slice_index}
use Rattle.roster_model.specs.Rules.{is_among, RecoveryRule}
use Rattle.roster_model.proofs.SetLemmas.{length_within}
use Rattle.roster_legal.specs.Stepping.{AreDutiesOf, IsPlaced, IsStepped, Loaded, Stepped}
use Rattle.roster_legal.proofs.BusyDays.{busy-stepped}
use Rattle.roster_legal.proofs.Stepped.{HoldLater, duties_apart, duties_with, known_of, load_of_view}
use Rattle.roster_legal.proofs.Stepped.{members_of, new_behind, stepped-next}
use Rattle.roster_legal.proofs.stepping.JudgedSet.with.Goals as goal

pub joined-requires-clause-apart : goal.joined-requires-clause-apart
joined-requires-clause-apart c =
    let judged = c.args.self.now in
    let problem = judged.loads.problem in
    let p = c.args.p in
    let more = c.duties_of-more.result.now in
    let same = ap (λ (j : Stepped). j.loads) c.self.view_is in
    let known = known_of c.self.view_is c.self.invariant in
    let is_problem = c.problem.ensures.value ∙ ap (λ (l : Loaded). l.problem) same in
    let members = members_of p more is_problem c.duties_of-more.ensures.positions.members in
    let apart =
    duties_apart problem judged.loads.person p judged.set c.self.inside.positions.items more known.duties
    (new_behind p judged.set c.requires.behind) members in
    subst (λ xs. (i : ℕ) → is_among xs i ≡ true → is_among more i ≡ false) (sym c.deref.ensures.value) apart

pub keeps_counted_with-requires-clause-busy : goal.keeps_counted_with-requires-clause-busy
keeps_counted_with-requires-clause-busy c =
    let judged = c.args.self.now in
    let same = ap (λ (j : Stepped). j.loads) c.self.view_is in
    let known = known_of c.self.view_is c.self.invariant in
    busy-stepped c.self.inside.loads.now judged c.args.p c.self.inside.depth c.self.inside.busy c.busy.result c.self.inside.positions.items c.self.inside.rooms.items same known c.busy.ensures c.requires.alone

pub keeps_recovery_with-requires-clause-positions : goal.keeps_recovery_with-requires-clause-positions
keeps_recovery_with-requires-clause-positions c =
    let judged = c.args.self.now in
    let problem = judged.loads.problem in
    let p = c.args.p in
    let more = c.duties_of-more.result.now in
    let same = ap (λ (j : Stepped). j.loads) c.self.view_is in
    let known = known_of c.self.view_is c.self.invariant in
    let is_problem = c.problem.ensures.value ∙ ap (λ (l : Loaded). l.problem) same in
    let members = members_of p more is_problem c.duties_of-more.ensures.positions.members in
    let old =
    subst (AreDutiesOf problem judged.loads.person judged.set) (sym c.deref.ensures.value) known.duties in
    let all = duties_with problem judged.loads.person p judged.set c.deref.result.now more c.in_ok-positions.positions.items old members c.in_ok-positions.ensures.rising c.in_ok-positions.ensures.members in
    subst (AreDutiesOf problem judged.loads.person (judged.set ++ p ∷ [])) (sym c.deref-2.ensures.value) all

pub overflow_add-result : goal.overflow_add-result
overflow_add-result c =
    let judged = c.args.self.now in
    let same = ap (λ (j : Stepped). j.loads) c.self.view_is in
    let known = known_of c.self.view_is c.self.invariant in
    let placed = subst IsPlaced same c.problem.ensures.placed in
    let few = length_within judged.set c.args.p known.ascending c.requires.behind in
    let most = placed.few in
    let place = c.requires.place in
    let depth = known.depth in
    omega arith

-- the rules from Recovery on hold of the longer set, if it has three pairings or more
later : (c : goal.After-put) → 2 ≤ length c.args.self.now.set → HoldLater c.args.self.now.loads.problem c.args.self.now.loads.person (c.args.self.now.set ++ c.args.p ∷ [])
later c many RecoveryRule late = c.keeps_recovery_with.ensures.yes c.if-not-keeps_recovery_with.false many
later c many rule late =
    c.keeps_counted_with.ensures.yes c.if-not-keeps_counted_with.false many rule (omega arith)

-- what is known of the longer set,
longer : (c : goal.After-put) → IsStepped c.args.self.now.loads (c.args.self.now.set ++ c.args.p ∷ []) (c.self.inside.depth + 1) c.in_ok-positions.positions.items c.in_ok-rooms.rooms.items (bit_or c.self.inside.busy c.busy.result)
longer c =
    let judged = c.args.self.now in
    let problem = judged.loads.problem in
    let p = c.args.p in
    let more = c.duties_of-more.result.now in
    let same = ap (λ (j : Stepped). j.loads) c.self.view_is in
    let known = known_of c.self.view_is c.self.invariant in
    let placed = subst IsPlaced same c.problem.ensures.placed in
    let is_problem = c.problem.ensures.value ∙ ap (λ (l : Loaded). l.problem) same in
    let members = members_of p more is_problem c.duties_of-more.ensures.positions.members in
    let old =
    subst (AreDutiesOf problem judged.loads.person judged.set) (sym c.deref.ensures.value) known.duties in
    let all = duties_with problem judged.loads.person p judged.set c.deref.result.now more c.in_ok-positions.positions.items old members c.in_ok-positions.ensures.rising c.in_ok-positions.ensures.members in
    let load = load_of_view p same c.load.ensures c.requires.alone in
    let rooms = c.deref-3.ensures.value in
    stepped-next judged p c.self.inside.depth c.self.inside.busy (bit_or c.self.inside.busy c.busy.result) c.self.inside.positions.items c.self.inside.rooms.items c.in_ok-positions.positions.items c.in_ok-rooms.rooms.items c.load.result.now placed known c.requires all load
    (c.in_ok-rooms.ensures.long ∙ ap length rooms)
    (λ j. c.in_ok-rooms.ensures.each j ∙ ap (λ xs. slice_index xs j - slice_index c.load.result.now j) rooms)
    (busy-stepped c.self.inside.loads.now judged p c.self.inside.depth c.self.inside.busy c.busy.result c.self.inside.positions.items c.self.inside.rooms.items same known c.busy.ensures c.requires.alone)
    (later c)

-- which has the pairing behind
set_is : (c : goal.After-put) → c.put.new.self ≡ c.args.self.now.set ++ c.args.p ∷ []
set_is c =
    let set = ap (λ (j : Stepped). j.set) c.self.view_is in
    c.put.ensures.last (subst (All (λ q. q < c.args.p)) (sym set) c.requires.behind)
    ∙ ap (λ xs. xs ++ c.args.p ∷ []) set

pub invariant_of-result : goal.invariant_of-result
invariant_of-result c =
    let same = ap (λ (j : Stepped). j.loads) c.self.view_is in
    let known = subst (λ (set : List ℕ). IsStepped c.args.self.now.loads set (c.self.inside.depth + 1) c.in_ok-positions.positions.items c.in_ok-rooms.rooms.items (bit_or c.self.inside.busy c.busy.result)) (sym (set_is c)) (longer c) in
    subst (λ (l : Loaded). IsStepped l c.put.new.self (c.self.inside.depth + 1) c.in_ok-positions.positions.items c.in_ok-rooms.rooms.items (bit_or c.self.inside.busy c.busy.result)) (sym same) known

pub returns : goal.returns
returns c =
    let same = ap (λ (j : Stepped). j.loads) c.self.view_is in
    let stepped : Loaded → List ℕ → Stepped = λ loads set. record { loads = loads; set = set } in
    (ap (λ l. stepped l c.put.new.self) same ∙ ap (stepped c.args.self.now.loads) (set_is c), (longer c).legal)
