-- What legal rosters cost is within limits.
use Rattle.std.proofs.Common.{◌≡◌, ℕ, zero, suc, ◌+◌, ◌*◌, ◌^◌, ◌-◌, ◌<◌, ◌≤◌, Bool, true, false, cond, eqb, List, [], ◌∷◌, length, ℤ, pos, neg_ℤ, ◌+ℤ◌, ◌-ℤ◌, ◌<ℤ◌, ◌≤ℤ◌, arith}
use Rattle.std.specs.Prelude.{All}
use Rattle.std.specs.List.{range_with_len}
use Rattle.std.proofs.lemmas.Int.{ints}
use Rattle.std.proofs.lemmas.List.Elements.{All-head, All-tail}
use Rattle.roster_model.specs.declared.limits.TheConstants.{MOST_PENALTY}
use Rattle.roster_model.specs.Costs.{cost_of, line_cost, open_penalties, total}
use Rattle.roster_model.specs.Lines.{IsLine}
use Rattle.roster_model.specs.Places.{open_number, set_of}
use Rattle.roster_model.specs.Problem.{Problem}
use Rattle.roster_model.specs.Rosters.{IsLegalRoster}
use Rattle.roster_model.specs.records.Pairing.{Pairing}
use Rattle.roster_model.proofs.CostLemmas.{total-nil, total-cons, total-both}
use Rattle.roster_model.proofs.LineLemmas.{given_line}
use Rattle.roster_problem.specs.Sound.{IsSound}
use Rattle.roster_cost.specs.Amounts.{cost_without_pairings, most_extra, most_missed, IsWithin}

-- ---- open pairings

open_here : (b : Bool) (penalty most rest others : ℕ) → penalty ≤ most → rest ≤ others
    → cond b penalty 0 + rest ≤ most + others
open_here true penalty most rest others few more = omega arith
open_here false penalty most rest others few more = omega arith

open_most : (nobody : ℕ) (pairings : List Pairing) (places : List ℕ)
    → All (λ pairing. pairing.penalty ≤ MOST_PENALTY) pairings
    → open_penalties nobody pairings places ≤ length pairings * MOST_PENALTY
open_most nobody [] places few = omega arith
open_most nobody (pairing ∷ pairings) [] few = omega arith
open_most nobody (pairing ∷ pairings) (x ∷ places) few =
    let here = All-head (λ (q : Pairing). q.penalty ≤ MOST_PENALTY) pairing pairings few in
    let rest =
    open_most nobody pairings places
    (All-tail (λ (q : Pairing). q.penalty ≤ MOST_PENALTY) pairing pairings few) in
    let step =
    open_here (eqb x nobody) pairing.penalty MOST_PENALTY (open_penalties nobody pairings places)
    (length pairings * MOST_PENALTY) here rest in
    omega (arith, step)

-- ---- lines

total-range_within : (cost : ℕ → ℤ) (most first n : ℕ) → ((k : ℕ) → k < first + n → IsWithin most (cost k))
    → IsWithin (n * most) (total cost (range_with_len first n))
total-range_within cost most first zero each =
    (omega (arith, ints, total-nil cost), omega (arith, ints, total-nil cost))
total-range_within cost most first (suc n) each =
    let rest = total-range_within cost most (first + 1) n (λ k below. each k (omega (arith, below))) in
    let here = each first (omega arith) in
    let split = total-cons cost first (range_with_len (first + 1) n) in
    (omega (arith, ints, split, here.0, rest.0), omega (arith, ints, split, here.1, rest.1))

-- ---- rosters

-- what a roster costs is what its open pairings cost, and each person's line
abbrev pub SharesAddUp : Type 0
SharesAddUp =
    (problem : Problem) (places : List ℕ)
    → cost_of problem places ≡ pos (open_penalties (open_number problem) problem.pairings places) +ℤ total (λ k. line_cost problem k (set_of k places)) (range_with_len 0 (length problem.persons))

abbrev pub LinesAreNear : Type 0
LinesAreNear =
    (problem : Problem) (k : ℕ) (set : List ℕ) → IsSound problem → IsLine problem k set
    → IsWithin most_extra (line_cost problem k set -ℤ line_cost problem k [])

difference : (a b : ℤ) → a ≡ (a -ℤ b) +ℤ b
difference a b = omega (arith, ints)

pub cost_limits : SharesAddUp → LinesAreNear → (problem : Problem) (places : List ℕ) → IsSound problem
    → (pos 0 ≤ℤ cost_without_pairings problem) → (cost_without_pairings problem ≤ℤ pos most_missed)
    → IsLegalRoster problem places
    → (neg_ℤ (pos (2 ^ 63)) ≤ℤ cost_of problem places) × (cost_of problem places <ℤ pos (2 ^ 63 - 1))
cost_limits shares near problem places sound low high legal =
    let extra : ℕ → ℤ = λ k. line_cost problem k (set_of k places) -ℤ line_cost problem k [] in
    let persons = range_with_len 0 (length problem.persons) in
    let split =
    total-both (λ k. line_cost problem k (set_of k places)) extra (λ k. line_cost problem k [])
    (λ k. difference (line_cost problem k (set_of k places)) (line_cost problem k [])) persons in
    let within = total-range_within extra most_extra 0 (length problem.persons) (λ k below.
    near problem k (set_of k places) sound (given_line problem k places legal (omega (arith, below)))) in
    let open_few = open_most (open_number problem) problem.pairings places sound.penalties in
    let few = sound.persons in
    let pairings = sound.pairings in
    let cost = shares problem places in
    (omega (arith, ints, cost, split, within.0, low), omega (arith, ints, cost, split, within.1, high, open_few))
