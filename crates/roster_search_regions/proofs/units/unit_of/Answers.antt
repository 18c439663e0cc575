use Prim.Native.Nat.{◌∣◌}
use native.Mathlib.Nat.{one-dvd}
use Rattle.std.proofs.Common.{◌<◌, ◌≡◌, ℕ, List, length, get_or, inl, inr, ap, sym, subst, arith, unsigned_abs}
use Rattle.std.specs.Prelude.{All}
use Rattle.std.proofs.lemmas.Bool.{cases_lt}
use Rattle.std.proofs.lemmas.Nat.Gcd.{dvd_trans}
use Rattle.roster_cost.specs.Amounts.{IsWithin, most_extra}
use Rattle.roster_lines_table.specs.Entries.{Entry}
use Rattle.roster_lines_table.specs.Person.{lines_at}
use Rattle.roster_search_regions.specs.Building.{extra_in, AreDividedBefore}
use Rattle.roster_search_regions.proofs.Tables.{table-near}
use Rattle.roster_search_regions.proofs.units.unit_of.Goals as goal

pub unit_of_lines-unit-requires : goal.unit_of_lines-unit-requires
unit_of_lines-unit-requires c =
    let person : c.loop-k.k < length c.args.problem.now.persons =
    omega (arith, ap length c.persons-k-end.ensures.value) in
    let near = table-near c.args.problem.now c.args.table.now c.loop-k.k (λ set line. c.lines_are_near.ensures c.args.problem.now c.loop-k.k set c.is_sound.ensures.sound line) c.requires.table person in
    record { near = subst (λ (es : List Entry). All (λ entry. IsWithin most_extra (extra_in es entry)) es) (sym c.lines.ensures) near }

pub loop-k-preserved : goal.loop-k-preserved
loop-k-preserved c =
    let new : ℕ = c.unit_of_lines-unit.result in
    let divides : new ∣ c.loop-k.unit = c.unit_of_lines-unit.ensures.number in
    record {
      penalties = λ i d inside. dvd_trans new divides (c.loop-k.invariant.penalties i d inside);
      lines = λ j before. elim (cases_lt j c.loop-k.k) [
        | inl earlier ↦ λ i d high inside. dvd_trans new divides (c.loop-k.invariant.lines j earlier i d high inside)
        | inr last ↦
            let same : c.loop-k.k ≡ j = omega arith in
            subst (λ (k : ℕ). AreDividedBefore new (get_or c.args.ranges.now k (0, 0)).1 (lines_at c.args.table.now k)) same (subst (λ (es : List Entry). AreDividedBefore new (get_or c.args.ranges.now c.loop-k.k (0, 0)).1 es) c.lines.ensures c.unit_of_lines-unit.ensures.lines)
      ];
    }

pub returns-then-unit-eq0-clause-penalties : goal.returns-then-unit-eq0-clause-penalties
returns-then-unit-eq0-clause-penalties c i d inside =
    one-dvd (get_or c.args.problem.now.pairings i d).penalty

pub returns-then-unit-eq0-clause-lines : goal.returns-then-unit-eq0-clause-lines
returns-then-unit-eq0-clause-lines c k person i d before inside =
    one-dvd (unsigned_abs (extra_in (lines_at c.args.table.now k) (get_or (lines_at c.args.table.now k) i d)))
