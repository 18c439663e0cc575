use Prim.Native.Nat.{◌∣◌}
use native.Mathlib.Nat.{one-dvd}
use Rattle.std.proofs.Common.{ℕ, ℤ, ◌≡◌, ◌<◌, length, w64, get_or, inl, inr, subst, ap, ◌∙◌, arith, unsigned_abs}
use Rattle.std.proofs.lemmas.Bool.{cases_lt}
use Rattle.std.proofs.lemmas.Int.{to_z-of_z}
use Rattle.std.proofs.lemmas.Nat.Gcd.{dvd_refl, dvd_trans}
use Rattle.std.proofs.lemmas.Option.{slice_get-get_or}
use Rattle.roster_lines_table.specs.Entries.{Entry}
use Rattle.roster_search_regions.specs.Building.{extra_in}
use Rattle.roster_search_regions.proofs.Copied.{no_entry, one_entry}
use Rattle.roster_search_regions.proofs.units.unit_of_lines.Goals as goal

pub loop-i-init : goal.loop-i-init
loop-i-init c = record { number = dvd_refl c.args.unit; lines = λ j d before. absurd (omega arith) }

pub returns-then-divisor-eq1 : goal.returns-then-divisor-eq1
returns-then-divisor-eq1 c = record {
  number = one-dvd c.args.unit;
  lines = λ i d before inside. one-dvd (unsigned_abs (extra_in c.args.lines.now (get_or c.args.lines.now i d)));
}

pub loop-i-preserved : goal.loop-i-preserved
loop-i-preserved c =
    let extras : ℕ → ℤ = λ j. extra_in c.args.lines.now (get_or c.args.lines.now j no_entry) in
    let new : ℕ = c.common-divisor.result in
    let inside : c.loop-i.i < length c.args.lines.now =
    omega (arith, c.min-i-end.ensures, c.width.ensures.value) in
    let at = slice_get-get_or c.args.lines.now c.loop-i.i no_entry inside in
    let is =
    to_z-of_z w64 c.above_first.result (record { sfits = c.above_first.type_inv })
    ∙ c.above_first.ensures.value (get_or c.args.lines.now c.loop-i.i no_entry) at in
    let far : c.unsigned_abs.result ≡ unsigned_abs (extras c.loop-i.i) =
    c.unsigned_abs.ensures.value ∙ ap unsigned_abs is in
    let here = subst (λ (n : ℕ). new ∣ n) far c.common-divisor.ensures.0 in
    record {
      number = dvd_trans new c.common-divisor.ensures.1 c.loop-i.invariant.number;
      lines = λ j d before. elim (cases_lt j c.loop-i.i) [
        | inl earlier ↦ dvd_trans new c.common-divisor.ensures.1 (c.loop-i.invariant.lines j d earlier)
        | inr last ↦
            let same : c.loop-i.i ≡ j = omega arith in
            subst (λ (entry : Entry). new ∣ unsigned_abs (extra_in c.args.lines.now entry))
            (one_entry c.args.lines.now j no_entry d (omega (arith, inside)))
            (subst (λ (m : ℕ). new ∣ unsigned_abs (extras m)) same here)
      ];
    }

pub returns-clause-lines : goal.returns-clause-lines
returns-clause-lines c j d before inside =
    c.loop-i.invariant.lines j d (omega (arith, c.min-i-end.ensures, c.width.ensures.value, before, inside))
