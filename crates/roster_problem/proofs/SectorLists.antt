-- A duty's sectors with one more.
use Rattle.std.proofs.Common.{◌≡◌, ℕ, ◌-◌, ◌<◌, ◌≤◌, Bool, true, false, ◌&&◌, List, [], ◌∷◌, ◌++◌, length, get_or, inl, inr, subst, arith}
use Rattle.std.specs.Prelude.{nat_lt, nat_le}
use Rattle.std.specs.Option.{option_map_or}
use Rattle.std.proofs.lemmas.Bool.{cases_lt}
use Rattle.std.proofs.lemmas.Bool.Decides.{nat_tests}
use Rattle.std.proofs.lemmas.List.Elements.{All-push}
use Rattle.std.proofs.lemmas.List.Quantifiers.{all_pairs_push}
use Rattle.std.proofs.lemmas.Option.{slice_get-get_or}
use Rattle.roster_model.specs.records.Duty.{Duty, Sector}
use Rattle.roster_model.specs.records.Sector.{is_in_sequence, last_sector}
use Rattle.roster_problem.specs.Sectors.{AreSectors}

-- what a sector in sequence meets
record Follows (duty : Duty) (off on : ℕ) : Type 0 where
  timed : off < on
  begin : duty.report ≤ off
  end : on ≤ duty.release
  after : option_map_or (λ last. nat_le last.on off) (last_sector duty.sectors) true ≡ true

tests : (a b c d e f : ℕ) (after : Bool) → (nat_lt a b && nat_le c d && nat_le e f && after) ≡ true
    → (a < b) × (c ≤ d) × (e ≤ f) × (after ≡ true)
tests a b c d e f true h = grind (arith, nat_tests)
tests a b c d e f false h = grind (arith, nat_tests)

follows : (duty : Duty) (off on : ℕ) → is_in_sequence duty off on ≡ true → Follows duty off on
follows duty off on h =
    let t = tests off on duty.report off on duty.release _ h in
    record { timed = t.0; begin = t.1; end = t.2; after = t.3 }

ends_by : (off n : ℕ) → nat_le n off ≡ true → n ≤ off
ends_by off n h = grind (arith, nat_tests)

-- each of the sectors ends before one that begins after the last
ended : (report release off : ℕ) (sectors : List Sector) → AreSectors report release sectors
    → option_map_or (λ last. nat_le last.on off) (last_sector sectors) true ≡ true
    → (k : ℕ) (d : Sector) → k < length sectors → (get_or sectors k d).on ≤ off
ended report release off sectors s h k d l =
    let n : ℕ = length sectors - 1 in
    let last : (get_or sectors n d).on ≤ off =
    ends_by off _ (rw (slice_get-get_or sectors n d (omega arith)) at h) in
    elim (cases_lt k n) [
      | inl before ↦
          let apart = s.apart k n d before (omega arith) in
          let timed = s.timed n d (omega arith) in
          omega arith
      | inr here ↦
          let same : n ≡ k = omega arith in
          let P : ℕ → Type 0 = λ i. (get_or sectors i d).on ≤ off in
          subst P same last
    ]

pub AreSectors-push : (duty : Duty) (sector : Sector) → AreSectors duty.report duty.release duty.sectors
    → is_in_sequence duty sector.off sector.on ≡ true
    → AreSectors duty.report duty.release (duty.sectors ++ sector ∷ [])
AreSectors-push duty sector s h =
    let f = follows duty sector.off sector.on h in
    record {
      begin = All-push (λ x. duty.report ≤ x.off) duty.sectors sector s.begin f.begin;
      timed = All-push (λ x. x.off < x.on) duty.sectors sector s.timed f.timed;
      end = All-push (λ x. x.on ≤ duty.release) duty.sectors sector s.end f.end;
      apart =
          all_pairs_push (λ a b. a.on ≤ b.off) duty.sectors sector s.apart
          (ended duty.report duty.release sector.off duty.sectors s f.after);
    }
