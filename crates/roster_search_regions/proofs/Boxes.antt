-- The region of the lines whose numbers are in ranges.
use Prim.Native.Nat.{◌∣◌}
use Rattle.std.proofs.Common.{◌≡◌, ℕ, ◌+◌, ◌-◌, ◌<◌, ◌≤◌, eqb, List, [], length, drop, get_or, take, ℤ, pos, ◌+ℤ◌, ◌-ℤ◌, ◌*ℤ◌, sym, ap, ◌∙◌, subst, arith}
use Rattle.std.specs.Prelude.{All, Contains, Some, slice_get, option_map}
use Rattle.std.proofs.lemmas.List.{drop-map, get_or-drop, get_or-map, get_or-take, length-drop, length-map, length-take}
use Rattle.std.proofs.lemmas.Bool.{false≢true}
use Rattle.std.proofs.lemmas.List.Sums.{count_by-le-length}
use Rattle.std.proofs.lemmas.Simd.{map-map}
use Rattle.std.proofs.lemmas.Int.{ints}
use Rattle.std.proofs.lemmas.Option.{get_or_from_slice_get, slice_get-get_or, slice_get-map, slice_get_within}
use Rattle.std.specs.List.{range_with_len, take-map}
use Rattle.roster_model.specs.Costs.{cost_of, line_cost, open_penalties, total}
use Rattle.roster_model.specs.Places.{open_number, set_of}
use Rattle.roster_model.specs.Problem.{Problem}
use Rattle.roster_model.specs.Rosters.{IsLegalRoster}
use Rattle.roster_model.specs.Rules.{is_among}
use Rattle.roster_lines_table.specs.Entries.{Entry, sets_of as sets_in}
use Rattle.roster_lines_table.specs.Person.{lines_at, AreListed}
use Rattle.roster_model.proofs.CostLemmas.{total-both}
use Rattle.roster_search_regions.specs.Building.{allowed_between, allowed_in, extra_in, AreDividedBefore}
use Rattle.roster_search_regions.specs.Regions.{AllowedLine, Region, extra_of, sets_of, idle_cost, IsAllowedLine, IsIn, IsInRanges, IsRegion}
use Rattle.roster_search_regions.proofs.Copied.{no_entry}
use Rattle.roster_search_regions.proofs.Tables.{entry-extra, entry-line}
use Rattle.roster_search_regions.proofs.Multiples.{multiple_by, multiple_penalties, multiple_sum, multiple_total}
use Rattle.roster_search_regions.specs.Units.{IsMultiple}

-- ---- what stands between two numbers

between : {X : Type 0} (xs : List X) (low high j : ℕ) (d : X) → j < length (drop low (take high xs)) → (low + j < high) × (low + j < length xs) × (get_or (drop low (take high xs)) j d ≡ get_or xs (low + j) d)
between xs low high j d inside =
    let short : low + j < high = omega (arith, length-drop low (take high xs), length-take high xs) in
    let within : low + j < length xs = omega (arith, length-drop low (take high xs), length-take high xs) in
    (short, within, get_or-drop low (take high xs) j d ∙ get_or-take high xs (low + j) d short)

pub Contains-between : {X : Type 0} (xs : List X) (low high : ℕ) (x : X)
    → Contains (drop low (take high xs)) x → (i : ℕ) × (low ≤ i) × (i < high) × (slice_get xs i ≡ Some x)
Contains-between xs low high x (j, inside, same) =
    let at = between xs low high j x inside in
    let is : get_or xs (low + j) x ≡ x = sym at.2 ∙ same in
    (low + j, omega arith, at.0, slice_get-get_or xs (low + j) x at.1 ∙ ap Some is)

pub between-Contains : {X : Type 0} (xs : List X) (low high i : ℕ) (x : X) → low ≤ i → i < high
    → slice_get xs i ≡ Some x → Contains (drop low (take high xs)) x
between-Contains xs low high i x from to at =
    let within = slice_get_within xs i x at in
    let inside : i - low < length (drop low (take high xs)) =
    omega (arith, length-drop low (take high xs), length-take high xs) in
    let place : low + (i - low) ≡ i = omega arith in
    (i - low, inside, (between xs low high (i - low) x inside).2 ∙ ap (λ (n : ℕ). get_or xs n x) place ∙ get_or_from_slice_get xs i x x at)

-- ---- the lines of a person

sets-between : (scale : ℕ) (entries : List Entry) (low high : ℕ)
    → sets_of (allowed_between scale entries low high) ≡ drop low (take high (sets_in entries))
sets-between scale entries low high =
    map-map (λ (line : AllowedLine). line.set) (allowed_in scale entries) (drop low (take high entries))
    ∙ sym (drop-map (λ (entry : Entry). entry.set) low (take high entries))
    ∙ ap (drop low) (sym (take-map (λ (entry : Entry). entry.set) high entries))

pub lines-between : (problem : Problem) (table : List (List Entry)) (scale k low high : ℕ)
    → AreListed problem table → k < length problem.persons
    → All (IsAllowedLine problem scale k) (allowed_between scale (lines_at table k) low high)
lines-between problem table scale k low high is person j d inside =
    let entries : List Entry = lines_at table k in
    let part : List Entry = drop low (take high entries) in
    let short : j < length part = omega (arith, length-map part (allowed_in scale entries)) in
    let at = between entries low high j no_entry short in
    let entry : Entry = get_or entries (low + j) no_entry in
    let there = slice_get-get_or entries (low + j) no_entry at.1 in
    let line : get_or (allowed_between scale entries low high) j d ≡ allowed_in scale entries entry =
    get_or-map (allowed_in scale entries) part j no_entry d short ∙ ap (allowed_in scale entries) at.2 in
    let here : IsAllowedLine problem scale k (allowed_in scale entries entry) = record {
      is_line = entry-line problem table k (low + j) entry is person there;
      extra = ap (λ (z : ℤ). pos scale *ℤ z) (entry-extra problem table k (low + j) entry is person there);
    } in
    subst (IsAllowedLine problem scale k) (sym line) here

-- ---- what a roster costs

-- the law of shares, at one roster
abbrev pub IsShared : Problem → List ℕ → Type 0
IsShared problem places =
    cost_of problem places ≡ pos (open_penalties (open_number problem) problem.pairings places) +ℤ total (λ k. line_cost problem k (set_of k places)) (range_with_len 0 (length problem.persons))

difference : (a b : ℤ) → a ≡ (a -ℤ b) +ℤ b
difference a b = omega (arith, ints)

cost-above : (problem : Problem) (places : List ℕ) → IsShared problem places
    → cost_of problem places -ℤ idle_cost problem ≡ pos (open_penalties (open_number problem) problem.pairings places) +ℤ total (λ k. extra_of problem k (set_of k places)) (range_with_len 0 (length problem.persons))
unfolding idle_cost
cost-above problem places shared =
    let split =
    total-both (λ k. line_cost problem k (set_of k places)) (λ k. extra_of problem k (set_of k places))
    (λ k. line_cost problem k [])
    (λ k. difference (line_cost problem k (set_of k places)) (line_cost problem k []))
    (range_with_len 0 (length problem.persons)) in
    omega (arith, ints, shared, split)

-- ---- the region of ranges

-- each person has the lines of the person's range
pub record HasRanges (problem : Problem) (table : List (List Entry)) (ranges : List (ℕ × ℕ))
    (region : Region) : Type 0 where
  pub is : AreListed problem table
  pub covers : length region.choices ≡ length problem.persons
  pub ranged : length ranges ≡ length problem.persons
  pub each : (k : ℕ) → k < length problem.persons → get_or region.choices k [] ≡ allowed_between region.scale (lines_at table k) (get_or ranges k (0, 0)).0 (get_or ranges k (0, 0)).1
  pub idle : region.idle ≡ idle_cost problem
  pub left_open : region.left_open ≡ []
  pub flown : region.flown ≡ []
  pub least_open : region.least_open ≡ 0
  pub most_open : region.most_open ≡ length problem.pairings
  pub some : 0 < region.unit
  pub penalties : All (λ pairing. region.unit ∣ pairing.penalty) problem.pairings
  pub divided : (k : ℕ) → k < length problem.persons
      → AreDividedBefore region.unit (get_or ranges k (0, 0)).1 (lines_at table k)
  pub shared : (places : List ℕ) → IsShared problem places

module _ (problem : Problem) (table : List (List Entry)) (ranges : List (ℕ × ℕ)) (region : Region)
    (has : HasRanges problem table ranges region) where
  here : (k : ℕ) (lines : List AllowedLine) → slice_get region.choices k ≡ Some lines → (k < length problem.persons) × (lines ≡ allowed_between region.scale (lines_at table k) (get_or ranges k (0, 0)).0 (get_or ranges k (0, 0)).1)
  here k lines at =
      let person : k < length problem.persons =
      omega (arith, slice_get_within region.choices k lines at, has.covers) in
      (person, sym (get_or_from_slice_get region.choices k lines [] at) ∙ has.each k person)

  pub ranges-in : (places : List ℕ) → IsIn problem region places
      → IsLegalRoster problem places × IsInRanges table ranges places
  ranges-in places there = (
    there.legal,
    λ k range at.
        let person : k < length problem.persons =
        omega (arith, slice_get_within ranges k range at, has.ranged) in
        let lines : List AllowedLine = get_or region.choices k [] in
        let chosen =
        there.chosen k lines (slice_get-get_or region.choices k [] (omega (arith, has.covers))) in
        let same : get_or ranges k (0, 0) ≡ range = get_or_from_slice_get ranges k range (0, 0) at in
        let sets = ap sets_of (has.each k person) ∙ sets-between region.scale (lines_at table k) (get_or ranges k (0, 0)).0 (get_or ranges k (0, 0)).1 ∙ ap (λ (r : ℕ × ℕ). drop r.0 (take r.1 (sets_in (lines_at table k)))) same in
        Contains-between (sets_in (lines_at table k)) range.0 range.1 (set_of k places)
        (subst (λ (ss : List (List ℕ)). Contains ss (set_of k places)) sets chosen),
  )

  units-of-line : (places : List ℕ) → IsIn problem region places → (k : ℕ) → k < length problem.persons
      → IsMultiple region.unit (extra_of problem k (set_of k places))
  units-of-line places there k person =
      let entries : List Entry = lines_at table k in
      let range : ℕ × ℕ = get_or ranges k (0, 0) in
      let ranged = slice_get-get_or ranges k (0, 0) (omega (arith, person, has.ranged)) in
      let found = (ranges-in places there).1 k range ranged in
      let i : ℕ = found.0 in
      let within : i < length entries = omega (arith, slice_get_within (sets_in entries) i (set_of k places) found.3, length-map entries (λ (e : Entry). e.set)) in
      let entry : Entry = get_or entries i no_entry in
      let at = slice_get-get_or entries i no_entry within in
      let sets : Some entry.set ≡ Some (set_of k places) =
      sym (slice_get-map (λ (e : Entry). e.set) entries i ∙ ap (option_map (λ (e : Entry). e.set)) at)
      ∙ found.3 in
      let same : entry.set ≡ set_of k places = cc in
      subst (λ (set : List ℕ). IsMultiple region.unit (extra_of problem k set)) same
      (subst (IsMultiple region.unit) (entry-extra problem table k i entry has.is person at)
      (multiple_by region.unit (extra_in entries entry) has.some (has.divided k person i no_entry found.2 within)))

  ranges-units : (places : List ℕ) → IsIn problem region places
      → IsMultiple region.unit (cost_of problem places -ℤ region.idle)
  ranges-units places there =
      let penalties : ℕ = open_penalties (open_number problem) problem.pairings places in
      let extras : ℕ → ℤ = λ k. extra_of problem k (set_of k places) in
      let persons : ℤ = total extras (range_with_len 0 (length problem.persons)) in
      let is = ap (λ (idle : ℤ). cost_of problem places -ℤ idle) has.idle ∙ cost-above problem places (has.shared places) in
      subst (IsMultiple region.unit) (sym is)
      (multiple_sum region.unit (pos penalties) persons
      (multiple_penalties region.unit (open_number problem) problem.pairings places (λ j d inside. multiple_by region.unit (pos (get_or problem.pairings j d).penalty) has.some (has.penalties j d inside)))
      (multiple_total region.unit extras 0 (length problem.persons) (λ k low high. units-of-line places there k (omega arith))))

  pub ranges-region : IsRegion problem region
  ranges-region = record {
    covers = has.covers;
    each = λ k lines at.
        let is = here k lines at in
        subst (All (IsAllowedLine problem region.scale k)) (sym is.1) (lines-between problem table region.scale k (get_or ranges k (0, 0)).0 (get_or ranges k (0, 0)).1 has.is is.0);
    idle = has.idle;
    units = ranges-units;
  }

  pub in-ranges : (places : List ℕ) → IsLegalRoster problem places → IsInRanges table ranges places
      → IsIn problem region places
  in-ranges places legal there = record {
    legal = legal;
    chosen = λ k lines at.
        let is = here k lines at in
        let range : ℕ × ℕ = get_or ranges k (0, 0) in
        let found = there k range (slice_get-get_or ranges k (0, 0) (omega (arith, is.0, has.ranged))) in
        let sets = ap sets_of is.1 ∙ sets-between region.scale (lines_at table k) range.0 range.1 in
        subst (λ (ss : List (List ℕ)). Contains ss (set_of k places)) (sym sets) (between-Contains (sets_in (lines_at table k)) range.0 range.1 found.0 (set_of k places) found.1 found.2 found.3);
    left_open = λ p h. absurd (false≢true (ap (λ (set : List ℕ). is_among set p) (sym has.left_open) ∙ h));
    flown = λ p h. absurd (false≢true (ap (λ (set : List ℕ). is_among set p) (sym has.flown) ∙ h));
    least_open = omega (arith, has.least_open);
    most_open =
        omega (arith, has.most_open, legal.covers, count_by-le-length (λ place. eqb place (open_number problem)) places);
  }
