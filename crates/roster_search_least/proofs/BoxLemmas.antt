-- The least roster of a box, one base after another.
use Rattle.std.proofs.Common.{◌≡◌, ℕ, ◌+◌, ◌-◌, ◌^◌, ◌<◌, true, false, List, length, Option, Some, None, unwrap_or, MatchOption, pos, ◌<ℤ◌, refl, sym, subst, inl, inr, arith}
use Rattle.std.proofs.lemmas.Bool.{both_ways}
use Rattle.std.proofs.lemmas.Int.{ints}
use Rattle.std.proofs.lemmas.Option.{slice_get_within}
use Rattle.roster_model.specs.declared.limits.TheConstants.{MOST_BASES}
use Rattle.roster_model.specs.Costs.{cost_of}
use Rattle.roster_model.specs.Plans.{all_open}
use Rattle.roster_model.specs.Problem.{Problem}
use Rattle.roster_model.specs.Rosters.{IsLegalRoster, Key, key_of, key_le}
use Rattle.roster_model.specs.Settled.{IsHeld, IsNotAfter, Settles}
use Rattle.roster_model.proofs.KeyLemmas.{key_le-other, key_le-refl, key_le-trans}
use Rattle.roster_model.proofs.RosterLemmas.{all_open_legal}
use Rattle.roster_problem.specs.Sound.{IsSound}
use Rattle.roster_lines_table.specs.Entries.{Entry}
use Rattle.roster_bases.specs.Bases.{base_of_person, before, only}
use Rattle.roster_bases.specs.Homes.{IsHome}
use Rattle.roster_bases.specs.United.{unite}
use Rattle.roster_bases.proofs.Homes.{every_base, every_home, home_united, next_base, none_before, open_home}
use Rattle.roster_bases.proofs.Orders.{open_first}
use Rattle.roster_bases.proofs.Unites.{legal-unite, set_of-unite}
use Rattle.roster_search_regions.specs.Regions.{IsInRanges}
use Rattle.roster_search_least.specs.Least.{CostsAtLeast, IsLeast}
use Rattle.roster_search_least.specs.Parts.{IsInPart, IsNumbered}
use Rattle.roster_search_least.proofs.LeastParts.{united_is_least}

-- ---- before the first base

pub least_of_none : (problem : Problem) (table : List (List Entry)) (ranges : List (ℕ × ℕ)) (places : List ℕ)
    → places ≡ all_open problem
    → IsLeast problem (IsInPart problem table ranges (before 0)) (key_of problem places)
least_of_none problem table ranges places same =
    let legal : IsLegalRoster problem places =
    subst (IsLegalRoster problem) (sym same) (all_open_legal problem) in
    record {
      held = record { legal = legal; cost = refl };
      inside = record {
        legal = legal;
        numbered = λ k range at here. absurd (both_ways _ (none_before (base_of_person problem k)) here);
        home = subst (IsHome problem (before 0)) (sym same) (open_home problem (before 0));
      };
      least = λ others other_legal part.
          open_first problem (before 0) places same (λ k person. none_before (base_of_person problem k)) others other_legal part.home;
    }

-- ---- one base more

pub least_of_next : (problem : Problem) (table : List (List Entry)) (ranges : List (ℕ × ℕ)) (base : ℕ) (part : Key) (old new : List ℕ) → length ranges ≡ length problem.persons
    → IsLeast problem (IsInPart problem table ranges (only base)) part
    → IsLeast problem (IsInPart problem table ranges (before base)) (key_of problem old)
    → new ≡ unite problem (only base) part.places old
    → IsLeast problem (IsInPart problem table ranges (before (base + 1))) (key_of problem new)
least_of_next problem table ranges base part old new covers one two same =
    subst
    (λ places. IsLeast problem (IsInPart problem table ranges (before (base + 1))) (key_of problem places))
    (sym same)
    (united_is_least problem table ranges covers (only base) (before base) (before (base + 1)) (next_base base) part (key_of problem old) one two)

-- ---- a base with no roster

-- what a roster of the box has at one base, and nothing elsewhere
only_base : (problem : Problem) (table : List (List Entry)) (ranges : List (ℕ × ℕ)) (base : ℕ) (others : List ℕ) → length ranges ≡ length problem.persons → IsLegalRoster problem others → IsInRanges table ranges others → IsInPart problem table ranges (only base) (unite problem (only base) others (all_open problem))
only_base problem table ranges base others covers legal inside =
    let open_legal = all_open_legal problem in
    record {
      legal = legal-unite problem (only base) others (all_open problem) legal open_legal;
      numbered = λ k range at here.
          let person : k < length problem.persons = omega (arith, slice_get_within ranges k range at) in
          subst (IsNumbered table k range) (sym (set_of-unite problem (only base) others (all_open problem) k legal open_legal person here)) (inside k range at);
      home = home_united problem (only base) others (all_open problem) legal open_legal (open_home problem (only base));
    }

-- if a base has none, the box has none
pub settled_by_none : (problem : Problem) (table : List (List Entry)) (ranges : List (ℕ × ℕ)) (base : ℕ) (known : Key) → length ranges ≡ length problem.persons → IsHeld problem known
    → CostsAtLeast problem (IsInPart problem table ranges (only base)) (pos (2 ^ 63 - 1))
    → ((places : List ℕ) → IsLegalRoster problem places → cost_of problem places <ℤ pos (2 ^ 63 - 1))
    → Settles problem (IsInRanges table ranges) (IsInRanges table ranges) (Some known) known
settled_by_none problem table ranges base known covers held none fits = record {
  held = held;
  kept = key_le-refl known;
  least = λ others legal inside.
      let part = only_base problem table ranges base others covers legal inside in
      let much = none (unite problem (only base) others (all_open problem)) part.legal part in
      let little = fits (unite problem (only base) others (all_open problem)) part.legal in
      absurd (omega (arith, ints));
  from = inl refl;
}

-- ---- after the last base

pub least_of_all : (problem : Problem) (table : List (List Entry)) (ranges : List (ℕ × ℕ)) (n : ℕ) (key : Key)
    → IsSound problem → length ranges ≡ length problem.persons → n ≡ MOST_BASES
    → IsLeast problem (IsInPart problem table ranges (before n)) key
    → IsLeast problem (IsInRanges table ranges) key
least_of_all problem table ranges n key sound covers all is = record {
  held = is.held;
  inside = λ k range at. is.inside.numbered k range at (every_base problem n k sound all (omega (arith, slice_get_within ranges k range at)));
  least = λ others legal inside. is.least others legal (record {
    legal = legal;
    numbered = λ k range at _. inside k range at;
    home = every_home problem n others sound all;
  });
}

-- the earlier of the known roster and one that isn't after any
pub settled_by_earlier : (problem : Problem) (Region Own : List ℕ → Type 0) (known : Key) (places : List ℕ) (found : Option Key) → IsHeld problem known → IsLegalRoster problem places → IsNotAfter problem Region (key_of problem places) → Own places
    → MatchOption found (key_le known (key_of problem places) ≡ true) (λ roster. (roster ≡ key_of problem places) × (key_le known roster ≡ false))
    → Settles problem Region Own (Some known) (unwrap_or found known)
settled_by_earlier problem Region Own known places None held legal least own before = record {
  held = held;
  kept = key_le-refl known;
  least = λ others other_legal inside. key_le-trans known (key_of problem places) (key_of problem others) before (least others other_legal inside);
  from = inl refl;
}
settled_by_earlier problem Region Own known places (Some roster) held legal least own after = record {
  held = subst (IsHeld problem) (sym after.0) (record { legal = legal; cost = refl });
  kept = key_le-other known roster after.1;
  least = λ others other_legal inside. subst (λ key. key_le key (key_of problem others) ≡ true) (sym after.0) (least others other_legal inside);
  from = inr (subst (λ (key : Key). Own key.places) (sym after.0) own);
}
