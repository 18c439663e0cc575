-- The least roster of two parts that share nothing is united from the least of each.
use Rattle.std.proofs.Common.{◌≡◌, ℕ, ◌<◌, Bool, List, length, refl, sym, subst, inl, inr, arith}
use Rattle.std.proofs.lemmas.Bool.{cases_Bool}
use Rattle.std.proofs.lemmas.Option.{slice_get_within}
use Rattle.roster_model.specs.Problem.{Problem}
use Rattle.roster_model.specs.Rosters.{Key, key_of}
use Rattle.roster_lines_table.specs.Entries.{Entry}
use Rattle.roster_bases.specs.Bases.{base_of_person}
use Rattle.roster_bases.specs.United.{unite}
use Rattle.roster_bases.proofs.Homes.{home_both, home_second, home_united, in_both_first, in_both_second, in_second, not_in_first, AreApart}
use Rattle.roster_bases.proofs.Orders.{united_not_after}
use Rattle.roster_bases.proofs.Unites.{legal-unite, set_of-unite, set_of-unite_other}
use Rattle.roster_search_least.specs.Least.{IsLeast}
use Rattle.roster_search_least.specs.Parts.{IsInPart, IsNumbered}

module _ (problem : Problem) (table : List (List Entry)) (ranges : List (ℕ × ℕ))
    (covers : length ranges ≡ length problem.persons) (first second both : ℕ → Bool)
    (are : AreApart first second both) where
  -- both parts of their own rosters make one of the whole
  united_inside : (xs ys : List ℕ) → IsInPart problem table ranges first xs
      → IsInPart problem table ranges second ys
      → IsInPart problem table ranges both (unite problem first xs ys)
  united_inside xs ys one two = record {
    legal = legal-unite problem first xs ys one.legal two.legal;
    numbered = λ k range at here.
        let person : k < length problem.persons = omega (arith, slice_get_within ranges k range at) in
        elim (cases_Bool (first (base_of_person problem k))) [
          | inl ours ↦ subst (IsNumbered table k range) (sym (set_of-unite problem first xs ys k one.legal two.legal person ours)) (one.numbered k range at ours)
          | inr theirs ↦
              subst (IsNumbered table k range)
              (sym (set_of-unite_other problem first xs ys k one.legal two.legal person theirs))
              (two.numbered k range at (in_second first second both (base_of_person problem k) are here theirs))
        ];
    home = home_both problem first second both xs ys are one.legal two.legal two.home;
  }

  -- a roster of the whole with the others of the first part's roster is one of the first part
  first_inside : (xs others : List ℕ) → IsInPart problem table ranges first xs
      → IsInPart problem table ranges both others
      → IsInPart problem table ranges first (unite problem first others xs)
  first_inside xs others one whole = record {
    legal = legal-unite problem first others xs whole.legal one.legal;
    numbered = λ k range at ours.
        let person : k < length problem.persons = omega (arith, slice_get_within ranges k range at) in
        subst (IsNumbered table k range)
        (sym (set_of-unite problem first others xs k whole.legal one.legal person ours))
        (whole.numbered k range at (in_both_first first second both (base_of_person problem k) are ours));
    home = home_united problem first others xs whole.legal one.legal one.home;
  }

  -- with the others of the second part's roster it is one of the second part
  second_inside : (ys others : List ℕ) → IsInPart problem table ranges second ys
      → IsInPart problem table ranges both others
      → IsInPart problem table ranges second (unite problem first ys others)
  second_inside ys others two whole = record {
    legal = legal-unite problem first ys others two.legal whole.legal;
    numbered = λ k range at here.
        let person : k < length problem.persons = omega (arith, slice_get_within ranges k range at) in
        let theirs = not_in_first first second both (base_of_person problem k) are here in
        subst (IsNumbered table k range)
        (sym (set_of-unite_other problem first ys others k two.legal whole.legal person theirs))
        (whole.numbered k range at (in_both_second first second both (base_of_person problem k) are here));
    home = home_second problem first second both ys others are two.legal whole.legal two.home whole.home;
  }

  pub united_is_least : (xs ys : Key) → IsLeast problem (IsInPart problem table ranges first) xs → IsLeast problem (IsInPart problem table ranges second) ys → IsLeast problem (IsInPart problem table ranges both) (key_of problem (unite problem first xs.places ys.places))
  united_is_least xs ys one two = record {
    held = record { legal = legal-unite problem first xs.places ys.places one.held.legal two.held.legal; cost = refl };
    inside = united_inside xs.places ys.places one.inside two.inside;
    least = λ others legal whole.
        let ours = first_inside xs.places others one.inside whole in
        let theirs = second_inside ys.places others two.inside whole in
        united_not_after problem first xs ys others one.held two.held legal
        (one.least (unite problem first others xs.places) ours.legal ours)
        (two.least (unite problem first ys.places others) theirs.legal theirs);
  }
