-- Which of united rosters is earlier.
use Rattle.std.proofs.Common.{◌≡◌, ℕ, ◌<◌, Bool, true, false, List, length, sym, ◌∙◌, subst}
use Rattle.roster_model.specs.Plans.{all_open}
use Rattle.roster_model.specs.Problem.{Problem}
use Rattle.roster_model.specs.Rosters.{IsLegalRoster, Key, key_of, key_le}
use Rattle.roster_model.specs.Settled.{IsHeld, IsNotAfter}
use Rattle.roster_model.proofs.KeyLemmas.{key_le-refl, key_le-trans}
use Rattle.roster_model.proofs.SettledLemmas.{held-key}
use Rattle.roster_bases.specs.Bases.{base_of_pairing, base_of_person}
use Rattle.roster_bases.specs.Homes.{IsHome}
use Rattle.roster_bases.specs.United.{unite}
use Rattle.roster_bases.proofs.Homes.{all_is_open}
use Rattle.roster_bases.proofs.Picks.{pick-first, pick-second}
use Rattle.roster_bases.proofs.Unites.{exchange, exchange_others, legal-unite}

-- If the others come before neither roster with what that has at its own bases changed, the others don't come before the two united.
pub united_not_after : (problem : Problem) (first : ℕ → Bool) (xs ys : Key) (others : List ℕ)
    → IsHeld problem xs → IsHeld problem ys → IsLegalRoster problem others
    → key_le xs (key_of problem (unite problem first others xs.places)) ≡ true
    → key_le ys (key_of problem (unite problem first ys.places others)) ≡ true
    → key_le (key_of problem (unite problem first xs.places ys.places)) (key_of problem others) ≡ true
united_not_after problem first xs ys others held also legal later latter =
    let same_first : length xs.places ≡ length others = held.legal.covers ∙ sym legal.covers in
    let same_second : length ys.places ≡ length others = also.legal.covers ∙ sym legal.covers in
    let mid : List ℕ = unite problem first xs.places others in
    let mid_legal = legal-unite problem first xs.places others held.legal legal in
    let ours =
    subst (λ k. key_le k (key_of problem (unite problem first others xs.places)) ≡ true)
    (held-key problem xs held) later in
    let step = sym (exchange problem first xs.places others held.legal legal) ∙ ours in
    let theirs =
    subst (λ k. key_le k (key_of problem (unite problem first ys.places others)) ≡ true)
    (held-key problem ys also) latter in
    let same_back : unite problem first ys.places mid ≡ unite problem first ys.places others =
    pick-second (λ p. first (base_of_pairing problem p)) 0 xs.places others ys.places same_first
    (sym same_second) in
    let theirs_mid =
    subst (λ zs. key_le (key_of problem ys.places) (key_of problem zs) ≡ true) (sym same_back) theirs in
    let turn = sym (exchange_others problem first ys.places mid also.legal mid_legal) ∙ theirs_mid in
    let same_front : unite problem first mid ys.places ≡ unite problem first xs.places ys.places =
    pick-first (λ p. first (base_of_pairing problem p)) 0 xs.places others ys.places same_first
    (sym same_second) in
    let front = subst (λ zs. key_le (key_of problem zs) (key_of problem mid) ≡ true) same_front turn in
    key_le-trans (key_of problem (unite problem first xs.places ys.places)) (key_of problem mid)
    (key_of problem others) front step

-- Where nobody can fly, the roster that leaves all open is the only one.
pub open_first : (problem : Problem) (bases : ℕ → Bool) (places : List ℕ) → places ≡ all_open problem
    → ((k : ℕ) → k < length problem.persons → bases (base_of_person problem k) ≡ false)
    → IsNotAfter problem (IsHome problem bases) (key_of problem places)
open_first problem bases places all nobody others legal home =
    let same : others ≡ places = all_is_open problem bases others legal home nobody ∙ sym all in
    subst (λ xs. key_le (key_of problem places) (key_of problem xs) ≡ true) (sym same)
    (key_le-refl (key_of problem places))
