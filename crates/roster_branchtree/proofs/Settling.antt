-- What a search answers, from what it knew, saw and found.
use Rattle.std.proofs.Common.{◌≡◌, ℕ, true, List, Option, Some, None, sym, ap, ◌∙◌, subst, inl, inr}
use Rattle.std.specs.Prelude.{MatchOption, unwrap_or}
use Rattle.std.proofs.lemmas.Bool.{cases_eq}
use Rattle.std.proofs.lemmas.Option.{same_Some}
use Rattle.roster_model.specs.Problem.{Problem}
use Rattle.roster_model.specs.Rosters.{key_le, key_of, Key}
use Rattle.roster_model.specs.Settled.{IsHeld, Settles}
use Rattle.roster_model.proofs.KeyLemmas.{key_le-refl, key_le-trans}
use Rattle.roster_branchtree.specs.Shown.{KeepsWatch, Watched}
use Rattle.roster_incumbent.specs.Kept.{IsEarlierOf}
use Rattle.roster_branchtree.specs.Watching.{keeps_then}

-- a watch that began with the known roster
abbrev pub watch_of : Problem → ℕ → Key → Watched
watch_of problem every known = record { problem = problem; every = every; best = known }

-- its roster is that of a legal roster of the problem
pub watch_held : (problem : Problem) (every : ℕ) (known : Key) (now : Watched) → IsHeld problem known
    → KeepsWatch (watch_of problem every known) now → IsHeld problem now.best
watch_held problem every known now held keeps = subst (λ p. IsHeld p now.best) keeps.problem (keeps.held held)

-- the best of what was seen before, found and seen since
earlier : (found : Option Key) (before since best : Key) → key_le since before ≡ true
    → MatchOption found (best ≡ since) (λ key. IsEarlierOf key since best)
    → IsEarlierOf (unwrap_or found before) since best
earlier None before since best kept same = record {
  first = subst (λ key. key_le key before ≡ true) (sym same) kept;
  second = subst (λ key. key_le key since ≡ true) (sym same) (key_le-refl since);
  one = inr same;
}
earlier (Some key) before since best kept is = is

pub found_settles : (problem : Problem) (Region : List ℕ → Type 0) (every : ℕ) (known : Key) (mid now : Watched) (found : Option Key) (best : Key) → IsHeld problem known
    → KeepsWatch (watch_of problem every known) mid → KeepsWatch mid now
    → Settles problem Region (λ places. every ≡ 0 → Region places) (Some mid.best) (unwrap_or found mid.best)
    → MatchOption found (best ≡ now.best) (λ key. IsEarlierOf key now.best best)
    → Settles problem Region (λ places. every ≡ 0 → Region places) (Some known) best
found_settles problem Region every known mid now found best held first second settled one =
    let start = watch_of problem every known in
    let all = keeps_then start mid now first second in
    let least : Key = unwrap_or found mid.best in
    let is = earlier found mid.best now.best best second.kept one in
    record {
      held = elim is.one [
        | inl same ↦ subst (IsHeld problem) (sym same) settled.held
        | inr same ↦ subst (IsHeld problem) (sym same) (watch_held problem every known now held all)
      ];
      kept = key_le-trans best now.best known is.second all.kept;
      least = λ others legal inside. key_le-trans best least (key_of problem others) is.first (settled.least others legal inside);
      from = elim (cases_eq every 0) [
        | inr looks ↦ inr (λ never. absurd (looks never))
        | inl never ↦ elim is.one [
          | inr same ↦ inl (ap (λ (key : Key). Some key) (sym (same ∙ all.blind never)))
          | inl same ↦ elim settled.from [
            | inl old ↦ inl (ap (λ (key : Key). Some key) (sym (same ∙ sym (same_Some mid.best least old) ∙ first.blind never)))
            | inr inside ↦ inr (λ _. subst (λ (key : Key). Region key.places) (sym same) (inside never))
          ]
        ]
      ];
    }
