-- Which rules come before one, and which limits.
use Rattle.std.proofs.Common.{◌≡◌, ℕ, suc, ◌+◌, ◌<◌, List, map, Some, length, get_or, refl, sym, ap, ◌∙◌, subst, inl, inr, arith}
use Rattle.std.specs.Prelude.{slice_get}
use Rattle.std.specs.List.{range_with_len}
use Rattle.std.proofs.lemmas.Bool.{cases_eq}
use Rattle.std.proofs.lemmas.List.{get_or-map, length-map}
use Rattle.std.proofs.lemmas.List.FromFn.{get_or-range_with_len}
use Rattle.std.proofs.lemmas.Option.{same_Some, slice_get_within}
use Rattle.roster_model.specs.Rules.{Rule, LimitRule, Limit, Duty7, rank_of, rank_of_limit, by_rank, limits_by_rank, AreByRank, IsFirstFailing}

-- the list has each of what is ranked, in the order of the ranks
pub record IsRanking {R : Type 0} (rank : R → ℕ) (ranked : List R) : Type 0 where
  pub at : (r : R) → slice_get ranked (rank r) ≡ Some r
  pub counts : map rank ranked ≡ range_with_len 0 (length ranked)

limit_at : (limit : Limit) → slice_get limits_by_rank (rank_of_limit limit) ≡ Some limit
limit_at Duty7 = refl
limit_at limit = refl

pub limits-ranked : IsRanking rank_of_limit limits_by_rank
limits-ranked = record { at = limit_at; counts = refl }

rule_at : (rule : Rule) → slice_get by_rank (rank_of rule) ≡ Some rule
rule_at (LimitRule Duty7) = refl
rule_at rule = refl

pub rules-ranked : IsRanking rank_of by_rank
rules-ranked = record { at = rule_at; counts = refl }

pub one_of_rank : {R : Type 0} (rank : R → ℕ) (ranked : List R) → IsRanking rank ranked → (a b : R)
    → rank a ≡ rank b → a ≡ b
one_of_rank rank ranked ranking a b same =
    same_Some a b (sym (ranking.at a) ∙ ap (slice_get ranked) same ∙ ranking.at b)

-- of what each says, what those before rank n say is so
abbrev pub HoldBelow : {R : Type 0} → (R → ℕ) → (R → Type 0) → ℕ → Type 0
HoldBelow {R} rank Says n = (r : R) → rank r < n → Says r

module _ {R : Type 0} (rank : R → ℕ) (ranked : List R) (ranking : IsRanking rank ranked)
    (Says : R → Type 0) where
  below-more : (a : R) → HoldBelow rank Says (rank a) → Says a → HoldBelow rank Says (suc (rank a))
  below-more a below here r before =
      elim (cases_eq (rank r) (rank a)) [
        | inl same ↦ subst Says (sym (one_of_rank rank ranked ranking r a same)) here
        | inr other ↦ below r (omega arith)
      ]

  pub below-all : HoldBelow rank Says (length ranked) → (r : R) → Says r
  below-all below r = below r (slice_get_within ranked (rank r) r (ranking.at r))

  -- ---- all in their order, by other names

  module _ {X : Type 0} (seen : X → R) (names : List X) (i : ℕ) (d : X) (all : AreByRank ranked seen names)
      (inside : i < length names) where
    rank_at : rank (seen (get_or names i d)) ≡ i
    rank_at =
        let long : length ranked ≡ length names = ap length (sym all) ∙ length-map names seen in
        let name : seen (get_or names i d) ≡ get_or ranked i (seen d) =
        sym (get_or-map seen names i d (seen d) inside) ∙ ap (λ rs. get_or rs i (seen d)) all in
        ap rank name ∙ sym (get_or-map rank ranked i (seen d) 0 (omega arith))
        ∙ ap (λ ns. get_or ns i 0) ranking.counts ∙ get_or-range_with_len 0 (length ranked) i 0 (omega arith)
        ∙ omega arith

    -- what the next one says is so too,
    pub below-next : HoldBelow rank Says i → Says (seen (get_or names i d)) → HoldBelow rank Says (i + 1)
    below-next below here r before =
        let at = rank_at in
        below-more (seen (get_or names i d)) (subst (HoldBelow rank Says) (sym at) below) here r (omega arith)

    -- or it is the first that isn't
    pub fails-first : HoldBelow rank Says i → ¬ Says (seen (get_or names i d))
        → IsFirstFailing rank Says (Some (seen (get_or names i d)))
    fails-first below fails = (fails, subst (HoldBelow rank Says) (sym rank_at) below)
