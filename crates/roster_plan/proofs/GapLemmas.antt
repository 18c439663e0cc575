-- Bases whose prices are looked at.
use Rattle.std.proofs.Common.{ℕ, Bool, true, false, List, [], ◌∷◌, ◌++◌, take, drop, length, sym, subst}
use Rattle.std.specs.List.{items_where_true}
use Rattle.std.specs.List.Retain.{IsFiltered}
use Rattle.std.proofs.lemmas.List.Elements.{All-append, All-cons, All-drop, All-head, All-nil, All-tail, All-take}
use Rattle.roster_model.specs.Problem.{Problem}
use Rattle.roster_plan.specs.declared.apart.Gap.{Gap}
use Rattle.roster_plan.specs.Bases.{AreGaps, IsGap}

-- so it is with all if it is with those of the slice that is written and with those before
pub gaps_written : (problem : Problem) (count : ℕ) (old new : List Gap) → AreGaps problem old → AreGaps problem new
    → AreGaps problem (take count (new ++ drop (length new) old))
gaps_written problem count old new before after =
    All-take (IsGap problem) _ _
    (All-append (IsGap problem) new _ after (All-drop (IsGap problem) _ _ before))

picked : (problem : Problem) (told : List Bool) (gaps : List Gap) → AreGaps problem gaps
    → AreGaps problem (items_where_true told gaps)
picked problem [] gaps are = All-nil (IsGap problem)
picked problem (true ∷ told) [] are = All-nil (IsGap problem)
picked problem (false ∷ told) [] are = All-nil (IsGap problem)
picked problem (true ∷ told) (gap ∷ gaps) are =
    All-cons (IsGap problem) gap (items_where_true told gaps) (All-head (IsGap problem) gap gaps are)
    (picked problem told gaps (All-tail (IsGap problem) gap gaps are))
picked problem (false ∷ told) (gap ∷ gaps) are =
    picked problem told gaps (All-tail (IsGap problem) gap gaps are)

-- so it is with those that stay
pub gaps_left : {F : Type 0} (R : F → Gap → Bool → F → Type 0) (test : F) (old new : List Gap)
    → IsFiltered R test old new → (problem : Problem) → AreGaps problem old → AreGaps problem new
gaps_left R test old new left problem are =
    subst (AreGaps problem) (sym left.4) (picked problem left.0 old are)
