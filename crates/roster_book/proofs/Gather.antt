-- What one more record adds to a table.
use Rattle.std.proofs.Common.{◌≡◌, List, [], ◌∷◌, ◌++◌, Option, Some, None, refl, ◌∙◌, ap, append-nil}
use Rattle.std.specs.List.{cons_option}
use Rattle.std.proofs.Math.Seq.{append_snoc}
use Rattle.roster_model.specs.Record.{Record, gather_after}

cons_option-append : {X : Type 0} (o : Option X) (xs ys : List X)
    → cons_option o (xs ++ ys) ≡ cons_option o xs ++ ys
cons_option-append None xs ys = refl
cons_option-append (Some x) xs ys = refl

-- the entries, and the one that one more record adds
pub gather_after-append : {X : Type 0} (entry : List Record → Record → Option X)
    (before records : List Record) (fields : Record)
    → gather_after entry before (records ++ fields ∷ []) ≡ gather_after entry before records ++ cons_option (entry (before ++ records) fields) []
unfolding gather_after
gather_after-append entry before [] fields = rw append-nil refl
gather_after-append entry before (first ∷ records) fields =
    ap (cons_option (entry before first)) (gather_after-append entry (before ++ first ∷ []) records fields)
    ∙ cons_option-append (entry before first) _ _
    ∙ ap (λ all. cons_option (entry before first) (gather_after entry (before ++ first ∷ []) records) ++ cons_option (entry all fields) []) (append_snoc before first records)
