-- What is put behind one another, and one more.
use Rattle.std.proofs.Common.{◌≡◌, ◌+◌, ℕ, arith, refl, subst, suc}
use Rattle.roster_desk_tables.specs.Having.{Have}

pub have_none : {X : Type 0} (Has : ℕ → X → X → Type 0) (old : X) → Have Has 0 old old
unfolding Have
have_none Has old = refl

pub have_more : {X : Type 0} (Has : ℕ → X → X → Type 0) (n : ℕ) (old mid new : X)
    → Have Has n old mid → Has n mid new → Have Has (n + 1) old new
unfolding Have
have_more Has n old mid new are has =
    let one : suc n ≡ n + 1 = omega arith in
    subst (λ k. Have Has k old new) one (mid, are, has)
