-- What a writer holds after one write and then another.
use Rattle.std.proofs.Common.{ℕ, ◌+◌, List, ◌++◌, take, drop, Option, Some, None, sym, ap, ◌∙◌, append_assoc, subst}
use Rattle.std.proofs.Math.Seq.{take-add}
use Rattle.std.specs.Io.KnownBytes.{Appends}

pub Appends-then : (first second third : Option (List ℕ)) (xs ys : List ℕ) → Appends first second xs
    → Appends second third ys → Appends first third (xs ++ ys)
Appends-then None second third xs ys a b = tt
Appends-then (Some p) None third xs ys a b = absurd a
Appends-then (Some p) (Some q) None xs ys a b = absurd b
Appends-then (Some p) (Some q) (Some r) xs ys a b = b ∙ ap (λ (t : List ℕ). t ++ ys) a ∙ append_assoc p xs ys

-- the front of a text, and then the front of what follows
pub Appends-front : (first second third : Option (List ℕ)) (k n : ℕ) (text : List ℕ)
    → Appends first second (take k text) → Appends second third (take n (drop k text))
    → Appends first third (take (k + n) text)
Appends-front first second third k n text a b =
    subst (Appends first third) (sym (take-add k n text))
    (Appends-then first second third (take k text) (take n (drop k text)) a b)
