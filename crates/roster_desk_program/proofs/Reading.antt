-- What is read of a file of which so many bytes are read at most.
use Rattle.std.proofs.Common.{◌≡◌, ◌<◌, ℕ, List, Option, Some, None, length, take, min, ◌∙◌, subst, arith}
use Rattle.std.specs.Prelude.{IfSome, option_map}
use Rattle.std.proofs.lemmas.List.{length-take, take_all}

whole : (held : List ℕ) (most : ℕ) → length (take most held) < most → take most held ≡ held
whole held most short =
    let cut : min most (length held) < most = subst (λ n. n < most) (length-take most held) short in
    take_all most held (omega (arith, cut))

-- all of it, if that is less
pub all_read : (known : Option (List ℕ)) (most : ℕ) (bytes : List ℕ)
    → IfSome (option_map (take most) known) (λ taken. bytes ≡ taken) → length bytes < most
    → IfSome known (λ held. bytes ≡ held)
all_read None most bytes is short = is
all_read (Some held) most bytes is short = is ∙ whole held most (subst (λ it. length it < most) is short)
