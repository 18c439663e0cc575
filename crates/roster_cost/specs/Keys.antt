-- How the code compares keys.
use Rattle.std.specs.Prelude.{Bool, nat_eq}
use Rattle.std.specs.Cmp.Lexicographic.{pointwise, slice_cmp}
use Rattle.std.specs.Ordering.{int_cmp, int_eq, nat_cmp, on, then_cmp, eq_of_both}
use Rattle.std.specs.declared.cmp.Ordering.{Ordering}
use Rattle.roster_model.specs.Rosters.{Key}

-- by cost, and then by the lists from the front
abbrev pub compare : Key → Key → Ordering
compare = then_cmp (on (λ (key : Key). key.cost) int_cmp) (on (λ (key : Key). key.places) (slice_cmp nat_cmp))

-- whether both fields are equal
abbrev pub is_same : Key → Key → Bool
is_same = eq_of_both (on (λ (key : Key). key.cost) int_eq) (on (λ (key : Key). key.places) (pointwise nat_eq))
