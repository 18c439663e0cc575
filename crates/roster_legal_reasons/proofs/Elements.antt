-- Elements of lists by their places.
use Rattle.std.proofs.Common.{◌≡◌, ℕ, Bool, true, List, Some, get_or}
use Rattle.std.specs.Prelude.{All, filter, slice_get}
use Rattle.std.proofs.lemmas.List.Elements.{All-filter, filter_passes}
use Rattle.std.proofs.lemmas.Option.{slice_get-get_or}

-- what holds of each element, holds of all,
pub All-each : {X : Type 0} (P : X → Type 0) (xs : List X) → ((i : ℕ) (x : X) → slice_get xs i ≡ Some x → P x)
    → All P xs
All-each P xs each i d inside = each i (get_or xs i d) (slice_get-get_or xs i d inside)

-- and what holds of each that passes a test, holds of all that do
pub All-passed : {X : Type 0} (test : X → Bool) (P : X → Type 0) (xs : List X)
    → ((i : ℕ) (x : X) → slice_get xs i ≡ Some x → test x ≡ true → P x) → All P (filter test xs)
All-passed {X} test P xs each i d inside =
    let Q : X → Type 0 = λ x. test x ≡ true → P x in
    All-filter test Q xs (All-each Q xs each) i d inside (filter_passes test xs i d inside)
