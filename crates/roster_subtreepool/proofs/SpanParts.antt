-- A list of line numbers lies in just one half of a span, and in what the span becomes further down.
use Rattle.std.proofs.Common.{◌≡◌, ℕ, suc, ◌+◌, ◌<◌, ◌≤◌, Bool, true, false, List, [], ◌∷◌, ◌++◌, length, refl, ap, arith}
use Rattle.std.specs.Prelude.{◌==◌, ◌&&◌, nat_le, nat_lt, if◌then◌else◌, slice_index}
use Rattle.std.proofs.lemmas.Bool.Decides.{nat_tests}
use Rattle.roster_subtreepool.specs.Coverage.{goes_on}

abbrev pub one : Bool → ℕ
one b = if b then 1 else 0

range_halves : (i lo mid hi : ℕ) → lo ≤ mid → mid ≤ hi
    → one (nat_le lo i && nat_lt i hi) ≡ one (nat_le lo i && nat_lt i mid) + one (nat_le mid i && nat_lt i hi)
range_halves i lo mid hi low high = grind (arith, nat_tests)

one_and : (b x y z : Bool) → one x ≡ one y + one z → one (b && x) ≡ one (b && y) + one (b && z)
one_and true x y z parts = parts
one_and false x y z parts = refl

pub goes_on-halves : (path : List ℕ) (lo mid hi : ℕ) (numbers : List ℕ) → lo ≤ mid → mid ≤ hi
    → one (goes_on path lo hi numbers) ≡ one (goes_on path lo mid numbers) + one (goes_on path mid hi numbers)
goes_on-halves [] lo mid hi [] low high = refl
goes_on-halves [] lo mid hi (i ∷ rest) low high = range_halves i lo mid hi low high
goes_on-halves (p ∷ path) lo mid hi [] low high = refl
goes_on-halves (p ∷ path) lo mid hi (i ∷ rest) low high =
    one_and (p == i) (goes_on path lo hi rest) (goes_on path lo mid rest) (goes_on path mid hi rest)
    (goes_on-halves path lo mid hi rest low high)

-- a range of one line, where the next number is within the next width
range_down : (i lo j width : ℕ) → j < width
    → (nat_le lo i && nat_lt i (lo + 1)) ≡ ((lo == i) && (nat_le 0 j && nat_lt j width))
range_down i lo j width within = grind (arith, nat_tests)

pub goes_on-down : (path : List ℕ) (lo width : ℕ) (numbers : List ℕ) → suc (length path) < length numbers
    → slice_index numbers (suc (length path)) < width
    → goes_on path lo (lo + 1) numbers ≡ goes_on (path ++ lo ∷ []) 0 width numbers
goes_on-down [] lo width [] long within = absurd (omega arith)
goes_on-down [] lo width (i ∷ []) long within = absurd (omega arith)
goes_on-down [] lo width (i ∷ j ∷ rest) long within = range_down i lo j width within
goes_on-down (p ∷ path) lo width [] long within = absurd (omega arith)
goes_on-down (p ∷ path) lo width (i ∷ rest) long within =
    ap (λ b. (p == i) && b) (goes_on-down path lo width rest (omega arith) within)
