-- Lines of a table that are copied, one after another.
use Rattle.std.proofs.Common.{◌≡◌, ◌∙◌, ap₂, ℤ, pos, ◌-ℤ◌, w64, to_z, of_z, FitsSigned, ℕ, ◌+◌, ◌-◌, ◌<◌, ◌≤◌, List, [], ◌∷◌, ◌++◌, length, drop, map, get_or, take, refl, sym, ap, arith, min, inl, inr}
use Rattle.std.proofs.Math.Dec.{leb-zero}
use Rattle.std.proofs.lemmas.Bool.{cases_lt}
use Rattle.std.proofs.lemmas.Int.{to_z-of_z}
use Rattle.std.proofs.lemmas.Option.{slice_get-get_or, slice_get-map, get_or_from_slice_get}
use Rattle.std.specs.Prelude.{slice_get, option_map, Some}
use Rattle.roster_lines_table.specs.Entries.{Entry, costs_of, sets_of}
use Rattle.roster_search_regions.specs.Building.{allowed_between, allowed_in, extra_in}
use Rattle.std.proofs.lemmas.List.{append_assoc, drop_all, drop-append-le, length-take, length-take-le, length_push, map-append, take_all, take_more}
use Rattle.roster_values.specs.Set.{places_from}
use Rattle.roster_search_regions.specs.declared.choice.Choice.{Choice}
use Rattle.roster_search_regions.specs.Trees.{next_path}
use Rattle.roster_search_regions.proofs.TreeLemmas.{next_path-deep}

-- the places of a set from 0 on are all
pub from_none : (set : List ℕ) → places_from 0 set ≡ set
from_none [] = refl
from_none (p ∷ set) = rw (leb-zero p) (ap (λ (rest : List ℕ). p ∷ rest) (from_none set))

-- a pairing more of the set stands on the path already
pub begins-there : (set path : List ℕ) (depth from p : ℕ) → depth < length path → get_or path depth 0 ≡ p
    → set ≡ take depth path ++ places_from from set → places_from from set ≡ p ∷ places_from (p + 1) set
    → set ≡ take (depth + 1) path ++ places_from (p + 1) set
begins-there set path depth from p inside there begins rest =
    let more : take (depth + 1) path ≡ take depth path ++ p ∷ [] =
    take_more path depth 0 inside ∙ ap (λ q. take depth path ++ q ∷ []) there in
    begins ∙ ap (λ (xs : List ℕ). take depth path ++ xs) rest
    ∙ sym (append_assoc (take depth path) (p ∷ []) (places_from (p + 1) set))
    ∙ ap (λ (xs : List ℕ). xs ++ places_from (p + 1) set) (sym more)

-- a pairing more of the set is put on the path
pub begins-next : (set path next : List ℕ) (depth from p : ℕ) → depth ≤ length path
    → next ≡ take depth path ++ p ∷ [] → set ≡ take depth path ++ places_from from set
    → places_from from set ≡ p ∷ places_from (p + 1) set
    → set ≡ take (depth + 1) next ++ places_from (p + 1) set
begins-next set path next depth from p inside is begins rest =
    let long : length next ≡ depth + 1 =
    omega (arith, ap length is, length_push (take depth path) p, length-take-le depth path inside) in
    begins ∙ ap (λ (xs : List ℕ). take depth path ++ xs) rest
    ∙ sym (append_assoc (take depth path) (p ∷ []) (places_from (p + 1) set))
    ∙ ap (λ (xs : List ℕ). xs ++ places_from (p + 1) set) (sym is ∙ sym (take_all (depth + 1) next (omega (arith, long))))

-- ---- what lines cost

-- what stands for an entry past the last
abbrev pub no_entry : Entry
no_entry = record { set = []; cost = pos 0 }

-- what the line at a number costs
cost_is : (entries : List Entry) (i : ℕ) (cost : ℤ) (entry : Entry)
    → slice_get (costs_of entries) i ≡ Some cost → slice_get entries i ≡ Some entry → entry.cost ≡ cost
cost_is entries i cost entry costs at =
    let both : Some entry.cost ≡ Some cost =
    sym (slice_get-map (λ (e : Entry). e.cost) entries i ∙ ap (option_map (λ (e : Entry). e.cost)) at)
    ∙ costs in
    cc

-- what it costs more than the first one
pub extra_is : (entries : List Entry) (i : ℕ) (cost idle : ℤ) (entry : Entry)
    → slice_get (costs_of entries) i ≡ Some cost → slice_get (costs_of entries) 0 ≡ Some idle
    → slice_get entries i ≡ Some entry → extra_in entries entry ≡ cost -ℤ idle
extra_is entries i cost idle entry costs first at =
    ap₂ (λ (a b : ℤ). a -ℤ b) (cost_is entries i cost entry costs at)
    (get_or_from_slice_get (costs_of entries) 0 idle (pos 0) first)

-- the same in words of 64 bits
pub extra_in_words : (entries : List Entry) (i : ℕ) (cost idle : ℤ) (entry : Entry) → FitsSigned w64 cost
    → FitsSigned w64 idle → slice_get (costs_of entries) i ≡ Some cost
    → slice_get (costs_of entries) 0 ≡ Some idle → slice_get entries i ≡ Some entry
    → to_z w64 (of_z w64 cost) -ℤ to_z w64 (of_z w64 idle) ≡ extra_in entries entry
extra_in_words entries i cost idle entry fits_cost fits_idle costs first at =
    ap₂ (λ (a b : ℤ). a -ℤ b) (to_z-of_z w64 cost fits_cost) (to_z-of_z w64 idle fits_idle)
    ∙ sym (extra_is entries i cost idle entry costs first at)

-- ---- a step to a pairing behind so many others

pub next_path-on : (path : List ℕ) (choice : Choice) (depth p : ℕ) → choice.depth ≡ depth + 1
    → choice.last ≡ p → next_path path choice ≡ take depth path ++ p ∷ []
next_path-on path choice depth p deep last =
    let above : choice.depth - 1 ≡ depth = omega arith in
    next_path-deep path choice (omega arith) ∙ ap₂ (λ (n q : ℕ). take n path ++ q ∷ []) above last

-- ---- the lines between two numbers

pub allowed_between-none : (scale : ℕ) (entries : List Entry) (low high : ℕ) → min high (length entries) ≤ low
    → allowed_between scale entries low high ≡ []
allowed_between-none scale entries low high empty =
    ap (map (allowed_in scale entries))
    (drop_all low (take high entries) (omega (arith, length-take high entries)))

pub allowed_between-more : (scale : ℕ) (entries : List Entry) (low i : ℕ) (entry : Entry) → low ≤ i → i < length entries → get_or entries i entry ≡ entry → allowed_between scale entries low (i + 1) ≡ allowed_between scale entries low i ++ allowed_in scale entries entry ∷ []
allowed_between-more scale entries low i entry from inside at =
    let long : length (take i entries) ≡ i = length-take-le i entries (omega arith) in
    let more : take (i + 1) entries ≡ take i entries ++ entry ∷ [] =
    take_more entries i entry inside ∙ ap (λ (e : Entry). take i entries ++ e ∷ []) at in
    ap (λ (es : List Entry). map (allowed_in scale entries) (drop low es)) more
    ∙ ap (map (allowed_in scale entries)) (drop-append-le low (take i entries) (entry ∷ []) (omega (arith, long)))
    ∙ map-append (allowed_in scale entries) (drop low (take i entries)) (entry ∷ [])

-- from the start on, or the end where that is earlier, up to the end of all
pub allowed_between-whole : (scale : ℕ) (entries : List Entry) (low high start i : ℕ)
    → start ≡ min low (min high (length entries)) → i ≡ min high (length entries)
    → allowed_between scale entries start i ≡ allowed_between scale entries low high
allowed_between-whole scale entries low high start i from to =
    elim (cases_lt (min high (length entries)) low) [
      | inr inside ↦
          let same : start ≡ low = omega arith in
          ap (λ (j : ℕ). allowed_between scale entries j i) same
          ∙ ap (λ (es : List Entry). map (allowed_in scale entries) (drop low es)) upto
      | inl past ↦ allowed_between-none scale entries start i (omega arith) ∙ sym (allowed_between-none scale entries low high (omega arith))
    ]
  where
    upto : take i entries ≡ take high entries
    upto = elim (cases_lt (length entries) high) [
      | inr short ↦ ap (λ (j : ℕ). take j entries) (omega arith)
      | inl long ↦ take_all i entries (omega arith) ∙ sym (take_all high entries (omega arith))
    ]

-- the set of the line at a number
pub set_is : (entries : List Entry) (i : ℕ) (set : List ℕ) (entry : Entry)
    → slice_get (sets_of entries) i ≡ Some set → slice_get entries i ≡ Some entry → set ≡ entry.set
set_is entries i set entry sets at =
    let both : Some entry.set ≡ Some set =
    sym (slice_get-map (λ (e : Entry). e.set) entries i ∙ ap (option_map (λ (e : Entry). e.set)) at)
    ∙ sets in
    cc

-- what stands at a number is one entry
pub one_entry : (entries : List Entry) (i : ℕ) (d e : Entry) → i < length entries
    → get_or entries i d ≡ get_or entries i e
one_entry entries i d e inside =
    sym (get_or_from_slice_get entries i (get_or entries i d) e (slice_get-get_or entries i d inside))
