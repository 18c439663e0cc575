-- The entries of some lines, one line after another.
use Rattle.std.proofs.Common.{◌≡◌, ℕ, zero, suc, ◌+◌, ◌-◌, ◌<◌, ◌≤◌, false, eq-eqb, List, [], ◌∷◌, ◌++◌, length, get_or, map, Some, refl, sym, ap, ◌∙◌, subst, arith, append-nil}
use Rattle.std.specs.Prelude.{All, option_map, slice_get}
use Rattle.std.specs.List.Sorted.{IsStrictlyIncreasing}
use Rattle.std.proofs.lemmas.List.{append_assoc, map-append, length-map, length_push, get_or_append_left, get_or_push}
use Rattle.std.proofs.lemmas.List.Elements.{All-cons, All-nil, All-push}
use Rattle.std.proofs.lemmas.List.Quantifiers.{all_pairs_push}
use Rattle.std.proofs.lemmas.Option.{none-some, same_Some, slice_get_within, slice_get-get_or, slice_get-map}
use Rattle.roster_model.specs.declared.limits.TheConstants.{MOST_LINES, MOST_PAIRINGS}
use Rattle.roster_model.specs.Lines.{AreOrdered}
use Rattle.roster_model.specs.Places.{places_le}
use Rattle.roster_model.proofs.SetLemmas.{length_within, Ascends-from_rising, Ascends-push, rising_from_Ascends}
use Rattle.roster_model.proofs.PushLemmas.{each-push}
use Rattle.roster_lines_table.specs.declared.lines.Row.{Row}
use Rattle.roster_lines_table.specs.Entries.{Entry, costs_of, entry_of, longer, set_at, sets_of}
use Rattle.roster_lines_table.specs.Rows.{entries_after, set_after, IsWithinLimits}
use Rattle.roster_lines_table.specs.Tree.{entries_from, entries_in, next_set, IsTree}
use Rattle.roster_lines_table.proofs.Preorder.{begins_last, entries_after-push, set_after-longer}

-- ---- one entry more

pub sets_of-push : (entries : List Entry) (entry : Entry)
    → sets_of (entries ++ entry ∷ []) ≡ sets_of entries ++ entry.set ∷ []
sets_of-push entries entry = map-append (λ (e : Entry). e.set) entries (entry ∷ [])

pub length-sets_of : (entries : List Entry) → length (sets_of entries) ≡ length entries
length-sets_of entries = length-map entries (λ (e : Entry). e.set)

set_at-push : (entries : List Entry) (entry : Entry) (i : ℕ) → i < length entries
    → set_at (entries ++ entry ∷ []) i ≡ set_at entries i
set_at-push entries entry i inside =
    ap (λ sets. get_or sets i []) (sets_of-push entries entry)
    ∙ get_or_append_left (sets_of entries) (entry.set ∷ []) [] i (omega (arith, length-sets_of entries))

set_at-new : (entries : List Entry) (entry : Entry)
    → set_at (entries ++ entry ∷ []) (length entries) ≡ entry.set
set_at-new entries entry =
    ap (λ sets. get_or sets (length entries) []) (sets_of-push entries entry)
    ∙ get_or_push (sets_of entries) entry.set [] (length entries) (length-sets_of entries)

pub set_at_get : (entries : List Entry) (i : ℕ) → i < length entries
    → slice_get (sets_of entries) i ≡ Some (set_at entries i)
set_at_get entries i inside = slice_get-get_or (sets_of entries) i [] (omega (arith, length-sets_of entries))

-- ---- several lines more

length-entries_from : (entries : List Entry) (lines : List Row)
    → length (entries_from entries lines) ≡ length entries + length lines
unfolding entries_from
length-entries_from entries [] = omega arith
length-entries_from entries (line ∷ lines) =
    let entry : Entry = entry_of (next_set entries line) line.cost in
    let more : length (entries ++ entry ∷ []) ≡ length entries + 1 = length_push entries entry in
    let rest = length-entries_from (entries ++ entry ∷ []) lines in
    omega (arith, rest)

set_at-kept : (entries : List Entry) (lines : List Row) (i : ℕ) → i < length entries
    → set_at (entries_from entries lines) i ≡ set_at entries i
unfolding entries_from
set_at-kept entries [] i inside = refl
set_at-kept entries (line ∷ lines) i inside =
    let entry : Entry = entry_of (next_set entries line) line.cost in
    set_at-kept (entries ++ entry ∷ []) lines i (omega (arith, length_push entries entry))
    ∙ set_at-push entries entry i inside

pub next_set-some : (entries : List Entry) (line : Row) → 0 < length entries
    → next_set entries line ≡ longer entries line.parent line.last
next_set-some [] line some = absurd (omega arith)
next_set-some (first ∷ entries) line some = refl

set_at-line : (entries : List Entry) (lines : List Row) (i j : ℕ) (line : Row) → slice_get lines i ≡ Some line
    → length entries + i ≡ j → 0 < j → line.parent < j
    → set_at (entries_from entries lines) j ≡ longer (entries_from entries lines) line.parent line.last
unfolding entries_from
set_at-line entries [] i j line at place some before = absurd (none-some _ at)
set_at-line entries (first ∷ lines) zero j line at place some before =
    let entry : Entry = entry_of (next_set entries first) first.cost in
    let long : length (entries ++ entry ∷ []) ≡ length entries + 1 = length_push entries entry in
    let here : length entries ≡ j = omega arith in
    let same : first ≡ line = same_Some first line at in
    let parent : set_at (entries_from (entries ++ entry ∷ []) lines) line.parent ≡ set_at entries line.parent =
    set_at-kept (entries ++ entry ∷ []) lines line.parent (omega arith)
    ∙ set_at-push entries entry line.parent (omega arith) in
    set_at-kept (entries ++ entry ∷ []) lines j (omega arith)
    ∙ ap (set_at (entries ++ entry ∷ [])) (sym here)
    ∙ set_at-new entries entry
    ∙ ap (next_set entries) same
    ∙ next_set-some entries line (omega arith)
    ∙ ap (λ set. set ++ line.last ∷ []) (sym parent)
set_at-line entries (first ∷ lines) (suc i) j line at place some before =
    let entry : Entry = entry_of (next_set entries first) first.cost in
    let long : length (entries ++ entry ∷ []) ≡ length entries + 1 = length_push entries entry in
    set_at-line (entries ++ entry ∷ []) lines i j line at (omega arith) some before

entries_from-push : (entries : List Entry) (lines : List Row) (line : Row) → entries_from entries (lines ++ line ∷ []) ≡ entries_from entries lines ++ entry_of (next_set (entries_from entries lines) line) line.cost ∷ []
unfolding entries_from
entries_from-push entries [] line = refl
entries_from-push entries (first ∷ lines) line =
    entries_from-push (entries ++ entry_of (next_set entries first) first.cost ∷ []) lines line

costs_from : (entries : List Entry) (lines : List Row)
    → costs_of (entries_from entries lines) ≡ costs_of entries ++ map (λ (l : Row). l.cost) lines
unfolding entries_from
costs_from entries [] = sym (append-nil (costs_of entries))
costs_from entries (line ∷ lines) =
    let entry : Entry = entry_of (next_set entries line) line.cost in
    costs_from (entries ++ entry ∷ []) lines
    ∙ ap (λ costs. costs ++ map (λ (l : Row). l.cost) lines) (map-append (λ (e : Entry). e.cost) entries (entry ∷ []))
    ∙ append_assoc (costs_of entries) (line.cost ∷ []) (map (λ (l : Row). l.cost) lines)

-- ---- all lines

pub length-entries_in : (lines : List Row) → length (entries_in lines) ≡ length lines
unfolding entries_in
length-entries_in lines = let long = length-entries_from [] lines in omega (arith, long)

pub set_at_first : (lines : List Row) → set_at (entries_in lines) 0 ≡ []
unfolding entries_in entries_from
set_at_first [] = refl
set_at_first (line ∷ lines) = set_at-kept (entry_of [] line.cost ∷ []) lines 0 (omega arith)

pub cost_in : (lines : List Row) (i : ℕ) (line : Row) → slice_get lines i ≡ Some line
    → slice_get (costs_of (entries_in lines)) i ≡ Some line.cost
unfolding entries_in
cost_in lines i line at =
    ap (λ costs. slice_get costs i) (costs_from [] lines) ∙ slice_get-map (λ (l : Row). l.cost) lines i
    ∙ ap (option_map (λ (l : Row). l.cost)) at

-- the set of a line is its parent's with its last pairing behind
pub set_at_later : (lines : List Row) (i : ℕ) (line : Row) → slice_get lines i ≡ Some line → 0 < i
    → line.parent < i → set_at (entries_in lines) i ≡ longer (entries_in lines) line.parent line.last
unfolding entries_in
set_at_later lines i line at later before = set_at-line [] lines i i line at (omega arith) later before

pub entries_in-push : (lines : List Row) (line : Row) → 0 < length lines → entries_in (lines ++ line ∷ []) ≡ entries_in lines ++ entry_of (longer (entries_in lines) line.parent line.last) line.cost ∷ []
unfolding entries_in
entries_in-push lines line some =
    entries_from-push [] lines line
    ∙ ap (λ set. entries_from [] lines ++ entry_of set line.cost ∷ []) (next_set-some (entries_from [] lines) line (let long = length-entries_from [] lines in omega (arith, long)))

-- ---- the tree

parents-first : (line : Row) (i : ℕ) (l : Row) → slice_get (line ∷ []) i ≡ Some l → 0 < i → l.parent < i
parents-first line zero l at later = absurd (omega arith)
parents-first line (suc i) l at later = absurd (none-some _ at)

pub entries_in-first : (line : Row) → entries_in (line ∷ []) ≡ entry_of [] line.cost ∷ []
unfolding entries_in entries_from
entries_in-first line = refl

depths-first : (line : Row) → line.depth ≡ 0 → (i : ℕ) (l : Row) → slice_get (line ∷ []) i ≡ Some l
    → l.depth ≡ length (set_at (entries_in (line ∷ [])) i)
unfolding entries_in entries_from
depths-first line root zero l at = ap (λ (x : Row). x.depth) (sym (same_Some line l at)) ∙ root
depths-first line root (suc i) l at = absurd (none-some _ at)

preorder-first : (line : Row) → line.depth ≡ 0 → entries_after [] (line ∷ []) ≡ entries_in (line ∷ [])
unfolding entries_in entries_from entries_after
preorder-first line root = rw (eq-eqb line.depth 0 root) refl

pub IsTree-first : (line : Row) → line.depth ≡ 0 → line.last ≡ 0 → IsTree (line ∷ [])
IsTree-first line root none =
    let sets : sets_of (entries_in (line ∷ [])) ≡ [] ∷ [] = ap sets_of (entries_in-first line) in
    record {
      some = omega arith;
      parents = parents-first line;
      ascending =
          subst (All IsStrictlyIncreasing) (sym sets)
          (All-cons IsStrictlyIncreasing [] [] (rising_from_Ascends [] tt) (All-nil IsStrictlyIncreasing));
      places = subst (All (All (λ p. p < MOST_PAIRINGS))) (sym sets) (All-cons (All (λ p. p < MOST_PAIRINGS)) [] [] (All-nil (λ p. p < MOST_PAIRINGS)) (All-nil (All (λ p. p < MOST_PAIRINGS))));
      ordered = subst AreOrdered (sym sets) (λ i j d l inside. absurd (omega arith));
      few = omega arith;
      depths = depths-first line root;
      preorder = preorder-first line root;
      limits =
          All-cons IsWithinLimits line [] (record { depth = omega arith; last = omega arith })
          (All-nil IsWithinLimits);
    }

pub AreOrdered-push : (sets : List (List ℕ)) (set : List ℕ) → AreOrdered sets
    → All (λ s. places_le set s ≡ false) sets → AreOrdered (sets ++ set ∷ [])
AreOrdered-push sets set ordered before =
    all_pairs_push (λ a b. places_le b a ≡ false) sets set ordered before

-- a line that others go on from has room for one pairing more
pub depth_below : (lines : List Row) → IsTree lines → (i : ℕ) (line : Row) (last : ℕ)
    → slice_get lines i ≡ Some line → last < MOST_PAIRINGS → All (λ p. p < last) (set_at (entries_in lines) i)
    → line.depth + 1 ≤ MOST_PAIRINGS
depth_below lines tree i line last at room below =
    let inside = slice_get_within lines i line at in
    let few = length_within (set_at (entries_in lines) i) last (tree.ascending i [] (omega (arith, length-sets_of (entries_in lines), length-entries_in lines))) below in
    omega (arith, tree.depths i line at)

-- the set of one more line, read from the one before it
read_next : (lines : List Row) (line : Row) → IsTree lines → line.parent < length lines → line.depth ≡ length (set_at (entries_in lines) line.parent) + 1 → All (λ set. places_le (longer (entries_in lines) line.parent line.last) set ≡ false) (sets_of (entries_in lines)) → entries_after [] (lines ++ line ∷ []) ≡ entries_in (lines ++ line ∷ [])
read_next lines line tree parent deep before =
    let entries : List Entry = entries_in lines in
    let last : ℕ = length lines - 1 in
    let long : length (sets_of entries) ≡ length lines = length-sets_of entries ∙ length-entries_in lines in
    let begins =
    begins_last (sets_of entries) line.parent last line.last tree.ordered (omega arith)
    (omega (arith, tree.some)) before in
    entries_after-push lines line tree.some
    ∙ ap (λ read. read ++ entry_of (set_after (set_at read last) line) line.cost ∷ []) tree.preorder
    ∙ ap (λ set. entries ++ entry_of set line.cost ∷ []) (set_after-longer (set_at entries last) (set_at entries line.parent) line deep begins)
    ∙ sym (entries_in-push lines line tree.some)

pub IsTree-push : (lines : List Row) (line : Row) → IsTree lines → line.depth ≡ length (set_at (entries_in lines) line.parent) + 1 → line.depth ≤ MOST_PAIRINGS → length lines < MOST_LINES → line.parent < length lines → line.last < MOST_PAIRINGS → All (λ p. p < line.last) (set_at (entries_in lines) line.parent) → All (λ set. places_le (longer (entries_in lines) line.parent line.last) set ≡ false) (sets_of (entries_in lines)) → IsTree (lines ++ line ∷ [])
IsTree-push lines line tree deep depth room parent last later before =
    let entries : List Entry = entries_in lines in
    let set : List ℕ = longer entries line.parent line.last in
    let long : length (sets_of entries) ≡ length lines = length-sets_of entries ∙ length-entries_in lines in
    let sets : sets_of (entries_in (lines ++ line ∷ [])) ≡ sets_of entries ++ set ∷ [] =
    ap sets_of (entries_in-push lines line (omega arith)) ∙ sets_of-push entries (entry_of set line.cost) in
    let up = Ascends-from_rising (set_at entries line.parent) (tree.ascending line.parent [] (omega arith)) in
    let pushed : entries_in (lines ++ line ∷ []) ≡ entries ++ entry_of set line.cost ∷ [] =
    entries_in-push lines line tree.some in
    let kept : (i : ℕ) → i < length lines → set_at (entries_in (lines ++ line ∷ [])) i ≡ set_at entries i =
    λ i old.
    ap (λ es. set_at es i) pushed
    ∙ set_at-push entries (entry_of set line.cost) i (omega (arith, length-entries_in lines)) in
    let new : set_at (entries_in (lines ++ line ∷ [])) (length lines) ≡ set =
    ap (λ es. set_at es (length lines)) pushed
    ∙ ap (set_at (entries ++ entry_of set line.cost ∷ [])) (sym (length-entries_in lines))
    ∙ set_at-new entries (entry_of set line.cost) in
    record {
      some = omega (arith, length_push lines line);
      parents = each-push (λ i (l : Row). 0 < i → l.parent < i) lines line tree.parents (λ later. parent);
      ascending = subst (All IsStrictlyIncreasing) (sym sets) (All-push IsStrictlyIncreasing (sets_of entries) set tree.ascending (rising_from_Ascends set (Ascends-push (set_at entries line.parent) line.last up later)));
      places = subst (All (All (λ p. p < MOST_PAIRINGS))) (sym sets) (All-push (All (λ p. p < MOST_PAIRINGS)) (sets_of entries) set tree.places (All-push (λ p. p < MOST_PAIRINGS) (set_at entries line.parent) line.last (tree.places line.parent [] (omega arith)) last));
      ordered = subst AreOrdered (sym sets) (AreOrdered-push (sets_of entries) set tree.ordered before);
      few = omega (arith, length_push lines line);
      depths =
          each-push (λ i (l : Row). l.depth ≡ length (set_at (entries_in (lines ++ line ∷ [])) i)) lines line
          (λ i l at. tree.depths i l at ∙ ap length (sym (kept i (slice_get_within lines i l at))))
          (deep ∙ sym (ap length new ∙ length_push (set_at entries line.parent) line.last));
      preorder = read_next lines line tree parent deep before;
      limits = All-push IsWithinLimits lines line tree.limits (record { depth = depth; last = last });
    }
