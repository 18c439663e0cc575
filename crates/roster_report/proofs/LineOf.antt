-- A line by its words, and the lines of one person after another.
use Rattle.std.proofs.Common.{◌≡◌, ℕ, ◌+◌, List, [], ◌∷◌, ◌++◌, length, take, get_or, Some, ◌<◌, refl, sym, ap, ◌∙◌, append_assoc, arith}
use Rattle.std.proofs.lemmas.List.{append-nil, take_more, length-take-le, flat_map_more}
use Rattle.std.proofs.lemmas.List.Concat.{flat_map-append}
use Rattle.std.proofs.lemmas.Option.{slice_get_within, get_or_from_slice_get, slice_get_read}
use Rattle.std.specs.Prelude.{slice_get}
use Rattle.std.specs.List.{join_with_byte, flat_map, enumerate_from}
use Rattle.roster_model.specs.Texts.{line_of}
use Rattle.roster_report.specs.Words.{spaced, further}

join-words : (word : List ℕ) (words : List (List ℕ))
    → join_with_byte 32 (word ∷ words) ≡ word ++ further words
join-words word [] = sym (append-nil word)
join-words word (next ∷ words) = ap (λ (t : List ℕ). word ++ 32 ∷ t) (join-words next words)

-- a line is its first word, the further ones, and a line feed
pub line_of-words : (word : List ℕ) (words : List (List ℕ))
    → line_of (word ∷ words) ≡ word ++ (further words ++ 10 ∷ [])
line_of-words word words =
    ap (λ (t : List ℕ). t ++ 10 ∷ []) (join-words word words) ∙ append_assoc word (further words) (10 ∷ [])

-- a line whose words, behind the first, are written in one go
pub plain-line : (out first second third word : List ℕ) (words : List (List ℕ)) → first ≡ out ++ word
    → second ≡ first ++ further words → third ≡ second ++ 10 ∷ [] → third ≡ out ++ line_of (word ∷ words)
plain-line out first second third word words e f g =
    rw (line_of-words, g, f, e) simp append_assoc

five_parts : (o a b c d z : List ℕ) → o ++ a ++ b ++ c ++ d ++ z ≡ o ++ (a ++ (b ++ (c ++ d) ++ z))
five_parts o a b c d z = simp append_assoc

-- a line that is written in five parts: its first word, one more, two lists of words, and its end
pub line-in_parts : (o₀ o₁ o₂ o₃ o₄ o₅ word name : List ℕ) (numbers names : List (List ℕ)) → o₁ ≡ o₀ ++ word
    → o₂ ≡ o₁ ++ spaced name → o₃ ≡ o₂ ++ further numbers → o₄ ≡ o₃ ++ further names → o₅ ≡ o₄ ++ 10 ∷ []
    → o₅ ≡ o₀ ++ line_of (word ∷ name ∷ (numbers ++ names))
line-in_parts o₀ o₁ o₂ o₃ o₄ o₅ word name numbers names e₁ e₂ e₃ e₄ e₅ =
    let both : further (numbers ++ names) ≡ further numbers ++ further names =
    flat_map-append spaced numbers names in
    let written : o₅ ≡ o₀ ++ word ++ spaced name ++ further numbers ++ further names ++ 10 ∷ [] =
    rw (e₅, e₄, e₃, e₂, e₁) refl in
    let line : line_of (word ∷ name ∷ (numbers ++ names)) ≡ word ++ (spaced name ++ (further numbers ++ further names) ++ 10 ∷ []) =
    line_of-words word (name ∷ (numbers ++ names))
    ∙ ap (λ (t : List ℕ). word ++ (spaced name ++ t ++ 10 ∷ [])) both in
    written ∙ five_parts o₀ word (spaced name) (further numbers) (further names) (10 ∷ [])
    ∙ ap (λ (t : List ℕ). o₀ ++ t) (sym line)

-- the entries of a list with one more, which has number m
pub enumerate_from-push : {X : Type 0} (n m : ℕ) (xs : List X) (x : X) → n + length xs ≡ m
    → enumerate_from n (xs ++ x ∷ []) ≡ enumerate_from n xs ++ (m, x) ∷ []
enumerate_from-push {X} n m [] x at =
    let same : n ≡ m = omega arith in
    ap (λ (k : ℕ). (k, x) ∷ []) same
enumerate_from-push n m (y ∷ xs) x at =
    ap (λ (t : List (ℕ × _)). (n, y) ∷ t) (enumerate_from-push (n + 1) m xs x (omega arith))

-- the entries of the first k of a list, and of one more
pub enumerate_from-take_more : {X : Type 0} (xs : List X) (k : ℕ) (x : X) → slice_get xs k ≡ Some x
    → enumerate_from 0 (take (k + 1) xs) ≡ enumerate_from 0 (take k xs) ++ (k, x) ∷ []
enumerate_from-take_more xs k x at =
    let within = slice_get_within xs k x at in
    let same = get_or_from_slice_get xs k x x at in
    rw (take_more xs k x within, same)
    (enumerate_from-push 0 k (take k xs) x (omega (arith, length-take-le k xs (omega arith))))

-- three texts, one after another
pub three-texts : (first second third a b c : List ℕ) → first ≡ a → second ≡ first ++ b → third ≡ second ++ c
    → third ≡ a ++ b ++ c
three-texts first second third a b c e f g = rw (g, f, e) refl

-- four texts, one after another
pub four-texts : (first second third fourth a b c d : List ℕ) → first ≡ a → second ≡ first ++ b
    → third ≡ second ++ c → fourth ≡ third ++ d → fourth ≡ a ++ b ++ c ++ d
four-texts first second third fourth a b c d e f g h = rw (h, g, f, e) refl

-- the lines of the first k of a list, and of one more
pub lines-more : {X : Type 0} (line : ℕ × X → List ℕ) (items all : List X) (k : ℕ) (x : X) (before now next : List ℕ) → items ≡ all → k < length items → x ≡ get_or items k x → now ≡ before ++ flat_map line (enumerate_from 0 (take k all)) → next ≡ now ++ line (k, x) → next ≡ before ++ flat_map line (enumerate_from 0 (take (k + 1) all))
lines-more line items all k x before now next same within is so_far more =
    let at : slice_get all k ≡ Some x =
    rw (← same) (slice_get_read items (length items) k x refl within is) in
    rw (enumerate_from-take_more all k x at, more, so_far)
    (flat_map_more line before (enumerate_from 0 (take k all)) (k, x))
