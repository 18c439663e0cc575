-- The lines of a tree of choices, one choice after another.
use Rattle.std.proofs.Common.{◌≡◌, ℕ, ◌+◌, ◌-◌, ◌<◌, ◌≤◌, Bool, true, false, ◌&&◌, ◌||◌, cond, eq-eqb, List, [], ◌∷◌, ◌++◌, length, get_or, take, drop, Some, refl, sym, ap, ◌∙◌, subst, arith, append-nil}
use Rattle.std.specs.Prelude.{All, Contains, filter, slice_get}
use Rattle.std.specs.List.{list_any, list_all}
use Rattle.std.proofs.lemmas.Bool.{ne_eqb}
use Rattle.std.proofs.lemmas.List.{append_assoc, take-append-drop, length-append, take_all, take-take, take_more}
use Rattle.std.proofs.lemmas.List.Elements.{All-nil, All-cons, All-push, All-append, Contains-append_left, Contains-push, filter-append}
use Rattle.std.proofs.lemmas.List.Folds.{list_any-append, list_all-append}
use Rattle.std.proofs.lemmas.Option.{get_or_from_slice_get, slice_get_within}
use Rattle.roster_model.specs.Rules.{is_among}
use Rattle.roster_search_regions.specs.declared.choice.Choice.{Choice}
use Rattle.roster_search_regions.specs.Regions.{AllowedLine, allowed}
use Rattle.roster_search_regions.specs.Trees.{next_path, path_after, line_here, lines_after, lines_in, ArePossible, AreCertain, IsLimited, IsTree}

-- ---- choices one behind another

path_after-append : (path : List ℕ) (a b : List Choice)
    → path_after path (a ++ b) ≡ path_after (path_after path a) b
unfolding path_after
path_after-append path [] b = refl
path_after-append path (choice ∷ a) b = path_after-append (next_path path choice) a b

lines_after-append : (path : List ℕ) (a b : List Choice)
    → lines_after path (a ++ b) ≡ lines_after path a ++ lines_after (path_after path a) b
unfolding path_after lines_after
lines_after-append path [] b = refl
lines_after-append path (choice ∷ a) b =
    let next : List ℕ = next_path path choice in
    ap (λ lines. line_here next choice ++ lines) (lines_after-append next a b)
    ∙ sym (append_assoc (line_here next choice) (lines_after next a) (lines_after (path_after next a) b))

pub path_after-push : (choices : List Choice) (choice : Choice)
    → path_after [] (choices ++ choice ∷ []) ≡ next_path (path_after [] choices) choice
unfolding path_after
path_after-push choices choice = path_after-append [] choices (choice ∷ [])

pub lines_in-push : (choices : List Choice) (choice : Choice) → lines_in (choices ++ choice ∷ []) ≡ lines_in choices ++ line_here (next_path (path_after [] choices) choice) choice
unfolding lines_in lines_after
lines_in-push choices choice =
    lines_after-append [] choices (choice ∷ [])
    ∙ ap (λ lines. lines_after [] choices ++ lines) (append-nil (line_here (next_path (path_after [] choices) choice) choice))

pub path_more : (choices : List Choice) (i : ℕ) (choice : Choice) → i < length choices → path_after [] (take (i + 1) choices) ≡ next_path (path_after [] (take i choices)) (get_or choices i choice)
path_more choices i choice inside =
    ap (path_after []) (take_more choices i choice inside)
    ∙ path_after-push (take i choices) (get_or choices i choice)

pub lines_more : (choices : List Choice) (i : ℕ) (choice : Choice) → i < length choices → lines_in (take (i + 1) choices) ≡ lines_in (take i choices) ++ line_here (next_path (path_after [] (take i choices)) (get_or choices i choice)) (get_or choices i choice)
lines_more choices i choice inside =
    ap lines_in (take_more choices i choice inside) ∙ lines_in-push (take i choices) (get_or choices i choice)

length-lines_after : (path : List ℕ) (choices : List Choice)
    → length (lines_after path choices) ≤ length choices
unfolding lines_after
length-lines_after path [] = omega arith
length-lines_after path (choice ∷ choices) =
    let next : List ℕ = next_path path choice in
    let here : length (line_here next choice) ≤ 1 =
    elim choice.live as (λ b. length (cond b (allowed next choice.extra ∷ []) []) ≤ 1) [ true ↦ omega arith | false ↦ omega arith ] in
    omega (arith, length-append (line_here next choice) (lines_after next choices), length-lines_after next choices, here)

-- there are no more lines than choices
pub length-lines_in : (choices : List Choice) → length (lines_in choices) ≤ length choices
unfolding lines_in
length-lines_in choices = length-lines_after [] choices

-- ---- the path to the next choice

pub next_path-root : (path : List ℕ) (choice : Choice) → choice.depth ≡ 0 → next_path path choice ≡ []
next_path-root path choice root = rw (eq-eqb choice.depth 0 root) refl

pub next_path-deep : (path : List ℕ) (choice : Choice) → 0 < choice.depth
    → next_path path choice ≡ take (choice.depth - 1) path ++ choice.last ∷ []
next_path-deep path choice deep =
    let other : choice.depth ≡ 0 → ⊥ = λ e. omega arith in
    rw (ne_eqb choice.depth 0 other) refl

-- the step to position n of a path, from what has the path's first n pairings
pub next_path-along : (out path : List ℕ) (shared n : ℕ) (choice : Choice)
    → take shared out ≡ take shared path → n ≤ shared → n < length path → choice.depth ≡ n + 1
    → choice.last ≡ get_or path n 0 → next_path out choice ≡ take (n + 1) path
next_path-along out path shared n choice same reached inside deep last =
    let before : take n out ≡ take n path =
    sym (take-take n shared out reached) ∙ ap (take n) same ∙ take-take n shared path reached in
    let above : choice.depth - 1 ≡ n = omega arith in
    next_path-deep out choice (omega arith)
    ∙ ap (λ m. take m out ++ choice.last ∷ []) above
    ∙ ap (λ front. front ++ choice.last ∷ []) before
    ∙ ap (λ p. take n path ++ p ∷ []) last
    ∙ sym (take_more path n 0 inside)

-- the step to the whole of it
pub next_path-whole : (out path : List ℕ) (shared : ℕ) (choice : Choice) → take shared out ≡ take shared path
    → length path ≤ shared + 1 → choice.depth ≡ length path → choice.last ≡ get_or path (length path - 1) 0
    → next_path out choice ≡ path
next_path-whole out [] shared choice same reached deep last = next_path-root out choice deep
next_path-whole out (p ∷ path) shared choice same reached deep last =
    let n : ℕ = length path in
    let here : length (p ∷ path) - 1 ≡ n = omega arith in
    next_path-along out (p ∷ path) shared n choice same (omega arith) (omega arith) (omega arith)
    (last ∙ ap (λ m. get_or (p ∷ path) m 0) here)
    ∙ take_all (n + 1) (p ∷ path) (omega arith)

-- ---- a choice more

pub line_here-live : (path : List ℕ) (choice : Choice) → choice.live ≡ true
    → line_here path choice ≡ allowed path choice.extra ∷ []
line_here-live path choice live = rw live refl

line_here-dead : (path : List ℕ) (choice : Choice) → choice.live ≡ false → line_here path choice ≡ []
line_here-dead path choice dead = rw dead refl

pub lines_in-live : (choices : List Choice) (choice : Choice) (path : List ℕ) → choice.live ≡ true
    → next_path (path_after [] choices) choice ≡ path
    → lines_in (choices ++ choice ∷ []) ≡ lines_in choices ++ allowed path choice.extra ∷ []
lines_in-live choices choice path live there =
    lines_in-push choices choice
    ∙ ap (λ lines. lines_in choices ++ lines) (line_here-live (next_path (path_after [] choices) choice) choice live)
    ∙ ap (λ set. lines_in choices ++ allowed set choice.extra ∷ []) there

pub lines_in-dead : (choices : List Choice) (choice : Choice) → choice.live ≡ false
    → lines_in (choices ++ choice ∷ []) ≡ lines_in choices
lines_in-dead choices choice dead =
    lines_in-push choices choice
    ∙ ap (λ lines. lines_in choices ++ lines) (line_here-dead (next_path (path_after [] choices) choice) choice dead)
    ∙ append-nil (lines_in choices)

pub IsTree-dead : (choices : List Choice) (choice : Choice) (possible certain : List ℕ) (count : ℕ)
    → IsTree choices possible certain count → IsLimited choice → choice.live ≡ false
    → IsTree (choices ++ choice ∷ []) possible certain count
IsTree-dead choices choice possible certain count tree limited dead =
    let same = sym (lines_in-dead choices choice dead) in
    record {
      limited = All-push IsLimited choices choice tree.limited limited;
      some = subst (λ lines. ArePossible lines possible) same tree.some;
      all = subst (λ lines. AreCertain lines certain) same tree.all;
      number = tree.number ∙ ap length same;
    }

-- for an `||` and an `&&` that end a list
pub or_false : (b : Bool) → b ≡ (b || false)
or_false true = refl
or_false false = refl

pub possible_more : (lines : List AllowedLine) (line : AllowedLine) (possible next : List ℕ)
    → ArePossible lines possible → ((p : ℕ) → is_among next p ≡ (is_among possible p || is_among line.set p))
    → ArePossible (lines ++ line ∷ []) next
possible_more lines line possible next old joined p =
    let test : AllowedLine → Bool = λ l. is_among l.set p in
    joined p
    ∙ ap (λ b. b || is_among line.set p) (old p)
    ∙ ap (λ b. list_any test lines || b) (or_false (is_among line.set p))
    ∙ sym (list_any-append test lines (line ∷ []))

pub and_true : (b : Bool) → b ≡ (b && true)
and_true true = refl
and_true false = refl

pub certain_first : (line : AllowedLine) (next : List ℕ) → ((p : ℕ) → is_among next p ≡ is_among line.set p)
    → AreCertain (line ∷ []) next
certain_first line next same some p = same p ∙ and_true (is_among line.set p)

pub certain_more : (lines : List AllowedLine) (line : AllowedLine) (certain next : List ℕ) → 0 < length lines
    → AreCertain lines certain → ((p : ℕ) → is_among next p ≡ (is_among certain p && is_among line.set p))
    → AreCertain (lines ++ line ∷ []) next
certain_more lines line certain next some old both _ p =
    let test : AllowedLine → Bool = λ l. is_among l.set p in
    both p
    ∙ ap (λ b. b && is_among line.set p) (old some p)
    ∙ ap (λ b. list_all test lines && b) (and_true (is_among line.set p))
    ∙ sym (list_all-append test lines (line ∷ []))

-- ---- what is so of the lines so far, with the next choice

pub All-line_here : (P : AllowedLine → Type 0) (path : List ℕ) (choice : Choice)
    → (choice.live ≡ true → P (allowed path choice.extra)) → All P (line_here path choice)
All-line_here P path choice here = go choice.live here
  where
    go : (live : Bool) → (live ≡ true → P (allowed path choice.extra))
        → All P (cond live (allowed path choice.extra ∷ []) [])
    go true h = All-cons P (allowed path choice.extra) [] (h refl) (All-nil P)
    go false h = All-nil P

All-lines_more : (P : AllowedLine → Type 0) (choices : List Choice) (i : ℕ) (choice : Choice) → i < length choices → All P (lines_in (take i choices)) → ((get_or choices i choice).live ≡ true → P (allowed (next_path (path_after [] (take i choices)) (get_or choices i choice)) (get_or choices i choice).extra)) → All P (lines_in (take (i + 1) choices))
All-lines_more P choices i choice inside before here =
    let next : List ℕ = next_path (path_after [] (take i choices)) (get_or choices i choice) in
    subst (All P) (sym (lines_more choices i choice inside))
    (All-append P (lines_in (take i choices)) (line_here next (get_or choices i choice)) before (All-line_here P next (get_or choices i choice) here))

pub All-lines_none : (P : AllowedLine → Type 0) → All P (lines_in [])
unfolding lines_in lines_after
All-lines_none P = All-nil P

filter-line_here : (test : AllowedLine → Bool) (path : List ℕ) (choice : Choice)
    → filter test (line_here path choice) ≡ cond (test (allowed path choice.extra)) (line_here path choice) []
filter-line_here test path choice = go choice.live (test (allowed path choice.extra)) refl
  where
    go : (live passes : Bool) → test (allowed path choice.extra) ≡ passes → filter test (cond live (allowed path choice.extra ∷ []) []) ≡ cond passes (cond live (allowed path choice.extra ∷ []) []) []
    go true true e = rw e refl
    go true false e = rw e refl
    go false true e = refl
    go false false e = refl

-- a filter of the lines so far, with the next choice
pub filter-lines_more : (test : AllowedLine → Bool) (choices : List Choice) (i : ℕ) (choice : Choice) (passes : Bool) → i < length choices → passes ≡ test (allowed (next_path (path_after [] (take i choices)) (get_or choices i choice)) (get_or choices i choice).extra) → filter test (lines_in (take i choices)) ++ cond passes (line_here (next_path (path_after [] (take i choices)) (get_or choices i choice)) (get_or choices i choice)) [] ≡ filter test (lines_in (take (i + 1) choices))
filter-lines_more test choices i choice passes inside is =
    let next : List ℕ = next_path (path_after [] (take i choices)) (get_or choices i choice) in
    let here : List AllowedLine = line_here next (get_or choices i choice) in
    ap (λ b. filter test (lines_in (take i choices)) ++ cond b here []) is
    ∙ ap (λ ls. filter test (lines_in (take i choices)) ++ ls) (sym (filter-line_here test next (get_or choices i choice)))
    ∙ sym (filter-append test (lines_in (take i choices)) here)
    ∙ ap (filter test) (sym (lines_more choices i choice inside))

-- a live choice has its line among all of them
Contains-live : (choices : List Choice) (i : ℕ) (choice : Choice) → i < length choices → (get_or choices i choice).live ≡ true → Contains (lines_in choices) (allowed (next_path (path_after [] (take i choices)) (get_or choices i choice)) (get_or choices i choice).extra)
unfolding lines_in
Contains-live choices i choice inside live =
    let item : Choice = get_or choices i choice in
    let next : List ℕ = next_path (path_after [] (take i choices)) item in
    let front : List Choice = take (i + 1) choices in
    let split : lines_after [] front ++ lines_after (path_after [] front) (drop (i + 1) choices) ≡ lines_in choices =
    sym (lines_after-append [] front (drop (i + 1) choices))
    ∙ ap (lines_after []) (take-append-drop (i + 1) choices) in
    let here : lines_in (take i choices) ++ allowed next item.extra ∷ [] ≡ lines_after [] front =
    ap (λ ls. lines_in (take i choices) ++ ls) (sym (line_here-live next item live))
    ∙ sym (lines_more choices i choice inside) in
    subst (λ ls. Contains ls (allowed next item.extra)) split
    (Contains-append_left (lines_after [] front) (lines_after (path_after [] front) (drop (i + 1) choices)) (allowed next item.extra)
    (subst (λ ls. Contains ls (allowed next item.extra)) here (Contains-push (lines_in (take i choices)) (allowed next item.extra))))

-- ---- a choice that is read at its place

pub path_at : (choices : List Choice) (i : ℕ) (item : Choice) → slice_get choices i ≡ Some item
    → path_after [] (take (i + 1) choices) ≡ next_path (path_after [] (take i choices)) item
path_at choices i item at =
    path_more choices i item (slice_get_within choices i item at)
    ∙ ap (next_path (path_after [] (take i choices))) (get_or_from_slice_get choices i item item at)

pub lines_at-live : (choices : List Choice) (i : ℕ) (item : Choice) → slice_get choices i ≡ Some item → item.live ≡ true → lines_in (take (i + 1) choices) ≡ lines_in (take i choices) ++ allowed (next_path (path_after [] (take i choices)) item) item.extra ∷ []
lines_at-live choices i item at live =
    let path : List ℕ = path_after [] (take i choices) in
    lines_more choices i item (slice_get_within choices i item at)
    ∙ ap (λ (c : Choice). lines_in (take i choices) ++ line_here (next_path path c) c) (get_or_from_slice_get choices i item item at)
    ∙ ap (λ lines. lines_in (take i choices) ++ lines) (line_here-live (next_path path item) item live)

pub All-lines_at : (P : AllowedLine → Type 0) (choices : List Choice) (i : ℕ) (item : Choice)
    → slice_get choices i ≡ Some item → All P (lines_in (take i choices))
    → (item.live ≡ true → P (allowed (next_path (path_after [] (take i choices)) item) item.extra))
    → All P (lines_in (take (i + 1) choices))
All-lines_at P choices i item at before here =
    let path : List ℕ = path_after [] (take i choices) in
    All-lines_more P choices i item (slice_get_within choices i item at) before
    (subst (λ (c : Choice). c.live ≡ true → P (allowed (next_path path c) c.extra)) (sym (get_or_from_slice_get choices i item item at)) here)

pub Contains-at : (choices : List Choice) (i : ℕ) (item : Choice) → slice_get choices i ≡ Some item
    → item.live ≡ true
    → Contains (lines_in choices) (allowed (next_path (path_after [] (take i choices)) item) item.extra)
Contains-at choices i item at live =
    let path : List ℕ = path_after [] (take i choices) in
    let same = get_or_from_slice_get choices i item item at in
    subst (λ (c : Choice). Contains (lines_in choices) (allowed (next_path path c) c.extra)) same
    (Contains-live choices i item (slice_get_within choices i item at) (ap (λ (c : Choice). c.live) same ∙ live))
