-- A tree of choices, as it is written.
use Rattle.std.proofs.Common.{◌≡◌, ℕ, ◌+◌, ◌-◌, ◌<◌, ◌≤◌, Bool, ◌&&◌, ◌||◌, true, false, cond, List, [], ◌∷◌, ◌++◌, length, get_or, take, ℤ, Some, refl, sym, ap, ◌∙◌, subst, arith}
use Rattle.std.specs.Prelude.{All, filter, slice_get}
use Rattle.std.proofs.lemmas.List.{length_push, nil_from_length, take-take}
use Rattle.std.proofs.lemmas.List.Elements.{All-nil, All-push}
use Rattle.std.proofs.lemmas.Option.{get_or_from_slice_get, slice_get_within}
use Rattle.roster_model.specs.Rules.{is_among}
use Rattle.roster_search_regions.specs.declared.choice.Choice.{Choice}
use Rattle.roster_search_regions.specs.declared.writer.Writer.{Writer}
use Rattle.roster_search_regions.specs.Regions.{AllowedLine, allowed}
use Rattle.roster_search_regions.specs.Trees.{next_path, path_after, line_here, lines_after, lines_in, ArePossible, AreCertain, IsLimited, IsTree}
use Rattle.roster_search_regions.specs.Writing.{IsWriting}
use Rattle.roster_search_regions.proofs.TreeLemmas.{filter-lines_more, IsTree-dead, lines_in-dead, lines_in-live, next_path-along, next_path-whole, path_after-push, path_more, possible_more, certain_first, certain_more}

pub IsTree-nil : (certain : List ℕ) → IsTree [] [] certain 0
unfolding lines_in lines_after
IsTree-nil certain = record {
  limited = All-nil IsLimited;
  some = λ p. refl;
  all = λ some. absurd (omega arith);
  number = refl;
}

pub IsWriting-nil : (writer : Writer) → writer.choices.items ≡ [] → writer.possible ≡ [] → writer.count ≡ 0
    → writer.shared ≡ 0 → IsWriting writer [] []
unfolding lines_in lines_after
IsWriting-nil writer none possible count shared = record {
  tree = rw (none, possible, count) (IsTree-nil writer.certain);
  written = ap lines_in none;
  within = omega (arith, shared);
  same = rw shared refl;
}

-- a step on the way to the path's line is written
pub IsWriting-dead : (old new : Writer) (path : List ℕ) (lines : List AllowedLine) (choice : Choice)
    → IsWriting old path lines → new.choices.items ≡ old.choices.items ++ choice ∷ []
    → new.possible ≡ old.possible → new.certain ≡ old.certain → new.count ≡ old.count
    → new.shared ≡ old.shared + 1 → IsLimited choice → choice.live ≡ false → old.shared < length path
    → choice.depth ≡ old.shared + 1 → choice.last ≡ get_or path old.shared 0 → IsWriting new path lines
IsWriting-dead old new path lines choice is pushed possible certain count shared limited dead inside deep last =
    let choices : List Choice = old.choices.items in
    let along = path_after-push choices choice ∙ next_path-along (path_after [] choices) path old.shared old.shared choice is.same (omega arith) inside deep last in
    let whole : take new.shared (path_after [] new.choices.items) ≡ take new.shared path =
    ap (λ out. take new.shared (path_after [] out)) pushed
    ∙ ap (take new.shared) along
    ∙ take-take new.shared (old.shared + 1) path (omega (arith, shared)) in
    record {
      tree =
          rw (pushed, possible, certain, count)
          (IsTree-dead choices choice old.possible old.certain old.count is.tree limited dead);
      written = ap lines_in pushed ∙ lines_in-dead choices choice dead ∙ is.written;
      within = omega (arith, shared);
      same = whole;
    }

-- the path's line is written
pub IsWriting-live : (old new : Writer) (path : List ℕ) (lines : List AllowedLine) (choice : Choice) (extra : ℤ) → choice.extra ≡ extra → IsWriting old path lines → length path ≤ old.shared + 1 → new.choices.items ≡ old.choices.items ++ choice ∷ [] → ((p : ℕ) → is_among new.possible p ≡ (is_among old.possible p || is_among path p)) → AreCertain (lines ++ allowed path extra ∷ []) new.certain → new.count ≡ old.count + 1 → new.shared ≡ length path → IsLimited choice → choice.live ≡ true → choice.depth ≡ length path → choice.last ≡ get_or path (length path - 1) 0 → IsWriting new path (lines ++ allowed path extra ∷ [])
IsWriting-live old new path lines choice extra same_extra is reached pushed possible certain count shared limited live deep last =
    let choices : List Choice = old.choices.items in
    let line : AllowedLine = allowed path extra in
    let there = next_path-whole (path_after [] choices) path old.shared choice is.same reached deep last in
    let written : lines_in new.choices.items ≡ lines ++ line ∷ [] =
    ap lines_in pushed ∙ lines_in-live choices choice path live there
    ∙ ap (λ z. lines_in choices ++ allowed path z ∷ []) same_extra ∙ ap (λ ls. ls ++ line ∷ []) is.written in
    let more = possible_more (lines_in choices) line old.possible new.possible is.tree.some possible in
    let out : path_after [] new.choices.items ≡ path =
    ap (path_after []) pushed ∙ path_after-push choices choice ∙ there in
    record {
      tree = record {
        limited =
            subst (All IsLimited) (sym pushed) (All-push IsLimited choices choice is.tree.limited limited);
        some =
            subst (λ ls. ArePossible ls new.possible)
            (ap (λ ls. ls ++ line ∷ []) is.written ∙ sym written) more;
        all = subst (λ ls. AreCertain ls new.certain) (sym written) certain;
        number =
            omega
            (arith, count, is.tree.number, ap length is.written, ap length written, length_push lines line);
      };
      written = written;
      within = omega (arith, shared);
      same = ap (take new.shared) out;
    }

-- what all lines have, with one line more: the first, or a further one
pub certain_alone : (writer : Writer) (path : List ℕ) (lines : List AllowedLine) (line : AllowedLine) (next : List ℕ) → IsWriting writer path lines → writer.count ≡ 0 → ((p : ℕ) → is_among line.set p ≡ is_among next p) → AreCertain (lines ++ line ∷ []) next
certain_alone writer path lines line next is none same =
    let none_yet : lines ≡ [] =
    nil_from_length lines (omega (arith, is.tree.number, ap length is.written, none)) in
    subst (λ ls. AreCertain (ls ++ line ∷ []) next) (sym none_yet)
    (certain_first line next (λ p. sym (same p)))

pub certain_too : (writer : Writer) (path : List ℕ) (lines : List AllowedLine) (line : AllowedLine) (set next : List ℕ) → IsWriting writer path lines → (writer.count ≡ 0 → ⊥) → ((p : ℕ) → is_among line.set p ≡ is_among set p) → ((p : ℕ) → is_among next p ≡ (is_among writer.certain p && is_among set p)) → AreCertain (lines ++ line ∷ []) next
certain_too writer path lines line set next is some same both =
    let all : AreCertain lines writer.certain =
    subst (λ ls. AreCertain ls writer.certain) is.written is.tree.all in
    certain_more lines line writer.certain next (omega (arith, is.tree.number, ap length is.written)) all
    (λ p. both p ∙ ap (λ b. is_among writer.certain p && b) (sym (same p)))

-- ---- reading and writing side by side

-- the reader has gone on to the next choice
pub read_on : (w w' : Writer) (choice : Choice) (old new path : List ℕ) (lines : List AllowedLine)
    → new ≡ next_path old choice → old ≡ path
    → ((way : List ℕ) (ls : List AllowedLine) → IsWriting w way ls → IsWriting w' (next_path way choice) ls)
    → IsWriting w path lines → IsWriting w' new lines
read_on w w' choice old new path lines next there pass writing =
    subst (λ way. IsWriting w' way lines) (sym (next ∙ ap (λ way. next_path way choice) there))
    (pass path lines writing)

-- and its line is written, if it passes
kept_on : (test : AllowedLine → Bool) (choices : List Choice) (i : ℕ) (choice : Choice) (passes : Bool) (w w' : Writer) (old new : List ℕ) → i < length choices → new ≡ next_path old (get_or choices i choice) → old ≡ path_after [] (take i choices) → passes ≡ test (allowed new (get_or choices i choice).extra) → ((ls : List AllowedLine) → IsWriting w new ls → IsWriting w' new (ls ++ cond passes (line_here new (get_or choices i choice)) [])) → IsWriting w new (filter test (lines_in (take i choices))) → IsWriting w' (path_after [] (take (i + 1) choices)) (filter test (lines_in (take (i + 1) choices)))
kept_on test choices i choice passes w w' old new inside next there is keep writing =
    let item : Choice = get_or choices i choice in
    let on : new ≡ next_path (path_after [] (take i choices)) item =
    next ∙ ap (λ way. next_path way item) there in
    let more =
    filter-lines_more test choices i choice passes inside
    (is ∙ ap (λ way. test (allowed way item.extra)) on) in
    let written = keep (filter test (lines_in (take i choices))) writing in
    let front : List AllowedLine = filter test (lines_in (take i choices)) in
    let way : List ℕ = next_path (path_after [] (take i choices)) item in
    let there' : IsWriting w' way (front ++ cond passes (line_here way item) []) =
    subst (λ p. IsWriting w' p (front ++ cond passes (line_here p item) [])) on written in
    let here : IsWriting w' (path_after [] (take (i + 1) choices))
    (front ++ cond passes (line_here way item) []) =
    subst (λ p. IsWriting w' p (front ++ cond passes (line_here way item) []))
    (sym (path_more choices i choice inside)) there' in
    subst (λ ls. IsWriting w' (path_after [] (take (i + 1) choices)) ls) more here

-- the same where the choice is read at its place
pub kept_at : (test : AllowedLine → Bool) (choices : List Choice) (i : ℕ) (item : Choice) (passes : Bool) (w w' : Writer) (old new : List ℕ) → slice_get choices i ≡ Some item → new ≡ next_path old item → old ≡ path_after [] (take i choices) → passes ≡ test (allowed new item.extra) → ((ls : List AllowedLine) → IsWriting w new ls → IsWriting w' new (ls ++ cond passes (line_here new item) [])) → IsWriting w new (filter test (lines_in (take i choices))) → IsWriting w' (path_after [] (take (i + 1) choices)) (filter test (lines_in (take (i + 1) choices)))
kept_at test choices i item passes w w' old new at next there is keep writing =
    let same : item ≡ get_or choices i item = sym (get_or_from_slice_get choices i item item at) in
    kept_on test choices i item passes w w' old new (slice_get_within choices i item at)
    (next ∙ ap (next_path old) same) there
    (is ∙ ap (λ (c : Choice). test (allowed new c.extra)) same)
    (subst (λ (c : Choice). (ls : List AllowedLine) → IsWriting w new ls → IsWriting w' new (ls ++ cond passes (line_here new c) [])) same keep)
    writing
