-- Choices of which others are live.
use Rattle.std.proofs.Common.{◌≡◌, ℕ, zero, suc, ◌+◌, ◌<◌, Bool, true, false, ◌&&◌, ◌||◌, cond, List, [], ◌∷◌, ◌++◌, length, get_or, take, ℤ, Some, refl, sym, ap, ◌∙◌, subst, arith}
use Rattle.std.specs.Prelude.{All, filter, slice_get}
use Rattle.std.proofs.lemmas.List.{get_or_past, length_push, nil_from_length, take_more}
use Rattle.std.proofs.lemmas.List.Elements.{All-cons, All-head, All-nil, All-tail}
use Rattle.std.proofs.lemmas.Option.{get_or_from_slice_get, slice_get-get_or, slice_get_within}
use Rattle.roster_model.specs.Rules.{is_among}
use Rattle.roster_lines_table.specs.declared.lines.Row.{Row}
use Rattle.roster_search_regions.specs.declared.choice.Choice.{Choice}
use Rattle.roster_search_regions.specs.declared.marker.Marker.{Marker}
use Rattle.roster_search_regions.specs.Marks.{picked, remarked, with_live, AreAllLive, IsMarking}
use Rattle.roster_search_regions.specs.Regions.{AllowedLine, allowed}
use Rattle.roster_search_regions.specs.Rows.{choice_of, choices_of}
use Rattle.roster_search_regions.specs.Trees.{line_here, lines_after, lines_in, next_path, path_after, ArePossible, AreCertain, IsLimited}
use Rattle.roster_search_regions.proofs.TreeLemmas.{certain_first, certain_more, filter-lines_more, length-lines_in, lines_in-dead, lines_in-live, possible_more}

pub length-remarked : (marks : List Bool) (choices : List Choice)
    → length (remarked marks choices) ≡ length choices
unfolding remarked
length-remarked [] choices = refl
length-remarked (mark ∷ marks) [] = refl
length-remarked (mark ∷ marks) (choice ∷ choices) = omega (arith, length-remarked marks choices)

get_or-remarked : (marks : List Bool) (choices : List Choice) (i : ℕ) (d : Choice) → i < length choices → get_or (remarked marks choices) i d ≡ with_live (get_or marks i (get_or choices i d).live) (get_or choices i d)
unfolding remarked
get_or-remarked [] choices i d inside =
    ap (λ live. with_live live (get_or choices i d))
    (sym (get_or_past [] i (get_or choices i d).live (omega arith)))
get_or-remarked (mark ∷ marks) [] i d inside = absurd (omega (arith, inside))
get_or-remarked (mark ∷ marks) (choice ∷ choices) zero d inside = refl
get_or-remarked (mark ∷ marks) (choice ∷ choices) (suc i) d inside =
    get_or-remarked marks choices i d (omega (arith, inside))

-- the choice at a place
pub remarked-at : (marks : List Bool) (choices : List Choice) (i : ℕ) (choice : Choice)
    → slice_get choices i ≡ Some choice
    → slice_get (remarked marks choices) i ≡ Some (with_live (get_or marks i choice.live) choice)
remarked-at marks choices i choice at =
    let inside = slice_get_within choices i choice at in
    slice_get-get_or (remarked marks choices) i choice (omega (arith, inside, length-remarked marks choices))
    ∙ ap Some (get_or-remarked marks choices i choice inside ∙ ap (λ (c : Choice). with_live (get_or marks i c.live) c) (get_or_from_slice_get choices i choice choice at))

pub limited-remarked : (marks : List Bool) (choices : List Choice) → All IsLimited choices
    → All IsLimited (remarked marks choices)
unfolding remarked
limited-remarked [] choices all = all
limited-remarked (mark ∷ marks) [] all = All-nil IsLimited
limited-remarked (mark ∷ marks) (choice ∷ choices) all =
    let here = All-head IsLimited choice choices all in
    All-cons IsLimited (with_live mark choice) (remarked marks choices)
    (record { depth = here.depth; last = here.last; extra = here.extra })
    (limited-remarked marks choices (All-tail IsLimited choice choices all))

-- marks take the place of earlier ones
pub remarked-again : (others marks : List Bool) (choices : List Choice) → length others ≡ length choices
    → remarked others (remarked marks choices) ≡ remarked others choices
unfolding remarked
remarked-again [] [] choices same = refl
remarked-again [] (mark ∷ marks) [] same = refl
remarked-again [] (mark ∷ marks) (choice ∷ choices) same = absurd (omega (arith, same))
remarked-again (other ∷ others) [] choices same = refl
remarked-again (other ∷ others) (mark ∷ marks) [] same = refl
remarked-again (other ∷ others) (mark ∷ marks) (choice ∷ choices) same =
    ap (λ rest. with_live other choice ∷ rest) (remarked-again others marks choices (omega (arith, same)))

remarked-push : (marks : List Bool) (mark : Bool) (choices : List Choice) (choice : Choice) → length marks ≡ length choices → remarked (marks ++ mark ∷ []) (choices ++ choice ∷ []) ≡ remarked marks choices ++ with_live mark choice ∷ []
unfolding remarked
remarked-push [] mark [] choice same = refl
remarked-push [] mark (other ∷ choices) choice same = absurd (omega (arith, same))
remarked-push (first ∷ marks) mark [] choice same = absurd (omega (arith, same))
remarked-push (first ∷ marks) mark (other ∷ choices) choice same =
    ap (λ rest. with_live first other ∷ rest) (remarked-push marks mark choices choice (omega (arith, same)))

-- the way to a choice doesn't ask what is live
path_after-remarked : (marks : List Bool) (path : List ℕ) (choices : List Choice)
    → path_after path (remarked marks choices) ≡ path_after path choices
unfolding path_after remarked
path_after-remarked [] path choices = refl
path_after-remarked (mark ∷ marks) path [] = refl
path_after-remarked (mark ∷ marks) path (choice ∷ choices) =
    path_after-remarked marks (next_path path choice) choices

-- ---- rows with marks

lines_after-remarked : (marks : List Bool) (path : List ℕ) (scale : ℕ) (empty : ℤ) (rows : List Row) → lines_after path (remarked marks (choices_of scale empty rows)) ≡ picked marks (lines_after path (choices_of scale empty rows))
unfolding lines_after remarked picked
lines_after-remarked [] path scale empty rows = refl
lines_after-remarked (mark ∷ marks) path scale empty [] = refl
lines_after-remarked (true ∷ marks) path scale empty (row ∷ rows) =
    let choice : Choice = choice_of scale empty row in
    ap (λ lines. allowed (next_path path choice) choice.extra ∷ lines)
    (lines_after-remarked marks (next_path path choice) scale empty rows)
lines_after-remarked (false ∷ marks) path scale empty (row ∷ rows) =
    lines_after-remarked marks (next_path path (choice_of scale empty row)) scale empty rows

pub lines_in-remarked : (marks : List Bool) (scale : ℕ) (empty : ℤ) (rows : List Row) → lines_in (remarked marks (choices_of scale empty rows)) ≡ picked marks (lines_in (choices_of scale empty rows))
unfolding lines_in
lines_in-remarked marks scale empty rows = lines_after-remarked marks [] scale empty rows

pub picked-all : (lines : List AllowedLine) → picked [] lines ≡ lines
unfolding picked
picked-all lines = refl

-- without marks all rows are live
all-live : (scale : ℕ) (empty : ℤ) (rows : List Row)
    → All (λ choice. choice.live ≡ true) (choices_of scale empty rows)
all-live scale empty [] = All-nil (λ (choice : Choice). choice.live ≡ true)
all-live scale empty (row ∷ rows) =
    All-cons (λ (choice : Choice). choice.live ≡ true) (choice_of scale empty row)
    (choices_of scale empty rows) refl (all-live scale empty rows)

pub live-unmarked : (marks : List Bool) (scale : ℕ) (empty : ℤ) (rows : List Row) → marks ≡ []
    → AreAllLive (remarked marks (choices_of scale empty rows))
unfolding remarked
live-unmarked marks scale empty rows none i choice at =
    let choices : List Choice = choices_of scale empty rows in
    let there : slice_get choices i ≡ Some choice =
    ap (λ ms. slice_get (remarked ms choices) i) (sym none) ∙ at in
    ap (λ (c : Choice). c.live) (sym (get_or_from_slice_get choices i choice choice there))
    ∙ all-live scale empty rows i choice (slice_get_within choices i choice there)

-- ---- a mark more

pub IsMarking-nil : (marker : Marker) → marker.marks.items ≡ [] → marker.possible ≡ [] → marker.count ≡ 0
    → IsMarking marker [] []
unfolding lines_in lines_after remarked
IsMarking-nil marker none possible count = record {
  covers = ap length none;
  written = ap (λ ms. lines_in (remarked ms [])) none;
  some = λ p. ap (λ set. is_among set p) possible;
  all = λ some. absurd (omega arith);
  number = count;
}

pub IsMarking-dead : (old new : Marker) (choices : List Choice) (lines : List AllowedLine) (choice : Choice)
    → IsMarking old choices lines → new.marks.items ≡ old.marks.items ++ false ∷ []
    → new.possible ≡ old.possible → new.certain ≡ old.certain → new.count ≡ old.count
    → IsMarking new (choices ++ choice ∷ []) lines
IsMarking-dead old new choices lines choice is pushed possible certain count = record {
  covers =
      omega
      (arith, ap length pushed, length_push old.marks.items false, length_push choices choice, is.covers);
  written =
      ap (λ ms. lines_in (remarked ms (choices ++ choice ∷ []))) pushed
      ∙ ap lines_in (remarked-push old.marks.items false choices choice is.covers)
      ∙ lines_in-dead (remarked old.marks.items choices) (with_live false choice) refl
      ∙ is.written;
  some = subst (ArePossible lines) (sym possible) is.some;
  all = subst (AreCertain lines) (sym certain) is.all;
  number = count ∙ is.number;
}

pub IsMarking-live : (old new : Marker) (path : List ℕ) (choices : List Choice) (lines : List AllowedLine) (choice : Choice) → IsMarking old choices lines → path ≡ next_path (path_after [] choices) choice → new.marks.items ≡ old.marks.items ++ true ∷ [] → ((p : ℕ) → is_among new.possible p ≡ (is_among old.possible p || is_among path p)) → AreCertain (lines ++ allowed path choice.extra ∷ []) new.certain → new.count ≡ old.count + 1 → IsMarking new (choices ++ choice ∷ []) (lines ++ allowed path choice.extra ∷ [])
IsMarking-live old new path choices lines choice is there pushed possible certain count =
    let line : AllowedLine = allowed path choice.extra in
    let marked : List Choice = remarked old.marks.items choices in
    let way : next_path (path_after [] marked) (with_live true choice) ≡ path =
    ap (λ way. next_path way choice) (path_after-remarked old.marks.items [] choices) ∙ sym there in
    record {
      covers =
          omega
          (arith, ap length pushed, length_push old.marks.items true, length_push choices choice, is.covers);
      written =
          ap (λ ms. lines_in (remarked ms (choices ++ choice ∷ []))) pushed
          ∙ ap lines_in (remarked-push old.marks.items true choices choice is.covers)
          ∙ lines_in-live marked (with_live true choice) path refl way
          ∙ ap (λ ls. ls ++ line ∷ []) is.written;
      some = possible_more lines line old.possible new.possible is.some possible;
      all = certain;
      number = omega (arith, count, is.number, length_push lines line);
    }

-- there are no more live choices than marks
pub few-marked : (marker : Marker) (choices : List Choice) (lines : List AllowedLine)
    → IsMarking marker choices lines → marker.count < length marker.marks.items + 1
few-marked marker choices lines is =
    omega (arith, is.number, is.covers, ap length is.written, length-lines_in (remarked marker.marks.items choices), length-remarked marker.marks.items choices)

-- what all lines have, with one line more: the first, or a further one
pub certain_marked-alone : (marker : Marker) (choices : List Choice) (lines : List AllowedLine) (line : AllowedLine) (next : List ℕ) → IsMarking marker choices lines → marker.count ≡ 0 → ((p : ℕ) → is_among line.set p ≡ is_among next p) → AreCertain (lines ++ line ∷ []) next
certain_marked-alone marker choices lines line next is none same =
    let none_yet : lines ≡ [] = nil_from_length lines (omega (arith, is.number, none)) in
    subst (λ ls. AreCertain (ls ++ line ∷ []) next) (sym none_yet)
    (certain_first line next (λ p. sym (same p)))

pub certain_marked-too : (marker : Marker) (choices : List Choice) (lines : List AllowedLine) (line : AllowedLine) (set next : List ℕ) → IsMarking marker choices lines → (marker.count ≡ 0 → ⊥) → ((p : ℕ) → is_among line.set p ≡ is_among set p) → ((p : ℕ) → is_among next p ≡ (is_among marker.certain p && is_among set p)) → AreCertain (lines ++ line ∷ []) next
certain_marked-too marker choices lines line set next is some same both =
    certain_more lines line marker.certain next (omega (arith, is.number)) is.all
    (λ p. both p ∙ ap (λ b. is_among marker.certain p && b) (sym (same p)))

-- the choice at a place is marked, as its line passes a test or not
pub marked_at : (test : AllowedLine → Bool) (choices : List Choice) (i : ℕ) (item : Choice) (passes : Bool) (m m' : Marker) (old new : List ℕ) → slice_get choices i ≡ Some item → new ≡ next_path old item → old ≡ path_after [] (take i choices) → passes ≡ test (allowed new item.extra) → ((cs : List Choice) (ls : List AllowedLine) → IsMarking m cs ls → new ≡ next_path (path_after [] cs) item → IsMarking m' (cs ++ item ∷ []) (ls ++ cond passes (line_here new item) [])) → IsMarking m (take i choices) (filter test (lines_in (take i choices))) → IsMarking m' (take (i + 1) choices) (filter test (lines_in (take (i + 1) choices)))
marked_at test choices i item passes m m' old new at next there is mark before =
    let inside = slice_get_within choices i item at in
    let same : get_or choices i item ≡ item = get_or_from_slice_get choices i item item at in
    let path : List ℕ = path_after [] (take i choices) in
    let front : List AllowedLine = filter test (lines_in (take i choices)) in
    let on : new ≡ next_path path item = next ∙ ap (λ way. next_path way item) there in
    let step : front ++ cond passes (line_here (next_path path item) item) [] ≡ filter test (lines_in (take (i + 1) choices)) =
    subst (λ (c : Choice). passes ≡ test (allowed (next_path path c) c.extra) → front ++ cond passes (line_here (next_path path c) c) [] ≡ filter test (lines_in (take (i + 1) choices))) same (λ h. filter-lines_more test choices i item passes inside h)
    (is ∙ ap (λ way. test (allowed way item.extra)) on) in
    let more : front ++ cond passes (line_here new item) [] ≡ filter test (lines_in (take (i + 1) choices)) =
    ap (λ way. front ++ cond passes (line_here way item) []) on ∙ step in
    let all : take i choices ++ item ∷ [] ≡ take (i + 1) choices =
    ap (λ (c : Choice). take i choices ++ c ∷ []) (sym same) ∙ sym (take_more choices i item inside) in
    subst (λ ls. IsMarking m' (take (i + 1) choices) ls) more
    (subst (λ cs. IsMarking m' cs (front ++ cond passes (line_here new item) [])) all (mark (take i choices) front before on))

-- ---- all lines kept

pub filter-all : (lines : List AllowedLine) → filter (λ line. true) lines ≡ lines
filter-all [] = refl
filter-all (line ∷ lines) = ap (λ rest. line ∷ rest) (filter-all lines)
