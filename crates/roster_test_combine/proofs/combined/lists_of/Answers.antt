use Rattle.std.proofs.Common.{◌≡◌, ◌++◌, ◌∷◌, List, [], Vec, Global, map, ap, ◌∙◌}
use Rattle.std.specs.Prelude.{All}
use Rattle.std.proofs.lemmas.List.{map_push}
use Rattle.std.proofs.lemmas.List.Elements.{All-nil, All-push, All-same}
use Rattle.roster_model.specs.Problem.{Problem}
use Rattle.roster_lines_table.specs.Entries.{Entry}
use Rattle.roster_subtreepool.specs.States.{SettledSpan}
use Rattle.roster_combine_workers.specs.Parts.{AreSettled, IsSettled}
use Rattle.roster_test_combine.proofs.combined.lists_of.Goals as goal
use Rattle.roster_test_combine.proofs.combined.lists_of.Goals.{in-First+in_ok-push-in-First, in-Second+in_ok-push-in-Second+in_ok-push-in-Second-2, in-Nobody}

abbrev items : Vec SettledSpan Global → List SettledSpan
items list = list.items

abbrev lists_in : Vec (Vec SettledSpan Global) Global → List (Vec SettledSpan Global)
lists_in lists = lists.items

none : (problem : Problem) (table : List (List Entry)) (lists : List (Vec SettledSpan Global)) → lists ≡ []
    → All (AreSettled problem table) (map items lists)
none problem table lists is =
    All-same (AreSettled problem table) (map items lists) [] (ap (map items) is)
    (All-nil (AreSettled problem table))

pushed : (problem : Problem) (table : List (List Entry)) (old lists : List (Vec SettledSpan Global)) (list : Vec SettledSpan Global) → lists ≡ old ++ list ∷ []
    → All (AreSettled problem table) (map items old) → AreSettled problem table list.items
    → All (AreSettled problem table) (map items lists)
pushed problem table old lists list is all one =
    All-same (AreSettled problem table) (map items lists) (map items old ++ items list ∷ [])
    (ap (map items) is ∙ map_push items old list)
    (All-push (AreSettled problem table) (map items old) list.items all one)

pub returns : goal.returns
returns c = λ problem table all.
    let first = none problem table c.new-lists.result.items c.new-lists.ensures.items in
    elim c.match-handed.branch [
      | in-First+in_ok-push-in-First w ↦
          pushed problem table c.new-lists.result.items c.match-handed.lists.items c.args.list
          (ap lists_in w.lists-is ∙ w.in_ok-push-in-First.ensures.items) first all
      | in-Second+in_ok-push-in-Second+in_ok-push-in-Second-2 w ↦
          pushed problem table w.push-in-Second.new.self.items c.match-handed.lists.items c.args.list
          (ap lists_in w.lists-is ∙ w.in_ok-push-in-Second-2.ensures.items)
          (pushed problem table c.new-lists.result.items w.push-in-Second.new.self.items w.new.result w.in_ok-push-in-Second.ensures.items first
          (All-same (IsSettled problem table) w.new.result.items [] w.new.ensures.items (All-nil (IsSettled problem table)))) all
      | in-Nobody w ↦ none problem table c.match-handed.lists.items (ap lists_in w.lists-is ∙ c.new-lists.ensures.items)
    ]
