use Rattle.std.proofs.Common.{◌≡◌, drop, map, take}
use Rattle.std.specs.List.{list_all}
use Rattle.roster_model.specs.Form.{is_identifier}
use Rattle.roster_desk_reports.specs.Text.{names_of}
use Rattle.roster_desk_reports.proofs.report.names.Given as goal

-- the names among the words so far, and whether those that are left have the form
abbrev pub invariant-loop-word : goal.invariant-loop-word
invariant-loop-word l =
    let words = map (λ word. word.now) l.words in
    record {
      given : l.names.items ≡ names_of (map (λ word. word.now) (take l.word-index l.words));
      form : list_all is_identifier (names_of (drop l.word-index words)) ≡ list_all is_identifier (names_of words);
    }
