use Rattle.std.proofs.Common.{◌≡◌, ◌<◌, ◌∙◌, [], ℕ, List, arith, get_or, length, map, sym}
use Rattle.std.specs.List.{list_all}
use Rattle.std.proofs.lemmas.List.{get_or-map, length-map}
use Rattle.roster_model.specs.Form.{is_identifier}
use Rattle.roster_desk_reports.specs.Text.{name_of, names_of}
use Rattle.roster_desk_reports.proofs.Lines.{form_next, form_stop, form_told, names_next}
use Rattle.roster_desk_reports.proofs.report.names.Goals as goal

pub returns-in-Err-clause-fault : goal.returns-in-Err-clause-fault
returns-in-Err-clause-fault c =
    let words = c.args.words.now in
    let all : List (List ℕ) = map (λ word. word.now) words in
    let i = c.loop-word.word-index in
    let word : List ℕ = (get_or words i (record { ref_ptr = (0, 0); now = [] })).now in
    let long : length all ≡ length words = length-map words (λ word. word.now) in
    let few : i < length all = omega (arith, long, c.loop-word-test.true) in
    let at : get_or all i word ≡ word = get_or-map (λ x. x.now) words i _ word c.loop-word-test.true in
    form_told c.args.line (list_all is_identifier (name_of word)) (list_all is_identifier (names_of all)) c.in-Err.fault
    (λ form. sym c.loop-word.invariant.form ∙ form_stop all i word few at form) c.in-Err.ensures.fault

pub loop-word-preserved : goal.loop-word-preserved
loop-word-preserved c =
    let words = c.args.words.now in
    let all : List (List ℕ) = map (λ word. word.now) words in
    let i = c.loop-word.word-index in
    let word : List ℕ = (get_or words i (record { ref_ptr = (0, 0); now = [] })).now in
    let long : length all ≡ length words = length-map words (λ word. word.now) in
    let few : i < length all = omega (arith, long, c.loop-word-test.true) in
    let at : get_or all i word ≡ word = get_or-map (λ x. x.now) words i _ word c.loop-word-test.true in
    record {
      given = names_next c.loop-word.names.items words i _ c.push_name.new.names.items c.loop-word-test.true c.loop-word.invariant.given c.in_default.ensures.given;
      form = sym (form_next all i word few at c.in_default.ensures.form) ∙ c.loop-word.invariant.form;
    }
