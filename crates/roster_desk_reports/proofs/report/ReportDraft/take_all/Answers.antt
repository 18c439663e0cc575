use Rattle.std.proofs.Common.{◌≡◌, ◌+◌, ◌<◌, ◌++◌, ◌∙◌, [], ℕ, List, ap, arith, drop, get_or, length, map, subst, sym}
use Rattle.std.specs.Prelude.{◌||◌, is_some, not}
use Rattle.std.specs.Option.{option_or}
use Rattle.std.proofs.lemmas.List.{append_assoc, get_or-map, length-map}
use Rattle.roster_desk_reports.specs.Faults.{IsTold, first_fault, heading_from, is_blank, line_fault, told_or}
use Rattle.roster_desk_reports.specs.Text.{given_from, numbered_by_line, words_of}
use Rattle.roster_desk_reports.proofs.Lines.{fault_next, given_next, heading_next, told_here, told_later}
use Rattle.roster_desk_reports.proofs.report.ReportDraft.take_all.Goals as goal

pub returns-in-Err-clause-fault : goal.returns-in-Err-clause-fault
returns-in-Err-clause-fault c =
    let lines = c.args.lines.now in
    let all : List (List ℕ) = map (λ line. line.now) lines in
    let i = c.loop-i.i in
    let line : List ℕ = (get_or lines i (record { ref_ptr = (0, 0); now = [] })).now in
    let long : length all ≡ length lines = length-map lines (λ line. line.now) in
    let few : i < length all = omega (arith, long, c.loop-i-test.true) in
    let at : get_or all i line ≡ line = get_or-map (λ x. x.now) lines i _ line c.loop-i-test.true in
    let begun = is_some c.loop-i.self.heading in
    let count = c.loop-i.self.pairings in
    let next = fault_next begun count (i + 1) all i line few at in
    subst (λ told. IsTold told c.in-Err.fault) (sym next ∙ c.loop-i.invariant.fault)
    (told_here (i + 1) (line_fault begun count (words_of line)) (told_later begun count (i + 1) line (drop (i + 1) all)) c.in-Err.fault c.in-Err.ensures.fault)

pub loop-i-preserved : goal.loop-i-preserved
loop-i-preserved c =
    let lines = c.args.lines.now in
    let all : List (List ℕ) = map (λ line. line.now) lines in
    let i = c.loop-i.i in
    let line : List ℕ = (get_or lines i (record { ref_ptr = (0, 0); now = [] })).now in
    let long : length all ≡ length lines = length-map lines (λ line. line.now) in
    let few : i < length all = omega (arith, long, c.loop-i-test.true) in
    let at : get_or all i line ≡ line = get_or-map (λ x. x.now) lines i _ line c.loop-i-test.true in
    let begun = is_some c.loop-i.self.heading in
    let count = c.loop-i.self.pairings in
    let taken = c.in_default.ensures in
    let rest = drop (i + 1) all in
    let given : List (ℕ × _) = map numbered_by_line c.loop-i.self.crew.items in
    record {
      given =
          ap (λ first. first ++ given_from (i + 1 + 1) rest) taken.given
          ∙ append_assoc given _ (given_from (i + 1 + 1) rest)
          ∙ ap (λ more. given ++ more) (sym (given_next (i + 1) all i line few at))
          ∙ c.loop-i.invariant.given;
      heading =
          taken.heading (heading_from (i + 1 + 1) rest)
          ∙ ap (option_or c.loop-i.self.heading) (sym (heading_next (i + 1) all i line few at))
          ∙ c.loop-i.invariant.heading;
      fault =
          ap (λ has. first_fault has c.take.new.self.pairings (i + 1 + 1) rest) taken.begun
          ∙ ap (λ n. first_fault (begun || not (is_blank (words_of line))) n (i + 1 + 1) rest) taken.count
          ∙ sym (ap (λ told. told_or (i + 1) told (told_later begun count (i + 1) line rest)) taken.sound)
          ∙ sym (fault_next begun count (i + 1) all i line few at)
          ∙ c.loop-i.invariant.fault;
    }
