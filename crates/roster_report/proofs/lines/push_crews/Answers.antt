use Rattle.std.proofs.Common.{◌≡◌, ℕ, ◌++◌, List, length, map, sym, ap, ◌∙◌, append_assoc, arith}
use Rattle.std.specs.Prelude.{Option, option_map}
use Rattle.roster_model.specs.records.Crew.{Person}
use Rattle.roster_model.specs.Places.{set_of}
use Rattle.roster_model.specs.Rules as model
use Rattle.roster_model.specs.Texts.{crew_line, lock_line, rule_at}
use Rattle.roster_values.specs.View.{rule_of}
use Rattle.roster_report.proofs.OfPersons.{rule_at-map}
use Rattle.roster_report.proofs.LineOf.{lines-more}
use Rattle.roster_report.proofs.lines.push_crews.Goals as goal

pub loop-k-preserved : goal.loop-k-preserved
loop-k-preserved c =
    let locks : List (Option model.Rule) = map (option_map rule_of) c.args.locks.now in
    let person : Person = c.person-item.result in
    let all = ap length c.persons-person-items.ensures.value in
    let lock : rule_at locks c.loop-k.k ≡ option_map rule_of _ =
    rule_at-map c.args.locks.now c.loop-k.k _ (omega arith) in
    let written = c.in_ok-push_lock.ensures ∙ ap (λ l. c.push_crew.new.out.items ++ lock_line person l) (sym lock) ∙ ap (λ xs. xs ++ lock_line person (rule_at locks c.loop-k.k)) c.in_ok-push_crew.ensures ∙ append_assoc c.loop-k.out.items (crew_line c.args.problem.now (set_of c.loop-k.k c.args.places.now) c.loop-k.k person) (lock_line person (rule_at locks c.loop-k.k)) in
    lines-more (λ (entry : ℕ × Person). crew_line c.args.problem.now (set_of entry.0 c.args.places.now) entry.0 entry.1 ++ lock_line entry.1 (rule_at locks entry.0)) _ c.args.problem.now.persons c.loop-k.k person _ _ _ c.persons-person-items.ensures.value c.loop-k-test.true c.person-item.is c.loop-k.invariant written
