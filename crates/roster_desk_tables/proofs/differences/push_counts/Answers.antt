use Rattle.std.proofs.Common.{rules, ◌≡◌, ◌∙◌, ◌++◌, length, ℕ, List, ap, ap₂, codes, sym}
use Rattle.std.specs.Fmt.{decimal}
use Rattle.std.proofs.lemmas.List.{append_assoc}
use Rattle.roster_desk_tables.specs.Differences as spec
use Rattle.roster_desk_tables.proofs.differences.push_counts.Goals as goal

-- src/differences.rt:133:1
pub returns : goal.returns
returns c =
    let persons : c.persons.result.now ≡ c.args.problem.now.persons = c.persons.ensures.value in
    let a : c.as_bytes.result.now ≡ decimal (spec.moved_pairings c.args.before.now c.args.after.now) =
    let told : c.as_bytes.result.now ≡ decimal c.moved_pairings.result = search rules in
    told ∙ ap decimal c.moved_pairings.ensures in
    let b : c.as_bytes-2.result.now
    ≡ decimal (spec.moved_persons (length c.args.problem.now.persons) c.args.before.now c.args.after.now) =
    let told : c.as_bytes-2.result.now ≡ decimal c.moved_persons.result = search rules in
    told ∙ ap decimal (c.moved_persons.ensures
    ∙ ap (λ all. spec.moved_persons (length all) c.args.before.now c.args.after.now) persons) in
    let all : c.push_all.new.out.items
    ≡ c.args.out.now.items ++ (c.as_bytes.result.now ++ (codes " pairings and "
    ++ (c.as_bytes-2.result.now ++ codes " persons change\n"))) =
    c.in_ok-push_all.ensures in
    let pairings : List ℕ = decimal (spec.moved_pairings c.args.before.now c.args.after.now) in
    let persons : List ℕ =
    decimal (spec.moved_persons (length c.args.problem.now.persons) c.args.before.now c.args.after.now) in
    all ∙ ap₂ (λ x y. c.args.out.now.items ++ (x ++ (codes " pairings and " ++ (y ++ codes " persons change\n")))) a b
    ∙ ap (λ t. c.args.out.now.items ++ t) (sym (append_assoc (pairings ++ codes " pairings and ") persons _
    ∙ append_assoc pairings (codes " pairings and ") _))
