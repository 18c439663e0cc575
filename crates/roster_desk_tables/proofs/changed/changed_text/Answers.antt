use Rattle.std.proofs.Common.{◌≡◌, ◌∙◌, ◌++◌, [], append_assoc, ap, arith, codes, length, rules, subst, sym}
use Rattle.std.specs.Fmt.{decimal}
use Rattle.std.specs.List.{count_by, range_with_len}
use Rattle.roster_desk_tables.specs.Changed.{HaveLines, MayHaveLine, is_changed}
use Rattle.roster_desk_tables.proofs.Having.{have_more, have_none}
use Rattle.roster_desk_tables.proofs.changed.changed_text.Goals as goal

pub loop-k-init : goal.loop-k-init
loop-k-init c =
    subst (HaveLines c.args.problem.now c.args.before.now c.args.after.now 0 []) (sym c.new-out.ensures.items)
    (have_none _ _)

pub loop-k-preserved : goal.loop-k-preserved
loop-k-preserved c =
    let problem = c.args.problem.now in
    let old = c.loop-k.out.items in
    let new = c.push_changed.new.out.items in
    have_more _ _ _ _ _ c.loop-k.invariant
    (subst (λ b. MayHaveLine b problem c.args.before.now c.args.after.now c.loop-k.k old new)
    c.is_changed-differs.ensures c.in_ok-push_changed.ensures)

pub returns : goal.returns
returns c =
    let problem = c.args.problem.now in
    let persons : length c.persons-k-end.result.now ≡ length problem.persons =
    ap length c.persons-k-end.ensures.value in
    let all : c.loop-k.k ≡ length problem.persons =
    omega (arith, persons, c.loop-k.auto.k-end, c.loop-k-test.false) in
    let all_persons = range_with_len 0 (length problem.persons) in
    let number = count_by (is_changed problem c.args.before.now c.args.after.now) all_persons in
    let lines = c.loop-k.out.items in
    let last = codes " persons change\n" in
    let told : c.as_bytes.result.now ≡ decimal c.changed_persons.result = search rules in
    let text : c.as_bytes.result.now ≡ decimal number = told ∙ ap decimal c.changed_persons.ensures in
    record {
      lines = lines;
      are = subst (λ n. HaveLines problem c.args.before.now c.args.after.now n [] lines) all c.loop-k.invariant;
      text =
          c.in_ok-push_all.ensures ∙ ap (λ t. lines ++ (t ++ last)) text
          ∙ sym (append_assoc lines (decimal number) last);
    }
