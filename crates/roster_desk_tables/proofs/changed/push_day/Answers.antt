use Rattle.std.proofs.Common.{◌≡◌, ◌∙◌, ◌++◌, ap, append_assoc, append-nil, codes, rules, subst, sym}
use Rattle.roster_desk_tables.specs.Changed.{IsDate, number_of_day}
use Rattle.roster_desk_tables.proofs.changed.push_day.Goals as goal

pub returns : goal.returns
returns c =
    let date = c.as_bytes.result.now in
    let period : c.period.result ≡ c.args.problem.now.period = search rules in
    let is = subst (IsDate (number_of_day c.period.result c.args.i)) (sym c.as_bytes.ensures.value) c.in_ok-date.ensures in
    record {
      date = date;
      is = subst (λ p. IsDate (number_of_day p c.args.i) date) period is;
      text = c.in_ok-push_all.ensures ∙ ap (λ t. c.args.out.now.items ++ (codes " " ++ t)) (append-nil date)
          ∙ sym (append_assoc c.args.out.now.items (codes " ") date);
    }
