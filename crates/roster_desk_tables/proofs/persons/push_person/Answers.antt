use Rattle.std.proofs.Common.{rules, ◌≡◌, ◌∙◌, ◌∷◌, List, ap, ap₂, length, option_map, refl, subst}
use Rattle.std.specs.Fmt.{decimal, signed_decimal}
use Rattle.roster_model.specs.Problem.{home_of}
use Rattle.roster_desk_sheets.specs.Written.{HasRow}
use Rattle.roster_desk_tables.specs.Cells.{cells_with}
use Rattle.roster_desk_tables.specs.Days.{AreMonthDays}
use Rattle.roster_desk_tables.specs.Rows.{duties_of, leaves_of, pairings_of}
use Rattle.roster_desk_tables.proofs.persons.push_person.Goals as goal

before : {X : Type 0} {a b : X} {xs ys : List X} → a ≡ b → xs ≡ ys → a ∷ xs ≡ b ∷ ys
before here rest = ap₂ (λ x all. x ∷ all) here rest

pub returns : goal.returns
returns c whole =
    let problem = c.args.problem.now in
    let k = c.args.k in
    let person = c.person-person.result.now in
    let month = c.month_days-month.result in
    let sums = c.in_ok-sums.sums in
    let list = c.in_ok-list.ensures in
    let id : c.as_bytes.result.now ≡ person.id = search rules in
    let home : c.as_bytes-2.result.now ≡ (home_of problem k).id = search rules in
    let pairings : c.as_bytes-3.result.now ≡ decimal (pairings_of c.args.places.now k) =
    let told : c.as_bytes-3.result.now ≡ decimal c.count_of.result = search rules in
    told ∙ ap decimal c.count_of.ensures in
    let duties : c.as_bytes-4.result.now ≡ decimal (duties_of problem c.args.places.now k) =
    let told : c.as_bytes-4.result.now ≡ decimal c.len.result = search rules in
    told ∙ ap decimal (c.len.ensures.value ∙ ap length list) in
    let leaves : c.as_bytes-5.result.now ≡ decimal (leaves_of problem k) =
    let told : c.as_bytes-5.result.now ≡ decimal c.leaves_of.result = search rules in
    told ∙ ap decimal c.leaves_of.ensures in
    let work : c.as_bytes-6.result.now ≡ decimal month.work = search rules in
    let free : c.as_bytes-7.result.now ≡ decimal month.free = search rules in
    let weekends : c.as_bytes-8.result.now ≡ decimal month.weekends = search rules in
    let flight : c.as_bytes-9.result.now ≡ signed_decimal sums.flight = search rules in
    let duty7 : c.as_bytes-10.result.now ≡ signed_decimal sums.duty7 = search rules in
    let duty14 : c.as_bytes-11.result.now ≡ signed_decimal sums.duty14 = search rules in
    let duty28 : c.as_bytes-12.result.now ≡ signed_decimal sums.duty28 = search rules in
    let flight28 : c.as_bytes-13.result.now ≡ signed_decimal sums.flight28 = search rules in
    let target : c.as_bytes-14.result.now ≡ decimal person.target = search rules in
    let cost : c.as_bytes-15.result.now ≡ signed_decimal sums.cost = search rules in
    record {
      person = person;
      month = month;
      sums = sums;
      is = c.person-person.ensures;
      days = subst (λ all. AreMonthDays (home_of problem k).days all month) list c.month_days-month.ensures;
      are = c.in_ok-sums.ensures;
      names = c.push.ensures.names;
      row = subst (λ cells. HasRow c.args.rows.now.records c.push.new.self.records
          (cells_with (option_map (λ names. names.now.called.items) c.args.rows.now.names) cells))
          (before id (before home (before pairings (before duties (before leaves (before work (before free (before weekends
          (before flight (before duty7 (before duty14 (before duty28 (before flight28 (before target (before cost refl)))))))))))))))
          (c.in_ok-push.ensures.row whole);
    }
