use Rattle.std.proofs.Common.{◌<◌, ◌*◌, List, length, get_or, pos, ◌*ℤ◌, ap, sym, subst, arith}
use Rattle.std.specs.Prelude.{All}
use Rattle.roster_cost.specs.Amounts.{IsWithin, most_extra}
use Rattle.roster_lines_table.specs.Entries.{Entry}
use Rattle.roster_lines_table.specs.Person.{lines_at}
use Rattle.roster_search_regions.specs.declared.choice.TheConstants.{MOST_EXTRA}
use Rattle.roster_search_regions.specs.Building.{extra_in}
use Rattle.roster_search_regions.proofs.Counted.{within_more, within_times}
use Rattle.roster_search_regions.proofs.Tables.{table-near}
use Rattle.roster_search_regions.proofs.build.scale_of.Goals as goal

pub greatest_extra-requires : goal.greatest_extra-requires
greatest_extra-requires c =
    let person : c.loop-k.k < length c.args.problem.now.persons =
    omega (arith, ap length c.persons-k-end.ensures.value) in
    let near = table-near c.args.problem.now c.args.table.now c.loop-k.k (λ set line. c.lines_are_near.ensures c.args.problem.now c.loop-k.k set c.is_sound.ensures.sound line) c.requires.table person in
    record { near = subst (λ (es : List Entry). All (λ entry. IsWithin most_extra (extra_in es entry)) es) (sym c.lines.ensures) near }

pub returns-clause-counted : goal.returns-clause-counted
returns-clause-counted c k person j d before inside =
    let entries : List Entry = lines_at c.args.table.now k in
    let within =
    c.loop-k.invariant.all k (omega (arith, ap length c.persons-k-end.ensures.value)) j d before inside in
    within_more (c.scale_for.result * c.loop-k.greatest) MOST_EXTRA
    (pos c.scale_for.result *ℤ extra_in entries (get_or entries j d)) c.scale_for.ensures.room
    (within_times c.scale_for.result c.loop-k.greatest (extra_in entries (get_or entries j d)) within)

pub returns-clause-near : goal.returns-clause-near
returns-clause-near c k person =
    table-near c.args.problem.now c.args.table.now k (λ set line. c.lines_are_near.ensures c.args.problem.now k set c.is_sound.ensures.sound line) c.requires.table person
