use Rattle.std.proofs.Common.{◌≤◌, ◌+◌, get_or, length, subst, sym, arith}
use Rattle.std.specs.Prelude.{◌↔◌, IsTrue}
use Rattle.std.proofs.lemmas.Option.{get_or_from_slice_get}
use Rattle.roster_model.proofs.WindowLemmas.{mids-in_order}
use Rattle.roster_model.specs.Rules.DaysOff.{IsFreeFrom}
use Rattle.roster_legal_reasons.proofs.rules.days_off.is_pair_off.Goals as goal

pub is_free-requires : goal.is_free-requires
is_free-requires c =
    let days = c.args.days.now in
    let i = c.args.i in
    let table = c.month_days.ensures.table in
    let long = table.eight in
    let inside : i + 2 ≤ length days.eight = omega (arith, long, c.requires.ends) in
    let from = get_or_from_slice_get days.mid i c.mid.result 0 c.mid.ensures.value in
    let to = get_or_from_slice_get days.mid (i + 2) c.mid-2.result 0 c.mid-2.ensures.value in
    let order = mids-in_order days table i (i + 2) (omega arith) inside in
    omega (arith, from, to, order)

pub returns : goal.returns
returns c =
    let days = c.args.days.now in
    let list = c.args.list.now in
    let yes = IsTrue c.is_free.result in
    let from = get_or_from_slice_get days.mid c.args.i c.mid.result 0 c.mid.ensures.value in
    let to = get_or_from_slice_get days.mid (c.args.i + 2) c.mid-2.result 0 c.mid-2.ensures.value in
    let free = subst (λ end. yes ↔ IsFreeFrom (get_or days.mid c.args.i 0) end list) (sym to)
    (subst (λ start. yes ↔ IsFreeFrom start c.mid-2.result list) (sym from) c.is_free.ensures) in
    (λ h. record { begins = c.requires.begins; ends = c.requires.ends; free = free.0 h }, λ pair. free.1 pair.free)
