use Rattle.std.proofs.Common.{ℤ, pos, ◌*ℤ◌, w64, get_or, sym, subst, ap, ◌∙◌, arith}
use Rattle.std.proofs.lemmas.Int.{to_z-of_z}
use Rattle.std.proofs.lemmas.Option.{slice_get-get_or}
use Rattle.roster_cost.specs.Amounts.{IsWithin}
use Rattle.roster_search_regions.specs.declared.choice.TheConstants.{MOST_EXTRA}
use Rattle.roster_search_regions.proofs.Copied.{no_entry}
use Rattle.roster_search_regions.proofs.build.extra_of.Goals as goal

pub times-requires : goal.times-requires
times-requires c =
    let at = slice_get-get_or c.args.lines.now c.args.i no_entry c.requires.inside in
    let is =
    to_z-of_z w64 c.above_first.result (record { sfits = c.above_first.type_inv })
    ∙ c.above_first.ensures.value (get_or c.args.lines.now c.args.i no_entry) at in
    subst (λ (z : ℤ). IsWithin MOST_EXTRA (pos c.args.scale *ℤ z)) (sym is)
    (c.requires.counted c.args.i no_entry (omega arith) c.requires.inside)

pub returns-clause-value : goal.returns-clause-value
returns-clause-value c entry at =
    let is =
    to_z-of_z w64 c.above_first.result (record { sfits = c.above_first.type_inv })
    ∙ c.above_first.ensures.value entry at in
    to_z-of_z w64 c.times.result (record { sfits = c.times.type_inv }) ∙ c.times.ensures
    ∙ ap (λ (z : ℤ). pos c.args.scale *ℤ z) is

pub returns-clause-bound : goal.returns-clause-bound
returns-clause-bound c =
    let at = slice_get-get_or c.args.lines.now c.args.i no_entry c.requires.inside in
    subst (IsWithin MOST_EXTRA) (sym (returns-clause-value c (get_or c.args.lines.now c.args.i no_entry) at))
    (c.requires.counted c.args.i no_entry (omega arith) c.requires.inside)
