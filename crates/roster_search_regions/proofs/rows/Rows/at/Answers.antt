use Rattle.std.proofs.Common.{◌≡◌, ℤ, pos, ◌-ℤ◌, ◌*ℤ◌, length, get_or, Bool, w64, to_z, of_z, rules, sym, ap, subst, ◌∙◌, arith}
use Rattle.std.specs.Prelude.{Some, option_map, slice_get}
use Rattle.std.proofs.lemmas.Int.{to_z-of_z}
use Rattle.std.proofs.lemmas.List.{length-map}
use Rattle.std.proofs.lemmas.Option.{get_or_from_slice_get, slice_get-map, slice_get_within}
use Rattle.roster_cost.specs.Amounts.{IsWithin}
use Rattle.roster_search_regions.specs.declared.choice.Choice.{Choice}
use Rattle.roster_search_regions.specs.declared.choice.TheConstants.{MOST_EXTRA}
use Rattle.roster_search_regions.specs.Marks.{remarked, with_live}
use Rattle.roster_search_regions.specs.Rows.{choice_of, choices_of}
use Rattle.roster_search_regions.specs.Trees.{IsLimited}
use Rattle.roster_search_regions.proofs.MarkLemmas.{length-remarked, remarked-at}
use Rattle.roster_search_regions.proofs.RowLemmas.{difference-words}
use Rattle.roster_search_regions.proofs.rows.Rows.at.Goals.{After-row_at-row, After-times}
use Rattle.roster_search_regions.proofs.rows.Rows.at.Goals as goal

pub row_at-row-requires : goal.row_at-row-requires
row_at-row-requires c =
    let rows = c.self.inside.rows.now in
    let choices = choices_of c.self.inside.scale c.self.inside.empty rows in
    omega (arith, c.requires, ap length (sym c.self.view_is), length-remarked c.self.inside.marks.now choices, length-map rows (choice_of c.self.inside.scale c.self.inside.empty))

-- the row as a choice stands at the place,
there : (c : After-row_at-row) → slice_get (choices_of c.self.inside.scale c.self.inside.empty c.self.inside.rows.now) c.args.i ≡ Some (choice_of c.self.inside.scale c.self.inside.empty c.row_at-row.result)
there c =
    let read = choice_of c.self.inside.scale c.self.inside.empty in
    slice_get-map read c.self.inside.rows.now c.args.i ∙ ap (option_map read) c.row_at-row.ensures

-- and its numbers are within their limits
limited : (c : After-row_at-row)
    → IsLimited (choice_of c.self.inside.scale c.self.inside.empty c.row_at-row.result)
limited c =
    let marks = c.self.inside.marks.now in
    let choices = choices_of c.self.inside.scale c.self.inside.empty c.self.inside.rows.now in
    let item = choice_of c.self.inside.scale c.self.inside.empty c.row_at-row.result in
    let marked = with_live (get_or marks c.args.i item.live) item in
    let at = remarked-at marks choices c.args.i item (there c) in
    let limits : IsLimited marked = subst IsLimited (get_or_from_slice_get (remarked marks choices) c.args.i marked marked at) (c.self.invariant.limited c.args.i marked (slice_get_within (remarked marks choices) c.args.i marked at)) in
    record { depth = limits.depth; last = limits.last; extra = limits.extra }

pub times-requires : goal.times-requires
times-requires c =
    let apart =
    difference-words c.row_at-row.result.cost c.self.inside.empty c.above.result (search rules)
    (search rules) (record { sfits = c.above.type_inv }) c.above.ensures in
    subst (λ (z : ℤ). IsWithin MOST_EXTRA (pos c.self.inside.scale *ℤ z)) (sym apart)
    (limited (goal.at.times-requires c).After-row_at-row).extra

-- what is returned is that choice
same : (c : After-times) → to_z w64 (of_z w64 c.times.result) ≡ pos c.self.inside.scale *ℤ (c.row_at-row.result.cost -ℤ c.self.inside.empty)
same c =
    let apart =
    difference-words c.row_at-row.result.cost c.self.inside.empty c.above.result (search rules)
    (search rules) (record { sfits = c.above.type_inv }) c.above.ensures in
    to_z-of_z w64 c.times.result (record { sfits = c.times.type_inv }) ∙ c.times.ensures
    ∙ ap (λ (z : ℤ). pos c.self.inside.scale *ℤ z) apart

with_extra : Bool → ℤ → Choice → Choice
with_extra live extra choice = record { extra = extra; depth = choice.depth; last = choice.last; live = live }

pub returns-clause-value : goal.returns-clause-value
unfolding with_extra
returns-clause-value c =
    let marks = c.self.inside.marks.now in
    let choices = choices_of c.self.inside.scale c.self.inside.empty c.self.inside.rows.now in
    let item = choice_of c.self.inside.scale c.self.inside.empty c.row_at-row.result in
    ap (λ cs. slice_get cs c.args.i) (sym c.self.view_is)
    ∙ remarked-at marks choices c.args.i item (there (goal.at.returns-clause-value c).After-row_at-row)
    ∙ ap (λ live. Some (with_extra live item.extra item)) (sym c.is_marked.ensures)
    ∙ ap (λ (z : ℤ). Some (with_extra c.is_marked.result z item)) (sym (same (goal.at.returns-clause-value c).After-times))

pub returns-clause-limited : goal.returns-clause-limited
returns-clause-limited c =
    let limits = limited (goal.at.returns-clause-limited c).After-row_at-row in
    record {
      depth = limits.depth;
      last = limits.last;
      extra =
          subst (IsWithin MOST_EXTRA)
          (sym (same (goal.at.returns-clause-limited c).After-times)) limits.extra;
    }
