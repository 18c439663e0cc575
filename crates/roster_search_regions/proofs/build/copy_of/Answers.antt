use Rattle.std.proofs.Common.{◌≡◌, ◌<◌, length, ◌++◌, ◌∷◌, [], List, w64, get_or, sym, subst, ap₂, ◌∙◌, arith}
use Rattle.std.proofs.lemmas.Int.{to_z-of_z}
use Rattle.std.proofs.lemmas.Option.{slice_get-get_or, get_or_from_slice_get}
use Rattle.roster_lines_table.specs.Entries.{Entry}
use Rattle.roster_search_regions.specs.Building.{allowed_between, allowed_in}
use Rattle.roster_search_regions.specs.Regions.{AllowedLine, allowed}
use Rattle.roster_search_regions.specs.Writing.{IsWriting}
use Rattle.roster_search_regions.proofs.Copied.{allowed_between-more, allowed_between-none, allowed_between-whole, no_entry, set_is}
use Rattle.roster_search_regions.proofs.build.copy_of.Goals as goal

pub loop-i-init : goal.loop-i-init
loop-i-init c =
    rw c.new.ensures (subst (IsWriting c.new-2.result []) (sym (allowed_between-none c.args.scale c.args.lines.now c.min-start.result c.min-start.result (omega arith))) c.new-2.ensures)

pub keep-requires-clause-known : goal.keep-requires-clause-known
keep-requires-clause-known c = (_, c.in_ok-go_to.ensures.writing _ c.loop-i.invariant)

pub loop-i-preserved : goal.loop-i-preserved
loop-i-preserved c =
    let entry : Entry = get_or c.args.lines.now c.loop-i.i no_entry in
    let inside : c.loop-i.i < length c.args.lines.now =
    omega (arith, c.min-end.ensures, c.width.ensures.value) in
    let at = slice_get-get_or c.args.lines.now c.loop-i.i no_entry inside in
    let front : List AllowedLine =
    allowed_between c.args.scale c.args.lines.now c.min-start.result c.loop-i.i in
    let written = c.in_ok-keep.ensures front (c.in_ok-go_to.ensures.writing front c.loop-i.invariant) in
    let extra =
    to_z-of_z w64 c.extra_of.result (record { sfits = c.extra_of.type_inv })
    ∙ c.extra_of.ensures.value entry at in
    let set =
    c.in_ok-go_to.ensures.path ∙ set_is c.args.lines.now c.loop-i.i c.set.result entry c.set.ensures at in
    let line : allowed c.go_to.new.self.path _ ≡ allowed_in c.args.scale c.args.lines.now entry =
    ap₂ allowed set extra in
    subst (IsWriting c.keep.new.self c.go_to.new.self.path)
    (sym (allowed_between-more c.args.scale c.args.lines.now c.min-start.result c.loop-i.i entry c.loop-i.auto.i inside (get_or_from_slice_get c.args.lines.now c.loop-i.i entry entry at)))
    (subst (λ (l : AllowedLine). IsWriting c.keep.new.self c.go_to.new.self.path (front ++ l ∷ [])) line written)

pub returns : goal.returns
returns c =
    c.of.ensures ∙ c.loop-i.invariant.written
    ∙ allowed_between-whole c.args.scale c.args.lines.now c.args.range.0 c.args.range.1 c.min-start.result c.loop-i.i
    (omega (arith, c.min-start.ensures, c.min-end.ensures, c.width.ensures.value))
    (omega (arith, c.min-start.ensures, c.min-end.ensures, c.width.ensures.value))
