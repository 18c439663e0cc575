use Rattle.std.proofs.Common.{◌≡◌, ◌<◌, ◌+◌, ◌∙◌, length, get_or, set, Some, refl, sym, ap}
use Rattle.std.specs.Prelude.{slice_get}
use Rattle.std.proofs.lemmas.Option.{slice_get_read}
use Rattle.roster_book.specs.Flown.{sector_count}
use Rattle.roster_book.proofs.Names.{keys_kept}
use Rattle.roster_book.proofs.SectorTable.{fits-within, sector_count_more, with_sector_at-is}
use Rattle.roster_book.proofs.duties.Duties.push_sector.Goals as goal

pub returns : goal.returns
returns c =
    let items = c.self.inside.duties.items in
    let within : c.args.place < length items =
    rw c.self.view_is (fits-within c.args.self.now c.args.place c.args.sector c.requires.fits) in
    let there : slice_get items c.args.place ≡ Some c.index_mut.result.now =
    slice_get_read items
    (length items) c.args.place c.index_mut.result.now refl within c.index_mut.ensures.value in
    rw (c.in_ok-push_sector.ensures, ← c.self.view_is)
    (sym (with_sector_at-is items c.args.place c.args.sector c.index_mut.result.now there))

pub invariant_of-self-2 : goal.invariant_of-self-2
invariant_of-self-2 c =
    let items = c.self.inside.duties.items in
    let within : c.args.place < length items =
    rw c.self.view_is (fits-within c.args.self.now c.args.place c.args.sector c.requires.fits) in
    let there : slice_get items c.args.place ≡ Some c.index_mut.result.now =
    slice_get_read items
    (length items) c.args.place c.index_mut.result.now refl within c.index_mut.ensures.value in
    let counted : c.self.inside.sectors + 1 ≡ sector_count (set items c.args.place c.push_sector.new.self) =
    rw (c.in_ok-push_sector.ensures, c.self.invariant.0) (sym (sector_count_more items c.args.place c.args.sector within) ∙ ap sector_count (with_sector_at-is items c.args.place c.args.sector c.index_mut.result.now there)) in
    let kept : c.push_sector.new.self.id ≡ (get_or items c.args.place c.index_mut.result.now).id =
    rw c.in_ok-push_sector.ensures (ap (λ duty. duty.id) c.index_mut.ensures.value) in
    (counted, keys_kept (λ duty. duty.id) c.self.inside.keys.items items c.args.place c.push_sector.new.self c.index_mut.result.now c.self.invariant.1 kept)
