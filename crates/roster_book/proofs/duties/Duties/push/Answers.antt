use Rattle.std.proofs.Common.{◌≡◌, ◌++◌, ◌∷◌, [], ◌∙◌, sym, ap}
use Rattle.roster_book.specs.Flown.{sector_count}
use Rattle.roster_book.specs.Keys.{key_of_name}
use Rattle.roster_book.proofs.Names.{keys_more}
use Rattle.roster_book.proofs.SectorTable.{sector_count_bare}
use Rattle.roster_book.proofs.duties.Duties.push.Goals as goal

pub invariant_of-self-2 : goal.invariant_of-self-2
invariant_of-self-2 c =
    let items = c.self.inside.duties.items in
    let counted : c.self.inside.sectors ≡ sector_count (items ++ c.args.duty ∷ []) =
    c.self.invariant.0 ∙ sym (sector_count_bare items c.args.duty c.requires) in
    let key : c.key_of-key.result ≡ key_of_name c.args.duty.id =
    c.key_of-key.ensures
    ∙ ap key_of_name (c.as_bytes.ensures.value ∙ ap (λ duty. duty.id) c.duty.view_is) in
    let keys = keys_more (λ duty. duty.id) c.self.inside.keys.items items c.args.duty c.key_of-key.result c.self.invariant.1 key in
    rw (c.in_ok-push.ensures.items, c.push_reserved.ensures.items, c.reserve.ensures.items) (counted, keys)
