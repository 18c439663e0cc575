use Rattle.std.proofs.Common.{◌<◌, Bool, length, refl, sym, ap, ◌∙◌, arith}
use Rattle.std.specs.Str.{bytes_eq}
use Rattle.std.proofs.lemmas.List.{get_or_read_under}
use Rattle.roster_book.proofs.Names.{first_named, keys_count, none_more, none_named, other_key}
use Rattle.roster_book.proofs.named.place_by_key.Goals.{else-keys-place-via-then-keys-place+else-is_name, else-keys-place-via-else-keys-place}
use Rattle.roster_book.proofs.named.place_by_key.Goals as goal

pub returns-then-is_name-clause-value : goal.returns-then-is_name-clause-value
returns-then-is_name-clause-value g c =
    let entries = c.args.entries.now in
    let x = c.index-entries-place.result in
    let within : c.loop-place.place < length entries =
    rw (keys_count g.T.Named.id_of c.args.keys.now entries c.requires) at c.loop-place-test.true in
    let named = sym (rw c.name.ensures at c.is_name.ensures) ∙ c.if-is_name.true in
    let here =
    ap (λ y. bytes_eq (g.T.Named.id_of y) c.args.name.now) (sym c.index-entries-place.is) ∙ named in
    sym (first_named g.T.Named.id_of c.args.name.now entries c.loop-place.place x within (λ k l. c.loop-place.invariant k x l) here)

pub loop-place-preserved : goal.loop-place-preserved
loop-place-preserved g c =
    let entries = c.args.entries.now in
    let within : c.loop-place.place < length entries =
    rw (keys_count g.T.Named.id_of c.args.keys.now entries c.requires) at c.loop-place-test.true in
    let named : g.row.T.Denot → Bool = λ x. bytes_eq (g.T.Named.id_of x) c.args.name.now in
    elim c.else-keys-place.branch [
      | else-keys-place-via-then-keys-place+else-is_name w ↦
          let x = w.index-entries-place.result in
          let other = sym (rw w.name.ensures at w.is_name.ensures) ∙ w.if-is_name.false in
          none_more named entries c.loop-place.place (λ d. rw (← get_or_read_under entries c.loop-place.place (length entries) x d w.index-entries-place.is within refl) other) c.loop-place.invariant
      | else-keys-place-via-else-keys-place w ↦
          none_more named entries c.loop-place.place (λ d. other_key g.T.Named.id_of c.args.name.now c.args.keys.now entries c.loop-place.place d c.requires c.loop-place-test.true (λ e. w.if-keys-place.false (e ∙ sym c.key_of-key.ensures))) c.loop-place.invariant
    ]

pub returns-clause-value : goal.returns-clause-value
returns-clause-value g c =
    let count = keys_count g.T.Named.id_of c.args.keys.now c.args.entries.now c.requires in
    sym (none_named g.T.Named.id_of c.args.name.now c.args.entries.now (λ k d l. c.loop-place.invariant k d (omega (arith, count, c.loop-place-test.false))))
