use Rattle.std.proofs.Common.{◌≡◌, ℕ, ◌<◌, false, get_or}
use Rattle.std.specs.Str.{bytes_eq}
use Rattle.roster_book.proofs.named.place_by_key.Given as goal

-- no entry before this one has the name
abbrev pub invariant-loop-place : goal.invariant-loop-place
invariant-loop-place g l =
    (k : ℕ) (d : g.row.T.Denot) → k < l.place → bytes_eq (g.T.Named.id_of
    (get_or l.entries k d)) l.name ≡ false
