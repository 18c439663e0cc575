use Rattle.std.proofs.Common.{ℕ, List, pos, sym, subst}
use Rattle.roster_lines.specs.declared.stem.Stem.{Stem}
use Rattle.roster_lines.specs.Listing.{IsStem}
use Rattle.roster_lines.proofs.Listed.{IsStem-root}
use Rattle.roster_lines.proofs.stem.Stem.root.Goals as goal

pub returns-clause-stem : goal.returns-clause-stem
returns-clause-stem c =
    let problem = c.args.problem.now in
    let flight = c.fixed_flight.result in
    let stem : List ℕ → Stem = λ set. record { set = set; number = 0; among = c.args.among; candidates = c.args.among; units = pos 0; flight = flight } in
    subst (λ set. IsStem problem c.args.k (stem set)) (sym c.empty.ensures)
    (IsStem-root problem c.args.k c.args.among flight c.requires.alone c.fixed_flight.ensures.value)
