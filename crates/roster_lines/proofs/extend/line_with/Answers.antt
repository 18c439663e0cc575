use Rattle.std.proofs.Common.{sym, subst}
use Rattle.roster_legal.specs.Stepping.{IsNext, Stepped}
use Rattle.roster_lines.proofs.Stems.{line_with_next, next_of}
use Rattle.roster_lines.proofs.extend.line_with.Goals as goal

pub with-requires : goal.with-requires
with-requires g c =
    subst (λ (j : Stepped). IsNext j c.args.p) (sym c.requires.judged)
    (next_of c.args.listing.now.problem.now c.args.listing.now.k c.args.stem.now c.args.p c.requires.stem c.requires.candidate)

pub returns : goal.returns
returns g c = line_with_next c.args.listing.now.problem.now c.args.listing.now.k (g.W.Wanted.wants c.args.listing.now.wanted.now c.args.listing.now.problem.now c.args.listing.now.k) c.args.stem.now c.args.p c.args.judged.now c.in_ok-found.found c.requires.parts c.requires.judged c.requires.stem c.requires.candidate c.in_ok-found.ensures
