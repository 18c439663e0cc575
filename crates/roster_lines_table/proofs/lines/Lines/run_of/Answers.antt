use Rattle.std.proofs.Common.{arith}
use Rattle.roster_lines_table.specs.Entries.{sets_of}
use Rattle.roster_lines_table.proofs.Cuts.{run_bounds, run_from_cuts}
use Rattle.roster_lines_table.proofs.TreeLemmas.{length-sets_of}
use Rattle.roster_lines_table.proofs.lines.Lines.run_of.Goals as goal

pub returns-clause-bounds : goal.returns-clause-bounds
returns-clause-bounds c =
    let bounds = run_bounds (sets_of c.args.self.now) c.args.p c.start_of.result c.start_of-2.result c.start_of.ensures c.start_of-2.ensures in
    (bounds.0, omega (arith, bounds.1, length-sets_of c.args.self.now))

pub returns-clause-run : goal.returns-clause-run
returns-clause-run c = run_from_cuts (sets_of c.args.self.now) c.args.p c.start_of.result c.start_of-2.result c.start_of.ensures c.start_of-2.ensures
