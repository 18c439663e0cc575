use Rattle.std.proofs.Common.{ℕ, ◌+◌, ◌-◌, ◌/◌, sym, ◌∙◌, arith}
use Rattle.roster_lines_table.specs.Entries.{sets_of}
use Rattle.roster_lines_table.proofs.Cuts.{still_before, still_behind}
use Rattle.roster_lines_table.proofs.lines.Lines.count_before.Goals as goal

pub loop-low-preserved-then-is_at_most : goal.loop-low-preserved-then-is_at_most
loop-low-preserved-then-is_at_most c =
    let middle : ℕ = c.loop-low.low + (c.loop-low.high - c.loop-low.low) / 2 in
    let bound = c.loop-low.invariant.bound in
    record {
      rising = omega arith;
      bound = omega arith;
      before = c.loop-low.invariant.before;
      behind = λ i set later at.
          still_behind (sets_of c.args.self.now) c.width-high.ensures.ordered c.args.set.now middle i c.set.result set later c.set.ensures at (sym c.is_at_most.ensures ∙ c.if-is_at_most.true);
    }

pub loop-low-preserved : goal.loop-low-preserved
loop-low-preserved c =
    let middle : ℕ = c.loop-low.low + (c.loop-low.high - c.loop-low.low) / 2 in
    record {
      rising = omega arith;
      bound = c.loop-low.invariant.bound;
      before = λ i set earlier at.
          still_before
          (sets_of c.args.self.now) c.width-high.ensures.ordered c.args.set.now i middle set c.set.result
          (omega arith) at c.set.ensures (sym c.is_at_most.ensures ∙ c.if-is_at_most.false);
      behind = c.loop-low.invariant.behind;
    }
