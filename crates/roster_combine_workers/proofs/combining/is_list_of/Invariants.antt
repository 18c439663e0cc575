use Rattle.std.proofs.Common.{◌≡◌, ◌≤◌, ◌↔◌, drop, length, map}
use Rattle.roster_combine_workers.specs.Parts.{span_of, spans_by}
use Rattle.roster_combine_workers.proofs.combining.is_list_of.Given as goal

-- what is left of the list decides, with what is left of the finished spans
abbrev pub invariant-loop-k : goal.invariant-loop-k
invariant-loop-k l = record {
  rest : (map span_of l.list ≡ spans_by l.worker l.finished) ↔
      (map span_of (drop l.next l.list) ≡ spans_by l.worker (drop l.k l.finished));
  within : l.next ≤ length l.list;
}
