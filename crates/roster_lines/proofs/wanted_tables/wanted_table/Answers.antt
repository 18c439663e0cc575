use Rattle.std.proofs.Common.{ℕ, ◌+◌, ◌<◌, List, length, Some, sym, ap, ◌∙◌, subst, arith}
use Rattle.std.specs.Prelude.{slice_get}
use Rattle.std.proofs.lemmas.List.{length_push}
use Rattle.std.proofs.lemmas.Option.{slice_get-get_or}
use Rattle.roster_lines_table.specs.Entries.{Entry, sets_of}
use Rattle.roster_lines_table.specs.Person.{AreListedOf}
use Rattle.roster_lines.specs.SomeLines.{AreWantedLines}
use Rattle.roster_lines.specs.WantedTables.{AreAllWanted, AreListedSoFar}
use Rattle.roster_lines.proofs.WantedTables.{AreAllWanted-push, AreListedSoFar-push}
use Rattle.roster_lines.proofs.wanted_tables.wanted_table.Goals as goal

pub returns-in-Err-clause-fault : goal.returns-in-Err-clause-fault
returns-in-Err-clause-fault g c =
    let problem = c.args.problem.now in
    c.fault_at.ensures problem c.args.most
    (omega (arith, ap length c.persons-k-end.ensures.value, c.loop-k-test.true)) c.in-Err.ensures.fault

pub loop-k-preserved : goal.loop-k-preserved
loop-k-preserved g c =
    let problem = c.args.problem.now in
    let wanted = c.args.wanted.now in
    let k : ℕ = c.loop-k.k in
    let table : List (List Entry) = c.loop-k.table in
    let lines : List Entry = c.in-Ok.lines in
    let so_far = c.loop-k.invariant in
    let made = c.in-Ok.ensures in
    let pushed = c.in_ok-push-in-Ok.ensures in
    let listed : AreListedOf problem k lines = record {
      some = made.lines.some;
      first = made.lines.first;
      costs = made.costs;
      few = omega (arith, made.few, c.requires.limit.1);
    } in
    let inside : k < length wanted =
    omega (arith, c.requires.covers, ap length c.persons-k-end.ensures.value, c.loop-k-test.true) in
    let there =
    ap (slice_get wanted) so_far.long ∙ slice_get-get_or wanted k c.index-wanted-k.result inside
    ∙ ap Some (sym c.index-wanted-k.is) in
    record {
      long = ap length pushed ∙ length_push table lines ∙ ap (λ n. n + 1) so_far.long;
      listed = subst (AreListedSoFar problem) (sym pushed)
          (AreListedSoFar-push problem table lines so_far.listed (subst (λ n. AreListedOf problem n lines) (sym so_far.long) listed));
      wanted = subst (AreAllWanted g.W.Wanted.wants problem wanted) (sym pushed)
          (AreAllWanted-push g.W.Wanted.wants problem wanted table lines c.index-wanted-k.result so_far.wanted there
          (subst (λ n. AreWantedLines problem n (g.W.Wanted.wants c.index-wanted-k.result problem n) (sets_of lines)) (sym so_far.long) made.lines));
    }
