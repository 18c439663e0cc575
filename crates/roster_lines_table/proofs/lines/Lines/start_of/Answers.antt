use Rattle.std.proofs.Common.{◌≡◌, ◌<◌, length, sym, ap, subst, ◌∙◌, arith}
use Rattle.std.specs.Prelude.{All}
use Rattle.std.proofs.lemmas.Option.{slice_get_within}
use Rattle.roster_model.specs.declared.limits.TheConstants.{MOST_PAIRINGS}
use Rattle.roster_lines_table.specs.Entries.{sets_of}
use Rattle.roster_lines_table.proofs.Lists.{All-slice_get}
use Rattle.roster_lines_table.proofs.Cuts.{before_count}
use Rattle.roster_lines_table.proofs.TreeLemmas.{length-entries_in, length-sets_of}
use Rattle.roster_lines_table.proofs.lines.Lines.start_of.Goals as goal

pub returns-then-p-eq-MOST_PAIRINGS : goal.returns-then-p-eq-MOST_PAIRINGS
returns-then-p-eq-MOST_PAIRINGS c =
    let sets = sets_of c.args.self.now in
    let long : length c.args.self.now ≡ length c.self.inside.lines.items =
    ap length (sym c.self.view_is) ∙ length-entries_in c.self.inside.lines.items in
    let items = c.self.inside.lines.ok.0 in
    let all : c.len.result ≡ length sets = omega (arith, c.len.ensures, length-sets_of c.args.self.now) in
    let places = subst (λ entries. All (All (λ q. q < MOST_PAIRINGS)) (sets_of entries)) c.self.view_is c.self.invariant.places in
    record {
      bound = omega arith;
      before = λ i set l at.
          before_count c.args.p set (subst (λ n. All (λ q. q < n) set) (sym c.if-p-eq-MOST_PAIRINGS.true) (All-slice_get (All (λ q. q < MOST_PAIRINGS)) sets i set places at));
      behind = λ i set l at. absurd (let inside = slice_get_within sets i set at in omega arith);
    }
