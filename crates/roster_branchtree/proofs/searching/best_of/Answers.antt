use Rattle.std.proofs.Common.{◌≡◌, Some, ap, ◌∙◌, subst}
use Rattle.std.specs.Prelude.{unwrap_or, MatchOption}
use Rattle.std.specs.Arc.{arc_value}
use Rattle.roster_model.specs.Rosters.{Key}
use Rattle.roster_model.specs.Settled.{Settles}
use Rattle.roster_model.proofs.SettledLemmas.{Settles-wider}
use Rattle.roster_branchtree.specs.Shown.{KeepsWatch, Watched}
use Rattle.roster_incumbent.specs.Kept.{IsEarlierOf}
use Rattle.roster_subtreepool_spans.specs.Spans.{IsInSpan}
use Rattle.roster_branchtree.proofs.Settling.{found_settles, watch_of}
use Rattle.roster_branchtree.proofs.searching.best_of.Goals as goal

pub returns : goal.returns
returns g c =
    let problem = c.args.problem.now in
    let began : Watched = c.args.watch.now in
    let every = began.every in
    let known = began.best in
    let region = IsInSpan c.args.table.now c.args.span.now in
    let mid : Watched = c.node.new.self in
    let now : Watched = c.least_in.new.finder in
    let start : began ≡ watch_of problem every known = ap (λ problem. watch_of problem every known) c.requires.watch in
    let first = subst (λ (w : Watched). KeepsWatch w mid) start c.node.ensures in
    let second : KeepsWatch mid now = c.in_ok-found.ensures.goes_on in
    let held = c.deref-2.ensures ∙ c.in_ok-held.ensures in
    let inside = subst (λ (key : Key). Settles problem region region (Some key) (unwrap_or c.in_ok-found.found key)) held c.in_ok-found.ensures.settled in
    let settled =
    Settles-wider problem region region (λ places. every ≡ 0 → region places) (Some mid.best)
    (unwrap_or c.in_ok-found.found mid.best) inside (λ places legal own _. own) in
    let one = subst (λ (key : Key). MatchOption c.in_ok-found.found (arc_value c.in_ok-best.best ≡ key) (λ roster. IsEarlierOf roster key (arc_value c.in_ok-best.best))) c.in_ok-seen.ensures c.in_ok-best.ensures in
    found_settles problem region every known mid now c.in_ok-found.found
    (arc_value c.in_ok-best.best) c.requires.known first second settled one
