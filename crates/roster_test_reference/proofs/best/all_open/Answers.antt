use Rattle.std.proofs.Common.{◌≡◌, length, replicate, sym, ap, ◌∙◌, subst, SFits, w64, rules}
use Rattle.std.proofs.lemmas.Int.{to_z-of_z}
use Rattle.roster_model.specs.Costs.{cost_of}
use Rattle.roster_model.specs.Rosters.{IsLegalRoster}
use Rattle.roster_model.proofs.RosterLemmas.{all_open_legal}
use Rattle.roster_test_reference.proofs.best.all_open.Goals as goal

pub returns : goal.returns
returns c =
    let problem = c.args.problem.now in
    let items : c.in_ok-places.places.items ≡ replicate (length problem.pairings) (length problem.persons) =
    search rules in
    let fits : SFits w64 c.roster_cost-cost.result = search rules in
    record {
      legal = subst (IsLegalRoster problem) (sym (c.new.ensures ∙ items)) (all_open_legal problem);
      cost =
          to_z-of_z w64 c.roster_cost-cost.result fits ∙ c.roster_cost-cost.ensures
          ∙ ap (cost_of problem) (c.deref.ensures.value ∙ sym c.new.ensures);
    }
