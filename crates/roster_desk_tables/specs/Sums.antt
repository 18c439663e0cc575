-- What is counted of a person with a roster.
use Rattle.std.specs.Prelude.{◌≡◌, ℕ, List, pos}
use Rattle.roster_model.specs.declared.profile.TheConstants.{SHORT_RUN, MIDDLE_RUN, LONG_RUN}
use Rattle.roster_model.specs.Costs.{line_cost}
use Rattle.roster_model.specs.Places.{set_of}
use Rattle.roster_model.specs.Problem.{Problem, home_of}
use Rattle.roster_model.specs.Rules.{duty_list}
use Rattle.roster_model.specs.Sums.{greatest_duty, greatest_flight, month_flight}
use Rattle.roster_desk_tables.specs.declared.sums.Sums.{Sums}

-- what person k has costs so much, and these are the minutes of the person's line in a report
pub record AreSums (problem : Problem) (places : List ℕ) (k : ℕ) (sums : Sums) : Type 0 where
  pub cost : sums.cost ≡ line_cost problem k (set_of k places)
  pub flight : sums.flight ≡ pos (month_flight (home_of problem k).days (duty_list problem k (set_of k places)))
  pub duty7 : sums.duty7 ≡ pos (greatest_duty (home_of problem k).days (duty_list problem k (set_of k places)) SHORT_RUN)
  pub duty14 : sums.duty14
      ≡ pos (greatest_duty (home_of problem k).days (duty_list problem k (set_of k places)) MIDDLE_RUN)
  pub duty28 : sums.duty28 ≡ pos (greatest_duty (home_of problem k).days (duty_list problem k (set_of k places)) LONG_RUN)
  pub flight28 : sums.flight28
      ≡ pos (greatest_flight (home_of problem k).days (duty_list problem k (set_of k places)) LONG_RUN)
