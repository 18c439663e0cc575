-- How a count grows.
use Rattle.std.proofs.lemmas.List.Sums.{count_by_more_no, count_by_more_yes}

pub ruleset counting = (count_by_more_no, count_by_more_yes)
