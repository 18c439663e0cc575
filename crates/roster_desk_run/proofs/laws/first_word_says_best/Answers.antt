use Rattle.roster_desk_run.proofs.FirstWord.{says_best, says_best_so_far}
use Rattle.roster_desk_run.proofs.laws.first_word_says_best.Goals as goal

pub returns-clause-answer : goal.returns-clause-answer
returns-clause-answer c = says_best

pub returns-clause-kept : goal.returns-clause-kept
returns-clause-kept c = says_best_so_far
