use Rattle.std.proofs.Common.{sym, ◌∙◌, arith}
use Rattle.roster_search_fixing.proofs.Decisions.{number_of_nobody, number_of_owner}
use Rattle.roster_search_fixing.proofs.deciding.number_of.Goals as goal

pub overflow_cast-result : goal.overflow_cast-result
overflow_cast-result c = omega (arith, c.in-Some.ensures.person, c.is_sound.ensures.sound.persons)

pub returns-in-Some : goal.returns-in-Some
returns-in-Some c =
    number_of_owner c.args.problem.now c.args.region.now c.in-Some.k c.args.p c.in-Some.ensures.all

pub returns-in-None : goal.returns-in-None
returns-in-None c places there =
    number_of_nobody c.args.problem.now c.args.region.now c.args.p c.requires.region c.requires.decided c.requires.pairing c.in-None.ensures.none places there ∙ sym c.open_number.ensures.value
