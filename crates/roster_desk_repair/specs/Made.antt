-- What a repair is, and a book in which a pairing breaks off.
use Rattle.std.specs.Prelude.{◌≡◌, ℕ, List, None}
use Rattle.roster_model.specs.Answer.{records_of}
use Rattle.roster_model.specs.Faults.{first_fault}
use Rattle.roster_model.specs.Problem.{Problem, problem_of}
use Rattle.roster_model.specs.Record.{Check}
use Rattle.roster_desk_repair_terms.specs.Repaired.{IsRepair, KeepsCosts, KeepsDuties}
use Rattle.roster_desk_repair_judged.specs.Broken.{IsBrokenOff}
use Rattle.roster_desk_repair_judged.specs.Terms.{fixed_of, price_at}
use Rattle.roster_desk_repair_judged.specs.declared.broken.Break.{Break}
use Rattle.roster_desk_repair_judged.specs.declared.terms.Terms.{Terms}
use Rattle.roster_desk_repair.specs.declared.breaking.BrokenBook.{BrokenBook}
use Rattle.roster_desk_repair.specs.declared.repairing.RepairedBook.{RepairedBook}

-- The text is a book without a fault, and its problem is the repair of the book that the terms ask for. Each
-- of its rosters costs what the whole one costs in the book and its moves cost, less the constant; and each
-- person has the same duties by it as by the whole one.
pub record IsMade (book : Problem) (published : List ℕ) (terms : Terms) (repair : RepairedBook) : Type 0 where
  pub faultless : first_fault Check (records_of repair.text.items) ≡ None
  pub problem : repair.problem ≡ problem_of (records_of repair.text.items)
  pub fixed : repair.fixed.items ≡ fixed_of book terms published
  pub repaired : IsRepair book published repair.fixed.items (price_at book terms) repair.problem
  pub costs : KeepsCosts book published repair.fixed.items (price_at book terms)
      repair.problem repair.constant
  pub duties : KeepsDuties book repair.fixed.items repair.problem

-- The text is a book without a fault, and its problem is the book in which the pairing breaks off.
pub record IsBroken (book : Problem) (off : Break) (made : BrokenBook) : Type 0 where
  pub faultless : first_fault Check (records_of made.text.items) ≡ None
  pub problem : made.problem ≡ problem_of (records_of made.text.items)
  pub broken : IsBrokenOff book off made.name.items made.problem
