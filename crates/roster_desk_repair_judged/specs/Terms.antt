-- What a planner says of a repair.
use Rattle.std.specs.Prelude.{ℕ, ◌+◌, if◌then◌else◌, List, Option}
use Rattle.roster_model.specs.Problem.{Problem}
use Rattle.roster_desk_repair_judged.specs.declared.terms.Terms.{Terms}
use Rattle.roster_desk_repair_terms.specs.Fixed.{fixed_from, reports_before}

-- what it costs that the pairing at place p moves: more if it reports within the notice
abbrev pub price_at : Problem → Terms → ℕ → ℕ
price_at book terms p =
    if reports_before book.duties (terms.from + terms.notice) p then terms.short else terms.change

-- what is fixed of the published roster: the pairings that report before the repair begins
abbrev pub fixed_of : Problem → Terms → List ℕ → List (Option ℕ)
fixed_of book terms published = fixed_from book.duties terms.from 0 published
