use Rattle.std.proofs.Common.{rules, nat_eq, not, length}
use Rattle.std.proofs.lemmas.Iterator.Consumers.{YieldsList-at, YieldsList-from_filter, map_from_collect}
use Rattle.std.proofs.lemmas.Iterator.Splits.{YieldsList-from_slice_split}
use Rattle.std.specs.Char.{is_ascii_whitespace}
use Rattle.roster_desk_reports.proofs.words.words_of.Goals as goal
use borrow.Author.Tests.{tests}

pub returns : goal.returns
returns c =
    map_from_collect _ c.collect.ensures.ran
    (YieldsList-from_filter _ (λ word. not (nat_eq (length word) 0))
    (YieldsList-at c.filter.ensures.source
    (YieldsList-from_slice_split _ is_ascii_whitespace c.args.line.now c.split.ensures.rest c.split.ensures.done c.split.ensures.closure (λ x b q k. search (rules, tests))))
    c.filter.ensures.closure (λ x b q k. search (rules, tests)))
