use Rattle.std.proofs.Common.{rules, length, nat_eq, not}
use Rattle.std.proofs.lemmas.Iterator.Search.{all_from_yields_List}
use Rattle.std.proofs.lemmas.Iterator.Splits.{YieldsList-from_slice_split}
use Rattle.roster_desk_times.proofs.zones.has_no_empty_part.Goals as goal
use borrow.Author.Tests.{tests}

pub returns : goal.returns
returns c =
    all_from_yields_List (λ part. not (nat_eq (length part) 0)) c.all.new.self _ _ c.all.ensures.ran
    (YieldsList-from_slice_split _ (λ byte. nat_eq byte 47) c.args.text.now c.split.ensures.rest c.split.ensures.done c.split.ensures.closure (λ x b q k. search (rules, tests)))
    (λ x b q k. search (rules, tests))
