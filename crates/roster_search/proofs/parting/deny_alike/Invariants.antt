use Rattle.std.proofs.Common.{◌<◌}
use Rattle.roster_search_regions.specs.declared.split.Split.TheVariants.{Holder}
use Rattle.roster_search_regions.specs.Regions.{size_of}
use Rattle.roster_search.specs.Branches.{IsOtherSide}
use Rattle.roster_search.proofs.parting.deny_alike.Given as goal

-- those so far who are like the person are denied the pairing
abbrev pub invariant-loop-j : goal.invariant-loop-j
invariant-loop-j l = record {
  other : IsOtherSide l.problem (Holder l.k l.p) l.fn.region l.region;
  fewer : size_of l.region < size_of l.fn.region;
}
