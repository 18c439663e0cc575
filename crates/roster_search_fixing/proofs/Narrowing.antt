-- One step of narrowing after another.
use Rattle.std.proofs.Common.{ℕ, List, ◌∙◌, arith}
use Rattle.roster_model.specs.Problem.{Problem}
use Rattle.roster_search_regions.specs.Regions.{IsIn, IsNarrowed, Region}
use Rattle.roster_search_fixing.specs.Propagation.{Anything}

pub narrowed_then : (problem : Problem) (Kept : List ℕ → Type 0) (a b c : Region)
    → IsNarrowed problem Kept a b → IsNarrowed problem Kept b c → IsNarrowed problem Kept a c
narrowed_then problem Kept a b c first second = record {
  region = second.region;
  inside = λ places there. first.inside places (second.inside places there);
  kept = λ places there keeps. second.kept places (first.kept places there keeps) keeps;
  size = omega (arith, first.size, second.size);
  scale = second.scale ∙ first.scale;
}

-- if none is lost, those that meet a condition aren't either
pub narrowed_by_less : (problem : Problem) (Kept : List ℕ → Type 0) (a b : Region)
    → IsNarrowed problem Anything a b → IsNarrowed problem Kept a b
narrowed_by_less problem Kept a b step = record {
  region = step.region;
  inside = step.inside;
  kept = λ places there _. step.kept places there tt;
  size = step.size;
  scale = step.scale;
}

-- if those that meet a condition meet the other
pub narrowed_by_more : (problem : Problem) (Kept Other : List ℕ → Type 0) (a b : Region)
    → IsNarrowed problem Kept a b → ((places : List ℕ) → IsIn problem a places → Other places → Kept places)
    → IsNarrowed problem Other a b
narrowed_by_more problem Kept Other a b step all = record {
  region = step.region;
  inside = step.inside;
  kept = λ places there other. step.kept places there (all places there other);
  size = step.size;
  scale = step.scale;
}
