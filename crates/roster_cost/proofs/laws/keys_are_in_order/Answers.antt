use Rattle.roster_model.proofs.KeyLemmas.{key_le-one, key_le-refl, key_le-total, key_le-trans}
use Rattle.roster_cost.proofs.laws.keys_are_in_order.Goals as goal

pub returns : goal.returns
returns c = record {
  reflexive = key_le-refl;
  transitive = key_le-trans;
  antisymmetric = key_le-one;
  total = key_le-total;
}
