-- Which of two rosters is kept.
use Rattle.std.specs.Prelude.{◌≡◌, ◌⊎◌, if◌then◌else◌, true}
use Rattle.roster_model.specs.Rosters.{Key, key_le}

-- the earlier of two keys: the first if they are equal
abbrev pub less_of : Key → Key → Key
less_of old new = if key_le old new then old else new

-- one of two keys that is after neither
pub record IsEarlierOf (a b key : Key) : Type 0 where
  pub first : key_le key a ≡ true
  pub second : key_le key b ≡ true
  pub one : (key ≡ a) ⊎ (key ≡ b)
