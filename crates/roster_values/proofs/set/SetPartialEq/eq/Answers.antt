use Rattle.std.proofs.Common.{◌∙◌}
use Rattle.roster_values.specs.Bits.{same_words}
use Rattle.roster_values.proofs.set.SetPartialEq.eq.Goals as goal

pub returns : goal.returns
returns c =
    rw (← c.self.view_is, ← c.other.view_is)
    (c.eq.ensures ∙ same_words c.self.inside.words c.other.inside.words c.self.invariant c.other.invariant)
