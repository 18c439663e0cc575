use Rattle.roster_desk_words.proofs.Parts.{parts_of_map}
use Rattle.roster_desk_fault.specs.Told.{IsOfWord}
use Rattle.roster_desk_fault.specs.declared.warning_text.TheConstants.{SIGNS}
use Rattle.roster_desk_fault.proofs.warning_text.warn_text.Goals as goal

pub returns : goal.returns
returns c = record {
  told = c.in_ok-told.told.items;
  parts = parts_of_map IsOfWord (λ sign. sign.1.now) SIGNS c.in_ok-told.told.items c.in_ok-told.ensures;
  all = c.in_ok-text.ensures;
}
