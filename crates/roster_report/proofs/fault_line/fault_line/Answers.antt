use Rattle.std.proofs.Common.{append_assoc, ◌∙◌}
use Rattle.std.proofs.lemmas.Result.{IfOk-weaker}
use Rattle.roster_model.specs.Texts.{fault_text}
use Rattle.roster_report.proofs.fault_line.fault_line.Goals as goal

pub returns : goal.returns
unfolding fault_text
returns c = IfOk-weaker c.format.result _ _ (λ s h. h ∙ simp append_assoc) c.format.ensures.ok
