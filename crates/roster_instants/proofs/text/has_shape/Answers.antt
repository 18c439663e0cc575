use Rattle.std.proofs.Common.{rules, tests, ◌∙◌, ℕ}
use Rattle.std.proofs.lemmas.Iterator.{YieldsList-from_slice, YieldsList-from_zip}
use Rattle.std.proofs.lemmas.Iterator.Search.{all_from_yields_List}
use Rattle.roster_model.specs.Form.{fits_shape}
use Rattle.roster_instants.proofs.TextLemmas.{pointwise-zip}
use Rattle.roster_instants.proofs.text.has_shape.Goals as goal

pub returns-then-shape-text-clause-value : goal.returns-then-shape-text-clause-value
returns-then-shape-text-clause-value c =
    all_from_yields_List (λ (p : ℕ × ℕ). fits_shape p.0 p.1) c.all.new.self _ _ c.all.ensures.ran
    (YieldsList-from_zip (YieldsList-from_slice c.args.shape.now cc) (YieldsList-from_slice c.args.text.now cc)) (λ x b q k. search (rules, tests))
    ∙ pointwise-zip fits_shape _ _ c.if-shape-text.true
