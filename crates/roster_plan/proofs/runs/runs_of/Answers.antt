use Rattle.std.proofs.Common.{◌≡◌, ℕ, List, ◌++◌, take, drop, length, sym, subst, ap, ◌∙◌}
use Rattle.std.proofs.Math.Seq.{take-append_seam}
use Rattle.roster_plan.specs.declared.runs.Run.{Run}
use Rattle.roster_plan.specs.Runs.{AreDone}
use Rattle.roster_plan.proofs.runs.runs_of.Goals as goal

-- where all runs are written, nothing is left of the old ones
written : (count : ℕ) (old new : List Run) → count ≡ length old → length new ≡ length old
    → take count (new ++ drop (length new) old) ≡ new
written count old new all same =
    ap (λ n. take n (new ++ drop (length new) old)) (all ∙ sym same)
    ∙ take-append_seam new (drop (length new) old)

pub returns : goal.returns
returns g c =
    let runs = c.run_all.new.runs in
    let vec = c.in_ok-runs.runs in
    subst (AreDone c.args.problem.now)
    (sym (written vec.len vec.items runs vec.ok.0 (c.run_all.auto.runs ∙ ap length c.deref_mut.ensures.value)))
    c.run_all.ensures
