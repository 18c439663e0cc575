use Rattle.std.proofs.Common.{◌≡◌, ◌+◌, vec_len}
use Rattle.roster_combine_workers.proofs.crew.jobs_of.Given as goal

-- each share has its job, or is left
abbrev pub invariant-loop-share : goal.invariant-loop-share
invariant-loop-share g l = vec_len l.jobs + vec_len l.shares ≡ vec_len l.fn.shares

abbrev pub decreases-loop-share : goal.decreases-loop-share
decreases-loop-share g l = vec_len l.shares
