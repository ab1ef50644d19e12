use Rattle.std.proofs.Common.{◌≡◌}
use Rattle.store_soundness.specs.{Accounts.others_of, Tally.summed}
use Rattle.store_soundness.proofs.stakes.other_tokens.Given as goal

abbrev pub invariant-loop-validator : goal.invariant-loop-validator
invariant-loop-validator l = summed (λ e. others_of e.1) l.validator-iterator l.total ≡ summed (λ e. others_of e.1) l.validators.entries 0
