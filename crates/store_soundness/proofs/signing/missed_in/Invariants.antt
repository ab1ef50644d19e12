use Rattle.std.proofs.Common.{◌≡◌, ◌+◌, ◌≤◌, drop}
use Rattle.rule_modules.specs.Amounts.{count_where}
use Rattle.store_soundness.proofs.signing.missed_in.Given as goal

abbrev pub invariant-loop-missed : goal.invariant-loop-missed
invariant-loop-missed l = (l.count ≤ l.missed-index) × (l.count + count_where (λ missed. missed) (drop l.missed-index l.ring) ≡ count_where (λ missed. missed) l.ring)
