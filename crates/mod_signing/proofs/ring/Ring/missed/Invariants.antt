use Rattle.std.proofs.Common.{◌≡◌, take}
use Rattle.rule_modules.specs.Amounts.{count_where}
use Rattle.mod_signing.proofs.ring.Ring.missed.Given as goal

abbrev pub invariant-loop-place : goal.invariant-loop-place
invariant-loop-place g l = l.missed ≡ count_where (λ x. x) (take l.place l.self)
