use Rattle.std.proofs.Common.{◌≡◌, ℕ, ◌<◌}
use Rattle.mod_signing.specs.Rings.{is_set}
use Rattle.mod_signing.proofs.bits.agree.Given as goal

abbrev pub invariant-loop-place : goal.invariant-loop-place
invariant-loop-place l = (place : ℕ) → place < l.place → is_set l.row place ≡ is_set l.other place
