use Rattle.std.proofs.Common.{ap, ◌==◌}
use Rattle.std.proofs.lemmas.Nat.Bits.{shr_and_one}
use Rattle.mod_signing.proofs.bits.is_set.Goals as goal

pub returns : goal.returns
returns c = ap (λ n. n == 1) (shr_and_one c.args.row c.args.place)
