use Rattle.std.proofs.Common.{refl, arith}
use Rattle.std.proofs.lemmas.Bool.Decides.{nat_tests}
use Rattle.base_roles.proofs.HoldingLemmas.{short-none}
use Rattle.base_roles_example.proofs.trials.EmptyBankBank.send.Goals as goal

pub returns-else-len-eq0-clause-sends : goal.returns-else-len-eq0-clause-sends
returns-else-len-eq0-clause-sends g c = (short-none c.args._from.now c.args.coins.now c.len.ensures.money (grind (arith, nat_tests, c.if-len-eq0.false, c.len.ensures.len)), refl, refl)
