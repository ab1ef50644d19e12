use Rattle.std.proofs.Common.{sym}
use Rattle.chain_whole.proofs.AskingLemmas.{given_none}
use Rattle.chain_whole.proofs.pending.none_if_over.Goals as goal

pub returns-in-Over : goal.returns-in-Over
returns-in-Over c = λ due h. sym (given_none due c.args.fault _ c.in-Over.is h)
