use Rattle.std.proofs.Common.{ap}
use Rattle.chain_whole.specs.Chained.{Listened}
use Rattle.chain_whole.proofs.chain.Chain.extra.Goals as goal

pub returns : goal.returns
returns g c = ap (λ (x : Listened _). x.listener) c.self.view_is
