use Rattle.std.proofs.Common.{sym, subst}
use Rattle.chain_modules.specs.Kept.{StandsFor}
use Rattle.chain_whole.specs.Chained.{Listened}
use Rattle.chain_whole.proofs.chain.Chain.validator.Goals as goal

pub returns : goal.returns
returns g c = λ p s. c.validator_of.ensures p (subst (λ (t : Listened _). StandsFor t.kept p) (sym c.self.view_is) s)
