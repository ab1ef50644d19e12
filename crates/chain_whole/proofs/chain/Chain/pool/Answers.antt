use Rattle.std.proofs.Common.{◌∙◌, sym, ap, subst}
use Rattle.rule_modules.specs.Purses.{Purses}
use Rattle.chain_modules.specs.Kept.{StandsFor}
use Rattle.chain_whole.specs.Chained.{Listened}
use Rattle.chain_whole.proofs.chain.Chain.pool.Goals as goal

pub returns-clause-coins : goal.returns-clause-coins
returns-clause-coins g c = λ p s.
    c.in_ok-pool_of.ensures ∙ ap (λ (q : Purses). q.pool) (subst (λ (t : Listened _). StandsFor t.kept p) (sym c.self.view_is) s).keeps.shared.purses
