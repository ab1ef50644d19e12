use Rattle.std.proofs.Common.{◌∙◌, sym, ap, subst}
use Rattle.base_roles.specs.World.{View}
use Rattle.chain_modules.specs.Kept.{StandsFor}
use Rattle.chain_whole.{specs.Chained.Listened, proofs.ChainLemmas.backed}
use Rattle.chain_whole.proofs.chain.Chain.supply.Goals as goal

pub supply_of-requires-clause-backed : goal.supply_of-requires-clause-backed
supply_of-requires-clause-backed g c = backed c.self.inside.modules c.self.invariant.0

pub returns-clause-coins : goal.returns-clause-coins
returns-clause-coins g c = λ p s.
    c.in_ok-supply_of.ensures ∙ ap (λ (v : View). v.bank.supplies) (sym (subst (λ (t : Listened _). StandsFor t.kept p) (sym c.self.view_is) s).keeps.view)
