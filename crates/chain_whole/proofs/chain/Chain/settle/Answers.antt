use Rattle.std.proofs.Common.{◌∙◌, ap}
use Rattle.chain_whole.{specs.Chained.Listened, proofs.ChainLemmas.settled_then}
use Rattle.chain_whole.proofs.chain.Chain.settle.Goals as goal

pub settle_modules-requires-clause-rest : goal.settle_modules-requires-clause-rest
settle_modules-requires-clause-rest g c = c.self.invariant.0

pub returns-clause-settled : goal.returns-clause-settled
returns-clause-settled g c =
    settled_then c.self.inside.modules c.settle_modules.new.modules c.settle_modules.ensures.settled c.settle_modules.ensures.same c.self.invariant.0.no_facts ∙ ap (λ (x : Listened _). x.kept) c.self.view_is

pub returns-clause-kept : goal.returns-clause-kept
returns-clause-kept g c = c.settle_modules.ensures.same ∙ ap (λ (x : Listened _). x.kept) c.self.view_is

pub returns-clause-listener : goal.returns-clause-listener
returns-clause-listener g c = c.settle_modules.ensures.listener ∙ ap (λ (x : Listened _). x.listener) c.self.view_is
