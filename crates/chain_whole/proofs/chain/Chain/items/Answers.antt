use Rattle.std.proofs.Common.{◌∙◌, sym, subst}
use Rattle.chain_modules.specs.Kept.{StandsFor, kept_of}
use Rattle.chain_whole.{specs.Chained.Listened, proofs.{ChainLemmas.in_key_order, ItemLemmas.items_are_kept}}
use Rattle.chain_whole.proofs.chain.Chain.items.Goals as goal

pub returns-clause-items : goal.returns-clause-items
returns-clause-items g c = λ p s.
    c.in_ok-items_of.ensures.items ∙ items_are_kept (kept_of c.self.inside.modules) p c.items_of.ensures.order (subst (λ (t : Listened _). StandsFor t.kept p) (sym c.self.view_is) s)

pub returns-clause-order : goal.returns-clause-order
returns-clause-order g c = λ p s. in_key_order c.args.self.now.kept p s
