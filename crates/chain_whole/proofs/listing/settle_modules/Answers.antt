use Rattle.std.proofs.Common.{◌∙◌, sym, subst}
use Rattle.mod_distribution.specs.Items.{AreInOrder}
use Rattle.chain_modules.specs.Kept.{Parts}
use Rattle.chain_blocks.proofs.ApplyLemmas.{rest_same}
use Rattle.chain_whole.proofs.listing.settle_modules.Goals as goal

pub settle-requires : goal.settle-requires
settle-requires g c = record { unmarked = c.requires.rest.unmarked }

pub returns-clause-rest : goal.returns-clause-rest
returns-clause-rest g c = rest_same c.args.modules.now c.settle.new.self c.requires.rest c.settle.ensures.same (c.settle.ensures.unmarked ∙ sym c.requires.rest.unmarked) c.settle.ensures.power

pub returns-clause-order : goal.returns-clause-order
returns-clause-order g c = subst (λ (p : Parts). AreInOrder p.shared) (sym c.settle.ensures.settled) c.ordered.ensures
