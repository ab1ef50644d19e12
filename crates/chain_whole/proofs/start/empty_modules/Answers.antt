use Rattle.std.proofs.Common.{ap, refl}
use Rattle.mod_bank.specs.Booked.{Booked}
use Rattle.rule_machine.proofs.StartLemmas.{start_in_order}
use Rattle.chain_whole.proofs.EmptyLemmas.{is_empty, new_marks}
use Rattle.chain_whole.proofs.start.empty_modules.Goals as goal

pub over-requires-clause-some : goal.over-requires-clause-some
over-requires-clause-some g c = (start_in_order c.args.genesis.now c.requires.starts).params.power_reduction

pub over-requires-clause-most : goal.over-requires-clause-most
over-requires-clause-most g c = (start_in_order c.args.genesis.now c.requires.starts).params.power_reduction_most

pub returns-clause-empty : goal.returns-clause-empty
returns-clause-empty g c = is_empty c.args.genesis.now _ c.over.result c.over.ensures.empty (ap (λ (b : Booked). b.holdings) c.in_ok-bank.ensures.book) refl c.new.ensures c.requires.starts

pub returns-clause-unmarked : goal.returns-clause-unmarked
returns-clause-unmarked g c = new_marks c.args.genesis.now _ c.over.result c.over.ensures.empty (ap (λ (b : Booked). b.marks) c.in_ok-bank.ensures.book)
