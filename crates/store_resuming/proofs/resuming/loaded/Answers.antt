use Rattle.std.proofs.Common.{sym, subst}
use Rattle.store_records.specs.Plain.{seen}
use Rattle.store_resuming.{specs.Resumed.IsResumed, proofs.ResumeLemmas.{at_rest, is_resumed, least, most}}
use Rattle.store_resuming.proofs.resuming.loaded.Goals as goal

pub modules_of-requires-clause-least : goal.modules_of-requires-clause-least
modules_of-requires-clause-least c = least (seen c.args.records) c.requires.ascending c.requires.coins c.requires.memory c.requires.sound

pub modules_of-requires-clause-most : goal.modules_of-requires-clause-most
modules_of-requires-clause-most c = most (seen c.args.records) c.requires.ascending c.requires.coins c.requires.memory c.requires.sound

pub over-requires-clause-rest : goal.over-requires-clause-rest
over-requires-clause-rest c = at_rest (seen c.args.records) c.requires.ascending c.requires.coins c.requires.memory c.requires.sound c.in_ok-modules.modules c.in_ok-modules.ensures

pub over-requires-clause-order : goal.over-requires-clause-order
over-requires-clause-order c = c.in_ok-modules.ensures.order

pub returns-clause-chain : goal.returns-clause-chain
returns-clause-chain c = subst (IsResumed (seen c.args.records)) (sym c.over.ensures) (is_resumed (seen c.args.records) c.in_ok-modules.modules c.in_ok-modules.ensures)
