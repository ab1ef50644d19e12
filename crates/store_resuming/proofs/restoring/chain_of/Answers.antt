use Rattle.store_resuming.proofs.RestoreLemmas.{all_listed, chain_is, of_items, unmade, unread}
use Rattle.store_resuming.proofs.restoring.chain_of.Goals as goal

pub returns-in-Err-clause-fault : goal.returns-in-Err-clause-fault
returns-in-Err-clause-fault c = rw c.not_read.ensures (unread c.args.format _ c.in-Err.fault c.in-Err.ensures.only)

pub returns-in-Ok-from_items-clause-chain : goal.returns-in-Ok-from_items-clause-chain
returns-in-Ok-from_items-clause-chain c =
    let e = c.in-Ok-from_items.ensures in
    chain_is c.items_can_be_kept.ensures.once c.args.format _ c.in-Ok.items.items c.in-Ok.ensures.found c.in-Ok.ensures.rows c.in-Ok-from_items.chain e.chain e.some e.settled

pub returns-in-Ok-from_items-clause-listed : goal.returns-in-Ok-from_items-clause-listed
returns-in-Ok-from_items-clause-listed c =
    let e = c.in-Ok-from_items.ensures in
    (c.in-Ok.items.items, all_listed c.items_can_be_kept.ensures.once c.args.format _ c.in-Ok.items.items c.in-Ok.ensures.found c.in-Ok.ensures.rows e.some.0 e.some.1)

pub not_resumed-requires : goal.not_resumed-requires
not_resumed-requires c = of_items c.in-Ok.items.items c.in-Err-from_items.fault c.in-Err-from_items.ensures.fault

pub returns-in-Err-from_items-clause-fault : goal.returns-in-Err-from_items-clause-fault
returns-in-Err-from_items-clause-fault c =
    unmade c.items_can_be_kept.ensures.once c.args.format _ c.in-Ok.items.items c.in-Ok.ensures.found c.in-Ok.ensures.rows c.in-Err-from_items.fault c.not_resumed.result c.in-Err-from_items.ensures.fault c.not_resumed.ensures
