use Rattle.store_items.proofs.{OwnKeys.keys_once, Writing.{all_written, windows_short}}
use Rattle.store_items.proofs.laws.items_can_be_kept.Goals as goal

pub returns-clause-once : goal.returns-clause-once
returns-clause-once c = keys_once

pub returns-clause-written : goal.returns-clause-written
returns-clause-written c = all_written

pub returns-clause-windows : goal.returns-clause-windows
returns-clause-windows c = windows_short
