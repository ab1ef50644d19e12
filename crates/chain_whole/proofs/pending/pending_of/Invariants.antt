use Rattle.std.proofs.Common.{◌≡◌, take, flat_map}
use Rattle.rule_modules.specs.Chain.{State}
use Rattle.chain_modules.specs.Kept.{StandsFor, kept_of}
use Rattle.chain_whole.specs.Pending.{pending_of_item}
use Rattle.chain_whole.proofs.pending.pending_of.Given as goal

abbrev pub invariant-loop-item : goal.invariant-loop-item
invariant-loop-item g l = (p : State) → StandsFor (kept_of l.modules) p → l.list.items ≡ flat_map (pending_of_item p) (take l.item-index l.item-items)
