use Rattle.std.proofs.Common.{sym, subst}
use Rattle.base_records.specs.Items.{AnyValue, IsRowed}
use Rattle.mod_redelegation.specs.Items.{redelegation_item, redelegation_gone, redelegation_entry, same_entries}
use Rattle.mod_redelegation.proofs.{ItemLemmas.redelegation-rowed, OrderLemmas.triple_order_is}
use Rattle.mod_redelegation.proofs.items.RedelegationKindAsItem.told.Goals as goal

pub returns : goal.returns
returns c = subst (λ order. IsRowed order AnyValue redelegation_item redelegation_gone same_entries redelegation_entry) (sym triple_order_is) redelegation-rowed
