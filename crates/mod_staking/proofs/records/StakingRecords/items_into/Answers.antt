use Rattle.base_records.proofs.KindLemmas.{once-at, listed-at}
use Rattle.mod_staking.{specs.Items.items_of, proofs.ItemLemmas.kinds-apart}
use Rattle.mod_staking.proofs.records.StakingRecords.items_into.Goals as goal

pub items_into-requires : goal.items_into-requires
items_into-requires g c = record { told = ((c.kinds.ensures.keyed, c.kinds.ensures.keyed_then), (λ k v m. tt, λ k v m. tt), kinds-apart) }

pub returns-clause-once : goal.returns-clause-once
returns-clause-once g c = once-at items_of c.items_into.result _ c.args.self.now.staked c.kinds.ensures.held c.items_into.ensures.once

pub returns-clause-items : goal.returns-clause-items
returns-clause-items g c = listed-at items_of c.items_into.result _ c.args.self.now.staked c.kinds.ensures.held c.args.out.now.items c.items_into.new.out.items c.items_into.ensures.items
