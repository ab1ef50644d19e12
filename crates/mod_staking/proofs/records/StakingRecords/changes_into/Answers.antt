use Rattle.base_records.proofs.KindLemmas.{changed-at}
use Rattle.mod_staking.{specs.Items.items_of, proofs.ItemLemmas.kinds-apart}
use Rattle.mod_staking.proofs.records.StakingRecords.changes_into.Goals as goal

pub changes_into-requires : goal.changes_into-requires
changes_into-requires g c = record { told = ((c.kinds.ensures.keyed, c.kinds.ensures.keyed_then), (λ k v m. tt, λ k v m. tt), kinds-apart) }

pub returns-clause-changes : goal.returns-clause-changes
returns-clause-changes g c =
    changed-at items_of c.changes_into.result _ c.args.self.now.staked c.kinds.ensures.held _ c.args.self.now.settled c.kinds.ensures.settled
    c.args.out.now.items c.changes_into.new.out.items c.changes_into.ensures.changes
