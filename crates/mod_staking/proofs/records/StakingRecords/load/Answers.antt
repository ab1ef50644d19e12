use Rattle.std.proofs.Common.{refl, ap, subst}
use Rattle.base_roles.specs.Items.{HasRoom}
use Rattle.base_records.proofs.KindLemmas.{added-at}
use Rattle.mod_staking.specs.Items.{items_of}
use Rattle.mod_staking.proofs.ItemLemmas.{validator-added, delegation-added, found_fit, room_none}
use Rattle.mod_staking.proofs.records.StakingRecords.load.Goals as goal

pub add-requires : goal.add-requires
add-requires g c = record { new = room_none c.args.self.now.staked c.in-Validator.validator c.known.ensures.operators (subst (HasRoom (items_of c.args.self.now.staked)) c.in-Validator.is c.requires.room) }

pub returns-in_ok-add-in-Validator-clause-added : goal.returns-in_ok-add-in-Validator-clause-added
returns-in_ok-add-in-Validator-clause-added g c = λ _.
    added-at items_of c.args.self.now.staked _ c.args.self.now.staked c.add.new.self.staked _ c.args.item.now
    (validator-added c.args.self.now.staked c.in-Validator.validator (found_fit c.args.self.now.staked c.known.ensures.validators c.known.ensures.operators) c.known.ensures.validators)
    refl (ap (λ r. r.staked) c.in_ok-add-in-Validator.ensures.ok) c.in-Validator.is

pub returns-in_ok-put_shares-in-Delegation-clause-added : goal.returns-in_ok-put_shares-in-Delegation-clause-added
returns-in_ok-put_shares-in-Delegation-clause-added g c = λ _.
    added-at items_of c.args.self.now.staked _ c.args.self.now.staked c.put_shares.new.self.staked _ c.args.item.now
    (delegation-added c.args.self.now.staked c.in-Delegation.delegator c.in-Delegation.operator c.in-Delegation.shares (found_fit c.args.self.now.staked c.known.ensures.validators c.known.ensures.operators) c.known.ensures.delegations)
    refl (ap (λ r. r.staked) c.in_ok-put_shares-in-Delegation.ensures.ok) c.in-Delegation.is
