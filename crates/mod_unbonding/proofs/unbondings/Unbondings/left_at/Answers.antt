use Rattle.std.proofs.Common.{◌≡◌, subst, IfOk}
use Rattle.base_roles.specs.{declared.entities.UnbondingEntry.UnbondingEntry, Orders.pair_cmp}
use Rattle.rule_modules.specs.EntrySlashes.{unbonding_made}
use Rattle.mod_entries.specs.{Kept.Kept, Lists.{list_at, unmatured}}
use Rattle.mod_unbonding.specs.Walked.{Key}
use Rattle.mod_unbonding.proofs.unbondings.Unbondings.left_at.Goals as goal

pub returns-clause-left : goal.returns-clause-left
returns-clause-left g c =
    subst (λ (k : Kept Key UnbondingEntry). IfOk c.unmatured_at.result (λ list. list ≡ unmatured unbonding_made c.args.now (list_at pair_cmp k.lists c.args.key.now))) c.self.view_is c.unmatured_at.ensures.left
