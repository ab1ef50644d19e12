use Rattle.std.proofs.Common.{◌∙◌, ap, length}
use Rattle.base_roles.specs.{declared.entities.UnbondingEntry.UnbondingEntry, Orders.pair_cmp}
use Rattle.mod_entries.specs.{Kept.Kept, Lists.list_at}
use Rattle.mod_unbonding.specs.Walked.{Key}
use Rattle.mod_unbonding.proofs.unbondings.Unbondings.count.Goals as goal

pub returns : goal.returns
returns g c = c.count.ensures.value ∙ ap (λ (k : Kept Key UnbondingEntry). length (list_at pair_cmp k.lists c.args.key.now)) c.self.view_is
