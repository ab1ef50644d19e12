use Rattle.std.proofs.Common.{◌∙◌, ap}
use Rattle.base_roles.specs.{declared.entities.UnbondingEntry.UnbondingEntry, Entries.at, Orders.pair_cmp}
use Rattle.mod_entries.specs.Kept.{Kept}
use Rattle.mod_unbonding.specs.Walked.{Key}
use Rattle.mod_unbonding.proofs.unbondings.Unbondings.at.Goals as goal

pub returns-clause-value : goal.returns-clause-value
returns-clause-value g c = c.at.ensures.value ∙ ap (λ (k : Kept Key UnbondingEntry). at pair_cmp k.lists c.args.key.now) c.self.view_is
