use Rattle.std.proofs.Common.{◌∙◌, ap, option_map, option_copied}
use Rattle.base_types.specs.Orders.{addr_cmp}
use Rattle.base_table.specs.Tabled.{entry_above}
use Rattle.mod_staking.proofs.staking.Staking.next_validator.Goals as goal

pub returns-clause-validator : goal.returns-clause-validator
returns-clause-validator g c =
    c.next.ensures.above
    ∙ ap (λ r. option_map (λ e. e.1) (entry_above addr_cmp r.staked.validators (option_copied c.args.after))) c.self.view_is
