use Rattle.std.proofs.Common.{◌∙◌, ap, option_map}
use Rattle.base_table.specs.Tabled.{entry_above}
use Rattle.mod_staking.specs.Places.{standing, standing_cmp, power_place, in_order}
use Rattle.mod_staking.proofs.staking.Staking.next_by_power.Goals as goal

pub returns-clause-validator : goal.returns-clause-validator
returns-clause-validator g c =
    let es = c.self.inside.validators in
    c.next_by_power.ensures.first
    ∙ ap (λ after. option_map (λ e. e.1) (entry_above standing_cmp (in_order standing_cmp (power_place es.power_reduction) es.entries) after)) (c.as_ref.ensures.value ∙ c.standing_of.ensures)
    ∙ ap (λ r. option_map (λ e. e.1) (entry_above standing_cmp (in_order standing_cmp (power_place r.power_reduction) r.staked.validators) (option_map standing c.args.after))) c.self.view_is
