use Rattle.std.proofs.Common.{◌∙◌, ap, option_map}
use Rattle.base_table.specs.Tabled.{entry_above}
use Rattle.mod_staking.specs.Places.{time_cmp, maturing_place, in_order}
use Rattle.mod_staking.proofs.staking.Staking.next_maturing.Goals as goal

pub returns-clause-validator : goal.returns-clause-validator
returns-clause-validator g c =
    let es = c.self.inside.validators in
    c.next_maturing.ensures.first
    ∙ ap (λ after. option_map (λ e. e.1) (entry_above time_cmp (in_order time_cmp (maturing_place es.power_reduction) es.entries) after)) c.as_ref.ensures.value
    ∙ ap (λ r. option_map (λ e. e.1) (entry_above time_cmp (in_order time_cmp (maturing_place r.power_reduction) r.staked.validators) c.args.after)) c.self.view_is
