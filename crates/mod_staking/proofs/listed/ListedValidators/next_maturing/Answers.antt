use Rattle.std.proofs.Common.{◌∙◌, ap, option_map, option_copied}
use Rattle.base_table.specs.Tabled.{entry_above}
use Rattle.mod_staking.specs.Places.{time_cmp, maturing_place, in_order}
use Rattle.mod_staking.proofs.listed.ListedValidators.next_maturing.Goals as goal

pub returns-clause-first : goal.returns-clause-first
returns-clause-first g c =
    c.first_behind.ensures.first
    ∙ ap (λ l. option_map (λ e. e.1) (entry_above time_cmp (in_order time_cmp (maturing_place l.power_reduction) l.entries) (option_copied c.args.after))) c.self.view_is
