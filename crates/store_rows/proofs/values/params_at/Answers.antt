use Rattle.std.proofs.Common.{refl}
use Rattle.store_rows.specs.Reading.{params_at}
use Rattle.store_rows.proofs.values.params_at.Goals as goal

pub returns : goal.returns
unfolding params_at
returns c = rw (c.in_ok-bond_denom.ensures, c.in_ok-power_reduction.ensures, c.in_ok-unbonding_time.ensures, c.in_ok-max_validators.ensures, c.in_ok-max_entries.ensures, c.in_ok-min_commission_rate.ensures, c.in_ok-community_tax.ensures, c.in_ok-withdraw_addr_enabled.ensures, c.in_ok-signed_blocks_window.ensures, c.in_ok-min_signed_per_window.ensures, c.in_ok-downtime_jail_duration.ensures, c.in_ok-slash_fraction_double_sign.ensures, c.in_ok-slash_fraction_downtime.ensures, c.in_ok-max_age_duration.ensures, c.in_ok-max_age_num_blocks.ensures, c.in_ok-authority.ensures) refl
