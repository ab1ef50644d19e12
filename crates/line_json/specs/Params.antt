-- The parameters of a chain.
use Rattle.std.specs.Prelude.{List, [], ◌∷◌, codes, ℕ, Result, Ok}
use Rattle.serde_json.specs.Data.{Data}
use Rattle.base_bech32.specs.declared.form.Form.{Form}
use Rattle.base_coins.specs.Steps.{◌>>=◌}
use Rattle.base_roles.specs.declared.params.Params.{Params}
use Rattle.base_messages.specs.declared.faults.LineFault.{LineFault}
use Rattle.line_json.specs.Members.{denom_at, number_at, decimal_at, flag_at, user_at, only_named}

-- the names of the parameters
abbrev pub params_names : List (List ℕ)
params_names =
    codes "bond_denom" ∷ codes "power_reduction" ∷ codes "unbonding_time" ∷ codes "max_validators" ∷ codes "max_entries"
    ∷ codes "min_commission_rate" ∷ codes "community_tax" ∷ codes "withdraw_addr_enabled" ∷ codes "signed_blocks_window"
    ∷ codes "min_signed_per_window" ∷ codes "downtime_jail_duration" ∷ codes "slash_fraction_double_sign"
    ∷ codes "slash_fraction_downtime" ∷ codes "max_age_duration" ∷ codes "max_age_num_blocks" ∷ codes "authority" ∷ []

-- the parameters, of any size
unfoldable pub params_of : Form → Data → Result Params LineFault
params_of f d = do
  bond_denom ← denom_at 10 (codes "bond_denom") d
  power_reduction ← number_at 11 (codes "power_reduction") d
  unbonding_time ← number_at 12 (codes "unbonding_time") d
  max_validators ← number_at 13 (codes "max_validators") d
  max_entries ← number_at 14 (codes "max_entries") d
  min_commission_rate ← decimal_at 15 (codes "min_commission_rate") d
  community_tax ← decimal_at 16 (codes "community_tax") d
  withdraw_addr_enabled ← flag_at 17 (codes "withdraw_addr_enabled") d
  signed_blocks_window ← number_at 18 (codes "signed_blocks_window") d
  min_signed_per_window ← decimal_at 19 (codes "min_signed_per_window") d
  downtime_jail_duration ← number_at 20 (codes "downtime_jail_duration") d
  slash_fraction_double_sign ← decimal_at 21 (codes "slash_fraction_double_sign") d
  slash_fraction_downtime ← decimal_at 22 (codes "slash_fraction_downtime") d
  max_age_duration ← number_at 23 (codes "max_age_duration") d
  max_age_num_blocks ← number_at 24 (codes "max_age_num_blocks") d
  authority ← user_at f 25 (codes "authority") d
  only ← only_named params_names d
  Ok (record {
    bond_denom = bond_denom;
    power_reduction = power_reduction;
    unbonding_time = unbonding_time;
    max_validators = max_validators;
    max_entries = max_entries;
    min_commission_rate = min_commission_rate;
    community_tax = community_tax;
    withdraw_addr_enabled = withdraw_addr_enabled;
    signed_blocks_window = signed_blocks_window;
    min_signed_per_window = min_signed_per_window;
    downtime_jail_duration = downtime_jail_duration;
    slash_fraction_double_sign = slash_fraction_double_sign;
    slash_fraction_downtime = slash_fraction_downtime;
    max_age_duration = max_age_duration;
    max_age_num_blocks = max_age_num_blocks;
    authority = authority;
  })
