use Rattle.std.proofs.Common.{refl, ◌≡◌, Err, rules}
use Rattle.line_json.{specs.Params.params_of, proofs.ReadingLemmas.fault_given}
use Rattle.line_json.proofs.params_reading.ParamsFromTree.from_tree.Goals as goal

pub returns-in_err-only_named : goal.returns-in_err-only_named
unfolding params_of
returns-in_err-only_named g c =
    let given : c.from_residual-in_err-only_named.result ≡ Err c.in_err-only_named.field-0.0 = search rules in
    rw (← c.in_ok-bond_denom.ensures, ← c.in_ok-power_reduction.ensures, ← c.in_ok-unbonding_time.ensures, ← c.in_ok-max_validators.ensures, ← c.in_ok-max_entries.ensures, ← c.in_ok-min_commission_rate.ensures, ← c.in_ok-community_tax.ensures, ← c.in_ok-withdraw_addr_enabled.ensures, ← c.in_ok-signed_blocks_window.ensures, ← c.in_ok-min_signed_per_window.ensures, ← c.in_ok-downtime_jail_duration.ensures, ← c.in_ok-slash_fraction_double_sign.ensures, ← c.in_ok-slash_fraction_downtime.ensures, ← c.in_ok-max_age_duration.ensures, ← c.in_ok-max_age_num_blocks.ensures, ← c.in_ok-authority.ensures, ← c.in_err-only_named.ensures) (fault_given (λ params. params) _ _ given)

pub returns : goal.returns
unfolding params_of
returns g c = rw (← c.in_ok-bond_denom.ensures, ← c.in_ok-power_reduction.ensures, ← c.in_ok-unbonding_time.ensures, ← c.in_ok-max_validators.ensures, ← c.in_ok-max_entries.ensures, ← c.in_ok-min_commission_rate.ensures, ← c.in_ok-community_tax.ensures, ← c.in_ok-withdraw_addr_enabled.ensures, ← c.in_ok-signed_blocks_window.ensures, ← c.in_ok-min_signed_per_window.ensures, ← c.in_ok-downtime_jail_duration.ensures, ← c.in_ok-slash_fraction_double_sign.ensures, ← c.in_ok-slash_fraction_downtime.ensures, ← c.in_ok-max_age_duration.ensures, ← c.in_ok-max_age_num_blocks.ensures, ← c.in_ok-authority.ensures, ← c.in_ok-only_named.ensures) refl
