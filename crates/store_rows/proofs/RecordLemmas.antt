-- Records are read as they are spelled, field by field.
use Rattle.std.proofs.Common.{◌≡◌, ℕ, List, [], ◌∷◌, ◌++◌, Ok, refl, w64}
use Rattle.std.specs.Int.{w128}
use Rattle.base_types.specs.Address.{IsAddress}
use Rattle.base_coins.specs.Steps.{◌>>=◌}
use Rattle.base_roles.specs.declared.entities.{Commission.Commission, RedelegationEntry.RedelegationEntry}
use Rattle.base_roles.specs.declared.entities.{SigningInfo.SigningInfo, UnbondingEntry.UnbondingEntry}
use Rattle.base_roles.specs.declared.{entities.Validator.Validator, params.Params.Params}
use Rattle.store_rows.specs.Fields.{denom_bytes, eight_bytes, sixteen_bytes, status_byte, truth_byte}
use Rattle.store_rows.specs.Rows.{commission_bytes, info_bytes, params_bytes, redelegation_bytes, unbonding_bytes, validator_bytes}
use Rattle.store_rows.specs.Reading.{bytes_at, number_at, decimal_at, denom_at, moment_at, status_at, truth_at, user_at, commission_at, info_at, params_at, redelegation_at, unbonding_at, validator_at}
use Rattle.store_rows.specs.Spelled.{AreParams, IsCommission, IsDecimal, IsInfo, IsLong, IsMoment, IsName, IsRedelegation, IsShort, IsUnbonding, IsUser}
use Rattle.store_rows.proofs.{ReadsLemmas.{Reads, field, last, told}, NumberLemmas.{eight_read, sixteen_read}}
use Rattle.store_rows.proofs.ValueLemmas.{cons_reads, decimal_reads, denom_reads, moment_reads, status_reads, truth_reads, user_reads}

-- Each is `field` by field, where what is known of the record grows by the field that was read.
pub unbonding_reads : Reads unbonding_at unbonding_bytes IsUnbonding
unfolding unbonding_at
unbonding_reads = told unbonding_at unbonding_bytes (λ (e : UnbondingEntry). (IsShort e.created × (IsMoment e.completes × (IsLong e.initial × IsLong e.balance))) × Unit {0}) IsUnbonding
    (λ (e : UnbondingEntry) h. (h.0.0, h.0.1.0, h.0.1.1.0, h.0.1.1.1)) (λ (e : UnbondingEntry) h. ((h.0, (h.1, (h.2, h.3))), tt))
    (field (number_at w64) eight_bytes IsShort eight_read (λ (e : UnbondingEntry). e.created) (λ (e : UnbondingEntry). Unit {0})
    (λ created bytes. moment_at bytes >>= λ completes. number_at w128 completes.1 >>= λ initial. number_at w128 initial.1 >>= λ balance. Ok (record { created = created; completes = completes.0; initial = initial.0; balance = balance.0 }, balance.1))
    (λ (e : UnbondingEntry). sixteen_bytes e.completes ++ (sixteen_bytes e.initial ++ sixteen_bytes e.balance)) (λ (e : UnbondingEntry). IsMoment e.completes × (IsLong e.initial × IsLong e.balance))
    (λ created. field moment_at sixteen_bytes IsMoment moment_reads (λ (e : UnbondingEntry). e.completes) (λ (e : UnbondingEntry). (e.created ≡ created) × Unit {0})
    (λ completes bytes. number_at w128 bytes >>= λ initial. number_at w128 initial.1 >>= λ balance. Ok (record { created = created; completes = completes; initial = initial.0; balance = balance.0 }, balance.1))
    (λ (e : UnbondingEntry). sixteen_bytes e.initial ++ sixteen_bytes e.balance) (λ (e : UnbondingEntry). IsLong e.initial × IsLong e.balance)
    (λ completes. field (number_at w128) sixteen_bytes IsLong sixteen_read (λ (e : UnbondingEntry). e.initial) (λ (e : UnbondingEntry). (e.completes ≡ completes) × ((e.created ≡ created) × Unit {0}))
    (λ initial bytes. number_at w128 bytes >>= λ balance. Ok (record { created = created; completes = completes; initial = initial; balance = balance.0 }, balance.1))
    (λ (e : UnbondingEntry). sixteen_bytes e.balance) (λ (e : UnbondingEntry). IsLong e.balance)
    (λ initial. last (number_at w128) sixteen_bytes IsLong sixteen_read (λ (e : UnbondingEntry). e.balance) (λ (e : UnbondingEntry). (e.initial ≡ initial) × ((e.completes ≡ completes) × ((e.created ≡ created) × Unit {0})))
    (λ balance. record { created = created; completes = completes; initial = initial; balance = balance })
    (λ balance. (refl, (refl, (refl, (refl, tt))))) (λ (e : UnbondingEntry) k. rw (← k.0, ← k.1.0, ← k.1.1.0) refl)))))

pub redelegation_reads : Reads redelegation_at redelegation_bytes IsRedelegation
unfolding redelegation_at
redelegation_reads = told redelegation_at redelegation_bytes (λ (e : RedelegationEntry). (IsShort e.created × (IsMoment e.completes × (IsLong e.initial × IsDecimal e.shares_dst))) × Unit {0}) IsRedelegation
    (λ (e : RedelegationEntry) h. (h.0.0, h.0.1.0, h.0.1.1.0, h.0.1.1.1)) (λ (e : RedelegationEntry) h. ((h.0, (h.1, (h.2, h.3))), tt))
    (field (number_at w64) eight_bytes IsShort eight_read (λ (e : RedelegationEntry). e.created) (λ (e : RedelegationEntry). Unit {0})
    (λ created bytes. moment_at bytes >>= λ completes. number_at w128 completes.1 >>= λ initial. decimal_at initial.1 >>= λ shares_dst. Ok (record { created = created; completes = completes.0; initial = initial.0; shares_dst = shares_dst.0 }, shares_dst.1))
    (λ (e : RedelegationEntry). sixteen_bytes e.completes ++ (sixteen_bytes e.initial ++ sixteen_bytes e.shares_dst)) (λ (e : RedelegationEntry). IsMoment e.completes × (IsLong e.initial × IsDecimal e.shares_dst))
    (λ created. field moment_at sixteen_bytes IsMoment moment_reads (λ (e : RedelegationEntry). e.completes) (λ (e : RedelegationEntry). (e.created ≡ created) × Unit {0})
    (λ completes bytes. number_at w128 bytes >>= λ initial. decimal_at initial.1 >>= λ shares_dst. Ok (record { created = created; completes = completes; initial = initial.0; shares_dst = shares_dst.0 }, shares_dst.1))
    (λ (e : RedelegationEntry). sixteen_bytes e.initial ++ sixteen_bytes e.shares_dst) (λ (e : RedelegationEntry). IsLong e.initial × IsDecimal e.shares_dst)
    (λ completes. field (number_at w128) sixteen_bytes IsLong sixteen_read (λ (e : RedelegationEntry). e.initial) (λ (e : RedelegationEntry). (e.completes ≡ completes) × ((e.created ≡ created) × Unit {0}))
    (λ initial bytes. decimal_at bytes >>= λ shares_dst. Ok (record { created = created; completes = completes; initial = initial; shares_dst = shares_dst.0 }, shares_dst.1))
    (λ (e : RedelegationEntry). sixteen_bytes e.shares_dst) (λ (e : RedelegationEntry). IsDecimal e.shares_dst)
    (λ initial. last decimal_at sixteen_bytes IsDecimal decimal_reads (λ (e : RedelegationEntry). e.shares_dst) (λ (e : RedelegationEntry). (e.initial ≡ initial) × ((e.completes ≡ completes) × ((e.created ≡ created) × Unit {0})))
    (λ shares_dst. record { created = created; completes = completes; initial = initial; shares_dst = shares_dst })
    (λ shares_dst. (refl, (refl, (refl, (refl, tt))))) (λ (e : RedelegationEntry) k. rw (← k.0, ← k.1.0, ← k.1.1.0) refl)))))

pub commission_reads : Reads commission_at commission_bytes IsCommission
unfolding commission_at
commission_reads = told commission_at commission_bytes (λ (e : Commission). (IsDecimal e.rate × (IsDecimal e.max_rate × (IsDecimal e.max_change × IsMoment e.updated))) × Unit {0}) IsCommission
    (λ (e : Commission) h. record { rate = h.0.0; max_rate = h.0.1.0; max_change = h.0.1.1.0; updated = h.0.1.1.1 }) (λ (e : Commission) h. ((h.rate, (h.max_rate, (h.max_change, h.updated))), tt))
    (field decimal_at sixteen_bytes IsDecimal decimal_reads (λ (e : Commission). e.rate) (λ (e : Commission). Unit {0})
    (λ rate bytes. decimal_at bytes >>= λ max_rate. decimal_at max_rate.1 >>= λ max_change. moment_at max_change.1 >>= λ updated. Ok (record { rate = rate; max_rate = max_rate.0; max_change = max_change.0; updated = updated.0 }, updated.1))
    (λ (e : Commission). sixteen_bytes e.max_rate ++ (sixteen_bytes e.max_change ++ sixteen_bytes e.updated)) (λ (e : Commission). IsDecimal e.max_rate × (IsDecimal e.max_change × IsMoment e.updated))
    (λ rate. field decimal_at sixteen_bytes IsDecimal decimal_reads (λ (e : Commission). e.max_rate) (λ (e : Commission). (e.rate ≡ rate) × Unit {0})
    (λ max_rate bytes. decimal_at bytes >>= λ max_change. moment_at max_change.1 >>= λ updated. Ok (record { rate = rate; max_rate = max_rate; max_change = max_change.0; updated = updated.0 }, updated.1))
    (λ (e : Commission). sixteen_bytes e.max_change ++ sixteen_bytes e.updated) (λ (e : Commission). IsDecimal e.max_change × IsMoment e.updated)
    (λ max_rate. field decimal_at sixteen_bytes IsDecimal decimal_reads (λ (e : Commission). e.max_change) (λ (e : Commission). (e.max_rate ≡ max_rate) × ((e.rate ≡ rate) × Unit {0}))
    (λ max_change bytes. moment_at bytes >>= λ updated. Ok (record { rate = rate; max_rate = max_rate; max_change = max_change; updated = updated.0 }, updated.1))
    (λ (e : Commission). sixteen_bytes e.updated) (λ (e : Commission). IsMoment e.updated)
    (λ max_change. last moment_at sixteen_bytes IsMoment moment_reads (λ (e : Commission). e.updated) (λ (e : Commission). (e.max_change ≡ max_change) × ((e.max_rate ≡ max_rate) × ((e.rate ≡ rate) × Unit {0})))
    (λ updated. record { rate = rate; max_rate = max_rate; max_change = max_change; updated = updated })
    (λ updated. (refl, (refl, (refl, (refl, tt))))) (λ (e : Commission) k. rw (← k.0, ← k.1.0, ← k.1.1.0) refl)))))

pub info_reads : Reads info_at info_bytes IsInfo
unfolding info_at
info_reads = told info_at info_bytes (λ (e : SigningInfo). (IsShort e.start × (IsShort e.counted × (IsShort e.missed × (IsMoment e.jailed_until × Unit {0})))) × Unit {0}) IsInfo
    (λ (e : SigningInfo) h. (h.0.0, h.0.1.0, h.0.1.1.0, h.0.1.1.1.0)) (λ (e : SigningInfo) h. ((h.0, (h.1, (h.2, (h.3, tt)))), tt))
    (field (number_at w64) eight_bytes IsShort eight_read (λ (e : SigningInfo). e.start) (λ (e : SigningInfo). Unit {0})
    (λ start bytes. number_at w64 bytes >>= λ counted. number_at w64 counted.1 >>= λ missed. moment_at missed.1 >>= λ jailed_until. truth_at jailed_until.1 >>= λ tombstoned. Ok (record { start = start; counted = counted.0; missed = missed.0; jailed_until = jailed_until.0; tombstoned = tombstoned.0 }, tombstoned.1))
    (λ (e : SigningInfo). eight_bytes e.counted ++ (eight_bytes e.missed ++ (sixteen_bytes e.jailed_until ++ (truth_byte e.tombstoned ∷ [])))) (λ (e : SigningInfo). IsShort e.counted × (IsShort e.missed × (IsMoment e.jailed_until × Unit {0})))
    (λ start. field (number_at w64) eight_bytes IsShort eight_read (λ (e : SigningInfo). e.counted) (λ (e : SigningInfo). (e.start ≡ start) × Unit {0})
    (λ counted bytes. number_at w64 bytes >>= λ missed. moment_at missed.1 >>= λ jailed_until. truth_at jailed_until.1 >>= λ tombstoned. Ok (record { start = start; counted = counted; missed = missed.0; jailed_until = jailed_until.0; tombstoned = tombstoned.0 }, tombstoned.1))
    (λ (e : SigningInfo). eight_bytes e.missed ++ (sixteen_bytes e.jailed_until ++ (truth_byte e.tombstoned ∷ []))) (λ (e : SigningInfo). IsShort e.missed × (IsMoment e.jailed_until × Unit {0}))
    (λ counted. field (number_at w64) eight_bytes IsShort eight_read (λ (e : SigningInfo). e.missed) (λ (e : SigningInfo). (e.counted ≡ counted) × ((e.start ≡ start) × Unit {0}))
    (λ missed bytes. moment_at bytes >>= λ jailed_until. truth_at jailed_until.1 >>= λ tombstoned. Ok (record { start = start; counted = counted; missed = missed; jailed_until = jailed_until.0; tombstoned = tombstoned.0 }, tombstoned.1))
    (λ (e : SigningInfo). sixteen_bytes e.jailed_until ++ (truth_byte e.tombstoned ∷ [])) (λ (e : SigningInfo). IsMoment e.jailed_until × Unit {0})
    (λ missed. field moment_at sixteen_bytes IsMoment moment_reads (λ (e : SigningInfo). e.jailed_until) (λ (e : SigningInfo). (e.missed ≡ missed) × ((e.counted ≡ counted) × ((e.start ≡ start) × Unit {0})))
    (λ jailed_until bytes. truth_at bytes >>= λ tombstoned. Ok (record { start = start; counted = counted; missed = missed; jailed_until = jailed_until; tombstoned = tombstoned.0 }, tombstoned.1))
    (λ (e : SigningInfo). (truth_byte e.tombstoned ∷ [])) (λ (e : SigningInfo). Unit {0})
    (λ jailed_until. last truth_at (λ b. truth_byte b ∷ []) (λ b. Unit {0}) truth_reads (λ (e : SigningInfo). e.tombstoned) (λ (e : SigningInfo). (e.jailed_until ≡ jailed_until) × ((e.missed ≡ missed) × ((e.counted ≡ counted) × ((e.start ≡ start) × Unit {0}))))
    (λ tombstoned. record { start = start; counted = counted; missed = missed; jailed_until = jailed_until; tombstoned = tombstoned })
    (λ tombstoned. (refl, (refl, (refl, (refl, (refl, tt)))))) (λ (e : SigningInfo) k. rw (← k.0, ← k.1.0, ← k.1.1.0, ← k.1.1.1.0) refl))))))

pub params_reads : Reads params_at params_bytes AreParams
unfolding params_at
params_reads = told params_at params_bytes (λ (e : Params). (IsName e.bond_denom × (IsShort e.power_reduction × (IsShort e.unbonding_time × (IsShort e.max_validators × (IsShort e.max_entries × (IsDecimal e.min_commission_rate × (IsDecimal e.community_tax × (Unit {0} × (IsShort e.signed_blocks_window × (IsDecimal e.min_signed_per_window × (IsShort e.downtime_jail_duration × (IsDecimal e.slash_fraction_double_sign × (IsDecimal e.slash_fraction_downtime × (IsShort e.max_age_duration × (IsShort e.max_age_num_blocks × IsUser e.authority))))))))))))))) × Unit {0}) AreParams
    (λ (e : Params) h. record { bond_denom = h.0.0; power_reduction = h.0.1.0; unbonding_time = h.0.1.1.0; max_validators = h.0.1.1.1.0; max_entries = h.0.1.1.1.1.0; min_commission_rate = h.0.1.1.1.1.1.0; community_tax = h.0.1.1.1.1.1.1.0; signed_blocks_window = h.0.1.1.1.1.1.1.1.1.0; min_signed_per_window = h.0.1.1.1.1.1.1.1.1.1.0; downtime_jail_duration = h.0.1.1.1.1.1.1.1.1.1.1.0; slash_fraction_double_sign = h.0.1.1.1.1.1.1.1.1.1.1.1.0; slash_fraction_downtime = h.0.1.1.1.1.1.1.1.1.1.1.1.1.0; max_age_duration = h.0.1.1.1.1.1.1.1.1.1.1.1.1.1.0; max_age_num_blocks = h.0.1.1.1.1.1.1.1.1.1.1.1.1.1.1.0; authority = h.0.1.1.1.1.1.1.1.1.1.1.1.1.1.1.1 }) (λ (e : Params) h. ((h.bond_denom, (h.power_reduction, (h.unbonding_time, (h.max_validators, (h.max_entries, (h.min_commission_rate, (h.community_tax, (tt, (h.signed_blocks_window, (h.min_signed_per_window, (h.downtime_jail_duration, (h.slash_fraction_double_sign, (h.slash_fraction_downtime, (h.max_age_duration, (h.max_age_num_blocks, h.authority))))))))))))))), tt))
    (field denom_at denom_bytes IsName denom_reads (λ (e : Params). e.bond_denom) (λ (e : Params). Unit {0})
    (λ bond_denom bytes. number_at w64 bytes >>= λ power_reduction. number_at w64 power_reduction.1 >>= λ unbonding_time. number_at w64 unbonding_time.1 >>= λ max_validators. number_at w64 max_validators.1 >>= λ max_entries. decimal_at max_entries.1 >>= λ min_commission_rate. decimal_at min_commission_rate.1 >>= λ community_tax. truth_at community_tax.1 >>= λ withdraw_addr_enabled. number_at w64 withdraw_addr_enabled.1 >>= λ signed_blocks_window. decimal_at signed_blocks_window.1 >>= λ min_signed_per_window. number_at w64 min_signed_per_window.1 >>= λ downtime_jail_duration. decimal_at downtime_jail_duration.1 >>= λ slash_fraction_double_sign. decimal_at slash_fraction_double_sign.1 >>= λ slash_fraction_downtime. number_at w64 slash_fraction_downtime.1 >>= λ max_age_duration. number_at w64 max_age_duration.1 >>= λ max_age_num_blocks. user_at max_age_num_blocks.1 >>= λ authority. Ok (record { bond_denom = bond_denom; power_reduction = power_reduction.0; unbonding_time = unbonding_time.0; max_validators = max_validators.0; max_entries = max_entries.0; min_commission_rate = min_commission_rate.0; community_tax = community_tax.0; withdraw_addr_enabled = withdraw_addr_enabled.0; signed_blocks_window = signed_blocks_window.0; min_signed_per_window = min_signed_per_window.0; downtime_jail_duration = downtime_jail_duration.0; slash_fraction_double_sign = slash_fraction_double_sign.0; slash_fraction_downtime = slash_fraction_downtime.0; max_age_duration = max_age_duration.0; max_age_num_blocks = max_age_num_blocks.0; authority = authority.0 }, authority.1))
    (λ (e : Params). eight_bytes e.power_reduction ++ (eight_bytes e.unbonding_time ++ (eight_bytes e.max_validators ++ (eight_bytes e.max_entries ++ (sixteen_bytes e.min_commission_rate ++ (sixteen_bytes e.community_tax ++ ((truth_byte e.withdraw_addr_enabled ∷ []) ++ (eight_bytes e.signed_blocks_window ++ (sixteen_bytes e.min_signed_per_window ++ (eight_bytes e.downtime_jail_duration ++ (sixteen_bytes e.slash_fraction_double_sign ++ (sixteen_bytes e.slash_fraction_downtime ++ (eight_bytes e.max_age_duration ++ (eight_bytes e.max_age_num_blocks ++ e.authority)))))))))))))) (λ (e : Params). IsShort e.power_reduction × (IsShort e.unbonding_time × (IsShort e.max_validators × (IsShort e.max_entries × (IsDecimal e.min_commission_rate × (IsDecimal e.community_tax × (Unit {0} × (IsShort e.signed_blocks_window × (IsDecimal e.min_signed_per_window × (IsShort e.downtime_jail_duration × (IsDecimal e.slash_fraction_double_sign × (IsDecimal e.slash_fraction_downtime × (IsShort e.max_age_duration × (IsShort e.max_age_num_blocks × IsUser e.authority))))))))))))))
    (λ bond_denom. field (number_at w64) eight_bytes IsShort eight_read (λ (e : Params). e.power_reduction) (λ (e : Params). (e.bond_denom ≡ bond_denom) × Unit {0})
    (λ power_reduction bytes. number_at w64 bytes >>= λ unbonding_time. number_at w64 unbonding_time.1 >>= λ max_validators. number_at w64 max_validators.1 >>= λ max_entries. decimal_at max_entries.1 >>= λ min_commission_rate. decimal_at min_commission_rate.1 >>= λ community_tax. truth_at community_tax.1 >>= λ withdraw_addr_enabled. number_at w64 withdraw_addr_enabled.1 >>= λ signed_blocks_window. decimal_at signed_blocks_window.1 >>= λ min_signed_per_window. number_at w64 min_signed_per_window.1 >>= λ downtime_jail_duration. decimal_at downtime_jail_duration.1 >>= λ slash_fraction_double_sign. decimal_at slash_fraction_double_sign.1 >>= λ slash_fraction_downtime. number_at w64 slash_fraction_downtime.1 >>= λ max_age_duration. number_at w64 max_age_duration.1 >>= λ max_age_num_blocks. user_at max_age_num_blocks.1 >>= λ authority. Ok (record { bond_denom = bond_denom; power_reduction = power_reduction; unbonding_time = unbonding_time.0; max_validators = max_validators.0; max_entries = max_entries.0; min_commission_rate = min_commission_rate.0; community_tax = community_tax.0; withdraw_addr_enabled = withdraw_addr_enabled.0; signed_blocks_window = signed_blocks_window.0; min_signed_per_window = min_signed_per_window.0; downtime_jail_duration = downtime_jail_duration.0; slash_fraction_double_sign = slash_fraction_double_sign.0; slash_fraction_downtime = slash_fraction_downtime.0; max_age_duration = max_age_duration.0; max_age_num_blocks = max_age_num_blocks.0; authority = authority.0 }, authority.1))
    (λ (e : Params). eight_bytes e.unbonding_time ++ (eight_bytes e.max_validators ++ (eight_bytes e.max_entries ++ (sixteen_bytes e.min_commission_rate ++ (sixteen_bytes e.community_tax ++ ((truth_byte e.withdraw_addr_enabled ∷ []) ++ (eight_bytes e.signed_blocks_window ++ (sixteen_bytes e.min_signed_per_window ++ (eight_bytes e.downtime_jail_duration ++ (sixteen_bytes e.slash_fraction_double_sign ++ (sixteen_bytes e.slash_fraction_downtime ++ (eight_bytes e.max_age_duration ++ (eight_bytes e.max_age_num_blocks ++ e.authority))))))))))))) (λ (e : Params). IsShort e.unbonding_time × (IsShort e.max_validators × (IsShort e.max_entries × (IsDecimal e.min_commission_rate × (IsDecimal e.community_tax × (Unit {0} × (IsShort e.signed_blocks_window × (IsDecimal e.min_signed_per_window × (IsShort e.downtime_jail_duration × (IsDecimal e.slash_fraction_double_sign × (IsDecimal e.slash_fraction_downtime × (IsShort e.max_age_duration × (IsShort e.max_age_num_blocks × IsUser e.authority)))))))))))))
    (λ power_reduction. field (number_at w64) eight_bytes IsShort eight_read (λ (e : Params). e.unbonding_time) (λ (e : Params). (e.power_reduction ≡ power_reduction) × ((e.bond_denom ≡ bond_denom) × Unit {0}))
    (λ unbonding_time bytes. number_at w64 bytes >>= λ max_validators. number_at w64 max_validators.1 >>= λ max_entries. decimal_at max_entries.1 >>= λ min_commission_rate. decimal_at min_commission_rate.1 >>= λ community_tax. truth_at community_tax.1 >>= λ withdraw_addr_enabled. number_at w64 withdraw_addr_enabled.1 >>= λ signed_blocks_window. decimal_at signed_blocks_window.1 >>= λ min_signed_per_window. number_at w64 min_signed_per_window.1 >>= λ downtime_jail_duration. decimal_at downtime_jail_duration.1 >>= λ slash_fraction_double_sign. decimal_at slash_fraction_double_sign.1 >>= λ slash_fraction_downtime. number_at w64 slash_fraction_downtime.1 >>= λ max_age_duration. number_at w64 max_age_duration.1 >>= λ max_age_num_blocks. user_at max_age_num_blocks.1 >>= λ authority. Ok (record { bond_denom = bond_denom; power_reduction = power_reduction; unbonding_time = unbonding_time; max_validators = max_validators.0; max_entries = max_entries.0; min_commission_rate = min_commission_rate.0; community_tax = community_tax.0; withdraw_addr_enabled = withdraw_addr_enabled.0; signed_blocks_window = signed_blocks_window.0; min_signed_per_window = min_signed_per_window.0; downtime_jail_duration = downtime_jail_duration.0; slash_fraction_double_sign = slash_fraction_double_sign.0; slash_fraction_downtime = slash_fraction_downtime.0; max_age_duration = max_age_duration.0; max_age_num_blocks = max_age_num_blocks.0; authority = authority.0 }, authority.1))
    (λ (e : Params). eight_bytes e.max_validators ++ (eight_bytes e.max_entries ++ (sixteen_bytes e.min_commission_rate ++ (sixteen_bytes e.community_tax ++ ((truth_byte e.withdraw_addr_enabled ∷ []) ++ (eight_bytes e.signed_blocks_window ++ (sixteen_bytes e.min_signed_per_window ++ (eight_bytes e.downtime_jail_duration ++ (sixteen_bytes e.slash_fraction_double_sign ++ (sixteen_bytes e.slash_fraction_downtime ++ (eight_bytes e.max_age_duration ++ (eight_bytes e.max_age_num_blocks ++ e.authority)))))))))))) (λ (e : Params). IsShort e.max_validators × (IsShort e.max_entries × (IsDecimal e.min_commission_rate × (IsDecimal e.community_tax × (Unit {0} × (IsShort e.signed_blocks_window × (IsDecimal e.min_signed_per_window × (IsShort e.downtime_jail_duration × (IsDecimal e.slash_fraction_double_sign × (IsDecimal e.slash_fraction_downtime × (IsShort e.max_age_duration × (IsShort e.max_age_num_blocks × IsUser e.authority))))))))))))
    (λ unbonding_time. field (number_at w64) eight_bytes IsShort eight_read (λ (e : Params). e.max_validators) (λ (e : Params). (e.unbonding_time ≡ unbonding_time) × ((e.power_reduction ≡ power_reduction) × ((e.bond_denom ≡ bond_denom) × Unit {0})))
    (λ max_validators bytes. number_at w64 bytes >>= λ max_entries. decimal_at max_entries.1 >>= λ min_commission_rate. decimal_at min_commission_rate.1 >>= λ community_tax. truth_at community_tax.1 >>= λ withdraw_addr_enabled. number_at w64 withdraw_addr_enabled.1 >>= λ signed_blocks_window. decimal_at signed_blocks_window.1 >>= λ min_signed_per_window. number_at w64 min_signed_per_window.1 >>= λ downtime_jail_duration. decimal_at downtime_jail_duration.1 >>= λ slash_fraction_double_sign. decimal_at slash_fraction_double_sign.1 >>= λ slash_fraction_downtime. number_at w64 slash_fraction_downtime.1 >>= λ max_age_duration. number_at w64 max_age_duration.1 >>= λ max_age_num_blocks. user_at max_age_num_blocks.1 >>= λ authority. Ok (record { bond_denom = bond_denom; power_reduction = power_reduction; unbonding_time = unbonding_time; max_validators = max_validators; max_entries = max_entries.0; min_commission_rate = min_commission_rate.0; community_tax = community_tax.0; withdraw_addr_enabled = withdraw_addr_enabled.0; signed_blocks_window = signed_blocks_window.0; min_signed_per_window = min_signed_per_window.0; downtime_jail_duration = downtime_jail_duration.0; slash_fraction_double_sign = slash_fraction_double_sign.0; slash_fraction_downtime = slash_fraction_downtime.0; max_age_duration = max_age_duration.0; max_age_num_blocks = max_age_num_blocks.0; authority = authority.0 }, authority.1))
    (λ (e : Params). eight_bytes e.max_entries ++ (sixteen_bytes e.min_commission_rate ++ (sixteen_bytes e.community_tax ++ ((truth_byte e.withdraw_addr_enabled ∷ []) ++ (eight_bytes e.signed_blocks_window ++ (sixteen_bytes e.min_signed_per_window ++ (eight_bytes e.downtime_jail_duration ++ (sixteen_bytes e.slash_fraction_double_sign ++ (sixteen_bytes e.slash_fraction_downtime ++ (eight_bytes e.max_age_duration ++ (eight_bytes e.max_age_num_blocks ++ e.authority))))))))))) (λ (e : Params). IsShort e.max_entries × (IsDecimal e.min_commission_rate × (IsDecimal e.community_tax × (Unit {0} × (IsShort e.signed_blocks_window × (IsDecimal e.min_signed_per_window × (IsShort e.downtime_jail_duration × (IsDecimal e.slash_fraction_double_sign × (IsDecimal e.slash_fraction_downtime × (IsShort e.max_age_duration × (IsShort e.max_age_num_blocks × IsUser e.authority)))))))))))
    (λ max_validators. field (number_at w64) eight_bytes IsShort eight_read (λ (e : Params). e.max_entries) (λ (e : Params). (e.max_validators ≡ max_validators) × ((e.unbonding_time ≡ unbonding_time) × ((e.power_reduction ≡ power_reduction) × ((e.bond_denom ≡ bond_denom) × Unit {0}))))
    (λ max_entries bytes. decimal_at bytes >>= λ min_commission_rate. decimal_at min_commission_rate.1 >>= λ community_tax. truth_at community_tax.1 >>= λ withdraw_addr_enabled. number_at w64 withdraw_addr_enabled.1 >>= λ signed_blocks_window. decimal_at signed_blocks_window.1 >>= λ min_signed_per_window. number_at w64 min_signed_per_window.1 >>= λ downtime_jail_duration. decimal_at downtime_jail_duration.1 >>= λ slash_fraction_double_sign. decimal_at slash_fraction_double_sign.1 >>= λ slash_fraction_downtime. number_at w64 slash_fraction_downtime.1 >>= λ max_age_duration. number_at w64 max_age_duration.1 >>= λ max_age_num_blocks. user_at max_age_num_blocks.1 >>= λ authority. Ok (record { bond_denom = bond_denom; power_reduction = power_reduction; unbonding_time = unbonding_time; max_validators = max_validators; max_entries = max_entries; min_commission_rate = min_commission_rate.0; community_tax = community_tax.0; withdraw_addr_enabled = withdraw_addr_enabled.0; signed_blocks_window = signed_blocks_window.0; min_signed_per_window = min_signed_per_window.0; downtime_jail_duration = downtime_jail_duration.0; slash_fraction_double_sign = slash_fraction_double_sign.0; slash_fraction_downtime = slash_fraction_downtime.0; max_age_duration = max_age_duration.0; max_age_num_blocks = max_age_num_blocks.0; authority = authority.0 }, authority.1))
    (λ (e : Params). sixteen_bytes e.min_commission_rate ++ (sixteen_bytes e.community_tax ++ ((truth_byte e.withdraw_addr_enabled ∷ []) ++ (eight_bytes e.signed_blocks_window ++ (sixteen_bytes e.min_signed_per_window ++ (eight_bytes e.downtime_jail_duration ++ (sixteen_bytes e.slash_fraction_double_sign ++ (sixteen_bytes e.slash_fraction_downtime ++ (eight_bytes e.max_age_duration ++ (eight_bytes e.max_age_num_blocks ++ e.authority)))))))))) (λ (e : Params). IsDecimal e.min_commission_rate × (IsDecimal e.community_tax × (Unit {0} × (IsShort e.signed_blocks_window × (IsDecimal e.min_signed_per_window × (IsShort e.downtime_jail_duration × (IsDecimal e.slash_fraction_double_sign × (IsDecimal e.slash_fraction_downtime × (IsShort e.max_age_duration × (IsShort e.max_age_num_blocks × IsUser e.authority))))))))))
    (λ max_entries. field decimal_at sixteen_bytes IsDecimal decimal_reads (λ (e : Params). e.min_commission_rate) (λ (e : Params). (e.max_entries ≡ max_entries) × ((e.max_validators ≡ max_validators) × ((e.unbonding_time ≡ unbonding_time) × ((e.power_reduction ≡ power_reduction) × ((e.bond_denom ≡ bond_denom) × Unit {0})))))
    (λ min_commission_rate bytes. decimal_at bytes >>= λ community_tax. truth_at community_tax.1 >>= λ withdraw_addr_enabled. number_at w64 withdraw_addr_enabled.1 >>= λ signed_blocks_window. decimal_at signed_blocks_window.1 >>= λ min_signed_per_window. number_at w64 min_signed_per_window.1 >>= λ downtime_jail_duration. decimal_at downtime_jail_duration.1 >>= λ slash_fraction_double_sign. decimal_at slash_fraction_double_sign.1 >>= λ slash_fraction_downtime. number_at w64 slash_fraction_downtime.1 >>= λ max_age_duration. number_at w64 max_age_duration.1 >>= λ max_age_num_blocks. user_at max_age_num_blocks.1 >>= λ authority. Ok (record { bond_denom = bond_denom; power_reduction = power_reduction; unbonding_time = unbonding_time; max_validators = max_validators; max_entries = max_entries; min_commission_rate = min_commission_rate; community_tax = community_tax.0; withdraw_addr_enabled = withdraw_addr_enabled.0; signed_blocks_window = signed_blocks_window.0; min_signed_per_window = min_signed_per_window.0; downtime_jail_duration = downtime_jail_duration.0; slash_fraction_double_sign = slash_fraction_double_sign.0; slash_fraction_downtime = slash_fraction_downtime.0; max_age_duration = max_age_duration.0; max_age_num_blocks = max_age_num_blocks.0; authority = authority.0 }, authority.1))
    (λ (e : Params). sixteen_bytes e.community_tax ++ ((truth_byte e.withdraw_addr_enabled ∷ []) ++ (eight_bytes e.signed_blocks_window ++ (sixteen_bytes e.min_signed_per_window ++ (eight_bytes e.downtime_jail_duration ++ (sixteen_bytes e.slash_fraction_double_sign ++ (sixteen_bytes e.slash_fraction_downtime ++ (eight_bytes e.max_age_duration ++ (eight_bytes e.max_age_num_blocks ++ e.authority))))))))) (λ (e : Params). IsDecimal e.community_tax × (Unit {0} × (IsShort e.signed_blocks_window × (IsDecimal e.min_signed_per_window × (IsShort e.downtime_jail_duration × (IsDecimal e.slash_fraction_double_sign × (IsDecimal e.slash_fraction_downtime × (IsShort e.max_age_duration × (IsShort e.max_age_num_blocks × IsUser e.authority)))))))))
    (λ min_commission_rate. field decimal_at sixteen_bytes IsDecimal decimal_reads (λ (e : Params). e.community_tax) (λ (e : Params). (e.min_commission_rate ≡ min_commission_rate) × ((e.max_entries ≡ max_entries) × ((e.max_validators ≡ max_validators) × ((e.unbonding_time ≡ unbonding_time) × ((e.power_reduction ≡ power_reduction) × ((e.bond_denom ≡ bond_denom) × Unit {0}))))))
    (λ community_tax bytes. truth_at bytes >>= λ withdraw_addr_enabled. number_at w64 withdraw_addr_enabled.1 >>= λ signed_blocks_window. decimal_at signed_blocks_window.1 >>= λ min_signed_per_window. number_at w64 min_signed_per_window.1 >>= λ downtime_jail_duration. decimal_at downtime_jail_duration.1 >>= λ slash_fraction_double_sign. decimal_at slash_fraction_double_sign.1 >>= λ slash_fraction_downtime. number_at w64 slash_fraction_downtime.1 >>= λ max_age_duration. number_at w64 max_age_duration.1 >>= λ max_age_num_blocks. user_at max_age_num_blocks.1 >>= λ authority. Ok (record { bond_denom = bond_denom; power_reduction = power_reduction; unbonding_time = unbonding_time; max_validators = max_validators; max_entries = max_entries; min_commission_rate = min_commission_rate; community_tax = community_tax; withdraw_addr_enabled = withdraw_addr_enabled.0; signed_blocks_window = signed_blocks_window.0; min_signed_per_window = min_signed_per_window.0; downtime_jail_duration = downtime_jail_duration.0; slash_fraction_double_sign = slash_fraction_double_sign.0; slash_fraction_downtime = slash_fraction_downtime.0; max_age_duration = max_age_duration.0; max_age_num_blocks = max_age_num_blocks.0; authority = authority.0 }, authority.1))
    (λ (e : Params). (truth_byte e.withdraw_addr_enabled ∷ []) ++ (eight_bytes e.signed_blocks_window ++ (sixteen_bytes e.min_signed_per_window ++ (eight_bytes e.downtime_jail_duration ++ (sixteen_bytes e.slash_fraction_double_sign ++ (sixteen_bytes e.slash_fraction_downtime ++ (eight_bytes e.max_age_duration ++ (eight_bytes e.max_age_num_blocks ++ e.authority)))))))) (λ (e : Params). Unit {0} × (IsShort e.signed_blocks_window × (IsDecimal e.min_signed_per_window × (IsShort e.downtime_jail_duration × (IsDecimal e.slash_fraction_double_sign × (IsDecimal e.slash_fraction_downtime × (IsShort e.max_age_duration × (IsShort e.max_age_num_blocks × IsUser e.authority))))))))
    (λ community_tax. field truth_at (λ b. truth_byte b ∷ []) (λ b. Unit {0}) truth_reads (λ (e : Params). e.withdraw_addr_enabled) (λ (e : Params). (e.community_tax ≡ community_tax) × ((e.min_commission_rate ≡ min_commission_rate) × ((e.max_entries ≡ max_entries) × ((e.max_validators ≡ max_validators) × ((e.unbonding_time ≡ unbonding_time) × ((e.power_reduction ≡ power_reduction) × ((e.bond_denom ≡ bond_denom) × Unit {0})))))))
    (λ withdraw_addr_enabled bytes. number_at w64 bytes >>= λ signed_blocks_window. decimal_at signed_blocks_window.1 >>= λ min_signed_per_window. number_at w64 min_signed_per_window.1 >>= λ downtime_jail_duration. decimal_at downtime_jail_duration.1 >>= λ slash_fraction_double_sign. decimal_at slash_fraction_double_sign.1 >>= λ slash_fraction_downtime. number_at w64 slash_fraction_downtime.1 >>= λ max_age_duration. number_at w64 max_age_duration.1 >>= λ max_age_num_blocks. user_at max_age_num_blocks.1 >>= λ authority. Ok (record { bond_denom = bond_denom; power_reduction = power_reduction; unbonding_time = unbonding_time; max_validators = max_validators; max_entries = max_entries; min_commission_rate = min_commission_rate; community_tax = community_tax; withdraw_addr_enabled = withdraw_addr_enabled; signed_blocks_window = signed_blocks_window.0; min_signed_per_window = min_signed_per_window.0; downtime_jail_duration = downtime_jail_duration.0; slash_fraction_double_sign = slash_fraction_double_sign.0; slash_fraction_downtime = slash_fraction_downtime.0; max_age_duration = max_age_duration.0; max_age_num_blocks = max_age_num_blocks.0; authority = authority.0 }, authority.1))
    (λ (e : Params). eight_bytes e.signed_blocks_window ++ (sixteen_bytes e.min_signed_per_window ++ (eight_bytes e.downtime_jail_duration ++ (sixteen_bytes e.slash_fraction_double_sign ++ (sixteen_bytes e.slash_fraction_downtime ++ (eight_bytes e.max_age_duration ++ (eight_bytes e.max_age_num_blocks ++ e.authority))))))) (λ (e : Params). IsShort e.signed_blocks_window × (IsDecimal e.min_signed_per_window × (IsShort e.downtime_jail_duration × (IsDecimal e.slash_fraction_double_sign × (IsDecimal e.slash_fraction_downtime × (IsShort e.max_age_duration × (IsShort e.max_age_num_blocks × IsUser e.authority)))))))
    (λ withdraw_addr_enabled. field (number_at w64) eight_bytes IsShort eight_read (λ (e : Params). e.signed_blocks_window) (λ (e : Params). (e.withdraw_addr_enabled ≡ withdraw_addr_enabled) × ((e.community_tax ≡ community_tax) × ((e.min_commission_rate ≡ min_commission_rate) × ((e.max_entries ≡ max_entries) × ((e.max_validators ≡ max_validators) × ((e.unbonding_time ≡ unbonding_time) × ((e.power_reduction ≡ power_reduction) × ((e.bond_denom ≡ bond_denom) × Unit {0}))))))))
    (λ signed_blocks_window bytes. decimal_at bytes >>= λ min_signed_per_window. number_at w64 min_signed_per_window.1 >>= λ downtime_jail_duration. decimal_at downtime_jail_duration.1 >>= λ slash_fraction_double_sign. decimal_at slash_fraction_double_sign.1 >>= λ slash_fraction_downtime. number_at w64 slash_fraction_downtime.1 >>= λ max_age_duration. number_at w64 max_age_duration.1 >>= λ max_age_num_blocks. user_at max_age_num_blocks.1 >>= λ authority. Ok (record { bond_denom = bond_denom; power_reduction = power_reduction; unbonding_time = unbonding_time; max_validators = max_validators; max_entries = max_entries; min_commission_rate = min_commission_rate; community_tax = community_tax; withdraw_addr_enabled = withdraw_addr_enabled; signed_blocks_window = signed_blocks_window; min_signed_per_window = min_signed_per_window.0; downtime_jail_duration = downtime_jail_duration.0; slash_fraction_double_sign = slash_fraction_double_sign.0; slash_fraction_downtime = slash_fraction_downtime.0; max_age_duration = max_age_duration.0; max_age_num_blocks = max_age_num_blocks.0; authority = authority.0 }, authority.1))
    (λ (e : Params). sixteen_bytes e.min_signed_per_window ++ (eight_bytes e.downtime_jail_duration ++ (sixteen_bytes e.slash_fraction_double_sign ++ (sixteen_bytes e.slash_fraction_downtime ++ (eight_bytes e.max_age_duration ++ (eight_bytes e.max_age_num_blocks ++ e.authority)))))) (λ (e : Params). IsDecimal e.min_signed_per_window × (IsShort e.downtime_jail_duration × (IsDecimal e.slash_fraction_double_sign × (IsDecimal e.slash_fraction_downtime × (IsShort e.max_age_duration × (IsShort e.max_age_num_blocks × IsUser e.authority))))))
    (λ signed_blocks_window. field decimal_at sixteen_bytes IsDecimal decimal_reads (λ (e : Params). e.min_signed_per_window) (λ (e : Params). (e.signed_blocks_window ≡ signed_blocks_window) × ((e.withdraw_addr_enabled ≡ withdraw_addr_enabled) × ((e.community_tax ≡ community_tax) × ((e.min_commission_rate ≡ min_commission_rate) × ((e.max_entries ≡ max_entries) × ((e.max_validators ≡ max_validators) × ((e.unbonding_time ≡ unbonding_time) × ((e.power_reduction ≡ power_reduction) × ((e.bond_denom ≡ bond_denom) × Unit {0})))))))))
    (λ min_signed_per_window bytes. number_at w64 bytes >>= λ downtime_jail_duration. decimal_at downtime_jail_duration.1 >>= λ slash_fraction_double_sign. decimal_at slash_fraction_double_sign.1 >>= λ slash_fraction_downtime. number_at w64 slash_fraction_downtime.1 >>= λ max_age_duration. number_at w64 max_age_duration.1 >>= λ max_age_num_blocks. user_at max_age_num_blocks.1 >>= λ authority. Ok (record { bond_denom = bond_denom; power_reduction = power_reduction; unbonding_time = unbonding_time; max_validators = max_validators; max_entries = max_entries; min_commission_rate = min_commission_rate; community_tax = community_tax; withdraw_addr_enabled = withdraw_addr_enabled; signed_blocks_window = signed_blocks_window; min_signed_per_window = min_signed_per_window; downtime_jail_duration = downtime_jail_duration.0; slash_fraction_double_sign = slash_fraction_double_sign.0; slash_fraction_downtime = slash_fraction_downtime.0; max_age_duration = max_age_duration.0; max_age_num_blocks = max_age_num_blocks.0; authority = authority.0 }, authority.1))
    (λ (e : Params). eight_bytes e.downtime_jail_duration ++ (sixteen_bytes e.slash_fraction_double_sign ++ (sixteen_bytes e.slash_fraction_downtime ++ (eight_bytes e.max_age_duration ++ (eight_bytes e.max_age_num_blocks ++ e.authority))))) (λ (e : Params). IsShort e.downtime_jail_duration × (IsDecimal e.slash_fraction_double_sign × (IsDecimal e.slash_fraction_downtime × (IsShort e.max_age_duration × (IsShort e.max_age_num_blocks × IsUser e.authority)))))
    (λ min_signed_per_window. field (number_at w64) eight_bytes IsShort eight_read (λ (e : Params). e.downtime_jail_duration) (λ (e : Params). (e.min_signed_per_window ≡ min_signed_per_window) × ((e.signed_blocks_window ≡ signed_blocks_window) × ((e.withdraw_addr_enabled ≡ withdraw_addr_enabled) × ((e.community_tax ≡ community_tax) × ((e.min_commission_rate ≡ min_commission_rate) × ((e.max_entries ≡ max_entries) × ((e.max_validators ≡ max_validators) × ((e.unbonding_time ≡ unbonding_time) × ((e.power_reduction ≡ power_reduction) × ((e.bond_denom ≡ bond_denom) × Unit {0}))))))))))
    (λ downtime_jail_duration bytes. decimal_at bytes >>= λ slash_fraction_double_sign. decimal_at slash_fraction_double_sign.1 >>= λ slash_fraction_downtime. number_at w64 slash_fraction_downtime.1 >>= λ max_age_duration. number_at w64 max_age_duration.1 >>= λ max_age_num_blocks. user_at max_age_num_blocks.1 >>= λ authority. Ok (record { bond_denom = bond_denom; power_reduction = power_reduction; unbonding_time = unbonding_time; max_validators = max_validators; max_entries = max_entries; min_commission_rate = min_commission_rate; community_tax = community_tax; withdraw_addr_enabled = withdraw_addr_enabled; signed_blocks_window = signed_blocks_window; min_signed_per_window = min_signed_per_window; downtime_jail_duration = downtime_jail_duration; slash_fraction_double_sign = slash_fraction_double_sign.0; slash_fraction_downtime = slash_fraction_downtime.0; max_age_duration = max_age_duration.0; max_age_num_blocks = max_age_num_blocks.0; authority = authority.0 }, authority.1))
    (λ (e : Params). sixteen_bytes e.slash_fraction_double_sign ++ (sixteen_bytes e.slash_fraction_downtime ++ (eight_bytes e.max_age_duration ++ (eight_bytes e.max_age_num_blocks ++ e.authority)))) (λ (e : Params). IsDecimal e.slash_fraction_double_sign × (IsDecimal e.slash_fraction_downtime × (IsShort e.max_age_duration × (IsShort e.max_age_num_blocks × IsUser e.authority))))
    (λ downtime_jail_duration. field decimal_at sixteen_bytes IsDecimal decimal_reads (λ (e : Params). e.slash_fraction_double_sign) (λ (e : Params). (e.downtime_jail_duration ≡ downtime_jail_duration) × ((e.min_signed_per_window ≡ min_signed_per_window) × ((e.signed_blocks_window ≡ signed_blocks_window) × ((e.withdraw_addr_enabled ≡ withdraw_addr_enabled) × ((e.community_tax ≡ community_tax) × ((e.min_commission_rate ≡ min_commission_rate) × ((e.max_entries ≡ max_entries) × ((e.max_validators ≡ max_validators) × ((e.unbonding_time ≡ unbonding_time) × ((e.power_reduction ≡ power_reduction) × ((e.bond_denom ≡ bond_denom) × Unit {0})))))))))))
    (λ slash_fraction_double_sign bytes. decimal_at bytes >>= λ slash_fraction_downtime. number_at w64 slash_fraction_downtime.1 >>= λ max_age_duration. number_at w64 max_age_duration.1 >>= λ max_age_num_blocks. user_at max_age_num_blocks.1 >>= λ authority. Ok (record { bond_denom = bond_denom; power_reduction = power_reduction; unbonding_time = unbonding_time; max_validators = max_validators; max_entries = max_entries; min_commission_rate = min_commission_rate; community_tax = community_tax; withdraw_addr_enabled = withdraw_addr_enabled; signed_blocks_window = signed_blocks_window; min_signed_per_window = min_signed_per_window; downtime_jail_duration = downtime_jail_duration; slash_fraction_double_sign = slash_fraction_double_sign; slash_fraction_downtime = slash_fraction_downtime.0; max_age_duration = max_age_duration.0; max_age_num_blocks = max_age_num_blocks.0; authority = authority.0 }, authority.1))
    (λ (e : Params). sixteen_bytes e.slash_fraction_downtime ++ (eight_bytes e.max_age_duration ++ (eight_bytes e.max_age_num_blocks ++ e.authority))) (λ (e : Params). IsDecimal e.slash_fraction_downtime × (IsShort e.max_age_duration × (IsShort e.max_age_num_blocks × IsUser e.authority)))
    (λ slash_fraction_double_sign. field decimal_at sixteen_bytes IsDecimal decimal_reads (λ (e : Params). e.slash_fraction_downtime) (λ (e : Params). (e.slash_fraction_double_sign ≡ slash_fraction_double_sign) × ((e.downtime_jail_duration ≡ downtime_jail_duration) × ((e.min_signed_per_window ≡ min_signed_per_window) × ((e.signed_blocks_window ≡ signed_blocks_window) × ((e.withdraw_addr_enabled ≡ withdraw_addr_enabled) × ((e.community_tax ≡ community_tax) × ((e.min_commission_rate ≡ min_commission_rate) × ((e.max_entries ≡ max_entries) × ((e.max_validators ≡ max_validators) × ((e.unbonding_time ≡ unbonding_time) × ((e.power_reduction ≡ power_reduction) × ((e.bond_denom ≡ bond_denom) × Unit {0}))))))))))))
    (λ slash_fraction_downtime bytes. number_at w64 bytes >>= λ max_age_duration. number_at w64 max_age_duration.1 >>= λ max_age_num_blocks. user_at max_age_num_blocks.1 >>= λ authority. Ok (record { bond_denom = bond_denom; power_reduction = power_reduction; unbonding_time = unbonding_time; max_validators = max_validators; max_entries = max_entries; min_commission_rate = min_commission_rate; community_tax = community_tax; withdraw_addr_enabled = withdraw_addr_enabled; signed_blocks_window = signed_blocks_window; min_signed_per_window = min_signed_per_window; downtime_jail_duration = downtime_jail_duration; slash_fraction_double_sign = slash_fraction_double_sign; slash_fraction_downtime = slash_fraction_downtime; max_age_duration = max_age_duration.0; max_age_num_blocks = max_age_num_blocks.0; authority = authority.0 }, authority.1))
    (λ (e : Params). eight_bytes e.max_age_duration ++ (eight_bytes e.max_age_num_blocks ++ e.authority)) (λ (e : Params). IsShort e.max_age_duration × (IsShort e.max_age_num_blocks × IsUser e.authority))
    (λ slash_fraction_downtime. field (number_at w64) eight_bytes IsShort eight_read (λ (e : Params). e.max_age_duration) (λ (e : Params). (e.slash_fraction_downtime ≡ slash_fraction_downtime) × ((e.slash_fraction_double_sign ≡ slash_fraction_double_sign) × ((e.downtime_jail_duration ≡ downtime_jail_duration) × ((e.min_signed_per_window ≡ min_signed_per_window) × ((e.signed_blocks_window ≡ signed_blocks_window) × ((e.withdraw_addr_enabled ≡ withdraw_addr_enabled) × ((e.community_tax ≡ community_tax) × ((e.min_commission_rate ≡ min_commission_rate) × ((e.max_entries ≡ max_entries) × ((e.max_validators ≡ max_validators) × ((e.unbonding_time ≡ unbonding_time) × ((e.power_reduction ≡ power_reduction) × ((e.bond_denom ≡ bond_denom) × Unit {0})))))))))))))
    (λ max_age_duration bytes. number_at w64 bytes >>= λ max_age_num_blocks. user_at max_age_num_blocks.1 >>= λ authority. Ok (record { bond_denom = bond_denom; power_reduction = power_reduction; unbonding_time = unbonding_time; max_validators = max_validators; max_entries = max_entries; min_commission_rate = min_commission_rate; community_tax = community_tax; withdraw_addr_enabled = withdraw_addr_enabled; signed_blocks_window = signed_blocks_window; min_signed_per_window = min_signed_per_window; downtime_jail_duration = downtime_jail_duration; slash_fraction_double_sign = slash_fraction_double_sign; slash_fraction_downtime = slash_fraction_downtime; max_age_duration = max_age_duration; max_age_num_blocks = max_age_num_blocks.0; authority = authority.0 }, authority.1))
    (λ (e : Params). eight_bytes e.max_age_num_blocks ++ e.authority) (λ (e : Params). IsShort e.max_age_num_blocks × IsUser e.authority)
    (λ max_age_duration. field (number_at w64) eight_bytes IsShort eight_read (λ (e : Params). e.max_age_num_blocks) (λ (e : Params). (e.max_age_duration ≡ max_age_duration) × ((e.slash_fraction_downtime ≡ slash_fraction_downtime) × ((e.slash_fraction_double_sign ≡ slash_fraction_double_sign) × ((e.downtime_jail_duration ≡ downtime_jail_duration) × ((e.min_signed_per_window ≡ min_signed_per_window) × ((e.signed_blocks_window ≡ signed_blocks_window) × ((e.withdraw_addr_enabled ≡ withdraw_addr_enabled) × ((e.community_tax ≡ community_tax) × ((e.min_commission_rate ≡ min_commission_rate) × ((e.max_entries ≡ max_entries) × ((e.max_validators ≡ max_validators) × ((e.unbonding_time ≡ unbonding_time) × ((e.power_reduction ≡ power_reduction) × ((e.bond_denom ≡ bond_denom) × Unit {0}))))))))))))))
    (λ max_age_num_blocks bytes. user_at bytes >>= λ authority. Ok (record { bond_denom = bond_denom; power_reduction = power_reduction; unbonding_time = unbonding_time; max_validators = max_validators; max_entries = max_entries; min_commission_rate = min_commission_rate; community_tax = community_tax; withdraw_addr_enabled = withdraw_addr_enabled; signed_blocks_window = signed_blocks_window; min_signed_per_window = min_signed_per_window; downtime_jail_duration = downtime_jail_duration; slash_fraction_double_sign = slash_fraction_double_sign; slash_fraction_downtime = slash_fraction_downtime; max_age_duration = max_age_duration; max_age_num_blocks = max_age_num_blocks; authority = authority.0 }, authority.1))
    (λ (e : Params). e.authority) (λ (e : Params). IsUser e.authority)
    (λ max_age_num_blocks. last user_at (λ b. b) IsUser user_reads (λ (e : Params). e.authority) (λ (e : Params). (e.max_age_num_blocks ≡ max_age_num_blocks) × ((e.max_age_duration ≡ max_age_duration) × ((e.slash_fraction_downtime ≡ slash_fraction_downtime) × ((e.slash_fraction_double_sign ≡ slash_fraction_double_sign) × ((e.downtime_jail_duration ≡ downtime_jail_duration) × ((e.min_signed_per_window ≡ min_signed_per_window) × ((e.signed_blocks_window ≡ signed_blocks_window) × ((e.withdraw_addr_enabled ≡ withdraw_addr_enabled) × ((e.community_tax ≡ community_tax) × ((e.min_commission_rate ≡ min_commission_rate) × ((e.max_entries ≡ max_entries) × ((e.max_validators ≡ max_validators) × ((e.unbonding_time ≡ unbonding_time) × ((e.power_reduction ≡ power_reduction) × ((e.bond_denom ≡ bond_denom) × Unit {0})))))))))))))))
    (λ authority. record { bond_denom = bond_denom; power_reduction = power_reduction; unbonding_time = unbonding_time; max_validators = max_validators; max_entries = max_entries; min_commission_rate = min_commission_rate; community_tax = community_tax; withdraw_addr_enabled = withdraw_addr_enabled; signed_blocks_window = signed_blocks_window; min_signed_per_window = min_signed_per_window; downtime_jail_duration = downtime_jail_duration; slash_fraction_double_sign = slash_fraction_double_sign; slash_fraction_downtime = slash_fraction_downtime; max_age_duration = max_age_duration; max_age_num_blocks = max_age_num_blocks; authority = authority })
    (λ authority. (refl, (refl, (refl, (refl, (refl, (refl, (refl, (refl, (refl, (refl, (refl, (refl, (refl, (refl, (refl, (refl, tt))))))))))))))))) (λ (e : Params) k. rw (← k.0, ← k.1.0, ← k.1.1.0, ← k.1.1.1.0, ← k.1.1.1.1.0, ← k.1.1.1.1.1.0, ← k.1.1.1.1.1.1.0, ← k.1.1.1.1.1.1.1.0, ← k.1.1.1.1.1.1.1.1.0, ← k.1.1.1.1.1.1.1.1.1.0, ← k.1.1.1.1.1.1.1.1.1.1.0, ← k.1.1.1.1.1.1.1.1.1.1.1.0, ← k.1.1.1.1.1.1.1.1.1.1.1.1.0, ← k.1.1.1.1.1.1.1.1.1.1.1.1.1.0, ← k.1.1.1.1.1.1.1.1.1.1.1.1.1.1.0) refl)))))))))))))))))

-- the fields of the value, and the operator is that of the key
pub validator_reads : (operator : List ℕ) → Reads (validator_at operator) validator_bytes (λ v. IsAddress v.cons × IsLong v.tokens × IsDecimal v.shares × IsCommission v.commission × IsLong v.min_self × IsShort v.unbonding_height × IsMoment v.unbonding_time × (v.operator ≡ operator))
unfolding validator_at
validator_reads operator = told (validator_at operator) validator_bytes (λ (e : Validator). (IsAddress e.cons × (Unit {0} × (Unit {0} × (IsLong e.tokens × (IsDecimal e.shares × (IsCommission e.commission × (IsLong e.min_self × (IsShort e.unbonding_height × IsMoment e.unbonding_time)))))))) × ((e.operator ≡ operator) × Unit {0})) (λ v. IsAddress v.cons × IsLong v.tokens × IsDecimal v.shares × IsCommission v.commission × IsLong v.min_self × IsShort v.unbonding_height × IsMoment v.unbonding_time × (v.operator ≡ operator))
    (λ (v : Validator) h. (h.0.0, h.0.1.1.1.0, h.0.1.1.1.1.0, h.0.1.1.1.1.1.0, h.0.1.1.1.1.1.1.0, h.0.1.1.1.1.1.1.1.0, h.0.1.1.1.1.1.1.1.1, h.1.0)) (λ (v : Validator) h. ((h.0, (tt, (tt, (h.1, (h.2, (h.3, (h.4, (h.5, h.6)))))))), (h.7, tt)))
    (field (bytes_at 20) (λ b. b) IsAddress cons_reads (λ (e : Validator). e.cons) (λ (e : Validator). (e.operator ≡ operator) × Unit {0})
    (λ cons bytes. status_at bytes >>= λ status. truth_at status.1 >>= λ jailed. number_at w128 jailed.1 >>= λ tokens. decimal_at tokens.1 >>= λ shares. commission_at shares.1 >>= λ commission. number_at w128 commission.1 >>= λ min_self. number_at w64 min_self.1 >>= λ unbonding_height. moment_at unbonding_height.1 >>= λ unbonding_time. Ok (record { operator = operator; cons = cons; status = status.0; jailed = jailed.0; tokens = tokens.0; shares = shares.0; commission = commission.0; min_self = min_self.0; unbonding_height = unbonding_height.0; unbonding_time = unbonding_time.0 }, unbonding_time.1))
    (λ (e : Validator). (status_byte e.status ∷ []) ++ ((truth_byte e.jailed ∷ []) ++ (sixteen_bytes e.tokens ++ (sixteen_bytes e.shares ++ (commission_bytes e.commission ++ (sixteen_bytes e.min_self ++ (eight_bytes e.unbonding_height ++ sixteen_bytes e.unbonding_time))))))) (λ (e : Validator). Unit {0} × (Unit {0} × (IsLong e.tokens × (IsDecimal e.shares × (IsCommission e.commission × (IsLong e.min_self × (IsShort e.unbonding_height × IsMoment e.unbonding_time)))))))
    (λ cons. field status_at (λ b. status_byte b ∷ []) (λ b. Unit {0}) status_reads (λ (e : Validator). e.status) (λ (e : Validator). (e.cons ≡ cons) × ((e.operator ≡ operator) × Unit {0}))
    (λ status bytes. truth_at bytes >>= λ jailed. number_at w128 jailed.1 >>= λ tokens. decimal_at tokens.1 >>= λ shares. commission_at shares.1 >>= λ commission. number_at w128 commission.1 >>= λ min_self. number_at w64 min_self.1 >>= λ unbonding_height. moment_at unbonding_height.1 >>= λ unbonding_time. Ok (record { operator = operator; cons = cons; status = status; jailed = jailed.0; tokens = tokens.0; shares = shares.0; commission = commission.0; min_self = min_self.0; unbonding_height = unbonding_height.0; unbonding_time = unbonding_time.0 }, unbonding_time.1))
    (λ (e : Validator). (truth_byte e.jailed ∷ []) ++ (sixteen_bytes e.tokens ++ (sixteen_bytes e.shares ++ (commission_bytes e.commission ++ (sixteen_bytes e.min_self ++ (eight_bytes e.unbonding_height ++ sixteen_bytes e.unbonding_time)))))) (λ (e : Validator). Unit {0} × (IsLong e.tokens × (IsDecimal e.shares × (IsCommission e.commission × (IsLong e.min_self × (IsShort e.unbonding_height × IsMoment e.unbonding_time))))))
    (λ status. field truth_at (λ b. truth_byte b ∷ []) (λ b. Unit {0}) truth_reads (λ (e : Validator). e.jailed) (λ (e : Validator). (e.status ≡ status) × ((e.cons ≡ cons) × ((e.operator ≡ operator) × Unit {0})))
    (λ jailed bytes. number_at w128 bytes >>= λ tokens. decimal_at tokens.1 >>= λ shares. commission_at shares.1 >>= λ commission. number_at w128 commission.1 >>= λ min_self. number_at w64 min_self.1 >>= λ unbonding_height. moment_at unbonding_height.1 >>= λ unbonding_time. Ok (record { operator = operator; cons = cons; status = status; jailed = jailed; tokens = tokens.0; shares = shares.0; commission = commission.0; min_self = min_self.0; unbonding_height = unbonding_height.0; unbonding_time = unbonding_time.0 }, unbonding_time.1))
    (λ (e : Validator). sixteen_bytes e.tokens ++ (sixteen_bytes e.shares ++ (commission_bytes e.commission ++ (sixteen_bytes e.min_self ++ (eight_bytes e.unbonding_height ++ sixteen_bytes e.unbonding_time))))) (λ (e : Validator). IsLong e.tokens × (IsDecimal e.shares × (IsCommission e.commission × (IsLong e.min_self × (IsShort e.unbonding_height × IsMoment e.unbonding_time)))))
    (λ jailed. field (number_at w128) sixteen_bytes IsLong sixteen_read (λ (e : Validator). e.tokens) (λ (e : Validator). (e.jailed ≡ jailed) × ((e.status ≡ status) × ((e.cons ≡ cons) × ((e.operator ≡ operator) × Unit {0}))))
    (λ tokens bytes. decimal_at bytes >>= λ shares. commission_at shares.1 >>= λ commission. number_at w128 commission.1 >>= λ min_self. number_at w64 min_self.1 >>= λ unbonding_height. moment_at unbonding_height.1 >>= λ unbonding_time. Ok (record { operator = operator; cons = cons; status = status; jailed = jailed; tokens = tokens; shares = shares.0; commission = commission.0; min_self = min_self.0; unbonding_height = unbonding_height.0; unbonding_time = unbonding_time.0 }, unbonding_time.1))
    (λ (e : Validator). sixteen_bytes e.shares ++ (commission_bytes e.commission ++ (sixteen_bytes e.min_self ++ (eight_bytes e.unbonding_height ++ sixteen_bytes e.unbonding_time)))) (λ (e : Validator). IsDecimal e.shares × (IsCommission e.commission × (IsLong e.min_self × (IsShort e.unbonding_height × IsMoment e.unbonding_time))))
    (λ tokens. field decimal_at sixteen_bytes IsDecimal decimal_reads (λ (e : Validator). e.shares) (λ (e : Validator). (e.tokens ≡ tokens) × ((e.jailed ≡ jailed) × ((e.status ≡ status) × ((e.cons ≡ cons) × ((e.operator ≡ operator) × Unit {0})))))
    (λ shares bytes. commission_at bytes >>= λ commission. number_at w128 commission.1 >>= λ min_self. number_at w64 min_self.1 >>= λ unbonding_height. moment_at unbonding_height.1 >>= λ unbonding_time. Ok (record { operator = operator; cons = cons; status = status; jailed = jailed; tokens = tokens; shares = shares; commission = commission.0; min_self = min_self.0; unbonding_height = unbonding_height.0; unbonding_time = unbonding_time.0 }, unbonding_time.1))
    (λ (e : Validator). commission_bytes e.commission ++ (sixteen_bytes e.min_self ++ (eight_bytes e.unbonding_height ++ sixteen_bytes e.unbonding_time))) (λ (e : Validator). IsCommission e.commission × (IsLong e.min_self × (IsShort e.unbonding_height × IsMoment e.unbonding_time)))
    (λ shares. field commission_at commission_bytes IsCommission commission_reads (λ (e : Validator). e.commission) (λ (e : Validator). (e.shares ≡ shares) × ((e.tokens ≡ tokens) × ((e.jailed ≡ jailed) × ((e.status ≡ status) × ((e.cons ≡ cons) × ((e.operator ≡ operator) × Unit {0}))))))
    (λ commission bytes. number_at w128 bytes >>= λ min_self. number_at w64 min_self.1 >>= λ unbonding_height. moment_at unbonding_height.1 >>= λ unbonding_time. Ok (record { operator = operator; cons = cons; status = status; jailed = jailed; tokens = tokens; shares = shares; commission = commission; min_self = min_self.0; unbonding_height = unbonding_height.0; unbonding_time = unbonding_time.0 }, unbonding_time.1))
    (λ (e : Validator). sixteen_bytes e.min_self ++ (eight_bytes e.unbonding_height ++ sixteen_bytes e.unbonding_time)) (λ (e : Validator). IsLong e.min_self × (IsShort e.unbonding_height × IsMoment e.unbonding_time))
    (λ commission. field (number_at w128) sixteen_bytes IsLong sixteen_read (λ (e : Validator). e.min_self) (λ (e : Validator). (e.commission ≡ commission) × ((e.shares ≡ shares) × ((e.tokens ≡ tokens) × ((e.jailed ≡ jailed) × ((e.status ≡ status) × ((e.cons ≡ cons) × ((e.operator ≡ operator) × Unit {0})))))))
    (λ min_self bytes. number_at w64 bytes >>= λ unbonding_height. moment_at unbonding_height.1 >>= λ unbonding_time. Ok (record { operator = operator; cons = cons; status = status; jailed = jailed; tokens = tokens; shares = shares; commission = commission; min_self = min_self; unbonding_height = unbonding_height.0; unbonding_time = unbonding_time.0 }, unbonding_time.1))
    (λ (e : Validator). eight_bytes e.unbonding_height ++ sixteen_bytes e.unbonding_time) (λ (e : Validator). IsShort e.unbonding_height × IsMoment e.unbonding_time)
    (λ min_self. field (number_at w64) eight_bytes IsShort eight_read (λ (e : Validator). e.unbonding_height) (λ (e : Validator). (e.min_self ≡ min_self) × ((e.commission ≡ commission) × ((e.shares ≡ shares) × ((e.tokens ≡ tokens) × ((e.jailed ≡ jailed) × ((e.status ≡ status) × ((e.cons ≡ cons) × ((e.operator ≡ operator) × Unit {0}))))))))
    (λ unbonding_height bytes. moment_at bytes >>= λ unbonding_time. Ok (record { operator = operator; cons = cons; status = status; jailed = jailed; tokens = tokens; shares = shares; commission = commission; min_self = min_self; unbonding_height = unbonding_height; unbonding_time = unbonding_time.0 }, unbonding_time.1))
    (λ (e : Validator). sixteen_bytes e.unbonding_time) (λ (e : Validator). IsMoment e.unbonding_time)
    (λ unbonding_height. last moment_at sixteen_bytes IsMoment moment_reads (λ (e : Validator). e.unbonding_time) (λ (e : Validator). (e.unbonding_height ≡ unbonding_height) × ((e.min_self ≡ min_self) × ((e.commission ≡ commission) × ((e.shares ≡ shares) × ((e.tokens ≡ tokens) × ((e.jailed ≡ jailed) × ((e.status ≡ status) × ((e.cons ≡ cons) × ((e.operator ≡ operator) × Unit {0})))))))))
    (λ unbonding_time. record { operator = operator; cons = cons; status = status; jailed = jailed; tokens = tokens; shares = shares; commission = commission; min_self = min_self; unbonding_height = unbonding_height; unbonding_time = unbonding_time })
    (λ unbonding_time. (refl, (refl, (refl, (refl, (refl, (refl, (refl, (refl, (refl, (refl, tt))))))))))) (λ (e : Validator) k. rw (← k.0, ← k.1.0, ← k.1.1.0, ← k.1.1.1.0, ← k.1.1.1.1.0, ← k.1.1.1.1.1.0, ← k.1.1.1.1.1.1.0, ← k.1.1.1.1.1.1.1.0, ← k.1.1.1.1.1.1.1.1.0) refl))))))))))
