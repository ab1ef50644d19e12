-- The eighth point: lists of entries have 1 to 100, of initial amounts of at most 10^18, with
-- balances within them, made at heights that were.
use Rattle.std.specs.Prelude.{ℕ, ◌^◌, ◌&&◌, nat_le, Bool, List, length}
use Rattle.std.specs.List.{list_all}
use Rattle.base_roles.specs.declared.entities.RedelegationEntry.{RedelegationEntry}
use Rattle.base_roles.specs.declared.entities.UnbondingEntry.{UnbondingEntry}
use Rattle.rule_modules.specs.Redelegations.{RedelegationLists}
use Rattle.rule_modules.specs.Unbondings.{UnbondingLists}
use Rattle.base_roles.specs.Ranges.{is_within}

abbrev pub is_unbonding_sound : ℕ → UnbondingEntry → Bool
is_unbonding_sound height e =
    nat_le e.initial (10 ^ 18) && nat_le e.balance e.initial && nat_le e.created height

-- 1 to 100 entries that are sound
abbrev pub is_unbonding_list : ℕ → List UnbondingEntry → Bool
is_unbonding_list height es = is_within 1 100 (length es) && list_all (is_unbonding_sound height) es

abbrev pub are_unbondings_sound : ℕ → UnbondingLists → Bool
are_unbondings_sound height u = list_all (λ p. is_unbonding_list height p.1) u

abbrev pub is_redelegation_sound : ℕ → RedelegationEntry → Bool
is_redelegation_sound height e = nat_le e.initial (10 ^ 18) && nat_le e.created height

-- 1 to 100 entries that are sound
abbrev pub is_redelegation_list : ℕ → List RedelegationEntry → Bool
is_redelegation_list height es =
    is_within 1 100 (length es) && list_all (is_redelegation_sound height) es

abbrev pub are_redelegations_sound : ℕ → RedelegationLists → Bool
are_redelegations_sound height r = list_all (λ p. is_redelegation_list height p.1) r
