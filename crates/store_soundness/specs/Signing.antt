-- The seventh point: each bonded or unbonding validator has a signing record; a ring has the last
-- votes of the window, the missed ones are counted, and no more votes were counted than there were
-- heights.
use Rattle.std.specs.Prelude.{ℕ, ◌^◌, ◌==◌, ◌&&◌, ◌||◌, min, nat_lt, nat_le, Bool, List, length, is_some}
use Rattle.std.specs.List.{list_all}
use Rattle.base_types.specs.Orders.{cons_cmp}
use Rattle.base_roles.specs.declared.entities.Validator.{Validator}
use Rattle.base_roles.specs.Entries.{at}
use Rattle.base_roles.specs.Staked.{is_unbonded}
use Rattle.rule_modules.specs.Amounts.{count_where}
use Rattle.store_records.specs.declared.records.Signed.{Signed}

-- a validator that is bonded or unbonding has a record
abbrev pub is_recorded : List (List ℕ × Signed) → Validator → Bool
is_recorded signings v = is_unbonded v.status || is_some (at cons_cmp signings v.cons)

abbrev pub are_recorded : List (List ℕ × Validator) → List (List ℕ × Signed) → Bool
are_recorded validators signings = list_all (λ e. is_recorded signings e.1) validators

-- a record: its ring, the missed votes in it, and its numbers in their ranges
abbrev pub is_signing_sound : ℕ → ℕ → Signed → Bool
is_signing_sound height window s =
    nat_le s.info.counted height
    && nat_lt s.info.start (2 ^ 63)
    && (length s.ring == min s.info.counted window)
    && (count_where (λ missed. missed) s.ring == s.info.missed)

abbrev pub are_signings_sound : ℕ → ℕ → List (List ℕ × Signed) → Bool
are_signings_sound height window signings =
    list_all (λ e. is_signing_sound height window e.1) signings
