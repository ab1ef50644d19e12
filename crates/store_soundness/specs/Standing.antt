-- The fourth point: purse and current period stand exactly for validators, and a start exactly for
-- each delegation, of a period below the current one and a height that was.
use Rattle.std.specs.Prelude.{ℕ, ◌&&◌, nat_lt, nat_le, Bool, false, List, Option, Some, None, is_some}
use Rattle.std.specs.declared.cmp.Ordering.{Ordering}
use Rattle.std.specs.List.{list_all}
use Rattle.std.specs.Map.{keys_of}
use Rattle.base_types.specs.Orders.{addr_cmp}
use Rattle.base_roles.specs.declared.entities.StartingInfo.{StartingInfo}
use Rattle.base_roles.specs.Entries.{at}
use Rattle.base_roles.specs.Orders.{pair_cmp}
use Rattle.store_records.specs.Plain.{ListsSeen}

-- each key of the first list stands in the second
abbrev pub has_keys_of : {K X Y : Type 0} → (K → K → Ordering) → List (K × X) → List (K × Y) → Bool
has_keys_of cmp xs ys = list_all (λ k. is_some (at cmp ys k)) (keys_of xs)

-- two lists have the same keys
abbrev pub have_same_keys : {K X Y : Type 0} → (K → K → Ordering) → List (K × X) → List (K × Y)
    → Bool
have_same_keys cmp xs ys = has_keys_of cmp xs ys && has_keys_of cmp ys xs

-- a period is below the one that runs, which stands
abbrev pub is_before : ℕ → Option ℕ → Bool
is_before period None = false
is_before period (Some current) = nat_lt period current

-- a start is before the period that runs, at a height that was
abbrev pub is_begun : ℕ → List (List ℕ × ℕ) → List ℕ → StartingInfo → Bool
is_begun height currents operator info =
    is_before info.period (at addr_cmp currents operator) && nat_le info.height height

abbrev pub are_begun : ℕ → List (List ℕ × ℕ) → List ((List ℕ × List ℕ) × StartingInfo) → Bool
are_begun height currents starts = list_all (λ e. is_begun height currents e.0.0 e.1) starts

-- purses and periods have the keys of validators, and starts those of delegations
abbrev pub have_keys : ListsSeen → Bool
have_keys l =
    have_same_keys addr_cmp l.staked.validators l.shared.purses
    && have_same_keys addr_cmp l.staked.validators l.shared.currents
    && have_same_keys pair_cmp l.staked.delegations l.shared.starts

-- distribution stands for the validators and the delegations, and each start is begun
abbrev pub stands_for_stakes : ℕ → ListsSeen → Bool
stands_for_stakes height l = have_keys l && are_begun height l.shared.currents l.shared.starts
