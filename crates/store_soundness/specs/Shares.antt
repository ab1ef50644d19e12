-- The second point: the shares of a validator are those of its delegations, each delegation has
-- shares at a validator that stands, and consensus addresses are distinct.
use Rattle.std.specs.Prelude.{ℕ, ◌^◌, ◌==◌, ◌&&◌, nat_lt, not, Bool, List, map, is_some}
use Rattle.std.specs.BTreeMap.{is_at}
use Rattle.std.specs.List.{list_all}
use Rattle.base_types.specs.Orders.{addr_cmp, cons_cmp}
use Rattle.base_coins.specs.Coins.{has_repeats}
use Rattle.base_roles.specs.declared.entities.Validator.{Validator}
use Rattle.base_roles.specs.Entries.{at, sum_where}
use Rattle.store_soundness.specs.Tally.{tallied}

-- the shares of all delegations to an operator
abbrev pub shares_of : List ((List ℕ × List ℕ) × ℕ) → List ℕ → ℕ
shares_of delegations operator = sum_where (λ who. is_at (addr_cmp operator) who.0) delegations

-- the shares of each operator together, as they are added one after another
abbrev pub share_totals : List ((List ℕ × List ℕ) × ℕ) → List (List ℕ × ℕ) → List (List ℕ × ℕ)
share_totals delegations totals = tallied addr_cmp (λ e. e.0.0) (λ e. e.1) delegations totals

-- shares are a total, and below 10^38 as every decimal
abbrev pub is_total : ℕ → ℕ → Bool
is_total total shares = nat_lt shares (10 ^ 38) && (total == shares)

-- each validator has so many shares as the totals say
abbrev pub have_shares : (List ℕ → ℕ) → List (List ℕ × Validator) → Bool
have_shares totals validators = list_all (λ e. is_total (totals e.0) e.1.shares) validators

-- a delegation has shares, at a validator that stands
abbrev pub is_delegation_sound : List (List ℕ × Validator) → List ℕ → ℕ → Bool
is_delegation_sound validators operator shares =
    nat_lt 0 shares && is_some (at addr_cmp validators operator)

abbrev pub are_delegations_sound : List (List ℕ × Validator) → List ((List ℕ × List ℕ) × ℕ) → Bool
are_delegations_sound validators delegations =
    list_all (λ e. is_delegation_sound validators e.0.0 e.1) delegations

-- the shares of each validator are the sum of its delegations'
abbrev pub are_shares_delegated : List (List ℕ × Validator) → List ((List ℕ × List ℕ) × ℕ) → Bool
are_shares_delegated validators delegations =
    have_shares (shares_of delegations) validators && are_delegations_sound validators delegations

-- no consensus address stands twice
abbrev pub are_cons_distinct : List (List ℕ × Validator) → Bool
are_cons_distinct validators = not (has_repeats cons_cmp (map (λ e. e.1.cons) validators))
