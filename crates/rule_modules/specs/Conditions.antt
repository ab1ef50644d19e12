-- When a message is refused: for each kind the conditions in their order, in the state before the message. The order and the
-- numbers are this project's own; each condition is that of the message's handler in the Cosmos SDK.
use Rattle.std.specs.Prelude.{ℕ, ◌==◌, Bool, true, false, nat_lt, nat_le, List, [], ◌∷◌, length, find, Option, Some, None, option_map, unwrap_or, is_none, Result, Ok, Err}
use Rattle.base_decimals.specs.declared.over.Over.{Over}
use Rattle.base_decimals.specs.Decimals.{add_of, trunc_of}
use Rattle.base_types.specs.declared.account.Account.TheVariants as account
use Rattle.base_types.specs.Orders.{addr_cmp}
use Rattle.base_shares.specs.declared.fault.ShareFault.{ShareFault}
use Rattle.base_shares.specs.declared.fault.ShareFault.TheVariants as share
use Rattle.base_shares.specs.Shares.{has_invalid_rate, issued_shares, shares_for_amount, amount_out, value_even_of}
use Rattle.base_roles.specs.declared.entities.UnbondingEntry.{UnbondingEntry}
use Rattle.base_roles.specs.declared.entities.Validator.{Validator}
use Rattle.base_roles.specs.declared.refusal.Refusal.{Refusal}
use Rattle.base_roles.specs.declared.refusal.Refusal.TheVariants.{Overflow}
use Rattle.base_roles.specs.Entries.{at}
use Rattle.base_roles.specs.Holdings.{is_short}
use Rattle.base_roles.specs.Staked.{validator_at, delegation}
use Rattle.base_roles.specs.World.{call}
use Rattle.rule_modules.specs.Amounts.{bond_coins, is_empty}
use Rattle.rule_modules.specs.Chain.{State, chain_told, shared_in, window_in}
use Rattle.rule_modules.specs.Delegating.{hook_before}
use Rattle.rule_modules.specs.Redelegations.{redelegations_of}
use Rattle.rule_modules.specs.Unbondings.{entries_of, can_be_cancelled}
use Rattle.rule_modules.specs.Window.{Signing, signing_of}

-- a condition: the refusal, where the test passes
abbrev pub when : Bool → Refusal → Option Refusal
when true why = Some why
when false why = None

-- the first condition of a list that holds
abbrev pub first_of : List (Option Refusal) → Option Refusal
first_of [] = None
first_of (None ∷ rest) = first_of rest
first_of (Some why ∷ rest) = Some why

-- the refusal of an operation that is over, with its operands
abbrev pub over_in : {A : Type 0} → Result A Over → Option Refusal
over_in (Ok a) = None
over_in (Err over) = Some (Overflow over)

-- what is said of an operator's validator, and this where there is none
abbrev pub said_of : {A : Type 0} → A → (Validator → A) → List ℕ → State → A
said_of otherwise f operator w = unwrap_or (option_map f (validator_at w.mine.staked operator)) otherwise

-- no validator has the operator
abbrev pub lacks_validator : List ℕ → State → Bool
lacks_validator operator w = is_none (validator_at w.mine.staked operator)

-- there is no such delegation
abbrev pub lacks_delegation : List ℕ → List ℕ → State → Bool
lacks_delegation delegator operator w = is_none (delegation w.mine.staked delegator operator)

-- shares over no tokens
abbrev pub has_no_rate : List ℕ → State → Bool
has_no_rate operator w = said_of false (λ v. has_invalid_rate v.tokens v.shares) operator w

-- the validator has lost all tokens
abbrev pub has_no_tokens : List ℕ → State → Bool
has_no_tokens operator w = said_of false (λ v. v.tokens == 0) operator w

-- the validator is jailed
abbrev pub is_jailed : List ℕ → State → Bool
is_jailed operator w = said_of false (λ v. v.jailed) operator w

-- the shares that an amount stands for are above these, also where they are over
abbrev pub are_above : Result ℕ ShareFault → ℕ → Bool
are_above (Ok part) held = nat_lt held part
are_above (Err (share.Over over)) held = true
are_above (Err share.NoTokens) held = false
are_above (Err share.RateInvalid) held = false

-- the amount stands for more shares than the delegation has
abbrev pub asks_too_much : List ℕ → List ℕ → ℕ → State → Bool
asks_too_much delegator operator amount w =
    said_of false (λ v. are_above (shares_for_amount v.tokens v.shares amount) (unwrap_or (delegation w.mine.staked delegator operator) 0)) operator w

-- what goes out for an amount that is unbonded
abbrev pub goes_out : Result ℕ ShareFault → Validator → ℕ
goes_out (Ok part) v = amount_out v.tokens v.shares part
goes_out (Err fault) v = 0

-- the same of an operator's validator
abbrev pub out_for : List ℕ → ℕ → State → ℕ
out_for operator amount w = said_of 0 (λ v. goes_out (shares_for_amount v.tokens v.shares amount) v) operator w

-- issuing shares is over: the shares themselves, then their sum with those that stand
abbrev pub issue_over : Validator → Result ℕ ShareFault → Option Refusal
issue_over v (Ok issued) = over_in (add_of v.shares issued)
issue_over v (Err (share.Over over)) = Some (Overflow over)
issue_over v (Err share.NoTokens) = None
issue_over v (Err share.RateInvalid) = None

-- the same of an operator's validator
abbrev pub shares_over : List ℕ → ℕ → State → Option Refusal
shares_over operator amount w = said_of None (λ v. issue_over v (issued_shares v.tokens v.shares amount)) operator w

-- no shares are issued
abbrev pub is_nothing : Result ℕ ShareFault → Bool
is_nothing (Ok issued) = issued == 0
is_nothing (Err fault) = false

-- the amount gives no shares of the operator's validator
abbrev pub is_tiny : List ℕ → ℕ → State → Bool
is_tiny operator amount w = said_of false (λ v. is_nothing (issued_shares v.tokens v.shares amount)) operator w

-- the state after the hook before a delegation changes; or the excess of the period's end or of the reward
abbrev pub after_hook : List ℕ → Validator → State → Result State Over
after_hook delegator v w = call chain_told (hook_before v delegator (delegation w.mine.staked delegator v.operator)) w

-- ending the period, or the reward, is over in the hook
abbrev pub reward_over : List ℕ → List ℕ → State → Option Refusal
reward_over delegator operator w = said_of None (λ v. over_in (after_hook delegator v w)) operator w

-- after the hook has paid, the wallet has less than the amount
abbrev pub is_short_then : List ℕ → ℕ → Result State Over → Bool
is_short_then delegator amount (Ok w) = is_short w.view.bank (account.User delegator) (bond_coins w.view amount)
is_short_then delegator amount (Err over) = false

-- the delegator cannot pay, once the hook has paid it
abbrev pub cannot_pay : List ℕ → List ℕ → ℕ → State → Bool
cannot_pay delegator operator amount w = said_of false (λ v. is_short_then delegator amount (after_hook delegator v w)) operator w

-- the pair, and the triple, has the most entries
abbrev pub has_most_unbondings : List ℕ → List ℕ → State → Bool
has_most_unbondings delegator operator w = nat_le w.view.ctx.params.max_entries (length (entries_of w.mine.unbondings delegator operator))

-- the triple has the most entries
abbrev pub has_most_redelegations : List ℕ → List ℕ → List ℕ → State → Bool
has_most_redelegations delegator source target w = nat_le w.view.ctx.params.max_entries (length (redelegations_of w.mine.redelegations delegator source target))

-- the entry that a cancellation takes
abbrev pub cancelled_entry : List ℕ → List ℕ → ℕ → State → Option UnbondingEntry
cancelled_entry delegator operator height w = find (can_be_cancelled height w.view.ctx.time) (entries_of w.mine.unbondings delegator operator)

-- the amount is above the balance of the entry that a cancellation takes
abbrev pub cancels_too_much : List ℕ → List ℕ → ℕ → ℕ → State → Bool
cancels_too_much delegator operator height amount w = unwrap_or (option_map (λ e. nat_lt e.balance amount) (cancelled_entry delegator operator height w)) false

-- the operator's own delegation is worth less than its least
abbrev pub has_too_little : List ℕ → State → Bool
has_too_little operator w =
    said_of false (λ v. nat_lt (trunc_of (value_even_of v.tokens v.shares (unwrap_or (delegation w.mine.staked operator operator) 0))) v.min_self) operator w

-- the signing record of an operator's validator
abbrev pub record_of : List ℕ → State → Option Signing
record_of operator w = said_of None (λ v. signing_of (window_in w) v.cons) operator w

-- the commission of an operator is empty, or there is no purse
abbrev pub has_no_commission : List ℕ → State → Bool
has_no_commission operator w = unwrap_or (option_map (λ p. is_empty p.commission) (at addr_cmp (shared_in w).purses.purses operator)) true
