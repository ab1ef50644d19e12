-- What callers do that know the roles alone, and whom they act on.
use Rattle.std.specs.Prelude.{◌≡◌, ℕ, ◌≤◌, if◌then◌else◌, Bool, false, not, ◌&&◌, List, Option, Some, None, Result, Ok, ⊤}
use Rattle.base_types.specs.declared.account.Account.TheVariants as account
use Rattle.base_types.specs.declared.account.Module.{Module}
use Rattle.base_types.specs.declared.account.Module.TheVariants.{Bonded, NotBonded}
use Rattle.base_types.specs.declared.status.BondStatus.{BondStatus}
use Rattle.base_coins.specs.Coins.{Money}
use Rattle.base_roles.specs.declared.entities.SigningInfo.{SigningInfo}
use Rattle.base_roles.specs.declared.entities.Validator.{Validator}
use Rattle.base_roles.specs.declared.refusal.Refusal.{Refusal}
use Rattle.base_roles.specs.declared.refusal.Refusal.TheVariants.{InsufficientFunds, Overflow}
use Rattle.base_roles.specs.Holdings.{balance_of, is_short, IsBacked}
use Rattle.base_roles.specs.Staked.{is_bonded, is_unbonded}
use Rattle.base_roles.specs.Flow.{◌>>=◌, ◌>>◌, stop_if, stopping}
use Rattle.base_roles.specs.World.{View, Told, World, call, sent, burnt, over_view}
use Rattle.base_roles.specs.declared.calls.Hook.{Hook}
use Rattle.base_roles.specs.declared.calls.Hook.TheVariants.{Starting as starting, Modified as modified}

-- a hook, then coins from a user to the not-bonded account, then a hook
abbrev pub sent_between_hooks : {H : Type 0} → (H → Hook → View → Told H) → Validator → List ℕ → Money → ℕ → World ⊤ H → Result (⊤ × World ⊤ H) Refusal
sent_between_hooks told v delegator coins shares w = do
  w1 ← stopping Overflow (call told (starting v delegator) w)
  stop_if (is_short w1.view.bank (account.User delegator) coins) InsufficientFunds
  w2 ← stopping Overflow (call told (modified v delegator shares) (over_view (sent (account.User delegator) (account.Module NotBonded) coins) w1))
  Ok (tt, w2)

-- Shares are unbonded, and then more, behind the log of the first. Answers what goes out with the last.
abbrev pub unbonded_twice : {W E : Type 0} → (ℕ → W → Result (ℕ × W) E) → ℕ → ℕ → W → Result (ℕ × W) E
unbonded_twice unbond part more w = do
  (out, w1) ← unbond part w
  unbond more w1

-- there is a validator that is not unbonded
abbrev pub can_be_slashed : Option Validator → Bool
can_be_slashed None = false
can_be_slashed (Some v) = not (is_unbonded v.status)

-- there is a validator that is neither unbonded nor jailed
abbrev pub can_be_jailed : Option Validator → Bool
can_be_jailed None = false
can_be_jailed (Some v) = not (is_unbonded v.status) && not v.jailed

-- there is an info that is not banned for ever
abbrev pub can_be_banned : Option SigningInfo → Bool
can_be_banned None = false
can_be_banned (Some i) = not i.tombstoned

-- the account from which a validator's tokens are owed
abbrev pub account_of : BondStatus → Module
account_of status = if is_bonded status then Bonded else NotBonded

-- A validator's tokens, which were there, burned from that account, and the bank is still in order.
pub record IsOwnBurnt (v : Validator) (old new : View) : Type 0 where
  pub enough : v.tokens ≤ balance_of old.bank (account.Module (account_of v.status)) old.ctx.params.bond_denom
  pub view : new ≡ burnt (account_of v.status) old.ctx.params.bond_denom v.tokens old
  pub backed : IsBacked new.bank

-- the same of a validator that may not be there
abbrev pub IsBurntIfKnown : Option Validator → View → View → Type 0
IsBurntIfKnown None old new = new ≡ old
IsBurntIfKnown (Some v) old new = IsOwnBurnt v old new
