-- A genesis half way, over staking alone: what holds of validators and delegations while delegations are still to come, and hooks
-- that do nothing in the place of the machine's.
use Rattle.std.specs.Prelude.{◌≡◌, ◌+◌, ◌*◌, ◌^◌, ◌<◌, ◌≤◌, true, List, [], map, sum, All, IsSome}
use Rattle.std.specs.List.Sorted.{IsStrictlySortedBy}
use Rattle.std.specs.Map.{keys_of}
use Rattle.base_types.specs.declared.account.Account.TheVariants as account
use Rattle.base_types.specs.declared.account.Module.TheVariants as holder
use Rattle.base_types.specs.Orders.{addr_cmp}
use Rattle.base_roles.specs.Holdings.{balance_of}
use Rattle.base_roles.specs.Staked.{Staked, validator_at, other_tokens, is_unbonded}
use Rattle.base_roles.specs.World.{View, Told, World, gives}
use Rattle.base_roles.specs.declared.calls.Hook.{Hook}
use Rattle.base_messages.specs.declared.genesis.GenesisDelegation.{GenesisDelegation}

-- hooks that do nothing
abbrev pub no_hook : {H : Type 0} → H → Hook → View → Told H
no_hook h hook v = gives h v []

-- What holds of a genesis of which no condition holds, while these delegations are still to come: each is of something, to a
-- validator that stands; operators ascend, and each validator stands under its own; shares stand at their first rate; nobody
-- is bonded; the not-bonded account holds exactly the tokens that stand and those to come, which together are at most 10^18.
pub record IsStarting {H : Type 0} (rest : List GenesisDelegation) (w : World Staked H) : Type 0 where
  pub known : All (λ d. IsSome (validator_at w.mine d.validator)) rest
  pub positive : All (λ d. 0 < d.amount) rest
  pub ascend : IsStrictlySortedBy addr_cmp (keys_of w.mine.validators)
  pub operators : All (λ e. e.1.operator ≡ e.0) w.mine.validators
  pub rate : All (λ e. e.1.shares ≡ 10 ^ 18 * e.1.tokens) w.mine.validators
  pub unbonded : All (λ e. is_unbonded e.1.status ≡ true) w.mine.validators
  pub held : balance_of w.view.bank (account.Module holder.NotBonded) w.view.ctx.params.bond_denom ≡ other_tokens w.mine + sum (map (λ d. d.amount) rest)
  pub most : other_tokens w.mine + sum (map (λ d. d.amount) rest) ≤ 10 ^ 18
