-- Redelegation entries: made by redelegating, and deleted when they are mature (`x/staking/keeper`:
-- `msgServer.BeginRedelegate`, `BeginRedelegation`, `CompleteRedelegation`).
use Rattle.std.specs.Prelude.{◌≡◌, Any, ℕ, ◌==◌, ◌&&◌, ◌||◌, not, Bool, nat_le, if◌then◌else◌, List, [], ◌∷◌, ◌++◌, length, filter, Option, Some, None, unwrap_or, is_none, Result, Ok, ⊤}
use Rattle.std.specs.List.{list_any}
use Rattle.base_coins.specs.declared.coin.Coin.{Coin}
use Rattle.base_shares.specs.Shares.{amount_out}
use Rattle.base_roles.specs.declared.entities.Validator.{Validator}
use Rattle.base_roles.specs.declared.entities.RedelegationEntry.{RedelegationEntry}
use Rattle.base_roles.specs.declared.params.Ctx.{Ctx}
use Rattle.base_roles.specs.declared.refusal.Refusal.{Refusal}
use Rattle.base_roles.specs.declared.refusal.Refusal.TheVariants.{WrongDenom, NonPositive, NoValidator, SelfRedelegation, Transitive, RedelegationsFull, TinyRedelegation, Overflow}
use Rattle.base_roles.specs.Entries.{at, with}
use Rattle.base_roles.specs.Orders.{triple_cmp, same_addr}
use Rattle.base_roles.specs.Staked.{Staked, validator_at, delegation, is_bonded}
use Rattle.base_roles.specs.Flow.{◌>>=◌, ◌>>◌, stop_if, or_stop, stopping}
use Rattle.base_roles.specs.World.{View, Told, World}
use Rattle.base_roles.specs.declared.calls.Hook.{Hook}
use Rattle.rule_modules.specs.Delegating.{is_wrong, pool, shares_given, delegated}
use Rattle.rule_modules.specs.Stakes.{is_unbonding}
use Rattle.rule_modules.specs.Unbonding.{shares_to_unbond, unbonded_shares}
use Rattle.rule_modules.specs.Unbondings.{completion, key_then}

-- the entries of each delegator, source and target, in the order of making; no key has none
abbrev pub RedelegationLists : Type 0
RedelegationLists = List ((List ℕ × List ℕ × List ℕ) × List RedelegationEntry)

-- the entries of a delegator, a source and a target
abbrev pub redelegations_of : RedelegationLists → List ℕ → List ℕ → List ℕ → List RedelegationEntry
redelegations_of r delegator source target = unwrap_or (at triple_cmp r (delegator, source, target)) []

-- Some entry of the delegator has the source as its target (`HasReceivingRedelegation`).
abbrev pub IsTransitive : RedelegationLists → List ℕ → List ℕ → Type 0
IsTransitive r delegator source = Any (λ e. (e.0.0 ≡ delegator) × (e.0.2 ≡ source)) r

-- the same as a test
abbrev pub is_transitive : RedelegationLists → List ℕ → List ℕ → Bool
is_transitive r delegator source = list_any (λ e. same_addr e.0.0 delegator && same_addr e.0.2 source) r

-- The height and the completion of an entry (`getBeginInfo`): those of now where the source is bonded or gone, those
-- of the source's own unbonding where it unbonds, and no entry where it is unbonded.
abbrev pub begin_info : Validator → Bool → Ctx → Option (ℕ × ℕ)
begin_info source gone c =
    if is_bonded source.status || gone then Some (c.height, completion c)
    else if is_unbonding source.status then Some (source.unbonding_height, source.unbonding_time)
    else None

-- One entry more, where there is one; never merged (`SetRedelegationEntry`).
abbrev pub appended : List ℕ → List ℕ → List ℕ → Option (ℕ × ℕ) → ℕ → ℕ → RedelegationLists → RedelegationLists
appended delegator source target None amount shares r = r
appended delegator source target (Some t) amount shares r =
    let entry : RedelegationEntry = record { created = t.0; completes = t.1; initial = amount; shares_dst = shares } in
    with triple_cmp r (delegator, source, target) (redelegations_of r delegator source target ++ entry ∷ [])

module _ {H : Type 0} (told : H → Hook → View → Told H) where
  -- Redelegating: shares are unbonded at the source, and what goes out is delegated to the target from the account of
  -- the source's status (`BeginRedelegation`). The target's conditions are judged before anything changes.
  abbrev pub redelegated : List ℕ → List ℕ → List ℕ → Coin → RedelegationLists → World Staked H → Result (⊤ × RedelegationLists × World Staked H) Refusal
  redelegated delegator source target coin r w = do
    stop_if (coin.amount == 0) NonPositive
    v ← or_stop (validator_at w.mine source) NoValidator
    (held, part) ← shares_to_unbond (delegation w.mine delegator source) v coin.amount
    stop_if (is_wrong coin w.view) WrongDenom
    stop_if (same_addr source target) SelfRedelegation
    t ← or_stop (validator_at w.mine target) NoValidator
    stop_if (is_transitive r delegator source) Transitive
    stop_if (nat_le w.view.ctx.params.max_entries (length (redelegations_of r delegator source target))) RedelegationsFull
    let amount = amount_out v.tokens v.shares part
    stop_if (amount == 0) TinyRedelegation
    shares_given t amount
    (out, w1) ← stopping Overflow (unbonded_shares told v delegator held part w)
    (issued, w2) ← delegated told t delegator out (pool v.status) w1
    let gone = is_none (validator_at w1.mine source)
    Ok (tt, appended delegator source target (begin_info v gone w.view.ctx) out issued r, w2)

-- All mature entries go (`CompleteRedelegation`).
abbrev pub redelegations_completed : ℕ → RedelegationLists → RedelegationLists
redelegations_completed now [] = []
redelegations_completed now (p ∷ ps) =
    key_then p.0 (filter (λ e. not (nat_le e.completes now)) p.1) (redelegations_completed now ps)
