-- What modules need that stand for a sound state.
use Rattle.std.proofs.Common.{◌≡◌, ◌∙◌, ℕ, ◌+◌, ◌≤◌, true, max, Option, Some, None, refl, ap, subst, arith, if◌then◌else◌, is_some, is_eq}
use Rattle.base_types.specs.declared.account.Account.TheVariants as account
use Rattle.base_types.specs.declared.account.Module.TheVariants as holder
use Rattle.base_coins.proofs.Amounts.{itself}
use Rattle.base_roles.specs.{Ground.IsInOrder, Holdings.balance_of, Hooks.{Stand, Stands}}
use Rattle.base_roles.specs.Staked.{Staked, bonded_tokens, delegation, other_tokens, lists_of, validator_at}
use Rattle.base_roles.specs.{StakeChanges.{of_bond, HoldsStake}, World.View}
use Rattle.rule_modules.{proofs.SoundLemmas.to_points, specs.{Chain.{State, shared_in}, StepLaws.AreWhole}}
use Rattle.rule_modules.specs.{Owed.entry_balances, Sound.IsSound}
use Rattle.mod_staking.specs.{Calls.IsSoundStake, Scenes.{IsHooked, IsScene}}
use Rattle.mod_unbonding.specs.Calls as unbonding
use Rattle.mod_unbonding.specs.Scenes.{IsUnbondingScene}
use Rattle.mod_redelegation.specs.Calls as redelegate
use Rattle.mod_redelegation.specs.Scenes.{IsEntryScene}
use Rattle.mod_slashing.specs.Calls.{IsSoundCore}
use Rattle.mod_signing.specs.Stands.{IsKept}
use Rattle.mod_distribution.specs.{Heights.{last_below, sound_at_last}, Stands.KeepsShared}
use Rattle.mod_distribution.specs.Tells.{StartAtOperators, distribution_tells, last_height}
use Rattle.law_soundness.proofs.Points.{holds_coin}
use Rattle.chain_modules.specs.declared.modules.Modules.{Modules}
use Rattle.chain_modules.specs.Kept.{AreSet, IsStakeScene, Keeps, ground_of, hooks_hold, hooks_tell, kept_of}
use Rattle.chain_modules.proofs.HookLemmas.{held_as}

-- ---- a sound state

-- validators and delegations are sound
pub stakes_sound : (p : State) → IsSound p → IsSoundStake p.mine.staked
stakes_sound p s = (p.view.ctx.height, s.staked)

-- each delegation is at a validator that stands
known_at : (p : State) → IsSound p → StartAtOperators (lists_of p.mine.staked)
known_at p s who operator e = by (delegation p.mine.staked who operator) refl e
  where
    by : (o : Option ℕ) → delegation p.mine.staked who operator ≡ o → is_some o ≡ true → is_some (validator_at p.mine.staked operator) ≡ true
    by (Some n) f t = (to_points p.view.ctx.height p.mine.staked s.staked).existing (operator, who) n f
    by None f t = absurd cc

-- distribution stands for the operators and the delegations
pub distribution_stands : (p : State) → IsSound p → Stand distribution_tells (shared_in p) p.view (lists_of p.mine.staked)
distribution_stands p s = record {
  lists = record {
    stands = s.stands;
    started = known_at p s;
    purses = s.purses;
    rewards = sound_at_last (shared_in p).rewards p.view.ctx.height s.rewards;
    payees = s.payees;
  };
  owed = s.accounts.distribution;
  late = last_below (shared_in p).rewards p.view.ctx.height s.rewards;
  in_order = s.ground;
}

-- so do all hooks: the signing records stand for all lists, and owe nothing
pub hooks_stand : (window : ℕ) (p : State) → IsSound p → Stand hooks_tell (held_as window p.hooks) p.view (lists_of p.mine.staked)
hooks_stand window p s =
    let d = distribution_stands p s in
    record {
      lists = (d.lists, tt, refl);
      owed = d.owed;
      late = none_above (last_height (shared_in p).rewards) p.view.ctx.height d.late;
      in_order = d.in_order;
    }
  where
    none_above : (a h : ℕ) → a ≤ h → max a 0 ≤ h
    none_above a h l = omega (arith, l)

own_bond : (v : View) (n : ℕ) → of_bond v v.ctx.params.bond_denom n ≡ n
own_bond v n = ap (λ r. if is_eq r then n else 0) (itself v.ctx.params.bond_denom)

-- each staking account holds exactly what is owed from it
bonded_held : (p : State) → IsSound p → balance_of p.view.bank (account.Module holder.Bonded) p.view.ctx.params.bond_denom ≡ bonded_tokens p.mine.staked
bonded_held p s =
    holds_coin p.view (account.Module holder.Bonded) (bonded_tokens p.mine.staked) s.accounts.bonded p.view.ctx.params.bond_denom ∙ own_bond p.view (bonded_tokens p.mine.staked)

not_bonded_held : (p : State) → IsSound p → balance_of p.view.bank (account.Module holder.NotBonded) p.view.ctx.params.bond_denom ≡ other_tokens p.mine.staked + entry_balances p.mine.unbondings
not_bonded_held p s =
    holds_coin p.view (account.Module holder.NotBonded) (other_tokens p.mine.staked + entry_balances p.mine.unbondings) s.accounts.not_bonded p.view.ctx.params.bond_denom
    ∙ own_bond p.view (other_tokens p.mine.staked + entry_balances p.mine.unbondings)

same_at_least : (a b : ℕ) → b ≡ a → a ≤ b
same_at_least a b e = omega (arith, e)

first_at_least : (a c b : ℕ) → b ≡ a + c → a ≤ b
first_at_least a c b e = omega (arith, e)

second_at_least : (a c b : ℕ) → b ≡ a + c → c ≤ b
second_at_least a c b e = omega (arith, e)

pub all_held : (p : State) → IsSound p → HoldsStake p.view (bonded_tokens p.mine.staked) (other_tokens p.mine.staked + entry_balances p.mine.unbondings)
all_held p s = record {
  in_bonded = same_at_least (bonded_tokens p.mine.staked) _ (bonded_held p s);
  in_not_bonded = same_at_least (other_tokens p.mine.staked + entry_balances p.mine.unbondings) _ (not_bonded_held p s);
}

pub stake_held : (p : State) → IsSound p → HoldsStake p.view (bonded_tokens p.mine.staked) (other_tokens p.mine.staked)
stake_held p s = record {
  in_bonded = same_at_least (bonded_tokens p.mine.staked) _ (bonded_held p s);
  in_not_bonded = first_at_least (other_tokens p.mine.staked) (entry_balances p.mine.unbondings) _ (not_bonded_held p s);
}

-- for the entries alone
pub entries_held : (p : State) → IsSound p → HoldsStake p.view 0 (entry_balances p.mine.unbondings)
entries_held p s = record {
  in_bonded = nothing_below _;
  in_not_bonded = second_at_least (other_tokens p.mine.staked) (entry_balances p.mine.unbondings) _ (not_bonded_held p s);
}
  where
    nothing_below : (n : ℕ) → 0 ≤ n
    nothing_below n = omega arith

-- what staking keeps is sound, of plain entries
pub core_sound : (p : State) → IsSound p → IsSoundCore unbonding.AreSoundLists redelegate.AreSoundLists p.mine
core_sound p s = record { staked = stakes_sound p s; of_unbondings = (p.view.ctx.height, s.unbondings); of_redelegations = (p.view.ctx.height, s.redelegations) }

-- ---- modules that represent it

module _ {E : Type 0} (m : Modules E) (p : State) (k : Keeps (kept_of m) p) (s : IsSound p) where
  -- the same of the ground and of staking's records as they are kept
  over_kept : (P : View → Staked → Type 0) → P p.view p.mine.staked → P (ground_of m) m.stakes.staking.staked
  over_kept P h = subst (λ (c : Staked). P (ground_of m) c) (ap (λ c. c.staked) k.stakes) (subst (λ (v : View). P v p.mine.staked) k.view h)

  -- some plain value that the hooks hold stands for the lists
  pub stand_kept : Stands (hooks_hold m.hooks) hooks_tell (ground_of m) (lists_of m.stakes.staking.staked)
  stand_kept = (
    held_as m.ground.ctx.params.signed_blocks_window p.hooks,
    (
      (k.shared, k.signings),
      over_kept (λ v c. Stand hooks_tell (held_as m.ground.ctx.params.signed_blocks_window p.hooks) v (lists_of c)) (hooks_stand m.ground.ctx.params.signed_blocks_window p s),
    ),
  )

  -- and of distribution alone, for votes and evidence
  pub stand_shared : Stands (KeepsShared m.hooks.first.first.kept) distribution_tells (ground_of m) (lists_of m.stakes.staking.staked)
  stand_shared = (p.hooks.0, (k.shared, over_kept (λ v c. Stand distribution_tells p.hooks.0 v (lists_of c)) (distribution_stands p s)))

  pub hooked_kept : IsHooked hooks_tell (hooks_hold m.hooks) (ground_of m) m.stakes.staking.staked
  hooked_kept = record { sound = over_kept (λ v c. IsSoundStake c) (stakes_sound p s); stand = stand_kept }

  pub scene_kept : IsScene hooks_tell (hooks_hold m.hooks) (ground_of m) m.stakes.staking.staked
  scene_kept = record { hooked = hooked_kept; accounts = over_kept (λ v c. HoldsStake v (bonded_tokens c) (other_tokens c)) (stake_held p s) }

  pub stake_scene : AreSet m → IsStakeScene m
  stake_scene power = record { power = power; scene = scene_kept }

  pub unbonding_scene : IsUnbondingScene hooks_tell (hooks_hold m.hooks) (ground_of m) m.stakes.staking.staked m.stakes.unbondings.lists
  unbonding_scene = record {
    hooked = hooked_kept;
    entries = subst unbonding.AreSoundLists (ap (λ c. c.unbondings) k.stakes) (p.view.ctx.height, s.unbondings);
    accounts = subst (λ u. unbonding.HoldsEntries (ground_of m) m.stakes.staking.staked u) (ap (λ c. c.unbondings) k.stakes)
        (over_kept (λ v c. unbonding.HoldsEntries v c p.mine.unbondings) (all_held p s));
  }

  pub redelegation_scene : IsEntryScene hooks_tell (hooks_hold m.hooks) (ground_of m) m.stakes.staking.staked m.stakes.redelegations.lists
  redelegation_scene = record { staked = scene_kept; entries = subst redelegate.AreSoundLists (ap (λ c. c.redelegations) k.stakes) (p.view.ctx.height, s.redelegations) }

  -- the signing records stand for plain ones
  pub window_kept : IsKept m.ground.ctx.params.signed_blocks_window m.hooks.second.kept
  window_kept = (p.hooks.1, k.signings)

  -- entries of this height lost nothing to a slash
  pub whole_kept : AreWhole p → unbonding.AreWhole m.ground.ctx.height m.stakes.unbondings.lists
  whole_kept h = subst (λ u. unbonding.AreWhole m.ground.ctx.height u) (ap (λ c. c.unbondings) k.stakes) (subst (λ (v : View). unbonding.AreWhole v.ctx.height p.mine.unbondings) k.view h)

  -- the ground is in order, and the not-bonded account holds the balances of the entries
  pub ground_kept : IsInOrder (ground_of m)
  ground_kept = subst IsInOrder k.view s.ground

  pub entries_account : HoldsStake (ground_of m) 0 (entry_balances m.stakes.unbondings.lists)
  entries_account = subst (λ u. HoldsStake (ground_of m) 0 (entry_balances u)) (ap (λ c. c.unbondings) k.stakes) (subst (λ (v : View). HoldsStake v 0 (entry_balances p.mine.unbondings)) k.view (entries_held p s))
