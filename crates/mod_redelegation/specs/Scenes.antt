-- The scenes that the calls of redelegating act on, and what a slash leaves of its scene.
use Rattle.std.specs.Prelude.{◌≡◌, ℕ, ◌+◌, Result, ⊤}
use Rattle.base_decimals.specs.declared.over.Over.{Over}
use Rattle.base_roles.specs.declared.bank.Ground.{Ground}
use Rattle.base_roles.specs.declared.faults.HookFault.{HookFault}
use Rattle.base_roles.specs.Answers.{AsRuled, WantsMemory, ExceedsAs}
use Rattle.base_roles.specs.Ground.{CanBeUndone}
use Rattle.base_roles.specs.Hooks.{Tells, Stands}
use Rattle.base_roles.specs.Staked.{Staked, lists_of, bonded_tokens, other_tokens}
use Rattle.base_roles.specs.StakeChanges.{HoldsStake, StakeFalls, StillStand}
use Rattle.base_roles.specs.World.{View, World}
use Rattle.rule_modules.specs.Redelegations.{RedelegationLists}
use Rattle.mod_staking.specs.Scenes.{IsScene}
use Rattle.mod_redelegation.specs.Calls.{AreSoundLists}

-- Entries beside validators and delegations, over a ground.
pub record IsEntryScene {H : Type 0} (tells : Tells H) (holds : H → Type 0) (v : View) (s : Staked) (r : RedelegationLists) : Type 0 where
  -- staking's records are sound, the hooks stand for them, and the accounts hold what is owed to validators
  pub staked : IsScene tells holds v s
  -- the entries are sound
  pub entries : AreSoundLists r

-- Delegations that are lent to a slash, over a ground: of what they hold it is told whether it is sound.
pub record IsLentScene {H D : Type 0} (tells : Tells H) (holds : H → Type 0) (sound_of : D → Type 0) (stake : D → Staked) (v : View) (d : D) : Type 0 where
  -- their own condition holds
  pub sound : sound_of d
  -- some plain value that the hooks hold stands for the operators and the delegations
  pub stand : Stands holds tells v (lists_of (stake d))
  -- each staking account holds at least the tokens of its validators
  pub accounts : HoldsStake v (bonded_tokens (stake d)) (other_tokens (stake d))

-- The staking accounts and the supply fell as the tokens that are owed, and each validator that was not unbonded still stands.
pub record IsSlashed (old new : View) (s s2 : Staked) : Type 0 where
  pub falls : StakeFalls old new (bonded_tokens s) (other_tokens s) (bonded_tokens s2) (other_tokens s2)
  pub still : StillStand s s2

-- What a call leaves of the ground, the hooks and the lent delegations whatever it answers.
pub record LentGoesOn {B M H N D O : Type 0} (bank_marks : B → M) (most_steps : B → ℕ) (hook_marks : H → N) (lent_marks : D → O) (g g2 : Ground B) (h h2 : H) (d d2 : D) : Type 0 where
  -- what it changed of the ground can be taken back
  pub undone : CanBeUndone bank_marks g g2
  -- the bank's touches for a coin stay
  pub bank : most_steps g2.bank ≡ most_steps g.bank
  -- the open marks of the hooks and of the delegations stay
  pub hooks : hook_marks h2 ≡ hook_marks h
  pub delegations : lent_marks d2 ≡ lent_marks d

-- ---- delegations and unbonding entries together

-- Delegations and unbonding entries that are lent to a slash, over a ground: of what they hold it is told whether it is
-- sound, and what is owed to the entries.
pub record IsBothScene {H D U : Type 0} (tells : Tells H) (holds : H → Type 0) (sound_of : D → Type 0) (stake : D → Staked) (are_sound : U → Type 0) (owed : U → ℕ) (v : View) (d : D) (u : U) : Type 0 where
  -- their own conditions hold
  pub sound : sound_of d
  pub entries : are_sound u
  -- some plain value that the hooks hold stands for the operators and the delegations
  pub stand : Stands holds tells v (lists_of (stake d))
  -- each staking account holds at least the tokens of its validators, and the balances of the entries
  pub accounts : HoldsStake v (bonded_tokens (stake d)) (other_tokens (stake d) + owed u)

-- The staking accounts and the supply fell as what is owed to validators and to entries, and each validator that was not
-- unbonded still stands.
pub record AreBothSlashed (old new : View) (s s2 : Staked) (owed owed2 : ℕ) : Type 0 where
  pub falls : StakeFalls old new (bonded_tokens s) (other_tokens s + owed) (bonded_tokens s2) (other_tokens s2 + owed2)
  pub still : StillStand s s2

-- What a call leaves of all that it is lent whatever it answers.
pub record BothGoOn {B M H N D O U P : Type 0} (bank_marks : B → M) (most_steps : B → ℕ) (hook_marks : H → N) (lent_marks : D → O) (entry_marks : U → P) (g g2 : Ground B) (h h2 : H) (d d2 : D) (u u2 : U) : Type 0 where
  -- what it changed of the ground can be taken back
  pub undone : CanBeUndone bank_marks g g2
  -- the bank's touches for a coin stay
  pub bank : most_steps g2.bank ≡ most_steps g.bank
  -- the open marks of the hooks, the delegations and the entries stay
  pub hooks : hook_marks h2 ≡ hook_marks h
  pub delegations : lent_marks d2 ≡ lent_marks d
  pub entries : entry_marks u2 ≡ entry_marks u

-- What a call with no answer leaves of all that it is lent: what the rule gives, or its excess; or memory is wanting.
abbrev pub LeavesBoth : {U D H : Type 0} → Result (U × World D H) Over → U → D → (H → Type 0) → View → Result ⊤ HookFault → Type 0
LeavesBoth rule u d holds v answer =
    AsRuled rule answer (λ due a. (u ≡ due.0) × (d ≡ due.1.mine) × holds due.1.hooks × (v ≡ due.1.view)) WantsMemory ExceedsAs
