-- The scene that the calls of staking act on, and what each leaves of it whatever it answers.
use Rattle.std.specs.Prelude.{◌≡◌, ℕ, true, None, Result, OnOk, IsErr}
use Rattle.base_roles.specs.declared.bank.Ground.{Ground}
use Rattle.base_roles.specs.Ground.{CanBeUndone}
use Rattle.base_roles.specs.Hooks.{Tells, Stand, Stands, Keeps}
use Rattle.base_roles.specs.Staked.{Staked, lists_of, bonded_tokens, other_tokens}
use Rattle.base_roles.specs.StakeChanges.{HoldsStake}
use Rattle.base_roles.specs.World.{View}
use Rattle.mod_staking.specs.Registered.{Registered, behind}
use Rattle.mod_staking.specs.Calls.{IsSoundStake}

-- Staking's records are sound, and the hooks stand for them over this ground.
pub record IsHooked {H : Type 0} (tells : Tells H) (holds : H → Type 0) (v : View) (s : Staked) : Type 0 where
  -- the records are sound
  pub sound : IsSoundStake s
  -- some plain value that the hooks hold stands for the operators and the delegations
  pub stand : Stands holds tells v (lists_of s)

-- The same, and the two staking accounts hold what is owed to validators: the scene of a call that moves coins.
pub record IsScene {H : Type 0} (tells : Tells H) (holds : H → Type 0) (v : View) (s : Staked) : Type 0 where
  -- the records are sound, and the hooks stand for them
  pub hooked : IsHooked tells holds v s
  -- each staking account holds at least the tokens of its validators
  pub accounts : HoldsStake v (bonded_tokens s) (other_tokens s)

-- What a call leaves of the register whatever it answers.
pub record RegisterGoesOn {A E : Type 0} (old new : Registered) (answer : Result A E) : Type 0 where
  -- the open marks, what stood at the last settling, and the tokens of one unit of power stay
  pub behind : behind new ≡ behind old
  -- once memory was wanting in a change, it stays so
  pub spent : old.spent ≡ true → new.spent ≡ true
  -- and the call fails
  pub spent_answer : old.spent ≡ true → IsErr answer
  -- where the call succeeds, memory was not wanting in it
  pub unspent : OnOk answer (new.spent ≡ old.spent)

-- What a call leaves of the ground, the hooks and the register whatever it answers.
pub record GoesOn {B M H N A E : Type 0} (bank_marks : B → M) (most_steps : B → ℕ) (marks_of : H → N) (g g2 : Ground B) (hooks hooks2 : H) (old new : Registered) (answer : Result A E) : Type 0 where
  -- what it changed of the ground can be taken back
  pub undone : CanBeUndone bank_marks g g2
  -- the bank's touches for a coin stay
  pub bank : most_steps g2.bank ≡ most_steps g.bank
  -- the hooks' open marks stay
  pub hook_marks : marks_of hooks2 ≡ marks_of hooks
  -- what stands behind the records stays, and once memory was wanting in a change it stays so, and the call fails
  pub register : RegisterGoesOn old new answer

-- A call that succeeds keeps what no hook changes, from each plain value that stands for the records.
abbrev pub KeepsAccounts : {H A E : Type 0} → Tells H → (H → Type 0) → Staked → View → View → Result A E → Type 0
KeepsAccounts {H} tells holds s v v2 answer = (h : H) → holds h → Stand tells h v (lists_of s) → OnOk answer (Keeps (tells.owes h ≡ None) v v2)
