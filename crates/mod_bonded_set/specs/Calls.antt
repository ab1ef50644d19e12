-- What a call over staking and hooks leaves whatever it answers. One that changes nothing may succeed where memory was wanting in
-- a change before.
use Rattle.std.specs.Prelude.{◌≡◌, ℕ, true, Result, OnOk}
use Rattle.base_roles.specs.declared.bank.Ground.{Ground}
use Rattle.base_roles.specs.Ground.{CanBeUndone}
use Rattle.mod_staking.specs.Registered.{Registered, behind}

-- What it leaves of the register.
pub record RegisterStays {A E : Type 0} (old new : Registered) (answer : Result A E) : Type 0 where
  -- the open marks, what stood at the last settling, and the tokens of one unit of power stay
  pub behind : behind new ≡ behind old
  -- once memory was wanting in a change, it stays so
  pub spent : old.spent ≡ true → new.spent ≡ true
  -- where the call succeeds, memory was not wanting in it
  pub unspent : OnOk answer (new.spent ≡ old.spent)

-- What it leaves of the ground, the hooks and the register.
pub record AllStays {B M H N A E : Type 0} (bank_marks : B → M) (most_steps : B → ℕ) (marks_of : H → N) (g g2 : Ground B) (hooks hooks2 : H) (old new : Registered) (answer : Result A E) : Type 0 where
  -- what it changed of the ground can be taken back
  pub undone : CanBeUndone bank_marks g g2
  -- the bank's touches for a coin stay
  pub bank : most_steps g2.bank ≡ most_steps g.bank
  -- the hooks' open marks stay
  pub hook_marks : marks_of hooks2 ≡ marks_of hooks
  -- what stands behind the records stays
  pub register : RegisterStays old new answer
