-- What the calls of a slash act on, and what each leaves whatever it answers.
use Rattle.std.specs.Prelude.{◌≡◌, ℕ, ◌≤◌}
use Rattle.base_types.specs.declared.account.Account.TheVariants as account
use Rattle.base_roles.specs.declared.bank.Ground.{Ground}
use Rattle.base_roles.specs.declared.entities.Validator.{Validator}
use Rattle.base_roles.specs.Ground.{CanBeUndone}
use Rattle.base_roles.specs.Holdings.{balance_of}
use Rattle.base_roles.specs.World.{View}
use Rattle.rule_modules.specs.Stakes.{pool_of}
use Rattle.mod_staking.specs.Registered.{Registered, behind}

-- the account of a validator's status has its tokens
abbrev pub HasTokens : Validator → View → Type 0
HasTokens v w = v.tokens ≤ balance_of w.bank (account.Module (pool_of v.status)) w.ctx.params.bond_denom

-- What a call leaves of the ground, the hooks and the register whatever it answers.
pub record LeavesBehind {B M H N : Type 0} (bank_marks : B → M) (most_steps : B → ℕ) (marks_of : H → N) (g g2 : Ground B) (hooks hooks2 : H) (old new : Registered) : Type 0 where
  -- what it changed of the ground can be taken back
  pub undone : CanBeUndone bank_marks g g2
  -- the bank's touches for a coin stay
  pub bank : most_steps g2.bank ≡ most_steps g.bank
  -- the hooks' open marks stay
  pub hook_marks : marks_of hooks2 ≡ marks_of hooks
  -- what stands behind the records stays
  pub behind : behind new ≡ behind old
