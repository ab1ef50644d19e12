-- What rules of distribution need and leave, from its parts.
use Rattle.std.proofs.Common.{◌≡◌, ℕ, List, Some, refl}
use Rattle.base_roles.specs.{Ground.IsInOrder, Owing.{Lists, HoldsOwed}, World.View}
use Rattle.law_soundness.proofs.{Bank.AreHeld, Burns.total_in, Moves.{HooksFit, Leaves}, Points.SharedFits}
use Rattle.rule_modules.specs.{Distribution.Shared, Owed.owed_from_distribution}

module _ (P : List ℕ → Type 0) (T : List ℕ → ℕ) where
  pub fit_over : (v : View) (l : Lists) (d : Shared) → IsInOrder v → AreHeld P v.bank.balances → ((e : List ℕ) → total_in v e ≡ T e) → HoldsOwed (Some (owed_from_distribution d)) v → SharedFits P v.ctx.height l d → HooksFit P T v l d
  fit_over v l d order held total owed shared = record { ground = record { order = order; held = held; total = total }; owed = owed; shared = shared }

  -- the ground that a rule leaves is in order
  pub order_left : (v u : View) (l : Lists) (d : Shared) → Leaves P T v l d u → IsInOrder u
  order_left v u l d k = k.ground.order

  -- a rule that changes nothing
  pub leaves_same : (v : View) (l : Lists) (d : Shared) → HooksFit P T v l d → Leaves P T v l d v
  leaves_same v l d h = record { ctx = refl; ground = h.ground; bonded = λ e. refl; not_bonded = λ e. refl; owed = h.owed; shared = h.shared }
