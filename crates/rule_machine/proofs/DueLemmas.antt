-- What a block has that may follow a state.
use Rattle.std.proofs.Common.{◌≡◌, ℕ, ◌+◌, ◌≤◌, ◌<◌, ◌==◌, Bool, true, false, nat_lt, Some, None, Result, Ok, Err, refl, arith, ◌||◌, not, nat_le, if◌then◌else◌}
use Rattle.std.{specs.Prelude.⊤, proofs.lemmas.Bool.Decides.nat_tests}
use Rattle.base_roles.specs.{Ground.end_of_blocks, Flow.{◌>>◌}}
use Rattle.base_messages.specs.declared.{block.Block.Block, faults.BlockFault.BlockFault}
use Rattle.base_messages.specs.declared.faults.BlockFault.TheVariants.{BadHeight, BadTime}
use Rattle.rule_modules.specs.Chain.{State}
use Rattle.rule_machine.specs.{Blocks.block_fault, Machine.{stop_at, block_checked}}

at_most : (a b : ℕ) → nat_lt a b ≡ false → b ≤ a
at_most a b e = grind (arith, nat_tests)

-- its height is due, and its time no earlier than the last
pub record IsDue (b : Block) (w : State) : Type 0 where
  pub height : b.height ≡ w.view.ctx.height + 1
  pub time : w.view.ctx.time ≤ b.time
  pub before_end : b.time < end_of_blocks

due_by : (b : Block) (w : State) (x y z : Bool) → (b.height == w.view.ctx.height + 1) ≡ x → nat_lt b.time w.view.ctx.time ≡ y → nat_le end_of_blocks b.time ≡ z
    → stop_at (if not x then Some (BadHeight (w.view.ctx.height + 1)) else if y || z then Some (BadTime w.view.ctx.time) else None) ≡ Ok tt → IsDue b w
due_by b w false y z p q r e = absurd cc
due_by b w true true z p q r e = absurd cc
due_by b w true false true p q r e = absurd cc
due_by b w true false false p q r e = record { height = grind (arith, nat_tests); time = at_most b.time w.view.ctx.time q; before_end = before b.time r }
  where
    before : (t : ℕ) → nat_le end_of_blocks t ≡ false → t < end_of_blocks
    before t h = grind (arith, nat_tests)

first_ok : (r : Result ⊤ BlockFault) (next : Result ⊤ BlockFault) → (r >> next) ≡ Ok tt → r ≡ Ok tt
first_ok (Ok t) next e = refl
first_ok (Err fault) next e = absurd cc

pub is_due : (b : Block) (w : State) → block_checked b w ≡ Ok tt → IsDue b w
is_due b w e = due_by b w (b.height == w.view.ctx.height + 1) (nat_lt b.time w.view.ctx.time) (nat_le end_of_blocks b.time) refl refl refl (first_ok (stop_at (block_fault w.view.ctx.height w.view.ctx.time b)) _ e)
