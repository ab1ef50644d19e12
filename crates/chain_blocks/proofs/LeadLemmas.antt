-- One part of a block after another.
use Rattle.std.proofs.Common.{Result, Ok, Err, sym, subst}
use Rattle.std.specs.Prelude.{⊤}
use Rattle.base_decimals.specs.declared.over.Over.{Over}
use Rattle.base_roles.specs.{declared.faults.HookFault.HookFault, Answers.WantsMemory, Flow.{◌>>=◌}}
use Rattle.base_roles.specs.declared.faults.HookFault.TheVariants as fault
use Rattle.rule_modules.specs.Chain.{State}
use Rattle.chain_modules.specs.Kept.{KeptState}
use Rattle.chain_blocks.{specs.Answers.Leads, proofs.BlockLemmas.part_done}

-- want of memory is never against a rule
wanting : (B : KeptState → State → Type 0) (q : Result State Over) (k : KeptState) (why : HookFault) → WantsMemory why → Leads B q k (Err why)
wanting B (Ok due) k why h = h
wanting B (Err over) k (fault.Over o) h = absurd h
wanting B (Err over) k fault.NoMemory h = tt

module _ (A B C : KeptState → State → Type 0) (f g : State → Result State Over) (k0 k1 k2 : KeptState) where
  -- the first part was carried out, and then the second
  pub then_leads : (answer : Result ⊤ HookFault) → ((p : State) → A k0 p → Leads B (f p) k1 (Ok tt)) → ((p : State) → B k1 p → Leads C (g p) k2 answer) → (p : State) → A k0 p → Leads C (f p >>= g) k2 answer
  then_leads answer one two p s =
      let a = part_done (f p) k1 B (one p s) in
      subst (λ r. Leads C (r >>= g) k2 answer) (sym a.1) (two a.0 a.2)

  -- the first part stopped
  pub stop_leads : (why : HookFault) → ((p : State) → A k0 p → Leads B (f p) k1 (Err why)) → (p : State) → A k0 p → Leads C (f p >>= g) k2 (Err why)
  stop_leads why one p s = by (f p) (one p s)
    where
      by : (r : Result State Over) → Leads B r k1 (Err why) → Leads C (r >>= g) k2 (Err why)
      by (Ok due) h = wanting C (g due) k2 why h
      by (Err over) h = h

-- the same in a weaker sense
pub weaker_leads : (B C : KeptState → State → Type 0) (r : Result State Over) (k : KeptState) (answer : Result ⊤ HookFault) → ((p : State) → B k p → C k p) → Leads B r k answer → Leads C r k answer
weaker_leads B C (Ok due) k (Ok a) w h = w due h
weaker_leads B C (Ok due) k (Err why) w h = h
weaker_leads B C (Err over) k (Ok a) w h = h
weaker_leads B C (Err over) k (Err why) w h = h
