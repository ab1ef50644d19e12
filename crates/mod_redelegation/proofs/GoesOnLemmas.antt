-- What one call and another leave of the ground, the hooks and the lent delegations; and a burn behind an unbonding.
use Rattle.std.proofs.Common.{◌≡◌, ◌∙◌, ℕ, List, refl, ap, Ok, Err, Result}
use Rattle.base_decimals.specs.declared.over.Over.{Over}
use Rattle.base_roles.specs.declared.{bank.Ground.Ground, entities.Validator.Validator, faults.HookFault.HookFault}
use Rattle.base_roles.specs.{declared.params.Ctx.Ctx, Answers.Follows, Ground.CanBeUndone, Lent.Unbonds, Flow.{◌>>=◌}}
use Rattle.base_roles.specs.World.{View, World, burnt, over_view}
use Rattle.base_roles.specs.declared.faults.HookFault.TheVariants as hook
use Rattle.rule_modules.specs.{Answers.Leaves, Stakes.pool_of}
use Rattle.mod_entries.proofs.UndoneLemmas.{undone-none, undone-then}
use Rattle.mod_redelegation.specs.{Scenes.{LentGoesOn, BothGoOn}, Slashed.unbonded_burnt}

module _ {B M H N D O : Type 0} (bank_marks : B → M) (most_steps : B → ℕ) (hook_marks : H → N) (lent_marks : D → O) where
  pub goes-none : (g : Ground B) (hooks : H) (d : D) → LentGoesOn bank_marks most_steps hook_marks lent_marks g g hooks hooks d d
  goes-none g hooks d = record { undone = undone-none bank_marks g; bank = refl; hooks = refl; delegations = refl }

  -- a call that changes the ground alone behind one
  pub goes-burnt : (g g1 g2 : Ground B) (hooks hooks1 : H) (d d1 : D) → LentGoesOn bank_marks most_steps hook_marks lent_marks g g1 hooks hooks1 d d1 → CanBeUndone bank_marks g1 g2 → most_steps g2.bank ≡ most_steps g1.bank
      → LentGoesOn bank_marks most_steps hook_marks lent_marks g g2 hooks hooks1 d d1
  goes-burnt g g1 g2 hooks hooks1 d d1 a u t = record {
    undone = undone-then bank_marks g g1 g2 a.undone u;
    bank = t ∙ a.bank;
    hooks = a.hooks;
    delegations = a.delegations;
  }

-- the same of what is lent together
module _ {B M H N D O U P : Type 0} (bank_marks : B → M) (most_steps : B → ℕ) (hook_marks : H → N) (lent_marks : D → O) (entry_marks : U → P) where
  pub both_go-none : (g : Ground B) (hooks : H) (d : D) (u : U) → BothGoOn bank_marks most_steps hook_marks lent_marks entry_marks g g hooks hooks d d u u
  both_go-none g hooks d u = record { undone = undone-none bank_marks g; bank = refl; hooks = refl; delegations = refl; entries = refl }

  pub both_go-then : (g g1 g2 : Ground B) (hooks hooks1 hooks2 : H) (d d1 d2 : D) (u u1 u2 : U) → BothGoOn bank_marks most_steps hook_marks lent_marks entry_marks g g1 hooks hooks1 d d1 u u1
      → BothGoOn bank_marks most_steps hook_marks lent_marks entry_marks g1 g2 hooks1 hooks2 d1 d2 u1 u2 → BothGoOn bank_marks most_steps hook_marks lent_marks entry_marks g g2 hooks hooks2 d d2 u u2
  both_go-then g g1 g2 hooks hooks1 hooks2 d d1 d2 u u1 u2 a b = record {
    undone = undone-then bank_marks g g1 g2 a.undone b.undone;
    bank = b.bank ∙ a.bank;
    hooks = b.hooks ∙ a.hooks;
    delegations = b.delegations ∙ a.delegations;
    entries = b.entries ∙ a.entries;
  }

  -- a call that changes the ground and the entries before one
  pub both_go-followed : (g g1 g2 : Ground B) (hooks hooks2 : H) (d d2 : D) (u u1 : U) → CanBeUndone bank_marks g g1 → most_steps g1.bank ≡ most_steps g.bank → entry_marks u1 ≡ entry_marks u
      → LentGoesOn bank_marks most_steps hook_marks lent_marks g1 g2 hooks hooks2 d d2 → BothGoOn bank_marks most_steps hook_marks lent_marks entry_marks g g2 hooks hooks2 d d2 u u1
  both_go-followed g g1 g2 hooks hooks2 d d2 u u1 a t m b = record {
    undone = undone-then bank_marks g g1 g2 a b.undone;
    bank = b.bank ∙ t;
    hooks = b.hooks;
    delegations = b.delegations;
    entries = m;
  }

-- ---- answers

pub leaves_no_memory : {D H : Type 0} (r : Result (World D H) Over) (d : D) (holds : H → Type 0) (v : View) → Leaves r d holds v (Err hook.NoMemory)
leaves_no_memory (Ok w) d holds v = tt
leaves_no_memory (Err due) d holds v = tt

-- an unbonding exceeds, or wants memory
pub leaves_fault : {D H : Type 0} (r : Result (ℕ × World D H) Over) (f : ℕ × World D H → Result (World D H) Over) (d1 d : D) (holds1 holds : H → Type 0) (v1 v : View) (fault : HookFault)
    → Follows r d1 holds1 v1 (Err fault) → Leaves (r >>= f) d holds v (Err fault)
leaves_fault (Ok p) f d1 d holds1 holds v1 v (hook.Over over) l = absurd l
leaves_fault (Ok p) f d1 d holds1 holds v1 v hook.NoMemory l = leaves_no_memory (f p) d holds v
leaves_fault (Err due) f d1 d holds1 holds v1 v fault l = l

-- what went out burned
pub leaves_burnt : {D H : Type 0} (lent : Unbonds D H) (t : Validator) (delegator : List ℕ) (part : ℕ) (w : World D H) (d1 : D) (holds1 : H → Type 0) (v1 v2 : View) (out : ℕ)
    → Follows (lent.unbond delegator t.operator part w) d1 holds1 v1 (Ok out) → v1.ctx ≡ w.view.ctx → v2 ≡ burnt (pool_of t.status) v1.ctx.params.bond_denom out v1 → Leaves (unbonded_burnt lent t delegator part w) d1 holds1 v2 (Ok tt)
leaves_burnt {D} {H} lent t delegator part w d1 holds1 v1 v2 out f c e = by (lent.unbond delegator t.operator part w) f
  where
    denom : v1.ctx.params.bond_denom ≡ w.view.ctx.params.bond_denom
    denom = ap (λ (x : Ctx). x.params.bond_denom) c

    burn_of : ℕ × World D H → Result (World D H) Over
    burn_of q = Ok (over_view (burnt (pool_of t.status) w.view.ctx.params.bond_denom q.0) q.1)

    by : (r : Result (ℕ × World D H) Over) → Follows r d1 holds1 v1 (Ok out) → Leaves (r >>= burn_of) d1 holds1 v2 (Ok tt)
    by (Err due) l = absurd l
    by (Ok p) l = (l.1, l.2, e ∙ (λ i. burnt (pool_of t.status) (denom i) (l.0 i) (l.3 i)))
