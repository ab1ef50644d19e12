-- The slash of one entry: what it takes of the entries that follow, and then of the target's shares.
use Rattle.std.proofs.Common.{◌≡◌, ◌∙◌, ℕ, List, refl, sym, ap, Result, Ok, Err}
use Rattle.std.specs.Prelude.{⊤}
use Rattle.base_decimals.specs.declared.over.Over.{Over}
use Rattle.base_roles.specs.declared.{entities.RedelegationEntry.RedelegationEntry, faults.HookFault.HookFault}
use Rattle.base_roles.specs.{Lent.{Unbonds, Following, IsAsTold}, Staked.validator_at, Flow.{◌>>=◌}}
use Rattle.base_roles.specs.World.{View, World}
use Rattle.base_roles.specs.declared.faults.HookFault.TheVariants as hook
use Rattle.rule_modules.specs.Answers.{Leaves}
use Rattle.rule_modules.specs.EntrySlashes.{part_of, part_left, burned_at_target, shares_hit, entry_hit}
use Rattle.mod_redelegation.specs.Scenes.{LeavesBoth}

module _ {D H U : Type 0} (lent : Unbonds D H) (unbondings : Following U) (delegator target : List ℕ) (factor : ℕ) (e : RedelegationEntry) (u : U) (w : World D H) where
  -- what it does at the target, for a part of the shares, behind the entries that follow
  abbrev pub at_target : U → View → ℕ → Result (U × World D H) Over
  at_target u1 v1 part =
      burned_at_target lent (validator_at (lent.stake w.mine) target) delegator (shares_hit lent delegator target part (record w { view = v1 })) (record w { view = v1 }) >>= λ w2. Ok (u1, w2)

  abbrev behind : ℕ × U × View → Result (U × World D H) Over
  behind p = part_left factor e.shares_dst (part_of factor e.initial) p.0 >>= λ part. at_target p.1 p.2 part

  pub hit-is : (lost : ℕ) (u1 : U) (v1 : View) (part : ℕ) → IsAsTold (unbondings.follow delegator target e.created (part_of factor e.initial) u w.view) u1 v1 lost → part_left factor e.shares_dst (part_of factor e.initial) lost ≡ Ok part
      → entry_hit lent unbondings delegator target factor e u w ≡ at_target u1 v1 part
  hit-is lost u1 v1 part f g = sym (λ i. behind (f.0 i, f.1 i, f.2 i)) ∙ ap (λ r. r >>= λ x. at_target u1 v1 x) g

-- the answer of what it does at the target
pub leaves_both : {D H U : Type 0} (r : Result (World D H) Over) (u : U) (d : D) (holds : H → Type 0) (v : View) (answer : Result ⊤ HookFault) → Leaves r d holds v answer → LeavesBoth (r >>= λ w. Ok (u, w)) u d holds v answer
leaves_both (Ok w) u d holds v (Ok x) l = (refl, l.0, l.1, l.2)
leaves_both (Ok w) u d holds v (Err fault) l = l
leaves_both (Err due) u d holds v (Ok x) l = absurd l
leaves_both (Err due) u d holds v (Err fault) l = l

pub both_no_memory : {D H U : Type 0} (r : Result (U × World D H) Over) (u : U) (d : D) (holds : H → Type 0) (v : View) → LeavesBoth r u d holds v (Err hook.NoMemory)
both_no_memory (Ok p) u d holds v = tt
both_no_memory (Err due) u d holds v = tt
