-- A chain between two blocks: what stays of it, and what it lists.
use Rattle.std.proofs.Common.{◌≡◌, Bool, List, [], Err, false, refl, sym, ap, subst}
use Rattle.base_roles.specs.{declared.{items.Item.Item, params.Ctx.Ctx}, Holdings.IsBacked, Items.AreChanges}
use Rattle.base_roles.specs.World.{View}
use Rattle.base_messages.specs.declared.faults.BlockFault.{BlockFault}
use Rattle.base_messages.specs.declared.faults.BlockFault.TheVariants as block
use Rattle.rule_modules.specs.Chain.{State}
use Rattle.mod_distribution.specs.Items as distr
use Rattle.rule_machine.specs.Items.{IsInKeyOrder, items_of}
use Rattle.chain_modules.specs.declared.modules.Modules.{Modules}
use Rattle.chain_modules.specs.Kept.{KeptState, Parts, StandsFor, kept_of, kept_over, parts_of, listener_of}
use Rattle.chain_modules.specs.{Marks.{AreAtRest, settled_of, settled_over}, Items.{items_of as module_items}}
use Rattle.chain_whole.{specs.{Answers.{HasStayed, LeavesChain}, Chained.chained}, proofs.ItemLemmas.items_are_kept}

-- modules that are settled and have no facts keep what was settled
pub settled_now : {E : Type 0} (m : Modules E) → settled_of m ≡ parts_of m → m.ground.facts ≡ [] → settled_over m.ground.ctx m ≡ kept_of m
settled_now m e f = λ i. kept_over (e i) m.ground.ctx (sym f i)

-- the same after settling, by what was kept before
pub settled_then : {E : Type 0} (old new : Modules E) → settled_of new ≡ parts_of old → kept_of new ≡ kept_of old → old.ground.facts ≡ [] → settled_over new.ground.ctx new ≡ kept_of old
settled_then old new e same f = λ i. kept_over (e i) (same i).view.ctx (sym f i)

-- what was settled stays over its context
pub settled_same : {E : Type 0} (old new : Modules E) (c : Ctx) → settled_of new ≡ settled_of old → settled_over c new ≡ settled_over c old
settled_same old new c e = ap (λ (p : Parts). kept_over p c []) e

-- after a fault that is not for memory nothing has changed
pub leaves_same : {E P : Type 0} (heard : E → P) (old new : Modules E) (c : Ctx) (fault : BlockFault) → (fault ≡ block.NoMemory → ⊥) → kept_of new ≡ kept_of old → settled_of new ≡ settled_of old → heard (listener_of new) ≡ heard (listener_of old)
    → LeavesChain heard (chained old c false) (chained new c false) (Err fault)
leaves_same heard old new c fault other k s h = by fault other
  where
    same : HasStayed heard (chained old c false) (chained new c false)
    same = record { kept = k; settled = settled_same old new c s; spent = refl; listener = h }

    by : (f : BlockFault) → (f ≡ block.NoMemory → ⊥) → LeavesChain heard (chained old c false) (chained new c false) (Err f)
    by (block.BadHeight due) n = (refl, same)
    by (block.BadTime last) n = (refl, same)
    by (block.UnknownVote place) n = (refl, same)
    by (block.RepeatedVote place) n = (refl, same)
    by (block.BadPower place) n = (refl, same)
    by (block.BadEvidence place) n = (refl, same)
    by (block.RatioLimit over) n = (refl, same)
    by block.NoMemory n = absurd (n refl)

-- the bank of modules at rest is in order
pub backed : {E : Type 0} (m : Modules E) → AreAtRest m → IsBacked m.ground.bank.holdings
backed m s = subst (λ (v : View). IsBacked v.bank) s.stands.keeps.view s.stands.sound.ground.bank

-- keys ascend in a state for which something stands
pub in_key_order : (k : KeptState) (p : State) → StandsFor k p → IsInKeyOrder p
in_key_order k p s = record {
  balances = s.sound.ground.bank.balances_ascend;
  supplies = s.sound.ground.bank.supplies_ascend;
  validators = s.sound.staked.validators_ascend;
  operators = s.sound.staked.operators;
  delegations = s.sound.staked.delegations_ascend;
  unbondings = s.sound.unbondings.ascend;
  redelegations = s.sound.redelegations.ascend;
  signing = s.sound.window.ascend;
  purses = s.sound.purses.ascend;
}

-- how two states differ for which something stands
pub changes_are_kept : (a b : KeptState) (p q : State) (changes : List (Item × Bool)) → distr.AreInOrder a.shared → distr.AreInOrder b.shared → StandsFor a p → StandsFor b q
    → AreChanges (module_items a) (module_items b) changes → AreChanges (items_of p) (items_of q) changes
changes_are_kept a b p q changes oa ob s t h =
    subst (λ l. AreChanges l (items_of q) changes) (items_are_kept a p oa s) (subst (λ l. AreChanges (module_items a) l changes) (items_are_kept b q ob t) h)
