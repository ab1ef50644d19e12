use Rattle.std.proofs.Common.{◌≡◌, ◌∙◌, ◌+◌, drop, length, refl, sym, ap, subst, arith}
use Rattle.rule_modules.specs.EntrySlashes.{redelegation_made}
use Rattle.base_roles.specs.declared.entities.RedelegationEntry.{RedelegationEntry}
use Rattle.mod_entries.specs.{Kept.Kept, Walked.{keys_where, is_due, mature_entries}}
use Rattle.mod_entries.proofs.{CountLemmas.{next_of, drop_end}, DueLemmas.due_few}
use Rattle.mod_redelegation.specs.Calls.{AreSoundLists}
use Rattle.mod_redelegation.proofs.CompletedLemmas.{completed_at, completed-next, completed-end, completed-due, length_next, cost-first, cost-next, cost-all}
use Rattle.mod_redelegation.proofs.{EntryLemmas.completed-sound, OrderLemmas.Key}
use Rattle.mod_redelegation.proofs.redelegations.Redelegations.complete.Goals as goal

pub loop-key-init : goal.loop-key-init
loop-key-init g c =
    let keys = c.deref-key-items.result.now in
    let r = c.self.inside.entries.lists in
    let same : length keys ≡ length (keys_where (is_due redelegation_made c.args.now) r) = ap length (c.deref-key-items.ensures.value ∙ c.in_ok-keys.ensures.keys) in
    record {
      told = refl;
      entries = c.requires.entries;
      cost = cost-first c.due.new.steps c.args.steps.now (length keys) (length (keys_where (is_due redelegation_made c.args.now) r)) c.due.ensures.cost same;
      behind = refl;
      spent = refl;
    }

pub loop-key-preserved : goal.loop-key-preserved
loop-key-preserved g c =
    let now = c.args.now in
    let h = c.loop-key.invariant in
    let keys = c.deref-key-items.result.now in
    let key = c.key-item.result in
    let r1 = c.loop-key.self.lists in
    let rest = drop c.loop-key.key-index keys in
    let later = drop (c.loop-key.key-index + 1) keys in
    let left = next_of keys c.loop-key.key-index key c.loop-key-test.true c.key-item.is in
    let lists = ap (λ k. k.lists) c.in_ok-complete_at.ensures.lists in
    record {
      told = completed-next now rest later key r1 c.complete_at.new.self.lists left lists ∙ h.told;
      entries = subst AreSoundLists (sym lists) (completed-sound now r1 h.entries key);
      cost = cost-next c.loop-key.steps c.complete_at.new.steps c.args.steps.now (length keys) (length rest) (length later) h.cost (length_next rest later key left) c.complete_at.ensures.cost;
      behind = c.complete_at.ensures.behind ∙ h.behind;
      spent = ap (λ k. k.spent) c.in_ok-complete_at.ensures.lists ∙ h.spent;
    }

pub returns-clause-lists : goal.returns-clause-lists
returns-clause-lists g c =
    let now = c.args.now in
    let keys = c.deref-key-items.result.now in
    let r = c.args.self.now.lists in
    let rest = drop c.loop-key.key-index keys in
    sym (completed-end now rest c.loop-key.self.lists (drop_end keys c.loop-key.key-index c.loop-key-test.false))
    ∙ c.loop-key.invariant.told ∙ ap (λ ks. completed_at now ks r) (c.deref-key-items.ensures.value ∙ c.in_ok-keys.ensures.keys ∙ ap (λ (k : Kept Key RedelegationEntry). keys_where (is_due redelegation_made c.args.now) k.lists) c.self.view_is) ∙ completed-due now r c.requires.entries

pub returns-clause-entries : goal.returns-clause-entries
returns-clause-entries g c = c.loop-key.invariant.entries

pub returns-clause-cost : goal.returns-clause-cost
returns-clause-cost g c =
    let keys = c.deref-key-items.result.now in
    cost-all c.args.now c.args.self.now.lists c.loop-key.steps c.args.steps.now (length (drop c.loop-key.key-index keys)) keys (c.deref-key-items.ensures.value ∙ c.in_ok-keys.ensures.keys ∙ ap (λ (k : Kept Key RedelegationEntry). keys_where (is_due redelegation_made c.args.now) k.lists) c.self.view_is) c.loop-key.invariant.cost

pub returns-in_err-complete_at-clause-cost : goal.returns-in_err-complete_at-clause-cost
returns-in_err-complete_at-clause-cost g c =
    let keys = c.deref-key-items.result.now in
    let key = c.key-item.result in
    let rest = drop c.loop-key.key-index keys in
    let later = drop (c.loop-key.key-index + 1) keys in
    let left = next_of keys c.loop-key.key-index key c.loop-key-test.true c.key-item.is in
    cost-all c.args.now c.args.self.now.lists c.complete_at.new.steps c.args.steps.now (length later) keys (c.deref-key-items.ensures.value ∙ c.in_ok-keys.ensures.keys ∙ ap (λ (k : Kept Key RedelegationEntry). keys_where (is_due redelegation_made c.args.now) k.lists) c.self.view_is)
    (cost-next c.loop-key.steps c.complete_at.new.steps c.args.steps.now (length keys) (length rest) (length later) c.loop-key.invariant.cost (length_next rest later key left) c.complete_at.ensures.cost)

pub returns-in_err-keys-clause-cost : goal.returns-in_err-keys-clause-cost
returns-in_err-keys-clause-cost g c =
    let found = c.due.ensures.cost in
    let few = due_few redelegation_made c.args.now c.self.inside.entries.lists in
    let same = ap (λ (k : Kept Key RedelegationEntry). mature_entries redelegation_made c.args.now k.lists) c.self.view_is in
    omega (arith, found, few, same)
