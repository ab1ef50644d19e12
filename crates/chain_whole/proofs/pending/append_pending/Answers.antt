use Rattle.std.proofs.Common.{◌∙◌, List, [], ◌∷◌, ◌++◌, sym, ap, subst}
use Rattle.base_roles.specs.declared.items.Item.{Item}
use Rattle.base_messages.specs.declared.report.Pending.{Pending}
use Rattle.chain_whole.specs.Pending.{IsStanding, pending_of_item}
use Rattle.chain_whole.proofs.pending.append_pending.Goals as goal

pub pending_at-requires-clause-standing : goal.pending_at-requires-clause-standing
pending_at-requires-clause-standing g c = subst (IsStanding c.args.modules.now.stakes.staking.staked) c.in-Delegation.is c.requires.standing

pub returns-in_ok-push-in-Delegation : goal.returns-in_ok-push-in-Delegation
returns-in_ok-push-in-Delegation g c = λ p s.
    let old = c.args.list.now.items in
    ◌∙◌ {A = List Pending} c.in_ok-push-in-Delegation.ensures.items (◌∙◌ {A = List Pending} (ap (λ (x : Pending). old ++ x ∷ []) (c.in_ok-pending-in-Delegation.ensures p s)) (ap (λ (i : Item). old ++ pending_of_item p i) (sym c.in-Delegation.is)))
