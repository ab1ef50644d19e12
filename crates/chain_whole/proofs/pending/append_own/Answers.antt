use Rattle.std.proofs.Common.{◌≡◌, ◌∙◌, true, List, ◌++◌, sym, subst, OnOk}
use Rattle.base_messages.specs.declared.report.Pending.{Pending}
use Rattle.chain_whole.{specs.Pending.is_delegation_of, proofs.OwnLemmas.own_given}
use Rattle.chain_whole.proofs.pending.append_own.Goals as goal

pub returns : goal.returns
returns g c = λ p s.
    let who = c.args.who.now in
    let i = c.args.item.now in
    let is : is_delegation_of who i ≡ true = sym c.is_delegation_of.ensures ∙ c.if-not-is_delegation_of.false in
    subst (λ (l : List Pending). OnOk c.append_pending.result (c.append_pending.new.list.items ≡ c.args.list.now.items ++ l)) (sym (own_given p who i is)) (c.append_pending.ensures p s)
