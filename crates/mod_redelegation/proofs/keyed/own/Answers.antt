use Rattle.std.proofs.Common.{◌∙◌, List, Bor, Option, Some, None, cond, sym, ap, option_map}
use Rattle.base_roles.specs.declared.entities.RedelegationEntry.{RedelegationEntry}
use Rattle.mod_redelegation.{specs.Own.own_entry, proofs.OrderLemmas.Key}
use Rattle.mod_redelegation.proofs.keyed.own.Goals as goal

pub returns-then-not-is_same : goal.returns-then-not-is_same
returns-then-not-is_same c =
    sym (ap (λ (x : Option (Bor Key × Bor (List RedelegationEntry))). own_entry c.args.delegator.now (option_map (λ (e : Bor Key × Bor (List RedelegationEntry)). (e.0.now, e.1.now)) x)) c.in_ok-key.was
    ∙ ap (λ b. cond b (Some (c.in_ok-key.key.now, c.in_ok-key.list.now)) None) (sym c.is_same.ensures ∙ c.if-not-is_same.true))

pub returns : goal.returns
returns c =
    sym (ap (λ (x : Option (Bor Key × Bor (List RedelegationEntry))). own_entry c.args.delegator.now (option_map (λ (e : Bor Key × Bor (List RedelegationEntry)). (e.0.now, e.1.now)) x)) c.in_ok-key.was
    ∙ ap (λ b. cond b (Some (c.in_ok-key.key.now, c.in_ok-key.list.now)) None) (sym c.is_same.ensures ∙ c.if-not-is_same.false))
