use Rattle.std.proofs.Common.{ℕ, ◌∙◌, ◌+◌, ◌++◌, ◌∷◌, [], append_assoc, drop, sym, ap}
use Rattle.base_roles.specs.declared.entities.UnbondingEntry.{UnbondingEntry}
use Rattle.rule_modules.specs.EntrySlashes.{entries_followed}
use Rattle.mod_unbonding.proofs.FollowedLemmas.{list-step}
use Rattle.mod_unbonding.proofs.following.followed.Goals as goal

pub loop-entry-preserved : goal.loop-entry-preserved
loop-entry-preserved c =
    let e = c.entry-item.result in
    let done = c.loop-entry.list.items in
    let later = (entries_followed c.args.from c.args.now c.saturating_sub-left.result (drop (c.loop-entry.entry-index + 1) c.args.entries.now)).1 in
    let step = list-step c.args.from c.args.now c.args.entries.now c.loop-entry.entry-index e c.loop-entry-test.true c.entry-item.is c.loop-entry.left c.part_followed-lost.result c.saturating_sub-left.result c.part_followed-lost.ensures c.saturating_sub-left.ensures in
    let left_with : ℕ → UnbondingEntry = λ b. record e { balance = b } in
    ap (λ l. l ++ later) c.in_ok-push.ensures.items ∙ append_assoc done (left_with c.saturating_sub.result ∷ []) later ∙ ap (λ b. done ++ left_with b ∷ later) c.saturating_sub.ensures ∙ ap (λ l. done ++ l) (sym step) ∙ c.loop-entry.invariant
