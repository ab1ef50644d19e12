use Rattle.std.proofs.Common.{◌≡◌, true, subst, OnOk, OnErr, IsErr}
use Rattle.base_roles.specs.declared.entities.UnbondingEntry.{UnbondingEntry}
use Rattle.rule_modules.specs.Unbondings.{with_entries}
use Rattle.mod_entries.specs.Kept.{Kept, holding, spent_now}
use Rattle.mod_unbonding.{specs.Walked.Key, proofs.EntriesLemmas.with_list-is}
use Rattle.mod_unbonding.proofs.unbondings.Unbondings.set.Goals as goal

pub returns-clause-ok : goal.returns-clause-ok
returns-clause-ok g c =
    subst (λ (k : Kept Key UnbondingEntry). OnOk c.set.result (c.set.new.self ≡ holding (with_entries c.args.key.now.0 c.args.key.now.1 c.args.list k.lists) k)) c.self.view_is
    (subst (λ u. OnOk c.set.result (c.set.new.self ≡ holding u c.self.inside.entries)) (with_list-is c.args.key.now c.args.list c.self.inside.entries.lists) c.set.ensures.ok)

pub returns-clause-err : goal.returns-clause-err
returns-clause-err g c = subst (λ (k : Kept Key UnbondingEntry). OnErr c.set.result (c.set.new.self ≡ spent_now k)) c.self.view_is c.set.ensures.err

pub returns-clause-spent : goal.returns-clause-spent
returns-clause-spent g c = subst (λ (k : Kept Key UnbondingEntry). k.spent ≡ true → IsErr c.set.result) c.self.view_is c.set.ensures.spent
