use Rattle.std.proofs.Common.{◌≡◌, subst, OnOk}
use Rattle.base_roles.specs.declared.entities.Historical.{Historical}
use Rattle.base_table.specs.Tabled.{with_value}
use Rattle.mod_periods.specs.Kept.{period_cmp}
use Rattle.mod_periods.proofs.tables.put_copy.Goals as goal

pub returns-clause-ok : goal.returns-clause-ok
returns-clause-ok g c = subst (λ (h : Historical). OnOk c.put.result (c.put.new.self ≡ with_value period_cmp c.args.historical.now c.args.key.now h)) c.in_ok-copy.ensures.same c.put.ensures.ok
