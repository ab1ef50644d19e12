use Rattle.std.proofs.Common.{sym, subst}
use Rattle.mod_periods.{specs.Stands.{KeepsRewards, no_rewards}, proofs.InitLemmas.none-kept}
use Rattle.mod_periods.proofs.f1.F1.new.Goals as goal

pub returns-clause-kept : goal.returns-clause-kept
returns-clause-kept c = subst (λ t. KeepsRewards t.kept no_rewards) (sym c.new.ensures) none-kept
