use Rattle.std.specs.Prelude.{All}
use Rattle.rule_modules.specs.Sound.{PurseIsSound}
use Rattle.store_resuming.proofs.telling.tell_purses.Given as goal

abbrev pub invariant-loop-purse : goal.invariant-loop-purse
invariant-loop-purse l = All (λ e. PurseIsSound e.1) l.purse-iterator → All (λ e. PurseIsSound e.1) l.purses.entries
