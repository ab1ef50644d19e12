use Rattle.std.specs.Prelude.{All}
use Rattle.base_coins.specs.Coins.{IsMoney}
use Rattle.store_resuming.proofs.telling.tell_ratios.Given as goal

abbrev pub invariant-loop-history : goal.invariant-loop-history
invariant-loop-history l = All (λ h. IsMoney h.1.ratio) l.history-iterator → All (λ h. IsMoney h.1.ratio) l.histories.entries
