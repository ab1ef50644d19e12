use Rattle.std.specs.Prelude.{◌<◌, ◌^◌, All}
use Rattle.store_resuming.proofs.telling.tell_all_shares.Given as goal

abbrev pub invariant-loop-v : goal.invariant-loop-v
invariant-loop-v l = All (λ e. e.1.shares < 10 ^ 38) l.v-iterator → All (λ e. e.1.shares < 10 ^ 38) l.validators.entries
