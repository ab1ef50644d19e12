use Rattle.std.proofs.Common.{◌≡◌, map}
use Rattle.store_soundness.specs.Ranges.{with_names}
use Rattle.store_soundness.proofs.names.add_balances.Given as goal

abbrev pub invariant-loop-place : goal.invariant-loop-place
invariant-loop-place l = with_names l.names.keys (map (λ e. e.0.1) l.place-iterator) ≡ with_names l.fn.names.keys (map (λ e. e.0.1) l.balances.entries)
