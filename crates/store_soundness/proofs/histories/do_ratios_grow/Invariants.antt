use Rattle.std.proofs.Common.{◌≡◌, None, option_map}
use Rattle.std.specs.Map.Iter.{deref_pair}
use Rattle.store_soundness.specs.Histories.{do_ratios_grow}
use Rattle.store_soundness.proofs.histories.do_ratios_grow.Given as goal

abbrev pub invariant-loop-key : goal.invariant-loop-key
invariant-loop-key l = do_ratios_grow (option_map deref_pair l.last) l.key-iterator ≡ do_ratios_grow None l.histories.entries
