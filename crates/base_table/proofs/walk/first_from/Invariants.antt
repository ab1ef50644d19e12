use Rattle.std.proofs.Common.{◌≡◌}
use Rattle.std.specs.{BTreeMap.Range.entries_between, Range.Bound.bound_map, declared.ops.Bound.TheVariants.Unbounded}
use Rattle.base_table.specs.{Places.{filled, slots}, Tabled.first_of}
use Rattle.base_table.proofs.walk.first_from.Given as goal

abbrev pub invariant-loop-stored : goal.invariant-loop-stored
invariant-loop-stored g l = first_of (filled (slots l.stored-iterator)) ≡ first_of (entries_between g.K.Ord.cmp (bound_map (λ key. key.now) l.start) Unbounded (filled (slots l.tree.entries)))
