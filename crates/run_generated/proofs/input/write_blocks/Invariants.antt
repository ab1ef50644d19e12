use Rattle.std.proofs.Common.{◌≡◌}
use Rattle.run_generated.{specs.{Input.blocks_of, Writing.blocks_text}, proofs.WritingLemmas.IsOnTheWay}
use Rattle.run_generated.proofs.input.write_blocks.Given as goal

abbrev pub invariant-loop-before : goal.invariant-loop-before
invariant-loop-before g l = record {
  told : IsOnTheWay l.form (g.K.Sink.written l.initial.sink) (g.K.Sink.written l.sink) l.before l.count l.generator (blocks_text l.form (blocks_of l.seed l.count));
  quiet : g.K.Sink.faults l.sink ≡ g.K.Sink.faults l.initial.sink;
}
