use Rattle.std.proofs.Common.{◌≡◌, map, drop, ◌+◌, ◌≤◌}
use Rattle.json.specs.Tape.{node_token}
use Rattle.line_json.specs.Tape.{is_plain}
use Rattle.line_json.proofs.plain.is_plain.Given as goal

abbrev pub invariant-loop-node : goal.invariant-loop-node
invariant-loop-node l = record {
  same : is_plain l.room (map node_token (drop l.node-index l.nodes)) ≡ is_plain 127 (map node_token l.nodes);
  room_at_most : l.room ≤ 127 + l.node-index;
}
