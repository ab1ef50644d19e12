use Rattle.std.proofs.Common.{◌≡◌, take, false}
use Rattle.line_json.specs.Members.{is_among, texts_of}
use Rattle.line_json.proofs.names.is_among.Given as goal

abbrev pub invariant-loop-known : goal.invariant-loop-known
invariant-loop-known l = is_among (texts_of (take l.known-index l.names)) l.name ≡ false
