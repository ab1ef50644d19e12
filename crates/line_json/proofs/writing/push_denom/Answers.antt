use Rattle.std.specs.Str.{IsUtf8}
use Rattle.line_json.proofs.TextLemmas.{denom_is_utf8, read_as_text}
use Rattle.line_json.proofs.writing.push_denom.Goals as goal

pub unwrap-name-requires : goal.unwrap-name-requires
unwrap-name-requires c =
    let text : IsUtf8 c.bytes.result.now = denom_is_utf8 c.bytes.result.now c.bytes.ensures.name in
    read_as_text _ _ c.from_utf8.result text c.from_utf8.ensures.cases
