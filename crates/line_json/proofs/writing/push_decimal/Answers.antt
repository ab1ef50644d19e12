use Rattle.std.proofs.Common.{◌≡◌, take, IsUtf8}
use Rattle.base_decimals.specs.Texts.{dec_text}
use Rattle.line_json.proofs.TextLemmas.{dec_text_is_utf8, front_of, read_as_text}
use Rattle.line_json.proofs.writing.push_decimal.Goals as goal

pub unwrap-digits-requires : goal.unwrap-digits-requires
unwrap-digits-requires c =
    let written : take c.write_into-len.result c.write_into-len.new.out ≡ dec_text c.args.decimal = front_of (dec_text c.args.decimal) _ _ _ c.write_into-len.ensures.length c.write_into-len.ensures.text in
    let text : IsUtf8 (take c.write_into-len.result c.write_into-len.new.out) = rw written (dec_text_is_utf8 c.args.decimal) in
    read_as_text _ _ c.from_utf8.result text c.from_utf8.ensures.cases
