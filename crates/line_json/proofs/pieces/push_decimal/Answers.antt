use Rattle.std.proofs.Common.{◌≡◌, take}
use Rattle.base_decimals.specs.Texts.{dec_text}
use Rattle.line_json.proofs.{KeptLemmas.dec_text_kept, TextLemmas.front_of}
use Rattle.line_json.proofs.pieces.push_decimal.Goals as goal

pub push_kept-requires : goal.push_kept-requires
push_kept-requires c =
    let written : take c.write_into-len.result c.write_into-len.new.out ≡ dec_text c.args.decimal = front_of (dec_text c.args.decimal) _ _ _ c.write_into-len.ensures.length c.write_into-len.ensures.text in
    rw written (dec_text_kept c.args.decimal)
