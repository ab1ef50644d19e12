use Rattle.base_bech32.specs.declared.form.Form.TheVariants.{Bech32}
use Rattle.line_json.{specs.Addresses.bytes_in, proofs.CompactLemmas.word_spelled}
use Rattle.line_json.proofs.compact.spelling.Goals as goal

pub returns : goal.returns
returns c =
    word_spelled (bytes_in Bech32 c.args.prefix.now) c.in_ok-letters.letters.now c.in_ok-word.word.now c.in_ok-bytes.bytes c.in_ok-letters.ensures c.in_ok-word.ensures c.in_ok-bytes.ensures
