use Rattle.std.proofs.Common.{◌≡◌, ◌∙◌, sym, take}
use Rattle.base_bech32.{specs.Spelling.spelling_of, proofs.SpellingLemmas.length-spelling_of}
use Rattle.line_json.proofs.{KeptLemmas.spelling_kept, TextLemmas.front_of}
use Rattle.line_json.proofs.pieces.push_spelling.Goals as goal

pub push_kept-requires : goal.push_kept-requires
push_kept-requires c =
    let spelling = spelling_of c.args.prefix.now c.args.bytes.now in
    let written : take c.spell_into-len.result c.spell_into-len.new.out ≡ spelling
    = front_of spelling _ _ _ (c.spell_into-len.ensures.length ∙ sym (length-spelling_of c.args.prefix.now c.args.bytes.now)) c.spell_into-len.ensures.text in
    rw written (spelling_kept c.args.prefix.now c.args.bytes.now c.requires)
