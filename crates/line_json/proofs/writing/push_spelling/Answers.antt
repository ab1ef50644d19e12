use Rattle.std.proofs.Common.{◌≡◌, ◌∙◌, sym, take, IsUtf8}
use Rattle.std.proofs.lemmas.Str.{IsUtf8-from_ascii}
use Rattle.base_bech32.{specs.Spelling.spelling_of, proofs.SpellingLemmas.{length-spelling_of, spelling_is_ascii}}
use Rattle.line_json.proofs.TextLemmas.{front_of, read_as_text}
use Rattle.line_json.proofs.writing.push_spelling.Goals as goal

pub unwrap-text-requires : goal.unwrap-text-requires
unwrap-text-requires c =
    let spelling = spelling_of c.args.prefix.now c.args.bytes.now in
    let written : take c.spell_into-len.result c.spell_into-len.new.out ≡ spelling
    = front_of spelling _ _ _ (c.spell_into-len.ensures.length ∙ sym (length-spelling_of c.args.prefix.now c.args.bytes.now)) c.spell_into-len.ensures.text in
    let text : IsUtf8 (take c.spell_into-len.result c.spell_into-len.new.out)
    = rw written (IsUtf8-from_ascii spelling (spelling_is_ascii c.args.prefix.now c.args.bytes.now c.requires)) in
    read_as_text _ _ c.from_utf8.result text c.from_utf8.ensures.cases
