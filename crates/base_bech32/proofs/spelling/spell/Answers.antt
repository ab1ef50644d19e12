use Rattle.std.proofs.Common.{◌∙◌, ◌<◌, ap, sym, arith, encode_utf8, slice_index, take, ◌++◌}
use Rattle.std.proofs.lemmas.{List.take_more, Slice.pushed}
use Rattle.base_bech32.proofs.SpellingLemmas.{character_is_ascii, prefix_is_short}
use Rattle.base_bech32.proofs.spelling.spell.Goals as goal

pub letters-preserved : goal.letters-preserved
letters-preserved c =
    let out = c.spell_into-end.new.out in
    let i = c.letters.i in
    let low : slice_index out i < 128 =
    character_is_ascii c.args.prefix.now c.args.bytes.now out _ i c.spell_into-end.result c.requires c.spell_into-end.ensures.text c.spell_into-end.ensures.length c.letters-test.true in
    pushed (encode_utf8 (slice_index out i)) c.letters.invariant c.in_ok-push.was c.push.ensures.bytes
    ∙ ap (λ l. take i out ++ l) (c.push.ensures.ascii low)
    ∙ sym (take_more out i 0 (omega (arith, prefix_is_short c.args.prefix.now c.requires, c.spell_into-end.ensures.length)))
