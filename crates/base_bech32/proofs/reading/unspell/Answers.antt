use Rattle.std.proofs.Common.{◌∙◌}
use Rattle.base_bech32.{specs.Reading.unspelled, proofs.SpellingLemmas.spelled_if_read}
use Rattle.base_bech32.proofs.reading.unspell.Goals as goal

pub returns-clause-spelling : goal.returns-clause-spelling
returns-clause-spelling c =
    spelled_if_read c.args.prefix.now c.args.text.now c.read.result
    (c.read.ensures ∙ (λ i. unspelled (c.as_bytes.ensures.value i) (c.as_bytes-2.ensures.value i)))
