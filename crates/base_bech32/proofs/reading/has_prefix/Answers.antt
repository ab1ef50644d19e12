use Rattle.std.proofs.Common.{◌∙◌, sym, ap, ◌&&◌, ◌==◌, length, slice_index}
use Rattle.base_bech32.proofs.SpellingLemmas.{prefix_tested}
use Rattle.base_bech32.proofs.reading.has_prefix.Goals as goal

pub returns-then-eq : goal.returns-then-eq
returns-then-eq c =
    ap (λ b. b && (slice_index c.args.text.now (length c.args.prefix.now) == 49)) (sym c.if-eq.true ∙ c.eq.ensures)
    ∙ prefix_tested c.args.prefix.now c.args.text.now 49 c.if-text-end.false

pub returns-else-eq : goal.returns-else-eq
returns-else-eq c =
    c.if-eq.false ∙ ap (λ b. b && (slice_index c.args.text.now (length c.args.prefix.now) == 49)) (sym c.if-eq.false ∙ c.eq.ensures)
    ∙ prefix_tested c.args.prefix.now c.args.text.now 49 c.if-text-end.false
