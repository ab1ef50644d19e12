use Rattle.std.proofs.Common.{◌∙◌, sym}
use Rattle.base_types.proofs.DenomLemmas.{length-denom, kept_name}
use Rattle.base_types.proofs.denom.Denom.of.Goals as goal

pub padded-requires : goal.padded-requires
padded-requires c = length-denom c.args.bytes.now (sym c.is_denom.ensures ∙ c.if-not-is_denom.false)

pub invariant_of-result : goal.invariant_of-result
invariant_of-result c =
    rw c.padded.ensures (kept_name c.args.bytes.now (sym c.is_denom.ensures ∙ c.if-not-is_denom.false))
