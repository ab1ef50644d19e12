use Rattle.std.proofs.Common.{refl, sym, subst, IsOk}
use Rattle.mod_slashing.proofs.AmountLemmas.{quotient-is, fraction-is, fraction-few}
use Rattle.mod_slashing.proofs.amounts.slash_fraction.Goals as goal

pub unwrap-requires : goal.unwrap-requires
unwrap-requires c = subst IsOk (sym (quotient-is c.args.burned c.args.tokens c.part_of.result c.requires.within c.requires.some c.part_of.ensures)) refl

pub returns-clause-value : goal.returns-clause-value
returns-clause-value c = fraction-is c.args.burned c.args.tokens c.part_of.result c.requires.within c.requires.some c.part_of.ensures c.unwrap.result c.unwrap.ensures

pub returns-clause-most : goal.returns-clause-most
returns-clause-most c = fraction-few c.args.burned c.args.tokens c.part_of.result c.requires.within c.requires.some c.part_of.ensures c.unwrap.result c.unwrap.ensures
