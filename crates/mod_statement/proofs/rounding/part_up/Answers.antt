use Rattle.std.proofs.Common.{◌^◌, ◌<◌, ◌∙◌, refl, subst, sym, arith, IsOk}
use Rattle.mod_statement.proofs.Rounded.{part_up_fits}
use Rattle.mod_statement.proofs.rounding.part_up.Goals as goal

pub unwrap-requires : goal.unwrap-requires
unwrap-requires c =
    let limit : c.args.amount < 10 ^ 38 = omega arith in
    subst IsOk (sym (c.quotient_up.ensures ∙ part_up_fits c.args.amount c.args.part c.args.whole limit c.requires.within c.requires.positive)) refl
