use Rattle.std.proofs.Common.{◌^◌, ◌<◌, ◌∙◌, refl, subst, sym, arith, IsOk}
use Rattle.mod_statement.proofs.Rounded.{part_cut_fits}
use Rattle.mod_statement.proofs.rounding.part_cut.Goals as goal

pub unwrap-requires : goal.unwrap-requires
unwrap-requires c =
    let limit : c.args.amount < 10 ^ 38 = omega arith in
    subst IsOk (sym (c.mul_int_quo_int.ensures ∙ part_cut_fits c.args.amount c.args.part c.args.whole limit c.requires.within c.requires.positive)) refl
