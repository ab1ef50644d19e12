use Rattle.std.proofs.Common.{◌∙◌, sym, subst}
use Rattle.mod_statement.{specs.Entries.AreBehind, proofs.Stretches.stretch_behind}
use Rattle.mod_statement.proofs.Walks.{factor_slash, factor_other}
use Rattle.mod_statement.proofs.slack.Factor.behind.Goals as goal

pub with_stretch-requires : goal.with_stretch-requires
with_stretch-requires c = subst AreBehind (sym c.first_stretch.ensures) (stretch_behind c.args.rest.now c.requires.behind)

pub returns-then-is_slash : goal.returns-then-is_slash
returns-then-is_slash c =
    factor_slash c.args.denom.now c.args.first c.args.number c.args.entry.now c.args.rest.now c.first_stretch.result.now c.args.self _
    (sym c.is_slash.ensures ∙ c.if-is_slash.true) c.first_stretch.ensures c.with_stretch.ensures

pub returns-else-is_slash : goal.returns-else-is_slash
returns-else-is_slash c =
    factor_other c.args.denom.now c.args.first c.args.number c.args.entry.now c.args.rest.now c.args.self (sym c.is_slash.ensures ∙ c.if-is_slash.false)
