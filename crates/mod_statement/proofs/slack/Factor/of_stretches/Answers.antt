use Rattle.std.proofs.Common.{◌≡◌, ◌+◌, true, sym, subst, arith}
use Rattle.std.proofs.lemmas.{List.Elements.All-drop, Result.err_from_is_err_and}
use Rattle.mod_statement.{specs.Entries.{AreBehind, is_behind}, proofs.Stretches.stretch_behind}
use Rattle.mod_statement.proofs.Walks.{stretches_begin, stretch_step, stretch_stop, stretch_end}
use Rattle.mod_statement.proofs.slack.Factor.of_stretches.Goals as goal

pub with_stretch-requires : goal.with_stretch-requires
with_stretch-requires c = subst AreBehind (sym c.first_stretch.ensures) (stretch_behind c.args.entries.now c.requires)

pub returns-in_err-begun : goal.returns-in_err-begun
returns-in_err-begun c =
    let p = err_from_is_err_and c.from_residual.result c.from_residual.ensures.1 in
    rw (p.1, p.2) (sym (stretches_begin c.args.denom.now c.args.first c.decimal-zero.result c.args.entries.now c.first_stretch.result.now _ c.first_stretch.ensures c.decimal-zero.ensures
    c.in_err-begun.ensures))

pub loop-place-init : goal.loop-place-init
loop-place-init c = record {
  so_far = stretches_begin c.args.denom.now c.args.first c.decimal-zero.result c.args.entries.now c.first_stretch.result.now _ c.first_stretch.ensures c.decimal-zero.ensures c.in_ok-begun.ensures;
  small = omega arith;
}

pub behind-requires : goal.behind-requires
behind-requires c = record {
  behind = subst AreBehind (sym c.split_at.ensures.back) (All-drop (λ e. is_behind e ≡ true) (c.loop-place.place + 1) c.args.entries.now c.requires);
  room = omega (arith, c.loop-place.invariant.small);
}

pub returns-in_err-factor : goal.returns-in_err-factor
returns-in_err-factor c =
    let p = err_from_is_err_and c.from_residual-in_err-factor.result c.from_residual-in_err-factor.ensures.1 in
    rw (p.1, p.2) (sym (stretch_stop c.args.denom.now c.args.first c.loop-place.number _ c.loop-place.factor c.args.entries.now c.loop-place.place c.index-entries-place.result
    c.split_at.result.1.now c.in_err-factor.field-0.0 (omega (arith, c.loop-place-test.true)) c.index-entries-place.is c.split_at.ensures.back (sym c.in_err-factor.ensures)
    c.loop-place.invariant.so_far))

pub loop-place-preserved : goal.loop-place-preserved
loop-place-preserved c = record {
  so_far = stretch_step c.args.denom.now c.args.first c.loop-place.number c.next_number-number.result _ c.loop-place.factor c.in_ok-factor.factor c.args.entries.now c.loop-place.place
      c.index-entries-place.result c.split_at.result.1.now (omega (arith, c.loop-place-test.true)) c.index-entries-place.is c.split_at.ensures.back (sym c.in_ok-factor.ensures)
      c.next_number-number.ensures.number c.loop-place.invariant.so_far;
  small = omega (arith, c.next_number-number.ensures.most, c.loop-place.invariant.small);
}

pub returns : goal.returns
returns c =
    sym (stretch_end c.args.denom.now c.args.first c.loop-place.number _ c.loop-place.factor c.args.entries.now c.loop-place.place (omega (arith, c.loop-place-test.false))
    c.loop-place.invariant.so_far)
