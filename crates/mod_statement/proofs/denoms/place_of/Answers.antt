use Rattle.std.proofs.Common.{◌≡◌, ◌≤◌, ◌<◌, ◌∙◌, [], length, get_or, refl, sym, below_more, arith, Less, Equal, Greater}
use Rattle.base_types.specs.Orders.{denom_cmp}
use Rattle.mod_statement.proofs.Places.{put_at, stands_at, compared, put_last}
use Rattle.mod_statement.proofs.denoms.place_of.Goals as goal

pub loop-place-preserved : goal.loop-place-preserved
loop-place-preserved c =
    below_more (λ k. denom_cmp c.args.denom.now (get_or c.args.denoms.now k []) ≡ Greater) c.loop-place.place c.loop-place.invariant
    (compared c.args.denoms.now c.args.denom.now c.index-denoms-place.result c.loop-place.place Greater (omega (arith, c.loop-place-test.true)) c.index-denoms-place.is
    (sym c.cmp.ensures ∙ c.in-Greater.is))

pub returns-in-Less : goal.returns-in-Less
returns-in-Less c =
    let within : c.loop-place.place ≤ length c.args.denoms.now = omega (arith, c.loop-place-test.true) in (
      within,
      put_at c.args.denoms.now c.args.denom.now c.loop-place.place within c.loop-place.invariant
          (λ lt. compared c.args.denoms.now c.args.denom.now c.index-denoms-place.result c.loop-place.place Less lt c.index-denoms-place.is (sym c.cmp.ensures ∙ c.in-Less.is)),
    )

pub returns-in-Equal : goal.returns-in-Equal
returns-in-Equal c =
    let below : c.loop-place.place < length c.args.denoms.now = omega (arith, c.loop-place-test.true) in
    stands_at c.args.denoms.now c.args.denom.now c.loop-place.place below c.loop-place.invariant
    (compared c.args.denoms.now c.args.denom.now c.index-denoms-place.result c.loop-place.place Equal below c.index-denoms-place.is (sym c.cmp.ensures ∙ c.in-Equal.is))

pub returns : goal.returns
returns c =
    put_last c.args.denoms.now c.args.denom.now _ c.loop-place.place refl (omega (arith, c.loop-place-test.false)) c.loop-place.invariant
