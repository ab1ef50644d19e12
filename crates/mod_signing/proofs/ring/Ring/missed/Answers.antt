use Rattle.std.proofs.Common.{◌≡◌, ◌∙◌, ◌+◌, ◌<◌, cond, length, take, sym, ap, arith, length-take, take_all}
use Rattle.rule_modules.specs.Amounts.{count_where}
use Rattle.mod_signing.proofs.{InfoLemmas.few_set, LoopLemmas.{count_more, one_most}}
use Rattle.mod_signing.proofs.ring.Ring.missed.Goals as goal

pub at-requires : goal.at-requires
at-requires g c = let size : c.self.inside.places ≡ length c.args.self.now = sym c.self.invariant ∙ ap length c.self.view_is in record { within = omega (arith, size) }

pub overflow_add-missed : goal.overflow_add-missed
overflow_add-missed g c =
    let few = few_set (take c.loop-place.place c.args.self.now) in
    let some = length-take c.loop-place.place c.args.self.now in
    omega (arith, few, some, c.loop-place.invariant, c.one_if-missed.ensures, one_most c.at.result)

pub loop-place-preserved : goal.loop-place-preserved
loop-place-preserved g c =
    let size : c.self.inside.places ≡ length c.args.self.now = sym c.self.invariant ∙ ap length c.self.view_is in
    let within : c.loop-place.place < length c.args.self.now = omega (arith, size) in
    ap (λ n. c.loop-place.missed + n) c.one_if-missed.ensures ∙ ap (λ n. n + cond c.at.result 1 0) c.loop-place.invariant ∙ sym (count_more c.args.self.now c.loop-place.place c.at.result within c.at.ensures.vote)

pub returns : goal.returns
returns g c =
    let size : c.self.inside.places ≡ length c.args.self.now = sym c.self.invariant ∙ ap length c.self.view_is in
    c.loop-place.invariant ∙ ap (count_where (λ x. x)) (take_all c.loop-place.place c.args.self.now (omega (arith, size)))
