use Rattle.std.proofs.Common.{ℕ, ◌<◌, ◌^◌, List, sym, subst, All}
use Rattle.std.proofs.lemmas.List.Elements.{All-cons}
use Rattle.base_roles.specs.declared.entities.Validator.{Validator}
use Rattle.store_resuming.proofs.telling.tell_all_shares.Goals as goal

pub loop-v-preserved : goal.loop-v-preserved
loop-v-preserved c = λ h.
    let one : List ℕ × Validator = (c.in-Some.field-0-0.now, c.in-Some.v.now) in
    c.loop-v.invariant (subst (All (λ e. e.1.shares < 10 ^ 38)) (sym c.in-Some.ensures.steps) (All-cons (λ e. e.1.shares < 10 ^ 38) one c.next.new.self c.tell_shares.ensures h))
