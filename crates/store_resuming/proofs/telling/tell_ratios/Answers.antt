use Rattle.std.proofs.Common.{ℕ, List, sym, subst, All}
use Rattle.std.proofs.lemmas.List.Elements.{All-cons}
use Rattle.base_roles.specs.declared.entities.Historical.{Historical}
use Rattle.base_coins.specs.Coins.{IsMoney}
use Rattle.store_resuming.proofs.telling.tell_ratios.Goals as goal

pub loop-history-preserved : goal.loop-history-preserved
loop-history-preserved c = λ h.
    let one : (List ℕ × ℕ) × Historical = (c.in-Some.field-0-0.now, c.in-Some.history.now) in
    c.loop-history.invariant (subst (All (λ e. IsMoney e.1.ratio)) (sym c.in-Some.ensures.steps) (All-cons (λ e. IsMoney e.1.ratio) one c.next.new.self c.tell_coins.ensures h))
