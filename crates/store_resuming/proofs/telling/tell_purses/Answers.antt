use Rattle.std.proofs.Common.{ℕ, List, sym, subst, All}
use Rattle.std.proofs.lemmas.List.Elements.{All-cons}
use Rattle.base_roles.specs.declared.entities.Purse.{Purse}
use Rattle.rule_modules.specs.Sound.{PurseIsSound}
use Rattle.store_resuming.proofs.telling.tell_purses.Goals as goal

pub loop-purse-preserved : goal.loop-purse-preserved
loop-purse-preserved c = λ h.
    let one : List ℕ × Purse = (c.in-Some.field-0-0.now, c.in-Some.purse.now) in
    c.loop-purse.invariant (subst (All (λ e. PurseIsSound e.1)) (sym c.in-Some.ensures.steps) (All-cons (λ e. PurseIsSound e.1) one c.next.new.self c.tell_purse.ensures h))
