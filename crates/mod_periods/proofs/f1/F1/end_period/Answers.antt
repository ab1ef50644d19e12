use Rattle.std.proofs.Common.{◌≡◌, ℕ, ◌∷◌, [], ◌++◌, refl, sym, ap, subst, ◌∙◌, is_some}
use Rattle.base_roles.specs.declared.facts.Fact.TheVariants.{Period}
use Rattle.mod_periods.{specs.{Kept.current_of, Stands.{KeepsRewards, IsKept}}, proofs.GivesLemmas.on_limit}
use Rattle.mod_periods.proofs.RatioLemmas.{last-stands, end-answers, end-faults}
use Rattle.mod_periods.proofs.f1.F1.end_period.Goals as goal

pub next_ratio-requires-clause-record : goal.next_ratio-requires-clause-record
next_ratio-requires-clause-record g c =
    last-stands c.self.inside.tables.kept c.args.operator.now (subst (λ t. IsKept t.kept) (sym c.self.view_is) c.requires.validator.kept)
    (ap (λ t. is_some (current_of t.kept c.args.operator.now)) c.self.view_is ∙ c.requires.validator.initialised)

pub returns-in-Err-clause-ended : goal.returns-in-Err-clause-ended
returns-in-Err-clause-ended g c r h =
    let same : c.self.inside.tables ≡ c.args.self.now = c.self.view_is in
    end-faults c.self.inside.tables.kept c.args.self.now.kept r c.args.operator.now c.args.increment.now c.args.facts.now c.args.facts.now c.in-Err.fault
    (subst (λ t. KeepsRewards t.kept r) (sym same) h) (ap (λ t. is_some (current_of t.kept c.args.operator.now)) same ∙ c.requires.validator.initialised)
    c.in-Err.ensures.fault

pub returns-in-Err-clause-limit : goal.returns-in-Err-clause-limit
returns-in-Err-clause-limit g c = on_limit ℕ c.in-Err.fault (c.args.self.now.kept ≡ c.args.self.now.kept) refl

pub returns-clause-ended : goal.returns-clause-ended
returns-clause-ended g c r h =
    let same : c.self.inside.tables ≡ c.args.self.now = c.self.view_is in
    let told = c.in_ok-push.ensures.ok in
    let copy = c.in_ok-told.ensures.same in
    end-answers c.self.inside.tables.kept c.end.new.self.kept r c.args.operator.now c.args.increment.now c.in-Ok.next.1 c.args.facts.now c.push.new.self c.in-Ok.next.0
    (subst (λ t. KeepsRewards t.kept r) (sym same) h) (ap (λ t. is_some (current_of t.kept c.args.operator.now)) same ∙ c.requires.validator.initialised)
    c.known.ensures.historical c.len.ensures.money c.in-Ok.ensures.ratio c.in-Ok.ensures.period
    (ap (λ t. t.kept) c.in_ok-end.ensures.ok) (told ∙ ap (λ ratio. c.args.facts.now ++ Period c.args.operator.now c.in-Ok.next.0 ratio ∷ []) copy)
