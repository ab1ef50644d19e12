use Rattle.std.proofs.Common.{◌∙◌, ℕ, ◌<◌, ◌≤◌, ◌++◌, [], ◌∷◌, sym, ap, subst, arith, refl}
use Rattle.base_roles.specs.declared.facts.Fact.TheVariants as fact
use Rattle.base_roles.specs.Ground.{seen}
use Rattle.base_records.proofs.KindLemmas.{on_ok, is_ok}
use Rattle.rule_modules.specs.{Distribution.started, Periods.{last_ended, periods_of, with_start}}
use Rattle.mod_periods.specs.{Kept.info_of, Scenes.HasPeriods, Stands.{KeepsRewards, started_at}}
use Rattle.mod_distribution.specs.{Kept.{KeptShared, SharedGoesOn, distributed}, Stands.KeepsShared}
use Rattle.mod_distribution.proofs.{CarryLemmas.answers_given, MarkLemmas.{goes_on-step, in_step-same, facts_by}}
use Rattle.mod_distribution.proofs.distr.Distr.start.Goals as goal

more : (a b : ℕ) → 0 < a → a ≤ b → 0 < b
more a b h l = omega (arith, h, l)

pub value_cut-stake-requires : goal.value_cut-stake-requires
value_cut-stake-requires g c = record { tokens = c.requires.shares.tokens; some = more _ _ c.requires.shares.some c.requires.shares.most; part = c.requires.shares.most }

pub start-requires-clause-validator : goal.start-requires-clause-validator
start-requires-clause-validator g c = subst (λ t. HasPeriods t.kept.rewards c.args.v.now.operator) (sym c.self.view_is) c.requires.records.periods

pub start-requires-clause-new : goal.start-requires-clause-new
start-requires-clause-new g c = ap (λ t. info_of t.kept.rewards c.args.delegator.now c.args.v.now.operator) c.self.view_is ∙ c.requires.new

pub returns-clause-told : goal.returns-clause-told
returns-clause-told g c = λ d h.
    let v = c.args.v.now in
    let who = c.args.delegator.now in
    let view = seen g.B.Bank.holdings c.args.g.now in
    let held = subst (λ t. KeepsShared t.kept d) (sym c.self.view_is) h in
    let new : KeptShared = record { rewards = c.start.new.self.kept; purses = c.self.inside.alloc.kept; withdraw = c.self.inside.withdraw.entries } in
    let p = periods_of d.rewards v.operator in
    answers_given new (started v who c.args.shares d view).0 (started v who c.args.shares d view).1 (record { bank = view.bank; ctx = view.ctx; facts = c.start.new.facts }) (started v who c.args.shares d view).2 c.start.result
    (on_ok c.start.result (λ rewards. record {
      rewards = subst (λ s. KeepsRewards c.start.new.self.kept (with_start who v.operator (started_at p s view.ctx.height) d.rewards)) c.value_cut-stake.ensures.value rewards;
      purses = held.purses;
      withdraw = held.withdraw;
    }) (c.start.ensures.started d.rewards held.rewards))
    (on_ok c.start.result (λ told. λ i. record { bank = view.bank; ctx = view.ctx; facts = (told ∙ ap (λ s. view.facts ++ fact.Started who v.operator (last_ended p) s ∷ []) c.value_cut-stake.ensures.value) i })
    (c.start.ensures.told d.rewards held.rewards)) c.start.ensures.fault

pub invariant_of-self : goal.invariant_of-self
invariant_of-self g c = in_step-same c.self.inside.f1 c.start.new.self c.self.inside.alloc c.self.inside.alloc c.self.inside.withdraw c.self.inside.withdraw c.self.invariant (ap (λ b. b.marks) c.start.ensures.records.left.behind) refl refl

pub returns-clause-goes_on : goal.returns-clause-goes_on
returns-clause-goes_on g c =
    subst (λ t. SharedGoesOn t (distributed c.start.new.self c.self.inside.alloc c.self.inside.withdraw c.self.inside.spent) c.start.result) c.self.view_is (goes_on-step c.start.result c.self.inside.f1 c.start.new.self c.self.inside.alloc c.self.inside.alloc c.self.inside.withdraw c.self.inside.spent c.start.ensures.records.left.behind refl c.start.ensures.records.left.spent (λ e. e) c.start.ensures.records.unspent (is_ok c.start.result refl))

pub returns-clause-undone : goal.returns-clause-undone
returns-clause-undone g c =
    let has = subst (λ t. HasPeriods t.kept.rewards c.args.v.now.operator) (sym c.self.view_is) c.requires.records.periods in
    record { marks = refl; ctx = refl; facts = facts_by c.start.result c.args.g.now.facts c.start.new.facts _ (c.start.ensures.told has.kept.0 has.kept.1) c.start.ensures.untold }
