use Rattle.std.proofs.Common.{◌∙◌, [], refl, sym, ap, subst, Ok}
use Rattle.std.proofs.lemmas.Result.{err_from_is_err_and, IfOk-weaker}
use Rattle.base_roles.specs.Ground.{seen}
use Rattle.mod_allocation.{specs.Owed.IsMoved, proofs.LoopLemmas.told_more}
use Rattle.mod_periods.specs.{Kept.{Kept, events_of}, Scenes.HasPeriods, Stands.KeepsRewards}
use Rattle.mod_distribution.specs.{Calls.HasRecords, Kept.{KeptShared, SharedGoesOn, distributed}}
use Rattle.mod_distribution.proofs.PeriodLemmas.{ended_untaken, ended_carried, events_still, free_still, has_own, if_ended, if_on, last_is, periods_still, starts_still, ended_facts}
use Rattle.mod_distribution.proofs.MarkLemmas.{goes_on-step, goes_on-then, in_step-same}
use Rattle.base_records.proofs.KindLemmas.{is_ok}
use Rattle.mod_distribution.proofs.distr.Distr.end_period.Goals as goal

pub end_period-requires : goal.end_period-requires
end_period-requires g c = record { validator = subst (λ t. HasPeriods t.kept.rewards c.args.v.now.operator) (sym c.self.view_is) c.in_ok-increment.ensures.records.periods }

pub returns-in_err-increment-clause-ended : goal.returns-in_err-increment-clause-ended
returns-in_err-increment-clause-ended g c = λ d h.
    let p = err_from_is_err_and c.from_residual.result c.from_residual.ensures.1 in
    rw (p.1, p.2) (ended_untaken c.args.v.now c.args.self.now.kept d (seen g.B.Bank.holdings c.args.g.now) h c.take_current.new.self.kept _ c.in_err-increment.field-0.0 c.in_err-increment.ensures.fault)

pub returns-clause-ended : goal.returns-clause-ended
returns-clause-ended g c = λ d h.
    let taken = c.in_ok-increment.ensures.taken in
    let new : KeptShared = record { rewards = c.end_period.new.self.kept; purses = c.self.inside.alloc.kept; withdraw = c.self.inside.withdraw.entries } in
    let same = c.self.view_is in
    let rewards = ap (λ t. t.kept.rewards) same ∙ c.take_current.ensures.rewards in
    let held = subst (λ k. KeepsRewards k d.rewards) (sym rewards) h.rewards in
    ended_carried c.args.v.now c.args.self.now.kept d (seen g.B.Bank.holdings c.args.g.now) h new (record { bank = g.B.Bank.holdings c.args.g.now.bank; ctx = c.args.g.now.ctx; facts = c.end_period.new.facts }) c.in_ok-increment.increment taken.0
    (taken.1.0 ∙ ap (λ p. Ok (c.in_ok-increment.increment, taken.0, p)) (sym (ap (λ t. t.kept.purses) same))) (ap (λ t. t.kept.withdraw) same ∙ c.take_current.ensures.payees) refl refl
    c.take_current.new.facts c.end_period.result taken.1.1 (c.end_period.ensures.ended d.rewards held)

pub returns-clause-last : goal.returns-clause-last
returns-clause-last g c =
    let op = c.args.v.now.operator in
    let k = c.self.inside.f1.kept in
    let k2 = c.end_period.new.self.kept in
    let i = c.in_ok-increment.increment in
    let f = c.take_current.new.facts in
    let f2 = c.end_period.new.facts in
    let has = subst (λ t. HasPeriods t.kept.rewards op) (sym c.self.view_is) c.in_ok-increment.ensures.records.periods in
    let r = has.kept.0 in
    let h = has.kept.1 in
    let ended = if_ended op k k2 i f f2 c.end_period.result r (c.end_period.ensures.ended r h) in
    IfOk-weaker c.end_period.result _ _ (λ n e. last_is op k k2 i f f2 n r h e) ended

pub returns-clause-starts : goal.returns-clause-starts
returns-clause-starts g c =
    let op = c.args.v.now.operator in
    let k = c.self.inside.f1.kept in
    let k2 = c.end_period.new.self.kept in
    let i = c.in_ok-increment.increment in
    let f = c.take_current.new.facts in
    let f2 = c.end_period.new.facts in
    let has = subst (λ t. HasPeriods t.kept.rewards op) (sym c.self.view_is) c.in_ok-increment.ensures.records.periods in
    let r = has.kept.0 in
    let h = has.kept.1 in
    let ended = if_ended op k k2 i f f2 c.end_period.result r (c.end_period.ensures.ended r h) in
    let same = ap (λ t. t.kept.rewards.starts) c.self.view_is ∙ ap (λ (x : Kept). x.starts) c.take_current.ensures.rewards in
    if_on c.end_period.result (λ n e. starts_still op k k2 i f f2 n r h e ∙ same) ended

pub returns-clause-events : goal.returns-clause-events
returns-clause-events g c =
    let op = c.args.v.now.operator in
    let k = c.self.inside.f1.kept in
    let k2 = c.end_period.new.self.kept in
    let i = c.in_ok-increment.increment in
    let f = c.take_current.new.facts in
    let f2 = c.end_period.new.facts in
    let has = subst (λ t. HasPeriods t.kept.rewards op) (sym c.self.view_is) c.in_ok-increment.ensures.records.periods in
    let r = has.kept.0 in
    let h = has.kept.1 in
    let ended = if_ended op k k2 i f f2 c.end_period.result r (c.end_period.ensures.ended r h) in
    let same = ap (λ t. events_of t.kept.rewards op) c.self.view_is ∙ ap (λ x. events_of x op) c.take_current.ensures.rewards in
    if_on c.end_period.result (λ n e. events_still op k k2 i f f2 n r h e ∙ same) ended

pub returns-clause-free : goal.returns-clause-free
returns-clause-free g c =
    let op = c.args.v.now.operator in
    let k = c.self.inside.f1.kept in
    let k2 = c.end_period.new.self.kept in
    let i = c.in_ok-increment.increment in
    let f = c.take_current.new.facts in
    let f2 = c.end_period.new.facts in
    let has = subst (λ t. HasPeriods t.kept.rewards op) (sym c.self.view_is) c.in_ok-increment.ensures.records.periods in
    let r = has.kept.0 in
    let h = has.kept.1 in
    let ended = if_ended op k k2 i f f2 c.end_period.result r (c.end_period.ensures.ended r h) in
    IfOk-weaker c.end_period.result _ _ (λ n e. free_still op k k2 i f f2 n r h e (has_own op k r h has.initialised)) ended

pub returns-clause-records : goal.returns-clause-records
returns-clause-records g c =
    let op = c.args.v.now.operator in
    let k = c.self.inside.f1.kept in
    let k2 = c.end_period.new.self.kept in
    let i = c.in_ok-increment.increment in
    let f = c.take_current.new.facts in
    let f2 = c.end_period.new.facts in
    let has = subst (λ t. HasPeriods t.kept.rewards op) (sym c.self.view_is) c.in_ok-increment.ensures.records.periods in
    let r = has.kept.0 in
    let h = has.kept.1 in
    let ended = if_ended op k k2 i f f2 c.end_period.result r (c.end_period.ensures.ended r h) in
    let rest = subst (λ t. HasRecords t.kept op) (sym c.self.view_is) c.in_ok-increment.ensures.records in
    if_on c.end_period.result (λ n e. record { periods = periods_still op k k2 i f f2 n r h e; purse = rest.purse; within = rest.within }) ended

pub returns-clause-moved : goal.returns-clause-moved
returns-clause-moved g c = is_ok c.end_period.result (subst (λ t. IsMoved c.args.self.now.kept.purses [] [] t.kept.purses) (sym c.self.view_is) c.in_ok-increment.ensures.moved)

pub returns-in_err-increment-clause-goes_on : goal.returns-in_err-increment-clause-goes_on
returns-in_err-increment-clause-goes_on g c =
    let p = err_from_is_err_and c.from_residual.result c.from_residual.ensures.1 in
    rw (p.1, p.2) (record { behind = c.in_err-increment.ensures.goes_on.behind; spent = c.in_err-increment.ensures.goes_on.spent; unspent = tt })

pub invariant_of-self : goal.invariant_of-self
invariant_of-self g c = in_step-same c.self.inside.f1 c.end_period.new.self c.self.inside.alloc c.self.inside.alloc c.self.inside.withdraw c.self.inside.withdraw c.self.invariant (ap (λ b. b.marks) c.end_period.ensures.records.left.behind) refl refl

pub returns-clause-goes_on : goal.returns-clause-goes_on
returns-clause-goes_on g c =
    goes_on-then c.args.self.now c.take_current.new.self (distributed c.end_period.new.self c.self.inside.alloc c.self.inside.withdraw c.self.inside.spent) (Ok _) c.end_period.result c.in_ok-increment.ensures.goes_on c.in_ok-increment.ensures.goes_on.unspent
    (subst (λ t. SharedGoesOn t (distributed c.end_period.new.self c.self.inside.alloc c.self.inside.withdraw c.self.inside.spent) c.end_period.result) c.self.view_is (goes_on-step c.end_period.result c.self.inside.f1 c.end_period.new.self c.self.inside.alloc c.self.inside.alloc c.self.inside.withdraw c.self.inside.spent c.end_period.ensures.records.left.behind refl c.end_period.ensures.records.left.spent (λ e. e) c.end_period.ensures.records.unspent (is_ok c.end_period.result refl)))

pub returns-clause-undone : goal.returns-clause-undone
returns-clause-undone g c =
    let op = c.args.v.now.operator in
    let k = c.self.inside.f1.kept in
    let k2 = c.end_period.new.self.kept in
    let i = c.in_ok-increment.increment in
    let f = c.take_current.new.facts in
    let f2 = c.end_period.new.facts in
    let has = subst (λ t. HasPeriods t.kept.rewards op) (sym c.self.view_is) c.in_ok-increment.ensures.records.periods in
    let r = has.kept.0 in
    let h = has.kept.1 in
    let ended = if_ended op k k2 i f f2 c.end_period.result r (c.end_period.ensures.ended r h) in
    record { marks = refl; ctx = refl; facts = told_more c.args.g.now.facts f f2 c.in_ok-increment.ensures.facts (ended_facts op k k2 i f f2 c.end_period.result r ended c.end_period.ensures.untold) }
