use Rattle.std.proofs.Common.{◌≡◌, ◌∙◌, [], ◌==◌, Ok, sym, ap, subst, refl, is_some, Err}
use Rattle.std.proofs.lemmas.Result.{err_from_is_err_and, IfOk-weaker, IfErr-weaker}
use Rattle.rule_modules.specs.Distribution.{current_taken}
use Rattle.mod_sums.specs.Faults.{IsExcessOf}
use Rattle.mod_allocation.specs.{Calls.{current_out, purse_at}, Owed.{AreWithin, nothing_more}}
use Rattle.mod_allocation.proofs.AnswerLemmas.{wanting}
use Rattle.mod_periods.specs.Scenes.{HasPeriods}
use Rattle.mod_distribution.proofs.PayLemmas.{purse_taken, within_still}
use Rattle.mod_distribution.proofs.PeriodLemmas.{is_zero, not_zero, taken_pooled, taken_shared, taken_over, untold}
use Rattle.mod_distribution.{proofs.MarkLemmas.{goes_on-step, in_step-same}, specs.Kept.{SharedGoesOn, distributed}}
use Rattle.base_records.proofs.KindLemmas.{is_ok}
use Rattle.mod_distribution.proofs.distr.Distr.take_current.Goals as goal

pub take_current-requires-clause-known : goal.take_current-requires-clause-known
take_current-requires-clause-known g c = ap (λ t. is_some (purse_at t.kept.purses c.args.v.now.operator)) c.self.view_is ∙ c.requires.records.purse

pub take_current-requires-clause-within : goal.take_current-requires-clause-within
take_current-requires-clause-within g c = subst (λ t. AreWithin t.kept.purses nothing_more) (sym c.self.view_is) c.requires.records.within

pub returns-in_err-current-clause-fault : goal.returns-in_err-current-clause-fault
returns-in_err-current-clause-fault g c =
    let p = err_from_is_err_and c.from_residual.result c.from_residual.ensures.1 in
    rw (p.1, p.2) (wanting (current_taken c.args.v.now c.args.self.now.kept.purses) c.in_err-current.field-0.0 c.in_err-current.ensures.fault)

pub returns-then-is_empty-clause-taken : goal.returns-then-is_empty-clause-taken
returns-then-is_empty-clause-taken g c =
    let v = c.args.v.now in
    let taken = subst (λ b. current_out b v.operator c.self.inside.alloc.kept c.args.facts.now ≡ Ok (c.in_ok-current.current, c.take_current.new.self.kept, c.take_current.new.facts)) (is_zero v.tokens c.if-is_empty.true) c.in_ok-current.ensures.taken in
    let out = taken_pooled v c.self.inside.alloc.kept c.take_current.new.self.kept c.in_ok-current.current c.args.facts.now c.take_current.new.facts (is_zero v.tokens c.if-is_empty.true) taken in
    (out.0, (ap (λ t. current_taken v t.kept.purses) (sym c.self.view_is) ∙ out.1.0 ∙ ap (λ z. Ok (z, out.0, c.take_current.new.self.kept)) (sym c.new.ensures), out.1.1))

pub returns-clause-taken : goal.returns-clause-taken
returns-clause-taken g c =
    let v = c.args.v.now in
    let taken = subst (λ b. current_out b v.operator c.self.inside.alloc.kept c.args.facts.now ≡ Ok (c.in_ok-current.current, c.take_current.new.self.kept, c.take_current.new.facts)) (not_zero v.tokens c.if-is_empty.false) c.in_ok-current.ensures.taken in
    IfOk-weaker c.per_token.result _ _
    (λ increment q. (
      [],
      (
        ap (λ t. current_taken v t.kept.purses) (sym c.self.view_is) ∙ taken_shared v c.self.inside.alloc.kept c.take_current.new.self.kept c.in_ok-current.current c.args.facts.now c.take_current.new.facts (not_zero v.tokens c.if-is_empty.false) taken increment q,
        untold v c.self.inside.alloc.kept c.take_current.new.self.kept c.in_ok-current.current c.args.facts.now c.take_current.new.facts (not_zero v.tokens c.if-is_empty.false) taken,
      ),
    )) c.per_token.ensures.quotient

pub returns-clause-fault : goal.returns-clause-fault
returns-clause-fault g c =
    let v = c.args.v.now in
    let taken = subst (λ b. current_out b v.operator c.self.inside.alloc.kept c.args.facts.now ≡ Ok (c.in_ok-current.current, c.take_current.new.self.kept, c.take_current.new.facts)) (not_zero v.tokens c.if-is_empty.false) c.in_ok-current.ensures.taken in
    IfErr-weaker c.per_token.result _ _
    (λ fault over. subst (λ t. IsExcessOf (current_taken v t.kept.purses) fault) c.self.view_is
    (taken_over v c.self.inside.alloc.kept c.take_current.new.self.kept c.in_ok-current.current c.args.facts.now c.take_current.new.facts (not_zero v.tokens c.if-is_empty.false) taken fault over)) c.per_token.ensures.fault

pub invariant_of-self : goal.invariant_of-self
invariant_of-self g c = in_step-same c.self.inside.f1 c.self.inside.f1 c.self.inside.alloc c.take_current.new.self c.self.inside.withdraw c.self.inside.withdraw c.self.invariant refl (ap (λ b. b.marks) c.in_err-current.ensures.goes_on.behind) refl

pub returns-in_err-current-clause-goes_on : goal.returns-in_err-current-clause-goes_on
returns-in_err-current-clause-goes_on g c =
    let p = err_from_is_err_and c.from_residual.result c.from_residual.ensures.1 in
    rw p.1 (subst (λ t. SharedGoesOn t (distributed c.self.inside.f1 c.take_current.new.self c.self.inside.withdraw c.self.inside.spent) (Err p.0)) c.self.view_is (goes_on-step (Err p.0) c.self.inside.f1 c.self.inside.f1 c.self.inside.alloc c.take_current.new.self c.self.inside.withdraw c.self.inside.spent refl c.in_err-current.ensures.goes_on.behind (λ e. e) c.in_err-current.ensures.goes_on.spent tt tt))

pub invariant_of-self-then-is_empty : goal.invariant_of-self-then-is_empty
invariant_of-self-then-is_empty g c = in_step-same c.self.inside.f1 c.self.inside.f1 c.self.inside.alloc c.take_current.new.self c.self.inside.withdraw c.self.inside.withdraw c.self.invariant refl (ap (λ b. b.marks) c.in_ok-current.ensures.goes_on.behind) refl

pub returns-then-is_empty-clause-goes_on : goal.returns-then-is_empty-clause-goes_on
returns-then-is_empty-clause-goes_on g c =
    subst (λ t. SharedGoesOn t (distributed c.self.inside.f1 c.take_current.new.self c.self.inside.withdraw c.self.inside.spent) (Ok c.new.result)) c.self.view_is (goes_on-step (Ok c.new.result) c.self.inside.f1 c.self.inside.f1 c.self.inside.alloc c.take_current.new.self c.self.inside.withdraw c.self.inside.spent refl c.in_ok-current.ensures.goes_on.behind (λ e. e) c.in_ok-current.ensures.goes_on.spent refl c.in_ok-current.ensures.goes_on.unspent)

pub invariant_of-self-2 : goal.invariant_of-self-2
invariant_of-self-2 g c = in_step-same c.self.inside.f1 c.self.inside.f1 c.self.inside.alloc c.take_current.new.self c.self.inside.withdraw c.self.inside.withdraw c.self.invariant refl (ap (λ b. b.marks) c.in_ok-current.ensures.goes_on.behind) refl

pub returns-clause-goes_on : goal.returns-clause-goes_on
returns-clause-goes_on g c =
    subst (λ t. SharedGoesOn t (distributed c.self.inside.f1 c.take_current.new.self c.self.inside.withdraw c.self.inside.spent) c.per_token.result) c.self.view_is (goes_on-step c.per_token.result c.self.inside.f1 c.self.inside.f1 c.self.inside.alloc c.take_current.new.self c.self.inside.withdraw c.self.inside.spent refl c.in_ok-current.ensures.goes_on.behind (λ e. e) c.in_ok-current.ensures.goes_on.spent (is_ok c.per_token.result refl) (is_ok c.per_token.result c.in_ok-current.ensures.goes_on.unspent))

pub returns-then-is_empty-clause-records : goal.returns-then-is_empty-clause-records
returns-then-is_empty-clause-records g c =
    let op = c.args.v.now.operator in
    record {
      periods = subst (λ t. HasPeriods t.kept.rewards op) (sym c.self.view_is) c.requires.records.periods;
      purse = purse_taken op (c.args.v.now.tokens == 0) c.in_ok-current.current c.self.inside.alloc.kept c.take_current.new.self.kept c.args.facts.now c.take_current.new.facts c.in_ok-current.ensures.taken;
      within = within_still c.self.inside.alloc.kept c.take_current.new.self.kept [] c.in_ok-current.ensures.moved (subst (λ t. AreWithin t.kept.purses nothing_more) (sym c.self.view_is) c.requires.records.within);
    }

pub returns-clause-records : goal.returns-clause-records
returns-clause-records g c =
    let op = c.args.v.now.operator in
    is_ok c.per_token.result (record {
      periods = subst (λ t. HasPeriods t.kept.rewards op) (sym c.self.view_is) c.requires.records.periods;
      purse = purse_taken op (c.args.v.now.tokens == 0) c.in_ok-current.current c.self.inside.alloc.kept c.take_current.new.self.kept c.args.facts.now c.take_current.new.facts c.in_ok-current.ensures.taken;
      within = within_still c.self.inside.alloc.kept c.take_current.new.self.kept [] c.in_ok-current.ensures.moved (subst (λ t. AreWithin t.kept.purses nothing_more) (sym c.self.view_is) c.requires.records.within);
    })
