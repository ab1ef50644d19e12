use Rattle.std.proofs.Common.{◌≡◌, ◌∙◌, ℕ, ◌<◌, ◌≤◌, Some, Ok, Err, sym, ap, subst, arith, is_some, option_copied}
use Rattle.std.proofs.lemmas.Result.{err_from_is_err_and}
use Rattle.mod_periods.specs.{Kept.info_of, Scenes.HasPeriods, Answers.Gives}
use Rattle.rule_modules.specs.Periods.{periods_of, reward_after, start_of}
use Rattle.mod_allocation.specs.{Calls.purse_at, Owed.{AreWithin, nothing_more}}
use Rattle.mod_distribution.specs.{Calls.{increment_at_end, left_at_end}, Kept.distributed, Stands.KeepsShared}
use Rattle.mod_distribution.proofs.PendingLemmas.{gives_ok, pending_ends, pending_fault, pending_unended, pending_wants, taken_at_end}
use Rattle.mod_distribution.proofs.distr.Distr.pending.Goals as goal

more : (a b : ℕ) → 0 < a → a ≤ b → 0 < b
more a b h l = omega (arith, h, l)

pub value_even-value-requires : goal.value_even-value-requires
value_even-value-requires g c = record { tokens = c.requires.shares.tokens; some = more _ _ c.requires.shares.some c.requires.shares.most; part = c.requires.shares.most }

pub reward_after-requires-clause-validator : goal.reward_after-requires-clause-validator
reward_after-requires-clause-validator g c = subst (λ t. HasPeriods t.kept.rewards c.args.v.now.operator) (sym c.self.view_is) c.requires.started.records.periods

pub reward_after-requires-clause-delegation : goal.reward_after-requires-clause-delegation
reward_after-requires-clause-delegation g c =
    let has = subst (λ t. HasPeriods t.kept.rewards c.args.v.now.operator) (sym c.self.view_is) c.requires.started.records.periods in
    record { kept = has.kept; started = ap (λ t. is_some (info_of t.kept.rewards c.args.delegator.now c.args.v.now.operator)) c.self.view_is ∙ c.requires.started.started }

pub returns-in_err-left : goal.returns-in_err-left
returns-in_err-left g c = record {
  pending = λ d u h height.
      let p = err_from_is_err_and c.from_residual-in_err-left.result c.from_residual-in_err-left.ensures.1 in
      rw (p.1, p.2) (pending_wants c.args.v.now c.args.delegator.now c.args.shares c.args.self.now.kept d u h c.in_err-left.field-0.0 c.in_err-left.ensures.fault);
}

pub returns-in_err-increment : goal.returns-in_err-increment
returns-in_err-increment g c = record {
  pending = λ d u h height.
      let p = err_from_is_err_and c.from_residual.result c.from_residual.ensures.1 in
      let val = c.args.v.now in
      let who = c.args.delegator.now in
      let op = val.operator in
      let k = (distributed c.self.inside.f1 c.self.inside.alloc c.self.inside.withdraw c.self.inside.spent).kept in
      let held = subst (λ t. KeepsShared t.kept d) (sym c.self.view_is) h in
      let x = c.unwrap-purse.result.now in
      let found : purse_at k.purses op ≡ Some x = sym c.purse.ensures.purse ∙ ap option_copied c.unwrap-purse.ensures in
      rw (p.1, p.2) (pending_unended val who c.args.shares k d u held x found c.in_err-increment.field-0.0 c.in_err-increment.ensures);
}

pub returns-in_err-full : goal.returns-in_err-full
returns-in_err-full g c = record {
  pending = λ d u h height.
      let p = err_from_is_err_and c.from_residual-in_err-full.result c.from_residual-in_err-full.ensures.1 in
      let val = c.args.v.now in
      let who = c.args.delegator.now in
      let op = val.operator in
      let k = (distributed c.self.inside.f1 c.self.inside.alloc c.self.inside.withdraw c.self.inside.spent).kept in
      let held = subst (λ t. KeepsShared t.kept d) (sym c.self.view_is) h in
      let x = c.unwrap-purse.result.now in
      let found : purse_at k.purses op ≡ Some x = sym c.purse.ensures.purse ∙ ap option_copied c.unwrap-purse.ensures in
      let within = subst (λ t. AreWithin t.kept.purses nothing_more) (sym c.self.view_is) c.requires.started.records.within in
      let increment = c.in_ok-increment.increment in
      let taken = taken_at_end val k.purses x c.ordered.ensures found within increment (gives_ok (increment_at_end val.tokens x) increment c.in_ok-increment.ensures) in
      rw (p.1, p.2) (pending_fault val who c.args.shares k d u held increment (left_at_end val.tokens x) taken c.in_err-full.field-0.0
      (subst (λ r. Gives r (Err c.in_err-full.field-0.0)) (λ i. reward_after (start_of d.rewards who op) (periods_of d.rewards op) increment (sym height i) (c.value_even-value.ensures.value i)) (c.in_err-full.ensures.reward d.rewards held.rewards)));
}

pub returns : goal.returns
returns g c = record {
  pending = λ d u h height.
      let val = c.args.v.now in
      let who = c.args.delegator.now in
      let op = val.operator in
      let k = (distributed c.self.inside.f1 c.self.inside.alloc c.self.inside.withdraw c.self.inside.spent).kept in
      let held = subst (λ t. KeepsShared t.kept d) (sym c.self.view_is) h in
      let x = c.unwrap-purse.result.now in
      let found : purse_at k.purses op ≡ Some x = sym c.purse.ensures.purse ∙ ap option_copied c.unwrap-purse.ensures in
      let within = subst (λ t. AreWithin t.kept.purses nothing_more) (sym c.self.view_is) c.requires.started.records.within in
      let increment = c.in_ok-increment.increment in
      let taken = taken_at_end val k.purses x c.ordered.ensures found within increment (gives_ok (increment_at_end val.tokens x) increment c.in_ok-increment.ensures) in
      pending_ends val who c.args.shares k d u held increment (left_at_end val.tokens x) taken c.in_ok-full.full c.in_ok-left.left c.smaller.result
      (subst (λ r. Gives r (Ok c.in_ok-full.full)) (λ i. reward_after (start_of d.rewards who op) (periods_of d.rewards op) increment (sym height i) (c.value_even-value.ensures.value i)) (c.in_ok-full.ensures.reward d.rewards held.rewards))
      c.in_ok-left.ensures.left c.smaller.ensures.smaller c.smaller.ensures.fault;
}
