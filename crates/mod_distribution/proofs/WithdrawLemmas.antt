-- A withdrawal in its two parts, and what is pending.
use Rattle.std.proofs.Common.{◌≡◌, ◌∙◌, ℕ, List, [], ◌∷◌, ◌++◌, Ok, Err, refl, sym, ap, subst, Result}
use Rattle.base_decimals.specs.declared.over.Over.{Over}
use Rattle.base_coins.specs.Coins.{Money, fractions, smaller_of, whole_coins}
use Rattle.base_roles.specs.{declared.{entities.Validator.Validator, faults.HookFault.HookFault}, Answers.Answers}
use Rattle.base_roles.specs.{Log.Log, Flow.{◌>>=◌}, World.{View, noted}}
use Rattle.base_roles.specs.declared.calls.Hook.TheVariants.{Modified as modified}
use Rattle.base_roles.specs.declared.facts.Fact.TheVariants as fact
use Rattle.base_roles.specs.Log as log
use Rattle.rule_modules.specs.Amounts.{over_facts}
use Rattle.rule_modules.specs.Distribution.{Shared, current_taken, distribution_told, ended, started, paid_to, payee_of, pending, reward_due, reward_withdrawn, reward_renewed}
use Rattle.rule_modules.specs.Periods.{Periods, last_ended, period_ended, periods_of, reward_after, reward_at, start_of, with_periods, without_start}
use Rattle.rule_modules.specs.Purses.{Purses, paid_out, pooled_told, purse_of}
use Rattle.base_shares.specs.Shares.{value_even_of}
use Rattle.mod_periods.specs.Answers.{Gives}
use Rattle.mod_distribution.specs.{Calls.{CarriesOut, reward_paid}, Kept.KeptShared, Stands.KeepsShared}
use Rattle.mod_distribution.proofs.CarryLemmas.{Ruled, behind_first, carried_from, carried_relogged, first_fault, given_wants, relogged, wants}
use Rattle.mod_distribution.proofs.PeriodLemmas.{end_rest, periods_put_found}

module _ (val : Validator) (who : List ℕ) (shares : ℕ) (d : Shared) (v : View) where
  -- ---- the reward is due

  -- the reward, once the period has ended
  abbrev pub due_rest : ℕ × Shared × View × Log → Ruled Money
  due_rest x = reward_at (start_of x.1.rewards who val.operator) (periods_of x.1.rewards val.operator) x.0 x.2.ctx.height (value_even_of val.tokens val.shares shares) >>= λ full. Ok (full, x.1, x.2, x.3)

  pub due_unended : (k k2 : KeptShared) (v1 v2 : View) (fault : HookFault) → CarriesOut (ended val d v) k v1 (Err fault) → CarriesOut (reward_due val who shares d v) k2 v2 (Err fault)
  due_unended k k2 v1 v2 fault h = first_fault (ended val d v) due_rest k k2 v1 v2 fault h

  pub due_carried : (k : KeptShared) (u : View) (period : ℕ) (value : ℕ) (result : Result Money HookFault) → CarriesOut (ended val d v) k u (Ok period) → value ≡ value_even_of val.tokens val.shares shares
      → ((x : Shared) → KeepsShared k x → Gives (reward_at (start_of x.rewards who val.operator) (periods_of x.rewards val.operator) period u.ctx.height value) result) → CarriesOut (reward_due val who shares d v) k u result
  due_carried k u period value result h is gives =
      let (x, parts) = carried_from k u (ended val d v) period h in
      let (e, same, keeps, view) = parts in
      behind_first (ended val d v) due_rest k u x result e
      (by x keeps view result
      (reward_at (start_of x.1.rewards who val.operator) (periods_of x.1.rewards val.operator) x.0 x.2.ctx.height (value_even_of val.tokens val.shares shares))
      (subst (λ r. Gives r result) (λ i. reward_at (start_of x.1.rewards who val.operator) (periods_of x.1.rewards val.operator) (same i) (view i).ctx.height (is i)) (gives x.1 keeps)))
    where
      by : (x : ℕ × Shared × View × Log) → KeepsShared k x.1 → u ≡ x.2 → (result : Result Money HookFault) (r : Result Money Over) → Gives r result → CarriesOut (r >>= λ full. Ok (full, x.1, x.2, x.3)) k u result
      by x keeps view (Ok full) (Ok due) g = (g, keeps, view)
      by x keeps view (Err fault) (Ok due) g = g
      by x keeps view (Ok full) (Err over) g = g
      by x keeps view (Err fault) (Err over) g = g

  -- ---- and is paid

  -- the rule as it stands, and as its second part behind the log of the first
  abbrev rest_of : Money × Shared × View × Log → Ruled Money
  rest_of x = paid_out val.operator x.0 x.1.purses >>= λ y. Ok (
    whole_coins y.0,
    record x.1 { rewards = without_start who val.operator x.1.rewards; purses = y.1 },
    noted (fact.Paid who val.operator (payee_of x.1 who) y.0 (whole_coins y.0)) (over_facts (pooled_told (fractions y.0)) (paid_to (payee_of x.1 who) (whole_coins y.0) x.2)),
    x.3 ++ (val.operator, log.withdrawn who (payee_of x.1 who) x.0 (purse_of x.1.purses val.operator).outstanding) ∷ [],
  )

  abbrev paid_rest : Money × Shared × View × Log → Ruled Money
  paid_rest x = relogged x.3 (reward_paid val.operator who x.0 x.1 x.2)

  same_rest : (x : Money × Shared × View × Log) → rest_of x ≡ paid_rest x
  same_rest x = by (paid_out val.operator x.0 x.1.purses)
    where
      made : Money × Purses → Log → Money × Shared × View × Log
      made y l = (
        whole_coins y.0,
        record x.1 { rewards = without_start who val.operator x.1.rewards; purses = y.1 },
        noted (fact.Paid who val.operator (payee_of x.1 who) y.0 (whole_coins y.0)) (over_facts (pooled_told (fractions y.0)) (paid_to (payee_of x.1 who) (whole_coins y.0) x.2)),
        l ++ (val.operator, log.withdrawn who (payee_of x.1 who) x.0 (purse_of x.1.purses val.operator).outstanding) ∷ [],
      )

      by : (r : Result (Money × Purses) Over) → (r >>= λ y. Ok (made y x.3)) ≡ relogged x.3 (r >>= λ y. Ok (made y []))
      by (Ok y) = refl
      by (Err over) = refl

  withdrawn_is : reward_withdrawn val who shares d v ≡ (reward_due val who shares d v >>= paid_rest)
  withdrawn_is = λ i. reward_due val who shares d v >>= λ x. same_rest x i

  pub withdrawn_undue : (k k2 : KeptShared) (v1 v2 : View) (fault : HookFault) → CarriesOut (reward_due val who shares d v) k v1 (Err fault) → CarriesOut (reward_withdrawn val who shares d v) k2 v2 (Err fault)
  withdrawn_undue k k2 v1 v2 fault h = subst (λ r. CarriesOut r k2 v2 (Err fault)) (sym withdrawn_is) (first_fault (reward_due val who shares d v) paid_rest k k2 v1 v2 fault h)

  pub withdrawn_carried : (k k2 : KeptShared) (u u2 : View) (full : Money) (result : Result Money HookFault) → CarriesOut (reward_due val who shares d v) k u (Ok full)
      → ((x : Shared) → KeepsShared k x → CarriesOut (reward_paid val.operator who full x u) k2 u2 result) → CarriesOut (reward_withdrawn val who shares d v) k2 u2 result
  withdrawn_carried k k2 u u2 full result h paid =
      let (x, parts) = carried_from k u (reward_due val who shares d v) full h in
      let (e, same, keeps, view) = parts in
      subst (λ r. CarriesOut r k2 u2 result) (sym withdrawn_is)
      (behind_first (reward_due val who shares d v) paid_rest k2 u2 x result e
      (carried_relogged k2 u2 x.3 (reward_paid val.operator who x.0 x.1 x.2) result
      (subst (λ r. CarriesOut r k2 u2 result) (λ i. reward_paid val.operator who (same i) x.1 (view i)) (paid x.1 keeps))))

  -- ---- and the rewards start anew

  abbrev renew_rest : Money × Shared × View × Log → Ruled Money
  renew_rest x = Ok (x.0, (started val who shares x.1 x.2).0, (started val who shares x.1 x.2).1, x.3 ++ (started val who shares x.1 x.2).2)

  pub renewed_unpaid : (k k2 : KeptShared) (v1 v2 : View) (fault : HookFault) → CarriesOut (reward_withdrawn val who shares d v) k v1 (Err fault) → CarriesOut (reward_renewed val who shares d v) k2 v2 (Err fault)
  renewed_unpaid k k2 v1 v2 fault h = first_fault (reward_withdrawn val who shares d v) renew_rest k k2 v1 v2 fault h

  pub renewed_carried : (k k2 : KeptShared) (u u2 : View) (coins : Money) → CarriesOut (reward_withdrawn val who shares d v) k u (Ok coins)
      → ((x : Shared) → KeepsShared k x → Answers (distribution_told x (modified val who shares) u) (KeepsShared k2) u2 (Ok tt)) → CarriesOut (reward_renewed val who shares d v) k2 u2 (Ok coins)
  renewed_carried k k2 u u2 coins h begun =
      let (x, parts) = carried_from k u (reward_withdrawn val who shares d v) coins h in
      let (e, same, keeps, view) = parts in
      let told = subst (λ w. Answers (distribution_told x.1 (modified val who shares) w) (KeepsShared k2) u2 (Ok tt)) view (begun x.1 keeps) in
      behind_first (reward_withdrawn val who shares d v) renew_rest k2 u2 x (Ok coins) e (same, told.0, told.1)

  -- no start is made
  pub renewed_unstarted : (k k2 : KeptShared) (u u2 : View) (coins : Money) (fault : HookFault) → CarriesOut (reward_withdrawn val who shares d v) k u (Ok coins)
      → ((x : Shared) → KeepsShared k x → Answers (distribution_told x (modified val who shares) u) (KeepsShared k2) u2 (Err fault)) → CarriesOut (reward_renewed val who shares d v) k2 u2 (Err fault)
  renewed_unstarted k k2 u u2 coins fault h begun =
      let (x, parts) = carried_from k u (reward_withdrawn val who shares d v) coins h in
      let made = started val who shares x.1 u in
      wants k2 u2 (reward_renewed val who shares d v) fault (given_wants k2 u2 made.0 made.1 made.2 fault (begun x.1 parts.2))

  -- ---- what is pending

  abbrev pub pending_rest : Money × Shared × View × Log → Result Money Over
  pending_rest x = Ok (smaller_of x.0 (purse_of x.1.purses val.operator).outstanding)

  -- the end of the period is over
  pub pending_over : (over : Over) → current_taken val d.purses ≡ Err over → pending val who shares d v ≡ Err over
  pending_over over e = ap (λ r. r >>= end_rest val d v >>= due_rest >>= pending_rest) e

  -- the reward once the period has ended, from what would be its increment
  module _ (increment lost : Money) (q : Purses) (taken : current_taken val d.purses ≡ Ok (increment, lost, q)) (left : Money) (outstanding : (purse_of q val.operator).outstanding ≡ left) where
    pub pending_is : pending val who shares d v
        ≡ (reward_after (start_of d.rewards who val.operator) (periods_of d.rewards val.operator) increment v.ctx.height (value_even_of val.tokens val.shares shares) >>= λ full. Ok (smaller_of full left))
    pending_is = ap (λ r. r >>= end_rest val d v >>= due_rest >>= pending_rest) taken ∙ by (period_ended increment (periods_of d.rewards val.operator))
      where
        value : ℕ
        value = value_even_of val.tokens val.shares shares

        ends : Money × Periods → Ruled ℕ
        ends y = Ok (
          last_ended y.1,
          record d { rewards = with_periods val.operator y.1 d.rewards; purses = q },
          noted (fact.Period val.operator (last_ended y.1) y.0) (over_facts (pooled_told lost) v),
          (val.operator, log.ended (last_ended y.1) increment val.tokens) ∷ [],
        )

        rest : (r : Result Money Over) (x : ℕ × Shared × View × Log) → x.1.purses ≡ q → ((r >>= λ full. Ok (full, x.1, x.2, x.3)) >>= pending_rest) ≡ (r >>= λ full. Ok (smaller_of full left))
        rest (Ok full) x e = ap (λ o. Ok (smaller_of full o)) (ap (λ p. (purse_of p val.operator).outstanding) e ∙ outstanding)
        rest (Err over) x e = refl

        by : (p : Result (Money × Periods) Over) → (p >>= ends >>= due_rest >>= pending_rest) ≡ (p >>= (λ y. reward_at (start_of d.rewards who val.operator) y.1 (last_ended y.1) v.ctx.height value) >>= λ full. Ok (smaller_of full left))
        by (Ok y) =
            ap (λ z. reward_at (start_of d.rewards who val.operator) z (last_ended y.1) v.ctx.height value >>= (λ full. Ok (
              full,
              record d { rewards = with_periods val.operator y.1 d.rewards; purses = q },
              noted (fact.Period val.operator (last_ended y.1) y.0) (over_facts (pooled_told lost) v),
              (val.operator, log.ended (last_ended y.1) increment val.tokens) ∷ [],
            )) >>= pending_rest) (periods_put_found val.operator y.1 d.rewards)
            ∙ rest (reward_at (start_of d.rewards who val.operator) y.1 (last_ended y.1) v.ctx.height value)
            (last_ended y.1, record d { rewards = with_periods val.operator y.1 d.rewards; purses = q }, noted (fact.Period val.operator (last_ended y.1) y.0) (over_facts (pooled_told lost) v), (val.operator, log.ended (last_ended y.1) increment val.tokens) ∷ []) refl
        by (Err over) = refl
