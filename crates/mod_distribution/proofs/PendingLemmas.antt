-- What is pending: the end of the period is told from the purse, and the reward from the increment.
use Rattle.std.proofs.Common.{◌≡◌, ◌∙◌, ℕ, ◌*◌, ◌^◌, ◌==◌, Bool, true, false, List, [], Some, Ok, Err, refl, sym, ap, subst, if◌then◌else◌, unwrap_or, Result, IfOk, IfErr}
use Rattle.base_decimals.specs.declared.over.Over.{Over}
use Rattle.base_types.specs.Orders.{addr_cmp}
use Rattle.base_coins.specs.Coins.{Money, coins_quo_cut, coins_taken, smaller_of}
use Rattle.base_roles.specs.declared.{entities.{Purse.Purse, Validator.Validator}, faults.HookFault.HookFault}
use Rattle.base_roles.specs.{Entries.at, Items.no_purse, Flow.{◌>>=◌}, World.View}
use Rattle.base_roles.specs.declared.faults.HookFault.TheVariants as hook
use Rattle.law_soundness.proofs.Rewards.{put_found}
use Rattle.rule_modules.specs.Distribution.{Shared, current_taken, pending}
use Rattle.rule_modules.specs.Periods.{periods_of, reward_after, start_of}
use Rattle.rule_modules.specs.Purses.{Purses, current_emptied, current_pooled, purse_of, with_purse}
use Rattle.rule_modules.specs.Sound.{PursesAreSound}
use Rattle.base_shares.specs.Shares.{value_even_of}
use Rattle.mod_allocation.{proofs.{CallLemmas.{lost_joins, lost_pooled}, RuleLemmas.ok_or_err}, specs.Calls.purse_at}
use Rattle.mod_allocation.specs.Owed.{AreWithin, nothing_more}
use Rattle.mod_periods.specs.Answers.{Gives}
use Rattle.mod_distribution.specs.{Calls.{increment_at_end, left_at_end}, Kept.KeptShared, Stands.KeepsShared}
use Rattle.mod_distribution.proofs.{PayLemmas.joined_purses, WithdrawLemmas.{pending_is, pending_over}}

-- what taking the current rewards would leave of the purse
pub record IsTaken (val : Validator) (p : Purses) (increment : Money) (left : Money) : Type 0 where
  pub lost : Money
  pub purses : Purses
  pub taken : current_taken val p ≡ Ok (increment, lost, purses)
  pub outstanding : (purse_of purses val.operator).outstanding ≡ left

module _ (val : Validator) (p : Purses) (x : Purse) (sound : PursesAreSound p) (found : purse_at p val.operator ≡ Some x) (within : AreWithin p nothing_more) where
  own : purse_of p val.operator ≡ x
  own = ap (λ o. unwrap_or o no_purse) found

  abbrev taken_by : Bool → Result (Money × Money × Purses) Over
  taken_by b = if b then (current_pooled val.operator p >>= λ z. Ok ([], z.0, z.1))
      else (coins_quo_cut (purse_of p val.operator).current (val.tokens * 10 ^ 18) >>= λ i. Ok (i, [], current_emptied val.operator p))

  pub taken_at_end : (increment : Money) → increment_at_end val.tokens x ≡ Ok increment → IsTaken val p increment (left_at_end val.tokens x)
  taken_at_end increment e = by (val.tokens == 0) refl e
    where
      by : (b : Bool) → (val.tokens == 0) ≡ b → (if b then Ok [] else coins_quo_cut x.current (val.tokens * 10 ^ 18)) ≡ Ok increment → IsTaken val p increment (left_at_end val.tokens x)
      by true t f =
          let lost = smaller_of x.current x.outstanding in
          let less : Purse = record x { outstanding = coins_taken x.outstanding lost; current = [] } in
          let (q, joined) = lost_joins p val.operator x sound found within lost refl in
          let pooled = lost_pooled p val.operator x sound found within lost refl q joined in
          record {
            lost = lost;
            purses = q;
            taken = ap taken_by t ∙ ap (λ r. r >>= λ z. Ok ([], z.0, z.1)) pooled ∙ ap (λ r. r >>= λ i. Ok (i, lost, q)) f;
            outstanding =
                ap (λ es. (unwrap_or (at addr_cmp es val.operator) no_purse).outstanding) (joined_purses lost (with_purse val.operator less p) q joined)
                ∙ ap (λ o. (unwrap_or o no_purse).outstanding) (put_found p.purses val.operator less)
                ∙ sym (ap (λ b. if b then coins_taken x.outstanding lost else x.outstanding) t);
          }
      by false t f = record {
        lost = [];
        purses = current_emptied val.operator p;
        taken = ap taken_by t ∙ ap (λ r. r >>= λ i. Ok (i, [], current_emptied val.operator p)) (ap (λ y. coins_quo_cut y.current (val.tokens * 10 ^ 18)) own ∙ f);
        outstanding =
            ap (λ o. (unwrap_or o no_purse).outstanding) (put_found p.purses val.operator (record (purse_of p val.operator) { current = [] }))
            ∙ ap (λ y. y.outstanding) own ∙ sym (ap (λ b. if b then coins_taken x.outstanding (smaller_of x.current x.outstanding) else x.outstanding) t);
      }

-- a call that gives what a rule gives
pub gives_ok : {A : Type 0} (r : Result A Over) (a : A) → Gives r (Ok a) → r ≡ Ok a
gives_ok (Ok due) a g = ap Ok (sym g)
gives_ok (Err over) a g = absurd g

pub gives_over : {A : Type 0} (r : Result A Over) (over : Over) → Gives r (Err (hook.Over over)) → r ≡ Err over
gives_over (Ok due) over g = absurd g
gives_over (Err due) over g = ap Err (sym g)

module _ (val : Validator) (who : List ℕ) (shares : ℕ) (k : KeptShared) (d : Shared) (u : View) (h : KeepsShared k d) where
  -- memory may always be wanting
  pub pending_wants : (fault : HookFault) → fault ≡ hook.NoMemory → Gives (pending val who shares d u) (Err fault)
  pending_wants fault e = subst (λ f. Gives (pending val who shares d u) (Err f)) (sym e) (by (pending val who shares d u))
    where
      by : (r : Result Money Over) → Gives r (Err hook.NoMemory)
      by (Ok c) = tt
      by (Err over) = tt

  -- the end of the period is over, or memory is wanting
  pub pending_unended : (x : Purse) → purse_at k.purses val.operator ≡ Some x → (fault : HookFault) → Gives (increment_at_end val.tokens x) (Err fault) → Gives (pending val who shares d u) (Err fault)
  pending_unended x found hook.NoMemory g = pending_wants hook.NoMemory refl
  pending_unended x found (hook.Over over) g = subst (λ r. Gives r (Err (hook.Over over))) (sym (by (val.tokens == 0) refl (gives_over (increment_at_end val.tokens x) over g))) refl
    where
      taken : Bool → Result (Money × Money × Purses) Over
      taken b = if b then (current_pooled val.operator k.purses >>= λ z. Ok ([], z.0, z.1))
          else (coins_quo_cut (purse_of k.purses val.operator).current (val.tokens * 10 ^ 18) >>= λ i. Ok (i, [], current_emptied val.operator k.purses))

      by : (b : Bool) → (val.tokens == 0) ≡ b → (if b then Ok [] else coins_quo_cut x.current (val.tokens * 10 ^ 18)) ≡ Err over → pending val who shares d u ≡ Err over
      by true t f = ok_or_err [] over f
      by false t f = pending_over val who shares d u over (ap (λ p. current_taken val p) (sym h.purses) ∙ ap taken t
          ∙ ap (λ r. r >>= λ i. Ok (i, [], current_emptied val.operator k.purses)) (ap (λ o. coins_quo_cut (unwrap_or o no_purse).current (val.tokens * 10 ^ 18)) found ∙ f))

  module _ (increment left : Money) (taken : IsTaken val k.purses increment left) where
    rule : pending val who shares d u
        ≡ (reward_after (start_of d.rewards who val.operator) (periods_of d.rewards val.operator) increment u.ctx.height (value_even_of val.tokens val.shares shares) >>= λ full. Ok (smaller_of full left))
    rule = pending_is val who shares d u increment taken.lost taken.purses (ap (λ p. current_taken val p) (sym h.purses) ∙ taken.taken) left taken.outstanding

    -- the reward is over, or memory is wanting
    pub pending_fault : (fault : HookFault) → Gives (reward_after (start_of d.rewards who val.operator) (periods_of d.rewards val.operator) increment u.ctx.height (value_even_of val.tokens val.shares shares)) (Err fault)
        → Gives (pending val who shares d u) (Err fault)
    pending_fault fault g = subst (λ r. Gives r (Err fault)) (sym rule) (by (reward_after (start_of d.rewards who val.operator) (periods_of d.rewards val.operator) increment u.ctx.height (value_even_of val.tokens val.shares shares)) g)
      where
        by : (r : Result Money Over) → Gives r (Err fault) → Gives (r >>= λ full. Ok (smaller_of full left)) (Err fault)
        by (Ok full) g = g
        by (Err over) g = g

    -- the smaller of it and of what would be outstanding
    pub pending_given : (full due : Money) → Gives (reward_after (start_of d.rewards who val.operator) (periods_of d.rewards val.operator) increment u.ctx.height (value_even_of val.tokens val.shares shares)) (Ok full) → due ≡ smaller_of full left
        → Gives (pending val who shares d u) (Ok due)
    pending_given full due g e = subst (λ r. Gives r (Ok due)) (sym rule) (by (reward_after (start_of d.rewards who val.operator) (periods_of d.rewards val.operator) increment u.ctx.height (value_even_of val.tokens val.shares shares)) g)
      where
        by : (r : Result Money Over) → Gives r (Ok full) → Gives (r >>= λ full. Ok (smaller_of full left)) (Ok due)
        by (Ok f) g = e ∙ ap (λ c. smaller_of c left) g
        by (Err over) g = g

    -- the same of what a call answers
    pub pending_ends : (full rest : Money) (result : Result Money HookFault) → Gives (reward_after (start_of d.rewards who val.operator) (periods_of d.rewards val.operator) increment u.ctx.height (value_even_of val.tokens val.shares shares)) (Ok full)
        → rest ≡ left → IfOk result (λ due. due ≡ smaller_of full rest) → IfErr result (λ fault. fault ≡ hook.NoMemory) → Gives (pending val who shares d u) result
    pending_ends full rest (Ok due) g e ok err = pending_given full due g (ok ∙ ap (λ c. smaller_of full c) e)
    pending_ends full rest (Err fault) g e ok err = pending_wants fault err
