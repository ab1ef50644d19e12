-- What is kept has what calls need, where some plain records that it stands for are ready.
use Rattle.std.proofs.Common.{◌≡◌, ◌∙◌, ℕ, ◌+◌, ◌*◌, ◌^◌, ◌≤◌, true, false, List, Some, None, Option, refl, sym, ap, subst, arith, All, is_some, option_map}
use Rattle.std.proofs.lemmas.List.Elements.{All-weaker}
use Rattle.base_types.specs.declared.account.Account.TheVariants as account
use Rattle.base_types.specs.declared.account.Module.TheVariants as holder
use Rattle.base_types.specs.Orders.{addr_cmp}
use Rattle.base_roles.{proofs.HoldingLemmas.balance-most, specs.{declared.entities.SlashEvent.SlashEvent, Entries.at}}
use Rattle.base_roles.specs.{Hooks.Stand, Owing.Lists, Orders.pair_cmp, World.View}
use Rattle.law_soundness.proofs.Periods.{some_unwrap}
use Rattle.rule_modules.proofs.{EntryLemmas.from_all, OrderLemmas.addr_total, SoundLemmas.exact_addr}
use Rattle.rule_modules.specs.{Distribution.Shared, Periods.{Periods, initial_records, periods_of, starts_of}}
use Rattle.rule_modules.specs.Sound.{PeriodsAreSound, RewardsAreSound, EventIsSound}
use Rattle.mod_allocation.specs.{Calls.purse_at, Owed.{AreWithin, CanPay, nothing_more, owed_by}}
use Rattle.mod_periods.specs.{Kept.{current_of, info_of, events_of}, Scenes.HasPeriods}
use Rattle.mod_distribution.specs.{Calls.{HasRecords, HasStarted, CanBePaid}, Heights.sound_later, Kept.KeptShared}
use Rattle.mod_distribution.specs.{Stands.KeepsShared, Tells.distribution_tells}

pub some_mapped : {A B : Type 0} (f : A → B) (o : Option A) → is_some (option_map f o) ≡ is_some o
some_mapped f None = refl
some_mapped f (Some a) = refl

pub none_else : {A : Type 0} (o : Option A) → ((a : A) → o ≡ Some a → ⊥) → o ≡ None
none_else None h = refl
none_else (Some a) h = absurd (h a refl)

pub none_from : {A : Type 0} (o : Option A) → is_some o ≡ false → o ≡ None
none_from None e = refl
none_from (Some a) e = absurd cc

module _ (k : KeptShared) (d : Shared) (v : View) (l : Lists) (h : KeepsShared k d) (s : Stand distribution_tells d v l) where
  -- what is owed is what the account has, which is at most 10^18
  pub owed_within : AreWithin k.purses nothing_more
  owed_within = subst (λ p. AreWithin p nothing_more) (sym h.purses) (λ e. small _ (owed_by d.purses e) (balance-most v.bank (account.Module holder.Distribution) e s.in_order.bank) (s.owed e))
    where
      small : (b o : ℕ) → b ≤ 10 ^ 18 → 10 ^ 18 * b ≡ o → o + 10 ^ 18 * 0 ≤ 10 ^ 36
      small b o m e = omega (arith, m, e)

  pub can_be_paid : CanBePaid k v
  can_be_paid = record {
    backed = s.in_order.bank;
    enough = subst (λ p. CanPay p v) (sym h.purses) (λ e. less _ (owed_by d.purses e) (s.owed e));
  }
    where
      less : (b o : ℕ) → b ≡ o → o ≤ b
      less b o e = omega (arith, e)

  pub has_periods : (operator : List ℕ) → l.operators operator ≡ true → HasPeriods k.rewards operator
  has_periods operator there = record {
    kept = (d.rewards, h.rewards);
    initialised = ap is_some (h.rewards.current operator) ∙ some_mapped (λ (p : Periods). p.current) (at addr_cmp d.rewards.periods operator) ∙ s.lists.stands.periods operator ∙ there;
  }

  pub has_records : (operator : List ℕ) → l.operators operator ≡ true → HasRecords k operator
  has_records operator there = record {
    periods = has_periods operator there;
    purse = ap (λ p. is_some (purse_at p operator)) h.purses ∙ s.lists.stands.purses operator ∙ there;
    within = owed_within;
  }

  is_started : (who operator : List ℕ) → is_some (info_of k.rewards who operator) ≡ l.started who operator
  is_started who operator = ap (λ es. is_some (at pair_cmp es (operator, who))) h.rewards.starts ∙ s.lists.stands.starts who operator

  pub has_started : (who operator : List ℕ) → l.started who operator ≡ true → HasStarted k who operator
  has_started who operator e = record { records = has_records operator (s.lists.started who operator e); started = is_started who operator ∙ e }

  pub not_started : (who operator : List ℕ) → l.started who operator ≡ false → info_of k.rewards who operator ≡ None
  not_started who operator e = none_from (info_of k.rewards who operator) (is_started who operator ∙ e)

  -- a new operator has nothing yet
  pub no_period : (operator : List ℕ) → l.operators operator ≡ false → current_of k.rewards operator ≡ None
  no_period operator e = none_from (current_of k.rewards operator)
      (ap is_some (h.rewards.current operator) ∙ some_mapped (λ (p : Periods). p.current) (at addr_cmp d.rewards.periods operator) ∙ s.lists.stands.periods operator ∙ e)

  pub no_purse_yet : (operator : List ℕ) → l.operators operator ≡ false → purse_at k.purses operator ≡ None
  no_purse_yet operator e = none_from (purse_at k.purses operator) (ap (λ p. is_some (purse_at p operator)) h.purses ∙ s.lists.stands.purses operator ∙ e)

  -- no slash is later than the ground
  pub none_later : (operator : List ℕ) → l.operators operator ≡ true → All (λ e. e.height ≤ v.ctx.height) (events_of k.rewards operator)
  none_later operator there =
      let r : RewardsAreSound v.ctx.height d.rewards = sound_later d.rewards v.ctx.height s.lists.rewards s.late in
      let p = periods_of d.rewards operator in
      let found : at addr_cmp d.rewards.periods operator ≡ Some p = some_unwrap (at addr_cmp d.rewards.periods operator) initial_records (s.lists.stands.periods operator ∙ there) in
      let own : PeriodsAreSound v.ctx.height (starts_of d.rewards operator) p
      = from_all addr_cmp addr_total (λ e. PeriodsAreSound v.ctx.height (starts_of d.rewards e.0) e.1) d.rewards.periods exact_addr r.periods operator p found in
      subst (All (λ (e : SlashEvent). e.height ≤ v.ctx.height)) (sym (h.rewards.events operator))
      (All-weaker (EventIsSound p.current v.ctx.height) (λ e. e.height ≤ v.ctx.height) (λ e x. x.height) p.events own.events)
