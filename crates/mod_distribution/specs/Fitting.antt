-- Sound records of distribution, said in the two ways in which they are known: by lists and by each record.
use Rattle.std.specs.Prelude.{◌≡◌, ℕ, ◌≤◌, List, [], ◌∷◌, All, Contains, Some, refl}
use Rattle.std.specs.List.{AllByRecursion}
use Rattle.std.specs.Map.{values_of}
use Rattle.std.proofs.lemmas.List.Elements.{All-from_recursion, recursion_from_All, All-contains_itself}
use Rattle.base_types.specs.Orders.{addr_cmp}
use Rattle.base_roles.specs.Entries.{at}
use Rattle.base_roles.specs.Hooks.{Stand}
use Rattle.base_roles.specs.Owing.{Lists}
use Rattle.base_roles.specs.Holdings.{Balances}
use Rattle.base_roles.specs.World.{View}
use Rattle.law_soundness.proofs.Bank.{AreHeld}
use Rattle.law_soundness.proofs.Burns.{total_in}
use Rattle.law_soundness.proofs.Fitting.{fit_over, order_left}
use Rattle.law_soundness.proofs.Lists.{weaker}
use Rattle.law_soundness.proofs.Moves.{HooksFit, Leaves, fit_after}
use Rattle.law_soundness.proofs.Points.{PurseFits, PeriodsFit, StartFits, SharedFits, purses_named, all_periods, start_fits, period_sound}
use Rattle.rule_modules.proofs.EntryLemmas.{from_all, to_all}
use Rattle.rule_modules.proofs.OrderLemmas.{addr_total}
use Rattle.rule_modules.proofs.SoundLemmas.{exact_addr}
use Rattle.rule_modules.specs.Distribution.{Shared}
use Rattle.rule_modules.specs.Periods.{Periods, starts_of}
use Rattle.rule_modules.specs.Sound.{PurseIsSound, PeriodsAreSound, RewardsAreSound, names_of_purses, names_of_periods}
use Rattle.mod_distribution.specs.Heights.{sound_at_last, last_below, sound_later}
use Rattle.mod_distribution.specs.Tells.{AreFor, StartAtOperators, distribution_tells, last_height}

-- any denomination
abbrev pub Any : List ℕ → Type 0
Any d = Unit {0}

any_each : (ds : List (List ℕ)) → AllByRecursion Any ds
any_each [] = tt
any_each (d ∷ ds) = (tt, any_each ds)

any_name : (ds : List (List ℕ)) → All Any ds
any_name ds = All-from_recursion Any ds (any_each ds)

any_coin : (c : List (List ℕ × ℕ)) → AllByRecursion (λ e. Any e.0) c
any_coin [] = tt
any_coin (e ∷ c) = (tt, any_coin c)

any_balance : (es : Balances) → AreHeld Any es
any_balance [] = tt
any_balance (e ∷ es) = (tt, any_balance es)

-- ---- both ways

pub fits_from : (h : ℕ) (l : Lists) (d : Shared) → AreFor d l → last_height d.rewards ≤ h → SharedFits Any h l d
fits_from h l d s late =
    let r : RewardsAreSound h d.rewards = sound_later d.rewards h s.rewards late in
    record {
      stands = s.stands;
      purses_ascend = s.purses.ascend;
      purses = purses_named Any d.purses.purses (recursion_from_All (λ e. PurseIsSound e.1) d.purses.purses s.purses.purses) (any_name (names_of_purses (values_of d.purses.purses)));
      pool = record { money = s.purses.pool; named = any_coin d.purses.pool };
      periods_ascend = r.periods_ascend;
      periods = all_periods Any h d.rewards d.rewards.periods (recursion_from_All (λ e. PeriodsAreSound h (starts_of d.rewards e.0) e.1) d.rewards.periods r.periods) (any_name (names_of_periods (values_of d.rewards.periods)));
      starts_ascend = r.starts_ascend;
      starts = weaker (Contains d.rewards.starts) (λ e. (p : Periods) → at addr_cmp d.rewards.periods e.0.0 ≡ Some p → StartFits h p e.1) (λ e c p f. start_fits Any h d.rewards r e c p f) d.rewards.starts
          (recursion_from_All (Contains d.rewards.starts) d.rewards.starts (All-contains_itself d.rewards.starts));
      payees = s.payees;
    }

rewards_from : (h : ℕ) (l : Lists) (d : Shared) → SharedFits Any h l d → RewardsAreSound h d.rewards
rewards_from h l d s = record {
  periods_ascend = s.periods_ascend;
  starts_ascend = s.starts_ascend;
  periods = to_all addr_cmp addr_total (λ e. PeriodsAreSound h (starts_of d.rewards e.0) e.1) d.rewards.periods s.periods_ascend
      (λ o p f. period_sound Any h d.rewards o p f (from_all addr_cmp addr_total (λ e. PeriodsFit Any h e.1) d.rewards.periods exact_addr (All-from_recursion (λ e. PeriodsFit Any h e.1) d.rewards.periods s.periods) o p f) s.starts);
}

pub for_from : (h : ℕ) (l : Lists) (d : Shared) → StartAtOperators l → SharedFits Any h l d → AreFor d l
for_from h l d started s = record {
  stands = s.stands;
  started = started;
  purses = record {
    ascend = s.purses_ascend;
    purses = All-from_recursion (λ e. PurseIsSound e.1) d.purses.purses
        (weaker (λ e. PurseFits Any e.1) (λ e. PurseIsSound e.1) (λ e k. record { outstanding = k.outstanding.money; commission = k.commission.money; current = k.current.money }) d.purses.purses s.purses);
    pool = s.pool.money;
  };
  rewards = sound_at_last d.rewards h (rewards_from h l d s);
  payees = s.payees;
}

pub late_from : (h : ℕ) (l : Lists) (d : Shared) → SharedFits Any h l d → last_height d.rewards ≤ h
late_from h l d s = last_below d.rewards h (rewards_from h l d s)

-- ---- hooks that stand fit, and what a rule leaves stands

pub hooks_fit : (v : View) (l : Lists) (d : Shared) → Stand distribution_tells d v l → HooksFit Any (total_in v) v l d
hooks_fit v l d s = fit_over Any (total_in v) v l d s.in_order (any_balance v.bank.balances) (λ e. refl) s.owed (fits_from v.ctx.height l d s.lists s.late)

pub stand_from : (T : List ℕ → ℕ) (v u : View) (l : Lists) (d : Shared) → StartAtOperators l → Leaves Any T v l d u → Stand distribution_tells d u l
stand_from T v u l d started k =
    let s : SharedFits Any u.ctx.height l d = (fit_after Any T v u l d k).shared in
    record { lists = for_from u.ctx.height l d started s; owed = k.owed; late = late_from u.ctx.height l d s; in_order = order_left Any T v u l d k }
