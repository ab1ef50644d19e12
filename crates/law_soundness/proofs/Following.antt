-- The next block keeps a state sound: heights that were are still heights that were.
use Rattle.std.proofs.Common.{◌≡◌, ℕ, ◌^◌, ◌<◌, ◌≤◌, List, Some, arith, All, length, Contains}
use Rattle.std.proofs.lemmas.List.Elements.{All-weaker}
use Rattle.base_types.specs.Orders.{addr_cmp}
use Rattle.base_roles.specs.declared.entities.{SlashEvent.SlashEvent, StartingInfo.StartingInfo}
use Rattle.base_roles.specs.declared.entities.{UnbondingEntry.UnbondingEntry, RedelegationEntry.RedelegationEntry}
use Rattle.base_roles.specs.{Owing.Lists, Entries.at, Ground.end_of_blocks, Staked.lists_of}
use Rattle.rule_modules.{proofs.SoundLemmas.later, specs.{Chain.State, Distribution.Shared, Laws.next_block}}
use Rattle.rule_modules.specs.{Periods.Periods, Redelegations.RedelegationLists}
use Rattle.rule_modules.specs.Sound.{RedelegationIsSound, RedelegationsAreSound, SigningIsSound, UnbondingIsSound, UnbondingsAreSound, WindowIsSound}
use Rattle.rule_modules.specs.{Unbondings.UnbondingLists, Window.{Signing, Window}}
use Rattle.law_soundness.proofs.{Burns.total_in, Lists.weaker}
use Rattle.law_soundness.proofs.Points.{EventFits, PeriodsFit, SharedFits, StartFits, StateFits, from_fits, to_fits}
use Rattle.law_soundness.specs.StepLaws.{NextBlockKeepsSoundness}

within : (a b c : ℕ) → a ≤ b → b ≤ c → a ≤ c
within a b c l m = omega (arith, l, m)

-- ---- records at a later height

start_later : (a b : ℕ) → a ≤ b → (p : Periods) (s : StartingInfo) → StartFits a p s → StartFits b p s
start_later a b l p s h = record { period = h.period; height = within s.height a b h.height l; stands = h.stands }

event_later : (a b : ℕ) → a ≤ b → (p : Periods) (e : SlashEvent) → EventFits a p e → EventFits b p e
event_later a b l p e h = record { period = h.period; height = within e.height a b h.height l; fraction = h.fraction; stands = h.stands }

window_later : (a b : ℕ) → a ≤ b → (i : Window) → WindowIsSound a i → WindowIsSound b i
window_later a b l i h = record {
  ascend = h.ascend;
  records = All-weaker (λ (e : List ℕ × Signing). SigningIsSound a e.1) (λ e. SigningIsSound b e.1) (λ e k. record { counted = within (length e.1.votes) a b k.counted l; start = k.start }) i h.records;
}

unbondings_later : (a b : ℕ) → a ≤ b → (u : UnbondingLists) → UnbondingsAreSound a u → UnbondingsAreSound b u
unbondings_later a b l u h = record {
  ascend = h.ascend;
  some = h.some;
  most = h.most;
  entries = All-weaker (λ (p : (List ℕ × List ℕ) × List UnbondingEntry). All (UnbondingIsSound a) p.1) (λ p. All (UnbondingIsSound b) p.1)
      (λ p k. All-weaker (UnbondingIsSound a) (UnbondingIsSound b) (λ e j. record { initial = j.initial; balance = j.balance; created = within e.created a b j.created l }) p.1 k) u h.entries;
}

redelegations_later : (a b : ℕ) → a ≤ b → (r : RedelegationLists) → RedelegationsAreSound a r → RedelegationsAreSound b r
redelegations_later a b l r h = record {
  ascend = h.ascend;
  some = h.some;
  most = h.most;
  entries = All-weaker (λ (p : (List ℕ × List ℕ × List ℕ) × List RedelegationEntry). All (RedelegationIsSound a) p.1) (λ p. All (RedelegationIsSound b) p.1)
      (λ p k. All-weaker (RedelegationIsSound a) (RedelegationIsSound b) (λ e j. record { initial = j.initial; created = within e.created a b j.created l }) p.1 k) r h.entries;
}

module _ (P : List ℕ → Type 0) (T : List ℕ → ℕ) where
  periods_later : (a b : ℕ) → a ≤ b → (p : Periods) → PeriodsFit P a p → PeriodsFit P b p
  periods_later a b l p h = record {
    first = h.first;
    most = h.most;
    falling = h.falling;
    lists = h.lists;
    last = h.last;
    growing = h.growing;
    events = weaker (EventFits a p) (EventFits b p) (event_later a b l p) p.events h.events;
    order = h.order;
  }

  shared_later : (a b : ℕ) → a ≤ b → (l : Lists) (d : Shared) → SharedFits P a l d → SharedFits P b l d
  shared_later a b le l d s = record {
    stands = s.stands;
    purses_ascend = s.purses_ascend;
    purses = s.purses;
    pool = s.pool;
    periods_ascend = s.periods_ascend;
    periods = weaker (λ e. PeriodsFit P a e.1) (λ e. PeriodsFit P b e.1) (λ e k. periods_later a b le e.1 k) d.rewards.periods s.periods;
    starts_ascend = s.starts_ascend;
    starts = weaker (λ e. (p : Periods) → at addr_cmp d.rewards.periods e.0.0 ≡ Some p → StartFits a p e.1) (λ e. (p : Periods) → at addr_cmp d.rewards.periods e.0.0 ≡ Some p → StartFits b p e.1)
        (λ e k p f. start_later a b le p e.1 (k p f)) d.rewards.starts s.starts;
    payees = s.payees;
  }

  pub next_fits : (height time : ℕ) (w : State) → StateFits P T w → w.view.ctx.height ≤ height → height < 2 ^ 63 → time < end_of_blocks → StateFits P T (next_block height time w)
  next_fits height time w h le few before =
      let s = h.stake in
      let a = w.view.ctx.height in
      record {
        stake = record {
          ground = record { order = record { params = s.ground.order.params; time = before; height = few; bank = s.ground.order.bank }; held = s.ground.held; total = s.ground.total };
          staked = later a height w.mine.staked le s.staked;
          bonded = s.bonded;
          not_bonded = s.not_bonded;
          owed = s.owed;
          shared = shared_later a height le (lists_of w.mine.staked) w.hooks.0 s.shared;
          window = window_later a height le w.hooks.1 s.window;
          recorded = s.recorded;
        };
        unbondings = unbondings_later a height le w.mine.unbondings h.unbondings;
        redelegations = redelegations_later a height le w.mine.redelegations h.redelegations;
      }

pub next_block_keeps_soundness : NextBlockKeepsSoundness
next_block_keeps_soundness height time w s later few since before =
    from_fits (next_block height time w) s.few.some (total_in w.view) s.few.few (next_fits (Contains s.few.some) (total_in w.view) height time w (to_fits w s) (omega (arith, later)) few before)
