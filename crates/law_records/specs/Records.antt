-- The records of a plain state: one for each of its items.
use Rattle.std.specs.Prelude.{ℕ, List, map, Option, option_map, reverse}
use Rattle.std.specs.List.{filter_map, flat_map}
use Rattle.base_coins.specs.Coins.{Money}
use Rattle.base_roles.specs.declared.entities.Historical.{Historical}
use Rattle.rule_modules.specs.Chain.{State, shared_in, window_in}
use Rattle.rule_modules.specs.Distribution.{Shared}
use Rattle.rule_modules.specs.Periods.{Periods, Rewards, history_kept, starts_of}
use Rattle.rule_modules.specs.Window.{Signing, Window, info_of}
use Rattle.rule_machine.specs.Items.{ring_of}
use Rattle.store_records.specs.declared.records.Signed.{Signed}
use Rattle.store_records.specs.Plain.{SharedSeen, PlainSeen}

-- a signing record with its ring
abbrev pub signed_as : ℕ → Signing → Signed
signed_as window s = record { info = info_of window s; ring = ring_of window s.votes }

-- those of all consensus addresses
abbrev pub signed_in : ℕ → Window → List (List ℕ × Signed)
signed_in window i = map (λ e. (e.0, signed_as window e.1)) i

-- the record of an ended period, where something refers to it
abbrev pub history_at :
    Rewards → List ℕ × Periods → ℕ × Money → Option ((List ℕ × ℕ) × Historical)
history_at r e ended =
    option_map (λ h. ((e.0, ended.0), h)) (history_kept e.1 (starts_of r e.0) ended.0)

-- those of an operator, the earliest first
abbrev pub histories_in : Rewards → List ℕ × Periods → List ((List ℕ × ℕ) × Historical)
histories_in r e = filter_map (λ ended. history_at r e ended) (reverse e.1.ratios)

-- the slash events of an operator
abbrev pub events_in : List ℕ × Periods → List ((List ℕ × ℕ × ℕ) × ℕ)
events_in e = map (λ event. ((e.0, event.height, event.period), event.fraction)) e.1.events

-- what distribution has
abbrev pub shared_of : Shared → SharedSeen
shared_of d = record {
  purses = d.purses.purses;
  payees = d.withdraw;
  currents = map (λ e. (e.0, e.1.current)) d.rewards.periods;
  histories = flat_map (histories_in d.rewards) d.rewards.periods;
  starts = d.rewards.starts;
  events = flat_map events_in d.rewards.periods;
}

-- All records of a state. Votes behind the window and ratios to which nothing refers have none, nor have facts and the
-- log.
abbrev pub plain_of : State → PlainSeen
plain_of p = record {
  ctx = p.view.ctx;
  pool = (shared_in p).purses.pool;
  lists = record {
    bank = p.view.bank;
    staked = p.mine.staked;
    unbondings = p.mine.unbondings;
    redelegations = p.mine.redelegations;
    signings = signed_in p.view.ctx.params.signed_blocks_window (window_in p);
    shared = shared_of (shared_in p);
  };
}
