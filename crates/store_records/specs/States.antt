-- The plain state of records: a period without a record has the ratio of the nearest one below that
-- has, votes older than the ring were signed, and nothing is logged.
use Rattle.std.specs.Prelude.{ℕ, ◌-◌, ◌%◌, Bool, false, List, [], ◌∷◌, ◌++◌, map, filter, reverse, take, drop, length, replicate}
use Rattle.base_coins.specs.Coins.{Money}
use Rattle.base_roles.specs.declared.entities.SlashEvent.{SlashEvent}
use Rattle.base_roles.specs.Orders.{same_addr}
use Rattle.rule_modules.specs.Chain.{State}
use Rattle.rule_modules.specs.Periods.{Periods, Rewards}
use Rattle.rule_modules.specs.Window.{Signing, Window}
use Rattle.store_records.specs.declared.records.Signed.{Signed}
use Rattle.store_records.specs.Plain.{SharedSeen, PlainSeen, event_at}

-- the recorded ratios of an operator, the latest first
abbrev pub ratios_of : SharedSeen → List ℕ → List (ℕ × Money)
ratios_of s operator =
    reverse (map (λ h. (h.0.1, h.1.ratio)) (filter (λ h. same_addr h.0.0 operator) s.histories))

-- the slash events of an operator, by height, then by period
abbrev pub events_of : SharedSeen → List ℕ → List SlashEvent
events_of s operator = map event_at (filter (λ e. same_addr e.0.0 operator) s.events)

-- the periods of an operator of which this one runs
abbrev pub periods_in : SharedSeen → List ℕ → ℕ → Periods
periods_in s operator current =
    record { current = current; ratios = ratios_of s operator; events = events_of s operator }

abbrev pub rewards_of : SharedSeen → Rewards
rewards_of s =
    record { periods = map (λ e. (e.0, periods_in s e.0 e.1)) s.currents; starts = s.starts }

-- All votes since the last reset, the latest first: those of the ring, read backwards from its next
-- place, and before them signed ones.
abbrev pub votes_of : ℕ → Signed → List Bool
votes_of window s =
    let next = s.info.counted % window in
    reverse (drop next s.ring ++ take next s.ring)
    ++ replicate (s.info.counted - length s.ring) false

abbrev pub signing_in : ℕ → Signed → Signing
signing_in window s = record {
  start = s.info.start;
  votes = votes_of window s;
  jailed_until = s.info.jailed_until;
  tombstoned = s.info.tombstoned;
}

abbrev pub window_of : ℕ → List (List ℕ × Signed) → Window
window_of window signings = map (λ e. (e.0, signing_in window e.1)) signings

-- the state that the records are of
abbrev pub state_of : PlainSeen → State
state_of r = record {
  mine = record {
    staked = r.lists.staked;
    unbondings = r.lists.unbondings;
    redelegations = r.lists.redelegations;
  };
  hooks = (
    record {
      rewards = rewards_of r.lists.shared;
      purses = record { purses = r.lists.shared.purses; pool = r.pool };
      withdraw = r.lists.shared.payees;
    },
    window_of r.ctx.params.signed_blocks_window r.lists.signings,
  );
  view = record { bank = r.lists.bank; ctx = r.ctx; facts = [] };
  log = [];
}
