-- Modules that were loaded from the records of a state, and what loading items leaves of a module.
use Rattle.std.specs.Prelude.{◌≡◌, ℕ, ◌⊎◌, Bool, true, false, List, [], map, Contains}
use Rattle.base_coins.specs.Coins.{Money}
use Rattle.base_roles.specs.declared.bank.Ground.{Ground}
use Rattle.base_roles.specs.declared.items.Item.{Item}
use Rattle.base_roles.specs.declared.params.Ctx.{Ctx}
use Rattle.base_roles.specs.Items.{key_of, IsEmptyPool, IsOnce}
use Rattle.mod_bank.specs.Booked.{Booked, new_book}
use Rattle.mod_bank.specs.Items as bank
use Rattle.mod_staking.specs.Items as book
use Rattle.mod_redelegation.specs.Items as redelegate
use Rattle.mod_unbonding.specs.Items as unbonding
use Rattle.mod_signing.specs.Kept as kept
use Rattle.mod_signing.specs.Items as window
use Rattle.mod_distribution.specs.Kept.{KeptShared}
use Rattle.mod_distribution.specs.Items as distr
use Rattle.chain_modules.specs.declared.modules.Modules.{Modules}
use Rattle.chain_modules.specs.Kept.{KeptState, AreSet, kept_of, parts_of}
use Rattle.chain_modules.specs.Marks.{marks_of, no_marks, settled_of}
use Rattle.store_records.specs.declared.records.Signed.{Signed}
use Rattle.store_records.specs.Plain.{PlainSeen, SharedSeen}

-- ---- items that are loaded

-- no two items have one key
abbrev pub HaveOwnKeys : List Item → Type 0
HaveOwnKeys items = IsOnce (map key_of items)

-- nothing stands but an empty community pool
abbrev pub HasNone : List Item → Type 0
HasNone kept = (i : Item) → Contains kept i → IsEmptyPool i

-- A module has just these items of its kinds, and an empty community pool where none is given.
pub record Holds (is_kind : Item → Bool) (given kept : List Item) : Type 0 where
  -- each that is given and of one of its kinds stands
  pub all : (i : Item) → Contains given i → is_kind i ≡ true → Contains kept i
  -- no other stands but an empty pool
  pub only : (i : Item) → Contains kept i → Contains given i ⊎ IsEmptyPool i

-- each of the modules does
pub record HoldItems (given : List Item) (k : KeptState) : Type 0 where
  pub bank : Holds bank.is_holding given (bank.items_of k.view.bank)
  pub staked : Holds book.is_stake given (book.items_of k.stakes.staked)
  pub unbondings : Holds unbonding.is_unbonding given (unbonding.items_of k.stakes.unbondings)
  pub redelegations :
      Holds redelegate.is_redelegation given (redelegate.items_of k.stakes.redelegations)
  pub shared : Holds distr.is_distributed given (distr.items_of k.shared)
  pub signings : Holds window.is_signing given (window.items_of k.signings)

-- ---- what modules of records keep

-- a signing record as the window keeps it
abbrev pub signed_in : Signed → kept.Signed
signed_in s = record { info = s.info; ring = s.ring }

abbrev pub signings_in : List (List ℕ × Signed) → kept.Kept
signings_in signings = map (λ e. (e.0, signed_in e.1)) signings

-- what distribution keeps
abbrev pub shared_in : Money → SharedSeen → KeptShared
shared_in pool s = record {
  rewards = record {
    current = s.currents;
    historical = s.histories;
    starts = s.starts;
    events = s.events;
  };
  purses = record { purses = s.purses; pool = pool };
  withdraw = s.payees;
}

-- what modules of records keep: each record as it is, in the context of the records, and no fact
abbrev pub kept_in : PlainSeen → KeptState
kept_in r = record {
  stakes = record {
    staked = r.lists.staked;
    unbondings = r.lists.unbondings;
    redelegations = r.lists.redelegations;
  };
  shared = shared_in r.pool r.lists.shared;
  signings = signings_in r.lists.signings;
  view = record { bank = r.lists.bank; ctx = r.ctx; facts = [] };
}

-- the records of which such modules are
abbrev pub plain_signed : kept.Signed → Signed
plain_signed s = record { info = s.info; ring = s.ring }

abbrev pub plain_in : KeptState → PlainSeen
plain_in k = record {
  ctx = k.view.ctx;
  pool = k.shared.purses.pool;
  lists = record {
    bank = k.view.bank;
    staked = k.stakes.staked;
    unbondings = k.stakes.unbondings;
    redelegations = k.stakes.redelegations;
    signings = map (λ e. (e.0, plain_signed e.1)) k.signings;
    shared = record {
      purses = k.shared.purses.purses;
      payees = k.shared.withdraw;
      currents = k.shared.rewards.current;
      histories = k.shared.rewards.historical;
      starts = k.shared.rewards.starts;
      events = k.shared.rewards.events;
    };
  };
}

-- a ground on which nothing stands
abbrev pub empty_ground : Ctx → Ground Booked
empty_ground ctx = record { bank = new_book; ctx = ctx; facts = [] }

-- in no module was memory wanting
pub record AreUnspent {E : Type 0} (m : Modules E) : Type 0 where
  pub bank : m.ground.bank.spent ≡ false
  pub staking : m.stakes.staking.spent ≡ false
  pub unbondings : m.stakes.unbondings.spent ≡ false
  pub redelegations : m.stakes.redelegations.spent ≡ false
  pub shared : m.hooks.first.first.spent ≡ false
  pub signings : m.hooks.second.spent ≡ false

-- Modules that were loaded from records: they keep just these, and are settled as they stand.
pub record AreLoaded {E : Type 0} (r : PlainSeen) (m : Modules E) : Type 0 where
  pub kept : kept_of m ≡ kept_in r
  pub power : AreSet m
  pub unmarked : marks_of m ≡ no_marks
  pub settled : settled_of m ≡ parts_of m
  -- the keys of what distribution keeps ascend
  pub order : distr.AreInOrder (settled_of m).shared
  pub unspent : AreUnspent m
