-- That records which pass all tests are those of a sound state, and that the records of a sound state pass them.
use Rattle.std.specs.Prelude.{◌≡◌, ◌^◌, ◌<◌, true, length, All}
use Rattle.rule_modules.specs.Chain.{State}
use Rattle.rule_modules.specs.Sound.{IsSound}
use Rattle.rule_machine.specs.Items.{items_of}
use Rattle.store_records.specs.Plain.{PlainSeen, AreAscending, listed}
use Rattle.store_records.specs.States.{state_of}
use Rattle.store_soundness.specs.Sound.{is_sound}
use Rattle.law_records.specs.Coins.{AreCoins}
use Rattle.law_records.specs.Records.{plain_of}

-- What the records of a memory have by their types and no plain list has: shares are decimals, and there are fewer than
-- 2^64 starts and slash events.
pub record AreInMemory (r : PlainSeen) : Type 0 where
  pub shares : All (λ e. e.1.shares < 10 ^ 38) r.lists.staked.validators
  pub starts : length r.lists.shared.starts < 2 ^ 64
  pub events : length r.lists.shared.events < 2 ^ 64

-- where all tests pass, the plain state is sound
abbrev pub TestsMakeSound : Type 0
TestsMakeSound =
    (r : PlainSeen) → AreAscending r.lists → AreCoins r → AreInMemory r → is_sound r ≡ true
    → IsSound (state_of r)

-- the items of a state are those of its records
abbrev pub ItemsAreListed : Type 0
ItemsAreListed = (p : State) → items_of p ≡ listed (plain_of p)

-- the records of a sound state ascend, have lists of coins, and pass all tests
abbrev pub SoundRecordsPass : Type 0
SoundRecordsPass =
    (p : State) → IsSound p → AreInMemory (plain_of p)
    → AreAscending (plain_of p).lists × AreCoins (plain_of p) × (is_sound (plain_of p) ≡ true)
