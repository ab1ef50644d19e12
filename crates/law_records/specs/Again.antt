-- That records which pass the tests are those of their plain state.
use Rattle.std.specs.Prelude.{◌≡◌, true}
use Rattle.rule_modules.specs.Chain.{window_in}
use Rattle.rule_machine.specs.Items.{items_of}
use Rattle.store_records.specs.Plain.{PlainSeen, AreAscending, listed}
use Rattle.store_records.specs.States.{state_of}
use Rattle.store_soundness.specs.Signing.{are_signings_sound}
use Rattle.store_soundness.specs.Sound.{is_sound}
use Rattle.law_records.specs.Coins.{AreCoins}
use Rattle.law_records.specs.Records.{plain_of, signed_in}

-- signing records that pass have the infos and the rings of the votes of their plain state
abbrev pub SigningsAreThoseOfVotes : Type 0
SigningsAreThoseOfVotes =
    (r : PlainSeen)
    → are_signings_sound r.ctx.height r.ctx.params.signed_blocks_window r.lists.signings ≡ true
    → signed_in r.ctx.params.signed_blocks_window (window_in (state_of r)) ≡ r.lists.signings

-- records that pass all tests are those of their plain state, which has just the listed items
abbrev pub RecordsAreThoseOfState : Type 0
RecordsAreThoseOfState =
    (r : PlainSeen) → AreAscending r.lists → AreCoins r → is_sound r ≡ true
    → (plain_of (state_of r) ≡ r) × (items_of (state_of r) ≡ listed r)
