-- Worked rows of parameters that change in whole blocks: who may change them, what is out of range
-- and what never changes, what follows sees, and what a refused transaction leaves.
use Rattle.std.specs.Prelude.{◌≡◌, ℕ, ◌*◌, ◌^◌, Bool, true, false, List, [], ◌∷◌, codes, Result, Ok}
use Rattle.base_coins.specs.Coins.{Money}
use Rattle.base_roles.specs.declared.params.Params.{Params}
use Rattle.base_roles.specs.declared.refusal.Refusal.{Refusal}
use Rattle.base_roles.specs.declared.refusal.Refusal.TheVariants.{NotAuthority, ParamRange, ParamFixed, WithdrawFixed}
use Rattle.base_messages.specs.declared.block.Block.{Block}
use Rattle.base_messages.specs.declared.message.Msg.{Msg}
use Rattle.base_messages.specs.declared.message.Msg.TheVariants as msg
use Rattle.base_messages.specs.declared.report.Outcome.TheVariants.{Accepted, Refused}
use Rattle.rule_modules.specs.Chain.{shared_in}
use Rattle.rule_modules.specs.Fixtures.{addr, user, decimals, params}
use Rattle.rule_machine.specs.Machine.{Run}
use Rattle.rule_histories.specs.WholeRows.{ran, outcomes_in, two_validators, both_sign, block_of, pays}

-- somebody replaces the parameters; the authority is 153
abbrev pub changing : ℕ → Params → Msg
changing who p = msg.UpdateParams (record { authority = addr who; params = p })

-- user 3 names another payee
abbrev pub naming : Msg
naming = msg.SetWithdrawAddress (record { delegator = addr 3; withdraw = user 4 })

-- the parameters with no place for a validator; with another bond denomination; with no other
-- payee; of another authority; with a tax of all
abbrev pub no_places : Params
no_places = record params { max_validators = 0 }

abbrev pub other_bond : Params
other_bond = record params { bond_denom = codes "ustake" }

abbrev pub no_payees : Params
no_payees = record params { withdraw_addr_enabled = false }

abbrev pub of_user : Params
of_user = record params { authority = addr 3 }

abbrev pub taxed : Params
taxed = record params { community_tax = 10 ^ 18 }

-- Another may not, whatever is asked; out of range, also where the bond denomination would change
-- too; the bond denomination alone; what follows in the transaction sees the new ones, and is
-- refused; then they are as before; the authority hands on, and no longer may.
abbrev pub ChangesAreRefused : Type 0
ChangesAreRefused =
    outcomes_in (
    pays 3 0 (changing 3 no_places ∷ [])
    ∷ pays 3 0 (changing 153 (record other_bond { max_validators = 0 }) ∷ [])
    ∷ pays 3 0 (changing 153 other_bond ∷ [])
    ∷ pays 3 1 (changing 153 no_payees ∷ naming ∷ [])
    ∷ pays 3 0 (naming ∷ [])
    ∷ pays 3 0 (changing 153 of_user ∷ changing 3 of_user ∷ [])
    ∷ pays 3 0 (changing 153 params ∷ [])
    ∷ [])
    ≡ Ok (Refused 0 NotAuthority
    ∷ Refused 0 (ParamRange 13)
    ∷ Refused 0 (ParamFixed 10)
    ∷ Refused 1 WithdrawFixed
    ∷ Accepted
    ∷ Accepted
    ∷ Refused 0 NotAuthority
    ∷ [])

-- user 3 sends these in the first of two blocks
abbrev pub sent_first : List Msg → List Block
sent_first ms = block_of 1 [] [] (pays 3 0 ms ∷ []) ∷ block_of 2 [] [] [] ∷ []

-- whether another payee may be named at the end of a run
abbrev pub payees_at_end : Run → Bool
payees_at_end r = r.state.view.ctx.params.withdraw_addr_enabled

-- and so after these messages
abbrev pub payees_after : List Msg → Result Bool Refusal
payees_after ms = ran two_validators (sent_first ms) payees_at_end

-- a change in a block of its own stays, and one that is taken back does not
abbrev pub ChangeStays : Type 0
ChangeStays =
    (payees_after (changing 153 no_payees ∷ []) ≡ Ok false)
    × (payees_after (changing 153 no_payees ∷ naming ∷ []) ≡ Ok true)

-- the tax becomes 1 behind a fee of 100, which joins the pool in the next block
abbrev pub all_tax : List Block
all_tax =
    block_of 1 [] [] (pays 3 100 (changing 153 taxed ∷ []) ∷ [])
    ∷ block_of 2 both_sign [] []
    ∷ []

-- the community pool at the end of a run
abbrev pub pool_at_end : Run → Money
pool_at_end r = (shared_in r.state).purses.pool

abbrev pub AllIsTaxed : Type 0
AllIsTaxed = ran two_validators all_tax pool_at_end ≡ Ok (decimals (100 * 10 ^ 18))
