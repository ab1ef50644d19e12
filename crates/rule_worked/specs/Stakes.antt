-- Worked rows of redelegations, the bonded set, commission, and cancelled unbondings.
use Rattle.std.specs.Prelude.{◌≡◌, ℕ, ◌+◌, ◌*◌, ◌^◌, List, [], ◌∷◌, ◌++◌, map, Option, Some, None, Result, Ok, Err}
use Rattle.std.specs.Map.{values_of}
use Rattle.base_types.specs.declared.account.Account.TheVariants as account
use Rattle.base_types.specs.declared.account.Module.TheVariants as holder
use Rattle.base_types.specs.declared.status.BondStatus.{BondStatus}
use Rattle.base_types.specs.declared.status.BondStatus.TheVariants.{Bonded, Unbonding, Unbonded}
use Rattle.base_roles.specs.declared.entities.Validator.{Validator}
use Rattle.base_roles.specs.declared.refusal.Refusal.{Refusal}
use Rattle.base_roles.specs.declared.refusal.Refusal.TheVariants.{Transitive, CommissionTooSoon, CommissionAboveMax, CommissionStep, CancelTooMuch, NoEntry}
use Rattle.base_roles.specs.Holdings.{balance_of}
use Rattle.base_roles.specs.Staked.{delegation}
use Rattle.base_roles.specs.Flow.{◌>>=◌, each}
use Rattle.base_roles.specs.World.{over_view, over_mine}
use Rattle.rule_modules.specs.Amounts.{seconds}
use Rattle.rule_modules.specs.Chain.{State}
use Rattle.rule_modules.specs.Effects.{Effect, accepted, refused_at, begin_redelegate, cancel_unbonding, delegate, undelegate}
use Rattle.rule_modules.specs.Unbondings.{UnbondingLists}
use Rattle.rule_modules.specs.Validators.{new_validator, rate_edited}
use Rattle.rule_modules.specs.Fixtures.{addr, coin, params, time_of, validates, stakes, Beginning, Block, begins, given, pays, says, block, after, last_endings, balance, empty, uatom}

-- ---- a redelegation from what a redelegation gave

-- three validators, and a fourth delegator with 1,000,000 at the first
abbrev pub three_validators : Beginning
three_validators = record {
  params = params;
  holdings = (4, 7) ∷ [];
  validators = validates 1 0 ∷ validates 2 0 ∷ validates 3 0 ∷ [];
  stakes = stakes 1 1 1000000 ∷ stakes 2 2 1000000 ∷ stakes 3 3 1000000 ∷ stakes 4 1 1000000 ∷ [];
}

-- half goes from 1 to 2, and then on to 3 with a fee of 7
abbrev pub on_to_the_third : List Block
on_to_the_third =
    block 1 [] [] (
    says (begin_redelegate (addr 4) (addr 1) (addr 2) (coin 500000))
    ∷ pays 4 7 (begin_redelegate (addr 4) (addr 2) (addr 3) (coin 500000) ∷ [])
    ∷ []) ∷ []

-- the second is refused as transitive; the state is as before but for the fee
abbrev pub TransitiveIsRefused : Type 0
TransitiveIsRefused =
    (last_endings three_validators on_to_the_third ≡ Ok (accepted ∷ refused_at 0 Transitive ∷ []))
    × (after {A = ℕ × Option ℕ × Option ℕ} three_validators on_to_the_third (λ w. (balance 4 w, delegation w.mine.staked (addr 4) (addr 2), delegation w.mine.staked (addr 4) (addr 3))) ≡ Ok (0, Some (500000 * 10 ^ 18), None))

-- ---- two validators of one power, and a set of one

-- two validators of 1,000,000
abbrev pub equal_powers : Beginning
equal_powers = record {
  params = record params { max_validators = 1 };
  holdings = [];
  validators = validates 2 0 ∷ validates 1 0 ∷ [];
  stakes = stakes 2 2 1000000 ∷ stakes 1 1 1000000 ∷ [];
}

-- the lower operator's is bonded
abbrev pub LowerIsBonded : Type 0
LowerIsBonded = after equal_powers [] (λ w. map (λ v. v.status) (values_of w.mine.staked.validators)) ≡ Ok (Bonded ∷ Unbonded ∷ [])

-- ---- a set of one, of which another validator takes the place

-- two validators of 2,000,000 and 1,000,000, and a user with 3,000,000
abbrev pub two_powers : Beginning
two_powers = record {
  params = record params { max_validators = 1 };
  holdings = (3, 3000000) ∷ [];
  validators = validates 1 0 ∷ validates 2 0 ∷ [];
  stakes = stakes 1 1 2000000 ∷ stakes 2 2 1000000 ∷ [];
}

-- a delegation to the second in block 1; the third undelegates 500,000 in block 2
abbrev pub second_grows : List Block
second_grows =
    block 1 [] [] (says (delegate (addr 3) (addr 2) (coin 3000000)) ∷ [])
    ∷ block 2 [] [] (says (undelegate (addr 3) (addr 2) (coin 500000)) ∷ [])
    ∷ []

-- the statuses, what the two accounts hold, and what the third has
abbrev pub statuses_and_accounts : State → List BondStatus × ℕ × ℕ × ℕ
statuses_and_accounts w = (
  map (λ v. v.status) (values_of w.mine.staked.validators),
  balance_of w.view.bank (account.Module holder.Bonded) uatom,
  balance_of w.view.bank (account.Module holder.NotBonded) uatom,
  balance 3 w,
)

-- the second joins and the first leaves, with its tokens; the undelegated coins are not bonded either
abbrev pub SetChanges : Type 0
SetChanges = after two_powers second_grows statuses_and_accounts ≡ Ok (Unbonding ∷ Bonded ∷ [], 3500000, 2500000, 0)

-- 21 days after block 2 the first is unbonded, and the third has its coins
abbrev pub UnbondingsMature : Type 0
UnbondingsMature =
    after two_powers (second_grows ++ record (empty 3) { time = time_of 2 + seconds 1814400 } ∷ []) statuses_and_accounts
    ≡ Ok (Unbonded ∷ Bonded ∷ [], 3500000, 2000000, 500000)

-- ---- a commission of 0.1 that was set at the beginning, may be 0.2 at most, and may rise by 0.01

-- the validator as it was created
abbrev pub a_tenth : Validator
a_tenth = new_validator (record (validates 1 (10 ^ 17)) { max_rate = 2 * 10 ^ 17; max_change_rate = 10 ^ 16 }) (time_of 0)

-- what the rate becomes after so many seconds
abbrev pub rate_after : ℕ → ℕ → Validator → Result ℕ Refusal
rate_after time rate v = do
  u ← rate_edited (Some rate) (time_of 0 + seconds time) 0 v
  Ok u.commission.rate

-- the same validator with 0.11, a day later
abbrev pub eleven_hundredths : Validator
eleven_hundredths = record a_tenth { commission = record a_tenth.commission { rate = 11 * 10 ^ 16; updated = time_of 0 + seconds 86400 } }

-- 0.11 a second before a day is over is too soon, and then is taken; a day later 0.13 is too large a step, 0.3 is above
-- the highest, and 0.01 is taken
abbrev pub CommissionEdits : Type 0
CommissionEdits =
    (rate_after 86399 (11 * 10 ^ 16) a_tenth ≡ Err CommissionTooSoon)
    × (rate_edited (Some (11 * 10 ^ 16)) (time_of 0 + seconds 86400) 0 a_tenth ≡ Ok eleven_hundredths)
    × (rate_after 172800 (13 * 10 ^ 16) eleven_hundredths ≡ Err CommissionStep)
    × (rate_after 172800 (3 * 10 ^ 17) eleven_hundredths ≡ Err CommissionAboveMax)
    × (rate_after 172800 (10 ^ 16) eleven_hundredths ≡ Ok (10 ^ 16))

-- ---- an entry of 1,000 made at height 7, of which a slash left 950

-- a validator of 1,000,000
abbrev pub one_validator : Beginning
one_validator = record { params = params; holdings = []; validators = validates 1 0 ∷ []; stakes = stakes 1 1 1000000 ∷ [] }

-- the state with the entry
abbrev pub with_entry : State → State
with_entry w =
    over_view (λ v. record v { bank = given (account.Module holder.NotBonded) 950 v.bank })
    (over_mine (λ c. record c {
      unbondings =
          ((addr 2, addr 1), record { created = 7; completes = time_of 100; initial = 1000; balance = 950 } ∷ []) ∷ [];
    }) w)

-- after effects, one after another
abbrev pub after_effects : {A : Type 0} → List Effect → (State → A) → Result A Refusal
after_effects effects f = do
  w ← begins one_validator
  u ← each (λ effect s. effect s) effects (with_entry w)
  Ok (f u)

-- the entries that are left, and the shares of the delegator
abbrev pub entries_and_shares : State → UnbondingLists × Option ℕ
entries_and_shares w = (w.mine.unbondings, delegation w.mine.staked (addr 2) (addr 1))

-- n of the entry are cancelled
abbrev pub cancels : ℕ → Effect
cancels n = cancel_unbonding (addr 2) (addr 1) (coin n) 7

-- 951 are too much; 950 are delegated back, and the entry is gone; then there is none
abbrev pub Cancelling : Type 0
Cancelling =
    (after_effects (cancels 951 ∷ []) entries_and_shares ≡ Err CancelTooMuch)
    × (after_effects (cancels 950 ∷ []) entries_and_shares ≡ Ok ([], Some (950 * 10 ^ 18)))
    × (after_effects (cancels 950 ∷ cancels 950 ∷ []) entries_and_shares ≡ Err NoEntry)
