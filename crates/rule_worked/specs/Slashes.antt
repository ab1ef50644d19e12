-- Worked rows of slashes: unbondings under evidence, a redelegation that is slashed twice, evidence that counts once.
use Rattle.std.specs.Prelude.{◌≡◌, ℕ, ◌+◌, ◌-◌, ◌*◌, ◌^◌, Bool, true, false, List, [], ◌∷◌, ◌++◌, map, Option, Some, option_map, Result, Ok}
use Rattle.std.specs.Map.{values_of}
use Rattle.base_types.specs.declared.account.Account.TheVariants as account
use Rattle.base_types.specs.declared.account.Module.TheVariants as holder
use Rattle.base_coins.specs.Coins.{Money}
use Rattle.base_roles.specs.declared.facts.Fact.TheVariants as fact
use Rattle.base_roles.specs.declared.entities.UnbondingEntry.{UnbondingEntry}
use Rattle.base_roles.specs.declared.messages.Evidence.{Evidence}
use Rattle.base_roles.specs.declared.refusal.Refusal.{Refusal}
use Rattle.base_roles.specs.declared.refusal.Refusal.TheVariants.{StillJailed, Tombstoned}
use Rattle.base_roles.specs.Holdings.{balance_of}
use Rattle.base_roles.specs.Staked.{validator_at}
use Rattle.base_roles.specs.Flow.{◌>>=◌}
use Rattle.base_roles.specs.World.{over_view, over_mine}
use Rattle.rule_modules.specs.Amounts.{seconds}
use Rattle.rule_modules.specs.Chain.{State, shared_in, window_in}
use Rattle.rule_modules.specs.Effects.{accepted, refused_at, withdraw_reward, begin_redelegate, undelegate, unjail}
use Rattle.rule_modules.specs.Window.{signing_of, missed_of}
use Rattle.rule_modules.specs.Fixtures.{addr, cons, uatom, coin, decimals, params, time_of, validates, stakes, Beginning, Block, begins, given, pays, says, block, empty, signs, misses, proves, begun, after, last_endings, begun_facts, balance}

-- ---- unbondings under evidence

-- a validator of 3,000,000
abbrev pub three_million : Beginning
three_million = record { params = params; holdings = []; validators = validates 1 0 ∷ []; stakes = stakes 1 1 3000000 ∷ [] }

-- an entry of 1,000,000
abbrev pub million_made : ℕ → ℕ → List UnbondingEntry
million_made created completes = record { created = created; completes = completes; initial = 1000000; balance = 1000000 } ∷ []

-- one entry was made at height 6, one at 4, and one of height 6 is mature at height 9
abbrev pub with_unbondings : State → State
with_unbondings w =
    over_view (λ v. record v { bank = given (account.Module holder.NotBonded) 3000000 v.bank })
    (over_mine (λ c. record c {
      unbondings =
          ((addr 2, addr 1), million_made 6 (time_of 100))
          ∷ ((addr 3, addr 1), million_made 4 (time_of 100))
          ∷ ((addr 4, addr 1), million_made 6 (time_of 9))
          ∷ [];
    }) w)

-- evidence of height 6, so of an infraction at height 5, by a power of 3
abbrev pub evidence_against_unbondings : Result State Refusal
evidence_against_unbondings = do
  w ← begins three_million
  begun (block 9 [] (proves 1 6 3 ∷ []) []) (with_unbondings w)

-- what is asked of that state
abbrev pub then_of : {A : Type 0} → Result State Refusal → (State → A) → Result A Refusal
then_of s f = do
  w ← s
  Ok (f w)

-- the first loses 50,000 and the others nothing; the validator burns 100,000; each burn is of the account that held it
abbrev pub UnbondingsUnderEvidence : Type 0
UnbondingsUnderEvidence =
    then_of {A = List (List ℕ) × Option ℕ × ℕ × ℕ} evidence_against_unbondings (λ w. (
      map (λ es. map (λ e. e.balance) es) (values_of w.mine.unbondings),
      option_map (λ v. v.tokens) (validator_at w.mine.staked (addr 1)),
      balance_of w.view.bank (account.Module holder.NotBonded) uatom,
      balance_of w.view.bank (account.Module holder.Bonded) uatom,
    ))
    ≡ Ok ((950000 ∷ []) ∷ (1000000 ∷ []) ∷ (1000000 ∷ []) ∷ [], Some 2900000, 2950000, 2900000)

-- ---- a delegation that was redelegated from 1 to 2 at height 5, and evidence for both in block 8

-- two validators of 1,000,000, and another 1,000,000 at the first
abbrev pub two_validators : Beginning
two_validators = record {
  params = params;
  holdings = (9, 1850) ∷ [];
  validators = validates 1 0 ∷ validates 2 0 ∷ [];
  stakes = stakes 1 1 1000000 ∷ stakes 2 2 1000000 ∷ stakes 3 1 1000000 ∷ [];
}

-- the other 1,000,000 goes from the first to the second at height 5
abbrev pub redelegated_at_5 : List Block
redelegated_at_5 =
    empty 1 ∷ empty 2 ∷ empty 3 ∷ empty 4
    ∷ block 5 [] [] (says (begin_redelegate (addr 3) (addr 1) (addr 2) (coin 1000000)) ∷ [])
    ∷ empty 6 ∷ empty 7
    ∷ []

-- evidence for the first (height 6, power 1), then for the second (height 7, power 2), and fees of 1,850
abbrev pub evidence_at_8 : Block
evidence_at_8 = block 8 [] (proves 1 6 1 ∷ proves 2 7 2 ∷ []) (pays 9 1850 [] ∷ [])

-- The first takes 50,000 shares of the delegation from validator 2, and burns nothing of validator 1; the second burns
-- 100,000 of the 1,950,000 of validator 2.
abbrev pub SlashedTwice : Type 0
SlashedTwice =
    begun_facts two_validators redelegated_at_5 evidence_at_8
    ≡ Ok (
    fact.Period (addr 2) 3 []
    ∷ fact.Paid (addr 3) (addr 2) (addr 3) [] []
    ∷ fact.Started (addr 3) (addr 2) 3 (950000 * 10 ^ 18)
    ∷ fact.Burn holder.Bonded (coin 50000)
    ∷ fact.Period (addr 1) 4 []
    ∷ fact.Slashed (addr 1) 0 0
    ∷ fact.Jailed (addr 1)
    ∷ fact.Tombstoned (addr 1)
    ∷ fact.Period (addr 2) 4 []
    ∷ fact.Slashed (addr 2) 51282051282051283 100000
    ∷ fact.Burn holder.Bonded (coin 100000)
    ∷ fact.Jailed (addr 2)
    ∷ fact.Tombstoned (addr 2)
    ∷ [])

-- what the delegator then has, and the pool
abbrev pub third_and_pool : State → ℕ × Money
third_and_pool w = (balance 3 w, (shared_in w).purses.pool)

-- fees of 1,850 go to validator 2 at height 9: its delegator withdraws 901, and the pool has 0.282051282051281150
abbrev pub WithdrawnAfterBoth : Type 0
WithdrawnAfterBoth =
    after two_validators (redelegated_at_5 ++ evidence_at_8 ∷ block 9 (signs 2 1 ∷ []) [] (says (withdraw_reward (addr 3) (addr 2)) ∷ []) ∷ []) third_and_pool
    ≡ Ok (901, decimals 282051282051281150)

-- a withdrawal in block 8, where the slash made the delegation start anew, pays nothing
abbrev pub WithdrawnInTheBlock : Type 0
WithdrawnInTheBlock =
    after two_validators (redelegated_at_5 ++ block 8 [] (proves 1 6 1 ∷ proves 2 7 2 ∷ []) (says (withdraw_reward (addr 3) (addr 2)) ∷ []) ∷ []) third_and_pool
    ≡ Ok (0, [])

-- ---- the same, where the delegator undelegates a part from the second at height 6

-- the same beginning, and a payer of more fees
abbrev pub with_more_fees : Beginning
with_more_fees = record two_validators { holdings = (9, 18515) ∷ [] }

-- so much is undelegated from the second at height 6
abbrev pub undelegated_at_6 : ℕ → List Block
undelegated_at_6 amount =
    empty 1 ∷ empty 2 ∷ empty 3 ∷ empty 4
    ∷ block 5 [] [] (says (begin_redelegate (addr 3) (addr 1) (addr 2) (coin 1000000)) ∷ [])
    ∷ block 6 [] [] (says (undelegate (addr 3) (addr 2) (coin amount)) ∷ [])
    ∷ empty 7
    ∷ []

-- evidence for both, and fees of 18,515
abbrev pub evidence_and_fees : Block
evidence_and_fees = block 8 [] (proves 1 6 1 ∷ proves 2 7 2 ∷ []) (pays 9 18515 [] ∷ [])

-- The first counts 50,000: the entry of 30,000 follows and is burned, and 20,000 shares are taken of the delegation. The
-- second counts 1,500 at the entry, of which nothing is left, and burns 98,500 of the 1,950,000 of validator 2.
abbrev pub FollowedIntoAnEntry : Type 0
FollowedIntoAnEntry =
    begun_facts with_more_fees (undelegated_at_6 30000) evidence_and_fees
    ≡ Ok (
    fact.Burn holder.NotBonded (coin 30000)
    ∷ fact.Period (addr 2) 4 []
    ∷ fact.Paid (addr 3) (addr 2) (addr 3) [] []
    ∷ fact.Started (addr 3) (addr 2) 4 (950000 * 10 ^ 18)
    ∷ fact.Burn holder.Bonded (coin 20000)
    ∷ fact.Period (addr 1) 4 []
    ∷ fact.Slashed (addr 1) 0 0
    ∷ fact.Jailed (addr 1)
    ∷ fact.Tombstoned (addr 1)
    ∷ fact.Period (addr 2) 5 []
    ∷ fact.Slashed (addr 2) 50512820512820513 98500
    ∷ fact.Burn holder.Bonded (coin 98500)
    ∷ fact.Jailed (addr 2)
    ∷ fact.Tombstoned (addr 2)
    ∷ [])

-- the stake is 902012.820512820512650000: of fees of 18,515 over 1,851,500 tokens it withdraws a hundredth
abbrev pub WithdrawnBehindTheEntry : Type 0
WithdrawnBehindTheEntry =
    after with_more_fees (undelegated_at_6 30000 ++ evidence_and_fees ∷ block 9 (signs 2 1 ∷ []) [] (says (withdraw_reward (addr 3) (addr 2)) ∷ []) ∷ []) third_and_pool
    ≡ Ok (9020, decimals 128205128205126500)

-- An entry of 60,000 takes all of the first 50,000: no share is taken, and no reward starts. The second burns 3,000 of the
-- 10,000 that are left, and a twentieth of the 1,940,000 of validator 2.
abbrev pub AllBurnedInAnEntry : Type 0
AllBurnedInAnEntry =
    begun_facts with_more_fees (undelegated_at_6 60000) evidence_and_fees
    ≡ Ok (
    fact.Burn holder.NotBonded (coin 50000)
    ∷ fact.Period (addr 1) 4 []
    ∷ fact.Slashed (addr 1) 0 0
    ∷ fact.Jailed (addr 1)
    ∷ fact.Tombstoned (addr 1)
    ∷ fact.Burn holder.NotBonded (coin 3000)
    ∷ fact.Period (addr 2) 4 []
    ∷ fact.Slashed (addr 2) 50000000000000000 97000
    ∷ fact.Burn holder.Bonded (coin 97000)
    ∷ fact.Jailed (addr 2)
    ∷ fact.Tombstoned (addr 2)
    ∷ [])

-- ---- evidence that counts once, and evidence that is too old: more than 100 seconds and more than 10 blocks

-- a validator of 2,000,000
abbrev pub two_million : Beginning
two_million = record {
  params = record params { max_age_duration = 100; max_age_num_blocks = 10 };
  holdings = [];
  validators = validates 1 0 ∷ [];
  stakes = stakes 1 1 2000000 ∷ [];
}

-- evidence of height 1, 101 seconds old, twice in a block at a height; then the validator wants to leave jail
abbrev pub twice_at : ℕ → Block
twice_at height =
    let late = seconds (1704067200 + 1000) in
    let e : Evidence = record { cons = cons 1; height = 1; time = late - seconds 101; power = 1 } in
    record { height = height; time = late; votes = []; evidence = e ∷ e ∷ []; txs = says (unjail (addr 1)) ∷ [] }

-- the tokens of the validator
abbrev pub first_tokens : State → Option ℕ
first_tokens w = option_map (λ v. v.tokens) (validator_at w.mine.staked (addr 1))

-- ten blocks of nothing
abbrev pub ten_empty : List Block
ten_empty = empty 1 ∷ empty 2 ∷ empty 3 ∷ empty 4 ∷ empty 5 ∷ empty 6 ∷ empty 7 ∷ empty 8 ∷ empty 9 ∷ empty 10 ∷ []

-- ten blocks old: punished once
abbrev pub PunishedOnce : Type 0
PunishedOnce = after two_million (ten_empty ++ twice_at 11 ∷ []) first_tokens ≡ Ok (Some 1950000)

-- and it never leaves jail
abbrev pub NeverUnjailed : Type 0
NeverUnjailed = last_endings two_million (ten_empty ++ twice_at 11 ∷ []) ≡ Ok (refused_at 0 Tombstoned ∷ [])

-- eleven blocks old: ignored
abbrev pub TooOld : Type 0
TooOld = after two_million (ten_empty ++ empty 11 ∷ twice_at 12 ∷ []) first_tokens ≡ Ok (Some 2000000)

-- ---- missed votes: a window of 10, of which half is to be signed

-- a validator, and a window of ten votes
abbrev pub window_of_ten : Beginning
window_of_ten = record {
  params = record params { signed_blocks_window = 10; min_signed_per_window = 5 * 10 ^ 17 };
  holdings = [];
  validators = validates 1 0 ∷ [];
  stakes = stakes 1 1 1000000 ∷ [];
}

-- a block with a signed vote
abbrev pub signed_at : ℕ → Block
signed_at h = block h (signs 1 1 ∷ []) [] []

-- a block with a missed vote
abbrev pub missed_at : ℕ → Block
missed_at h = block h (misses 1 1 ∷ []) [] []

-- signed at heights 1 to 10, missed from 11 to 15
abbrev pub fifteen_votes : List Block
fifteen_votes =
    signed_at 1 ∷ signed_at 2 ∷ signed_at 3 ∷ signed_at 4 ∷ signed_at 5 ∷ signed_at 6 ∷ signed_at 7 ∷ signed_at 8 ∷ signed_at 9 ∷ signed_at 10
    ∷ missed_at 11 ∷ missed_at 12 ∷ missed_at 13 ∷ missed_at 14 ∷ missed_at 15
    ∷ []

-- the missed votes, whether the validator is jailed, and its tokens
abbrev pub missed_and_jailed : State → Option ℕ × Option (Bool × ℕ)
missed_and_jailed w = (
  option_map (λ s. missed_of 10 s.votes) (signing_of (window_in w) (cons 1)),
  option_map (λ v. (v.jailed, v.tokens)) (validator_at w.mine.staked (addr 1)),
)

-- five misses are allowed
abbrev pub FiveMissed : Type 0
FiveMissed = after window_of_ten fifteen_votes missed_and_jailed ≡ Ok (Some 5, Some (false, 1000000))

-- the sixth is punished, and the count begins again
abbrev pub SixMissed : Type 0
SixMissed = after window_of_ten (fifteen_votes ++ missed_at 16 ∷ []) missed_and_jailed ≡ Ok (Some 0, Some (true, 999900))

-- when it may leave jail
abbrev pub until : ℕ
until = time_of 16 + seconds 600

-- a block at a moment in which it wants to
abbrev pub wants_to_leave : ℕ → ℕ → Block
wants_to_leave height time = record { height = height; time = time; votes = []; evidence = []; txs = says (unjail (addr 1)) ∷ [] }

-- a nanosecond before that moment it may not
abbrev pub StillInJail : Type 0
StillInJail = last_endings window_of_ten (fifteen_votes ++ missed_at 16 ∷ wants_to_leave 17 (until - 1) ∷ []) ≡ Ok (refused_at 0 (StillJailed until) ∷ [])

-- at that moment it may
abbrev pub OutOfJail : Type 0
OutOfJail = last_endings window_of_ten (fifteen_votes ++ missed_at 16 ∷ wants_to_leave 17 until ∷ []) ≡ Ok (accepted ∷ [])
