-- The laws of the rules, as statements. None of them is proved here; each says which law of `law_soundness` or `law_runs` proves
-- it. A law of states is said of each atomic step: a message, an allocation, a vote, a piece of evidence, an
-- action of a block's end, and the next block.
use Rattle.std.specs.Prelude.{◌≡◌, ℕ, ◌+◌, ◌-◌, ◌*◌, ◌^◌, ◌≤◌, List, [], ◌∷◌, map, sum, Ok, Some, None}
use Rattle.base_coins.specs.Coins.{Money, amount_of}
use Rattle.base_roles.specs.declared.facts.Fact.{Fact}
use Rattle.base_roles.specs.declared.facts.Fact.TheVariants as fact
use Rattle.base_roles.specs.declared.entities.StartingInfo.{StartingInfo}
use Rattle.base_roles.specs.declared.entities.Validator.{Validator}
use Rattle.base_roles.specs.Log.{Log}
use Rattle.base_roles.specs.Staked.{validator_at, delegation}
use Rattle.base_roles.specs.World.{over_view}
use Rattle.rule_modules.specs.Chain.{State, shared_in}
use Rattle.rule_modules.specs.Ideal.{Span, Brackets, span_of, history_of, claimed, overclaim_of}
use Rattle.rule_modules.specs.Periods.{Periods, Stretch, unlimited_stretches_of, ratio_at, periods_of, starts_of, last_ended}
use Rattle.rule_modules.specs.Purses.{purse_of}

-- the next block: a later height, and a time that is not earlier
abbrev pub next_block : ℕ → ℕ → State → State
next_block height time w = over_view (λ v. record v { ctx = record { height = height; time = time; params = v.ctx.params } }) w

-- what the facts say was burned of a denomination
abbrev pub burned_in_fact : List ℕ → Fact → ℕ
burned_in_fact d (fact.Burn from coin) = amount_of ((coin.denom, coin.amount) ∷ []) d
burned_in_fact d _ = 0

-- what facts say was burned of a denomination
abbrev pub burned_in : List ℕ → List Fact → ℕ
burned_in d facts = sum (map (burned_in_fact d) facts)

-- The reward that a withdrawal of a delegation would come to has a span, and lies in the bracket of it.
abbrev pub ClaimIsBracketed : List ℕ → State → List ℕ → Validator → ℕ → Type 0
ClaimIsBracketed d w delegator v shares =
    (full : Money) (l : Log) → claimed v delegator shares (shared_in w) w.view w.log ≡ Ok (full, l)
    → (s : Span) × (span_of delegator (history_of v.operator l []) None ≡ Some s) × Brackets d s (amount_of full d)

-- Every delegation's claim does. Proved of every state that a genesis leads to: `claims_are_bracketed` of `law_runs`.
abbrev pub IsBracketed : State → Type 0
IsBracketed w =
    (d delegator : List ℕ) (v : Validator) (shares : ℕ) → validator_at w.mine.staked v.operator ≡ Some v
    → delegation w.mine.staked delegator v.operator ≡ Some shares → ClaimIsBracketed d w delegator v shares

-- the claim of stretches in units of 10^-36: what the ratio grew in each, times its stake, not cut
abbrev pub exact_claim : List ℕ → (ℕ → Money) → List Stretch → ℕ
exact_claim d ratio ts = sum (map (λ t. (amount_of (ratio t.last) d - amount_of (ratio t.after) d) * t.stake) ts)

-- the claims of all starts of an operator up to the last ended period, which no value of shares limits
abbrev pub claims_of : List ℕ → Periods → List StartingInfo → ℕ
claims_of d p starts = sum (map (λ s. exact_claim d (ratio_at p.ratios) (unlimited_stretches_of s p.events (last_ended p))) starts)

-- What is outstanding for a validator, with the overclaim, is at least commission, current rewards and all claims.
-- Proved of every state that a genesis leads to: `shortfalls_are_bounded` of `law_runs`.
abbrev pub HasShortfallWithin : List ℕ → State → Validator → Type 0
HasShortfallWithin d w v =
    let purse = purse_of (shared_in w).purses v.operator in
    let p = periods_of (shared_in w).rewards v.operator in
    10 ^ 18 * (amount_of purse.commission d + amount_of purse.current d) + claims_of d p (starts_of (shared_in w).rewards v.operator)
    ≤ 10 ^ 18 * amount_of purse.outstanding d + overclaim_of d (history_of v.operator w.log []) (ratio_at p.ratios (last_ended p))
