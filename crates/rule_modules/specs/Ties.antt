-- What other forms of the records keep of them, and that tests decide what is said in words.
use Rattle.std.specs.Prelude.{◌≡◌, ℕ, ◌<◌, ◌^◌, ◌+◌, ◌≤◌, ◌==◌, cond, Bool, true, List, [], ◌∷◌, ◌++◌, ◌↔◌, Err}
use Rattle.base_coins.specs.Coins.{Money}
use Rattle.base_roles.specs.declared.entities.SlashEvent.{SlashEvent}
use Rattle.base_roles.specs.declared.entities.StartingInfo.{StartingInfo}
use Rattle.base_roles.specs.declared.entities.UnbondingEntry.{UnbondingEntry}
use Rattle.base_roles.specs.declared.entities.Validator.{Validator}
use Rattle.base_roles.specs.declared.params.Ctx.{Ctx}
use Rattle.base_roles.specs.declared.refusal.Refusal.TheVariants.{TinyDelegation}
use Rattle.rule_modules.specs.Amounts.{count_where}
use Rattle.rule_modules.specs.Delegating.{IsTinyDelegation, shares_given}
use Rattle.rule_modules.specs.BondedSet.{IsInBondedSet, is_in_bonded_set}
use Rattle.rule_modules.specs.Periods.{Periods, Stretch, earned, references_of}
use Rattle.rule_modules.specs.Redelegations.{RedelegationLists, IsTransitive, is_transitive}
use Rattle.rule_modules.specs.Unbonding.{FallsBelowMinimum, falls_below_minimum}
use Rattle.rule_modules.specs.Unbondings.{IsMature, is_mature}
use Rattle.rule_modules.specs.Window.{Signing, IsDowntime, is_downtime, missed_of, IsRing}

-- The test of the bonded set decides who is in it.
abbrev pub SetIsDecided : Type 0
SetIsDecided = (reduction most : ℕ) (vs : List Validator) (v : Validator) → is_in_bonded_set reduction most vs v ≡ true ↔ IsInBondedSet reduction most vs v

-- So do the tests of mature entries, transitive sources, falling below the minimum, downtime, and tiny delegations.
pub record TestsDecide : Type 0 where
  pub mature : (now : ℕ) (e : UnbondingEntry) → is_mature now e ≡ true ↔ IsMature now e
  pub transitive : (r : RedelegationLists) (delegator source : List ℕ) → is_transitive r delegator source ≡ true ↔ IsTransitive r delegator source
  pub falls : (v : Validator) (delegator : List ℕ) (left : ℕ) → falls_below_minimum v delegator left ≡ true ↔ FallsBelowMinimum v delegator left
  pub downtime : (c : Ctx) (s : Signing) (v : Validator) → is_downtime c s v ≡ true ↔ IsDowntime c s v
  pub tiny : (v : Validator) (amount : ℕ) → v.shares < 10 ^ 38 → shares_given v amount ≡ Err TinyDelegation ↔ IsTinyDelegation v amount

-- As many places of a ring are set as votes of the window were missed.
abbrev pub RingCountsMisses : Type 0
RingCountsMisses = (window : ℕ) (votes ring : List Bool) → IsRing window votes ring → count_where (λ missed. missed) ring ≡ missed_of window votes

-- two look-ups of ratios agree at the ends of stretches
abbrev pub Agree : (ℕ → Money) → (ℕ → Money) → List Stretch → Type 0
Agree f g [] = Unit {0}
Agree f g (t ∷ ts) = (f t.after ≡ g t.after) × (f t.last ≡ g t.last) × Agree f g ts

-- A reward reads ratios at the ends of its stretches alone, so records that are kept there give the same.
abbrev pub SameReward : Type 0
SameReward = (f g : ℕ → Money) (ts : List Stretch) (total : Money) → Agree f g ts → earned f ts total ≡ earned g ts total

-- At the end of a period the one before it loses a reference, and the one that ended has one.
abbrev pub ReferencesAfterEnd : Type 0
ReferencesAfterEnd = (p : Periods) (starts : List StartingInfo) (ratio : Money) (q : ℕ) → 1 ≤ p.current
    → references_of (record { current = p.current + 1; ratios = (p.current, ratio) ∷ p.ratios; events = p.events }) starts q + cond (p.current == q + 1) 1 0
    ≡ references_of p starts q + cond (p.current == q) 1 0

-- A start refers to its period.
abbrev pub ReferencesAfterStart : Type 0
ReferencesAfterStart = (p : Periods) (s : StartingInfo) (starts : List StartingInfo) (q : ℕ) → references_of p (s ∷ starts) q ≡ references_of p starts q + cond (s.period == q) 1 0

-- A slash event refers to its period.
abbrev pub ReferencesAfterEvent : Type 0
ReferencesAfterEvent = (p : Periods) (e : SlashEvent) (starts : List StartingInfo) (q : ℕ)
    → references_of (record { current = p.current; ratios = p.ratios; events = p.events ++ e ∷ [] }) starts q ≡ references_of p starts q + cond (e.period == q) 1 0
