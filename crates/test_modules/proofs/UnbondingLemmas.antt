-- What the calls of tests need where nothing stands yet.
use Rattle.std.proofs.Common.{◌≡◌, ℕ, ◌^◌, ◌<◌, ◌≤◌, List, [], ◌∷◌, ap, subst, sym, arith, All, Contains, length, Result, Ok, Err, OnOk}
use Rattle.std.{proofs.lemmas.List.Elements.All-nil, specs.List.Sorted.IsStrictlySortedBy}
use Rattle.base_roles.specs.{declared.{entities.UnbondingEntry.UnbondingEntry, items.Item.Item}, Items.HasRoom}
use Rattle.base_roles.specs.{Ground.{AreInRange, IsInOrder, end_of_blocks}, Holdings.IsBacked, NoHooks.nothing_told}
use Rattle.base_roles.specs.{Staked.{Staked, bonded_tokens, other_tokens}, StakeChanges.HoldsStake, World.View}
use Rattle.rule_modules.specs.{Sound.UnbondingIsSound, Unbondings.UnbondingLists}
use Rattle.rule_modules.proofs.SoundLemmas.{none_sound, from_points}
use Rattle.mod_staking.specs.{Registered.no_stake, Calls.IsSoundStake}
use Rattle.mod_unbonding.specs.{Items.items_of, Calls.{AreSoundLists, IsWhole, AreWhole}, Scenes.IsUnbondingScene}
use Rattle.test_modules.specs.UnbondingTrials.{IsFit, IsKept}

-- no validator and no delegation
pub sound-none : IsSoundStake no_stake
sound-none = (0, from_points 0 no_stake none_sound)

pub accounts-none : (v : View) → HoldsStake v (bonded_tokens no_stake) (other_tokens no_stake)
accounts-none v = record { in_bonded = omega arith; in_not_bonded = omega arith }

pub order-first : (v : View) → AreInRange v.ctx.params → v.ctx.time ≡ 0 → v.ctx.height ≡ 1 → IsBacked v.bank → IsInOrder v
order-first v params time height bank = record { params = params; time = early v.ctx.time time; height = low v.ctx.height height; bank = bank }
  where
    early : (t : ℕ) → t ≡ 0 → t < end_of_blocks
    early t f = omega (arith, f)

    low : (h : ℕ) → h ≡ 1 → h < 2 ^ 63
    low h f = omega (arith, f)

-- no entries
entries-none : AreSoundLists []
unfolding IsStrictlySortedBy
entries-none = (
  0,
  record {
    ascend = tt;
    some = All-nil (λ (p : (List ℕ × List ℕ) × List UnbondingEntry). 0 < length p.1);
    most = All-nil (λ (p : (List ℕ × List ℕ) × List UnbondingEntry). length p.1 ≤ 100);
    entries = All-nil (λ (p : (List ℕ × List ℕ) × List UnbondingEntry). All (UnbondingIsSound 0) p.1);
  },
)

pub fit-none : (u : UnbondingLists) (s : Staked) (v : View) → u ≡ [] → IsSoundStake s → IsInOrder v → HoldsStake v (bonded_tokens s) (other_tokens s) → IsFit u s v
fit-none u s v e sound order accounts = subst (λ x. IsFit x s v) (sym e) (record {
  kept = record {
    sound = sound;
    in_order = order;
    entries = entries-none;
    accounts = record { in_bonded = accounts.in_bonded; in_not_bonded = let a = accounts.in_not_bonded in omega (arith, a) };
  };
  whole = λ height. All-nil (λ (p : (List ℕ × List ℕ) × List UnbondingEntry). All (IsWhole height) p.1);
})

-- ---- from call to call

-- the scene of a call, over hooks that do nothing
pub scene-of_kept : (u : UnbondingLists) (s : Staked) (v : View) → IsKept u s v → IsUnbondingScene nothing_told (λ (h : Unit {0}). Unit {0}) v s u
scene-of_kept u s v f = record {
  hooked = record { sound = f.sound; stand = (tt, (tt, record { lists = tt; owed = tt; late = none; in_order = f.in_order })) };
  entries = f.entries;
  accounts = f.accounts;
}
  where
    none : 0 ≤ v.ctx.height
    none = omega arith

-- and what a call left of it
kept-of_scene : (u : UnbondingLists) (s : Staked) (v : View) → IsUnbondingScene nothing_told (λ (h : Unit {0}). Unit {0}) v s u → IsKept u s v
kept-of_scene u s v e = record { sound = e.hooked.sound; in_order = e.hooked.stand.1.1.in_order; entries = e.entries; accounts = e.accounts }

pub kept-after : {A E : Type 0} (r : Result A E) (u2 : UnbondingLists) (s2 : Staked) (v2 : View) → OnOk r (IsUnbondingScene nothing_told (λ (h : Unit {0}). Unit {0}) v2 s2 u2) → OnOk r (IsKept u2 s2 v2)
kept-after (Ok a) u2 s2 v2 e = kept-of_scene u2 s2 v2 e
kept-after (Err fault) u2 s2 v2 e = tt

pub fit-after : {A E : Type 0} (r : Result A E) (u u2 : UnbondingLists) (s2 : Staked) (v2 : View) → OnOk r (IsUnbondingScene nothing_told (λ (h : Unit {0}). Unit {0}) v2 s2 u2)
    → ((height : ℕ) → AreWhole height u → OnOk r (AreWhole height u2)) → ((height : ℕ) → AreWhole height u) → OnOk r (IsFit u2 s2 v2)
fit-after (Ok a) u u2 s2 v2 e w k = record { kept = kept-of_scene u2 s2 v2 e; whole = λ height. w height (k height) }
fit-after (Err fault) u u2 s2 v2 e w k = tt

-- nothing stands yet, at the beginning of time
pub fit-empty : (u : UnbondingLists) (s : Staked) (v : View) → u ≡ [] → s ≡ no_stake → AreInRange v.ctx.params → v.ctx.time ≡ 0 → v.ctx.height ≡ 1 → IsBacked v.bank → IsFit u s v
fit-empty u s v e f params time height bank =
    fit-none u s v e (subst IsSoundStake (sym f) sound-none) (order-first v params time height bank) (subst (λ x. HoldsStake v (bonded_tokens x) (other_tokens x)) (sym f) (accounts-none v))

-- where no entry stands the accounts hold what is owed to validators
pub stake-of_fit : (u : UnbondingLists) (s : Staked) (v : View) → IsFit u s v → HoldsStake v (bonded_tokens s) (other_tokens s)
stake-of_fit u s v f = record { in_bonded = f.kept.accounts.in_bonded; in_not_bonded = let a = f.kept.accounts.in_not_bonded in omega (arith, a) }

-- ---- items that are loaded

-- where no entries stand there is room
pub room-first : (lists : UnbondingLists) (new : Item) → lists ≡ [] → HasRoom (items_of lists) new
room-first lists new e = λ i has same. absurd (none (items_of lists) i (ap items_of e) has)
  where
    none : (xs : List Item) (i : Item) → xs ≡ [] → Contains xs i → ⊥
    none [] i e h = let less = h.1 in absurd (omega (arith, less))
    none (x ∷ xs) i e h = cc
