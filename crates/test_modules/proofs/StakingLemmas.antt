-- What the calls of tests leave is fit for the next ones.
use Rattle.std.proofs.Common.{◌≡◌, ◌∙◌, ℕ, ◌-◌, ◌^◌, ◌<◌, List, [], ◌∷◌, Some, None, sym, ap, subst, arith, inl, inr, Contains, ◌⊎◌, ◌≢◌}
use Rattle.std.specs.List.Sorted.{IsStrictlySortedBy}
use Rattle.base_roles.specs.declared.{entities.Validator.Validator, items.Item.Item}
use Rattle.base_roles.specs.{Items.{HasRoom, IsAdded, IsEmptyPool, key_of}, Staked.Staked, World.View}
use Rattle.base_roles.specs.{Ground.{AreInRange, end_of_blocks}, Holdings.IsBacked}
use Rattle.base_roles.specs.declared.items.Item.TheVariants as item
use Rattle.mod_staking.specs.Registered.{no_stake}
use Rattle.test_modules.specs.StakingTrials.{IsFit}
use Rattle.rule_modules.proofs.SoundLemmas.{from_points}

-- nothing stands yet, at the beginning of time
pub fit-opened : (s : Staked) (v : View) → s ≡ no_stake → AreInRange v.ctx.params → v.ctx.time ≡ 0 → v.ctx.height ≡ 1 → IsBacked v.bank → IsFit s v
unfolding IsStrictlySortedBy
fit-opened s v e params time height bank = subst (λ x. IsFit x v) (sym e) (record {
  sound = (
    0,
    from_points 0 no_stake (record {
      validators_ascend = tt;
      delegations_ascend = tt;
      operators = λ o w f. absurd (none_found w f);
      validators = λ o w f. absurd (none_found w f);
      cons = λ o p u w f. absurd (none_found u f);
      shares = λ o w f. absurd (none_found w f);
      positive = λ k n f. absurd (none_found n f);
      existing = λ k n f. absurd (none_found n f);
    }),
  );
  in_order = record { params = params; time = early v.ctx.time time; height = low v.ctx.height height; bank = bank };
  accounts = record { in_bonded = omega arith; in_not_bonded = omega arith };
})
  where
    none_found : {A : Type 0} (a : A) → None ≡ Some a → ⊥
    none_found a f = absurd cc

    early : (t : ℕ) → t ≡ 0 → t < end_of_blocks
    early t f = omega (arith, f)

    low : (h : ℕ) → h ≡ 1 → h < 2 ^ 63
    low h f = omega (arith, f)

-- ---- items that are loaded

-- nothing stands among no items
pub none-contained : (xs : List Item) (i : Item) → xs ≡ [] → Contains xs i → ⊥
none-contained [] i e h = let less = h.1 in absurd (omega (arith, less))
none-contained (x ∷ xs) i e h = cc

-- behind the first item there is room for one of another key
room-behind : (old items : List Item) (first new : Item) → old ≡ [] → IsAdded old first items → (key_of first ≡ key_of new → ⊥) → HasRoom items new
room-behind old items first new e added other i has same = by ((added i).0 has)
  where
    by : (i ≡ first) ⊎ (Contains old i × (key_of i ≢ key_of first)) → IsEmptyPool i
    by (inl f) = absurd (other (sym (ap key_of f) ∙ same))
    by (inr h) = absurd (none-contained old i e h.0)

keys-apart : (v : Validator) (operator delegator : List ℕ) (shares : ℕ) → key_of (item.Validator v) ≡ key_of (item.Delegation operator delegator shares) → ⊥
keys-apart v operator delegator shares e = cc

-- beside a validator there is room for a delegation
pub room-beside : (old items : List Item) (v : Validator) (operator delegator : List ℕ) (shares : ℕ) → old ≡ [] → IsAdded old (item.Validator v) items → HasRoom items (item.Delegation operator delegator shares)
room-beside old items v operator delegator shares e added =
    room-behind old items (item.Validator v) (item.Delegation operator delegator shares) e added (keys-apart v operator delegator shares)
