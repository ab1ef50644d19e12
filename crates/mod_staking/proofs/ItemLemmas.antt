-- The items of validators and delegations: told apart by their kinds, and with one more.
use Rattle.std.proofs.Common.{◌≡◌, ◌∙◌, ℕ, List, [], ◌∷◌, Option, Some, None, refl, sym, ap, inl, inr, is_some, ◌⊎◌}
use Rattle.std.{proofs.lemmas.Map.Keys.IsDistinct-from_sorted, specs.{List.Sorted.IsStrictlySortedBy, Map.keys_of}}
use Rattle.std.specs.BTreeMap.{insert_entry}
use Rattle.base_types.specs.Orders.{addr_cmp}
use Rattle.base_roles.specs.declared.{entities.Validator.Validator, items.Item.Item}
use Rattle.base_roles.specs.{Items.{no_validator, HasRoom, IsAdded}, Orders.pair_cmp}
use Rattle.base_roles.specs.Staked.{Staked, validator_at, put_validator}
use Rattle.base_roles.specs.declared.items.Item.TheVariants as item
use Rattle.rule_modules.{specs.Stakes.put_delegation, proofs.OrderLemmas.{addr_total, pair_total}}
use Rattle.rule_modules.proofs.SoundLemmas.{exact_addr, exact_pair}
use Rattle.base_records.specs.{Kinds.AreApart, Items.{rows_of, AnyValue, AreFit, IsRowed}}
use Rattle.base_records.proofs.KindLemmas.{added-first, added-second}
use Rattle.base_records.proofs.MemberLemmas.{Member, member, contained, member-left, value_of}
use Rattle.base_records.proofs.RowedLemmas.{IsOfKind, IsOfOther, rowed}
use Rattle.base_records.proofs.RowLemmas.{row-added, row-member, rows-of-kind}
use Rattle.mod_staking.specs.Registered.{Validators, AreKeyed}
use Rattle.mod_staking.specs.Items.{items_of, validator_item, delegation_item, validator_gone, delegation_gone, validator_entry, delegation_entry, FitsOperator, same_validator, same_shares}
use Rattle.mod_staking.proofs.SameLemmas.{validator-yes, validator-no, shares-yes, shares-no}

-- ---- what is asked of each kind

one_validator : (v w : Validator) → item.Validator v ≡ item.Validator w → v ≡ w
one_validator v w e = cc

validator_or_not : (i : Item) → IsOfKind FitsOperator validator_item i ⊎ IsOfOther validator_entry i
validator_or_not (item.Validator v) = inl (record { key = v.operator; value = v; made = refl; fits = refl })
validator_or_not _ = inr (refl, refl)

pub validator-rowed : IsRowed addr_cmp FitsOperator validator_item validator_gone same_validator validator_entry
validator-rowed = rowed addr_cmp FitsOperator validator_item validator_gone same_validator validator_entry
    validator_or_not (λ k v f. λ i. Some (f i, v)) (λ k. refl) (λ k v f. λ i. item.Validator (no_validator (f i))) (λ k. refl)
    (λ k q e. ap (λ v. v.operator) (one_validator (no_validator k) (no_validator q) e)) exact_addr validator-yes validator-no

delegation_or_not : (i : Item) → IsOfKind AnyValue delegation_item i ⊎ IsOfOther delegation_entry i
delegation_or_not (item.Delegation o d s) = inl (record { key = (o, d); value = s; made = refl; fits = tt })
delegation_or_not _ = inr (refl, refl)

pub delegation-rowed : IsRowed pair_cmp AnyValue delegation_item delegation_gone same_shares delegation_entry
delegation-rowed = rowed pair_cmp AnyValue delegation_item delegation_gone same_shares delegation_entry
    delegation_or_not (λ k v f. refl) (λ k. refl) (λ k v f. refl) (λ k. refl)
    (λ k q e. let a : k.0 ≡ q.0 = cc in let b : k.1 ≡ q.1 = cc in (λ i. (a i, b i))) exact_pair shares-yes shares-no

-- a validator is no delegation
pub kinds-apart : AreApart (λ i. is_some (validator_entry i)) (λ i. is_some (delegation_entry i))
kinds-apart (item.Validator v) e = refl
kinds-apart _ e = absurd cc

-- ---- each validator stands under its operator

keyed_at : (es : Validators) → AreKeyed es → (k : List ℕ) (v : Validator) → Member es (k, v) → v.operator ≡ k
keyed_at [] h k v m = absurd m
keyed_at (e ∷ es) h k v (inl p) = sym (ap (λ x. x.1.operator) p) ∙ h.0 ∙ ap (λ x. x.0) p
keyed_at (e ∷ es) h k v (inr m) = keyed_at es h.1 k v m

pub keyed_fit : (es : Validators) → AreKeyed es → AreFit FitsOperator es
keyed_fit es h k v c = keyed_at es h k v (member es (k, v) c)

-- the same where it is known of what is found
pub found_fit : (s : Staked) → IsStrictlySortedBy addr_cmp (keys_of s.validators) → ((o : List ℕ) (v : Validator) → validator_at s o ≡ Some v → v.operator ≡ o) → AreFit FitsOperator s.validators
found_fit s sorted h k v c = h k v (value_of addr_cmp addr_total exact_addr s.validators k v (IsDistinct-from_sorted addr_cmp (keys_of s.validators) sorted) (member s.validators (k, v) c))

-- ---- one more

module _ (s : Staked) where
  pub validator-added : (v : Validator) → AreFit FitsOperator s.validators → IsStrictlySortedBy addr_cmp (keys_of s.validators) → IsAdded (items_of s) (item.Validator v) (items_of (put_validator v s))
  validator-added v fits sorted = added-first validator-rowed.kind delegation-rowed.kind kinds-apart
      (rows_of validator_item s.validators) (rows_of validator_item (insert_entry addr_cmp s.validators v.operator v)) (rows_of delegation_item s.delegations) (item.Validator v) refl
      (rows-of-kind pair_cmp pair_total AnyValue delegation_item delegation_gone same_shares delegation_entry delegation-rowed s.delegations (λ k n c. tt))
      (row-added addr_cmp addr_total FitsOperator validator_item validator_gone same_validator validator_entry validator-rowed s.validators fits sorted v.operator v refl)

  pub delegation-added : (delegator o : List ℕ) (n : ℕ) → AreFit FitsOperator s.validators → IsStrictlySortedBy pair_cmp (keys_of s.delegations) → IsAdded (items_of s) (item.Delegation o delegator n) (items_of (put_delegation delegator o n s))
  delegation-added delegator o n fits sorted = added-second validator-rowed.kind delegation-rowed.kind kinds-apart
      (rows_of delegation_item s.delegations) (rows_of delegation_item (insert_entry pair_cmp s.delegations (o, delegator) n)) (rows_of validator_item s.validators) (item.Delegation o delegator n) refl
      (rows-of-kind addr_cmp addr_total FitsOperator validator_item validator_gone same_validator validator_entry validator-rowed s.validators fits)
      (row-added pair_cmp pair_total AnyValue delegation_item delegation_gone same_shares delegation_entry delegation-rowed s.delegations (λ k m c. tt) sorted (o, delegator) n tt)

-- where there is room for a validator, its operator has none
pub room_none : (s : Staked) (v : Validator) → ((o : List ℕ) (w : Validator) → validator_at s o ≡ Some w → w.operator ≡ o) → HasRoom (items_of s) (item.Validator v) → validator_at s v.operator ≡ None
room_none s v known room = by (validator_at s v.operator) refl
  where
    by : (r : Option Validator) → validator_at s v.operator ≡ r → r ≡ None
    by None e = refl
    by (Some w) e =
        let row = row-member addr_cmp addr_total FitsOperator validator_item validator_gone same_validator validator_entry validator-rowed s.validators (item.Validator w) (v.operator, w, refl, e) in
        absurd (room (item.Validator w) (contained (items_of s) (item.Validator w) (member-left (rows_of validator_item s.validators) (rows_of delegation_item s.delegations) (item.Validator w) row))
        (λ i. item.Validator (no_validator (known v.operator w e i))))
