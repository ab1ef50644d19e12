-- What is known of the bonded validators is still so once one was put or taken.
use Rattle.std.proofs.Common.{◌≡◌, ℕ, Bool, true, false, cond, List, Option, Some, None, refl, sym, subst, Result, Ok, Err, OnOk, All, OnErr}
use Rattle.std.specs.{Prelude.⊤, BTreeMap.is_at, Map.values_of}
use Rattle.std.proofs.lemmas.Map.Views.{All-values-insert_entry, All-map-remove_entry}
use Rattle.base_types.specs.Orders.{addr_cmp}
use Rattle.base_roles.specs.{declared.entities.Validator.Validator, Entries.{with, without}, Staked.is_bonded}
use Rattle.mod_staking.specs.{declared.places.Standing.Standing, Listed.{Validators, with_or_without}}
use Rattle.mod_staking.specs.KnownSet.{is_within, is_same, is_as_told, IsKnown, known_with}

same_is : (a b : Bool) → is_same a b ≡ true → a ≡ b
same_is true true e = refl
same_is true false e = absurd cc
same_is false true e = absurd cc
same_is false false e = refl

-- less may be known of the same validators
pub known-same : (r : ℕ) (least : Option Standing) (v : Validator) (es : Validators) → IsKnown r least es → IsKnown r (known_with r least v) es
known-same r None v es h = tt
known-same r (Some p) v es h = by (is_as_told r p v)
  where
    by : (b : Bool) → IsKnown r (cond b (Some p) None) es
    by true = h
    by false = tt

pub known-put : (r : ℕ) (least : Option Standing) (v : Validator) (es : Validators) (o : List ℕ) → IsKnown r least es → IsKnown r (known_with r least v) (with addr_cmp es o v)
known-put r None v es o h = tt
known-put r (Some p) v es o h = by (is_as_told r p v) refl
  where
    by : (b : Bool) → is_as_told r p v ≡ b → IsKnown r (cond b (Some p) None) (with addr_cmp es o v)
    by true e = All-values-insert_entry addr_cmp o v (λ x. is_within r (Some p) x ≡ is_bonded x.status) es h (same_is _ _ e)
    by false e = tt

pub known-taken : (r : ℕ) (least : Option Standing) (es : Validators) (o : List ℕ) → IsKnown r least es → IsKnown r least (without addr_cmp es o)
known-taken r None es o h = tt
known-taken r (Some p) es o h = All-map-remove_entry (is_at (addr_cmp o)) (λ e. e.1) (λ x. is_within r (Some p) x ≡ is_bonded x.status) es h

-- and whatever the answer of the change is
pub known-written : {F : Type 0} (r : ℕ) (least : Option Standing) (v : Validator) (es es2 : Validators) (o : List ℕ) (answer : Result ⊤ F) → IsKnown r least es → OnOk answer (es2 ≡ with_or_without o (Some v) es) → OnErr answer (es2 ≡ es)
    → IsKnown r (known_with r least v) es2
known-written r least v es es2 o (Ok done) h ok err = subst (IsKnown r (known_with r least v)) (sym ok) (known-put r least v es o h)
known-written r least v es es2 o (Err fault) h ok err = subst (IsKnown r (known_with r least v)) (sym err) (known-same r least v es h)

pub known-removed : {F : Type 0} (r : ℕ) (least : Option Standing) (es es2 : Validators) (o : List ℕ) (answer : Result ⊤ F) → IsKnown r least es → OnOk answer (es2 ≡ with_or_without o None es) → OnErr answer (es2 ≡ es) → IsKnown r least es2
known-removed r least es es2 o (Ok done) h ok err = subst (IsKnown r least) (sym ok) (known-taken r least es o h)
known-removed r least es es2 o (Err fault) h ok err = subst (IsKnown r least) (sym err) h
