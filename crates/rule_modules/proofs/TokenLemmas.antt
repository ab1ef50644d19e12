-- What is owed to validators, as one of them changes.
use Rattle.std.proofs.Common.{◌≡◌, ℕ, ◌+◌, ◌≤◌, Bool, true, false, cond, List, [], ◌∷◌, Some, None, refl, ap, arith, Ordering, Less, Equal, Greater, is_eq}
use Rattle.std.specs.{Ordering.match_ordering, List.Sorted.IsStrictlySortedBy, Map.keys_of}
use Rattle.std.{specs.BTreeMap.{insert_entry, is_at}, proofs.lemmas.Map.{lookup-none, Entries.none_below_head}}
use Rattle.base_types.specs.{declared.status.BondStatus.BondStatus, Orders.addr_cmp}
use Rattle.base_roles.specs.{declared.entities.Validator.Validator, Entries.{at, with, without}, Orders.same_addr}
use Rattle.base_roles.specs.Staked.{tokens_where}
use Rattle.rule_modules.proofs.OrderLemmas.{addr_total}

-- validators by operator
abbrev pub Validators : Type 0
Validators = List (List ℕ × Validator)

module _ (test : BondStatus → Bool) where
  -- the tokens of a validator that passes
  abbrev pub counted : Validator → ℕ
  counted v = cond (test v.status) v.tokens 0

  pub tokens-put : (k : List ℕ) (v w : Validator) (es : Validators) → IsStrictlySortedBy addr_cmp (keys_of es) → at addr_cmp es k ≡ Some v
      → tokens_where test (with addr_cmp es k w) + counted v ≡ tokens_where test es + counted w
  unfolding IsStrictlySortedBy
  tokens-put k v w [] s f = absurd cc
  tokens-put k v w (e ∷ es) s f = by (addr_cmp k e.0) refl f (λ g. tokens-put k v w es s.1 g)
    where
      by : (r : Ordering) → addr_cmp k e.0 ≡ r → cond (is_eq r) (Some e.1) (at addr_cmp es k) ≡ Some v
          → (at addr_cmp es k ≡ Some v → tokens_where test (insert_entry addr_cmp es k w) + counted v ≡ tokens_where test es + counted w)
          → tokens_where test (match_ordering r ((k, w) ∷ e ∷ es) ((e.0, w) ∷ es) (e ∷ insert_entry addr_cmp es k w)) + counted v ≡ counted e.1 + tokens_where test es + counted w
      by Less p g later =
          let none : at addr_cmp es k ≡ None = lookup-none (is_at (addr_cmp k)) es (none_below_head addr_total k e es s p).1 in
          absurd cc
      by Equal p g later = let one : counted e.1 ≡ counted v = ap counted (some_is e.1 v g) in omega (arith, one)
        where
          some_is : (a b : Validator) → Some a ≡ Some b → a ≡ b
          some_is a b h = cc
      by Greater p g later = let more = later g in omega (arith, more)

  pub tokens-joined : (k : List ℕ) (w : Validator) (es : Validators) → at addr_cmp es k ≡ None → tokens_where test (with addr_cmp es k w) ≡ tokens_where test es + counted w
  tokens-joined k w [] f = omega arith
  tokens-joined k w (e ∷ es) f = by (addr_cmp k e.0) f (λ g. tokens-joined k w es g)
    where
      by : (r : Ordering) → cond (is_eq r) (Some e.1) (at addr_cmp es k) ≡ None
          → (at addr_cmp es k ≡ None → tokens_where test (insert_entry addr_cmp es k w) ≡ tokens_where test es + counted w)
          → tokens_where test (match_ordering r ((k, w) ∷ e ∷ es) ((e.0, w) ∷ es) (e ∷ insert_entry addr_cmp es k w)) ≡ counted e.1 + tokens_where test es + counted w
      by Less g later = omega arith
      by Equal g later = absurd cc
      by Greater g later = let more = later g in omega (arith, more)

  pub tokens-left : (k : List ℕ) (v : Validator) (es : Validators) → at addr_cmp es k ≡ Some v → tokens_where test (without addr_cmp es k) + counted v ≡ tokens_where test es
  tokens-left k v [] f = absurd cc
  tokens-left k v (e ∷ es) f = by (same_addr k e.0) f (λ g. tokens-left k v es g)
    where
      by : (b : Bool) → cond b (Some e.1) (at addr_cmp es k) ≡ Some v → (at addr_cmp es k ≡ Some v → tokens_where test (without addr_cmp es k) + counted v ≡ tokens_where test es)
          → tokens_where test (cond b es (e ∷ without addr_cmp es k)) + counted v ≡ counted e.1 + tokens_where test es
      by true g later = let one : counted e.1 ≡ counted v = ap counted (some_is e.1 v g) in omega (arith, one)
        where
          some_is : (a b : Validator) → Some a ≡ Some b → a ≡ b
          some_is a b h = cc
      by false g later = let more = later g in omega (arith, more)

  pub tokens-within : (k : List ℕ) (v : Validator) (es : Validators) → at addr_cmp es k ≡ Some v → counted v ≤ tokens_where test es
  tokens-within k v es f = let less = tokens-left k v es f in omega (arith, less)
