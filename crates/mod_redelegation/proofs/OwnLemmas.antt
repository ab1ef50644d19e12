-- The entries of one delegator, from its least key on, end before another delegator's.
use Rattle.std.proofs.Common.{◌≡◌, ◌∙◌, ℕ, Bool, true, false, cond, List, [], ◌∷◌, Option, Some, None, refl, sym, ap, subst, ◌&&◌, ◌||◌, All, filter, Ordering, Less, Greater, is_lt, is_le}
use Rattle.std.specs.{Ordering.ordering_then, List.{AllByRecursion, Sorted.IsStrictlySortedBy}, Map.keys_of}
use Rattle.std.proofs.lemmas.{List.Elements.{recursion_from_All, All-from_recursion}, Map.Lookups.exact_bytes}
use Rattle.base_table.specs.Tabled.{first_of, entry_above, entry_from}
use Rattle.base_types.specs.Orders.{addr_cmp}
use Rattle.base_roles.specs.{declared.entities.RedelegationEntry.RedelegationEntry, Orders.{triple_cmp, same_addr}}
use Rattle.rule_modules.specs.Redelegations.{RedelegationLists, is_transitive}
use Rattle.mod_entries.{specs.Least.{le_both, least_addr, least_is}, proofs.CountLemmas.all-passes}
use Rattle.mod_entries.proofs.{DueLemmas.ascend-where, SideLemmas.{if_of_addr, same_equal, side-first}}
use Rattle.mod_redelegation.{specs.Own.{are_addrs, own_entries, own_entry}, proofs.OrderLemmas.Key}

-- ---- the delegator's own

module _ (d : List ℕ) where
  -- the entries from a key of the delegator on, told by a test of how that key compares
  abbrev from : List ℕ → List ℕ → (Ordering → Bool) → RedelegationLists → RedelegationLists
  from a b t es = filter (λ e. t (triple_cmp (d, a, b) e.0) && true) es

  -- the first of them is the delegator's own, where any is
  own-first : (a b : List ℕ) (t : Ordering → Bool) → t Less ≡ true → t Greater ≡ false → (es : RedelegationLists) → IsStrictlySortedBy triple_cmp (keys_of es) → own_entry d (first_of (from a b t es)) ≡ first_of (from a b t (own_entries d es))
  own-first a b t less greater es s =
      own_is (first_of (from a b t es)) ∙ side-first (λ (k : Key). k.0) (λ (x y : Key). ordering_then (addr_cmp x.1 y.1) (addr_cmp x.2 y.2)) (d, a, b) t less greater es s
    where
      own_is : (o : Option (Key × List RedelegationEntry)) → own_entry d o ≡ if_of_addr (λ (k : Key). k.0) (λ (x y : Key). ordering_then (addr_cmp x.1 y.1) (addr_cmp x.2 y.2)) d o
      own_is None = refl
      own_is (Some e) = refl

  -- ---- none of the delegator's own comes before its least key

  -- those from the least key on
  abbrev from_least : RedelegationLists → RedelegationLists
  from_least es = from least_addr least_addr is_le es

  all_own : (es : RedelegationLists) → AllByRecursion are_addrs (keys_of es) → from_least (own_entries d es) ≡ own_entries d es
  all_own [] h = refl
  all_own (x ∷ es) h = by (same_addr x.0.0 d) refl (all_own es h.1)
    where
      own : RedelegationLists
      own = own_entries d es

      inner : Ordering
      inner = ordering_then (addr_cmp least_addr x.0.1) (addr_cmp least_addr x.0.2)

      rest : is_le inner ≡ true
      rest = le_both (addr_cmp least_addr x.0.1) (addr_cmp least_addr x.0.2) (least_is x.0.1 h.0.1) (least_is x.0.2 h.0.2)

      by : (q : Bool) → same_addr x.0.0 d ≡ q → from_least own ≡ own → from_least (cond q (x ∷ own) own) ≡ cond q (x ∷ own) own
      by true e ih =
          ap (λ r. cond (is_le (ordering_then r inner) && true) (x ∷ from_least own) (from_least own)) (same_equal d x.0.0 e)
          ∙ ap (λ p. cond (p && true) (x ∷ from_least own) (from_least own)) rest ∙ ap (λ l. x ∷ l) ih
      by false e ih = ih

  -- ---- a walk over the delegator's own

  module _ (r : RedelegationLists) (s : IsStrictlySortedBy triple_cmp (keys_of r)) where
    pub own-begins : All are_addrs (keys_of r) → own_entry d (entry_from triple_cmp r (d, least_addr, least_addr)) ≡ entry_above triple_cmp (own_entries d r) None
    own-begins h = own-first least_addr least_addr is_le refl refl r s ∙ ap first_of (all_own r (recursion_from_All are_addrs (keys_of r) h))

    pub own-goes_on : (k : Key) → same_addr k.0 d ≡ true → own_entry d (entry_above triple_cmp r (Some k)) ≡ entry_above triple_cmp (own_entries d r) (Some k)
    own-goes_on k e =
        subst (λ x. own_entry d (entry_above triple_cmp r (Some (x, k.1, k.2))) ≡ entry_above triple_cmp (own_entries d r) (Some (x, k.1, k.2))) (exact_bytes d k.0 (same_equal d k.0 e))
        (own-first k.1 k.2 is_lt refl refl r s)

  pub own-ascends : (es : RedelegationLists) → IsStrictlySortedBy triple_cmp (keys_of es) → IsStrictlySortedBy triple_cmp (keys_of (own_entries d es))
  own-ascends es s = ascend-where (λ (k : Key) (l : List RedelegationEntry). same_addr k.0 d) triple_cmp es s

  pub own-all : (es : RedelegationLists) → All (λ e. same_addr e.0.0 d ≡ true) (own_entries d es)
  own-all es = All-from_recursion (λ (e : Key × List RedelegationEntry). same_addr e.0.0 d ≡ true) (own_entries d es) (all-passes (λ (e : Key × List RedelegationEntry). same_addr e.0.0 d) es)

  -- entries of others lead nowhere that is asked of
  pub own-transitive : (source : List ℕ) (es : RedelegationLists) → is_transitive (own_entries d es) d source ≡ is_transitive es d source
  own-transitive source [] = refl
  own-transitive source (x ∷ es) = by (same_addr x.0.0 d) refl (own-transitive source es)
    where
      by : (q : Bool) → same_addr x.0.0 d ≡ q → is_transitive (own_entries d es) d source ≡ is_transitive es d source
          → is_transitive (cond q (x ∷ own_entries d es) (own_entries d es)) d source ≡ ((same_addr x.0.0 d && same_addr x.0.2 source) || is_transitive es d source)
      by true p ih = ap (λ b. (same_addr x.0.0 d && same_addr x.0.2 source) || b) ih
      by false p ih = ih ∙ sym (ap (λ b. (b && same_addr x.0.2 source) || is_transitive es d source) p)
