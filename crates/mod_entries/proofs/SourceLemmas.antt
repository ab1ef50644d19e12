-- The keys that stand under a source are those of the entries from the operator, in the same order, and side by side.
use Rattle.std.proofs.Common.{◌≡◌, ◌∙◌, ℕ, Bool, true, false, cond, List, [], ◌∷◌, Option, Some, None, refl, sym, ap, inl, inr, ◌&&◌, All, filter, option_map, Ordering, Less, Equal, Greater, is_eq, is_le, is_lt}
use Rattle.std.specs.{Ordering.ordering_then, Cmp.{IsTotalOrder, tied_itself}, BTreeMap.is_at, List.AllByRecursion}
use Rattle.std.{specs.{List.Sorted.IsStrictlySortedBy, Map.keys_of}, proofs.lemmas.List.Elements.recursion_from_All}
use Rattle.std.proofs.lemmas.Map.{Keys.IsDistinct-from_sorted, Lookups.exact_bytes}
use Rattle.base_types.{specs.Orders.addr_cmp, proofs.MapLemmas.equal}
use Rattle.base_table.specs.Tabled.{first_of, entry_above, entry_from}
use Rattle.base_roles.specs.{Entries.at, Orders.{both_cmp, same_addr}}
use Rattle.base_records.proofs.{AscendLemmas.same_members, MemberLemmas.{Member, entry_of, value_of}}
use Rattle.rule_modules.proofs.OrderLemmas.{addr_total}
use Rattle.mod_entries.specs.{Lists.{list_at, AllKeys, IsExact}, Slashed.is_from}
use Rattle.mod_entries.specs.Sources.{from_operator, own_key, source_of, AreSourced, IsLeast, Sources}
use Rattle.mod_entries.specs.{Walked.keys_where, Ways.standing}
use Rattle.mod_entries.proofs.CountLemmas.{all-passes, filter_member, filter_passes, next-member, of_member}
use Rattle.mod_entries.proofs.DueLemmas.{ascend-where, found_list, has_where, member_list, where_has}
use Rattle.mod_entries.proofs.{SideLemmas.{if_of_addr, same_equal, same_turned, side-first}, WayLemmas.source_total}

-- what stands under the operator
abbrev pub under : {K : Type 0} → List ℕ → Sources K → Sources K
under operator w = filter (λ e. same_addr e.0.0 operator) w

-- the keys there
abbrev pub keys_under : {K : Type 0} → Sources K → List K
keys_under [] = []
keys_under (e ∷ es) = e.0.1 ∷ keys_under es

module _ (a : List ℕ) where
  same : (b : List ℕ) → same_addr b a ≡ true → b ≡ a
  same b h = exact_bytes b a (equal (addr_cmp b a) h)

  itself : same_addr a a ≡ true
  itself = ap is_eq (tied_itself addr_total a)

  -- ---- the first place from one of the operator's on

  module _ {K : Type 0} (cmp : K → K → Ordering) where
    -- the places from this one of the operator's on, told by a test of how it compares
    abbrev from : K → (Ordering → Bool) → Sources K → Sources K
    from k t w = filter (λ e. t (both_cmp addr_cmp cmp (a, k) e.0) && true) w

    own_key_is : (o : Option ((List ℕ × K) × Bool)) → own_key a o ≡ option_map (λ e. e.0.1) (if_of_addr (λ (x : List ℕ × K). x.0) (λ (x y : List ℕ × K). cmp x.1 y.1) a o)
    own_key_is None = refl
    own_key_is (Some e) = elim (same_addr e.0.0 a) as (λ b. cond b (Some e.0.1) None ≡ option_map (λ (e : (List ℕ × K) × Bool). e.0.1) (cond b (Some e) None)) [ true ↦ refl | false ↦ refl ]

    own-first : (k : K) (t : Ordering → Bool) → t Less ≡ true → t Greater ≡ false → (w : Sources K) → IsStrictlySortedBy (both_cmp addr_cmp cmp) (keys_of w)
        → own_key a (first_of (from k t w)) ≡ option_map (λ e. e.0.1) (first_of (from k t (under a w)))
    own-first k t less greater w s =
        own_key_is (first_of (from k t w))
        ∙ ap (option_map (λ (e : (List ℕ × K) × Bool). e.0.1)) (side-first (λ (x : List ℕ × K). x.0) (λ (x y : List ℕ × K). cmp x.1 y.1) (a, k) t less greater w s)

    -- among the operator's, keys alone tell the places
    by_key : (k : K) (x : List ℕ × K) → same_addr x.0 a ≡ true → both_cmp addr_cmp cmp (a, k) x ≡ cmp k x.1
    by_key k x h = ap (λ r. ordering_then r (cmp k x.1)) (same_equal a x.0 h)

    -- the operator's places are its keys in their order
    first-under : (k : K) (t : Ordering → Bool) (w : Sources K) → option_map (λ e. e.0.1) (first_of (from k t (under a w))) ≡ first_of (filter (λ y. t (cmp k y) && true) (keys_under (under a w)))
    first-under k t [] = refl
    first-under k t (x ∷ w) = by (same_addr x.0.0 a) refl (first-under k t w)
      where
        own : Sources K
        own = under a w

        at_head : (b c : Bool) → b ≡ c → option_map (λ (e : (List ℕ × K) × Bool). e.0.1) (first_of (from k t own)) ≡ first_of (filter (λ y. t (cmp k y) && true) (keys_under own))
            → option_map (λ (e : (List ℕ × K) × Bool). e.0.1) (first_of (cond (b && true) (x ∷ from k t own) (from k t own))) ≡ first_of (cond (c && true) (x.0.1 ∷ filter (λ y. t (cmp k y) && true) (keys_under own)) (filter (λ y. t (cmp k y) && true) (keys_under own)))
        at_head true true e ih = refl
        at_head true false e ih = absurd cc
        at_head false true e ih = absurd cc
        at_head false false e ih = ih

        by : (q : Bool) → same_addr x.0.0 a ≡ q → option_map (λ (e : (List ℕ × K) × Bool). e.0.1) (first_of (from k t own)) ≡ first_of (filter (λ y. t (cmp k y) && true) (keys_under own))
            → option_map (λ (e : (List ℕ × K) × Bool). e.0.1) (first_of (from k t (cond q (x ∷ own) own))) ≡ first_of (filter (λ y. t (cmp k y) && true) (keys_under (cond q (x ∷ own) own)))
        by true h ih = at_head (t (both_cmp addr_cmp cmp (a, k) x.0)) (t (cmp k x.0.1)) (ap t (by_key k x.0 h)) ih
        by false h ih = ih

    -- ---- the keys under the operator ascend

    between : (x y : List ℕ × K) → same_addr x.0 a ≡ true → same_addr y.0 a ≡ true → both_cmp addr_cmp cmp x y ≡ Less → cmp x.1 y.1 ≡ Less
    between x y p q less =
        sym (by_key x.1 y q) ∙ ap (λ b. both_cmp addr_cmp cmp (b, x.1) y) (sym (same x.0 p)) ∙ less

    above-under : (x : List ℕ × K) (w : Sources K) → same_addr x.0 a ≡ true → AllByRecursion (λ y. both_cmp addr_cmp cmp x y ≡ Less) (keys_of w) → AllByRecursion (λ y. cmp x.1 y ≡ Less) (keys_under (under a w))
    above-under x [] p h = tt
    above-under x (e ∷ w) p h = by (same_addr e.0.0 a) refl (above-under x w p h.1)
      where
        by : (q : Bool) → same_addr e.0.0 a ≡ q → AllByRecursion (λ y. cmp x.1 y ≡ Less) (keys_under (under a w)) → AllByRecursion (λ y. cmp x.1 y ≡ Less) (keys_under (cond q (e ∷ under a w) (under a w)))
        by true q more = (between x e.0 p q h.0, more)
        by false q more = more

    ascend-under : (w : Sources K) → IsStrictlySortedBy (both_cmp addr_cmp cmp) (keys_of w) → IsStrictlySortedBy cmp (keys_under (under a w))
    unfolding IsStrictlySortedBy
    ascend-under [] s = tt
    ascend-under (e ∷ w) s = by (same_addr e.0.0 a) refl (ascend-under w s.1)
      where
        by : (q : Bool) → same_addr e.0.0 a ≡ q → IsStrictlySortedBy cmp (keys_under (under a w)) → IsStrictlySortedBy cmp (keys_under (cond q (e ∷ under a w) (under a w)))
        by true q more = (above-under e.0 w q s.0, more)
        by false q more = more

  -- ---- what stands under the operator, and what does not

  under_has : {K : Type 0} (w : Sources K) (k : K) → Member (keys_under (under a w)) k → (b : Bool) × Member w ((a, k), b)
  under_has [] k m = absurd m
  under_has {K} (e ∷ w) k m = by (same_addr e.0.0 a) refl (under_has w k) m
    where
      by : (q : Bool) → same_addr e.0.0 a ≡ q → (Member (keys_under (under a w)) k → (b : Bool) × Member w ((a, k), b)) → Member (keys_under (cond q (e ∷ under a w) (under a w))) k → (b : Bool) × Member (e ∷ w) ((a, k), b)
      by true q more (inl x) = (e.1, inl (λ i. ((same e.0.0 q i, x i), e.1)))
      by true q more (inr n) = let r = more n in (r.0, inr r.1)
      by false q more n = let r = more n in (r.0, inr r.1)

  has_under : {K : Type 0} (w : Sources K) (k : K) (b : Bool) → Member w ((a, k), b) → Member (keys_under (under a w)) k
  has_under [] k b m = absurd m
  has_under {K} (e ∷ w) k b m = by (same_addr e.0.0 a) refl (has_under w k b) m
    where
      by : (q : Bool) → same_addr e.0.0 a ≡ q → (Member w ((a, k), b) → Member (keys_under (under a w)) k) → Member (e ∷ w) ((a, k), b) → Member (keys_under (cond q (e ∷ under a w) (under a w))) k
      by true q more (inl x) = inl (ap (λ (y : (List ℕ × K) × Bool). y.0.1) x)
      by true q more (inr n) = inr (more n)
      by false q more (inl x) = let clash : false ≡ true = sym q ∙ ap (λ (y : (List ℕ × K) × Bool). same_addr y.0.0 a) x ∙ itself in absurd cc
      by false q more (inr n) = more n

  exact_place : {K : Type 0} (cmp : K → K → Ordering) → IsExact cmp → (x y : List ℕ × K) → both_cmp addr_cmp cmp x y ≡ Equal → x ≡ y
  exact_place cmp exact x y h = by (addr_cmp x.0 y.0) refl h
    where
      by : (r : Ordering) → addr_cmp x.0 y.0 ≡ r → ordering_then r (cmp x.1 y.1) ≡ Equal → x ≡ y
      by Less e g = absurd cc
      by Greater e g = absurd cc
      by Equal e g = let source = exact_bytes x.0 y.0 e in let key = exact x.1 y.1 g in λ i. (source i, key i)

  -- ---- the keys under the operator are those of the entries from it

  module _ {K E : Type 0} (cmp : K → K → Ordering) (total : IsTotalOrder cmp) (exact : IsExact cmp) (source : K → List ℕ) (u : List (K × List E)) (w : Sources K)
      (s : IsStrictlySortedBy cmp (keys_of u)) (sw : IsStrictlySortedBy (both_cmp addr_cmp cmp) (keys_of w)) (h : AreSourced cmp source u w) where
    stands : (k : K) (es : List E) → at cmp u k ≡ Some es → same_addr (source k) a ≡ true → at (both_cmp addr_cmp cmp) w (a, k) ≡ Some true
    stands k es e q =
        h a k ∙ ap (λ o. standing addr_cmp a (source_of source k o)) e ∙ ap (λ b. cond b (Some true) None) (sym (same_turned a (source k)) ∙ q)

    stood : (k : K) (b : Bool) → at (both_cmp addr_cmp cmp) w (a, k) ≡ Some b → (es : List E) × (at cmp u k ≡ Some es) × (same_addr (source k) a ≡ true)
    stood k b e = by (at cmp u k) refl (sym (h a k) ∙ e)
      where
        test : (q : Bool) → cond q (Some true) None ≡ Some b → q ≡ true
        test true p = refl
        test false p = absurd cc

        by : (o : Option (List E)) → at cmp u k ≡ o → standing addr_cmp a (source_of source k o) ≡ Some b → (es : List E) × (at cmp u k ≡ Some es) × (same_addr (source k) a ≡ true)
        by None f g = absurd cc
        by (Some es) f g = (es, f, same_turned a (source k) ∙ test (is_at (addr_cmp a) (source k)) g)

    from-under : (k : K) → Member (keys_under (under a w)) k → Member (keys_where (is_from source a) u) k
    from-under k m =
        let r = under_has w k m in
        let e = value_of (both_cmp addr_cmp cmp) (source_total cmp total) (exact_place cmp exact) w (a, k) r.0 (IsDistinct-from_sorted (both_cmp addr_cmp cmp) (keys_of w) sw) r.1 in
        let t = stood k r.0 e in
        has_where (is_from source a) u k t.0 (member_list cmp total exact u k t.0 t.1) t.2

    under-from : (k : K) → Member (keys_where (is_from source a) u) k → Member (keys_under (under a w)) k
    under-from k m =
        let r = where_has (is_from source a) u k m in
        let e = value_of cmp total exact u k r.0 (IsDistinct-from_sorted cmp (keys_of u) s) r.1.0 in
        has_under w k true (entry_of (both_cmp addr_cmp cmp) (source_total cmp total) (exact_place cmp exact) w (a, k) true (stands k r.0 e r.1.1))

    same_keys : keys_under (under a w) ≡ keys_of (from_operator source a u)
    same_keys = same_members total (keys_under (under a w)) (keys_where (is_from source a) u) (ascend-under cmp w sw) (ascend-where (is_from source a) cmp u s) from-under under-from

    first-key : (t : Ordering → Bool) (k : K) (v : List (K × List E)) → first_of (filter (λ y. t (cmp k y) && true) (keys_of v)) ≡ option_map (λ e. e.0) (first_of (filter (λ e. t (cmp k e.0) && true) v))
    first-key t k [] = refl
    first-key t k (x ∷ v) = by (t (cmp k x.0)) (first-key t k v)
      where
        by : (q : Bool) → first_of (filter (λ y. t (cmp k y) && true) (keys_of v)) ≡ option_map (λ (e : K × List E). e.0) (first_of (filter (λ (e : K × List E). t (cmp k e.0) && true) v))
            → first_of (cond (q && true) (x.0 ∷ filter (λ y. t (cmp k y) && true) (keys_of v)) (filter (λ y. t (cmp k y) && true) (keys_of v)))
            ≡ option_map (λ (e : K × List E). e.0) (first_of (cond (q && true) (x ∷ filter (λ (e : K × List E). t (cmp k e.0) && true) v) (filter (λ (e : K × List E). t (cmp k e.0) && true) v)))
        by true ih = refl
        by false ih = ih

    -- behind a key
    pub own-goes_on : (k : K) → own_key a (entry_above (both_cmp addr_cmp cmp) w (Some (a, k))) ≡ option_map (λ e. e.0) (entry_above cmp (from_operator source a u) (Some k))
    own-goes_on k =
        own-first cmp k is_lt refl refl w sw ∙ first-under cmp k is_lt w
        ∙ ap (λ ks. first_of (filter (λ y. is_lt (cmp k y) && true) ks)) same_keys
        ∙ first-key is_lt k (from_operator source a u)

    -- from the least key on
    module _ (fits : K → Type 0) (least : K) (is_least : IsLeast cmp fits least) where
      all_least : (v : List (K × List E)) → AllByRecursion fits (keys_of v) → first_of (filter (λ y. is_le (cmp least y) && true) (keys_of v)) ≡ option_map (λ e. e.0) (first_of v)
      all_least [] f = refl
      all_least (x ∷ v) f = ap (λ q. first_of (cond (q && true) (x.0 ∷ filter (λ y. is_le (cmp least y) && true) (keys_of v)) (filter (λ y. is_le (cmp least y) && true) (keys_of v)))) (is_least x.0 f.0)

      own_fit : (v : List (K × List E)) → AllByRecursion fits (keys_of v) → AllByRecursion fits (keys_of (from_operator source a v))
      own_fit [] f = tt
      own_fit (x ∷ v) f = by (same_addr (source x.0) a) (own_fit v f.1)
        where
          by : (q : Bool) → AllByRecursion fits (keys_of (from_operator source a v)) → AllByRecursion fits (keys_of (cond q (x ∷ from_operator source a v) (from_operator source a v)))
          by true more = (f.0, more)
          by false more = more

      pub own-begins : AllKeys fits u → own_key a (entry_from (both_cmp addr_cmp cmp) w (a, least)) ≡ option_map (λ e. e.0) (entry_above cmp (from_operator source a u) None)
      own-begins f =
          own-first cmp least is_le refl refl w sw ∙ first-under cmp least is_le w
          ∙ ap (λ ks. first_of (filter (λ y. is_le (cmp least y) && true) ks)) same_keys
          ∙ all_least (from_operator source a u) (own_fit u (recursion_from_All fits (keys_of u) f))

-- what holds of all entries holds of those that are found
pub all-found : {K E : Type 0} (cmp : K → K → Ordering) (total : IsTotalOrder cmp) (exact : IsExact cmp) (P : K × List E → Type 0) (u : List (K × List E)) (k : K) (es : List E) → All P u → Some es ≡ at cmp u k → P (k, es)
all-found cmp total exact P u k es h e = of_member P u (recursion_from_All P u h) (k, es) (member_list cmp total exact u k es (sym e))

-- ---- a walk over the entries from an operator, key by key

-- the entry of a key that is told
entry_told : {K E : Type 0} (o : Option (K × List E)) (k : K) → Some k ≡ option_map (λ e. e.0) o → (es : List E) × (o ≡ Some (k, es))
entry_told None k h = absurd cc
entry_told (Some e) k h = let same : k ≡ e.0 = cc in (e.1, λ i. Some (sym same i, e.1))

pub no_entry : {K E : Type 0} (o : Option (K × List E)) → None ≡ option_map (λ e. e.0) o → o ≡ None
no_entry None h = refl
no_entry (Some e) h = absurd cc

module _ {K E : Type 0} (cmp : K → K → Ordering) (source : K → List ℕ) (a : List ℕ) (u : List (K × List E)) (s : IsStrictlySortedBy cmp (keys_of u)) where
  pub own-ascends : IsStrictlySortedBy cmp (keys_of (from_operator source a u))
  own-ascends = ascend-where (is_from source a) cmp u s

  module _ (total : IsTotalOrder cmp) (exact : IsExact cmp) (after : Option K) (k : K) (h : Some k ≡ option_map (λ e. e.0) (entry_above cmp (from_operator source a u) after)) where
    pub next-is : (es : List E) × (entry_above cmp (from_operator source a u) after ≡ Some (k, es))
    next-is = entry_told (entry_above cmp (from_operator source a u) after) k h

    there : Member (from_operator source a u) (k, next-is.0)
    there = next-member cmp total (from_operator source a u) own-ascends after (k, next-is.0) next-is.1

    -- it is one of the operator's, and what stands under its key
    pub next-own : same_addr (source k) a ≡ true
    next-own = filter_passes (λ (e : K × List E). same_addr (source e.0) a) u (k, next-is.0) there

    pub next-found : list_at cmp u k ≡ next-is.0
    next-found = found_list cmp total exact u s k next-is.0 (filter_member (λ (e : K × List E). same_addr (source e.0) a) u (k, next-is.0) there)

-- ---- entries from an operator are told once

module _ {K E : Type 0} (source : K → List ℕ) (a : List ℕ) where
  filter_all : (v : List (K × List E)) → AllByRecursion (λ e. same_addr (source e.0) a ≡ true) v → from_operator source a v ≡ v
  filter_all [] h = refl
  filter_all (x ∷ v) h = ap (λ q. cond q (x ∷ from_operator source a v) (from_operator source a v)) h.0 ∙ ap (λ l. x ∷ l) (filter_all v h.1)

  pub own-again : (u : List (K × List E)) → from_operator source a (from_operator source a u) ≡ from_operator source a u
  own-again u = filter_all (from_operator source a u) (all-passes (λ (e : K × List E). same_addr (source e.0) a) u)
