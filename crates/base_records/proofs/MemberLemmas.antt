-- Elements of lists, by recursion, and entries by their keys.
use Rattle.std.proofs.Common.{◌≡◌, ◌∙◌, ℕ, ◌<◌, Bool, true, false, cond, List, [], ◌∷◌, ◌++◌, Option, Some, length, get_or, refl, sym, ap, subst, arith, inl, inr, zero, suc, slice_get, ◌⊎◌, Contains, unwrap_or, Ordering, Equal}
use Rattle.std.specs.{Prelude.⊤, Ordering.eq_by_cmp, Cmp.{IsTotalOrder, eq_by_cmp_equiv}}
use Rattle.std.specs.{List.{AllByRecursion, IsDistinct}, Map.keys_of, BTreeMap.is_at}
use Rattle.base_table.specs.Tabled.{value_at}
use Rattle.base_roles.specs.Items.{IsOnce}
use Rattle.base_types.proofs.MapLemmas.{equal}

-- ---- elements

abbrev pub Member : {A : Type 0} → List A → A → Type 0
Member [] x = ⊥
Member (y ∷ ys) x = (y ≡ x) ⊎ Member ys x

member_at : {A : Type 0} (xs : List A) (x : A) (k : ℕ) → k < length xs → get_or xs k x ≡ x → Member xs x
member_at [] x k lt e = absurd (omega (arith, lt))
member_at (y ∷ ys) x zero lt e = inl e
member_at (y ∷ ys) x (suc k) lt e = let less : k < length ys = omega (arith, lt) in inr (member_at ys x k less e)

pub member : {A : Type 0} (xs : List A) (x : A) → Contains xs x → Member xs x
member xs x h = member_at xs x h.0 h.1 h.2

pub contained : {A : Type 0} (xs : List A) (x : A) → Member xs x → Contains xs x
contained [] x m = absurd m
contained (y ∷ ys) x (inl e) = (0, omega arith, e)
contained (y ∷ ys) x (inr m) = let r = contained ys x m in (suc r.0, omega (arith, r.1), r.2)

pub member-left : {A : Type 0} (xs ys : List A) (x : A) → Member xs x → Member (xs ++ ys) x
member-left [] ys x m = absurd m
member-left (z ∷ xs) ys x (inl e) = inl e
member-left (z ∷ xs) ys x (inr m) = inr (member-left xs ys x m)

pub member-right : {A : Type 0} (xs ys : List A) (x : A) → Member ys x → Member (xs ++ ys) x
member-right [] ys x m = m
member-right (z ∷ xs) ys x m = inr (member-right xs ys x m)

pub member-cases : {A : Type 0} (xs ys : List A) (x : A) → Member (xs ++ ys) x → Member xs x ⊎ Member ys x
member-cases [] ys x m = inr m
member-cases (z ∷ xs) ys x (inl e) = inl (inl e)
member-cases (z ∷ xs) ys x (inr m) = by (member-cases xs ys x m)
  where
    by : Member xs x ⊎ Member ys x → Member (z ∷ xs) x ⊎ Member ys x
    by (inl l) = inl (inr l)
    by (inr r) = inr r

-- ---- lists in which no element stands twice

abbrev pub Once : {A : Type 0} → List A → Type 0
Once [] = ⊤
Once (x ∷ xs) = (Member xs x → ⊥) × Once xs

got_member : {A : Type 0} (xs : List A) (x : A) (j : ℕ) → slice_get xs j ≡ Some x → Member xs x
got_member [] x j e = absurd cc
got_member (y ∷ ys) x zero e = let same : y ≡ x = cc in inl same
got_member (y ∷ ys) x (suc j) e = inr (got_member ys x j e)

pub once : {A : Type 0} (xs : List A) → Once xs → IsOnce xs
once [] h i j p q e = absurd (omega (arith, p))
once (x ∷ xs) h zero zero p q e = refl
once (x ∷ xs) h zero (suc j) p q e = absurd (h.0 (got_member xs x j (sym e)))
once (x ∷ xs) h (suc i) zero p q e = absurd (h.0 (got_member xs x i e))
once (x ∷ xs) h (suc i) (suc j) p q e =
    let less : i < length xs = omega (arith, p) in
    let less2 : j < length xs = omega (arith, q) in
    ap suc (once xs h.1 i j less less2 e)

pub once-append : {A : Type 0} (xs ys : List A) → Once xs → Once ys → ((x : A) → Member xs x → Member ys x → ⊥) → Once (xs ++ ys)
once-append [] ys p q apart = q
once-append (x ∷ xs) ys p q apart = (first, once-append xs ys p.1 q (λ y m n. apart y (inr m) n))
  where
    first : Member (xs ++ ys) x → ⊥
    first m = by (member-cases xs ys x m)
      where
        by : Member xs x ⊎ Member ys x → ⊥
        by (inl l) = p.0 l
        by (inr r) = apart x (inl refl) r

-- ---- entries by their keys

-- what holds of all keys holds of an entry's
pub all_member : {K V : Type 0} (P : K → Type 0) (es : List (K × V)) (k : K) (v : V) → AllByRecursion P (keys_of es) → Member es (k, v) → P k
all_member P [] k v h m = absurd m
all_member P (x ∷ es) k v h (inl e) = subst P (ap (λ y. y.0) e) h.0
all_member P (x ∷ es) k v h (inr m) = all_member P es k v h.1 m

module _ {K : Type 0} (cmp : K → K → Ordering) (o : IsTotalOrder cmp) (exact : (a b : K) → cmp a b ≡ Equal → a ≡ b) where
  pub same_key : (a b : K) → is_at (cmp a) b ≡ true → a ≡ b
  same_key a b h = exact a b (equal (cmp a b) h)

  pub at_itself : (a : K) → is_at (cmp a) a ≡ true
  at_itself a = (eq_by_cmp_equiv o).refl a

  pub other_key : (a b : K) → is_at (cmp a) b ≡ false → a ≡ b → ⊥
  other_key a b h e = let t : true ≡ false = sym (at_itself a) ∙ ap (λ x. is_at (cmp a) x) e ∙ h in absurd cc

  module _ {V : Type 0} where
    -- a value that stands under a key is an entry
    pub entry_of : (es : List (K × V)) (k : K) (v : V) → value_at cmp es k ≡ Some v → Member es (k, v)
    entry_of [] k v e = absurd cc
    entry_of (x ∷ es) k v e = by (is_at (cmp k) x.0) refl e (λ f. entry_of es k v f)
      where
        by : (b : Bool) → is_at (cmp k) x.0 ≡ b → cond b (Some x.1) (value_at cmp es k) ≡ Some v → (value_at cmp es k ≡ Some v → Member es (k, v)) → Member (x ∷ es) (k, v)
        by true h f later = let same : x.1 ≡ v = cc in inl (λ i. (sym (same_key k x.0 h) i, same i))
        by false h f later = inr (later f)

    pub value_of : (es : List (K × V)) (k : K) (v : V) → IsDistinct (eq_by_cmp cmp) (keys_of es) → Member es (k, v) → value_at cmp es k ≡ Some v
    unfolding IsDistinct
    value_of [] k v d m = absurd m
    value_of (x ∷ es) k v d (inl e) = (λ i. cond (is_at (cmp k) (ap (λ y. y.0) e i)) (Some (ap (λ y. y.1) e i)) (value_at cmp es k)) ∙ ap (λ b. cond b (Some v) (value_at cmp es k)) (at_itself k)
    value_of (x ∷ es) k v d (inr m) =
        let apart : is_at (cmp x.0) k ≡ false = all_member (λ y. eq_by_cmp cmp x.0 y ≡ false) es k v d.0 m in
        ap (λ b. cond b (Some x.1) (value_at cmp es k)) ((eq_by_cmp_equiv o).symm k x.0 ∙ apart) ∙ value_of es k v d.1 m

-- the parts of an entry
pub entry-parts : {A B : Type 0} (a c : A) (b d : B) → ◌≡◌ {A = Option (A × B)} (Some (a, b)) (Some (c, d)) → (a ≡ c) × (b ≡ d)
entry-parts {A = A} {B = B} a c b d e = (ap (λ (o : Option (A × B)). (unwrap_or o (a, b)).0) e, ap (λ (o : Option (A × B)). (unwrap_or o (a, b)).1) e)
