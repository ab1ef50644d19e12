-- Lists of items in which no key stands twice, side by side.
use Rattle.std.proofs.Common.{◌≡◌, ◌∙◌, ℕ, ◌<◌, ◌≤◌, List, [], ◌∷◌, ◌++◌, map, Option, Some, None, refl, sym, ap, subst, arith, inl, inr, ◌⊎◌, filter_map, flat_map, Ordering, Less}
use Rattle.std.specs.{Cmp.IsTotalOrder, List.{AllByRecursion, Sorted.IsStrictlySortedBy}, Map.keys_of}
use Rattle.std.proofs.lemmas.List.{map-append}
use Rattle.base_roles.specs.{declared.items.Item.Item, Items.key_of}
use Rattle.base_roles.specs.declared.items.Item.TheVariants as item
use Rattle.store_rows.specs.{Kinds.prefix_of, Rows.kind_in}
use Rattle.base_records.proofs.{AscendLemmas.not_below, MemberLemmas.{Member, Once, member-cases, once-append}}

-- ---- members of what lists are made to

pub member-map : {A B : Type 0} (f : A → B) (xs : List A) (y : B) → Member (map f xs) y → (x : A) × Member xs x × (f x ≡ y)
member-map f [] y m = absurd m
member-map f (x ∷ xs) y (inl e) = (x, inl refl, e)
member-map f (x ∷ xs) y (inr m) = let r = member-map f xs y m in (r.0, inr r.1, r.2)

-- ---- the number of a kind, which its key tells

abbrev pub rank : Item → ℕ
rank i = prefix_of (kind_in i)

pub rank_by_key : (i : Item) → rank (key_of i) ≡ rank i
rank_by_key (item.Head height time) = refl
rank_by_key (item.Parameters params) = refl
rank_by_key (item.Balance account denom amount) = refl
rank_by_key (item.Supply denom amount) = refl
rank_by_key (item.Validator validator) = refl
rank_by_key (item.Delegation operator delegator shares) = refl
rank_by_key (item.Unbonding delegator operator entries) = refl
rank_by_key (item.Redelegation delegator source target entries) = refl
rank_by_key (item.Signing cons info ring) = refl
rank_by_key (item.Purse operator purse) = refl
rank_by_key (item.Pool coins) = refl
rank_by_key (item.Withdraw delegator to) = refl
rank_by_key (item.CurrentPeriod operator period) = refl
rank_by_key (item.Historical operator period history) = refl
rank_by_key (item.Start operator delegator info) = refl
rank_by_key (item.Event operator event) = refl

-- Items of kinds within these numbers, of which no two have one key.
pub record Block (low high : ℕ) (items : List Item) : Type 0 where
  pub once : Once (map key_of items)
  pub from : (i : Item) → Member items i → low ≤ rank i
  pub to : (i : Item) → Member items i → rank i ≤ high

-- behind lower kinds come higher ones
pub join : (low m n high : ℕ) (xs ys : List Item) → low ≤ n → m < n → m ≤ high → Block low m xs → Block n high ys → Block low high (xs ++ ys)
join low m n high xs ys le lt ge b c = record {
  once = subst Once (sym (map-append key_of xs ys)) (once-append (map key_of xs) (map key_of ys) b.once c.once apart);
  from = from;
  to = to;
}
  where
    apart : (k : Item) → Member (map key_of xs) k → Member (map key_of ys) k → ⊥
    apart k p q =
        let x = member-map key_of xs k p in
        let y = member-map key_of ys k q in
        let upper : rank x.0 ≤ m = b.to x.0 x.1 in
        let lower : n ≤ rank y.0 = c.from y.0 y.1 in
        let same : rank x.0 ≡ rank y.0 = sym (rank_by_key x.0) ∙ ap rank (x.2 ∙ sym y.2) ∙ rank_by_key y.0 in
        absurd (omega (arith, upper, lower, same, lt))

    from : (i : Item) → Member (xs ++ ys) i → low ≤ rank i
    from i h = by (member-cases xs ys i h)
      where
        by : Member xs i ⊎ Member ys i → low ≤ rank i
        by (inl l) = b.from i l
        by (inr r) = let lower : n ≤ rank i = c.from i r in omega (arith, lower, le)

    to : (i : Item) → Member (xs ++ ys) i → rank i ≤ high
    to i h = by (member-cases xs ys i h)
      where
        by : Member xs i ⊎ Member ys i → rank i ≤ high
        by (inl l) = let upper : rank i ≤ m = b.to i l in omega (arith, upper, ge)
        by (inr r) = c.to i r

pub one : (i : Item) (n : ℕ) → rank i ≡ n → Block n n (i ∷ [])
one i n e = record { once = (λ m. m, tt); from = λ j m. from j m; to = λ j m. to j m }
  where
    from : (j : Item) → Member (i ∷ []) j → n ≤ rank j
    from j (inl s) = let same : rank j ≡ n = ap rank (sym s) ∙ e in omega (arith, same)
    from j (inr m) = absurd m

    to : (j : Item) → Member (i ∷ []) j → rank j ≤ n
    to j (inl s) = let same : rank j ≡ n = ap rank (sym s) ∙ e in omega (arith, same)
    to j (inr m) = absurd m

-- ---- an item for each entry, whose keys ascend

module _ {K V : Type 0} (cmp : K → K → Ordering) (total : IsTotalOrder cmp) where
  above : (k : K) (es : List (K × V)) (e : K × V) → AllByRecursion (λ x. cmp k x ≡ Less) (keys_of es) → Member es e → cmp k e.0 ≡ Less
  above k [] e h m = absurd m
  above k (x ∷ es) e h (inl s) = ap (λ (y : K × V). cmp k y.0) (sym s) ∙ h.0
  above k (x ∷ es) e h (inr m) = above k es e h.1 m

  module _ (P : K × V → Type 0) (f : K × V → Item) (own : (a b : K × V) → P a → P b → key_of (f a) ≡ key_of (f b) → a.0 ≡ b.0) where
    member_of : (es : List (K × V)) (e : K × V) → AllByRecursion P es → Member es e → P e
    member_of [] e h m = absurd m
    member_of (x ∷ es) e h (inl s) = subst P s h.0
    member_of (x ∷ es) e h (inr m) = member_of es e h.1 m

    once_mapped : (es : List (K × V)) → AllByRecursion P es → IsStrictlySortedBy cmp (keys_of es) → Once (map key_of (map f es))
    unfolding IsStrictlySortedBy
    once_mapped [] all s = tt
    once_mapped (x ∷ es) all s = (first, once_mapped es all.1 s.1)
      where
        first : Member (map key_of (map f es)) (key_of (f x)) → ⊥
        first m =
            let i = member-map key_of (map f es) (key_of (f x)) m in
            let e = member-map f es i.0 i.1 in
            let same : x.0 ≡ e.0.0 = own x e.0 all.0 (member_of es e.0 all.1 e.1) (sym i.2 ∙ ap key_of (sym e.2)) in
            not_below total x.0 (ap (cmp x.0) same ∙ above x.0 es e.0 s.0 e.1)

    pub mapped : (n : ℕ) → ((e : K × V) → rank (f e) ≡ n) → (es : List (K × V)) → AllByRecursion P es → IsStrictlySortedBy cmp (keys_of es) → Block n n (map f es)
    mapped n kind es all s = record { once = once_mapped es all s; from = from; to = to }
      where
        from : (i : Item) → Member (map f es) i → n ≤ rank i
        from i m = let e = member-map f es i m in let same : rank i ≡ n = ap rank (sym e.2) ∙ kind e.0 in omega (arith, same)

        to : (i : Item) → Member (map f es) i → rank i ≤ n
        to i m = let e = member-map f es i m in let same : rank i ≡ n = ap rank (sym e.2) ∙ kind e.0 in omega (arith, same)

  -- ---- a list of items for each entry, each of which tells its entry's key

  module _ (g : K × V → List Item) (owner : Item → Option K) (by_key : (i : Item) → owner (key_of i) ≡ owner i) (owned : (e : K × V) (i : Item) → Member (g e) i → owner i ≡ Some e.0) where
    pub member-flat : (es : List (K × V)) (i : Item) → Member (flat_map g es) i → (e : K × V) × Member es e × Member (g e) i
    member-flat [] i m = absurd m
    member-flat (x ∷ es) i m = by (member-cases (g x) (flat_map g es) i m) (λ r. member-flat es i r)
      where
        by : Member (g x) i ⊎ Member (flat_map g es) i → (Member (flat_map g es) i → (e : K × V) × Member es e × Member (g e) i) → (e : K × V) × Member (x ∷ es) e × Member (g e) i
        by (inl l) later = (x, inl refl, l)
        by (inr r) later = let e = later r in (e.0, inr e.1, e.2)

    pub once_flat : (es : List (K × V)) → ((e : K × V) → Member es e → Once (map key_of (g e))) → IsStrictlySortedBy cmp (keys_of es) → Once (map key_of (flat_map g es))
    unfolding IsStrictlySortedBy
    once_flat [] each s = tt
    once_flat (x ∷ es) each s =
        subst Once (sym (map-append key_of (g x) (flat_map g es))) (once-append (map key_of (g x)) (map key_of (flat_map g es)) (each x (inl refl)) (once_flat es (λ e m. each e (inr m)) s.1) apart)
      where
        apart : (k : Item) → Member (map key_of (g x)) k → Member (map key_of (flat_map g es)) k → ⊥
        apart k p q =
            let i = member-map key_of (g x) k p in
            let j = member-map key_of (flat_map g es) k q in
            let e = member-flat es j.0 j.1 in
            let same : Some x.0 ≡ Some e.0.0 = sym (owned x i.0 i.1) ∙ sym (by_key i.0) ∙ ap owner (i.2 ∙ sym j.2) ∙ by_key j.0 ∙ owned e.0 j.0 e.2 in
            let key : x.0 ≡ e.0.0 = cc in
            not_below total x.0 (ap (cmp x.0) key ∙ above x.0 es e.0 s.0 e.1)
