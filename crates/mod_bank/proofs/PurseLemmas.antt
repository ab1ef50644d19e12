-- The coins of an account are a list of coins.
use Rattle.std.proofs.Common.{◌≡◌, ◌∙◌, ℕ, ◌^◌, ◌<◌, ◌≤◌, Bool, true, false, List, [], ◌∷◌, ◌++◌, Option, Some, None, length, append_assoc, refl, sym, ap, subst, arith, inl, inr, All, map, unwrap_or, Ordering, Less, Equal, Greater, is_eq}
use Rattle.std.proofs.lemmas.{List.Elements.{All-from_recursion, recursion_from_All}, Map.Keys.IsDistinct-from_sorted}
use Rattle.std.specs.{Ordering.ordering_then, List.{AllByRecursion, cons_option, Sorted.IsStrictlySortedBy}}
use Rattle.std.specs.{Map.keys_of, BTreeMap.is_at}
use Rattle.base_types.specs.{declared.account.Account.Account, Orders.{account_cmp, denom_cmp}}
use Rattle.base_types.proofs.{MapLemmas.equal, OrderLemmas.account_exact}
use Rattle.base_table.specs.Tabled.{entry_above}
use Rattle.base_coins.{specs.Coins.{Money, IsMoney, sorted_coins}, proofs.{Order.rises_from_money, Amounts.same_list}}
use Rattle.base_coins.proofs.Sorting.{rises_sorted, amount-sorted}
use Rattle.base_roles.specs.{Holdings.{Holdings, Balances, balance_of, coin_if, coins_of, IsBacked}, Orders.place_cmp}
use Rattle.base_roles.proofs.HoldingLemmas.{place_total, place_exact, denom_total, balance-most, place_order}
use Rattle.mod_bank.proofs.{OrderLemmas.ordered_at, CoinLemmas.coins}
use Rattle.base_records.proofs.{MemberLemmas.{Member, value_of}, WalkLemmas.{left_of, walk-more, walk-end}}

-- ---- in order

module _ (who : Account) where
  own_above : (x y : Account × List ℕ) → is_at (account_cmp who) x.0 ≡ true → is_at (account_cmp who) y.0 ≡ true → place_cmp x y ≡ Less → denom_cmp x.1 y.1 ≡ Less
  own_above x y p q e =
      let a : who ≡ x.0 = account_exact who x.0 (equal (account_cmp who x.0) p) in
      let b : account_cmp x.0 y.0 ≡ Equal = ap (λ z. account_cmp z y.0) (sym a) ∙ equal (account_cmp who y.0) q in
      sym (ap (λ r. ordering_then r (denom_cmp x.1 y.1)) b) ∙ e

  all_own : (x : Account × List ℕ) (es : Balances) → is_at (account_cmp who) x.0 ≡ true → AllByRecursion (λ y. place_cmp x y ≡ Less) (keys_of es) → AllByRecursion (λ d. denom_cmp x.1 d ≡ Less) (keys_of (coins who es))
  all_own x [] p h = tt
  all_own x (e ∷ es) p h = by (is_at (account_cmp who) e.0.0) refl (all_own x es p h.1)
    where
      first : place_cmp x e.0 ≡ Less
      first = h.0

      by : (b : Bool) → is_at (account_cmp who) e.0.0 ≡ b → AllByRecursion (λ d. denom_cmp x.1 d ≡ Less) (keys_of (coins who es)) → AllByRecursion (λ d. denom_cmp x.1 d ≡ Less) (keys_of (cons_option (coin_if b (e.0.1, e.1)) (coins who es)))
      by true q rest = (own_above x e.0 p q first, rest)
      by false q rest = rest

  pub coins-ascend : (es : Balances) → IsStrictlySortedBy place_cmp (keys_of es) → IsStrictlySortedBy denom_cmp (keys_of (coins who es))
  unfolding IsStrictlySortedBy
  coins-ascend [] s = tt
  coins-ascend (e ∷ es) s = by (is_at (account_cmp who) e.0.0) refl (coins-ascend es s.1)
    where
      above : AllByRecursion (λ y. place_cmp e.0 y ≡ Less) (keys_of es)
      above = s.0

      by : (b : Bool) → is_at (account_cmp who) e.0.0 ≡ b → IsStrictlySortedBy denom_cmp (keys_of (coins who es)) → IsStrictlySortedBy denom_cmp (keys_of (cons_option (coin_if b (e.0.1, e.1)) (coins who es)))
      by true q rest = (all_own e.0 es q above, rest)
      by false q rest = rest

  coins_all : (P : ℕ → Type 0) (es : Balances) → AllByRecursion (λ e. P e.1) es → AllByRecursion (λ c. P c.1) (coins who es)
  coins_all P [] h = tt
  coins_all P (e ∷ es) h = by (is_at (account_cmp who) e.0.0) (coins_all P es h.1)
    where
      by : (b : Bool) → AllByRecursion (λ c. P c.1) (coins who es) → AllByRecursion (λ c. P c.1) (cons_option (coin_if b (e.0.1, e.1)) (coins who es))
      by true rest = (h.0, rest)
      by false rest = rest

-- ---- each amount

all_members : {A : Type 0} (P : A → Type 0) (xs : List A) → ((x : A) → Member xs x → P x) → AllByRecursion P xs
all_members P [] h = tt
all_members P (x ∷ xs) h = (h x (inl refl), all_members P xs (λ y m. h y (inr m)))

entry_most : (h : Holdings) (b : IsBacked h) (e : (Account × List ℕ) × ℕ) → Member h.balances e → e.1 < 10 ^ 38
entry_most h b e m =
    let here = value_of place_cmp place_total place_exact h.balances e.0 e.1 (IsDistinct-from_sorted place_cmp (keys_of h.balances) b.balances_ascend) m in
    let same : balance_of h e.0.0 e.0.1 ≡ e.1 = ap (λ x. unwrap_or x 0) here in
    let most : balance_of h e.0.0 e.0.1 ≤ 10 ^ 18 = balance-most h e.0.0 e.0.1 b in
    omega (arith, same, most)

coins-money : (h : Holdings) (who : Account) → IsBacked h → IsMoney (coins_of h who)
coins-money h who b = record {
  sorted = coins-ascend who h.balances b.balances_ascend;
  positive = All-from_recursion (λ c. 0 < c.1) (coins_of h who) (coins_all who (λ n. 0 < n) h.balances (recursion_from_All (λ e. 0 < e.1) h.balances b.balances_positive));
  below = All-from_recursion (λ c. c.1 < 10 ^ 38) (coins_of h who) (coins_all who (λ n. n < 10 ^ 38) h.balances (all_members (λ e. e.1 < 10 ^ 38) h.balances (entry_most h b)));
}

-- coins in order are not sorted anew
pub sorted_already : (h : Holdings) (who : Account) → IsBacked h → sorted_coins (coins_of h who) ≡ coins_of h who
sorted_already h who b =
    let m = coins-money h who b in
    same_list (sorted_coins (coins_of h who)) (coins_of h who) (rises_sorted (coins_of h who) m.below) (rises_from_money (coins_of h who) m) (λ q. amount-sorted (coins_of h who) q m.below)

all_unmap : {A B : Type 0} (P : B → Type 0) (f : A → B) (xs : List A) → AllByRecursion P (map f xs) → AllByRecursion (λ x. P (f x)) xs
all_unmap P f [] h = tt
all_unmap P f (x ∷ xs) h = (h.0, all_unmap P f xs h.1)

pub coins-below : {A : Type 0} (f : A → List ℕ × ℕ) (xs : List A) (h : Holdings) (who : Account) → IsBacked h → map f xs ≡ coins_of h who → All (λ x. (f x).1 < 10 ^ 38) xs
coins-below f xs h who b e =
    let m = coins-money h who b in
    All-from_recursion (λ x. (f x).1 < 10 ^ 38) xs (all_unmap (λ c. c.1 < 10 ^ 38) f xs (recursion_from_All (λ c. c.1 < 10 ^ 38) (map f xs) (subst (All (λ c. c.1 < 10 ^ 38)) (sym e) m.below)))

-- ---- a walk over the coins

map-push : {A B : Type 0} (f : A → B) (xs : List A) (x : A) → map f (xs ++ x ∷ []) ≡ map f xs ++ f x ∷ []
map-push f [] x = refl
map-push f (y ∷ xs) x = ap (λ l. f y ∷ l) (map-push f xs x)

module _ {A : Type 0} (f : A → List ℕ × ℕ) (es : Money) where
  pub collected-more : (out next : List A) (after : Option (List ℕ)) (c : A) → IsStrictlySortedBy denom_cmp (keys_of es) → map f out ++ left_of denom_cmp es after ≡ es
      → Some (f c) ≡ entry_above denom_cmp es after → next ≡ out ++ c ∷ [] → map f next ++ left_of denom_cmp es (Some (f c).0) ≡ es
  collected-more out next after c s w e n =
      ap (λ l. map f l ++ left_of denom_cmp es (Some (f c).0)) n ∙ ap (λ l. l ++ left_of denom_cmp es (Some (f c).0)) (map-push f out c)
      ∙ append_assoc (map f out) (f c ∷ []) (left_of denom_cmp es (Some (f c).0)) ∙ ap (λ l. map f out ++ l) (sym (walk-more denom_cmp denom_total es after (f c) s (sym e))) ∙ w

  pub collected-shorter : (after : Option (List ℕ)) (c : A) → IsStrictlySortedBy denom_cmp (keys_of es) → Some (f c) ≡ entry_above denom_cmp es after → length (left_of denom_cmp es (Some (f c).0)) < length (left_of denom_cmp es after)
  collected-shorter after c s e = let n = ap length (walk-more denom_cmp denom_total es after (f c) s (sym e)) in omega (arith, n)

-- the coins of an account are in order where a table holds the balances
pub coins-ordered : (es : Balances) (h : Holdings) (who : Account) → es ≡ h.balances → IsStrictlySortedBy place_order (keys_of es) → IsStrictlySortedBy denom_cmp (keys_of (coins_of h who))
coins-ordered es h who e s = subst (λ (bs : Balances). IsStrictlySortedBy denom_cmp (keys_of (coins who bs))) e (coins-ascend who es (ordered_at es s))
