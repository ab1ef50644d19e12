-- The coins of an account, as a walk over its entries finds them.
use Rattle.std.proofs.Common.{◌≡◌, ◌∙◌, ℕ, ◌≤◌, Bool, true, false, cond, List, [], ◌∷◌, Option, Some, None, length, refl, sym, ap, subst, arith, ◌&&◌, codes, nat_le, Ordering, Less, Equal, Greater, nat_cmp, is_eq, is_le, is_lt, filter, filter_map}
use Rattle.std.{proofs.lemmas.Bool.Decides.nat_tests, specs.Ordering.ordering_then}
use Rattle.std.specs.{List.{AllByRecursion, list_all, cons_option, Sorted.IsStrictlySortedBy}, Map.keys_of}
use Rattle.std.specs.BTreeMap.{is_at}
use Rattle.base_types.specs.{declared.account.Account.Account, Denom.{is_denom, is_letter, is_denom_character}}
use Rattle.base_types.{specs.Orders.{account_cmp, denom_cmp}, proofs.OrderLemmas.account_exact}
use Rattle.base_table.specs.Tabled.{first_of, entry_above, entry_from}
use Rattle.base_coins.specs.Coins.{Money}
use Rattle.base_roles.specs.{Holdings.{Holdings, Balances, coin_if, coins_of}, Orders.place_cmp}
use Rattle.base_roles.proofs.HoldingLemmas.{account_total, place_order, place_order_is}
use Rattle.mod_bank.specs.{Booked.AreNamed, Items.own_coin}

-- ---- no name is before "A--"

four : (a b c d : Bool) → (((a && b) && c) && d) ≡ true → (a ≡ true) × (b ≡ true) × (d ≡ true)
four true true true true h = (refl, refl, refl)
four true true true false h = absurd cc
four true true false d h = absurd cc
four true false c d h = absurd cc
four false b c d h = absurd cc

two : (a b : Bool) → (a && b) ≡ true → (a ≡ true) × (b ≡ true)
two true true h = (refl, refl)
two true false h = absurd cc
two false b h = absurd cc

le_then : (r s : Ordering) → is_le r ≡ true → is_le s ≡ true → is_le (ordering_then r s) ≡ true
le_then Less s p q = refl
le_then Equal s p q = q
le_then Greater s p q = absurd cc

le_number : (n c : ℕ) → n ≤ c → is_le (nat_cmp n c) ≡ true
le_number n c h = grind (arith, nat_tests)

letter_from : (c : ℕ) → is_letter c ≡ true → 65 ≤ c
letter_from c h = grind (arith, nat_tests)

character_from : (c : ℕ) → is_denom_character c ≡ true → 45 ≤ c
character_from c h = grind (arith, nat_tests)

nil_le : (d : List ℕ) → is_le (denom_cmp [] d) ≡ true
nil_le [] = refl
nil_le (x ∷ d) = refl

least_first : (d : List ℕ) → is_denom d ≡ true → is_le (denom_cmp (codes "A--") d) ≡ true
least_first [] h = absurd cc
least_first (a ∷ []) h = let p = four (is_letter a) (nat_le 2 0) (nat_le 0 127) true h in let f : false ≡ true = p.1 in absurd cc
least_first (a ∷ b ∷ []) h = let p = four (is_letter a) (nat_le 2 1) (nat_le 1 127) (is_denom_character b && true) h in let f : false ≡ true = p.1 in absurd cc
least_first (a ∷ b ∷ c ∷ d) h =
    let p = four (is_letter a) (nat_le 2 (length (b ∷ c ∷ d))) (nat_le (length (b ∷ c ∷ d)) 127) (list_all is_denom_character (b ∷ c ∷ d)) h in
    let q = two (is_denom_character b) (list_all is_denom_character (c ∷ d)) p.2 in
    let r = two (is_denom_character c) (list_all is_denom_character d) q.1 in
    le_then (nat_cmp 65 a) _ (le_number 65 a (letter_from a p.0))
    (le_then (nat_cmp 45 b) _ (le_number 45 b (character_from b q.0))
    (le_then (nat_cmp 45 c) _ (le_number 45 c (character_from c r.0)) (nil_le d)))

-- ---- the coins of an account among entries in order

module _ (who : Account) where
  abbrev pub coins : Balances → Money
  coins es = filter_map (λ e. coin_if (is_at (account_cmp who) e.0.0) (e.0.1, e.1)) es

  none_above : (es : Balances) → AllByRecursion (λ y. account_cmp who y.0 ≡ Less) (keys_of es) → coins es ≡ []
  none_above [] h = refl
  none_above (x ∷ es) h = ap (λ r. cons_option (coin_if (is_eq r) (x.0.1, x.1)) (coins es)) h.0 ∙ none_above es h.1

  still_less : (x y : Account × List ℕ) (r : Ordering) → account_cmp x.0 y.0 ≡ r → ordering_then r (denom_cmp x.1 y.1) ≡ Less → account_cmp who x.0 ≡ Less → account_cmp who y.0 ≡ Less
  still_less x y Less p e h = account_total.trans who x.0 y.0 h p
  still_less x y Equal p e h = subst (λ a. account_cmp who a ≡ Less) (account_exact x.0 y.0 p) h
  still_less x y Greater p e h = absurd cc

  all_less : (x : Account × List ℕ) (ks : List (Account × List ℕ)) → account_cmp who x.0 ≡ Less → AllByRecursion (λ y. place_cmp x y ≡ Less) ks → AllByRecursion (λ y. account_cmp who y.0 ≡ Less) ks
  all_less x [] h a = tt
  all_less x (y ∷ ks) h a = (still_less x y (account_cmp x.0 y.0) refl a.0 h, all_less x ks h a.1)

  module _ (test : Ordering → Bool) (less : test Less ≡ true) (greater : test Greater ≡ false) (d : List ℕ) where
    abbrev entries : Balances → Balances
    entries es = filter (λ e. test (place_cmp (who, d) e.0) && true) es

    abbrev wanted : Money → Money
    wanted cs = filter (λ c. test (denom_cmp d c.0) && true) cs

    found : (es : Balances) → IsStrictlySortedBy place_cmp (keys_of es) → own_coin who (first_of (entries es)) ≡ first_of (wanted (coins es))
    unfolding IsStrictlySortedBy
    found [] s = refl
    found (x ∷ es) s = by (account_cmp who x.0.0) refl (found es s.1)
      where
        all : AllByRecursion (λ y. place_cmp x.0 y ≡ Less) (keys_of es)
        all = s.0

        own : (r : Ordering) → account_cmp who x.0.0 ≡ r → own_coin who (Some x) ≡ coin_if (is_eq r) (x.0.1, x.1)
        own r p = ap (λ q. coin_if (is_eq q) (x.0.1, x.1)) p

        by : (r : Ordering) → account_cmp who x.0.0 ≡ r → own_coin who (first_of (entries es)) ≡ first_of (wanted (coins es))
            → own_coin who (first_of (cond (test (ordering_then r (denom_cmp d x.0.1)) && true) (x ∷ entries es) (entries es)))
            ≡ first_of (wanted (cons_option (coin_if (is_eq r) (x.0.1, x.1)) (coins es)))
        by Less p ih =
            ap (λ b. own_coin who (first_of (cond (b && true) (x ∷ entries es) (entries es)))) less
            ∙ own Less p ∙ ap (λ cs. first_of (wanted cs)) (sym (none_above es (all_less x.0 (keys_of es) p all)))
        by Greater p ih = ap (λ b. own_coin who (first_of (cond (b && true) (x ∷ entries es) (entries es)))) greater ∙ ih
        by Equal p ih = here (test (denom_cmp d x.0.1))
          where
            here : (b : Bool) → own_coin who (first_of (cond (b && true) (x ∷ entries es) (entries es))) ≡ first_of (cond (b && true) ((x.0.1, x.1) ∷ wanted (coins es)) (wanted (coins es)))
            here true = own Equal p
            here false = ih

  all_wanted : (es : Balances) → AreNamed es → filter (λ c. is_le (denom_cmp (codes "A--") c.0) && true) (coins es) ≡ coins es
  all_wanted [] h = refl
  all_wanted (x ∷ es) h = by (is_at (account_cmp who) x.0.0) (all_wanted es h.1)
    where
      by : (b : Bool) → filter (λ c. is_le (denom_cmp (codes "A--") c.0) && true) (coins es) ≡ coins es
          → filter (λ c. is_le (denom_cmp (codes "A--") c.0) && true) (cons_option (coin_if b (x.0.1, x.1)) (coins es)) ≡ cons_option (coin_if b (x.0.1, x.1)) (coins es)
      by true ih =
          ap (λ t. cond (t && true) ((x.0.1, x.1) ∷ filter (λ c. is_le (denom_cmp (codes "A--") c.0) && true) (coins es)) (filter (λ c. is_le (denom_cmp (codes "A--") c.0) && true) (coins es))) (least_first x.0.1 h.0)
          ∙ ap (λ l. (x.0.1, x.1) ∷ l) ih
      by false ih = ih

  -- the first coin stands at or behind the least denomination
  pub first-coin : (es : Balances) → AreNamed es → IsStrictlySortedBy place_order (keys_of es) → own_coin who (entry_from place_order es (who, codes "A--")) ≡ entry_above denom_cmp (coins es) None
  first-coin es n s =
      subst (λ order. IsStrictlySortedBy order (keys_of es) → own_coin who (entry_from order es (who, codes "A--")) ≡ first_of (coins es)) (sym place_order_is)
      (λ t. found is_le refl refl (codes "A--") es t ∙ ap first_of (all_wanted es n)) s

  -- and the next one behind this denomination
  pub next-coin : (es : Balances) (d : List ℕ) → IsStrictlySortedBy place_order (keys_of es) → own_coin who (entry_above place_order es (Some (who, d))) ≡ entry_above denom_cmp (coins es) (Some d)
  next-coin es d s =
      subst (λ order. IsStrictlySortedBy order (keys_of es) → own_coin who (entry_above order es (Some (who, d))) ≡ entry_above denom_cmp (coins es) (Some d)) (sym place_order_is)
      (λ t. found is_lt refl refl d es t) s

  -- the same, as the calls tell it
  module _ (h : Holdings) (es : Balances) (e : es ≡ h.balances) (s : IsStrictlySortedBy place_order (keys_of es)) (after : Option (List ℕ)) (r : Option (List ℕ × ℕ)) (x : Option ((Account × List ℕ) × ℕ)) (d : List ℕ)
      (a : r ≡ own_coin who x) where
    pub first_at : AreNamed es → x ≡ entry_from place_order es (who, d) → d ≡ codes "A--" → after ≡ None → r ≡ entry_above denom_cmp (coins_of h who) after
    first_at n b l i =
        a ∙ ap (own_coin who) (b ∙ ap (λ (q : List ℕ). entry_from place_order es (who, q)) l) ∙ first-coin es n s
        ∙ ap (λ (bs : Balances). entry_above denom_cmp (coins bs) None) e ∙ ap (λ (q : Option (List ℕ)). entry_above denom_cmp (coins_of h who) q) (sym i)

    pub next_at : x ≡ entry_above place_order es (Some (who, d)) → after ≡ Some d → r ≡ entry_above denom_cmp (coins_of h who) after
    next_at b i =
        a ∙ ap (own_coin who) b ∙ next-coin es d s
        ∙ ap (λ (bs : Balances). entry_above denom_cmp (coins bs) (Some d)) e ∙ ap (λ (q : Option (List ℕ)). entry_above denom_cmp (coins_of h who) q) (sym i)
