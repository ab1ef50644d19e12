-- Lists of numbers by key: their order, a number after a change, and sums over some of the keys.
use Rattle.std.proofs.Common.{◌≡◌, ◌∙◌, ℕ, ◌+◌, ◌≤◌, ◌==◌, Bool, true, false, cond, List, [], ◌∷◌, Option, Some, None, refl, sym, ap, arith, All, ◌<◌, unwrap_or, if◌then◌else◌, Ordering, Less, Equal, Greater, is_eq}
use Rattle.std.proofs.lemmas.{List.Elements.{All-cons, All-head, All-tail}, Bool.Decides.nat_tests, Map.lookup-none}
use Rattle.std.{proofs.lemmas.Map.{Keys.sorted_tail, Entries.none_below_head}, specs.Ordering.match_ordering}
use Rattle.std.specs.{Cmp.IsTotalOrder, List.Sorted.IsStrictlySortedBy, Map.{keys_of, lookup, remove_entry}}
use Rattle.std.specs.BTreeMap.{insert_entry, is_at}
use Rattle.base_types.proofs.MapLemmas.{ascend-put, ascend-taken, at-put, at-taken}
use Rattle.base_roles.specs.Entries.{number_at, with_number, sum_where}

-- ---- what a key has after a change

module _ {K : Type 0} (cmp : K → K → Ordering) (o : IsTotalOrder cmp) where
  none_or : (b : Bool) (x : Option ℕ) → unwrap_or (cond b None x) 0 ≡ cond b 0 (unwrap_or x 0)
  none_or true x = refl
  none_or false x = refl

  some_or : (b : Bool) (n : ℕ) (x : Option ℕ) → unwrap_or (cond b (Some n) x) 0 ≡ cond b n (unwrap_or x 0)
  some_or true n x = refl
  some_or false n x = refl

  after : (b : Bool) (es : List (K × ℕ)) (k q : K) (n : ℕ) → (b ≡ true → n ≡ 0) → IsStrictlySortedBy cmp (keys_of es)
      → number_at cmp (if b then remove_entry (is_at (cmp k)) es else insert_entry cmp es k n) q ≡ cond (is_at (cmp q) k) n (number_at cmp es q)
  after true es k q n z s = ap (λ r. unwrap_or r 0) (at-taken cmp o es k q s) ∙ none_or (is_at (cmp q) k) (lookup (is_at (cmp q)) es)
      ∙ (λ i. cond (is_at (cmp q) k) (sym (z refl) i) (number_at cmp es q))
  after false es k q n z s = ap (λ r. unwrap_or r 0) (at-put cmp o es k q n) ∙ some_or (is_at (cmp q) k) n (lookup (is_at (cmp q)) es)

  -- the number at a key after a change at another or the same
  pub number-after : (es : List (K × ℕ)) (k q : K) (n : ℕ) → IsStrictlySortedBy cmp (keys_of es)
      → number_at cmp (with_number cmp es k n) q ≡ cond (is_at (cmp q) k) n (number_at cmp es q)
  number-after es k q n s = after (n == 0) es k q n (λ h. grind (arith, nat_tests)) s

  -- ---- keys stay in order

  ascend-if : (b : Bool) (es : List (K × ℕ)) (k : K) (n : ℕ) → IsStrictlySortedBy cmp (keys_of es) → IsStrictlySortedBy cmp (keys_of (if b then remove_entry (is_at (cmp k)) es else insert_entry cmp es k n))
  ascend-if true es k n s = ascend-taken cmp (is_at (cmp k)) es s
  ascend-if false es k n s = ascend-put cmp o es k n s

  pub ascend-after : (es : List (K × ℕ)) (k : K) (n : ℕ) → IsStrictlySortedBy cmp (keys_of es) → IsStrictlySortedBy cmp (keys_of (with_number cmp es k n))
  ascend-after es k n s = ascend-if (n == 0) es k n s

  -- ---- no number is 0

  abbrev pub Positive : List (K × ℕ) → Type 0
  Positive es = All (λ e. 0 < e.1) es

  positive-removed : (k : K) (es : List (K × ℕ)) → Positive es → Positive (remove_entry (is_at (cmp k)) es)
  positive-removed k [] h = h
  positive-removed k (e ∷ es) h = by (is_at (cmp k) e.0) (positive-removed k es (All-tail (λ (d : K × ℕ). 0 < d.1) e es h))
    where
      by : (b : Bool) → Positive (remove_entry (is_at (cmp k)) es) → Positive (cond b es (e ∷ remove_entry (is_at (cmp k)) es))
      by true later = All-tail (λ (d : K × ℕ). 0 < d.1) e es h
      by false later = All-cons (λ (d : K × ℕ). 0 < d.1) e (remove_entry (is_at (cmp k)) es) (All-head (λ (d : K × ℕ). 0 < d.1) e es h) later

  positive-put : (k : K) (n : ℕ) (es : List (K × ℕ)) → 0 < n → Positive es → Positive (insert_entry cmp es k n)
  positive-put k n [] p h = All-cons (λ (d : K × ℕ). 0 < d.1) (k, n) [] p h
  positive-put k n (e ∷ es) p h = by (cmp k e.0) (positive-put k n es p (All-tail (λ (d : K × ℕ). 0 < d.1) e es h))
    where
      by : (r : Ordering) → Positive (insert_entry cmp es k n) → Positive (match_ordering r ((k, n) ∷ e ∷ es) ((e.0, n) ∷ es) (e ∷ insert_entry cmp es k n))
      by Less later = All-cons (λ (d : K × ℕ). 0 < d.1) (k, n) (e ∷ es) p h
      by Equal later = All-cons (λ (d : K × ℕ). 0 < d.1) (e.0, n) es p (All-tail (λ (d : K × ℕ). 0 < d.1) e es h)
      by Greater later = All-cons (λ (d : K × ℕ). 0 < d.1) e (insert_entry cmp es k n) (All-head (λ (d : K × ℕ). 0 < d.1) e es h) later

  positive-if : (b : Bool) (k : K) (n : ℕ) (es : List (K × ℕ)) → (b ≡ false → 0 < n) → Positive es → Positive (if b then remove_entry (is_at (cmp k)) es else insert_entry cmp es k n)
  positive-if true k n es z h = positive-removed k es h
  positive-if false k n es z h = positive-put k n es (z refl) h

  pub positive-after : (es : List (K × ℕ)) (k : K) (n : ℕ) → Positive es → Positive (with_number cmp es k n)
  positive-after es k n h = positive-if (n == 0) k n es (λ e. grind (arith, nat_tests)) h

  -- ---- the sum of the numbers at the keys that pass a test

  module _ (w : K → Bool) where
    -- the keys that one key finds pass the test as it does
    abbrev pub Respects : Type 0
    Respects = (k x : K) → cmp k x ≡ Equal → w x ≡ w k

    removed_by : (r : Ordering) (x k : K) (e1 n s s' : ℕ) → cmp k x ≡ r → Respects → s' + cond (w k) n 0 ≡ s
        → (cond (is_eq r) s (cond (w x) e1 0 + s')) + cond (w k) (cond (is_eq r) e1 n) 0 ≡ cond (w x) e1 0 + s
    removed_by Equal x k e1 n s s' p h later = rw (h k x p) (omega arith)
    removed_by Less x k e1 n s s' p h later = omega arith
    removed_by Greater x k e1 n s s' p h later = omega arith

    number_if : (r : Ordering) (e1 : ℕ) (x : Option ℕ) → unwrap_or (cond (is_eq r) (Some e1) x) 0 ≡ cond (is_eq r) e1 (unwrap_or x 0)
    number_if Equal e1 x = refl
    number_if Less e1 x = refl
    number_if Greater e1 x = refl

    sum_if : (b : Bool) (e : K × ℕ) (es fs : List (K × ℕ)) → sum_where w (cond b es (e ∷ fs)) ≡ cond b (sum_where w es) (cond (w e.0) e.1 0 + sum_where w fs)
    sum_if true e es fs = refl
    sum_if false e es fs = refl

    sum-removed : (k : K) (es : List (K × ℕ)) → Respects → sum_where w (remove_entry (is_at (cmp k)) es) + cond (w k) (number_at cmp es k) 0 ≡ sum_where w es
    sum-removed k [] h = by (w k)
      where
        by : (b : Bool) → 0 + cond b 0 0 ≡ 0
        by true = refl
        by false = refl
    sum-removed k (e ∷ es) h =
        rw (sum_if (is_at (cmp k) e.0) e es (remove_entry (is_at (cmp k)) es), number_if (cmp k e.0) e.1 (lookup (is_at (cmp k)) es))
        (removed_by (cmp k e.0) e.0 k e.1 (number_at cmp es k) (sum_where w es) (sum_where w (remove_entry (is_at (cmp k)) es)) refl h (sum-removed k es h))

    sum-put : (k : K) (n : ℕ) (es : List (K × ℕ)) → Respects → IsStrictlySortedBy cmp (keys_of es) → sum_where w (insert_entry cmp es k n) + cond (w k) (number_at cmp es k) 0 ≡ sum_where w es + cond (w k) n 0
    sum-put k n [] h s = by (w k)
      where
        by : (b : Bool) → cond b n 0 + 0 + cond b 0 0 ≡ 0 + cond b n 0
        by true = omega arith
        by false = omega arith
    sum-put k n (e ∷ es) h s = by (cmp k e.0) refl (sum-put k n es h (sorted_tail cmp e.0 (keys_of es) s))
      where
        none : cmp k e.0 ≡ Less → number_at cmp es k ≡ 0
        none p = ap (λ r. unwrap_or r 0) (lookup-none (is_at (cmp k)) es (none_below_head o k e es s p).1)

        by : (r : Ordering) → cmp k e.0 ≡ r → sum_where w (insert_entry cmp es k n) + cond (w k) (number_at cmp es k) 0 ≡ sum_where w es + cond (w k) n 0
            → sum_where w (match_ordering r ((k, n) ∷ e ∷ es) ((e.0, n) ∷ es) (e ∷ insert_entry cmp es k n)) + cond (w k) (unwrap_or (cond (is_eq r) (Some e.1) (lookup (is_at (cmp k)) es)) 0) 0 ≡ cond (w e.0) e.1 0 + sum_where w es + cond (w k) n 0
        by Less p later = rw (none p) (zero_if (w k) (cond (w k) n 0) (cond (w e.0) e.1 0 + sum_where w es))
          where
            zero_if : (b : Bool) (m t : ℕ) → m + t + cond b 0 0 ≡ t + m
            zero_if true m t = omega arith
            zero_if false m t = omega arith
        by Equal p later = rw (h k e.0 p) (omega arith)
        by Greater p later = omega arith

    sum-if : (b : Bool) (k : K) (n : ℕ) (es : List (K × ℕ)) → (b ≡ true → n ≡ 0) → Respects → IsStrictlySortedBy cmp (keys_of es)
        → sum_where w (if b then remove_entry (is_at (cmp k)) es else insert_entry cmp es k n) + cond (w k) (number_at cmp es k) 0 ≡ sum_where w es + cond (w k) n 0
    sum-if true k n es z h s = sum-removed k es h ∙ zero (w k) n (sum_where w es) (z refl)
      where
        zero : (b : Bool) (m t : ℕ) → m ≡ 0 → t ≡ t + cond b m 0
        zero true m t e = omega arith
        zero false m t e = omega arith
    sum-if false k n es z h s = sum-put k n es h s

    -- the sum after a change: less what stood there, and what stands there now
    pub sum-after : (k : K) (n : ℕ) (es : List (K × ℕ)) → Respects → IsStrictlySortedBy cmp (keys_of es)
        → sum_where w (with_number cmp es k n) + cond (w k) (number_at cmp es k) 0 ≡ sum_where w es + cond (w k) n 0
    sum-after k n es h s = sum-if (n == 0) k n es (λ e. grind (arith, nat_tests)) h s

    -- no number is above the sum of those that pass, where its key passes
    pub number-within : (k : K) (es : List (K × ℕ)) → Respects → w k ≡ true → number_at cmp es k ≤ sum_where w es
    number-within k es h p =
        let e : sum_where w (remove_entry (is_at (cmp k)) es) + cond (w k) (number_at cmp es k) 0 ≡ sum_where w es = sum-removed k es h in
        let f : sum_where w (remove_entry (is_at (cmp k)) es) + number_at cmp es k ≡ sum_where w es = rw p at e in
        omega (arith, f)
