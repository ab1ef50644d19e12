-- Entries whose keys pass a test: how many of their values pass another, and which they are, after a change of one.
use Rattle.std.proofs.Common.{◌≡◌, ℕ, ◌+◌, Bool, true, false, cond, List, [], ◌∷◌, ◌++◌, ◌≤◌, suc, length, filter, map, Some, None, unwrap_or, refl, Ordering, Less, Equal, Greater, is_eq, sym, ◌∙◌, ap, arith}
use Rattle.std.specs.{BTreeMap.{insert_entry, is_at}, Map.{lookup, remove_entry}, Ordering.match_ordering}
use Rattle.rule_modules.specs.Amounts.{count_where}
use Rattle.mod_periods.proofs.OrderLemmas.{equal}

-- keys that tie pass the test alike
abbrev pub Respects : {K : Type 0} → (K → K → Ordering) → (K → Bool) → Type 0
Respects {K} cmp w = (k x : K) → cmp k x ≡ Equal → w x ≡ w k

module _ {K X : Type 0} (cmp : K → K → Ordering) (w : K → Bool) where
  -- the entries whose keys pass
  abbrev pub passing : List (K × X) → List (K × X)
  passing es = filter (λ e. w e.0) es

  -- a change at a key that does not pass changes none of those that pass
  pub passing-put : Respects cmp w → (es : List (K × X)) (k : K) (v : X) → w k ≡ false → passing (insert_entry cmp es k v) ≡ passing es
  passing-put r [] k v h = ap (λ p. cond p ((k, v) ∷ []) []) h
  passing-put r (e ∷ es) k v h = by (cmp k e.0) refl (passing-put r es k v h)
    where
      by : (o : Ordering) → cmp k e.0 ≡ o → passing (insert_entry cmp es k v) ≡ passing es → passing (match_ordering o ((k, v) ∷ e ∷ es) ((e.0, v) ∷ es) (e ∷ insert_entry cmp es k v)) ≡ passing (e ∷ es)
      by Less t later = ap (λ p. cond p ((k, v) ∷ passing (e ∷ es)) (passing (e ∷ es))) h
      by Equal t later =
          let out : w e.0 ≡ false = r k e.0 t ∙ h in
          ap (λ p. cond p ((e.0, v) ∷ passing es) (passing es)) out ∙ sym (ap (λ p. cond p (e ∷ passing es) (passing es)) out)
      by Greater t later = ap (λ l. cond (w e.0) (e ∷ l) l) later

  pub passing-removed : Respects cmp w → (es : List (K × X)) (k : K) → w k ≡ false → passing (remove_entry (is_at (cmp k)) es) ≡ passing es
  passing-removed r [] k h = refl
  passing-removed r (e ∷ es) k h = by (is_at (cmp k) e.0) refl (passing-removed r es k h)
    where
      by : (b : Bool) → is_at (cmp k) e.0 ≡ b → passing (remove_entry (is_at (cmp k)) es) ≡ passing es → passing (cond b es (e ∷ remove_entry (is_at (cmp k)) es)) ≡ passing (e ∷ es)
      by true t later = sym (ap (λ p. cond p (e ∷ passing es) (passing es)) (r k e.0 (equal _ t) ∙ h))
      by false t later = ap (λ l. cond (w e.0) (e ∷ l) l) later

  module _ (test : X → Bool) where
    -- how many of the values pass the test
    abbrev pub tally : List (K × X) → ℕ
    tally es = count_where test (map (λ e. e.1) (passing es))

    abbrev pub one : K → X → ℕ
    one k v = cond (w k) (cond (test v) 1 0) 0

    tally-cons : (e : K × X) (es : List (K × X)) → tally (e ∷ es) ≡ one e.0 e.1 + tally es
    tally-cons e es = by (w e.0)
      where
        by : (b : Bool) → count_where test (map (λ d. d.1) (cond b (e ∷ passing es) (passing es))) ≡ cond b (cond (test e.1) 1 0) 0 + tally es
        by true = refl
        by false = omega arith

    -- one more where a key is new
    pub tally-put : (es : List (K × X)) (k : K) (v : X) → lookup (is_at (cmp k)) es ≡ None → tally (insert_entry cmp es k v) ≡ tally es + one k v
    tally-put [] k v h = omega (arith, tally-cons (k, v) [])
    tally-put (e ∷ es) k v h = by (cmp k e.0) refl (λ rest. tally-put es k v rest)
      where
        by : (o : Ordering) → cmp k e.0 ≡ o → (lookup (is_at (cmp k)) es ≡ None → tally (insert_entry cmp es k v) ≡ tally es + one k v) → tally (match_ordering o ((k, v) ∷ e ∷ es) ((e.0, v) ∷ es) (e ∷ insert_entry cmp es k v)) ≡ tally (e ∷ es) + one k v
        by Less t later = omega (arith, tally-cons (k, v) (e ∷ es))
        by Equal t later = let found : Some e.1 ≡ None = sym (ap (λ r. cond (is_eq r) (Some e.1) (lookup (is_at (cmp k)) es)) t) ∙ h in cc
        by Greater t later =
            let rest : lookup (is_at (cmp k)) es ≡ None = sym (ap (λ r. cond (is_eq r) (Some e.1) (lookup (is_at (cmp k)) es)) t) ∙ h in
            omega (arith, tally-cons e (insert_entry cmp es k v), tally-cons e es, later rest)

    -- one fewer where one is gone
    pub tally-removed : Respects cmp w → (es : List (K × X)) (k : K) (v : X) → lookup (is_at (cmp k)) es ≡ Some v → tally es ≡ tally (remove_entry (is_at (cmp k)) es) + one k v
    tally-removed r [] k v h = cc
    tally-removed r (e ∷ es) k v h = by (is_at (cmp k) e.0) refl (λ rest. tally-removed r es k v rest)
      where
        by : (b : Bool) → is_at (cmp k) e.0 ≡ b → (lookup (is_at (cmp k)) es ≡ Some v → tally es ≡ tally (remove_entry (is_at (cmp k)) es) + one k v) → tally (e ∷ es) ≡ tally (cond b es (e ∷ remove_entry (is_at (cmp k)) es)) + one k v
        by true t later =
            let found : Some e.1 ≡ Some v = sym (ap (λ b. cond b (Some e.1) (lookup (is_at (cmp k)) es)) t) ∙ h in
            let value : e.1 ≡ v = ap (λ o. unwrap_or o v) found in
            let same : one e.0 e.1 ≡ one k v = λ i. cond (r k e.0 (equal _ t) i) (cond (test (value i)) 1 0) 0 in
            omega (arith, tally-cons e es, same)
        by false t later =
            let rest : lookup (is_at (cmp k)) es ≡ Some v = sym (ap (λ b. cond b (Some e.1) (lookup (is_at (cmp k)) es)) t) ∙ h in
            omega (arith, tally-cons e es, tally-cons e (remove_entry (is_at (cmp k)) es), later rest)

    -- a value that passes is counted
    pub tally-some : Respects cmp w → (es : List (K × X)) (k : K) (v : X) → lookup (is_at (cmp k)) es ≡ Some v → w k ≡ true → test v ≡ true → tally es ≡ tally (remove_entry (is_at (cmp k)) es) + 1
    tally-some r es k v h p q = tally-removed r es k v h ∙ ap (λ n. tally (remove_entry (is_at (cmp k)) es) + n) ((λ i. cond (p i) (cond (q i) 1 0) 0))

-- no more pass than there are
pub count-most : {X : Type 0} (test : X → Bool) (xs : List X) → count_where test xs ≤ length xs
count-most test [] = omega arith
count-most test (x ∷ xs) = by (test x) (count-most test xs)
  where
    by : (b : Bool) → count_where test xs ≤ length xs → cond b 1 0 + count_where test xs ≤ suc (length xs)
    by true later = omega arith
    by false later = omega arith

pub filter-most : {X : Type 0} (test : X → Bool) (xs : List X) → length (filter test xs) ≤ length xs
filter-most test [] = omega arith
filter-most test (x ∷ xs) = by (test x) (filter-most test xs)
  where
    by : (b : Bool) → length (filter test xs) ≤ length xs → length (cond b (x ∷ filter test xs) (filter test xs)) ≤ suc (length xs)
    by true later = omega arith
    by false later = omega arith

-- one more at the end
pub count-last : {X : Type 0} (test : X → Bool) (xs : List X) (x : X) → count_where test (xs ++ x ∷ []) ≡ count_where test xs + cond (test x) 1 0
count-last test [] x = omega arith
count-last test (y ∷ xs) x = omega (arith, count-last test xs x)
