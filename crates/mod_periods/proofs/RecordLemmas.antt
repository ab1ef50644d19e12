-- What stands at a period after a record was put, and after one more or one fewer refers to it.
use Rattle.std.proofs.Common.{◌≡◌, ◌≢◌, ℕ, ◌+◌, ◌-◌, ◌==◌, ◌&&◌, if◌then◌else◌, Bool, true, false, cond, List, Option, Some, None, refl, sym, ◌∙◌, ap, arith}
use Rattle.std.specs.{BTreeMap.is_at, List.Sorted.IsStrictlySortedBy, Map.keys_of}
use Rattle.std.proofs.lemmas.Bool.Decides.{nat_tests}
use Rattle.base_coins.specs.Coins.{Money}
use Rattle.base_roles.specs.{declared.entities.Historical.Historical, Entries.{at, with, without}, Orders.same_addr}
use Rattle.base_types.proofs.MapLemmas.{at-put, at-taken}
use Rattle.mod_periods.specs.Kept.{Kept, period_cmp, record_of, with_record, recounted, referred, released}
use Rattle.mod_periods.proofs.OrderLemmas.{period_total, same_is, period_found}

abbrev pub Histories : Type 0
Histories = List ((List ℕ × ℕ) × Historical)

-- the record of a period with this ratio, to which so many refer; none where nothing does
abbrev pub counted : Money → ℕ → Option Historical
counted ratio n = if n == 0 then None else Some (record { ratio = ratio; count = n })

abbrev history : Money → ℕ → Historical
history ratio count = record { ratio = ratio; count = count }

set_if : Bool → Histories → List ℕ × ℕ → Historical → Histories
set_if b es key h = if b then without period_cmp es key else with period_cmp es key h

some_if : Bool → Historical → Option Historical
some_if b h = if b then None else Some h

at-set_if : (b : Bool) (es : Histories) (key q : List ℕ × ℕ) (h : Historical) → IsStrictlySortedBy period_cmp (keys_of es)
    → at period_cmp (set_if b es key h) q ≡ cond (is_at (period_cmp q) key) (some_if b h) (at period_cmp es q)
unfolding set_if some_if
at-set_if true es key q h s = at-taken period_cmp period_total es key q s
at-set_if false es key q h s = at-put period_cmp period_total es key q h

-- the record at a period once a record was put at one
pub record-with : (k : Kept) → IsStrictlySortedBy period_cmp (keys_of k.historical) → (o q : List ℕ) (n m count : ℕ) (ratio : Money)
    → record_of (with_record o n ratio count k) q m ≡ cond (is_at (period_cmp (q, m)) (o, n)) (counted ratio count) (record_of k q m)
unfolding set_if some_if
record-with k s o q n m count ratio = at-set_if (count == 0) k.historical (o, n) (q, m) (history ratio count) s

counted_by : (ratio : Money) (c : ℕ) (b : Bool) → (c == 0) ≡ b → counted ratio c ≡ some_if b (history ratio c)
unfolding some_if
counted_by ratio c b e = ap (λ t. some_if t (history ratio c)) e

some_is_not_zero : (c : ℕ) → (c == 0) ≡ false → c ≢ 0
some_is_not_zero c e z = grind (arith, nat_tests)

not_zero : (c : ℕ) → c ≢ 0 → (c == 0) ≡ false
not_zero c z = grind (arith, nat_tests)

is_zero : (c : ℕ) → (c == 0) ≡ true → c ≡ 0
is_zero c e = grind (arith, nat_tests)

-- a record that something refers to is there
pub counted-some : (ratio : Money) (c : ℕ) → c ≢ 0 → counted ratio c ≡ Some (record { ratio = ratio; count = c })
unfolding some_if
counted-some ratio c z = counted_by ratio c false (not_zero c z)

cond-same : {A : Type 0} (b : Bool) (x y : A) → (b ≡ true → x ≡ y) → y ≡ cond b x y
cond-same true x y h = sym (h refl)
cond-same false x y h = refl

-- an equal key has the same record
tied_record : (k : Kept) (o q : List ℕ) (n m : ℕ) → is_at (period_cmp (q, m)) (o, n) ≡ true → record_of k q m ≡ record_of k o n
tied_record k o q n m h = both (sym (period_found q o m n) ∙ h)
  where
    apart : (a b : Bool) → (a && b) ≡ true → (a ≡ true) × (b ≡ true)
    apart true true e = (refl, refl)
    apart true false e = cc
    apart false b e = cc

    both : (◌&&◌ (same_addr q o) (m == n)) ≡ true → record_of k q m ≡ record_of k o n
    both e =
        let parts = apart _ (m == n) e in
        let one : q ≡ o = same_is q o parts.0 in
        let two : m ≡ n = number m n parts.1 in
        λ i. record_of k (one i) (two i)
      where
        number : (x y : ℕ) → (x == y) ≡ true → x ≡ y
        number x y e = grind (arith, nat_tests)

module _ (k : Kept) (s : IsStrictlySortedBy period_cmp (keys_of k.historical)) (o : List ℕ) (n : ℕ) (ratio : Money) (count : ℕ) (h : record_of k o n ≡ counted ratio count) where
  -- one more refers to a record that is there
  pub record-referred : count ≢ 0 → (q : List ℕ) (m : ℕ)
      → record_of (referred o n k) q m ≡ cond (is_at (period_cmp (q, m)) (o, n)) (counted ratio (count + 1)) (record_of k q m)
  record-referred some q m =
      let found : record_of k o n ≡ Some (history ratio count) = h ∙ counted-some ratio count some in
      ap (λ r. record_of (recounted r (λ c. c + 1) o n k) q m) found ∙ record-with k s o q n m (count + 1) ratio

  -- one fewer refers to a record
  pub record-released : (q : List ℕ) (m : ℕ)
      → record_of (released o n k) q m ≡ cond (is_at (period_cmp (q, m)) (o, n)) (counted ratio (count - 1)) (record_of k q m)
  record-released q m = by (count == 0) refl
    where
      by : (b : Bool) → (count == 0) ≡ b → record_of (released o n k) q m ≡ cond (is_at (period_cmp (q, m)) (o, n)) (counted ratio (count - 1)) (record_of k q m)
      by true e =
          let none : record_of k o n ≡ None = h ∙ ap (counted ratio) (is_zero count e) in
          let still : counted ratio (count - 1) ≡ None = ap (λ c. counted ratio (c - 1)) (is_zero count e) in
          ap (λ r. record_of (recounted r (λ c. c - 1) o n k) q m) none
          ∙ cond-same (is_at (period_cmp (q, m)) (o, n)) (counted ratio (count - 1)) (record_of k q m) (λ t. still ∙ sym (tied_record k o q n m t ∙ none))
      by false e =
          let found : record_of k o n ≡ Some (history ratio count) = h ∙ counted-some ratio count (some_is_not_zero count e) in
          ap (λ r. record_of (recounted r (λ c. c - 1) o n k) q m) found ∙ record-with k s o q n m (count - 1) ratio

-- the other tables stay
pub recounted-current : (x : Option Historical) (f : ℕ → ℕ) (o : List ℕ) (n : ℕ) (k : Kept) → (recounted x f o n k).current ≡ k.current
recounted-current None f o n k = refl
recounted-current (Some h) f o n k = refl

pub recounted-starts : (x : Option Historical) (f : ℕ → ℕ) (o : List ℕ) (n : ℕ) (k : Kept) → (recounted x f o n k).starts ≡ k.starts
recounted-starts None f o n k = refl
recounted-starts (Some h) f o n k = refl

pub recounted-events : (x : Option Historical) (f : ℕ → ℕ) (o : List ℕ) (n : ℕ) (k : Kept) → (recounted x f o n k).events ≡ k.events
recounted-events None f o n k = refl
recounted-events (Some h) f o n k = refl
