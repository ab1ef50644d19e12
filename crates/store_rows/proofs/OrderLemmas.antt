-- The bytes of keys are in the order of their fields.
use Rattle.std.proofs.Common.{◌≡◌, ◌∙◌, ℕ, zero, suc, ◌/◌, ◌%◌, ◌^◌, ◌<◌, List, [], ◌∷◌, ◌++◌, length, refl, sym, ap, ap₂, arith, Ordering, Less, Equal, Greater, nat_cmp}
use Rattle.std.specs.{Int.{byte_at, bytes_high_first}, Ordering.{MatchOrdering, ordering_then}, Cmp.nat_cmp_is}
use Rattle.std.proofs.{lemmas.Cmp.ranked, Math.Nat.{div-div-eq-div-mul, pow-suc}}
use Rattle.base_types.specs.Accounts.{account_bytes}
use Rattle.base_io.specs.Rows.{key_cmp}
use Rattle.base_roles.specs.declared.items.Item.{Item}
use Rattle.base_roles.specs.declared.items.Item.TheVariants as item
use Rattle.store_rows.specs.{Kinds.prefix_of, Fields.{denom_bytes, eight_bytes}, Order.{fields_cmp, item_cmp}}
use Rattle.store_rows.specs.{Rows.{key_bytes, key_fields, kind_in}, Spelled.{HasRow, IsShort, IsUser}}
use Rattle.store_rows.proofs.{CoinReads.twenty, KeyLemmas.same_kind}

then_assoc : (a b c : Ordering) → ordering_then (ordering_then a b) c ≡ ordering_then a (ordering_then b c)
then_assoc Less b c = refl
then_assoc Equal b c = refl
then_assoc Greater b c = refl

then_equal : (a : Ordering) → ordering_then a Equal ≡ a
then_equal Less = refl
then_equal Equal = refl
then_equal Greater = refl

-- fields of one length come one after the other
pub append_cmp : (a b x y : List ℕ) → length a ≡ length b → key_cmp (a ++ x) (b ++ y) ≡ ordering_then (key_cmp a b) (key_cmp x y)
append_cmp [] [] x y h = refl
append_cmp [] (b ∷ bs) x y h = absurd (omega (arith, h))
append_cmp (a ∷ more) [] x y h = absurd (omega (arith, h))
append_cmp (a ∷ more) (b ∷ bs) x y h =
    ap (λ (o : Ordering). ordering_then (nat_cmp a b) o) (append_cmp more bs x y (omega (arith, h))) ∙ sym (then_assoc (nat_cmp a b) (key_cmp more bs) (key_cmp x y))

-- ---- numbers

-- the last digit decides where all before it are the same
digit : (m n : ℕ) (o : Ordering) → o ≡ nat_cmp (m / 256) (n / 256) → ordering_then o (nat_cmp (m % 256) (n % 256)) ≡ nat_cmp m n
digit m n o e = nat_cmp_is m n _ (go o (nat_cmp (m % 256) (n % 256)) (ranked (m / 256) (n / 256) o e) (ranked (m % 256) (n % 256) _ refl))
  where
    go : (o p : Ordering) → MatchOrdering o (m / 256 < n / 256) (m / 256 ≡ n / 256) (n / 256 < m / 256) → MatchOrdering p (m % 256 < n % 256) (m % 256 ≡ n % 256) (n % 256 < m % 256)
        → MatchOrdering (ordering_then o p) (m < n) (m ≡ n) (n < m)
    go Less p h k = omega (arith, h)
    go Equal Less h k = omega (arith, h, k)
    go Equal Equal h k = omega (arith, h, k)
    go Equal Greater h k = omega (arith, h, k)
    go Greater p h k = omega (arith, h)

byte_is : (j n : ℕ) → byte_at j n ≡ n / 256 ^ j % 256
byte_is zero n = omega arith
byte_is (suc j) n = refl

-- the digits above some bytes, and then those bytes
above : (j m n : ℕ) → ordering_then (nat_cmp (m / 256 ^ j) (n / 256 ^ j)) (key_cmp (bytes_high_first j m) (bytes_high_first j n)) ≡ nat_cmp m n
above zero m n =
    let one : (x : ℕ) → x / 1 ≡ x = λ x. omega arith in
    then_equal (nat_cmp (m / 1) (n / 1)) ∙ ap₂ nat_cmp (one m) (one n)
above (suc j) m n =
    let up : (x : ℕ) → x / 256 ^ suc j ≡ x / 256 ^ j / 256 = λ x. ap (λ (k : ℕ). x / k) (pow-suc 256 j) ∙ sym (div-div-eq-div-mul x (256 ^ j) 256) in
    let rest = key_cmp (bytes_high_first j m) (bytes_high_first j n) in
    let more = nat_cmp (m / 256 ^ suc j) (n / 256 ^ suc j) in
    ap (λ (o : Ordering). ordering_then more (ordering_then o rest)) (ap₂ nat_cmp (byte_is j m) (byte_is j n))
    ∙ sym (then_assoc more (nat_cmp (m / 256 ^ j % 256) (n / 256 ^ j % 256)) rest)
    ∙ ap (λ (o : Ordering). ordering_then o rest) (digit (m / 256 ^ j) (n / 256 ^ j) _ (ap₂ nat_cmp (up m) (up n)))
    ∙ above j m n

-- numbers of eight bytes
pub eight_cmp : (m n : ℕ) → m < 2 ^ 64 → n < 2 ^ 64 → key_cmp (eight_bytes m) (eight_bytes n) ≡ nat_cmp m n
unfolding eight_bytes
eight_cmp m n small below =
    let high : (x : ℕ) → x < 2 ^ 64 → x / 256 ^ 8 ≡ 0 = λ x h. omega (arith, h) in
    sym (ap (λ (o : Ordering). ordering_then o (key_cmp (eight_bytes m) (eight_bytes n))) (ap₂ nat_cmp (high m small) (high n below))) ∙ above 8 m n

-- ---- fields

-- what is read of a key first decides
two_cmp : (a b x y : List ℕ) (o : Ordering) → length a ≡ length b → key_cmp x y ≡ o → key_cmp (a ++ x) (b ++ y) ≡ ordering_then (key_cmp a b) o
two_cmp a b x y o same later = append_cmp a b x y same ∙ ap (ordering_then (key_cmp a b)) later

-- users' addresses are of one length
users_cmp : (a b x y : List ℕ) (o : Ordering) → IsUser a → IsUser b → key_cmp x y ≡ o → key_cmp (a ++ x) (b ++ y) ≡ ordering_then (key_cmp a b) o
users_cmp a b x y o one two later = two_cmp a b x y o (one.0.0 ∙ sym two.0.0) later

-- the bytes of two periods
period_cmp : (m n : ℕ) (x y : List ℕ) (o : Ordering) → IsShort m → IsShort n → key_cmp x y ≡ o → key_cmp (eight_bytes m ++ x) (eight_bytes n ++ y) ≡ ordering_then (nat_cmp m n) o
unfolding eight_bytes
period_cmp m n x y o small below later = two_cmp (eight_bytes m) (eight_bytes n) x y o refl later ∙ ap (λ (p : Ordering). ordering_then p o) (eight_cmp m n small below)

-- the fields of keys of one kind
fields_order : (i j : Item) → HasRow i → HasRow j → kind_in i ≡ kind_in j → key_cmp (key_fields i) (key_fields j) ≡ fields_cmp i j
fields_order (item.Balance a d m) (item.Balance b e n) h k same = two_cmp (account_bytes a) (account_bytes b) (denom_bytes d) (denom_bytes e) _ ((twenty a h.1.0).0 ∙ sym (twenty b k.1.0).0) refl
fields_order (item.Redelegation d o p s) (item.Redelegation e q r t) h k same = users_cmp d e (o ++ p) (q ++ r) _ h.1.0 k.1.0 (append_cmp o q p r (h.1.1.0.0 ∙ sym k.1.1.0.0))
fields_order (item.Delegation o d s) (item.Delegation p e t) h k same = append_cmp o p d e (h.1.0.0.0 ∙ sym k.1.0.0.0)
fields_order (item.Unbonding o d s) (item.Unbonding p e t) h k same = append_cmp o p d e (h.1.0.0.0 ∙ sym k.1.0.0.0)
fields_order (item.Start o d s) (item.Start p e t) h k same = append_cmp o p d e (h.1.0.0.0 ∙ sym k.1.0.0.0)
fields_order (item.Historical o m s) (item.Historical p n t) h k same = users_cmp o p (eight_bytes m) (eight_bytes n) _ h.1.0 k.1.0 (eight_cmp m n h.1.1 k.1.1)
fields_order (item.Event o s) (item.Event p t) h k same = users_cmp o p (eight_bytes s.height ++ eight_bytes s.period) (eight_bytes t.height ++ eight_bytes t.period) _ h.1.0 k.1.0 (period_cmp s.height t.height (eight_bytes s.period) (eight_bytes t.period) _ h.1.1.0 k.1.1.0 (eight_cmp s.period t.period h.1.1.1 k.1.1.1))
fields_order (item.Head m s) (item.Head n t) h k same = refl
fields_order (item.Parameters s) (item.Parameters t) h k same = refl
fields_order (item.Supply d m) (item.Supply e n) h k same = refl
fields_order (item.Validator u) (item.Validator v) h k same = refl
fields_order (item.Signing c s x) (item.Signing d t y) h k same = refl
fields_order (item.Purse o s) (item.Purse p t) h k same = refl
fields_order (item.Pool s) (item.Pool t) h k same = refl
fields_order (item.Withdraw d s) (item.Withdraw e t) h k same = refl
fields_order (item.CurrentPeriod o s) (item.CurrentPeriod p t) h k same = refl
fields_order _ _ h k same = absurd cc

-- the whole keys: another kind decides alone
pub keys_order : (i j : Item) → HasRow i → HasRow j → key_cmp (key_bytes i) (key_bytes j) ≡ item_cmp i j
keys_order i j h k = go (nat_cmp (prefix_of (kind_in i)) (prefix_of (kind_in j))) refl
  where
    rest : key_cmp (key_bytes i) (key_bytes j) ≡ ordering_then (nat_cmp (prefix_of (kind_in i)) (prefix_of (kind_in j))) (key_cmp (key_fields i) (key_fields j))
    rest = refl

    go : (o : Ordering) → o ≡ nat_cmp (prefix_of (kind_in i)) (prefix_of (kind_in j)) → key_cmp (key_bytes i) (key_bytes j) ≡ item_cmp i j
    go Less e = ap (λ (p : Ordering). ordering_then p (key_cmp (key_fields i) (key_fields j))) (sym e) ∙ ap (λ (p : Ordering). ordering_then p (fields_cmp i j)) e
    go Equal e = ap (ordering_then (nat_cmp (prefix_of (kind_in i)) (prefix_of (kind_in j)))) (fields_order i j h k (same_kind (kind_in i) (kind_in j) (ranked (prefix_of (kind_in i)) (prefix_of (kind_in j)) Equal e)))
    go Greater e = ap (λ (p : Ordering). ordering_then p (key_cmp (key_fields i) (key_fields j))) (sym e) ∙ ap (λ (p : Ordering). ordering_then p (fields_cmp i j)) e
