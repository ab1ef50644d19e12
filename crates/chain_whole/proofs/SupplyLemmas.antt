-- Supplies that grow by the coins of a genesis.
use Rattle.std.proofs.Common.{◌≡◌, ◌∙◌, ℕ, ◌+◌, ◌^◌, ◌≤◌, ◌<◌, Bool, true, false, cond, nat_lt, List, [], ◌∷◌, drop, length, get_or, Option, Some, None, refl, sym, ap, subst, arith, rules, ◌||◌, unwrap_or, slice_get, IsSome, option_map}
use Rattle.std.specs.{List.Sorted.IsStrictlySortedBy, Map.{keys_of, lookup}, BTreeMap.is_at}
use Rattle.std.proofs.lemmas.Bool.Decides.{nat_tests}
use Rattle.std.proofs.lemmas.Option.{slice_get_within, get_or_from_slice_get, slice_get-get_or}
use Rattle.std.proofs.lemmas.{Map.Text.is_eq-slice_cmp, Slice.Eq.bytes_eq-Decides}
use Rattle.base_types.specs.Orders.{denom_cmp}
use Rattle.base_coins.{specs.Coins.{Money, amount_of, with_amount}, proofs.Order.{above_keys, amount-above}}
use Rattle.base_roles.proofs.{EntryLemmas.{number-after, ascend-after}, HoldingLemmas.denom_total}
use Rattle.base_messages.specs.declared.genesis.GenesisAccount.{GenesisAccount}
use Rattle.rule_machine.specs.Genesis.{coins_joined, supplies_with, has_too_much}
use Rattle.chain_whole.{specs.Supplies.{IsLow, IsHigh}, proofs.PlaceLemmas.{next, drop_end}}

abbrev pub Ascend : Money → Type 0
Ascend s = IsStrictlySortedBy denom_cmp (keys_of s)

same_amount : (s : Money) (e d : List ℕ) → is_at (denom_cmp e) d ≡ true → amount_of s e ≡ amount_of s d
same_amount s e d p = ap (λ x. amount_of s x) ((bytes_eq-Decides e d).0 (sym (is_eq-slice_cmp e d) ∙ p))

pub same_denom : (d : List ℕ) → is_at (denom_cmp d) d ≡ true
same_denom d = is_eq-slice_cmp d d ∙ (bytes_eq-Decides d d).1 refl

-- ---- one coin

abbrev pub joined : Money → List ℕ → ℕ → Money
joined s d n = with_amount s d (amount_of s d + n)

pub amount-joined : (s : Money) (d : List ℕ) (n : ℕ) (e : List ℕ) → Ascend s → amount_of (joined s d n) e ≡ cond (is_at (denom_cmp e) d) (amount_of s d + n) (amount_of s e)
amount-joined s d n e a = number-after denom_cmp denom_total s d e (amount_of s d + n) a

pub ascend-joined : (s : Money) (d : List ℕ) (n : ℕ) → Ascend s → Ascend (joined s d n)
ascend-joined s d n a = ascend-after denom_cmp denom_total s d (amount_of s d + n) a

more_if : (b : Bool) (e d n : ℕ) → (b ≡ true → e ≡ d) → e ≤ cond b (d + n) e
more_if true e d n same = let k : e ≡ d = same refl in omega (arith, k)
more_if false e d n same = omega arith

grows_by : (s : Money) (d : List ℕ) (n : ℕ) (e : List ℕ) → Ascend s → amount_of s e ≤ amount_of (joined s d n) e
grows_by s d n e a = subst (λ t. amount_of s e ≤ t) (sym (amount-joined s d n e a)) (more_if (is_at (denom_cmp e) d) (amount_of s e) (amount_of s d) n (same_amount s e d))

most_if : (b : Bool) (m n : ℕ) → m ≤ 10 ^ 18 → n ≤ 10 ^ 18 → cond b m n ≤ 10 ^ 18
most_if true m n p q = p
most_if false m n p q = q

pub ascend-nil : Ascend []
unfolding IsStrictlySortedBy
ascend-nil = tt

pub low-nil : IsLow []
unfolding IsStrictlySortedBy
low-nil = record { ascend = tt; most = λ d. omega arith }

-- a coin that fits joins
pub low_joined : (s : Money) (d : List ℕ) (n : ℕ) → IsLow s → amount_of s d + n ≤ 10 ^ 18 → IsLow (with_amount s d (amount_of s d + n))
low_joined s d n low le = record {
  ascend = ascend-joined s d n low.ascend;
  most = λ e. subst (λ t. t ≤ 10 ^ 18) (sym (amount-joined s d n e low.ascend)) (most_if (is_at (denom_cmp e) d) (amount_of s d + n) (amount_of s e) le (low.most e));
}

-- ---- lists of coins

pub ascend_all : (coins s : Money) → Ascend s → Ascend (coins_joined coins s)
ascend_all [] s a = a
ascend_all (c ∷ cs) s a = ascend_all cs (joined s c.0 c.1) (ascend-joined s c.0 c.1 a)

pub grows : (coins s : Money) (e : List ℕ) → Ascend s → amount_of s e ≤ amount_of (coins_joined coins s) e
grows [] s e a = omega arith
grows (c ∷ cs) s e a =
    let one : amount_of s e ≤ amount_of (joined s c.0 c.1) e = grows_by s c.0 c.1 e a in
    let all : amount_of (joined s c.0 c.1) e ≤ amount_of (coins_joined cs (joined s c.0 c.1)) e = grows cs (joined s c.0 c.1) e (ascend-joined s c.0 c.1 a) in
    omega (arith, one, all)

pub at_same : (b : Bool) → b ≡ true → (m t : ℕ) → cond b m t ≡ m
at_same true e m t = refl
at_same false e m t = absurd cc

-- with a coin that does not fit there is too much in the end
pub high_joined : (cs s : Money) (d : List ℕ) (n : ℕ) → IsLow s → 10 ^ 18 < amount_of s d + n → IsHigh (coins_joined cs (with_amount s d (amount_of s d + n)))
high_joined cs s d n low lt =
    let here : amount_of (joined s d n) d ≡ amount_of s d + n = amount-joined s d n d low.ascend ∙ at_same (is_at (denom_cmp d) d) (same_denom d) (amount_of s d + n) (amount_of s d) in
    let all : amount_of (joined s d n) d ≤ amount_of (coins_joined cs (joined s d n)) d = grows cs (joined s d n) d (ascend-joined s d n low.ascend) in
    (d, omega (arith, here, all, lt))

-- the coins before this place have joined
pub record JoinedSoFar (coins : Money) (place : ℕ) (s0 s : Money) : Type 0 where
  pub low : IsLow s
  pub rest : coins_joined (drop place coins) s ≡ coins_joined coins s0

next_coin : (coins : Money) (place : ℕ) (c : List ℕ × ℕ) → Some c ≡ slice_get coins place → drop place coins ≡ c ∷ drop (place + 1) coins
next_coin coins place c is = next coins place c (slice_get_within coins place c (sym is)) (sym (get_or_from_slice_get coins place c c (sym is)))

pub joined_next : (coins : Money) (place : ℕ) (c : List ℕ × ℕ) (s0 s s2 : Money) → JoinedSoFar coins place s0 s → Some c ≡ slice_get coins place
    → s2 ≡ with_amount s c.0 (amount_of s c.0 + c.1) → amount_of s c.0 + c.1 ≤ 10 ^ 18 → JoinedSoFar coins (place + 1) s0 s2
joined_next coins place c s0 s s2 so is same le = record {
  low = subst IsLow (sym same) (low_joined s c.0 c.1 so.low le);
  rest = ap (coins_joined (drop (place + 1) coins)) same ∙ sym (ap (λ l. coins_joined l s) (next_coin coins place c is)) ∙ so.rest;
}

pub joined_over : (coins : Money) (place : ℕ) (c : List ℕ × ℕ) (s0 s : Money) → JoinedSoFar coins place s0 s → Some c ≡ slice_get coins place → 10 ^ 18 < amount_of s c.0 + c.1 → IsHigh (coins_joined coins s0)
joined_over coins place c s0 s so is lt = subst IsHigh (sym (ap (λ l. coins_joined l s) (next_coin coins place c is)) ∙ so.rest) (high_joined (drop (place + 1) coins) s c.0 c.1 so.low lt)

pub joined_all : (coins : Money) (place : ℕ) (s0 s : Money) → place ≤ length coins → length coins ≤ place → JoinedSoFar coins place s0 s → s ≡ coins_joined coins s0
joined_all coins place s0 s most least so = sym (ap (λ l. coins_joined l s) (drop_end coins place most least)) ∙ so.rest

-- ---- accounts

pub ascend_accounts : (accounts : List GenesisAccount) (s : Money) → Ascend s → Ascend (supplies_with accounts s)
ascend_accounts [] s a = a
ascend_accounts (x ∷ accounts) s a = ascend_accounts accounts (coins_joined x.coins s) (ascend_all x.coins s a)

grows_all : (accounts : List GenesisAccount) (s : Money) (e : List ℕ) → Ascend s → amount_of s e ≤ amount_of (supplies_with accounts s) e
grows_all [] s e a = omega arith
grows_all (x ∷ accounts) s e a =
    let one : amount_of s e ≤ amount_of (coins_joined x.coins s) e = grows x.coins s e a in
    let all : amount_of (coins_joined x.coins s) e ≤ amount_of (supplies_with accounts (coins_joined x.coins s)) e = grows_all accounts (coins_joined x.coins s) e (ascend_all x.coins s a) in
    omega (arith, one, all)

-- the coins of the accounts before this place have joined
pub record HeldSoFar (accounts : List GenesisAccount) (place : ℕ) (s : Money) : Type 0 where
  pub low : IsLow s
  pub rest : supplies_with (drop place accounts) s ≡ supplies_with accounts []

pub held_first : (accounts : List GenesisAccount) → HeldSoFar accounts 0 []
held_first accounts = record { low = low-nil; rest = refl }

next_held : (accounts : List GenesisAccount) (place : ℕ) (a : GenesisAccount) (s : Money) → place < length accounts → a ≡ get_or accounts place a → HeldSoFar accounts place s
    → supplies_with (drop (place + 1) accounts) (coins_joined a.coins s) ≡ supplies_with accounts []
next_held accounts place a s lt is so = sym (ap (λ l. supplies_with l s) (next accounts place a lt is)) ∙ so.rest

pub held_over : (accounts : List GenesisAccount) (place : ℕ) (a : GenesisAccount) (s : Money) → place < length accounts → a ≡ get_or accounts place a → HeldSoFar accounts place s
    → IsHigh (coins_joined a.coins s) → IsHigh (supplies_with accounts [])
held_over accounts place a s lt is so high =
    let all : amount_of (coins_joined a.coins s) high.0 ≤ amount_of (supplies_with (drop (place + 1) accounts) (coins_joined a.coins s)) high.0 = grows_all (drop (place + 1) accounts) (coins_joined a.coins s) high.0 (ascend_all a.coins s so.low.ascend) in
    let more : 10 ^ 18 < amount_of (coins_joined a.coins s) high.0 = high.1 in
    subst IsHigh (next_held accounts place a s lt is so) (high.0, omega (arith, all, more))

pub held_all : (accounts : List GenesisAccount) (place : ℕ) (s : Money) → place ≤ length accounts → length accounts ≤ place → HeldSoFar accounts place s → s ≡ supplies_with accounts []
held_all accounts place s most least so = sym (ap (λ l. supplies_with l s) (drop_end accounts place most least)) ∙ so.rest

-- ---- the test of supplies

too_much_by : (at : Bool) (n : ℕ) (rest : Option ℕ) (later : Bool) → (10 ^ 18 < unwrap_or rest 0 → later ≡ true) → 10 ^ 18 < unwrap_or (cond at (Some n) rest) 0 → (nat_lt (10 ^ 18) n || later) ≡ true
too_much_by true n rest later h lt = grind (arith, nat_tests)
too_much_by false n rest later h lt = let k : later ≡ true = h lt in rw k (or-true (nat_lt (10 ^ 18) n))
  where
    or-true : (b : Bool) → (b || true) ≡ true
    or-true true = refl
    or-true false = refl

-- too much of a denomination is found
pub too_much : (s : Money) → IsHigh s → has_too_much s ≡ true
too_much [] h = absurd (none h.1)
  where
    none : 10 ^ 18 < 0 → ⊥
    none lt = omega (arith, lt)
too_much (c ∷ cs) h = too_much_by (is_at (denom_cmp h.0) c.0) c.1 (lookup (is_at (denom_cmp h.0)) cs) (has_too_much cs) (λ lt. too_much cs (h.0, lt)) h.1

enough_by : (n : ℕ) (later : Bool) → n ≤ 10 ^ 18 → later ≡ false → (nat_lt (10 ^ 18) n || later) ≡ false
enough_by n later le e = grind (arith, nat_tests)

first_most : (b : Bool) (n : ℕ) (rest : Option ℕ) → b ≡ true → unwrap_or (cond b (Some n) rest) 0 ≤ 10 ^ 18 → n ≤ 10 ^ 18
first_most true n rest e le = le
first_most false n rest e le = absurd cc

rest_most : (b : Bool) (n : ℕ) (rest : Option ℕ) → (b ≡ true → unwrap_or rest 0 ≡ 0) → unwrap_or (cond b (Some n) rest) 0 ≤ 10 ^ 18 → unwrap_or rest 0 ≤ 10 ^ 18
rest_most true n rest z le = let e : unwrap_or rest 0 ≡ 0 = z refl in omega (arith, e)
rest_most false n rest z le = le

rest_low : (c : List ℕ × ℕ) (cs : Money) → IsLow (c ∷ cs) → IsLow cs
unfolding IsStrictlySortedBy
rest_low c cs low = record {
  ascend = low.ascend.1;
  most = λ d. rest_most (is_at (denom_cmp d) c.0) c.1 (lookup (is_at (denom_cmp d)) cs)
      (λ p. ap (λ x. amount_of cs x) ((bytes_eq-Decides d c.0).0 (sym (is_eq-slice_cmp d c.0) ∙ p)) ∙ amount-above c.0 cs (above_keys c.0 cs low.ascend.0)) (low.most d);
}

-- where there is not too much of any, none is found
pub not_too_much : (s : Money) → IsLow s → has_too_much s ≡ false
not_too_much [] low = refl
not_too_much (c ∷ cs) low = enough_by c.1 (has_too_much cs) (first_most (is_at (denom_cmp c.0) c.0) c.1 (lookup (is_at (denom_cmp c.0)) cs) (same_denom c.0) (low.most c.0)) (not_too_much cs (rest_low c cs low))

-- a place below the length has something
pub some_at : {A B : Type 0} (f : A → B) (o : Option A) (xs : List B) (i : ℕ) → i < length xs → option_map f o ≡ slice_get xs i → IsSome o
some_at f (Some x) xs i lt e = search rules
some_at f None [] i lt e = absurd (omega arith)
some_at f None (x ∷ xs) i lt e = let there : slice_get (x ∷ xs) i ≡ Some (get_or (x ∷ xs) i x) = slice_get-get_or (x ∷ xs) i x lt in absurd cc
