-- What an allocation adds to the sums, amount by amount.
use Rattle.std.proofs.Common.{◌≡◌, ℕ, ◌+◌, ◌*◌, ◌^◌, ◌<◌, ◌==◌, Bool, true, false, List, [], ◌∷◌, refl, sym, ap, ◌∙◌, subst, arith, Ok, if◌then◌else◌, nat_lt, ltb-true}
use Rattle.std.{specs.BTreeMap.is_at, proofs.lemmas.Bool.Decides.nat_tests}
use Rattle.base_decimals.specs.{declared.over.Over.Over, Decimals.below, Rounding.{cut, up}}
use Rattle.base_types.specs.Orders.{denom_cmp}
use Rattle.base_coins.specs.{Steps.{◌>>=◌}, Coins.{Money, amount_of, coin_then}}
use Rattle.base_coins.proofs.Order.{Rises, same_name, amount-above, amount-first}
use Rattle.base_coins.proofs.Amounts.{ok, over, same_ok, err_not_ok, bind_ok, itself, is_equal, amount-first_other, rises_added, amount-added}
use Rattle.mod_statement.specs.{declared.sums.Sums.Sums, Rounding.{quotient_cut_of, quotient_up_of}}
use Rattle.mod_statement.specs.Sums.{more_of, coin_shared, coins_shared}

-- ---- what is below the limit is itself

below_test : (t : Bool) (o : Over) (n m : ℕ) → (t ≡ true → n < 10 ^ 38) → (if t then ok n else over o) ≡ ok m → (m ≡ n) × (m < 10 ^ 38)
below_test true o n m l h = let e : m ≡ n = sym (same_ok h) in (e, subst (λ k. k < 10 ^ 38) (sym e) (l refl))
below_test false o n m l h = absurd (err_not_ok h)

pub below_is : (o : Over) (n m : ℕ) → below o n ≡ Ok m → (m ≡ n) × (m < 10 ^ 38)
below_is o n m h = below_test (nat_lt n (10 ^ 38)) o n m (ltb-true n (10 ^ 38)) h

-- ---- one coin more

positive : (n : ℕ) → (n == 0) ≡ false → 0 < n
positive n h = grind (arith, nat_tests)

zero_if : (n : ℕ) → (n == 0) ≡ true → n ≡ 0
zero_if n h = grind (arith, nat_tests)

single_rises_test : (t : Bool) (d : List ℕ) (n : ℕ) → (t ≡ false → 0 < n) → n < 10 ^ 38 → Rises (if t then [] else (d, n) ∷ [])
single_rises_test true d n p b = tt
single_rises_test false d n p b = (tt, p refl, b, tt)

single_rises : (d : List ℕ) (n : ℕ) → n < 10 ^ 38 → Rises (coin_then d n [])
single_rises d n b = single_rises_test (n == 0) d n (positive n) b

single_here_test : (t : Bool) (d : List ℕ) (n : ℕ) → (t ≡ true → n ≡ 0) → amount_of (if t then [] else (d, n) ∷ []) d ≡ n
single_here_test true d n z = sym (z refl)
single_here_test false d n z = amount-first d (d, n) [] (itself d)

single_here : (d : List ℕ) (n : ℕ) → amount_of (coin_then d n []) d ≡ n
single_here d n = single_here_test (n == 0) d n (zero_if n)

single_other : (d q : List ℕ) (n : ℕ) → is_at (denom_cmp q) d ≡ false → amount_of (coin_then d n []) q ≡ 0
single_other d q n other =
    elim (n == 0) as (λ t. amount_of (if t then [] else (d, n) ∷ []) q ≡ 0) [ true ↦ refl | false ↦ amount-first_other q (d, n) [] other ]

-- ---- coins, one after another, each by a function

-- a sum that becomes another with what a function gives of each coin
abbrev pub Adds : (ℕ → ℕ) → Money → Money → Money → Type 0
Adds f x [] z = x ≡ z
Adds f x (c ∷ cs) z = (y : Money) × (more_of x c.0 (f c.1) ≡ Ok y) × (f c.1 < 10 ^ 38) × Adds f y cs z

pub adds_rises : (f : ℕ → ℕ) (x z coins : Money) → Rises x → Adds f x coins z → Rises z
adds_rises f x z [] r h = subst Rises h r
adds_rises f x z (c ∷ cs) r (y, e, b, h) = adds_rises f y z cs (rises_added x (coin_then c.0 (f c.1) []) y r e) h

here_sum : (x y first rest single z : ℕ) → y ≡ x + single → z ≡ y + rest → rest ≡ 0 → single ≡ first → z ≡ x + first
here_sum x y first rest single z a b c d = omega arith

there_sum : (x y first rest single z : ℕ) → y ≡ x + single → z ≡ y + rest → single ≡ 0 → first ≡ rest → z ≡ x + first
there_sum x y first rest single z a b c d = omega arith

adds_test : (t : Bool) (f : ℕ → ℕ) → f 0 ≡ 0 → (x y z : Money) (c : List ℕ × ℕ) (cs : Money) (q : List ℕ) → is_at (denom_cmp q) c.0 ≡ t → Rises (c ∷ cs)
    → amount_of y q ≡ amount_of x q + amount_of (coin_then c.0 (f c.1) []) q
    → amount_of z q ≡ amount_of y q + f (amount_of cs q)
    → amount_of z q ≡ amount_of x q + f (amount_of (c ∷ cs) q)
adds_test true f zero_is x y z c cs q h r first later =
    let same : q ≡ c.0 = same_name q c.0 (is_equal q c.0 h) in
    let none : amount_of cs q ≡ 0 = subst (λ k. amount_of cs k ≡ 0) (sym same) (amount-above c.0 cs r.0) in
    let whole : amount_of (c ∷ cs) q ≡ c.1 = amount-first q c cs (is_equal q c.0 h) in
    let single : amount_of (coin_then c.0 (f c.1) []) q ≡ f c.1 = subst (λ k. amount_of (coin_then c.0 (f c.1) []) k ≡ f c.1) (sym same) (single_here c.0 (f c.1)) in
    here_sum (amount_of x q) (amount_of y q) (f (amount_of (c ∷ cs) q)) (f (amount_of cs q)) (amount_of (coin_then c.0 (f c.1) []) q) (amount_of z q)
    first later (ap f none ∙ zero_is) (single ∙ ap f (sym whole))
adds_test false f zero_is x y z c cs q h r first later =
    there_sum (amount_of x q) (amount_of y q) (f (amount_of (c ∷ cs) q)) (f (amount_of cs q)) (amount_of (coin_then c.0 (f c.1) []) q) (amount_of z q)
    first later (single_other c.0 q (f c.1) h) (ap f (amount-first_other q c cs h))

pub adds_amount : (f : ℕ → ℕ) → f 0 ≡ 0 → (x z coins : Money) (q : List ℕ) → Rises x → Rises coins → Adds f x coins z
    → amount_of z q ≡ amount_of x q + f (amount_of coins q)
adds_amount f zero_is x z [] q r m h = ap (λ l. amount_of l q) (sym h) ∙ omega (arith, zero_is)
adds_amount f zero_is x z (c ∷ cs) q r m (y, e, b, h) =
    adds_test (is_at (denom_cmp q) c.0) f zero_is x y z c cs q refl m
    (amount-added x (coin_then c.0 (f c.1) []) y q r (single_rises c.0 (f c.1) b) e)
    (adds_amount f zero_is y z cs q (rises_added x (coin_then c.0 (f c.1) []) y r e) m.3 h)

-- ---- an allocation

abbrev pub least_of : ℕ → ℕ → ℕ → ℕ
least_of stake tokens n = cut (n * stake) (tokens * 10 ^ 18)

abbrev pub most_of : ℕ → ℕ → ℕ → ℕ
most_of stake tokens n = up (n * stake) (tokens * 10 ^ 18)

-- the parts of a step that is not over
pub record CoinStep (tokens : ℕ) (s : Sums) (c : List ℕ × ℕ) (next : Sums) : Type 0 where
  pub stakes_are : next.stakes ≡ s.stakes
  pub least_fits : least_of s.stakes.lower tokens c.1 < 10 ^ 38
  pub most_fits : most_of s.stakes.upper tokens c.1 < 10 ^ 38
  pub low : more_of s.low c.0 (least_of s.stakes.lower tokens c.1) ≡ Ok next.low
  pub high : more_of s.high c.0 (most_of s.stakes.upper tokens c.1) ≡ Ok next.high

coin_step : (tokens : ℕ) (s next : Sums) (c : List ℕ × ℕ) → coin_shared tokens s c ≡ Ok next → CoinStep tokens s c next
coin_step tokens s next c h =
    let (least, least_is, h1) = bind_ok (quotient_cut_of c.1 s.stakes.lower (tokens * 10 ^ 18))
    (λ least. more_of s.low c.0 least >>= λ low. quotient_up_of c.1 s.stakes.upper (tokens * 10 ^ 18) >>= λ most. more_of s.high c.0 most >>= λ high. let r : Sums = record { stakes = s.stakes; low = low; high = high } in ok r) next h in
    let (low, low_is, h2) = bind_ok (more_of s.low c.0 least)
    (λ low. quotient_up_of c.1 s.stakes.upper (tokens * 10 ^ 18) >>= λ most. more_of s.high c.0 most >>= λ high. let r : Sums = record { stakes = s.stakes; low = low; high = high } in ok r) next h1 in
    let (most, most_is, h3) = bind_ok (quotient_up_of c.1 s.stakes.upper (tokens * 10 ^ 18))
    (λ most. more_of s.high c.0 most >>= λ high. let r : Sums = record { stakes = s.stakes; low = low; high = high } in ok r) next h2 in
    let (high, high_is, h4) = bind_ok (more_of s.high c.0 most) (λ high. let r : Sums = record { stakes = s.stakes; low = low; high = high } in ok r) next h3 in
    let made : Sums = record { stakes = s.stakes; low = low; high = high } in
    let is : made ≡ next = same_ok {x = made} h4 in
    let l = below_is _ (least_of s.stakes.lower tokens c.1) least least_is in
    let m = below_is _ (most_of s.stakes.upper tokens c.1) most most_is in
    subst (λ n. CoinStep tokens s c n) is (record {
      stakes_are = refl;
      least_fits = subst (λ k. k < 10 ^ 38) l.0 l.1;
      most_fits = subst (λ k. k < 10 ^ 38) m.0 m.1;
      low = subst (λ k. more_of s.low c.0 k ≡ Ok low) l.0 low_is;
      high = subst (λ k. more_of s.high c.0 k ≡ Ok high) m.0 high_is;
    })

-- an allocation adds to both sums, by the stakes of its place
pub record Shares (tokens : ℕ) (s : Sums) (coins : Money) (next : Sums) : Type 0 where
  pub stakes_are : next.stakes ≡ s.stakes
  pub low : Adds (least_of s.stakes.lower tokens) s.low coins next.low
  pub high : Adds (most_of s.stakes.upper tokens) s.high coins next.high

with_first : (tokens : ℕ) (s between next : Sums) (c : List ℕ × ℕ) (cs : Money) → CoinStep tokens s c between → Shares tokens between cs next → Shares tokens s (c ∷ cs) next
with_first tokens s between next c cs first later = record {
  stakes_are = later.stakes_are ∙ first.stakes_are;
  low = (between.low, first.low, first.least_fits, subst (λ k. Adds (least_of k.lower tokens) between.low cs next.low) first.stakes_are later.low);
  high = (between.high, first.high, first.most_fits, subst (λ k. Adds (most_of k.upper tokens) between.high cs next.high) first.stakes_are later.high);
}

pub shares_of : (tokens : ℕ) (s next : Sums) (coins : Money) → coins_shared tokens s coins ≡ Ok next → Shares tokens s coins next
shares_of tokens s next [] h =
    let is : s ≡ next = same_ok h in
    record { stakes_are = ap (λ n. n.stakes) (sym is); low = ap (λ n. n.low) is; high = ap (λ n. n.high) is }
shares_of tokens s next (c ∷ cs) h =
    let (between, first, later) = bind_ok (coin_shared tokens s c) (λ n. coins_shared tokens n cs) next h in
    with_first tokens s between next c cs (coin_step tokens s between c first) (shares_of tokens between next cs later)
