-- Coins that move one after another, and what fits while they do.
use Rattle.std.proofs.Common.{◌≡◌, ◌∙◌, ℕ, ◌+◌, ◌-◌, ◌*◌, ◌^◌, ◌≤◌, ◌<◌, Bool, true, false, cond, List, [], ◌∷◌, Some, length, drop, refl, sym, ap, subst, arith, add-one, zero, suc, slice_get, nat_lt, ◌||◌, ◌==◌, Result, Ok, Err, OnOk, OnErr}
use Rattle.std.{specs.{Prelude.⊤, BTreeMap.is_at}, proofs.{Math.ListN.drop_of_length-le, lemmas.Bool.Decides.nat_tests}}
use Rattle.base_types.specs.declared.account.Account.{Account}
use Rattle.base_coins.{specs.Coins.{Money, IsMoney}, proofs.Order.{Rises, rises_from_money}}
use Rattle.base_roles.specs.Holdings.{Holdings, balance_of, supply_of, total_of, with_balance, coin_moved, moved, is_short, coin_burned, IsBacked}
use Rattle.base_roles.specs.Orders.{place_cmp}
use Rattle.base_roles.proofs.HoldingLemmas.{balance-changed, balance-most, balance-within, backed-coin_moved, backed-moved, backed-burned, first_enough, rest_enough, still_enough}
use Rattle.mod_bank.specs.Booked.{Booked, holding, spent_now}

-- ---- walks by place

drop-here : {A : Type 0} (xs : List A) (i : ℕ) (x : A) → slice_get xs i ≡ Some x → drop i xs ≡ x ∷ drop (suc i) xs
drop-here [] i x e = absurd cc
drop-here (y ∷ xs) zero x e = let same : y ≡ x = cc in ap (λ z. z ∷ xs) same
drop-here (y ∷ xs) (suc i) x e = drop-here xs i x e

-- what is left at a place begins with what stands there
pub drop-at : {A : Type 0} (xs : List A) (i : ℕ) (x : A) → slice_get xs i ≡ Some x → drop i xs ≡ x ∷ drop (i + 1) xs
drop-at xs i x e = drop-here xs i x e ∙ ap (λ n. x ∷ drop n xs) (sym (add-one i))

-- ---- whether one is short

pub short-here : (h : Holdings) (who : Account) (c : List ℕ × ℕ) (cs : Money) → balance_of h who c.0 < c.1 → is_short h who (c ∷ cs) ≡ true
short-here h who c cs lt = by (balance_of h who c.0) c.1 (is_short h who cs) lt
  where
    by : (a n : ℕ) (b : Bool) → a < n → (nat_lt a n || b) ≡ true
    by a n b p = grind (arith, nat_tests)

pub short-later : (h : Holdings) (who : Account) (c : List ℕ × ℕ) (cs : Money) → c.1 ≤ balance_of h who c.0 → is_short h who (c ∷ cs) ≡ is_short h who cs
short-later h who c cs le = by (balance_of h who c.0) c.1 (is_short h who cs) le
  where
    by : (a n : ℕ) (b : Bool) → n ≤ a → (nat_lt a n || b) ≡ b
    by a n b p = grind (arith, nat_tests)

pub short-at : (h : Holdings) (who : Account) (coins : Money) (place : ℕ) (c : List ℕ × ℕ) (held : ℕ) → is_short h who coins ≡ is_short h who (drop place coins)
    → slice_get coins place ≡ Some c → held ≡ balance_of h who c.0 → held < c.1 → true ≡ is_short h who coins
short-at h who coins place c held p e b lt =
    sym (p ∙ ap (is_short h who) (drop-at coins place c e) ∙ short-here h who c (drop (place + 1) coins) (subst (λ n. n < c.1) b lt))

pub short-after : (h : Holdings) (who : Account) (coins : Money) (place : ℕ) (c : List ℕ × ℕ) (held : ℕ) → is_short h who coins ≡ is_short h who (drop place coins)
    → slice_get coins place ≡ Some c → held ≡ balance_of h who c.0 → c.1 ≤ held → is_short h who coins ≡ is_short h who (drop (place + 1) coins)
short-after h who coins place c held p e b le =
    p ∙ ap (is_short h who) (drop-at coins place c e) ∙ short-later h who c (drop (place + 1) coins) (subst (λ n. c.1 ≤ n) b le)

-- ---- coins on their way

-- some coins of a list have moved, these are left, and they will end where all do
pub record Moving (from to : Account) (coins : Money) (start here : Booked) (rest : Money) : Type 0 where
  pub same : here ≡ holding here.holdings start
  pub moves : moved from to rest here.holdings ≡ moved from to coins start.holdings
  pub backed : IsBacked here.holdings
  pub enough : is_short here.holdings from rest ≡ false
  pub rises : Rises rest

module _ (from to : Account) (coins : Money) (start : Booked) where
  pub moving-start : IsBacked start.holdings → IsMoney coins → is_short start.holdings from coins ≡ false → Moving from to coins start start coins
  moving-start b m e = record { same = refl; moves = refl; backed = b; enough = e; rises = rises_from_money coins m }

  pub moving-next : (here next : Booked) (c : List ℕ × ℕ) (rest cs : Money) → rest ≡ c ∷ cs → Moving from to coins start here rest
      → next ≡ holding (coin_moved from to c.0 c.1 here.holdings) here → Moving from to coins start next cs
  moving-next here next c rest cs r m e =
      let moves : moved from to (c ∷ cs) here.holdings ≡ moved from to coins start.holdings = subst (λ l. moved from to l here.holdings ≡ moved from to coins start.holdings) r m.moves in
      let enough : is_short here.holdings from (c ∷ cs) ≡ false = subst (λ l. is_short here.holdings from l ≡ false) r m.enough in
      let rises : Rises (c ∷ cs) = subst Rises r m.rises in
      let le : c.1 ≤ balance_of here.holdings from c.0 = first_enough here.holdings from c cs enough in
      let held : next.holdings ≡ coin_moved from to c.0 c.1 here.holdings = ap (λ b. b.holdings) e in
      record {
        same = e ∙ ap (λ b. holding (coin_moved from to c.0 c.1 here.holdings) b) m.same ∙ ap (λ h. holding h start) (sym held);
        moves = ap (moved from to cs) held ∙ moves;
        backed = subst IsBacked (sym held) (backed-coin_moved here.holdings from to c.0 c.1 m.backed le);
        enough = subst (λ h. is_short h from cs ≡ false) (sym held) (still_enough cs here.holdings from to c.0 c.1 m.backed.balances_ascend rises.0 (rest_enough here.holdings from c cs enough));
        rises = rises.3;
      }

  pub moving-enough : (here : Booked) (c : List ℕ × ℕ) (rest cs : Money) → rest ≡ c ∷ cs → Moving from to coins start here rest → c.1 ≤ balance_of here.holdings from c.0
  moving-enough here c rest cs r m = first_enough here.holdings from c cs (subst (λ l. is_short here.holdings from l ≡ false) r m.enough)

-- ---- what fits

cond_most : (b : Bool) (x y m : ℕ) → x ≤ m → y ≤ m → cond b x y ≤ m
cond_most true x y m p q = p
cond_most false x y m p q = q

-- what a receiver holds while a coin moves
pub there-most : (h : Holdings) (from to : Account) (d : List ℕ) (n : ℕ) → IsBacked h → n ≤ balance_of h from d
    → balance_of (with_balance h from d (balance_of h from d - n)) to d + n ≤ 2 * 10 ^ 18
there-most h from to d n b le =
    let held : balance_of h from d ≤ 10 ^ 18 = balance-most h from d b in
    let less : balance_of h from d - n ≤ 10 ^ 18 = omega (arith, held) in
    let there : balance_of (with_balance h from d (balance_of h from d - n)) to d ≤ 10 ^ 18
    = subst (λ m. m ≤ 10 ^ 18) (sym (balance-changed h from d (balance_of h from d - n) to d b.balances_ascend)) (cond_most (is_at (place_cmp (to, d)) (from, d)) (balance_of h from d - n) (balance_of h to d) (10 ^ 18) less (balance-most h to d b)) in
    omega (arith, held, there, le)

pub there-fits : (h h2 : Holdings) (from to : Account) (d : List ℕ) (n held there : ℕ) → IsBacked h → n ≤ balance_of h from d → held ≡ balance_of h from d
    → h2 ≡ with_balance h from d (held - n) → there ≡ balance_of h2 to d → there + n ≤ 2 * 10 ^ 18
there-fits h h2 from to d n held there b le e f g =
    subst (λ m. m + n ≤ 2 * 10 ^ 18) (sym (g ∙ ap (λ x. balance_of x to d) f ∙ ap (λ m. balance_of (with_balance h from d (m - n)) to d) e)) (there-most h from to d n b le)

-- no balance is above the supply
pub balance-in_supply : (h : Holdings) (who : Account) (d : List ℕ) → IsBacked h → balance_of h who d ≤ supply_of h d
balance-in_supply h who d b =
    let e : supply_of h d ≡ total_of h d = b.backed d in
    let w : balance_of h who d ≤ total_of h d = balance-within h who d in
    omega (arith, e, w)

-- ---- a bank in order stays so, whatever a change answers

module _ {E : Type 0} (old new : Booked) (b : IsBacked old.holdings) where
  pub backed-sent : (r : Result ⊤ E) (from to : Account) (coins : Money) → IsMoney coins → is_short old.holdings from coins ≡ false
      → OnOk r (new ≡ holding (moved from to coins old.holdings) old) → OnErr r (new ≡ spent_now old) → IsBacked new.holdings
  backed-sent (Ok x) from to coins m e ok err = subst (λ h. IsBacked h.holdings) (sym ok) (backed-moved coins old.holdings from to b m e)
  backed-sent (Err x) from to coins m e ok err = subst (λ h. IsBacked h.holdings) (sym err) b

  pub backed-burnt : (r : Result ⊤ E) (from : Account) (d : List ℕ) (n : ℕ) → (n ≡ 0 → ⊥) → n ≤ balance_of old.holdings from d
      → OnOk r (new ≡ holding (coin_burned from d n old.holdings) old) → OnErr r (new ≡ spent_now old) → IsBacked new.holdings
  backed-burnt (Ok x) from d n p le ok err =
      let z : (n == 0) ≡ false = grind (arith, nat_tests) in
      subst (λ h. IsBacked h.holdings) (sym ok) (subst (λ t. IsBacked (cond t old.holdings (coin_burned from d n old.holdings))) z (backed-burned old.holdings from d n b le))
  backed-burnt (Err x) from d n p le ok err = subst (λ h. IsBacked h.holdings) (sym err) b
