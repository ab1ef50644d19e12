-- Amounts that are each at most what a function gives.
use Rattle.std.proofs.Common.{◌≡◌, ℕ, ◌+◌, ◌≤◌, ◌&&◌, Bool, true, false, List, [], ◌∷◌, map, refl, sym, ap, ◌∙◌, subst, arith, nat_le, ◌↔◌, IsTrue, leb-true, le-leb}
use Rattle.std.{specs.{List.list_all, BTreeMap.is_at}, proofs.lemmas.Bool.{and_parts, and_from}}
use Rattle.base_types.specs.Orders.{denom_cmp}
use Rattle.base_coins.specs.{declared.coin.DecCoin.DecCoin, Coins.{Money, IsMoney, amount_of}}
use Rattle.base_coins.proofs.Order.{Rises, same_name, amount-above, amount-first, rises_from_money}
use Rattle.base_coins.proofs.Amounts.{itself, is_equal, amount-first_other, same_list}
use Rattle.mod_statement.specs.{declared.{bounds.Bounds.Bounds, statement.Statement.Statement}, Answers.IsRight}

-- each coin is
abbrev pub are_within : (List ℕ → ℕ) → Money → Bool
are_within f x = list_all (λ c. nat_le c.1 (f c.0)) x

same_le : (m a b : ℕ) → m ≡ a → a ≤ b → m ≤ b
same_le m a b e h = omega arith

within_test : (t : Bool) (f : List ℕ → ℕ) (c : List ℕ × ℕ) (cs : Money) (d : List ℕ) → is_at (denom_cmp d) c.0 ≡ t → c.1 ≤ f c.0 → amount_of cs d ≤ f d
    → amount_of (c ∷ cs) d ≤ f d
within_test true f c cs d h here there =
    let same : d ≡ c.0 = same_name d c.0 (is_equal d c.0 h) in
    subst (λ k. amount_of (c ∷ cs) k ≤ f k) (sym same) (same_le (amount_of (c ∷ cs) c.0) c.1 (f c.0) (amount-first c.0 c cs (itself c.0)) here)
within_test false f c cs d h here there = same_le (amount_of (c ∷ cs) d) (amount_of cs d) (f d) (amount-first_other d c cs h) there

pub within_amounts : (f : List ℕ → ℕ) (x : Money) → are_within f x ≡ true → (d : List ℕ) → amount_of x d ≤ f d
within_amounts f [] h d = omega arith
within_amounts f (c ∷ cs) h d =
    let (here, there) = and_parts (nat_le c.1 (f c.0)) (are_within f cs) h in
    within_test (is_at (denom_cmp d) c.0) f c cs d refl (leb-true c.1 (f c.0) here) (within_amounts f cs there d)

rest_test : (t : Bool) (f : List ℕ → ℕ) (c : List ℕ × ℕ) (cs : Money) (d : List ℕ) → is_at (denom_cmp d) c.0 ≡ t → Rises (c ∷ cs)
    → amount_of (c ∷ cs) d ≤ f d → amount_of cs d ≤ f d
rest_test true f c cs d h r e =
    let same : d ≡ c.0 = same_name d c.0 (is_equal d c.0 h) in
    let none : amount_of cs d ≡ 0 = subst (λ k. amount_of cs k ≡ 0) (sym same) (amount-above c.0 cs r.0) in
    omega arith
rest_test false f c cs d h r e = same_le (amount_of cs d) (amount_of (c ∷ cs) d) (f d) (sym (amount-first_other d c cs h)) e

pub amounts_within : (f : List ℕ → ℕ) (x : Money) → Rises x → ((d : List ℕ) → amount_of x d ≤ f d) → are_within f x ≡ true
amounts_within f [] r h = refl
amounts_within f (c ∷ cs) r h =
    and_from (nat_le c.1 (f c.0)) (are_within f cs)
    (le-leb c.1 (f c.0) (same_le c.1 (amount_of (c ∷ cs) c.0) (f c.0) (sym (amount-first c.0 c cs (itself c.0))) (h c.0)))
    (amounts_within f cs r.3 (λ d. rest_test (is_at (denom_cmp d) c.0) f c cs d refl r (h d)))

pub same_amounts : (x y : Money) → IsMoney x → IsMoney y → ((d : List ℕ) → amount_of x d ≤ amount_of y d) → ((d : List ℕ) → amount_of y d ≤ amount_of x d) → x ≡ y
same_amounts x y m n up down = same_list x y (rises_from_money x m) (rises_from_money y n) (λ d. omega (arith, up d, down d))

-- ---- what a test of each coin of a list answers

agrees : (f : List ℕ → ℕ) (xs : List DecCoin) → list_all (λ c. nat_le c.amount (f c.denom)) xs ≡ are_within f (map (λ c. (c.denom, c.amount)) xs)
agrees f [] = refl
agrees f (x ∷ xs) = ap (λ t. nat_le x.amount (f x.denom) && t) (agrees f xs)

pub answers : (f : List ℕ → ℕ) (xs : List DecCoin) (x : Money) (r : Bool) → map (λ c. (c.denom, c.amount)) xs ≡ x → IsMoney (map (λ c. (c.denom, c.amount)) xs)
    → r ≡ list_all (λ c. nat_le c.amount (f c.denom)) xs → IsTrue r ↔ ((d : List ℕ) → amount_of x d ≤ f d)
answers f xs x r e m h =
    let same : r ≡ are_within f x = h ∙ agrees f xs ∙ ap (are_within f) e in
    (λ yes. within_amounts f x (sym same ∙ yes), λ all. same ∙ amounts_within f x (rises_from_money x (subst IsMoney e m)) all)

-- ---- two lists, and a statement

le_same : (a b : ℕ) → a ≡ b → a ≤ b
le_same a b e = omega arith

pub same_answer : (x y : Money) (a b r : Bool) → IsMoney x → IsMoney y → (IsTrue a ↔ ((d : List ℕ) → amount_of x d ≤ amount_of y d))
    → (IsTrue b ↔ ((d : List ℕ) → amount_of y d ≤ amount_of x d)) → r ≡ list_all (λ t. t) (a ∷ b ∷ []) → IsTrue r ↔ (x ≡ y)
same_answer x y a b r m n below above h = (
  λ yes.
      let (up, rest) = and_parts a (b && true) (sym h ∙ yes) in
      let (down, none) = and_parts b true rest in
      same_amounts x y m n (below.0 up) (above.0 down),
  λ e.
      h ∙ and_from a (b && true) (below.1 (λ d. le_same (amount_of x d) (amount_of y d) (ap (λ c. amount_of c d) e)))
      (and_from b true (above.1 (λ d. le_same (amount_of y d) (amount_of x d) (ap (λ c. amount_of c d) (sym e)))) refl),
)

pub right_answer : (s : Statement) (due : Bounds) (low high slack most least r : Bool) → (IsTrue low ↔ (s.low ≡ due.low)) → (IsTrue high ↔ (s.high ≡ due.high))
    → (IsTrue slack ↔ (s.slack ≡ due.slack)) → (IsTrue most ↔ ((d : List ℕ) → amount_of s.reward d ≤ amount_of s.high d))
    → (IsTrue least ↔ ((d : List ℕ) → amount_of s.low d ≤ amount_of s.reward d + amount_of s.slack d))
    → r ≡ list_all (λ t. t) (low ∷ high ∷ slack ∷ most ∷ least ∷ []) → IsTrue r ↔ IsRight s due
right_answer s due low high slack most least r l h k m n e = (
  λ yes.
      let (is_low, four) = and_parts low (high && (slack && (most && (least && true)))) (sym e ∙ yes) in
      let (is_high, three) = and_parts high (slack && (most && (least && true))) four in
      let (is_slack, two) = and_parts slack (most && (least && true)) three in
      let (is_most, last) = and_parts most (least && true) two in
      let (is_least, none) = and_parts least true last in
      record { low_is = l.0 is_low; high_is = h.0 is_high; slack_is = k.0 is_slack; at_most = m.0 is_most; at_least = n.0 is_least },
  λ right.
      e ∙ and_from low (high && (slack && (most && (least && true)))) (l.1 right.low_is)
      (and_from high (slack && (most && (least && true))) (h.1 right.high_is)
      (and_from slack (most && (least && true)) (k.1 right.slack_is)
      (and_from most (least && true) (m.1 right.at_most) (and_from least true (n.1 right.at_least) refl)))),
)
