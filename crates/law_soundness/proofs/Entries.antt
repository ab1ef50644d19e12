-- Undelegating and cancelling keep a state sound: the balances of entries are what the not-bonded account holds besides
-- tokens.
use Rattle.std.proofs.Common.{◌≡◌, ◌∙◌, ℕ, ◌+◌, ◌^◌, ◌<◌, ◌≤◌, ◌==◌, Bool, true, false, cond, List, [], ◌∷◌, map, length, Some, None, Option, refl, ap, arith, ◌-◌, ◌&&◌, if◌then◌else◌, All, find, unwrap_or}
use Rattle.std.specs.{BTreeMap.is_at, List.{AllByRecursion, Sorted.IsStrictlySortedBy}, Map.keys_of}
use Rattle.std.proofs.lemmas.{Bool.Decides.nat_tests, List.Elements.{All-from_recursion, recursion_from_All}}
use Rattle.std.proofs.lemmas.List.Sums.{sum_by-cons}
use Rattle.base_roles.specs.{declared.entities.UnbondingEntry.UnbondingEntry, Entries.{at, without}, Orders.pair_cmp}
use Rattle.law_soundness.proofs.{Lists.{all_put, all_taken, ascend_taken, looked_up, weaker}, Points.WholeEntries}
use Rattle.rule_modules.proofs.{TotalLemmas.{total_joined, total_left, total_put, total_within}, EntryLemmas.ascend-put}
use Rattle.rule_modules.proofs.{OrderLemmas.pair_total, SoundLemmas.exact_pair}
use Rattle.rule_modules.specs.{Owed.{balances_of, entry_balances}, Sound.{UnbondingIsSound, UnbondingsAreSound}}
use Rattle.rule_modules.specs.Unbondings.{UnbondingLists, can_be_cancelled, entries_of, grown, lowered, with_entries}

abbrev pub Entries : Type 0
Entries = List UnbondingEntry

pub sum_more : (e : UnbondingEntry) (es : Entries) → balances_of (e ∷ es) ≡ e.balance + balances_of es
sum_more e es = sum_by-cons (λ n. n) e.balance (map (λ x. x.balance) es)

-- ---- entries of a pair

-- entries of a pair: some, not too many, and each sound
pub record PairFits (height : ℕ) (es : Entries) : Type 0 where
  pub some : 0 < length es
  pub most : length es ≤ 100
  pub entries : AllByRecursion (UnbondingIsSound height) es

pub record PairsFit (height : ℕ) (u : UnbondingLists) : Type 0 where
  pub ascend : IsStrictlySortedBy pair_cmp (keys_of u)
  pub pairs : AllByRecursion (λ p. PairFits height p.1) u

pub to_pairs : (height : ℕ) (u : UnbondingLists) → UnbondingsAreSound height u → PairsFit height u
to_pairs height u h = record { ascend = h.ascend; pairs = each_pair u (recursion_from_All (λ p. 0 < length p.1) u h.some) (recursion_from_All (λ p. length p.1 ≤ 100) u h.most) (recursion_from_All (λ p. All (UnbondingIsSound height) p.1) u h.entries) }
  where
    each_pair : (v : UnbondingLists) → AllByRecursion (λ p. 0 < length p.1) v → AllByRecursion (λ p. length p.1 ≤ 100) v → AllByRecursion (λ p. All (UnbondingIsSound height) p.1) v → AllByRecursion (λ p. PairFits height p.1) v
    each_pair [] a b c = tt
    each_pair (p ∷ ps) a b c = (record { some = a.0; most = b.0; entries = recursion_from_All (UnbondingIsSound height) p.1 c.0 }, each_pair ps a.1 b.1 c.1)

pub from_pairs : (height : ℕ) (u : UnbondingLists) → PairsFit height u → UnbondingsAreSound height u
from_pairs height u h = record {
  ascend = h.ascend;
  some = All-from_recursion (λ p. 0 < length p.1) u (weaker (λ p. PairFits height p.1) (λ p. 0 < length p.1) (λ p k. k.some) u h.pairs);
  most = All-from_recursion (λ p. length p.1 ≤ 100) u (weaker (λ p. PairFits height p.1) (λ p. length p.1 ≤ 100) (λ p k. k.most) u h.pairs);
  entries = All-from_recursion (λ p. All (UnbondingIsSound height) p.1) u (weaker (λ p. PairFits height p.1) (λ p. All (UnbondingIsSound height) p.1) (λ p k. All-from_recursion (UnbondingIsSound height) p.1 k.entries) u h.pairs);
}

-- the entries of a pair that has none are none
found_or : (u : UnbondingLists) (who op : List ℕ) (Q : Entries → Type 0) → Q [] → ((es : Entries) → at pair_cmp u (who, op) ≡ Some es → Q es) → Q (entries_of u who op)
found_or u who op Q none some = by (at pair_cmp u (who, op)) refl
  where
    by : (r : Option Entries) → at pair_cmp u (who, op) ≡ r → Q (unwrap_or r [])
    by None e = none
    by (Some es) e = some es e

pub own_entries : (height : ℕ) (u : UnbondingLists) (who op : List ℕ) → PairsFit height u → AllByRecursion (UnbondingIsSound height) (entries_of u who op)
own_entries height u who op h = found_or u who op (AllByRecursion (UnbondingIsSound height)) tt
    (λ es e. looked_up (λ (p : (List ℕ × List ℕ) × Entries). PairFits height p.1) (is_at (pair_cmp (who, op))) (AllByRecursion (UnbondingIsSound height)) (λ k x t g. g.entries) u es e h.pairs)

pub whole_entries : (height : ℕ) (u : UnbondingLists) (who op : List ℕ) → AllByRecursion (λ p. WholeEntries height p.1) u → WholeEntries height (entries_of u who op)
whole_entries height u who op h = found_or u who op (WholeEntries height) tt
    (λ es e. looked_up (λ (p : (List ℕ × List ℕ) × Entries). WholeEntries height p.1) (is_at (pair_cmp (who, op))) (WholeEntries height) (λ k x t g. g) u es e h)

pub own_within : (u : UnbondingLists) (who op : List ℕ) → balances_of (entries_of u who op) ≤ entry_balances u
own_within u who op = found_or u who op (λ es. balances_of es ≤ entry_balances u) (omega arith) (λ es e. total_within pair_cmp pair_total balances_of (who, op) es u e)

-- ---- a pair with other entries

pub put_entries : (height : ℕ) (who op : List ℕ) (e : UnbondingEntry) (es : Entries) (u : UnbondingLists) → PairsFit height u → PairFits height (e ∷ es) → PairsFit height (with_entries who op (e ∷ es) u)
put_entries height who op e es u h k = record {
  ascend = ascend-put pair_cmp pair_total u (who, op) (e ∷ es) h.ascend;
  pairs = all_put (λ (p : (List ℕ × List ℕ) × Entries). PairFits height p.1) pair_cmp exact_pair (who, op) (e ∷ es) u k h.pairs;
}

pub put_balances : (height : ℕ) (who op : List ℕ) (e : UnbondingEntry) (es : Entries) (u : UnbondingLists) → PairsFit height u → entry_balances (with_entries who op (e ∷ es) u) + balances_of (entries_of u who op) ≡ entry_balances u + balances_of (e ∷ es)
put_balances height who op e es u h = by (at pair_cmp u (who, op)) refl
  where
    by : (r : Option Entries) → at pair_cmp u (who, op) ≡ r → entry_balances (with_entries who op (e ∷ es) u) + balances_of (unwrap_or r []) ≡ entry_balances u + balances_of (e ∷ es)
    by None f = let joined = total_joined pair_cmp pair_total balances_of (who, op) (e ∷ es) u f in omega (arith, joined)
    by (Some old) f = total_put pair_cmp pair_total balances_of (who, op) old (e ∷ es) u h.ascend f

put_whole : (height : ℕ) (who op : List ℕ) (e : UnbondingEntry) (es : Entries) (u : UnbondingLists) → AllByRecursion (λ p. WholeEntries height p.1) u → WholeEntries height (e ∷ es) → AllByRecursion (λ p. WholeEntries height p.1) (with_entries who op (e ∷ es) u)
put_whole height who op e es u h k = all_put (λ (p : (List ℕ × List ℕ) × Entries). WholeEntries height p.1) pair_cmp exact_pair (who, op) (e ∷ es) u k h

-- what a pair's other entries, of so much less or more, leave of all entries
pub record EntriesLeft (height : ℕ) (who op : List ℕ) (es : Entries) (u : UnbondingLists) : Type 0 where
  pub fits : PairsFit height (with_entries who op es u)
  pub balances : entry_balances (with_entries who op es u) + balances_of (entries_of u who op) ≡ entry_balances u + balances_of es
  pub whole : AllByRecursion (λ p. WholeEntries height p.1) u → AllByRecursion (λ p. WholeEntries height p.1) (with_entries who op es u)

-- some entries are put
pub entries_put : (height : ℕ) (who op : List ℕ) (es : Entries) (u : UnbondingLists) → PairsFit height u → PairFits height es → (AllByRecursion (λ p. WholeEntries height p.1) u → WholeEntries height es) → EntriesLeft height who op es u
entries_put height who op [] u h k j = let none : 0 < 0 = k.some in absurd (omega (arith, none))
entries_put height who op (e ∷ es) u h k j = record { fits = put_entries height who op e es u h k; balances = put_balances height who op e es u h; whole = λ w. put_whole height who op e es u w (j w) }

-- or the last goes
pub entries_gone : (height : ℕ) (who op : List ℕ) (old : Entries) (u : UnbondingLists) → PairsFit height u → at pair_cmp u (who, op) ≡ Some old → EntriesLeft height who op [] u
entries_gone height who op old u h f = record {
  fits = record { ascend = ascend_taken pair_cmp (who, op) u h.ascend; pairs = all_taken (λ (p : (List ℕ × List ℕ) × Entries). PairFits height p.1) (is_at (pair_cmp (who, op))) u h.pairs };
  balances = ap (λ r. entry_balances (without pair_cmp u (who, op)) + balances_of (unwrap_or r [])) f ∙ total_left pair_cmp pair_total balances_of (who, op) old u f ∙ nothing (entry_balances u);
  whole = λ w. all_taken (λ (p : (List ℕ × List ℕ) × Entries). WholeEntries height p.1) (is_at (pair_cmp (who, op))) u w;
}
  where
    nothing : (n : ℕ) → n ≡ n + 0
    nothing n = omega arith

-- ---- one more entry, or one that grows

pub grown_balances : (height completes amount : ℕ) (es : Entries) → balances_of (grown height completes amount es) ≡ balances_of es + amount
grown_balances height completes amount [] = omega (arith, sum_more (record { created = height; completes = completes; initial = amount; balance = amount }) [])
grown_balances height completes amount (e ∷ es) = by ((e.created == height) && (e.completes == completes)) (grown_balances height completes amount es)
  where
    by : (b : Bool) → balances_of (grown height completes amount es) ≡ balances_of es + amount
        → balances_of (if b then record e { initial = e.initial + amount; balance = e.balance + amount } ∷ es else e ∷ grown height completes amount es) ≡ balances_of (e ∷ es) + amount
    by true rest = omega (arith, sum_more (record e { initial = e.initial + amount; balance = e.balance + amount }) es, sum_more e es)
    by false rest = omega (arith, rest, sum_more e (grown height completes amount es), sum_more e es)

pub grown_length : (height completes amount : ℕ) (es : Entries) → (0 < length (grown height completes amount es)) × (length (grown height completes amount es) ≤ length es + 1)
grown_length height completes amount [] = (omega arith, omega arith)
grown_length height completes amount (e ∷ es) = by ((e.created == height) && (e.completes == completes)) (grown_length height completes amount es)
  where
    by : (b : Bool) → (0 < length (grown height completes amount es)) × (length (grown height completes amount es) ≤ length es + 1)
        → (0 < length (if b then record e { initial = e.initial + amount; balance = e.balance + amount } ∷ es else e ∷ grown height completes amount es))
        × (length (if b then record e { initial = e.initial + amount; balance = e.balance + amount } ∷ es else e ∷ grown height completes amount es) ≤ length (e ∷ es) + 1)
    by true rest = (omega arith, omega arith)
    by false rest = (omega arith, omega (arith, rest.1))

-- each stays sound and whole
pub grown_sound : (height completes amount : ℕ) (es : Entries) → AllByRecursion (UnbondingIsSound height) es → WholeEntries height es → balances_of es + amount ≤ 10 ^ 18
    → AllByRecursion (UnbondingIsSound height) (grown height completes amount es) × WholeEntries height (grown height completes amount es)
grown_sound height completes amount [] s w m = ((record { initial = omega (arith, m); balance = omega arith; created = omega arith }, tt), (λ e. refl, tt))
grown_sound height completes amount (e ∷ es) s w m =
    by (e.created == height) (e.completes == completes) refl (grown_sound height completes amount es s.1 w.1 (less (balances_of (e ∷ es)) (balances_of es) e.balance amount (sum_more e es) m))
  where
    less : (a b x n : ℕ) → a ≡ x + b → a + n ≤ 10 ^ 18 → b + n ≤ 10 ^ 18
    less a b x n f g = omega (arith, f, g)

    same : (a b : ℕ) → (a == b) ≡ true → a ≡ b
    same a b f = grind (arith, nat_tests)

    within : (a b x n i : ℕ) → a ≡ x + b → a + n ≤ 10 ^ 18 → x ≡ i → i + n ≤ 10 ^ 18
    within a b x n i f g h = omega (arith, f, g, h)

    by : (b c : Bool) → (e.created == height) ≡ b → AllByRecursion (UnbondingIsSound height) (grown height completes amount es) × WholeEntries height (grown height completes amount es)
        → AllByRecursion (UnbondingIsSound height) (if b && c then record e { initial = e.initial + amount; balance = e.balance + amount } ∷ es else e ∷ grown height completes amount es)
        × WholeEntries height (if b && c then record e { initial = e.initial + amount; balance = e.balance + amount } ∷ es else e ∷ grown height completes amount es)
    by true true f rest =
        let own : UnbondingIsSound height e = s.0 in
        let whole : e.balance ≡ e.initial = w.0 (same e.created height f) in (
          (record { initial = within _ _ _ amount e.initial (sum_more e es) m whole; balance = omega (arith, own.balance); created = own.created }, s.1),
          (λ g. ap (λ x. x + amount) whole, w.1),
        )
    by true false f rest = ((s.0, rest.0), (w.0, rest.1))
    by false c f rest = ((s.0, rest.0), (w.0, rest.1))

-- ---- an entry that is lowered

pub lowered_balances : (height now amount : ℕ) (es : Entries) (e : UnbondingEntry) → find (can_be_cancelled height now) es ≡ Some e → amount ≤ e.balance → balances_of (lowered height now amount es) + amount ≡ balances_of es
lowered_balances height now amount [] e f l = absurd cc
lowered_balances height now amount (x ∷ es) e f l = by (can_be_cancelled height now x) (x.balance == amount) refl f (λ g. lowered_balances height now amount es e g l)
  where
    same : (a b : ℕ) → (a == b) ≡ true → a ≡ b
    same a b g = grind (arith, nat_tests)

    some_is : (a b : UnbondingEntry) → Some a ≡ Some b → a ≡ b
    some_is a b g = cc

    by : (b z : Bool) → (x.balance == amount) ≡ z → cond b (Some x) (find (can_be_cancelled height now) es) ≡ Some e
        → (find (can_be_cancelled height now) es ≡ Some e → balances_of (lowered height now amount es) + amount ≡ balances_of es)
        → balances_of (if b then (if z then es else record x { initial = x.initial - amount; balance = x.balance - amount } ∷ es) else x ∷ lowered height now amount es) + amount ≡ balances_of (x ∷ es)
    by true true p g rest = omega (arith, same x.balance amount p, sum_more x es)
    by true false p g rest =
        let is : x.balance ≡ e.balance = ap (λ (y : UnbondingEntry). y.balance) (some_is x e g) in
        omega (arith, l, is, sum_more x es, sum_more (record x { initial = x.initial - amount; balance = x.balance - amount }) es)
    by false z p g rest = omega (arith, rest g, sum_more x es, sum_more x (lowered height now amount es))

pub lowered_sound : (height now amount last : ℕ) (es : Entries) → AllByRecursion (UnbondingIsSound last) es → (length (lowered height now amount es) ≤ length es) × AllByRecursion (UnbondingIsSound last) (lowered height now amount es)
lowered_sound height now amount last [] s = (omega arith, tt)
lowered_sound height now amount last (x ∷ es) s = by (can_be_cancelled height now x) (x.balance == amount) (lowered_sound height now amount last es s.1)
  where
    own : UnbondingIsSound last x
    own = s.0

    by : (b z : Bool) → (length (lowered height now amount es) ≤ length es) × AllByRecursion (UnbondingIsSound last) (lowered height now amount es)
        → (length (if b then (if z then es else record x { initial = x.initial - amount; balance = x.balance - amount } ∷ es) else x ∷ lowered height now amount es) ≤ length (x ∷ es))
        × AllByRecursion (UnbondingIsSound last) (if b then (if z then es else record x { initial = x.initial - amount; balance = x.balance - amount } ∷ es) else x ∷ lowered height now amount es)
    by true true rest = (omega arith, s.1)
    by true false rest = (omega arith, (record { initial = omega (arith, own.initial); balance = omega (arith, own.balance); created = own.created }, s.1))
    by false z rest = (omega (arith, rest.0), (s.0, rest.1))

pub lowered_whole : (height now amount last : ℕ) (es : Entries) → WholeEntries last es → WholeEntries last (lowered height now amount es)
lowered_whole height now amount last [] w = tt
lowered_whole height now amount last (x ∷ es) w = by (can_be_cancelled height now x) (x.balance == amount) (lowered_whole height now amount last es w.1)
  where
    by : (b z : Bool) → WholeEntries last (lowered height now amount es) → WholeEntries last (if b then (if z then es else record x { initial = x.initial - amount; balance = x.balance - amount } ∷ es) else x ∷ lowered height now amount es)
    by true true rest = w.1
    by true false rest = (λ g. ap (λ n. n - amount) (w.0 g), w.1)
    by false z rest = (w.0, rest)
