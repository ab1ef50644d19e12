-- The tests of the accounts decide that they hold what they owe.
use Rattle.std.proofs.Common.{◌≡◌, ◌∙◌, ℕ, ◌+◌, ◌*◌, ◌^◌, ◌≤◌, ◌<◌, Bool, true, false, cond, not, List, [], ◌∷◌, Option, Some, None, map, refl, sym, ap, subst, inl, inr, arith, zero-add, add_comm, mul_comm, ◌⊎◌, ◌==◌, ◌&&◌, ◌||◌, if◌then◌else◌, nat_le, unwrap_or, sum, All, Ordering, Less, Equal, Greater, Decides, is_eq, true≢false}
use Rattle.std.specs.{BTreeMap.is_at, Cmp.tied_itself, List.{list_all, AllByRecursion, Sorted.IsStrictlySortedBy}}
use Rattle.std.specs.Map.{keys_of, values_of, lookup}
use Rattle.std.proofs.lemmas.{Bool.Decides.{nat_tests, Decides-and, Decides-eqb}, List.Elements.recursion_from_All}
use Rattle.std.proofs.lemmas.{List.Sums.sum_by-cons, Map.Lookups.exact_bytes}
use Rattle.base_types.specs.declared.{account.Account.Account, status.BondStatus.BondStatus}
use Rattle.base_types.{specs.Orders.{account_cmp, denom_cmp}, proofs.{MapLemmas.equal, OrderLemmas.account_exact}}
use Rattle.base_types.specs.declared.account.Account.TheVariants as account
use Rattle.base_types.specs.declared.account.Module.TheVariants as holder
use Rattle.base_coins.specs.Coins.{Money, IsMoney, amount_of}
use Rattle.base_coins.proofs.Order.{Above, Rises, rises_from_money, by_order, same_name}
use Rattle.base_roles.specs.{declared.entities.{Purse.Purse, Validator.Validator}, Entries.{at, number_at}}
use Rattle.base_roles.specs.{Holdings.{Balances, Holdings, IsBacked, balance_of, coins_of}, Orders.place_cmp}
use Rattle.base_roles.specs.Staked.{Staked, is_bonded, tokens_where, bonded_tokens, other_tokens}
use Rattle.base_roles.specs.{StakeChanges.of_bond, World.View}
use Rattle.base_roles.proofs.HoldingLemmas.{denom_total, place_total, place_exact, account_total, balance-most}
use Rattle.rule_modules.specs.{Amounts.bond_coins, Distribution.Shared}
use Rattle.rule_modules.specs.Owed.{entry_balances, owed_from_not_bonded, owed_from_distribution, HoldsWhatIsOwed}
use Rattle.rule_modules.specs.{Purses.Purses, Sound.PurseIsSound, Unbondings.UnbondingLists}
use Rattle.rule_modules.proofs.EntryLemmas.{to_all, from_all}
use Rattle.law_soundness.proofs.Points.{holds_coin, coin_held}
use Rattle.store_records.specs.{Plain.{PlainSeen, AreAscending}, States.state_of}
use Rattle.store_soundness.specs.Accounts.{is_elsewhere_or, holds_just, not_bonded_in, holds_bonded, holds_not_bonded, holds_stake, units_in, outstanding_in, owed_in, is_held, are_held, is_elsewhere_or_held, holds_owed, holds_rewards}
use Rattle.store_soundness.specs.Ranges.{are_backed}
use Rattle.law_records.{specs.Coins.AreCoins, proofs.{BackedLaws.backed_decides, TestLemmas.{at_most, all_decides}}}

-- ---- tests of a list

first : (a b : Bool) → (a && b) ≡ true → a ≡ true
first true b k = refl
first false b k = k

second : (a b : Bool) → (a && b) ≡ true → b ≡ true
second true b k = k
second false b k = absurd cc

late : (a : Bool) → (a || true) ≡ true
late true = refl
late false = refl

-- a test is true of all where it is true of each
tests_decide : {A : Type 0} (p : A → Bool) (xs : List A) → Decides (list_all p xs) (All (λ x. p x ≡ true) xs)
tests_decide p xs = all_decides p (λ x. p x ≡ true) (λ x. (λ t. t, λ t. t)) xs

all_true : {A : Type 0} (p : A → Bool) → ((x : A) → p x ≡ true) → (xs : List A) → list_all p xs ≡ true
all_true p h [] = refl
all_true p h (x ∷ xs) = ap (λ b. b && list_all p xs) (h x) ∙ all_true p h xs

-- ---- the staking accounts

-- an account holds just so much of a denomination
abbrev HoldsJust : Holdings → Account → List ℕ → ℕ → Type 0
HoldsJust h who bond n = (d : List ℕ) → balance_of h who d ≡ (if is_at (denom_cmp bond) d then n else 0)

just_told : (h : Holdings) (who : Account) (bond : List ℕ) (n : ℕ) → holds_just h.balances who bond n ≡ true → HoldsJust h who bond n
just_told h who bond n t d = by (is_at (denom_cmp bond) d) refl
  where
    amount : balance_of h who bond ≡ n
    amount = (Decides-eqb (number_at place_cmp h.balances (who, bond)) n).0
        (second (nat_le n (10 ^ 18)) (number_at place_cmp h.balances (who, bond) == n)
        (first (nat_le n (10 ^ 18) && (number_at place_cmp h.balances (who, bond) == n)) (list_all (λ e. is_elsewhere_or who bond e.0) h.balances) t))

    all : All (λ e. is_elsewhere_or who bond e.0 ≡ true) h.balances
    all = (tests_decide (λ (e : (Account × List ℕ) × ℕ). is_elsewhere_or who bond e.0) h.balances).0
        (second (nat_le n (10 ^ 18) && (number_at place_cmp h.balances (who, bond) == n)) (list_all (λ e. is_elsewhere_or who bond e.0) h.balances) t)

    other : is_at (denom_cmp bond) d ≡ false → (r : Option ℕ) → at place_cmp h.balances (who, d) ≡ r → unwrap_or r 0 ≡ 0
    other apart None e = refl
    other apart (Some v) e =
        let passes : (not (is_at (account_cmp who) who) || is_at (denom_cmp bond) d) ≡ true = from_all place_cmp place_total (λ c. is_elsewhere_or who bond c.0 ≡ true) h.balances place_exact all (who, d) v e in
        let fails : (not (is_at (account_cmp who) who) || is_at (denom_cmp bond) d) ≡ false
        = ap (λ b. not b || is_at (denom_cmp bond) d) (ap is_eq (tied_itself account_total who)) ∙ apart in
        absurd (true≢false (sym passes ∙ fails))

    by : (b : Bool) → is_at (denom_cmp bond) d ≡ b → balance_of h who d ≡ cond b n 0
    by true same = ap (balance_of h who) (sym (exact_bytes bond d (equal (denom_cmp bond d) same))) ∙ amount
    by false apart = other apart (at place_cmp h.balances (who, d)) refl

just_tested : (h : Holdings) (who : Account) (bond : List ℕ) (n : ℕ) → IsBacked h → HoldsJust h who bond n → holds_just h.balances who bond n ≡ true
just_tested h who bond n b holds =
    ap (λ x. x && (number_at place_cmp h.balances (who, bond) == n) && list_all (λ e. is_elsewhere_or who bond e.0) h.balances) most
    ∙ ap (λ x. x && list_all (λ e. is_elsewhere_or who bond e.0) h.balances) ((Decides-eqb (balance_of h who bond) n).1 amount)
    ∙ (tests_decide (λ (e : (Account × List ℕ) × ℕ). is_elsewhere_or who bond e.0) h.balances).1
    (to_all place_cmp place_total (λ e. is_elsewhere_or who bond e.0 ≡ true) h.balances b.balances_ascend (λ k v e. each k v e (is_at (account_cmp who) k.0) refl (is_at (denom_cmp bond) k.1) refl))
  where
    amount : balance_of h who bond ≡ n
    amount = holds bond ∙ ap (λ x. cond x n 0) (ap is_eq (tied_itself denom_total bond))

    most : nat_le n (10 ^ 18) ≡ true
    most = (at_most n (10 ^ 18)).1 (subst (λ x. x ≤ 10 ^ 18) amount (balance-most h who bond b))

    each : (k : Account × List ℕ) (v : ℕ) → at place_cmp h.balances k ≡ Some v → (a : Bool) → is_at (account_cmp who) k.0 ≡ a → (c : Bool) → is_at (denom_cmp bond) k.1 ≡ c → (not a || c) ≡ true
    each k v e false other c name = refl
    each k v e true own true name = refl
    each k v e true own false name =
        let same : who ≡ k.0 = account_exact who k.0 (equal (account_cmp who k.0) own) in
        let positive : 0 < v = from_all place_cmp place_total (λ c. 0 < c.1) h.balances place_exact b.balances_positive k v e in
        let held : balance_of h who k.1 ≡ v = ap (λ (w : Account). balance_of h w k.1) same ∙ ap (λ r. unwrap_or r 0) e in
        let nothing : balance_of h who k.1 ≡ 0 = holds k.1 ∙ ap (λ x. cond x n 0) name in
        absurd (omega (arith, positive, held, nothing))

-- the test of an account decides that it holds this coin, and nothing else
coin_decides : (v : View) (who : Account) (n : ℕ) → IsBacked v.bank → Decides (holds_just v.bank.balances who v.ctx.params.bond_denom n) (coins_of v.bank who ≡ bond_coins v n)
coin_decides v who n b = (
  λ t. coin_held v who n b (just_told v.bank who v.ctx.params.bond_denom n t),
  λ e. just_tested v.bank who v.ctx.params.bond_denom n b (holds_coin v who n e),
)

not_if : (b : Bool) → not b ≡ (if b then false else true)
not_if true = refl
not_if false = refl

others_alike : (s : Staked) (u : UnbondingLists) → not_bonded_in s.validators u ≡ owed_from_not_bonded s u
others_alike s u = ap (λ (test : BondStatus → Bool). tokens_where test s.validators + entry_balances u) (λ i status. not_if (is_bonded status) i)

-- ---- the distribution account

-- nothing is found below the first
units_above : (d : List ℕ) (cs : Money) → Above d cs → units_in cs d ≡ 0
units_above d [] a = refl
units_above d (c ∷ cs) a = ap (λ r. cond (is_eq r) c.1 0 + units_in cs d) a.0 ∙ zero-add (units_in cs d) ∙ units_above d cs a.1

units_amount : (d : List ℕ) (cs : Money) → Rises cs → units_in cs d ≡ amount_of cs d
units_amount d [] r = refl
units_amount d (c ∷ cs) r = by (is_at (denom_cmp d) c.0) refl (units_amount d cs r.3)
  where
    by : (b : Bool) → is_at (denom_cmp d) c.0 ≡ b → units_in cs d ≡ amount_of cs d → cond b c.1 0 + units_in cs d ≡ unwrap_or (cond b (Some c.1) (lookup (is_at (denom_cmp d)) cs)) 0
    by true same later =
        let none : units_in cs d ≡ 0 = units_above d cs (subst (λ x. Above x cs) (sym (same_name d c.0 (equal (denom_cmp d c.0) same))) r.0) in
        omega (arith, none)
    by false apart later = zero-add (units_in cs d) ∙ later

outstanding_sum : (d : List ℕ) (es : List (List ℕ × Purse)) → AllByRecursion (λ e. PurseIsSound e.1) es → outstanding_in es d ≡ sum (map (λ p. amount_of p.outstanding d) (values_of es))
outstanding_sum d [] a = refl
outstanding_sum d (e ∷ es) a =
    ap (λ n. n + outstanding_in es d) (units_amount d e.1.outstanding (rises_from_money e.1.outstanding a.0.outstanding))
    ∙ ap (λ n. amount_of e.1.outstanding d + n) (outstanding_sum d es a.1)
    ∙ sym (sum_by-cons (λ n. n) (amount_of e.1.outstanding d) (map (λ p. amount_of p.outstanding d) (values_of es)))

owed_alike : (r : PlainSeen) → AreCoins r → (d : List ℕ) → owed_in r.lists.shared.purses r.pool d ≡ owed_from_distribution (state_of r).hooks.0 d
owed_alike r c d =
    let purses = r.lists.shared.purses in
    ap (λ n. n + outstanding_in purses d) (units_amount d r.pool (rises_from_money r.pool c.pool))
    ∙ ap (λ n. amount_of r.pool d + n) (outstanding_sum d purses (recursion_from_All (λ e. PurseIsSound e.1) purses c.purses))
    ∙ add_comm (amount_of r.pool d) (sum (map (λ (p : Purse). amount_of p.outstanding d) (values_of purses)))

-- the distribution account
abbrev own : Account
own = account.Module holder.Distribution

-- so many units are just what is held
held_told : (bs : Balances) (d : List ℕ) (n : ℕ) → is_held bs d n ≡ true → 10 ^ 18 * number_at place_cmp bs (own, d) ≡ n
held_told bs d n t =
    let same : n ≡ number_at place_cmp bs (own, d) * 10 ^ 18 = (Decides-eqb n (number_at place_cmp bs (own, d) * 10 ^ 18)).0 (second (nat_le (number_at place_cmp bs (own, d)) (10 ^ 18)) (n == number_at place_cmp bs (own, d) * 10 ^ 18) t) in
    mul_comm (10 ^ 18) (number_at place_cmp bs (own, d)) ∙ sym same

held_tested : (bs : Balances) (d : List ℕ) (n : ℕ) → number_at place_cmp bs (own, d) ≤ 10 ^ 18 → 10 ^ 18 * number_at place_cmp bs (own, d) ≡ n → is_held bs d n ≡ true
held_tested bs d n most is =
    ap (λ b. b && (n == number_at place_cmp bs (own, d) * 10 ^ 18)) ((at_most (number_at place_cmp bs (own, d)) (10 ^ 18)).1 most)
    ∙ (Decides-eqb n (number_at place_cmp bs (own, d) * 10 ^ 18)).1 (sym is ∙ mul_comm (10 ^ 18) (number_at place_cmp bs (own, d)))

module _ (bs : Balances) (owed : List ℕ → ℕ) where
  -- what is owed of a denomination is held, or a list of coins has nothing of it
  coins_or : (cs : Money) → are_held bs owed cs ≡ true → (d : List ℕ) → (is_held bs d (owed d) ≡ true) ⊎ (units_in cs d ≡ 0)
  coins_or [] t d = inr refl
  coins_or (c ∷ cs) t d = by (is_at (denom_cmp d) c.0) refl (coins_or cs (second (is_held bs c.0 (owed c.0)) (are_held bs owed cs) t) d)
    where
      by : (b : Bool) → is_at (denom_cmp d) c.0 ≡ b → (is_held bs d (owed d) ≡ true) ⊎ (units_in cs d ≡ 0) → (is_held bs d (owed d) ≡ true) ⊎ (cond b c.1 0 + units_in cs d ≡ 0)
      by true same later = inl (subst (λ x. is_held bs x (owed x) ≡ true) (sym (exact_bytes d c.0 (equal (denom_cmp d c.0) same))) (first (is_held bs c.0 (owed c.0)) (are_held bs owed cs) t))
      by false apart (inl h) = inl h
      by false apart (inr none) = inr (zero-add (units_in cs d) ∙ none)

  purses_or : (es : List (List ℕ × Purse)) → list_all (λ e. are_held bs owed e.1.outstanding) es ≡ true → (d : List ℕ) → (is_held bs d (owed d) ≡ true) ⊎ (outstanding_in es d ≡ 0)
  purses_or [] t d = inr refl
  purses_or (e ∷ es) t d =
      by (coins_or e.1.outstanding (first (are_held bs owed e.1.outstanding) (list_all (λ x. are_held bs owed x.1.outstanding) es) t) d)
      (purses_or es (second (are_held bs owed e.1.outstanding) (list_all (λ x. are_held bs owed x.1.outstanding) es) t) d)
    where
      by : (is_held bs d (owed d) ≡ true) ⊎ (units_in e.1.outstanding d ≡ 0) → (is_held bs d (owed d) ≡ true) ⊎ (outstanding_in es d ≡ 0)
          → (is_held bs d (owed d) ≡ true) ⊎ (units_in e.1.outstanding d + outstanding_in es d ≡ 0)
      by (inl h) later = inl h
      by (inr none) (inl h) = inl h
      by (inr none) (inr rest) = inr (omega (arith, none, rest))

-- each denomination of the distribution account is just what is owed
owed_told : (bs : Balances) (purses : List (List ℕ × Purse)) (pool : Money) → holds_owed bs (owed_in purses pool) purses pool ≡ true → (d : List ℕ) → 10 ^ 18 * number_at place_cmp bs (own, d) ≡ owed_in purses pool d
owed_told bs purses pool t d =
    by (at place_cmp bs (own, d)) refl (coins_or bs (owed_in purses pool) pool last d) (purses_or bs (owed_in purses pool) purses middle d)
  where
    both : (list_all (λ e. is_elsewhere_or_held bs (owed_in purses pool) e.0) bs && list_all (λ e. are_held bs (owed_in purses pool) e.1.outstanding) purses) ≡ true
    both = first (list_all (λ e. is_elsewhere_or_held bs (owed_in purses pool) e.0) bs && list_all (λ e. are_held bs (owed_in purses pool) e.1.outstanding) purses) (are_held bs (owed_in purses pool) pool) t

    middle : list_all (λ e. are_held bs (owed_in purses pool) e.1.outstanding) purses ≡ true
    middle = second (list_all (λ e. is_elsewhere_or_held bs (owed_in purses pool) e.0) bs) (list_all (λ e. are_held bs (owed_in purses pool) e.1.outstanding) purses) both

    last : are_held bs (owed_in purses pool) pool ≡ true
    last = second (list_all (λ e. is_elsewhere_or_held bs (owed_in purses pool) e.0) bs && list_all (λ e. are_held bs (owed_in purses pool) e.1.outstanding) purses) (are_held bs (owed_in purses pool) pool) t

    all : All (λ e. is_elsewhere_or_held bs (owed_in purses pool) e.0 ≡ true) bs
    all = (tests_decide (λ (e : (Account × List ℕ) × ℕ). is_elsewhere_or_held bs (owed_in purses pool) e.0) bs).0
        (first (list_all (λ e. is_elsewhere_or_held bs (owed_in purses pool) e.0) bs) (list_all (λ e. are_held bs (owed_in purses pool) e.1.outstanding) purses) both)

    told : is_held bs d (owed_in purses pool d) ≡ true → 10 ^ 18 * number_at place_cmp bs (own, d) ≡ owed_in purses pool d
    told h = held_told bs d (owed_in purses pool d) h

    found : (v : ℕ) → at place_cmp bs (own, d) ≡ Some v → is_held bs d (owed_in purses pool d) ≡ true
    found v e =
        let passes : (not (is_at (account_cmp own) own) || is_held bs d (owed_in purses pool d)) ≡ true
        = from_all place_cmp place_total (λ c. is_elsewhere_or_held bs (owed_in purses pool) c.0 ≡ true) bs place_exact all (own, d) v e in
        ap (λ b. not b || is_held bs d (owed_in purses pool d)) (sym (ap is_eq (tied_itself account_total own))) ∙ passes

    by : (r : Option ℕ) → at place_cmp bs (own, d) ≡ r → (is_held bs d (owed_in purses pool d) ≡ true) ⊎ (units_in pool d ≡ 0) → (is_held bs d (owed_in purses pool d) ≡ true) ⊎ (outstanding_in purses d ≡ 0)
        → 10 ^ 18 * number_at place_cmp bs (own, d) ≡ owed_in purses pool d
    by (Some v) e a b = told (found v e)
    by None e (inl h) b = told h
    by None e (inr none) (inl h) = told h
    by None e (inr none) (inr rest) =
        let nothing : number_at place_cmp bs (own, d) ≡ 0 = ap (λ r. unwrap_or r 0) e in
        omega (arith, nothing, none, rest)

owed_tested : (bs : Balances) (purses : List (List ℕ × Purse)) (pool : Money) → ((d : List ℕ) → is_held bs d (owed_in purses pool d) ≡ true) → holds_owed bs (owed_in purses pool) purses pool ≡ true
owed_tested bs purses pool h =
    let coins : (cs : Money) → are_held bs (owed_in purses pool) cs ≡ true = λ cs. all_true (λ (c : List ℕ × ℕ). is_held bs c.0 (owed_in purses pool c.0)) (λ c. h c.0) cs in
    let all : list_all (λ e. is_elsewhere_or_held bs (owed_in purses pool) e.0) bs ≡ true
    = all_true (λ (e : (Account × List ℕ) × ℕ). is_elsewhere_or_held bs (owed_in purses pool) e.0)
    (λ e. ap (λ b. not (is_at (account_cmp own) e.0.0) || b) (h e.0.1) ∙ late (not (is_at (account_cmp own) e.0.0))) bs in
    let out : list_all (λ e. are_held bs (owed_in purses pool) e.1.outstanding) purses ≡ true
    = all_true (λ (e : List ℕ × Purse). are_held bs (owed_in purses pool) e.1.outstanding) (λ e. coins e.1.outstanding) purses in
    ap (λ b. b && list_all (λ e. are_held bs (owed_in purses pool) e.1.outstanding) purses && are_held bs (owed_in purses pool) pool) all
    ∙ ap (λ b. b && are_held bs (owed_in purses pool) pool) out ∙ coins pool

rewards_decide : (r : PlainSeen) → AreCoins r → IsBacked r.lists.bank
    → Decides (holds_rewards r) ((d : List ℕ) → 10 ^ 18 * balance_of r.lists.bank own d ≡ owed_from_distribution (state_of r).hooks.0 d)
rewards_decide r c b =
    let bs = r.lists.bank.balances in
    let purses = r.lists.shared.purses in (
      λ t. λ d. owed_told bs purses r.pool t d ∙ owed_alike r c d,
      λ h. owed_tested bs purses r.pool (λ d. held_tested bs d (owed_in purses r.pool d) (balance-most r.lists.bank own d b) (h d ∙ sym (owed_alike r c d))),
    )

-- ---- all together

-- the tests of the accounts decide that they hold what they owe, over a bank that is in order
pub accounts_decide : (r : PlainSeen) → AreCoins r → IsBacked r.lists.bank → Decides (holds_stake r && holds_rewards r) (HoldsWhatIsOwed (state_of r))
accounts_decide r c b =
    let v = (state_of r).view in
    let s = r.lists.staked in
    let bonded = coin_decides v (account.Module holder.Bonded) (tokens_where is_bonded s.validators) b in
    let others = coin_decides v (account.Module holder.NotBonded) (not_bonded_in s.validators r.lists.unbondings) b in
    let stake = Decides-and (holds_bonded r) (holds_not_bonded r) bonded others in
    let all = Decides-and (holds_stake r) (holds_rewards r) stake (rewards_decide r c b) in
    let same = others_alike s r.lists.unbondings in (
      λ t. let h = all.0 t in record {
        bonded = h.0.0;
        not_bonded = h.0.1 ∙ ap (bond_coins v) same;
        distribution = h.1;
      },
      λ h. all.1 ((h.bonded, h.not_bonded ∙ ap (bond_coins v) (sym same)), h.distribution),
    )
