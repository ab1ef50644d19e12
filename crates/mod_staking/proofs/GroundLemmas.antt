-- The ground, the accounts and the hooks between the steps of a call.
use Rattle.std.proofs.Common.{◌≡◌, ◌∙◌, ℕ, ◌+◌, ◌^◌, ◌<◌, ◌≤◌, ◌==◌, Bool, true, false, cond, List, [], ◌∷◌, ◌++◌, Some, None, append_assoc, refl, sym, ap, subst, arith, Ok, ◌||◌, nat_lt, if◌then◌else◌, unwrap_or}
use Rattle.std.proofs.lemmas.{List.Elements.{All-nil, All-cons}, Cmp.nat_list_cmp_total, Bool.Decides.nat_tests}
use Rattle.std.specs.{Cmp.eq_by_cmp_equiv, List.Sorted.IsStrictlySortedBy, BTreeMap.is_at}
use Rattle.base_types.specs.{declared.{account.Account.Account, status.BondStatus.BondStatus}, Modules.module_number}
use Rattle.base_types.specs.Orders.{account_cmp, denom_cmp}
use Rattle.base_types.specs.declared.account.Account.TheVariants as account
use Rattle.base_types.specs.declared.account.Module.TheVariants as holder
use Rattle.base_coins.specs.Coins.{Money, IsMoney, amount_of}
use Rattle.base_roles.specs.{declared.{bank.Ground.Ground, facts.Fact.Fact}, Ground.CanBeUndone}
use Rattle.base_roles.specs.{Holdings.{IsBacked, balance_of, moved, is_short}, Hooks.{Tells, Stand, Keeps}, Owing.Lists}
use Rattle.base_roles.specs.{declared.refusal.Refusal.TheVariants.InsufficientFunds, Staked.is_bonded}
use Rattle.base_roles.specs.{StakeChanges.HoldsStake, Flow.{◌>>◌, stop_if}, World.{View, sent}}
use Rattle.base_roles.proofs.{HookLemmas.Stand-after_send, HoldingLemmas.{balance-most, backed-moved, first_enough}}
use Rattle.base_roles.proofs.AmountLemmas.{moves_by_amounts}
use Rattle.rule_modules.specs.{Amounts.bond_coins, Delegating.{Origin, wallet, pool, paid_in}, Stakes.pool_of}
use Rattle.mod_staking.specs.Calls.{PaysAs, CanPay}

-- ---- coins of the bond denomination

pub bond_is : (v : View) (n : ℕ) → 0 < n → bond_coins v n ≡ (v.ctx.params.bond_denom, n) ∷ []
bond_is v n h = by (n == 0) refl
  where
    by : (b : Bool) → (n == 0) ≡ b → cond {A = Money} b [] ((v.ctx.params.bond_denom, n) ∷ []) ≡ (v.ctx.params.bond_denom, n) ∷ []
    by true e = absurd (grind (arith, nat_tests))
    by false e = refl

-- ---- hooks stand when coins were paid in

away_from : (from : Bool) → is_at (account_cmp (account.Module holder.Distribution)) (account.Module (if from then holder.Bonded else holder.NotBonded)) ≡ false
away_from true = refl
away_from false = refl

module _ {S : Type 0} (t : Tells S) (s : S) (l : Lists) (v v2 : View) (backed : IsBacked v2.bank) where
  stand_sent : (from to : Account) (coins : Money) → is_at (account_cmp (account.Module holder.Distribution)) from ≡ false → is_at (account_cmp (account.Module holder.Distribution)) to ≡ false
      → v2 ≡ sent from to coins v → Stand t s v l → Stand t s v2 l
  stand_sent from to coins f g e p =
      subst (λ x. Stand t s x l) (λ i. record { bank = v2.bank; ctx = sym (ap (λ x. x.ctx) e) i; facts = v2.facts })
      (Stand-after_send t s from to coins v v2.bank v2.facts l (ap (λ x. x.bank) e) backed f g p)

  pub stand-paid : (from : Origin) (delegator : List ℕ) (status : BondStatus) (amount : ℕ) → PaysAs (paid_in from delegator status amount v) v2 (Ok tt) → Stand t s v l → Stand t s v2 l
  stand-paid wallet delegator status amount h p = by (is_short v.bank (account.User delegator) (bond_coins v amount)) h
    where
      by : (b : Bool) → PaysAs (stop_if b InsufficientFunds >> Ok (sent (account.User delegator) (account.Module (pool_of status)) (bond_coins v amount) v)) v2 (Ok tt) → Stand t s v2 l
      by true k = absurd k
      by false k = stand_sent (account.User delegator) (account.Module (pool_of status)) (bond_coins v amount) refl (away_from (is_bonded status)) k p
  stand-paid (pool old) delegator status amount h p = by (module_number (pool_of old) == module_number (pool_of status)) h
    where
      by : (b : Bool) → PaysAs (cond b (Ok v) (Ok (sent (account.Module (pool_of old)) (account.Module (pool_of status)) (bond_coins v amount) v))) v2 (Ok tt) → Stand t s v2 l
      by true k = subst (λ x. Stand t s x l) (sym k) p
      by false k = stand_sent (account.Module (pool_of old)) (account.Module (pool_of status)) (bond_coins v amount) (away_from (is_bonded old)) (away_from (is_bonded status)) k p

-- ---- what the staking accounts hold once coins were paid in

-- what leaves each staking account
abbrev pub from_bonded : Origin → ℕ → ℕ
from_bonded wallet n = 0
from_bonded (pool old) n = cond (is_bonded old) n 0

abbrev pub from_other : Origin → ℕ → ℕ
from_other wallet n = 0
from_other (pool old) n = cond (is_bonded old) 0 n

is_money : (v : View) (n : ℕ) → 0 < n → n ≤ 10 ^ 18 → IsMoney ((v.ctx.params.bond_denom, n) ∷ [])
unfolding IsStrictlySortedBy
is_money v n p q = record {
  sorted = (tt, tt);
  positive = All-cons (λ (c : List ℕ × ℕ). 0 < c.1) (v.ctx.params.bond_denom, n) [] p (All-nil (λ (c : List ℕ × ℕ). 0 < c.1));
  below = All-cons (λ (c : List ℕ × ℕ). c.1 < 10 ^ 38) (v.ctx.params.bond_denom, n) [] (omega (arith, q)) (All-nil (λ (c : List ℕ × ℕ). c.1 < 10 ^ 38));
}

amount-one : (d : List ℕ) (n : ℕ) → amount_of ((d, n) ∷ []) d ≡ n
amount-one d n = ap (λ b. unwrap_or (cond b (Some n) None) 0) (denom_itself d)
  where
    denom_itself : (x : List ℕ) → is_at (denom_cmp x) x ≡ true
    denom_itself x = (eq_by_cmp_equiv nat_list_cmp_total).refl x

abbrev at_bonded : Account → Bool
at_bonded a = is_at (account_cmp (account.Module holder.Bonded)) a

abbrev at_other : Account → Bool
at_other a = is_at (account_cmp (account.Module holder.NotBonded)) a

pool_bonded : (b : Bool) (n : ℕ) → cond (at_bonded (account.Module (if b then holder.Bonded else holder.NotBonded))) n 0 ≡ cond b n 0
pool_bonded true n = refl
pool_bonded false n = refl

pool_other : (b : Bool) (n : ℕ) → cond (at_other (account.Module (if b then holder.Bonded else holder.NotBonded))) n 0 ≡ cond b 0 n
pool_other true n = refl
pool_other false n = refl

enough_one : (v : View) (who : Account) (n : ℕ) → n ≤ balance_of v.bank who v.ctx.params.bond_denom → is_short v.bank who ((v.ctx.params.bond_denom, n) ∷ []) ≡ false
enough_one v who n h = by (nat_lt (balance_of v.bank who v.ctx.params.bond_denom) n) refl
  where
    by : (b : Bool) → nat_lt (balance_of v.bank who v.ctx.params.bond_denom) n ≡ b → (b || false) ≡ false
    by true e = absurd (grind (arith, nat_tests))
    by false e = refl

-- coins that move from an account that has them
pub moved_one : (v : View) (from to who : Account) (n : ℕ) → 0 < n → IsBacked v.bank → n ≤ balance_of v.bank from v.ctx.params.bond_denom
    → balance_of (moved from to (bond_coins v n) v.bank) who v.ctx.params.bond_denom + cond (is_at (account_cmp who) from) n 0 ≡ balance_of v.bank who v.ctx.params.bond_denom + cond (is_at (account_cmp who) to) n 0
moved_one v from to who n p b h =
    let d = v.ctx.params.bond_denom in
    let most = balance-most v.bank from d b in
    let few : n ≤ 10 ^ 18 = omega (arith, h, most) in
    let law = moves_by_amounts v.bank from to ((d, n) ∷ []) b (is_money v n p few) (enough_one v from n h) who d in
    subst (λ c. balance_of (moved from to c v.bank) who d + cond (is_at (account_cmp who) from) n 0 ≡ balance_of v.bank who d + cond (is_at (account_cmp who) to) n 0) (sym (bond_is v n p))
    (subst (λ a. balance_of (moved from to ((d, n) ∷ []) v.bank) who d + cond (is_at (account_cmp who) from) a 0 ≡ balance_of v.bank who d + cond (is_at (account_cmp who) to) a 0) (amount-one d n) law)

-- and the bank is still in order
pub moved_backed : (v : View) (from to : Account) (n : ℕ) → 0 < n → IsBacked v.bank → n ≤ balance_of v.bank from v.ctx.params.bond_denom → IsBacked (moved from to (bond_coins v n) v.bank)
moved_backed v from to n p b h =
    let d = v.ctx.params.bond_denom in
    let most = balance-most v.bank from d b in
    let few : n ≤ 10 ^ 18 = omega (arith, h, most) in
    subst (λ c. IsBacked (moved from to c v.bank)) (sym (bond_is v n p)) (backed-moved ((d, n) ∷ []) v.bank from to b (is_money v n p few) (enough_one v from n h))

not_short : (v : View) (who : Account) (n : ℕ) → 0 < n → is_short v.bank who (bond_coins v n) ≡ false → n ≤ balance_of v.bank who v.ctx.params.bond_denom
not_short v who n p h = first_enough v.bank who (v.ctx.params.bond_denom, n) [] (sym (ap (is_short v.bank who) (bond_is v n p)) ∙ h)

-- what both accounts hold of the bond denomination once an amount was paid in
pub record IsPaid (from : Origin) (status : BondStatus) (n : ℕ) (v v2 : View) : Type 0 where
  pub ctx : v2.ctx ≡ v.ctx
  pub bonded : balance_of v2.bank (account.Module holder.Bonded) v.ctx.params.bond_denom + from_bonded from n ≡ balance_of v.bank (account.Module holder.Bonded) v.ctx.params.bond_denom + cond (is_bonded status) n 0
  pub other : balance_of v2.bank (account.Module holder.NotBonded) v.ctx.params.bond_denom + from_other from n ≡ balance_of v.bank (account.Module holder.NotBonded) v.ctx.params.bond_denom + cond (is_bonded status) 0 n
  pub few : n ≤ 10 ^ 18

module _ (v v2 : View) (n : ℕ) (some : 0 < n) (b : IsBacked v.bank) (status : BondStatus) where
  abbrev d : List ℕ
  d = v.ctx.params.bond_denom

  same_pool : (x y : Bool) (m : ℕ) → module_number (if x then holder.Bonded else holder.NotBonded) == module_number (if y then holder.Bonded else holder.NotBonded) ≡ true → (cond x m 0 ≡ cond y m 0) × (cond x 0 m ≡ cond y 0 m)
  same_pool true true m e = (refl, refl)
  same_pool true false m e = absurd cc
  same_pool false true m e = absurd cc
  same_pool false false m e = (refl, refl)

  pub paid-accounts : (from : Origin) (delegator : List ℕ) → CanPay from n v → PaysAs (paid_in from delegator status n v) v2 (Ok tt) → IsPaid from status n v v2
  paid-accounts wallet delegator can h = by (is_short v.bank (account.User delegator) (bond_coins v n)) refl h
    where
      by : (x : Bool) → is_short v.bank (account.User delegator) (bond_coins v n) ≡ x → PaysAs (stop_if x InsufficientFunds >> Ok (sent (account.User delegator) (account.Module (pool_of status)) (bond_coins v n) v)) v2 (Ok tt) → IsPaid wallet status n v v2
      by true e k = absurd k
      by false e k =
          let has = not_short v (account.User delegator) n some e in
          let most = balance-most v.bank (account.User delegator) d b in
          let one = moved_one v (account.User delegator) (account.Module (pool_of status)) (account.Module holder.Bonded) n some b has in
          let two = moved_one v (account.User delegator) (account.Module (pool_of status)) (account.Module holder.NotBonded) n some b has in
          record {
            ctx = ap (λ x. x.ctx) k;
            bonded = ap (λ x. balance_of x.bank (account.Module holder.Bonded) d + 0) k ∙ one ∙ ap (λ m. balance_of v.bank (account.Module holder.Bonded) d + m) (pool_bonded (is_bonded status) n);
            other = ap (λ x. balance_of x.bank (account.Module holder.NotBonded) d + 0) k ∙ two ∙ ap (λ m. balance_of v.bank (account.Module holder.NotBonded) d + m) (pool_other (is_bonded status) n);
            few = omega (arith, has, most);
          }
  paid-accounts (pool old) delegator can h = by (module_number (pool_of old) == module_number (pool_of status)) refl h
    where
      most : n ≤ 10 ^ 18
      most = let m = balance-most v.bank (account.Module (pool_of old)) d b in omega (arith, can, m)

      by : (x : Bool) → (module_number (pool_of old) == module_number (pool_of status)) ≡ x
          → PaysAs (cond x (Ok v) (Ok (sent (account.Module (pool_of old)) (account.Module (pool_of status)) (bond_coins v n) v))) v2 (Ok tt) → IsPaid (pool old) status n v v2
      by true e k = record {
        ctx = ap (λ x. x.ctx) k;
        bonded = ap (λ x. balance_of x.bank (account.Module holder.Bonded) d + cond (is_bonded old) n 0) k ∙ ap (λ m. balance_of v.bank (account.Module holder.Bonded) d + m) (same_pool (is_bonded old) (is_bonded status) n e).0;
        other = ap (λ x. balance_of x.bank (account.Module holder.NotBonded) d + cond (is_bonded old) 0 n) k ∙ ap (λ m. balance_of v.bank (account.Module holder.NotBonded) d + m) (same_pool (is_bonded old) (is_bonded status) n e).1;
        few = most;
      }
      by false e k =
          let one = moved_one v (account.Module (pool_of old)) (account.Module (pool_of status)) (account.Module holder.Bonded) n some b can in
          let two = moved_one v (account.Module (pool_of old)) (account.Module (pool_of status)) (account.Module holder.NotBonded) n some b can in
          record {
            ctx = ap (λ x. x.ctx) k;
            bonded = ap (λ x. balance_of x.bank (account.Module holder.Bonded) d + cond (is_bonded old) n 0) k ∙ ap (λ m. balance_of (moved (account.Module (pool_of old)) (account.Module (pool_of status)) (bond_coins v n) v.bank) (account.Module holder.Bonded) d + m) (sym (pool_bonded (is_bonded old) n)) ∙ one ∙ ap (λ m. balance_of v.bank (account.Module holder.Bonded) d + m) (pool_bonded (is_bonded status) n);
            other = ap (λ x. balance_of x.bank (account.Module holder.NotBonded) d + cond (is_bonded old) 0 n) k ∙ ap (λ m. balance_of (moved (account.Module (pool_of old)) (account.Module (pool_of status)) (bond_coins v n) v.bank) (account.Module holder.NotBonded) d + m) (sym (pool_other (is_bonded old) n)) ∙ two ∙ ap (λ m. balance_of v.bank (account.Module holder.NotBonded) d + m) (pool_other (is_bonded status) n);
            few = most;
          }

-- ---- the accounts hold what is owed from them

pub holds-kept : (N : Type 0) (u v : View) (a b : ℕ) → Keeps N u v → HoldsStake u a b → HoldsStake v a b
holds-kept N u v a b k h = record {
  in_bonded = subst (λ x. a ≤ x) (sym (ap (λ c. balance_of v.bank (account.Module holder.Bonded) c.params.bond_denom) k.ctx ∙ k.bonded u.ctx.params.bond_denom)) h.in_bonded;
  in_not_bonded = subst (λ x. b ≤ x) (sym (ap (λ c. balance_of v.bank (account.Module holder.NotBonded) c.params.bond_denom) k.ctx ∙ k.not_bonded u.ctx.params.bond_denom)) h.in_not_bonded;
}

-- ---- more facts

-- what no hook changes stays as a fact is put at the end
pub keeps-noted : (N : Type 0) (u v : View) (f : Fact) (facts : List Fact) → facts ≡ v.facts ++ f ∷ [] → Keeps N u v → Keeps N u (record v { facts = facts })
keeps-noted N u v f facts e k = record {
  ctx = k.ctx;
  supplies = k.supplies;
  bonded = k.bonded;
  not_bonded = k.not_bonded;
  fee_collector = k.fee_collector;
  distribution = k.distribution;
  facts = (k.facts.0 ++ f ∷ [], e ∙ ap (λ l. l ++ f ∷ []) k.facts.1 ∙ append_assoc u.facts k.facts.0 (f ∷ []));
}

-- and what no hook changes stays over two steps
pub keeps_then : (N M : Type 0) (u v w : View) → (N → M) → Keeps N u v → Keeps M v w → Keeps N u w
keeps_then N M u v w n p q = record {
  ctx = q.ctx ∙ p.ctx;
  supplies = q.supplies ∙ p.supplies;
  bonded = λ d. q.bonded d ∙ p.bonded d;
  not_bonded = λ d. q.not_bonded d ∙ p.not_bonded d;
  fee_collector = λ d. q.fee_collector d ∙ p.fee_collector d;
  distribution = λ m d. q.distribution (n m) d ∙ p.distribution m d;
  facts = (p.facts.0 ++ q.facts.0, q.facts.1 ∙ ap (λ l. l ++ q.facts.0) p.facts.1 ∙ append_assoc u.facts p.facts.0 q.facts.0);
}
