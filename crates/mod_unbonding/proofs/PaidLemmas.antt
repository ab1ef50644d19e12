-- What paying the mature entries of one key leaves of the accounts, and of the entries.
use Rattle.std.proofs.Common.{◌≡◌, ◌∙◌, ℕ, ◌+◌, ◌*◌, ◌<◌, ◌≤◌, Bool, true, false, cond, not, List, [], ◌∷◌, drop, length, refl, sym, ap, subst, arith, zero, suc, filter}
use Rattle.base_types.specs.declared.account.Account.TheVariants as account
use Rattle.base_types.specs.declared.account.Module.TheVariants as holder
use Rattle.base_roles.specs.{declared.entities.UnbondingEntry.UnbondingEntry, Holdings.{balance_of, IsBacked}}
use Rattle.base_roles.specs.{StakeChanges.HoldsStake, World.{View, sent}, declared.params.Ctx.Ctx}
use Rattle.rule_modules.specs.{Amounts.{bond_coins, count_where}, Owed.balances_of, Unbondings.{is_mature, paid_back}}
use Rattle.mod_entries.proofs.CountLemmas.{drop_end}
use Rattle.mod_unbonding.{specs.Calls.mature_balances, proofs.ChangeLemmas.balances-cons}
use Rattle.mod_staking.proofs.GroundLemmas.{moved_one, moved_backed}

-- ---- one payment

-- an amount of the bond denomination went from the not-bonded account to a delegator
abbrev pub paid_out : List ℕ → ℕ → View → View
paid_out delegator n v = sent (account.Module holder.NotBonded) (account.User delegator) (bond_coins v n) v

pub record IsPaidOut (n : ℕ) (v v2 : View) : Type 0 where
  pub backed : IsBacked v2.bank
  pub bonded : balance_of v2.bank (account.Module holder.Bonded) v.ctx.params.bond_denom ≡ balance_of v.bank (account.Module holder.Bonded) v.ctx.params.bond_denom
  pub other : balance_of v2.bank (account.Module holder.NotBonded) v.ctx.params.bond_denom + n ≡ balance_of v.bank (account.Module holder.NotBonded) v.ctx.params.bond_denom

no_more : (a b : ℕ) → a + 0 ≡ b + 0 → a ≡ b
no_more a b e = omega (arith, e)

no_gain : (a b n : ℕ) → a + n ≡ b + 0 → a + n ≡ b
no_gain a b n e = omega (arith, e)

pub is_paid_out : (delegator : List ℕ) (n : ℕ) (v : View) → IsBacked v.bank → n ≤ balance_of v.bank (account.Module holder.NotBonded) v.ctx.params.bond_denom → IsPaidOut n v (paid_out delegator n v)
is_paid_out delegator zero v b h = record { backed = b; bonded = refl; other = omega arith }
is_paid_out delegator (suc n) v b h =
    let from = account.Module holder.NotBonded in
    let to = account.User delegator in
    let some : 0 < suc n = omega arith in
    record {
      backed = moved_backed v from to (suc n) some b h;
      bonded = no_more _ _ (moved_one v from to (account.Module holder.Bonded) (suc n) some b h);
      other = no_gain _ _ _ (moved_one v from to (account.Module holder.NotBonded) (suc n) some b h);
    }

-- ---- the mature balances

-- the balance, if the entry is mature
abbrev pub balance_if : Bool → UnbondingEntry → ℕ
balance_if b e = cond b e.balance 0

pub mature-cons : (now : ℕ) (e : UnbondingEntry) (es : List UnbondingEntry) → mature_balances now (e ∷ es) ≡ balance_if (is_mature now e) e + mature_balances now es
mature-cons now e es = by (is_mature now e)
  where
    rest : List UnbondingEntry
    rest = filter (is_mature now) es

    by : (b : Bool) → balances_of (cond b (e ∷ rest) rest) ≡ balance_if b e + balances_of rest
    by true = balances-cons e rest
    by false = omega arith

-- the balances of mature entries and of the others are those of all
pub mature-left : (now : ℕ) (es : List UnbondingEntry) → mature_balances now es + balances_of (filter (λ e. not (is_mature now e)) es) ≡ balances_of es
mature-left now [] = refl
mature-left now (e ∷ es) = by (is_mature now e) (mature-cons now e es) (mature-left now es)
  where
    rest : List UnbondingEntry
    rest = filter (λ x. not (is_mature now x)) es

    by : (b : Bool) → mature_balances now (e ∷ es) ≡ balance_if b e + mature_balances now es → mature_balances now es + balances_of rest ≡ balances_of es
        → mature_balances now (e ∷ es) + balances_of (cond (not b) (e ∷ rest) rest) ≡ balances_of (e ∷ es)
    by true c later = let all = balances-cons e es in let goal : mature_balances now (e ∷ es) + balances_of rest ≡ balances_of (e ∷ es) = omega (arith, c, later, all) in goal
    by false c later =
        let all = balances-cons e es in
        let kept = balances-cons e rest in
        let goal : mature_balances now (e ∷ es) + balances_of (e ∷ rest) ≡ balances_of (e ∷ es) = omega (arith, c, later, all, kept) in
        goal

-- ---- all payments

module _ (delegator : List ℕ) where
  pub ctx-paid : (es : List UnbondingEntry) (v : View) → (paid_back delegator es v).ctx ≡ v.ctx
  ctx-paid [] v = refl
  ctx-paid (e ∷ es) v = by (is_mature v.ctx.time e) (ctx-paid es (paid_out delegator e.balance v)) (ctx-paid es v)
    where
      by : (b : Bool) → (paid_back delegator es (paid_out delegator e.balance v)).ctx ≡ v.ctx → (paid_back delegator es v).ctx ≡ v.ctx → (cond b (paid_back delegator es (paid_out delegator e.balance v)) (paid_back delegator es v)).ctx ≡ v.ctx
      by true x y = x
      by false x y = y

  abbrev pub IsHeld : ℕ → ℕ → View → Type 0
  IsHeld bonded other v = IsBacked v.bank × HoldsStake v bonded other

  less : (other n more had has : ℕ) → other + (n + more) ≤ had → has + n ≡ had → other + more ≤ has
  less other n more had has p e = omega (arith, p, e)

  -- the accounts hold what they held, but for the mature balances
  pub held-paid : (es : List UnbondingEntry) (v : View) (bonded other : ℕ) → IsBacked v.bank → HoldsStake v bonded (other + mature_balances v.ctx.time es) → IsHeld bonded other (paid_back delegator es v)
  held-paid [] v bonded other b h = (b, record { in_bonded = h.in_bonded; in_not_bonded = let a = h.in_not_bonded in omega (arith, a) })
  held-paid (e ∷ es) v bonded other b h =
      by (is_mature v.ctx.time e) (mature-cons v.ctx.time e es) (λ k p. held-paid es (paid_out delegator e.balance v) bonded other k p) (λ p. held-paid es v bonded other b p)
    where
      by : (c : Bool) → mature_balances v.ctx.time (e ∷ es) ≡ balance_if c e + mature_balances v.ctx.time es
          → (IsBacked (paid_out delegator e.balance v).bank → HoldsStake (paid_out delegator e.balance v) bonded (other + mature_balances v.ctx.time es) → IsHeld bonded other (paid_back delegator es (paid_out delegator e.balance v)))
          → (HoldsStake v bonded (other + mature_balances v.ctx.time es) → IsHeld bonded other (paid_back delegator es v))
          → IsHeld bonded other (cond c (paid_back delegator es (paid_out delegator e.balance v)) (paid_back delegator es v))
      by true m go stay =
          let has = h.in_not_bonded in
          let enough : e.balance ≤ balance_of v.bank (account.Module holder.NotBonded) v.ctx.params.bond_denom = omega (arith, has, m) in
          let all : other + (e.balance + mature_balances v.ctx.time es) ≤ balance_of v.bank (account.Module holder.NotBonded) v.ctx.params.bond_denom = omega (arith, has, m) in
          let one = is_paid_out delegator e.balance v b enough in
          go one.backed (record {
            in_bonded = subst (λ x. bonded ≤ x) (sym one.bonded) h.in_bonded;
            in_not_bonded = less other e.balance (mature_balances v.ctx.time es) _ _ all one.other;
          })
      by false m go stay = stay (record { in_bonded = h.in_bonded; in_not_bonded = let a = h.in_not_bonded in omega (arith, a, m) })

-- ---- one entry after another

-- the not-bonded account has the mature balances of entries
pub record CanPay (es : List UnbondingEntry) (v : View) : Type 0 where
  pub backed : IsBacked v.bank
  pub enough : mature_balances v.ctx.time es ≤ balance_of v.bank (account.Module holder.NotBonded) v.ctx.params.bond_denom

module _ (delegator : List ℕ) (e : UnbondingEntry) (rest es : List UnbondingEntry) (v v2 : View) (left : es ≡ e ∷ rest) where
  paid-cons : paid_back delegator (e ∷ rest) v ≡ paid_back delegator rest (paid_back delegator (e ∷ []) v)
  paid-cons = by (is_mature v.ctx.time e)
    where
      by : (b : Bool) → cond b (paid_back delegator rest (paid_out delegator e.balance v)) (paid_back delegator rest v) ≡ paid_back delegator rest (cond b (paid_out delegator e.balance v) v)
      by true = refl
      by false = refl

  pub paid-next : v2 ≡ paid_back delegator (e ∷ []) v → paid_back delegator rest v2 ≡ paid_back delegator es v
  paid-next p = ap (paid_back delegator rest) p ∙ sym paid-cons ∙ ap (λ l. paid_back delegator l v) (sym left)

  one_paid : (b : Bool) → is_mature v.ctx.time e ≡ b → CanPay (e ∷ rest) v → balance_of (cond b (paid_out delegator e.balance v) v).bank (account.Module holder.NotBonded) v.ctx.params.bond_denom + balance_if b e
      ≡ balance_of v.bank (account.Module holder.NotBonded) v.ctx.params.bond_denom
  one_paid true q c =
      let has = c.enough in
      let m = mature-cons v.ctx.time e rest in
      let one : balance_if (is_mature v.ctx.time e) e ≡ e.balance = ap (λ b. balance_if b e) q in
      (is_paid_out delegator e.balance v c.backed (omega (arith, has, m, one))).other
  one_paid false q c = omega arith

  enough_left : (total one rest2 had has : ℕ) → total ≡ one + rest2 → total ≤ had → has + one ≡ had → rest2 ≤ has
  enough_left total one rest2 had has p q r = omega (arith, p, q, r)

  pub can_pay-next : v2 ≡ paid_back delegator (e ∷ []) v → CanPay es v → IsBacked v2.bank → CanPay rest v2
  can_pay-next p c backed =
      let whole = subst (λ l. CanPay l v) left c in
      let paid = one_paid (is_mature v.ctx.time e) refl whole in
      record {
        backed = backed;
        enough = subst (λ (x : View). mature_balances x.ctx.time rest ≤ balance_of x.bank (account.Module holder.NotBonded) x.ctx.params.bond_denom) (sym p)
            (subst (λ (k : Ctx). mature_balances k.time rest ≤ balance_of (paid_back delegator (e ∷ []) v).bank (account.Module holder.NotBonded) k.params.bond_denom) (sym (ctx-paid delegator (e ∷ []) v))
            (enough_left (mature_balances v.ctx.time (e ∷ rest)) (balance_if (is_mature v.ctx.time e) e) _ _ _ (mature-cons v.ctx.time e rest) whole.enough paid));
      }

pub one-enough : (e : UnbondingEntry) (rest es : List UnbondingEntry) (v : View) → es ≡ e ∷ rest → CanPay es v → is_mature v.ctx.time e ≡ true → e.balance ≤ balance_of v.bank (account.Module holder.NotBonded) v.ctx.params.bond_denom
one-enough e rest es v left c q =
    let has = (subst (λ l. CanPay l v) left c).enough in
    let m = mature-cons v.ctx.time e rest in
    let one : balance_if (is_mature v.ctx.time e) e ≡ e.balance = ap (λ b. balance_if b e) q in
    omega (arith, has, m, one)

pub paid-cost : (now : ℕ) (e : UnbondingEntry) (rest es : List UnbondingEntry) → es ≡ e ∷ rest → (steps steps2 most : ℕ) → steps2 ≤ steps + cond (is_mature now e) 8 0 → steps + 8 * count_where (is_mature now) es ≤ most
    → steps2 + 8 * count_where (is_mature now) rest ≤ most
paid-cost now e rest es left steps steps2 most p q = by (is_mature now e) p (subst (λ l. steps + 8 * count_where (is_mature now) l ≤ most) left q)
  where
    by : (b : Bool) → steps2 ≤ steps + cond b 8 0 → steps + 8 * (cond b 1 0 + count_where (is_mature now) rest) ≤ most → steps2 + 8 * count_where (is_mature now) rest ≤ most
    by true x y = omega (arith, x, y)
    by false x y = omega (arith, x, y)

pub paid-end : (delegator : List ℕ) (es : List UnbondingEntry) (i : ℕ) (v : View) → length es ≤ i → v ≡ paid_back delegator (drop i es) v
paid-end delegator es i v h = ap (λ l. paid_back delegator l v) (sym (drop_end es i h))
