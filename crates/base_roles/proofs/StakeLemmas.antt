-- Of slashes: what the staking accounts still hold, and for whom hooks still stand.
use Rattle.std.proofs.Common.{◌≡◌, ◌∙◌, ℕ, ◌+◌, ◌≤◌, false, List, refl, sym, ap, subst, arith, Result, Ok, Err, OnOk, Some, IsSome, is_some, not, if◌then◌else◌, is_eq}
use Rattle.base_types.specs.declared.account.Account.TheVariants as account
use Rattle.base_types.specs.declared.account.Module.TheVariants as holder
use Rattle.base_coins.proofs.Amounts.{itself}
use Rattle.base_roles.specs.{declared.{entities.Validator.Validator, facts.Fact.Fact}, Ground.IsInOrder}
use Rattle.base_roles.specs.{Hooks.{Tells, Stands}, Owing.Lists, Lent.IsBurned, Holdings.balance_of}
use Rattle.base_roles.specs.Staked.{Staked, validator_by_cons, is_unbonded}
use Rattle.base_roles.specs.{StakeChanges.{of_bond, HoldsStake, StakeFalls, StillStand, StillStandByCons}, World.View}
use Rattle.base_roles.proofs.HookLemmas.{Stand-same}

own_bond : (v : View) (n : ℕ) → of_bond v v.ctx.params.bond_denom n ≡ n
own_bond v n = ap (λ r. if is_eq r then n else 0) (itself v.ctx.params.bond_denom)

still_enough : (old new owed owed2 : ℕ) → new + owed ≡ old + owed2 → owed ≤ old → owed2 ≤ new
still_enough old new owed owed2 e h = omega (arith, e, h)

-- an account that lost no more than what is owed from it fell has what is owed then
account-left : (old new : View) (balance balance2 owed owed2 : ℕ)
    → balance2 + of_bond old old.ctx.params.bond_denom owed ≡ balance + of_bond old old.ctx.params.bond_denom owed2 → owed ≤ balance → owed2 ≤ balance2
account-left old new balance balance2 owed owed2 e h =
    still_enough balance balance2 owed owed2 (sym (ap (λ n. balance2 + n) (own_bond old owed)) ∙ e ∙ ap (λ n. balance + n) (own_bond old owed2)) h

-- the accounts have what is owed from them once each lost as much as that fell
pub holds-fallen : (old new : View) (b o b2 o2 : ℕ) → new.ctx ≡ old.ctx → StakeFalls old new b o b2 o2 → HoldsStake old b o → HoldsStake new b2 o2
holds-fallen old new b o b2 o2 c f h =
    let d = old.ctx.params.bond_denom in record {
      in_bonded = subst (λ x. b2 ≤ balance_of new.bank (account.Module holder.Bonded) x.params.bond_denom) (sym c) (account-left old new _ _ b b2 (f.from_bonded d) h.in_bonded);
      in_not_bonded = subst (λ x. o2 ≤ balance_of new.bank (account.Module holder.NotBonded) x.params.bond_denom) (sym c) (account-left old new _ _ o o2 (f.from_not_bonded d) h.in_not_bonded);
    }

-- the same of as much, where what is owed has not changed
pub holds-same : (v : View) (b o b2 o2 : ℕ) → b2 ≡ b → o2 ≡ o → HoldsStake v b o → HoldsStake v b2 o2
holds-same v b o b2 o2 e f h = subst (λ n. HoldsStake v n o2) (sym e) (subst (λ n. HoldsStake v b n) (sym f) h)

-- the accounts have what is owed from them, whatever the facts
pub holds-noted : (v : View) (facts : List Fact) (b o : ℕ) → HoldsStake v b o → HoldsStake (record v { facts = facts }) b o
holds-noted v facts b o h = record { in_bonded = h.in_bonded; in_not_bonded = h.in_not_bonded }

-- The accounts have what is owed from them after a slash, and still after a jailing, which tells facts and leaves what is
-- owed.
pub holds-jailed : (old v : View) (facts : List Fact) (b o b1 o1 b2 o2 : ℕ) → v.ctx ≡ old.ctx → StakeFalls old v b o b1 o1 → b2 ≡ b1 → o2 ≡ o1 → HoldsStake old b o → HoldsStake (record v { facts = facts }) b2 o2
holds-jailed old v facts b o b1 o1 b2 o2 c f e g h = holds-same (record v { facts = facts }) b1 o1 b2 o2 e g (holds-noted v facts b1 o1 (holds-fallen old v b o b1 o1 c f h))

-- what follows of a clause on an answer of Ok
pub on_ok : {A E P Q : Type 0} (r : Result A E) → (P → Q) → OnOk r P → OnOk r Q
on_ok (Ok a) f p = f p
on_ok (Err e) f p = tt

-- what follows of two
pub on_both : {A E P Q T : Type 0} (r : Result A E) → (P → Q → T) → OnOk r P → OnOk r Q → OnOk r T
on_both (Ok a) f p q = f p q
on_both (Err e) f p q = tt

-- who stands after one change and another
pub still-then : (s s1 s2 : Staked) → StillStand s s1 → StillStand s1 s2 → StillStand s s2
still-then s s1 s2 a b = λ o x e n.
    let first = a o x e n in
    let second = b o first.0 first.1.0 (ap (λ y. is_unbonded y) first.1.2 ∙ n) in
    (second.0, (second.1.0, second.1.1 ∙ first.1.1, second.1.2 ∙ first.1.2))

-- it still stands after a slash
pub still_known : (old new : Staked) (cons : List ℕ) → StillStandByCons old new → (v : Validator) × ((validator_by_cons old cons ≡ Some v) × (is_unbonded v.status ≡ false)) → IsSome (validator_by_cons new cons)
still_known old new cons still p = ap is_some (still cons p.0 p.1.0 p.1.1).1.0

-- the account holds what is owed besides
pub holds-part : (v : View) (b o n : ℕ) → HoldsStake v b (o + n) → HoldsStake v b o
holds-part v b o n h = let k = h.in_not_bonded in record { in_bonded = h.in_bonded; in_not_bonded = omega (arith, k) }

pub holds-rest : (v : View) (b o n : ℕ) → HoldsStake v b (o + n) → HoldsStake v 0 n
holds-rest v b o n h = let k = h.in_not_bonded in record { in_bonded = omega arith; in_not_bonded = omega (arith, k) }

more_enough : (old new o n n2 : ℕ) → new + n ≡ old + n2 → o + n ≤ old → o + n2 ≤ new
more_enough old new o n n2 e h = omega (arith, e, h)

-- as much of what entries owed burned as is no longer owed
pub holds-burned : (old new : View) (b o n n2 : ℕ) → new.ctx ≡ old.ctx → IsBurned old new n n2 → HoldsStake old b (o + n) → HoldsStake new b (o + n2)
holds-burned old new b o n n2 c f h =
    let d = old.ctx.params.bond_denom in
    let lost = sym (ap (λ m. balance_of new.bank (account.Module holder.NotBonded) d + m) (own_bond old n)) ∙ f.from_not_bonded d ∙ ap (λ m. balance_of old.bank (account.Module holder.NotBonded) d + m) (own_bond old n2) in
    record {
      in_bonded = subst (λ x. b ≤ balance_of new.bank (account.Module holder.Bonded) x.params.bond_denom) (sym c) (subst (λ m. b ≤ m) (sym (f.others (account.Module holder.Bonded) d refl)) h.in_bonded);
      in_not_bonded = subst (λ x. o + n2 ≤ balance_of new.bank (account.Module holder.NotBonded) x.params.bond_denom) (sym c) (more_enough _ _ o n n2 lost h.in_not_bonded);
    }

-- hooks stand as before
pub stands-burned : {S : Type 0} (t : Tells S) (holds : S → Type 0) (old new : View) (n n2 : ℕ) (l : Lists) → new.ctx ≡ old.ctx → IsBurned old new n n2 → IsInOrder new → Stands holds t old l → Stands holds t new l
stands-burned t holds old new n n2 l c f i p = (p.0, (p.1.0, Stand-same t p.0 old new l c (λ d. f.others (account.Module holder.Distribution) d refl) i p.1.1))
