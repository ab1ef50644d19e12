-- How what the staking accounts lost over one step and another adds up.
use Rattle.std.proofs.Common.{◌≡◌, ◌∙◌, ℕ, ◌+◌, Bool, true, false, cond, List, refl, ap, subst, arith}
use Rattle.std.specs.BTreeMap.{is_at}
use Rattle.base_types.specs.declared.account.Account.TheVariants as account
use Rattle.base_types.specs.declared.account.Module.TheVariants as holder
use Rattle.base_types.specs.Orders.{denom_cmp}
use Rattle.base_roles.specs.{declared.params.Ctx.Ctx, Lent.IsBurned, StakeChanges.{of_bond, StakeFalls}, World.View}

-- so much of the bond denomination has a sum's parts
parts : (v : View) (d : List ℕ) (m n : ℕ) → of_bond v d (m + n) ≡ of_bond v d m + of_bond v d n
parts v d m n = by (is_at (denom_cmp v.ctx.params.bond_denom) d)
  where
    by : (b : Bool) → cond b (m + n) 0 ≡ cond b m 0 + cond b n 0
    by true = refl
    by false = refl

-- what is owed besides
besides : (v : View) (d : List ℕ) (b o n : ℕ) → of_bond v d (b + (o + n)) ≡ of_bond v d (b + o) + of_bond v d n
besides v d b o n = ap (of_bond v d) (assoc b o n) ∙ parts v d (b + o) n
  where
    assoc : (x y z : ℕ) → x + (y + z) ≡ x + y + z
    assoc x y z = omega arith

-- what burned of entries is what is no longer owed to them, beside validators
less : (x x2 m m2 a a_m a_m2 : ℕ) → x2 + m ≡ x + m2 → a_m ≡ a + m → a_m2 ≡ a + m2 → x2 + a_m ≡ x + a_m2
less x x2 m m2 a a_m a_m2 p e f = omega (arith, p, e, f)

pub falls-burned : (v v2 : View) (b o n n2 : ℕ) → IsBurned v v2 n n2 → StakeFalls v v2 b (o + n) b (o + n2)
falls-burned v v2 b o n n2 p = record {
  from_bonded = λ d. ap (λ m. m + of_bond v d b) (p.others (account.Module holder.Bonded) d refl);
  from_not_bonded = λ d. less _ _ (of_bond v d n) (of_bond v d n2) (of_bond v d o) (of_bond v d (o + n)) (of_bond v d (o + n2)) (p.from_not_bonded d) (parts v d o n) (parts v d o n2);
  supply = λ d. less _ _ (of_bond v d n) (of_bond v d n2) (of_bond v d (b + o)) (of_bond v d (b + (o + n))) (of_bond v d (b + (o + n2))) (p.supply d) (besides v d b o n) (besides v d b o n2);
}

-- what is owed besides, and stays, falls with neither
more : (x x2 m m2 n a_m a_m2 : ℕ) → x2 + m ≡ x + m2 → a_m ≡ m + n → a_m2 ≡ m2 + n → x2 + a_m ≡ x + a_m2
more x x2 m m2 n a_m a_m2 p e f = omega (arith, p, e, f)

pub falls-beside : (v v2 : View) (b o b2 o2 n : ℕ) → StakeFalls v v2 b o b2 o2 → StakeFalls v v2 b (o + n) b2 (o2 + n)
falls-beside v v2 b o b2 o2 n p = record {
  from_bonded = p.from_bonded;
  from_not_bonded = λ d. more _ _ (of_bond v d o) (of_bond v d o2) (of_bond v d n) (of_bond v d (o + n)) (of_bond v d (o2 + n)) (p.from_not_bonded d) (parts v d o n) (parts v d o2 n);
  supply = λ d. more _ _ (of_bond v d (b + o)) (of_bond v d (b2 + o2)) (of_bond v d n) (of_bond v d (b + (o + n))) (of_bond v d (b2 + (o2 + n))) (p.supply d) (besides v d b o n) (besides v d b2 o2 n);
}

-- one step after another
pub falls-then : (v v1 v2 : View) (b o b1 o1 b2 o2 : ℕ) → v1.ctx ≡ v.ctx → StakeFalls v v1 b o b1 o1 → StakeFalls v1 v2 b1 o1 b2 o2 → StakeFalls v v2 b o b2 o2
falls-then v v1 v2 b o b1 o1 b2 o2 c p q = record {
  from_bonded = λ d. together _ _ _ _ _ _ (p.from_bonded d) (here d _ _ _ _ (q.from_bonded d));
  from_not_bonded = λ d. together _ _ _ _ _ _ (p.from_not_bonded d) (here d _ _ _ _ (q.from_not_bonded d));
  supply = λ d. together _ _ _ _ _ _ (p.supply d) (here d _ _ _ _ (q.supply d));
}
  where
    together : (x x1 x2 m m1 m2 : ℕ) → x1 + m ≡ x + m1 → x2 + m1 ≡ x1 + m2 → x2 + m ≡ x + m2
    together x x1 x2 m m1 m2 e f = omega (arith, e, f)

    here : (d : List ℕ) (m n x y : ℕ) → x + of_bond v1 d m ≡ y + of_bond v1 d n → x + of_bond v d m ≡ y + of_bond v d n
    here d m n x y e = subst (λ (k : Ctx). x + cond (is_at (denom_cmp k.params.bond_denom) d) m 0 ≡ y + cond (is_at (denom_cmp k.params.bond_denom) d) n 0) c e
