-- The one validator of a trial, jailed.
use Rattle.std.proofs.Common.{◌≡◌, ℕ, Bool, true, false, cond, List, [], ◌∷◌, refl, sym, ap, ◌∙◌, Option, Some, None, option_map, is_some, IsSome, find, Ordering, Less, Equal, Greater, is_eq}
use Rattle.std.specs.{Map.values_of, BTreeMap.is_at, Ordering.match_ordering}
use Rattle.std.proofs.lemmas.Cmp.{nat_list_cmp_total, tied_itself}
use Rattle.base_types.specs.Orders.{addr_cmp, cons_cmp}
use Rattle.base_roles.specs.{declared.entities.Validator.Validator, Entries.at}
use Rattle.base_roles.specs.Staked.{validator_at, validator_by_cons, lists_of}
use Rattle.base_roles.specs.StakeChanges.{but_jailed, SameButJailed, SameButJailedByCons, IsJailed}
use Rattle.base_roles_example.specs.Trials.{under_own, staked_once, HasOne, jailed, jailed_by_cons}

found : (v : Validator) (delegator : List ℕ) (shares : ℕ) (cons : List ℕ) → IsSome (validator_by_cons (staked_once v None delegator shares) cons) → validator_by_cons (staked_once v None delegator shares) cons ≡ Some v
found v delegator shares cons = by (is_eq (cons_cmp v.cons cons))
  where
    by : (b : Bool) → IsSome (cond b (Some v) None) → cond b (Some v) None ≡ Some v
    by true k = refl
    by false k = absurd cc

replaced : (v : Validator) (delegator : List ℕ) (shares : ℕ) → jailed (Some v) (staked_once v None delegator shares) ≡ staked_once (record v { jailed = true }) None delegator shares
replaced v delegator shares =
    ap (λ r. record { validators = match_ordering r ((v.operator, record v { jailed = true }) ∷ (v.operator, v) ∷ []) ((v.operator, record v { jailed = true }) ∷ []) ((v.operator, v) ∷ (v.operator, record v { jailed = true }) ∷ []); delegations = ((v.operator, delegator), shares) ∷ [] })
    (tied_itself nat_list_cmp_total v.operator)

pub jailed-once : (v : Validator) (spare : Option Validator) (delegator : List ℕ) (shares : ℕ) (cons : List ℕ) → HasOne (staked_once v spare delegator shares).validators → IsSome (validator_by_cons (staked_once v spare delegator shares) cons)
    → staked_once (record v { jailed = true }) spare delegator shares ≡ jailed_by_cons cons (staked_once v spare delegator shares)
jailed-once v None delegator shares cons one k = sym (ap (λ o. jailed o (staked_once v None delegator shares)) (found v delegator shares cons k) ∙ replaced v delegator shares)
jailed-once v (Some w) delegator shares cons one k = absurd one

pub is_jailed-once : (v : Validator) (spare : Option Validator) (delegator : List ℕ) (shares : ℕ) (cons : List ℕ) → HasOne (staked_once v spare delegator shares).validators → IsSome (validator_by_cons (staked_once v spare delegator shares) cons)
    → IsJailed cons (staked_once v spare delegator shares) (staked_once (record v { jailed = true }) spare delegator shares)
is_jailed-once v None delegator shares cons one k = (v, (found v delegator shares cons k, sym (replaced v delegator shares)))
is_jailed-once v (Some w) delegator shares cons one k = absurd one

-- ---- who stands where, and what is owed: the spare validator, where there is one, stands as before

same_by : (b : Bool) (v : Validator) (o : Option Validator) → option_map but_jailed (cond b (Some (record v { jailed = true })) o) ≡ option_map but_jailed (cond b (Some v) o)
same_by true v o = refl
same_by false v o = refl

known_by : (b : Bool) (v : Validator) (o : Option Validator) → is_some (cond b (Some (record v { jailed = true })) o) ≡ is_some (cond b (Some v) o)
known_by true v o = refl
known_by false v o = refl

pub same-once : (v : Validator) (spare : Option Validator) (delegator : List ℕ) (shares : ℕ) → SameButJailed (staked_once v spare delegator shares) (staked_once (record v { jailed = true }) spare delegator shares)
same-once v spare delegator shares operator = same_by (is_at (addr_cmp operator) v.operator) v (at addr_cmp (under_own spare) operator)

pub same_by_cons-once : (v : Validator) (spare : Option Validator) (delegator : List ℕ) (shares : ℕ) → SameButJailedByCons (staked_once v spare delegator shares) (staked_once (record v { jailed = true }) spare delegator shares)
same_by_cons-once v spare delegator shares cons = same_by (is_eq (cons_cmp v.cons cons)) v (find (λ w. is_eq (cons_cmp w.cons cons)) (values_of (under_own spare)))

pub lists-once : (v : Validator) (spare : Option Validator) (delegator : List ℕ) (shares : ℕ) → lists_of (staked_once (record v { jailed = true }) spare delegator shares) ≡ lists_of (staked_once v spare delegator shares)
lists-once v spare delegator shares = λ i. record { operators = λ o. known_by (is_at (addr_cmp o) v.operator) v (at addr_cmp (under_own spare) o) i; started = (lists_of (staked_once v spare delegator shares)).started }

-- ---- where the validator is not asked for, the spare one is found under its operator

not_equal : (r : Ordering) → ¬ (r ≡ Equal) → is_eq r ≡ false
not_equal Less n = refl
not_equal Equal n = absurd (n refl)
not_equal Greater n = refl

pub spare_at-once : (v : Validator) (spare : Option Validator) (delegator : List ℕ) (shares : ℕ) (operator : List ℕ) (w : Validator) → spare ≡ Some w → ¬ (addr_cmp operator v.operator ≡ Equal) → addr_cmp operator w.operator ≡ Equal
    → Some w ≡ validator_at (staked_once v spare delegator shares) operator
spare_at-once v spare delegator shares operator w e n t =
    sym
    (ap (λ o. validator_at (staked_once v o delegator shares) operator) e
    ∙ ap (λ b. cond b (Some v) (cond (is_eq (addr_cmp operator w.operator)) (Some w) None)) (not_equal (addr_cmp operator v.operator) n)
    ∙ ap (λ r. cond (is_eq r) (Some w) None) t)
