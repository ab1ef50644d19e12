-- Validators of a genesis of which no condition holds enter one after the other: each is new, under its operator and by its
-- consensus address, and its rates are rates.
use Rattle.std.proofs.Common.{◌≡◌, ◌∙◌, ℕ, ◌^◌, ◌≤◌, Bool, true, false, cond, nat_lt, List, [], ◌∷◌, Some, None, refl, ap, arith, ◌||◌, All, find, map, Ordering, Less, Equal, Greater, is_eq}
use Rattle.std.specs.{List.list_any, Ordering.match_ordering, BTreeMap.{insert_entry, is_at}, Map.values_of}
use Rattle.std.proofs.lemmas.{Bool.Decides.nat_tests, List.Elements.{All-nil, All-cons, All-head, All-tail}}
use Rattle.base_types.specs.Orders.{addr_cmp, cons_cmp}
use Rattle.base_roles.specs.{declared.{entities.Validator.Validator, params.Params.Params}, Orders.same_addr}
use Rattle.base_roles.specs.{Staked.{Staked, validator_at, validator_by_cons, put_validator}, World.View}
use Rattle.base_messages.specs.declared.genesis.{Genesis.Genesis, GenesisValidator.GenesisValidator}
use Rattle.rule_modules.{specs.Validators.are_out_of_range, proofs.OrderLemmas.same_back}
use Rattle.rule_machine.specs.GenesisConditions.{creation_of, has_operator_twice, has_cons_twice, has_wrong_rate, start_condition}
use Rattle.rule_machine.proofs.{StakeLemmas.{Validators, found-put}, StartLemmas.{may_start, entrant, no_stake}}

-- validators that are still to come: none stands, by its operator or its consensus address, none of them is there twice, and
-- their rates are rates
pub record IsEntering (p : Params) (todo : List GenesisValidator) (s : Staked) : Type 0 where
  pub new : All (λ x. validator_at s x.operator ≡ None) todo
  pub new_cons : All (λ x. validator_by_cons s x.cons ≡ None) todo
  pub operators : has_operator_twice todo ≡ false
  pub cons : has_cons_twice todo ≡ false
  pub rates : has_wrong_rate p todo ≡ false

either_false : (a b : Bool) → (a || b) ≡ false → (a ≡ false) × (b ≡ false)
either_false true b e = absurd cc
either_false false b e = (refl, e)

-- ---- the first of them stands

-- the validator with a consensus address, if it is this one
abbrev of_cons : List ℕ → Validator → Bool
of_cons cons v = is_eq (cons_cmp v.cons cons)

passed_over : (cons : List ℕ) (v : Validator) (vs : List Validator) → find (of_cons cons) (v ∷ vs) ≡ None → (of_cons cons v ≡ false) × (find (of_cons cons) vs ≡ None)
passed_over cons v vs e = by (of_cons cons v) e
  where
    by : (b : Bool) → cond b (Some v) (find (of_cons cons) vs) ≡ None → (b ≡ false) × (find (of_cons cons) vs ≡ None)
    by true h = absurd cc
    by false h = (refl, h)

pass_over : (cons : List ℕ) (v : Validator) (vs : List Validator) → of_cons cons v ≡ false → find (of_cons cons) vs ≡ None → find (of_cons cons) (v ∷ vs) ≡ None
pass_over cons v vs e f = ap (λ b. cond b (Some v) (find (of_cons cons) vs)) e ∙ f

none-put : (cons k : List ℕ) (w : Validator) (es : Validators) → of_cons cons w ≡ false → find (of_cons cons) (values_of es) ≡ None → find (of_cons cons) (values_of (insert_entry addr_cmp es k w)) ≡ None
none-put cons k w [] e f = pass_over cons w [] e refl
none-put cons k w (x ∷ es) e f =
    let parts = passed_over cons x.1 (values_of es) f in
    by (addr_cmp k x.0) parts.0 parts.1 (none-put cons k w es e parts.1)
  where
    by : (r : Ordering) → of_cons cons x.1 ≡ false → find (of_cons cons) (values_of es) ≡ None → find (of_cons cons) (values_of (insert_entry addr_cmp es k w)) ≡ None
        → find (of_cons cons) (values_of (match_ordering r ((k, w) ∷ x ∷ es) ((x.0, w) ∷ es) (x ∷ insert_entry addr_cmp es k w))) ≡ None
    by Less a b later = pass_over cons w (x.1 ∷ values_of es) e (pass_over cons x.1 (values_of es) a b)
    by Equal a b later = pass_over cons w (values_of es) e b
    by Greater a b later = pass_over cons x.1 (values_of (insert_entry addr_cmp es k w)) a later

module _ (v : View) (x : GenesisValidator) (s : Staked) where
  still_new : (todo : List GenesisValidator) → list_any (is_at (addr_cmp x.operator)) (map (λ y. y.operator) todo) ≡ false → All (λ y. validator_at s y.operator ≡ None) todo
      → All (λ y. validator_at (put_validator (entrant v x) s) y.operator ≡ None) todo
  still_new [] e h = All-nil (λ (y : GenesisValidator). validator_at (put_validator (entrant v x) s) y.operator ≡ None)
  still_new (y ∷ todo) e h =
      let parts = either_false (same_addr x.operator y.operator) (list_any (is_at (addr_cmp x.operator)) (map (λ (z : GenesisValidator). z.operator) todo)) e in
      let other : same_addr y.operator x.operator ≡ false = same_back y.operator x.operator ∙ parts.0 in
      let none = All-head (λ (z : GenesisValidator). validator_at s z.operator ≡ None) y todo h in
      All-cons (λ (z : GenesisValidator). validator_at (put_validator (entrant v x) s) z.operator ≡ None) y todo
      (found-put s.validators x.operator y.operator (entrant v x) ∙ ap (λ b. cond b (Some (entrant v x)) (validator_at s y.operator)) other ∙ none)
      (still_new todo parts.1 (All-tail (λ (z : GenesisValidator). validator_at s z.operator ≡ None) y todo h))

  still_new_cons : (todo : List GenesisValidator) → list_any (is_at (cons_cmp x.cons)) (map (λ y. y.cons) todo) ≡ false → All (λ y. validator_by_cons s y.cons ≡ None) todo
      → All (λ y. validator_by_cons (put_validator (entrant v x) s) y.cons ≡ None) todo
  still_new_cons [] e h = All-nil (λ (y : GenesisValidator). validator_by_cons (put_validator (entrant v x) s) y.cons ≡ None)
  still_new_cons (y ∷ todo) e h =
      let parts = either_false (is_at (cons_cmp x.cons) y.cons) (list_any (is_at (cons_cmp x.cons)) (map (λ (z : GenesisValidator). z.cons) todo)) e in
      All-cons (λ (z : GenesisValidator). validator_by_cons (put_validator (entrant v x) s) z.cons ≡ None) y todo
      (none-put y.cons x.operator (entrant v x) s.validators parts.0 (All-head (λ (z : GenesisValidator). validator_by_cons s z.cons ≡ None) y todo h))
      (still_new_cons todo parts.1 (All-tail (λ (z : GenesisValidator). validator_by_cons s z.cons ≡ None) y todo h))

-- The first of those that are to come: it may enter, and then the others are to come.
pub record Enters (p : Params) (x : GenesisValidator) (todo : List GenesisValidator) (s : Staked) (v : View) : Type 0 where
  pub new : validator_at s x.operator ≡ None
  pub new_cons : validator_by_cons s x.cons ≡ None
  pub max_rate : x.max_rate ≤ 10 ^ 18
  pub rate : x.rate ≤ x.max_rate
  pub max_change : x.max_change_rate ≤ x.max_rate
  pub least_rate : p.min_commission_rate ≤ x.rate
  pub entering : IsEntering p todo (put_validator (entrant v x) s)

at_most : (a b : ℕ) → nat_lt a b ≡ false → b ≤ a
at_most a b e = grind (arith, nat_tests)

pub one_enters : (p : Params) (x : GenesisValidator) (todo : List GenesisValidator) (s : Staked) (v : View) → IsEntering p (x ∷ todo) s → Enters p x todo s v
one_enters p x todo s v is =
    let rates = either_false (are_out_of_range (creation_of p.bond_denom x) || nat_lt x.rate p.min_commission_rate) (has_wrong_rate p todo) is.rates in
    let both = either_false (are_out_of_range (creation_of p.bond_denom x)) (nat_lt x.rate p.min_commission_rate) rates.0 in
    let first = either_false (nat_lt (10 ^ 18) x.max_rate || nat_lt x.max_rate x.rate) (nat_lt x.max_rate x.max_change_rate) both.0 in
    let two = either_false (nat_lt (10 ^ 18) x.max_rate) (nat_lt x.max_rate x.rate) first.0 in
    let operators = either_false (list_any (is_at (addr_cmp x.operator)) (map (λ (y : GenesisValidator). y.operator) todo)) (has_operator_twice todo) is.operators in
    let cons = either_false (list_any (is_at (cons_cmp x.cons)) (map (λ (y : GenesisValidator). y.cons) todo)) (has_cons_twice todo) is.cons in
    record {
      new = All-head (λ (y : GenesisValidator). validator_at s y.operator ≡ None) x todo is.new;
      new_cons = All-head (λ (y : GenesisValidator). validator_by_cons s y.cons ≡ None) x todo is.new_cons;
      max_rate = at_most (10 ^ 18) x.max_rate two.0;
      rate = at_most x.max_rate x.rate two.1;
      max_change = at_most x.max_rate x.max_change_rate first.1;
      least_rate = at_most x.rate p.min_commission_rate both.1;
      entering = record {
        new = still_new v x s todo operators.0 (All-tail (λ (y : GenesisValidator). validator_at s y.operator ≡ None) x todo is.new);
        new_cons = still_new_cons v x s todo cons.0 (All-tail (λ (y : GenesisValidator). validator_by_cons s y.cons ≡ None) x todo is.new_cons);
        operators = operators.1;
        cons = cons.1;
        rates = rates.1;
      };
    }

-- At first all validators are to come.
pub entering : (g : Genesis) → start_condition g ≡ None → IsEntering g.params g.validators no_stake
entering g e = let m = may_start g e in record {
  new = all_new g.validators;
  new_cons = all_new_cons g.validators;
  operators = m.operators;
  cons = m.cons;
  rates = m.rates;
}
  where
    all_new : (todo : List GenesisValidator) → All (λ x. validator_at no_stake x.operator ≡ None) todo
    all_new [] = All-nil (λ (x : GenesisValidator). validator_at no_stake x.operator ≡ None)
    all_new (x ∷ todo) = All-cons (λ (y : GenesisValidator). validator_at no_stake y.operator ≡ None) x todo refl (all_new todo)

    all_new_cons : (todo : List GenesisValidator) → All (λ x. validator_by_cons no_stake x.cons ≡ None) todo
    all_new_cons [] = All-nil (λ (x : GenesisValidator). validator_by_cons no_stake x.cons ≡ None)
    all_new_cons (x ∷ todo) = All-cons (λ (y : GenesisValidator). validator_by_cons no_stake y.cons ≡ None) x todo refl (all_new_cons todo)
