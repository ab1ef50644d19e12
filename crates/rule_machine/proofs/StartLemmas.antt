-- A genesis of which no condition holds, over staking alone: its validators stand, and each of its delegations is added.
use Rattle.std.proofs.Common.{◌≡◌, ◌∙◌, ℕ, ◌+◌, ◌*◌, ◌^◌, ◌≤◌, ◌<◌, Bool, true, false, cond, nat_lt, List, [], ◌∷◌, Option, Some, None, Result, Ok, Err, refl, sym, ap, subst, arith, ◌==◌, ◌/◌, ◌++◌, not, ◌||◌, ◌&&◌, nat_le, All, IsSome, is_some, map, sum, if◌then◌else◌}
use Rattle.std.specs.{Cmp.eq_by_cmp_equiv, List.{list_any, Sorted.IsStrictlySortedBy}, Map.keys_of, BTreeMap.is_at}
use Rattle.std.proofs.lemmas.{Bool.Decides.nat_tests, List.Elements.{All-nil, All-cons, All-head, All-tail, All-weaker}}
use Rattle.std.proofs.{Math.Nat.mul_right_comm, lemmas.{List.Sums.sum_by-cons, Nat.div-mul-add}}
use Rattle.base_decimals.specs.{declared.over.Over.Over, Decimals.{below, add_of, sum_over, quotient_over}}
use Rattle.base_types.specs.declared.{account.{Account.Account, Module.Module}, status.BondStatus.BondStatus}
use Rattle.base_types.specs.{declared.status.BondStatus.TheVariants.{Bonded, Unbonding, Unbonded}, Orders.addr_cmp}
use Rattle.base_types.specs.declared.account.Account.TheVariants as account
use Rattle.base_types.specs.declared.account.Module.TheVariants as holder
use Rattle.base_coins.specs.Coins.{Money, coin_then}
use Rattle.base_shares.specs.{declared.fault.ShareFault.ShareFault, Shares.or_over}
use Rattle.base_shares.specs.declared.fault.ShareFault.TheVariants as share
use Rattle.base_roles.specs.declared.{entities.Validator.Validator, refusal.Refusal.Refusal}
use Rattle.base_roles.specs.declared.refusal.Refusal.TheVariants.{TinyDelegation, Overflow, NoValidator}
use Rattle.base_roles.specs.{Entries.{with, number_at, with_number}, Ground.{IsInOrder, end_of_blocks}}
use Rattle.base_roles.specs.{Holdings.{Balances, balance_of}, NoHooks.nothing_told, Orders.{place_cmp, same_addr}}
use Rattle.base_roles.specs.Staked.{Staked, validator_at, put_validator, is_bonded, is_unbonded, tokens_where, other_tokens}
use Rattle.base_roles.specs.{Flow.{◌>>=◌, ◌>>◌, stop_if, or_stop, stopping, each}, World.View}
use Rattle.base_roles.proofs.{EntryLemmas.{number-after, ascend-after}, HoldingLemmas.{place_total, balance-most}}
use Rattle.base_messages.specs.declared.genesis.{Genesis.Genesis, GenesisAccount.GenesisAccount}
use Rattle.base_messages.specs.declared.genesis.{GenesisDelegation.GenesisDelegation, GenesisValidator.GenesisValidator}
use Rattle.rule_modules.specs.{Delegating.{pool, shares_given, paid_in, delegated}, Stakes.refusal_of_shares}
use Rattle.rule_modules.specs.{Validators.new_validator, Withdrawals.is_module}
use Rattle.rule_modules.proofs.{OrderLemmas.{addr_total, same_back}, EntryLemmas.ascend-put}
use Rattle.rule_modules.proofs.TokenLemmas.{tokens-put, tokens-within, counted}
use Rattle.rule_machine.specs.Founding.{no_hook, IsStarting}
use Rattle.rule_machine.specs.Genesis.{are_in_range, has_wrong_account, has_too_much, denominations_with, supplies_with, balances_with, with_coins, first_that_holds}
use Rattle.rule_machine.specs.GenesisConditions.{creation_of, has_operator_twice, has_cons_twice, has_wrong_rate, has_no_minimum, validates, has_unknown_operator, has_pair_twice, has_empty_delegation, has_lonely_validator, delegated_coins, accounts_at_start, start_condition}
use Rattle.rule_machine.specs.GenesisState.{ground_at_start, validator_added, delegation_added}
use Rattle.rule_machine.proofs.{Kept.held_backed, Ranges.in_range}
use Rattle.rule_machine.proofs.StakeLemmas.{Validators, found-put, all-put, all-found, tokens-none, other-counted}
use Rattle.rule_machine.proofs.UnhookedLemmas.{over, as_staked, grown_stake, delegation_added_is}

-- ---- no condition holds

pub record MayStart (g : Genesis) : Type 0 where
  pub in_range : are_in_range g.params ≡ true
  pub time : nat_le end_of_blocks g.time ≡ false
  pub accounts : has_wrong_account g.accounts ≡ false
  pub operators : has_operator_twice g.validators ≡ false
  pub cons : has_cons_twice g.validators ≡ false
  pub rates : has_wrong_rate g.params g.validators ≡ false
  pub minimums : has_no_minimum g.validators ≡ false
  pub known : has_unknown_operator g.validators g.delegations ≡ false
  pub pairs : has_pair_twice g.delegations ≡ false
  pub some : has_empty_delegation g.delegations ≡ false
  pub delegated : has_lonely_validator g.validators g.delegations ≡ false
  pub not_too_much : has_too_much (supplies_with (accounts_at_start g) []) ≡ false
  pub not_too_many : nat_lt 1_000_000 (denominations_with g.params.bond_denom (supplies_with (accounts_at_start g) [])) ≡ false

first_none : (n : ℕ) (b : Bool) (cs : List (ℕ × Bool)) → first_that_holds ((n, b) ∷ cs) ≡ None → (b ≡ false) × (first_that_holds cs ≡ None)
first_none n true cs e = absurd cc
first_none n false cs e = (refl, e)

neither : (a b : Bool) → (not a || b) ≡ false → (a ≡ true) × (b ≡ false)
neither true b e = (refl, e)
neither false b e = absurd cc

pub may_start : (g : Genesis) → start_condition g ≡ None → MayStart g
may_start g e =
    let supplies = supplies_with (accounts_at_start g) [] in
    let l12 : List (ℕ × Bool) = (12, nat_lt 1_000_000 (denominations_with g.params.bond_denom supplies)) ∷ [] in
    let l11 : List (ℕ × Bool) = (11, has_too_much supplies) ∷ l12 in
    let l10 : List (ℕ × Bool) = (10, has_lonely_validator g.validators g.delegations) ∷ l11 in
    let l9 : List (ℕ × Bool) = (9, has_empty_delegation g.delegations) ∷ l10 in
    let l8 : List (ℕ × Bool) = (8, has_pair_twice g.delegations) ∷ l9 in
    let l7 : List (ℕ × Bool) = (7, has_unknown_operator g.validators g.delegations) ∷ l8 in
    let l6 : List (ℕ × Bool) = (6, has_no_minimum g.validators) ∷ l7 in
    let l5 : List (ℕ × Bool) = (5, has_wrong_rate g.params g.validators) ∷ l6 in
    let l4 : List (ℕ × Bool) = (4, has_cons_twice g.validators) ∷ l5 in
    let l3 : List (ℕ × Bool) = (3, has_operator_twice g.validators) ∷ l4 in
    let l2 : List (ℕ × Bool) = (2, has_wrong_account g.accounts) ∷ l3 in
    let c1 = first_none 1 (not (are_in_range g.params) || nat_le end_of_blocks g.time) l2 e in
    let c2 = first_none 2 (has_wrong_account g.accounts) l3 c1.1 in
    let c3 = first_none 3 (has_operator_twice g.validators) l4 c2.1 in
    let c4 = first_none 4 (has_cons_twice g.validators) l5 c3.1 in
    let c5 = first_none 5 (has_wrong_rate g.params g.validators) l6 c4.1 in
    let c6 = first_none 6 (has_no_minimum g.validators) l7 c5.1 in
    let c7 = first_none 7 (has_unknown_operator g.validators g.delegations) l8 c6.1 in
    let c8 = first_none 8 (has_pair_twice g.delegations) l9 c7.1 in
    let c9 = first_none 9 (has_empty_delegation g.delegations) l10 c8.1 in
    let c10 = first_none 10 (has_lonely_validator g.validators g.delegations) l11 c9.1 in
    let c11 = first_none 11 (has_too_much supplies) l12 c10.1 in
    let c12 = first_none 12 (nat_lt 1_000_000 (denominations_with g.params.bond_denom supplies)) [] c11.1 in
    let first = neither (are_in_range g.params) (nat_le end_of_blocks g.time) c1.0 in
    record {
      in_range = first.0;
      time = first.1;
      accounts = c2.0;
      operators = c3.0;
      cons = c4.0;
      rates = c5.0;
      minimums = c6.0;
      known = c7.0;
      pairs = c8.0;
      some = c9.0;
      delegated = c10.0;
      not_too_much = c11.0;
      not_too_many = c12.0;
    }

before_end : (t : ℕ) → nat_le end_of_blocks t ≡ false → t < end_of_blocks
before_end t e = grind (arith, nat_tests)

-- the ground of such a genesis is in order
pub start_in_order : (g : Genesis) → start_condition g ≡ None → IsInOrder (ground_at_start g)
start_in_order g e = let m = may_start g e in record {
  params = in_range g.params m.in_range;
  time = before_end g.time m.time;
  height = omega arith;
  bank = held_backed (accounts_at_start g) m.not_too_much;
}

-- ---- what the modules' accounts hold at the start

-- the place of a module's account in a denomination
abbrev pub place_of : Module → List ℕ → Account × List ℕ
place_of m d = (account.Module m, d)

first_false : (a b : Bool) → (a || b) ≡ false → (a ≡ false) × (b ≡ false)
first_false true b e = absurd cc
first_false false b e = (refl, e)

-- users' coins leave it
user_coins : (m : Module) (d bytes : List ℕ) (coins : Money) (b : Balances) → IsStrictlySortedBy place_cmp (keys_of b)
    → number_at place_cmp (with_coins (account.User bytes) coins b) (place_of m d) ≡ number_at place_cmp b (place_of m d)
user_coins m d bytes [] b s = refl
user_coins m d bytes (c ∷ cs) b s =
    let n = number_at place_cmp b (account.User bytes, c.0) + c.1 in
    user_coins m d bytes cs (with_number place_cmp b (account.User bytes, c.0) n) (ascend-after place_cmp place_total b (account.User bytes, c.0) n s)
    ∙ number-after place_cmp place_total b (account.User bytes, c.0) (place_of m d) n s

coins_ascend : (who : Account) (coins : Money) (b : Balances) → IsStrictlySortedBy place_cmp (keys_of b) → IsStrictlySortedBy place_cmp (keys_of (with_coins who coins b))
coins_ascend who [] b s = s
coins_ascend who (c ∷ cs) b s =
    let n = number_at place_cmp b (who, c.0) + c.1 in
    coins_ascend who cs (with_number place_cmp b (who, c.0) n) (ascend-after place_cmp place_total b (who, c.0) n s)

-- what users' accounts leave, before a last one
record AreUsers (accounts : List GenesisAccount) (last : GenesisAccount) (b : Balances) : Type 0 where
  left : Balances
  is : balances_with (accounts ++ last ∷ []) b ≡ with_coins last.address last.coins left
  ascend : IsStrictlySortedBy place_cmp (keys_of left)
  held : (m : Module) (d : List ℕ) → number_at place_cmp left (place_of m d) ≡ number_at place_cmp b (place_of m d)

users_then : (accounts : List GenesisAccount) (last : GenesisAccount) (b : Balances) → list_any (λ a. is_module a.address) accounts ≡ false → IsStrictlySortedBy place_cmp (keys_of b) → AreUsers accounts last b
users_then [] last b e s = record { left = b; is = refl; ascend = s; held = λ m d. refl }
users_then (a ∷ accounts) last b e s =
    let parts = first_false (is_module a.address) (list_any (λ x. is_module x.address) accounts) e in
    let rest : AreUsers accounts last (with_coins a.address a.coins b) = users_then accounts last (with_coins a.address a.coins b) parts.1 (coins_ascend a.address a.coins b s) in
    record { left = rest.left; is = rest.is; ascend = rest.ascend; held = λ m d. rest.held m d ∙ by m d a.address parts.0 }
  where
    by : (m : Module) (d : List ℕ) (who : Account) → is_module who ≡ false → number_at place_cmp (with_coins who a.coins b) (place_of m d) ≡ number_at place_cmp b (place_of m d)
    by m d (account.User bytes) f = user_coins m d bytes a.coins b s
    by m d (account.Module x) f = absurd cc

at_itself : (d : List ℕ) → is_at (place_cmp (place_of holder.NotBonded d)) (place_of holder.NotBonded d) ≡ true
at_itself d = (eq_by_cmp_equiv place_total).refl (place_of holder.NotBonded d)

-- the coin of the not-bonded account, where no module has any
one_coin : (m : Module) (d bond : List ℕ) (n : ℕ) (c : Balances) → IsStrictlySortedBy place_cmp (keys_of c) → ((k : Module) (e : List ℕ) → number_at place_cmp c (place_of k e) ≡ 0)
    → number_at place_cmp (with_coins (account.Module holder.NotBonded) (coin_then bond n []) c) (place_of m d) ≡ cond (is_at (place_cmp (place_of m d)) (place_of holder.NotBonded bond)) n 0
one_coin m d bond n c s none = by (n == 0) refl
  where
    nothing : (b : Bool) (k : ℕ) → k ≡ 0 → 0 ≡ cond b k 0
    nothing true k z = sym z
    nothing false k z = refl

    by : (z : Bool) → (n == 0) ≡ z
        → number_at place_cmp (with_coins (account.Module holder.NotBonded) (cond z [] ((bond, n) ∷ [])) c) (place_of m d) ≡ cond (is_at (place_cmp (place_of m d)) (place_of holder.NotBonded bond)) n 0
    by true e = none m d ∙ nothing (is_at (place_cmp (place_of m d)) (place_of holder.NotBonded bond)) n (grind (arith, nat_tests))
    by false e =
        let there = number_at place_cmp c (place_of holder.NotBonded bond) in
        let zero : there ≡ 0 = none holder.NotBonded bond in
        number-after place_cmp place_total c (place_of holder.NotBonded bond) (place_of m d) (there + n) s
        ∙ ap (λ k. cond (is_at (place_cmp (place_of m d)) (place_of holder.NotBonded bond)) (there + n) k) (none m d)
        ∙ ap (λ k. cond (is_at (place_cmp (place_of m d)) (place_of holder.NotBonded bond)) k 0) (omega (arith, zero))

-- the not-bonded account holds exactly what is delegated, and no module's account anything else
pub modules_hold : (g : Genesis) → has_wrong_account g.accounts ≡ false → (m : Module) (d : List ℕ)
    → balance_of (ground_at_start g).bank (account.Module m) d ≡ cond (is_at (place_cmp (place_of m d)) (place_of holder.NotBonded g.params.bond_denom)) (sum (map (λ d. d.amount) g.delegations)) 0
unfolding IsStrictlySortedBy
modules_hold g e m d =
    let bond = g.params.bond_denom in
    let total = sum (map (λ d. d.amount) g.delegations) in
    let last : GenesisAccount = record { address = account.Module holder.NotBonded; coins = delegated_coins g } in
    let users : AreUsers g.accounts last [] = users_then g.accounts last [] (first_false (list_any (λ a. is_module a.address) g.accounts) _ e).0 tt in
    ap (λ b. number_at place_cmp b (place_of m d)) users.is ∙ one_coin m d bond total users.left users.ascend users.held

start_holds : (g : Genesis) → has_wrong_account g.accounts ≡ false
    → balance_of (ground_at_start g).bank (account.Module holder.NotBonded) g.params.bond_denom ≡ sum (map (λ d. d.amount) g.delegations)
start_holds g e =
    modules_hold g e holder.NotBonded g.params.bond_denom
    ∙ ap (λ b. cond b (sum (map (λ d. d.amount) g.delegations)) 0) (at_itself g.params.bond_denom)

-- ---- validators enter

-- what holds of validators that have entered, before the first delegation
pub record HaveEntered (es : Validators) : Type 0 where
  pub ascend : IsStrictlySortedBy addr_cmp (keys_of es)
  pub operators : All (λ e. e.1.operator ≡ e.0) es
  pub rate : All (λ e. e.1.shares ≡ 10 ^ 18 * e.1.tokens) es
  pub unbonded : All (λ e. is_unbonded e.1.status ≡ true) es
  pub tokens : All (λ e. e.1.tokens ≡ 0) es

none_entered : HaveEntered []
unfolding IsStrictlySortedBy
none_entered = record {
  ascend = tt;
  operators = All-nil (λ (e : List ℕ × Validator). e.1.operator ≡ e.0);
  rate = All-nil (λ (e : List ℕ × Validator). e.1.shares ≡ 10 ^ 18 * e.1.tokens);
  unbonded = All-nil (λ (e : List ℕ × Validator). is_unbonded e.1.status ≡ true);
  tokens = All-nil (λ (e : List ℕ × Validator). e.1.tokens ≡ 0);
}

-- the validator that enters
abbrev pub entrant : View → GenesisValidator → Validator
entrant v x = new_validator (creation_of v.ctx.params.bond_denom x) v.ctx.time

one_enters : (v : View) (x : GenesisValidator) (es : Validators) → HaveEntered es → HaveEntered (with addr_cmp es x.operator (entrant v x))
one_enters v x es h = record {
  ascend = ascend-put addr_cmp addr_total es x.operator (entrant v x) h.ascend;
  operators = all-put (λ (e : List ℕ × Validator). e.1.operator ≡ e.0) x.operator (entrant v x) es refl h.operators;
  rate = all-put (λ (e : List ℕ × Validator). e.1.shares ≡ 10 ^ 18 * e.1.tokens) x.operator (entrant v x) es (omega arith) h.rate;
  unbonded = all-put (λ (e : List ℕ × Validator). is_unbonded e.1.status ≡ true) x.operator (entrant v x) es refl h.unbonded;
  tokens = all-put (λ (e : List ℕ × Validator). e.1.tokens ≡ 0) x.operator (entrant v x) es refl h.tokens;
}

-- an operator's validator is still to come, or stands
abbrev pub is_there : List GenesisValidator → Staked → List ℕ → Bool
is_there todo s o = validates todo o || is_some (validator_at s o)

still_there : (v : View) (x : GenesisValidator) (todo : List GenesisValidator) (s : Staked) (o : List ℕ) → is_there (x ∷ todo) s o ≡ true → is_there todo (put_validator (entrant v x) s) o ≡ true
still_there v x todo s o h =
    ap (λ r. validates todo o || is_some r) (found-put s.validators x.operator o (entrant v x))
    ∙ by (same_addr x.operator o) (same_addr o x.operator) (validates todo o) (validator_at s o) (same_back x.operator o) h
  where
    by : (a b c : Bool) (r : Option Validator) → a ≡ b → ((a || c) || is_some r) ≡ true → (c || is_some (cond b (Some (entrant v x)) r)) ≡ true
    by true true true r e h = refl
    by true true false r e h = refl
    by true false c r e h = absurd cc
    by false true c r e h = absurd cc
    by false false c r e h = h

-- what validators that all entered leave
pub record Entered {H : Type 0} (todo : List GenesisValidator) (h : H) (s : Staked) (v : View) : Type 0 where
  pub left : Staked
  pub gives : each (validator_added no_hook) todo (over h s v) ≡ Ok (over h left v)
  pub entered : HaveEntered left.validators
  pub delegations : left.delegations ≡ s.delegations
  pub there : (o : List ℕ) → is_there todo s o ≡ true → IsSome (validator_at left o)

pub all_enter : {H : Type 0} (todo : List GenesisValidator) (h : H) (s : Staked) (v : View) → HaveEntered s.validators → Entered todo h s v
all_enter [] h s v e = record { left = s; gives = refl; entered = e; delegations = refl; there = λ o t. t }
all_enter (x ∷ todo) h s v e =
    let rest : Entered todo h (put_validator (entrant v x) s) v = all_enter todo h (put_validator (entrant v x) s) v (one_enters v x s.validators e) in
    record {
      left = rest.left;
      gives = rest.gives;
      entered = rest.entered;
      delegations = rest.delegations;
      there = λ o t. rest.there o (still_there v x todo s o t);
    }

all_pass : {A : Type 0} (p : A → Bool) (xs : List A) → list_any (λ x. not (p x)) xs ≡ false → All (λ x. p x ≡ true) xs
all_pass p [] e = All-nil (λ x. p x ≡ true)
all_pass p (x ∷ xs) e =
    let parts = first_false (not (p x)) (list_any (λ y. not (p y)) xs) e in
    All-cons (λ y. p y ≡ true) x xs (by (p x) parts.0) (all_pass p xs parts.1)
  where
    by : (b : Bool) → not b ≡ false → b ≡ true
    by true h = refl
    by false h = absurd cc

all_some : (ds : List GenesisDelegation) → has_empty_delegation ds ≡ false → All (λ d. 0 < d.amount) ds
all_some [] e = All-nil (λ (d : GenesisDelegation). 0 < d.amount)
all_some (d ∷ ds) e =
    let parts = first_false (d.amount == 0) (has_empty_delegation ds) e in
    All-cons (λ (x : GenesisDelegation). 0 < x.amount) d ds (by d.amount parts.0) (all_some ds parts.1)
  where
    by : (n : ℕ) → (n == 0) ≡ false → 0 < n
    by n h = grind (arith, nat_tests)

-- no validator, no delegation
abbrev pub no_stake : Staked
no_stake = record { validators = []; delegations = [] }

-- the validators of a genesis, all entered
pub record Begun {H : Type 0} (g : Genesis) (h : H) : Type 0 where
  pub left : Staked
  pub gives : each (validator_added no_hook) g.validators (over h no_stake (ground_at_start g)) ≡ Ok (over h left (ground_at_start g))
  pub delegations : left.delegations ≡ []
  pub starting : IsStarting g.delegations (over h left (ground_at_start g))

pub begun : {H : Type 0} (g : Genesis) (h : H) → start_condition g ≡ None → Begun g h
begun g h e =
    let m = may_start g e in
    let v = ground_at_start g in
    let all : Entered g.validators h no_stake v = all_enter g.validators h no_stake v none_entered in
    let nothing : other_tokens all.left ≡ 0 = tokens-none (λ status. if is_bonded status then false else true) all.left.validators all.entered.tokens in
    let held = start_holds g m.accounts in
    let most = balance-most v.bank (account.Module holder.NotBonded) g.params.bond_denom (held_backed (accounts_at_start g) m.not_too_much) in
    record {
      left = all.left;
      gives = all.gives;
      delegations = all.delegations;
      starting = record {
        known = All-weaker (λ (d : GenesisDelegation). validates g.validators d.validator ≡ true) (λ d. IsSome (validator_at all.left d.validator)) (λ d t. all.there d.validator (either (validates g.validators d.validator) t)) g.delegations
            (all_pass (λ (d : GenesisDelegation). validates g.validators d.validator) g.delegations m.known);
        positive = all_some g.delegations m.some;
        ascend = all.entered.ascend;
        operators = all.entered.operators;
        rate = all.entered.rate;
        unbonded = all.entered.unbonded;
        held = omega (arith, nothing, held);
        most = omega (arith, nothing, held, most);
      };
    }
  where
    either : (b : Bool) → b ≡ true → (b || false) ≡ true
    either true t = refl
    either false t = absurd cc

-- ---- shares of a validator at its first rate

is_below : (over : Over) (k m : ℕ) → k ≡ m → m < 10 ^ 38 → below over k ≡ Ok m
is_below over k m e l = ap (λ b. cond b (Ok k) (Err over)) (less k m e l) ∙ ap Ok e
  where
    less : (a b : ℕ) → a ≡ b → b < 10 ^ 38 → nat_lt a (10 ^ 38) ≡ true
    less a b e l = grind (arith, nat_tests)

quotient_is : (t n : ℕ) → 0 < t → 10 ^ 18 * t * n / t ≡ 10 ^ 18 * n
quotient_is t n p =
    let turned : 10 ^ 18 * t * n ≡ 10 ^ 18 * n * t = mul_right_comm (10 ^ 18) t n in
    let none : 10 ^ 18 * n * t ≡ 10 ^ 18 * n * t + 0 = omega arith in
    ap (λ a. a / t) (turned ∙ none) ∙ div-mul-add (10 ^ 18 * n) t 0 p

issued_by : (t x n : ℕ) → x ≡ 10 ^ 18 * t → n ≤ 10 ^ 18 → (a b c : Bool) → (t == 0) ≡ a → nat_lt 0 x ≡ b → (x == 0) ≡ c
    → ◌≡◌ {A = Result ℕ ShareFault} (cond (a && b) (Err share.RateInvalid) (cond c (or_over (below (quotient_over n (10 ^ 18) 1) (n * 10 ^ 18))) (or_over (below (quotient_over x n t) (x * n / t))))) (Ok (10 ^ 18 * n))
issued_by t x n e m true true c p q r = absurd (grind (arith, nat_tests))
issued_by t x n e m true false true p q r = ap or_over (is_below (quotient_over n (10 ^ 18) 1) (n * 10 ^ 18) (10 ^ 18 * n) (omega arith) (omega (arith, m)))
issued_by t x n e m true false false p q r = absurd (grind (arith, nat_tests))
issued_by t x n e m false b true p q r = ap or_over (is_below (quotient_over n (10 ^ 18) 1) (n * 10 ^ 18) (10 ^ 18 * n) (omega arith) (omega (arith, m)))
issued_by t x n e m false b false p q r =
    let some : 0 < t = grind (arith, nat_tests) in
    ap or_over (is_below (quotient_over x n t) (x * n / t) (10 ^ 18 * n) (ap (λ y. y * n / t) e ∙ quotient_is t n some) (omega (arith, m)))

-- the shares that an amount gives there
pub given_first : (x : Validator) (n : ℕ) → x.shares ≡ 10 ^ 18 * x.tokens → 0 < n → x.tokens + n ≤ 10 ^ 18 → shares_given x n ≡ Ok (10 ^ 18 * n)
given_first x n e p m =
    ap (λ r. stopping refusal_of_shares r >>= λ i. stopping Overflow (add_of x.shares i) >> (stop_if (i == 0) TinyDelegation >> Ok i))
    (issued_by x.tokens x.shares n e (omega (arith, m)) (x.tokens == 0) (nat_lt 0 x.shares) (x.shares == 0) refl refl refl)
    ∙ ap (λ r. stopping Overflow r >> (stop_if (10 ^ 18 * n == 0) TinyDelegation >> Ok (10 ^ 18 * n)))
    (is_below (sum_over x.shares (10 ^ 18 * n)) (x.shares + 10 ^ 18 * n) (x.shares + 10 ^ 18 * n) refl (omega (arith, e, m)))
    ∙ ap (λ b. stop_if b TinyDelegation >> Ok (10 ^ 18 * n)) (not_zero n p)
  where
    not_zero : (k : ℕ) → 0 < k → (10 ^ 18 * k == 0) ≡ false
    not_zero k q = grind (arith, nat_tests)

-- ---- one delegation

-- nothing moves between accounts, of which both are the not-bonded one
nothing_moves : (delegator : List ℕ) (status : BondStatus) (n : ℕ) (v : View) → is_unbonded status ≡ true → paid_in (pool Unbonded) delegator status n v ≡ Ok v
nothing_moves delegator Bonded n v e = absurd cc
nothing_moves delegator Unbonding n v e = absurd cc
nothing_moves delegator Unbonded n v e = refl

some_of : {A : Type 0} (r : Option A) → IsSome r → (a : A) × (r ≡ Some a)
some_of None h = absurd cc
some_of (Some a) h = (a, refl)

some_after : (b : Bool) (x : Validator) (r : Option Validator) → IsSome r → IsSome (cond b (Some x) r)
some_after true x r h = refl
some_after false x r h = h

delegated_is : (x : Validator) (delegator : List ℕ) (n issued : ℕ) (s : Staked) (v : View) → shares_given x n ≡ Ok issued → paid_in (pool Unbonded) delegator x.status n v ≡ Ok v
    → delegated nothing_told.told x delegator n (pool Unbonded) (over tt s v) ≡ Ok (issued, over tt (grown_stake x delegator n issued s) v)
delegated_is x delegator n issued s v e f =
    ap (λ (r : Result ℕ Refusal). r >>= λ i. paid_in (pool Unbonded) delegator x.status n v >>= λ u. Ok (i, over tt (grown_stake x delegator n i s) u)) e
    ∙ ap (λ (r : Result View Refusal). r >>= λ u. Ok (issued, over tt (grown_stake x delegator n issued s) u)) f

added_is : {H : Type 0} (d : GenesisDelegation) (issued : ℕ) (h : H) (s left : Staked) (v : View) (x : Validator) → validator_at s d.validator ≡ Some x
    → delegated nothing_told.told x d.delegator d.amount (pool Unbonded) (over tt s v) ≡ Ok (issued, over tt left v) → delegation_added no_hook d (over h s v) ≡ Ok (over h left v)
added_is d issued h s left v x e f =
    delegation_added_is h d s v
    ∙ ap (λ (r : Option Validator). or_stop r NoValidator >>= λ y. as_staked h (delegated nothing_told.told y d.delegator d.amount (pool Unbonded) (over tt s v))) e
    ∙ ap (as_staked h) f

-- what is delegated, all together
abbrev amounts : List GenesisDelegation → ℕ
amounts ds = sum (map (λ d. d.amount) ds)

-- the first of the delegations that are to come is added
pub record Added {H : Type 0} (d : GenesisDelegation) (rest : List GenesisDelegation) (h : H) (s : Staked) (v : View) : Type 0 where
  -- the validator, which is there, takes the amount at the first rate
  pub validator : Validator
  pub found : validator_at s d.validator ≡ Some validator
  pub operator : validator.operator ≡ d.validator
  pub some : 0 < d.amount
  pub given : shares_given validator d.amount ≡ Ok (10 ^ 18 * d.amount)
  -- the not-bonded account has the amount, besides what is owed from it
  pub funded : other_tokens s + d.amount ≤ balance_of v.bank (account.Module holder.NotBonded) v.ctx.params.bond_denom
  -- the validator has no more tokens than there can be
  pub most : validator.tokens + d.amount ≤ 10 ^ 18
  -- what is left
  pub left : Staked
  pub left_is : left ≡ grown_stake validator d.delegator d.amount (10 ^ 18 * d.amount) s
  pub delegated_to : delegated nothing_told.told validator d.delegator d.amount (pool Unbonded) (over tt s v) ≡ Ok (10 ^ 18 * d.amount, over tt left v)
  pub gives : delegation_added no_hook d (over h s v) ≡ Ok (over h left v)
  pub starting : IsStarting rest (over h left v)

pub one_added : {H : Type 0} (d : GenesisDelegation) (rest : List GenesisDelegation) (h : H) (s : Staked) (v : View) → IsStarting (d ∷ rest) (over h s v) → Added d rest h s v
one_added d rest h s v is =
    let here = some_of (validator_at s d.validator) (All-head (λ (y : GenesisDelegation). IsSome (validator_at s y.validator)) d rest is.known) in
    let x = here.0 in
    let n = d.amount in
    let issued = 10 ^ 18 * n in
    let some : 0 < n = All-head (λ (y : GenesisDelegation). 0 < y.amount) d rest is.positive in
    let operator : x.operator ≡ d.validator = all-found (λ (e : List ℕ × Validator). e.1.operator ≡ e.0) d.validator x s.validators is.operators here.1 in
    let rate : x.shares ≡ 10 ^ 18 * x.tokens = all-found (λ (e : List ℕ × Validator). e.1.shares ≡ 10 ^ 18 * e.1.tokens) d.validator x s.validators is.rate here.1 in
    let unbonded : is_unbonded x.status ≡ true = all-found (λ (e : List ℕ × Validator). is_unbonded e.1.status ≡ true) d.validator x s.validators is.unbonded here.1 in
    let at_operator : validator_at s x.operator ≡ Some x = ap (λ o. validator_at s o) operator ∙ here.1 in
    let others : BondStatus → Bool = λ status. if is_bonded status then false else true in
    let within : counted others x ≤ other_tokens s = tokens-within others x.operator x s.validators at_operator in
    let own : counted others x ≡ x.tokens = other-counted x.status x.tokens unbonded in
    let more : amounts (d ∷ rest) ≡ n + amounts rest = sum_by-cons (λ (k : ℕ). k) n (map (λ (y : GenesisDelegation). y.amount) rest) in
    let held : balance_of v.bank (account.Module holder.NotBonded) v.ctx.params.bond_denom ≡ other_tokens s + amounts (d ∷ rest) = is.held in
    let most : other_tokens s + amounts (d ∷ rest) ≤ 10 ^ 18 = is.most in
    let given : shares_given x n ≡ Ok issued = given_first x n rate some (omega (arith, within, own, most, more)) in
    let grown : Validator = record x { tokens = x.tokens + n; shares = x.shares + issued } in
    let left = grown_stake x d.delegator n issued s in
    let put : tokens_where others (with addr_cmp s.validators x.operator grown) + counted others x ≡ other_tokens s + counted others grown = tokens-put others x.operator x grown s.validators is.ascend at_operator in
    let own2 : counted others grown ≡ x.tokens + n = other-counted x.status (x.tokens + n) unbonded in
    let told : delegated nothing_told.told x d.delegator n (pool Unbonded) (over tt s v) ≡ Ok (issued, over tt left v) = delegated_is x d.delegator n issued s v given (nothing_moves d.delegator x.status n v unbonded) in
    record {
      validator = x;
      found = here.1;
      operator = operator;
      some = some;
      given = given;
      funded = omega (arith, held, more);
      most = omega (arith, within, own, most, more);
      left = left;
      left_is = refl;
      delegated_to = told;
      gives = added_is d issued h s left v x here.1 told;
      starting = record {
        known = All-weaker (λ (y : GenesisDelegation). IsSome (validator_at s y.validator)) (λ y. IsSome (validator_at left y.validator))
            (λ y k. subst IsSome (sym (found-put s.validators x.operator y.validator grown)) (some_after (same_addr y.validator x.operator) grown (validator_at s y.validator) k)) rest
            (All-tail (λ (y : GenesisDelegation). IsSome (validator_at s y.validator)) d rest is.known);
        positive = All-tail (λ (y : GenesisDelegation). 0 < y.amount) d rest is.positive;
        ascend = ascend-put addr_cmp addr_total s.validators x.operator grown is.ascend;
        operators = all-put (λ (e : List ℕ × Validator). e.1.operator ≡ e.0) x.operator grown s.validators refl is.operators;
        rate = all-put (λ (e : List ℕ × Validator). e.1.shares ≡ 10 ^ 18 * e.1.tokens) x.operator grown s.validators (omega (arith, rate)) is.rate;
        unbonded = all-put (λ (e : List ℕ × Validator). is_unbonded e.1.status ≡ true) x.operator grown s.validators unbonded is.unbonded;
        held = omega (arith, held, more, put, own, own2);
        most = omega (arith, most, more, put, own, own2);
      };
    }
