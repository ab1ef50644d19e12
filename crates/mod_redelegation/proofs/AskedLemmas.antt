-- Redelegating as its rule has it: what is refused first, and what follows.
use Rattle.std.proofs.Common.{◌≡◌, ◌∙◌, ℕ, ◌≤◌, Bool, true, false, List, Option, Some, None, refl, ap, subst, arith, Ok, Err, Result, ◌==◌, nat_lt, nat_le, length, is_none}
use Rattle.std.{specs.Prelude.⊤, proofs.lemmas.Bool.Decides.nat_tests}
use Rattle.base_coins.specs.declared.coin.Coin.{Coin}
use Rattle.base_shares.specs.{declared.fault.ShareFault.ShareFault, Shares.{amount_out, shares_for_amount}}
use Rattle.base_roles.specs.declared.{entities.Validator.Validator, faults.MessageFault.MessageFault}
use Rattle.base_roles.specs.declared.refusal.Refusal.{Refusal}
use Rattle.base_roles.specs.declared.refusal.Refusal.TheVariants.{WrongDenom, NonPositive, NoValidator, NoTokens, TooManyShares, SelfRedelegation, Transitive, RedelegationsFull, TinyRedelegation, Overflow}
use Rattle.base_roles.specs.{Answers.AnswersAs, Orders.same_addr, Staked.{Staked, validator_at, delegation}}
use Rattle.base_roles.specs.{StakeChanges.HasShares, Flow.{◌>>=◌, ◌>>◌, stop_if, or_stop, stopping}}
use Rattle.base_roles.specs.{World.{View, Told, World}, declared.calls.Hook.Hook}
use Rattle.base_roles.specs.declared.faults.MessageFault.TheVariants as stop
use Rattle.rule_modules.specs.Delegating.{is_wrong, shares_given, pool, delegated}
use Rattle.rule_modules.specs.Redelegations.{RedelegationLists, redelegations_of, is_transitive, begin_info, appended, redelegated}
use Rattle.rule_modules.specs.Unbonding.{shares_to_unbond, unbonded_shares, unbonded_of, shares_unbonded}
use Rattle.mod_entries.{specs.Answers.AnswersBoth, proofs.AnswerLemmas.answers_no_memory}
use Rattle.mod_redelegation.specs.Calls.{leaving, joining, redelegation}

-- ---- what a step that gave something tells

pub bind_ok : {E A B : Type 0} (r : Result A E) (f : A → Result B E) (b : B) → (r >>= f) ≡ Ok b → (a : A) × ((r ≡ Ok a) × (f a ≡ Ok b))
bind_ok (Ok a) f b e = (a, (refl, e))
bind_ok (Err x) f b e = absurd cc

pub then_ok : {E A B : Type 0} (r : Result A E) (s : Result B E) (b : B) → (r >> s) ≡ Ok b → (a : A) × ((r ≡ Ok a) × (s ≡ Ok b))
then_ok (Ok a) s b e = (a, (refl, e))
then_ok (Err x) s b e = absurd cc

pub stop_ok : {E B : Type 0} (c : Bool) (why : E) (s : Result B E) (b : B) → (stop_if c why >> s) ≡ Ok b → (c ≡ false) × (s ≡ Ok b)
stop_ok true why s b e = absurd cc
stop_ok false why s b e = (refl, e)

pub found_ok : {E A B : Type 0} (o : Option A) (why : E) (f : A → Result B E) (b : B) → (or_stop o why >>= f) ≡ Ok b → (a : A) × ((o ≡ Some a) × (f a ≡ Ok b))
found_ok None why f b e = absurd cc
found_ok (Some a) why f b e = (a, (refl, e))

pub lifted_ok : {D E A B : Type 0} (g : D → E) (r : Result A D) (f : A → Result B E) (b : B) → (stopping g r >>= f) ≡ Ok b → (a : A) × ((r ≡ Ok a) × (f a ≡ Ok b))
lifted_ok g (Ok a) f b e = (a, (refl, e))
lifted_ok g (Err d) f b e = absurd cc

pub ok_is : {E A : Type 0} (a b : A) → ◌≡◌ {A = Result A E} (Ok a) (Ok b) → a ≡ b
ok_is {E} {A} a b e = ap (λ r. value r) e
  where
    value : Result A E → A
    value (Ok x) = x
    value (Err x) = a

-- ---- what is asked of the source

-- the shares that an amount stands for are of the delegation
pub record IsPart (held : Option ℕ) (all part : ℕ) : Type 0 where
  pub shares : held ≡ Some all
  pub within : part ≤ all

pub part-given : (held : Option ℕ) (v : Validator) (amount : ℕ) (q : ℕ × ℕ) → shares_to_unbond held v amount ≡ Ok q → IsPart held q.0 q.1
part-given held v amount q e =
    let a = found_ok held _ _ q e in
    let b = stop_ok (v.tokens == 0) NoTokens _ q a.1.1 in
    let c = lifted_ok (λ fault. TooManyShares) (shares_for_amount v.tokens v.shares amount) _ q b.1 in
    let d = stop_ok (nat_lt a.0 c.0) TooManyShares _ q c.1.1 in
    let same : ◌≡◌ {A = ℕ × ℕ} (a.0, c.0) q = ok_is (a.0, c.0) q d.1 in
    let most : c.0 ≤ a.0 = at_most a.0 c.0 d.0 in
    record { shares = a.1.0 ∙ ap (λ (p : ℕ × ℕ). Some p.0) same; within = subst (λ (p : ℕ × ℕ). p.1 ≤ p.0) same most }
  where
    at_most : (all n : ℕ) → nat_lt all n ≡ false → n ≤ all
    at_most all n e = grind (arith, nat_tests, e)

-- what a redelegation that isn't refused at its source tells
pub record IsLeaving (delegator source : List ℕ) (s : Staked) (v : Validator) (part : ℕ) : Type 0 where
  pub found : validator_at s source ≡ Some v
  pub shares : HasShares s delegator source part

pub leaving-given : (delegator source : List ℕ) (coin : Coin) (s : Staked) (view : View) (p : Validator × ℕ) → leaving delegator source coin s view ≡ Ok p → IsLeaving delegator source s p.0 p.1
leaving-given delegator source coin s view p e =
    let a = stop_ok (coin.amount == 0) NonPositive _ p e in
    let b = found_ok (validator_at s source) NoValidator _ p a.1 in
    let c = bind_ok (shares_to_unbond (delegation s delegator source) b.0 coin.amount) _ p b.1.1 in
    let d = stop_ok (is_wrong coin view) WrongDenom _ p c.1.1 in
    let same : ◌≡◌ {A = Validator × ℕ} (b.0, c.0.1) p = ok_is (b.0, c.0.1) p d.1 in
    let own = part-given (delegation s delegator source) b.0 coin.amount c.0 c.1.0 in
    subst (λ (q : Validator × ℕ). IsLeaving delegator source s q.0 q.1) same (record { found = b.1.0; shares = (c.0.0, (own.shares, own.within)) })

-- and at its target
pub record IsJoining (delegator source target : List ℕ) (amount : ℕ) (r : RedelegationLists) (s : Staked) (view : View) : Type 0 where
  pub t : Validator
  pub apart : same_addr source target ≡ false
  pub there : validator_at s target ≡ Some t
  pub room : nat_le view.ctx.params.max_entries (length (redelegations_of r delegator source target)) ≡ false
  pub some : (amount == 0) ≡ false

pub joining-given : (delegator source target : List ℕ) (amount : ℕ) (r : RedelegationLists) (s : Staked) (view : View) (n : ℕ) → joining delegator source target amount r s view ≡ Ok n → IsJoining delegator source target amount r s view
joining-given delegator source target amount r s view n e =
    let a = stop_ok (same_addr source target) SelfRedelegation _ n e in
    let b = found_ok (validator_at s target) NoValidator _ n a.1 in
    let c = stop_ok (is_transitive r delegator source) Transitive _ n b.1.1 in
    let d = stop_ok (nat_le view.ctx.params.max_entries (length (redelegations_of r delegator source target))) RedelegationsFull _ n c.1 in
    let f = stop_ok (amount == 0) TinyRedelegation _ n d.1 in
    record { t = b.0; apart = a.0; there = b.1.0; room = d.0; some = f.0 }

-- both
pub record IsAsked (delegator source target : List ℕ) (r : RedelegationLists) (s : Staked) (view : View) (v : Validator) (part : ℕ) : Type 0 where
  pub leaves : IsLeaving delegator source s v part
  pub joins : IsJoining delegator source target (amount_out v.tokens v.shares part) r s view

pub asked-given : (delegator source target : List ℕ) (coin : Coin) (r : RedelegationLists) (s : Staked) (view : View) (p : Validator × ℕ) → redelegation delegator source target coin r s view ≡ Ok p → IsAsked delegator source target r s view p.0 p.1
asked-given delegator source target coin r s view p e =
    let a = bind_ok (leaving delegator source coin s view) _ p e in
    let b = then_ok (joining delegator source target (amount_out a.0.0.tokens a.0.0.shares a.0.1) r s view) _ p a.1.1 in
    let same = ok_is a.0 p b.1.1 in
    subst (λ (q : Validator × ℕ). IsAsked delegator source target r s view q.0 q.1) same (record {
      leaves = leaving-given delegator source coin s view a.0 a.1.0;
      joins = joining-given delegator source target (amount_out a.0.0.tokens a.0.0.shares a.0.1) r s view b.0 b.1.0;
    })

-- ---- the rule

module _ {H : Type 0} (told : H → Hook → View → Told H) (delegator source target : List ℕ) (r : RedelegationLists) (w : World Staked H) where
  -- what stands once an amount went out and was delegated
  abbrev pub entry_made : Validator → ℕ × World Staked H → ℕ × World Staked H → Result (⊤ × RedelegationLists × World Staked H) Refusal
  entry_made v q p = Ok (tt, appended delegator source target (begin_info v (is_none (validator_at q.1.mine source)) w.view.ctx) q.0 p.0 r, p.1)

  -- an amount that went out is delegated to the target
  abbrev pub moved_to : Validator → Validator → ℕ × World Staked H → Result (⊤ × RedelegationLists × World Staked H) Refusal
  moved_to v t q = delegated told t delegator q.0 (pool v.status) q.1 >>= entry_made v q

  abbrev pub moved_at : Option Validator → Validator → ℕ × World Staked H → Result (⊤ × RedelegationLists × World Staked H) Refusal
  moved_at y v q = or_stop y NoValidator >>= λ t. moved_to v t q

  -- redelegating from a validator
  abbrev pub redelegated_from : Validator × ℕ → Result (⊤ × RedelegationLists × World Staked H) Refusal
  redelegated_from p = stopping Overflow (shares_unbonded told delegator source p.1 w) >>= moved_at (validator_at w.mine target) p.0

  module _ (coin : Coin) where
    abbrev tests : Bool → Option Validator → Bool → Bool → ℕ → Result ℕ Refusal
    tests same y transitive full amount =
        stop_if same SelfRedelegation >> (or_stop y NoValidator >>= λ t. (stop_if transitive Transitive >> (stop_if full RedelegationsFull >> (stop_if (amount == 0) TinyRedelegation >> shares_given t amount))))

    abbrev then_at : Option Validator → Option ℕ → Option Validator → Validator × ℕ → Result (⊤ × RedelegationLists × World Staked H) Refusal
    then_at x held y p = stopping Overflow (unbonded_of told x held delegator p.1 w) >>= moved_at y p.0

    abbrev rule_end : Bool → Option Validator → Bool → Bool → Validator → ℕ × ℕ → Result (⊤ × RedelegationLists × World Staked H) Refusal
    rule_end same y transitive full v q =
        let amount = amount_out v.tokens v.shares q.1 in
        stop_if same SelfRedelegation >> (or_stop y NoValidator >>= λ t. (stop_if transitive Transitive >> (stop_if full RedelegationsFull >> (stop_if (amount == 0) TinyRedelegation >> (shares_given t amount >>
        (stopping Overflow (unbonded_shares told v delegator q.0 q.1 w) >>= moved_to v t))))))

    -- behind the source's conditions
    ends : (same : Bool) (y : Option Validator) (transitive full : Bool) (v : Validator) (all part : ℕ)
        → rule_end same y transitive full v (all, part) ≡ ((tests same y transitive full (amount_out v.tokens v.shares part) >> Ok (v, part)) >>= then_at (Some v) (Some all) y)
    ends true y transitive full v all part = refl
    ends false None transitive full v all part = refl
    ends false (Some t) true full v all part = refl
    ends false (Some t) false true v all part = refl
    ends false (Some t) false false v all part = tiny (amount_out v.tokens v.shares part == 0) (shares_given t (amount_out v.tokens v.shares part))
      where
        last : Result (⊤ × RedelegationLists × World Staked H) Refusal
        last = stopping Overflow (unbonded_shares told v delegator all part w) >>= moved_to v t

        tiny : (none : Bool) (given : Result ℕ Refusal) → (stop_if none TinyRedelegation >> (given >> last)) ≡ (((stop_if none TinyRedelegation >> given) >> Ok (v, part)) >>= then_at (Some v) (Some all) (Some t))
        tiny true given = refl
        tiny false (Ok n) = refl
        tiny false (Err why) = refl

    abbrev rule_at : Bool → Option Validator → Option ℕ → Bool → Bool → Option Validator → Bool → Bool → Result (⊤ × RedelegationLists × World Staked H) Refusal
    rule_at zero x held wrong same y transitive full =
        stop_if zero NonPositive >> (or_stop x NoValidator >>= λ v. (shares_to_unbond held v coin.amount >>= λ q. (stop_if wrong WrongDenom >> rule_end same y transitive full v q)))

    abbrev left_at : Bool → Option Validator → Option ℕ → Bool → Result (Validator × ℕ) Refusal
    left_at zero x held wrong = stop_if zero NonPositive >> (or_stop x NoValidator >>= λ v. (shares_to_unbond held v coin.amount >>= λ q. (stop_if wrong WrongDenom >> Ok (v, q.1))))

    abbrev asked_at : Bool → Option Validator → Option ℕ → Bool → Bool → Option Validator → Bool → Bool → Result (Validator × ℕ) Refusal
    asked_at zero x held wrong same y transitive full = left_at zero x held wrong >>= λ p. (tests same y transitive full (amount_out p.0.tokens p.0.shares p.1) >> Ok p)

    by_cases : (zero : Bool) (x : Option Validator) (held : Option ℕ) (wrong same : Bool) (y : Option Validator) (transitive full : Bool)
        → rule_at zero x held wrong same y transitive full ≡ (asked_at zero x held wrong same y transitive full >>= then_at x held y)
    by_cases true x held wrong same y transitive full = refl
    by_cases false None held wrong same y transitive full = refl
    by_cases false (Some v) None wrong same y transitive full = refl
    by_cases false (Some v) (Some all) wrong same y transitive full = tokens (v.tokens == 0) (shares_for_amount v.tokens v.shares coin.amount)
      where
        parts : Bool → Result ℕ ShareFault → Result (ℕ × ℕ) Refusal
        parts none given = stop_if none NoTokens >> (stopping (λ fault. TooManyShares) given >>= λ part. (stop_if (nat_lt all part) TooManyShares >> Ok (all, part)))

        pair : ℕ → Result (ℕ × ℕ) Refusal
        pair part = Ok (all, part)

        found : ℕ → Result (Validator × ℕ) Refusal
        found part = Ok (v, part)

        wrongly : (b : Bool) (part : ℕ) → (stop_if b WrongDenom >> rule_end same y transitive full v (all, part))
            ≡ (((stop_if b WrongDenom >> found part) >>= λ (p : Validator × ℕ). (tests same y transitive full (amount_out p.0.tokens p.0.shares p.1) >> Ok p)) >>= then_at (Some v) (Some all) y)
        wrongly true part = refl
        wrongly false part = ends same y transitive full v all part

        few : (b : Bool) (part : ℕ) → ((stop_if b TooManyShares >> pair part) >>= λ (q : ℕ × ℕ). (stop_if wrong WrongDenom >> rule_end same y transitive full v q))
            ≡ ((((stop_if b TooManyShares >> pair part) >>= λ (q : ℕ × ℕ). (stop_if wrong WrongDenom >> found q.1)) >>= λ (p : Validator × ℕ). (tests same y transitive full (amount_out p.0.tokens p.0.shares p.1) >> Ok p)) >>= then_at (Some v) (Some all) y)
        few true part = refl
        few false part = wrongly wrong part

        tokens : (none : Bool) (given : Result ℕ ShareFault) → (parts none given >>= λ (q : ℕ × ℕ). (stop_if wrong WrongDenom >> rule_end same y transitive full v q))
            ≡ (((parts none given >>= λ (q : ℕ × ℕ). (stop_if wrong WrongDenom >> found q.1)) >>= λ (p : Validator × ℕ). (tests same y transitive full (amount_out p.0.tokens p.0.shares p.1) >> Ok p)) >>= then_at (Some v) (Some all) y)
        tokens true given = refl
        tokens false (Err fault) = refl
        tokens false (Ok part) = few (nat_lt all part) part

    -- what is refused first, and what follows
    pub redelegated-asked : redelegated told delegator source target coin r w ≡ (redelegation delegator source target coin r w.mine w.view >>= redelegated_from)
    redelegated-asked =
        by_cases (coin.amount == 0) (validator_at w.mine source) (delegation w.mine delegator source) (is_wrong coin w.view) (same_addr source target) (validator_at w.mine target)
        (is_transitive r delegator source) (nat_le w.view.ctx.params.max_entries (length (redelegations_of r delegator source target)))

-- ---- answers of one step within another

-- a message within another stops as that does
pub answers_stop : {A U S H : Type 0} (r : Result (ℕ × World S H) Refusal) (f : ℕ × World S H → Result (A × U × World S H) Refusal) (s1 s : S) (holds1 holds : H → Type 0) (v1 v : View) (u : U) (why : MessageFault)
    → AnswersAs r s1 holds1 v1 (Err why) → AnswersBoth (r >>= f) u s holds v (Err why)
answers_stop (Ok p) f s1 s holds1 holds v1 v u (stop.Refused why) l = absurd l
answers_stop (Ok p) f s1 s holds1 holds v1 v u stop.NoMemory l = answers_no_memory (f p) u s holds v
answers_stop (Err due) f s1 s holds1 holds v1 v u (stop.Refused why) l = l
answers_stop (Err due) f s1 s holds1 holds v1 v u stop.NoMemory l = tt
