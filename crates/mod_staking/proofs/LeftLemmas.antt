-- What unbonding leaves: of the delegation, of the validator, and of the hooks.
use Rattle.std.proofs.Common.{◌≡◌, ◌∙◌, ℕ, ◌+◌, ◌-◌, ◌<◌, ◌≤◌, ◌==◌, Bool, true, false, cond, List, [], ◌∷◌, ◌++◌, Some, None, refl, sym, ap, subst, arith, Ok, ◌||◌, is_some, unwrap_or, if◌then◌else◌}
use Rattle.std.proofs.lemmas.Bool.Decides.{nat_tests}
use Rattle.base_decimals.specs.Decimals.{trunc_of}
use Rattle.base_shares.specs.Shares.{amount_out, value_even_of}
use Rattle.base_roles.specs.{declared.{entities.Validator.Validator, facts.Fact.TheVariants.Jailed}, Answers.Answers}
use Rattle.base_roles.specs.Entries.{with, without, with_number, number_at}
use Rattle.base_roles.specs.{Hooks.{Tells, Stand, Ready, Keeps, Lawful, with_started}, Owing.Lists, Log.Log}
use Rattle.base_roles.specs.{Orders.pair_cmp, Staked.{Staked, validator_at, delegation, put_validator, lists_of}}
use Rattle.base_roles.specs.World.{View, hooked}
use Rattle.base_roles.specs.declared.calls.Hook.TheVariants.{Modifying as modifying, Modified as modified}
use Rattle.base_roles.proofs.HookLemmas.{told-of_ok, stand-noted, Stand-after_ok}
use Rattle.rule_modules.specs.{Sound.ValidatorIsSound, Stakes.{put_delegation, without_shares}, Unbonding.left_standing}
use Rattle.rule_modules.proofs.SoundLemmas.{IsSoundAt, sound-changed, found_itself, sound-put}
use Rattle.mod_staking.specs.Calls.{behind_log, jailed_if, jail_noted}
use Rattle.mod_staking.proofs.ListLemmas.{lists-changed, lists-put, started-twice, itself_started}
use Rattle.mod_staking.proofs.{GroundLemmas.keeps-noted, DelegateLemmas.{ready-before, keeps-ok, held-most}}
use Rattle.mod_staking.proofs.UnbondLemmas.{now_of, less_of, ok_world, hooked_ok}

-- ---- a validator that is jailed, if so

or_false : (a : Bool) → (a || false) ≡ a
or_false true = refl
or_false false = refl

or_true : (a : Bool) → (a || true) ≡ true
or_true true = refl
or_true false = refl

not_jailed : (v : Validator) → v ≡ now_of v false
not_jailed v = λ i. record v { jailed = sym (or_false v.jailed) i }

is_jailed : (v : Validator) → record v { jailed = true } ≡ now_of v true
is_jailed v = λ i. record v { jailed = sym (or_true v.jailed) i }

pub found_now : (b : Bool) (v : Validator) (s : Staked) → validator_at s v.operator ≡ Some v → validator_at (jailed_if b v s) v.operator ≡ Some (now_of v b)
found_now true v s f = found_itself s (record v { jailed = true }) ∙ ap Some (is_jailed v)
found_now false v s f = f ∙ ap Some (not_jailed v)

pub same_delegations : (b : Bool) (v : Validator) (s : Staked) → (jailed_if b v s).delegations ≡ s.delegations
same_delegations true v s = refl
same_delegations false v s = refl

pub sound_now : (height : ℕ) (b : Bool) (v : Validator) (s : Staked) → IsSoundAt height s → validator_at s v.operator ≡ Some v → IsSoundAt height (jailed_if b v s)
sound_now height true v s h f = sound-put height (record v { jailed = true }) v s h f (record { operator = refl; cons = refl; shares = refl; sound = valid })
  where
    valid : ValidatorIsSound height (record v { jailed = true })
    valid = let k = h.validators v.operator v f in record { max_rate = k.max_rate; rate = k.rate; max_change = k.max_change; tokens = k.tokens; empty = k.empty; unbonding_height = k.unbonding_height }
sound_now height false v s h f = h

pub lists_now : (b : Bool) (v : Validator) (s : Staked) → validator_at s v.operator ≡ Some v → lists_of (jailed_if b v s) ≡ lists_of s
lists_now true v s f = lists-put s (record v { jailed = true }) v f
lists_now false v s f = refl

-- hooks stand whether the jailing is told or not
pub stand_jailed : {S : Type 0} (t : Tells S) (s : S) (b : Bool) (v : Validator) (u : View) (l : Lists) → Stand t s u l → Stand t s (jail_noted b v u) l
stand_jailed t s true v u l p = stand-noted t s u (u.facts ++ Jailed v.operator ∷ []) l p
stand_jailed t s false v u l p = p

pub keeps_jailed : (N : Type 0) (b : Bool) (v : Validator) (u w : View) → Keeps N u w → Keeps N u (jail_noted b v w)
keeps_jailed N true v u w k = keeps-noted N u w (Jailed v.operator) (w.facts ++ Jailed v.operator ∷ []) refl k
keeps_jailed N false v u w k = k

keeps_same : (N : Type 0) (u : View) → Keeps N u u
keeps_same N u = record { ctx = refl; supplies = refl; bonded = λ d. refl; not_bonded = λ d. refl; fee_collector = λ d. refl; distribution = λ n d. refl; facts = ([], sym (append_nil u.facts)) }
  where
    append_nil : {A : Type 0} (xs : List A) → xs ++ [] ≡ xs
    append_nil [] = refl
    append_nil (x ∷ xs) = ap (λ l. x ∷ l) (append_nil xs)

-- ---- what is left of the delegation

-- The delegation has what is left, the hooks stand for it, and no hook changed what none changes.
pub record IsLeft {S : Type 0} (t : Tells S) (h1 h2 : S) (u1 u2 : View) (s1 s2 : Staked) (operator delegator : List ℕ) (left : ℕ) (l : Lists) : Type 0 where
  pub mine : s2 ≡ record { validators = s1.validators; delegations = with_number pair_cmp s1.delegations (operator, delegator) left }
  pub stand : Stand t h2 u2 (with_started delegator operator (cond (left == 0) false true) l)
  pub keeps : Keeps (t.owes h1 ≡ None) u1 u2
  pub owes : t.owes h1 ≡ None → t.owes h2 ≡ None

module _ {S : Type 0} (t : Tells S) (lawful : Lawful t) (now : Validator) (delegator : List ℕ) (left : ℕ) (k1 : Log) (s1 : Staked) (h1 : S) (u1 : View) (l : Lists)
    (ready : 0 < left → Ready t h1 u1 (modified now delegator left) (with_started delegator now.operator false l)) (stand : Stand t h1 u1 (with_started delegator now.operator false l))
    (k2 : Log) (s2 : Staked) (h2 : S) (u2 : View) where
  set_at : Bool → Staked
  set_at z = record { validators = s1.validators; delegations = cond z (without pair_cmp s1.delegations (now.operator, delegator)) (with pair_cmp s1.delegations (now.operator, delegator) left) }

  left_by : (z : Bool) → (left == 0) ≡ z
      → cond z (Ok (behind_log k1 (without_shares delegator now.operator s1) h1 u1)) (hooked (t.told h1 (modified now delegator left) u1) (behind_log k1 (put_delegation delegator now.operator left s1) h1 u1)) ≡ Ok (behind_log k2 s2 h2 u2)
      → (s2 ≡ set_at z) × Stand t h2 u2 (with_started delegator now.operator (cond z false true) l) × Keeps (t.owes h1 ≡ None) u1 u2 × (t.owes h1 ≡ None → t.owes h2 ≡ None)
  unfolding set_at
  left_by true z e =
      let is = ok_world (behind_log k1 (without_shares delegator now.operator s1) h1 u1) (behind_log k2 s2 h2 u2) e in
      let mine : without_shares delegator now.operator s1 ≡ s2 = ap (λ w. w.mine) is in
      let hooks : h1 ≡ h2 = ap (λ w. w.hooks) is in
      let view : u1 ≡ u2 = ap (λ w. w.view) is in (
        sym mine,
        subst (λ x. Stand t x u2 (with_started delegator now.operator false l)) hooks (subst (λ x. Stand t h1 x (with_started delegator now.operator false l)) view stand),
        subst (λ x. Keeps (t.owes h1 ≡ None) u1 x) view (keeps_same (t.owes h1 ≡ None) u1),
        λ n. ap t.owes (sym hooks) ∙ n,
      )
  left_by false z e =
      let some : 0 < left = grind (arith, nat_tests) in
      let is = hooked_ok (t.told h1 (modified now delegator left) u1) (behind_log k1 (put_delegation delegator now.operator left s1) h1 u1) (behind_log k2 s2 h2 u2) e in (
        is.1.1,
        subst (Stand t h2 u2) (started-twice delegator now.operator true false l) (lawful.follows h1 h2 (modified now delegator left) u1 u2 is.0 (with_started delegator now.operator false l) (ready some) is.1.0),
        lawful.keeps h1 h2 (modified now delegator left) u1 u2 is.0 (with_started delegator now.operator false l) (ready some) is.1.0,
        λ n. lawful.owes_nothing h1 h2 (modified now delegator left) u1 u2 is.0 n is.1.0,
      )

  pub is_left : left_standing t.told now delegator left (behind_log k1 s1 h1 u1) ≡ Ok (behind_log k2 s2 h2 u2) → IsLeft t h1 h2 u1 u2 s1 s2 now.operator delegator left l
  unfolding set_at
  is_left e = let r = left_by (left == 0) refl e in record { mine = r.0; stand = r.1; keeps = r.2; owes = r.3 }

-- ---- what is left of the validator

sums_left : (x part held : ℕ) → part ≤ held → held ≤ x → (x - part) + held ≡ x + (held - part)
sums_left x part held p q = omega (arith, p, q)

none_left : (x part : ℕ) → part ≤ x → x - part ≡ 0 → (part == x) ≡ true
none_left x part p z = let same : part ≡ x = omega (arith, p, z) in grind (arith, nat_tests)

pub all_gone : (t x part : ℕ) → part ≤ x → x - part ≡ 0 → t - amount_out t x part ≡ 0
all_gone t x part p z = ap (λ b. t - (if b then t else trunc_of (value_even_of t x part))) (none_left x part p z) ∙ nothing t
  where
    nothing : (n : ℕ) → n - n ≡ 0
    nothing n = omega arith

module _ (height : ℕ) (s : Staked) (h : IsSoundAt height s) (v : Validator) (f : validator_at s v.operator ≡ Some v) (delegator : List ℕ) (held part : ℕ) (e : delegation s delegator v.operator ≡ Some held) (few : part ≤ held) (b : Bool) where
  pub some_held : 0 < held
  some_held = h.positive (v.operator, delegator) held e

  pub held_few : held ≤ v.shares
  held_few = held-most height s h v f delegator (Some held) e

  pub valid_less : ValidatorIsSound height (less_of v b part)
  valid_less =
      let k = h.validators v.operator v f in
      let few_tokens = k.tokens in
      let within = held_few in
      let most : part ≤ v.shares = omega (arith, few, within) in
      record { max_rate = k.max_rate; rate = k.rate; max_change = k.max_change; tokens = omega (arith, few_tokens); empty = λ z. all_gone v.tokens v.shares part most z; unbonding_height = k.unbonding_height }

  -- the state once what is left of the delegation stands, before the validator
  abbrev pub state_left : Staked
  state_left = record { validators = (jailed_if b v s).validators; delegations = with_number pair_cmp (jailed_if b v s).delegations (v.operator, delegator) (held - part) }

  pub stands_left : validator_at state_left v.operator ≡ Some (now_of v b)
  stands_left = found_now b v s f

  pub sound_less : IsSoundAt height (put_validator (less_of v b part) state_left)
  sound_less = sound-changed height (less_of v b part) (now_of v b) delegator (held - part) (jailed_if b v s) (sound_now height b v s h f) (found_now b v s f) refl valid_less
      (ap (λ ds. (v.shares - part) + number_at pair_cmp ds (v.operator, delegator)) (same_delegations b v s) ∙ ap (λ x. (v.shares - part) + unwrap_or x 0) e ∙ sums_left v.shares part held few held_few)

  pub lists_less : (z : Bool) → ((held - part) == 0) ≡ z → lists_of (put_validator (less_of v b part) state_left) ≡ with_started delegator v.operator (cond z false true) (lists_of s)
  lists_less z q =
      lists-changed (jailed_if b v s) (less_of v b part) (now_of v b) delegator (held - part) z (sound_now height b v s h f).delegations_ascend (found_now b v s f) q
      ∙ ap (with_started delegator v.operator (cond z false true)) (lists_now b v s f)

  module _ {S : Type 0} (t : Tells S) (lawful : Lawful t) (hs h1 : S) (u u1 : View) (stand : Stand t hs u (lists_of s)) (told : Answers (t.told hs (modifying v delegator held) u) (λ a. h1 ≡ a) u1 (Ok tt)) where
    ready_modifying : Ready t hs u (modifying v delegator held) (lists_of s)
    ready_modifying = ready-before height s h v f delegator t hs u (Some held) e stand

    pub stand_modifying : Stand t h1 (jail_noted b v u1) (with_started delegator v.operator false (lists_of s))
    stand_modifying = stand_jailed t h1 b v u1 (with_started delegator v.operator false (lists_of s)) (Stand-after_ok t lawful hs h1 (modifying v delegator held) u u1 (lists_of s) ready_modifying told)

    pub keeps_modifying : Keeps (t.owes hs ≡ None) u (jail_noted b v u1)
    keeps_modifying = keeps_jailed (t.owes hs ≡ None) b v u u1 (keeps-ok t lawful hs h1 (modifying v delegator held) u u1 (lists_of s) ready_modifying told)

    pub owes_modifying : t.owes hs ≡ None → t.owes h1 ≡ None
    owes_modifying n = let k = told-of_ok (t.told hs (modifying v delegator held) u) h1 u1 told in lawful.owes_nothing hs h1 (modifying v delegator held) u u1 k.0 n k.1

    left_few : held - part ≤ v.shares
    left_few = let within = held_few in omega (arith, few, within)

    pub ready_left : 0 < held - part → Ready t h1 (jail_noted b v u1) (modified (now_of v b) delegator (held - part)) (with_started delegator v.operator false (lists_of s))
    ready_left some = record {
      stand = stand_modifying;
      needs = (ap is_some f, itself_started delegator v.operator false (lists_of s), some, left_few);
      tokens = (h.validators v.operator v f).tokens;
    }
