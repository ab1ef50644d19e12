-- Unbonding shares: the rule step by step, and what each step leaves.
use Rattle.std.proofs.Common.{◌≡◌, ◌∙◌, ℕ, ◌-◌, Bool, true, false, List, [], ◌∷◌, ◌++◌, refl, sym, ap, subst, Ok, Err, Result, ◌||◌, if◌then◌else◌}
use Rattle.base_decimals.specs.declared.over.Over.{Over}
use Rattle.base_shares.specs.Shares.{amount_out}
use Rattle.base_roles.specs.{declared.{entities.Validator.Validator, faults.HookFault.HookFault}, Answers.Follows}
use Rattle.base_roles.specs.{Log.Log, Staked.{Staked, put_validator}, Flow.{◌>>=◌}}
use Rattle.base_roles.specs.World.{View, Told, gives, exceeds, World, hooked, over_mine, logged}
use Rattle.base_roles.specs.declared.calls.Hook.{Hook, TheVariants.{Modifying as modifying}}
use Rattle.base_roles.specs.declared.faults.HookFault.TheVariants as hook
use Rattle.base_roles.specs.Log as log
use Rattle.rule_modules.specs.Answers.{WantsMemory, Leaves}
use Rattle.rule_modules.specs.Unbonding.{falls_below_minimum, put_in_jail, left_standing, removed_if_empty, unbonded_shares}
use Rattle.mod_staking.specs.Calls.{over, behind_log, jailed_if, jail_noted}

-- ---- answers of one step within another

follows_wants : {S H : Type 0} (x : Result (ℕ × World S H) Over) (s : S) (holds : H → Type 0) (v : View) (fault : HookFault) → WantsMemory fault → Follows x s holds v (Err fault)
follows_wants x s holds v (hook.Over over) w = absurd w
follows_wants (Ok p) s holds v hook.NoMemory w = tt
follows_wants (Err due) s holds v hook.NoMemory w = tt

follows_err : {S H : Type 0} (r : Result (World S H) Over) (f : World S H → Result (ℕ × World S H) Over) (s : S) (holds : H → Type 0) (v : View) (fault : HookFault) → Leaves r s holds v (Err fault) → Follows (r >>= f) s holds v (Err fault)
follows_err (Ok w) f s holds v fault l = follows_wants (f w) s holds v fault l
follows_err (Err due) f s holds v (hook.Over over) l = l
follows_err (Err due) f s holds v hook.NoMemory l = tt

-- the answer of a rule, with what it leaves
abbrev with_number_of : {S H : Type 0} → ℕ → World S H → Result (ℕ × World S H) Over
with_number_of n w = Ok (n, w)

follows_ok : {S H : Type 0} (r : Result (World S H) Over) (n : ℕ) (s : S) (holds : H → Type 0) (v : View) → Leaves r s holds v (Ok tt) → Follows (r >>= with_number_of n) s holds v (Ok n)
follows_ok (Ok w) n s holds v l = (refl, l.0, l.1, l.2)
follows_ok (Err due) n s holds v l = absurd l

-- a call that answered Ok leaves some plain value that is held, which is what its rule gives
pub leaves_picked : {S H : Type 0} (r : Result (World S H) Over) (s : S) (holds : H → Type 0) (v : View) → Leaves r s holds v (Ok tt) → (h : H) × (holds h × Leaves r s (λ a. h ≡ a) v (Ok tt))
leaves_picked (Ok w) s holds v l = (w.hooks, (l.1, (l.0, refl, l.2)))
leaves_picked (Err due) s holds v l = absurd l

pub leaves_is : {S H : Type 0} (r : Result (World S H) Over) (s : S) (h : H) (v : View) → Leaves r s (λ a. h ≡ a) v (Ok tt) → (k : Log) × (r ≡ Ok (behind_log k s h v))
leaves_is (Ok w) s h v l = (w.log, (λ i. Ok (record { mine = sym l.0 i; hooks = sym l.1 i; view = sym l.2 i; log = w.log })))
leaves_is (Err due) s h v l = absurd l

pub ok_world : {S H : Type 0} (w w2 : World S H) → ◌≡◌ {A = Result (World S H) Over} (Ok w) (Ok w2) → w ≡ w2
ok_world w w2 e = cc

pub hooked_ok : {S H : Type 0} (t : Told H) (w w2 : World S H) → hooked t w ≡ Ok w2 → (l : Log) × ((t ≡ gives w2.hooks w2.view l) × (w2.mine ≡ w.mine))
hooked_ok (gives h v l) w w2 e =
    let is = ok_world (record { mine = w.mine; hooks = h; view = v; log = w.log ++ l }) w2 e in
    (l, ((λ i. gives (is i).hooks (is i).view l), sym (ap (λ x. x.mine) is)))
hooked_ok (exceeds over) w w2 e = absurd cc

-- ---- the rule

-- a validator that is jailed, if so
abbrev pub now_of : Validator → Bool → Validator
now_of v b = record v { jailed = v.jailed || b }

-- and what is left of it
abbrev pub less_of : Validator → Bool → ℕ → Validator
less_of v b part = record (now_of v b) { tokens = v.tokens - amount_out v.tokens v.shares part; shares = v.shares - part }

-- what stands before what is left of the delegation does
pub record Going : Type 0 where
  pub now : Validator
  pub left : ℕ
  pub staked : Staked
  pub view : View

jailed_is : {H : Type 0} (b : Bool) (v : Validator) (k : Log) (s : Staked) (h : H) (u : View) → (if b then put_in_jail v (behind_log k s h u) else behind_log k s h u) ≡ behind_log k (jailed_if b v s) h (jail_noted b v u)
jailed_is true v k s h u = refl
jailed_is false v k s h u = refl

module _ {H : Type 0} (told : H → Hook → View → Told H) (v : Validator) (delegator : List ℕ) (held part : ℕ) (s : Staked) (h : H) (u : View) (h1 : H) (u1 : View) (k1 : Log) (e : told h (modifying v delegator held) u ≡ gives h1 u1 k1) where
  abbrev pub falls : Bool
  falls = falls_below_minimum v delegator (held - part)

  abbrev pub going : Going
  going = record { now = now_of v falls; left = held - part; staked = jailed_if falls v s; view = jail_noted falls v u1 }

  -- the rest of the rule, once what is left of the delegation stands
  abbrev rest : World Staked H → Result (ℕ × World Staked H) Over
  rest w = removed_if_empty told (less_of v falls part) (logged v.operator log.left (over_mine (put_validator (less_of v falls part)) w)) >>= with_number_of (amount_out v.tokens v.shares part)

  from_hook : Told H → Result (ℕ × World Staked H) Over
  from_hook t = hooked t (over s h u) >>= λ w1. left_standing told (now_of v falls) delegator (held - part) (if falls then put_in_jail v w1 else w1) >>= rest

  unbonded-then : unbonded_shares told v delegator held part (over s h u) ≡ (left_standing told going.now delegator going.left (behind_log k1 going.staked h1 going.view) >>= rest)
  unfolding from_hook
  unbonded-then = ap from_hook e ∙ ap (λ w. left_standing told (now_of v falls) delegator (held - part) w >>= rest) (jailed_is falls v k1 s h1 u1)

  module _ (a : Going) (is : a ≡ going) where
    pub told-left_err : (s2 : Staked) (h2 : H → Type 0) (u2 : View) (fault : HookFault) → Leaves (left_standing told a.now delegator a.left (behind_log k1 a.staked h1 a.view)) s2 h2 u2 (Err fault)
        → Follows (unbonded_shares told v delegator held part (over s h u)) s2 h2 u2 (Err fault)
    told-left_err s2 h2 u2 fault l =
        subst (λ r. Follows r s2 h2 u2 (Err fault)) (sym unbonded-then)
        (follows_err (left_standing told going.now delegator going.left (behind_log k1 going.staked h1 going.view)) rest s2 h2 u2 fault
        (subst (λ b. Leaves (left_standing told b.now delegator b.left (behind_log k1 b.staked h1 b.view)) s2 h2 u2 (Err fault)) is l))

    module _ (s2 : Staked) (h2 : H) (u2 : View) (l : Leaves (left_standing told a.now delegator a.left (behind_log k1 a.staked h1 a.view)) s2 (λ x. h2 ≡ x) u2 (Ok tt)) where
      pub left_is : (k2 : Log) × (left_standing told going.now delegator going.left (behind_log k1 going.staked h1 going.view) ≡ Ok (behind_log k2 s2 h2 u2))
      left_is = leaves_is (left_standing told going.now delegator going.left (behind_log k1 going.staked h1 going.view)) s2 h2 u2
          (subst (λ b. Leaves (left_standing told b.now delegator b.left (behind_log k1 b.staked h1 b.view)) s2 (λ x. h2 ≡ x) u2 (Ok tt)) is l)

      -- the log once shares left the validator
      abbrev pub then_log : Log
      then_log = left_is.0 ++ (v.operator, log.left) ∷ []

      unbonded-last : unbonded_shares told v delegator held part (over s h u)
          ≡ (removed_if_empty told (less_of v falls part) (behind_log then_log (put_validator (less_of v falls part) s2) h2 u2) >>= with_number_of (amount_out v.tokens v.shares part))
      unbonded-last = unbonded-then ∙ ap (λ r. r >>= rest) left_is.1

      module _ (less : Validator) (s3 : Staked) (less_is : less ≡ less_of v falls part) (s3_is : s3 ≡ put_validator less s2) (s4 : Staked) (h4 : H → Type 0) (u4 : View) where
        s3_at : s3 ≡ put_validator (less_of v falls part) s2
        s3_at = s3_is ∙ ap (λ x. put_validator x s2) less_is

        pub told-removed_err : (fault : HookFault) → Leaves (removed_if_empty told less (behind_log then_log s3 h2 u2)) s4 h4 u4 (Err fault) → Follows (unbonded_shares told v delegator held part (over s h u)) s4 h4 u4 (Err fault)
        told-removed_err fault m =
            subst (λ r. Follows r s4 h4 u4 (Err fault)) (sym unbonded-last)
            (follows_err (removed_if_empty told (less_of v falls part) (behind_log then_log (put_validator (less_of v falls part) s2) h2 u2)) (with_number_of (amount_out v.tokens v.shares part)) s4 h4 u4 fault
            (subst (λ x. Leaves (removed_if_empty told (less_of v falls part) (behind_log then_log x h2 u2)) s4 h4 u4 (Err fault)) s3_at
            (subst (λ x. Leaves (removed_if_empty told x (behind_log then_log s3 h2 u2)) s4 h4 u4 (Err fault)) less_is m)))

        pub told-removed_ok : (out : ℕ) → out ≡ amount_out v.tokens v.shares part → Leaves (removed_if_empty told less (behind_log then_log s3 h2 u2)) s4 h4 u4 (Ok tt) → Follows (unbonded_shares told v delegator held part (over s h u)) s4 h4 u4 (Ok out)
        told-removed_ok out out_is m =
            subst (λ n. Follows (unbonded_shares told v delegator held part (over s h u)) s4 h4 u4 (Ok n)) (sym out_is)
            (subst (λ r. Follows r s4 h4 u4 (Ok (amount_out v.tokens v.shares part))) (sym unbonded-last)
            (follows_ok (removed_if_empty told (less_of v falls part) (behind_log then_log (put_validator (less_of v falls part) s2) h2 u2)) (amount_out v.tokens v.shares part) s4 h4 u4
            (subst (λ x. Leaves (removed_if_empty told (less_of v falls part) (behind_log then_log x h2 u2)) s4 h4 u4 (Ok tt)) s3_at
            (subst (λ x. Leaves (removed_if_empty told x (behind_log then_log s3 h2 u2)) s4 h4 u4 (Ok tt)) less_is m))))
