-- The log is only an output of unbonding: behind any log the same is answered and left.
use Rattle.std.proofs.Common.{◌≡◌, ◌∙◌, ℕ, ◌-◌, ◌==◌, Bool, true, false, cond, List, Option, Some, None, refl, sym, ap, subst, Ok, Err, Result, ◌||◌, ◌&&◌}
use Rattle.base_decimals.specs.declared.over.Over.{Over}
use Rattle.base_shares.specs.Shares.{amount_out}
use Rattle.base_roles.specs.declared.{entities.Validator.Validator, faults.HookFault.HookFault}
use Rattle.base_roles.specs.{Answers.{Follows, ExceedsAs}, Log.Log}
use Rattle.base_roles.specs.{Staked.{Staked, validator_at, delegation, put_validator, is_unbonded}, Flow.{◌>>=◌}}
use Rattle.base_roles.specs.World.{View, Told, gives, exceeds, World, hooked, call, noted, over_view, over_mine, logged}
use Rattle.base_roles.specs.declared.calls.Hook.{Hook}
use Rattle.base_roles.specs.declared.calls.Hook.TheVariants.{Modifying as modifying, Modified as modified, Removed as removed}
use Rattle.base_roles.specs.declared.facts.Fact.TheVariants as fact
use Rattle.base_roles.specs.Log as log
use Rattle.rule_modules.specs.Stakes.{without_validator, put_delegation, without_shares}
use Rattle.rule_modules.specs.Unbonding.{falls_below_minimum, put_in_jail, left_standing, removed_if_empty, unbonded_shares, unbonded_of, shares_unbonded}
use Rattle.mod_staking.specs.Calls.{over, behind_log}

-- two worlds that differ in their logs alone
pub record DifferInLog {S H : Type 0} (w w2 : World S H) : Type 0 where
  pub mine : w2.mine ≡ w.mine
  pub hooks : w2.hooks ≡ w.hooks
  pub view : w2.view ≡ w.view

-- both give something that is alike, or both exceed alike
abbrev pub AreAlike : {A : Type 0} → (A → A → Type 0) → Result A Over → Result A Over → Type 0
AreAlike R (Ok a) (Ok b) = R a b
AreAlike R (Ok a) (Err due) = ⊥
AreAlike R (Err due) (Ok b) = ⊥
AreAlike R (Err due) (Err due2) = due2 ≡ due

pub alike-then : {A B : Type 0} (R : A → A → Type 0) (Q : B → B → Type 0) (r r2 : Result A Over) (f g : A → Result B Over) → AreAlike R r r2 → ((a b : A) → R a b → AreAlike Q (f a) (g b)) → AreAlike Q (r >>= f) (r2 >>= g)
alike-then R Q (Ok a) (Ok b) f g h k = k a b h
alike-then R Q (Ok a) (Err due) f g h k = absurd h
alike-then R Q (Err due) (Ok b) f g h k = absurd h
alike-then R Q (Err due) (Err due2) f g h k = h

module _ {H : Type 0} (told : H → Hook → View → Told H) where
  abbrev Differ : World Staked H → World Staked H → Type 0
  Differ w w2 = DifferInLog w w2

  -- the same amount, and worlds that differ in their logs alone
  abbrev pub DifferBehind : ℕ × World Staked H → ℕ × World Staked H → Type 0
  DifferBehind p q = (q.0 ≡ p.0) × DifferInLog p.1 q.1

  alike-hooked : (t t2 : Told H) (w w2 : World Staked H) → t2 ≡ t → DifferInLog w w2 → AreAlike Differ (hooked t w) (hooked t2 w2)
  alike-hooked t t2 w w2 e d = subst (λ x. AreAlike Differ (hooked t w) (hooked x w2)) (sym e) (by t)
    where
      by : (x : Told H) → AreAlike Differ (hooked x w) (hooked x w2)
      by (gives h v l) = record { mine = d.mine; hooks = refl; view = refl }
      by (exceeds due) = refl

  alike-call : (hook : Hook) (w w2 : World Staked H) → DifferInLog w w2 → AreAlike Differ (call told hook w) (call told hook w2)
  alike-call hook w w2 d = alike-hooked (told w.hooks hook w.view) (told w2.hooks hook w2.view) w w2 (λ i. told (d.hooks i) hook (d.view i)) d

  differ-mine : (f : Staked → Staked) (w w2 : World Staked H) → DifferInLog w w2 → DifferInLog (over_mine f w) (over_mine f w2)
  differ-mine f w w2 d = record { mine = ap f d.mine; hooks = d.hooks; view = d.view }

  differ-view : (f : View → View) (w w2 : World Staked H) → DifferInLog w w2 → DifferInLog (over_view f w) (over_view f w2)
  differ-view f w w2 d = record { mine = d.mine; hooks = d.hooks; view = ap f d.view }

  alike-left : (v : Validator) (delegator : List ℕ) (left : ℕ) (w w2 : World Staked H) → DifferInLog w w2 → AreAlike Differ (left_standing told v delegator left w) (left_standing told v delegator left w2)
  alike-left v delegator left w w2 d = by (left == 0)
    where
      by : (b : Bool) → AreAlike Differ (cond b (Ok (over_mine (without_shares delegator v.operator) w)) (call told (modified v delegator left) (over_mine (put_delegation delegator v.operator left) w)))
          (cond b (Ok (over_mine (without_shares delegator v.operator) w2)) (call told (modified v delegator left) (over_mine (put_delegation delegator v.operator left) w2)))
      by true = differ-mine (without_shares delegator v.operator) w w2 d
      by false = alike-call (modified v delegator left) (over_mine (put_delegation delegator v.operator left) w) (over_mine (put_delegation delegator v.operator left) w2) (differ-mine (put_delegation delegator v.operator left) w w2 d)

  -- the world once a validator went
  abbrev gone : Validator → World Staked H → Result (World Staked H) Over
  gone v w = Ok (over_view (noted (fact.Removed v.operator)) w)

  abbrev without : Validator → World Staked H → World Staked H
  without v w = over_mine (without_validator v.operator) w

  alike-removed : (v : Validator) (w w2 : World Staked H) → DifferInLog w w2 → AreAlike Differ (removed_if_empty told v w) (removed_if_empty told v w2)
  alike-removed v w w2 d = by (is_unbonded v.status && (v.shares == 0))
    where
      by : (b : Bool) → AreAlike Differ (cond b (call told (removed v) (without v w) >>= gone v) (Ok w)) (cond b (call told (removed v) (without v w2) >>= gone v) (Ok w2))
      by true =
          alike-then Differ Differ (call told (removed v) (without v w)) (call told (removed v) (without v w2)) (gone v) (gone v)
          (alike-call (removed v) (without v w) (without v w2) (differ-mine (without_validator v.operator) w w2 d))
          (λ a b e. differ-view (noted (fact.Removed v.operator)) a b e)
      by false = d

  module _ (v : Validator) (delegator : List ℕ) (held part : ℕ) where
    abbrev falls : Bool
    falls = falls_below_minimum v delegator (held - part)

    abbrev now : Validator
    now = record v { jailed = v.jailed || falls }

    abbrev out : ℕ
    out = amount_out v.tokens v.shares part

    abbrev less : Validator
    less = record now { tokens = v.tokens - out; shares = v.shares - part }

    abbrev jailed_then : Bool → World Staked H → World Staked H
    jailed_then b w = cond b (put_in_jail v w) w

    abbrev last : World Staked H → World Staked H
    last w = logged v.operator log.left (over_mine (put_validator less) w)

    abbrev answer : World Staked H → Result (ℕ × World Staked H) Over
    answer w = Ok (out, w)

    abbrev leaving : World Staked H → Result (ℕ × World Staked H) Over
    leaving w = removed_if_empty told less (last w) >>= answer

    differ-jailed : (b : Bool) (w w2 : World Staked H) → DifferInLog w w2 → DifferInLog (jailed_then b w) (jailed_then b w2)
    differ-jailed true w w2 d = record { mine = ap (put_validator (record v { jailed = true })) d.mine; hooks = d.hooks; view = ap (noted (fact.Jailed v.operator)) d.view }
    differ-jailed false w w2 d = d

    differ-last : (w w2 : World Staked H) → DifferInLog w w2 → DifferInLog (last w) (last w2)
    differ-last w w2 d = record { mine = ap (put_validator less) d.mine; hooks = d.hooks; view = d.view }

    alike-leaving : (w w2 : World Staked H) → DifferInLog w w2 → AreAlike DifferBehind (leaving w) (leaving w2)
    alike-leaving w w2 d =
        alike-then Differ DifferBehind (removed_if_empty told less (last w)) (removed_if_empty told less (last w2)) answer answer
        (alike-removed less (last w) (last w2) (differ-last w w2 d)) (λ a b e. (refl, e))

    alike-shares : (w w2 : World Staked H) → DifferInLog w w2 → AreAlike DifferBehind (unbonded_shares told v delegator held part w) (unbonded_shares told v delegator held part w2)
    alike-shares w w2 d =
        alike-then Differ DifferBehind (call told (modifying v delegator held) w) (call told (modifying v delegator held) w2)
        (λ x. left_standing told now delegator (held - part) (jailed_then falls x) >>= leaving)
        (λ x. left_standing told now delegator (held - part) (jailed_then falls x) >>= leaving)
        (alike-call (modifying v delegator held) w w2 d)
        (λ a b e. alike-then Differ DifferBehind (left_standing told now delegator (held - part) (jailed_then falls a)) (left_standing told now delegator (held - part) (jailed_then falls b)) leaving leaving
        (alike-left now delegator (held - part) (jailed_then falls a) (jailed_then falls b) (differ-jailed falls a b e)) alike-leaving)

  alike-of : (x : Option Validator) (held : Option ℕ) (delegator : List ℕ) (part : ℕ) (w w2 : World Staked H) → DifferInLog w w2 → AreAlike DifferBehind (unbonded_of told x held delegator part w) (unbonded_of told x held delegator part w2)
  alike-of None held delegator part w w2 d = (refl, d)
  alike-of (Some v) None delegator part w w2 d = (refl, d)
  alike-of (Some v) (Some held) delegator part w w2 d = alike-shares v delegator held part w w2 d

  pub follows-alike : (r r2 : Result (ℕ × World Staked H) Over) (s : Staked) (holds : H → Type 0) (v : View) (a : Result ℕ HookFault) → AreAlike DifferBehind r r2 → Follows r s holds v a → Follows r2 s holds v a
  follows-alike (Ok p) (Ok q) s holds v (Ok n) d l = (l.0 ∙ sym d.0, l.1 ∙ sym d.1.mine, subst holds (sym d.1.hooks) l.2, l.3 ∙ sym d.1.view)
  follows-alike (Ok p) (Ok q) s holds v (Err fault) d l = l
  follows-alike (Ok p) (Err due) s holds v a d l = absurd d
  follows-alike (Err due) (Ok q) s holds v a d l = absurd d
  follows-alike (Err due) (Err due2) s holds v (Ok n) d l = l
  follows-alike (Err due) (Err due2) s holds v (Err fault) d l = subst (λ x. ExceedsAs x fault) (sym d) l

  -- unbonding behind a log answers and leaves what it does without one
  pub unbonded-behind : (delegator operator : List ℕ) (part : ℕ) (k : Log) (s : Staked) (h : H) (u : View) (s2 : Staked) (holds : H → Type 0) (u2 : View) (a : Result ℕ HookFault)
      → Follows (shares_unbonded told delegator operator part (over s h u)) s2 holds u2 a → Follows (shares_unbonded told delegator operator part (behind_log k s h u)) s2 holds u2 a
  unbonded-behind delegator operator part k s h u s2 holds u2 a l =
      follows-alike (shares_unbonded told delegator operator part (over s h u)) (shares_unbonded told delegator operator part (behind_log k s h u)) s2 holds u2 a
      (alike-of (validator_at s operator) (delegation s delegator operator) delegator part (over s h u) (behind_log k s h u) (record { mine = refl; hooks = refl; view = refl })) l
