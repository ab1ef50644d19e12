-- The operators and started pairs for which hooks are to stand, as validators and delegations change.
use Rattle.std.proofs.Common.{◌≡◌, ◌∙◌, ℕ, ◌==◌, Bool, true, false, cond, List, Option, Some, None, refl, sym, ap, ◌&&◌, is_some, if◌then◌else◌}
use Rattle.std.specs.{List.Sorted.IsStrictlySortedBy, Map.keys_of, BTreeMap.is_at}
use Rattle.base_types.specs.Orders.{addr_cmp}
use Rattle.base_roles.specs.{declared.entities.Validator.Validator, Entries.{at, with_number}}
use Rattle.base_roles.specs.{Hooks.{with_operator, with_started, after}, Owing.Lists, Orders.{pair_cmp, same_addr}}
use Rattle.base_roles.specs.Staked.{Staked, validator_at, put_validator, lists_of}
use Rattle.base_roles.specs.declared.calls.Hook.TheVariants.{Modified as modified}
use Rattle.rule_modules.specs.{Delegating.hook_before, Stakes.without_validator}
use Rattle.rule_modules.proofs.OrderLemmas.{same_is, same_itself, same_back, pair_found}
use Rattle.rule_modules.proofs.SoundLemmas.{at-number, put_with, found-put}
use Rattle.mod_staking.proofs.SoundLemmas.{found-taken}

swapped : (a b c d : Bool) → a ≡ b → c ≡ d → (a && c) ≡ (d && b)
swapped a b c d e f = (λ i. e i && f i) ∙ order b d
  where
    order : (x y : Bool) → (x && y) ≡ (y && x)
    order true true = refl
    order true false = refl
    order false true = refl
    order false false = refl

-- a delegation's key is found where hooks are told of the pair
pub pair_is : (o delegator p w : List ℕ) → is_at (pair_cmp (p, w)) (o, delegator) ≡ (same_addr delegator w && same_addr o p)
pair_is o delegator p w = pair_found p o w delegator ∙ swapped (same_addr p o) (same_addr o p) (same_addr w delegator) (same_addr delegator w) (same_back p o) (same_back w delegator)

pub same_lists : (k l : Lists) → ((o : List ℕ) → k.operators o ≡ l.operators o) → ((w o : List ℕ) → k.started w o ≡ l.started w o) → k ≡ l
same_lists k l e f = λ i. record { operators = λ o. e o i; started = λ w o. f w o i }

still_some : (b : Bool) (w v : Validator) (r : Option Validator) → (b ≡ true → r ≡ Some v) → is_some (cond b (Some w) r) ≡ is_some r
still_some true w v r h = sym (ap is_some (h refl))
still_some false w v r h = refl

-- the operators stay where a validator is put in the place of one
pub operators-put : (s : Staked) (w v : Validator) → validator_at s w.operator ≡ Some v → (o : List ℕ) → is_some (validator_at (put_validator w s) o) ≡ is_some (validator_at s o)
operators-put s w v f o = ap is_some (found-put s w o) ∙ still_some (same_addr o w.operator) w v (validator_at s o) (λ e. ap (validator_at s) (same_is o w.operator e) ∙ f)

pub lists-put : (s : Staked) (w v : Validator) → validator_at s w.operator ≡ Some v → lists_of (put_validator w s) ≡ lists_of s
lists-put s w v f = same_lists _ _ (operators-put s w v f) (λ x o. refl)

some_cond : (b : Bool) (x y : Option ℕ) → is_some (cond b x y) ≡ cond b (is_some x) (is_some y)
some_cond true x y = refl
some_cond false x y = refl

is_zero : (n : ℕ) (b : Bool) → (n == 0) ≡ b → is_some (cond (n == 0) None (Some n)) ≡ cond b false true
is_zero n b e = (ap (λ z. is_some (cond z None (Some n))) e) ∙ by b
  where
    by : (z : Bool) → is_some (cond z None (Some n)) ≡ cond z false true
    by true = refl
    by false = refl

-- the lists after a validator is put in the place of one, and the number of one of its delegations is set
pub lists-changed : (s : Staked) (w v : Validator) (delegator : List ℕ) (n : ℕ) (b : Bool) → IsStrictlySortedBy pair_cmp (keys_of s.delegations) → validator_at s w.operator ≡ Some v → (n == 0) ≡ b
    → lists_of (put_with w (with_number pair_cmp s.delegations (w.operator, delegator) n) s) ≡ with_started delegator w.operator (cond b false true) (lists_of s)
lists-changed s w v delegator n b a f z = same_lists _ _ (operators-put s w v f) (λ x o.
    ap is_some (at-number s.delegations (w.operator, delegator) (o, x) n a)
    ∙ some_cond (is_at (pair_cmp (o, x)) (w.operator, delegator)) (cond (n == 0) None (Some n)) (at pair_cmp s.delegations (o, x))
    ∙ (λ i. cond (pair_is w.operator delegator o x i) (is_zero n b z i) (is_some (at pair_cmp s.delegations (o, x)))))

twice : (c b d x : Bool) → (if c then b else (if c then d else x)) ≡ (if c then b else x)
twice true b d x = refl
twice false b d x = refl

pub started-twice : (delegator o : List ℕ) (b d : Bool) (l : Lists) → with_started delegator o b (with_started delegator o d l) ≡ with_started delegator o b l
started-twice delegator o b d l = same_lists _ _ (λ x. refl) (λ x p. twice (same_addr delegator x && same_addr o p) b d (l.started x p))

-- the lists after both hooks of a delegation
pub lists-delegated : (v w : Validator) (delegator : List ℕ) (held : Option ℕ) (n : ℕ) (l : Lists) → w.operator ≡ v.operator
    → after (modified w delegator n) (after (hook_before v delegator held) l) ≡ with_started delegator w.operator true l
lists-delegated v w delegator None n l e = refl
lists-delegated v w delegator (Some m) n l e = ap (λ o. with_started delegator w.operator true (with_started delegator o false l)) (sym e) ∙ started-twice delegator w.operator true false l

joins : (b : Bool) (w : Validator) (r : Option Validator) → is_some (cond b (Some w) r) ≡ (if b then true else is_some r)
joins true w r = refl
joins false w r = refl

pub lists-joined : (s : Staked) (w : Validator) → lists_of (put_validator w s) ≡ with_operator w.operator true (lists_of s)
lists-joined s w = same_lists _ _ (λ o. ap is_some (found-put s w o) ∙ joins (same_addr o w.operator) w (validator_at s o) ∙ ap (λ b. if b then true else is_some (validator_at s o)) (same_back o w.operator)) (λ x o. refl)

leaves : (b : Bool) (r : Option Validator) → is_some (cond b None r) ≡ (if b then false else is_some r)
leaves true r = refl
leaves false r = refl

pub lists-left : (s : Staked) (p : List ℕ) → IsStrictlySortedBy addr_cmp (keys_of s.validators) → lists_of (without_validator p s) ≡ with_operator p false (lists_of s)
lists-left s p a = same_lists _ _ (λ o. ap is_some (found-taken s p o a) ∙ leaves (same_addr o p) (validator_at s o) ∙ ap (λ b. if b then false else is_some (validator_at s o)) (same_back o p)) (λ x o. refl)

pub itself_started : (delegator o : List ℕ) (b : Bool) (l : Lists) → (with_started delegator o b l).started delegator o ≡ b
itself_started delegator o b l = (λ i. if same_itself delegator i && same_itself o i then b else l.started delegator o)
