-- The conditions and the laws of hooks. They speak of plain values alone.
use Rattle.std.specs.Prelude.{◌≡◌, ℕ, ◌+◌, ◌^◌, ◌<◌, ◌≤◌, Bool, true, false, ◌&&◌, List, ◌++◌, if◌then◌else◌, Option, None}
use Rattle.base_types.specs.declared.account.Account.TheVariants as account
use Rattle.base_types.specs.declared.account.Module.TheVariants.{FeeCollector, Bonded, NotBonded, Distribution}
use Rattle.base_roles.specs.declared.entities.Validator.{Validator}
use Rattle.base_roles.specs.declared.facts.Fact.{Fact}
use Rattle.base_roles.specs.Ground.{IsInOrder}
use Rattle.base_roles.specs.Holdings.{balance_of}
use Rattle.base_roles.specs.Log.{Log}
use Rattle.base_roles.specs.Orders.{same_addr}
use Rattle.base_roles.specs.World.{View, Hook, created, removed, bonded, starting, modifying, modified, slashing, Told, gives}
use Rattle.base_roles.specs.Owing.{Lists, HoldsOwed}

-- the validator of a call
abbrev pub validator_in : Hook → Validator
validator_in (created v) = v
validator_in (removed v) = v
validator_in (bonded v) = v
validator_in (starting v delegator) = v
validator_in (modifying v delegator shares) = v
validator_in (modified v delegator shares) = v
validator_in (slashing v fraction) = v

-- what each hook needs of the lists and of its arguments
abbrev pub Needs : Hook → Lists → Type 0
Needs (created v) l = l.operators v.operator ≡ false
Needs (removed v) l = (l.operators v.operator ≡ true) × ((delegator : List ℕ) → l.started delegator v.operator ≡ false)
Needs (bonded v) l = l.operators v.operator ≡ true
Needs (starting v delegator) l = (l.operators v.operator ≡ true) × (l.started delegator v.operator ≡ false)
Needs (modifying v delegator shares) l = (l.started delegator v.operator ≡ true) × (0 < shares) × (shares ≤ v.shares)
Needs (modified v delegator shares) l = (l.operators v.operator ≡ true) × (l.started delegator v.operator ≡ false) × (0 < shares) × (shares ≤ v.shares)
Needs (slashing v fraction) l = (l.operators v.operator ≡ true) × (fraction ≤ 10 ^ 18)

-- the lists with the operator, or without it
abbrev pub with_operator : List ℕ → Bool → Lists → Lists
with_operator operator b l = record { operators = λ o. if same_addr operator o then b else l.operators o; started = l.started }

-- the lists with the pair started, or not
abbrev pub with_started : List ℕ → List ℕ → Bool → Lists → Lists
with_started delegator operator b l = record { operators = l.operators; started = λ w o. if same_addr delegator w && same_addr operator o then b else l.started w o }

-- the lists after a hook
abbrev pub after : Hook → Lists → Lists
after (created v) l = with_operator v.operator true l
after (removed v) l = with_operator v.operator false l
after (bonded v) l = l
after (starting v delegator) l = l
after (modifying v delegator shares) l = with_started delegator v.operator false l
after (modified v delegator shares) l = with_started delegator v.operator true l
after (slashing v fraction) l = l

-- What hooks tell of themselves, apart from how they keep it: what a call gives; for which lists they stand; what they
-- owe of each denomination from the distribution account, in units of 10^-18, or that they owe nothing; the greatest
-- height that they know of; whether their calls append no fact, leave the bank and exceed nothing; whether the calls
-- after a validator was bonded or removed exceed nothing; and the most touches of the call after one was bonded.
pub record Tells (S : Type 0) : Type 1 where
  pub told : S → Hook → View → Told S
  pub stands : S → Lists → Type 0
  pub owes : S → Option (List ℕ → ℕ)
  pub height : S → ℕ
  pub quiet : S → Bool
  pub sure : S → Bool
  pub most_steps : S → ℕ

-- the hooks stand for the lists over this ground
pub record Stand {S : Type 0} (t : Tells S) (s : S) (v : View) (l : Lists) : Type 0 where
  pub lists : t.stands s l
  pub owed : HoldsOwed (t.owes s) v
  pub late : t.height s ≤ v.ctx.height
  pub in_order : IsInOrder v

-- the hook may be called
pub record Ready {S : Type 0} (t : Tells S) (s : S) (v : View) (h : Hook) (l : Lists) : Type 0 where
  pub stand : Stand t s v l
  pub needs : Needs h l
  pub tokens : (validator_in h).tokens ≤ 10 ^ 18

-- What no hook changes: the context, the supplies and the balances of the two staking accounts and the fee collector,
-- and where nothing is owed from it those of the distribution account. Facts are only put at the end.
pub record Keeps (owes_nothing : Type 0) (old new : View) : Type 0 where
  pub ctx : new.ctx ≡ old.ctx
  pub supplies : new.bank.supplies ≡ old.bank.supplies
  pub bonded : (d : List ℕ) → balance_of new.bank (account.Module Bonded) d ≡ balance_of old.bank (account.Module Bonded) d
  pub not_bonded : (d : List ℕ) → balance_of new.bank (account.Module NotBonded) d ≡ balance_of old.bank (account.Module NotBonded) d
  pub fee_collector : (d : List ℕ) → balance_of new.bank (account.Module FeeCollector) d ≡ balance_of old.bank (account.Module FeeCollector) d
  pub distribution : owes_nothing → (d : List ℕ) → balance_of new.bank (account.Module Distribution) d ≡ balance_of old.bank (account.Module Distribution) d
  pub facts : (more : List Fact) × (new.facts ≡ old.facts ++ more)

-- some state is given, without an excess
abbrev pub IsGiven : {S : Type 0} → Told S → Type 0
IsGiven {S} t = (s : S) × ((v : View) × ((l : Log) × (t ≡ gives s v l)))

-- the laws of hooks
pub record Lawful {S : Type 0} (t : Tells S) : Type 0 where
  -- a hook changes nothing of what no hook changes
  pub keeps : (s s2 : S) (h : Hook) (v v2 : View) (log : Log) (l : Lists) → Ready t s v h l → t.told s h v ≡ gives s2 v2 log → Keeps (t.owes s ≡ None) v v2
  -- hooks that stand for the lists stand after the call for the lists after it
  pub follows : (s s2 : S) (h : Hook) (v v2 : View) (log : Log) (l : Lists) → Ready t s v h l → t.told s h v ≡ gives s2 v2 log → Stand t s2 v2 (after h l)
  -- hooks that owe nothing go on owing nothing
  pub owes_nothing : (s s2 : S) (h : Hook) (v v2 : View) (log : Log) → t.owes s ≡ None → t.told s h v ≡ gives s2 v2 log → t.owes s2 ≡ None
  -- a call of quiet hooks leaves the ground, and exceeds nothing
  pub quiet_call : (s : S) (h : Hook) (v : View) → t.quiet s ≡ true → (s2 : S) × ((log : Log) × (t.told s h v ≡ gives s2 v log))
  -- quiet hooks stand for all lists
  pub quiet_stands : (s : S) (l : Lists) → t.quiet s ≡ true → t.stands s l
  -- quiet hooks owe nothing
  pub quiet_owes : (s : S) → t.quiet s ≡ true → t.owes s ≡ None
  -- quiet hooks know of no height, are sure, and touch nothing
  pub quiet_height : (s : S) → t.quiet s ≡ true → t.height s ≡ 0
  pub quiet_sure : (s : S) → t.quiet s ≡ true → t.sure s ≡ true
  pub quiet_steps : (s : S) → t.quiet s ≡ true → t.most_steps s ≡ 0
  -- sure hooks exceed nothing after a validator was bonded, nor after one was removed
  pub sure_bonded : (s : S) (x : Validator) (v : View) (l : Lists) → t.sure s ≡ true → Ready t s v (bonded x) l → IsGiven (t.told s (bonded x) v)
  pub sure_removed : (s : S) (x : Validator) (v : View) (l : Lists) → t.sure s ≡ true → Ready t s v (removed x) l → IsGiven (t.told s (removed x) v)
  -- no call changes whether hooks are quiet or sure, nor their number of touches
  pub quiet_stays : (s s2 : S) (h : Hook) (v v2 : View) (log : Log) → t.told s h v ≡ gives s2 v2 log → t.quiet s2 ≡ t.quiet s
  pub sure_stays : (s s2 : S) (h : Hook) (v v2 : View) (log : Log) → t.told s h v ≡ gives s2 v2 log → t.sure s2 ≡ t.sure s
  pub steps_stay : (s s2 : S) (h : Hook) (v v2 : View) (log : Log) → t.told s h v ≡ gives s2 v2 log → t.most_steps s2 ≡ t.most_steps s

-- What hooks keep may stand for several plain values, as a test `holds` of plain values tells.

-- some plain value that is held stands for the lists over this ground
abbrev pub Stands : {S : Type 0} → (S → Type 0) → Tells S → View → Lists → Type 0
Stands {S} holds t v l = (s : S) × (holds s × Stand t s v l)

-- the hook may be called on some plain value that is held, for some lists
abbrev pub MayCall : {S : Type 0} → (S → Type 0) → Tells S → Hook → View → Type 0
MayCall {S} holds t h v = (s : S) × (holds s × ((l : Lists) × Ready t s v h l))

-- the call after a validator was bonded touches at most what is told, of each plain value that is held
abbrev pub BondsWithin : {S : Type 0} → (S → Type 0) → Tells S → Hook → ℕ → ℕ → Type 0
BondsWithin {S} holds t h before steps = (v : Validator) → h ≡ bonded v → (s : S) → holds s → steps ≤ before + t.most_steps s
