-- Who still stands, and under which consensus address, once validators changed.
use Rattle.std.proofs.Common.{◌≡◌, ◌∙◌, ℕ, ◌+◌, Bool, true, false, cond, List, refl, sym, ap, subst, arith, Option, Some, None, option_map}
use Rattle.base_types.specs.declared.status.BondStatus.{BondStatus}
use Rattle.base_roles.specs.{declared.entities.Validator.Validator, Orders.same_addr}
use Rattle.base_roles.specs.Staked.{Staked, validator_at, validator_by_cons, put_validator, lists_of, is_bonded, tokens_where, bonded_tokens, other_tokens}
use Rattle.base_roles.specs.StakeChanges.{but_jailed, StillStand, StillStandByCons, SameButJailed, SameButJailedByCons, IsJailed}
use Rattle.mod_staking.specs.{Calls.{IsSoundStake, with_if, changed_at}, Registered.operator_by_cons}
use Rattle.mod_staking.proofs.IndexLemmas.{by_cons-none, by_cons-some, found_by_cons, nobody_has}
use Rattle.mod_staking.proofs.ListLemmas.{lists-put}
use Rattle.rule_modules.{specs.Slashing.jailed_of, proofs.{OrderLemmas.same_is, TokenLemmas.tokens-put}}
use Rattle.rule_modules.proofs.SoundLemmas.{IsSoundAt, to_points, found-put}

some_is : {A : Type 0} (a b : A) → Some a ≡ Some b → a ≡ b
some_is a b h = cc

-- ---- a validator of a consensus address stands under its operator, and the other way

pub by_cons-stands : (s : Staked) (c : List ℕ) (v : Validator) → IsSoundStake s → validator_by_cons s c ≡ Some v → (validator_at s v.operator ≡ Some v) × (v.cons ≡ c)
by_cons-stands s c v sound f = by (operator_by_cons s.validators c) refl
  where
    at_points : IsSoundAt sound.0 s
    at_points = to_points sound.0 s sound.1

    by : (r : Option (List ℕ)) → operator_by_cons s.validators c ≡ r → (validator_at s v.operator ≡ Some v) × (v.cons ≡ c)
    by None e = let none : None ≡ Some v = sym (by_cons-none s.validators c e) ∙ f in absurd cc
    by (Some o) e =
        let found = found_by_cons s.validators c o at_points.validators_ascend e in
        let one : validator_at s o ≡ Some v = by_cons-some s.validators c o at_points.validators_ascend e ∙ f in
        let same : found.0 ≡ v = some_is found.0 v (sym found.1.0 ∙ one) in
        (ap (validator_at s) (at_points.operators o v one) ∙ one, sym (ap (λ (x : Validator). x.cons) same) ∙ found.1.1)

pub stands-by_cons : (s : Staked) (o : List ℕ) (v : Validator) → IsSoundStake s → validator_at s o ≡ Some v → validator_by_cons s v.cons ≡ Some v
stands-by_cons s o v sound f = by (validator_by_cons s v.cons) refl
  where
    at_points : IsSoundAt sound.0 s
    at_points = to_points sound.0 s sound.1

    by : (r : Option Validator) → validator_by_cons s v.cons ≡ r → r ≡ Some v
    by None e = absurd (nobody_has s.validators v.cons o v e f refl)
    by (Some u) e =
        let k = by_cons-stands s v.cons u sound e in
        let same : u.operator ≡ o = at_points.cons u.operator o u v k.0 f k.1 in
        sym k.0 ∙ ap (validator_at s) same ∙ f

-- ---- who was not unbonded

-- a validator is put in the place of one with its consensus address and status
pub still-put : (s : Staked) (w v : Validator) → validator_at s w.operator ≡ Some v → w.cons ≡ v.cons → w.status ≡ v.status → StillStand s (put_validator w s)
still-put s w v f c t o u g n = by (same_addr o w.operator) refl
  where
    by : (b : Bool) → same_addr o w.operator ≡ b → (x : Validator) × ((validator_at (put_validator w s) o ≡ Some x) × (x.cons ≡ u.cons) × (x.status ≡ u.status))
    by true e =
        let same : v ≡ u = some_is v u (sym f ∙ ap (validator_at s) (sym (same_is o w.operator e)) ∙ g) in
        (w, (found-put s w o ∙ ap (λ b. cond b (Some w) (validator_at s o)) e, c ∙ ap (λ (x : Validator). x.cons) same, t ∙ ap (λ (x : Validator). x.status) same))
    by false e = (u, (found-put s w o ∙ ap (λ b. cond b (Some w) (validator_at s o)) e ∙ g, refl, refl))

-- the same of those that are looked up by consensus address
pub still-by_cons : (s s2 : Staked) → IsSoundStake s → IsSoundStake s2 → StillStand s s2 → StillStandByCons s s2
still-by_cons s s2 sound sound2 still c v f n =
    let k = by_cons-stands s c v sound f in
    let r = still v.operator v k.0 n in
    let at = to_points sound2.0 s2 sound2.1 in
    (r.0, (ap (validator_by_cons s2) (sym (r.1.1 ∙ k.1)) ∙ stands-by_cons s2 v.operator r.0 sound2 r.1.0, at.operators v.operator r.0 r.1.0, r.1.2))

-- ---- jailing

-- a validator is put in the place of one that is the same but for its jail
pub same-put : (s : Staked) (w v : Validator) → validator_at s w.operator ≡ Some v → but_jailed w ≡ but_jailed v → SameButJailed s (put_validator w s)
same-put s w v f e o = by (same_addr o w.operator) refl
  where
    by : (b : Bool) → same_addr o w.operator ≡ b → option_map but_jailed (validator_at (put_validator w s) o) ≡ option_map but_jailed (validator_at s o)
    by true h =
        ap (option_map but_jailed) (found-put s w o ∙ ap (λ b. cond b (Some w) (validator_at s o)) h) ∙ ap Some e ∙ sym (ap (option_map but_jailed) (ap (validator_at s) (same_is o w.operator h) ∙ f))
    by false h = ap (option_map but_jailed) (found-put s w o ∙ ap (λ b. cond b (Some w) (validator_at s o)) h)

mapped : (r : Option Validator) (u : Validator) → option_map but_jailed r ≡ Some (but_jailed u) → (x : Validator) × ((r ≡ Some x) × (but_jailed x ≡ but_jailed u))
mapped None u e = absurd cc
mapped (Some x) u e = (x, (refl, some_is (but_jailed x) (but_jailed u) e))

-- where one stands, the other does, who is the same but for its jail
other_stands : (s s2 : Staked) → IsSoundStake s2 → SameButJailed s s2 → (c : List ℕ) (v : Validator) → validator_at s v.operator ≡ Some v → v.cons ≡ c
    → (x : Validator) × ((validator_by_cons s2 c ≡ Some x) × (but_jailed x ≡ but_jailed v))
other_stands s s2 sound2 same c v f e =
    let p = mapped (validator_at s2 v.operator) v (same v.operator ∙ ap (option_map but_jailed) f) in
    let own : p.0.cons ≡ c = ap (λ (x : Validator). x.cons) p.1.1 ∙ e in
    (p.0, (ap (validator_by_cons s2) (sym own) ∙ stands-by_cons s2 v.operator p.0 sound2 p.1.0, p.1.1))

same_back : (s s2 : Staked) → SameButJailed s s2 → SameButJailed s2 s
same_back s s2 same = λ o. sym (same o)

-- the same of those that are looked up by consensus address
pub same-by_cons : (s s2 : Staked) → IsSoundStake s → IsSoundStake s2 → SameButJailed s s2 → SameButJailedByCons s s2
same-by_cons s s2 sound sound2 same c = by (validator_by_cons s c) refl (validator_by_cons s2 c) refl
  where
    by : (r : Option Validator) → validator_by_cons s c ≡ r → (q : Option Validator) → validator_by_cons s2 c ≡ q → option_map but_jailed q ≡ option_map but_jailed r
    by None e None g = refl
    by None e (Some u) g =
        let k = by_cons-stands s2 c u sound2 g in
        let p = other_stands s2 s sound (same_back s s2 same) c u k.0 k.1 in
        let none : None ≡ Some p.0 = sym e ∙ p.1.0 in
        absurd cc
    by (Some v) e q g =
        let k = by_cons-stands s c v sound e in
        let p = other_stands s s2 sound2 same c v k.0 k.1 in
        ap (option_map but_jailed) (sym g ∙ p.1.0) ∙ ap Some p.1.1

-- a validator is jailed
module _ (s : Staked) (c : List ℕ) (v : Validator) (sound : IsSoundStake s) (found : validator_by_cons s c ≡ Some v) where
  abbrev jailed_now : Validator
  jailed_now = record v { jailed = true }

  pub stands-here : validator_at s v.operator ≡ Some v
  stands-here = (by_cons-stands s c v sound found).0

  abbrev jail_here : Validator → Validator
  jail_here x = record x { jailed = true }

  pub jail-put : changed_at jail_here v.operator s ≡ put_validator jailed_now s
  jail-put = ap (λ o. with_if (option_map jail_here o) s) stands-here

  module _ (s2 : Staked) (is : s2 ≡ changed_at jail_here v.operator s) where
    now_is : s2 ≡ put_validator jailed_now s
    now_is = is ∙ jail-put

    pub jail-held : s2 ≡ jailed_of (validator_by_cons s c) s
    jail-held = now_is ∙ ap (λ o. jailed_of o s) (sym found)

    pub jail-is : IsJailed c s s2
    jail-is = (v, (found, now_is))

    pub jail-lists : lists_of s2 ≡ lists_of s
    jail-lists = ap lists_of now_is ∙ lists-put s jailed_now v stands-here

    pub jail-same : SameButJailed s s2
    jail-same = subst (SameButJailed s) (sym now_is) (same-put s jailed_now v stands-here refl)

    pub jail-same_by_cons : IsSoundStake s2 → SameButJailedByCons s s2
    jail-same_by_cons sound2 = same-by_cons s s2 sound sound2 jail-same

    no_more : (x y z : ℕ) → x + z ≡ y + z → x ≡ y
    no_more x y z e = omega (arith, e)

    owed-same : (test : BondStatus → Bool) → tokens_where test s2.validators ≡ tokens_where test s.validators
    owed-same test = ap (λ (x : Staked). tokens_where test x.validators) now_is
        ∙ no_more _ _ (cond (test v.status) v.tokens 0) (tokens-put test v.operator v jailed_now s.validators (to_points sound.0 s sound.1).validators_ascend stands-here)

    pub jail-bonded : bonded_tokens s2 ≡ bonded_tokens s
    jail-bonded = owed-same is_bonded

    pub jail-other : other_tokens s2 ≡ other_tokens s
    jail-other = owed-same (λ status. cond (is_bonded status) false true)
