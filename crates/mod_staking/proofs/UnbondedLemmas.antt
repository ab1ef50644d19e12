-- What unbonding leaves of validators and delegations, operator by operator and delegation by delegation.
use Rattle.std.proofs.Common.{◌≡◌, ◌∙◌, ℕ, ◌+◌, ◌-◌, ◌≤◌, ◌==◌, Bool, true, false, cond, List, Option, Some, None, refl, sym, ap, subst, arith, Ok, Result, ◌||◌, ◌&&◌, not, if◌then◌else◌}
use Rattle.std.{proofs.lemmas.Bool.Decides.nat_tests, specs.{List.Sorted.IsStrictlySortedBy, Map.keys_of}}
use Rattle.base_decimals.specs.declared.over.Over.{Over}
use Rattle.base_shares.specs.Shares.{amount_out}
use Rattle.base_types.specs.{declared.status.BondStatus.BondStatus, Orders.addr_cmp}
use Rattle.base_roles.specs.declared.{entities.Validator.Validator, facts.Fact.TheVariants.Removed}
use Rattle.base_roles.specs.{Entries.{at, with_number}, Log.Log, Orders.{pair_cmp, same_addr}}
use Rattle.base_roles.specs.Staked.{Staked, validator_at, delegation, put_validator, is_bonded, is_unbonded, tokens_where, bonded_tokens, other_tokens}
use Rattle.base_roles.specs.{StakeChanges.{shares_left, validator_left, IsUnbonded}, Flow.{◌>>=◌}}
use Rattle.base_roles.specs.World.{View, Told, gives, exceeds, World, hooked, noted, over_view}
use Rattle.base_roles.specs.declared.calls.Hook.{Hook, TheVariants.{Removed as removed}}
use Rattle.rule_modules.specs.{Answers.Leaves, Stakes.without_validator}
use Rattle.rule_modules.specs.Unbonding.{removed_if_empty, falls_below_minimum}
use Rattle.rule_modules.proofs.{OrderLemmas.{same_back, same_itself}, SoundLemmas.{IsSoundAt, at-number, found-put}}
use Rattle.rule_modules.proofs.TokenLemmas.{tokens-put, tokens-left}
use Rattle.mod_staking.{specs.Calls.{behind_log, jailed_if}, proofs.{SoundLemmas.found-taken, ListLemmas.pair_is}}
use Rattle.mod_staking.proofs.UnbondLemmas.{now_of, less_of, ok_world, leaves_is, leaves_picked}
use Rattle.mod_staking.proofs.LeftLemmas.{state_left, sound_now, sound_less, same_delegations, found_now, all_gone, held_few}

-- ---- whether the validator goes

abbrev pub is_gone : Validator → Bool
is_gone v = is_unbonded v.status && (v.shares == 0)

abbrev pub state_gone : Bool → List ℕ → Staked → Staked
state_gone b o s = cond b (without_validator o s) s

module _ {H : Type 0} (told : H → Hook → View → Told H) (less : Validator) (k : Log) (s : Staked) (h : H) (u : View) (s2 : Staked) (holds : H → Type 0) (u2 : View) where
  after_hook : Told H → Result (World Staked H) Over
  after_hook t = hooked t (behind_log k (without_validator less.operator s) h u) >>= λ w. Ok (over_view (noted (Removed less.operator)) w)

  removed_by : (t : Told H) (w : World Staked H) → after_hook t ≡ Ok w → w.mine ≡ without_validator less.operator s
  unfolding after_hook
  removed_by (gives h3 v3 l) w e = sym (ap (λ x. x.mine) (ok_world _ w e))
  removed_by (exceeds over) w e = absurd cc

  gone_by : (b : Bool) (w : World Staked H) → cond b (after_hook (told h (removed less) u)) (Ok (behind_log k s h u)) ≡ Ok w → w.mine ≡ state_gone b less.operator s
  gone_by true w e = removed_by (told h (removed less) u) w e
  gone_by false w e = sym (ap (λ x. x.mine) (ok_world (behind_log k s h u) w e))

  pub mine_gone : Leaves (removed_if_empty told less (behind_log k s h u)) s2 holds u2 (Ok tt) → s2 ≡ state_gone (is_gone less) less.operator s
  unfolding after_hook
  mine_gone l =
      let p = leaves_picked (removed_if_empty told less (behind_log k s h u)) s2 holds u2 l in
      let r = leaves_is (removed_if_empty told less (behind_log k s h u)) s2 p.0 u2 p.1.1 in
      gone_by (is_gone less) (behind_log r.0 s2 p.0 u2) r.1

-- ---- tests

no_more : (x part : ℕ) → part ≤ x → ((x - part) == 0) ≡ (x == part)
no_more x part p = by (x == part) refl
  where
    by : (b : Bool) → (x == part) ≡ b → ((x - part) == 0) ≡ b
    by true e = grind (arith, nat_tests)
    by false e = grind (arith, nat_tests)

same_twice : (a : Bool) (x y : Validator) (r : Option Validator) → cond a (Some x) (cond a (Some y) r) ≡ cond a (Some x) r
same_twice true x y r = refl
same_twice false x y r = refl

and_true : (a b c : Bool) → ((a && b) && c) ≡ true → a ≡ true
and_true true b c e = refl
and_true false b c e = absurd cc

one_way : (a c g : Bool) (x y : Option Validator) (r : Option Validator) → a ≡ c → (cond g None x ≡ y) → cond g (cond a None (cond a x r)) (cond a x r) ≡ (if c then y else r)
one_way a c g x y r e f = by c g (sym e) f
  where
    by : (d g : Bool) → d ≡ a → cond g None x ≡ y → cond g (cond a None (cond a x r)) (cond a x r) ≡ (if d then y else r)
    by true true q f = rw (← q) f
    by true false q f = rw (← q) f
    by false true q f = rw (← q) refl
    by false false q f = rw (← q) refl

no_tokens : (x : Bool) (t : ℕ) → t ≡ 0 → cond x t 0 ≡ 0
no_tokens true t e = e
no_tokens false t e = refl

fewer : (x : Bool) (new old t out : ℕ) → out ≤ t → new + cond x t 0 ≡ old + cond x (t - out) 0 → new + (if x then out else 0) ≡ old
fewer true new old t out p e = omega (arith, p, e)
fewer false new old t out p e = omega (arith, e)

fewer_other : (x : Bool) (new old t out : ℕ) → out ≤ t → new + cond (if x then false else true) t 0 ≡ old + cond (if x then false else true) (t - out) 0 → new + (if x then 0 else out) ≡ old
fewer_other true new old t out p e = omega (arith, e)
fewer_other false new old t out p e = omega (arith, p, e)

module _ (height : ℕ) (s : Staked) (h : IsSoundAt height s) (v : Validator) (f : validator_at s v.operator ≡ Some v) (delegator : List ℕ) (held part : ℕ) (e : delegation s delegator v.operator ≡ Some held) (few : part ≤ held) where
  abbrev b : Bool
  b = falls_below_minimum v delegator (held - part)

  abbrev less : Validator
  less = less_of v b part

  abbrev s3 : Staked
  s3 = put_validator less (state_left height s h v f delegator held part e few b)

  most_part : part ≤ v.shares
  most_part = let within = held_few height s h v f delegator held part e few b in omega (arith, few, within)

  now_at : (c : Bool) (o : List ℕ) → cond (same_addr o v.operator) (Some less) (validator_at (jailed_if c v s) o) ≡ cond (same_addr o v.operator) (Some less) (validator_at s o)
  now_at true o = ap (cond (same_addr o v.operator) (Some less)) (found-put s (record v { jailed = true }) o) ∙ same_twice (same_addr o v.operator) less (record v { jailed = true }) (validator_at s o)
  now_at false o = refl

  third : (o : List ℕ) → validator_at s3 o ≡ cond (same_addr o v.operator) (Some less) (validator_at s o)
  third o = found-put (state_left height s h v f delegator held part e few b) less o ∙ now_at b o

  ascend3 : IsStrictlySortedBy addr_cmp (keys_of s3.validators)
  ascend3 = (sound_less height s h v f delegator held part e few b).validators_ascend

  fourth : (g : Bool) (o : List ℕ) → validator_at (state_gone g v.operator s3) o ≡ cond g (cond (same_addr o v.operator) None (cond (same_addr o v.operator) (Some less) (validator_at s o))) (cond (same_addr o v.operator) (Some less) (validator_at s o))
  fourth true o = found-taken s3 v.operator o ascend3 ∙ ap (cond (same_addr o v.operator) None) (third o)
  fourth false o = third o

  left_of : (out : ℕ) → out ≡ amount_out v.tokens v.shares part → cond (is_gone less) None (Some less) ≡ validator_left v part out b
  left_of out q = ap (λ z. cond (is_unbonded v.status && z) None (Some less)) (no_more v.shares part most_part)
      ∙ ap (λ n. cond (is_unbonded v.status && (v.shares == part)) None (Some (record v { tokens = v.tokens - n; shares = v.shares - part; jailed = v.jailed || b }))) (sym q)

  same_ds : (g : Bool) → (state_gone g v.operator s3).delegations ≡ with_number pair_cmp s.delegations (v.operator, delegator) (held - part)
  same_ds true = ap (λ ds. with_number pair_cmp ds (v.operator, delegator) (held - part)) (same_delegations b v s)
  same_ds false = ap (λ ds. with_number pair_cmp ds (v.operator, delegator) (held - part)) (same_delegations b v s)

  swapped : (x y : Bool) → (x && y) ≡ (y && x)
  swapped true true = refl
  swapped true false = refl
  swapped false true = refl
  swapped false false = refl

  gone_shares : (g : Bool) (w o : List ℕ) → delegation (state_gone g v.operator s3) w o ≡ (if same_addr v.operator o && same_addr delegator w then shares_left held part else delegation s w o)
  gone_shares g w o =
      ap (λ ds. at pair_cmp ds (o, w)) (same_ds g)
      ∙ at-number s.delegations (v.operator, delegator) (o, w) (held - part) h.delegations_ascend
      ∙ (λ i. cond ((pair_is v.operator delegator o w ∙ swapped (same_addr delegator w) (same_addr v.operator o)) i) (cond (no_more held part few i) None (Some (held - part))) (at pair_cmp s.delegations (o, w)))

  same_tokens : (test : BondStatus → Bool) (c : Bool) → tokens_where test (jailed_if c v s).validators ≡ tokens_where test s.validators
  same_tokens test true = cancels (cond (test v.status) v.tokens 0) (tokens-put test v.operator v (record v { jailed = true }) s.validators h.validators_ascend f)
    where
      cancels : {x y : ℕ} (n : ℕ) → x + n ≡ y + n → x ≡ y
      cancels {x} {y} n q = omega (arith, q)
  same_tokens test false = refl

  third_tokens : (test : BondStatus → Bool) → tokens_where test s3.validators + cond (test v.status) v.tokens 0 ≡ tokens_where test s.validators + cond (test v.status) (v.tokens - amount_out v.tokens v.shares part) 0
  third_tokens test =
      tokens-put test v.operator (now_of v b) less (jailed_if b v s).validators (sound_now height b v s h f).validators_ascend (found_now b v s f)
      ∙ ap (λ n. n + cond (test v.status) (v.tokens - amount_out v.tokens v.shares part) 0) (same_tokens test b)

  gone_tokens : (test : BondStatus → Bool) (g : Bool) → is_gone less ≡ g → tokens_where test (state_gone g v.operator s3).validators ≡ tokens_where test s3.validators
  gone_tokens test true q =
      let left = tokens-left test v.operator less s3.validators (third v.operator ∙ itself) in
      let zero : cond (test v.status) less.tokens 0 ≡ 0 = no_tokens (test v.status) less.tokens (all_gone v.tokens v.shares part most_part (is_zero (v.shares - part) (second (is_unbonded v.status) ((v.shares - part) == 0) q))) in
      omega (arith, left, zero)
    where
      itself : cond (same_addr v.operator v.operator) (Some less) (validator_at s v.operator) ≡ Some less
      itself = ap (λ z. cond z (Some less) (validator_at s v.operator)) (same_itself v.operator)

      second : (x y : Bool) → (x && y) ≡ true → y ≡ true
      second true true r = refl
      second true false r = absurd cc
      second false y r = absurd cc

      is_zero : (n : ℕ) → (n == 0) ≡ true → n ≡ 0
      is_zero n r = grind (arith, nat_tests)
  gone_tokens test false q = refl

  pub is_unbonded_so : (s4 : Staked) (out : ℕ) → s4 ≡ state_gone (is_gone less) v.operator s3 → out ≡ amount_out v.tokens v.shares part → out ≤ v.tokens → IsUnbonded delegator v.operator part out s s4
  is_unbonded_so s4 out is q within = subst (IsUnbonded delegator v.operator part out s) (sym is) (record {
    v = v;
    held = held;
    falls = b;
    validator = f;
    shares = e;
    own = λ r. and_true (same_addr delegator v.operator) (not v.jailed) _ r;
    within = within;
    validators = λ o. fourth (is_gone less) o ∙ one_way (same_addr o v.operator) (same_addr v.operator o) (is_gone less) (Some less) (validator_left v part out b) (validator_at s o) (same_back o v.operator) (left_of out q);
    delegations = gone_shares (is_gone less);
    bonded = ap (λ n. n + (if is_bonded v.status then out else 0)) (gone_tokens is_bonded (is_gone less) refl)
        ∙ fewer (is_bonded v.status) _ (bonded_tokens s) v.tokens out within (third_tokens is_bonded ∙ ap (λ n. bonded_tokens s + cond (is_bonded v.status) (v.tokens - n) 0) (sym q));
    other = ap (λ n. n + (if is_bonded v.status then 0 else out)) (gone_tokens (λ status. if is_bonded status then false else true) (is_gone less) refl)
        ∙ fewer_other (is_bonded v.status) _ (other_tokens s) v.tokens out within (third_tokens (λ status. if is_bonded status then false else true) ∙ ap (λ n. other_tokens s + cond (if is_bonded v.status then false else true) (v.tokens - n) 0) (sym q));
  })
