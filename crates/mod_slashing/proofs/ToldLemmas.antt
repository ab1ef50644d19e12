-- How the steps of a slash make up its rule.
use Rattle.std.proofs.Common.{◌≡◌, ◌∙◌, ℕ, ◌+◌, ◌-◌, false, cond, sym, ap, subst, Some, Result, Ok, Err}
use Rattle.base_decimals.specs.declared.over.Over.{Over}
use Rattle.base_roles.specs.{declared.{entities.Validator.Validator, faults.HookFault.HookFault}, Answers.Follows}
use Rattle.base_roles.specs.{Lent.{FollowsLent, IsAsTold}, Log.Log, Staked.{Staked, validator_at, is_unbonded}}
use Rattle.base_roles.specs.{Flow.{◌>>=◌}, World.{View, Told, World}, declared.calls.Hook.Hook}
use Rattle.rule_modules.specs.Slashing.{Core, EntriesSlash, staked_unbonds, slash_amount, rest_slashed, slashed_at}
use Rattle.mod_staking.specs.Calls.{behind_log}

module _ {U R H : Type 0} (told : H → Hook → View → Told H) (entries : EntriesSlash U R H) (v : Validator) (infraction power factor : ℕ) (w : World (Core U R) H) where
  -- the slash behind that of unbonding entries
  abbrev of_redelegations : U → View → Result (ℕ × R × U × World Staked H) Over
  of_redelegations u view =
      entries.of_redelegations (staked_unbonds told) entries.of_followed v.operator infraction factor w.mine.redelegations u (record { mine = w.mine.staked; hooks = w.hooks; view = view; log = w.log })

  -- the slash of the validator itself, behind those of entries
  abbrev rest_of : ℕ → ℕ × R × U × World Staked H → Result (ℕ × World Staked H) Over
  rest_of some q = rest_slashed told (validator_at q.3.mine v.operator) (slash_amount power w.view.ctx.params.power_reduction factor - (some + q.0)) q.3

  -- all of it, put together
  abbrev whole_of : U → R → ℕ × World Staked H → Result (ℕ × World (Core U R) H) Over
  whole_of u r x = Ok (x.0, record { mine = record { staked = x.1.mine; unbondings = u; redelegations = r }; hooks = x.1.hooks; view = x.1.view; log = x.1.log })

  abbrev behind_unbondings : ℕ × U × View → Result (ℕ × World (Core U R) H) Over
  behind_unbondings p = of_redelegations p.1 p.2 >>= λ q. (rest_of p.0 q >>= whole_of q.2 q.1)

  -- the slash of a validator that is not unbonded
  pub slashed-is : is_unbonded v.status ≡ false → slashed_at told entries (Some v) infraction power factor w ≡ behind_unbondings (entries.of_unbondings v.operator infraction factor w.mine.unbondings w.view)
  slashed-is f = ap (λ b. cond b (Ok (0, w)) (behind_unbondings (entries.of_unbondings v.operator infraction factor w.mine.unbondings w.view))) f

  module _ (holds : H → Type 0) (view : View) where
    whole : (x : Result (ℕ × World Staked H) Over) (s : Staked) (u u2 : U) (r r2 : R) (answer : Result ℕ HookFault) → u ≡ u2 → r ≡ r2 → Follows x s holds view answer
        → Follows (x >>= whole_of u2 r2) (record { staked = s; unbondings = u; redelegations = r }) holds view answer
    whole (Ok x) s u u2 r r2 (Ok n) k e p = (p.0, (λ i. record { staked = p.1 i; unbondings = k i; redelegations = e i }), p.2, p.3)
    whole (Ok x) s u u2 r r2 (Err why) k e p = p
    whole (Err over) s u u2 r r2 (Ok n) k e p = absurd p
    whole (Err over) s u u2 r r2 (Err why) k e p = p

    -- the call of the validator itself answers as the rule behind the entries'
    behind : (some : ℕ) (q : Result (ℕ × R × U × World Staked H) Over) (holds1 : H → Type 0) (s1 s : Staked) (r : R) (u : U) (view1 : View) (counted : ℕ) (answer : Result ℕ HookFault)
        → FollowsLent q r u s1 holds1 view1 (Ok counted)
        → ((h : H) → holds1 h → (log : Log) → Follows (rest_slashed told (validator_at s1 v.operator) (slash_amount power w.view.ctx.params.power_reduction factor - (some + counted)) (behind_log log s1 h view1)) s holds view answer)
        → Follows (q >>= λ x. (rest_of some x >>= whole_of x.2 x.1)) (record { staked = s; unbondings = u; redelegations = r }) holds view answer
    behind some (Err over) holds1 s1 s r u view1 counted answer f rest = absurd f
    behind some (Ok x) holds1 s1 s r u view1 counted answer f rest =
        let given = rest x.3.hooks f.4 x.3.log in
        let same : Follows (rest_of some x) s holds view answer
        = subst (λ y. Follows y s holds view answer) (λ i. rest_slashed told (validator_at (f.3 i) v.operator) (slash_amount power w.view.ctx.params.power_reduction factor - (some + f.0 i)) (record { mine = f.3 i; hooks = x.3.hooks; view = f.5 i; log = x.3.log })) given in
        whole (rest_of some x) s u x.2 r x.1 answer f.2 f.1 same

    -- a slash through entries and at the validator answers as its rule
    pub slashed-all : (some counted : ℕ) (u u2 : U) (view1 view2 : View) (holds1 : H → Type 0) (s1 s : Staked) (r : R) (answer : Result ℕ HookFault) → is_unbonded v.status ≡ false
        → IsAsTold (entries.of_unbondings v.operator infraction factor w.mine.unbondings w.view) u view1 some
        → FollowsLent (of_redelegations u view1) r u2 s1 holds1 view2 (Ok counted)
        → ((h : H) → holds1 h → (log : Log) → Follows (rest_slashed told (validator_at s1 v.operator) (slash_amount power w.view.ctx.params.power_reduction factor - (some + counted)) (behind_log log s1 h view2)) s holds view answer)
        → Follows (slashed_at told entries (Some v) infraction power factor w) (record { staked = s; unbondings = u2; redelegations = r }) holds view answer
    slashed-all some counted u u2 view1 view2 holds1 s1 s r answer b first f rest =
        subst (λ x. Follows x (record { staked = s; unbondings = u2; redelegations = r }) holds view answer)
        ((λ i. behind_unbondings (first.0 i, first.1 i, first.2 i)) ∙ sym (slashed-is b))
        (behind some (of_redelegations u view1) holds1 s1 s r u2 view2 counted answer f rest)
