-- A rule that is followed step by step: the world that its steps have reached, and the slash of entries as such steps.
use Rattle.std.proofs.Common.{◌≡◌, ◌∙◌, ℕ, Bool, true, false, cond, List, [], ◌∷◌, refl, sym, ap, subst, inl, inr, Ok, Err, Result, map, filter}
use Rattle.std.specs.{Prelude.⊤, List.{AllByRecursion, Sorted.IsStrictlySortedBy}, Map.keys_of}
use Rattle.base_decimals.specs.declared.over.Over.{Over}
use Rattle.base_roles.specs.declared.{entities.RedelegationEntry.RedelegationEntry, faults.HookFault.HookFault}
use Rattle.base_roles.specs.{Answers.WantsMemory, Lent.{Unbonds, Following, FollowsLent}, Log.Log}
use Rattle.base_roles.specs.{Orders.{triple_cmp, same_addr}, Flow.{◌>>=◌}, World.{View, World}}
use Rattle.base_roles.specs.declared.faults.HookFault.TheVariants as hook
use Rattle.base_records.proofs.MemberLemmas.{Member}
use Rattle.rule_modules.specs.EntrySlashes.{is_hit, entry_hit, targets_slashed, sources_slashed}
use Rattle.rule_modules.specs.Redelegations.{RedelegationLists}
use Rattle.mod_staking.specs.Calls.{behind_log}
use Rattle.mod_entries.{specs.{Lists.list_at, Slashed.is_from, Walked.keys_where}, proofs.DueLemmas.found_list}
use Rattle.mod_redelegation.specs.{Scenes.LeavesBoth, Slashed.{entry_slashed, keys_slashed}}
use Rattle.mod_redelegation.proofs.OrderLemmas.{Key, triple_total, exact_key}

-- ---- steps

-- Some world that stands so is reached, with unbonding entries that are lent, from which the rest of a rule gives what the
-- whole gives.
pub record Reached {U D H : Type 0} (whole : Result (U × World D H) Over) (rest : U → World D H → Result (U × World D H) Over) (u : U) (d : D) (holds : H → Type 0) (v : View) : Type 0 where
  pub lent : U
  pub world : World D H
  pub entries : u ≡ lent
  pub mine : d ≡ world.mine
  pub hooks : holds world.hooks
  pub view : v ≡ world.view
  pub goes_on : whole ≡ rest lent world

leaves_wants : {U D H : Type 0} (r : Result (U × World D H) Over) (u : U) (d : D) (holds : H → Type 0) (v : View) (fault : HookFault) → WantsMemory fault → LeavesBoth r u d holds v (Err fault)
leaves_wants r u d holds v (hook.Over over) w = absurd w
leaves_wants (Ok x) u d holds v hook.NoMemory w = tt
leaves_wants (Err due) u d holds v hook.NoMemory w = tt

module _ {U D H : Type 0} (whole : Result (U × World D H) Over) (rest : U → World D H → Result (U × World D H) Over) (u : U) (d : D) (holds : H → Type 0) (v : View) where
  pub reached-first : (h : H) (log : Log) → holds h → whole ≡ rest u (behind_log log d h v) → Reached whole rest u d holds v
  reached-first h log o e = record { lent = u; world = behind_log log d h v; entries = refl; mine = refl; hooks = o; view = refl; goes_on = e }

  module _ (r : Reached whole rest u d holds v) where
    here : behind_log r.world.log d r.world.hooks v ≡ r.world
    here = λ i. record { mine = r.mine i; hooks = r.world.hooks; view = r.view i; log = r.world.log }

    pub reached-last : ((u : U) (w : World D H) → rest u w ≡ Ok (u, w)) → LeavesBoth whole u d holds v (Ok tt)
    reached-last e = subst (λ x. LeavesBoth x u d holds v (Ok tt)) (sym (r.goes_on ∙ e r.lent r.world)) (r.entries, r.mine, r.hooks, r.view)

    module _ (step next : U → World D H → Result (U × World D H) Over) (is : (u : U) (w : World D H) → rest u w ≡ (step u w >>= λ p. next p.0 p.1)) (u2 : U) (d2 : D) (holds2 : H → Type 0) (v2 : View) where
      stepped : (answer : Result ⊤ HookFault) → LeavesBoth (step u (behind_log r.world.log d r.world.hooks v)) u2 d2 holds2 v2 answer → LeavesBoth (step r.lent r.world) u2 d2 holds2 v2 answer
      stepped answer l = subst (λ x. LeavesBoth x u2 d2 holds2 v2 answer) (λ i. step (r.entries i) (here i)) l

      pub reached-next : ((h : H) → holds h → (log : Log) → LeavesBoth (step u (behind_log log d h v)) u2 d2 holds2 v2 (Ok tt)) → Reached whole next u2 d2 holds2 v2
      reached-next f = by (step r.lent r.world) refl (stepped (Ok tt) (f r.world.hooks r.hooks r.world.log))
        where
          by : (x : Result (U × World D H) Over) → step r.lent r.world ≡ x → LeavesBoth x u2 d2 holds2 v2 (Ok tt) → Reached whole next u2 d2 holds2 v2
          by (Ok p) e l = record { lent = p.0; world = p.1; entries = l.0; mine = l.1; hooks = l.2; view = l.3; goes_on = r.goes_on ∙ is r.lent r.world ∙ ap (λ y. y >>= λ q. next q.0 q.1) e }
          by (Err due) e l = absurd l

      pub reached-err : (fault : HookFault) → ((h : H) → holds h → (log : Log) → LeavesBoth (step u (behind_log log d h v)) u2 d2 holds2 v2 (Err fault)) → LeavesBoth whole u2 d2 holds2 v2 (Err fault)
      reached-err fault f = by (step r.lent r.world) refl (stepped (Err fault) (f r.world.hooks r.hooks r.world.log))
        where
          by : (x : Result (U × World D H) Over) → step r.lent r.world ≡ x → LeavesBoth x u2 d2 holds2 v2 (Err fault) → LeavesBoth whole u2 d2 holds2 v2 (Err fault)
          by (Ok p) e l = leaves_wants whole u2 d2 holds2 v2 fault l
          by (Err due) e l = subst (λ y. LeavesBoth y u2 d2 holds2 v2 (Err fault)) (sym (r.goes_on ∙ is r.lent r.world ∙ ap (λ y. y >>= λ q. next q.0 q.1) e)) l

-- ---- entry by entry, key by key

bind_same : {A B : Type 0} (r : Result A Over) (f g : A → Result B Over) → ((a : A) → f a ≡ g a) → (r >>= f) ≡ (r >>= g)
bind_same (Ok a) f g h = h a
bind_same (Err due) f g h = refl

module _ {D H U : Type 0} (lent : Unbonds D H) (unbondings : Following U) (infraction factor : ℕ) where
  -- the slash of the entries of a delegator and a target
  abbrev targets : List ℕ → List ℕ → List RedelegationEntry → U → World D H → Result (U × World D H) Over
  targets delegator target es u w = targets_slashed lent unbondings delegator target infraction factor es u w

  pub targets-step : (delegator target : List ℕ) (e : RedelegationEntry) (es : List RedelegationEntry) (u : U) (w : World D H)
      → targets_slashed lent unbondings delegator target infraction factor (e ∷ es) u w
      ≡ (entry_slashed lent unbondings delegator target infraction factor e u w >>= λ p. targets_slashed lent unbondings delegator target infraction factor es p.0 p.1)
  targets-step delegator target e es u w = by (is_hit infraction w.view.ctx.time e.created e.completes)
    where
      one : Result (U × World D H) Over
      one = entry_hit lent unbondings delegator target factor e u w

      by : (b : Bool) → cond b (one >>= λ p. targets delegator target es p.0 p.1) (targets delegator target es u w) ≡ (cond b one (Ok (u, w)) >>= λ p. targets delegator target es p.0 p.1)
      by true = refl
      by false = refl

  pub targets-next : (delegator target : List ℕ) (ks : List RedelegationEntry) (e : RedelegationEntry) (es : List RedelegationEntry) → ks ≡ e ∷ es → (u : U) (w : World D H)
      → targets_slashed lent unbondings delegator target infraction factor ks u w
      ≡ (entry_slashed lent unbondings delegator target infraction factor e u w >>= λ p. targets_slashed lent unbondings delegator target infraction factor es p.0 p.1)
  targets-next delegator target ks e es p u w = ap (λ l. targets delegator target l u w) p ∙ targets-step delegator target e es u w

  pub targets-end : (delegator target : List ℕ) (ks : List RedelegationEntry) → ks ≡ [] → (u : U) (w : World D H) → targets_slashed lent unbondings delegator target infraction factor ks u w ≡ Ok (u, w)
  targets-end delegator target ks p u w = ap (λ l. targets delegator target l u w) p

  -- the slash of the entries of keys
  abbrev keyed : List Key → RedelegationLists → U → World D H → Result (U × World D H) Over
  keyed ks r u w = keys_slashed lent unbondings infraction factor ks r u w

  pub keys-next : (r : RedelegationLists) (ks : List Key) (k : Key) (rest : List Key) → ks ≡ k ∷ rest → (u : U) (w : World D H)
      → keys_slashed lent unbondings infraction factor ks r u w
      ≡ (targets_slashed lent unbondings k.0 k.2 infraction factor (list_at triple_cmp r k) u w >>= λ p. keys_slashed lent unbondings infraction factor rest r p.0 p.1)
  keys-next r ks k rest p u w = ap (λ l. keyed l r u w) p

  pub keys-end : (r : RedelegationLists) (ks : List Key) → ks ≡ [] → (u : U) (w : World D H) → keys_slashed lent unbondings infraction factor ks r u w ≡ Ok (u, w)
  keys-end r ks p u w = ap (λ l. keyed l r u w) p

  module _ (operator : List ℕ) (r : RedelegationLists) where
    abbrev of_key : Key → List ℕ
    of_key k = k.1

    abbrev some_keys : RedelegationLists → List Key
    some_keys l = keys_where (is_from of_key operator) l

    abbrev sources : RedelegationLists → U → World D H → Result (U × World D H) Over
    sources l u w = sources_slashed lent unbondings operator infraction factor l u w

    sources-from : (l : RedelegationLists) → AllByRecursion (λ p. list_at triple_cmp r p.0 ≡ p.1) l → (u : U) (w : World D H) → sources l u w ≡ keyed (some_keys l) r u w
    sources-from [] h u w = refl
    sources-from (p ∷ l) h u w = by (same_addr p.0.1 operator) (sources-from l h.1)
      where
        rest : RedelegationLists
        rest = filter (λ (x : Key × List RedelegationEntry). is_from of_key operator x.0 x.1) l

        one : List RedelegationEntry → Result (U × World D H) Over
        one es = targets p.0.0 p.0.2 es u w

        by : (b : Bool) → ((u1 : U) (w1 : World D H) → sources l u1 w1 ≡ keyed (some_keys l) r u1 w1) → cond b (one p.1 >>= λ q. sources l q.0 q.1) (sources l u w)
            ≡ keyed (map (λ (x : Key × List RedelegationEntry). x.0) (cond b (p ∷ rest) rest)) r u w
        by true later = bind_same (one p.1) _ _ (λ q. later q.0 q.1) ∙ ap (λ es. one es >>= λ q. keyed (some_keys l) r q.0 q.1) (sym h.0)
        by false later = later u w

    of_members : (P : Key × List RedelegationEntry → Type 0) (l : RedelegationLists) → ((x : Key × List RedelegationEntry) → Member l x → P x) → AllByRecursion P l
    of_members P [] h = tt
    of_members P (p ∷ l) h = (h p (inl refl), of_members P l (λ x m. h x (inr m)))

    -- the rule's walk over all entries is a walk over the keys of an operator
    pub sources-keyed : IsStrictlySortedBy triple_cmp (keys_of r) → (u : U) (w : World D H) → sources_slashed lent unbondings operator infraction factor r u w ≡ keys_slashed lent unbondings infraction factor (some_keys r) r u w
    sources-keyed s u w = sources-from r (of_members (λ p. list_at triple_cmp r p.0 ≡ p.1) r (λ x m. found_list triple_cmp triple_total exact_key r s x.0 x.1 m)) u w

-- ---- the answer with what is counted

-- an answer with a number, of a call whose rule has one behind these steps
pub follows-counted : {S U D H : Type 0} (r : Result (U × World D H) Over) (n : ℕ) (s : S) (u : U) (d : D) (holds : H → Type 0) (v : View) → LeavesBoth r u d holds v (Ok tt) → FollowsLent (r >>= λ p. Ok (n, s, p.0, p.1)) s u d holds v (Ok n)
follows-counted (Ok p) n s u d holds v l = (refl, refl, l.0, l.1, l.2, l.3)
follows-counted (Err due) n s u d holds v l = absurd l

pub follows-fault : {S U D H : Type 0} (r : Result (U × World D H) Over) (n : ℕ) (s s2 : S) (u : U) (d : D) (holds : H → Type 0) (v : View) (fault : HookFault) → LeavesBoth r u d holds v (Err fault)
    → FollowsLent (r >>= λ p. Ok (n, s, p.0, p.1)) s2 u d holds v (Err fault)
follows-fault (Ok p) n s s2 u d holds v fault l = l
follows-fault (Err due) n s s2 u d holds v fault l = l
