-- Distribution's hooks are lawful.
use Rattle.std.specs.Prelude.{◌≡◌, ℕ, ◌&&◌, Bool, true, false, if◌then◌else◌, List, [], ◌∷◌, ◌++◌, Some, None, Result, IfOk, refl}
use Rattle.std.specs.List.Sorted.{IsStrictlySortedBy}
use Rattle.std.specs.Map.{keys_of}
use Rattle.std.proofs.Common.{◌∙◌, sym, ap, subst, append-nil, append_assoc}
use Rattle.base_decimals.specs.declared.over.Over.{Over}
use Rattle.base_types.specs.declared.account.Account.{Account}
use Rattle.base_types.specs.declared.account.Account.TheVariants as account
use Rattle.base_types.specs.declared.account.Module.TheVariants as holder
use Rattle.base_coins.specs.Coins.{Money}
use Rattle.base_roles.specs.declared.entities.Validator.{Validator}
use Rattle.base_roles.specs.declared.facts.Fact.{Fact}
use Rattle.base_roles.specs.declared.facts.Fact.TheVariants as fact
use Rattle.base_roles.proofs.HoldingLemmas.{balance-moved_elsewhere, supplies-moved}
use Rattle.base_roles.specs.Holdings.{transfer_told}
use Rattle.base_roles.specs.Hooks.{Needs, after, with_operator, with_started, Stand, Ready, Keeps, IsGiven, Lawful}
use Rattle.base_roles.specs.Owing.{Lists}
use Rattle.base_roles.specs.Log.{Log}
use Rattle.base_roles.specs.NoHooks.{Keeps-same}
use Rattle.base_roles.specs.Orders.{place_cmp, same_addr}
use Rattle.base_roles.specs.World.{View, Told, gives, exceeds}
use Rattle.base_roles.specs.declared.calls.Hook.{Hook}
use Rattle.base_roles.specs.declared.calls.Hook.TheVariants as hook
use Rattle.mod_allocation.proofs.AllocateLemmas.{told_behind}
use Rattle.law_soundness.proofs.Burns.{total_in}
use Rattle.law_soundness.proofs.Creating.{made_leaves}
use Rattle.law_soundness.proofs.Fitting.{leaves_same}
use Rattle.law_soundness.proofs.Giving.{Gives, removal_gives}
use Rattle.law_soundness.proofs.Hooking.{IfTold, told_if, left_if, unlogged_if}
use Rattle.law_soundness.proofs.Moves.{HooksFit, Leaves}
use Rattle.law_soundness.proofs.Removing.{removal_leaves}
use Rattle.law_soundness.proofs.Rewards.{EndFits, end_fits, start_leaves, withdrawal_leaves}
use Rattle.law_soundness.proofs.Slashing.{slash_leaves}
use Rattle.law_soundness.proofs.Steps.{on_then, weaker_if}
use Rattle.rule_modules.proofs.GoingLemmas.{on_bind}
use Rattle.rule_modules.proofs.OrderLemmas.{same_is}
use Rattle.rule_modules.specs.Amounts.{is_empty, over_facts}
use Rattle.rule_modules.specs.Distribution.{Shared, distribution_told, told_of, unlogged, current_taken, ended, reward_due, reward_withdrawn, slash_recorded, records_removed, payee_of, paid_to}
use Rattle.rule_modules.specs.Periods.{period_ended, periods_of, start_of, reward_at}
use Rattle.rule_modules.specs.Purses.{paid_out, closed, pooled_told}
use Rattle.base_shares.specs.Shares.{value_even_of}
use Rattle.mod_distribution.specs.Fitting.{Any, hooks_fit, stand_from}
use Rattle.mod_distribution.specs.Tells.{StartAtOperators, distribution_tells}

-- ---- the lists after a hook

-- a pair that is not started where there is no operator
none_started : (l : Lists) (operator who : List ℕ) → StartAtOperators l → l.operators operator ≡ false → l.started who operator ≡ false
none_started l operator who s e = by (l.started who operator) refl
  where
    by : (b : Bool) → l.started who operator ≡ b → b ≡ false
    by true f = let g : true ≡ false = sym (s who operator f) ∙ e in absurd cc
    by false f = refl

at_operators : (h : Hook) (l : Lists) → StartAtOperators l → Needs h l → StartAtOperators (after h l)
at_operators (hook.Created v) l s n who o e = by (same_addr v.operator o) (s who o e)
  where
    by : (b : Bool) → l.operators o ≡ true → (if b then true else l.operators o) ≡ true
    by true h = refl
    by false h = h
at_operators (hook.Removed v) l s n who o e = by (same_addr v.operator o) refl (s who o e)
  where
    by : (b : Bool) → same_addr v.operator o ≡ b → l.operators o ≡ true → (if b then false else l.operators o) ≡ true
    by true f h = let g : true ≡ false = sym e ∙ ap (λ x. l.started who x) (sym (same_is v.operator o f)) ∙ n.1 who in absurd cc
    by false f h = h
at_operators (hook.Bonded v) l s n who o e = s who o e
at_operators (hook.Starting v delegator) l s n who o e = s who o e
at_operators (hook.Modifying v delegator shares) l s n who o e = by (same_addr delegator who && same_addr v.operator o) e
  where
    by : (b : Bool) → (if b then false else l.started who o) ≡ true → l.operators o ≡ true
    by true f = absurd cc
    by false f = s who o f
at_operators (hook.Modified v delegator shares) l s n who o e = by (same_addr delegator who) (same_addr v.operator o) refl e
  where
    by : (a b : Bool) → same_addr v.operator o ≡ b → (if a && b then true else l.started who o) ≡ true → l.operators o ≡ true
    by true true g f = ap (λ x. l.operators x) (sym (same_is v.operator o g)) ∙ n.0
    by true false g f = s who o f
    by false true g f = s who o f
    by false false g f = s who o f
at_operators (hook.Slashing v fraction) l s n who o e = s who o e

-- ---- what rules leave

module _ (T : List ℕ → ℕ) where
  told_leaves : (h : Hook) (v : View) (l : Lists) (d : Shared) → HooksFit Any T v l d → StartAtOperators l → Needs h l → IfTold (distribution_told d h v) (λ e u. Leaves Any T v (after h l) e u)
  told_leaves (hook.Created val) v l d h s n = made_leaves Any T val v l d h n (λ who. none_started l val.operator who s n)
  told_leaves (hook.Removed val) v l d h s n = unlogged_if (records_removed val d v) (λ e u. Leaves Any T v (with_operator val.operator false l) e u) (removal_leaves Any T val v l d h n.0)
  told_leaves (hook.Bonded val) v l d h s n = leaves_same Any T v l d h
  told_leaves (hook.Starting val who) v l d h s n =
      left_if (ended val d v) (λ e u. Leaves Any T v l e u) (weaker_if (ended val d v) (EndFits Any T val v l d) (λ z. Leaves Any T v l z.1 z.2) (end_fits Any T val v l d h n.0) (λ z k. k.leaves))
  told_leaves (hook.Modifying val who shares) v l d h s n = left_if (reward_withdrawn val who shares d v) (λ e u. Leaves Any T v (with_started who val.operator false l) e u) (withdrawal_leaves Any T val who shares v l d h (s who val.operator n.0))
  told_leaves (hook.Modified val who shares) v l d h s n = start_leaves Any T val who shares v l d h n.0
  told_leaves (hook.Slashing val fraction) v l d h s n = told_if (slash_recorded val fraction d v) (λ e u. Leaves Any T v l e u) (slash_leaves Any T val fraction v l d h n.0 n.1)

given : (t : Told Shared) (Q : Shared → View → Type 0) (s : Shared) (v : View) (log : Log) → t ≡ gives s v log → IfTold t Q → Q s v
given (gives d u k) Q s v log e q =
    let same_d : d ≡ s = cc in
    let same_u : u ≡ v = cc in
    subst (λ x. Q x v) same_d (subst (λ x. Q d x) same_u q)
given (exceeds over) Q s v log e q = absurd cc

-- ---- what no rule changes

-- facts are put at the end
passes_told : (v : View) (more : List Fact) (facts : List Fact) → facts ≡ v.facts ++ more → Keeps ⊥ v (record v { facts = facts })
passes_told v more facts e = record { ctx = refl; supplies = refl; bonded = λ d. refl; not_bonded = λ d. refl; fee_collector = λ d. refl; distribution = λ n. absurd n; facts = (more, e) }

paid_behind : (from to : Account) (coins : Money) (facts : List Fact) → (more : List Fact) × (transfer_told from to coins facts ≡ facts ++ more)
paid_behind from to [] facts = ([], sym (append-nil facts))
paid_behind from to (c ∷ cs) facts = (fact.Transfer from to (c ∷ cs) ∷ [], refl)

-- coins move from the distribution account to a user
passes_paid : (v : View) (to : List ℕ) (coins : Money) → IsStrictlySortedBy place_cmp (keys_of v.bank.balances) → Keeps ⊥ v (paid_to to coins v)
passes_paid v to coins s =
    let from = account.Module holder.Distribution in
    record {
      ctx = refl;
      supplies = supplies-moved coins v.bank from (account.User to);
      bonded = λ d. balance-moved_elsewhere coins v.bank from (account.User to) (account.Module holder.Bonded) d s refl refl;
      not_bonded = λ d. balance-moved_elsewhere coins v.bank from (account.User to) (account.Module holder.NotBonded) d s refl refl;
      fee_collector = λ d. balance-moved_elsewhere coins v.bank from (account.User to) (account.Module holder.FeeCollector) d s refl refl;
      distribution = λ n. absurd n;
      facts = paid_behind from (account.User to) coins v.facts;
    }

passes_then : (u v w : View) → Keeps ⊥ u v → Keeps ⊥ v w → Keeps ⊥ u w
passes_then u v w p q = record {
  ctx = q.ctx ∙ p.ctx;
  supplies = q.supplies ∙ p.supplies;
  bonded = λ d. q.bonded d ∙ p.bonded d;
  not_bonded = λ d. q.not_bonded d ∙ p.not_bonded d;
  fee_collector = λ d. q.fee_collector d ∙ p.fee_collector d;
  distribution = λ n. absurd n;
  facts = (p.facts.0 ++ q.facts.0, q.facts.1 ∙ ap (λ l. l ++ q.facts.0) p.facts.1 ∙ append_assoc u.facts p.facts.0 q.facts.0);
}

-- what joined the pool is told, then another fact
passes_pooled : (v : View) (c : Money) (f : Fact) → Keeps ⊥ v (record v { facts = pooled_told c v.facts ++ f ∷ [] })
passes_pooled v c f =
    let p = told_behind c v.facts in
    passes_told v (p.0 ++ f ∷ []) (pooled_told c v.facts ++ f ∷ []) (ap (λ l. l ++ f ∷ []) p.1 ∙ append_assoc v.facts p.0 (f ∷ []))

-- where the bank is in the order of its keys
abbrev Sorted : View → Type 0
Sorted v = IsStrictlySortedBy place_cmp (keys_of v.bank.balances)

-- the end of a period leaves the bank
record EndPasses (v u : View) : Type 0 where
  passes : Keeps ⊥ v u
  bank : u.bank ≡ v.bank

end_passes : (val : Validator) (d : Shared) (v : View) → IfOk (ended val d v) (λ z. EndPasses v z.2)
end_passes val d v =
    on_bind (current_taken val d.purses) _ _ (λ x e. on_bind (period_ended x.0 (periods_of d.rewards val.operator)) _ _ (λ y f.
    record { passes = passes_pooled v x.1 (fact.Period val.operator _ y.0); bank = refl }))

due_passes : (val : Validator) (who : List ℕ) (shares : ℕ) (d : Shared) (v : View) → IfOk (reward_due val who shares d v) (λ z. EndPasses v z.2)
due_passes val who shares d v =
    on_then (ended val d v) _ (λ z. EndPasses v z.2) _ (end_passes val d v) (λ x k.
    on_bind (reward_at (start_of x.1.rewards who val.operator) (periods_of x.1.rewards val.operator) x.0 x.2.ctx.height (value_even_of val.tokens val.shares shares)) _ _ (λ full e. k))

withdrawal_passes : (val : Validator) (who : List ℕ) (shares : ℕ) (d : Shared) (v : View) → Sorted v → IfOk (reward_withdrawn val who shares d v) (λ z. Keeps ⊥ v z.2)
withdrawal_passes val who shares d v s =
    on_then (reward_due val who shares d v) _ (λ z. EndPasses v z.2) _ (due_passes val who shares d v) (λ x k.
    on_bind (paid_out val.operator x.0 x.1.purses) _ _ (λ y e.
    passes_then v x.2 _ k.passes
    (passes_then x.2 (paid_to (payee_of x.1 who) _ x.2) _
    (passes_paid x.2 (payee_of x.1 who) _ (subst (λ b. IsStrictlySortedBy place_cmp (keys_of b.balances)) (sym k.bank) s))
    (passes_pooled (paid_to (payee_of x.1 who) _ x.2) _ _))))

removal_passes : (val : Validator) (d : Shared) (v : View) → Sorted v → IfOk (records_removed val d v) (λ z. Keeps ⊥ v z.1)
removal_passes val d v s =
    on_bind (closed val.operator d.purses) _ _ (λ z e.
    let to = payee_of d val.operator in
    passes_then v (paid_to to z.0 v) _ (passes_paid v to z.0 s) (rest (is_empty z.0) (fact.Commission val.operator to z.0) z.1 (paid_to to z.0 v)))
  where
    rest : (b : Bool) (f : Fact) (c : Money) (u : View) → Keeps ⊥ u (over_facts (pooled_told c) (if b then u else record u { facts = u.facts ++ f ∷ [] }))
    rest true f c u = let p = told_behind c u.facts in passes_told u p.0 (pooled_told c u.facts) p.1
    rest false f c u =
        let p = told_behind c (u.facts ++ f ∷ []) in
        passes_told u (f ∷ [] ++ p.0) (pooled_told c (u.facts ++ f ∷ [])) (p.1 ∙ append_assoc u.facts (f ∷ []) p.0)

told_passes : (h : Hook) (v : View) (d : Shared) → Sorted v → IfTold (distribution_told d h v) (λ e u. Keeps ⊥ v u)
told_passes (hook.Created val) v d s = Keeps-same v
told_passes (hook.Removed val) v d s = unlogged_if (records_removed val d v) (λ e u. Keeps ⊥ v u) (removal_passes val d v s)
told_passes (hook.Bonded val) v d s = Keeps-same v
told_passes (hook.Starting val who) v d s = left_if (ended val d v) (λ e u. Keeps ⊥ v u) (weaker_if (ended val d v) (λ z. EndPasses v z.2) (λ z. Keeps ⊥ v z.2) (end_passes val d v) (λ z k. k.passes))
told_passes (hook.Modifying val who shares) v d s = left_if (reward_withdrawn val who shares d v) (λ e u. Keeps ⊥ v u) (withdrawal_passes val who shares d v s)
told_passes (hook.Modified val who shares) v d s = passes_told v _ _ refl
told_passes (hook.Slashing val fraction) v d s =
    told_if (slash_recorded val fraction d v) (λ e u. Keeps ⊥ v u)
    (on_then (ended val d v) _ (λ z. EndPasses v z.2) _ (end_passes val d v) (λ z k. k.passes))

-- ---- a removed validator's call gives something

removal_given : (r : Result (Shared × View) Over) → Gives r → IsGiven (told_of (unlogged r))
removal_given r g = subst (λ x. IsGiven (told_of (unlogged x))) (sym g.1) (g.0.0, (g.0.1, ([], refl)))

-- ---- the laws

some_none : {A B : Type 0} (x : A) → Some x ≡ None → B
some_none x e = absurd cc

never : {A : Type 0} → false ≡ true → A
never e = absurd cc

module _ (s s2 : Shared) (h : Hook) (v v2 : View) (log : Log) (l : Lists) (r : Ready distribution_tells s v h l) (e : distribution_told s h v ≡ gives s2 v2 log) where
  keeps_it : Keeps (distribution_tells.owes s ≡ None) v v2
  keeps_it =
      let k : Keeps ⊥ v v2 = given (distribution_told s h v) (λ d u. Keeps ⊥ v u) s2 v2 log e (told_passes h v s r.stand.in_order.bank.balances_ascend) in
      record { ctx = k.ctx; supplies = k.supplies; bonded = k.bonded; not_bonded = k.not_bonded; fee_collector = k.fee_collector; distribution = λ n. some_none _ n; facts = k.facts }

  follows_it : Stand distribution_tells s2 v2 (after h l)
  follows_it =
      let T = total_in v in
      let started = r.stand.lists.started in
      stand_from T v v2 (after h l) s2 (at_operators h l started r.needs)
      (given (distribution_told s h v) (λ d u. Leaves Any T v (after h l) d u) s2 v2 log e (told_leaves T h v l s (hooks_fit v l s r.stand) started r.needs))

pub distribution_lawful : Lawful distribution_tells
distribution_lawful = record {
  keeps = keeps_it;
  follows = follows_it;
  owes_nothing = λ s s2 h v v2 log n e. some_none _ n;
  quiet_call = λ s h v q. never q;
  quiet_stands = λ s l q. never q;
  quiet_owes = λ s q. never q;
  quiet_height = λ s q. never q;
  quiet_sure = λ s q. refl;
  quiet_steps = λ s q. refl;
  sure_bonded = λ s x v l q r. (s, (v, ([], refl)));
  sure_removed = λ s x v l q r. removal_given (records_removed x s v) (removal_gives Any (total_in v) x v l s (hooks_fit v l s r.stand) r.needs.0);
  quiet_stays = λ s s2 h v v2 log e. refl;
  sure_stays = λ s s2 h v v2 log e. refl;
  steps_stay = λ s s2 h v v2 log e. refl;
}
