-- After each call distribution stands for the lists.
use Rattle.std.proofs.Common.{◌≡◌, ◌∙◌, ℕ, Bool, true, false, List, Some, Ok, Err, refl, sym, ap, subst, ◌&&◌, not, IfOk, OnOk, is_some, if◌then◌else◌, Result}
use Rattle.std.{specs.Prelude.⊤, proofs.lemmas.List.Elements.recursion_from_All}
use Rattle.base_decimals.specs.declared.over.Over.{Over}
use Rattle.base_types.specs.{declared.account.Account.Account, Orders.addr_cmp}
use Rattle.base_types.specs.declared.account.Account.TheVariants as account
use Rattle.base_coins.specs.Coins.{Money}
use Rattle.base_roles.specs.declared.{entities.Validator.Validator, faults.HookFault.HookFault, messages.Vote.Vote}
use Rattle.base_roles.specs.declared.{params.Params.Params, refusal.Refusal.Refusal}
use Rattle.base_roles.specs.{declared.refusal.Refusal.TheVariants.{NoCommission, WithdrawFixed}, Answers.Answers}
use Rattle.base_roles.specs.{Entries.{at, with}, Hooks.{Stand, with_started}, Owing.Lists, Log.Log, Orders.same_addr}
use Rattle.base_roles.specs.{Staked.{Staked, validator_by_cons}, Flow.{◌>>◌, stop_if}, World.View}
use Rattle.law_soundness.proofs.{Allocating.{AreKnownVotes, fees_leave}, Burns.total_in, Lists.weaker}
use Rattle.law_soundness.proofs.{Moves.{Leaves, payees_leave}, Pool.commission_leaves, Rewards.renewal_leaves}
use Rattle.law_soundness.proofs.{Standing.relisted, Steps.from_if}
use Rattle.rule_modules.{proofs.{GoingLemmas.{on_found, on_stop}, OrderLemmas.same_is}, specs.Allocation.fees_allocated}
use Rattle.rule_modules.specs.{Amounts.is_empty, Distribution.{Shared, payee_of, reward_renewed, told_of}}
use Rattle.rule_modules.specs.{Purses.Purses, Withdrawals.{commission_withdrawn, payee_set}}
use Rattle.mod_allocation.specs.Calls.{AreVotes, IsOfVoter, purse_at}
use Rattle.mod_distribution.specs.Calls.{CarriesOut, CarriesOutOrRefuses, SetsOrRefuses, StandFor}
use Rattle.mod_distribution.specs.{Fitting.{Any, hooks_fit, stand_from}, Kept.{KeptShared, with_payee}}
use Rattle.mod_distribution.{specs.{Stands.KeepsShared, Tells.distribution_tells}, proofs.CarryLemmas.carried_from}

-- ---- a renewed reward

-- a pair that was started is started again
again : (l : Lists) (who operator w o : List ℕ) → l.started who operator ≡ true
    → (if same_addr who w && same_addr operator o then true else (if same_addr who w && same_addr operator o then false else l.started w o)) ≡ l.started w o
again l who operator w o e = by (same_addr who w) (same_addr operator o) refl refl
  where
    by : (a b : Bool) → same_addr who w ≡ a → same_addr operator o ≡ b → (if a && b then true else (if a && b then false else l.started w o)) ≡ l.started w o
    by false b p q = refl
    by true false p q = refl
    by true true p q = sym (ap (λ x. l.started x o) (sym (same_is who w p)) ∙ ap (λ y. l.started who y) (sym (same_is operator o q)) ∙ e)

pub renewed_stands : (val : Validator) (who : List ℕ) (shares : ℕ) (k k2 : KeptShared) (v w : View) (coins : Money) (l : Lists) → l.started who val.operator ≡ true
    → ((d : Shared) → KeepsShared k d → CarriesOut (reward_renewed val who shares d v) k2 w (Ok coins)) → StandFor k v l → StandFor k2 w l
renewed_stands val who shares k k2 v w coins l started carries (d, (h, s)) =
    let T = total_in v in
    let l2 = with_started who val.operator true (with_started who val.operator false l) in
    let (x, parts) = carried_from k2 w (reward_renewed val who shares d v) coins (carries d h) in
    let (e, same, keeps, view) = parts in
    let left : Leaves Any T v l2 x.1 x.2 = from_if (λ z. Leaves Any T v l2 z.1 z.2) (reward_renewed val who shares d v) x e (renewal_leaves Any T val who shares v l d (hooks_fit v l d s) (s.lists.started who val.operator started)) in
    let back : Leaves Any T v l x.1 x.2 = record {
      ctx = left.ctx;
      ground = left.ground;
      bonded = left.bonded;
      not_bonded = left.not_bonded;
      owed = left.owed;
      shared = relisted Any T v.ctx.height l2 l x.1 left.shared (λ o. refl) (λ u o. sym (again l who val.operator u o started));
    } in
    (x.1, (keeps, subst (λ u. Stand distribution_tells x.1 u l) (sym view) (stand_from T v x.2 l x.1 s.lists.started back)))

-- ---- a commission

pub commission_stands : (operator : List ℕ) (k k2 : KeptShared) (v w : View) (coins : Money) (l : Lists)
    → ((d : Shared) → KeepsShared k d → CarriesOutOrRefuses (commission_withdrawn operator d v) k2 w (Ok coins)) → StandFor k v l → StandFor k2 w l
commission_stands operator k k2 v w coins l carries (d, (h, s)) = by (commission_withdrawn operator d v) (carries d h) leaves
  where
    T : List ℕ → ℕ
    T = total_in v

    leaves : IfOk (commission_withdrawn operator d v) (λ x. Leaves Any T v l x.1 x.2)
    leaves =
        let fit = hooks_fit v l d s in
        on_found (at addr_cmp d.purses.purses operator) NoCommission _ _ (λ p found. on_stop (is_empty p.commission) NoCommission _ _ (λ e.
        commission_leaves Any T operator p (payee_of d operator) v l d found fit.shared fit.ground fit.owed))

    by : (r : Result (Money × Shared × View × Log) Refusal) → CarriesOutOrRefuses r k2 w (Ok coins) → IfOk r (λ x. Leaves Any T v l x.1 x.2) → StandFor k2 w l
    by (Ok x) c left = (x.1, (c.1, subst (λ u. Stand distribution_tells x.1 u l) (sym c.2) (stand_from T v x.2 l x.1 s.lists.started left)))
    by (Err why) c left = absurd c

-- ---- a payee

pub payee_stands : (who : List ℕ) (to : Account) (params : Params) (k k2 : KeptShared) (v : View) (l : Lists)
    → ((d : Shared) → KeepsShared k d → SetsOrRefuses (payee_set who to params d) k2 (Ok tt)) → StandFor k v l → StandFor k2 v l
payee_stands who to params k k2 v l sets (d, (h, s)) = by to (sets d h)
  where
    T : List ℕ → ℕ
    T = total_in v

    by : (to : Account) → SetsOrRefuses (payee_set who to params d) k2 (Ok tt) → StandFor k2 v l
    by (account.Module m) c = absurd c
    by (account.User to) c = may (not params.withdraw_addr_enabled) c
      where
        may : (b : Bool) → SetsOrRefuses (stop_if b WithdrawFixed >> Ok (record d { withdraw = with addr_cmp d.withdraw who to })) k2 (Ok tt) → StandFor k2 v l
        may true c = absurd c
        may false c =
            let fit = hooks_fit v l d s in
            (record d { withdraw = with addr_cmp d.withdraw who to }, (c, stand_from T v v l _ s.lists.started (payees_leave Any T v l d who to fit.shared fit.ground fit.owed)))

pub payee_put : (who : List ℕ) (to : Account) (other : List ℕ) (params : Params) (k k2 : KeptShared) (d : Shared) → KeepsShared k d → to ≡ account.User other → not params.withdraw_addr_enabled ≡ false → k2 ≡ with_payee who other k
    → SetsOrRefuses (payee_set who to params d) k2 (Ok tt)
payee_put who to other params k k2 d h e enabled put =
    subst (λ a. SetsOrRefuses (payee_set who a params d) k2 (Ok tt)) (sym e)
    (subst (λ b. SetsOrRefuses (stop_if b WithdrawFixed >> Ok (record d { withdraw = with addr_cmp d.withdraw who other })) k2 (Ok tt)) (sym enabled)
    (subst (λ x. KeepsShared x (record d { withdraw = with addr_cmp d.withdraw who other })) (sym put)
    (record { rewards = h.rewards; purses = h.purses; withdraw = ap (λ w. with addr_cmp w who other) h.withdraw })))

-- ---- a block's fees

-- votes of validators with purses are known
known_votes : (s : Staked) (p : Purses) (votes : List Vote) → AreVotes s p votes → AreKnownVotes Any (λ d. 0) s p votes
known_votes s p votes h =
    weaker (IsOfVoter s p) (λ t. (v : Validator) × (validator_by_cons s t.cons ≡ Some v) × (is_some (purse_at p v.operator) ≡ true)) (λ t k. (k.v, k.found, k.purse)) votes
    (recursion_from_All (IsOfVoter s p) votes h.known)

pub fees_stand : (st : Staked) (votes : List Vote) (k k2 : KeptShared) (v w : View) (l : Lists) (result : Result ⊤ HookFault) → AreVotes st k.purses votes
    → ((d : Shared) → KeepsShared k d → Answers (told_of (fees_allocated st votes d v)) (KeepsShared k2) w result) → StandFor k v l → OnOk result (StandFor k2 w l)
fees_stand st votes k k2 v w l result voted told (d, (h, s)) = by (fees_allocated st votes d v) result (told d h) leaves
  where
    T : List ℕ → ℕ
    T = total_in v

    leaves : IfOk (fees_allocated st votes d v) (λ z. Leaves Any T v l z.0 z.1)
    leaves = fees_leave Any T st votes d v l (hooks_fit v l d s) (known_votes st d.purses votes (subst (λ p. AreVotes st p votes) h.purses voted))

    by : (r : Result (Shared × View × Log) Over) (result : Result ⊤ HookFault) → Answers (told_of r) (KeepsShared k2) w result → IfOk r (λ z. Leaves Any T v l z.0 z.1) → OnOk result (StandFor k2 w l)
    by (Ok z) (Ok t) c left = (z.0, (c.0, subst (λ u. Stand distribution_tells z.0 u l) (sym c.1) (stand_from T v z.1 l z.0 s.lists.started left)))
    by (Ok z) (Err fault) c left = tt
    by (Err over) (Ok t) c left = absurd c
    by (Err over) (Err fault) c left = tt
