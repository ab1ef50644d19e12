-- The log is only an output of delegating: behind any log the same is answered and left. And what a redelegation answers whose
-- steps are answered.
use Rattle.std.proofs.Common.{◌≡◌, ◌∙◌, ℕ, ◌+◌, List, Option, Some, refl, sym, ap, subst, Ok, Err, Result, unwrap_or, is_none}
use Rattle.std.specs.Prelude.{⊤}
use Rattle.base_decimals.specs.declared.over.Over.{Over}
use Rattle.base_roles.specs.declared.{entities.Validator.Validator, faults.MessageFault.MessageFault}
use Rattle.base_roles.specs.declared.refusal.Refusal.{Refusal, TheVariants.Overflow}
use Rattle.base_roles.specs.{Answers.{Follows, AnswersAs, RefusesAs}, Log.Log}
use Rattle.base_roles.specs.{Staked.{Staked, validator_at, delegation, put_validator}, Flow.{◌>>=◌, stopping}}
use Rattle.base_roles.specs.World.{View, Told, gives, exceeds, World, hooked, call, over_view, over_mine}
use Rattle.base_roles.specs.declared.calls.Hook.{Hook, TheVariants.{Modified as modified}}
use Rattle.rule_modules.specs.Delegating.{Origin, pool, paid_in, hook_before, shares_given, delegated}
use Rattle.rule_modules.specs.{Redelegations.{RedelegationLists, begin_info, appended}, Stakes.put_delegation}
use Rattle.rule_modules.specs.Unbonding.{shares_unbonded}
use Rattle.mod_staking.{specs.Calls.{over, behind_log}, proofs.LogLemmas.DifferInLog}
use Rattle.mod_entries.specs.Answers.{AnswersBoth}
use Rattle.mod_redelegation.proofs.AskedLemmas.{redelegated_from, moved_at, moved_to, entry_made, answers_stop}

-- both give something that is alike, or both are refused alike
abbrev pub AreAlike : {A E : Type 0} → (A → A → Type 0) → Result A E → Result A E → Type 0
AreAlike R (Ok a) (Ok b) = R a b
AreAlike R (Ok a) (Err due) = ⊥
AreAlike R (Err due) (Ok b) = ⊥
AreAlike R (Err due) (Err due2) = due2 ≡ due

alike-then : {A B E : Type 0} (R : A → A → Type 0) (Q : B → B → Type 0) (r r2 : Result A E) (f g : A → Result B E) → AreAlike R r r2 → ((a b : A) → R a b → AreAlike Q (f a) (g b)) → AreAlike Q (r >>= f) (r2 >>= g)
alike-then R Q (Ok a) (Ok b) f g h k = k a b h
alike-then R Q (Ok a) (Err due) f g h k = absurd h
alike-then R Q (Err due) (Ok b) f g h k = absurd h
alike-then R Q (Err due) (Err due2) f g h k = h

alike-lifted : {A D E : Type 0} (R : A → A → Type 0) (f : D → E) (r r2 : Result A D) → AreAlike R r r2 → AreAlike R (stopping f r) (stopping f r2)
alike-lifted R f (Ok a) (Ok b) h = h
alike-lifted R f (Ok a) (Err due) h = absurd h
alike-lifted R f (Err due) (Ok b) h = absurd h
alike-lifted R f (Err due) (Err due2) h = ap f h

module _ {H : Type 0} (told : H → Hook → View → Told H) where
  abbrev Differ : World Staked H → World Staked H → Type 0
  Differ w w2 = DifferInLog w w2

  -- the same shares, and worlds that differ in their logs alone
  abbrev DifferBehind : ℕ × World Staked H → ℕ × World Staked H → Type 0
  DifferBehind p q = (q.0 ≡ p.0) × DifferInLog p.1 q.1

  alike-hooked : (t t2 : Told H) (w w2 : World Staked H) → t2 ≡ t → DifferInLog w w2 → AreAlike {E = Over} Differ (hooked t w) (hooked t2 w2)
  alike-hooked t t2 w w2 e d = subst (λ x. AreAlike {E = Over} Differ (hooked t w) (hooked x w2)) (sym e) (by t)
    where
      by : (x : Told H) → AreAlike {E = Over} Differ (hooked x w) (hooked x w2)
      by (gives h v l) = record { mine = d.mine; hooks = refl; view = refl }
      by (exceeds due) = refl

  alike-call : (hook : Hook) (w w2 : World Staked H) → DifferInLog w w2 → AreAlike {E = Refusal} Differ (stopping Overflow (call told hook w)) (stopping Overflow (call told hook w2))
  alike-call hook w w2 d =
      alike-lifted Differ Overflow (call told hook w) (call told hook w2)
      (alike-hooked (told w.hooks hook w.view) (told w2.hooks hook w2.view) w w2 (λ i. told (d.hooks i) hook (d.view i)) d)

  module _ (v : Validator) (delegator : List ℕ) (amount : ℕ) (from : Origin) where
    abbrev shares_now : ℕ → Option ℕ → ℕ
    shares_now issued held = unwrap_or held 0 + issued

    abbrev grown : ℕ → Validator
    grown issued = record v { tokens = v.tokens + amount; shares = v.shares + issued }

    abbrev placed : ℕ → Option ℕ → View → World Staked H → World Staked H
    placed issued held view w = over_view (λ u. view) (over_mine (λ s. put_delegation delegator v.operator (shares_now issued held) (put_validator (grown issued) s)) w)

    abbrev last : ℕ → Option ℕ → View → World Staked H → Result (ℕ × World Staked H) Refusal
    last issued held view w = stopping Overflow (call told (modified (grown issued) delegator (shares_now issued held)) (placed issued held view w)) >>= λ x. Ok (issued, x)

    abbrev after_hook : ℕ → Option ℕ → World Staked H → Result (ℕ × World Staked H) Refusal
    after_hook issued held w = paid_in from delegator v.status amount w.view >>= λ view. last issued held view w

    alike-last : (issued : ℕ) (held : Option ℕ) (view : View) (w w2 : World Staked H) → DifferInLog w w2 → AreAlike DifferBehind (last issued held view w) (last issued held view w2)
    alike-last issued held view w w2 d =
        alike-then Differ DifferBehind (stopping Overflow (call told (modified (grown issued) delegator (shares_now issued held)) (placed issued held view w)))
        (stopping Overflow (call told (modified (grown issued) delegator (shares_now issued held)) (placed issued held view w2))) (λ x. Ok (issued, x)) (λ x. Ok (issued, x))
        (alike-call (modified (grown issued) delegator (shares_now issued held)) (placed issued held view w) (placed issued held view w2)
        (record { mine = ap (λ s. put_delegation delegator v.operator (shares_now issued held) (put_validator (grown issued) s)) d.mine; hooks = d.hooks; view = refl }))
        (λ a b e. (refl, e))

    alike-paid : (issued : ℕ) (held : Option ℕ) (r r2 : Result View Refusal) (w w2 : World Staked H) → r2 ≡ r → DifferInLog w w2 → AreAlike DifferBehind (r >>= λ view. last issued held view w) (r2 >>= λ view. last issued held view w2)
    alike-paid issued held r r2 w w2 e d = subst (λ x. AreAlike DifferBehind (r >>= λ view. last issued held view w) (x >>= λ view. last issued held view w2)) (sym e) (by r)
      where
        by : (x : Result View Refusal) → AreAlike DifferBehind (x >>= λ view. last issued held view w) (x >>= λ view. last issued held view w2)
        by (Ok view) = alike-last issued held view w w2 d
        by (Err why) = refl

    alike-given : (given : Result ℕ Refusal) (held : Option ℕ) (w w2 : World Staked H) → DifferInLog w w2
        → AreAlike DifferBehind (given >>= λ issued. (stopping Overflow (call told (hook_before v delegator held) w) >>= after_hook issued held))
        (given >>= λ issued. (stopping Overflow (call told (hook_before v delegator held) w2) >>= after_hook issued held))
    alike-given (Err why) held w w2 d = refl
    alike-given (Ok issued) held w w2 d =
        alike-then Differ DifferBehind (stopping Overflow (call told (hook_before v delegator held) w)) (stopping Overflow (call told (hook_before v delegator held) w2)) (after_hook issued held) (after_hook issued held)
        (alike-call (hook_before v delegator held) w w2 d)
        (λ a b e. alike-paid issued held (paid_in from delegator v.status amount a.view) (paid_in from delegator v.status amount b.view) a b (ap (paid_in from delegator v.status amount) e.view) e)

    alike-delegated : (k : Log) (s : Staked) (h : H) (u : View) → AreAlike DifferBehind (delegated told v delegator amount from (over s h u)) (delegated told v delegator amount from (behind_log k s h u))
    alike-delegated k s h u = alike-given (shares_given v amount) (delegation s delegator v.operator) (over s h u) (behind_log k s h u) (record { mine = refl; hooks = refl; view = refl })

    answers-alike : (r r2 : Result (ℕ × World Staked H) Refusal) (s : Staked) (holds : H → Type 0) (u : View) (a : Result ℕ MessageFault) → AreAlike DifferBehind r r2 → AnswersAs r s holds u a → AnswersAs r2 s holds u a
    answers-alike (Ok p) (Ok q) s holds u (Ok n) d l = (l.0 ∙ sym d.0, l.1 ∙ sym d.1.mine, subst holds (sym d.1.hooks) l.2, l.3 ∙ sym d.1.view)
    answers-alike (Ok p) (Ok q) s holds u (Err why) d l = l
    answers-alike (Ok p) (Err due) s holds u a d l = absurd d
    answers-alike (Err due) (Ok q) s holds u a d l = absurd d
    answers-alike (Err due) (Err due2) s holds u (Ok n) d l = l
    answers-alike (Err due) (Err due2) s holds u (Err why) d l = subst (λ x. RefusesAs x why) (sym d) l

    -- delegating behind a log answers and leaves what it does without one
    pub delegated-behind : (k : Log) (s : Staked) (h : H) (u : View) (s2 : Staked) (holds : H → Type 0) (u2 : View) (a : Result ℕ MessageFault)
        → AnswersAs (delegated told v delegator amount from (over s h u)) s2 holds u2 a → AnswersAs (delegated told v delegator amount from (behind_log k s h u)) s2 holds u2 a
    delegated-behind k s h u s2 holds u2 a l =
        answers-alike (delegated told v delegator amount from (over s h u)) (delegated told v delegator amount from (behind_log k s h u)) s2 holds u2 a (alike-delegated k s h u) l

-- ---- a redelegation whose steps are answered

module _ {H : Type 0} (told : H → Hook → View → Told H) (delegator source target : List ℕ) (r : RedelegationLists) (w : World Staked H) (v t : Validator) (there : validator_at w.mine target ≡ Some t) (part : ℕ)
    (s1 : Staked) (holds1 : H → Type 0) (v1 : View) (out : ℕ) (f : Follows (shares_unbonded told delegator source part w) s1 holds1 v1 (Ok out)) (s2 : Staked) (holds2 : H → Type 0) (v2 : View) where
  -- delegating of any plain value that is held then answers so
  abbrev Then : Result ℕ MessageFault → Type 0
  Then a = (h : H) → holds1 h → AnswersAs (delegated told t delegator out (pool v.status) (over s1 h v1)) s2 holds2 v2 a

  abbrev from : Result (ℕ × World Staked H) Over → Result (⊤ × RedelegationLists × World Staked H) Refusal
  from u = stopping Overflow u >>= moved_at told delegator source target r w (validator_at w.mine target) v

  -- so it does of the world that unbonding left
  then_at : (q : ℕ × World Staked H) → Follows (Ok q) s1 holds1 v1 (Ok out) → (a : Result ℕ MessageFault) → Then a → AnswersAs (delegated told t delegator q.0 (pool v.status) q.1) s2 holds2 v2 a
  then_at q l a h =
      let same : behind_log q.1.log s1 q.1.hooks v1 ≡ q.1 = λ i. record { mine = l.1 i; hooks = q.1.hooks; view = l.3 i; log = q.1.log } in
      subst (λ n. AnswersAs (delegated told t delegator n (pool v.status) q.1) s2 holds2 v2 a) l.0
      (subst (λ x. AnswersAs (delegated told t delegator out (pool v.status) x) s2 holds2 v2 a) same
      (delegated-behind told t delegator out (pool v.status) q.1.log s1 q.1.hooks v1 s2 holds2 v2 a (h q.1.hooks l.2)))

  with_target : (q : ℕ × World Staked H) → moved_at told delegator source target r w (validator_at w.mine target) v q ≡ moved_to told delegator source target r w v t q
  with_target q = ap (λ y. moved_at told delegator source target r w y v q) there

  -- the message answers, where both steps did
  pub answers_begun : (issued : ℕ) (r2 : RedelegationLists) → Then (Ok issued) → r2 ≡ appended delegator source target (begin_info v (is_none (validator_at s1 source)) w.view.ctx) out issued r
      → AnswersBoth (redelegated_from told delegator source target r w (v, part)) r2 s2 holds2 v2 (Ok tt)
  answers_begun issued r2 h e = by (shares_unbonded told delegator source part w) f
    where
      last : (q : ℕ × World Staked H) → Follows (Ok q) s1 holds1 v1 (Ok out) → (d : Result (ℕ × World Staked H) Refusal) → AnswersAs d s2 holds2 v2 (Ok issued)
          → AnswersBoth (d >>= entry_made told delegator source target r w v q) r2 s2 holds2 v2 (Ok tt)
      last q l (Err due) g = absurd g
      last q l (Ok p) g = (
        refl,
        e ∙ (λ i. appended delegator source target (begin_info v (is_none (validator_at (l.1 i) source)) w.view.ctx) (l.0 i) (g.0 i) r),
        g.1,
        g.2,
        g.3,
      )

      by : (u : Result (ℕ × World Staked H) Over) → Follows u s1 holds1 v1 (Ok out) → AnswersBoth (from u) r2 s2 holds2 v2 (Ok tt)
      by (Err due) l = absurd l
      by (Ok q) l =
          subst (λ x. AnswersBoth x r2 s2 holds2 v2 (Ok tt)) (sym (with_target q))
          (last q l (delegated told t delegator q.0 (pool v.status) q.1) (then_at q l (Ok issued) h))

  -- it stops, where delegating did
  pub answers_stopped : (why : MessageFault) (r2 : RedelegationLists) → Then (Err why) → AnswersBoth (redelegated_from told delegator source target r w (v, part)) r2 s2 holds2 v2 (Err why)
  answers_stopped why r2 h = by (shares_unbonded told delegator source part w) f
    where
      by : (u : Result (ℕ × World Staked H) Over) → Follows u s1 holds1 v1 (Ok out) → AnswersBoth (from u) r2 s2 holds2 v2 (Err why)
      by (Err due) l = absurd l
      by (Ok q) l =
          subst (λ x. AnswersBoth x r2 s2 holds2 v2 (Err why)) (sym (with_target q))
          (answers_stop (delegated told t delegator q.0 (pool v.status) q.1) (entry_made told delegator source target r w v q) s2 s2 holds2 holds2 v2 v2 r2 why (then_at q l (Err why) h))
