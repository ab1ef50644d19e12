-- A listener as hooks: it may be called where they may be, and they hold what was heard.
use Rattle.std.proofs.Common.{◌≡◌, ◌∙◌, ℕ, ◌+◌, ◌≤◌, List, [], refl, ap, subst, sym, arith, Bool, OnOk, Result, Ok, Err}
use Rattle.std.specs.Prelude.{⊤}
use Rattle.base_roles.specs.{declared.{faults.HookFault.HookFault, items.Item.Item}, Answers.Answers, Extra.Listens}
use Rattle.base_roles.specs.{Hooks.{Tells, MayCall, Lawful}, Listeners.listener_tells, Log.Log}
use Rattle.base_roles.specs.{World.{View, Told, gives, exceeds}, declared.calls.Hook.Hook}
use Rattle.base_roles.proofs.ListenLemmas.{quiet_may}

-- A listener that is called, of which the laws say what it heard.
module _ {P : Type 0} (hears : P → Hook → View → P) {S H K M : Type 0} {holds : S → H → Type 0} {tells : Tells H} {hook_marks : S → M} {kept : S → K} {marks : S → List K} {items : K → List Item} {is_kind : Item → Bool} {heard : S → P}
    (lawful : Lawful tells) (listens : Listens holds tells hook_marks kept marks items is_kind heard hears) where
  -- a call of the listener leaves the ground, and it has heard the call
  pub listened : (old new : S) (p : P) (hook : Hook) (w u : View) (answer : Result ⊤ HookFault) → heard old ≡ p → ((k : H) → holds old k → Answers (tells.told k hook w) (holds new) u answer)
      → Answers {H = P} (gives (hears p hook w) w []) (λ q. heard new ≡ q) u answer
  listened old new p hook w u answer is told =
      let k = listens.some old in
      let g = lawful.quiet_call k.0 hook w (listens.quiet k.0) in
      by (tells.told k.0 hook w) g.0 g.1.0 g.1.1 answer (told k.0 k.1) (λ still. listens.is_read new g.0 still ∙ listens.adds k.0 g.0 hook w w g.1.0 g.1.1 ∙ ap (λ q. hears q hook w) (sym (listens.is_read old k.0 k.1) ∙ is))
    where
      by : (r : Told H) (s : H) (log : Log) → r ≡ gives s w log → (a : Result ⊤ HookFault) → Answers r (holds new) u a → (holds new s → heard new ≡ hears p hook w) → Answers {H = P} (gives (hears p hook w) w []) (λ q. heard new ≡ q) u a
      by (gives s2 v2 l) s log e (Ok y) h f = (let same : s2 ≡ s = cc in let here : v2 ≡ w = cc in (f (subst (λ z. holds new z) same h.0), subst (λ z. u ≡ z) here h.1))
      by (gives s2 v2 l) s log e (Err fault) h f = h
      by (exceeds over) s log e a h f = absurd cc

  -- so where it succeeds
  pub listened_ok : (old new : S) (hook : Hook) (w u : View) (answer : Result ⊤ HookFault) → ((k : H) → holds old k → Answers (tells.told k hook w) (holds new) u answer) → OnOk answer (heard new ≡ hears (heard old) hook w)
  listened_ok old new hook w u answer told = by answer (listened old new (heard old) hook w u answer refl told)
    where
      by : (a : Result ⊤ HookFault) → Answers {H = P} (gives (hears (heard old) hook w) w []) (λ q. heard new ≡ q) u a → OnOk a (heard new ≡ hears (heard old) hook w)
      by (Ok y) h = h.0
      by (Err fault) h = tt

  -- a call of it touches nothing
  pub listener_steps : (s : S) (before steps : ℕ) → ((k : H) → holds s k → steps ≤ before + tells.most_steps k) → steps ≤ before + 0
  listener_steps s before steps cost = let k = listens.some s in let none = lawful.quiet_steps k.0 (listens.quiet k.0) in let two = cost k.0 k.1 in omega (arith, none, two)

  -- it may be called where hooks may be that hold what it heard
  pub listener_may : (s : S) (hook : Hook) (v : View) → MayCall (λ p. heard s ≡ p) (listener_tells hears) hook v → MayCall (holds s) tells hook v
  listener_may s hook v m =
      let ready = m.1.1.1 in
      quiet_may tells lawful listens.quiet (holds s) (listens.some s) hook v m.1.1.0 ready.needs ready.tokens ready.stand.in_order
