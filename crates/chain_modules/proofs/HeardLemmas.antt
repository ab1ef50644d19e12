-- Modules to which a listener listens: without it their calls answer what they answer alone, and it holds what was heard.
use Rattle.std.proofs.Common.{◌≡◌, ◌∙◌, ℕ, ◌≤◌, List, [], ◌∷◌, ◌++◌, Result, Ok, Err, refl, sym, ap, subst, arith, Bool, max}
use Rattle.std.{specs.Prelude.⊤, proofs.lemmas.List.same_from_push}
use Rattle.base_decimals.specs.declared.over.Over.{Over}
use Rattle.base_roles.specs.declared.{faults.{HookFault.HookFault, MessageFault.MessageFault}, refusal.Refusal.Refusal}
use Rattle.base_roles.specs.{Answers.{AnswersAs, AsRuled}, declared.items.Item.Item, Extra.Listens, Flow.{◌>>=◌}}
use Rattle.base_roles.specs.{Hooks.{Tells, Stand, Stands}, Log.Log, Owing.Lists, Pair.{and_then, given_with}}
use Rattle.base_roles.specs.{Staked.Staked, World.{View, Told, gives, exceeds, World}, declared.calls.Hook.Hook}
use Rattle.rule_modules.specs.{Answers.Leaves, Chain.{State, Stakes, staked_in, with_staked}}
use Rattle.rule_modules.specs.{Distribution.{Shared, distribution_told}, Redelegations.RedelegationLists}
use Rattle.rule_modules.specs.{Unbondings.UnbondingLists, Window.{Window, window_told}}
use Rattle.rule_machine.specs.Listening.{Hearing, Overheard, heard_in, overheard_told, shared_told, silently, unheard}
use Rattle.mod_entries.specs.Answers.{AnswersBoth}
use Rattle.mod_redelegation.specs.Scenes.{IsEntryScene}
use Rattle.mod_signing.specs.Stands.{Signings, same_window, signings_told}
use Rattle.mod_distribution.specs.{Stands.KeepsShared, Tells.distribution_tells}
use Rattle.mod_staking.specs.{Calls.over, Scenes.{IsHooked, IsScene}}
use Rattle.mod_unbonding.specs.Scenes.{IsUnbondingScene}
use Rattle.chain_modules.specs.declared.modules.Modules.{Modules}
use Rattle.chain_modules.specs.Heard.{Hears, HearsAfter, heard_hold, heard_shared, heard_tell}
use Rattle.chain_modules.specs.Kept.{HooksSeen, KeptState, Keeps, StandsWhole, ground_of, hooks_hold, hooks_tell, kept_of, listener_of}
use Rattle.chain_modules.proofs.CarryLemmas.{carried, carried_by, carried_ok, carried_with, told_carried}
use Rattle.chain_modules.proofs.StandLemmas.{whole_same}

-- ---- what is told

-- a log behind which nothing is
nothing_behind : (l : Log) → l ++ [] ≡ l
nothing_behind [] = refl
nothing_behind (e ∷ es) = ap (λ l. e ∷ l) (nothing_behind es)

-- what is told is told behind any log
pub told_same : {H : Type 0} (k : Log) (t : Told H) → t ≡ told_carried (λ (x : H). x) k t
told_same k (gives h v l) = refl
told_same k (exceeds over) = refl

module _ {P : Type 0} (hears : P → Hook → View → P) where
  -- what hooks hold without what was heard
  abbrev pub apart : (Shared × P) × Signings → Shared × Signings
  apart h = (h.0.0, h.1)

  abbrev pub shared_of : Shared × P → Shared
  shared_of s = s.0

  -- what the machine's hooks hold with what was heard, as the modules hold it
  abbrev pub heard_as : ℕ → Overheard P → (Shared × P) × Signings
  heard_as window h = (h.0, record { window = window; records = h.1 })

  pub shared_heard : (s : Shared × P) (hook : Hook) (v : View) → (heard_shared hears).told s hook v ≡ told_carried (λ (x : Shared × P). x) [] (shared_told hears s hook v)
  shared_heard s hook v = by (distribution_told s.0 hook v)
    where
      by : (t : Told Shared) → and_then t (λ a w log. given_with a log (gives (hears s.1 hook w) w [])) ≡ told_carried (λ (x : Shared × P). x) [] (and_then t (λ d w log. gives (d, hears s.1 hook w) w log))
      by (gives d w l) = λ i. gives (d, hears s.1 hook w) w (nothing_behind l i)
      by (exceeds over) = refl

  pub told_heard : (window : ℕ) (h : Overheard P) (hook : Hook) (v : View) → (heard_tell hears).told (heard_as window h) hook v ≡ told_carried (heard_as window) [] (overheard_told hears h hook v)
  told_heard window h hook v = by (distribution_told h.0.0 hook v)
    where
      both : (d : Shared × P) (l : Log) (t : Told Window) → given_with d l (same_window window t) ≡ told_carried (heard_as window) [] (given_with d l t)
      both d l (gives i u m) = refl
      both d l (exceeds over) = refl

      by : (t : Told Shared) → and_then (and_then t (λ a w log. given_with a log (gives (hears h.0.1 hook w) w []))) (λ a w log. given_with a log (same_window window (window_told h.1 hook w)))
          ≡ told_carried (heard_as window) [] (and_then (and_then t (λ d w log. gives (d, hears h.0.1 hook w) w log)) (λ d w log. given_with d log (window_told h.1 hook w)))
      by (gives d w l) =
          let q : Shared × P = (d, hears h.0.1 hook w) in
          ap (λ k. given_with q k (same_window window (window_told h.1 hook w))) (nothing_behind l) ∙ both q l (window_told h.1 hook w)
      by (exceeds over) = refl

  -- without what was heard it is what is told of the hooks alone
  pub shared_apart : (s : Shared × P) (hook : Hook) (v : View) → distribution_told (shared_of s) hook v ≡ told_carried shared_of [] ((heard_shared hears).told s hook v)
  shared_apart s hook v = by (distribution_told s.0 hook v)
    where
      by : (t : Told Shared) → t ≡ told_carried shared_of [] (and_then t (λ a w log. given_with a log (gives (hears s.1 hook w) w [])))
      by (gives d w l) = λ i. gives d w (sym (nothing_behind l) i)
      by (exceeds over) = refl

  pub told_apart : (h : (Shared × P) × Signings) (hook : Hook) (v : View) → hooks_tell.told (apart h) hook v ≡ told_carried apart [] ((heard_tell hears).told h hook v)
  told_apart h hook v = by (distribution_told h.0.0 hook v)
    where
      both : (d : Shared) (p : P) (l : Log) (t : Told Signings) → given_with d l t ≡ told_carried apart [] (given_with (d, p) (l ++ []) t)
      both d p l (gives i u m) = λ j. gives (d, i) u (sym (nothing_behind l) j ++ m)
      both d p l (exceeds over) = refl

      by : (t : Told Shared) → and_then t (λ a w log. given_with a log (signings_told.told h.1 hook w))
          ≡ told_carried apart [] (and_then (and_then t (λ a w log. given_with a log (gives (hears h.0.1 hook w) w []))) (λ a w log. given_with a log (signings_told.told h.1 hook w)))
      by (gives d w l) = both d (hears h.0.1 hook w) l (signings_told.told h.1 hook w)
      by (exceeds over) = refl

  -- ---- scenes

  none_above : (a h : ℕ) → max a 0 ≤ h → max (max a 0) 0 ≤ h
  none_above a h l = omega (arith, l)

  none_twice : (a h : ℕ) → max (max a 0) 0 ≤ h → max a 0 ≤ h
  none_twice a h l = omega (arith, l)

  nothing_above : (a h : ℕ) → a ≤ h → max a 0 ≤ h
  nothing_above a h l = omega (arith, l)

  module _ {E : Type 0} (heard : E → P) (h : HooksSeen E) (v : View) where
    -- hooks stand for the same lists with a listener
    pub heard_stands : (l : Lists) → Stands (hooks_hold h) hooks_tell v l → Stands (heard_hold heard h) (heard_tell hears) v l
    heard_stands l s =
        let held = s.0 in
        let stand : Stand hooks_tell held v l = s.1.1 in (
          ((held.0, heard h.first.second.listener), held.1),
          (
            ((s.1.0.0, refl), s.1.0.1),
            record {
              lists = ((stand.lists.0, tt, refl), stand.lists.1, stand.lists.2);
              owed = stand.owed;
              late = none_above (distribution_tells.height held.0) v.ctx.height stand.late;
              in_order = stand.in_order;
            },
          ),
        )

    -- and the other way round
    pub apart_stands : (l : Lists) → Stands (heard_hold heard h) (heard_tell hears) v l → Stands (hooks_hold h) hooks_tell v l
    apart_stands l s =
        let held = s.0 in
        let stand : Stand (heard_tell hears) held v l = s.1.1 in (
          apart held,
          (
            (s.1.0.0.0, s.1.0.1),
            record {
              lists = (stand.lists.0.0, stand.lists.1, stand.lists.2);
              owed = stand.owed;
              late = none_twice (distribution_tells.height held.0.0) v.ctx.height stand.late;
              in_order = stand.in_order;
            },
          ),
        )

    -- so does distribution
    pub shared_stands : (l : Lists) → Stands (KeepsShared h.first.first.kept) distribution_tells v l → Stands (λ d. KeepsShared h.first.first.kept d.0 × (heard h.first.second.listener ≡ d.1)) (heard_shared hears) v l
    shared_stands l s =
        let stand : Stand distribution_tells s.0 v l = s.1.1 in (
          (s.0, heard h.first.second.listener),
          (
            (s.1.0, refl),
            record {
              lists = (stand.lists, tt, refl);
              owed = stand.owed;
              late = nothing_above (distribution_tells.height s.0) v.ctx.height stand.late;
              in_order = stand.in_order;
            },
          ),
        )

    module _ (s : Staked) where
      pub heard_hooked : IsHooked hooks_tell (hooks_hold h) v s → IsHooked (heard_tell hears) (heard_hold heard h) v s
      heard_hooked k = record { sound = k.sound; stand = heard_stands _ k.stand }

      pub heard_scene : IsScene hooks_tell (hooks_hold h) v s → IsScene (heard_tell hears) (heard_hold heard h) v s
      heard_scene k = record { hooked = heard_hooked k.hooked; accounts = k.accounts }

      pub scene_apart : IsScene (heard_tell hears) (heard_hold heard h) v s → IsScene hooks_tell (hooks_hold h) v s
      scene_apart k = record { hooked = record { sound = k.hooked.sound; stand = apart_stands _ k.hooked.stand }; accounts = k.accounts }

      pub heard_unbonding : (u : UnbondingLists) → IsUnbondingScene hooks_tell (hooks_hold h) v s u → IsUnbondingScene (heard_tell hears) (heard_hold heard h) v s u
      heard_unbonding u k = record { hooked = heard_hooked k.hooked; entries = k.entries; accounts = k.accounts }

      pub heard_redelegation : (r : RedelegationLists) → IsEntryScene hooks_tell (hooks_hold h) v s r → IsEntryScene (heard_tell hears) (heard_hold heard h) v s r
      heard_redelegation r k = record { staked = heard_scene k.staked; entries = k.entries }

  -- ---- answers

  -- what was heard of a step is what a listener holds, where the step and the call succeed
  abbrev pub HeardAs : {F A D : Type 0} → Result (Hearing P) F → Result A D → P → Type 0
  HeardAs (Ok w) (Ok a) p = p ≡ heard_in w
  HeardAs (Ok w) (Err fault) p = ⊤
  HeardAs (Err why) answer p = ⊤

  -- a world without its log, and again with it
  abbrev pub silent_log : Hearing P → World Staked (Overheard P)
  silent_log w = record { mine = w.mine.staked; hooks = w.hooks; view = w.view; log = [] }

  pub log_again : (w : Hearing P) → staked_in w ≡ carried (λ (x : Overheard P). x) w.log (silent_log w)
  log_again w = λ i. record { mine = w.mine.staked; hooks = w.hooks; view = w.view; log = sym (nothing_behind w.log) i }

  module _ {E : Type 0} (heard : E → P) (h : HooksSeen E) (s : Staked) (v : View) where
    -- A call with an answer answers without the listener what it answers with it.
    pub answers_apart : {A : Type 0} (r : Result (A × World Staked ((Shared × P) × Signings)) Refusal) (answer : Result A MessageFault) → AnswersAs r s (heard_hold heard h) v answer → AnswersAs (carried_ok (carried_by apart []) r) s (hooks_hold h) v answer
    answers_apart (Ok due) (Ok a) k = (k.0, k.1, (k.2.0.0, k.2.1), k.3)
    answers_apart (Ok due) (Err fault) k = k
    answers_apart (Err why) (Ok a) k = k
    answers_apart (Err why) (Err fault) k = k

    pub both_apart : {A U : Type 0} (u : U) (r : Result (A × U × World Staked ((Shared × P) × Signings)) Refusal) (answer : Result A MessageFault) → AnswersBoth r u s (heard_hold heard h) v answer
        → AnswersBoth (carried_ok (carried_with apart []) r) u s (hooks_hold h) v answer
    both_apart u (Ok due) (Ok a) k = (k.0, k.1, k.2, (k.3.0.0, k.3.1), k.4)
    both_apart u (Ok due) (Err fault) k = k
    both_apart u (Err why) (Ok a) k = k
    both_apart u (Err why) (Err fault) k = k

    pub leaves_apart : (r : Result (World Staked ((Shared × P) × Signings)) Over) (answer : Result ⊤ HookFault) → Leaves r s (heard_hold heard h) v answer → Leaves (carried_ok (carried apart []) r) s (hooks_hold h) v answer
    leaves_apart (Ok due) (Ok a) k = (k.0, (k.1.0.0, k.1.1), k.2)
    leaves_apart (Ok due) (Err fault) k = k
    leaves_apart (Err over) (Ok a) k = k
    leaves_apart (Err over) (Err fault) k = k

    -- and the listener holds what was heard
    pub answers_heard : {A : Type 0} (window : ℕ) (k : Log) (c : Stakes) (r : Result (A × World Staked (Overheard P)) Refusal) (answer : Result A MessageFault) → AnswersAs (carried_ok (carried_by (heard_as window) []) r) s (heard_hold heard h) v answer
        → HeardAs (carried_ok (carried_by (λ (x : Overheard P). x) k) r >>= λ d. Ok (with_staked c d.1)) answer (heard h.first.second.listener)
    answers_heard window k c (Ok due) (Ok a) e = e.2.0.1
    answers_heard window k c (Ok due) (Err fault) e = tt
    answers_heard window k c (Err why) answer e = tt

    pub both_heard : {A U : Type 0} (window : ℕ) (k : Log) (c : U → Stakes) (u : U) (r : Result (A × U × World Staked (Overheard P)) Refusal) (answer : Result A MessageFault)
        → AnswersBoth (carried_ok (carried_with (heard_as window) []) r) u s (heard_hold heard h) v answer
        → HeardAs (carried_ok (carried_with (λ (x : Overheard P). x) k) r >>= λ d. Ok (with_staked (c d.1) d.2)) answer (heard h.first.second.listener)
    both_heard window k c u (Ok due) (Ok a) e = e.3.0.1
    both_heard window k c u (Ok due) (Err fault) e = tt
    both_heard window k c u (Err why) answer e = tt

    pub leaves_heard : (window : ℕ) (k : Log) (c : Stakes) (r : Result (World Staked (Overheard P)) Over) (answer : Result ⊤ HookFault) → Leaves (carried_ok (carried (heard_as window) []) r) s (heard_hold heard h) v answer
        → HeardAs (carried_ok (carried (λ (x : Overheard P). x) k) r >>= λ d. Ok (with_staked c d)) answer (heard h.first.second.listener)
    leaves_heard window k c (Ok due) (Ok a) e = e.1.0.1
    leaves_heard window k c (Ok due) (Err fault) e = tt
    leaves_heard window k c (Err over) answer e = tt

-- ---- steps

module _ {E P : Type 0} (heard : E → P) where
  -- Modules that stand so for what a step gives, and whose listener holds what was heard of it, hear it.
  pub after_step : {F A B D : Type 0} (stands : KeptState → State → Type 0) (m : Modules E) (hears : P → Hook → View → P) (r : Result State F) (q : Result (Hearing P) F) (W : D → Type 0) (X : F → D → Type 0) (C : Type 0) (a : A) (b : B) → r ≡ carried_ok unheard q
      → AsRuled r (Ok a) (λ due y. stands (kept_of m) due) W X → HeardAs hears {D = C} q (Ok b) (heard (listener_of m)) → HearsAfter heard stands q m
  after_step stands m hears r (Ok w) W X C a b e s h = (subst (λ x. AsRuled x (Ok a) (λ due y. stands (kept_of m) due) W X) e s, h)
  after_step stands m hears r (Err why) W X C a b e s h = subst (λ x. AsRuled x (Ok a) (λ due y. stands (kept_of m) due) W X) e s

  -- A step that calls no hook, where the listener stays.
  pub after_silence : {F A D : Type 0} (stands : KeptState → State → Type 0) (old new : Modules E) (step : State → Result State F) (w : Hearing P) (W : D → Type 0) (X : F → D → Type 0) (a : A)
      → AsRuled (step (unheard w)) (Ok a) (λ due b. stands (kept_of new) due) W X → listener_of new ≡ listener_of old → heard (listener_of old) ≡ heard_in w → HearsAfter heard stands (silently step w) new
  after_silence {F = F} stands old new step w W X a s same is = by (step (unheard w)) s
    where
      by : (r : Result State F) → AsRuled r (Ok a) (λ due b. stands (kept_of new) due) W X → HearsAfter heard stands (r >>= λ u. Ok (record { mine = u.mine; hooks = ((u.hooks.0, heard_in w), u.hooks.1); view = u.view; log = u.log })) new
      by (Ok u) k = (k, ap heard same ∙ is)
      by (Err why) k = k

  -- One step after another.
  pub after_both : {F : Type 0} (between stands : KeptState → State → Type 0) (m last : Modules E) (q : Result (Hearing P) F) (next : Hearing P → Result (Hearing P) F) → HearsAfter heard between q m
      → ((u : Hearing P) → Hears heard between m u → HearsAfter heard stands (next u) last) → HearsAfter heard stands (q >>= next) last
  after_both between stands m last (Ok u) next h on = on u h
  after_both between stands m last (Err why) next h on = absurd h

  -- What stands so stands otherwise too.
  pub after_weaker : {F : Type 0} (first stands : KeptState → State → Type 0) (m : Modules E) (q : Result (Hearing P) F) → ((p : State) → first (kept_of m) p → stands (kept_of m) p) → HearsAfter heard first q m → HearsAfter heard stands q m
  after_weaker first stands m (Ok u) weaker h = (weaker (unheard u) h.0, h.1)
  after_weaker first stands m (Err why) weaker h = h

-- ---- calls over the modules' hooks

module _ {E P : Type 0} (heard : E → P) (hears : P → Hook → View → P) (old new : Modules E) where
  -- what the hooks hold first of a state with what was heard
  abbrev pub held : Hearing P → (Shared × P) × Signings
  held w = heard_as hears old.ground.ctx.params.signed_blocks_window w.hooks

  pub held_heard : (w : Hearing P) → Keeps (kept_of old) (unheard w) → heard (listener_of old) ≡ heard_in w → heard_hold heard old.hooks (held w)
  held_heard w k is = ((k.shared, is), k.signings)

  starts_heard : (w : Hearing P) → Keeps (kept_of old) (unheard w) → over old.stakes.staking.staked (held w) (ground_of old) ≡ carried (heard_as hears old.ground.ctx.params.signed_blocks_window) [] (silent_log hears w)
  starts_heard w k = λ i. record { mine = (sym k.stakes i).staked; hooks = held w; view = sym k.view i; log = [] }

  -- A message that leaves the entries: without the listener it answers what it answers alone.
  pub hooked_apart : {A : Type 0} (f : World Staked (Shared × Signings) → Result (A × World Staked (Shared × Signings)) Refusal) (g : World Staked ((Shared × P) × Signings) → Result (A × World Staked ((Shared × P) × Signings)) Refusal)
      → ((x : World Staked ((Shared × P) × Signings)) → f (carried (apart hears) [] x) ≡ carried_ok (carried_by (apart hears) []) (g x)) → (answer : Result A MessageFault)
      → ((h : (Shared × P) × Signings) → heard_hold heard old.hooks h → AnswersAs (g (over old.stakes.staking.staked h (ground_of old))) new.stakes.staking.staked (heard_hold heard new.hooks) (ground_of new) answer)
      → (h : Shared × Signings) → hooks_hold old.hooks h → AnswersAs (f (over old.stakes.staking.staked h (ground_of old))) new.stakes.staking.staked (hooks_hold new.hooks) (ground_of new) answer
  hooked_apart f g e answer told h o =
      let x : World Staked ((Shared × P) × Signings) = over old.stakes.staking.staked ((h.0, heard (listener_of old)), h.1) (ground_of old) in
      subst (λ r. AnswersAs r new.stakes.staking.staked (hooks_hold new.hooks) (ground_of new) answer) (sym (e x))
      (answers_apart hears heard new.hooks new.stakes.staking.staked (ground_of new) (g x) answer (told ((h.0, heard (listener_of old)), h.1) ((o.0, refl), o.1)))

  -- and the listener holds what was heard
  pub hooked_heard : {A : Type 0} (f : World Staked (Overheard P) → Result (A × World Staked (Overheard P)) Refusal) (g : World Staked ((Shared × P) × Signings) → Result (A × World Staked ((Shared × P) × Signings)) Refusal) (w : Hearing P)
      → Keeps (kept_of old) (unheard w) → f (staked_in w) ≡ carried_ok (carried_by (λ (x : Overheard P). x) w.log) (f (silent_log hears w))
      → g (carried (heard_as hears old.ground.ctx.params.signed_blocks_window) [] (silent_log hears w)) ≡ carried_ok (carried_by (heard_as hears old.ground.ctx.params.signed_blocks_window) []) (f (silent_log hears w)) → (answer : Result A MessageFault)
      → AnswersAs (g (over old.stakes.staking.staked (held w) (ground_of old))) new.stakes.staking.staked (heard_hold heard new.hooks) (ground_of new) answer
      → HeardAs hears (f (staked_in w) >>= λ d. Ok (with_staked w.mine d.1)) answer (heard (listener_of new))
  hooked_heard f g w k e q answer h =
      subst (λ r. HeardAs hears (r >>= λ d. Ok (with_staked w.mine d.1)) answer (heard (listener_of new))) (sym e)
      (answers_heard hears heard new.hooks new.stakes.staking.staked (ground_of new) old.ground.ctx.params.signed_blocks_window w.log w.mine (f (silent_log hears w)) answer
      (subst (λ r. AnswersAs r new.stakes.staking.staked (heard_hold heard new.hooks) (ground_of new) answer) (ap g (starts_heard w k) ∙ q) h))

  -- The same of one that changes entries.
  pub entries_apart : {A U : Type 0} (lists : U) (f : World Staked (Shared × Signings) → Result (A × U × World Staked (Shared × Signings)) Refusal) (g : World Staked ((Shared × P) × Signings) → Result (A × U × World Staked ((Shared × P) × Signings)) Refusal)
      → ((x : World Staked ((Shared × P) × Signings)) → f (carried (apart hears) [] x) ≡ carried_ok (carried_with (apart hears) []) (g x)) → (answer : Result A MessageFault)
      → ((h : (Shared × P) × Signings) → heard_hold heard old.hooks h → AnswersBoth (g (over old.stakes.staking.staked h (ground_of old))) lists new.stakes.staking.staked (heard_hold heard new.hooks) (ground_of new) answer)
      → (h : Shared × Signings) → hooks_hold old.hooks h → AnswersBoth (f (over old.stakes.staking.staked h (ground_of old))) lists new.stakes.staking.staked (hooks_hold new.hooks) (ground_of new) answer
  entries_apart lists f g e answer told h o =
      let x : World Staked ((Shared × P) × Signings) = over old.stakes.staking.staked ((h.0, heard (listener_of old)), h.1) (ground_of old) in
      subst (λ r. AnswersBoth r lists new.stakes.staking.staked (hooks_hold new.hooks) (ground_of new) answer) (sym (e x))
      (both_apart hears heard new.hooks new.stakes.staking.staked (ground_of new) lists (g x) answer (told ((h.0, heard (listener_of old)), h.1) ((o.0, refl), o.1)))

  pub entries_heard : {A U : Type 0} (lists : U) (c : U → Stakes) (f : World Staked (Overheard P) → Result (A × U × World Staked (Overheard P)) Refusal) (g : World Staked ((Shared × P) × Signings) → Result (A × U × World Staked ((Shared × P) × Signings)) Refusal) (w : Hearing P)
      → Keeps (kept_of old) (unheard w) → f (staked_in w) ≡ carried_ok (carried_with (λ (x : Overheard P). x) w.log) (f (silent_log hears w))
      → g (carried (heard_as hears old.ground.ctx.params.signed_blocks_window) [] (silent_log hears w)) ≡ carried_ok (carried_with (heard_as hears old.ground.ctx.params.signed_blocks_window) []) (f (silent_log hears w)) → (answer : Result A MessageFault)
      → AnswersBoth (g (over old.stakes.staking.staked (held w) (ground_of old))) lists new.stakes.staking.staked (heard_hold heard new.hooks) (ground_of new) answer
      → HeardAs hears (f (staked_in w) >>= λ d. Ok (with_staked (c d.1) d.2)) answer (heard (listener_of new))
  entries_heard lists c f g w k e q answer h =
      subst (λ r. HeardAs hears (r >>= λ d. Ok (with_staked (c d.1) d.2)) answer (heard (listener_of new))) (sym e)
      (both_heard hears heard new.hooks new.stakes.staking.staked (ground_of new) old.ground.ctx.params.signed_blocks_window w.log c lists (f (silent_log hears w)) answer
      (subst (λ r. AnswersBoth r lists new.stakes.staking.staked (heard_hold heard new.hooks) (ground_of new) answer) (ap g (starts_heard w k) ∙ q) h))

  -- The same of a call without an answer.
  pub led_apart : (f : World Staked (Shared × Signings) → Result (World Staked (Shared × Signings)) Over) (g : World Staked ((Shared × P) × Signings) → Result (World Staked ((Shared × P) × Signings)) Over)
      → ((x : World Staked ((Shared × P) × Signings)) → f (carried (apart hears) [] x) ≡ carried_ok (carried (apart hears) []) (g x)) → (answer : Result ⊤ HookFault)
      → ((h : (Shared × P) × Signings) → heard_hold heard old.hooks h → Leaves (g (over old.stakes.staking.staked h (ground_of old))) new.stakes.staking.staked (heard_hold heard new.hooks) (ground_of new) answer)
      → (h : Shared × Signings) → hooks_hold old.hooks h → Leaves (f (over old.stakes.staking.staked h (ground_of old))) new.stakes.staking.staked (hooks_hold new.hooks) (ground_of new) answer
  led_apart f g e answer told h o =
      let x : World Staked ((Shared × P) × Signings) = over old.stakes.staking.staked ((h.0, heard (listener_of old)), h.1) (ground_of old) in
      subst (λ r. Leaves r new.stakes.staking.staked (hooks_hold new.hooks) (ground_of new) answer) (sym (e x))
      (leaves_apart hears heard new.hooks new.stakes.staking.staked (ground_of new) (g x) answer (told ((h.0, heard (listener_of old)), h.1) ((o.0, refl), o.1)))

  pub led_heard : (f : World Staked (Overheard P) → Result (World Staked (Overheard P)) Over) (g : World Staked ((Shared × P) × Signings) → Result (World Staked ((Shared × P) × Signings)) Over) (w : Hearing P)
      → Keeps (kept_of old) (unheard w) → f (staked_in w) ≡ carried_ok (carried (λ (x : Overheard P). x) w.log) (f (silent_log hears w))
      → g (carried (heard_as hears old.ground.ctx.params.signed_blocks_window) [] (silent_log hears w)) ≡ carried_ok (carried (heard_as hears old.ground.ctx.params.signed_blocks_window) []) (f (silent_log hears w)) → (answer : Result ⊤ HookFault)
      → Leaves (g (over old.stakes.staking.staked (held w) (ground_of old))) new.stakes.staking.staked (heard_hold heard new.hooks) (ground_of new) answer
      → HeardAs hears (f (staked_in w) >>= λ d. Ok (with_staked w.mine d)) answer (heard (listener_of new))
  led_heard f g w k e q answer h =
      subst (λ r. HeardAs hears (r >>= λ d. Ok (with_staked w.mine d)) answer (heard (listener_of new))) (sym e)
      (leaves_heard hears heard new.hooks new.stakes.staking.staked (ground_of new) old.ground.ctx.params.signed_blocks_window w.log w.mine (f (silent_log hears w)) answer
      (subst (λ r. Leaves r new.stakes.staking.staked (heard_hold heard new.hooks) (ground_of new) answer) (ap g (starts_heard w k) ∙ q) h))

-- ---- what stands after a step

module _ {E P : Type 0} (heard : E → P) where
  -- a step that gives something, and what it gives
  pub after_gives : {F : Type 0} (stands : KeptState → State → Type 0) (m : Modules E) (q : Result (Hearing P) F) → HearsAfter heard stands q m → (u : Hearing P) × (q ≡ Ok u) × Hears heard stands m u
  after_gives stands m (Ok u) h = (u, refl, h)
  after_gives stands m (Err why) h = absurd h

  -- what keeps the same, and whose listener heard the same, hears the same
  pub hears_same : (old new : Modules E) (w : Hearing P) → kept_of new ≡ kept_of old → heard (listener_of new) ≡ heard (listener_of old) → Hears heard StandsWhole old w → Hears heard StandsWhole new w
  hears_same old new w same is h = (whole_same (kept_of old) (kept_of new) (unheard w) same h.0, is ∙ h.1)

-- A listener of which the laws say that going back restores what it heard: where its latest mark is closed again, it heard what
-- it had heard at it.
pub heard_again : {S H K M P : Type 0} {holds : S → H → Type 0} {tells : Tells H} {hook_marks : S → M} {kept : S → K} {marks : S → List K} {items : K → List Item} {is_kind : Item → Bool} {heard : S → P} {hears : P → Hook → View → P}
    → Listens holds tells hook_marks kept marks items is_kind heard hears → (old last : S) → marks last ++ kept last ∷ [] ≡ marks old ++ kept old ∷ [] → heard last ≡ heard old
heard_again {kept = kept} {marks = marks} listens old last e = let same = same_from_push (marks last) (marks old) (kept last) (kept old) e in listens.restores last old same.1
