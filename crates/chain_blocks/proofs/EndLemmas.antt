-- The end of a block: from what the modules' calls answer and leave to what its steps do.
use Rattle.std.proofs.Common.{◌≡◌, ◌∙◌, ℕ, List, [], ◌∷◌, true, Result, Ok, Err, sym, ap, subst, not, OnOk, IfOk, IfErr, Contains, filter}
use Rattle.std.specs.{Prelude.⊤, List.AllByRecursion}
use Rattle.base_decimals.specs.declared.over.Over.{Over}
use Rattle.base_roles.specs.declared.{entities.UnbondingEntry.UnbondingEntry, faults.HookFault.HookFault}
use Rattle.base_roles.specs.declared.{faults.HookFault.TheVariants.NoMemory, params.Ctx.Ctx}
use Rattle.base_roles.specs.{Answers.{AsRuled, WantsMemory, ExceedsAs}, Staked.Staked, Flow.{◌>>=◌}}
use Rattle.base_roles.specs.World.{View, World, over_mine, over_view}
use Rattle.rule_modules.{proofs.OperatorLemmas.filtered_all, specs.Answers.Leaves}
use Rattle.rule_modules.specs.BondedSet.{set_updated, validators_matured}
use Rattle.rule_modules.specs.Chain.{Hooks, State, Stakes, chain_told, maturing_step, redelegations_step, set_step, shared_in, staked_in, unbondings_step, window_in, with_staked}
use Rattle.rule_modules.specs.{Distribution.Shared, StepLaws.AreWhole, Redelegations.redelegations_completed}
use Rattle.rule_modules.specs.{Sound.IsSound, Unbondings.{UnbondingLists, completed, is_mature, key_then, paid_back}}
use Rattle.mod_staking.specs.Calls.{over}
use Rattle.law_soundness.proofs.{Bonding.set_step_fits, Burns.total_in, Ending.{redelegations_fit, unbondings_fit}}
use Rattle.law_soundness.proofs.{Leaving.to_whole, Lists.weaker, Maturing.maturing_fits}
use Rattle.law_soundness.proofs.{Points.{StateLeft, WholeEntries, from_fits, to_fits}, Steps.weaker_if}
use Rattle.mod_signing.specs.Stands.{KeepsSignings, Signings}
use Rattle.mod_distribution.specs.Stands.{KeepsShared}
use Rattle.chain_modules.specs.declared.modules.Modules.{Modules}
use Rattle.chain_modules.specs.Kept.{KeptState, Keeps, StandsWhole, AreSteady, ground_of, hooks_hold, hooks_tell, kept_of}
use Rattle.chain_modules.{specs.Marks.GoOn, proofs.CarryLemmas.{carried, carried_ok, matured_all_carried, set_carried}}
use Rattle.chain_modules.proofs.HookLemmas.{held_as, leaves_on, logged_again, told_as, told_itself, unlogged}
use Rattle.chain_transactions.proofs.EndLemmas.{IsNext, Left, from_whole}
use Rattle.chain_blocks.specs.Answers.{Leads}

-- ---- what the laws give of a state after a step

-- a step that leaves a state that fits, and whole
module _ (f : State → Result State Over) where
  step_next : (p : State) (s : IsSound p) → AreWhole p → IfOk (f p) (λ due. StateLeft (Contains s.few.some) (total_in p.view) p due) → IfOk (f p) (IsNext p)
  step_next p s whole h =
      weaker_if (f p) (StateLeft (Contains s.few.some) (total_in p.view) p) (IsNext p) h
      (λ due k. record { sound = from_fits due s.few.some (total_in p.view) s.few.few k.fits; whole = from_whole due (k.whole (to_whole p whole)) })

  -- a step that leaves what represents the state that is due leaves what stands for it
  pub step_leads : (p : State) (k2 : KeptState) (answer : Result ⊤ HookFault) → IfOk (f p) (IsNext p) → Leads Keeps (f p) k2 answer → Leads StandsWhole (f p) k2 answer
  step_leads p k2 answer n h = by (f p) answer n h
    where
      by : (r : Result State Over) (a : Result ⊤ HookFault) → IfOk r (IsNext p) → Leads Keeps r k2 a → Leads StandsWhole r k2 a
      by (Ok due) (Ok a) n h = record { keeps = h; sound = n.sound; whole = n.whole }
      by (Ok due) (Err fault) n h = h
      by (Err over) (Ok a) n h = h
      by (Err over) (Err fault) n h = h

  -- after a step the modules are steady again
  pub steady_on : {E : Type 0} (old new : Modules E) (answer : Result ⊤ HookFault) → AreSteady old → GoOn old new → ((p : State) → StandsWhole (kept_of old) p → Leads StandsWhole (f p) (kept_of new) answer) → OnOk answer (AreSteady new)
  steady_on old new (Ok a) s on ends = let d = led (f s.state) (ends s.state s.stands) in record {
    power = ap (λ b. b.staking.power_reduction) on.behind ∙ s.power ∙ ap (λ (c : Ctx). c.params.power_reduction) (sym on.ctx);
    state = d.0;
    stands = d.1;
  }
    where
      led : (r : Result State Over) → Leads StandsWhole r (kept_of new) (Ok a) → (due : State) × StandsWhole (kept_of new) due
      led (Ok due) h = (due, h)
      led (Err over) h = absurd h
  steady_on old new (Err fault) s on ends = tt

pub set_next : (p : State) (s : IsSound p) → AreWhole p → IfOk (set_step p) (IsNext p)
set_next p s whole = step_next set_step p s whole (set_step_fits (Contains s.few.some) (total_in p.view) p (to_fits p s))

pub maturing_next : (p : State) (s : IsSound p) → AreWhole p → IfOk (maturing_step p) (IsNext p)
maturing_next p s whole = step_next maturing_step p s whole (maturing_fits (Contains s.few.some) (total_in p.view) p (to_fits p s))

-- entries that are left lost nothing
whole_then : (height : ℕ) (key : List ℕ × List ℕ) (es : List UnbondingEntry) (u : UnbondingLists) → WholeEntries height es → AllByRecursion (λ p. WholeEntries height p.1) u → AllByRecursion (λ p. WholeEntries height p.1) (key_then key es u)
whole_then height key [] u w k = k
whole_then height key (e ∷ es) u w k = (w, k)

completed_whole : (height : ℕ) (u : UnbondingLists) (v : View) → AllByRecursion (λ p. WholeEntries height p.1) u → AllByRecursion (λ p. WholeEntries height p.1) (completed u v).0
completed_whole height [] v h = tt
completed_whole height (p ∷ ps) v h =
    whole_then height p.0 (filter (λ e. not (is_mature v.ctx.time e)) p.1) (completed ps (paid_back p.0.0 p.1 v)).0 (filtered_all (λ e. not (is_mature v.ctx.time e)) (λ e. e.created ≡ height → e.balance ≡ e.initial) p.1
    (weaker (λ e. e.created ≡ height → e.balance ≡ e.initial) (λ e. not (is_mature v.ctx.time e) ≡ true → e.created ≡ height → e.balance ≡ e.initial) (λ e k t. k) p.1 h.0))
    (completed_whole height ps (paid_back p.0.0 p.1 v) h.1)

pub unbondings_next : (p : State) (s : IsSound p) → AreWhole p → IfOk (unbondings_step p) (IsNext p)
unbondings_next p s whole =
    let P : List ℕ → Type 0 = Contains s.few.some in
    let T : List ℕ → ℕ = total_in p.view in
    let k = unbondings_fit P T p (to_fits p s) in
    let u = (completed p.mine.unbondings p.view).0 in
    let v = (completed p.mine.unbondings p.view).1 in
    let due : State = over_view (λ old. v) (over_mine (λ c. record c { unbondings = u }) p) in
    record {
      sound = from_fits due s.few.some T s.few.few k.0;
      whole = from_whole due (subst (λ (c : Ctx). AllByRecursion (λ q. WholeEntries c.height q.1) u) (sym k.1) (completed_whole p.view.ctx.height p.mine.unbondings p.view (to_whole p whole)));
    }

pub redelegations_next : (p : State) (s : IsSound p) → AreWhole p → IfOk (redelegations_step p) (IsNext p)
redelegations_next p s whole =
    let k = redelegations_fit (Contains s.few.some) (total_in p.view) p (to_fits p s) in
    record { sound = from_fits _ s.few.some (total_in p.view) s.few.few k.0; whole = whole }

-- ---- calls of staking, over the modules' hooks

module _ {E : Type 0} (old new : Modules E) (p : State) (k : Keeps (kept_of old) p) (ctx : new.ground.ctx ≡ old.ground.ctx)
    (unbondings : new.stakes.unbondings.lists ≡ old.stakes.unbondings.lists) (redelegations : new.stakes.redelegations.lists ≡ old.stakes.redelegations.lists) where
  starts_here : over old.stakes.staking.staked (held_as old.ground.ctx.params.signed_blocks_window p.hooks) (ground_of old) ≡ carried (held_as old.ground.ctx.params.signed_blocks_window) [] (unlogged p)
  starts_here = λ i. record {
    mine = (sym k.stakes i).staked;
    hooks = held_as old.ground.ctx.params.signed_blocks_window p.hooks;
    view = sym k.view i;
    log = [];
  }

  keeps_left : (s : World Staked Hooks) → Left new s → Keeps (kept_of new) (with_staked p.mine (carried (λ (x : Hooks). x) p.log s))
  keeps_left s h = record {
    stakes = λ i. record {
      staked = sym h.staked i;
      unbondings = (ap (λ (c : Stakes). c.unbondings) k.stakes ∙ sym unbondings) i;
      redelegations = (ap (λ (c : Stakes). c.redelegations) k.stakes ∙ sym redelegations) i;
    };
    shared = h.hooks.0;
    signings = h.hooks.1;
    view = sym h.ground;
  }

  -- A rule over the machine's own hooks, and the same over the modules'.
  pub leads_hooked : (f : World Staked Hooks → Result (World Staked Hooks) Over) (g : World Staked (Shared × Signings) → Result (World Staked (Shared × Signings)) Over)
      → f (staked_in p) ≡ carried_ok (carried (λ (x : Hooks). x) p.log) (f (unlogged p))
      → g (carried (held_as old.ground.ctx.params.signed_blocks_window) [] (unlogged p)) ≡ carried_ok (carried (held_as old.ground.ctx.params.signed_blocks_window) []) (f (unlogged p))
      → (answer : Result ⊤ HookFault)
      → Leaves (g (over old.stakes.staking.staked (held_as old.ground.ctx.params.signed_blocks_window p.hooks) (ground_of old))) new.stakes.staking.staked (hooks_hold new.hooks) (ground_of new) answer
      → Leads Keeps (f (staked_in p) >>= λ s. Ok (with_staked p.mine s)) (kept_of new) answer
  leads_hooked f g e q answer h =
      subst (λ r. Leads Keeps (r >>= λ s. Ok (with_staked p.mine s)) (kept_of new) answer) (sym e)
      (by (f (unlogged p)) answer
      (leaves_on old.ground.ctx.params.signed_blocks_window (f (unlogged p)) new.stakes.staking.staked (hooks_hold new.hooks) (ground_of new) answer
      (subst (λ r. Leaves r new.stakes.staking.staked (hooks_hold new.hooks) (ground_of new) answer) (ap g starts_here ∙ q) h)))
    where
      same_number : old.ground.ctx.params.signed_blocks_window ≡ new.ground.ctx.params.signed_blocks_window
      same_number = ap (λ (c : Ctx). c.params.signed_blocks_window) (sym ctx)

      by : (r : Result (World Staked Hooks) Over) (a : Result ⊤ HookFault)
          → AsRuled r a (λ due b. (new.stakes.staking.staked ≡ due.mine) × hooks_hold new.hooks (held_as old.ground.ctx.params.signed_blocks_window due.hooks) × (ground_of new ≡ due.view)) WantsMemory ExceedsAs
          → Leads Keeps (carried_ok (carried (λ (x : Hooks). x) p.log) r >>= λ s. Ok (with_staked p.mine s)) (kept_of new) a
      by (Ok due) (Ok a) h = keeps_left due (record { staked = h.0; hooks = subst (λ n. hooks_hold new.hooks (held_as n due.hooks)) same_number h.1; ground = h.2 })
      by (Ok due) (Err fault) h = h
      by (Err over) (Ok a) h = h
      by (Err over) (Err fault) h = h

  pub set_leads : (answer : Result ⊤ HookFault)
      → Leaves (set_updated hooks_tell.told (over old.stakes.staking.staked (held_as old.ground.ctx.params.signed_blocks_window p.hooks) (ground_of old))) new.stakes.staking.staked (hooks_hold new.hooks) (ground_of new) answer
      → Leads Keeps (set_step p) (kept_of new) answer
  set_leads answer h =
      leads_hooked (set_updated chain_told) (set_updated hooks_tell.told)
      (ap (set_updated chain_told) (logged_again p) ∙ set_carried (λ (x : Hooks). x) p.log chain_told chain_told (told_itself p.log) (unlogged p))
      (set_carried (held_as old.ground.ctx.params.signed_blocks_window) [] chain_told hooks_tell.told (told_as old.ground.ctx.params.signed_blocks_window) (unlogged p)) answer h

  pub matured_leads : (answer : Result ⊤ HookFault)
      → Leaves (validators_matured hooks_tell.told (over old.stakes.staking.staked (held_as old.ground.ctx.params.signed_blocks_window p.hooks) (ground_of old))) new.stakes.staking.staked (hooks_hold new.hooks) (ground_of new) answer
      → Leads Keeps (maturing_step p) (kept_of new) answer
  matured_leads answer h =
      leads_hooked (validators_matured chain_told) (validators_matured hooks_tell.told)
      (ap (validators_matured chain_told) (logged_again p) ∙ matured_all_carried (λ (x : Hooks). x) p.log chain_told chain_told (told_itself p.log) (unlogged p))
      (matured_all_carried (held_as old.ground.ctx.params.signed_blocks_window) [] chain_told hooks_tell.told (told_as old.ground.ctx.params.signed_blocks_window) (unlogged p)) answer h

-- ---- entries that are mature

module _ {E : Type 0} (old new : Modules E) (p : State) (k : Keeps (kept_of old) p) (ctx : new.ground.ctx ≡ old.ground.ctx) (shared : new.hooks.first.first.kept ≡ old.hooks.first.first.kept)
    (signings : new.hooks.second.kept ≡ old.hooks.second.kept) (staked : new.stakes.staking.staked ≡ old.stakes.staking.staked) where
  same_signings : KeepsSignings new.ground.ctx.params.signed_blocks_window new.hooks.second.kept (window_in p)
  same_signings =
      subst (λ n. KeepsSignings n new.hooks.second.kept (window_in p)) (ap (λ (c : Ctx). c.params.signed_blocks_window) (sym ctx))
      (subst (λ s. KeepsSignings old.ground.ctx.params.signed_blocks_window s (window_in p)) (sym signings) k.signings)

  pub unbondings_lead : (answer : Result ⊤ HookFault) → new.stakes.redelegations.lists ≡ old.stakes.redelegations.lists
      → OnOk answer (new.stakes.unbondings.lists ≡ (completed old.stakes.unbondings.lists (ground_of old)).0) → OnOk answer (ground_of new ≡ (completed old.stakes.unbondings.lists (ground_of old)).1)
      → IfErr answer (λ fault. fault ≡ NoMemory) → Leads Keeps (unbondings_step p) (kept_of new) answer
  unbondings_lead (Ok a) r u g e =
      let same : completed p.mine.unbondings p.view ≡ completed old.stakes.unbondings.lists (ground_of old) = λ i. completed (k.stakes i).unbondings (k.view i) in
      record {
        stakes = λ i. record {
          staked = (ap (λ (c : Stakes). c.staked) k.stakes ∙ sym staked) i;
          unbondings = (ap (λ (x : UnbondingLists × View). x.0) same ∙ sym u) i;
          redelegations = (ap (λ (c : Stakes). c.redelegations) k.stakes ∙ sym r) i;
        };
        shared = subst (λ s. KeepsShared s (shared_in p)) (sym shared) k.shared;
        signings = same_signings;
        view = ap (λ (x : UnbondingLists × View). x.1) same ∙ sym g;
      }
  unbondings_lead (Err fault) r u g e = subst WantsMemory (sym e) tt

  pub redelegations_lead : (answer : Result ⊤ HookFault) → new.stakes.unbondings.lists ≡ old.stakes.unbondings.lists → ground_of new ≡ ground_of old
      → OnOk answer (new.stakes.redelegations.lists ≡ redelegations_completed old.ground.ctx.time old.stakes.redelegations.lists)
      → IfErr answer (λ fault. fault ≡ NoMemory) → Leads Keeps (redelegations_step p) (kept_of new) answer
  redelegations_lead (Ok a) u g r e = record {
    stakes = λ i. record {
      staked = (ap (λ (c : Stakes). c.staked) k.stakes ∙ sym staked) i;
      unbondings = (ap (λ (c : Stakes). c.unbondings) k.stakes ∙ sym u) i;
      redelegations = ((λ j. redelegations_completed (k.view j).ctx.time (k.stakes j).redelegations) ∙ sym r) i;
    };
    shared = subst (λ s. KeepsShared s (shared_in p)) (sym shared) k.shared;
    signings = same_signings;
    view = k.view ∙ sym g;
  }
  redelegations_lead (Err fault) u g r e = subst WantsMemory (sym e) tt
