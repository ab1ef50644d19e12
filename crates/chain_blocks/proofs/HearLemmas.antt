-- What a listener hears of a block: its beginning, its transactions and its end.
use Rattle.std.proofs.Common.{◌≡◌, ◌∙◌, ℕ, ◌+◌, ◌<◌, ◌^◌, List, [], ◌∷◌, drop, length, get_or, Result, Ok, Err, refl, sym, ap, subst, Bool, IfOk, OnOk}
use Rattle.std.specs.Prelude.{⊤}
use Rattle.base_decimals.specs.declared.over.Over.{Over}
use Rattle.base_messages.specs.declared.block.Block.{Block}
use Rattle.base_roles.specs.declared.{faults.HookFault.HookFault, messages.{Evidence.Evidence, Vote.Vote}}
use Rattle.base_roles.specs.{Answers.{AsRuled, ExceedsAs, WantsMemory}, Flow.{◌>>=◌, each}, Staked.Staked}
use Rattle.base_roles.specs.{World.{View, World}, declared.calls.Hook.Hook}
use Rattle.rule_machine.specs.GenesisState.{without_facts}
use Rattle.rule_machine.specs.Listening.{Hearing, Overheard, beginning_heard, beside_window, ending_heard, evidence_heard, heard_in, hearing, maturing_heard, overheard_told, part_heard, set_heard, shared_told, silently, txs_heard, unheard, vote_heard, with_window}
use Rattle.rule_modules.specs.{Answers.Leaves, BondedSet.{set_updated, validators_matured}}
use Rattle.rule_modules.specs.Chain.{State, Stakes, allocation_step, evidence_step, maturing_step, redelegations_step, set_step, unbondings_step, vote_step}
use Rattle.rule_modules.specs.{Distribution.{Shared, distribution_told}, Evidence.{equivocation_handled, window_bans}}
use Rattle.rule_modules.specs.{Slashing.{core_slashes, plain_slash}, Window.{Window, voted}}
use Rattle.mod_distribution.specs.Stands.{KeepsShared}
use Rattle.mod_evidence.specs.Calls.{Handles}
use Rattle.mod_signing.specs.{Calls.VoteAnswers, Kept.Kept, Stands.{KeepsSignings, Signings}}
use Rattle.mod_staking.specs.Calls.{over}
use Rattle.chain_modules.specs.declared.modules.Modules.{Modules}
use Rattle.chain_modules.specs.Heard.{Hears, HearsAfter, heard_hold, heard_shared, heard_tell}
use Rattle.chain_modules.specs.Kept.{KeptState, Keeps, StandsFor, StandsWhole, ground_of, hooks_hold, hooks_tell, kept_of, listener_of, stakes_kept}
use Rattle.chain_modules.proofs.CarryLemmas.{carried_ok, matured_all_carried, set_carried}
use Rattle.chain_modules.proofs.ErasingLemmas.{evidence_unheard, maturing_unheard, set_unheard, vote_unheard}
use Rattle.chain_modules.proofs.HeardLemmas.{HeardAs, after_both, after_gives, after_silence, after_step, after_weaker, apart, heard_as, held, held_heard, led_apart, led_heard, log_again, shared_apart, shared_heard, shared_of, silent_log, told_apart, told_heard, told_same}
use Rattle.chain_modules.proofs.SlashCarryLemmas.{core_with, equivocation_carried, voted_carried}
use Rattle.chain_modules.proofs.StandLemmas.{cleared, stands_for, stands_same, whole_cleared, whole_same}
use Rattle.chain_transactions.proofs.{EndLemmas.IsNext, HearingLemmas.part_hears, MessageLemmas.next}
use Rattle.chain_blocks.specs.{Answers.{Leads, parts_heard}, Begun.{AreBegun, HasBegun}}
use Rattle.chain_blocks.proofs.{EvidenceLemmas.{handled_plain, kept_bans}, OpenLemmas.{begun_stands, opens}}

-- ---- the bonded set, and validators that are mature

module _ {E P : Type 0} (heard : E → P) (hears : P → Hook → View → P) (old new : Modules E) where
  -- what a call of staking leaves, of each plain value that the hooks hold first with what was heard
  abbrev LeavesHeard : (World Staked ((Shared × P) × Signings) → Result (World Staked ((Shared × P) × Signings)) Over) → Result ⊤ HookFault → Type 0
  LeavesHeard g answer = (h : (Shared × P) × Signings) → heard_hold heard old.hooks h → Leaves (g (over old.stakes.staking.staked h (ground_of old))) new.stakes.staking.staked (heard_hold heard new.hooks) (ground_of new) answer

  pub set_apart : (answer : Result ⊤ HookFault) → LeavesHeard (set_updated (heard_tell hears).told) answer
      → (h : Shared × Signings) → hooks_hold old.hooks h → Leaves (set_updated hooks_tell.told (over old.stakes.staking.staked h (ground_of old))) new.stakes.staking.staked (hooks_hold new.hooks) (ground_of new) answer
  set_apart = led_apart heard hears old new (set_updated hooks_tell.told) (set_updated (heard_tell hears).told) (set_carried (apart hears) [] (heard_tell hears).told hooks_tell.told (told_apart hears))

  pub set_hears : (answer : Result ⊤ HookFault) → LeavesHeard (set_updated (heard_tell hears).told) answer → ((p : State) → Keeps (kept_of old) p → Leads Keeps (set_step p) (kept_of new) answer)
      → (w : Hearing P) → Hears heard Keeps old w → OnOk answer (HearsAfter heard Keeps (set_heard hears w) new)
  set_hears (Ok a) told leads w s =
      let f = set_updated (overheard_told hears) in
      after_step heard Keeps new hears (set_step (unheard w)) (set_heard hears w) WantsMemory ExceedsAs _ tt a (set_unheard hears w) (leads (unheard w) s.0)
      (led_heard heard hears old new f (set_updated (heard_tell hears).told) w s.0
      (ap f (log_again hears w) ∙ set_carried (λ (x : Overheard P). x) w.log (overheard_told hears) (overheard_told hears) (λ h hook v. told_same w.log (overheard_told hears h hook v)) (silent_log hears w))
      (set_carried (heard_as hears old.ground.ctx.params.signed_blocks_window) [] (overheard_told hears) (heard_tell hears).told (told_heard hears old.ground.ctx.params.signed_blocks_window) (silent_log hears w)) (Ok a)
      (told (held heard hears old new w) (held_heard heard hears old new w s.0 s.1)))
  set_hears (Err fault) told leads w s = tt

  pub matured_apart : (answer : Result ⊤ HookFault) → LeavesHeard (validators_matured (heard_tell hears).told) answer
      → (h : Shared × Signings) → hooks_hold old.hooks h → Leaves (validators_matured hooks_tell.told (over old.stakes.staking.staked h (ground_of old))) new.stakes.staking.staked (hooks_hold new.hooks) (ground_of new) answer
  matured_apart = led_apart heard hears old new (validators_matured hooks_tell.told) (validators_matured (heard_tell hears).told) (matured_all_carried (apart hears) [] (heard_tell hears).told hooks_tell.told (told_apart hears))

  pub matured_hears : (answer : Result ⊤ HookFault) → LeavesHeard (validators_matured (heard_tell hears).told) answer → ((p : State) → StandsWhole (kept_of old) p → Leads StandsWhole (maturing_step p) (kept_of new) answer)
      → (w : Hearing P) → Hears heard StandsWhole old w → OnOk answer (HearsAfter heard StandsWhole (maturing_heard hears w) new)
  matured_hears (Ok a) told leads w s =
      let f = validators_matured (overheard_told hears) in
      after_step heard StandsWhole new hears (maturing_step (unheard w)) (maturing_heard hears w) WantsMemory ExceedsAs _ tt a (maturing_unheard hears w) (leads (unheard w) s.0)
      (led_heard heard hears old new f (validators_matured (heard_tell hears).told) w s.0.keeps
      (ap f (log_again hears w) ∙ matured_all_carried (λ (x : Overheard P). x) w.log (overheard_told hears) (overheard_told hears) (λ h hook v. told_same w.log (overheard_told hears h hook v)) (silent_log hears w))
      (matured_all_carried (heard_as hears old.ground.ctx.params.signed_blocks_window) [] (overheard_told hears) (heard_tell hears).told (told_heard hears old.ground.ctx.params.signed_blocks_window) (silent_log hears w)) (Ok a)
      (told (held heard hears old new w) (held_heard heard hears old new w s.0.keeps s.1)))
  matured_hears (Err fault) told leads w s = tt

  -- what is represented after a step that leaves a sound state stands whole
  pub whole_hears : (f : State → Result State Over) (w : Hearing P) (q : Result (Hearing P) Over) → f (unheard w) ≡ carried_ok unheard q → IfOk (f (unheard w)) (IsNext (unheard w)) → HearsAfter heard Keeps q new → HearsAfter heard StandsWhole q new
  whole_hears f w (Ok u) e n h = let k : IsNext (unheard w) (unheard u) = subst (λ r. IfOk r (IsNext (unheard w))) e n in (record { keeps = h.0; sound = k.sound; whole = k.whole }, h.1)
  whole_hears f w (Err over) e n h = h

-- ---- votes and evidence

-- what distribution holds, with what the listener heard
abbrev pub shared_hold : {E P : Type 0} → (E → P) → Modules E → Shared × P → Type 0
shared_hold heard m d = KeepsShared m.hooks.first.first.kept d.0 × (heard m.hooks.first.second.listener ≡ d.1)

module _ {E P : Type 0} (heard : E → P) (hears : P → Hook → View → P) (last : Modules E) where
  pub vote_apart : (t : Vote) (i : Window) (stands : Window → Type 0) (x : World Stakes (Shared × P)) (answer : Result ⊤ HookFault)
      → VoteAnswers (voted (core_slashes (heard_shared hears).told plain_slash) t i x) stands (stakes_kept last.stakes) (shared_hold heard last) (ground_of last) answer
      → VoteAnswers (voted (core_slashes distribution_told plain_slash) t i (record { mine = x.mine; hooks = x.hooks.0; view = x.view; log = x.log })) stands (stakes_kept last.stakes) (KeepsShared last.hooks.first.first.kept) (ground_of last) answer
  vote_apart t i stands x answer h =
      subst (λ r. VoteAnswers r stands (stakes_kept last.stakes) (KeepsShared last.hooks.first.first.kept) (ground_of last) answer)
      (sym (voted_carried (shared_of hears) [] (heard_shared hears).told distribution_told (shared_apart hears) t i x)) (by (voted (core_slashes (heard_shared hears).told plain_slash) t i x) answer h)
    where
      by : (r : Result (⊤ × Window × World Stakes (Shared × P)) Over) (a : Result ⊤ HookFault) → VoteAnswers r stands (stakes_kept last.stakes) (shared_hold heard last) (ground_of last) a
          → VoteAnswers (carried_ok (core_with (shared_of hears) []) r) stands (stakes_kept last.stakes) (KeepsShared last.hooks.first.first.kept) (ground_of last) a
      by (Ok due) (Ok a) k = (k.0, k.1, k.2.0, k.3)
      by (Ok due) (Err fault) k = k
      by (Err over) (Ok a) k = k
      by (Err over) (Err fault) k = k

  pub evidence_apart : (e : Evidence) (kept kept2 : Kept) (x : World Stakes (Shared × P)) (answer : Result Bool HookFault)
      → Handles (equivocation_handled (core_slashes (heard_shared hears).told plain_slash) kept_bans e kept x) kept2 (stakes_kept last.stakes) (shared_hold heard last) (ground_of last) answer
      → Handles (equivocation_handled (core_slashes distribution_told plain_slash) kept_bans e kept (record { mine = x.mine; hooks = x.hooks.0; view = x.view; log = x.log })) kept2 (stakes_kept last.stakes) (KeepsShared last.hooks.first.first.kept) (ground_of last) answer
  evidence_apart e kept kept2 x answer h =
      subst (λ r. Handles r kept2 (stakes_kept last.stakes) (KeepsShared last.hooks.first.first.kept) (ground_of last) answer)
      (sym (equivocation_carried (shared_of hears) [] (heard_shared hears).told distribution_told (shared_apart hears) kept_bans e kept x)) (by (equivocation_handled (core_slashes (heard_shared hears).told plain_slash) kept_bans e kept x) answer h)
    where
      by : (r : Result (Bool × Kept × World Stakes (Shared × P)) Over) (a : Result Bool HookFault) → Handles r kept2 (stakes_kept last.stakes) (shared_hold heard last) (ground_of last) a
          → Handles (carried_ok (core_with (shared_of hears) []) r) kept2 (stakes_kept last.stakes) (KeepsShared last.hooks.first.first.kept) (ground_of last) a
      by (Ok due) (Ok a) k = (k.0, k.1, k.2, k.3.0, k.4)
      by (Ok due) (Err fault) k = k
      by (Err over) (Ok a) k = k
      by (Err over) (Err fault) k = k

  module _ (new : Modules E) (w : Hearing P) where
    -- the world that distribution's calls start from
    abbrev pub starts_shared : World Stakes (Shared × P)
    starts_shared = record { mine = stakes_kept new.stakes; hooks = w.hooks.0; view = ground_of new; log = w.log }

    same_start : Keeps (kept_of new) (unheard w) → starts_shared ≡ beside_window w
    same_start k = λ i. record { mine = sym k.stakes i; hooks = w.hooks.0; view = sym k.view i; log = w.log }

    pub vote_hears : (t : Vote) (ts : List Vote) (stands : Window → Type 0) → Hears heard (AreBegun (t ∷ ts)) new w → Leads (AreBegun ts) (vote_step t (unheard w)) (kept_of last) (Ok tt)
        → VoteAnswers (voted (core_slashes (heard_shared hears).told plain_slash) t w.hooks.1 starts_shared) stands (stakes_kept last.stakes) (shared_hold heard last) (ground_of last) (Ok tt)
        → HearsAfter heard (AreBegun ts) (vote_heard hears t w) last
    vote_hears t ts stands s leads told =
        after_step heard (AreBegun ts) last hears (vote_step t (unheard w)) (vote_heard hears t w) WantsMemory ExceedsAs _ tt tt (vote_unheard hears t w) leads
        (by (voted (core_slashes (shared_told hears) plain_slash) t w.hooks.1 (beside_window w))
        (subst (λ r. VoteAnswers r stands (stakes_kept last.stakes) (shared_hold heard last) (ground_of last) (Ok tt))
        (ap (voted (core_slashes (heard_shared hears).told plain_slash) t w.hooks.1) (same_start s.0.keeps) ∙ voted_carried (λ (x : Shared × P). x) [] (shared_told hears) (heard_shared hears).told (shared_heard hears) t w.hooks.1 (beside_window w)) told))
      where
        by : (r : Result (⊤ × Window × World Stakes (Shared × P)) Over) → VoteAnswers (carried_ok (core_with (λ (x : Shared × P). x) []) r) stands (stakes_kept last.stakes) (shared_hold heard last) (ground_of last) (Ok tt)
            → HeardAs hears {A = ⊤} {D = HookFault} (r >>= λ x. Ok (with_window x.1 x.2)) (Ok tt) (heard (listener_of last))
        by (Ok x) k = k.2.1
        by (Err why) k = tt

    pub evidence_hears : (e : Evidence) (done : Bool) → Hears heard (AreBegun []) new w → Leads (AreBegun []) (evidence_step e (unheard w)) (kept_of last) (Ok tt)
        → Handles (equivocation_handled (core_slashes (heard_shared hears).told plain_slash) kept_bans e new.hooks.second.kept starts_shared) last.hooks.second.kept (stakes_kept last.stakes) (shared_hold heard last) (ground_of last) (Ok done)
        → HearsAfter heard (AreBegun []) (evidence_heard hears e w) last
    evidence_hears e done s leads told =
        after_step heard (AreBegun []) last hears (evidence_step e (unheard w)) (evidence_heard hears e w) WantsMemory ExceedsAs _ tt tt (evidence_unheard hears e w) leads
        (by (equivocation_handled (core_slashes (shared_told hears) plain_slash) window_bans e w.hooks.1 (beside_window w))
        (subst (λ r. AsPlain r) (ap (equivocation_handled (core_slashes (heard_shared hears).told plain_slash) window_bans e w.hooks.1) (same_start s.0.keeps)
        ∙ equivocation_carried (λ (x : Shared × P). x) [] (shared_told hears) (heard_shared hears).told (shared_heard hears) window_bans e w.hooks.1 (beside_window w))
        (handled_plain (core_slashes (heard_shared hears).told plain_slash) new.ground.ctx.params.signed_blocks_window new.hooks.second.kept w.hooks.1 s.0.keeps.signings last.hooks.second.kept (stakes_kept last.stakes) (shared_hold heard last) (ground_of last) e starts_shared
        (Ok done) told)))
      where
        AsPlain : Result (Bool × Window × World Stakes (Shared × P)) Over → Type 0
        AsPlain r = AsRuled r (Ok done) (λ due d. KeepsSignings new.ground.ctx.params.signed_blocks_window last.hooks.second.kept due.1 × (stakes_kept last.stakes ≡ due.2.mine) × shared_hold heard last due.2.hooks × (ground_of last ≡ due.2.view)) WantsMemory ExceedsAs

        by : (r : Result (Bool × Window × World Stakes (Shared × P)) Over) → AsPlain (carried_ok (core_with (λ (x : Shared × P). x) []) r) → HeardAs hears {A = ⊤} {D = HookFault} (r >>= λ x. Ok (with_window x.1 x.2)) (Ok tt) (heard (listener_of last))
        by (Ok x) k = k.2.1
        by (Err why) k = tt

-- ---- one item after another

module _ {A E P : Type 0} (heard : E → P) (f : A → Hearing P → Result (Hearing P) Over) (stands : List A → KeptState → State → Type 0) (items : List A) where
  -- of each state with what was heard first, the steps before this place lead to one with what is heard now
  abbrev pub EachHeard : ℕ → Modules E → Modules E → Type 0
  EachHeard place old new = (w : Hearing P) → Hears heard (stands items) old w → (u : Hearing P) × Hears heard (stands (drop place items)) new u × (each f (drop place items) u ≡ each f items w)

  pub one_each_heard : (place : ℕ) (x : A) (old new last : Modules E) → place < length items → x ≡ get_or items place x → EachHeard place old new
      → ((u : Hearing P) → Hears heard (stands (x ∷ drop (place + 1) items)) new u → HearsAfter heard (stands (drop (place + 1) items)) (f x u) last) → EachHeard (place + 1) old last
  one_each_heard place x old new last lt is so one = λ w s.
      let r = so w s in
      let here = next items place x lt is in
      let d = after_gives heard (stands (drop (place + 1) items)) last (f x r.0) (one r.0 (subst (λ l. Hears heard (stands l) new r.0) here r.1)) in
      (d.0, d.2, ap (λ (z : Result (Hearing P) Over). z >>= λ t. each f (drop (place + 1) items) t) (sym d.1) ∙ ap (λ (l : List A). each f l r.0) (sym here) ∙ r.2)

  pub all_each_heard : (place : ℕ) (old new : Modules E) → drop place items ≡ [] → EachHeard place old new → (w : Hearing P) → Hears heard (stands items) old w → HearsAfter heard (stands []) (each f items w) new
  all_each_heard place old new end so w s =
      let r = so w s in
      subst (λ q. HearsAfter heard (stands []) q new) (ap (λ (l : List A). each f l r.0) (sym end) ∙ r.2) (subst (λ l. Hears heard (stands l) new r.0) end r.1)

-- ---- parts of a block

module _ {E P : Type 0} (heard : E → P) (hears : P → Hook → View → P) where
  -- the beginning
  pub begin_hears : (b : Block) (m0 m1 m2 m3 : Modules E) (answer : Result ⊤ HookFault) → ((p : State) → AreBegun b.votes (kept_of m0) p → Leads (AreBegun b.votes) (allocation_step b.votes p) (kept_of m1) (Ok tt)) → listener_of m1 ≡ listener_of m0
      → ((w : Hearing P) → Hears heard (AreBegun b.votes) m1 w → HearsAfter heard (AreBegun []) (each (vote_heard hears) b.votes w) m2)
      → ((w : Hearing P) → Hears heard (AreBegun []) m2 w → OnOk answer (HearsAfter heard (AreBegun []) (each (evidence_heard hears) b.evidence w) m3))
      → (w : Hearing P) → Hears heard (HasBegun b) m0 w → OnOk answer (HearsAfter heard StandsWhole (beginning_heard hears b.votes b.evidence w) m3)
  begin_hears b m0 m1 m2 m3 (Ok a) one stays two three w s =
      after_both heard (AreBegun b.votes) StandsWhole m1 m3 (silently (allocation_step b.votes) w) (λ w1. each (vote_heard hears) b.votes w1 >>= λ w2. each (evidence_heard hears) b.evidence w2)
      (after_silence heard (AreBegun b.votes) m0 m1 (allocation_step b.votes) w WantsMemory ExceedsAs tt (one (unheard w) (opens b (kept_of m0) (unheard w) s.0)) stays s.1) (λ u h.
      after_both heard (AreBegun []) StandsWhole m2 m3 (each (vote_heard hears) b.votes u) (λ w2. each (evidence_heard hears) b.evidence w2) (two u h) (λ v k.
      after_weaker heard (AreBegun []) StandsWhole m3 (each (evidence_heard hears) b.evidence v) (begun_stands (kept_of m3)) (three v k)))
  begin_hears b m0 m1 m2 m3 (Err fault) one stays two three w s = tt

  -- the end
  pub end_hears : (m0 m1 m2 m3 m4 : Modules E) (answer : Result ⊤ HookFault) → ((w : Hearing P) → Hears heard StandsWhole m0 w → HearsAfter heard StandsWhole (set_heard hears w) m1)
      → ((w : Hearing P) → Hears heard StandsWhole m1 w → HearsAfter heard StandsWhole (maturing_heard hears w) m2) → ((p : State) → StandsWhole (kept_of m2) p → Leads StandsWhole (unbondings_step p) (kept_of m3) (Ok tt)) → listener_of m3 ≡ listener_of m2
      → ((p : State) → StandsWhole (kept_of m3) p → Leads StandsWhole (redelegations_step p) (kept_of m4) answer) → listener_of m4 ≡ listener_of m3
      → (w : Hearing P) → Hears heard StandsWhole m0 w → OnOk answer (HearsAfter heard StandsWhole (ending_heard hears w) m4)
  end_hears m0 m1 m2 m3 m4 (Ok a) one two three stays four stays2 w s =
      after_both heard StandsWhole StandsWhole m1 m4 (set_heard hears w) (λ w1. maturing_heard hears w1 >>= λ w2. silently unbondings_step w2 >>= λ w3. silently redelegations_step w3) (one w s) (λ u h.
      after_both heard StandsWhole StandsWhole m2 m4 (maturing_heard hears u) (λ w2. silently unbondings_step w2 >>= λ w3. silently redelegations_step w3) (two u h) (λ v k.
      after_both heard StandsWhole StandsWhole m3 m4 (silently unbondings_step v) (λ w3. silently redelegations_step w3) (after_silence heard {A = ⊤} StandsWhole m2 m3 unbondings_step v WantsMemory ExceedsAs tt (three (unheard v) k.0) stays k.1) (λ x l.
      after_silence heard StandsWhole m3 m4 redelegations_step x WantsMemory ExceedsAs a (four (unheard x) l.0) stays2 l.1)))
  end_hears m0 m1 m2 m3 m4 (Err fault) one two three stays four stays2 w s = tt

  -- all parts
  module _ (parted : P → ℕ → P) (ended : P → P) where
    pub parts_hear : (b : Block) (first begun told applied done last : Modules E) → ((w : Hearing P) → Hears heard (HasBegun b) first w → HearsAfter heard StandsWhole (beginning_heard hears b.votes b.evidence w) begun)
        → kept_of told ≡ cleared (kept_of begun) → heard (listener_of told) ≡ parted (heard (listener_of begun)) (length begun.ground.facts)
        → ((w : Hearing P) → Hears heard StandsWhole told w → Hears heard StandsWhole applied (txs_heard hears parted ended b.txs w)) → ((w : Hearing P) → Hears heard StandsWhole applied w → HearsAfter heard StandsWhole (ending_heard hears w) done)
        → kept_of last ≡ cleared (kept_of done) → heard (listener_of last) ≡ ended (heard (listener_of done)) → (w : Hearing P) → Hears heard (HasBegun b) first w → HearsAfter heard StandsWhole (parts_heard hears parted ended b w) last
    parts_hear b first begun told applied done last begins same count applies ends out seals w s =
        after_both heard StandsWhole StandsWhole begun last (beginning_heard hears b.votes b.evidence w)
        (λ u. ending_heard hears (txs_heard hears parted ended b.txs (part_heard hears parted ended u)) >>= λ v. Ok (hearing (ended (heard_in v)) (without_facts (unheard v)))) (begins w s) (λ u h.
        let left = txs_heard hears parted ended b.txs (part_heard hears parted ended u) in
        after_both heard StandsWhole StandsWhole done last (ending_heard hears left) (λ v. Ok (hearing (ended (heard_in v)) (without_facts (unheard v))))
        (ends left (applies (part_heard hears parted ended u) (part_hears heard hears parted ended begun told u (length begun.ground.facts) same count refl h))) (λ v k. (
          whole_same (cleared (kept_of done)) (kept_of last) (without_facts (unheard v)) out (whole_cleared (kept_of done) (unheard v) k.0),
          seals ∙ ap ended k.1,
        )))

    -- what stands whole within a block stands after it
    pub block_hears : (applied last : Modules E) (q : Result (Hearing P) Over) → kept_of last ≡ kept_of applied → heard (listener_of last) ≡ heard (listener_of applied) → HearsAfter heard StandsWhole q applied → HearsAfter heard StandsFor q last
    block_hears applied last (Ok u) same is h = (stands_same (kept_of applied) (kept_of last) (unheard u) same (stands_for (kept_of applied) (unheard u) h.0), is ∙ h.1)
    block_hears applied last (Err over) same is h = h
