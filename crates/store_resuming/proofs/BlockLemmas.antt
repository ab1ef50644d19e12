-- Like states give to each block what is alike: the same report and states that are so again, or the same fault.
use Rattle.std.proofs.Common.{◌≡◌, ◌∙◌, ℕ, suc, ◌+◌, ◌^◌, ◌<◌, ◌≤◌, Bool, true, false, List, [], ◌∷◌, ◌++◌, length, map, Option, Some, None, Result, Ok, Err, refl, sym, ap, subst, arith, All, Contains, IfOk, nat_le}
use Rattle.std.{specs.{Prelude.⊤, List.AllByRecursion}, proofs.lemmas.List.Elements.{All-head, All-tail}}
use Rattle.base_decimals.specs.declared.over.Over.{Over}
use Rattle.base_types.specs.declared.account.Account.TheVariants as account
use Rattle.base_types.specs.declared.account.Module.TheVariants as holder
use Rattle.base_coins.specs.Coins.{Money}
use Rattle.base_roles.specs.declared.{messages.{Evidence.Evidence, Vote.Vote}, params.Ctx.Ctx, refusal.Refusal.Refusal}
use Rattle.base_roles.specs.declared.refusal.Refusal.TheVariants.{FeeUnpaid}
use Rattle.base_roles.specs.{Flow.{◌>>=◌, ◌>>◌, each, stop_if, stopping}, Holdings.{coins_of, is_short}, Staked.Staked}
use Rattle.base_roles.specs.{World.{View, Told, World, sent}, declared.calls.Hook.Hook}
use Rattle.base_messages.specs.declared.{block.{Block.Block, Tx.Tx}, faults.BlockFault.BlockFault}
use Rattle.base_messages.specs.declared.{faults.BlockFault.TheVariants.RatioLimit, message.Msg.Msg}
use Rattle.base_messages.specs.declared.report.BlockReport.{BlockReport}
use Rattle.rule_modules.specs.{Allocation.{allocated, fees_allocated}, Amounts.over_facts}
use Rattle.rule_modules.specs.Chain.{State, Stakes, allocation_step, begin_block, beside_window, end_block, evidence_step, maturing_step, redelegations_step, set_step, unbondings_step, vote_step, with_window}
use Rattle.rule_modules.specs.Distribution.{Shared, distribution_told}
use Rattle.rule_modules.specs.Effects.{Ending, after_fee, effects_of, fee_paid, refused_at, stands_or_fee}
use Rattle.rule_modules.specs.{Evidence.{equivocation_handled, window_bans}, Laws.next_block}
use Rattle.rule_modules.specs.{Slashing.{Slashes, core_slashes, plain_slash}, Sound.IsSound}
use Rattle.rule_modules.specs.Window.{Signing, Window, signing_of, voted}
use Rattle.rule_machine.specs.{Blocks.block_fault, GenesisState.without_facts}
use Rattle.rule_machine.specs.Machine.{Run, Step, TxStep, TxSteps, block_checked, evidence_checked, going_on, outcome_of, run_of, step, stop_at, tx_applied, txs_applied, votes_checked}
use Rattle.rule_machine.specs.{Messages.effect_of, Promises.{MessageHasCoins, TxHasCoins}}
use Rattle.rule_machine.proofs.DueLemmas.{IsDue, is_due}
use Rattle.law_soundness.proofs.{Bonding.set_step_fits, Burns.total_in, Ending.{redelegations_fit, unbondings_fit}}
use Rattle.law_soundness.proofs.{Following.next_fits, Maturing.maturing_fits, Moves.fee_fits}
use Rattle.law_soundness.proofs.Points.{MessageLeft, StateFits, StateLeft, at_moment, from_fits, to_fits}
use Rattle.law_soundness.proofs.Running.{AllocatedLeft, AreDistinct, AreKnown, BegunLeft, CountBelow, HasBegun, HaveCoins, StepFits, allocated_left, begin_fits, begun_fits, block_fits, counts_on, done_fits, votes_are}
use Rattle.law_soundness.proofs.Steps.{lifted_if, on_then, weaker_if}
use Rattle.law_soundness.proofs.Transactions.{TxsFit, WholeFits, fits_on, message_fits, tx_fits, whole_without, without_facts_fits}
use Rattle.law_soundness.proofs.Voting.{VoteLeft, own_record, vote_fits}
use Rattle.chain_modules.proofs.SlashCarryLemmas.{core_with, equivocation_carried, voted_carried}
use Rattle.store_resuming.proofs.MessageLemmas.{LooseAlike, StatesAlike, maturing_alike, message_alike, over, over_hooks, set_alike, state_by, window_at}
use Rattle.store_resuming.proofs.SharedLemmas.{HooksAlike, SharedAlike, ThreeAlike, beside, distribution_tells, with_rewards}
use Rattle.store_resuming.proofs.SideLemmas.{AreAlike, Both, WorldsAlike, alike_then, each_alike, from_two, left, right, same_left, same_next_alike, same_right, same_then_alike, sides_alike, stopping_alike, then_alike, then_alike_if, tighter_alike, two}
use Rattle.store_resuming.proofs.WindowLemmas.{BesideAlike, WindowsAlike, chosen_alike, equivocation_beside, voted_beside}

-- the window of a context
abbrev window_in_ctx : Ctx → ℕ
window_in_ctx c = c.params.signed_blocks_window

tightened : (p x y : State) (window : ℕ) → window_at p ≡ window → x.view.ctx ≡ p.view.ctx → LooseAlike window x y → StatesAlike x y
tightened p x y window same e k = subst (λ n. LooseAlike n x y) (sym (ap window_in_ctx e ∙ same)) k

pub without_alike : (p q : State) → StatesAlike p q → StatesAlike (without_facts p) (without_facts q)
without_alike p q a = record { mine = a.mine; hooks = a.hooks; view = ap (over_facts (λ facts. [])) a.view }

-- ---- transactions

fee_alike : (payer : List ℕ) (fee : Money) (p q : State) → StatesAlike p q → AreAlike StatesAlike (fee_paid payer fee p) (fee_paid payer fee q)
fee_alike payer fee p q a =
    let short = stop_if (is_short p.view.bank (account.User payer) fee) FeeUnpaid in
    state_by (window_at p) p q a (λ (z : State). AreAlike StatesAlike (fee_paid payer fee p) (fee_paid payer fee z))
    (same_next_alike StatesAlike short short _ _ refl (record { mine = refl; hooks = over_hooks (window_at p) p q a; view = refl }))

abbrev EndsAlike : Ending × State → Ending × State → Type 0
EndsAlike a b = (a.0 ≡ b.0) × StatesAlike a.1 b.1

stands_alike : (paid other : State) → StatesAlike paid other → (r q : Result State (ℕ × Refusal)) → AreAlike StatesAlike r q → EndsAlike (stands_or_fee paid r) (stands_or_fee other q)
stands_alike paid other k (Ok a) (Ok b) h = (refl, h)
stands_alike paid other k (Ok a) (Err e) h = absurd h
stands_alike paid other k (Err d) (Ok b) h = absurd h
stands_alike paid other k (Err d) (Err e) h = ((λ i. refused_at (h i).0 (h i).1), k)

module _ (P : List ℕ → Type 0) (T : List ℕ → ℕ) where
  messages_alike : (c : Ctx) (place : ℕ) (ms : List Msg) (p q : State) → All MessageHasCoins ms → WholeFits P T c p → StatesAlike p q → AreAlike StatesAlike (effects_of place (map effect_of ms) p) (effects_of place (map effect_of ms) q)
  messages_alike c place [] p q coins h a = a
  messages_alike c place (m ∷ ms) p q coins h a =
      let one : MessageHasCoins m = All-head MessageHasCoins m ms coins in
      let at_place : Refusal → ℕ × Refusal = λ why. (place, why) in
      then_alike_if StatesAlike StatesAlike (MessageLeft P T p) (stopping at_place (effect_of m p)) (stopping at_place (effect_of m q)) _ _
      (stopping_alike StatesAlike at_place (effect_of m p) (effect_of m q) (message_alike P T m p q one a h.fits h.whole))
      (lifted_if at_place (effect_of m p) (MessageLeft P T p) (message_fits P T m p one h.fits h.whole))
      (λ x y k l. messages_alike c (place + 1) ms x y (All-tail MessageHasCoins m ms coins) (fits_on P T c p x h l) k)

  after_alike : (c : Ctx) (tx : Tx) (p q : State) → TxHasCoins tx → WholeFits P T c p → StatesAlike p q → (r s : Result State Refusal) → IfOk r (StateLeft P T p) → AreAlike StatesAlike r s
      → EndsAlike (after_fee (map effect_of tx.msgs) p r) (after_fee (map effect_of tx.msgs) q s)
  after_alike c tx p q coins h a (Ok paid) (Ok other) l k =
      stands_alike paid other k (effects_of 0 (map effect_of tx.msgs) paid) (effects_of 0 (map effect_of tx.msgs) other) (messages_alike c 0 tx.msgs paid other coins.messages (fits_on P T c p paid h (at_moment P T p paid l)) k)
  after_alike c tx p q coins h a (Ok paid) (Err e) l k = absurd k
  after_alike c tx p q coins h a (Err d) (Ok other) l k = absurd k
  after_alike c tx p q coins h a (Err d) (Err e) l k = (refl, a)

record TxAlike (a b : TxStep) : Type 0 where
  report : a.report ≡ b.report
  state : StatesAlike a.state b.state

record TxsAlike (a b : TxSteps) : Type 0 where
  reports : a.reports ≡ b.reports
  state : StatesAlike a.state b.state

module _ (P : List ℕ → Type 0) where
  tx_alike : (T : List ℕ → ℕ) (c : Ctx) (tx : Tx) (p q : State) → TxHasCoins tx → WholeFits P T c p → StatesAlike p q → TxAlike (tx_applied tx p) (tx_applied tx q)
  tx_alike T c tx p q coins h a =
      let w : State = without_facts p in
      let x : State = without_facts q in
      let b : StatesAlike w x = without_alike p q a in
      let there : List ℕ → ℕ = total_in w.view in
      let fits : WholeFits P there c w = whole_without P T c p h in
      let e : EndsAlike (after_fee (map effect_of tx.msgs) w (fee_paid tx.payer tx.fee w)) (after_fee (map effect_of tx.msgs) x (fee_paid tx.payer tx.fee x)) =
      after_alike P there c tx w x coins fits b (fee_paid tx.payer tx.fee w) (fee_paid tx.payer tx.fee x) (fee_fits P there tx.payer tx.fee coins.fee w fits.fits) (fee_alike tx.payer tx.fee w x b) in
      record { report = λ i. record { facts = (e.1.view i).facts; outcome = outcome_of (e.0 i) }; state = e.1 }

  txs_alike : (T : List ℕ → ℕ) (c : Ctx) (txs : List Tx) (p q : State) → All TxHasCoins txs → WholeFits P T c p → StatesAlike p q → TxsAlike (txs_applied txs p) (txs_applied txs q)
  txs_alike T c [] p q coins h a = record { reports = refl; state = a }
  txs_alike T c (tx ∷ txs) p q coins h a =
      let first : TxHasCoins tx = All-head TxHasCoins tx txs coins in
      let one : TxAlike (tx_applied tx p) (tx_applied tx q) = tx_alike T c tx p q first h a in
      let next : State = (tx_applied tx p).state in
      let rest : TxsAlike (txs_applied txs next) (txs_applied txs (tx_applied tx q).state) =
      txs_alike (total_in (without_facts p).view) c txs next (tx_applied tx q).state (All-tail TxHasCoins tx txs coins) (tx_fits P T c tx p first h) one.state in
      record { reports = λ i. one.report i ∷ rest.reports i; state = rest.state }

-- ---- votes and evidence

abbrev slashing : Slashes Stakes Shared
slashing = core_slashes distribution_told plain_slash

abbrev slashing_two : Slashes Stakes (Both SharedAlike)
slashing_two = core_slashes (two SharedAlike distribution_told distribution_tells) plain_slash

-- the same answer and records, beside like worlds
abbrev SameAlike : {A : Type 0} → A × Window × World Stakes Shared → A × Window × World Stakes Shared → Type 0
SameAlike x y = (x.0 ≡ y.0) × (x.1 ≡ y.1) × WorldsAlike SharedAlike x.2 y.2

voted_two : (t : Vote) (i : Window) (w u : World Stakes Shared) → WorldsAlike SharedAlike w u → AreAlike (SameAlike {A = ⊤}) (voted slashing t i w) (voted slashing t i u)
voted_two t i w u a =
    from_two SharedAlike (SameAlike {A = ⊤}) (voted slashing t i) (voted slashing_two t i) (λ k c. core_with (left SharedAlike) k c) (λ k c. core_with (right SharedAlike) k c)
    (λ k x. voted_carried (left SharedAlike) k (two SharedAlike distribution_told distribution_tells) distribution_told (same_left SharedAlike distribution_told distribution_tells k) t i x)
    (λ k x. voted_carried (right SharedAlike) k (two SharedAlike distribution_told distribution_tells) distribution_told (same_right SharedAlike distribution_told distribution_tells k) t i x)
    (λ k l c. (refl, refl, sides_alike SharedAlike k l c.2)) w u a

handled_two : (e : Evidence) (i : Window) (w u : World Stakes Shared) → WorldsAlike SharedAlike w u → AreAlike (SameAlike {A = Bool}) (equivocation_handled slashing window_bans e i w) (equivocation_handled slashing window_bans e i u)
handled_two e i w u a =
    from_two SharedAlike (SameAlike {A = Bool}) (equivocation_handled slashing window_bans e i) (equivocation_handled slashing_two window_bans e i) (λ k c. core_with (left SharedAlike) k c) (λ k c. core_with (right SharedAlike) k c)
    (λ k x. equivocation_carried (left SharedAlike) k (two SharedAlike distribution_told distribution_tells) distribution_told (same_left SharedAlike distribution_told distribution_tells k) window_bans e i x)
    (λ k x. equivocation_carried (right SharedAlike) k (two SharedAlike distribution_told distribution_tells) distribution_told (same_right SharedAlike distribution_told distribution_tells k) window_bans e i x)
    (λ k l c. (refl, refl, sides_alike SharedAlike k l c.2)) w u a

beside_alike : (window : ℕ) (p q : State) → LooseAlike window p q → WorldsAlike SharedAlike (beside_window p) (beside_window q)
beside_alike window p q a = record { mine = a.mine; hooks = a.hooks.0; view = a.view }

-- a step beside the window, first with other records and then of another world
through : {A : Type 0} (window : ℕ) (p q : State) (does : Window → World Stakes Shared → Result (A × Window × World Stakes Shared) Over)
    → AreAlike (BesideAlike window) (does p.hooks.1 (beside_window p)) (does q.hooks.1 (beside_window p))
    → AreAlike SameAlike (does q.hooks.1 (beside_window p)) (does q.hooks.1 (beside_window q))
    → AreAlike (LooseAlike window) (does p.hooks.1 (beside_window p) >>= λ x. Ok (with_window x.1 x.2)) (does q.hooks.1 (beside_window q) >>= λ x. Ok (with_window x.1 x.2))
through {A = A} window p q does h k =
    then_alike Together (LooseAlike window) (does p.hooks.1 (beside_window p)) (does q.hooks.1 (beside_window q)) _ _
    (alike_then (BesideAlike window) SameAlike Together (does p.hooks.1 (beside_window p)) (does q.hooks.1 (beside_window p)) (does q.hooks.1 (beside_window q)) both h k)
    (λ x y m. record { mine = m.2.mine; hooks = (m.2.hooks, m.1); view = m.2.view })
  where
    Together : A × Window × World Stakes Shared → A × Window × World Stakes Shared → Type 0
    Together x y = (x.0 ≡ y.0) × WindowsAlike window x.1 y.1 × WorldsAlike SharedAlike x.2 y.2

    both : (x y z : A × Window × World Stakes Shared) → BesideAlike window x y → SameAlike y z → Together x z
    both x y z m n = (m.0 ∙ n.0, subst (λ (i : Window). WindowsAlike window x.1 i) n.1 m.1, subst (λ (w : World Stakes Shared). WorldsAlike SharedAlike w z.2) (sym m.2) n.2)

vote_alike : (window : ℕ) (t : Vote) (p q : State) → window_at p ≡ window → LooseAlike window p q → AreAlike (LooseAlike window) (vote_step t p) (vote_step t q)
vote_alike window t p q same a =
    through window p q (λ i w. voted slashing t i w)
    (subst (λ n. AreAlike (BesideAlike n) (voted slashing t p.hooks.1 (beside_window p)) (voted slashing t q.hooks.1 (beside_window p))) same
    (voted_beside slashing t p.hooks.1 q.hooks.1 (beside_window p) (subst (λ n. WindowsAlike n p.hooks.1 q.hooks.1) (sym same) a.hooks.1)))
    (voted_two t q.hooks.1 (beside_window p) (beside_window q) (beside_alike window p q a))

evidence_alike : (window : ℕ) (e : Evidence) (p q : State) → LooseAlike window p q → AreAlike (LooseAlike window) (evidence_step e p) (evidence_step e q)
evidence_alike window e p q a =
    through window p q (λ i w. equivocation_handled slashing window_bans e i w)
    (equivocation_beside slashing window e p.hooks.1 q.hooks.1 (beside_window p) a.hooks.1)
    (handled_two e q.hooks.1 (beside_window p) (beside_window q) (beside_alike window p q a))

-- ---- the fees of a block

fees_alike : (s : Staked) (votes : List Vote) (d e : Shared) (v : View) → SharedAlike d e → AreAlike ThreeAlike (fees_allocated s votes d v) (fees_allocated s votes (with_rewards e.rewards d) v)
fees_alike s votes d e v a =
    let fees : Money = coins_of v.bank (account.Module holder.FeeCollector) in
    let v1 : View = sent (account.Module holder.FeeCollector) (account.Module holder.Distribution) fees v in
    let done = allocated s v.ctx.params fees votes d.purses v1.facts in
    chosen_alike ThreeAlike (nat_le v.ctx.height 1) _ _ _ _ (beside d e a, refl, refl)
    (same_then_alike ThreeAlike done done _ _ refl (λ z. (record { rewards = a.rewards; purses = refl; withdraw = refl }, refl, refl)))

allocation_alike : (window : ℕ) (votes : List Vote) (p q : State) → LooseAlike window p q → AreAlike (LooseAlike window) (allocation_step votes p) (allocation_step votes q)
allocation_alike window votes p q a =
    state_by window p q a (λ (z : State). AreAlike (LooseAlike window) (allocation_step votes p) (allocation_step votes z))
    (then_alike ThreeAlike (LooseAlike window) (fees_allocated p.mine.staked votes p.hooks.0 p.view) (fees_allocated p.mine.staked votes (over p q).hooks.0 p.view) _ _
    (fees_alike p.mine.staked votes p.hooks.0 q.hooks.0 p.view a.hooks.0) (λ x y k. record { mine = refl; hooks = (k.0, a.hooks.1); view = k.1 }))

-- ---- the end of a block

unbondings_alike : (window : ℕ) (p q : State) → LooseAlike window p q → AreAlike (LooseAlike window) (unbondings_step p) (unbondings_step q)
unbondings_alike window p q a = state_by window p q a (λ (z : State). AreAlike (LooseAlike window) (unbondings_step p) (unbondings_step z)) (record { mine = refl; hooks = over_hooks window p q a; view = refl })

redelegations_alike : (window : ℕ) (p q : State) → LooseAlike window p q → AreAlike (LooseAlike window) (redelegations_step p) (redelegations_step q)
redelegations_alike window p q a = state_by window p q a (λ (z : State). AreAlike (LooseAlike window) (redelegations_step p) (redelegations_step z)) (record { mine = refl; hooks = over_hooks window p q a; view = refl })

module _ (P : List ℕ → Type 0) (T : List ℕ → ℕ) where
  end_alike : (p q : State) → StatesAlike p q → StateFits P T p → AreAlike StatesAlike (end_block p) (end_block q)
  end_alike p q a h =
      let window : ℕ = window_at p in
      let Same : State → Type 0 = λ x. x.view.ctx ≡ p.view.ctx in
      tighter_alike (LooseAlike window) StatesAlike Same (end_block p) (end_block q) (λ x y k e. tightened p x y window refl e k)
      (on_then {B = State} (set_step p) (λ x. maturing_step x >>= λ y. unbondings_step y >>= λ z. redelegations_step z) (StateLeft P T p) Same (set_step_fits P T p h) (λ x kx.
      on_then {B = State} (maturing_step x) (λ y. unbondings_step y >>= λ z. redelegations_step z) (StateLeft P T x) Same (maturing_fits P T x kx.fits) (λ y ky.
      on_then {B = State} (unbondings_step y) (λ z. redelegations_step z) (λ z. StateFits P T z × (z.view.ctx ≡ y.view.ctx)) Same (unbondings_fit P T y ky.fits) (λ z kz.
      weaker_if (redelegations_step z) (λ u. StateFits P T u × (u.view.ctx ≡ z.view.ctx)) Same (redelegations_fit P T z kz.0) (λ u ku. ku.1 ∙ kz.1 ∙ ky.ctx ∙ kx.ctx)))))
      (then_alike (LooseAlike window) (LooseAlike window) (set_step p) (set_step q) _ _ (set_alike window p q a) (λ x x2 kx.
      then_alike (LooseAlike window) (LooseAlike window) (maturing_step x) (maturing_step x2) _ _ (maturing_alike window x x2 kx) (λ y y2 ky.
      then_alike (LooseAlike window) (LooseAlike window) (unbondings_step y) (unbondings_step y2) (λ z. redelegations_step z) (λ z. redelegations_step z) (unbondings_alike window y y2 ky) (λ z z2 kz. redelegations_alike window z z2 kz))))

  -- ---- the beginning of a block

  votes_alike : (window : ℕ) (ts : List Vote) (p q : State) → window_at p ≡ window → LooseAlike window p q → StateFits P T p → AreDistinct ts → CountBelow p ts → AreAlike (LooseAlike window) (each vote_step ts p) (each vote_step ts q)
  votes_alike window [] p q same a h d c = a
  votes_alike window (t ∷ ts) p q same a h d c =
      then_alike_if (LooseAlike window) (LooseAlike window) (VoteLeft P T t.cons p) (vote_step t p) (vote_step t q) (λ x. each vote_step ts x) (λ x. each vote_step ts x) (vote_alike window t p q same a) (vote_fits P T t p h c.0) (λ x y k l.
      votes_alike window ts x y (ap window_in_ctx l.ctx ∙ same) k l.fits d.1 (counts_on P T p x t ts l.ctx l.others d.0 c.1))

  same_counts : (w x : State) → x.view.ctx ≡ w.view.ctx → x.hooks.1 ≡ w.hooks.1 → (ts : List Vote) → CountBelow w ts → CountBelow x ts
  same_counts w x e f [] c = tt
  same_counts w x e f (t ∷ ts) c = ((λ s g. subst (λ (k : Ctx). length s.votes < k.height) (sym e) (c.0 s (ap (λ (i : Window). signing_of i t.cons) (sym f) ∙ g))), same_counts w x e f ts c.1)

  begin_alike : (votes : List Vote) (evidence : List Evidence) (p q : State) → StatesAlike p q → StateFits P T p → AreKnown p.mine.staked votes → AreDistinct votes → CountBelow p votes
      → AreAlike StatesAlike (begin_block votes evidence p) (begin_block votes evidence q)
  begin_alike votes evidence p q a h known distinct below =
      let window : ℕ = window_at p in
      tighter_alike (LooseAlike window) StatesAlike (BegunLeft P T p) (begin_block votes evidence p) (begin_block votes evidence q) (λ x y k l. tightened p x y window refl l.ctx k)
      (begin_fits P T votes evidence p h known distinct below)
      (then_alike_if (LooseAlike window) (LooseAlike window) (AllocatedLeft P T p) (allocation_step votes p) (allocation_step votes q) _ _ (allocation_alike window votes p q a) (allocated_left P T votes p h known) (λ x x2 kx l.
      then_alike (LooseAlike window) (LooseAlike window) (each vote_step votes x) (each vote_step votes x2) _ _
      (votes_alike window votes x x2 (ap window_in_ctx l.left.ctx) kx l.left.fits distinct (same_counts p x l.left.ctx l.window votes below)) (λ y y2 ky.
      each_alike (LooseAlike window) evidence_step (λ e s t k. evidence_alike window e s t k) evidence y y2 ky)))

-- ---- a block

first_done : (r next : Result ⊤ BlockFault) → (r >> next) ≡ Ok tt → r ≡ Ok tt
first_done (Ok t) next e = refl
first_done (Err fault) next e = absurd cc

next_done : (r next : Result ⊤ BlockFault) → (r >> next) ≡ Ok tt → next ≡ Ok tt
next_done (Ok t) next e = e
next_done (Err fault) next e = absurd cc

same_checked : (b : Block) (p q : State) → StatesAlike p q → block_checked b p ≡ block_checked b q
same_checked b p q a = λ i. block_checked b (record { mine = a.mine i; hooks = p.hooks; view = a.view i; log = p.log })

checked_alike : {C E : Type 0} (S : C → C → Type 0) (r q : Result ⊤ E) (f g : Result C E) → r ≡ q → (r ≡ Ok tt → AreAlike S f g) → AreAlike S (r >> f) (q >> g)
checked_alike {E = E} S r q f g e n = subst (λ (x : Result ⊤ E). AreAlike S (r >> f) (x >> g)) e (by r n)
  where
    by : (x : Result ⊤ E) → (x ≡ Ok tt → AreAlike S f g) → AreAlike S (x >> f) (x >> g)
    by (Ok t) m = m refl
    by (Err d) m = refl

-- the same report, and like states
pub record StepsAlike (a b : Step) : Type 0 where
  pub report : a.report ≡ b.report
  pub state : StatesAlike a.state b.state

next_alike : (height time : ℕ) (p q : State) → StatesAlike p q → StatesAlike (next_block height time p) (next_block height time q)
next_alike height time p q a = record { mine = a.mine; hooks = a.hooks; view = ap (λ (v : View). record v { ctx = record { height = height; time = time; params = v.ctx.params } }) a.view }

module _ (P : List ℕ → Type 0) (T : List ℕ → ℕ) (b : Block) (p : State) (fits : StateFits P T p) (checked : block_checked b p ≡ Ok tt) (room : p.view.ctx.height + 1 < 2 ^ 63) where
  abbrev due : IsDue b p
  due = is_due b p checked

  abbrev w1 : State
  w1 = without_facts (next_block b.height b.time p)

  abbrev there : List ℕ → ℕ
  there = total_in w1.view

  fits_next : StateFits P there w1
  fits_next =
      without_facts_fits P T (next_block b.height b.time p) (next_fits P T b.height b.time p fits (at_least b.height p.view.ctx.height due.height) (at_height b.height p.view.ctx.height due.height room) due.before_end)
    where
      at_least : (a n : ℕ) → a ≡ n + 1 → n ≤ a
      at_least a n e = omega (arith, e)

      at_height : (a n : ℕ) → a ≡ n + 1 → n + 1 < 2 ^ 63 → a < 2 ^ 63
      at_height a n e l = omega (arith, e, l)

  below : (ts : List Vote) → CountBelow w1 ts
  below [] = tt
  below (t ∷ ts) = ((λ s f. counted (length s.votes) b.height p.view.ctx.height (own_record p.view.ctx.height t.cons s p.hooks.1 fits.stake.window f).counted due.height), below ts)
    where
      counted : (n a height : ℕ) → n ≤ height → a ≡ height + 1 → n < a
      counted n a height l e = omega (arith, l, e)

  votes_known : AreKnown p.mine.staked b.votes × AreDistinct b.votes
  votes_known =
      let reduction : ℕ = p.view.ctx.params.power_reduction in
      let later = next_done (stop_at (block_fault p.view.ctx.height p.view.ctx.time b)) (votes_checked p.mine.staked reduction [] b.votes >> evidence_checked b reduction 0 b.evidence) checked in
      votes_are p.mine.staked reduction b.votes [] (first_done (votes_checked p.mine.staked reduction [] b.votes) (evidence_checked b reduction 0 b.evidence) later)

  begun_alike : (q : State) → StatesAlike p q → AreAlike StatesAlike (begin_block b.votes b.evidence w1) (begin_block b.votes b.evidence (without_facts (next_block b.height b.time q)))
  begun_alike q a =
      begin_alike P there b.votes b.evidence w1 (without_facts (next_block b.height b.time q)) (without_alike (next_block b.height b.time p) (next_block b.height b.time q) (next_alike b.height b.time p q a))
      fits_next votes_known.0 votes_known.1 (below b.votes)

  -- the parts behind the beginning
  abbrev parts : State → Result Step BlockFault
  parts begun = stopping RatioLimit (end_block (without_facts (txs_applied b.txs begun).state)) >>= λ ended. Ok (record {
    report = record { height = b.height; time = b.time; begun = begun.view.facts; txs = (txs_applied b.txs begun).reports; ended = ended.view.facts };
    state = without_facts ended;
  })

  parts_alike : All TxHasCoins b.txs → (begun other : State) → StatesAlike begun other → HasBegun P b p begun → AreAlike StepsAlike (parts begun) (parts other)
  parts_alike coins begun other k l =
      let done : TxSteps = txs_applied b.txs begun in
      let after : TxSteps = txs_applied b.txs other in
      let c : Ctx = (next_block b.height b.time p).view.ctx in
      let txs : TxsAlike done after = txs_alike P there c b.txs begun other coins l.fits k in
      let fit : TxsFit P c begun done = done_fits P b p begun coins l in
      let w2 : State = without_facts done.state in
      let x2 : State = without_facts after.state in
      let ends : AreAlike StatesAlike (end_block w2) (end_block x2) =
      end_alike P (total_in w2.view) w2 x2 (without_alike done.state after.state txs.state) (without_facts_fits P (total_in done.state.view) done.state fit.fits.fits) in
      then_alike StatesAlike StepsAlike (stopping RatioLimit (end_block w2)) (stopping RatioLimit (end_block x2)) _ _ (stopping_alike StatesAlike RatioLimit (end_block w2) (end_block x2) ends) (λ ended last m. record {
        report = λ i. record { height = b.height; time = b.time; begun = (k.view i).facts; txs = txs.reports i; ended = (m.view i).facts };
        state = without_alike ended last m;
      })

  rest_alike : (q : State) → StatesAlike p q → All TxHasCoins b.txs
      → AreAlike StepsAlike (stopping RatioLimit (begin_block b.votes b.evidence w1) >>= parts) (stopping RatioLimit (begin_block b.votes b.evidence (without_facts (next_block b.height b.time q))) >>= parts)
  rest_alike q a coins =
      let x1 : State = without_facts (next_block b.height b.time q) in
      then_alike_if StatesAlike StepsAlike (HasBegun P b p) (stopping RatioLimit (begin_block b.votes b.evidence w1)) (stopping RatioLimit (begin_block b.votes b.evidence x1)) parts parts
      (stopping_alike StatesAlike RatioLimit (begin_block b.votes b.evidence w1) (begin_block b.votes b.evidence x1) (begun_alike q a))
      (lifted_if RatioLimit (begin_block b.votes b.evidence w1) (HasBegun P b p) (begun_fits P b T p fits room checked)) (λ x y k l. parts_alike coins x y k l)

pub step_alike : (b : Block) (p q : State) → StatesAlike p q → All TxHasCoins b.txs → IsSound p → (block_checked b p ≡ Ok tt → p.view.ctx.height + 1 < 2 ^ 63) → AreAlike StepsAlike (step b p) (step b q)
step_alike b p q a coins s room =
    checked_alike StepsAlike (block_checked b p) (block_checked b q) _ _ (same_checked b p q a)
    (λ e. rest_alike (Contains s.few.some) (total_in p.view) b p (to_fits p s) e (room e) q a coins)

-- ---- runs

-- the same reports and the same fault, or none, and like states
pub record RunsAlike (a b : Run) : Type 0 where
  pub reports : a.reports ≡ b.reports
  pub fault : a.fault ≡ b.fault
  pub state : StatesAlike a.state b.state

-- a block leaves a sound state, one higher
pub step_kept : (b : Block) (w : State) → All TxHasCoins b.txs → IsSound w → w.view.ctx.height + 1 < 2 ^ 63 → IfOk (step b w) (λ s. IsSound s.state × (s.state.view.ctx.height ≡ w.view.ctx.height + 1))
step_kept b w coins s room =
    let P : List ℕ → Type 0 = Contains s.few.some in
    weaker_if (step b w) (StepFits P w) (λ u. IsSound u.state × (u.state.view.ctx.height ≡ w.view.ctx.height + 1)) (block_fits P b (total_in w.view) w coins (to_fits w s) room)
    (λ u k. (from_fits u.state s.few.some (total_in u.state.view) s.few.few k.fits, k.height))

pub run_alike : (blocks : List Block) (p q : State) → HaveCoins blocks → IsSound p → p.view.ctx.height + length blocks < 2 ^ 63 → StatesAlike p q → RunsAlike (run_of blocks p) (run_of blocks q)
run_alike [] p q coins s few a = record { reports = refl; fault = refl; state = a }
run_alike (b ∷ blocks) p q coins s few a =
    by (step b p) (step b q) (step_kept b p first s room) (step_alike b p q a first s (λ e. room))
    (λ x y sound height k. run_alike blocks x y (All-tail (λ (z : Block). All TxHasCoins z.txs) b blocks coins) sound (fewer (length blocks) x.view.ctx.height few height) k)
  where
    first : All TxHasCoins b.txs
    first = All-head (λ (z : Block). All TxHasCoins z.txs) b blocks coins

    room : p.view.ctx.height + 1 < 2 ^ 63
    room = less (length blocks) few
      where
        less : (n : ℕ) → p.view.ctx.height + suc n < 2 ^ 63 → p.view.ctx.height + 1 < 2 ^ 63
        less n l = omega (arith, l)

    fewer : (n x : ℕ) → p.view.ctx.height + suc n < 2 ^ 63 → x ≡ p.view.ctx.height + 1 → x + n < 2 ^ 63
    fewer n x l e = omega (arith, l, e)

    by : (r t : Result Step BlockFault) → IfOk r (λ u. IsSound u.state × (u.state.view.ctx.height ≡ p.view.ctx.height + 1)) → AreAlike StepsAlike r t
        → ((x y : State) → IsSound x → x.view.ctx.height ≡ p.view.ctx.height + 1 → StatesAlike x y → RunsAlike (run_of blocks x) (run_of blocks y))
        → RunsAlike (going_on p r (λ u. run_of blocks u)) (going_on q t (λ u. run_of blocks u))
    by (Ok u) (Ok v) k h rest = let later = rest u.state v.state k.0 k.1 h.state in record { reports = λ i. h.report i ∷ later.reports i; fault = later.fault; state = later.state }
    by (Ok u) (Err e) k h rest = absurd h
    by (Err d) (Ok v) k h rest = absurd h
    by (Err d) (Err e) k h rest = record { reports = refl; fault = λ i. Some (h i); state = a }
