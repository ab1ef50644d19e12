-- What stands of a pair through the transactions of a block that a recorder hears.
use Rattle.std.proofs.Common.{◌≡◌, ◌∙◌, ℕ, ◌+◌, ◌^◌, ◌<◌, ◌≤◌, List, [], ◌∷◌, ◌++◌, append-nil, append_assoc, length, map, refl, sym, ap, subst, All, Contains, IfOk, Option, Result, Ok, Err}
use Rattle.std.proofs.lemmas.List.Elements.{All-head, All-tail}
use Rattle.base_messages.specs.declared.{block.Tx.Tx, message.Msg.Msg}
use Rattle.base_roles.specs.declared.{entities.Validator.Validator, facts.Fact.Fact, params.Ctx.Ctx}
use Rattle.base_roles.specs.{declared.refusal.Refusal.Refusal, Flow.{◌>>=◌}, Log.Log}
use Rattle.rule_machine.specs.GenesisState.{without_facts}
use Rattle.rule_machine.specs.Listening.{Hearing, effect_heard, heard_in, hearing, messages_heard, paid_heard, part_heard, silently, stands_heard, txs_heard, unheard}
use Rattle.rule_machine.specs.{Machine.{reported_as, tx_applied, txs_applied}, Messages.effect_of}
use Rattle.rule_machine.specs.Promises.{MessageHasCoins, TxHasCoins}
use Rattle.rule_modules.specs.Chain.{State}
use Rattle.rule_modules.specs.Effects.{after_fee, effects_of, fee_paid, stands_or_fee, transaction_applied}
use Rattle.rule_modules.proofs.GoingLemmas.{from_if, on_bind}
use Rattle.law_soundness.proofs.{Burns.total_in, Moves.fee_fits, Points.{MessageLeft, StateLeft, at_moment}}
use Rattle.law_soundness.proofs.Transactions.{WholeFits, fits_on, message_fits, tx_fits, whole_without}
use Rattle.law_rewards.{specs.States.AreReached, proofs.Together.messages_keep_reached}
use Rattle.law_runs.proofs.Running.{kept_at, message_kept, sound_at, tx_reached}
use Rattle.mod_recorder.specs.Notes.{Noted, ended, heard, parted}
use Rattle.mod_tracking.specs.{declared.tracker.Pair.Pair, Stating.told_in, Tracking.Tracked}
use Rattle.law_statements.{specs.Unheard.{IsSame, RecorderChangesNothing}, proofs.Deeds.Meets}
use Rattle.law_statements.proofs.{Effects.{effect_holds, fee_keeps}, Holding.{AreSmall, Holds, counted_small}}
use Rattle.law_statements.proofs.{Messages.HoldsHeard, Unhearing.effect_same}

module _ (p : Pair) (v : Option Validator) (t0 : Tracked) (n0 : ℕ) (base : Log) where
  -- behind the facts of earlier parts of the block, and those of this one
  abbrev pub Behind : List Fact → Hearing Noted → Type 0
  Behind earlier w = HoldsHeard p v t0 n0 base earlier w

  -- ---- a part of a block ends

  pub parted_holds : (earlier : List Fact) (w : Hearing Noted) → Behind earlier w → Behind (earlier ++ w.view.facts) (part_heard heard parted ended w)
  parted_holds earlier w h = record {
    before = λ s. (
        let t = fewer s in
        counted_small p v t0 n0 base earlier (heard_in w).before 0 w.view.facts (h.before t) t.1);
    meets = λ s. subst (λ (fs : List Fact). Meets p v t0 n0 base 0 (heard_in w).notes fs w.log) (sym (append-nil (earlier ++ w.view.facts))) (h.meets (fewer s));
  }
    where
      fewer : AreSmall p v t0 n0 base (earlier ++ w.view.facts) (parted (heard_in w) (length w.view.facts)) [] → AreSmall p v t0 n0 base earlier (heard_in w) w.view.facts
      fewer s = (s.0, subst (λ (fs : List Fact). length fs < 2 ^ 64) (append-nil (earlier ++ w.view.facts)) s.1)

  module _ (nothing : RecorderChangesNothing) (some : List (List ℕ)) (few : length some ≤ 1_000_000) where
    abbrev P : List ℕ → Type 0
    P = Contains some

    -- ---- messages

    messages_hold : (earlier : List Fact) (T : List ℕ → ℕ) (c : Ctx) (ms : List Msg) (w : Hearing Noted) → All MessageHasCoins ms → WholeFits P T c (unheard w) → AreReached (unheard w) → Behind earlier w
        → IfOk (messages_heard heard ms w) (Behind earlier)
    messages_hold earlier T c [] w a fits r h = h
    messages_hold earlier T c (m ∷ ms) w a fits r h =
        on_bind {B = Hearing Noted} (effect_heard heard m w) (λ u. messages_heard heard ms u) (Behind earlier) (λ u e.
        let coins : MessageHasCoins m = All-head MessageHasCoins m ms a in
        let sound = sound_at some few T (unheard w) fits.fits in
        let same : effect_of m (unheard w) ≡ Ok (unheard u) = effect_same nothing m w u e in
        let left : MessageLeft P T (unheard w) (unheard u) = from_if (MessageLeft P T (unheard w)) (effect_of m (unheard w)) (unheard u) same (message_fits P T m (unheard w) coins fits.fits fits.whole) in
        let reached : AreReached (unheard u) = from_if AreReached (effect_of m (unheard w)) (unheard u) same (kept_at (effect_of m (unheard w)) (unheard w) r (message_kept m (unheard w) coins sound)) in
        let holds : Behind earlier u = from_if (Behind earlier) (effect_heard heard m w) u e (effect_holds p v t0 n0 base earlier m w sound r h) in
        messages_hold earlier T c ms u (All-tail MessageHasCoins m ms a) (fits_on P T c (unheard w) (unheard u) fits left) reached holds)

    -- ---- a transaction

    -- what is left of one that a recorder hears, with its facts
    abbrev tried : Tx → Hearing Noted → Hearing Noted
    tried tx w = paid_heard heard tx.msgs w (silently (fee_paid tx.payer tx.fee) w)

    -- it is what the machine leaves, and the pair stands so
    record IsTried (earlier : List Fact) (tx : Tx) (x : State) (w : Hearing Noted) : Type 0 where
      same : (tx_applied tx x).state ≡ unheard (tried tx w)
      holds : Behind earlier (tried tx w)

    -- messages stand together, or the fee alone
    stands_so : (earlier : List Fact) (u : Hearing Noted) → Behind earlier u → (r : Result State (ℕ × Refusal)) (q : Result (Hearing Noted) Refusal) → IsSame unheard r q → IfOk q (Behind earlier)
        → ((stands_or_fee (unheard u) r).1 ≡ unheard (stands_heard heard u q)) × Behind earlier (stands_heard heard u q)
    stands_so earlier u h (Ok a) (Ok b) same k = (same, k)
    stands_so earlier u h (Ok a) (Err why) same k = absurd same
    stands_so earlier u h (Err stop) (Ok b) same k = absurd same
    stands_so earlier u h (Err stop) (Err why) same k = (refl, h)

    tx_tried : (earlier : List Fact) (T : List ℕ → ℕ) (c : Ctx) (tx : Tx) (x : State) (w : Hearing Noted) → without_facts x ≡ unheard w → TxHasCoins tx → WholeFits P T c x → AreReached x → Behind earlier w → IsTried earlier tx x w
    tx_tried earlier T c tx x w is a fits r h =
        let out = by (fee_paid tx.payer tx.fee (unheard w)) refl in
        record {
          same = ap (λ (y : State). (reported_as (transaction_applied tx.payer tx.fee (map effect_of tx.msgs) y)).state) is ∙ out.0;
          holds = out.1;
        }
      where
        T0 : List ℕ → ℕ
        T0 = total_in (without_facts x).view

        fits0 : WholeFits P T0 c (unheard w)
        fits0 = subst (WholeFits P T0 c) is (whole_without P T c x fits)

        bare : AreReached (without_facts x)
        bare = λ d u there. r d u there

        reached0 : AreReached (unheard w)
        reached0 = subst AreReached is bare

        by : (q : Result State Refusal) → fee_paid tx.payer tx.fee (unheard w) ≡ q
            → ((reported_as (after_fee (map effect_of tx.msgs) (unheard w) q)).state ≡ unheard (paid_heard heard tx.msgs w (q >>= λ u. Ok (hearing (heard_in w) u))))
            × Behind earlier (paid_heard heard tx.msgs w (q >>= λ u. Ok (hearing (heard_in w) u)))
        by (Ok paid) e =
            let u : Hearing Noted = hearing (heard_in w) paid in
            let left : StateLeft P T0 (unheard w) paid = from_if (StateLeft P T0 (unheard w)) (fee_paid tx.payer tx.fee (unheard w)) paid e (fee_fits P T0 tx.payer tx.fee a.fee (unheard w) fits0.fits) in
            let next : WholeFits P T0 c paid = fits_on P T0 c (unheard w) paid fits0 (at_moment P T0 (unheard w) paid left) in
            let reached : AreReached paid = from_if AreReached (fee_paid tx.payer tx.fee (unheard w)) paid e
            (kept_at (fee_paid tx.payer tx.fee (unheard w)) (unheard w) reached0 (messages_keep_reached.fees tx.payer tx.fee a.fee (unheard w) (sound_at some few T0 (unheard w) fits0.fits))) in
            let holds : Behind earlier u = from_if (λ (y : State). Holds p v t0 n0 base earlier 0 (heard_in w) y.view.facts y.log) (fee_paid tx.payer tx.fee (unheard w)) paid e
            (fee_keeps p v t0 n0 base earlier (heard_in w) (unheard w) h tx.payer tx.fee) in
            stands_so earlier u holds (effects_of 0 (map effect_of tx.msgs) paid) (messages_heard heard tx.msgs u) (nothing.messages tx.msgs u) (messages_hold earlier T0 c tx.msgs u a.messages next reached holds)
        by (Err why) e = (refl, h)

    -- ---- all transactions

    -- what they leave is what the machine leaves, and the pair stands so behind what their reports tell
    pub record AreTried (earlier : List Fact) (txs : List Tx) (x : State) (w : Hearing Noted) : Type 0 where
      pub same : without_facts (txs_applied txs x).state ≡ unheard (txs_heard heard parted ended txs w)
      pub holds : Behind (earlier ++ told_in (txs_applied txs x).reports) (txs_heard heard parted ended txs w)

    pub txs_tried : (earlier : List Fact) (T : List ℕ → ℕ) (c : Ctx) (txs : List Tx) (x : State) (w : Hearing Noted) → without_facts x ≡ unheard w → All TxHasCoins txs → WholeFits P T c x → AreReached x → Behind earlier w → AreTried earlier txs x w
    txs_tried earlier T c [] x w is a fits r h = record { same = is; holds = subst (λ (fs : List Fact). Behind fs w) (sym (append-nil earlier)) h }
    txs_tried earlier T c (tx ∷ txs) x w is a fits r h =
        let first : TxHasCoins tx = All-head TxHasCoins tx txs a in
        let one : IsTried earlier tx x w = tx_tried earlier T c tx x w is first fits r h in
        let y : State = (tx_applied tx x).state in
        let u : Hearing Noted = part_heard heard parted ended (tried tx w) in
        let told : (tried tx w).view.facts ≡ y.view.facts = ap (λ (z : State). z.view.facts) (sym one.same) in
        let here : Behind (earlier ++ y.view.facts) u = subst (λ (fs : List Fact). Behind (earlier ++ fs) u) told (parted_holds earlier (tried tx w) one.holds) in
        let rest : AreTried (earlier ++ y.view.facts) txs y u =
        txs_tried (earlier ++ y.view.facts) (total_in (without_facts x).view) c txs y u (ap without_facts one.same) (All-tail TxHasCoins tx txs a) (tx_fits P T c tx x first fits) (tx_reached some few T c tx x first fits r) here in
        record {
          same = rest.same;
          holds = subst (λ (fs : List Fact). Behind fs (txs_heard heard parted ended txs u)) (append_assoc earlier y.view.facts (told_in (txs_applied txs y).reports)) rest.holds;
        }
