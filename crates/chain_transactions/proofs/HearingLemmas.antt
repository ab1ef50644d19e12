-- What a listener hears of transactions.
use Rattle.std.proofs.Common.{◌≡◌, ◌∙◌, ℕ, ◌+◌, ◌<◌, List, [], drop, length, get_or, Some, Result, Ok, Err, sym, ap, subst}
use Rattle.base_messages.specs.declared.{message.Msg.Msg, block.Tx.Tx}
use Rattle.base_roles.specs.{declared.{refusal.Refusal.Refusal, calls.Hook.Hook}, Flow.{◌>>=◌}, World.View}
use Rattle.rule_machine.specs.GenesisState.{without_facts}
use Rattle.rule_machine.specs.Listening.{Hearing, heard_in, hearing, messages_heard, paid_heard, part_heard, stands_heard, tx_heard, txs_heard, unheard}
use Rattle.rule_modules.specs.Chain.{State}
use Rattle.chain_modules.specs.{declared.modules.Modules.Modules, Heard.{Hears, HearsAfter}}
use Rattle.chain_modules.{specs.Kept.{KeptState, StandsWhole, kept_of, listener_of}, proofs.ErasingLemmas.AreUnheard}
use Rattle.chain_modules.proofs.{HeardLemmas.hears_same, StandLemmas.{cleared, whole_cleared, whole_same}}
use Rattle.chain_transactions.{specs.Answers.MessagesEnd, proofs.MessageLemmas.next}

module _ {E P : Type 0} (heard : E → P) (hears : P → Hook → View → P) where
  -- ---- messages together

  -- messages of which none was refused
  pub accepted_hears : (applied left : Modules E) (w : Hearing P) (q : Result (Hearing P) Refusal) → HearsAfter heard StandsWhole q applied → kept_of left ≡ kept_of applied → heard (listener_of left) ≡ heard (listener_of applied)
      → Hears heard StandsWhole left (stands_heard hears w q)
  accepted_hears applied left w (Ok u) h same is = hears_same heard applied left u same is h
  accepted_hears applied left w (Err why) h same is = absurd h

  -- messages of which one was refused, once all is as before them
  pub refused_hears : (old left : Modules E) (w : Hearing P) (r : Result State (ℕ × Refusal)) (q : Result (Hearing P) Refusal) (stop : ℕ × Refusal) (k : KeptState) → AreUnheard hears r q → MessagesEnd r (Some stop) k
      → kept_of left ≡ kept_of old → heard (listener_of left) ≡ heard (listener_of old) → Hears heard StandsWhole old w → Hears heard StandsWhole left (stands_heard hears w q)
  refused_hears old left w r (Err why) stop k same ends kept is s = hears_same heard old left w kept is s
  refused_hears old left w (Ok due) (Ok u) stop k same ends kept is s = absurd ends
  refused_hears old left w (Err due) (Ok u) stop k same ends kept is s = absurd same

  -- ---- behind the fee

  -- one that is paid
  pub paid_hears : (msgs : List Msg) (m : Modules E) (w : Hearing P) (due : State) (r : Result State Refusal) → r ≡ Ok due
      → Hears heard StandsWhole m (stands_heard hears (hearing (heard_in w) due) (messages_heard hears msgs (hearing (heard_in w) due))) → Hears heard StandsWhole m (paid_heard hears msgs w (r >>= λ u. Ok (hearing (heard_in w) u)))
  paid_hears msgs m w due r e h = subst (λ x. Hears heard StandsWhole m (paid_heard hears msgs w (x >>= λ u. Ok (hearing (heard_in w) u)))) (sym e) h

  -- one that is not
  pub unpaid_hears : (msgs : List Msg) (old new : Modules E) (w : Hearing P) (why : Refusal) (r : Result State Refusal) → r ≡ Err why → kept_of new ≡ kept_of old → listener_of new ≡ listener_of old → Hears heard StandsWhole old w
      → Hears heard StandsWhole new (paid_heard hears msgs w (r >>= λ u. Ok (hearing (heard_in w) u)))
  unpaid_hears msgs old new w why r e same stays s =
      subst (λ x. Hears heard StandsWhole new (paid_heard hears msgs w (x >>= λ u. Ok (hearing (heard_in w) u)))) (sym e) (hears_same heard old new w same (ap heard stays) s)

  -- ---- a part of a block

  module _ (parted : P → ℕ → P) (ended : P → P) where
    -- the facts of a part are taken, and the listener hears how many they are
    pub part_hears : (after new : Modules E) (w : Hearing P) (n : ℕ) → kept_of new ≡ cleared (kept_of after) → heard (listener_of new) ≡ parted (heard (listener_of after)) n → n ≡ length after.ground.facts → Hears heard StandsWhole after w
        → Hears heard StandsWhole new (part_heard hears parted ended w)
    part_hears after new w n same is count s =
        let facts : after.ground.facts ≡ w.view.facts = sym (ap (λ (v : View). v.facts) s.0.keeps.view) in (
          whole_same (cleared (kept_of after)) (kept_of new) (without_facts (unheard w)) same (whole_cleared (kept_of after) (unheard w) s.0),
          is ∙ (λ i. parted (s.1 i) ((count ∙ ap length facts) i)),
        )

    -- of each state with what was heard first, the transactions before this place lead to one with what is heard now
    abbrev pub TxsHeardSoFar : List Tx → ℕ → Modules E → Modules E → Type 0
    TxsHeardSoFar txs place old new = (w : Hearing P) → Hears heard StandsWhole old w
        → (u : Hearing P) × Hears heard StandsWhole new u × (txs_heard hears parted ended (drop place txs) u ≡ txs_heard hears parted ended txs w)

    pub one_tx_heard : (txs : List Tx) (place : ℕ) (tx : Tx) (old new last : Modules E) → place < length txs → tx ≡ get_or txs place tx → TxsHeardSoFar txs place old new
        → ((u : Hearing P) → Hears heard StandsWhole new u → Hears heard StandsWhole last (tx_heard hears parted ended tx u)) → TxsHeardSoFar txs (place + 1) old last
    one_tx_heard txs place tx old new last lt is so one = λ w s.
        let r = so w s in (
          tx_heard hears parted ended tx r.0,
          one r.0 r.1,
          sym (ap (λ (l : List Tx). txs_heard hears parted ended l r.0) (next txs place tx lt is)) ∙ r.2,
        )

    pub all_txs_heard : (txs : List Tx) (place : ℕ) (old new : Modules E) → drop place txs ≡ [] → TxsHeardSoFar txs place old new → (w : Hearing P) → Hears heard StandsWhole old w → Hears heard StandsWhole new (txs_heard hears parted ended txs w)
    all_txs_heard txs place old new e so w s = let r = so w s in subst (Hears heard StandsWhole new) (sym (ap (λ (l : List Tx). txs_heard hears parted ended l r.0) e) ∙ r.2) r.1
