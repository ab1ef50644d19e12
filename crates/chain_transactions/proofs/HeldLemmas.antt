-- The messages without hooks, and the fee: from what a module's call answers and leaves to what a message of the whole machine does.
use Rattle.std.proofs.Common.{◌≡◌, ◌∙◌, ℕ, Bool, true, false, List, [], ◌∷◌, Option, Some, None, Result, Ok, Err, sym, ap, subst, if◌then◌else◌}
use Rattle.std.specs.Prelude.{⊤}
use Rattle.base_types.specs.declared.account.Account.{Account}
use Rattle.base_types.specs.declared.account.Account.TheVariants as account
use Rattle.base_types.specs.declared.account.Module.TheVariants as holder
use Rattle.base_coins.specs.Coins.{Money, IsMoney}
use Rattle.base_roles.specs.declared.{entities.Validator.Validator, facts.Fact.Fact, faults.MessageFault.MessageFault}
use Rattle.base_roles.specs.declared.{messages.EditValidator.EditValidator, params.Ctx.Ctx, refusal.Refusal.Refusal}
use Rattle.base_roles.specs.declared.refusal.Refusal.TheVariants.{NonPositive, ModuleRecipient, InsufficientFunds, FeeUnpaid, NoValidator, NoDelegation, Overflow}
use Rattle.base_roles.specs.{Answers.{AsRuled, Sends, StopsForMemory, RefusesAs}, Holdings.{Holdings, is_short}}
use Rattle.base_roles.specs.{Log.Log, Staked.{Staked, delegation, validator_at}}
use Rattle.base_roles.specs.{Flow.{◌>>=◌, ◌>>◌, or_stop, stop_if, stopping}, World.{View, over_mine, over_view, sent}}
use Rattle.base_roles.specs.declared.faults.MessageFault.TheVariants as stop
use Rattle.rule_modules.specs.{Answers.AnswersHeld, Chain.{State, Stakes, shared_in, window_in, with_shared}}
use Rattle.rule_modules.specs.Distribution.{Shared, reward_renewed}
use Rattle.rule_modules.specs.Effects.{community_pool_spend, edit_validator, fee_paid, fund_community_pool, send, set_withdraw_address, unjail, withdraw_commission, withdraw_reward}
use Rattle.rule_modules.specs.{Validators.edited, Window.unjailed}
use Rattle.rule_modules.specs.Withdrawals.{commission_withdrawn, payee_set, pool_funded, pool_spent, reward_taken}
use Rattle.mod_bank.specs.Sending.{Transfers}
use Rattle.mod_staking.specs.Calls.{edited_over}
use Rattle.base_messages.specs.declared.message.Msg.TheVariants as msg
use Rattle.mod_signing.specs.Stands.{KeepsSignings}
use Rattle.mod_distribution.specs.{Calls.{CarriesOutOrRefuses, SetsOrRefuses}, Stands.KeepsShared}
use Rattle.chain_modules.specs.declared.modules.Modules.{Modules}
use Rattle.chain_modules.specs.Kept.{Keeps, StandsWhole, ground_of, kept_of, stakes_kept}
use Rattle.chain_transactions.{specs.Answers.{MessageEnds, delegation_asked}, proofs.EndLemmas.{dropped, message_ends}}

-- ---- a reward that is asked for

-- once a delegation stands, the message is its withdrawal
pub asked_then : (s : Staked) (who operator : List ℕ) (d : Shared) (v : View) (x : Validator × ℕ) → delegation_asked who operator s ≡ Ok x
    → reward_taken s who operator d v ≡ stopping Overflow (reward_renewed x.0 who x.1 d v)
asked_then s who operator d v x e = by (validator_at s operator) (delegation s who operator) e
  where
    one : (y z : Validator × ℕ) → ◌≡◌ {A = Result (Validator × ℕ) Refusal} (Ok y) (Ok z) → y ≡ z
    one y z q = cc

    by : (a : Option Validator) (b : Option ℕ) → ◌≡◌ {A = Result (Validator × ℕ) Refusal} (or_stop a NoValidator >>= λ val. or_stop b NoDelegation >>= λ shares. Ok (val, shares)) (Ok x)
        → (or_stop a NoValidator >>= λ val. or_stop b NoDelegation >>= λ shares. stopping Overflow (reward_renewed val who shares d v)) ≡ stopping Overflow (reward_renewed x.0 who x.1 d v)
    by (Some a) (Some b) q = ap (λ y. stopping Overflow (reward_renewed y.0 who y.1 d v)) (one (a, b) x q)
    by (Some a) None q = absurd cc
    by None b q = absurd cc

-- ---- messages over modules

module _ {E : Type 0} (old new : Modules E) (p : State) (s : StandsWhole (kept_of old) p) (ctx : new.ground.ctx ≡ old.ground.ctx) where
  -- the window's number stayed
  same_signings : new.hooks.second.kept ≡ old.hooks.second.kept → KeepsSignings new.ground.ctx.params.signed_blocks_window new.hooks.second.kept (window_in p)
  same_signings e =
      subst (λ n. KeepsSignings n new.hooks.second.kept (window_in p)) (ap (λ (c : Ctx). c.params.signed_blocks_window) (sym ctx))
      (subst (λ k. KeepsSignings old.ground.ctx.params.signed_blocks_window k (window_in p)) (sym e) s.keeps.signings)

  -- validators and delegations before it are the state's
  first_staked : old.stakes.staking.staked ≡ p.mine.staked
  first_staked = sym (ap (λ (c : Stakes). c.staked) s.keeps.stakes)

  -- ---- validators

  module _ (shared : new.hooks.first.first.kept ≡ old.hooks.first.first.kept) (signings : new.hooks.second.kept ≡ old.hooks.second.kept)
      (unbondings : new.stakes.unbondings.lists ≡ old.stakes.unbondings.lists) (redelegations : new.stakes.redelegations.lists ≡ old.stakes.redelegations.lists) where
    -- what is kept after a message that changes validators and the ground alone
    keeps_staked : (t : Staked) (v : View) → new.stakes.staking.staked ≡ t → ground_of new ≡ v → Keeps (kept_of new) (over_view (λ u. v) (over_mine (λ c. record c { staked = t }) p))
    keeps_staked t v e g = record {
      stakes = λ i. record {
        staked = sym e i;
        unbondings = (ap (λ (c : Stakes). c.unbondings) s.keeps.stakes ∙ sym unbondings) i;
        redelegations = (ap (λ (c : Stakes). c.redelegations) s.keeps.stakes ∙ sym redelegations) i;
      };
      shared = subst (λ k. KeepsShared k (shared_in p)) (sym shared) s.keeps.shared;
      signings = same_signings signings;
      view = sym g;
    }

    pub edit_ends : (m : EditValidator) (answer : Result ⊤ MessageFault) → AnswersHeld (edited_over m old.stakes.staking.staked (ground_of old)) new.stakes.staking.staked (ground_of new) answer
        → MessageEnds (edit_validator m p) (kept_of new) answer
    edit_ends m answer h =
        message_ends (msg.EditValidator m) (kept_of old) (kept_of new) p answer tt s
        (by (edited m p.view.ctx.time p.view.ctx.params.min_commission_rate p.mine.staked) answer
        (subst (λ v. AnswersHeld (edited_over m p.mine.staked v) new.stakes.staking.staked (ground_of new) answer) (sym s.keeps.view)
        (subst (λ c. AnswersHeld (edited_over m c (ground_of old)) new.stakes.staking.staked (ground_of new) answer) first_staked h)))
      where
        by : (r : Result Staked Refusal) (a : Result ⊤ MessageFault) → AnswersHeld (r >>= λ t. Ok (tt, t, p.view)) new.stakes.staking.staked (ground_of new) a
            → AsRuled (r >>= λ t. Ok (over_mine (λ c. record c { staked = t }) p)) a (λ due b. Keeps (kept_of new) due) StopsForMemory RefusesAs
        by (Ok t) (Ok x) h = keeps_staked t p.view h.1 h.2
        by (Ok t) (Err why) h = h
        by (Err due) (Ok x) h = absurd h
        by (Err due) (Err why) h = h

    pub unjail_ends : (operator : List ℕ) (answer : Result ⊤ MessageFault) → AnswersHeld (unjailed operator (window_in p) old.stakes.staking.staked (ground_of old)) new.stakes.staking.staked (ground_of new) answer
        → MessageEnds (unjail operator p) (kept_of new) answer
    unjail_ends operator answer h =
        message_ends (msg.Unjail (record { validator = operator })) (kept_of old) (kept_of new) p answer tt s
        (by (unjailed operator (window_in p) p.mine.staked p.view) answer
        (subst (λ v. AnswersHeld (unjailed operator (window_in p) p.mine.staked v) new.stakes.staking.staked (ground_of new) answer) (sym s.keeps.view)
        (subst (λ c. AnswersHeld (unjailed operator (window_in p) c (ground_of old)) new.stakes.staking.staked (ground_of new) answer) first_staked h)))
      where
        by : (r : Result (⊤ × Staked × View) Refusal) (a : Result ⊤ MessageFault) → AnswersHeld r new.stakes.staking.staked (ground_of new) a
            → AsRuled (r >>= λ d. Ok (over_view (λ u. d.2) (over_mine (λ c. record c { staked = d.1 }) p))) a (λ due b. Keeps (kept_of new) due) StopsForMemory RefusesAs
        by (Ok due) (Ok x) h = keeps_staked due.1 due.2 h.1 h.2
        by (Ok due) (Err why) h = h
        by (Err due) (Ok x) h = absurd h
        by (Err due) (Err why) h = h

  -- ---- distribution

  module _ (stakes : stakes_kept new.stakes ≡ stakes_kept old.stakes) (signings : new.hooks.second.kept ≡ old.hooks.second.kept) where
    -- what is kept after a message that changes distribution's records and the ground alone
    keeps_distributed : (d : Shared) (v : View) (l : Log) → KeepsShared new.hooks.first.first.kept d → ground_of new ≡ v → Keeps (kept_of new) (with_shared d v l p)
    keeps_distributed d v l h g = record { stakes = s.keeps.stakes ∙ sym stakes; shared = h; signings = same_signings signings; view = sym g }

    -- a payment that is logged
    paid_ends : {A : Type 0} (r : Result (A × Shared × View × Log) Refusal) (answer : Result A MessageFault) → CarriesOutOrRefuses r new.hooks.first.first.kept (ground_of new) answer
        → AsRuled (r >>= λ x. Ok (with_shared x.1 x.2 x.3 p)) (dropped answer) (λ due b. Keeps (kept_of new) due) StopsForMemory RefusesAs
    paid_ends (Ok due) (Ok a) h = keeps_distributed due.1 due.2 due.3 h.1 h.2
    paid_ends (Ok due) (Err why) h = h
    paid_ends (Err due) (Ok a) h = absurd h
    paid_ends (Err due) (Err why) h = h

    pub commission_ends : (operator : List ℕ) (answer : Result Money MessageFault) → CarriesOutOrRefuses (commission_withdrawn operator (shared_in p) (ground_of old)) new.hooks.first.first.kept (ground_of new) answer
        → MessageEnds (withdraw_commission operator p) (kept_of new) (dropped answer)
    commission_ends operator answer h =
        message_ends (msg.WithdrawCommission (record { validator = operator })) (kept_of old) (kept_of new) p (dropped answer) tt s
        (paid_ends (commission_withdrawn operator (shared_in p) p.view) answer
        (subst (λ v. CarriesOutOrRefuses (commission_withdrawn operator (shared_in p) v) new.hooks.first.first.kept (ground_of new) answer) (sym s.keeps.view) h))

    pub reward_ends : (who operator : List ℕ) (x : Validator × ℕ) (answer : Result Money MessageFault) → delegation_asked who operator old.stakes.staking.staked ≡ Ok x
        → CarriesOutOrRefuses (stopping Overflow (reward_renewed x.0 who x.1 (shared_in p) (ground_of old))) new.hooks.first.first.kept (ground_of new) answer
        → MessageEnds (withdraw_reward who operator p) (kept_of new) (dropped answer)
    reward_ends who operator x answer e h =
        message_ends (msg.WithdrawReward (record { delegator = who; validator = operator })) (kept_of old) (kept_of new) p (dropped answer) tt s
        (paid_ends (reward_taken p.mine.staked who operator (shared_in p) p.view) answer
        (subst (λ r. CarriesOutOrRefuses r new.hooks.first.first.kept (ground_of new) answer)
        (sym (asked_then p.mine.staked who operator (shared_in p) p.view x (subst (λ c. delegation_asked who operator c ≡ Ok x) first_staked e)))
        (subst (λ v. CarriesOutOrRefuses (stopping Overflow (reward_renewed x.0 who x.1 (shared_in p) v)) new.hooks.first.first.kept (ground_of new) answer) (sym s.keeps.view) h)))

    pub payee_ends : (who : List ℕ) (to : Account) (answer : Result ⊤ MessageFault) → ground_of new ≡ ground_of old → SetsOrRefuses (payee_set who to old.ground.ctx.params (shared_in p)) new.hooks.first.first.kept answer
        → MessageEnds (set_withdraw_address who to p) (kept_of new) answer
    payee_ends who to answer same h =
        message_ends (msg.SetWithdrawAddress (record { delegator = who; withdraw = to })) (kept_of old) (kept_of new) p answer tt s
        (by (payee_set who to p.view.ctx.params (shared_in p)) answer
        (subst (λ (v : View). SetsOrRefuses (payee_set who to v.ctx.params (shared_in p)) new.hooks.first.first.kept answer) (sym s.keeps.view) h))
      where
        by : (r : Result Shared Refusal) (a : Result ⊤ MessageFault) → SetsOrRefuses r new.hooks.first.first.kept a
            → AsRuled (r >>= λ d. Ok (with_shared d p.view [] p)) a (λ due b. Keeps (kept_of new) due) StopsForMemory RefusesAs
        by (Ok d) (Ok x) h = keeps_distributed d p.view [] h (same ∙ sym s.keeps.view)
        by (Ok d) (Err why) h = h
        by (Err due) (Ok x) h = absurd h
        by (Err due) (Err why) h = h

    -- coins into the pool, and out of it
    pooled_ends : (r : Result (⊤ × Shared × View) Refusal) (answer : Result ⊤ MessageFault) → AsRuled r answer (λ due a. KeepsShared new.hooks.first.first.kept due.1 × (ground_of new ≡ due.2)) StopsForMemory RefusesAs
        → AsRuled (r >>= λ x. Ok (with_shared x.1 x.2 [] p)) answer (λ due b. Keeps (kept_of new) due) StopsForMemory RefusesAs
    pooled_ends (Ok due) (Ok a) h = keeps_distributed due.1 due.2 [] h.0 h.1
    pooled_ends (Ok due) (Err why) h = h
    pooled_ends (Err due) (Ok a) h = absurd h
    pooled_ends (Err due) (Err why) h = h

    pub fund_ends : (who : List ℕ) (coins : Money) (answer : Result ⊤ MessageFault) → IsMoney coins
        → AsRuled (pool_funded who coins (shared_in p) (ground_of old)) answer (λ due a. KeepsShared new.hooks.first.first.kept due.1 × (ground_of new ≡ due.2)) StopsForMemory RefusesAs
        → MessageEnds (fund_community_pool who coins p) (kept_of new) answer
    fund_ends who coins answer money h =
        message_ends (msg.FundCommunityPool (record { depositor = who; coins = coins })) (kept_of old) (kept_of new) p answer money s
        (pooled_ends (pool_funded who coins (shared_in p) p.view) answer
        (subst (λ v. AsRuled (pool_funded who coins (shared_in p) v) answer (λ due a. KeepsShared new.hooks.first.first.kept due.1 × (ground_of new ≡ due.2)) StopsForMemory RefusesAs) (sym s.keeps.view) h))

    pub spend_ends : (authority : List ℕ) (to : Account) (coins : Money) (answer : Result ⊤ MessageFault) → IsMoney coins
        → AsRuled (pool_spent authority to coins (shared_in p) (ground_of old)) answer (λ due a. KeepsShared new.hooks.first.first.kept due.1 × (ground_of new ≡ due.2)) StopsForMemory RefusesAs
        → MessageEnds (community_pool_spend authority to coins p) (kept_of new) answer
    spend_ends authority to coins answer money h =
        message_ends (msg.CommunityPoolSpend (record { authority = authority; recipient = to; coins = coins })) (kept_of old) (kept_of new) p answer money s
        (pooled_ends (pool_spent authority to coins (shared_in p) p.view) answer
        (subst (λ v. AsRuled (pool_spent authority to coins (shared_in p) v) answer (λ due a. KeepsShared new.hooks.first.first.kept due.1 × (ground_of new ≡ due.2)) StopsForMemory RefusesAs) (sym s.keeps.view) h))

  -- ---- sends

  module _ (stakes : stakes_kept new.stakes ≡ stakes_kept old.stakes) (shared : new.hooks.first.first.kept ≡ old.hooks.first.first.kept) (signings : new.hooks.second.kept ≡ old.hooks.second.kept) where
    -- what is kept after coins moved
    pub keeps_grounded : (v : View) → ground_of new ≡ v → Keeps (kept_of new) (over_view (λ u. v) p)
    keeps_grounded v g = record { stakes = s.keeps.stakes ∙ sym stakes; shared = subst (λ k. KeepsShared k (shared_in p)) (sym shared) s.keeps.shared; signings = same_signings signings; view = sym g }

    -- the ground with other holdings and facts
    abbrev left : Holdings → List Fact → View
    left h facts = record { bank = h; ctx = p.view.ctx; facts = facts }

    pub send_ends : (from : List ℕ) (to : Account) (coins : Money) (answer : Result ⊤ MessageFault) → IsMoney coins
        → Transfers from to coins old.ground.bank.holdings old.ground.facts new.ground.bank.holdings new.ground.facts answer → MessageEnds (send from to coins p) (kept_of new) answer
    send_ends from to coins answer money h =
        message_ends (msg.Send (record { from = from; to = to; coins = coins })) (kept_of old) (kept_of new) p answer money s
        (moves_so from to coins answer (subst (λ (v : View). Transfers from to coins v.bank v.facts new.ground.bank.holdings new.ground.facts answer) (sym s.keeps.view) h))
      where
        now : (h : Holdings) (facts : List Fact) → new.ground.bank.holdings ≡ h → new.ground.facts ≡ facts → ground_of new ≡ left h facts
        now h facts a b = λ i. record { bank = a i; ctx = (ctx ∙ sym (ap (λ (v : View). v.ctx) s.keeps.view)) i; facts = b i }

        moves : List ℕ → Account → Money → View
        moves from to coins = sent (account.User from) to coins p.view

        -- by whether the sender is short
        told : Bool → List ℕ → List ℕ → Money → Result ⊤ MessageFault → Type 0
        told b from u coins (Ok x) = ((if b then Some InsufficientFunds else None) ≡ None) × (new.ground.bank.holdings ≡ (moves from (account.User u) coins).bank) × (new.ground.facts ≡ (moves from (account.User u) coins).facts)
        told b from u coins (Err (stop.Refused why)) = ((if b then Some InsufficientFunds else None) ≡ Some why) × (new.ground.bank.holdings ≡ p.view.bank) × (new.ground.facts ≡ p.view.facts)
        told b from u coins (Err stop.NoMemory) = (new.ground.bank.holdings ≡ p.view.bank) × (new.ground.facts ≡ p.view.facts)

        answered : (from u : List ℕ) (coins : Money) (b : Bool) (a : Result ⊤ MessageFault) → told b from u coins a
            → AsRuled ((stop_if b InsufficientFunds >> Ok (moves from (account.User u) coins)) >>= λ v. Ok (over_view (λ w. v) p)) a (λ due x. Keeps (kept_of new) due) StopsForMemory RefusesAs
        answered from u coins true (Ok x) t = absurd cc
        answered from u coins true (Err (stop.Refused why)) t = let e : why ≡ InsufficientFunds = cc in e
        answered from u coins true (Err stop.NoMemory) t = tt
        answered from u coins false (Ok x) t = keeps_grounded (moves from (account.User u) coins) (now (moves from (account.User u) coins).bank (moves from (account.User u) coins).facts t.1 t.2)
        answered from u coins false (Err (stop.Refused why)) t = absurd cc
        answered from u coins false (Err stop.NoMemory) t = tt

        as_told : (from u : List ℕ) (d : List ℕ × ℕ) (ds : Money) (a : Result ⊤ MessageFault) → Transfers from (account.User u) (d ∷ ds) p.view.bank p.view.facts new.ground.bank.holdings new.ground.facts a
            → told (is_short p.view.bank (account.User from) (d ∷ ds)) from u (d ∷ ds) a
        as_told from u d ds (Ok x) t = t
        as_told from u d ds (Err (stop.Refused why)) t = t
        as_told from u d ds (Err stop.NoMemory) t = t

        moves_so : (from : List ℕ) (to : Account) (coins : Money) (a : Result ⊤ MessageFault) → Transfers from to coins p.view.bank p.view.facts new.ground.bank.holdings new.ground.facts a
            → AsRuled (send from to coins p) a (λ due x. Keeps (kept_of new) due) StopsForMemory RefusesAs
        moves_so from to [] (Ok x) t = absurd cc
        moves_so from to [] (Err (stop.Refused why)) t = let e : why ≡ NonPositive = cc in e
        moves_so from to [] (Err stop.NoMemory) t = tt
        moves_so from (account.Module m) (d ∷ ds) (Ok x) t = absurd cc
        moves_so from (account.Module m) (d ∷ ds) (Err (stop.Refused why)) t = let e : why ≡ ModuleRecipient = cc in e
        moves_so from (account.Module m) (d ∷ ds) (Err stop.NoMemory) t = tt
        moves_so from (account.User u) (d ∷ ds) a t = answered from u (d ∷ ds) (is_short p.view.bank (account.User from) (d ∷ ds)) a (as_told from u d ds a t)

    -- A fee that was paid: what is kept represents what is due; that it is sound is a law (`fees_keep_soundness`).
    pub fee_sent : (payer : List ℕ) (fee : Money) → Sends (account.User payer) (account.Module holder.FeeCollector) fee old.ground.bank.holdings old.ground.facts new.ground.bank.holdings new.ground.facts (Ok tt)
        → (due : State) × (fee_paid payer fee p ≡ Ok due) × Keeps (kept_of new) due
    fee_sent payer fee e =
        let pays : View → View = sent (account.User payer) (account.Module holder.FeeCollector) fee in (
          over_view pays p,
          ap (λ b. stop_if b FeeUnpaid >> Ok (over_view pays p)) (ap (λ (u : View). is_short u.bank (account.User payer) fee) s.keeps.view ∙ e.0),
          keeps_grounded (pays p.view) ((λ i. record { bank = e.1 i; ctx = ctx i; facts = e.2 i }) ∙ sym (ap pays s.keeps.view)),
        )
