-- What each message's call tells, all together: how the message ends, that modules are steady behind it, and that it can be taken back.
use Rattle.std.proofs.Common.{◌≡◌, ℕ, List, Result, Ok, ap, OnOk}
use Rattle.std.specs.Prelude.{⊤}
use Rattle.base_types.specs.declared.account.Account.{Account}
use Rattle.base_coins.specs.{declared.coin.Coin.Coin, Coins.{Money, IsMoney}}
use Rattle.base_roles.specs.declared.{entities.Validator.Validator, faults.MessageFault.MessageFault}
use Rattle.base_roles.specs.declared.messages.{CreateValidator.CreateValidator, EditValidator.EditValidator}
use Rattle.base_roles.specs.{declared.refusal.Refusal.TheVariants.Overflow, Answers.AnswersAs, Ground.CanBeUndone}
use Rattle.base_roles.specs.Flow.{stopping}
use Rattle.rule_modules.specs.{Answers.AnswersHeld, Chain.{State, shared_in, window_in}, Delegating.delegated_by}
use Rattle.rule_modules.specs.Distribution.{Shared, reward_renewed}
use Rattle.rule_modules.specs.Effects.{Effect, create_validator, delegate, undelegate, begin_redelegate, cancel_unbonding, edit_validator, unjail, send, withdraw_commission, withdraw_reward, set_withdraw_address, fund_community_pool, community_pool_spend}
use Rattle.rule_modules.specs.{Redelegations.redelegated, Unbondings.{cancelled, undelegated}, Validators.created}
use Rattle.rule_modules.specs.Window.{Window, unjailed}
use Rattle.rule_modules.specs.Withdrawals.{commission_withdrawn, payee_set, pool_funded, pool_spent}
use Rattle.mod_bank.specs.Booked as bank
use Rattle.mod_bank.specs.{Booked.Booked, Sending.Transfers}
use Rattle.mod_staking.specs.{Calls.{edited_over, over}, Scenes.{GoesOn, RegisterGoesOn}}
use Rattle.mod_staking.specs.Registered as book
use Rattle.mod_entries.specs.Answers.{AnswersBoth, EntriesGoOn}
use Rattle.mod_entries.specs.Kept as entries
use Rattle.mod_signing.specs.Stands.{Signings, KeepsSignings}
use Rattle.mod_distribution.specs.{Calls.{CarriesOutOrRefuses, PoolsOrRefuses, SetsOrRefuses}, Kept.SharedGoesOn}
use Rattle.mod_distribution.specs.Stands.{KeepsShared}
use Rattle.chain_modules.specs.declared.modules.Modules.{Modules}
use Rattle.chain_modules.specs.Kept.{StandsWhole, AreSteady, ground_of, hooks_hold, hooks_tell, kept_of, stakes_kept}
use Rattle.chain_modules.{specs.Marks.GoOn, proofs.HookLemmas.held_as}
use Rattle.chain_transactions.specs.Answers.{MessageEnds, EndsWell, delegation_asked}
use Rattle.chain_transactions.proofs.EndLemmas.{cancel_ends, create_ends, delegate_ends, dropped, held_first, redelegate_ends, steady_after, undelegate_ends}
use Rattle.chain_transactions.proofs.GoLemmas.{all_on, hook_marks, hooked_on, hooks_behind, redelegating_on, register_on, shared_on, unbonding_on}
use Rattle.chain_transactions.proofs.HeldLemmas.{commission_ends, edit_ends, fund_ends, payee_ends, reward_ends, send_ends, spend_ends, unjail_ends}

-- a message ends well where it ends as it should, and modules go on
ends_well : {E : Type 0} (f : Effect) (old new : Modules E) (answer : Result ⊤ MessageFault) → AreSteady old → GoOn old new → ((p : State) → StandsWhole (kept_of old) p → MessageEnds (f p) (kept_of new) answer) → EndsWell f old new answer
ends_well f old new answer s on ends = record { ends = ends; steady = steady_after f old new answer s on ends; go_on = on }

module _ {E M : Type 0} (marks : E → M) (old new : Modules E) (steady : AreSteady old) where
  -- the number of the window, and what hooks hold of a state
  abbrev held : State → Shared × Signings
  held p = held_as old.ground.ctx.params.signed_blocks_window p.hooks

  module _ {most_steps : Booked → ℕ} (u : new.stakes.unbondings ≡ old.stakes.unbondings) (r : new.stakes.redelegations ≡ old.stakes.redelegations) where
    pub create_well : (m : CreateValidator) (answer : Result ⊤ MessageFault)
        → ((h : Shared × Signings) → hooks_hold old.hooks h → AnswersAs (created hooks_tell.told m (over old.stakes.staking.staked h (ground_of old))) new.stakes.staking.staked (hooks_hold new.hooks) (ground_of new) answer)
        → GoesOn bank.behind most_steps (hook_marks marks) old.ground new.ground old.hooks new.hooks old.stakes.staking new.stakes.staking answer → EndsWell (create_validator m) old new answer
    create_well m answer told goes =
        let on : GoOn old new = hooked_on marks most_steps old new answer goes u r in
        ends_well (create_validator m) old new answer steady on (λ p s. create_ends old new p s on.ctx m answer (ap (λ x. x.lists) u) (ap (λ x. x.lists) r) (told (held p) (held_first old new p s on.ctx)))

    pub delegate_well : (who operator : List ℕ) (coin : Coin) (answer : Result ℕ MessageFault)
        → ((h : Shared × Signings) → hooks_hold old.hooks h → AnswersAs (delegated_by hooks_tell.told who operator coin (over old.stakes.staking.staked h (ground_of old))) new.stakes.staking.staked (hooks_hold new.hooks) (ground_of new) answer)
        → GoesOn bank.behind most_steps (hook_marks marks) old.ground new.ground old.hooks new.hooks old.stakes.staking new.stakes.staking answer → EndsWell (delegate who operator coin) old new (dropped answer)
    delegate_well who operator coin answer told goes =
        let on : GoOn old new = hooked_on marks most_steps old new answer goes u r in
        ends_well (delegate who operator coin) old new (dropped answer) steady on
        (λ p s. delegate_ends old new p s on.ctx who operator coin answer (ap (λ x. x.lists) u) (ap (λ x. x.lists) r) (told (held p) (held_first old new p s on.ctx)))

  module _ {most_steps : Booked → ℕ} where
    pub undelegate_well : (who operator : List ℕ) (coin : Coin) (answer : Result ℕ MessageFault) → new.stakes.redelegations ≡ old.stakes.redelegations
        → ((h : Shared × Signings) → hooks_hold old.hooks h → AnswersBoth (undelegated hooks_tell.told who operator coin old.stakes.unbondings.lists (over old.stakes.staking.staked h (ground_of old)))
        new.stakes.unbondings.lists new.stakes.staking.staked (hooks_hold new.hooks) (ground_of new) answer)
        → GoesOn bank.behind most_steps (hook_marks marks) old.ground new.ground old.hooks new.hooks old.stakes.staking new.stakes.staking answer → EntriesGoOn old.stakes.unbondings new.stakes.unbondings answer
        → EndsWell (undelegate who operator coin) old new (dropped answer)
    undelegate_well who operator coin answer r told goes u =
        let on : GoOn old new = unbonding_on marks most_steps old new answer goes u r in
        ends_well (undelegate who operator coin) old new (dropped answer) steady on (λ p s. undelegate_ends old new p s on.ctx who operator coin answer (ap (λ x. x.lists) r) (told (held p) (held_first old new p s on.ctx)))

    pub cancel_well : (who operator : List ℕ) (coin : Coin) (height : ℕ) (answer : Result ⊤ MessageFault) → new.stakes.redelegations ≡ old.stakes.redelegations
        → ((h : Shared × Signings) → hooks_hold old.hooks h → AnswersBoth (cancelled hooks_tell.told who operator coin height old.stakes.unbondings.lists (over old.stakes.staking.staked h (ground_of old)))
        new.stakes.unbondings.lists new.stakes.staking.staked (hooks_hold new.hooks) (ground_of new) answer)
        → GoesOn bank.behind most_steps (hook_marks marks) old.ground new.ground old.hooks new.hooks old.stakes.staking new.stakes.staking answer → EntriesGoOn old.stakes.unbondings new.stakes.unbondings answer
        → EndsWell (cancel_unbonding who operator coin height) old new answer
    cancel_well who operator coin height answer r told goes u =
        let on : GoOn old new = unbonding_on marks most_steps old new answer goes u r in
        ends_well (cancel_unbonding who operator coin height) old new answer steady on (λ p s. cancel_ends old new p s on.ctx who operator coin height answer (ap (λ x. x.lists) r) (told (held p) (held_first old new p s on.ctx)))

    pub redelegate_well : (who source target : List ℕ) (coin : Coin) (answer : Result ⊤ MessageFault) → new.stakes.unbondings ≡ old.stakes.unbondings
        → ((h : Shared × Signings) → hooks_hold old.hooks h → AnswersBoth (redelegated hooks_tell.told who source target coin old.stakes.redelegations.lists (over old.stakes.staking.staked h (ground_of old)))
        new.stakes.redelegations.lists new.stakes.staking.staked (hooks_hold new.hooks) (ground_of new) answer)
        → GoesOn bank.behind most_steps (hook_marks marks) old.ground new.ground old.hooks new.hooks old.stakes.staking new.stakes.staking answer → EntriesGoOn old.stakes.redelegations new.stakes.redelegations answer
        → EndsWell (begin_redelegate who source target coin) old new answer
    redelegate_well who source target coin answer u told goes r =
        let on : GoOn old new = redelegating_on marks most_steps old new answer goes u r in
        ends_well (begin_redelegate who source target coin) old new answer steady on (λ p s. redelegate_ends old new p s on.ctx who source target coin answer (ap (λ x. x.lists) u) (told (held p) (held_first old new p s on.ctx)))

  -- ---- validators alone

  module _ (u : new.stakes.unbondings ≡ old.stakes.unbondings) (r : new.stakes.redelegations ≡ old.stakes.redelegations) (h : new.hooks ≡ old.hooks) (ground : CanBeUndone bank.behind old.ground new.ground) where
    pub edit_well : (m : EditValidator) (answer : Result ⊤ MessageFault) → AnswersHeld (edited_over m old.stakes.staking.staked (ground_of old)) new.stakes.staking.staked (ground_of new) answer
        → RegisterGoesOn old.stakes.staking new.stakes.staking answer → EndsWell (edit_validator m) old new answer
    edit_well m answer told register =
        let on : GoOn old new = register_on old new answer ground register u r h in
        ends_well (edit_validator m) old new answer steady on (λ p s. edit_ends old new p s on.ctx (ap (λ x. x.first.first.kept) h) (ap (λ x. x.second.kept) h) (ap (λ x. x.lists) u) (ap (λ x. x.lists) r) m answer told)

    pub unjail_well : (operator : List ℕ) (answer : Result ⊤ MessageFault)
        → ((i : Window) → KeepsSignings old.ground.ctx.params.signed_blocks_window old.hooks.second.kept i → AnswersHeld (unjailed operator i old.stakes.staking.staked (ground_of old)) new.stakes.staking.staked (ground_of new) answer)
        → RegisterGoesOn old.stakes.staking new.stakes.staking answer → EndsWell (unjail operator) old new answer
    unjail_well operator answer told register =
        let on : GoOn old new = register_on old new answer ground register u r h in
        ends_well (unjail operator) old new answer steady on (λ p s. unjail_ends old new p s on.ctx (ap (λ x. x.first.first.kept) h) (ap (λ x. x.second.kept) h) (ap (λ x. x.lists) u) (ap (λ x. x.lists) r) operator answer (told (window_in p) s.keeps.signings))

  -- ---- distribution

  module _ (stakes : new.stakes ≡ old.stakes) (second : new.hooks.second ≡ old.hooks.second) (ground : CanBeUndone bank.behind old.ground new.ground) where
    pub commission_well : (operator : List ℕ) (answer : Result Money MessageFault)
        → ((d : Shared) → KeepsShared old.hooks.first.first.kept d → CarriesOutOrRefuses (commission_withdrawn operator d (ground_of old)) new.hooks.first.first.kept (ground_of new) answer)
        → SharedGoesOn old.hooks.first.first new.hooks.first.first answer → EndsWell (withdraw_commission operator) old new (dropped answer)
    commission_well operator answer told goes =
        let on : GoOn old new = shared_on old new answer ground goes stakes second in
        ends_well (withdraw_commission operator) old new (dropped answer) steady on
        (λ p s. commission_ends old new p s on.ctx (ap stakes_kept stakes) (ap (λ x. x.kept) second) operator answer (told (shared_in p) s.keeps.shared))

    pub reward_well : (who operator : List ℕ) (x : Validator × ℕ) (answer : Result Money MessageFault) → delegation_asked who operator old.stakes.staking.staked ≡ Ok x
        → ((d : Shared) → KeepsShared old.hooks.first.first.kept d → CarriesOutOrRefuses (stopping Overflow (reward_renewed x.0 who x.1 d (ground_of old))) new.hooks.first.first.kept (ground_of new) answer)
        → SharedGoesOn old.hooks.first.first new.hooks.first.first answer → EndsWell (withdraw_reward who operator) old new (dropped answer)
    reward_well who operator x answer asked told goes =
        let on : GoOn old new = shared_on old new answer ground goes stakes second in
        ends_well (withdraw_reward who operator) old new (dropped answer) steady on
        (λ p s. reward_ends old new p s on.ctx (ap stakes_kept stakes) (ap (λ y. y.kept) second) who operator x answer asked (told (shared_in p) s.keeps.shared))

    pub payee_well : (who : List ℕ) (to : Account) (answer : Result ⊤ MessageFault) → new.ground ≡ old.ground
        → ((d : Shared) → KeepsShared old.hooks.first.first.kept d → SetsOrRefuses (payee_set who to old.ground.ctx.params d) new.hooks.first.first.kept answer)
        → SharedGoesOn old.hooks.first.first new.hooks.first.first answer → EndsWell (set_withdraw_address who to) old new answer
    payee_well who to answer same told goes =
        let on : GoOn old new = shared_on old new answer ground goes stakes second in
        ends_well (set_withdraw_address who to) old new answer steady on
        (λ p s. payee_ends old new p s on.ctx (ap stakes_kept stakes) (ap (λ y. y.kept) second) who to answer (ap (λ g. record { bank = g.bank.holdings; ctx = g.ctx; facts = g.facts }) same) (told (shared_in p) s.keeps.shared))

    pub fund_well : (who : List ℕ) (coins : Money) (answer : Result ⊤ MessageFault) → IsMoney coins
        → ((d : Shared) → KeepsShared old.hooks.first.first.kept d → PoolsOrRefuses (pool_funded who coins d (ground_of old)) new.hooks.first.first.kept (ground_of new) answer)
        → SharedGoesOn old.hooks.first.first new.hooks.first.first answer → EndsWell (fund_community_pool who coins) old new answer
    fund_well who coins answer money told goes =
        let on : GoOn old new = shared_on old new answer ground goes stakes second in
        ends_well (fund_community_pool who coins) old new answer steady on
        (λ p s. fund_ends old new p s on.ctx (ap stakes_kept stakes) (ap (λ y. y.kept) second) who coins answer money (told (shared_in p) s.keeps.shared))

    pub spend_well : (authority : List ℕ) (to : Account) (coins : Money) (answer : Result ⊤ MessageFault) → IsMoney coins
        → ((d : Shared) → KeepsShared old.hooks.first.first.kept d → PoolsOrRefuses (pool_spent authority to coins d (ground_of old)) new.hooks.first.first.kept (ground_of new) answer)
        → SharedGoesOn old.hooks.first.first new.hooks.first.first answer → EndsWell (community_pool_spend authority to coins) old new answer
    spend_well authority to coins answer money told goes =
        let on : GoOn old new = shared_on old new answer ground goes stakes second in
        ends_well (community_pool_spend authority to coins) old new answer steady on
        (λ p s. spend_ends old new p s on.ctx (ap stakes_kept stakes) (ap (λ y. y.kept) second) authority to coins answer money (told (shared_in p) s.keeps.shared))

  -- ---- sends

  pub send_well : (from : List ℕ) (to : Account) (coins : Money) (answer : Result ⊤ MessageFault) → new.stakes ≡ old.stakes → new.hooks ≡ old.hooks → CanBeUndone bank.behind old.ground new.ground → IsMoney coins
      → Transfers from to coins old.ground.bank.holdings old.ground.facts new.ground.bank.holdings new.ground.facts answer → EndsWell (send from to coins) old new answer
  send_well from to coins answer stakes hooks ground money told =
      let on : GoOn old new = all_on old new ground (ap (λ c. book.behind c.staking) stakes) (ap (λ c. entries.behind c.unbondings) stakes) (ap (λ c. entries.behind c.redelegations) stakes) (ap hooks_behind hooks) in
      ends_well (send from to coins) old new answer steady on
      (λ p s. send_ends old new p s on.ctx (ap stakes_kept stakes) (ap (λ x. x.first.first.kept) hooks) (ap (λ x. x.second.kept) hooks) from to coins answer money told)
