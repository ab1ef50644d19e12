-- Transactions that were applied so far.
use Rattle.std.proofs.Common.{◌≡◌, ◌∙◌, ℕ, ◌+◌, ◌<◌, List, [], ◌∷◌, ◌++◌, drop, take, length, get_or, map, append_assoc, Some, None, Result, Ok, Err, refl, sym, ap, subst, IfOk}
use Rattle.base_roles.specs.{declared.{facts.Fact.Fact, refusal.Refusal.Refusal}, Ground.SameMoment}
use Rattle.base_roles.proofs.MomentLemmas.{same_moment_twice}
use Rattle.base_messages.specs.declared.{block.Tx.Tx, report.{TxReport.TxReport, Outcome.Outcome}}
use Rattle.base_messages.specs.declared.report.Outcome.TheVariants.{Accepted, Refused}
use Rattle.rule_modules.specs.{Chain.State, Effects.{Effect, effects_of, stands_or_fee, after_fee, transaction_applied}}
use Rattle.rule_machine.specs.{Messages.effect_of, GenesisState.without_facts}
use Rattle.rule_machine.specs.Machine.{TxSteps, reported_as, tx_applied, txs_applied}
use Rattle.chain_modules.specs.declared.modules.Modules.{Modules}
use Rattle.chain_modules.specs.Kept.{KeptState, StandsWhole, kept_of, kept_over, parts_of, AreSteady}
use Rattle.chain_modules.specs.Marks.{Follow, MessagesGoOn, behind_of, marks_of, opened}
use Rattle.chain_modules.proofs.MarkLemmas.{marks_behind, restored}
use Rattle.chain_modules.proofs.StandLemmas.{begins_so, whole_cleared, whole_same, cleared as without_told}
use Rattle.chain_transactions.{specs.Answers.{MessagesEnd, EndsAs}, proofs.MessageLemmas.{next, append_nil}}

-- ---- one transaction

-- messages of which one was refused, where what is kept is as before them
pub refused_ends : (p : State) (r : Result State (ℕ × Refusal)) (left k old : KeptState) (place : ℕ) (why : Refusal) → MessagesEnd r (Some (place, why)) left → k ≡ old → StandsWhole old p → EndsAs (stands_or_fee p r) (Refused place why) k
refused_ends p (Ok due) left k old place why e same s = absurd e
refused_ends p (Err due) left k old place why e same s = (ap (λ (d : ℕ × Refusal). Refused d.0 d.1) e, whole_same old k p same s)

-- a transaction whose fee was paid ends as its messages
pub paid_ends : (effects : List Effect) (p due : State) (r : Result State Refusal) (outcome : Outcome) (k : KeptState) → r ≡ Ok due → EndsAs (stands_or_fee due (effects_of 0 effects due)) outcome k → EndsAs (after_fee effects p r) outcome k
paid_ends effects p due r outcome k e s = subst (λ x. EndsAs (after_fee effects p x) outcome k) (sym e) s

-- the same of an answer
pub all_paid_ends : {E : Type 0} (effects : List Effect) (p due : State) (r : Result State Refusal) (answer : Result Outcome E) (k : KeptState) → r ≡ Ok due
    → IfOk answer (λ outcome. EndsAs (stands_or_fee due (effects_of 0 effects due)) outcome k) → IfOk answer (λ outcome. EndsAs (after_fee effects p r) outcome k)
all_paid_ends effects p due r (Ok outcome) k e s = paid_ends effects p due r outcome k e s
all_paid_ends effects p due r (Err fault) k e s = tt

-- messages of which none was refused
pub accepted_ends : (p : State) (r : Result State (ℕ × Refusal)) (left k : KeptState) → MessagesEnd r None left → k ≡ left → EndsAs (stands_or_fee p r) Accepted k
accepted_ends p (Ok due) left k e same = (refl, whole_same left k due same e)
accepted_ends p (Err due) left k e same = absurd e

-- the state after a transaction, without its facts
pub left_stands : (tx : Tx) (k k2 k3 : KeptState) (p : State) (outcome : Outcome) → k.view.facts ≡ [] → StandsWhole k p → EndsAs (transaction_applied tx.payer tx.fee (map effect_of tx.msgs) p) outcome k2
    → k3 ≡ without_told k2 → StandsWhole k3 (without_facts (tx_applied tx p).state)
left_stands tx k k2 k3 p outcome none s e same =
    subst (λ (w : State). StandsWhole k3 (without_facts (reported_as (transaction_applied tx.payer tx.fee (map effect_of tx.msgs) w)).state)) (sym (begins_so k p none s))
    (whole_same (without_told k2) k3 (without_facts (transaction_applied tx.payer tx.fee (map effect_of tx.msgs) p).1) same (whole_cleared k2 (transaction_applied tx.payer tx.fee (map effect_of tx.msgs) p).1 e.1))

-- the report of a transaction
pub reported : (tx : Tx) (k k2 : KeptState) (p : State) (outcome : Outcome) → k.view.facts ≡ [] → StandsWhole k p → EndsAs (transaction_applied tx.payer tx.fee (map effect_of tx.msgs) p) outcome k2
    → record { facts = k2.view.facts; outcome = outcome } ≡ (tx_applied tx p).report
reported tx k k2 p outcome none s e =
    (λ i. record { facts = (sym (e.1.keeps.view) i).facts; outcome = e.0 i })
    ∙ ap (λ (w : State). (reported_as (transaction_applied tx.payer tx.fee (map effect_of tx.msgs) w)).report) (sym (begins_so k p none s))

-- ---- facts that are cut

take_front : {A : Type 0} (xs ys : List A) → take (length xs) (xs ++ ys) ≡ xs
take_front [] ys = refl
take_front (x ∷ xs) ys = ap (λ l. x ∷ l) (take_front xs ys)

-- facts that only followed are cut again
pub cut_back : (old new : List Fact) → Follow old new → take (length old) new ≡ old
cut_back old new f = ap (take (length old)) f.1 ∙ take_front old f.0

-- where a message was refused, modules that are gone back keep what they kept before it, with the context and the facts that were
-- told before
pub undone : {E : Type 0} (old marked applied back : Modules E) (told : ℕ) (facts : List Fact) → kept_of marked ≡ kept_of old → marks_of marked ≡ opened old → MessagesGoOn marked applied → opened back ≡ marks_of applied
    → back.ground.facts ≡ applied.ground.facts → told ≡ length old.ground.facts → facts ≡ take told back.ground.facts
    → kept_over (parts_of back) old.ground.ctx facts ≡ kept_of old
undone old marked applied back told facts same opens on closes f t cut =
    let r = restored old back (closes ∙ marks_behind marked applied on.behind ∙ opens) in
    let first : marked.ground.facts ≡ old.ground.facts = ap (λ (k : KeptState). k.view.facts) same in
    let left : facts ≡ old.ground.facts = cut ∙ ap (λ n. take n back.ground.facts) (t ∙ sym (ap length first)) ∙ ap (take (length marked.ground.facts)) f ∙ cut_back marked.ground.facts applied.ground.facts on.facts ∙ first in
    λ i. kept_over (r.same_parts i) old.ground.ctx (left i)

-- ---- transactions so far

-- these steps without the facts of the last
abbrev pub cleared : TxSteps → TxSteps
cleared s = record s { state = without_facts s.state }

-- these reports, then the others
abbrev pub before : List TxReport → TxSteps → TxSteps
before reports s = record { reports = reports ++ s.reports; state = s.state }

-- transactions begin without facts
pub starts_cleared : (txs : List Tx) (w : State) → cleared (txs_applied txs w) ≡ cleared (txs_applied txs (without_facts w))
starts_cleared [] w = refl
starts_cleared (tx ∷ txs) w = refl

-- The transactions before this place were applied, with these reports: from each state that stood first, they lead to one
-- that stands now.
pub record AppliedSoFar {E : Type 0} (txs : List Tx) (place : ℕ) (old new : Modules E) (reports : List TxReport) : Type 0 where
  pub steady : AreSteady new
  pub none : new.ground.facts ≡ []
  pub moment : SameMoment old.ground.ctx new.ground.ctx
  pub same_behind : behind_of new ≡ behind_of old
  pub rest : (p : State) → StandsWhole (kept_of old) p
      → (q : State) × StandsWhole (kept_of new) q × (before reports (cleared (txs_applied (drop place txs) q)) ≡ cleared (txs_applied txs p))

pub none_applied : {E : Type 0} (txs : List Tx) (m : Modules E) (reports : List TxReport) → AreSteady m → m.ground.facts ≡ [] → reports ≡ [] → AppliedSoFar txs 0 m m reports
none_applied txs m reports s n e = record {
  steady = s;
  none = n;
  moment = record { height = refl; time = refl; bond_denom = refl; power_reduction = refl };
  same_behind = refl;
  rest = λ p stood. (p, stood, ap (λ (l : List TxReport). before l (cleared (txs_applied txs p))) e);
}

pub applied_next : {E : Type 0} (txs : List Tx) (place : ℕ) (tx : Tx) (old new last : Modules E) (reports reports2 : List TxReport) (report : TxReport) → place < length txs → tx ≡ get_or txs place tx
    → AppliedSoFar txs place old new reports → ((q : State) → StandsWhole (kept_of new) q → report ≡ (tx_applied tx q).report)
    → ((q : State) → StandsWhole (kept_of new) q → StandsWhole (kept_of last) (without_facts (tx_applied tx q).state))
    → reports2 ≡ reports ++ report ∷ [] → AreSteady last → last.ground.facts ≡ [] → SameMoment new.ground.ctx last.ground.ctx → behind_of last ≡ behind_of new
    → AppliedSoFar txs (place + 1) old last reports2
applied_next txs place tx old new last reports reports2 report lt is so told left more s n c k = record {
  steady = s;
  none = n;
  moment = same_moment_twice old.ground.ctx new.ground.ctx last.ground.ctx so.moment c;
  same_behind = k ∙ so.same_behind;
  rest = λ p stood.
      let r = so.rest p stood in
      let q = r.0 in
      let others = drop (place + 1) txs in
      let one = tx_applied tx q in
      let on = without_facts one.state in (
        on,
        left q r.1,
        ap (λ l. before l (cleared (txs_applied others on))) more
            ∙ ap (λ l. record { reports = l; state = (cleared (txs_applied others on)).state }) (append_assoc reports (report ∷ []) (txs_applied others on).reports)
            ∙ ap (λ (t : TxReport). record { reports = reports ++ t ∷ (txs_applied others on).reports; state = (cleared (txs_applied others on)).state }) (told q r.1)
            ∙ ap (λ (x : TxSteps). record { reports = reports ++ one.report ∷ x.reports; state = x.state }) (sym (starts_cleared others one.state))
            ∙ sym (ap (λ l. before reports (cleared (txs_applied l q))) (next txs place tx lt is))
            ∙ r.2,
      );
}

-- all transactions were applied
module _ {E : Type 0} (txs : List Tx) (place : ℕ) (old new : Modules E) (reports : List TxReport) (end : drop place txs ≡ []) (so : AppliedSoFar txs place old new reports) where
  all_told : (p : State) (stood : StandsWhole (kept_of old) p) → record { reports = reports ++ []; state = without_facts (so.rest p stood).0 } ≡ cleared (txs_applied txs p)
  all_told p stood = sym (ap (λ (l : List Tx). before reports (cleared (txs_applied l (so.rest p stood).0))) end) ∙ (so.rest p stood).2

  pub all_reported : (p : State) → StandsWhole (kept_of old) p → reports ≡ (txs_applied txs p).reports
  all_reported p stood = sym (append_nil reports) ∙ ap (λ (x : TxSteps). x.reports) (all_told p stood)

  pub all_applied : (p : State) → StandsWhole (kept_of old) p → StandsWhole (kept_of new) (without_facts (txs_applied txs p).state)
  all_applied p stood =
      let r = so.rest p stood in
      subst (λ (w : State). StandsWhole (kept_of new) w) (sym (begins_so (kept_of new) r.0 so.none r.1) ∙ ap (λ (x : TxSteps). x.state) (all_told p stood)) r.1
