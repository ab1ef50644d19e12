-- The pending rewards that a question asks for, as a chain tells them.
use Rattle.std.proofs.Common.{◌≡◌, ◌∙◌, ℕ, false, List, [], Option, Result, Ok, Err, IfOk, Vec, Global, refl, sym, subst, IsPermutation, append-nil}
use Rattle.std.proofs.lemmas.List.{Elements.{All-nil, All-weaker}, Sorted.IsPermutation-refl}
use Rattle.std.proofs.lemmas.Map.Text.{is_eq-slice_cmp}
use Rattle.base_bech32.specs.declared.form.Form.{Form}
use Rattle.base_types.specs.declared.account.Account.{Account}
use Rattle.base_types.specs.declared.account.Account.TheVariants as account
use Rattle.base_roles.specs.declared.items.Item.{Item}
use Rattle.chain_whole.specs.{declared.fault.ChainFault.ChainFault, Pending.{is_pending_to, ArePendingTo}}
use Rattle.base_messages.specs.declared.report.Pending.{Pending}
use Rattle.rule_modules.specs.Chain.{State}
use Rattle.rule_machine.specs.{Items.{IsInKeyOrder, items_of}, Report.{pending_of, report_of}}
use Rattle.line_report.specs.declared.question.Query.{Query}
use Rattle.line_report.specs.{Asking.{answered_by, is_pending_asked, ArePendingOf, StatesAreAsked}, Laws.AreItemsOf}
use Rattle.line_report.specs.Queries.{answer_of}
use Rattle.line_report.specs.declared.question.Query.TheVariants as query
use Rattle.run_app.{specs.declared.status.EndStop.EndStop, proofs.ReportLemmas.all_of}

-- a delegator's own
pub own_asked : (p : State) (who : List ℕ) (list : List Pending) → ArePendingTo p who list → ArePendingOf p (query.Rewards (account.User who)) list
own_asked p who list h = record {
  missing = h.missing;
  unasked = All-weaker (λ d. is_pending_to who d ≡ false) (λ d. is_pending_asked (query.Rewards (account.User who)) d ≡ false)
      (λ d e. sym (is_eq-slice_cmp who d.delegator) ∙ e) h.missing h.others;
  rest = h.rest;
}

-- all
pub all_asked : (p : State) (what : Query) (list : List Pending) → IsPermutation (pending_of p) list → ArePendingOf p what list
all_asked p what list h = record {
  missing = [];
  unasked = All-nil (λ d. is_pending_asked what d ≡ false);
  rest = subst (IsPermutation (pending_of p)) (sym (append-nil list)) h;
}

-- none, where no pending reward is asked for
pub none_asked : (p : State) (what : Query) → ((d : Pending) → is_pending_asked what d ≡ false) → ArePendingOf p what []
none_asked p what h = record {
  missing = pending_of p;
  unasked = λ k d lt. h _;
  rest = IsPermutation-refl (pending_of p);
}

-- ---- as a chain told them

-- what was told is handed on
handed : {T E F : Type 0} (P : T → Type 0) (told : Result T E) (r : Result T F) → IfOk r (λ x. told ≡ Ok x) → IfOk told P → IfOk r P
handed {T} {E} P told (Ok x) same h = subst (λ (o : Result T E). IfOk o P) same h
handed P told (Err f) same h = tt

unasked_so : (what : Query) → ((who : Account) → what ≡ query.Rewards who → ⊥) → (d : Pending) → is_pending_asked what d ≡ false
unasked_so query.Supply other d = refl
unasked_so query.Pool other d = refl
unasked_so query.Validators other d = refl
unasked_so (query.Account a) other d = refl
unasked_so (query.Validator a) other d = refl
unasked_so (query.Delegations a) other d = refl
unasked_so (query.Rewards a) other d = absurd (other a refl)
unasked_so (query.Unbondings a) other d = refl
unasked_so (query.Redelegations a) other d = refl
unasked_so (query.Signing c) other d = refl

module _ (p : State) (told : Result (Vec Pending Global) ChainFault) (r : Result (Vec Pending Global) EndStop) (same : IfOk r (λ list. told ≡ Ok list)) where
  pub own_told : (asked : Account) (who : List ℕ) → asked ≡ account.User who → IfOk told (λ list. ArePendingTo p who list.items) → IfOk r (λ list. ArePendingOf p (query.Rewards asked) list.items)
  own_told asked who user h = subst (λ (a : Account). IfOk r (λ list. ArePendingOf p (query.Rewards a) list.items)) (sym user) (by r (handed (λ list. ArePendingTo p who list.items) told r same h))
    where
      by : (o : Result (Vec Pending Global) EndStop) → IfOk o (λ list. ArePendingTo p who list.items) → IfOk o (λ list. ArePendingOf p (query.Rewards (account.User who)) list.items)
      by (Ok list) k = own_asked p who list.items k
      by (Err f) k = tt

  pub all_told : (what : Query) → IfOk told (λ list. IsPermutation (pending_of p) list.items) → IfOk r (λ list. ArePendingOf p what list.items)
  all_told what h = by r (handed (λ list. IsPermutation (pending_of p) list.items) told r same h)
    where
      by : (o : Result (Vec Pending Global) EndStop) → IfOk o (λ list. IsPermutation (pending_of p) list.items) → IfOk o (λ list. ArePendingOf p what list.items)
      by (Ok list) k = all_asked p what list.items k
      by (Err f) k = tt

pub same_question : (p : State) (what asked : Query) (r : Result (Vec Pending Global) EndStop) → what ≡ asked → IfOk r (λ list. ArePendingOf p asked list.items) → IfOk r (λ list. ArePendingOf p what list.items)
same_question p what asked r is h = subst (λ (q : Query). IfOk r (λ list. ArePendingOf p q list.items)) (sym is) h

pub none_told : (p : State) (what : Query) (list : List Pending) → ((who : Account) → what ≡ query.Rewards who → ⊥) → list ≡ [] → ArePendingOf p what list
none_told p what list other empty = subst (ArePendingOf p what) (sym empty) (none_asked p what (unasked_so what other))

-- ---- the answer

pub text_asked : (form : Form) → StatesAreAsked → (p : State) (items : List Item) (pending : List Pending) (what : Query) (answer : Option (List ℕ)) → IsInKeyOrder p → items ≡ items_of p → ArePendingOf p what pending
    → answer ≡ answer_of form items pending what → answer ≡ answered_by form (report_of p) what
text_asked form law p items pending what answer order is are written = written ∙ law form p items pending what order (subst (AreItemsOf p) (sym is) (all_of p)) are
