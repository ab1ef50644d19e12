-- The lines that answer a question are those of the report that are of its kind and belong to its address.
use Rattle.std.proofs.Common.{◌≡◌, ◌∙◌, sym, ℕ, List, [], ◌∷◌, ◌++◌, map, filter, codes, Bool, true, false, cond, Some, refl, ap, append-nil, flat_map}
use Rattle.std.proofs.lemmas.List.{map-append, Elements.filter-append}
use Rattle.serde_json.specs.Data.{Data}
use Rattle.base_types.specs.Accounts.{account_bytes}
use Rattle.base_bech32.specs.declared.form.Form.{Form}
use Rattle.base_roles.specs.declared.items.Item.{Item}
use Rattle.base_messages.specs.declared.report.Pending.{Pending}
use Rattle.rule_machine.specs.Report.{Report}
use Rattle.line_report.specs.{declared.question.Query.Query, Groups.report_from}
use Rattle.line_report.specs.Labels.{Labelled, all_labelled_by, answering_lines, answers, labelled_by, labelled_lines}
use Rattle.line_report.specs.Laws.{AnswersAreLines}
use Rattle.line_report.specs.Lines.{account_line, delegation_line, lines_of, pending_line, pool_line, redelegation_lines, signing_line, supply_line, unbonding_lines, validator_line}
use Rattle.line_report.specs.{Queries.lines_asked, Telling.is_asked}
use Rattle.line_report.proofs.AnswerGroupLemmas.{accounts_asked, delegations_asked, pending_asked_for, redelegations_asked, signing_asked_for, unbondings_asked, validators_asked}
use Rattle.line_report.specs.declared.question.Query.TheVariants as query

-- ---- labels

abbrev lines_in : List Labelled → List Data
lines_in ls = map (λ l. l.line) ls

module _ {A : Type 0} (kind : List ℕ) (address : A → List ℕ) where
  -- the lines of elements, as they are labelled
  each_line : (line : A → Data) (xs : List A) → lines_in (labelled_by kind address line xs) ≡ map line xs
  each_line line [] = refl
  each_line line (x ∷ xs) = ap (λ ls. line x ∷ ls) (each_line line xs)

  labelled_as : (x : A) (lines : List Data) → lines_in (map (λ line. record { kind = kind; address = address x; line = line }) lines) ≡ lines
  labelled_as x [] = refl
  labelled_as x (line ∷ lines) = ap (λ ls. line ∷ ls) (labelled_as x lines)

  all_lines : (lines : A → List Data) (xs : List A) → lines_in (all_labelled_by kind address lines xs) ≡ flat_map lines xs
  all_lines lines [] = refl
  all_lines lines (x ∷ xs) =
      map-append (λ l. l.line) (map (λ line. record { kind = kind; address = address x; line = line }) (lines x)) (all_labelled_by kind address lines xs)
      ∙ (λ i. labelled_as x (lines x) i ++ all_lines lines xs i)

  module _ (test : Labelled → Bool) (asked : A → Bool) where
    -- the test of a label is one of the element
    each_kept : (line : A → Data) → ((x : A) → test (record { kind = kind; address = address x; line = line x }) ≡ asked x) → (xs : List A)
        → filter test (labelled_by kind address line xs) ≡ labelled_by kind address line (filter asked xs)
    each_kept line h [] = refl
    each_kept line h (x ∷ xs) =
        ap (λ t. cond t (record { kind = kind; address = address x; line = line x } ∷ filter test (labelled_by kind address line xs)) (filter test (labelled_by kind address line xs))) (h x)
        ∙ by (asked x) (each_kept line h xs)
      where
        by : (t : Bool) → filter test (labelled_by kind address line xs) ≡ labelled_by kind address line (filter asked xs)
            → cond t (record { kind = kind; address = address x; line = line x } ∷ filter test (labelled_by kind address line xs)) (filter test (labelled_by kind address line xs))
            ≡ labelled_by kind address line (cond t (x ∷ filter asked xs) (filter asked xs))
        by true later = ap (λ ls. record { kind = kind; address = address x; line = line x } ∷ ls) later
        by false later = later

    kept_as : (x : A) (b : Bool) → ((line : Data) → test (record { kind = kind; address = address x; line = line }) ≡ b) → (lines : List Data)
        → filter test (map (λ line. record { kind = kind; address = address x; line = line }) lines) ≡ cond b (map (λ line. record { kind = kind; address = address x; line = line }) lines) []
    kept_as x true h [] = refl
    kept_as x false h [] = refl
    kept_as x true h (line ∷ lines) = λ i. cond (h line i) (record { kind = kind; address = address x; line = line } ∷ kept_as x true h lines i) (kept_as x true h lines i)
    kept_as x false h (line ∷ lines) = λ i. cond (h line i) (record { kind = kind; address = address x; line = line } ∷ kept_as x false h lines i) (kept_as x false h lines i)

    all_kept : (lines : A → List Data) → ((x : A) (line : Data) → test (record { kind = kind; address = address x; line = line }) ≡ asked x) → (xs : List A)
        → filter test (all_labelled_by kind address lines xs) ≡ all_labelled_by kind address lines (filter asked xs)
    all_kept lines h [] = refl
    all_kept lines h (x ∷ xs) =
        filter-append test (map (λ line. record { kind = kind; address = address x; line = line }) (lines x)) (all_labelled_by kind address lines xs)
        ∙ (ap (λ ls. ls ++ filter test (all_labelled_by kind address lines xs)) (kept_as x (asked x) (h x) (lines x)) ∙ by (asked x) (all_kept lines h xs))
      where
        by : (t : Bool) → filter test (all_labelled_by kind address lines xs) ≡ all_labelled_by kind address lines (filter asked xs)
            → cond t (map (λ line. record { kind = kind; address = address x; line = line }) (lines x)) [] ++ filter test (all_labelled_by kind address lines xs) ≡ all_labelled_by kind address lines (cond t (x ∷ filter asked xs) (filter asked xs))
        by true later = ap (λ ls. map (λ line. record { kind = kind; address = address x; line = line }) (lines x) ++ ls) later
        by false later = later

nobody : {A : Type 0} (xs : List A) → filter (λ x. false) xs ≡ []
nobody [] = refl
nobody (x ∷ xs) = nobody xs

everybody : {A : Type 0} (xs : List A) → filter (λ x. true) xs ≡ xs
everybody [] = refl
everybody (x ∷ xs) = ap (λ ys. x ∷ ys) (everybody xs)

module _ {A : Type 0} (kind : List ℕ) (address : A → List ℕ) (test : Labelled → Bool) where
  -- lines of another kind do not answer
  none_kept : (line : A → Data) → ((x : A) → test (record { kind = kind; address = address x; line = line x }) ≡ false) → (xs : List A) → filter test (labelled_by kind address line xs) ≡ []
  none_kept line h xs = each_kept kind address test (λ x. false) line h xs ∙ ap (labelled_by kind address line) (nobody xs)

  no_lines_kept : (lines : A → List Data) → ((x : A) (line : Data) → test (record { kind = kind; address = address x; line = line }) ≡ false) → (xs : List A) → filter test (all_labelled_by kind address lines xs) ≡ []
  no_lines_kept lines h xs = all_kept kind address test (λ x. false) lines h xs ∙ ap (all_labelled_by kind address lines) (nobody xs)

-- ---- part by part

kept_then : (test : Labelled → Bool) (xs ys us vs : List Labelled) → filter test xs ≡ us → filter test ys ≡ vs → filter test (xs ++ ys) ≡ us ++ vs
kept_then test xs ys us vs h k = filter-append test xs ys ∙ (λ i. h i ++ k i)

lines_then : (xs ys : List Labelled) (us vs : List Data) → lines_in xs ≡ us → lines_in ys ≡ vs → lines_in (xs ++ ys) ≡ us ++ vs
lines_then xs ys us vs h k = map-append (λ l. l.line) xs ys ∙ (λ i. h i ++ k i)

module _ (f : Form) (r : Report) where
  abbrev supply_part : List Labelled
  supply_part = record { kind = codes "supply"; address = []; line = supply_line r.supply } ∷ []

  abbrev account_part : List Labelled
  account_part = labelled_by (codes "account") (λ a. account_bytes a.0) (account_line f) r.accounts

  abbrev validator_part : List Labelled
  validator_part = labelled_by (codes "validator") (λ v. v.0.operator) (validator_line f) r.validators

  abbrev delegation_part : List Labelled
  delegation_part = labelled_by (codes "delegation") (λ d. d.0.0) (delegation_line f) r.delegations

  abbrev pending_part : List Labelled
  pending_part = labelled_by (codes "pending") (λ p. p.delegator) (pending_line f) r.pending

  abbrev unbonding_part : List Labelled
  unbonding_part = all_labelled_by (codes "unbonding") (λ u. u.0.0) (unbonding_lines f) r.unbondings

  abbrev redelegation_part : List Labelled
  redelegation_part = all_labelled_by (codes "redelegation") (λ u. u.0.0) (redelegation_lines f) r.redelegations

  abbrev signing_part : List Labelled
  signing_part = labelled_by (codes "signing") (λ s. s.0) (signing_line f) r.signing

  abbrev pool_part : List Labelled
  pool_part = record { kind = codes "pool"; address = []; line = pool_line r.pool } ∷ []

  -- what is kept of the lines, from what is kept of each part
  kept_parts : (test : Labelled → Bool) (s a v d p u e g c : List Labelled)
      → filter test supply_part ≡ s
      → filter test account_part ≡ a
      → filter test validator_part ≡ v
      → filter test delegation_part ≡ d
      → filter test pending_part ≡ p
      → filter test unbonding_part ≡ u
      → filter test redelegation_part ≡ e
      → filter test signing_part ≡ g
      → filter test pool_part ≡ c
      → filter test (labelled_lines f r) ≡ s ++ (a ++ (v ++ (d ++ (p ++ (u ++ (e ++ (g ++ c)))))))
  kept_parts test s a v d p u e g c hs ha hv hd hp hu he hg hc =
      let from_signing = kept_then test signing_part pool_part g c hg hc in
      let from_redelegation = kept_then test redelegation_part (signing_part ++ pool_part) e (g ++ c) he from_signing in
      let from_unbonding = kept_then test unbonding_part (redelegation_part ++ (signing_part ++ pool_part)) u (e ++ (g ++ c)) hu from_redelegation in
      let from_pending = kept_then test pending_part (unbonding_part ++ (redelegation_part ++ (signing_part ++ pool_part))) p (u ++ (e ++ (g ++ c))) hp from_unbonding in
      let from_delegation = kept_then test delegation_part (pending_part ++ (unbonding_part ++ (redelegation_part ++ (signing_part ++ pool_part)))) d (p ++ (u ++ (e ++ (g ++ c)))) hd from_pending in
      let from_validator = kept_then test validator_part (delegation_part ++ (pending_part ++ (unbonding_part ++ (redelegation_part ++ (signing_part ++ pool_part))))) v (d ++ (p ++ (u ++ (e ++ (g ++ c))))) hv from_delegation in
      let from_account = kept_then test account_part (validator_part ++ (delegation_part ++ (pending_part ++ (unbonding_part ++ (redelegation_part ++ (signing_part ++ pool_part)))))) a (v ++ (d ++ (p ++ (u ++ (e ++ (g ++ c)))))) ha from_validator in
      kept_then test supply_part (account_part ++ (validator_part ++ (delegation_part ++ (pending_part ++ (unbonding_part ++ (redelegation_part ++ (signing_part ++ pool_part))))))) s (a ++ (v ++ (d ++ (p ++ (u ++ (e ++ (g ++ c))))))) hs from_account

  are_labelled : lines_in (labelled_lines f r) ≡ lines_of f r
  are_labelled =
      ap (λ ls. supply_line r.supply ∷ ls)
      (lines_then account_part (validator_part ++ (delegation_part ++ (pending_part ++ (unbonding_part ++ (redelegation_part ++ (signing_part ++ pool_part)))))) (map (account_line f) r.accounts) (map (validator_line f) r.validators ++ (map (delegation_line f) r.delegations ++ (map (pending_line f) r.pending ++ (flat_map (unbonding_lines f) r.unbondings ++ (flat_map (redelegation_lines f) r.redelegations ++ (map (signing_line f) r.signing ++ (pool_line r.pool ∷ []))))))) (each_line (codes "account") (λ a. account_bytes a.0) (account_line f) r.accounts)
      (lines_then validator_part (delegation_part ++ (pending_part ++ (unbonding_part ++ (redelegation_part ++ (signing_part ++ pool_part))))) (map (validator_line f) r.validators) (map (delegation_line f) r.delegations ++ (map (pending_line f) r.pending ++ (flat_map (unbonding_lines f) r.unbondings ++ (flat_map (redelegation_lines f) r.redelegations ++ (map (signing_line f) r.signing ++ (pool_line r.pool ∷ [])))))) (each_line (codes "validator") (λ v. v.0.operator) (validator_line f) r.validators)
      (lines_then delegation_part (pending_part ++ (unbonding_part ++ (redelegation_part ++ (signing_part ++ pool_part)))) (map (delegation_line f) r.delegations) (map (pending_line f) r.pending ++ (flat_map (unbonding_lines f) r.unbondings ++ (flat_map (redelegation_lines f) r.redelegations ++ (map (signing_line f) r.signing ++ (pool_line r.pool ∷ []))))) (each_line (codes "delegation") (λ d. d.0.0) (delegation_line f) r.delegations)
      (lines_then pending_part (unbonding_part ++ (redelegation_part ++ (signing_part ++ pool_part))) (map (pending_line f) r.pending) (flat_map (unbonding_lines f) r.unbondings ++ (flat_map (redelegation_lines f) r.redelegations ++ (map (signing_line f) r.signing ++ (pool_line r.pool ∷ [])))) (each_line (codes "pending") (λ p. p.delegator) (pending_line f) r.pending)
      (lines_then unbonding_part (redelegation_part ++ (signing_part ++ pool_part)) (flat_map (unbonding_lines f) r.unbondings) (flat_map (redelegation_lines f) r.redelegations ++ (map (signing_line f) r.signing ++ (pool_line r.pool ∷ []))) (all_lines (codes "unbonding") (λ u. u.0.0) (unbonding_lines f) r.unbondings)
      (lines_then redelegation_part (signing_part ++ pool_part) (flat_map (redelegation_lines f) r.redelegations) (map (signing_line f) r.signing ++ (pool_line r.pool ∷ [])) (all_lines (codes "redelegation") (λ u. u.0.0) (redelegation_lines f) r.redelegations)
      (lines_then signing_part pool_part (map (signing_line f) r.signing) (pool_line r.pool ∷ []) (each_line (codes "signing") (λ s. s.0) (signing_line f) r.signing) refl)))))))

  -- ---- parts that no line is kept of

  module _ (test : Labelled → Bool) where
    no_account : ((address : List ℕ) (line : Data) → test (record { kind = codes "account"; address = address; line = line }) ≡ false) → filter test account_part ≡ []
    no_account h = none_kept (codes "account") (λ a. account_bytes a.0) test (account_line f) (λ x. h _ _) r.accounts

    no_validator : ((address : List ℕ) (line : Data) → test (record { kind = codes "validator"; address = address; line = line }) ≡ false) → filter test validator_part ≡ []
    no_validator h = none_kept (codes "validator") (λ v. v.0.operator) test (validator_line f) (λ x. h _ _) r.validators

    no_delegation : ((address : List ℕ) (line : Data) → test (record { kind = codes "delegation"; address = address; line = line }) ≡ false) → filter test delegation_part ≡ []
    no_delegation h = none_kept (codes "delegation") (λ d. d.0.0) test (delegation_line f) (λ x. h _ _) r.delegations

    no_pending : ((address : List ℕ) (line : Data) → test (record { kind = codes "pending"; address = address; line = line }) ≡ false) → filter test pending_part ≡ []
    no_pending h = none_kept (codes "pending") (λ p. p.delegator) test (pending_line f) (λ x. h _ _) r.pending

    no_unbonding : ((address : List ℕ) (line : Data) → test (record { kind = codes "unbonding"; address = address; line = line }) ≡ false) → filter test unbonding_part ≡ []
    no_unbonding h = no_lines_kept (codes "unbonding") (λ u. u.0.0) test (unbonding_lines f) (λ x line. h _ line) r.unbondings

    no_redelegation : ((address : List ℕ) (line : Data) → test (record { kind = codes "redelegation"; address = address; line = line }) ≡ false) → filter test redelegation_part ≡ []
    no_redelegation h = no_lines_kept (codes "redelegation") (λ u. u.0.0) test (redelegation_lines f) (λ x line. h _ line) r.redelegations

    no_signing : ((address : List ℕ) (line : Data) → test (record { kind = codes "signing"; address = address; line = line }) ≡ false) → filter test signing_part ≡ []
    no_signing h = none_kept (codes "signing") (λ s. s.0) test (signing_line f) (λ x. h _ _) r.signing

-- ---- question by question

module _ (f : Form) (items : List Item) (pending : List Pending) where
  abbrev r : Report
  r = report_from items pending

  answered : (what : Query) → lines_asked f items pending what ≡ answering_lines f (report_from items pending) what
  answered query.Supply =
      sym (ap lines_in (kept_parts f r (answers query.Supply) (supply_part f r) [] [] [] [] [] [] [] []
      refl (no_account f r (answers query.Supply) (λ address line. refl)) (no_validator f r (answers query.Supply) (λ address line. refl)) (no_delegation f r (answers query.Supply) (λ address line. refl))
      (no_pending f r (answers query.Supply) (λ address line. refl)) (no_unbonding f r (answers query.Supply) (λ address line. refl)) (no_redelegation f r (answers query.Supply) (λ address line. refl)) (no_signing f r (answers query.Supply) (λ address line. refl)) refl))
  answered query.Pool =
      sym (ap lines_in (kept_parts f r (answers query.Pool) [] [] [] [] [] [] [] [] (pool_part f r)
      refl (no_account f r (answers query.Pool) (λ address line. refl)) (no_validator f r (answers query.Pool) (λ address line. refl)) (no_delegation f r (answers query.Pool) (λ address line. refl))
      (no_pending f r (answers query.Pool) (λ address line. refl)) (no_unbonding f r (answers query.Pool) (λ address line. refl)) (no_redelegation f r (answers query.Pool) (λ address line. refl)) (no_signing f r (answers query.Pool) (λ address line. refl)) refl))
  answered query.Validators =
      sym (ap lines_in (kept_parts f r (answers query.Validators) [] [] (validator_part f r) [] [] [] [] [] []
      refl (no_account f r (answers query.Validators) (λ address line. refl)) (each_kept (codes "validator") (λ v. v.0.operator) (answers query.Validators) (λ x. true) (validator_line f) (λ x. refl) r.validators ∙ ap (labelled_by (codes "validator") (λ v. v.0.operator) (validator_line f)) (everybody r.validators)) (no_delegation f r (answers query.Validators) (λ address line. refl))
      (no_pending f r (answers query.Validators) (λ address line. refl)) (no_unbonding f r (answers query.Validators) (λ address line. refl)) (no_redelegation f r (answers query.Validators) (λ address line. refl)) (no_signing f r (answers query.Validators) (λ address line. refl)) refl
      ∙ append-nil (validator_part f r))
      ∙ each_line (codes "validator") (λ v. v.0.operator) (validator_line f) r.validators)
  answered (query.Account who) =
      ap (map (account_line f)) (accounts_asked (Some (account_bytes who)) items)
      ∙ sym (ap lines_in (kept_parts f r (answers (query.Account who)) [] (labelled_by (codes "account") (λ a. account_bytes a.0) (account_line f) (filter (λ a. is_asked (Some (account_bytes who)) (account_bytes a.0)) r.accounts)) [] [] [] [] [] [] []
      refl (each_kept (codes "account") (λ a. account_bytes a.0) (answers (query.Account who)) (λ a. is_asked (Some (account_bytes who)) (account_bytes a.0)) (account_line f) (λ x. refl) r.accounts) (no_validator f r (answers (query.Account who)) (λ address line. refl)) (no_delegation f r (answers (query.Account who)) (λ address line. refl))
      (no_pending f r (answers (query.Account who)) (λ address line. refl)) (no_unbonding f r (answers (query.Account who)) (λ address line. refl)) (no_redelegation f r (answers (query.Account who)) (λ address line. refl)) (no_signing f r (answers (query.Account who)) (λ address line. refl)) refl
      ∙ append-nil (labelled_by (codes "account") (λ a. account_bytes a.0) (account_line f) (filter (λ a. is_asked (Some (account_bytes who)) (account_bytes a.0)) r.accounts)))
      ∙ each_line (codes "account") (λ a. account_bytes a.0) (account_line f) (filter (λ a. is_asked (Some (account_bytes who)) (account_bytes a.0)) r.accounts))
  answered (query.Validator who) =
      ap (map (validator_line f)) (validators_asked (Some (account_bytes who)) items)
      ∙ sym (ap lines_in (kept_parts f r (answers (query.Validator who)) [] [] (labelled_by (codes "validator") (λ v. v.0.operator) (validator_line f) (filter (λ v. is_asked (Some (account_bytes who)) v.0.operator) r.validators)) [] [] [] [] [] []
      refl (no_account f r (answers (query.Validator who)) (λ address line. refl)) (each_kept (codes "validator") (λ v. v.0.operator) (answers (query.Validator who)) (λ v. is_asked (Some (account_bytes who)) v.0.operator) (validator_line f) (λ x. refl) r.validators) (no_delegation f r (answers (query.Validator who)) (λ address line. refl))
      (no_pending f r (answers (query.Validator who)) (λ address line. refl)) (no_unbonding f r (answers (query.Validator who)) (λ address line. refl)) (no_redelegation f r (answers (query.Validator who)) (λ address line. refl)) (no_signing f r (answers (query.Validator who)) (λ address line. refl)) refl
      ∙ append-nil (labelled_by (codes "validator") (λ v. v.0.operator) (validator_line f) (filter (λ v. is_asked (Some (account_bytes who)) v.0.operator) r.validators)))
      ∙ each_line (codes "validator") (λ v. v.0.operator) (validator_line f) (filter (λ v. is_asked (Some (account_bytes who)) v.0.operator) r.validators))
  answered (query.Delegations who) =
      ap (map (delegation_line f)) (delegations_asked (Some (account_bytes who)) items)
      ∙ sym (ap lines_in (kept_parts f r (answers (query.Delegations who)) [] [] [] (labelled_by (codes "delegation") (λ d. d.0.0) (delegation_line f) (filter (λ d. is_asked (Some (account_bytes who)) d.0.0) r.delegations)) [] [] [] [] []
      refl (no_account f r (answers (query.Delegations who)) (λ address line. refl)) (no_validator f r (answers (query.Delegations who)) (λ address line. refl)) (each_kept (codes "delegation") (λ d. d.0.0) (answers (query.Delegations who)) (λ d. is_asked (Some (account_bytes who)) d.0.0) (delegation_line f) (λ x. refl) r.delegations)
      (no_pending f r (answers (query.Delegations who)) (λ address line. refl)) (no_unbonding f r (answers (query.Delegations who)) (λ address line. refl)) (no_redelegation f r (answers (query.Delegations who)) (λ address line. refl)) (no_signing f r (answers (query.Delegations who)) (λ address line. refl)) refl
      ∙ append-nil (labelled_by (codes "delegation") (λ d. d.0.0) (delegation_line f) (filter (λ d. is_asked (Some (account_bytes who)) d.0.0) r.delegations)))
      ∙ each_line (codes "delegation") (λ d. d.0.0) (delegation_line f) (filter (λ d. is_asked (Some (account_bytes who)) d.0.0) r.delegations))
  answered (query.Rewards who) =
      ap (map (pending_line f)) (pending_asked_for (Some (account_bytes who)) pending)
      ∙ sym (ap lines_in (kept_parts f r (answers (query.Rewards who)) [] [] [] [] (labelled_by (codes "pending") (λ p. p.delegator) (pending_line f) (filter (λ p. is_asked (Some (account_bytes who)) p.delegator) r.pending)) [] [] [] []
      refl (no_account f r (answers (query.Rewards who)) (λ address line. refl)) (no_validator f r (answers (query.Rewards who)) (λ address line. refl)) (no_delegation f r (answers (query.Rewards who)) (λ address line. refl))
      (each_kept (codes "pending") (λ p. p.delegator) (answers (query.Rewards who)) (λ p. is_asked (Some (account_bytes who)) p.delegator) (pending_line f) (λ x. refl) r.pending) (no_unbonding f r (answers (query.Rewards who)) (λ address line. refl)) (no_redelegation f r (answers (query.Rewards who)) (λ address line. refl)) (no_signing f r (answers (query.Rewards who)) (λ address line. refl)) refl
      ∙ append-nil (labelled_by (codes "pending") (λ p. p.delegator) (pending_line f) (filter (λ p. is_asked (Some (account_bytes who)) p.delegator) r.pending)))
      ∙ each_line (codes "pending") (λ p. p.delegator) (pending_line f) (filter (λ p. is_asked (Some (account_bytes who)) p.delegator) r.pending))
  answered (query.Unbondings who) =
      ap (flat_map (unbonding_lines f)) (unbondings_asked (Some (account_bytes who)) items)
      ∙ sym (ap lines_in (kept_parts f r (answers (query.Unbondings who)) [] [] [] [] [] (all_labelled_by (codes "unbonding") (λ u. u.0.0) (unbonding_lines f) (filter (λ u. is_asked (Some (account_bytes who)) u.0.0) r.unbondings)) [] [] []
      refl (no_account f r (answers (query.Unbondings who)) (λ address line. refl)) (no_validator f r (answers (query.Unbondings who)) (λ address line. refl)) (no_delegation f r (answers (query.Unbondings who)) (λ address line. refl))
      (no_pending f r (answers (query.Unbondings who)) (λ address line. refl)) (all_kept (codes "unbonding") (λ u. u.0.0) (answers (query.Unbondings who)) (λ u. is_asked (Some (account_bytes who)) u.0.0) (unbonding_lines f) (λ x line. refl) r.unbondings) (no_redelegation f r (answers (query.Unbondings who)) (λ address line. refl)) (no_signing f r (answers (query.Unbondings who)) (λ address line. refl)) refl
      ∙ append-nil (all_labelled_by (codes "unbonding") (λ u. u.0.0) (unbonding_lines f) (filter (λ u. is_asked (Some (account_bytes who)) u.0.0) r.unbondings)))
      ∙ all_lines (codes "unbonding") (λ u. u.0.0) (unbonding_lines f) (filter (λ u. is_asked (Some (account_bytes who)) u.0.0) r.unbondings))
  answered (query.Redelegations who) =
      ap (flat_map (redelegation_lines f)) (redelegations_asked (Some (account_bytes who)) items)
      ∙ sym (ap lines_in (kept_parts f r (answers (query.Redelegations who)) [] [] [] [] [] [] (all_labelled_by (codes "redelegation") (λ u. u.0.0) (redelegation_lines f) (filter (λ u. is_asked (Some (account_bytes who)) u.0.0) r.redelegations)) [] []
      refl (no_account f r (answers (query.Redelegations who)) (λ address line. refl)) (no_validator f r (answers (query.Redelegations who)) (λ address line. refl)) (no_delegation f r (answers (query.Redelegations who)) (λ address line. refl))
      (no_pending f r (answers (query.Redelegations who)) (λ address line. refl)) (no_unbonding f r (answers (query.Redelegations who)) (λ address line. refl)) (all_kept (codes "redelegation") (λ u. u.0.0) (answers (query.Redelegations who)) (λ u. is_asked (Some (account_bytes who)) u.0.0) (redelegation_lines f) (λ x line. refl) r.redelegations) (no_signing f r (answers (query.Redelegations who)) (λ address line. refl)) refl
      ∙ append-nil (all_labelled_by (codes "redelegation") (λ u. u.0.0) (redelegation_lines f) (filter (λ u. is_asked (Some (account_bytes who)) u.0.0) r.redelegations)))
      ∙ all_lines (codes "redelegation") (λ u. u.0.0) (redelegation_lines f) (filter (λ u. is_asked (Some (account_bytes who)) u.0.0) r.redelegations))
  answered (query.Signing who) =
      ap (map (signing_line f)) (signing_asked_for (Some who) items)
      ∙ sym (ap lines_in (kept_parts f r (answers (query.Signing who)) [] [] [] [] [] [] [] (labelled_by (codes "signing") (λ s. s.0) (signing_line f) (filter (λ s. is_asked (Some who) s.0) r.signing)) []
      refl (no_account f r (answers (query.Signing who)) (λ address line. refl)) (no_validator f r (answers (query.Signing who)) (λ address line. refl)) (no_delegation f r (answers (query.Signing who)) (λ address line. refl))
      (no_pending f r (answers (query.Signing who)) (λ address line. refl)) (no_unbonding f r (answers (query.Signing who)) (λ address line. refl)) (no_redelegation f r (answers (query.Signing who)) (λ address line. refl)) (each_kept (codes "signing") (λ s. s.0) (answers (query.Signing who)) (λ s. is_asked (Some who) s.0) (signing_line f) (λ x. refl) r.signing) refl
      ∙ append-nil (labelled_by (codes "signing") (λ s. s.0) (signing_line f) (filter (λ s. is_asked (Some who) s.0) r.signing)))
      ∙ each_line (codes "signing") (λ s. s.0) (signing_line f) (filter (λ s. is_asked (Some who) s.0) r.signing))

pub answers_are_lines : AnswersAreLines
answers_are_lines = record { labelled = are_labelled; answered = answered }
