-- An answer needs no pending rewards but those that are asked for.
use Rattle.std.proofs.Common.{◌≡◌, ◌∙◌, ℕ, Bool, true, false, cond, List, [], ◌∷◌, ◌++◌, map, filter, Some, refl, sym, ap, if◌then◌else◌, All, filter_map, append-nil}
use Rattle.std.specs.{List.{cons_option, AllByRecursion}, Map.values_of}
use Rattle.std.proofs.lemmas.List.Elements.{filter-append, recursion_from_All}
use Rattle.serde_json.specs.Data.{Data}
use Rattle.base_types.specs.Accounts.{account_bytes}
use Rattle.base_bech32.specs.declared.form.Form.{Form}
use Rattle.base_roles.specs.{declared.items.Item.Item, Orders.pair_cmp}
use Rattle.base_messages.specs.declared.report.Pending.{Pending}
use Rattle.rule_machine.specs.{Orders.in_order, Report.{Report, report_of}}
use Rattle.line_report.specs.{declared.question.Query.Query, Asking.{is_pending_asked, StatesAreAsked}}
use Rattle.line_report.specs.{Labels.answering_lines, Lines.{pending_line, text_of}}
use Rattle.line_report.specs.Queries.{lines_asked, names_address, text_if_any}
use Rattle.line_report.{specs.Telling.{is_asked, pending_in, told_if}, proofs.AnswerLemmas.answers_are_lines}
use Rattle.line_report.proofs.StateLemmas.{states_are_reported}
use Rattle.line_report.specs.declared.question.Query.TheVariants as query

-- ---- those of one delegator

own_told : (bytes : List ℕ) (ps : List Pending)
    → filter_map (pending_in (Some bytes)) (filter (λ p. is_asked (Some bytes) p.delegator) ps) ≡ filter_map (pending_in (Some bytes)) ps
own_told bytes [] = refl
own_told bytes (p ∷ ps) = by (is_asked (Some bytes) p.delegator) refl (own_told bytes ps)
  where
    by : (b : Bool) → is_asked (Some bytes) p.delegator ≡ b → filter_map (pending_in (Some bytes)) (filter (λ q. is_asked (Some bytes) q.delegator) ps) ≡ filter_map (pending_in (Some bytes)) ps
        → filter_map (pending_in (Some bytes)) (cond b (p ∷ filter (λ q. is_asked (Some bytes) q.delegator) ps) (filter (λ q. is_asked (Some bytes) q.delegator) ps))
        ≡ cons_option (told_if b ((p.delegator, p.operator), p)) (filter_map (pending_in (Some bytes)) ps)
    by true e later =
        ap (λ b. cons_option (told_if b ((p.delegator, p.operator), p)) (filter_map (pending_in (Some bytes)) (filter (λ q. is_asked (Some bytes) q.delegator) ps))) e
        ∙ ap (λ l. ((p.delegator, p.operator), p) ∷ l) later
    by false e later = later

-- the lines of an answer are told from these alone
lines_own : (f : Form) (items : List Item) (ps : List Pending) (what : Query) → lines_asked f items (filter (is_pending_asked what) ps) what ≡ lines_asked f items ps what
lines_own f items ps query.Supply = refl
lines_own f items ps query.Pool = refl
lines_own f items ps query.Validators = refl
lines_own f items ps (query.Account who) = refl
lines_own f items ps (query.Validator who) = refl
lines_own f items ps (query.Delegations who) = refl
lines_own f items ps (query.Rewards who) = ap (λ l. map (pending_line f) (values_of (in_order pair_cmp l))) (own_told (account_bytes who) ps)
lines_own f items ps (query.Unbondings who) = refl
lines_own f items ps (query.Redelegations who) = refl
lines_own f items ps (query.Signing cons) = refl

-- none is kept where none is asked for
none_own : (own : Pending → Bool) (ps : List Pending) → AllByRecursion (λ p. own p ≡ false) ps → filter own ps ≡ []
none_own own [] a = refl
none_own own (p ∷ ps) a = ap (λ b. cond b (p ∷ filter own ps) (filter own ps)) a.0 ∙ none_own own ps a.1

-- ---- with the missing ones behind them

lines_more : (f : Form) (items : List Item) (ps missing : List Pending) (what : Query) → All (λ p. is_pending_asked what p ≡ false) missing → lines_asked f items (ps ++ missing) what ≡ lines_asked f items ps what
lines_more f items ps missing what unasked =
    let own = is_pending_asked what in
    sym (lines_own f items (ps ++ missing) what)
    ∙ ap (λ l. lines_asked f items l what)
    (filter-append own ps missing ∙ ap (λ l. filter own ps ++ l) (none_own own missing (recursion_from_All (λ p. is_pending_asked what p ≡ false) missing unasked)) ∙ append-nil (filter own ps))
    ∙ lines_own f items ps what

pub states_are_asked : StatesAreAsked
states_are_asked f w items ps what ordered are pending =
    let all = ps ++ pending.missing in
    let lines : lines_asked f items ps what ≡ answering_lines f (report_of w) what
    = sym (lines_more f items ps pending.missing what pending.unasked)
    ∙ answers_are_lines.answered f items all what
    ∙ ap (λ (r : Report). answering_lines f r what) (states_are_reported.whole w items all ordered are pending.rest) in
    ap (λ (l : List Data). if names_address what then text_if_any l else Some (text_of l)) lines
