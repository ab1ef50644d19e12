-- The report of a state is written from its items and its pending rewards.
use Rattle.std.proofs.Common.{◌≡◌, ◌∙◌, ℕ, List, [], ◌∷◌, ◌++◌, Some, Ok, refl, ap, subst, sym, IsPermutation}
use Rattle.std.proofs.lemmas.List.{Elements.All-from_recursion, Sorted.IsPermutation-refl}
use Rattle.base_bech32.specs.declared.form.Form.{Form}
use Rattle.base_roles.specs.declared.items.Item.{Item}
use Rattle.base_messages.specs.declared.report.Pending.{Pending}
use Rattle.rule_modules.specs.Chain.{State}
use Rattle.rule_machine.specs.{Items.{IsInKeyOrder, items_of}, Report.pending_of}
use Rattle.line_report.specs.{Groups.report_from, Laws.{AreItemsOf, IsUnread, StatesAreReported}}
use Rattle.line_report.specs.Lines.{lines_of, text_of}
use Rattle.run_app.specs.Machine.{report_of}

none_behind : (items : List Item) → items ++ [] ≡ items
none_behind [] = refl
none_behind (i ∷ items) = ap (λ l. i ∷ l) (none_behind items)

-- all items of a state are its items
pub all_of : (w : State) → AreItemsOf w (items_of w)
all_of w = record {
  missing = [];
  unread = All-from_recursion IsUnread [] tt;
  rest = subst (IsPermutation (items_of w)) (sym (none_behind (items_of w))) (IsPermutation-refl (items_of w));
}

-- from them, and from its pending rewards in whatever order, its report is written
pub report_is : (form : Form) → StatesAreReported → (w : State) (items : List Item) (pending : List Pending) (text : List ℕ) → IsInKeyOrder w → items ≡ items_of w → IsPermutation (pending_of w) pending
    → text ≡ text_of (lines_of form (report_from items pending)) → report_of form (Some w) ≡ Ok text
unfolding report_of
report_is form law w items pending text order is are written =
    ap (λ (t : List ℕ). Ok t) (sym (written ∙ ap (λ r. text_of (lines_of form r)) (law.whole w items pending order (subst (AreItemsOf w) (sym is) (all_of w)) are)))
