-- What is read in a type of its own is read as a statement.
use Rattle.std.proofs.Common.{◌≡◌, ◌∙◌, sym, refl, List, ℕ, Result, Ok, Err}
use Rattle.serde_json.specs.Data.{Data}
use Rattle.base_bech32.specs.declared.form.Form.{Form}
use Rattle.base_coins.specs.Steps.{◌>>=◌}
use Rattle.base_messages.specs.declared.faults.LineFault.{LineFault}
use Rattle.base_messages.specs.declared.faults.LineFault.TheVariants as why
use Rattle.line_json.specs.Reading.{Fails, tree_of, value_of}
use Rattle.mod_statement.specs.declared.statement.Statement.{Statement}
use Rattle.line_statements.specs.{declared.reading.Spelled.Spelled, Spelled.spelled_of}
use Rattle.line_statements.specs.Statements.{statement_of, statement_of_tree}

-- what was read, in the type of its own
abbrev in_own : Result Statement LineFault → Result Spelled LineFault
in_own read = read >>= λ s. Ok (record { statement = s })

unwrapped : (read : Result Statement LineFault) (s : Spelled) → in_own read ≡ Ok s → read ≡ Ok s.statement
unwrapped (Ok t) s h = cc
unwrapped (Err e) s h = absurd cc

unread : (read : Result Statement LineFault) (e : LineFault) → in_own read ≡ Err e → read ≡ Err e
unread (Ok t) e h = absurd cc
unread (Err d) e h = cc

-- a line is read in it exactly as a statement is
same_line : (f : Form) (tree : Result Data LineFault) (read : Result Statement LineFault) (own : Result Spelled LineFault)
    → read ≡ (tree >>= statement_of_tree f) → own ≡ (tree >>= spelled_of f) → own ≡ in_own read
same_line f (Ok d) read own h k = rw (h, k) refl
same_line f (Err e) read own h k = rw (h, k) refl

pub statement_read : (f : Form) (line : List ℕ) (s : Spelled) → value_of (spelled_of f) line ≡ Ok s → statement_of f line ≡ Ok s.statement
unfolding statement_of
statement_read f line s h =
    let read = statement_of f line in
    unwrapped read s (sym (same_line f (tree_of line) read (value_of (spelled_of f) line) refl refl) ∙ h)

pub statement_unread : (f : Form) (line : List ℕ) (fault : LineFault) → Fails fault (value_of (spelled_of f) line) → Fails fault (statement_of f line)
unfolding statement_of
statement_unread f line why.NoMemory h = tt
statement_unread f line why.NotJson h =
    let read = statement_of f line in
    unread read why.NotJson (sym (same_line f (tree_of line) read (value_of (spelled_of f) line) refl refl) ∙ h)
statement_unread f line (why.BadShape n) h =
    let read = statement_of f line in
    unread read (why.BadShape n) (sym (same_line f (tree_of line) read (value_of (spelled_of f) line) refl refl) ∙ h)
