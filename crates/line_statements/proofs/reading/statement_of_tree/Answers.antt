use Rattle.std.proofs.Common.{◌≡◌, refl, Err, rules}
use Rattle.line_json.proofs.ReadingLemmas.{fault_given}
use Rattle.line_statements.specs.Statements.{statement_of_tree}
use Rattle.line_statements.proofs.reading.statement_of_tree.Goals as goal

pub returns-in_err-only_named : goal.returns-in_err-only_named
unfolding statement_of_tree
returns-in_err-only_named g c =
    let given : c.from_residual-in_err-only_named.result ≡ Err c.in_err-only_named.field-0.0 = search rules in
    rw (← c.in_ok-word_at.ensures, ← c.in_ok-delegator.ensures, ← c.in_ok-operator.ensures, ← c.in_ok-height.ensures, c.in_ok-reward.ensures, c.in_ok-low.ensures, c.in_ok-high.ensures, c.in_ok-slack.ensures, ← c.in_ok-removals.ensures, c.in_ok-ratio.ensures, c.in_ok-entries.ensures, ← c.in_err-only_named.ensures) (fault_given (λ statement. statement) _ _ given)

pub returns : goal.returns
unfolding statement_of_tree
returns g c = rw (← c.in_ok-word_at.ensures, ← c.in_ok-delegator.ensures, ← c.in_ok-operator.ensures, ← c.in_ok-height.ensures, c.in_ok-reward.ensures, c.in_ok-low.ensures, c.in_ok-high.ensures, c.in_ok-slack.ensures, ← c.in_ok-removals.ensures, c.in_ok-ratio.ensures, c.in_ok-entries.ensures, ← c.in_ok-only_named.ensures) refl
