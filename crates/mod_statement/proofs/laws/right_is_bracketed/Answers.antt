use Rattle.mod_statement.proofs.Bracketing as bracketing
use Rattle.mod_statement.proofs.laws.right_is_bracketed.Goals as goal

pub returns : goal.returns
returns c = bracketing.right_is_bracketed
