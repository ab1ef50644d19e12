use Rattle.std.proofs.Common.{◌∙◌, ap, option_and_then}
use Rattle.store_history.specs.History.{height_in}
use Rattle.store_history.proofs.changes.named_by.Goals as goal

pub returns-in-Some : goal.returns-in-Some
returns-in-Some c = c.height_in.ensures ∙ ap (option_and_then height_in) c.in-Some.ensures

pub returns-in-None : goal.returns-in-None
returns-in-None c = ap (option_and_then height_in) c.in-None.ensures
