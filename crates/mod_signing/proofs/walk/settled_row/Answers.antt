use Rattle.std.proofs.Common.{◌∙◌}
use Rattle.mod_signing.proofs.LoopLemmas.{row-listed_as, row-unlisted}
use Rattle.mod_signing.proofs.walk.settled_row.Goals as goal

pub returns-in-Some : goal.returns-in-Some
returns-in-Some c = c.unwrap_or.ensures ∙ row-listed_as c.args.rows.now c.known.ensures.settled (c.args.number, c.args.cons.now) c.in-Some.was.now c.in-Some.ensures

pub returns-in-None : goal.returns-in-None
returns-in-None c = c.requires.row ∙ row-unlisted c.args.rows.now c.known.ensures.settled (c.args.number, c.args.cons.now) c.in-None.ensures
