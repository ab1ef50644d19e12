use Rattle.mod_redelegation.proofs.PartLemmas.{left-none, left-some, some_counted}
use Rattle.mod_redelegation.proofs.slashing.part_left.Goals as goal

pub returns-then-lost-eq0 : goal.returns-then-lost-eq0
returns-then-lost-eq0 c = left-none c.args.factor c.args.given c.args.count c.args.lost c.share_of-part.result c.if-lost-eq0.true c.share_of-part.ensures

pub rest_of-requires-clause-positive : goal.rest_of-requires-clause-positive
rest_of-requires-clause-positive c = some_counted c.args.lost c.args.count c.requires.lost c.if-lost-eq0.false

pub returns : goal.returns
returns c = left-some c.args.factor c.args.given c.args.count c.args.lost c.share_of-part.result c.rest_of.result c.if-lost-eq0.false c.share_of-part.ensures c.rest_of.ensures
