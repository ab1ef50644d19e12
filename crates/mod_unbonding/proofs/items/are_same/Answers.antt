use Rattle.mod_unbonding.proofs.SameLemmas.{other-lengths}
use Rattle.mod_unbonding.proofs.items.are_same.Goals as goal

pub returns-then-entries-others : goal.returns-then-entries-others
returns-then-entries-others c = other-lengths c.args.entries.now c.args.others.now c.if-entries-others.true
