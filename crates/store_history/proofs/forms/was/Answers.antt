use Rattle.store_history.proofs.RestoreLemmas.{was_none, was_some}
use Rattle.store_history.proofs.forms.was.Goals as goal

pub returns-then-tag-eq0 : goal.returns-then-tag-eq0
returns-then-tag-eq0 c = was_none c.args.value.now c.in-Some.rest.now c.in-Some.tag.now c.in-Some.ensures.cases.0 c.if-tag-eq0.true

pub returns-else-tag-eq0 : goal.returns-else-tag-eq0
returns-else-tag-eq0 c = was_some c.args.value.now c.in-Some.rest.now c.in-Some.tag.now c.in-Some.ensures.cases.0 c.if-tag-eq0.false
