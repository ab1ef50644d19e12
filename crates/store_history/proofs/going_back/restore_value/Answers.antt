use Rattle.std.proofs.Common.{◌∙◌, List, Option, ap, ℕ}
use Rattle.store_history.{specs.Commits.made_by, proofs.KeepingLemmas.on_ok}
use Rattle.store_history.proofs.going_back.restore_value.Goals as goal

pub returns-in-Some : goal.returns-in-Some
returns-in-Some c = on_ok c.put_copy.result c.put_copy.ensures (λ is. is ∙ ap (λ (o : Option (List ℕ)). made_by c.args.key.now o c.args.rows.now) c.in-Some.ensures)

pub returns-in-None : goal.returns-in-None
returns-in-None c = c.remove.ensures ∙ ap (λ (o : Option (List ℕ)). made_by c.args.key.now o c.args.rows.now) c.in-None.ensures
