use Rattle.std.proofs.Common.{◌∙◌, sym, ap}
use Rattle.std.specs.List.{list_any}
use Rattle.base_lists.proofs.RepeatLemmas.{any-put, not_true}
use Rattle.base_lists.proofs.repeats.add_key.Goals as goal

pub returns-in-Ok-clause-added : goal.returns-in-Ok-clause-added
returns-in-Ok-clause-added g c = λ new test. ap (list_any test) c.in-Ok.ensures.keys ∙ any-put _ test c.args.seen.now.keys c.args.key (not_true _ (sym new ∙ c.in-Ok.ensures.added))
