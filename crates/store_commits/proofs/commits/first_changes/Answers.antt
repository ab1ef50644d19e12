use Rattle.std.proofs.Common.{◌∙◌}
use Rattle.store_commits.proofs.Committing.{all_writable, first_commit}
use Rattle.store_commits.proofs.commits.first_changes.Goals as goal

pub puts_of-requires : goal.puts_of-requires
puts_of-requires c =
    let q = c.requires.stands in
    all_writable (c.items_can_be_kept.ensures.written q.0 q.1.sound) (c.deref.ensures.value ∙ c.in-Ok.ensures.items q.0 q.1)

pub returns-in-Ok-puts_of-clause-made : goal.returns-in-Ok-puts_of-clause-made
returns-in-Ok-puts_of-clause-made c = λ q stands.
    first_commit c.commits_reach_new_rows.ensures.ordinary q _ _ (c.items_can_be_kept.ensures.once q stands.sound) (c.deref.ensures.value ∙ c.in-Ok.ensures.items q stands) c.in-Ok-puts_of.ensures.changes c.in-Ok-puts_of.ensures.have_rows
