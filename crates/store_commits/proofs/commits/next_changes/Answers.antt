use Rattle.store_commits.proofs.Committing.{all_can_be_written, next_commit, next_made, next_taken}
use Rattle.store_commits.proofs.commits.next_changes.Goals as goal

pub changes_of-requires : goal.changes_of-requires
changes_of-requires c =
    let r = c.requires.risen in
    all_can_be_written (c.in-Ok.ensures.changes r.0 r.1 r.2 r.3) (c.items_can_be_kept.ensures.written r.1 r.3.sound) c.deref.ensures.value

pub returns-in-Ok-changes_of-clause-made : goal.returns-in-Ok-changes_of-clause-made
returns-in-Ok-changes_of-clause-made c = λ p q settled stands.
    let r = c.requires.risen in
    let once = c.items_can_be_kept.ensures.once in
    let list = c.in-Ok-changes_of.ensures in
    let made = next_made r.0 r.1 _ _ _ (c.in-Ok.ensures.changes r.0 r.1 r.2 r.3) c.deref.ensures.value list.changes list.in_range in
    let ordinary = next_taken c.commits_reach_new_rows.ensures.ordinary r.0 r.1 _ (once r.0 r.2.sound) (once r.1 r.3.sound) r.4 made in
    next_commit p q _ _ _ ordinary (once q stands.sound) (c.items_can_be_kept.ensures.written q stands.sound) (c.in-Ok.ensures.changes p q settled stands) c.deref.ensures.value list.changes list.have_rows list.in_range
