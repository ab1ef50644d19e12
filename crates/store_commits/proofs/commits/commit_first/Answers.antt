use Rattle.std.proofs.Common.{[]}
use Rattle.rule_machine.specs.Items.{items_of}
use Rattle.store_commits.proofs.Committing.{not_committed}
use Rattle.store_commits.proofs.commits.commit_first.Goals as goal

pub commit_made-requires : goal.commit_made-requires
commit_made-requires g c =
    let q = c.requires.stands in
    record { made = ([], items_of q.0, rw c.deref.ensures.value (c.in-Ok.ensures.made q.0 q.1), c.requires.holds) }

pub returns-in-Ok-clause-commits : goal.returns-in-Ok-clause-commits
returns-in-Ok-clause-commits g c = λ q stands. c.commit_made.ensures.commits _ _ (rw c.deref.ensures.value (c.in-Ok.ensures.made q stands)) c.requires.holds

pub returns-in-Err-clause-commits : goal.returns-in-Err-clause-commits
returns-in-Err-clause-commits g c = λ q stands. rw c.in-Err.ensures.fault (not_committed _ _ _ _)
