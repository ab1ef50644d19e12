use Rattle.rule_machine.specs.Items.{items_of}
use Rattle.store_commits.proofs.Committing.{not_committed}
use Rattle.store_commits.proofs.commits.commit_next.Goals as goal

pub next_changes-requires : goal.next_changes-requires
next_changes-requires g c = let h = c.requires.holds in record { risen = (h.0, h.1, h.2, h.3, h.4) }

pub commit_made-requires : goal.commit_made-requires
commit_made-requires g c =
    let h = c.requires.holds in
    record { made = (items_of h.0, items_of h.1, rw c.deref.ensures.value (c.in-Ok.ensures.made h.0 h.1 h.2 h.3), h.5) }

pub returns-in-Ok-commit_made-clause-commits : goal.returns-in-Ok-commit_made-clause-commits
returns-in-Ok-commit_made-clause-commits g c = λ q stands.
    let h = c.requires.holds in
    c.in-Ok-commit_made.ensures.commits _ _ (rw c.deref.ensures.value (c.in-Ok.ensures.made h.0 q h.2 stands)) h.5

pub returns-clause-commits : goal.returns-clause-commits
returns-clause-commits g c = λ q stands.
    let h = c.requires.holds in
    c.in-Err-commit_made.ensures.commits _ _ (rw c.deref.ensures.value (c.in-Ok.ensures.made h.0 q h.2 stands)) h.5

pub returns-in-Err-clause-commits : goal.returns-in-Err-clause-commits
returns-in-Err-clause-commits g c = λ q stands. rw c.in-Err.ensures.fault (not_committed _ _ _ _)
