use Rattle.test_values.proofs.RowKindLemmas.{kinds-apart}
use Rattle.test_values.proofs.row_tests.listed.Goals as goal

pub known-requires : goal.known-requires
known-requires g c = record { told = ((λ k v m. tt, λ k v m. tt), (λ k v m. tt, λ k v m. tt), kinds-apart) }

pub items_into-requires : goal.items_into-requires
items_into-requires g c = record { told = ((λ k v m. tt, λ k v m. tt), (λ k v m. tt, λ k v m. tt), kinds-apart) }

pub changes_into-told-requires : goal.changes_into-told-requires
changes_into-told-requires g c = record { told = ((λ k v m. tt, λ k v m. tt), (λ k v m. tt, λ k v m. tt), kinds-apart) }
