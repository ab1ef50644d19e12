use Rattle.std.proofs.Common.{◌≡◌, List, [], ◌∷◌, ap, length, rules, subst, sym}
use Rattle.base_io.specs.{declared.keeper.Change.Change, Changes.IsOrdinary}
use Rattle.base_io.specs.declared.keeper.Change.TheVariants as change
use Rattle.test_history.proofs.CommitLemmas.{head_and_row_ordinary}
use Rattle.test_history.proofs.keeper_tests.head_and_row.Goals as goal

pub returns : goal.returns
returns c =
    let items : c.in_ok-vec.field-0.items ≡ change.Put c.in_ok-head.head ∷ change.Put c.in_ok-other.other ∷ [] = search rules in
    let key : c.in_ok-head.head.key.items ≡ 1 ∷ [] = search rules in
    let long : length c.in_ok-head.head.value.items ≡ 9 = ap length c.in_ok-head.ensures.value in
    let other : c.in_ok-other.other.key.items ≡ 32 ∷ [] = search rules in
    subst (λ (list : List Change). IsOrdinary list) (sym items) (head_and_row_ordinary c.in_ok-head.head c.in_ok-other.other key long other)
