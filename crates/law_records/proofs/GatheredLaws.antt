-- The items of a sound state, in whatever order they come, are gathered as its records.
use Rattle.std.proofs.Common.{◌≡◌, List, Option, Some, None, ap, subst, IfSome, IsSome, IsPermutation}
use Rattle.std.proofs.lemmas.List.Sorted.{Contains-permutation, IsPermutation-sym}
use Rattle.base_roles.specs.declared.items.Item.{Item}
use Rattle.base_records.proofs.MemberLemmas.{Member, contained, member}
use Rattle.rule_modules.specs.{Chain.State, Sound.IsSound}
use Rattle.rule_machine.specs.Items.{items_of}
use Rattle.store_records.specs.{Gathering.records_in, Plain.{PlainSeen, AreAscending, listed}}
use Rattle.store_records.proofs.ListedLemmas.{same_records}
use Rattle.law_records.{specs.{Listed.StatesAreGathered, Records.plain_of}, proofs.AscendLaws.records_ascend}
use Rattle.law_records.proofs.ListedLaws.{listed_gathered, records_listed}
use Rattle.law_records.proofs.RecordLaws.{items_are_listed, plain_ascends}

moved : (xs ys : List Item) → IsPermutation xs ys → (i : Item) → Member xs i → Member ys i
moved xs ys s i m = member ys i (Contains-permutation xs ys i s (contained xs i m))

pub states_gathered : StatesAreGathered
states_gathered p items s m = by (records_in items) (listed_gathered (plain_of p) items (plain_ascends p s) own) (records_listed items) (records_ascend items)
  where
    own : IsPermutation (listed (plain_of p)) items
    own = subst (λ (l : List Item). IsPermutation l items) (items_are_listed p) m

    by : (o : Option PlainSeen) → IsSome o → IfSome o (λ r. IsPermutation (listed r) items) → IfSome o (λ r. AreAscending r.lists) → o ≡ Some (plain_of p)
    by None some h a = absurd cc
    by (Some r) some h a = ap Some (same_records r (plain_of p) a (plain_ascends p s)
        (λ i n. moved items (listed (plain_of p)) (IsPermutation-sym (listed (plain_of p)) items own) i (moved (listed r) items h i n))
        (λ i n. moved items (listed r) (IsPermutation-sym (listed r) items h) i (moved (listed (plain_of p)) items own i n)))
