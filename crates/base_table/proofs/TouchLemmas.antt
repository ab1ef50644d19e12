-- What a table's touched list tells of the last settling.
use Rattle.std.proofs.Common.{◌≡◌, List, Option, sym, ◌∙◌, ap, subst, Ordering}
use Rattle.std.specs.{Cmp.IsTotalOrder, List.{IsDistinct, Sorted.IsStrictlySortedBy}, Map.keys_of, Ordering.eq_by_cmp}
use Rattle.base_table.specs.{Restored.restored, Tabled.{value_at, Tabled, TellsSettled}}
use Rattle.base_table.proofs.RestoredLemmas.{sorted-restored, value-listed, value-other}

pub tells : {K V : Type 0} {R : K → K → Ordering} (o : IsTotalOrder R) (t : Tabled K V) (ts : List (K × Option V)) (es : List (K × V)) → IsStrictlySortedBy R (keys_of es) → IsDistinct (eq_by_cmp R) (keys_of ts)
    → t.touched ≡ ts → t.entries ≡ es → t.settled ≡ restored R ts es → TellsSettled R t
tells {R = R} o t ts es in_order distinct by_ts by_es by_settled = record {
  distinct = subst (λ l. IsDistinct (eq_by_cmp R) (keys_of l)) (sym by_ts) distinct;
  listed = λ key value is. ap (λ l. value_at R l key) by_settled ∙ value-listed o ts es in_order key value (sym (ap (λ l. value_at R l key) by_ts) ∙ is);
  others = λ key none. ap (λ l. value_at R l key) by_settled ∙ value-other o ts es in_order key (sym (ap (λ l. value_at R l key) by_ts) ∙ none) ∙ sym (ap (λ l. value_at R l key) by_es);
  ordered = subst (λ l. IsStrictlySortedBy R (keys_of l)) (sym by_settled) (sorted-restored o ts es in_order);
}
