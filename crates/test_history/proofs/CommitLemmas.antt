-- Changes that put a head and one row are ordinary.
use Rattle.std.proofs.Common.{◌≡◌, ◌⊎◌, inl, inr, ℕ, ◌≤◌, List, [], ◌∷◌, length, refl, subst, arith}
use Rattle.base_io.specs.{declared.keeper.Row.Row, Changes.{IsOrdinary, IsReserved}}
use Rattle.base_io.specs.declared.keeper.Change.TheVariants as change

one_is_free : (key : List ℕ) → key ≡ 1 ∷ [] → IsReserved key → ⊥
one_is_free key is held = elim (subst (λ (k : List ℕ). IsReserved k) is held) [ inl e ↦ cc | inr e ↦ cc ]

other_is_free : (key : List ℕ) → key ≡ 32 ∷ [] → IsReserved key → ⊥
other_is_free key is held = elim (subst (λ (k : List ℕ). IsReserved k) is held) [ inl e ↦ cc | inr e ↦ cc ]

pub head_and_row_ordinary : (head other : Row) → head.key.items ≡ 1 ∷ [] → length head.value.items ≡ 9 → other.key.items ≡ 32 ∷ [] → IsOrdinary (change.Put head ∷ change.Put other ∷ [])
head_and_row_ordinary head other key long other_key = record {
  distinct = ((λ e. cc, tt), (tt, tt));
  head = (change.Put head, (0, omega arith, refl), (key, omega (arith, long)));
  free = (one_is_free head.key.items key, (other_is_free other.key.items other_key, tt));
}
