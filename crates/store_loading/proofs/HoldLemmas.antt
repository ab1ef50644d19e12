-- Items that are put into a module one after another.
use Rattle.std.proofs.Common.{◌≡◌, ◌∙◌, ℕ, zero, suc, ◌+◌, ◌<◌, ◌≤◌, Bool, true, false, List, [], ◌∷◌, ◌++◌, get_or, length, map, take, take_all, refl, sym, ap, subst, arith, inl, inr, ◌≢◌, ◌⊎◌, Contains}
use Rattle.std.proofs.lemmas.List.{take_more}
use Rattle.base_roles.specs.{declared.items.Item.Item, Items.{key_of, HasRoom, IsAdded, IsEmptyPool}}
use Rattle.base_records.proofs.KindLemmas.{once-told}
use Rattle.base_records.proofs.MemberLemmas.{Member, Once, contained, member, member-cases, member-left, member-right}
use Rattle.store_loading.specs.Loaded.{HasNone, HaveOwnKeys, Holds}

-- ---- keys of items before a place

key_member : (items : List Item) (n : ℕ) (d : Item) → n < length items → Member (map key_of items) (key_of (get_or items n d))
key_member [] n d lt = absurd (omega (arith, lt))
key_member (x ∷ items) zero d lt = inl refl
key_member (x ∷ items) (suc n) d lt = let less : n < length items = omega (arith, lt) in inr (key_member items n d less)

keys_apart : (items : List Item) (n : ℕ) (d i : Item) → Once (map key_of items) → n < length items → Member (take n items) i → key_of i ≡ key_of (get_or items n d) → ⊥
keys_apart [] n d i once lt m e = absurd (omega (arith, lt))
keys_apart (x ∷ items) zero d i once lt m e = m
keys_apart (x ∷ items) (suc n) d i once lt (inl q) e =
    let less : n < length items = omega (arith, lt) in
    once.0 (subst (Member (map key_of items)) (sym e ∙ sym (ap key_of q)) (key_member items n d less))
keys_apart (x ∷ items) (suc n) d i once lt (inr m) e = let less : n < length items = omega (arith, lt) in keys_apart items n d i once.1 less m e

-- ---- the items so far

-- A module has just so many of the first items, as far as they are of its kinds.
pub record Holding (is_kind : Item → Bool) (given : List Item) (place : ℕ) (kept : List Item) : Type 0 where
  pub all : (i : Item) → Member (take place given) i → is_kind i ≡ true → Member kept i
  pub only : (i : Item) → Member kept i → Member (take place given) i ⊎ IsEmptyPool i

module _ (is_kind : Item → Bool) (given : List Item) where
  pub none_held : (kept : List Item) → HasNone kept → Holding is_kind given 0 kept
  none_held kept none = record { all = λ i m k. absurd m; only = λ i m. inr (none i (contained kept i m)) }

  pub all_held : (place : ℕ) (kept : List Item) → length given ≤ place → Holding is_kind given place kept → Holds is_kind given kept
  all_held place kept all h = record {
    all = λ i c k. contained kept i (h.all i (subst (λ items. Member items i) (sym (take_all place given all)) (member given i c)) k);
    only = λ i c. only i (h.only i (member kept i c));
  }
    where
      only : (i : Item) → Member (take place given) i ⊎ IsEmptyPool i → Contains given i ⊎ IsEmptyPool i
      only i (inl m) = inl (contained given i (subst (λ items. Member items i) (take_all place given all) m))
      only i (inr e) = inr e

  module _ (own : HaveOwnKeys given) (place : ℕ) (new : Item) (lt : place < length given) (is : new ≡ get_or given place new) (kept : List Item) (h : Holding is_kind given place kept) where
    apart : (i : Item) → Member (take place given) i → key_of i ≢ key_of new
    apart i m e = keys_apart given place new i (once-told (map key_of given) own) lt m (e ∙ ap key_of is)

    pub has_room : HasRoom kept new
    has_room i c e = by (h.only i (member kept i c))
      where
        by : Member (take place given) i ⊎ IsEmptyPool i → IsEmptyPool i
        by (inl m) = absurd (apart i m e)
        by (inr p) = p

    one_more : take (place + 1) given ≡ take place given ++ new ∷ []
    one_more = take_more given place new lt ∙ ap (λ x. take place given ++ x ∷ []) (sym is)

    -- the first items with one more are those before and this one
    before : (i : Item) → Member (take place given) i → Member (take (place + 1) given) i
    before i m = subst (λ items. Member items i) (sym one_more) (member-left (take place given) (new ∷ []) i m)

    last : Member (take (place + 1) given) new
    last = subst (λ items. Member items new) (sym one_more) (member-right (take place given) (new ∷ []) new (inl refl))

    cases : (i : Item) → Member (take (place + 1) given) i → Member (take place given) i ⊎ (i ≡ new)
    cases i m = by (member-cases (take place given) (new ∷ []) i (subst (λ items. Member items i) one_more m))
      where
        by : Member (take place given) i ⊎ Member (new ∷ []) i → Member (take place given) i ⊎ (i ≡ new)
        by (inl b) = inl b
        by (inr (inl e)) = inr (sym e)
        by (inr (inr n)) = absurd n

    added_held : (kept2 : List Item) → IsAdded kept new kept2 → Holding is_kind given (place + 1) kept2
    added_held kept2 added = record { all = λ i m k. stands i k (cases i m); only = λ i m. only i ((added i).0 (contained kept2 i m)) }
      where
        stands : (i : Item) → is_kind i ≡ true → Member (take place given) i ⊎ (i ≡ new) → Member kept2 i
        stands i k (inl m) = member kept2 i ((added i).1 (inr (contained kept i (h.all i m k), apart i m)))
        stands i k (inr e) = member kept2 i ((added i).1 (inl e))

        older : (i : Item) → Member (take place given) i ⊎ IsEmptyPool i → Member (take (place + 1) given) i ⊎ IsEmptyPool i
        older i (inl m) = inl (before i m)
        older i (inr e) = inr e

        only : (i : Item) → (i ≡ new) ⊎ (Contains kept i × (key_of i ≢ key_of new)) → Member (take (place + 1) given) i ⊎ IsEmptyPool i
        only i (inl e) = inl (subst (Member (take (place + 1) given)) (sym e) last)
        only i (inr c) = older i (h.only i (member kept i c.0))

    other_held : is_kind new ≡ false → Holding is_kind given (place + 1) kept
    other_held other = record { all = λ i m k. stands i k (cases i m); only = λ i m. only i (h.only i m) }
      where
        stands : (i : Item) → is_kind i ≡ true → Member (take place given) i ⊎ (i ≡ new) → Member kept i
        stands i k (inl m) = h.all i m k
        stands i k (inr e) = let clash : true ≡ false = sym k ∙ ap is_kind e ∙ other in absurd cc

        only : (i : Item) → Member (take place given) i ⊎ IsEmptyPool i → Member (take (place + 1) given) i ⊎ IsEmptyPool i
        only i (inl m) = inl (before i m)
        only i (inr e) = inr e

    pub one_held : (kept2 : List Item) → (is_kind new ≡ true → IsAdded kept new kept2) → (is_kind new ≡ false → kept2 ≡ kept) → Holding is_kind given (place + 1) kept2
    one_held kept2 added other = by (is_kind new) refl
      where
        by : (b : Bool) → is_kind new ≡ b → Holding is_kind given (place + 1) kept2
        by true e = added_held kept2 (added e)
        by false e = subst (Holding is_kind given (place + 1)) (sym (other e)) (other_held e)
