-- Rows read, and changes written, one after the other.
use Rattle.std.proofs.Common.{◌≡◌, ◌≢◌, ◌∙◌, ℕ, zero, suc, ◌+◌, ◌<◌, List, [], ◌∷◌, ◌++◌, length, get_or, take, map, All, Option, Some, Result, Err, inl, inr, refl, sym, ap, ap₂, subst, arith, IsErrOf}
use Rattle.std.{specs.List.AllByRecursion, proofs.lemmas.List.{map_more, map_push, take_more}}
use Rattle.std.proofs.lemmas.List.Elements.{All-push, recursion_from_All}
use Rattle.sqlite_rules.specs.Lists.{Has}
use Rattle.base_io.specs.{declared.keeper.{Change.TheVariants.Put, Row.Row}, Rows.Pair, Changes.pair_of}
use Rattle.base_roles.specs.declared.items.Item.{Item}
use Rattle.store_rows.specs.{declared.{fault.RowFault.RowFault, format.Format.Format}, Rows.{row_in, row_of}}
use Rattle.store_rows.specs.Spelled.{HasRow}
use Rattle.store_items.specs.Making.{change_seen, item_put}

-- one more of a list that goes beside another
pub one_more : {A B C : Type 0} (f : A → C) (g : B → C) (xs more : List A) (x : A) (ys : List B) (i : ℕ) (y : B) → i < length ys → y ≡ get_or ys i y → map f xs ≡ map g (take i ys) → f x ≡ g y → more ≡ xs ++ x ∷ []
    → map f more ≡ map g (take (i + 1) ys)
one_more {A} {B} {C} f g xs more x ys i y lt is so_far same pushed =
    ap (map f) pushed
    ∙ map_push f xs x
    ∙ ap₂ (λ (zs : List C) (z : C). zs ++ z ∷ []) so_far (same ∙ ap g is)
    ∙ sym (map_more g ys i y lt)

-- what holds of the first ones, and of the next
pub all_more : {A : Type 0} (P : A → Type 0) (ys : List A) (i : ℕ) (y : A) → i < length ys → y ≡ get_or ys i y → All P (take i ys) → P y → All P (take (i + 1) ys)
all_more {A} P ys i y lt is so_far holds = subst (All P) (sym (take_more ys i y lt)) (All-push P (take i ys) (get_or ys i y) so_far (subst P is holds))

-- a put of an item's row is seen as that
pub put_seen : (i : Item) (row : Row) → pair_of row ≡ row_of i → change_seen (Put row) ≡ item_put i
put_seen i row e = ap (λ (p : Pair). (p.0, Some p.1)) e

-- where a row is that of no item, the rows are those of no items
none_has : (f : Format) (rows : List Row) (i : ℕ) (row : Row) → i < length rows → row ≡ get_or rows i row → ((item : Item) → HasRow item → row_in f item ≡ pair_of row → ⊥) → (items : List Item) → AllByRecursion HasRow items → map (row_in f) items ≡ map pair_of rows → ⊥
none_has f [] i row lt is none items all e = absurd (omega (arith, lt))
none_has f (r ∷ rs) i row lt is none [] all e = cc
none_has f (r ∷ rs) zero row lt is none (x ∷ xs) all e = let first : row_in f x ≡ pair_of r = cc in none x all.0 (first ∙ ap pair_of (sym is))
none_has f (r ∷ rs) (suc i) row lt is none (x ∷ xs) all e = let others : map (row_in f) xs ≡ map pair_of rs = cc in none_has f rs i row (omega (arith, lt)) is none xs all.1 others

pub no_items : (f : Format) (rows : List Row) (i : ℕ) (row : Row) → i < length rows → row ≡ get_or rows i row → ((item : Item) → HasRow item → row_in f item ≢ pair_of row) → (items : List Item) → All HasRow items → map (row_in f) items ≢ map pair_of rows
no_items f rows i row lt is none items all = none_has f rows i row lt is none items (recursion_from_All HasRow items all)

abbrev failed : (U : Type 0) → RowFault → Result U RowFault
failed U x = Err x

-- the same fault of another answer
pub same_fault : {T U : Type 0} (e f : RowFault) → IsErrOf {T = T} (Err e) f → IsErrOf {T = U} (Err e) f
same_fault {T} {U} e f bad = ap (failed U) (is e f bad)
  where
    is : (e f : RowFault) → IsErrOf {T = T} (Err e) f → e ≡ f
    is e f h = cc

-- the item of a row
item_by : (f : Format) (items : List Item) (rows : List Row) (i : ℕ) (row : Row) → AllByRecursion HasRow items → map (row_in f) items ≡ map pair_of rows → i < length rows → row ≡ get_or rows i row
    → (x : Item) × HasRow x × (row_in f x ≡ pair_of row) × (take (i + 1) items ≡ take i items ++ x ∷ []) × Has items x
item_by f items [] i row all e lt is = absurd (omega (arith, lt))
item_by f [] (r ∷ rs) i row all e lt is = absurd cc
item_by f (x ∷ xs) (r ∷ rs) zero row all e lt is = let first : row_in f x ≡ pair_of r = cc in (x, all.0, first ∙ ap pair_of (sym is), refl, inl refl)
item_by f (x ∷ xs) (r ∷ rs) (suc i) row all e lt is =
    let others : map (row_in f) xs ≡ map pair_of rs = cc in
    let (y, has, same, more, there) = item_by f xs rs i row all.1 others (omega (arith, lt)) is in
    let k : suc i + 1 ≡ suc (i + 1) = omega arith in
    (y, has, same, ap (λ (n : ℕ). take n (x ∷ xs)) k ∙ ap (λ (l : List Item). x ∷ l) more, inr there)

pub item_at : (f : Format) (items : List Item) (rows : List Row) (i : ℕ) (row : Row) → All HasRow items → map (row_in f) items ≡ map pair_of rows → i < length rows → row ≡ get_or rows i row
    → (x : Item) × HasRow x × (row_in f x ≡ pair_of row) × (take (i + 1) items ≡ take i items ++ x ∷ []) × Has items x
item_at f items rows i row all = item_by f items rows i row (recursion_from_All HasRow items all)
