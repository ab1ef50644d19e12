-- What is listed as touched once a key is touched; and that a row is listed only where the entry of its address is.
use Rattle.std.proofs.Common.{◌≡◌, ◌∙◌, ◌⊎◌, inl, inr, ℕ, ◌==◌, Bool, true, false, cond, List, [], ◌∷◌, ◌++◌, length, Option, Some, None, refl, sym, ap, ◌&&◌, is_some, if◌then◌else◌, Ordering, is_eq}
use Rattle.std.specs.{BTreeMap.is_at, Cmp.{IsTotalOrder, tied_itself}}
use Rattle.base_types.specs.Orders.{cons_cmp}
use Rattle.base_table.specs.Tabled.{Tabled, key_in, spent_now, touched_with, value_at, with_value}
use Rattle.base_table.proofs.RestoredLemmas.{key_in-tied}
use Rattle.mod_signing.specs.{declared.entry.Entry.Entry, Kept.{HaveSameMarks, behind, kept_of, windowed}}
use Rattle.mod_signing.{specs.Rings.{Rows, row_cmp}, proofs.TableLemmas.{cons_exact, cons_total, row_found, row_total}}
use Rattle.base_records.specs.Marks.{side_by_side}

module _ {K V : Type 0} {R : K → K → Ordering} (o : IsTotalOrder R) where
  -- behind the last, under another key
  behind-other : (ts : List (K × Option V)) (e : K × Option V) (q : K) → is_at (R q) e.0 ≡ false → value_at R (ts ++ e ∷ []) q ≡ value_at R ts q
  behind-other [] e q h = ap (λ b. cond b (Some e.1) None) h
  behind-other (t ∷ ts) e q h = ap (cond (is_at (R q) t.0) (Some t.1)) (behind-other ts e q h)

  -- behind the last, under this key
  behind-some : (ts : List (K × Option V)) (e : K × Option V) (q : K) → is_at (R q) e.0 ≡ true → is_some (value_at R (ts ++ e ∷ []) q) ≡ true
  behind-some [] e q h = ap (λ b. is_some (cond b (Some e.1) None)) h
  behind-some (t ∷ ts) e q h = by (is_at (R q) t.0) (behind-some ts e q h)
    where
      by : (b : Bool) → is_some (value_at R (ts ++ e ∷ []) q) ≡ true → is_some (cond b (Some t.1) (value_at R (ts ++ e ∷ []) q)) ≡ true
      by true later = refl
      by false later = later

  pub touched-other : (ts : List (K × Option V)) (es : List (K × V)) (k q : K) → is_at (R q) k ≡ false → value_at R (touched_with R ts es k) q ≡ value_at R ts q
  touched-other ts es k q h = by (is_some (value_at R ts k))
    where
      by : (b : Bool) → value_at R (if b then ts else ts ++ (key_in R es k, value_at R es k) ∷ []) q ≡ value_at R ts q
      by true = refl
      by false = behind-other ts (key_in R es k, value_at R es k) q (key_in-tied o es q k ∙ h)

  pub touched-itself : (ts : List (K × Option V)) (es : List (K × V)) (k : K) → is_some (value_at R (touched_with R ts es k) k) ≡ true
  touched-itself ts es k = by (is_some (value_at R ts k)) refl
    where
      by : (b : Bool) → is_some (value_at R ts k) ≡ b → is_some (value_at R (if b then ts else ts ++ (key_in R es k, value_at R es k) ∷ []) k) ≡ true
      by true h = h
      by false h = behind-some ts (key_in R es k, value_at R es k) k (key_in-tied o es k k ∙ ap is_eq (tied_itself o k))

-- ---- entries and rows

not_none : {A : Type 0} (x : Option A) → is_some x ≡ true → x ≡ None → ⊥
not_none None h e = absurd cc
not_none (Some a) h e = absurd cc

and_false : (b : Bool) → b && false ≡ false
and_false true = refl
and_false false = refl

-- an address that is not listed once another is was not listed before
unlisted : (ts : List (List ℕ × Option Entry)) (es : List (List ℕ × Entry)) (cons c : List ℕ) → value_at cons_cmp (touched_with cons_cmp ts es cons) c ≡ None
    → (is_eq (cons_cmp c cons) ≡ false) × (value_at cons_cmp ts c ≡ None)
unlisted ts es cons c none = by (is_eq (cons_cmp c cons)) refl
  where
    by : (b : Bool) → is_eq (cons_cmp c cons) ≡ b → (is_eq (cons_cmp c cons) ≡ false) × (value_at cons_cmp ts c ≡ None)
    by false e = (e, sym (touched-other cons_total ts es cons c e) ∙ none)
    by true e = absurd (not_none (value_at cons_cmp (touched_with cons_cmp ts es cons) cons) (touched-itself cons_total ts es cons)
        (ap (λ k. value_at cons_cmp (touched_with cons_cmp ts es cons) k) (sym (cons_exact c cons e)) ∙ none))

-- a row of another address is listed as before
pub row-touched : (rs : List ((ℕ × List ℕ) × Option ℕ)) (rows : Rows) (cons : List ℕ) (number : ℕ) (other : List ℕ) (n : ℕ) → is_eq (cons_cmp other cons) ≡ false
    → value_at row_cmp (touched_with row_cmp rs rows (number, cons)) (n, other) ≡ value_at row_cmp rs (n, other)
row-touched rs rows cons number other n e = touched-other row_total rs rows (number, cons) (n, other) (row_found n number other cons ∙ ap (λ b. (n == number) && b) e ∙ and_false (n == number))

-- ---- a change of both

-- an entry was put, or memory was wanting
abbrev pub IsTried : Tabled (List ℕ) Entry → Tabled (List ℕ) Entry → List ℕ → Entry → Type 0
IsTried e e2 cons x = (e2 ≡ spent_now e) ⊎ (e2 ≡ with_value cons_cmp e cons x)

module _ (e e2 : Tabled (List ℕ) Entry) (cons : List ℕ) (x : Entry) where
  pub other-unlisted : e2 ≡ with_value cons_cmp e cons x → (c : List ℕ) → value_at cons_cmp e2.touched c ≡ None → is_eq (cons_cmp c cons) ≡ false
  other-unlisted is c none = (unlisted e.touched e.settled cons c (ap (λ t. value_at cons_cmp t.touched c) (sym is) ∙ none)).0

  tried-unlisted : IsTried e e2 cons x → (c : List ℕ) → value_at cons_cmp e2.touched c ≡ None → value_at cons_cmp e.touched c ≡ None
  tried-unlisted (inl is) c none = ap (λ t. value_at cons_cmp t.touched c) (sym is) ∙ none
  tried-unlisted (inr is) c none = (unlisted e.touched e.settled cons c (ap (λ t. value_at cons_cmp t.touched c) (sym is) ∙ none)).1

  tried-marks : IsTried e e2 cons x → e2.marks ≡ e.marks
  tried-marks (inl is) = ap (λ t. t.marks) is
  tried-marks (inr is) = ap (λ t. t.marks) is

  tried-settled : IsTried e e2 cons x → e2.settled ≡ e.settled
  tried-settled (inl is) = ap (λ t. t.settled) is
  tried-settled (inr is) = ap (λ t. t.settled) is

  module _ (r r2 : Tabled (ℕ × List ℕ) ℕ) (tried : IsTried e e2 cons x) (marks : r2.marks ≡ r.marks) where
    -- the tables stay in step where no other row is listed than those of addresses that are
    pub in_step-tried : HaveSameMarks e r → ((c : List ℕ) (n : ℕ) → value_at cons_cmp e2.touched c ≡ None → value_at row_cmp r2.touched (n, c) ≡ value_at row_cmp r.touched (n, c)) → HaveSameMarks e2 r2
    in_step-tried h same = record {
      depth = ap length marks ∙ h.depth ∙ sym (ap length (tried-marks tried));
      touched = λ c n none. same c n none ∙ h.touched c n (tried-unlisted tried c none);
    }

    -- open marks and what was settled stay
    pub behind-tried : r2.settled ≡ r.settled → (spent spent2 : Bool) → behind (windowed e2 r2 spent2) ≡ behind (windowed e r spent)
    behind-tried settled spent spent2 = λ i. record {
      marks = side_by_side kept_of (tried-marks tried i) (marks i);
      settled = kept_of (tried-settled tried i) (settled i);
    }

-- a row that was put of an address whose entry was
pub row-listed : (e e2 : Tabled (List ℕ) Entry) (r r2 : Tabled (ℕ × List ℕ) ℕ) (cons : List ℕ) (x : Entry) (number row : ℕ) → e2 ≡ with_value cons_cmp e cons x → r2 ≡ with_value row_cmp r (number, cons) row
    → (c : List ℕ) (n : ℕ) → value_at cons_cmp e2.touched c ≡ None → value_at row_cmp r2.touched (n, c) ≡ value_at row_cmp r.touched (n, c)
row-listed e e2 r r2 cons x number row is put c n none = ap (λ t. value_at row_cmp t.touched (n, c)) put ∙ row-touched r.touched r.settled cons number c n (other-unlisted e e2 cons x is c none)

-- a table that is spent is else as it was
pub spent-is : (r r2 : Tabled (ℕ × List ℕ) ℕ) → r2 ≡ spent_now r → r2 ≡ record r { spent = r2.spent }
spent-is r r2 is = is ∙ (λ i. record r { spent = (sym is i).spent })
