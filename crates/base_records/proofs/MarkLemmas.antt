-- Lists of marks, and those of two tables that are marked together.
use Rattle.std.proofs.Common.{◌≡◌, ◌≢◌, ◌∙◌, ◌+◌, ◌<◌, List, [], ◌∷◌, ◌++◌, length, refl, sym, ap, arith}
use Rattle.std.{specs.List.AllByRecursion, proofs.lemmas.List.length_push}
use Rattle.base_records.specs.Marks.{side_by_side, AtEachMark}

-- where some mark is open, their number is positive
pub some_marks : {A : Type 0} (ms : List A) → ms ≢ [] → 0 < length ms
some_marks [] h = absurd (h refl)
some_marks (m ∷ ms) h = omega arith

-- where their number is 0, none is
pub none_from_length : {A : Type 0} (xs : List A) → length xs ≡ 0 → xs ≡ []
none_from_length [] e = refl
none_from_length (x ∷ xs) e = absurd (omega (arith, e))

-- ---- both tables have as many marks

pub pushed_length : {A B : Type 0} (ps : List A) (bs : List B) (a : A) (b : B) → length bs ≡ length ps → length (bs ++ b ∷ []) ≡ length (ps ++ a ∷ [])
pushed_length ps bs a b h = length_push bs b ∙ ap (λ n. n + 1) h ∙ sym (length_push ps a)

pub popped_length : {A B : Type 0} (ps ps2 : List A) (bs bs2 : List B) (a : A) (b : B) → length bs ≡ length ps → ps2 ++ a ∷ [] ≡ ps → bs2 ++ b ∷ [] ≡ bs → length bs2 ≡ length ps2
popped_length ps ps2 bs bs2 a b h p q =
    let c = length_push ps2 a in
    let d = length_push bs2 b in
    let e = ap length p in
    let f = ap length q in
    omega (arith, c, d, e, f, h)

-- ---- side by side

module _ {A B C : Type 0} (both : A → B → C) where
  pub length-side : (xs : List A) (ys : List B) → length ys ≡ length xs → length (side_by_side both xs ys) ≡ length xs
  length-side [] ys h = refl
  length-side (x ∷ xs) [] h = absurd (omega (arith, h))
  length-side (x ∷ xs) (y ∷ ys) h = let f : length ys ≡ length xs = omega (arith, h) in let more = length-side xs ys f in omega (arith, more)

  pub side-push : (xs : List A) (ys : List B) (x : A) (y : B) → length ys ≡ length xs → side_by_side both (xs ++ x ∷ []) (ys ++ y ∷ []) ≡ side_by_side both xs ys ++ both x y ∷ []
  side-push [] [] x y h = refl
  side-push [] (w ∷ ys) x y h = absurd (omega (arith, h))
  side-push (v ∷ xs) [] x y h = absurd (omega (arith, h))
  side-push (v ∷ xs) (w ∷ ys) x y h = let f : length ys ≡ length xs = omega (arith, h) in ap (λ l. both v w ∷ l) (side-push xs ys x y f)

-- ---- what holds at each mark

pub all-push : {A : Type 0} (P : A → Type 0) (xs : List A) (x : A) → AllByRecursion P xs → P x → AllByRecursion P (xs ++ x ∷ [])
all-push P [] x h p = (p, tt)
all-push P (y ∷ xs) x h p = (h.0, all-push P xs x h.1 p)

pub all-pop : {A : Type 0} (P : A → Type 0) (xs : List A) (x : A) → AllByRecursion P (xs ++ x ∷ []) → AllByRecursion P xs × P x
all-pop P [] x h = (tt, h.0)
all-pop P (y ∷ xs) x h = let r = all-pop P xs x h.1 in ((h.0, r.0), r.1)

module _ {A B : Type 0} (P : A → B → Type 0) where
  pub each_mark-push : (xs : List A) (ys : List B) (x : A) (y : B) → length ys ≡ length xs → AtEachMark P xs ys → P x y → AtEachMark P (xs ++ x ∷ []) (ys ++ y ∷ [])
  each_mark-push [] [] x y e h p = (p, tt)
  each_mark-push [] (w ∷ ys) x y e h p = absurd (omega (arith, e))
  each_mark-push (v ∷ xs) [] x y e h p = absurd (omega (arith, e))
  each_mark-push (v ∷ xs) (w ∷ ys) x y e h p = let f : length ys ≡ length xs = omega (arith, e) in (h.0, each_mark-push xs ys x y f h.1 p)

  pub each_mark-pop : (xs : List A) (ys : List B) (x : A) (y : B) → length ys ≡ length xs → AtEachMark P (xs ++ x ∷ []) (ys ++ y ∷ []) → AtEachMark P xs ys × P x y
  each_mark-pop [] [] x y e h = (tt, h.0)
  each_mark-pop [] (w ∷ ys) x y e h = absurd (omega (arith, e))
  each_mark-pop (v ∷ xs) [] x y e h = absurd (omega (arith, e))
  each_mark-pop (v ∷ xs) (w ∷ ys) x y e h = let f : length ys ≡ length xs = omega (arith, e) in let r = each_mark-pop xs ys x y f h.1 in ((h.0, r.0), r.1)
