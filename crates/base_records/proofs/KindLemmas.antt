-- Items of two kinds side by side: each once, with one more, and as they change.
use Rattle.std.proofs.Common.{◌≡◌, ◌∙◌, ℕ, ◌<◌, Bool, true, false, List, [], ◌∷◌, ◌++◌, Some, length, append_assoc, refl, sym, ap, subst, arith, inl, inr, ◌||◌, suc, slice_get, ◌≢◌, ◌⊎◌, Contains, Result, Ok, Err, OnOk}
use Rattle.base_roles.specs.{declared.items.Item.Item, Items.{key_of, IsOnce, IsAdded, AreChanges}}
use Rattle.base_records.specs.Kinds.{AreApart, AreOf, IsByKey, either}
use Rattle.base_records.proofs.MemberLemmas.{Member, Once, member, contained, member-left, member-right, member-cases, once, once-append}

-- ---- an element that is told once stands in no later place

stands : {A : Type 0} (xs : List A) (x : A) → Member xs x → (j : ℕ) × (j < length xs) × (slice_get xs j ≡ Some x)
stands [] x m = absurd m
stands (y ∷ ys) x (inl e) = (0, omega arith, ap Some e)
stands (y ∷ ys) x (inr m) = let r = stands ys x m in (suc r.0, omega (arith, r.1), r.2)

pub once-told : {A : Type 0} (xs : List A) → IsOnce xs → Once xs
once-told [] h = tt
once-told (x ∷ xs) h = (first, once-told xs rest)
  where
    first : Member xs x → ⊥
    first m =
        let r = stands xs x m in
        let less : suc r.0 < length (x ∷ xs) = omega (arith, r.1) in
        let here : 0 < length (x ∷ xs) = omega arith in
        let same = h 0 (suc r.0) here less (sym r.2) in
        absurd (omega (arith, same))

    rest : IsOnce xs
    rest i j p q e =
        let less : suc i < length (x ∷ xs) = omega (arith, p) in
        let less2 : suc j < length (x ∷ xs) = omega (arith, q) in
        let same = h (suc i) (suc j) less less2 e in
        omega (arith, same)

-- ---- one more, in the place of what had its key

record Adds (xs : List Item) (new : Item) (more : List Item) : Type 0 where
  only : (i : Item) → Member more i → (i ≡ new) ⊎ (Member xs i × (key_of i ≢ key_of new))
  all : (i : Item) → (i ≡ new) ⊎ (Member xs i × (key_of i ≢ key_of new)) → Member more i

module _ (xs : List Item) (new : Item) (more : List Item) where
  pub added : ((i : Item) → Member more i → (i ≡ new) ⊎ (Member xs i × (key_of i ≢ key_of new))) → ((i : Item) → (i ≡ new) ⊎ (Member xs i × (key_of i ≢ key_of new)) → Member more i) → IsAdded xs new more
  added only all i = (λ c. out (only i (member more i c)), λ h. contained more i (all i (within h)))
    where
      out : (i ≡ new) ⊎ (Member xs i × (key_of i ≢ key_of new)) → (i ≡ new) ⊎ (Contains xs i × (key_of i ≢ key_of new))
      out (inl e) = inl e
      out (inr h) = inr (contained xs i h.0, h.1)

      within : (i ≡ new) ⊎ (Contains xs i × (key_of i ≢ key_of new)) → (i ≡ new) ⊎ (Member xs i × (key_of i ≢ key_of new))
      within (inl e) = inl e
      within (inr h) = inr (member xs i h.0, h.1)

  adds : IsAdded xs new more → Adds xs new more
  adds a = record { only = λ i m. within i ((a i).0 (contained more i m)); all = λ i h. member more i ((a i).1 (out i h)) }
    where
      within : (i : Item) → (i ≡ new) ⊎ (Contains xs i × (key_of i ≢ key_of new)) → (i ≡ new) ⊎ (Member xs i × (key_of i ≢ key_of new))
      within i (inl e) = inl e
      within i (inr h) = inr (member xs i h.0, h.1)

      out : (i : Item) → (i ≡ new) ⊎ (Member xs i × (key_of i ≢ key_of new)) → (i ≡ new) ⊎ (Contains xs i × (key_of i ≢ key_of new))
      out i (inl e) = inl e
      out i (inr h) = inr (contained xs i h.0, h.1)

module _ (xs more ys : List Item) (new : Item) (told : IsAdded xs new more) (others : (i : Item) → Member ys i → key_of i ≢ key_of new) where
  -- an item joins the first of two lists, or the second
  pub joins-first : IsAdded (xs ++ ys) new (more ++ ys)
  joins-first = added (xs ++ ys) new (more ++ ys) (λ i m. only_first i (member-cases more ys i m)) all_first
    where
      a : Adds xs new more
      a = adds xs new more told

      kept_first : (i : Item) → (i ≡ new) ⊎ (Member xs i × (key_of i ≢ key_of new)) → (i ≡ new) ⊎ (Member (xs ++ ys) i × (key_of i ≢ key_of new))
      kept_first i (inl e) = inl e
      kept_first i (inr h) = inr (member-left xs ys i h.0, h.1)

      only_first : (i : Item) → Member more i ⊎ Member ys i → (i ≡ new) ⊎ (Member (xs ++ ys) i × (key_of i ≢ key_of new))
      only_first i (inl l) = kept_first i (a.only i l)
      only_first i (inr r) = inr (member-right xs ys i r, others i r)

      cases_first : (i : Item) → key_of i ≢ key_of new → Member xs i ⊎ Member ys i → Member (more ++ ys) i
      cases_first i h (inl l) = member-left more ys i (a.all i (inr (l, h)))
      cases_first i h (inr r) = member-right more ys i r

      all_first : (i : Item) → (i ≡ new) ⊎ (Member (xs ++ ys) i × (key_of i ≢ key_of new)) → Member (more ++ ys) i
      all_first i (inl e) = member-left more ys i (a.all i (inl e))
      all_first i (inr h) = cases_first i h.1 (member-cases xs ys i h.0)

  pub joins-second : IsAdded (ys ++ xs) new (ys ++ more)
  joins-second = added (ys ++ xs) new (ys ++ more) (λ i m. only_second i (member-cases ys more i m)) all_second
    where
      a : Adds xs new more
      a = adds xs new more told

      kept_second : (i : Item) → (i ≡ new) ⊎ (Member xs i × (key_of i ≢ key_of new)) → (i ≡ new) ⊎ (Member (ys ++ xs) i × (key_of i ≢ key_of new))
      kept_second i (inl e) = inl e
      kept_second i (inr h) = inr (member-right ys xs i h.0, h.1)

      only_second : (i : Item) → Member ys i ⊎ Member more i → (i ≡ new) ⊎ (Member (ys ++ xs) i × (key_of i ≢ key_of new))
      only_second i (inl l) = inr (member-left ys xs i l, others i l)
      only_second i (inr r) = kept_second i (a.only i r)

      cases_second : (i : Item) → key_of i ≢ key_of new → Member ys i ⊎ Member xs i → Member (ys ++ more) i
      cases_second i h (inl l) = member-left ys more i l
      cases_second i h (inr r) = member-right ys more i (a.all i (inr (r, h)))

      all_second : (i : Item) → (i ≡ new) ⊎ (Member (ys ++ xs) i × (key_of i ≢ key_of new)) → Member (ys ++ more) i
      all_second i (inl e) = member-right ys more i (a.all i (inl e))
      all_second i (inr h) = cases_second i h.1 (member-cases ys xs i h.0)

-- ---- changes

pub record Changes (old new : List Item) (changes : List (Item × Bool)) : Type 0 where
  pub once : Once changes
  pub stands_only : (i : Item) → Member changes (i, true) → Member new i × (Member old i → ⊥)
  pub stands_all : (i : Item) → Member new i → (Member old i → ⊥) → Member changes (i, true)
  pub gone_only : (i : Item) → Member changes (i, false) → (was : Item) × (Member old was × (i ≡ key_of was) × ((now : Item) → Member new now → key_of now ≢ key_of was))
  pub gone_all : (i : Item) → (was : Item) × (Member old was × (i ≡ key_of was) × ((now : Item) → Member new now → key_of now ≢ key_of was)) → Member changes (i, false)

module _ (old new : List Item) (cs : List (Item × Bool)) where
  pub all-changes : Changes old new cs → AreChanges old new cs
  all-changes a = record {
    once = once cs a.once;
    stands = λ i. (λ c. stand i (a.stands_only i (member cs (i, true) c)), λ k. contained cs (i, true) (a.stands_all i (member new i k.0) (λ m. k.1 (contained old i m))));
    gone = λ i. (λ c. went i (a.gone_only i (member cs (i, false) c)), λ g. contained cs (i, false) (a.gone_all i (g.0, (member old g.0 g.1.0, g.1.1, λ now x. g.1.2 now (contained new now x)))));
  }
    where
      stand : (i : Item) → Member new i × (Member old i → ⊥) → Contains new i × (Contains old i → ⊥)
      stand i s = (contained new i s.0, λ c. s.1 (member old i c))

      went : (i : Item) → (was : Item) × (Member old was × (i ≡ key_of was) × ((now : Item) → Member new now → key_of now ≢ key_of was))
          → (was : Item) × (Contains old was × (i ≡ key_of was) × ((now : Item) → Contains new now → key_of now ≢ key_of was))
      went i g = (g.0, (contained old g.0 g.1.0, g.1.1, λ now c. g.1.2 now (member new now c)))

  told_changes : AreChanges old new cs → Changes old new cs
  told_changes a = record {
    once = once-told cs a.once;
    stands_only = λ i m. stand i ((a.stands i).0 (contained cs (i, true) m));
    stands_all = λ i n ne. member cs (i, true) ((a.stands i).1 (contained new i n, λ c. ne (member old i c)));
    gone_only = λ i m. went i ((a.gone i).0 (contained cs (i, false) m));
    gone_all = λ i g. member cs (i, false) ((a.gone i).1 (g.0, (contained old g.0 g.1.0, g.1.1, λ now c. g.1.2 now (member new now c))));
  }
    where
      stand : (i : Item) → Contains new i × (Contains old i → ⊥) → Member new i × (Member old i → ⊥)
      stand i s = (member new i s.0, λ m. s.1 (contained old i m))

      went : (i : Item) → (was : Item) × (Contains old was × (i ≡ key_of was) × ((now : Item) → Contains new now → key_of now ≢ key_of was))
          → (was : Item) × (Member old was × (i ≡ key_of was) × ((now : Item) → Member new now → key_of now ≢ key_of was))
      went i g = (g.0, (member old g.0 g.1.0, g.1.1, λ now m. g.1.2 now (contained new now m)))

-- those of two lists side by side
module _ {P Q : Item → Type 0} (apart : (i j : Item) → P i → Q j → key_of i ≢ key_of j) (oa na ob nb : List Item) (ca cb : List (Item × Bool)) (a : Changes oa na ca) (b : Changes ob nb cb)
    (was_a : (i : Item) → Member oa i → P i) (now_a : (i : Item) → Member na i → P i) (was_b : (i : Item) → Member ob i → Q i) (now_b : (i : Item) → Member nb i → Q i) where
  no_both : (i : Item) (t : Bool) → Member ca (i, t) → Member cb (i, t) → ⊥
  no_both i true x y = apart i i (now_a i (a.stands_only i x).0) (now_b i (b.stands_only i y).0) refl
  no_both i false x y =
      let g = a.gone_only i x in
      let k = b.gone_only i y in
      apart g.0 k.0 (was_a g.0 g.1.0) (was_b k.0 k.1.0) (sym g.1.1 ∙ k.1.1)

  abbrev Gone : Item → Type 0
  Gone i = (was : Item) × (Member (oa ++ ob) was × (i ≡ key_of was) × ((now : Item) → Member (na ++ nb) now → key_of now ≢ key_of was))

  both_stand : (i : Item) → Member (ca ++ cb) (i, true) → Member (na ++ nb) i × (Member (oa ++ ob) i → ⊥)
  both_stand i m = by (member-cases ca cb (i, true) m)
    where
      not_a : Member na i → (Member oa i → ⊥) → Member oa i ⊎ Member ob i → ⊥
      not_a x ne (inl l) = ne l
      not_a x ne (inr r) = apart i i (now_a i x) (was_b i r) refl

      not_b : Member nb i → (Member ob i → ⊥) → Member oa i ⊎ Member ob i → ⊥
      not_b x ne (inl l) = apart i i (was_a i l) (now_b i x) refl
      not_b x ne (inr r) = ne r

      by : Member ca (i, true) ⊎ Member cb (i, true) → Member (na ++ nb) i × (Member (oa ++ ob) i → ⊥)
      by (inl l) = let s = a.stands_only i l in (member-left na nb i s.0, λ c. not_a s.0 s.1 (member-cases oa ob i c))
      by (inr r) = let s = b.stands_only i r in (member-right na nb i s.0, λ c. not_b s.0 s.1 (member-cases oa ob i c))

  stand_both : (i : Item) → Member (na ++ nb) i → (Member (oa ++ ob) i → ⊥) → Member (ca ++ cb) (i, true)
  stand_both i x ne = by (member-cases na nb i x)
    where
      by : Member na i ⊎ Member nb i → Member (ca ++ cb) (i, true)
      by (inl l) = member-left ca cb (i, true) (a.stands_all i l (λ m. ne (member-left oa ob i m)))
      by (inr r) = member-right ca cb (i, true) (b.stands_all i r (λ m. ne (member-right oa ob i m)))

  both_gone : (i : Item) → Member (ca ++ cb) (i, false) → Gone i
  both_gone i m = by (member-cases ca cb (i, false) m)
    where
      left_now : (was : Item) → Member oa was → ((now : Item) → Member na now → key_of now ≢ key_of was) → (now : Item) → Member na now ⊎ Member nb now → key_of now ≢ key_of was
      left_now was w none now (inl x) = none now x
      left_now was w none now (inr y) = λ e. apart was now (was_a was w) (now_b now y) (sym e)

      right_now : (was : Item) → Member ob was → ((now : Item) → Member nb now → key_of now ≢ key_of was) → (now : Item) → Member na now ⊎ Member nb now → key_of now ≢ key_of was
      right_now was w none now (inl x) = apart now was (now_a now x) (was_b was w)
      right_now was w none now (inr y) = none now y

      by : Member ca (i, false) ⊎ Member cb (i, false) → Gone i
      by (inl l) =
          let g = a.gone_only i l in
          (g.0, (member-left oa ob g.0 g.1.0, g.1.1, λ now c. left_now g.0 g.1.0 g.1.2 now (member-cases na nb now c)))
      by (inr r) =
          let g = b.gone_only i r in
          (g.0, (member-right oa ob g.0 g.1.0, g.1.1, λ now c. right_now g.0 g.1.0 g.1.2 now (member-cases na nb now c)))

  gone_both : (i : Item) → Gone i → Member (ca ++ cb) (i, false)
  gone_both i g = by (member-cases oa ob g.0 g.1.0)
    where
      by : Member oa g.0 ⊎ Member ob g.0 → Member (ca ++ cb) (i, false)
      by (inl l) = member-left ca cb (i, false) (a.gone_all i (g.0, (l, g.1.1, λ now x. g.1.2 now (member-left na nb now x))))
      by (inr r) = member-right ca cb (i, false) (b.gone_all i (g.0, (r, g.1.1, λ now x. g.1.2 now (member-right na nb now x))))

  both_changes : Changes (oa ++ ob) (na ++ nb) (ca ++ cb)
  both_changes = record {
    once = once-append ca cb a.once b.once (λ p m n. no_both p.0 p.1 m n);
    stands_only = both_stand;
    stands_all = stand_both;
    gone_only = both_gone;
    gone_all = gone_both;
  }

-- ---- two kinds that are told apart

module _ {one other : Item → Bool} (one_key : IsByKey one) (other_key : IsByKey other) (apart : AreApart one other) where
  pub keys-differ : (i j : Item) → one i ≡ true → other j ≡ true → key_of i ≢ key_of j
  keys-differ i j p q e =
      let f : true ≡ false = sym q ∙ sym (other_key j) ∙ ap other (sym e) ∙ apart (key_of i) (one_key i ∙ p) in
      absurd cc

  pub once-both : (xs ys : List Item) → AreOf one xs → AreOf other ys → IsOnce xs → IsOnce ys → IsOnce (xs ++ ys)
  once-both xs ys a b p q = once (xs ++ ys) (once-append xs ys (once-told xs p) (once-told ys q)
      (λ i m n. keys-differ i i (a i (contained xs i m)) (b i (contained ys i n)) refl))

  pub changes-both : (oa na ob nb : List Item) (ca cb : List (Item × Bool)) → AreOf one oa → AreOf one na → AreOf other ob → AreOf other nb → AreChanges oa na ca → AreChanges ob nb cb
      → AreChanges (oa ++ ob) (na ++ nb) (ca ++ cb)
  changes-both oa na ob nb ca cb wa na_one wb nb_other p q = all-changes (oa ++ ob) (na ++ nb) (ca ++ cb)
      (both_changes {P = λ i. one i ≡ true} {Q = λ i. other i ≡ true} keys-differ oa na ob nb ca cb (told_changes oa na ca p) (told_changes ob nb cb q)
      (λ i m. wa i (contained oa i m)) (λ i m. na_one i (contained na i m)) (λ i m. wb i (contained ob i m)) (λ i m. nb_other i (contained nb i m)))

  pub added-first : (xs more ys : List Item) (new : Item) → one new ≡ true → AreOf other ys → IsAdded xs new more → IsAdded (xs ++ ys) new (more ++ ys)
  added-first xs more ys new is b a = joins-first xs more ys new a (λ i m e. keys-differ new i is (b i (contained ys i m)) (sym e))

  pub added-second : (xs more ys : List Item) (new : Item) → other new ≡ true → AreOf one ys → IsAdded xs new more → IsAdded (ys ++ xs) new (ys ++ more)
  added-second xs more ys new is b a = joins-second xs more ys new a (λ i m. keys-differ i new (b i (contained ys i m)) is)

-- ---- as two calls tell it

pub on_ok : {E A P Q : Type 0} (r : Result A E) → (P → Q) → OnOk r P → OnOk r Q
on_ok (Ok x) f p = f p
on_ok (Err e) f p = tt

pub is_ok : {E A P : Type 0} (r : Result A E) → P → OnOk r P
is_ok (Ok x) p = p
is_ok (Err e) p = tt

-- a list that was added to twice
pub added-twice : {A : Type 0} (start one out xs ys : List A) → one ≡ start ++ xs → out ≡ one ++ ys → out ≡ start ++ (xs ++ ys)
added-twice start one out xs ys p q = q ∙ ap (λ l. l ++ ys) p ∙ append_assoc start xs ys

-- by such changes
abbrev pub HaveChanged : List (Item × Bool) → List (Item × Bool) → List Item → List Item → Type 0
HaveChanged start out old new = (changes : List (Item × Bool)) × ((out ≡ start ++ changes) × AreChanges old new changes)

pub changed-both : {E A : Type 0} {one other : Item → Bool} (one_key : IsByKey one) (other_key : IsByKey other) (apart : AreApart one other) (r : Result A E) (start mid out : List (Item × Bool)) (oa na ob nb : List Item)
    → AreOf one oa → AreOf one na → AreOf other ob → AreOf other nb → HaveChanged start mid oa na → OnOk r (HaveChanged mid out ob nb) → OnOk r (HaveChanged start out (oa ++ ob) (na ++ nb))
changed-both one_key other_key apart r start mid out oa na ob nb a b c d x y =
    on_ok r (λ z. (x.0 ++ z.0, (added-twice start mid out x.0 z.0 x.1.0 z.1.0, changes-both one_key other_key apart oa na ob nb x.0 z.0 a b c d x.1.1 z.1.1))) y

-- ---- of what is kept, where it is told otherwise

module _ {H : Type 0} (items : H → List Item) where
  pub added-at : (h h2 old new : H) (i j : Item) → IsAdded (items h) i (items h2) → h ≡ old → new ≡ h2 → j ≡ i → IsAdded (items old) j (items new)
  added-at h h2 old new i j a p q r =
      subst (λ (x : H). IsAdded (items x) j (items new)) p
      (subst (λ (x : H). IsAdded (items h) j (items x)) (sym q)
      (subst (λ (x : Item). IsAdded (items h) x (items h2)) (sym r) a))

  module _ {E A : Type 0} (r : Result A E) (h now : H) (e : h ≡ now) where
    pub once-at : OnOk r (IsOnce (items h)) → OnOk r (IsOnce (items now))
    once-at o = on_ok r (subst (λ (x : H). IsOnce (items x)) e) o

    pub listed-at : (start out : List Item) → OnOk r (out ≡ start ++ items h) → OnOk r (out ≡ start ++ items now)
    listed-at start out o = on_ok r (λ p. p ∙ ap (λ (x : H). start ++ items x) e) o

    pub changed-at : (was settled : H) → was ≡ settled → (start out : List (Item × Bool)) → OnOk r (HaveChanged start out (items was) (items h)) → OnOk r (HaveChanged start out (items settled) (items now))
    changed-at was settled p start out o = on_ok r
        (λ c. (c.0, (c.1.0, subst (λ (x : H). AreChanges (items settled) (items x) c.0) e (subst (λ (x : H). AreChanges (items x) (items h) c.0) p c.1.1)))) o

-- ---- lists of two kinds

yes_or : (a b : Bool) → a ≡ true → a || b ≡ true
yes_or a b h = (λ i. h i || b)

or_yes : (a b : Bool) → b ≡ true → a || b ≡ true
or_yes true b h = refl
or_yes false b h = h

pub of-both : (one other : Item → Bool) (xs ys : List Item) → AreOf one xs → AreOf other ys → AreOf (either one other) (xs ++ ys)
of-both one other xs ys a b i c = by (member-cases xs ys i (member (xs ++ ys) i c))
  where
    by : Member xs i ⊎ Member ys i → either one other i ≡ true
    by (inl m) = yes_or (one i) (other i) (a i (contained xs i m))
    by (inr m) = or_yes (one i) (other i) (b i (contained ys i m))

pub by-either : (one other : Item → Bool) → IsByKey one → IsByKey other → IsByKey (either one other)
by-either one other p q i = λ j. p i j || q i j
