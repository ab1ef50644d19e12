-- Periods, purses and payees that are marked together, seen as one.
use Rattle.std.proofs.Common.{◌≡◌, ◌∙◌, ℕ, Bool, true, false, List, [], ◌∷◌, ◌++◌, append-nil, length, Ok, Err, refl, sym, ap, ◌≢◌, ◌<◌, ◌||◌, if◌then◌else◌, Result, OnOk, OnErr}
use Rattle.base_coins.specs.Coins.{Money}
use Rattle.base_roles.specs.declared.facts.Fact.TheVariants as fact
use Rattle.rule_modules.specs.{Amounts.is_empty, Purses.Purses}
use Rattle.mod_distribution.specs.Calls.{commission_told}
use Rattle.mod_distribution.specs.Kept.{HaveSameMarks, Distributed, KeptShared, Payees, SharedGoesOn, distributed, kept_with, marks_of, two_marks}
use Rattle.mod_distribution.proofs.CarryLemmas.{on_both}
use Rattle.base_roles.specs.{declared.{bank.Ground.Ground, facts.Fact.Fact}, Ground.CanBeUndone}
use Rattle.base_table.specs.Tabled.{Tabled}
use Rattle.base_records.proofs.MarkLemmas.{none_from_length, pushed_length, popped_length, length-side, side-push, some_marks}
use Rattle.base_records.{proofs.KindLemmas.on_ok, specs.Marks.side_by_side}
use Rattle.mod_allocation.specs.Kept.{Pursed}
use Rattle.mod_allocation.specs.Kept as alloc
use Rattle.mod_periods.specs.Kept.{Recorded}
use Rattle.mod_periods.specs.Kept as f1

-- ---- marks side by side

module _ (rs : List f1.Kept) (ps : List Purses) (ws : List Payees) (hp : length ps ≡ length rs) (hw : length ws ≡ length rs) where
  two_length : length ws ≡ length (two_marks rs ps)
  two_length = hw ∙ sym (length-side (λ r p. (r, p)) rs ps hp)

  pub marks_length : length (marks_of rs ps ws) ≡ length rs
  marks_length = length-side (λ two w. kept_with two.0 two.1 w) (two_marks rs ps) ws two_length ∙ length-side (λ r p. (r, p)) rs ps hp

  pub marks_pushed : (r : f1.Kept) (p : Purses) (w : Payees) → marks_of (rs ++ r ∷ []) (ps ++ p ∷ []) (ws ++ w ∷ []) ≡ marks_of rs ps ws ++ kept_with r p w ∷ []
  marks_pushed r p w =
      ap (λ two. marks_over two (ws ++ w ∷ [])) (side-push (λ r p. (r, p)) rs ps r p hp)
      ∙ side-push (λ two w. kept_with two.0 two.1 w) (two_marks rs ps) ws (r, p) w two_length
    where
      marks_over : List (f1.Kept × Purses) → List Payees → List KeptShared
      marks_over two ws = side_by_side (λ t w. kept_with t.0 t.1 w) two ws

-- where none is open in all, none is in each
pub none_open : (f : Recorded) (p : Pursed) (w : Tabled (List ℕ) (List ℕ)) → HaveSameMarks f p w → marks_of f.marks p.marks w.marks ≡ [] → (f.marks ≡ []) × (p.marks ≡ []) × (w.marks ≡ [])
none_open f p w h e =
    let n : length f.marks ≡ 0 = sym (marks_length f.marks p.marks w.marks h.purses h.payees) ∙ ap length e in
    (none_from_length f.marks n, none_from_length p.marks (h.purses ∙ n), none_from_length w.marks (h.payees ∙ n))

-- where some is open in all, some is in each
pub some_open : (f : Recorded) (p : Pursed) (w : Tabled (List ℕ) (List ℕ)) → HaveSameMarks f p w → marks_of f.marks p.marks w.marks ≢ [] → (f.marks ≢ []) × (p.marks ≢ []) × (0 < length w.marks)
some_open f p w h some = (
  (λ e. some (none (ap length e))),
  (λ e. some (none (sym h.purses ∙ ap length e))),
  some_marks w.marks (λ e. some (none (sym h.payees ∙ ap length e))),
)
  where
    none : length f.marks ≡ 0 → marks_of f.marks p.marks w.marks ≡ []
    none n = none_from_length (marks_of f.marks p.marks w.marks) (marks_length f.marks p.marks w.marks h.purses h.payees ∙ n)

-- ---- marks that stay, are opened, and are closed

pub in_step-same : (f f2 : Recorded) (p p2 : Pursed) (w w2 : Tabled (List ℕ) (List ℕ)) → HaveSameMarks f p w → f2.marks ≡ f.marks → p2.marks ≡ p.marks → w2.marks ≡ w.marks → HaveSameMarks f2 p2 w2
in_step-same f f2 p p2 w w2 h a b c = record { purses = ap length b ∙ h.purses ∙ sym (ap length a); payees = ap length c ∙ h.payees ∙ sym (ap length a) }

pub in_step-pushed : (f f2 : Recorded) (p p2 : Pursed) (w w2 : Tabled (List ℕ) (List ℕ)) (x : f1.Kept) (y : Purses) (z : Payees) → HaveSameMarks f p w → f2.marks ≡ f.marks ++ x ∷ [] → p2.marks ≡ p.marks ++ y ∷ [] → w2.marks ≡ w.marks ++ z ∷ []
    → HaveSameMarks f2 p2 w2
in_step-pushed f f2 p p2 w w2 x y z h a b c = record {
  purses = ap length b ∙ pushed_length f.marks p.marks x y h.purses ∙ sym (ap length a);
  payees = ap length c ∙ pushed_length f.marks w.marks x z h.payees ∙ sym (ap length a);
}

pub in_step-popped : (f f2 : Recorded) (p p2 : Pursed) (w w2 : Tabled (List ℕ) (List ℕ)) (x : f1.Kept) (y : Purses) (z : Payees) → HaveSameMarks f p w → f2.marks ++ x ∷ [] ≡ f.marks → p2.marks ++ y ∷ [] ≡ p.marks → w2.marks ++ z ∷ [] ≡ w.marks
    → HaveSameMarks f2 p2 w2
in_step-popped f f2 p p2 w w2 x y z h a b c = record {
  purses = popped_length f.marks f2.marks p.marks p2.marks x y h.purses a b;
  payees = popped_length f.marks f2.marks w.marks w2.marks x z h.payees a c;
}

pub in_step-none : (f2 : Recorded) (p2 : Pursed) (w2 : Tabled (List ℕ) (List ℕ)) → f2.marks ≡ [] → p2.marks ≡ [] → w2.marks ≡ [] → HaveSameMarks f2 p2 w2
in_step-none f2 p2 w2 a b c = record { purses = ap length b ∙ sym (ap length a); payees = ap length c ∙ sym (ap length a) }

-- what is seen with one mark more
pub marks_opened : (f f2 : Recorded) (p p2 : Pursed) (w w2 : Tabled (List ℕ) (List ℕ)) → HaveSameMarks f p w → f2.marks ≡ f.marks ++ f.kept ∷ [] → p2.marks ≡ p.marks ++ p.kept ∷ [] → w2.marks ≡ w.marks ++ w.entries ∷ []
    → marks_of f2.marks p2.marks w2.marks ≡ marks_of f.marks p.marks w.marks ++ kept_with f.kept p.kept w.entries ∷ []
marks_opened f f2 p p2 w w2 h a b c = (λ i. marks_of (a i) (b i) (c i)) ∙ marks_pushed f.marks p.marks w.marks h.purses h.payees f.kept p.kept w.entries

-- what is seen with one mark fewer
pub marks_popped : (f f2 : Recorded) (p p2 : Pursed) (w w2 : Tabled (List ℕ) (List ℕ)) (x : f1.Kept) (y : Purses) (z : Payees) → HaveSameMarks f p w → f2.marks ++ x ∷ [] ≡ f.marks → p2.marks ++ y ∷ [] ≡ p.marks → w2.marks ++ z ∷ [] ≡ w.marks
    → marks_of f2.marks p2.marks w2.marks ++ kept_with x y z ∷ [] ≡ marks_of f.marks p.marks w.marks
marks_popped f f2 p p2 w w2 x y z h a b c =
    let step = in_step-popped f f2 p p2 w w2 x y z h a b c in
    sym (marks_pushed f2.marks p2.marks w2.marks step.purses step.payees x y z) ∙ (λ i. marks_of (a i) (b i) (c i))

-- the marks of all, where those of each stay
pub marks_same : (f f2 : Recorded) (p p2 : Pursed) (w w2 : Tabled (List ℕ) (List ℕ)) → f2.marks ≡ f.marks → p2.marks ≡ p.marks → w2.marks ≡ w.marks → marks_of f2.marks p2.marks w2.marks ≡ marks_of f.marks p.marks w.marks
marks_same f f2 p p2 w w2 a b c = λ i. marks_of (a i) (b i) (c i)

-- ---- want of memory in one of three

pub or_first : (a b c : Bool) → a ≡ true → (a || (b || c)) ≡ true
or_first a b c e = ap (λ x. x || (b || c)) e

pub or_second : (a b c : Bool) → b ≡ true → (a || (b || c)) ≡ true
or_second true b c e = refl
or_second false b c e = ap (λ x. x || c) e

pub or_third : (a b c : Bool) → c ≡ true → (a || (b || c)) ≡ true
or_third true b c e = refl
or_third false true c e = refl
or_third false false c e = e

-- once one wanted memory, it still does
pub or_still : (a a2 b b2 c : Bool) → (a ≡ true → a2 ≡ true) → (b ≡ true → b2 ≡ true) → (a || (b || c)) ≡ true → (a2 || (b2 || c)) ≡ true
or_still true a2 b b2 c f g e = or_first a2 b2 c (f refl)
or_still false a2 true b2 c f g e = or_second a2 b2 c (g refl)
or_still false a2 false b2 c f g e = or_third a2 b2 c e

-- ---- what a call leaves of marks and of the want of memory

module _ {A E : Type 0} (answer : Result A E) (f f2 : Recorded) (p p2 : Pursed) (w : Tabled (List ℕ) (List ℕ)) (s : Bool) where
  -- of one that changed periods and purses
  pub goes_on-step : f1.behind f2 ≡ f1.behind f → alloc.behind p2 ≡ alloc.behind p → (f.spent ≡ true → f2.spent ≡ true) → (p.spent ≡ true → p2.spent ≡ true) → OnOk answer (f2.spent ≡ f.spent) → OnOk answer (p2.spent ≡ p.spent)
      → SharedGoesOn (distributed f p w s) (distributed f2 p2 w s) answer
  goes_on-step bf bp sf sp uf up = record {
    behind = λ i. record { marks = marks_of (bf i).marks (bp i).marks w.marks; settled = kept_with (bf i).settled (bp i).settled w.settled };
    spent = or_still f.spent f2.spent p.spent p2.spent s sf sp;
    unspent = on_ok answer (λ both. λ i. both.0 i || (both.1 i || s)) (on_both (f2.spent ≡ f.spent) (p2.spent ≡ p.spent) answer uf up);
  }

-- of one behind another that succeeded
pub goes_on-then : {A B E F : Type 0} (a b c : Distributed) (first : Result A E) (second : Result B F) → SharedGoesOn a b first → b.spent ≡ a.spent → SharedGoesOn b c second → SharedGoesOn a c second
goes_on-then a b c first second g u h = record { behind = h.behind ∙ g.behind; spent = λ e. h.spent (g.spent e); unspent = on_ok second (λ e. e ∙ u) h.unspent }

-- ---- what can be taken back

module _ {B M : Type 0} (marks : B → M) where
  pub undone-none : (g : Ground B) → CanBeUndone marks g g
  undone-none g = record { marks = refl; ctx = refl; facts = ([], sym (append-nil g.facts)) }

-- a commission is told where there is some
pub commission_behind : (operator to : List ℕ) (coins : Money) (facts : List Fact) → (more : List Fact) × (commission_told operator to coins facts ≡ facts ++ more)
commission_behind operator to coins facts = by (is_empty coins)
  where
    by : (b : Bool) → (more : List Fact) × ((if b then facts else facts ++ fact.Commission operator to coins ∷ []) ≡ facts ++ more)
    by true = ([], sym (append-nil facts))
    by false = (fact.Commission operator to coins ∷ [], refl)

-- facts are only put behind, where a call puts some or none
pub facts_by : {A E : Type 0} (r : Result A E) (facts facts2 more : List Fact) → OnOk r (facts2 ≡ facts ++ more) → OnErr r (facts2 ≡ facts) → (some : List Fact) × (facts2 ≡ facts ++ some)
facts_by (Ok a) facts facts2 more e f = (more, e)
facts_by (Err x) facts facts2 more e f = ([], f ∙ sym (append-nil facts))
