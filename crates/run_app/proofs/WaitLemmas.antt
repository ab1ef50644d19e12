-- Lines that wait: how one more comes to them, and their release.
use Rattle.std.specs.Prelude.{⊤}
use Rattle.std.proofs.Common.{◌≡◌, ◌∙◌, ◌⊎◌, inl, inr, ℕ, ◌+◌, ◌<◌, List, [], ◌∷◌, ◌++◌, length, Option, Some, Result, Ok, Err, IfErr, IfSome, OnErr, OnOk, refl, sym, ap, subst, arith, append_assoc, append-nil, length-append}
use Rattle.base_bech32.specs.declared.form.Form.{Form}
use Rattle.base_io.specs.{Calls.AddsPart, Rows.Pair}
use Rattle.chain_whole.specs.Chained.{Chained}
use Rattle.run_app.specs.declared.status.LineStop.{LineStop, TheVariants.{BadInput, Long, Ratio, Write, Keep, NoMemory}}
use Rattle.run_app.specs.{Kept.{Began, HasGrown, Keeping, LeftIn}, Machine.{Answer, SettledAt, Standing, line_answer}}
use Rattle.run_app.specs.Runs.{AreAnswered, Batched, Held, Unkept, Wrote}
use Rattle.run_app.{specs.Parts.{Grows, IsOfKeeper, IsOfSink, Loses, Stands, Waits}, proofs.KeepLemmas.left_of}
use Rattle.run_app.proofs.{RisenLemmas.{lines_grow, settled_sound}, RunLemmas.{answered-append, grows_on, no_growth}}

-- a text that was written is the growth
pub grows_by : (w w' : Option (List ℕ)) (text : List ℕ) → IfSome w (λ bytes. w' ≡ Some (bytes ++ text)) → Grows w w' text
grows_by w w' text h = λ old told. let k : IfSome (Some old) (λ bytes. w' ≡ Some (bytes ++ text)) = rw told at h in k

-- where a run begins nothing waits
pub start_waits : (form : Form) (every : ℕ) (first : Standing) (waiting : ℕ) (held : List ℕ) (w : Option (List ℕ)) → 0 < every → waiting ≡ 0 → held ≡ [] → Waits form every first [] first first waiting held w w
start_waits form every first waiting held w some none empty = record {
  done = [];
  last = [];
  text = [];
  lines_are = refl;
  answered = (refl, refl);
  answered_last = (empty, refl);
  count = none;
  few = omega (arith, some, none);
  grows = no_growth w;
}

-- the lines behind others have the numbers behind theirs
apart : (a b : List (List ℕ)) → 1 + length (a ++ b) ≡ 1 + length a + length b
apart a b = omega (arith, length-append a b)

module _ (form : Form) (every : ℕ) (first : Standing) (lines : List (List ℕ)) (s t : Standing) (waiting : ℕ) (held : List ℕ) (from w : Option (List ℕ)) where
  -- one line more waits
  pub one_waits : (line : List ℕ) (answer : Answer) (held' : List ℕ) → Waits form every first lines s t waiting held from w → line_answer form (1 + length lines) t line ≡ Ok answer → held' ≡ held ++ answer.text
      → Waits form (every + 1) first (lines ++ line ∷ []) s answer.standing (waiting + 1) held' from w
  one_waits line answer held' k is text_is =
      let number : 1 + length lines ≡ 1 + length k.done + length k.last = ap (λ (l : List (List ℕ)). 1 + length l) k.lines_are ∙ apart k.done k.last in
      let here : line_answer form (1 + length k.done + length k.last) t line ≡ Ok answer = rw (← number) is in
      let one : AreAnswered form (1 + length k.done + length k.last) t (line ∷ []) (answer.text ++ []) answer.standing = (answer, [], here, refl, (refl, refl)) in
      let all : AreAnswered form (1 + length k.done) s (k.last ++ line ∷ []) (held ++ (answer.text ++ [])) answer.standing = answered-append form (1 + length k.done) s k.last (line ∷ []) held t (answer.text ++ []) answer.standing k.answered_last one in
      let text : held ++ (answer.text ++ []) ≡ held' = ap (λ (u : List ℕ). held ++ u) (append-nil answer.text) ∙ sym text_is in
      let count : waiting ≡ length k.last = k.count in
      let few : waiting < every = k.few in
      record {
        done = k.done;
        last = k.last ++ line ∷ [];
        text = k.text;
        lines_are = ap (λ (l : List (List ℕ)). l ++ line ∷ []) k.lines_are ∙ append_assoc k.done k.last (line ∷ []);
        answered = k.answered;
        answered_last = subst (λ (u : List ℕ). AreAnswered form (1 + length k.done) s (k.last ++ line ∷ []) u answer.standing) text all;
        count = omega (arith, count, length-append k.last (line ∷ []));
        few = omega (arith, few);
        grows = k.grows;
      }

  -- fewer lines wait than was known
  pub fewer : (less : ℕ) → waiting < less → Waits form every first lines s t waiting held from w → Waits form less first lines s t waiting held from w
  fewer less few k = record { done = k.done; last = k.last; text = k.text; lines_are = k.lines_are; answered = k.answered; answered_last = k.answered_last; count = k.count; few = few; grows = k.grows }

  -- the waiting lines are lost
  pub lost : (Left : Standing → Standing → Type 0) → Left s s → (more : List (List ℕ)) → Waits form every first lines s t waiting held from w → Loses form every first Left (lines ++ more) from w NoMemory
  lost Left left more k = (
    k.text,
    k.grows,
    inr (inl (record {
      before = k.done;
      after = k.last ++ more;
      middle = s;
      lines_are = ap (λ (l : List (List ℕ)). l ++ more) k.lines_are ∙ append_assoc k.done k.last more;
      answered = k.answered;
      left = left;
    })),
  )

  -- what they led to rose
  pub has_grown : (chain : Option Chained) → SettledAt chain s → 0 < waiting → Waits form every first lines s t waiting held from w → HasGrown s t
  has_grown chain same some k =
      let count : waiting ≡ length k.last = k.count in
      lines_grow form (1 + length k.done) s t k.last held (omega (arith, count, some)) (settled_sound chain s same) k.answered_last

  module _ (k : Waits form (every + 1) first lines s t waiting held from w) (some : 0 < waiting) where
    batch : Batched form every 1 first lines k.text s held t
    batch =
        let count : waiting ≡ length k.last = k.count in
        let few : waiting < every + 1 = k.few in
        record {
          before = k.done;
          batch = k.last;
          after = [];
          lines_are = k.lines_are ∙ ap (λ (l : List (List ℕ)). k.done ++ l) (sym (append-nil k.last));
          some = omega (arith, count, some);
          few = omega (arith, count, few);
          answered = k.answered;
          answered_batch = k.answered_last;
        }

    unkept : (Left : Standing → Standing → Type 0) → Left s t → Unkept form every Left 1 first lines k.text
    unkept Left left = record { middle = s; due = held; end = t; batched = batch; left = left }

    -- they were not committed
    pub keep_loses : (Left : Standing → Standing → Type 0) (why : LineStop) → IsOfKeeper why → Left s t → Loses form every first Left lines from w why
    keep_loses Left Keep of left = (k.text, k.grows, unkept Left left)
    keep_loses Left NoMemory of left = (k.text, k.grows, inr (inr (unkept Left left)))
    keep_loses Left Write of left = absurd of
    keep_loses Left (BadInput m fault) of left = absurd of
    keep_loses Left (Long m) of left = absurd of
    keep_loses Left (Ratio m over) of left = absurd of

    module _ (w' : Option (List ℕ)) (a : AddsPart w w' held) (Left : Standing → Standing → Type 0) (left : Left t t) where
      wrote : Wrote form every Left 1 first lines (k.text ++ a.0)
      wrote = record { done = k.text; middle = s; due = held; end = t; front = a.0; batched = batch; part = a.1; text_is = refl; left = left }

      -- they were committed, and not written
      pub write_loses : (why : LineStop) → IsOfSink why → Loses form every first Left lines from w' why
      write_loses Write of = (k.text ++ a.0, grows_on from w w' k.text a.0 k.grows a.2, wrote)
      write_loses NoMemory of = (k.text ++ a.0, grows_on from w w' k.text a.0 k.grows a.2, inl wrote)
      write_loses Keep of = absurd of
      write_loses (BadInput m fault) of = absurd of
      write_loses (Long m) of = absurd of
      write_loses (Ratio m over) of = absurd of

  -- all texts are written
  pub released : Waits form (every + 1) first lines s t waiting held from w → (w' : Option (List ℕ)) → IfSome w (λ bytes. w' ≡ Some (bytes ++ held)) → (waiting' : ℕ) → waiting' ≡ 0 → (held' : List ℕ) → held' ≡ [] → Waits form 1 first lines t t waiting' held' from w'
  released k w' taken waiting' zero held' none =
      let all : AreAnswered form 1 first (k.done ++ k.last) (k.text ++ held) t = answered-append form 1 first k.done k.last k.text s held t k.answered k.answered_last in
      record {
        done = lines;
        last = [];
        text = k.text ++ held;
        lines_are = sym (append-nil lines);
        answered = subst (λ (l : List (List ℕ)). AreAnswered form 1 first l (k.text ++ held) t) (sym k.lines_are) all;
        answered_last = (none, refl);
        count = zero;
        few = omega (arith, zero);
        grows = grows_on from w w' k.text held k.grows (grows_by w w' held taken);
      }

none_of : (lines : List (List ℕ)) → length lines < 1 → lines ≡ []
none_of [] few = refl
none_of (line ∷ lines) few = absurd (omega (arith, few))

-- nothing waits: all texts are written, and what is committed is what all lines led to
module _ (form : Form) (first : Standing) (lines : List (List ℕ)) (s t : Standing) (waiting : ℕ) (held : List ℕ) (from w : Option (List ℕ)) (k : Waits form 1 first lines s t waiting held from w) where
  pub none_waits : (s ≡ t) × (text : List ℕ) × Grows from w text × AreAnswered form 1 first lines text t
  none_waits =
      let few : waiting < 1 = k.few in
      let count : waiting ≡ length k.last = k.count in
      let none : k.last ≡ [] = none_of k.last (omega (arith, few, count)) in
      let last : AreAnswered form (1 + length k.done) s [] held t = rw none at k.answered_last in
      let are : lines ≡ k.done = k.lines_are ∙ ap (λ (l : List (List ℕ)). k.done ++ l) none ∙ append-nil k.done in
      (sym last.1, k.text, k.grows, rw (are, last.1) k.answered)

-- ---- lines that were lost, before others

more_batched : (form : Form) (every n : ℕ) (s : Standing) (lines more : List (List ℕ)) (done : List ℕ) (middle : Standing) (due : List ℕ) (end : Standing) → Batched form every n s lines done middle due end → Batched form every n s (lines ++ more) done middle due end
more_batched form every n s lines more done middle due end b = record {
  before = b.before;
  batch = b.batch;
  after = b.after ++ more;
  lines_are = ap (λ (l : List (List ℕ)). l ++ more) b.lines_are ∙ simp append_assoc;
  some = b.some;
  few = b.few;
  answered = b.answered;
  answered_batch = b.answered_batch;
}

module _ (form : Form) (every : ℕ) (first : Standing) (Left : Standing → Standing → Type 0) (lines more : List (List ℕ)) (text : List ℕ) where
  more_wrote : Wrote form every Left 1 first lines text → Wrote form every Left 1 first (lines ++ more) text
  more_wrote w = record { done = w.done; middle = w.middle; due = w.due; end = w.end; front = w.front; batched = more_batched form every 1 first lines more w.done w.middle w.due w.end w.batched; part = w.part; text_is = w.text_is; left = w.left }

  more_unkept : Unkept form every Left 1 first lines text → Unkept form every Left 1 first (lines ++ more) text
  more_unkept w = record { middle = w.middle; due = w.due; end = w.end; batched = more_batched form every 1 first lines more text w.middle w.due w.end w.batched; left = w.left }

  more_held : Held form Left 1 first lines text → Held form Left 1 first (lines ++ more) text
  more_held w = record { before = w.before; after = w.after ++ more; middle = w.middle; lines_are = ap (λ (l : List (List ℕ)). l ++ more) w.lines_are ∙ append_assoc w.before w.after more; answered = w.answered; left = w.left }

pub loses_more : (form : Form) (every : ℕ) (first : Standing) (Left : Standing → Standing → Type 0) (lines more : List (List ℕ)) (from w : Option (List ℕ)) (why : LineStop) → Loses form every first Left lines from w why → Loses form every first Left (lines ++ more) from w why
loses_more form every first Left lines more from w Write h = (h.0, h.1, more_wrote form every first Left lines more h.0 h.2)
loses_more form every first Left lines more from w Keep h = (h.0, h.1, more_unkept form every first Left lines more h.0 h.2)
loses_more form every first Left lines more from w NoMemory h = (h.0, h.1, by h.2)
  where
    by : Wrote form every Left 1 first lines h.0 ⊎ Held form Left 1 first lines h.0 ⊎ Unkept form every Left 1 first lines h.0 → Wrote form every Left 1 first (lines ++ more) h.0 ⊎ Held form Left 1 first (lines ++ more) h.0 ⊎ Unkept form every Left 1 first (lines ++ more) h.0
    by (inl x) = inl (more_wrote form every first Left lines more h.0 x)
    by (inr (inl x)) = inr (inl (more_held form every first Left lines more h.0 x))
    by (inr (inr x)) = inr (inr (more_unkept form every first Left lines more h.0 x))
loses_more form every first Left lines more from w (BadInput m fault) h = absurd h
loses_more form every first Left lines more from w (Long m) h = absurd h
loses_more form every first Left lines more from w (Ratio m over) h = absurd h

-- ---- where a run stands

module _ (form : Form) (every : ℕ) (b : Began) (lines : List (List ℕ)) (end : Standing) (number : ℕ) (chain : Option Chained) (waiting : ℕ) (held : List ℕ) (from w : Option (List ℕ)) (told : Option (List Pair)) (honest : Type 0) (leaves : List Pair → Type 0) where
  -- fewer lines wait than was known
  pub stands_fewer : (less : ℕ) → waiting < less → Stands form every b lines end number chain waiting held from w told honest leaves → Stands form less b lines end number chain waiting held from w told honest leaves
  stands_fewer less few k = record { settled = k.settled; number_is = k.number_is; waits = fewer form every b.first lines k.settled end waiting held from w less few k.waits; kept = k.kept }

  pub stands_more : Stands form every b lines end number chain waiting held from w told honest leaves → Stands form (every + 1) b lines end number chain waiting held from w told honest leaves
  stands_more k = let few : waiting < every = k.waits.few in stands_fewer (every + 1) (omega (arith, few)) k

  -- the lines that wait are lost
  pub stands_lost : (more : List (List ℕ)) → Stands form every b lines end number chain waiting held from w told honest leaves → Loses form every b.first (LeftIn b told honest leaves) (lines ++ more) from w NoMemory
  stands_lost more k = lost form every b.first lines k.settled end waiting held from w (LeftIn b told honest leaves) (left_of b chain told honest leaves k.settled end k.kept) more k.waits

  -- none wait: all texts are written, and the rows are those of what all lines led to
  pub all_written : Stands form 1 b lines end number chain waiting held from w told honest leaves → (text : List ℕ) × Grows from w text × AreAnswered form 1 b.first lines text end × LeftIn b told honest leaves end end
  all_written k =
      let n = none_waits form b.first lines k.settled end waiting held from w k.waits in
      let left : LeftIn b told honest leaves k.settled k.settled = left_of b chain told honest leaves k.settled end k.kept in
      (n.1, n.2, n.3, subst (λ (s : Standing). LeftIn b told honest leaves s s) n.0 left)

  -- what waits was committed
  module _ (chain' : Option Chained) (told' : Option (List Pair)) (honest' : Type 0) (leaves' : List Pair → Type 0) (k : Stands form (every + 1) b lines end number chain waiting held from w told honest leaves) (kept : Keeping b chain' told' honest' leaves' end end) where
    -- and written
    pub stands_released : (r : Result ⊤ LineStop) (w' : Option (List ℕ)) (waiting' : ℕ) (held' : List ℕ) → OnOk r (IfSome w (λ bytes. w' ≡ Some (bytes ++ held))) → OnOk r (held' ≡ []) → OnOk r (waiting' ≡ 0) → OnOk r (Stands form 1 b lines end number chain' waiting' held' from w' told' honest' leaves')
    stands_released (Ok x) w' waiting' held' told_so empty zero = record { settled = end; number_is = k.number_is; waits = released form every b.first lines k.settled end waiting held from w k.waits w' told_so waiting' zero held' empty; kept = kept }
    stands_released (Err why) w' waiting' held' told_so empty zero = tt

    -- or not
    pub stands_unwritten : (r : Result ⊤ LineStop) (w' : Option (List ℕ)) → 0 < waiting → OnErr r (AddsPart w w' held) → IfErr r IsOfSink → IfErr r (Loses form every b.first (LeftIn b told' honest' leaves') lines from w')
    stands_unwritten (Ok x) w' some adds of = tt
    stands_unwritten (Err why) w' some adds of = write_loses form every b.first lines k.settled end waiting held from w k.waits some w' adds (LeftIn b told' honest' leaves') (left_of b chain' told' honest' leaves' end end kept) why of
