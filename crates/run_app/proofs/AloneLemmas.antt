-- At N = 1 a batch is a line.
use Rattle.std.proofs.Common.{◌≡◌, ◌∙◌, ◌⊎◌, inl, inr, ℕ, ◌+◌, ◌<◌, ◌≤◌, List, [], ◌∷◌, ◌++◌, length, Ok, refl, sym, ap, append-nil, arith}
use Rattle.base_bech32.specs.declared.form.Form.{Form}
use Rattle.run_app.specs.{Alone.{AnsweredNext, AreWritten, EachLineAlone, LacksOfOne}, Machine.{Standing, line_answer}}
use Rattle.run_app.{specs.{Runs.{AreAnswered, Batched}, Stops.LacksOfLast}, proofs.CountLemmas.{one_read, still_read}}

-- one line that is answered has an answer of this text, which leads there
only : (form : Form) (n : ℕ) (s : Standing) (line text : List ℕ) (end : Standing) → AreAnswered form n s (line ∷ []) text end → line_answer form n s line ≡ Ok (record { text = text; standing = end })
only form n s line text end a =
    let whole : text ≡ a.0.text = a.3 ∙ ap (λ (t : List ℕ). a.0.text ++ t) a.4.0 ∙ append-nil a.0.text in
    rw (whole, a.4.1) a.2

-- and the other way round
single : (form : Form) (n : ℕ) (s : Standing) (line text : List ℕ) (end : Standing) → line_answer form n s line ≡ Ok (record { text = text; standing = end }) → AreAnswered form n s (line ∷ []) text end
single form n s line text end is = (record { text = text; standing = end }, [], is, sym (append-nil text), (refl, refl))

module _ (form : Form) (n : ℕ) (s : Standing) (lines : List (List ℕ)) (done : List ℕ) (middle : Standing) (due : List ℕ) (end : Standing) where
  line_of : (b : Batched form 1 n s lines done middle due end) (batch : List (List ℕ)) → b.batch ≡ batch → AnsweredNext form n s lines done middle due end
  line_of b [] is =
      let some : 0 < length b.batch = b.some in
      let none : length b.batch ≡ length {A = List ℕ} [] = ap length is in
      absurd (omega arith)
  line_of b (line ∷ []) is = record {
    before = b.before;
    line = line;
    after = b.after;
    lines_are = b.lines_are ∙ ap (λ (l : List (List ℕ)). b.before ++ (l ++ b.after)) is;
    answered = b.answered;
    answer_is = only form (n + length b.before) middle line due end (rw is at b.answered_batch);
  }
  line_of b (line ∷ (line' ∷ more)) is =
      let few : length b.batch ≤ 1 = b.few in
      let long : length b.batch ≡ length (line ∷ (line' ∷ more)) = ap length is in
      absurd (omega arith)

  batch_of : AnsweredNext form n s lines done middle due end → Batched form 1 n s lines done middle due end
  batch_of a = record {
    before = a.before;
    batch = a.line ∷ [];
    after = a.after;
    lines_are = a.lines_are;
    some = omega arith;
    few = omega arith;
    answered = a.answered;
    answered_batch = single form (n + length a.before) middle a.line due end a.answer_is;
  }

-- a text of two parts that is none
no_front : (front lacking : List ℕ) → [] ≡ front ++ lacking → (front ≡ []) × (lacking ≡ [])
no_front [] lacking e = (refl, sym e)
no_front (b ∷ front) lacking e = let l : length {A = ℕ} [] ≡ length ((b ∷ front) ++ lacking) = ap length e in absurd (omega arith)

module _ (form : Form) (first : Standing) (lines : List (List ℕ)) (text lacking : List ℕ) where
  lacks_of : (x : LacksOfLast form 1 first lines text lacking) (last : List (List ℕ)) → x.last ≡ last → ((lacking ≡ []) × AreWritten form first lines text) ⊎ LacksOfOne form first lines text lacking
  lacks_of x [] is =
      let due : AreAnswered form (1 + length x.before) x.middle [] x.due x.end = rw is at x.answered_last in
      let none = no_front x.front lacking (sym due.0 ∙ x.due_lacks) in
      let are : lines ≡ x.before = x.lines_are ∙ ap (λ (l : List (List ℕ)). x.before ++ l) is ∙ append-nil x.before in
      let text_is : text ≡ x.done = x.text_is ∙ ap (λ (t : List ℕ). x.done ++ t) none.0 ∙ append-nil x.done in
      inl (none.1, (x.middle, rw (are, text_is) x.answered))
  lacks_of x (line ∷ []) is = inr (record {
    before = x.before;
    line = line;
    middle = x.middle;
    end = x.end;
    done = x.done;
    front = x.front;
    lines_are = x.lines_are ∙ ap (λ (l : List (List ℕ)). x.before ++ l) is;
    answered = x.answered;
    answer_is = rw (← x.due_lacks) (only form (1 + length x.before) x.middle line x.due x.end (rw is at x.answered_last));
    text_is = x.text_is;
  })
  lacks_of x (line ∷ (line' ∷ more)) is =
      let few : length x.last ≤ 1 = x.few in
      let long : length x.last ≡ length (line ∷ (line' ∷ more)) = ap length is in
      absurd (omega arith)

  last_of : ((lacking ≡ []) × AreWritten form first lines text) ⊎ LacksOfOne form first lines text lacking → LacksOfLast form 1 first lines text lacking
  last_of (inl w) = record {
    before = lines;
    last = [];
    middle = w.1.0;
    end = w.1.0;
    done = text;
    due = [];
    front = [];
    lines_are = sym (append-nil lines);
    few = omega arith;
    answered = w.1.1;
    answered_last = (refl, refl);
    text_is = sym (append-nil text);
    due_lacks = sym w.0;
  }
  last_of (inr x) = record {
    before = x.before;
    last = x.line ∷ [];
    middle = x.middle;
    end = x.end;
    done = x.done;
    due = x.front ++ lacking;
    front = x.front;
    lines_are = x.lines_are;
    few = omega arith;
    answered = x.answered;
    answered_last = single form (1 + length x.before) x.middle x.line (x.front ++ lacking) x.end x.answer_is;
    text_is = x.text_is;
    due_lacks = refl;
  }

pub each_line_alone : EachLineAlone
each_line_alone = record {
  batches = λ form n s lines done middle due end. (λ b. line_of form n s lines done middle due end b b.batch refl, batch_of form n s lines done middle due end);
  lacks = λ form first lines text lacking. (λ x. lacks_of form first lines text lacking x x.last refl, last_of form first lines text lacking);
  reads = λ status before now. (one_read status before now, still_read 1 status before now);
}
