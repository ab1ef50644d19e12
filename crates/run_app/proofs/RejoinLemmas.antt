-- A stopped run and one that goes on from its rows print what one run prints.
use Rattle.std.proofs.Common.{◌≡◌, ◌∙◌, inl, inr, ℕ, ◌+◌, List, [], ◌∷◌, ◌++◌, length, Some, Result, Ok, sym, ap, subst, append_assoc}
use Rattle.base_bech32.specs.declared.form.Form.{Form}
use Rattle.rule_modules.specs.Chain.{State}
use Rattle.run_generated.specs.Writing.{IsFront}
use Rattle.store_commits.specs.Held.{items_at, rows_at}
use Rattle.store_items.specs.Stored.{AreStored}
use Rattle.store_resuming.specs.Restored.{IsStorable}
use Rattle.run_app.specs.{declared.status.LineStop.LineStop, Laws.{IsRest, MayGoOn}, Lines.lines_of}
use Rattle.run_app.specs.{Machine.{Answer, Standing, report_of}, Rejoined.{AreJoined, RunsGoOn, StoppedRunsGoOn}}
use Rattle.run_app.{specs.{Runs.{AreAnswered, ran_from, ran_report}, Stops.IsOfAnswers}, proofs.AlikeLemmas.rows_decide}
use Rattle.run_app.proofs.{OnwardLemmas.runs_may_go_on, RestLemmas.{answers_join, the_rest}, RunLemmas.answered-append}

-- the texts of answers are one
one_text : (form : Form) (n : ℕ) (s : Standing) (lines : List (List ℕ)) (a b : List ℕ) (e f : Standing) → AreAnswered form n s lines a e → AreAnswered form n s lines b f → a ≡ b
one_text form n s [] a b e f g h = g.0 ∙ sym h.0
one_text form n s (line ∷ lines) a b e f g h =
    let same : Ok g.0 ≡ Ok h.0 = sym g.2 ∙ h.2 in
    let same2 : g.0 ≡ h.0 = cc in
    let rest : g.1 ≡ h.1 = one_text form (n + 1) h.0.standing lines g.1 h.1 e f (subst (λ (x : Answer). AreAnswered form (n + 1) x.standing lines g.1 e) same2 g.4) h.4 in
    g.3 ∙ ap (λ (x : Answer). x.text ++ g.1) same2 ∙ ap (λ (t : List ℕ). h.0.text ++ t) rest ∙ sym h.3

module _ (form : Form) (every : ℕ) (first end : Standing) (stored others : List (List ℕ)) (answers : List ℕ) (good : AreAnswered form 1 first stored answers end) where
  is_rest : IsRest (length stored) answers (ran_from form 1 first (stored ++ others)) (ran_from form 1 end others)
  is_rest = the_rest form first end stored others answers good

  -- where no other lines are it is the report
  only_report : (report : List ℕ) → others ≡ [] → report_of form end ≡ Ok report → (ran_from form 1 end others).text ≡ report
  only_report report none is = ap (λ (ls : List (List ℕ)). (ran_from form 1 end ls).text) none ∙ ap (λ (r : Result (List ℕ) LineStop). (ran_report r).text) is

  pub joins : (text : List ℕ) → IsOfAnswers form every first stored others end answers text → AreJoined form every first stored others text (ran_from form 1 first (stored ++ others)) (ran_from form 1 end others)
  joins text (inl (lacking, l)) =
      let all : AreAnswered form 1 first (l.before ++ l.last) (l.done ++ l.due) l.end = answered-append form 1 first l.before l.last l.done l.middle l.due l.end l.answered l.answered_last in
      let whole : AreAnswered form 1 first stored (l.done ++ l.due) l.end = subst (λ (ls : List (List ℕ)). AreAnswered form 1 first ls (l.done ++ l.due) l.end) (sym l.lines_are) all in
      let same : answers ≡ l.done ++ l.due = one_text form 1 first stored answers (l.done ++ l.due) end l.end good whole in
      let split : answers ≡ text ++ lacking =
      same ∙ ap (λ (t : List ℕ). l.done ++ t) l.due_lacks ∙ sym (append_assoc l.done l.front lacking) ∙ ap (λ (t : List ℕ). t ++ lacking) (sym l.text_is) in
      record {
        texts = inl (record { lacking = lacking; of_last = l; text_is = is_rest.text_is ∙ ap (λ (t : List ℕ). t ++ (ran_from form 1 end others).text) split ∙ append_assoc text lacking (ran_from form 1 end others).text });
        fault_is = is_rest.fault_is;
      }
  joins text (inr (none, b)) = record {
    texts = inr (none, record { done = answers; front = b.front; text_is = b.text_is; part = subst (IsFront b.front) (sym (only_report b.report none b.report_is)) b.part; whole_is = is_rest.text_is });
    fault_is = is_rest.fault_is;
  }

-- a state to which a run may have led that was kept is one from which a run goes on
is_storable : (p : State) (end : Standing) → end ≡ Some p → MayGoOn end → AreStored (items_at end) → IsStorable p
is_storable p end is on stored =
    let may : MayGoOn (Some p) = subst MayGoOn is on in
    let kept : AreStored (items_at (Some p)) = subst (λ (s : Standing). AreStored (items_at s)) is stored in
    record { sound = may.0; stored = kept; none = may.1 }

pub stopped_runs_go_on : (form : Form) → StoppedRunsGoOn form
stopped_runs_go_on form every first input text left may b =
    let on : MayGoOn b.end = runs_may_go_on form 1 first b.lines b.answers b.end may b.answered in
    record {
      stored = b.lines;
      others = b.more;
      end = b.end;
      lines_are = b.lines_are;
      rows_are = b.kept.0;
      storable = λ p is. (is_storable p b.end is on b.kept.1, b.kept.0 ∙ ap rows_at is);
      joined = λ rest are.
          subst (λ (ls : List (List ℕ)). AreJoined form every first b.lines b.more text (ran_from form 1 first ls) (ran_from form 1 b.end (lines_of rest))) (sym b.lines_are)
          (subst (λ (ls : List (List ℕ)). AreJoined form every first b.lines b.more text (ran_from form 1 first (b.lines ++ b.more)) (ran_from form 1 b.end ls)) (sym are)
          (joins form every first b.end b.lines b.more b.answers b.answered text b.written));
    }

pub runs_go_on : (form : Form) → RunsGoOn form
runs_go_on form = record { stopped = stopped_runs_go_on form; rest = the_rest form; joined = answers_join form; onward = runs_may_go_on form; alike = rows_decide form }
