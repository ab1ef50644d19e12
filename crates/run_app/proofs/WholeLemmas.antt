-- A whole answer is that of a replay.
use Rattle.std.proofs.Common.{◌≡◌, ◌∙◌, ℕ, ◌+◌, List, [], ◌∷◌, ◌++◌, Option, Some, None, Result, Ok, Err, refl, sym, ap, subst, append_assoc}
use Rattle.base_bech32.specs.declared.form.Form.{Form}
use Rattle.rule_modules.specs.Chain.{State}
use Rattle.rule_machine.specs.Report as machine
use Rattle.line_report.specs.Lines as report
use Rattle.run_app.specs.{declared.status.LineStop.LineStop, Lines.lines_of}
use Rattle.run_app.specs.Machine.{Standing, Answer, line_answer, report_of}
use Rattle.run_app.specs.Runs.{Ran, ran_after, ran_report, ran_from, AreAnswered}
use Rattle.run_app.specs.Laws.{LinesAreReplayed, IsReplayed, AnswersAreReplays}

-- without a fault, with this text
abbrev IsWhole : Ran → List ℕ → Type 0
IsWhole ran text = ran ≡ record { text = text; fault = None }

-- each of the lines was answered, and the report of what they lead to was written
pub record Reports (form : Form) (n : ℕ) (s : Standing) (lines : List (List ℕ)) (text : List ℕ) : Type 0 where
  pub done : List ℕ
  pub last : List ℕ
  pub end : Standing
  pub answered : AreAnswered form n s lines done end
  pub report_is : report_of form end ≡ Ok last
  pub text_is : text ≡ done ++ last

report_only : (form : Form) (n : ℕ) (s : Standing) (text : List ℕ) (r : Result (List ℕ) LineStop) → report_of form s ≡ r → IsWhole (ran_report r) text → Reports form n s [] text
report_only form n s text (Ok last) is e = record { done = []; last = last; end = s; answered = (refl, refl); report_is = is; text_is = sym (ap (λ (r : Ran). r.text) e) }
report_only form n s text (Err fault) is e = let none : Some fault ≡ None = ap (λ (r : Ran). r.fault) e in absurd cc

-- a run without a fault is whole
is_whole : (ran : Ran) → ran.fault ≡ None → IsWhole ran ran.text
is_whole ran none = ap (λ (fault : Option LineStop). record { text = ran.text; fault = fault }) none

module _ (form : Form) (n : ℕ) (s : Standing) (line : List ℕ) (lines : List (List ℕ)) (text : List ℕ) where
  one_more : (next : Standing → Ran) → ((u : Standing) (rest : List ℕ) → IsWhole (next u) rest → Reports form (n + 1) u lines rest) → (r : Result Answer LineStop) → line_answer form n s line ≡ r → IsWhole (ran_after r next) text → Reports form n s (line ∷ lines) text
  one_more next others (Ok a) is e =
      let none : (next a.standing).fault ≡ None = ap (λ (r : Ran). r.fault) e in
      let more : Reports form (n + 1) a.standing lines (next a.standing).text = others a.standing (next a.standing).text (is_whole (next a.standing) none) in
      record {
        done = a.text ++ more.done;
        last = more.last;
        end = more.end;
        answered = (a, more.done, is, refl, more.answered);
        report_is = more.report_is;
        text_is = sym (ap (λ (r : Ran). r.text) e) ∙ ap (λ (t : List ℕ). a.text ++ t) more.text_is ∙ sym (append_assoc a.text more.done more.last);
      }
  one_more next others (Err fault) is e = let none : Some fault ≡ None = ap (λ (r : Ran). r.fault) e in absurd cc

pub reports : (form : Form) (lines : List (List ℕ)) (n : ℕ) (s : Standing) (text : List ℕ) → IsWhole (ran_from form n s lines) text → Reports form n s lines text
reports form [] n s text e = report_only form n s text (report_of form s) refl e
reports form (line ∷ lines) n s text e = one_more form n s line lines text (λ u. ran_from form (n + 1) u lines) (reports form lines (n + 1)) (line_answer form n s line) refl e

-- what a report is of
record IsReportOf (form : Form) (end : Standing) (last : List ℕ) : Type 0 where
  state : State
  end_is : end ≡ Some state
  last_is : last ≡ report.text_of (report.lines_of form (machine.report_of state))

of_state : (form : Form) (end : Standing) (last : List ℕ) → report_of form end ≡ Ok last → IsReportOf form end last
unfolding report_of
of_state form None last e = absurd cc
of_state form (Some p) last e = record { state = p; end_is = refl; last_is = sym cc }

-- there is a first line, since without one there is no report
by_lines : (form : Form) → LinesAreReplayed form → (input text : List ℕ) (lines : List (List ℕ)) → lines_of input ≡ lines → Reports form 1 None lines text → IsReplayed form input text
by_lines form law input text [] are r =
    let last = of_state form r.end r.last r.report_is in
    let none : None ≡ Some last.state = sym r.answered.1 ∙ last.end_is in
    absurd cc
by_lines form law input text (line ∷ lines) are r =
    let last = of_state form r.end r.last r.report_is in
    record {
      line = line;
      lines = lines;
      done = r.done;
      end = last.state;
      lines_are = are;
      replayed = law line lines r.done last.state (subst (AreAnswered form 1 None (line ∷ lines) r.done) last.end_is r.answered);
      text_is = r.text_is ∙ ap (λ (t : List ℕ). r.done ++ t) last.last_is;
    }

pub answers_replayed : (form : Form) → LinesAreReplayed form → AnswersAreReplays form
answers_replayed form law input text e = by_lines form law input text (lines_of input) refl (reports form (lines_of input) 1 None text e)
