-- What a run writes that goes on from where lines led is the rest of what one run writes.
use Rattle.std.proofs.Common.{◌≡◌, ◌∙◌, ℕ, ◌+◌, Bool, true, false, List, [], ◌∷◌, ◌++◌, length, nat_lt, if◌then◌else◌, Option, Some, None, Result, Ok, Err, refl, sym, ap, subst, arith, option_map}
use Rattle.base_bech32.specs.declared.form.Form.{Form}
use Rattle.line_json.specs.{Block.block_of, Genesis.genesis_of}
use Rattle.rule_machine.specs.{GenesisConditions.start_condition, Machine.{Step, step}}
use Rattle.rule_machine.specs.Report as machine
use Rattle.line_report.specs.Lines as report
use Rattle.base_messages.specs.declared.{block.Block.Block, faults.{BlockFault.BlockFault, LineFault.LineFault}}
use Rattle.base_messages.specs.declared.genesis.Genesis.{Genesis}
use Rattle.base_messages.specs.declared.faults.BlockFault.TheVariants as block
use Rattle.base_messages.specs.declared.faults.LineFault.TheVariants as fault
use Rattle.rule_modules.specs.Chain.{State}
use Rattle.run_app.specs.{declared.status.LineStop.LineStop, Laws.{AnswersJoin, IsRest, ResumesAreTheRest, moved}}
use Rattle.run_app.specs.Machine.{Answer, Standing, answer_within, applied_answer, block_answer, genesis_answer, line_answer, longest, not_applied, not_read, report_of, started_answer}
use Rattle.run_app.specs.Runs.{AreAnswered, Ran, before, ran_after, ran_from, ran_report}
use Rattle.run_app.proofs.RunLemmas.{answered-append, ran-append}
use Rattle.run_app.proofs.SoundLemmas.{Begun, Led, block_led, genesis_led, within}
use Rattle.run_app.specs.declared.status.LineStop.TheVariants as stop

-- two answers are one, or both are faults
abbrev AreAlike : Result Answer LineStop → Result Answer LineStop → Type 0
AreAlike (Ok a) (Ok b) = a ≡ b
AreAlike (Ok a) (Err f) = ⊥
AreAlike (Err e) (Ok b) = ⊥
AreAlike (Err e) (Err f) = Unit {0}

genesis_alike : (n m : ℕ) (r : Result Genesis LineFault) → AreAlike (genesis_answer n r) (genesis_answer m r)
genesis_alike n m (Err fault) = tt
genesis_alike n m (Ok g) = by (start_condition g)
  where
    by : (o : Option ℕ) → AreAlike (started_answer n g o) (started_answer m g o)
    by None = refl
    by (Some condition) = tt

block_alike : (form : Form) (n m : ℕ) (s : State) (r : Result Block LineFault) → AreAlike (block_answer form n s r) (block_answer form m s r)
block_alike form n m s (Err fault) = tt
block_alike form n m s (Ok b) = by (step b s)
  where
    by : (r : Result Step BlockFault) → AreAlike (applied_answer form n r) (applied_answer form m r)
    by (Ok step) = refl
    by (Err fault) = tt

within_alike : (form : Form) (n m : ℕ) (s : Standing) (line : List ℕ) → AreAlike (answer_within form n s line) (answer_within form m s line)
within_alike form n m None line = genesis_alike n m (genesis_of form line)
within_alike form n m (Some s) line = block_alike form n m s (block_of form line)

-- a line's number changes no more than the number in its fault
line_alike : (form : Form) (n m : ℕ) (s : Standing) (line : List ℕ) → AreAlike (line_answer form n s line) (line_answer form m s line)
unfolding line_answer
line_alike form n m s line = by (nat_lt longest (length line)) (within_alike form n m s line)
  where
    by : (b : Bool) → AreAlike (answer_within form n s line) (answer_within form m s line) → AreAlike (if b then Err (stop.Long n) else answer_within form n s line) (if b then Err (stop.Long m) else answer_within form m s line)
    by true h = tt
    by false h = h

-- ---- numbers of lines

not_read_moved : (k m : ℕ) (why : LineFault) → not_read (k + m) why ≡ moved k (not_read m why)
not_read_moved k m fault.NotJson = refl
not_read_moved k m (fault.BadShape member) = refl
not_read_moved k m fault.NoMemory = refl

not_applied_moved : (k m : ℕ) (why : BlockFault) → not_applied (k + m) why ≡ moved k (not_applied m why)
not_applied_moved k m (block.BadHeight due) = refl
not_applied_moved k m (block.BadTime last) = refl
not_applied_moved k m (block.UnknownVote place) = refl
not_applied_moved k m (block.RepeatedVote place) = refl
not_applied_moved k m (block.BadPower place) = refl
not_applied_moved k m (block.BadEvidence place) = refl
not_applied_moved k m (block.RatioLimit over) = refl
not_applied_moved k m block.NoMemory = refl

-- two answers are one, or faults of which one has so many lines more before it
abbrev AreMoved : ℕ → Result Answer LineStop → Result Answer LineStop → Type 0
AreMoved k (Ok a) (Ok b) = a ≡ b
AreMoved k (Ok a) (Err f) = ⊥
AreMoved k (Err e) (Ok b) = ⊥
AreMoved k (Err e) (Err f) = e ≡ moved k f

genesis_moved : (k m : ℕ) (r : Result Genesis LineFault) → AreMoved k (genesis_answer (k + m) r) (genesis_answer m r)
genesis_moved k m (Err why) = not_read_moved k m why
genesis_moved k m (Ok g) = by (start_condition g)
  where
    by : (o : Option ℕ) → AreMoved k (started_answer (k + m) g o) (started_answer m g o)
    by None = refl
    by (Some condition) = refl

block_moved : (form : Form) (k m : ℕ) (s : State) (r : Result Block LineFault) → AreMoved k (block_answer form (k + m) s r) (block_answer form m s r)
block_moved form k m s (Err why) = not_read_moved k m why
block_moved form k m s (Ok b) = by (step b s)
  where
    by : (r : Result Step BlockFault) → AreMoved k (applied_answer form (k + m) r) (applied_answer form m r)
    by (Ok step) = refl
    by (Err why) = not_applied_moved k m why

within_moved : (form : Form) (k m : ℕ) (s : Standing) (line : List ℕ) → AreMoved k (answer_within form (k + m) s line) (answer_within form m s line)
within_moved form k m None line = genesis_moved k m (genesis_of form line)
within_moved form k m (Some s) line = block_moved form k m s (block_of form line)

line_moved : (form : Form) (k m : ℕ) (s : Standing) (line : List ℕ) → AreMoved k (line_answer form (k + m) s line) (line_answer form m s line)
unfolding line_answer
line_moved form k m s line = by (nat_lt longest (length line)) (within_moved form k m s line)
  where
    by : (b : Bool) → AreMoved k (answer_within form (k + m) s line) (answer_within form m s line) → AreMoved k (if b then Err (stop.Long (k + m)) else answer_within form (k + m) s line) (if b then Err (stop.Long m) else answer_within form m s line)
    by true h = refl
    by false h = h

-- ---- what an answer leads to is a state

line_leads : (form : Form) (n : ℕ) (s : Standing) (line : List ℕ) (answer : Answer) → line_answer form n s line ≡ Ok answer → (q : State) × (answer.standing ≡ Some q)
line_leads form n None line answer is =
    let w = within form n None line answer is in
    let b : Begun form line answer = genesis_led form n line w.short (genesis_of form line) refl answer w.is in
    (b.start.state, b.standing_is)
line_leads form n (Some p) line answer is =
    let b : Led form line p answer = block_led form n line p (block_of form line) refl answer (within form n (Some p) line answer is).is in
    (b.done.state, b.standing_is)

never_before : (form : Form) (n : ℕ) (p : State) (lines : List (List ℕ)) (text : List ℕ) (end : Standing) → AreAnswered form n (Some p) lines text end → end ≡ None → ⊥
never_before form n p [] text end h none = let some : Some p ≡ None = sym h.1 ∙ none in absurd cc
never_before form n p (line ∷ lines) text end h none =
    let l = line_leads form n (Some p) line h.0 h.2 in
    never_before form (n + 1) l.0 lines h.1 end (subst (λ (s : Standing). AreAnswered form (n + 1) s lines h.1 end) l.1 h.4) none

-- ---- the rest

rest_before : (k : ℕ) (text : List ℕ) (a b : Ran) → IsRest k [] a b → IsRest k [] (before text a) (before text b)
rest_before k text a b r = record { text_is = ap (λ (t : List ℕ). text ++ t) r.text_is; fault_is = r.fault_is }

rest_after : (k : ℕ) (a b : Result Answer LineStop) (f g : Standing → Ran) → AreMoved k a b → ((x : Answer) → b ≡ Ok x → IsRest k [] (f x.standing) (g x.standing)) → IsRest k [] (ran_after a f) (ran_after b g)
rest_after k (Ok a) (Ok b) f g same next = subst (λ (c : Answer). IsRest k [] (ran_after (Ok c) f) (ran_after (Ok b) g)) (sym same) (rest_before k b.text (f b.standing) (g b.standing) (next b refl))
rest_after k (Ok a) (Err e) f g same next = absurd same
rest_after k (Err e) (Ok b) f g same next = absurd same
rest_after k (Err d) (Err e) f g same next = record { text_is = refl; fault_is = ap (λ (x : LineStop). Some x) same }

-- a state has a report
is_reported : (form : Form) (p : State) → (text : List ℕ) × (report_of form (Some p) ≡ Ok text)
unfolding report_of
is_reported form p = (report.text_of (report.lines_of form (machine.report_of p)), refl)

report_moved : (k : ℕ) (r : Result (List ℕ) LineStop) (text : List ℕ) → r ≡ Ok text → IsRest k [] (ran_report r) (ran_report r)
report_moved k (Ok other) text is = record { text_is = refl; fault_is = refl }
report_moved k (Err why) text is = absurd cc

renumbered : (form : Form) (lines : List (List ℕ)) (k m : ℕ) (p : State) → IsRest k [] (ran_from form (k + m) (Some p) lines) (ran_from form m (Some p) lines)
renumbered form [] k m p = let r = is_reported form p in report_moved k (report_of form (Some p)) r.0 r.1
renumbered form (line ∷ lines) k m p =
    rest_after k (line_answer form (k + m) (Some p) line) (line_answer form m (Some p) line) (λ next. ran_from form (k + m + 1) next lines) (λ next. ran_from form (m + 1) next lines) (line_moved form k m (Some p) line)
    (λ x is.
    let l = line_leads form m (Some p) line x is in
    let sum : k + (m + 1) ≡ k + m + 1 = omega arith in
    let further : IsRest k [] (ran_from form (k + m + 1) (Some l.0) lines) (ran_from form (m + 1) (Some l.0) lines) =
    subst (λ (n : ℕ). IsRest k [] (ran_from form n (Some l.0) lines) (ran_from form (m + 1) (Some l.0) lines)) sum (renumbered form lines k (m + 1) l.0) in
    subst (λ (s : Standing). IsRest k [] (ran_from form (k + m + 1) s lines) (ran_from form (m + 1) s lines)) (sym l.1) further)

rest_of : (k : ℕ) (text : List ℕ) (whole further rest : Ran) → whole ≡ before text further → IsRest k [] further rest → IsRest k text whole rest
rest_of k text whole further rest is r = subst (λ (w : Ran). IsRest k text w rest) (sym is) (record { text_is = ap (λ (t : List ℕ). text ++ t) r.text_is; fault_is = r.fault_is })

-- with no lines before nothing is moved
moved_by_none : (f : Option LineStop) → f ≡ option_map (moved 0) f
moved_by_none None = refl
moved_by_none (Some (stop.BadInput n why)) = let e : n ≡ 0 + n = omega arith in ap (λ (m : ℕ). Some (stop.BadInput m why)) e
moved_by_none (Some (stop.Long n)) = let e : n ≡ 0 + n = omega arith in ap (λ (m : ℕ). Some (stop.Long m)) e
moved_by_none (Some (stop.Ratio n over)) = let e : n ≡ 0 + n = omega arith in ap (λ (m : ℕ). Some (stop.Ratio m over)) e
moved_by_none (Some stop.Write) = refl
moved_by_none (Some stop.Keep) = refl
moved_by_none (Some stop.NoMemory) = refl

none_before : (text : List ℕ) (whole rest : Ran) → text ≡ [] → whole ≡ rest → IsRest 0 text whole rest
none_before text whole rest none same = record {
  text_is = ap (λ (r : Ran). r.text) same ∙ ap (λ (t : List ℕ). t ++ rest.text) (sym none);
  fault_is = ap (λ (r : Ran). r.fault) same ∙ moved_by_none rest.fault;
}

pub the_rest : (form : Form) → ResumesAreTheRest form
the_rest form first None [] more text good = none_before text (ran_from form 1 first more) (ran_from form 1 None more) good.0 (ap (λ (s : Standing). ran_from form 1 s more) (sym good.1))
the_rest form first None (line ∷ lines) more text good =
    let l = line_leads form 1 first line good.0 good.2 in
    absurd (never_before form 2 l.0 lines good.1 None (subst (λ (s : Standing). AreAnswered form 2 s lines good.1 None) l.1 good.4) refl)
the_rest form first (Some p) lines more text good =
    let sum : length lines + 1 ≡ 1 + length lines = omega arith in
    let further : IsRest (length lines) [] (ran_from form (1 + length lines) (Some p) more) (ran_from form 1 (Some p) more) =
    subst (λ (n : ℕ). IsRest (length lines) [] (ran_from form n (Some p) more) (ran_from form 1 (Some p) more)) sum (renumbered form more (length lines) 1 p) in
    rest_of (length lines) text (ran_from form 1 first (lines ++ more)) (ran_from form (1 + length lines) (Some p) more) (ran_from form 1 (Some p) more) (ran-append form 1 first lines more text (Some p) good) further

-- ---- answers of a run that went on

alike_ok : (r q : Result Answer LineStop) (a : Answer) → AreAlike r q → r ≡ Ok a → q ≡ Ok a
alike_ok (Ok b) (Ok c) a same is = let e : b ≡ a = cc in ap (λ (x : Answer). Ok x) (sym same ∙ e)
alike_ok (Ok b) (Err f) a same is = absurd same
alike_ok (Err e) (Ok c) a same is = absurd same
alike_ok (Err e) (Err f) a same is = absurd cc

renumbered_answers : (form : Form) (lines : List (List ℕ)) (n m : ℕ) (s : Standing) (text : List ℕ) (end : Standing) → AreAnswered form n s lines text end → AreAnswered form m s lines text end
renumbered_answers form [] n m s text end h = h
renumbered_answers form (line ∷ lines) n m s text end h =
    (h.0, h.1, alike_ok (line_answer form n s line) (line_answer form m s line) h.0 (line_alike form n m s line) h.2, h.3, renumbered_answers form lines (n + 1) (m + 1) h.0.standing h.1 end h.4)

pub answers_join : (form : Form) → AnswersJoin form
answers_join form first middle end lines more text text' done further =
    answered-append form 1 first lines more text middle text' end done (renumbered_answers form more 1 (1 + length lines) middle text' end further)
