-- What the lines of a replay tell, from what the reports of its blocks do.
use Rattle.std.proofs.Common.{All, Contains, IfOk, ◌⊎◌, flat_map, ◌≡◌, ℕ, ◌+◌, List, [], ◌∷◌, ◌++◌, map, inl, inr, Result, Ok, Err, refl, sym, ap, subst, ◌∙◌, append_assoc, append-nil}
use Rattle.std.proofs.lemmas.List.Elements.{All-contains, All-map, All-contains_itself, All-weaker, Contains-append_cases}
use Rattle.base_bech32.specs.declared.form.Form.{Form}
use Rattle.base_coins.specs.Coins.{Money}
use Rattle.base_roles.specs.{Holdings.supply_of, Log.Log, declared.facts.Fact.Fact}
use Rattle.base_roles.specs.declared.facts.Fact.TheVariants as fact
use Rattle.base_messages.specs.declared.{block.{Block.Block, Tx.Tx}, faults.BlockFault.BlockFault}
use Rattle.base_messages.specs.declared.report.{BlockReport.BlockReport, TxReport.TxReport}
use Rattle.rule_modules.specs.{Chain.State, Laws.burned_in}
use Rattle.rule_machine.specs.Machine.{Step, going_on, run_of, step, tx_applied, txs_applied}
use Rattle.rule_machine.specs.Promises.{Replayed, facts_of, run_in}
use Rattle.law_soundness.specs.Kept.{InTurn, begun_by}
use Rattle.law_rewards.specs.Withdrawals.{AreFair, AreSent, payments_in, payments_of}
use Rattle.law_rewards.proofs.{Finding.payments_are_fairly_told, Paying.{fair_joined, payments_joined}}
use Rattle.law_runs.specs.Payees.{BlockPaysPayees, IsToPayee, IsToldByMessage, RunPaysPayees, TxPaysPayees}
use Rattle.law_runs.{specs.{RunLaws.RunSaysFairly, Runs.SaysFairly}, proofs.Payees.{none_in, payees_are_of_the_moment}}
use Rattle.law_runs.proofs.Saying.{both_sent, runs_say_fairly}
use Rattle.line_json.specs.Written.{text_of_block}
use Rattle.law_lines.specs.{Laws.{facts_told, told_of}, Ranges.IsReport, Reading.facts_in}
use Rattle.law_lines.specs.Runs.{IsFairlyWritten, IsToldAlong, IsToldByBlock, IsToldInTurn, LinesTell, RunsAreWritten, text_of_run}
use Rattle.law_lines.proofs.BurnLemmas.{facts_alone, facts_first, written_burns}
use Rattle.law_lines.proofs.ReportLemmas.{geneses_read, reports_read}

-- ---- facts of blocks one after another

-- the facts of reports, in their order
abbrev all_facts : List BlockReport → List Fact
all_facts [] = []
all_facts (b ∷ bs) = facts_of b ++ all_facts bs

without_heights : (bs : List BlockReport) → facts_alone (flat_map told_of bs) ≡ all_facts bs
without_heights [] = refl
without_heights (b ∷ bs) = facts_first b.height (facts_of b) (flat_map told_of bs) ∙ ap (λ l. facts_of b ++ l) (without_heights bs)

-- ---- payments that are logged

-- what is logged behind a state's log is fair, and the payments that were told are those of it, each sent
record HasSaid (w end : State) (facts : List Fact) : Type 0 where
  more : Log
  log_is : end.log ≡ w.log ++ more
  fair : AreFair w.log more
  payments : payments_in facts ≡ payments_of more
  sent : AreSent [] facts

said_nothing : (w : State) → HasSaid w w []
said_nothing w = record { more = []; log_is = sym (append-nil w.log); fair = tt; payments = refl; sent = tt }

said_then : (w : State) (s : Step) (end : State) (facts : List Fact) → SaysFairly w s → HasSaid s.state end facts → HasSaid w end (facts_of s.report ++ facts)
said_then w s end facts g k = record {
  more = g.more ++ k.more;
  log_is = k.log_is ∙ ap (λ l. l ++ k.more) g.log_is ∙ append_assoc w.log g.more k.more;
  fair = fair_joined w.log g.more k.more g.fair (subst (λ l. AreFair l k.more) g.log_is k.fair);
  payments = payments_joined (facts_of s.report) facts g.more k.more g.payments k.payments;
  sent = both_sent (facts_of s.report) facts g.sent k.sent;
}

run_said : (blocks : List Block) (w : State) → RunSaysFairly blocks w → HasSaid w (run_of blocks w).state (all_facts (run_of blocks w).reports)
run_said [] w h = said_nothing w
run_said (b ∷ blocks) w h = by (step b w) h (λ u k. run_said blocks u k)
  where
    by : (q : Result Step BlockFault) → IfOk q (λ s. SaysFairly w s × RunSaysFairly blocks s.state)
        → ((u : State) → RunSaysFairly blocks u → HasSaid u (run_of blocks u).state (all_facts (run_of blocks u).reports))
        → HasSaid w (going_on w q (λ u. run_of blocks u)).state (all_facts (going_on w q (λ u. run_of blocks u)).reports)
    by (Ok s) k rest = said_then w s (run_of blocks s.state).state (all_facts (run_of blocks s.state).reports) k.0 (rest s.state k.1)
    by (Err fault) k rest = said_nothing w

-- ---- to whom payments go

module _ (g : List TxReport → List Fact) (none : g [] ≡ []) (next : (t : TxReport) (ts : List TxReport) → g (t ∷ ts) ≡ t.facts ++ g ts)
    (who operator to : List ℕ) (reward coins : Money) where
  abbrev f : Fact
  f = fact.Paid who operator to reward coins

  by_tx : (txs : List Tx) (w : State) → InTurn TxPaysPayees txs w → Contains (g (txs_applied txs w).reports) f → IsToldInTurn f txs w
  by_tx [] w q c = none_in f (g []) none c
  by_tx (tx ∷ txs) w q c =
      by (Contains-append_cases (tx_applied tx w).report.facts (g (txs_applied txs (tx_applied tx w).state).reports) f
      (subst (λ fs. Contains fs f) (next (tx_applied tx w).report (txs_applied txs (tx_applied tx w).state).reports) c)) (λ d. by_tx txs (tx_applied tx w).state q.1 d)
    where
      by : Contains (tx_applied tx w).report.facts f ⊎ Contains (g (txs_applied txs (tx_applied tx w).state).reports) f
          → (Contains (g (txs_applied txs (tx_applied tx w).state).reports) f → IsToldInTurn f txs (tx_applied tx w).state)
          → IsToldByMessage tx w f ⊎ IsToldInTurn f txs (tx_applied tx w).state
      by (inl here) rest = inl (q.0 who operator to reward coins here)
      by (inr later) rest = inr (rest later)

  by_block : (b : Block) (w begun : State) → begun_by b w ≡ Ok begun → InTurn TxPaysPayees b.txs begun → (first ended : List Fact) → first ≡ begun.view.facts
      → All (IsToPayee w) first → All (IsToPayee (txs_applied b.txs begun).state) ended → (txs : List TxReport) → txs ≡ (txs_applied b.txs begun).reports
      → Contains ((first ++ g txs) ++ ended) f → IsToldByBlock f b w
  by_block b w begun begins turn first ended e h k txs same c =
      record { begun = begun; begins = begins; part = outer (Contains-append_cases (first ++ g txs) ended f c) }
    where
      inner : Contains first f ⊎ Contains (g txs) f → (Contains begun.view.facts f × IsToPayee w f) ⊎ (IsToldInTurn f b.txs begun ⊎ IsToPayee (txs_applied b.txs begun).state f)
      inner (inl there) = inl (subst (λ fs. Contains fs f) e there, All-contains (IsToPayee w) first f h there)
      inner (inr there) = inr (inl (by_tx b.txs begun turn (subst (λ ts. Contains (g ts) f) same there)))

      outer : Contains (first ++ g txs) f ⊎ Contains ended f → (Contains begun.view.facts f × IsToPayee w f) ⊎ (IsToldInTurn f b.txs begun ⊎ IsToPayee (txs_applied b.txs begun).state f)
      outer (inl there) = inner (Contains-append_cases first (g txs) f there)
      outer (inr there) = inr (inr (All-contains (IsToPayee (txs_applied b.txs begun).state) ended f k there))

by_report : (who operator to : List ℕ) (reward coins : Money) (height time : ℕ) (b : Block) (w begun : State) → begun_by b w ≡ Ok begun → InTurn TxPaysPayees b.txs begun
    → (first ended : List Fact) → first ≡ begun.view.facts → All (IsToPayee w) first → All (IsToPayee (txs_applied b.txs begun).state) ended
    → (txs : List TxReport) → txs ≡ (txs_applied b.txs begun).reports
    → Contains (facts_of (record { height = height; time = time; begun = first; txs = txs; ended = ended })) (fact.Paid who operator to reward coins)
    → IsToldByBlock (fact.Paid who operator to reward coins) b w
by_report who operator to reward coins height time b w begun begins turn first ended e h k =
    by_block _ refl (λ t ts. refl) who operator to reward coins b w begun begins turn first ended e h k

-- a fact among those of one height is of that height
at_among : (h n : ℕ) (facts : List Fact) (x : Fact) → Contains {X = ℕ × Fact} (map (λ told. (n, told)) facts) (h, x) → (h ≡ n) × Contains facts x
at_among h n facts x c =
    let P : ℕ × Fact → Type 0 = λ t. (t.0 ≡ n) × Contains facts t.1 in
    let all : List (ℕ × Fact) = map (λ told. (n, told)) facts in
    All-contains P all (h, x) (All-map P (λ told. (n, told)) facts (All-weaker (Contains facts) (λ told. P (n, told)) (λ told there. (refl, there)) facts (All-contains_itself facts))) c

module _ (height : ℕ) (who operator to : List ℕ) (reward coins : Money) where
  abbrev paid : Fact
  paid = fact.Paid who operator to reward coins

  abbrev line : ℕ × Fact
  line = (height, paid)

  told_along : (blocks : List Block) (w : State) → RunPaysPayees blocks w → Contains (flat_map told_of (run_of blocks w).reports) line → IsToldAlong height paid blocks w
  told_along [] w q c = none_in line [] refl c
  told_along (b ∷ blocks) w q c = by (step b w) refl q c (λ u k d. told_along blocks u k d)
    where
      here : (s : Step) → BlockPaysPayees b w s → Contains (told_of s.report) line → (height ≡ b.height) × IsToldByBlock paid b w
      here s k d =
          let m = at_among height s.report.height (facts_of s.report) paid d in (
            m.0 ∙ k.parts.0,
            by_report who operator to reward coins s.report.height s.report.time b w k.begun k.begins k.txs s.report.begun s.report.ended k.parts.1 k.first k.last s.report.txs k.parts.2 m.1,
          )

      either : (s : Step) → BlockPaysPayees b w s → (Contains (flat_map told_of (run_of blocks s.state).reports) line → IsToldAlong height paid blocks s.state)
          → Contains (told_of s.report) line ⊎ Contains (flat_map told_of (run_of blocks s.state).reports) line
          → ((height ≡ b.height) × IsToldByBlock paid b w) ⊎ IsToldAlong height paid blocks s.state
      either s k rest (inl d) = inl (here s k d)
      either s k rest (inr d) = inr (rest d)

      by : (r : Result Step BlockFault) → step b w ≡ r → IfOk r (λ s. BlockPaysPayees b w s × RunPaysPayees blocks s.state)
          → Contains (flat_map told_of (going_on w r (λ u. run_of blocks u)).reports) line
          → ((u : State) → RunPaysPayees blocks u → Contains (flat_map told_of (run_of blocks u).reports) line → IsToldAlong height paid blocks u)
          → IsToldAlong height paid (b ∷ blocks) w
      by (Ok s) e k d rest =
          (s, e, either s k.0 (λ x. rest s.state k.1 x) (Contains-append_cases (told_of s.report) (flat_map told_of (run_of blocks s.state).reports) line d))
      by (Err fault) e k d rest = absurd (none_in line [] refl d)

-- ---- the text of a replay

module _ (form : Form) (r : Replayed) (are : All IsReport (run_in r).reports) where
  abbrev reports : List BlockReport
  reports = (run_in r).reports

  abbrev blocks_text : List ℕ
  blocks_text = flat_map (text_of_block form) reports

  of_blocks : facts_in form (text_of_run form r) ≡ facts_in form blocks_text
  of_blocks = geneses_read form r.start.state.view.bank.supplies blocks_text

  all_told : facts_in form (text_of_run form r) ≡ flat_map told_of reports
  all_told = of_blocks ∙ reports_read form reports are

  told_alone : facts_told form (text_of_run form r) ≡ all_facts reports
  told_alone = ap facts_alone all_told ∙ without_heights reports

  written_fairly : (before after : List Fact) (who operator to : List ℕ) (reward coins : Money)
      → facts_told form (text_of_run form r) ≡ before ++ fact.Paid who operator to reward coins ∷ after → IsFairlyWritten r before who operator to reward coins
  written_fairly before after who operator to reward coins e =
      let k : HasSaid r.start.state (run_in r).state (all_facts reports) = run_said r.blocks r.start.state (runs_say_fairly r) in
      let all : before ++ fact.Paid who operator to reward coins ∷ after ≡ all_facts reports = sym e ∙ told_alone in
      record {
        more = k.more;
        log_is = k.log_is;
        told = payments_are_fairly_told r.start.state.log k.more before after who operator to reward coins k.fair (ap payments_in all ∙ k.payments) (subst (λ fs. AreSent [] fs) (sym all) k.sent);
      }

  lines_tell : LinesTell form r
  lines_tell = record {
    supplies = λ d. ap (λ l. supply_of (run_in r).state.view.bank d + burned_in d (facts_alone l)) of_blocks ∙ written_burns form r d are;
    payments = written_fairly;
    payees = λ height who operator to reward coins c.
        told_along height who operator to reward coins r.blocks r.start.state (payees_are_of_the_moment r) (subst (λ (l : List (ℕ × Fact)). Contains l (height, fact.Paid who operator to reward coins)) all_told c);
  }

pub runs_written : RunsAreWritten
runs_written form r are = lines_tell form r are
