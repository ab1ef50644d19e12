-- What stands of a pair behind a block that a recorder hears: its facts and notes met the log, and each payment is stated rightly.
use Rattle.std.proofs.Common.{◌≡◌, ◌∙◌, ℕ, ◌+◌, ◌^◌, ◌<◌, ◌≤◌, List, [], ◌∷◌, ◌++◌, append-nil, drop, length, refl, sym, ap, subst, arith, All, Contains, IfOk, Option, Result, Ok, Err}
use Rattle.std.{specs.Prelude.⊤, proofs.lemmas.List.{append_cancel_left, drop_all, Elements.{All-cons, All-nil}}}
use Rattle.base_messages.specs.declared.{block.Block.Block, report.TxReport.TxReport}
use Rattle.base_messages.specs.declared.faults.BlockFault.TheVariants.{RatioLimit}
use Rattle.base_roles.specs.declared.{entities.Validator.Validator, facts.Fact.Fact, messages.Vote.Vote}
use Rattle.base_roles.specs.{Flow.{◌>>=◌, ◌>>◌}, Log.Log, Staked.validator_at}
use Rattle.base_roles.specs.Log as log
use Rattle.rule_machine.{proofs.DueLemmas.{IsDue, is_due}, specs.{Blocks.block_fault, GenesisState.without_facts}}
use Rattle.rule_machine.specs.Listening.{Hearing, beginning_heard, block_heard, ending_heard, heard_in, hearing, part_heard, txs_heard, unheard}
use Rattle.rule_machine.specs.Machine.{Step, TxSteps, block_checked, evidence_checked, step, stop_at, txs_applied, votes_checked}
use Rattle.rule_machine.specs.Promises.{TxHasCoins, facts_of}
use Rattle.rule_modules.specs.{Chain.{State, begin_block, end_block}, Laws.next_block}
use Rattle.rule_modules.proofs.GoingLemmas.{from_if, on_lifted, on_next, same_ok, step_parts}
use Rattle.law_soundness.proofs.{Burns.total_in, Following.next_fits, Points.StateFits}
use Rattle.law_soundness.proofs.Running.{AreDistinct, AreKnown, CountBelow, first_ok, next_ok, votes_are}
use Rattle.law_soundness.{proofs.{Transactions.without_facts_fits, Voting.own_record}, specs.Kept.begun_by}
use Rattle.law_rewards.specs.{States.AreReached, StateLaws.NoneStartedHere}
use Rattle.law_rewards.{specs.Withdrawals.{AreFair, IsFairEntry, IsFairReward}, proofs.Allocating.none_started_in_next}
use Rattle.law_rewards.proofs.{Endings.next_block_keeps_reached, Finding.in_turn_at}
use Rattle.law_runs.{specs.Runs.SaysFairly, proofs.{Running.sound_at, Saying.{HasPaid, begun_paid}}}
use Rattle.mod_recorder.specs.{declared.note.Note.Note, Notes.{Noted, ended, heard, parted}}
use Rattle.mod_tracking.specs.{declared.tracker.Pair.Pair, Stating.told_in}
use Rattle.mod_tracking.specs.Tracking.{Followed, Payment, Tracked, block_followed, unpaid}
use Rattle.law_statements.specs.Runs.{AreFew, IsOfWithdrawal, PaysRightly, followed_in}
use Rattle.law_statements.{specs.Unheard.RecorderChangesNothing, proofs.Beginnings.beginning_holds}
use Rattle.law_statements.proofs.{Deeds.{ArePaidIn, IsPaidIn, Meets}, Ends.ending_holds, Holding.Holds}
use Rattle.law_statements.proofs.{Meeting.{Stands, rests}, Rightness.fair_payments_are_stated_rightly, Walks.AreWithin}
use Rattle.law_statements.proofs.Transactions.{AreTried, Behind, parted_holds, txs_tried}
use Rattle.law_statements.proofs.Unhearing.{beginning_same, ending_same, from_same}

-- ---- between blocks

-- What stands of a pair meets the log, and the recorder begins a block's facts anew.
pub record StandsAt (p : Pair) (n : Noted) (t : Tracked) (l : Log) : Type 0 where
  pub anew : n.before ≡ 0
  pub few : t.removals ≤ length n.notes
  pub stands : Stands 0 p l t

-- so a block begins with nothing told and noted
begins_so : (p : Pair) (v : Option Validator) (n : Noted) (t : Tracked) (l : Log) → StandsAt p n t l → Holds p v t (length n.notes) l [] 0 n [] l
begins_so p v n t l k = record {
  before = λ s. k.anew;
  meets = λ s. record {
    due = unpaid t;
    due_is = ap (λ (ns : List Note). block_followed p v [] ns t) none;
    more = [];
    log_is = sym (append-nil l);
    within = subst (AreWithin 0) (sym none) tt;
    many = itself (length n.notes);
    few = k.few;
    stands = k.stands;
    payments = tt;
  };
}
  where
    itself : (a : ℕ) → a ≤ a
    itself a = omega arith

    none : drop (length n.notes) n.notes ≡ []
    none = drop_all (length n.notes) n.notes (itself (length n.notes))

-- ---- the facts of a block

told_by : (g : List TxReport → List Fact) → g [] ≡ [] → ((t : TxReport) (us : List TxReport) → g (t ∷ us) ≡ t.facts ++ g us) → (ts : List TxReport) → told_in ts ≡ g ts
told_by g none more [] = sym none
told_by g none more (t ∷ ts) = ap (λ (fs : List Fact). t.facts ++ fs) (told_by g none more ts) ∙ sym (more t ts)

told_by_parts : (begun last : List Fact) (g : List TxReport → List Fact) → g [] ≡ [] → ((t : TxReport) (us : List TxReport) → g (t ∷ us) ≡ t.facts ++ g us) → (ts : List TxReport) → (begun ++ told_in ts) ++ last ≡ begun ++ g ts ++ last
told_by_parts begun last g none more ts = ap (λ (fs : List Fact). (begun ++ fs) ++ last) (told_by g none more ts)

told_by_block : (height time : ℕ) (begun last : List Fact) (ts : List TxReport) → (begun ++ told_in ts) ++ last ≡ facts_of (record { height = height; time = time; begun = begun; txs = ts; ended = last })
told_by_block height time begun last = told_by_parts begun last _ refl (λ t us. refl)

-- ---- a block

module _ (p : Pair) (n : Noted) (t : Tracked) (w : State) where
  abbrev before : Option Validator
  before = validator_at w.mine.staked p.operator

  -- A block that a recorder heard so is the machine's, and meets the log.
  pub record IsHeard (s : Step) (h : Hearing Noted) : Type 0 where
    pub same : s.state ≡ unheard h
    pub anew : (heard_in h).before ≡ 0
    pub meets : AreFew (heard_in h) s → Meets p before t (length n.notes) w.log 0 (heard_in h).notes (facts_of s.report) s.state.log

  -- a block of these parts
  abbrev made_of : Block → List Fact → List TxReport → State → Step
  made_of b begun reports x = record { report = record { height = b.height; time = b.time; begun = begun; txs = reports; ended = x.view.facts }; state = without_facts x }

  abbrev sealed : Hearing Noted → Hearing Noted
  sealed x = hearing (ended (heard_in x)) (without_facts (unheard x))

  ended_so : (b : Block) (begun : List Fact) (reports : List TxReport) (last : Hearing Noted) → Behind p before t (length n.notes) w.log (begun ++ told_in reports) last → IsHeard (made_of b begun reports (unheard last)) (sealed last)
  ended_so b begun reports last k = record {
    same = refl;
    anew = refl;
    meets = λ few. (
        let told = told_by_block b.height b.time begun last.view.facts reports in
        subst (λ (fs : List Fact). Meets p before t (length n.notes) w.log 0 (heard_in last).notes fs last.log) told
        (k.meets (few.0, subst (λ (fs : List Fact). length fs < 2 ^ 64) (sym told) few.1)));
  }

  module _ (nothing : RecorderChangesNothing) (some : List (List ℕ)) (few : length some ≤ 1_000_000) (b : Block) (T : List ℕ → ℕ) (coins : All TxHasCoins b.txs) (fits : StateFits (Contains some) T w) (reached : AreReached w)
      (space : w.view.ctx.height + 1 < 2 ^ 63) (k : StandsAt p n t w.log) where
    abbrev w1 : State
    w1 = without_facts (next_block b.height b.time w)

    abbrev start : Hearing Noted
    start = hearing n w1

    abbrev T1 : List ℕ → ℕ
    T1 = total_in w1.view

    -- its beginning
    begins_heard : block_checked b w ≡ Ok tt → IfOk (beginning_heard heard b.votes b.evidence start) (Behind p before t (length n.notes) w.log [])
    begins_heard e =
        let due : IsDue b w = is_due b w e in
        let checks = next_ok (stop_at (block_fault w.view.ctx.height w.view.ctx.time b)) (votes_checked w.mine.staked w.view.ctx.params.power_reduction [] b.votes >> evidence_checked b w.view.ctx.params.power_reduction 0 b.evidence) tt e in
        let first = first_ok (votes_checked w.mine.staked w.view.ctx.params.power_reduction [] b.votes) (evidence_checked b w.view.ctx.params.power_reduction 0 b.evidence) tt checks in
        let votes = votes_are w.mine.staked w.view.ctx.params.power_reduction b.votes [] first.1 in
        let later : w.view.ctx.height < b.height = above b.height w.view.ctx.height due.height in
        let fits1 : StateFits (Contains some) T1 w1 =
        without_facts_fits (Contains some) T (next_block b.height b.time w) (next_fits (Contains some) T b.height b.time w fits (at_least b.height w.view.ctx.height due.height) (at_height b.height w.view.ctx.height due.height space) due.before_end) in
        let next : AreReached (next_block b.height b.time w) = next_block_keeps_reached w b.height b.time later reached in
        let none : NoneStartedHere w1 = none_started_in_next w b.height b.time (sound_at some few T w fits) later in
        beginning_holds p before t (length n.notes) w.log [] nothing some few T1 b.votes b.evidence start none votes.0 votes.1 (below b.votes due.height) refl
        (record { fits = fits1; reached = λ d u found. next d u found; holds = begins_so p before n t w.log k })
      where
        at_least : (a m : ℕ) → a ≡ m + 1 → m ≤ a
        at_least a m e = omega (arith, e)

        above : (a m : ℕ) → a ≡ m + 1 → m < a
        above a m e = omega (arith, e)

        at_height : (a m : ℕ) → a ≡ m + 1 → m + 1 < 2 ^ 63 → a < 2 ^ 63
        at_height a m e l = omega (arith, e, l)

        below : (ts : List Vote) → b.height ≡ w.view.ctx.height + 1 → CountBelow w1 ts
        below [] e = tt
        below (u ∷ ts) e = (λ s f. let own = own_record w.view.ctx.height u.cons s w.hooks.1 fits.stake.window f in let counted = own.counted in omega (arith, counted, e), below ts e)

    -- its transactions, behind what its beginning left
    module _ (begun : State) (begins : begun_by b w ≡ Ok begun) (paid : HasPaid some few b w begun) (u : Hearing Noted) (u_is : beginning_heard heard b.votes b.evidence start ≡ Ok u) (holds : Behind p before t (length n.notes) w.log [] u) where
      begun_is : begun ≡ unheard u
      begun_is = same_ok begun (unheard u) (sym begins ∙ from_same unheard (begin_block b.votes b.evidence w1) (beginning_heard heard b.votes b.evidence start) u (beginning_same nothing b.votes b.evidence start) u_is)

      abbrev first : Hearing Noted
      first = part_heard heard parted ended u

      pub tried : AreTried p before t (length n.notes) w.log nothing some few begun.view.facts b.txs begun first
      tried =
          txs_tried p before t (length n.notes) w.log nothing some few begun.view.facts T1 (next_block b.height b.time w).view.ctx b.txs begun first (ap without_facts begun_is) coins paid.begun_is.fits paid.reached
          (subst (λ (fs : List Fact). Behind p before t (length n.notes) w.log fs first) (ap (λ (x : State). x.view.facts) (sym begun_is)) (parted_holds p before t (length n.notes) w.log [] u holds))

    -- all of it
    heard_so : (begun : State) (begins : begun_by b w ≡ Ok begun) (fin : State) → end_block (without_facts (txs_applied b.txs begun).state) ≡ Ok fin → block_checked b w ≡ Ok tt → (h : Hearing Noted) → block_heard heard parted ended b (hearing n w) ≡ Ok h
        → IsHeard (made_of b begun.view.facts (txs_applied b.txs begun).reports fin) h
    heard_so begun begins fin ends checked h is =
        let one = step_parts (beginning_heard heard b.votes b.evidence start) (λ x. ending_heard heard (txs_heard heard parted ended b.txs (part_heard heard parted ended x)) >>= λ y. Ok (sealed y)) h is in
        let u : Hearing Noted = one.0 in
        let left : Hearing Noted = txs_heard heard parted ended b.txs (part_heard heard parted ended u) in
        let two = step_parts (ending_heard heard left) (λ y. Ok (sealed y)) h one.2 in
        let last : Hearing Noted = two.0 in
        let paid : HasPaid some few b w begun = from_if (HasPaid some few b w) (begun_by b w) begun begins (begun_paid some few b T w fits reached space checked) in
        let holds : Behind p before t (length n.notes) w.log [] u = from_if (Behind p before t (length n.notes) w.log []) (beginning_heard heard b.votes b.evidence start) u one.1 (begins_heard checked) in
        let txs = tried begun begins paid u one.1 holds in
        let fin_is : fin ≡ unheard last = same_ok fin (unheard last) (sym ends ∙ ap end_block txs.same ∙ from_same unheard (end_block (unheard left)) (ending_heard heard left) last (ending_same nothing left) two.1) in
        let all : Behind p before t (length n.notes) w.log (begun.view.facts ++ told_in (txs_applied b.txs begun).reports) last =
        from_if (Behind p before t (length n.notes) w.log (begun.view.facts ++ told_in (txs_applied b.txs begun).reports)) (ending_heard heard left) last two.1
        (ending_holds p before t (length n.notes) w.log (begun.view.facts ++ told_in (txs_applied b.txs begun).reports) left txs.holds) in
        subst (IsHeard (made_of b begun.view.facts (txs_applied b.txs begun).reports fin)) (same_ok (sealed last) h two.2)
        (subst (λ (x : State). IsHeard (made_of b begun.view.facts (txs_applied b.txs begun).reports x) (sealed last)) (sym fin_is) (ended_so b begun.view.facts (txs_applied b.txs begun).reports last all))

    pub block_is_heard : IfOk (step b w) (λ s. (h : Hearing Noted) → block_heard heard parted ended b (hearing n w) ≡ Ok h → IsHeard s h)
    block_is_heard =
        on_next (block_checked b w) _ _ (λ x e.
        on_lifted RatioLimit (begin_block b.votes b.evidence w1) _ _ (λ begun begins.
        on_lifted RatioLimit (end_block (without_facts (txs_applied b.txs begun).state)) _ _ (λ fin ends. heard_so begun begins fin ends (same_tt x e))))
      where
        same_tt : (x : ⊤) → block_checked b w ≡ Ok x → block_checked b w ≡ Ok tt
        same_tt x e = e

  -- ---- payments

  paid_rightly : (height : ℕ) (more : Log) (pay : Payment) → AreFair w.log more → IsPaidIn p before t (length n.notes) w.log more pay → IsOfWithdrawal p height w.log more pay
  paid_rightly height more pay fair k =
      let f : IsFairReward (w.log ++ k.earlier) p.delegator p.operator k.full k.outstanding =
      in_turn_at (λ l e. IsFairEntry l e.0 e.1) w.log k.earlier (p.operator, log.withdrawn p.delegator k.to k.full k.outstanding) k.later (subst (AreFair w.log) k.parts fair) in
      record {
        earlier = k.earlier;
        later = k.later;
        to = k.to;
        full = k.full;
        outstanding = k.outstanding;
        parts = k.parts;
        reward_is = k.reward_is;
        rightly = fair_payments_are_stated_rightly p height (w.log ++ k.earlier) pay k.full k.outstanding f k.reward_is (rests 0 p (w.log ++ k.earlier) pay.rests_on f.span f.is k.stands);
      }

  all_rightly : (height : ℕ) (more : Log) (pays : List Payment) → AreFair w.log more → ArePaidIn p before t (length n.notes) w.log more pays → All (IsOfWithdrawal p height w.log more) pays
  all_rightly height more [] fair k = All-nil (IsOfWithdrawal p height w.log more)
  all_rightly height more (pay ∷ pays) fair k =
      All-cons (IsOfWithdrawal p height w.log more) pay pays (paid_rightly height more pay fair k.0) (all_rightly height more pays fair k.1)

  -- ---- a block that says fairly what it pays

  module _ (s : Step) (h : Hearing Noted) (k : IsHeard s h) (says : SaysFairly w s) (few : AreFew (heard_in h) s) where
    met : Meets p before t (length n.notes) w.log 0 (heard_in h).notes (facts_of s.report) s.state.log
    met = k.meets few

    due_is : followed_in p w n t s (heard_in h) ≡ met.due
    due_is = met.due_is

    same_more : says.more ≡ met.more
    same_more = append_cancel_left w.log says.more met.more (sym says.log_is ∙ met.log_is)

    pub pays_so : PaysRightly p w n t s (heard_in h)
    pays_so = record {
      more = met.more;
      log_is = met.log_is;
      payments = subst (λ (f : Followed). All (IsOfWithdrawal p s.report.height w.log met.more) f.payments) (sym due_is)
          (all_rightly s.report.height met.more met.due.payments (subst (AreFair w.log) same_more says.fair) met.payments);
    }

    pub stands_next : StandsAt p (heard_in h) (followed_in p w n t s (heard_in h)).tracked s.state.log
    stands_next = subst (λ (f : Followed). StandsAt p (heard_in h) f.tracked s.state.log) (sym due_is) (record { anew = k.anew; few = met.few; stands = met.stands })
