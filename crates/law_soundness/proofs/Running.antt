-- Blocks keep a state sound, and so do runs of them.
use Rattle.std.proofs.Common.{◌≡◌, ◌∙◌, ℕ, suc, ◌+◌, ◌*◌, ◌^◌, ◌<◌, ◌≤◌, Bool, true, false, List, [], ◌∷◌, ◌++◌, length, map, Some, None, Option, Result, Ok, Err, refl, sym, ap, subst, arith, ◌||◌, nat_lt, is_none, sum, All, IfOk, Contains}
use Rattle.std.specs.{Prelude.⊤, BTreeMap.is_at, List.{AllByRecursion, list_any}}
use Rattle.std.proofs.lemmas.List.{Elements.{All-head, All-tail}, Sums.sum_by-cons}
use Rattle.base_types.specs.Orders.{cons_cmp}
use Rattle.base_roles.specs.declared.{entities.Validator.Validator, facts.Fact.Fact, messages.Evidence.Evidence}
use Rattle.base_roles.specs.{declared.{messages.Vote.Vote, params.Ctx.Ctx}, Holdings.supply_of}
use Rattle.base_roles.specs.{Flow.{◌>>=◌, ◌>>◌, stop_if, each}, Staked.{Staked, lists_of, validator_by_cons}}
use Rattle.base_roles.proofs.MomentLemmas.{same_moment}
use Rattle.base_messages.specs.declared.{block.Block.Block, faults.BlockFault.BlockFault}
use Rattle.base_messages.specs.declared.faults.BlockFault.TheVariants.{UnknownVote, RepeatedVote, BadPower, RatioLimit}
use Rattle.base_messages.specs.declared.report.{BlockReport.BlockReport, TxReport.TxReport}
use Rattle.rule_machine.specs.Machine.{Run, Step, TxSteps, vote_checked, votes_checked, evidence_checked, block_checked, power_of_votes, stop_at, step, going_on, run_of, txs_applied}
use Rattle.rule_machine.specs.{Blocks.block_fault, GenesisState.without_facts}
use Rattle.rule_machine.{specs.Promises.{AreInput, TxHasCoins, facts_of}, proofs.DueLemmas.{IsDue, is_due}}
use Rattle.law_soundness.proofs.{Burns.{burned_together, total_in}, Allocating.{fees_leave, with_purses}}
use Rattle.law_soundness.proofs.{Bonding.set_step_fits, Ending.{redelegations_fit, unbondings_fit}}
use Rattle.law_soundness.proofs.{Entries.{PairFits, PairsFit, to_pairs}, Following.next_fits, Hooking.stake_hooks}
use Rattle.law_soundness.proofs.{Lists.weaker, Maturing.maturing_fits, Moves.{Leaves, state_left}}
use Rattle.law_soundness.proofs.Points.{StateFits, StateLeft, WholeEntries, from_fits, to_fits}
use Rattle.law_soundness.proofs.Steps.{on_lifted_then, on_then, weaker_if}
use Rattle.law_soundness.proofs.Transactions.{TxsFit, WholeFits, burned_by, renewed, txs_fit, without_facts_fits}
use Rattle.law_soundness.proofs.Voting.{EvidenceLeft, VoteLeft, evidence_fits, own_record, vote_fits}
use Rattle.law_soundness.specs.StepLaws.{RunsKeepSoundness, RunsLowerSupplies}
use Rattle.rule_modules.{proofs.GoingLemmas.on_next, specs.Allocation.fees_allocated}
use Rattle.rule_modules.specs.Chain.{State, allocation_step, begin_block, end_block, evidence_step, maturing_step, redelegations_step, set_step, staked_in, unbondings_step, vote_step}
use Rattle.rule_modules.specs.{Laws.{burned_in, next_block}, Sound.{IsSound, UnbondingIsSound}}
use Rattle.rule_modules.specs.{Unbondings.UnbondingLists, Window.{Signing, signing_of}}

-- ---- votes that were checked

pub next_ok : {A B E : Type 0} (r : Result A E) (next : Result B E) (b : B) → (r >> next) ≡ Ok b → next ≡ Ok b
next_ok (Ok a) next b e = e
next_ok (Err d) next b e = absurd cc

pub first_ok : {A B E : Type 0} (r : Result A E) (next : Result B E) (b : B) → (r >> next) ≡ Ok b → (a : A) × (r ≡ Ok a)
first_ok (Ok a) next b e = (a, refl)
first_ok (Err d) next b e = absurd cc

passed : {A E : Type 0} (b : Bool) (why : E) (next : Result A E) (a : A) → (stop_if b why >> next) ≡ Ok a → (b ≡ false) × (next ≡ Ok a)
passed true why next a e = absurd cc
passed false why next a e = (refl, e)

-- an earlier vote is passed over by no test that finds none
IsAmong : Vote → List Vote → Type 0
IsAmong t before = (test : Vote → Bool) → list_any test before ≡ false → test t ≡ false

none_either : (a b : Bool) → (a || b) ≡ false → (a ≡ false) × (b ≡ false)
none_either true b e = absurd cc
none_either false b e = (refl, e)

among_last : (before : List Vote) (t : Vote) → IsAmong t (before ++ t ∷ [])
unfolding IsAmong
among_last [] t test e = (none_either (test t) false e).0
among_last (u ∷ us) t test e = among_last us t test (none_either (test u) (list_any test (us ++ t ∷ [])) e).1

among_more : (before : List Vote) (t u : Vote) → IsAmong t before → IsAmong t (before ++ u ∷ [])
unfolding IsAmong
among_more before t u h test e = h test (fewer before e)
  where
    fewer : (xs : List Vote) → list_any test (xs ++ u ∷ []) ≡ false → list_any test xs ≡ false
    fewer [] f = refl
    fewer (x ∷ xs) f = let parts = none_either (test x) (list_any test (xs ++ u ∷ [])) f in by (test x) (list_any test xs) parts.0 (fewer xs parts.1)
      where
        by : (a b : Bool) → a ≡ false → b ≡ false → (a || b) ≡ false
        by true b p q = absurd cc
        by false b p q = q

-- each vote is of a validator that stands, and no two of one consensus address
abbrev pub AreKnown : Staked → List Vote → Type 0
AreKnown s votes = AllByRecursion (λ t. (v : Validator) × (validator_by_cons s t.cons ≡ Some v)) votes

abbrev pub AreDistinct : List Vote → Type 0
AreDistinct [] = Unit {0}
AreDistinct (t ∷ ts) = AllByRecursion (λ u. is_at (cons_cmp u.cons) t.cons ≡ false) ts × AreDistinct ts

some_of : {X : Type 0} (r : Option X) → is_none r ≡ false → (x : X) × (r ≡ Some x)
some_of (Some x) e = (x, refl)
some_of None e = absurd cc

-- one vote's checks
record IsChecked (s : Staked) (before : List Vote) (t : Vote) : Type 0 where
  known : (v : Validator) × (validator_by_cons s t.cons ≡ Some v)
  new : list_any (λ u. is_at (cons_cmp t.cons) u.cons) before ≡ false

checked : (s : Staked) (reduction : ℕ) (before : List Vote) (t : Vote) (a : ⊤) → vote_checked s reduction before t ≡ Ok a → IsChecked s before t
checked s reduction before t a e =
    let one = passed (is_none (validator_by_cons s t.cons)) (UnknownVote (length before)) (stop_if (list_any (λ u. is_at (cons_cmp t.cons) u.cons) before) (RepeatedVote (length before)) >> stop_if (nat_lt (10 ^ 18) (power_of_votes (before ++ t ∷ []) * reduction)) (BadPower (length before))) a e in
    let two = passed (list_any (λ u. is_at (cons_cmp t.cons) u.cons) before) (RepeatedVote (length before)) (stop_if (nat_lt (10 ^ 18) (power_of_votes (before ++ t ∷ []) * reduction)) (BadPower (length before))) a one.1 in
    record { known = some_of (validator_by_cons s t.cons) one.0; new = two.0 }

-- later votes are of other addresses
others_than : (s : Staked) (reduction : ℕ) (x : Vote) (ts before : List Vote) → IsAmong x before → votes_checked s reduction before ts ≡ Ok tt → AllByRecursion (λ u. is_at (cons_cmp u.cons) x.cons ≡ false) ts
unfolding IsAmong
others_than s reduction x [] before h e = tt
others_than s reduction x (t ∷ ts) before h e =
    let one = first_ok (vote_checked s reduction before t) (votes_checked s reduction (before ++ t ∷ []) ts) tt e in
    let k = checked s reduction before t one.0 one.1 in
    (h (λ u. is_at (cons_cmp t.cons) u.cons) k.new, others_than s reduction x ts (before ++ t ∷ []) (among_more before x t h) (next_ok (vote_checked s reduction before t) (votes_checked s reduction (before ++ t ∷ []) ts) tt e))

pub votes_are : (s : Staked) (reduction : ℕ) (ts before : List Vote) → votes_checked s reduction before ts ≡ Ok tt → AreKnown s ts × AreDistinct ts
votes_are s reduction [] before e = (tt, tt)
votes_are s reduction (t ∷ ts) before e =
    let one = first_ok (vote_checked s reduction before t) (votes_checked s reduction (before ++ t ∷ []) ts) tt e in
    let k = checked s reduction before t one.0 one.1 in
    let later = next_ok (vote_checked s reduction before t) (votes_checked s reduction (before ++ t ∷ []) ts) tt e in
    let rest = votes_are s reduction ts (before ++ t ∷ []) later in
    ((k.known, rest.0), (others_than s reduction t ts (before ++ t ∷ []) (among_last before t) later, rest.1))

-- of no vote's record more votes were counted than heights before this one
abbrev pub CountBelow : State → List Vote → Type 0
CountBelow w ts = AllByRecursion (λ t. (s : Signing) → signing_of w.hooks.1 t.cons ≡ Some s → length s.votes < w.view.ctx.height) ts

module _ (P : List ℕ → Type 0) (T : List ℕ → ℕ) where
  -- ---- the beginning

  -- what parts of a block's beginning leave; unbonding entries are as old as they were
  pub record BegunLeft (w x : State) : Type 0 where
    pub fits : StateFits P T x
    pub ctx : x.view.ctx ≡ w.view.ctx
    pub pairs : (m : ℕ) → PairsFit m w.mine.unbondings → PairsFit m x.mine.unbondings

  begun_then : (w x y : State) → BegunLeft w x → BegunLeft x y → BegunLeft w y
  begun_then w x y h k = record { fits = k.fits; ctx = k.ctx ∙ h.ctx; pairs = λ m g. k.pairs m (h.pairs m g) }

  pub counts_on : (w x : State) (t : Vote) (ts : List Vote) → x.view.ctx ≡ w.view.ctx → ((q : List ℕ) → is_at (cons_cmp q) t.cons ≡ false → signing_of x.hooks.1 q ≡ signing_of w.hooks.1 q) → AllByRecursion (λ u. is_at (cons_cmp u.cons) t.cons ≡ false) ts
      → CountBelow w ts → CountBelow x ts
  counts_on w x t [] c o a h = tt
  counts_on w x t (u ∷ ts) c o a h = (λ s f. subst (λ (k : Ctx). length s.votes < k.height) (sym c) (h.0 s (sym (o u.cons a.0) ∙ f)), counts_on w x t ts c o a.1 h.1)

  all_votes : (ts : List Vote) (w : State) → StateFits P T w → AreDistinct ts → CountBelow w ts → IfOk (each vote_step ts w) (BegunLeft w)
  all_votes [] w h d c = record { fits = h; ctx = refl; pairs = λ m k. k }
  all_votes (t ∷ ts) w h d c =
      on_then {B = State} (vote_step t w) (λ x. each vote_step ts x) (VoteLeft P T t.cons w) (BegunLeft w) (vote_fits P T t w h c.0) (λ x k.
      weaker_if (each vote_step ts x) (BegunLeft x) (BegunLeft w) (all_votes ts x k.fits d.1 (counts_on w x t ts k.ctx k.others d.0 c.1)) (λ y j. begun_then w x y (record { fits = k.fits; ctx = k.ctx; pairs = k.pairs }) j))

  all_evidence : (es : List Evidence) (w : State) → StateFits P T w → IfOk (each evidence_step es w) (BegunLeft w)
  all_evidence [] w h = record { fits = h; ctx = refl; pairs = λ m k. k }
  all_evidence (e ∷ es) w h =
      on_then {B = State} (evidence_step e w) (λ x. each evidence_step es x) (EvidenceLeft P T w) (BegunLeft w) (evidence_fits P T e w h) (λ x k.
      weaker_if (each evidence_step es x) (BegunLeft x) (BegunLeft w) (all_evidence es x k.fits) (λ y j. begun_then w x y (record { fits = k.fits; ctx = k.ctx; pairs = k.pairs }) j))

  -- allocation leaves entries and records as they were
  pub record AllocatedLeft (w x : State) : Type 0 where
    pub left : BegunLeft w x
    pub window : x.hooks.1 ≡ w.hooks.1

  pub allocated_left : (votes : List Vote) (w : State) → StateFits P T w → AreKnown w.mine.staked votes → IfOk (allocation_step votes w) (AllocatedLeft w)
  allocated_left votes w h known =
      let s = w.mine.staked in
      on_then (fees_allocated s votes w.hooks.0 w.view) _ (λ z. Leaves P T w.view (lists_of s) z.0 z.1) _ (fees_leave P T s votes w.hooks.0 w.view (lists_of s) (stake_hooks P T 0 _ (lists_of s) (staked_in w) h.stake) (with_purses P T votes w h known))
      (λ z k. record { left = record { fits = (state_left P T w z.0 z.1 z.2 h k).fits; ctx = k.ctx; pairs = λ m g. g }; window = refl })

  pub begin_fits : (votes : List Vote) (evidence : List Evidence) (w : State) → StateFits P T w → AreKnown w.mine.staked votes → AreDistinct votes → CountBelow w votes → IfOk (begin_block votes evidence w) (BegunLeft w)
  begin_fits votes evidence w h known distinct below =
      on_then {B = State} (allocation_step votes w) (λ x. each vote_step votes x >>= λ y. each evidence_step evidence y) (AllocatedLeft w) (BegunLeft w) (allocated_left votes w h known) (λ x a.
      on_then {B = State} (each vote_step votes x) (λ y. each evidence_step evidence y) (BegunLeft x) (BegunLeft w)
      (all_votes votes x a.left.fits distinct (same_counts x a votes below)) (λ y k.
      weaker_if (each evidence_step evidence y) (BegunLeft y) (BegunLeft w) (all_evidence evidence y k.fits) (λ z j. begun_then w y z (begun_then w x y a.left k) j)))
    where
      same_counts : (x : State) → AllocatedLeft w x → (ts : List Vote) → CountBelow w ts → CountBelow x ts
      same_counts x a [] c = tt
      same_counts x a (t ∷ ts) c = (λ s f. subst (λ (k : Ctx). length s.votes < k.height) (sym a.left.ctx) (c.0 s (ap (λ i. signing_of i t.cons) (sym a.window) ∙ f)), same_counts x a ts c.1)

  -- ---- the end

  record EndLeft (w x : State) : Type 0 where
    fits : StateFits P T x
    ctx : x.view.ctx ≡ w.view.ctx

  end_fits_all : (w : State) → StateFits P T w → IfOk (end_block w) (EndLeft w)
  end_fits_all w h =
      on_then {B = State} (set_step w) (λ a. maturing_step a >>= λ b. unbondings_step b >>= λ c. redelegations_step c) (StateLeft P T w) (EndLeft w) (set_step_fits P T w h) (λ a ka.
      on_then {B = State} (maturing_step a) (λ b. unbondings_step b >>= λ c. redelegations_step c) (StateLeft P T a) (EndLeft w) (maturing_fits P T a ka.fits) (λ b kb.
      on_then {B = State} (unbondings_step b) (λ c. redelegations_step c) (λ c. StateFits P T c × (c.view.ctx ≡ b.view.ctx)) (EndLeft w) (unbondings_fit P T b kb.fits) (λ c kc.
      weaker_if (redelegations_step c) (λ d. StateFits P T d × (d.view.ctx ≡ c.view.ctx)) (EndLeft w) (redelegations_fit P T c kc.0) (λ d kd. record { fits = kd.0; ctx = kd.1 ∙ kc.1 ∙ kb.ctx ∙ ka.ctx }))))

-- ---- a block

-- entries that are older than this height are whole
pub older_whole : (height now : ℕ) (u : UnbondingLists) → height < now → PairsFit height u → AllByRecursion (λ p. WholeEntries now p.1) u
older_whole height now u l h = weaker (λ p. PairFits height p.1) (λ p. WholeEntries now p.1) (λ p k. weaker (UnbondingIsSound height) (λ e. e.created ≡ now → e.balance ≡ e.initial) (λ e s c. absurd (later e.created s.created c)) p.1 k.entries) u h.pairs
  where
    later : (c : ℕ) → c ≤ height → c ≡ now → ⊥
    later c m e = omega (arith, l, m, e)

-- what facts of transactions say, one after the other
said_in_turn : (d : List ℕ) (g : List TxReport → List Fact) → g [] ≡ [] → ((t : TxReport) (ts : List TxReport) → g (t ∷ ts) ≡ t.facts ++ g ts) → (ts : List TxReport) → burned_in d (g ts) ≡ burned_by d ts
said_in_turn d g none more [] = ap (burned_in d) none
said_in_turn d g none more (t ∷ ts) =
    ap (burned_in d) (more t ts) ∙ burned_together d t.facts (g ts) ∙ ap (λ n. burned_in d t.facts + n) (said_in_turn d g none more ts)
    ∙ sym (sum_by-cons (λ n. n) (burned_in d t.facts) (map (λ u. burned_in d u.facts) ts))

-- what a block's facts say is what its parts say
said_by_parts : (d : List ℕ) (begun ended : List Fact) (g : List TxReport → List Fact) → g [] ≡ [] → ((t : TxReport) (ts : List TxReport) → g (t ∷ ts) ≡ t.facts ++ g ts) → (ts : List TxReport)
    → burned_in d (begun ++ g ts ++ ended) ≡ burned_in d begun + burned_by d ts + burned_in d ended
said_by_parts d begun ended g none more ts =
    burned_together d (begun ++ g ts) ended
    ∙ ap (λ n. n + burned_in d ended) (burned_together d begun (g ts) ∙ ap (λ n. burned_in d begun + n) (said_in_turn d g none more ts))

said_by_block : (d : List ℕ) (height time : ℕ) (begun ended : List Fact) (ts : List TxReport)
    → burned_in d (facts_of (record { height = height; time = time; begun = begun; txs = ts; ended = ended })) ≡ burned_in d begun + burned_by d ts + burned_in d ended
said_by_block d height time begun ended = said_by_parts d begun ended _ refl (λ t us. refl)

-- the coins of all blocks are lists of coins
abbrev pub HaveCoins : List Block → Type 0
HaveCoins blocks = All (λ b. All TxHasCoins b.txs) blocks

-- what blocks say was burned
abbrev burned_by_blocks : List ℕ → List BlockReport → ℕ
burned_by_blocks d reports = sum (map (λ b. burned_in d (facts_of b)) reports)

module _ (P : List ℕ → Type 0) where
  -- a block's state fits, at its height, and each supply is less by what the block says was burned
  pub record StepFits (w : State) (s : Step) : Type 0 where
    pub fits : StateFits P (total_in s.state.view) s.state
    pub height : s.state.view.ctx.height ≡ w.view.ctx.height + 1
    pub burns : (d : List ℕ) → supply_of s.state.view.bank d + burned_in d (facts_of s.report) ≡ supply_of w.view.bank d

  -- what a block's beginning leaves: a state that fits, at the block's height, where no entry of it has lost anything
  pub record HasBegun (b : Block) (w begun : State) : Type 0 where
    pub fits : WholeFits P (total_in (without_facts (next_block b.height b.time w)).view) (next_block b.height b.time w).view.ctx begun
    pub height : b.height ≡ w.view.ctx.height + 1

  -- where the block may follow
  pub begun_fits : (b : Block) (T : List ℕ → ℕ) (w : State) → StateFits P T w → w.view.ctx.height + 1 < 2 ^ 63 → block_checked b w ≡ Ok tt → IfOk (begin_block b.votes b.evidence (without_facts (next_block b.height b.time w))) (HasBegun b w)
  begun_fits b T w h few e =
      let due : IsDue b w = is_due b w e in
      let checks = next_ok (stop_at (block_fault w.view.ctx.height w.view.ctx.time b)) (votes_checked w.mine.staked w.view.ctx.params.power_reduction [] b.votes >> evidence_checked b w.view.ctx.params.power_reduction 0 b.evidence) tt e in
      let first = first_ok (votes_checked w.mine.staked w.view.ctx.params.power_reduction [] b.votes) (evidence_checked b w.view.ctx.params.power_reduction 0 b.evidence) tt checks in
      let votes = votes_are w.mine.staked w.view.ctx.params.power_reduction b.votes [] first.1 in
      let w1 : State = without_facts (next_block b.height b.time w) in
      let there : List ℕ → ℕ = total_in w1.view in
      let fits1 : StateFits P there w1 = without_facts_fits P T (next_block b.height b.time w) (next_fits P T b.height b.time w h (at_least b.height w.view.ctx.height due.height) (at_height b.height w.view.ctx.height due.height few) due.before_end) in
      weaker_if (begin_block b.votes b.evidence w1) (BegunLeft P there w1) (HasBegun b w) (begin_fits P there b.votes b.evidence w1 fits1 votes.0 votes.1 (below b.votes due.height)) (λ begun k. record {
        fits = record {
          fits = k.fits;
          whole = subst (λ (c : Ctx). AllByRecursion (λ p. WholeEntries c.height p.1) begun.mine.unbondings) (sym k.ctx)
              (older_whole w.view.ctx.height b.height begun.mine.unbondings (above b.height w.view.ctx.height due.height) (k.pairs w.view.ctx.height (to_pairs w.view.ctx.height w.mine.unbondings h.unbondings)));
          moment = same_moment (next_block b.height b.time w).view.ctx begun.view.ctx k.ctx;
        };
        height = due.height;
      })
    where
      at_least : (a n : ℕ) → a ≡ n + 1 → n ≤ a
      at_least a n e = omega (arith, e)

      above : (a n : ℕ) → a ≡ n + 1 → n < a
      above a n e = omega (arith, e)

      at_height : (a n : ℕ) → a ≡ n + 1 → n + 1 < 2 ^ 63 → a < 2 ^ 63
      at_height a n e l = omega (arith, e, l)

      below : (ts : List Vote) → b.height ≡ w.view.ctx.height + 1 → CountBelow (without_facts (next_block b.height b.time w)) ts
      below [] e = tt
      below (t ∷ ts) e = (λ s f. let own = own_record w.view.ctx.height t.cons s w.hooks.1 h.stake.window f in let counted = own.counted in omega (arith, counted, e), below ts e)

  -- the state before a block's end fits
  pub done_fits : (b : Block) (w begun : State) → All TxHasCoins b.txs → HasBegun b w begun → TxsFit P (next_block b.height b.time w).view.ctx begun (txs_applied b.txs begun)
  done_fits b w begun coins k = txs_fit P (total_in (without_facts (next_block b.height b.time w)).view) (next_block b.height b.time w).view.ctx b.txs begun coins k.fits

  pub block_fits : (b : Block) (T : List ℕ → ℕ) (w : State) → All TxHasCoins b.txs → StateFits P T w → w.view.ctx.height + 1 < 2 ^ 63 → IfOk (step b w) (StepFits w)
  block_fits b T w coins h few =
      on_next (block_checked b w) _ _ (λ t e.
      let w1 : State = without_facts (next_block b.height b.time w) in
      on_lifted_then RatioLimit (begin_block b.votes b.evidence w1) _ (HasBegun b w) _ (begun_fits b T w h few (same_tt t e)) (λ begun k.
      let done : TxSteps = txs_applied b.txs begun in
      let txs : TxsFit P (next_block b.height b.time w).view.ctx begun done = done_fits b w begun coins k in
      let w2 : State = without_facts done.state in
      let left : List ℕ → ℕ = total_in w2.view in
      on_lifted_then RatioLimit (end_block w2) _ (EndLeft P left w2) _ (end_fits_all P left w2 (without_facts_fits P (total_in done.state.view) done.state txs.fits.fits)) (λ ended j. record {
        fits = without_facts_fits P left ended j.fits;
        height = ap (λ (c : Ctx). c.height) j.ctx ∙ txs.fits.moment.height ∙ k.height;
        burns = λ d. together (supply_of w.view.bank d) (supply_of begun.view.bank d) (supply_of done.state.view.bank d) (supply_of ended.view.bank d) (burned_in d begun.view.facts) (burned_by d done.reports) (burned_in d ended.view.facts) _
            (k.fits.fits.stake.ground.total d) (txs.burns d) (j.fits.stake.ground.total d) (said_by_block d b.height b.time begun.view.facts ended.view.facts done.reports);
      })))
    where
      same_tt : (t : ⊤) → block_checked b w ≡ Ok t → block_checked b w ≡ Ok tt
      same_tt t e = e

      together : (s0 s1 s2 s3 b1 b2 b3 all : ℕ) → s1 + b1 ≡ s0 + 0 → s2 + b2 ≡ s1 → s3 + b3 ≡ s2 + 0 → all ≡ b1 + b2 + b3 → s3 + all ≡ s0
      together s0 s1 s2 s3 b1 b2 b3 all e f g i = omega (arith, e, f, g, i)

  -- ---- runs

  -- a run leaves a state that fits, and each supply less by what its blocks say was burned
  pub record RunFits (w : State) (r : Run) : Type 0 where
    pub fits : StateFits P (total_in r.state.view) r.state
    pub burns : (d : List ℕ) → supply_of r.state.view.bank d + burned_by_blocks d r.reports ≡ supply_of w.view.bank d

  -- nothing happens
  stays : (T : List ℕ → ℕ) (w : State) (fault : Option BlockFault) → StateFits P T w → RunFits w (record { reports = []; state = w; fault = fault })
  stays T w fault h = record { fits = renewed P T w h; burns = λ d. none (supply_of w.view.bank d) }
    where
      none : (n : ℕ) → n + 0 ≡ n
      none n = omega arith

  pub run_fits : (blocks : List Block) (T : List ℕ → ℕ) (w : State) → HaveCoins blocks → StateFits P T w → w.view.ctx.height + length blocks < 2 ^ 63 → RunFits w (run_of blocks w)
  run_fits [] T w c h few = stays T w None h
  run_fits (b ∷ blocks) T w c h few =
      by (step b w) (block_fits b T w (All-head (λ (x : Block). All TxHasCoins x.txs) b blocks c) h (room (length blocks) few))
      (λ u k e. run_fits blocks (total_in u.view) u (All-tail (λ (x : Block). All TxHasCoins x.txs) b blocks c) k (fewer (length blocks) u.view.ctx.height few e))
    where
      room : (n : ℕ) → w.view.ctx.height + suc n < 2 ^ 63 → w.view.ctx.height + 1 < 2 ^ 63
      room n l = omega (arith, l)

      fewer : (n x : ℕ) → w.view.ctx.height + suc n < 2 ^ 63 → x ≡ w.view.ctx.height + 1 → x + n < 2 ^ 63
      fewer n x l e = omega (arith, l, e)

      burned_more : (d : List ℕ) (r : BlockReport) (rs : List BlockReport) → burned_by_blocks d (r ∷ rs) ≡ burned_in d (facts_of r) + burned_by_blocks d rs
      burned_more d r rs = sum_by-cons (λ n. n) (burned_in d (facts_of r)) (map (λ b. burned_in d (facts_of b)) rs)

      summed : (x r y b s a : ℕ) → x + r ≡ y → y + b ≡ s → a ≡ b + r → x + a ≡ s
      summed x r y b s a p q e = omega (arith, p, q, e)

      by : (r : Result Step BlockFault) → IfOk r (StepFits w) → ((u : State) → StateFits P (total_in u.view) u → u.view.ctx.height ≡ w.view.ctx.height + 1 → RunFits u (run_of blocks u)) → RunFits w (going_on w r (λ u. run_of blocks u))
      by (Ok s) k rest =
          let later : RunFits s.state (run_of blocks s.state) = rest s.state k.fits k.height in
          let end : Run = run_of blocks s.state in
          record {
            fits = later.fits;
            burns = λ d. summed (supply_of end.state.view.bank d) (burned_by_blocks d end.reports) (supply_of s.state.view.bank d) (burned_in d (facts_of s.report)) (supply_of w.view.bank d) _ (later.burns d) (k.burns d) (burned_more d s.report end.reports);
          }
      by (Err fault) k rest = stays T w (Some fault) h

-- a run from a sound state
pub run_left : (blocks : List Block) (w : State) (input : AreInput blocks) (s : IsSound w) → w.view.ctx.height + length blocks < 2 ^ 63 → RunFits (Contains s.few.some) w (run_of blocks w)
run_left blocks w input s few = run_fits (Contains s.few.some) blocks (total_in w.view) w input.coins (to_fits w s) few

pub runs_keep_soundness : RunsKeepSoundness
runs_keep_soundness blocks w input s few =
    from_fits (run_of blocks w).state s.few.some (total_in (run_of blocks w).state.view) s.few.few (run_left blocks w input s few).fits

pub runs_burn : RunsLowerSupplies
runs_burn blocks w input s few = (run_left blocks w input s few).burns
