-- What runs report: no more blocks than there were, each with the transactions that the block has.
use Rattle.std.proofs.Common.{◌≡◌, ap, refl, arith, ℕ, suc, ◌+◌, ◌*◌, ◌≤◌, Bool, true, false, cond, List, [], ◌∷◌, length, Result, Ok, Err, IfOk, count_by, not, sum_by}
use Rattle.std.{specs.List.AllByRecursion, proofs.lemmas.List.Sums.sum_by-cons}
use Rattle.base_messages.specs.declared.{block.{Block.Block, Tx.Tx}, faults.BlockFault.BlockFault}
use Rattle.base_messages.specs.declared.{faults.BlockFault.TheVariants.RatioLimit, report.BlockReport.BlockReport}
use Rattle.rule_modules.specs.{Chain.{State, begin_block, end_block}, Laws.next_block}
use Rattle.rule_modules.proofs.GoingLemmas.{on_lifted, on_next}
use Rattle.rule_machine.specs.GenesisState.{without_facts}
use Rattle.rule_machine.specs.Machine.{Step, block_checked, going_on, run_of, step, tx_applied, txs_applied}
use Rattle.run_trial.specs.Summary.{accepted_in, is_accepted, refused_in}

-- ---- reports

txs_reported : (txs : List Tx) (w : State) → length (txs_applied txs w).reports ≡ length txs
txs_reported [] w = refl
txs_reported (tx ∷ txs) w = ap suc (txs_reported txs (tx_applied tx w).state)

block_reported : (b : Block) (w : State) → IfOk (step b w) (λ s. length s.report.txs ≡ length b.txs)
block_reported b w =
    on_next (block_checked b w) _ _ (λ t e.
    on_lifted RatioLimit (begin_block b.votes b.evidence (without_facts (next_block b.height b.time w))) _ _ (λ begun k.
    on_lifted RatioLimit (end_block (without_facts (txs_applied b.txs begun).state)) _ _ (λ ended j. txs_reported b.txs begun)))

pub blocks_reported : (blocks : List Block) (w : State) → length (run_of blocks w).reports ≤ length blocks
blocks_reported [] w = omega arith
blocks_reported (b ∷ blocks) w = by (λ u. blocks_reported blocks u) (step b w)
  where
    by : ((u : State) → length (run_of blocks u).reports ≤ length blocks) → (r : Result Step BlockFault) → length (going_on w r (λ u. run_of blocks u)).reports ≤ suc (length blocks)
    by later (Ok s) = let rest = later s.state in omega (arith, rest)
    by later (Err fault) = omega arith

-- a block, or its report, with at most three transactions
abbrev pub HasFew : {A : Type 0} → List A → Type 0
HasFew txs = length txs ≤ 3

pub few_reported : (blocks : List Block) (w : State) → AllByRecursion (λ (b : Block). HasFew b.txs) blocks → AllByRecursion (λ (r : BlockReport). HasFew r.txs) (run_of blocks w).reports
few_reported [] w h = tt
few_reported (b ∷ blocks) w h = by (λ u. few_reported blocks u h.1) (step b w) (block_reported b w)
  where
    few : (n m : ℕ) → n ≡ m → m ≤ 3 → n ≤ 3
    few n m e l = omega (arith, e, l)

    by : ((u : State) → AllByRecursion (λ (x : BlockReport). HasFew x.txs) (run_of blocks u).reports) → (r : Result Step BlockFault) → IfOk r (λ s. length s.report.txs ≡ length b.txs) → AllByRecursion (λ (x : BlockReport). HasFew x.txs) (going_on w r (λ u. run_of blocks u)).reports
    by later (Ok s) e = (few (length s.report.txs) (length b.txs) e h.0, later s.state)
    by later (Err fault) e = tt

-- ---- counts

-- each is counted one way or the other
both_ways : {A : Type 0} (p : A → Bool) (xs : List A) → count_by p xs + count_by (λ x. not (p x)) xs ≡ length xs
both_ways p [] = refl
both_ways p (x ∷ xs) =
    by (both_ways p xs) (p x) (count_by p (x ∷ xs)) (count_by (λ y. not (p y)) (x ∷ xs)) (sum_by-cons (λ y. cond (p y) 1 0) x xs) (sum_by-cons (λ y. cond (not (p y)) 1 0) x xs)
  where
    by : count_by p xs + count_by (λ y. not (p y)) xs ≡ length xs → (b : Bool) (m n : ℕ) → m ≡ cond b 1 0 + count_by p xs → n ≡ cond (not b) 1 0 + count_by (λ y. not (p y)) xs → m + n ≡ suc (length xs)
    by rest true m n e f = omega (arith, e, f, rest)
    by rest false m n e f = omega (arith, e, f, rest)

pub three_each : (rs : List BlockReport) → AllByRecursion (λ (r : BlockReport). HasFew r.txs) rs → sum_by accepted_in rs + sum_by refused_in rs ≤ 3 * length rs
three_each [] h = omega arith
three_each (r ∷ rs) h =
    by (three_each rs h.1) (sum_by accepted_in (r ∷ rs)) (sum_by refused_in (r ∷ rs)) (accepted_in r) (refused_in r) (length r.txs) (sum_by-cons accepted_in r rs) (sum_by-cons refused_in r rs) (both_ways is_accepted r.txs) h.0
  where
    by : sum_by accepted_in rs + sum_by refused_in rs ≤ 3 * length rs → (m n a b l : ℕ) → m ≡ a + sum_by accepted_in rs → n ≡ b + sum_by refused_in rs → a + b ≡ l → l ≤ 3 → m + n ≤ 3 * suc (length rs)
    by rest m n a b l e f g k = omega (arith, e, f, g, k, rest)
