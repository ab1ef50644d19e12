-- Behind the reports of a run over generated blocks there is room for the counts of each next one: a block has at most three
-- transactions, and no more is burned than there was.
use Rattle.std.proofs.Common.{◌≡◌, ◌∙◌, ap, refl, arith, ℕ, ◌+◌, ◌*◌, ◌<◌, ◌≤◌, List, [], ◌∷◌, ◌++◌, length, length-append, Ok, sum_by}
use Rattle.std.proofs.lemmas.List.Sums.{sum_by-append, sum_by-cons}
use Rattle.base_types.specs.Orders.{denom_cmp}
use Rattle.base_coins.{specs.Coins.amount_of, proofs.Amounts.itself}
use Rattle.base_coins.proofs.Order.{amount-first, amount-first_greater, amount-first_less, by_order}
use Rattle.base_roles.specs.Holdings.{supply_of}
use Rattle.base_messages.specs.declared.{block.Block.Block, report.BlockReport.BlockReport}
use Rattle.rule_machine.specs.{GenesisState.{Start, chain_started}, Machine.run_of}
use Rattle.law_soundness.proofs.{Starting.supplies_fall_by_burns, Steps.from_if}
use Rattle.run_generated.specs.Drawing.{in_turn, numbers_from}
use Rattle.run_generated.specs.Input.{block_drawn, blocks_of, first_genesis, tx_drawn, uatom}
use Rattle.run_generated.proofs.EachLemmas.{each_in_turn, so_many, txs_so}
use Rattle.run_trial.specs.{Summary.{accepted_in, burned_in, refused_in}, Generated.CountsHaveRoom}
use Rattle.run_trial.proofs.{Burned.{IsNothingBut, all_burned, burned_of_all}, Inputs.generated_is_input}
use Rattle.run_trial.proofs.Reported.{HasFew, blocks_reported, few_reported, three_each}

-- ---- what was burned

-- forty users have 1,000,000,000 each, and ten delegations are of 10,000,000
abbrev at_start : ℕ
at_start = 40100000000

supplies_at_start : (s : Start) → chain_started first_genesis ≡ Ok s → s.state.view.bank.supplies ≡ (uatom, at_start) ∷ []
supplies_at_start s e = from_if (λ (t : Start). t.state.view.bank.supplies ≡ (uatom, at_start) ∷ []) (chain_started first_genesis) s e (refl {a = (uatom, at_start) ∷ []})

supply_at_start : (s : Start) → chain_started first_genesis ≡ Ok s → supply_of s.state.view.bank uatom ≡ at_start
supply_at_start s e = ap (λ m. amount_of m uatom) (supplies_at_start s e) ∙ amount-first uatom (uatom, at_start) [] (itself uatom)

no_other : (s : Start) → chain_started first_genesis ≡ Ok s → IsNothingBut uatom (supply_of s.state.view.bank)
no_other s e d other =
    ap (λ m. amount_of m d) (supplies_at_start s e)
    ∙ by_order (denom_cmp d uatom) (amount-first_less d (uatom, at_start) []) (λ same. absurd (other same)) (amount-first_greater d (uatom, at_start) [])

burned_within : (rest all most : ℕ) → rest + all ≡ most → all ≤ most
burned_within rest all most e = omega (arith, e)

burned_nothing : (rest all most : ℕ) → rest + all ≡ most → most ≡ 0 → all ≡ 0
burned_nothing rest all most e z = omega (arith, e, z)

module _ (seed many : ℕ) (s : Start) (few : many ≤ 100000) (started : chain_started first_genesis ≡ Ok s) where
  abbrev reports : List BlockReport
  reports = (run_of (blocks_of seed many) s.state).reports

  falls : (d : List ℕ) → supply_of (run_of (blocks_of seed many) s.state).state.view.bank d + burned_of_all d reports ≡ supply_of s.state.view.bank d
  falls d = supplies_fall_by_burns (record {
    genesis = first_genesis;
    good = generated_is_input.genesis;
    start = s;
    started = started;
    blocks = blocks_of seed many;
    input = generated_is_input.blocks seed many few;
  }) d

  burned_at_most : sum_by burned_in reports ≤ at_start
  burned_at_most =
      let of_one = falls uatom ∙ supply_at_start s started in
      let all = all_burned uatom reports (λ d other. burned_nothing _ _ _ (falls d) (no_other s started d other)) in
      let within : burned_of_all uatom reports ≤ at_start = burned_within _ _ _ of_one in
      omega (arith, all, within)

  -- ---- how many

  few_drawn : (height x : ℕ) → HasFew (block_drawn height x).value.txs
  few_drawn = txs_so HasFew (λ n x h. at_most n (length (in_turn (λ place. tx_drawn) (numbers_from 0 n) x).value) (so_many (λ place. tx_drawn) 0 n x) h)
    where
      at_most : (n l : ℕ) → l ≡ n → n < 4 → l ≤ 3
      at_most n l e h = omega (arith, e, h)

  ended_at_most : sum_by accepted_in reports + sum_by refused_in reports ≤ 3 * length reports
  ended_at_most = three_each reports (few_reported (blocks_of seed many) s.state (each_in_turn (λ (b : Block). HasFew b.txs) block_drawn few_drawn (numbers_from 1 many) seed))

  blocks_at_most : length reports ≤ 100000
  blocks_at_most =
      let reported = blocks_reported (blocks_of seed many) s.state in
      let drawn = so_many block_drawn 1 many seed in
      omega (arith, reported, drawn, few)

-- ---- room

-- those before and the next are within the whole
part_of : (f : BlockReport → ℕ) (whole before after : List BlockReport) (r : BlockReport) → whole ≡ before ++ r ∷ after → sum_by f before + f r ≤ sum_by f whole
part_of f whole before after r e =
    let same = ap (sum_by f) e in
    let split = sum_by-append f before (r ∷ after) in
    let first = sum_by-cons f r after in
    omega (arith, same, split, first)

one_of : (whole before after : List BlockReport) (r : BlockReport) → whole ≡ before ++ r ∷ after → length before + 1 ≤ length whole
one_of whole before after r e =
    let same = ap length e in
    let split = length-append before (r ∷ after) in
    omega (arith, same, split)

pub counts_have_room : CountsHaveRoom
counts_have_room seed many s before after report few started whole =
    let reports = (run_of (blocks_of seed many) s.state).reports in
    let blocks = one_of reports before after report whole in
    let accepted = part_of accepted_in reports before after report whole in
    let refused = part_of refused_in reports before after report whole in
    let burned = part_of burned_in reports before after report whole in
    let most = blocks_at_most seed many s few started in
    let ended = ended_at_most seed many s few started in
    let burnt = burned_at_most seed many s few started in
    record {
      blocks = omega (arith, blocks, most);
      accepted = omega (arith, accepted, most, ended);
      refused = omega (arith, refused, most, ended);
      burned = omega (arith, burned, burnt);
    }
