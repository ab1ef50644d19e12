-- The generated input is input: its coins are lists of coins, and no condition keeps its genesis from starting a chain.
use Rattle.std.proofs.Common.{◌≡◌, refl, arith, ℕ, ◌+◌, ◌/◌, ◌%◌, ◌^◌, ◌<◌, ◌≤◌, ◌==◌, Bool, true, false, [], ◌∷◌, length, None, if◌then◌else◌, All}
use Rattle.std.proofs.lemmas.List.Elements.{All-cons, All-nil}
use Rattle.base_coins.{specs.Coins.IsMoney, proofs.Order.money_from_rises}
use Rattle.base_messages.specs.declared.{block.Block.Block, message.Msg.Msg}
use Rattle.rule_machine.specs.{GenesisConditions.start_condition, Promises.{AreInput, MessageHasCoins, TxHasCoins}}
use Rattle.run_generated.specs.{declared.choices.Choices.Choices, Drawing.{next, numbers_from}}
use Rattle.run_generated.specs.Input.{block_drawn, blocks_of, choices_drawn, coins, first_genesis, message_of, tx_drawn, tx_of, uatom}
use Rattle.run_generated.proofs.EachLemmas.{each_so, so_many, txs_so}
use Rattle.run_trial.specs.Generated.{GeneratedIsInput}

-- ---- transactions

coins_are_money : (n : ℕ) → 0 < n → n < 10 ^ 38 → IsMoney (coins n)
coins_are_money n p l =
    let some : (n == 0) ≡ false = grind arith in
    rw some (money_from_rises ((uatom, n) ∷ []) (tt, p, l, tt))

either_has : (b : Bool) (x y : Msg) → MessageHasCoins x → MessageHasCoins y → MessageHasCoins (if b then x else y)
either_has true x y p q = p
either_has false x y p q = q

message_has_coins : (n : Choices) → 0 < n.amount → n.amount < 10 ^ 38 → MessageHasCoins (message_of n)
message_has_coins n p l =
    either_has (n.kind == 0) _ _ tt (either_has (n.kind == 1) _ _ tt (either_has (n.kind == 2) _ _ tt (either_has (n.kind == 3) _ _ tt (either_has (n.kind == 4) _ _ tt (coins_are_money n.amount p l)))))

tx_has_coins : (n : Choices) → 0 < n.amount → n.amount < 10 ^ 38 → TxHasCoins (tx_of n)
tx_has_coins n p l = record {
  fee = coins_are_money 1000 (omega arith) (omega arith);
  messages = All-cons MessageHasCoins (message_of n) [] (message_has_coins n p l) (All-nil MessageHasCoins);
}

amount_drawn : (y : ℕ) → (0 < 1 + y % 1000000) × (1 + y % 1000000 < 10 ^ 38)
amount_drawn y = (omega arith, omega arith)

drawn_has_coins : (x : ℕ) → TxHasCoins (tx_drawn x).value
drawn_has_coins x =
    let amount = amount_drawn (next (next (next (next x))) / 2 ^ 33) in
    tx_has_coins (choices_drawn x).value amount.0 amount.1

-- ---- blocks

block_has_coins : (height x : ℕ) → All TxHasCoins (block_drawn height x).value.txs
block_has_coins = txs_so (All TxHasCoins) (λ many x h. each_so TxHasCoins (λ place. tx_drawn) (λ place y. drawn_has_coins y) (numbers_from 0 many) x)

few_blocks : (n many : ℕ) → n ≡ many → many ≤ 100000 → n < 2 ^ 63
few_blocks n many e l = omega (arith, e, l)

blocks_are_input : (seed many : ℕ) → many ≤ 100000 → AreInput (blocks_of seed many)
blocks_are_input seed many l = record {
  coins = each_so (λ (b : Block). All TxHasCoins b.txs) block_drawn block_has_coins (numbers_from 1 many) seed;
  few = few_blocks (length (blocks_of seed many)) many (so_many block_drawn 1 many seed) l;
}

may_start : start_condition first_genesis ≡ None
may_start = refl

pub generated_is_input : GeneratedIsInput
generated_is_input = record {
  genesis = record { no_condition = may_start; few = omega arith };
  blocks = blocks_are_input;
}
