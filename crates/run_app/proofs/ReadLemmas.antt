-- What is read: the coins of a block's transactions are lists of coins.
use Rattle.std.proofs.Common.{◌≡◌, ℕ, ◌^◌, ◌<◌, ◌≤◌, Bool, true, false, cond, List, [], ◌∷◌, ◌++◌, map, All, length, Option, Some, None, Result, Ok, Err, refl, subst, arith, rules, codes}
use Rattle.std.specs.{List.{AllByRecursion, list_all}, Char.is_ascii_digit, Str.Parse.digits_value}
use Rattle.std.proofs.{lemmas.{Int.Digits.digits_value-lt, List.Elements.All-from_recursion}, Math.Nat.pow-le-pow_right}
use Rattle.serde_json.specs.{Data.{Data, Items, no_items, item}, Find.as_array}
use Rattle.base_bech32.specs.declared.form.Form.{Form}
use Rattle.base_decimals.specs.Texts as texts
use Rattle.base_decimals.proofs.Digits.{all_digits, number_short}
use Rattle.base_types.specs.declared.account.Account.{Account}
use Rattle.base_coins.specs.{declared.coin.Coin.Coin, Steps.{◌>>=◌}, Coins.{Money, IsMoney, sorted_coins, stands_twice}}
use Rattle.base_coins.proofs.{Order.money_from_rises, Sorting.rises_sorted}
use Rattle.base_messages.specs.declared.{faults.LineFault.{LineFault, TheVariants.BadShape}, block.{Tx.Tx, Block.Block}}
use Rattle.base_messages.specs.declared.message.{Msg.Msg, CommunityPoolSpend.CommunityPoolSpend}
use Rattle.base_messages.specs.declared.message.{FundCommunityPool.FundCommunityPool, Send.Send}
use Rattle.base_roles.specs.declared.messages.{Vote.Vote, Evidence.Evidence}
use Rattle.base_messages.specs.declared.message.Msg.TheVariants as msg
use Rattle.line_json.specs.{declared.kind.Kind.Kind, Reading.tree_of}
use Rattle.line_json.specs.Members.{member_at, spelled_by, amount_of, amount_at, denom_at, number_at, user_at, account_at, moment_at, word_at, only_named}
use Rattle.line_json.specs.{Nested.{each_element, with_front, list_at}, Coin.{coin_of, coins_at, money_of}}
use Rattle.line_json.specs.Block.{vote_of, evidence_of, tx_of, block_of_tree, block_of}
use Rattle.line_json.specs.declared.kind.Kind.TheVariants as kind
use Rattle.line_json.specs.Messages as messages
use Rattle.rule_machine.specs.Promises.{MessageHasCoins, TxHasCoins}

-- ---- what holds of what reading gives

-- the fact holds of the value that reading gives, if it gives one
Holds : {A : Type 0} → (A → Type 0) → Result A LineFault → Type 0
Holds P (Ok x) = P x
Holds P (Err e) = Unit {0}

-- of a value without a fact
holds_any : {A : Type 0} (r : Result A LineFault) → Holds (λ (x : A). Unit {0}) r
unfolding Holds
holds_any (Ok x) = tt
holds_any (Err e) = tt

given : {A : Type 0} (P : A → Type 0) (x : A) → P x → Holds P (Ok x)
unfolding Holds
given P x h = h

holds_then : {A B : Type 0} (P : A → Type 0) (Q : B → Type 0) (r : Result A LineFault) (f : A → Result B LineFault) → Holds P r → ((x : A) → P x → Holds Q (f x)) → Holds Q (r >>= f)
unfolding Holds
holds_then P Q (Ok x) f h next = next x h
holds_then P Q (Err e) f h next = tt

holds_ok : {A : Type 0} (P : A → Type 0) (r : Result A LineFault) (x : A) → r ≡ Ok x → Holds P r → P x
unfolding Holds
holds_ok P r x e h = rw e at h

-- after a value of which no fact is wanted, and after one of which a fact holds
past : {A B : Type 0} (Q : B → Type 0) (f : A → Result B LineFault) (r : Result A LineFault) → ((x : A) → Holds Q (f x)) → Holds Q (r >>= f)
past Q f r next = holds_then (λ x. Unit {0}) Q r f (holds_any r) (λ x u. next x)

from : {A B : Type 0} (P : A → Type 0) (Q : B → Type 0) (f : A → Result B LineFault) (r : Result A LineFault) → Holds P r → ((x : A) → P x → Holds Q (f x)) → Holds Q (r >>= f)
from P Q f r h next = holds_then P Q r f h next

HoldsEach : {A : Type 0} → (A → Type 0) → List A → Type 0
HoldsEach P xs = AllByRecursion P xs

holds_each : {A : Type 0} (P : A → Type 0) (form : Data → Result A LineFault) → ((d : Data) → Holds P (form d)) → (items : Items) → Holds (HoldsEach P) (each_element form items)
unfolding Holds HoldsEach
holds_each P form one no_items = tt
holds_each P form one (item d ds) =
    holds_then P (HoldsEach P) (form d) (λ x. with_front (x ∷ []) (each_element form ds)) (one d) (λ x h.
    holds_then (HoldsEach P) (HoldsEach P) (each_element form ds) (λ rest. Ok ((x ∷ []) ++ rest)) (holds_each P form one ds) (λ rest hs. (h, hs)))

holds_list : {A : Type 0} (P : A → Type 0) (form : Data → Result A LineFault) → ((d : Data) → Holds P (form d)) → (number : ℕ) (name : List ℕ) (d : Data) → Holds (HoldsEach P) (list_at form number name d)
holds_list P form one number name d = past _ _ (member_at as_array number name d) (holds_each P form one)

-- ---- amounts and coins

below : (text : List ℕ) (t : Bool) → texts.is_number 38 text ≡ t → (n : ℕ) → cond t (Some (digits_value 10 text)) None ≡ Some n → n < 10 ^ 38
below text false is n e = absurd cc
below text true is n e =
    let value : digits_value 10 text ≡ n = cc in
    let digits : list_all is_ascii_digit text ≡ true = digits_of text is in
    let short : length text ≤ 38 = number_short 38 text is in
    let lt : digits_value 10 text < 10 ^ length text = digits_value-lt 10 text (all_digits text digits) in
    let most : 10 ^ length text ≤ 10 ^ 38 = search (pow-le-pow_right, short, arith) in
    let lt_38 : digits_value 10 text < 10 ^ 38 = omega (arith, lt, most) in
    subst (λ (m : ℕ). m < 10 ^ 38) value lt_38
  where
    digits_of : (text : List ℕ) → texts.is_number 38 text ≡ true → list_all is_ascii_digit text ≡ true
    digits_of text h = search rules

amount_below : (text : List ℕ) (n : ℕ) → amount_of text ≡ Some n → n < 10 ^ 38
amount_below text n e = below text (texts.is_number 38 text) refl n e

-- what a member spells
holds_spelled : {A : Type 0} (P : A → Type 0) (form : List ℕ → Option A) → ((text : List ℕ) (x : A) → form text ≡ Some x → P x) → (number : ℕ) (name : List ℕ) (d : Data) → Holds P (member_at (spelled_by form) number name d)
unfolding Holds
holds_spelled P form one number name d = search rules

CoinBelow : Coin → Type 0
CoinBelow coin = coin.amount < 10 ^ 38

coin_given : (denom : List ℕ) (amount : ℕ) → amount < 10 ^ 38 → Holds CoinBelow (Ok (record { denom = denom; amount = amount }))
unfolding CoinBelow
coin_given denom amount low = given (λ (c : Coin). c.amount < 10 ^ 38) (record { denom = denom; amount = amount }) low

holds_coin : (d : Data) → Holds CoinBelow (coin_of d)
unfolding coin_of
holds_coin d =
    past _ _ (denom_at 32 (codes "denom") d) (λ denom.
    from _ _ _ (amount_at 33 (codes "amount") d) (holds_spelled (λ (n : ℕ). n < 10 ^ 38) amount_of amount_below 33 (codes "amount") d) (λ amount low.
    past _ _ (only_named (codes "denom" ∷ codes "amount" ∷ []) d) (λ only. coin_given denom amount low)))

coins_below : (coins : List Coin) → HoldsEach CoinBelow coins → All (λ (c : List ℕ × ℕ). c.1 < 10 ^ 38) (map (λ (coin : Coin). (coin.denom, coin.amount)) coins)
unfolding HoldsEach CoinBelow
coins_below coins h = All-from_recursion (λ (c : List ℕ × ℕ). c.1 < 10 ^ 38) (map (λ (coin : Coin). (coin.denom, coin.amount)) coins) (by coins h)
  where
    by : (coins : List Coin) → AllByRecursion CoinBelow coins → AllByRecursion (λ (c : List ℕ × ℕ). c.1 < 10 ^ 38) (map (λ (coin : Coin). (coin.denom, coin.amount)) coins)
    by [] h = tt
    by (coin ∷ coins) h = (h.0, by coins h.1)

money_holds : (number : ℕ) (coins : Money) → All (λ c. c.1 < 10 ^ 38) coins → Holds IsMoney (money_of number coins)
unfolding Holds
money_holds number coins low = by (stands_twice coins)
  where
    by : (b : Bool) → Holds IsMoney (cond b (Err (BadShape number)) (Ok (sorted_coins coins)))
    by true = tt
    by false = money_from_rises (sorted_coins coins) (rises_sorted coins low)

holds_coins : (number : ℕ) (name : List ℕ) (d : Data) → Holds IsMoney (coins_at number name d)
unfolding coins_at
holds_coins number name d =
    holds_then (HoldsEach CoinBelow) IsMoney (list_at coin_of number name d) (λ coins. money_of number (map (λ coin. (coin.denom, coin.amount)) coins)) (holds_list CoinBelow coin_of holds_coin number name d)
    (λ coins low. money_holds number (map (λ coin. (coin.denom, coin.amount)) coins) (coins_below coins low))

-- ---- messages

-- a message without coins of its own
another : {A : Type 0} (r : Result A LineFault) (f : A → Msg) → ((x : A) → MessageHasCoins (f x)) → Holds MessageHasCoins (r >>= λ x. Ok (f x))
another r f has = past _ _ r (λ x. given MessageHasCoins (f x) (has x))

-- a message with coins that are a list of coins
with_coins : {A : Type 0} (P : A → Type 0) (r : Result A LineFault) (f : A → Msg) → Holds P r → ((x : A) → P x → MessageHasCoins (f x)) → Holds MessageHasCoins (r >>= λ x. Ok (f x))
with_coins P r f h has = from _ _ _ r h (λ x money. given MessageHasCoins (f x) (has x money))

SendHasCoins : Send → Type 0
SendHasCoins s = IsMoney s.coins

FundHasCoins : FundCommunityPool → Type 0
FundHasCoins m = IsMoney m.coins

SpendHasCoins : CommunityPoolSpend → Type 0
SpendHasCoins m = IsMoney m.coins

send_given : (sender : List ℕ) (to : Account) (coins : Money) → IsMoney coins → Holds SendHasCoins (Ok (record { from = sender; to = to; coins = coins }))
unfolding SendHasCoins
send_given sender to coins money = given (λ (s : Send). IsMoney s.coins) (record { from = sender; to = to; coins = coins }) money

holds_send : (form : Form) (d : Data) → Holds SendHasCoins (messages.send_of form d)
unfolding messages.send_of
holds_send form d =
    past _ _ (user_at form 91 (codes "from") d) (λ sender.
    past _ _ (account_at form 92 (codes "to") d) (λ to.
    from _ _ _ (coins_at 93 (codes "coins") d) (holds_coins 93 (codes "coins") d) (λ coins money.
    past _ _ (only_named (codes "kind" ∷ codes "from" ∷ codes "to" ∷ codes "coins" ∷ []) d) (λ only. send_given sender to coins money))))

fund_given : (depositor : List ℕ) (coins : Money) → IsMoney coins → Holds FundHasCoins (Ok (record { depositor = depositor; coins = coins }))
unfolding FundHasCoins
fund_given depositor coins money = given (λ (m : FundCommunityPool). IsMoney m.coins) (record { depositor = depositor; coins = coins }) money

holds_fund : (form : Form) (d : Data) → Holds FundHasCoins (messages.fund_community_pool_of form d)
unfolding messages.fund_community_pool_of
holds_fund form d =
    past _ _ (user_at form 106 (codes "depositor") d) (λ depositor.
    from _ _ _ (coins_at 93 (codes "coins") d) (holds_coins 93 (codes "coins") d) (λ coins money.
    past _ _ (only_named (codes "kind" ∷ codes "depositor" ∷ codes "coins" ∷ []) d) (λ only. fund_given depositor coins money)))

spend_given : (authority : List ℕ) (recipient : Account) (coins : Money) → IsMoney coins → Holds SpendHasCoins (Ok (record { authority = authority; recipient = recipient; coins = coins }))
unfolding SpendHasCoins
spend_given authority recipient coins money = given (λ (m : CommunityPoolSpend). IsMoney m.coins) (record { authority = authority; recipient = recipient; coins = coins }) money

holds_spend : (form : Form) (d : Data) → Holds SpendHasCoins (messages.community_pool_spend_of form d)
unfolding messages.community_pool_spend_of
holds_spend form d =
    past _ _ (user_at form 107 (codes "authority") d) (λ authority.
    past _ _ (account_at form 108 (codes "recipient") d) (λ recipient.
    from _ _ _ (coins_at 93 (codes "coins") d) (holds_coins 93 (codes "coins") d) (λ coins money.
    past _ _ (only_named (codes "kind" ∷ codes "authority" ∷ codes "recipient" ∷ codes "coins" ∷ []) d) (λ only. spend_given authority recipient coins money))))

holds_message : (form : Form) (d : Data) → Holds MessageHasCoins (messages.message_of form d)
unfolding messages.message_of SendHasCoins FundHasCoins SpendHasCoins
holds_message form d = past _ _ (member_at (spelled_by messages.kind_of) 90 (codes "kind") d) by
  where
    by : (k : Kind) → Holds MessageHasCoins (messages.message_of_kind form k d)
    by kind.Send = with_coins SendHasCoins (messages.send_of form d) msg.Send (holds_send form d) (λ x money. money)
    by kind.CreateValidator = another (messages.create_validator_of form d) msg.CreateValidator (λ x. tt)
    by kind.EditValidator = another (messages.edit_validator_of form d) msg.EditValidator (λ x. tt)
    by kind.Delegate = another (messages.delegate_of form d) msg.Delegate (λ x. tt)
    by kind.Undelegate = another (messages.undelegate_of form d) msg.Undelegate (λ x. tt)
    by kind.BeginRedelegate = another (messages.begin_redelegate_of form d) msg.BeginRedelegate (λ x. tt)
    by kind.CancelUnbonding = another (messages.cancel_unbonding_of form d) msg.CancelUnbonding (λ x. tt)
    by kind.Unjail = another (messages.unjail_of form d) msg.Unjail (λ x. tt)
    by kind.WithdrawReward = another (messages.withdraw_reward_of form d) msg.WithdrawReward (λ x. tt)
    by kind.WithdrawCommission = another (messages.withdraw_commission_of form d) msg.WithdrawCommission (λ x. tt)
    by kind.SetWithdrawAddress = another (messages.set_withdraw_address_of form d) msg.SetWithdrawAddress (λ x. tt)
    by kind.FundCommunityPool = with_coins FundHasCoins (messages.fund_community_pool_of form d) msg.FundCommunityPool (holds_fund form d) (λ x money. money)
    by kind.CommunityPoolSpend = with_coins SpendHasCoins (messages.community_pool_spend_of form d) msg.CommunityPoolSpend (holds_spend form d) (λ x money. money)
    by kind.UpdateParams = another (messages.update_params_of form d) msg.UpdateParams (λ x. tt)

-- ---- transactions and blocks

TxIsRead : Tx → Type 0
TxIsRead tx = IsMoney tx.fee × HoldsEach MessageHasCoins tx.msgs

tx_given : (payer : List ℕ) (fee : Money) (msgs : List Msg) → IsMoney fee → HoldsEach MessageHasCoins msgs → Holds TxIsRead (Ok (record { payer = payer; fee = fee; msgs = msgs }))
unfolding TxIsRead
tx_given payer fee msgs money each_element = given (λ (tx : Tx). IsMoney tx.fee × HoldsEach MessageHasCoins tx.msgs) (record { payer = payer; fee = fee; msgs = msgs }) (money, each_element)

holds_tx : (form : Form) (d : Data) → Holds TxIsRead (tx_of form d)
unfolding tx_of
holds_tx form d =
    past _ _ (user_at form 80 (codes "payer") d) (λ payer.
    from _ _ _ (coins_at 81 (codes "fee") d) (holds_coins 81 (codes "fee") d) (λ fee money.
    from _ _ _ (list_at (messages.message_of form) 82 (codes "msgs") d) (holds_list MessageHasCoins (messages.message_of form) (holds_message form) 82 (codes "msgs") d) (λ msgs each_element.
    past _ _ (only_named (codes "payer" ∷ codes "fee" ∷ codes "msgs" ∷ []) d) (λ only. tx_given payer fee msgs money each_element))))

-- the height is in its range, and all transactions have lists of coins
BlockIsRead : Block → Type 0
BlockIsRead block = (block.height < 2 ^ 63) × HoldsEach TxIsRead block.txs

-- a whole number is in its range
holds_number : (number : ℕ) (name : List ℕ) (d : Data) → Holds (λ (n : ℕ). n < 2 ^ 63) (number_at number name d)
unfolding Holds
holds_number number name d = search rules

block_given : (height time : ℕ) (votes : List Vote) (evidence : List Evidence) (txs : List Tx) → height < 2 ^ 63 → HoldsEach TxIsRead txs
    → Holds BlockIsRead (Ok (record { height = height; time = time; votes = votes; evidence = evidence; txs = txs }))
unfolding BlockIsRead
block_given height time votes evidence txs low each_element =
    given (λ (b : Block). (b.height < 2 ^ 63) × HoldsEach TxIsRead b.txs) (record { height = height; time = time; votes = votes; evidence = evidence; txs = txs }) (low, each_element)

holds_block : (form : Form) (d : Data) → Holds BlockIsRead (block_of_tree form d)
unfolding block_of_tree
holds_block form d =
    past _ _ (word_at 60 (codes "kind") (codes "block") d) (λ kind.
    from _ _ _ (number_at 61 (codes "height") d) (holds_number 61 (codes "height") d) (λ height low.
    past _ _ (moment_at 62 (codes "time") d) (λ time.
    past _ _ (list_at (vote_of form) 63 (codes "votes") d) (λ votes.
    past _ _ (list_at (evidence_of form) 64 (codes "evidence") d) (λ evidence.
    from _ _ _ (list_at (tx_of form) 65 (codes "txs") d) (holds_list TxIsRead (tx_of form) (holds_tx form) 65 (codes "txs") d) (λ txs each_element.
    past _ _ (only_named (codes "kind" ∷ codes "height" ∷ codes "time" ∷ codes "votes" ∷ codes "evidence" ∷ codes "txs" ∷ []) d) (λ only.
    block_given height time votes evidence txs low each_element)))))))

holds_line : (form : Form) (line : List ℕ) → Holds BlockIsRead (block_of form line)
unfolding block_of
holds_line form line = past _ _ (tree_of line) (holds_block form)

-- ---- as the machine's laws have it

tx_has_coins : (tx : Tx) → TxIsRead tx → TxHasCoins tx
unfolding TxIsRead HoldsEach
tx_has_coins tx h = record { fee = h.0; messages = All-from_recursion MessageHasCoins tx.msgs h.1 }

-- all transactions of the block have lists of coins
pub AllHaveCoins : Block → Type 0
AllHaveCoins block = All TxHasCoins block.txs

pub block_has_coins : (form : Form) (line : List ℕ) (block : Block) → block_of form line ≡ Ok block → AllHaveCoins block
unfolding AllHaveCoins HoldsEach BlockIsRead
block_has_coins form line block e = All-from_recursion TxHasCoins block.txs (by block.txs (holds_ok BlockIsRead (block_of form line) block e (holds_line form line)).1)
  where
    by : (txs : List Tx) → AllByRecursion TxIsRead txs → AllByRecursion TxHasCoins txs
    by [] h = tt
    by (tx ∷ txs) h = (tx_has_coins tx h.0, by txs h.1)

pub height_is_low : (form : Form) (line : List ℕ) (block : Block) → block_of form line ≡ Ok block → block.height < 2 ^ 63
unfolding BlockIsRead
height_is_low form line block e = (holds_ok BlockIsRead (block_of form line) block e (holds_line form line)).0

pub all_have_coins : (blocks : List Block) → AllByRecursion AllHaveCoins blocks → All (λ (b : Block). All TxHasCoins b.txs) blocks
unfolding AllHaveCoins
all_have_coins blocks h = All-from_recursion (λ (b : Block). All TxHasCoins b.txs) blocks h

pub its_coins : (block : Block) → AllHaveCoins block → All TxHasCoins block.txs
unfolding AllHaveCoins
its_coins block h = h
