-- The lines of the generated input are read as its genesis and its blocks.
use Rattle.std.proofs.Common.{if◌then◌else◌, flat_map, ◌≡◌, ℕ, suc, ◌+◌, ◌-◌, ◌*◌, ◌/◌, ◌%◌, ◌^◌, ◌<◌, ◌≤◌, ◌==◌, Bool, true, false, not, List, [], ◌∷◌, map, Some, Result, Ok, codes, refl, ap, ◌∙◌, arith}
use Rattle.std.specs.List.{AllByRecursion}
use Rattle.serde_json.specs.{Data.{Data, boolean}, Find.as_bool, Read.max_depth, Written.compact_text}
use Rattle.base_decimals.{specs.Texts.dec_of, proofs.Inverse.written_read}
use Rattle.base_types.specs.declared.account.Account.TheVariants as account
use Rattle.base_types.specs.{Calendar.end_of_time, Moment.{moment_of, moment_text}}
use Rattle.base_types.proofs.MomentLemmas.{moment_of-moment_text}
use Rattle.base_bech32.specs.declared.form.Form.{Form}
use Rattle.base_coins.specs.Steps.{◌>>=◌}
use Rattle.base_roles.specs.declared.{messages.{Evidence.Evidence, Vote.Vote}, params.Params.Params}
use Rattle.base_messages.specs.declared.{block.{Block.Block, Tx.Tx}, faults.LineFault.LineFault}
use Rattle.base_messages.specs.declared.genesis.{Genesis.Genesis, GenesisAccount.GenesisAccount}
use Rattle.base_messages.specs.declared.genesis.{GenesisDelegation.GenesisDelegation, GenesisValidator.GenesisValidator}
use Rattle.base_messages.specs.declared.message.Msg.{Msg}
use Rattle.line_json.specs.Addresses.{account_in, cons_in, operator_in, user_in}
use Rattle.line_json.specs.Block.{block_of, block_of_tree, evidence_of, tx_of as tx_read_of, vote_of}
use Rattle.line_json.specs.Genesis.{account_of_tree, delegation_of, genesis_of, genesis_of_tree, validator_of}
use Rattle.line_json.specs.{Lines.lines_of, Members.{amount_of, number_in, spelled_by}}
use Rattle.line_json.specs.{Messages.{message_of as message_read_of}, Params.params_of, Reading.tree_of}
use Rattle.line_json.specs.Values.{account_data, cons_data, count_data, decimal_data, moment_data, operator_data, user_data, whole_data}
use Rattle.line_json.proofs.BackLemmas.{IsBack, amount_is_read, array_back, back_deeper, count_back, elements_back, flag_back, list_read, member_read, moment_text_is_utf8, next_is, no_more, object_back, one_more, read_five, read_four, read_one, read_six, read_three, read_two, string_back, tree_back}
use Rattle.line_json.proofs.{EndLemmas.first_line, SpelledOnLiterals.spelled_on_literals}
use Rattle.line_json.proofs.TextLemmas.{dec_text_is_utf8, denom_is_utf8}
use Rattle.run_generated.specs.{declared.choices.Choices.Choices, Drawing.{in_turn, next, numbers_from}}
use Rattle.run_generated.specs.Input.{account_at, address, block_drawn, blocks_of, choices_drawn, coins, delegation_at, evidence_drawn, first_genesis, message_of, parameters, signer, time_at, tx_drawn, uatom, validator_at, vote_drawn}
use Rattle.run_generated.specs.Lines.{block_data, block_line, delegation_data, evidence_data, genesis_data, holder_data, list_data, message_data, params_data, tx_data, validator_data, vote_data}
use Rattle.run_generated.specs.Reading.{GeneratedIsRead, SpellInTurn}
use Rattle.run_generated.proofs.EachLemmas.{each_in_turn, each_of, evidence_so, numbers_within, txs_so}
use Rattle.run_generated.proofs.MessageLemmas.{IsMessageBack, account_read, coins_read, coins_written, commission_back, cons_read, cons_written, delegate_back, either_back, number_read, operator_read, operator_written, redelegate_back, reward_back, send_back, undelegate_back, user_read, user_written, whole_written, word_written}

-- ---- moments

time_fits : (height : ℕ) → height ≤ 100000 → time_at height < end_of_time
time_fits height h = omega (arith, h)

moment_read : (height : ℕ) → height ≤ 100000 → spelled_by moment_of (moment_data (time_at height)) ≡ Some (time_at height)
moment_read height h = moment_of-moment_text (time_at height) (time_fits height h)

moment_written : (k height : ℕ) → height ≤ 100000 → IsBack k (moment_data (time_at height))
moment_written k height h = string_back k (moment_text (time_at height)) (moment_text_is_utf8 (time_at height) (time_fits height h))

count_fits : (n : ℕ) → n ≤ 100000 → n < 2 ^ 63
count_fits n h = omega (arith, h)

count_written : (k n : ℕ) → n ≤ 100000 → IsBack k (count_data n)
count_written k n h =
    let small : n < 2 ^ 64 = omega (arith, h) in
    count_back k n small

-- ---- lists

-- a value that is read from what is written of it
record IsValueBack {A : Type 0} (form : Data → Result A LineFault) (data_of : A → Data) (k : ℕ) (a : A) : Type 0 where
  read : form (data_of a) ≡ Ok a
  written : IsBack k (data_of a)

all_read : {A : Type 0} (form : Data → Result A LineFault) (data_of : A → Data) (k : ℕ) (xs : List A) → AllByRecursion (IsValueBack form data_of k) xs → AllByRecursion (λ x. form (data_of x) ≡ Ok x) xs
all_read form data_of k [] h = tt
all_read form data_of k (x ∷ xs) h = (h.0.read, all_read form data_of k xs h.1)

all_written : {A : Type 0} (form : Data → Result A LineFault) (data_of : A → Data) (k : ℕ) (xs : List A) → AllByRecursion (IsValueBack form data_of k) xs → AllByRecursion (λ x. IsBack k (data_of x)) xs
all_written form data_of k [] h = tt
all_written form data_of k (x ∷ xs) h = (h.0.written, all_written form data_of k xs h.1)

list_written : {A : Type 0} (form : Data → Result A LineFault) (data_of : A → Data) (k : ℕ) (xs : List A) → AllByRecursion (IsValueBack form data_of k) xs → IsBack (suc k) (list_data data_of xs)
list_written form data_of k xs h = array_back k _ (elements_back k data_of xs (all_written form data_of k xs h))

-- ---- votes and evidence

vote_back : (f : Form) (n : ℕ) (signed : Bool) → n < 256 → IsValueBack (vote_of f) (vote_data f) 1 (record { cons = signer n; power = 10; signed = signed })
unfolding vote_of
vote_back f n signed h =
    let v : Vote = record { cons = signer n; power = 10; signed = signed } in
    let d : Data = vote_data f v in
    let e = read_three {T = Vote} (λ x y z. record { cons = x; power = y; signed = z }) _ (signer n) _ 10 _ signed
    (member_read (spelled_by (cons_in f)) 70 (codes "cons") d (cons_data f (signer n)) (signer n) refl (cons_read f n h))
    (member_read number_in 71 (codes "power") d (count_data 10) 10 refl refl)
    (member_read as_bool 72 (codes "signed") d (boolean signed) signed refl refl) in
    record {
      read = e;
      written = object_back 0 _ (one_more (cons_written f 0 (signer n)) (one_more (count_written 0 10 (omega arith)) (one_more (flag_back 0 signed) no_more))) refl;
    }

evidence_back : (f : Form) (n height : ℕ) → n < 256 → height ≤ 100000 → IsValueBack (evidence_of f) (evidence_data f) 1 (record { cons = signer n; height = height; time = time_at height; power = 10 })
unfolding evidence_of
evidence_back f n height h l =
    let v : Evidence = record { cons = signer n; height = height; time = time_at height; power = 10 } in
    let d : Data = evidence_data f v in
    let e = read_four {T = Evidence} (λ x y z o. record { cons = x; height = y; time = z; power = o }) _ (signer n) _ height _ (time_at height) _ 10
    (member_read (spelled_by (cons_in f)) 73 (codes "cons") d (cons_data f (signer n)) (signer n) refl (cons_read f n h))
    (member_read number_in 74 (codes "height") d (count_data height) height refl (number_read height (count_fits height l)))
    (member_read (spelled_by moment_of) 75 (codes "time") d (moment_data (time_at height)) (time_at height) refl (moment_read height l))
    (member_read number_in 76 (codes "power") d (count_data 10) 10 refl refl) in
    record {
      read = e;
      written = object_back 0 _ (one_more (cons_written f 0 (signer n)) (one_more (count_written 0 height l) (one_more (count_written 0 10 (omega arith)) (one_more (moment_written 0 height l) no_more)))) refl;
    }

-- ---- transactions

-- what is drawn of a transaction is in these bounds
record IsChosen (n : Choices) : Type 0 where
  delegator : n.delegator < 256
  validator : n.validator < 256
  other : n.other < 256
  target : n.other % 10 < 256
  some : 0 < n.amount
  amount : n.amount < 10 ^ 38

chosen_so : (a b c d e : ℕ) → IsChosen (record { kind = a % 6; delegator = 10 + b % 30; validator = c % 10; amount = 1 + d % 1000000; other = e % 40 })
chosen_so a b c d e = record {
  delegator = omega arith;
  validator = omega arith;
  other = omega arith;
  target = omega arith;
  some = omega arith;
  amount = omega arith;
}

drawn_so : (x : ℕ) → IsChosen (choices_drawn x).value
drawn_so x =
    let x1 : ℕ = next x in
    let x2 : ℕ = next x1 in
    let x3 : ℕ = next x2 in
    let x4 : ℕ = next x3 in
    let x5 : ℕ = next x4 in
    chosen_so (x1 / 2 ^ 33) (x2 / 2 ^ 33) (x3 / 2 ^ 33) (x4 / 2 ^ 33) (x5 / 2 ^ 33)

message_back : (f : Form) (n : Choices) → IsChosen n → IsMessageBack f (message_of n)
message_back f n h =
    either_back f (n.kind == 0) _ _ (delegate_back f n.delegator n.validator n.amount h.delegator h.validator h.amount)
    (either_back f (n.kind == 1) _ _ (undelegate_back f n.delegator n.validator n.amount h.delegator h.validator h.amount)
    (either_back f (n.kind == 2) _ _ (redelegate_back f n.delegator n.validator (n.other % 10) n.amount h.delegator h.validator h.target h.amount)
    (either_back f (n.kind == 3) _ _ (reward_back f n.delegator n.validator h.delegator h.validator)
    (either_back f (n.kind == 4) _ _ (commission_back f n.validator h.validator) (send_back f n.delegator n.other n.amount h.delegator h.other h.some h.amount)))))

-- one message, of a payer who pays a fee of 1,000
paid_back : (f : Form) (payer : ℕ) (m : Msg) → payer < 256 → IsMessageBack f m → IsValueBack (tx_read_of f) (tx_data f) 5 (record { payer = address payer; fee = coins 1000; msgs = m ∷ [] })
unfolding tx_read_of
paid_back f payer m h k =
    let tx : Tx = record { payer = address payer; fee = coins 1000; msgs = m ∷ [] } in
    let d : Data = tx_data f tx in
    let e = read_three {T = Tx} (λ x y z. record { payer = x; fee = y; msgs = z }) _ (address payer) _ (coins 1000) _ (m ∷ [])
    (member_read (spelled_by (user_in f)) 80 (codes "payer") d (user_data f (address payer)) (address payer) refl (user_read f payer h))
    (coins_read 1000 81 (codes "fee") d (omega arith) (omega arith) refl)
    (list_read (message_read_of f) (message_data f) 82 (codes "msgs") d (m ∷ []) refl (k.read, tt)) in
    record {
      read = e;
      written = object_back 4 _ (one_more (back_deeper 2 4 _ (omega arith) (coins_written 1000 (omega arith)))
          (one_more (array_back 3 _ (elements_back 3 (message_data f) (m ∷ []) (k.written, tt))) (one_more (user_written f 4 (address payer)) no_more))) refl;
    }

either_payer : (f : Form) (b : Bool) (x y : ℕ) (m : Msg) → x < 256 → y < 256 → IsMessageBack f m
    → IsValueBack (tx_read_of f) (tx_data f) 5 (record { payer = (if b then address x else address y); fee = coins 1000; msgs = m ∷ [] })
either_payer f true x y m p q k = paid_back f x m p k
either_payer f false x y m p q k = paid_back f y m q k

tx_back : (f : Form) (x : ℕ) → IsValueBack (tx_read_of f) (tx_data f) 5 (tx_drawn x).value
tx_back f x =
    let n : Choices = (choices_drawn x).value in
    let h : IsChosen n = drawn_so x in
    either_payer f (n.kind == 4) n.validator n.delegator (message_of n) h.validator h.delegator (message_back f n h)

-- ---- blocks

-- votes, evidence and transactions that are read back make a block that is
block_from : (f : Form) (height : ℕ) (votes : List Vote) (evidence : List Evidence) (txs : List Tx) → height ≤ 100000
    → AllByRecursion (IsValueBack (vote_of f) (vote_data f) 1) votes → AllByRecursion (IsValueBack (evidence_of f) (evidence_data f) 1) evidence
    → AllByRecursion (IsValueBack (tx_read_of f) (tx_data f) 5) txs
    → IsValueBack (block_of_tree f) (block_data f) 7 (record { height = height; time = time_at height; votes = votes; evidence = evidence; txs = txs })
unfolding block_of_tree
block_from f height votes evidence txs l hv he ht =
    let b : Block = record { height = height; time = time_at height; votes = votes; evidence = evidence; txs = txs } in
    let d : Data = block_data f b in
    let e = read_five {T = Block} (λ x y z o w. record { height = x; time = y; votes = z; evidence = o; txs = w }) _ height _ (time_at height) _ votes _ evidence _ txs
    (member_read number_in 61 (codes "height") d (count_data height) height refl (number_read height (count_fits height l)))
    (member_read (spelled_by moment_of) 62 (codes "time") d (moment_data (time_at height)) (time_at height) refl (moment_read height l))
    (list_read (vote_of f) (vote_data f) 63 (codes "votes") d votes refl (all_read (vote_of f) (vote_data f) 1 votes hv))
    (list_read (evidence_of f) (evidence_data f) 64 (codes "evidence") d evidence refl (all_read (evidence_of f) (evidence_data f) 1 evidence he))
    (list_read (tx_read_of f) (tx_data f) 65 (codes "txs") d txs refl (all_read (tx_read_of f) (tx_data f) 5 txs ht)) in
    record {
      read = e;
      written = object_back 6 _ (one_more (back_deeper 2 6 _ (omega arith) (list_written (evidence_of f) (evidence_data f) 1 evidence he)) (one_more (count_written 6 height l)
          (one_more (word_written 6 (codes "block") refl) (one_more (moment_written 6 height l)
          (one_more (list_written (tx_read_of f) (tx_data f) 5 txs ht) (one_more (back_deeper 2 6 _ (omega arith) (list_written (vote_of f) (vote_data f) 1 votes hv)) no_more)))))) refl;
    }

block_back : (f : Form) (height x : ℕ) → height ≤ 100000 → IsValueBack (block_of_tree f) (block_data f) 7 (block_drawn height x).value
block_back f height x l =
    let voted = in_turn vote_drawn (numbers_from 0 10) x in
    block_from f height voted.value (evidence_drawn height voted.state).value (block_drawn height x).value.txs l
    (each_of (IsValueBack (vote_of f) (vote_data f) 1) (λ n. n ≤ 9) vote_drawn (λ n y h. vote_back f n (not (next y / 2 ^ 33 % 20 == 0)) (few n h)) (numbers_from 0 10) x (numbers_within 0 10 9 (omega arith)))
    (evidence_so (AllByRecursion (IsValueBack (evidence_of f) (evidence_data f) 1)) height tt (λ n h. (evidence_back f n (height - 1) (few n (below n h)) (before height l), tt)) voted.state)
    (txs_so (AllByRecursion (IsValueBack (tx_read_of f) (tx_data f) 5)) (λ many y h. each_in_turn (IsValueBack (tx_read_of f) (tx_data f) 5) (λ place. tx_drawn) (λ place z. tx_back f z) (numbers_from 0 many) y) height x)
  where
    few : (n : ℕ) → n ≤ 9 → n < 256
    few n h = omega (arith, h)

    below : (n : ℕ) → n < 10 → n ≤ 9
    below n h = omega (arith, h)

    before : (n : ℕ) → n ≤ 100000 → n - 1 ≤ 100000
    before n h = omega (arith, h)

-- ---- the genesis

account_back : (f : Form) (n : ℕ) → n < 256 → IsValueBack (account_of_tree f) (holder_data f) 3 (account_at n)
unfolding account_of_tree
account_back f n h =
    let d : Data = holder_data f (account_at n) in
    let e = read_two {T = GenesisAccount} (λ x y. record { address = x; coins = y }) _ (account.User (address n)) _ (coins 1000000000)
    (member_read (spelled_by (account_in f)) 30 (codes "address") d (account_data f (account.User (address n))) (account.User (address n)) refl (account_read f n h))
    (coins_read 1000000000 31 (codes "coins") d (omega arith) (omega arith) refl) in
    record { read = e; written = object_back 2 _ (one_more (user_written f 2 (address n)) (one_more (coins_written 1000000000 (omega arith)) no_more)) refl }

decimal_written : (k n : ℕ) → IsBack k (decimal_data n)
decimal_written k n = string_back k _ (dec_text_is_utf8 n)

validator_back : (f : Form) (n : ℕ) → n < 256 → IsValueBack (validator_of f) (validator_data f) 1 (validator_at n)
unfolding validator_of
validator_back f n h =
    let d : Data = validator_data f (validator_at n) in
    let e = read_six {T = GenesisValidator}
    (λ x y z o w v. record { operator = x; cons = y; rate = z; max_rate = o; max_change_rate = w; min_self_delegation = v })
    _ (address n) _ (signer n) _ (10 ^ 17) _ (5 * 10 ^ 17) _ (10 ^ 17) _ 1
    (member_read (spelled_by (operator_in f)) 40 (codes "operator") d (operator_data f (address n)) (address n) refl (operator_read f n h))
    (member_read (spelled_by (cons_in f)) 41 (codes "cons") d (cons_data f (signer n)) (signer n) refl (cons_read f n h))
    (member_read (spelled_by dec_of) 42 (codes "rate") d (decimal_data (10 ^ 17)) (10 ^ 17) refl (written_read (10 ^ 17) (omega arith)))
    (member_read (spelled_by dec_of) 43 (codes "max_rate") d (decimal_data (5 * 10 ^ 17)) (5 * 10 ^ 17) refl (written_read (5 * 10 ^ 17) (omega arith)))
    (member_read (spelled_by dec_of) 44 (codes "max_change_rate") d (decimal_data (10 ^ 17)) (10 ^ 17) refl (written_read (10 ^ 17) (omega arith)))
    (member_read (spelled_by amount_of) 45 (codes "min_self_delegation") d (whole_data 1) 1 refl (amount_is_read 1 (omega arith))) in
    record {
      read = e;
      written = object_back 0 _ (one_more (cons_written f 0 (signer n)) (one_more (decimal_written 0 (10 ^ 17)) (one_more (decimal_written 0 (5 * 10 ^ 17))
          (one_more (whole_written 0 1 (omega arith)) (one_more (operator_written f 0 (address n)) (one_more (decimal_written 0 (10 ^ 17)) no_more)))))) refl;
    }

delegation_back : (f : Form) (n : ℕ) → n < 256 → IsValueBack (delegation_of f) (delegation_data f) 1 (delegation_at n)
unfolding delegation_of
delegation_back f n h =
    let d : Data = delegation_data f (delegation_at n) in
    let e = read_three {T = GenesisDelegation} (λ x y z. record { delegator = x; validator = y; amount = z }) _ (address n) _ (address n) _ 10000000
    (member_read (spelled_by (user_in f)) 50 (codes "delegator") d (user_data f (address n)) (address n) refl (user_read f n h))
    (member_read (spelled_by (operator_in f)) 51 (codes "validator") d (operator_data f (address n)) (address n) refl (operator_read f n h))
    (member_read (spelled_by amount_of) 52 (codes "amount") d (whole_data 10000000) 10000000 refl (amount_is_read 10000000 (omega arith))) in
    record { read = e; written = object_back 0 _ (one_more (whole_written 0 10000000 (omega arith)) (one_more (user_written f 0 (address n)) (one_more (operator_written f 0 (address n)) no_more))) refl }

params_read : (f : Form) → params_of f (params_data f parameters) ≡ Ok parameters
unfolding params_of spelled_on_literals
params_read f =
    let d : Data = params_data f parameters in
    let small : 39 < 256 = omega arith in
    let e = read_one {T = Params} (λ authority. record parameters { authority = authority }) _ (address 39)
    (member_read (spelled_by (user_in f)) 25 (codes "authority") d (user_data f (address 39)) (address 39) refl (user_read f 39 small)) in
    e

params_written : (f : Form) → IsBack 1 (params_data f parameters)
params_written f =
    object_back 0 _ (one_more (user_written f 0 (address 39)) (one_more (string_back 0 uatom (denom_is_utf8 uatom refl)) (one_more (decimal_written 0 (2 * 10 ^ 16))
    (one_more (count_written 0 600 (omega arith)) (one_more (count_back 0 172800 (omega arith)) (one_more (count_written 0 100000 (omega arith)) (one_more (count_written 0 7 (omega arith))
    (one_more (count_written 0 8 (omega arith)) (one_more (decimal_written 0 0) (one_more (decimal_written 0 (5 * 10 ^ 17)) (one_more (count_back 0 1000000 (omega arith))
    (one_more (count_written 0 100 (omega arith)) (one_more (decimal_written 0 (5 * 10 ^ 16)) (one_more (decimal_written 0 (10 ^ 14)) (one_more (count_written 0 1000 (omega arith))
    (one_more (flag_back 0 true) no_more)))))))))))))))) refl

-- what holds of each number up to a greatest one holds of what is made of each
each_at : {A : Type 0} (P : A → Type 0) (form : ℕ → A) (most : ℕ) → ((n : ℕ) → n ≤ most → P (form n)) → (ns : List ℕ) → AllByRecursion (λ n. n ≤ most) ns → AllByRecursion P (map form ns)
each_at P form most h [] r = tt
each_at P form most h (n ∷ ns) r = (h n r.0, each_at P form most h ns r.1)

genesis_from : (f : Form) (accounts : List GenesisAccount) (validators : List GenesisValidator) (delegations : List GenesisDelegation)
    → AllByRecursion (IsValueBack (account_of_tree f) (holder_data f) 3) accounts → AllByRecursion (IsValueBack (validator_of f) (validator_data f) 1) validators
    → AllByRecursion (IsValueBack (delegation_of f) (delegation_data f) 1) delegations
    → IsValueBack (genesis_of_tree f) (genesis_data f) 5 (record { time = time_at 0; params = parameters; accounts = accounts; validators = validators; delegations = delegations })
unfolding genesis_of_tree
genesis_from f accounts validators delegations ha hv hd =
    let g : Genesis = record { time = time_at 0; params = parameters; accounts = accounts; validators = validators; delegations = delegations } in
    let d : Data = genesis_data f g in
    let e = read_five {T = Genesis} (λ x y z o w. record { time = x; params = y; accounts = z; validators = o; delegations = w }) _ (time_at 0) _ parameters _ accounts _ validators _ delegations
    (member_read (spelled_by moment_of) 2 (codes "time") d (moment_data (time_at 0)) (time_at 0) refl (moment_read 0 (omega arith)))
    (params_read f)
    (list_read (account_of_tree f) (holder_data f) 4 (codes "accounts") d accounts refl (all_read (account_of_tree f) (holder_data f) 3 accounts ha))
    (list_read (validator_of f) (validator_data f) 5 (codes "validators") d validators refl (all_read (validator_of f) (validator_data f) 1 validators hv))
    (list_read (delegation_of f) (delegation_data f) 6 (codes "delegations") d delegations refl (all_read (delegation_of f) (delegation_data f) 1 delegations hd)) in
    record {
      read = e;
      written = object_back 4 _ (one_more (list_written (account_of_tree f) (holder_data f) 3 accounts ha) (one_more (back_deeper 2 4 _ (omega arith) (list_written (delegation_of f) (delegation_data f) 1 delegations hd))
          (one_more (word_written 4 (codes "genesis") refl) (one_more (back_deeper 1 4 _ (omega arith) (params_written f)) (one_more (moment_written 4 0 (omega arith))
          (one_more (back_deeper 2 4 _ (omega arith) (list_written (validator_of f) (validator_data f) 1 validators hv)) no_more)))))) refl;
    }

genesis_back : (f : Form) → IsValueBack (genesis_of_tree f) (genesis_data f) 5 first_genesis
genesis_back f =
    genesis_from f (map account_at (numbers_from 0 40)) (map validator_at (numbers_from 0 10)) (map delegation_at (numbers_from 0 10))
    (each_at (IsValueBack (account_of_tree f) (holder_data f) 3) account_at 39 (λ n h. account_back f n (small n h)) (numbers_from 0 40) (numbers_within 0 40 39 (omega arith)))
    (each_at (IsValueBack (validator_of f) (validator_data f) 1) validator_at 39 (λ n h. validator_back f n (small n h)) (numbers_from 0 10) (numbers_within 0 10 39 (omega arith)))
    (each_at (IsValueBack (delegation_of f) (delegation_data f) 1) delegation_at 39 (λ n h. delegation_back f n (small n h)) (numbers_from 0 10) (numbers_within 0 10 39 (omega arith)))
  where
    small : (n : ℕ) → n ≤ 39 → n < 256
    small n h = omega (arith, h)

-- ---- lines

-- the line of a value that is read back is read as it
line_back : {A : Type 0} (form : Data → Result A LineFault) (data_of : A → Data) (k : ℕ) (a : A) → k ≤ max_depth → IsValueBack form data_of k a → (tree_of (compact_text (data_of a)) >>= form) ≡ Ok a
line_back form data_of k a l h =
    next_is (tree_of (compact_text (data_of a))) (data_of a) form (tree_back (data_of a) (back_deeper k max_depth (data_of a) l h.written)) ∙ h.read

blocks_spelled : (f : Form) (bs : List Block) → AllByRecursion (IsValueBack (block_of_tree f) (block_data f) 7) bs → SpellInTurn f (map (λ b. compact_text (block_data f b)) bs) bs
unfolding block_of
blocks_spelled f [] h = tt
blocks_spelled f (b ∷ bs) h = (line_back (block_of_tree f) (block_data f) 7 b (omega arith) h.0, blocks_spelled f bs h.1)

genesis_spelled : (f : Form) → genesis_of f (compact_text (genesis_data f first_genesis)) ≡ Ok first_genesis
unfolding genesis_of
genesis_spelled f = line_back (genesis_of_tree f) (genesis_data f) 5 first_genesis (omega arith) (genesis_back f)

blocks_cut : (f : Form) (bs : List Block) → lines_of (flat_map (λ line. line) (map (block_line f) bs)) ≡ map (λ b. compact_text (block_data f b)) bs
blocks_cut f [] = refl
blocks_cut f (b ∷ bs) =
    first_line (block_data f b) (flat_map (λ line. line) (map (block_line f) bs)) ∙ ap (λ ls. compact_text (block_data f b) ∷ ls) (blocks_cut f bs)

pub generated_is_read : GeneratedIsRead
generated_is_read f seed many l = record {
  first = compact_text (genesis_data f first_genesis);
  others = map (λ b. compact_text (block_data f b)) (blocks_of seed many);
  lines = first_line (genesis_data f first_genesis) (flat_map (λ line. line) (map (block_line f) (blocks_of seed many)))
      ∙ ap (λ ls. compact_text (genesis_data f first_genesis) ∷ ls) (blocks_cut f (blocks_of seed many));
  genesis_is = genesis_spelled f;
  blocks_are = blocks_spelled f (blocks_of seed many)
      (each_of (IsValueBack (block_of_tree f) (block_data f) 7) (λ n. n ≤ 100000) block_drawn (λ n x h. block_back f n x h) (numbers_from 1 many) seed (numbers_within 1 many 100000 (last many l)));
}
  where
    last : (many : ℕ) → many ≤ 100000 → 1 + many ≤ 100000 + 1
    last many h = omega (arith, h)
