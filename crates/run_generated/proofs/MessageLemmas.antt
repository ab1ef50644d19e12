-- Addresses, coins and messages of the generated input are read back from what is written of them.
use Rattle.std.{specs.List.list_all, proofs.lemmas.{Bool.and_parts, Fmt.IsAscii-decimal_wide, Str.IsUtf8-from_ascii}}
use Rattle.std.proofs.Common.{◌≡◌, ℕ, zero, suc, ◌^◌, ◌<◌, ◌==◌, nat_lt, Bool, true, false, List, [], ◌∷◌, ◌++◌, map, Some, None, option_map, Result, Ok, codes, refl, sym, ap, subst, ◌∙◌, arith, ltb-true, lt-ltb, if◌then◌else◌}
use Rattle.hex.specs.Hex.{IsBytes}
use Rattle.serde_json.specs.{Data.{Data, string}, Find.get}
use Rattle.base_types.specs.declared.account.Account.TheVariants as account
use Rattle.base_types.specs.{Accounts.account_from, Address.IsAddress, Denom.denom_of}
use Rattle.base_bech32.specs.declared.form.Form.{Form}
use Rattle.base_coins.specs.{declared.coin.Coin.Coin, Coins.Money, Steps.{◌>>=◌}}
use Rattle.base_messages.specs.declared.{faults.LineFault.LineFault, message.{Send.Send, Delegate.Delegate}}
use Rattle.base_messages.specs.declared.message.{Undelegate.Undelegate, BeginRedelegate.BeginRedelegate}
use Rattle.base_messages.specs.declared.message.{WithdrawReward.WithdrawReward, WithdrawCommission.WithdrawCommission}
use Rattle.base_messages.specs.declared.message.Msg.{Msg}
use Rattle.base_messages.specs.declared.message.Msg.TheVariants as msg
use Rattle.line_json.specs.Addresses.{account_in, account_prefix, account_text_in, cons_in, cons_prefix, cons_text, operator_in, operator_prefix, operator_text, user_in, user_text}
use Rattle.line_json.specs.{Coin.{coin_of, coins_at, money_of}, Members.{amount_of, number_in, spelled_by}}
use Rattle.line_json.specs.Messages.{begin_redelegate_of, delegate_of, kind_of, message_of, send_of, undelegate_of, withdraw_commission_of, withdraw_reward_of}
use Rattle.line_json.specs.Nested.{list_at}
use Rattle.line_json.specs.Values.{account_data, coin_data, coins_data, cons_data, count_data, operator_data, user_data, whole_data}
use Rattle.line_json.proofs.BackLemmas.{IsBack, amount_is_read, array_back, back_deeper, bytes_back, bytes_text_is_utf8, denom_is_read, elements_back, list_read, member_read, no_more, object_back, one_more, operator_back, read_four, read_one, read_three, read_two, string_back, user_back}
use Rattle.line_json.proofs.TextLemmas.{denom_is_utf8}
use Rattle.json.proofs.Printed.Utf8.{are_ascii, IsUtf8-are_ascii}
use Rattle.run_generated.specs.{Input.{address, coin, coins, signer, uatom}, Lines.{message_data, one_coin}}

-- ---- addresses

-- bytes, of which the last is any number below 256
last_byte : (front : List ℕ) (n : ℕ) → list_all (λ b. nat_lt b 256) front ≡ true → n < 256 → IsBytes (front ++ n ∷ [])
last_byte [] n e h zero = h
last_byte [] n e h (suc i) = omega arith
last_byte (b ∷ bs) n e h zero = ltb-true b 256 (and_parts (nat_lt b 256) (list_all (λ c. nat_lt c 256) bs) e).0
last_byte (b ∷ bs) n e h (suc i) = last_byte bs n (and_parts (nat_lt b 256) (list_all (λ c. nat_lt c 256) bs) e).1 h i

is_address : (n : ℕ) → n < 256 → IsAddress (address n)
is_address n h = (refl, last_byte (64 ∷ 0 ∷ 0 ∷ 0 ∷ 0 ∷ 0 ∷ 0 ∷ 0 ∷ 0 ∷ 0 ∷ 0 ∷ 0 ∷ 0 ∷ 0 ∷ 0 ∷ 0 ∷ 0 ∷ 0 ∷ 0 ∷ []) n refl h)

is_signer : (n : ℕ) → n < 256 → IsAddress (signer n)
is_signer n h = (refl, last_byte (80 ∷ 0 ∷ 0 ∷ 0 ∷ 0 ∷ 0 ∷ 0 ∷ 0 ∷ 0 ∷ 0 ∷ 0 ∷ 0 ∷ 0 ∷ 0 ∷ 0 ∷ 0 ∷ 0 ∷ 0 ∷ 0 ∷ []) n refl h)

pub user_read : (f : Form) (n : ℕ) → n < 256 → user_in f (user_text f (address n)) ≡ Some (address n)
user_read f n h = user_back f (address n) (is_address n h) refl

pub operator_read : (f : Form) (n : ℕ) → n < 256 → operator_in f (operator_text f (address n)) ≡ Some (address n)
operator_read f n h = operator_back f (address n) (is_address n h) refl

pub cons_read : (f : Form) (n : ℕ) → n < 256 → cons_in f (cons_text f (signer n)) ≡ Some (signer n)
cons_read f n h = bytes_back f cons_prefix (signer n) (is_signer n h)

pub account_read : (f : Form) (n : ℕ) → n < 256 → account_in f (account_text_in f (account.User (address n))) ≡ Some (account.User (address n))
account_read f n h = ap (option_map account_from) (bytes_back f account_prefix (address n) (is_address n h))

pub user_written : (f : Form) (k : ℕ) (bytes : List ℕ) → IsBack k (user_data f bytes)
user_written f k bytes = string_back k _ (bytes_text_is_utf8 f account_prefix bytes refl)

pub operator_written : (f : Form) (k : ℕ) (bytes : List ℕ) → IsBack k (operator_data f bytes)
operator_written f k bytes = string_back k _ (bytes_text_is_utf8 f operator_prefix bytes refl)

pub cons_written : (f : Form) (k : ℕ) (bytes : List ℕ) → IsBack k (cons_data f bytes)
cons_written f k bytes = string_back k _ (bytes_text_is_utf8 f cons_prefix bytes refl)

pub word_written : (k : ℕ) (word : List ℕ) → are_ascii word ≡ true → IsBack k (string word)
word_written k word e = string_back k word (IsUtf8-are_ascii word e)

-- ---- numbers and coins

pub number_read : (n : ℕ) → n < 2 ^ 63 → number_in (count_data n) ≡ Some n
number_read n h = ap (λ b. if b then Some n else None) (lt-ltb n (2 ^ 63) h)

pub whole_written : (k n : ℕ) → n < 10 ^ 38 → IsBack k (whole_data n)
whole_written k n h = string_back k _ (IsUtf8-from_ascii _ (IsAscii-decimal_wide n (omega (arith, h))))

pub coin_read : (n : ℕ) → n < 10 ^ 38 → coin_of (one_coin (coin n)) ≡ Ok (coin n)
unfolding coin_of
coin_read n h =
    let d : Data = one_coin (coin n) in
    let e = read_two {T = Coin} (λ denom amount. record { denom = denom; amount = amount }) _ uatom _ n
    (member_read (spelled_by denom_of) 32 (codes "denom") d (string uatom) uatom refl (denom_is_read uatom refl))
    (member_read (spelled_by amount_of) 33 (codes "amount") d (whole_data n) n refl (amount_is_read n h)) in
    e

pub coin_written : (n : ℕ) → n < 10 ^ 38 → IsBack 1 (one_coin (coin n))
coin_written n h = object_back 0 _ (one_more (whole_written 0 n h) (one_more (string_back 0 uatom (denom_is_utf8 uatom refl)) no_more)) refl

-- one coin, as a list of coins
pub coins_one : (n : ℕ) → 0 < n → coins n ≡ (uatom, n) ∷ []
coins_one n p =
    let some : (n == 0) ≡ false = grind arith in
    rw some refl

abbrev pub alone : ℕ → Money
alone n = (uatom, n) ∷ []

pub coins_written : (n : ℕ) → n < 10 ^ 38 → IsBack 2 (coins_data (alone n))
coins_written n h = array_back 1 _ (elements_back 1 (coin_data whole_data) (alone n) (coin_written n h, tt))

pub coins_read : (n number : ℕ) (name : List ℕ) (d : Data) → 0 < n → n < 10 ^ 38 → get name d ≡ Some (coins_data (alone n)) → coins_at number name d ≡ Ok (alone n)
unfolding coins_at
coins_read n number name d p h g =
    let listed : list_at coin_of number name d ≡ Ok (coin n ∷ []) = list_read coin_of one_coin number name d (coin n ∷ []) g (coin_read n h, tt) in
    ap (λ (r : Result (List Coin) LineFault). r >>= (λ (cs : List Coin). money_of number (map (λ (c : Coin). (c.denom, c.amount)) cs))) listed
    ∙ ap (λ (m : Money). Ok m) (coins_one n p)

-- ---- messages

-- a message is read back from what is written of it
pub record IsMessageBack (f : Form) (m : Msg) : Type 0 where
  pub read : message_of f (message_data f m) ≡ Ok m
  pub written : IsBack 3 (message_data f m)

module _ (f : Form) where
  kind_written : (word : List ℕ) → are_ascii word ≡ true → IsBack 2 (string word)
  kind_written word e = word_written 2 word e

  pub delegate_back : (a b n : ℕ) → a < 256 → b < 256 → n < 10 ^ 38 → IsMessageBack f (msg.Delegate (record { delegator = address a; validator = address b; amount = coin n }))
  unfolding message_of kind_of delegate_of
  delegate_back a b n ha hb hn =
      let m : Delegate = record { delegator = address a; validator = address b; amount = coin n } in
      let d : Data = message_data f (msg.Delegate m) in
      let e = read_three {T = Delegate} (λ x y z. record { delegator = x; validator = y; amount = z }) _ (address a) _ (address b) _ (coin n)
      (member_read (spelled_by (user_in f)) 95 (codes "delegator") d (user_data f (address a)) (address a) refl (user_read f a ha))
      (member_read (spelled_by (operator_in f)) 94 (codes "validator") d (operator_data f (address b)) (address b) refl (operator_read f b hb))
      (coin_read n hn) in
      let g = read_one {T = Msg} (λ x. msg.Delegate x) (delegate_of f d) m e in
      record {
        read = g;
        written = object_back 2 _ (one_more (back_deeper 1 2 _ (omega arith) (coin_written n hn)) (one_more (user_written f 2 (address a)) (one_more (kind_written (codes "delegate") refl) (one_more (operator_written f 2 (address b)) no_more)))) refl;
      }

  pub undelegate_back : (a b n : ℕ) → a < 256 → b < 256 → n < 10 ^ 38 → IsMessageBack f (msg.Undelegate (record { delegator = address a; validator = address b; amount = coin n }))
  unfolding message_of kind_of undelegate_of
  undelegate_back a b n ha hb hn =
      let m : Undelegate = record { delegator = address a; validator = address b; amount = coin n } in
      let d : Data = message_data f (msg.Undelegate m) in
      let e = read_three {T = Undelegate} (λ x y z. record { delegator = x; validator = y; amount = z }) _ (address a) _ (address b) _ (coin n)
      (member_read (spelled_by (user_in f)) 95 (codes "delegator") d (user_data f (address a)) (address a) refl (user_read f a ha))
      (member_read (spelled_by (operator_in f)) 94 (codes "validator") d (operator_data f (address b)) (address b) refl (operator_read f b hb))
      (coin_read n hn) in
      let g = read_one {T = Msg} (λ x. msg.Undelegate x) (undelegate_of f d) m e in
      record {
        read = g;
        written = object_back 2 _ (one_more (back_deeper 1 2 _ (omega arith) (coin_written n hn)) (one_more (user_written f 2 (address a)) (one_more (kind_written (codes "undelegate") refl) (one_more (operator_written f 2 (address b)) no_more)))) refl;
      }

  pub redelegate_back : (a b c n : ℕ) → a < 256 → b < 256 → c < 256 → n < 10 ^ 38
      → IsMessageBack f (msg.BeginRedelegate (record { delegator = address a; source = address b; target = address c; amount = coin n }))
  unfolding message_of kind_of begin_redelegate_of
  redelegate_back a b c n ha hb hc hn =
      let m : BeginRedelegate = record { delegator = address a; source = address b; target = address c; amount = coin n } in
      let d : Data = message_data f (msg.BeginRedelegate m) in
      let e = read_four {T = BeginRedelegate} (λ x y z o. record { delegator = x; source = y; target = z; amount = o }) _ (address a) _ (address b) _ (address c) _ (coin n)
      (member_read (spelled_by (user_in f)) 95 (codes "delegator") d (user_data f (address a)) (address a) refl (user_read f a ha))
      (member_read (spelled_by (operator_in f)) 97 (codes "source") d (operator_data f (address b)) (address b) refl (operator_read f b hb))
      (member_read (spelled_by (operator_in f)) 98 (codes "target") d (operator_data f (address c)) (address c) refl (operator_read f c hc))
      (coin_read n hn) in
      let g = read_one {T = Msg} (λ x. msg.BeginRedelegate x) (begin_redelegate_of f d) m e in
      record {
        read = g;
        written = object_back 2 _ (one_more (back_deeper 1 2 _ (omega arith) (coin_written n hn)) (one_more (user_written f 2 (address a)) (one_more (kind_written (codes "begin_redelegate") refl)
            (one_more (operator_written f 2 (address b)) (one_more (operator_written f 2 (address c)) no_more))))) refl;
      }

  pub reward_back : (a b : ℕ) → a < 256 → b < 256 → IsMessageBack f (msg.WithdrawReward (record { delegator = address a; validator = address b }))
  unfolding message_of kind_of withdraw_reward_of
  reward_back a b ha hb =
      let m : WithdrawReward = record { delegator = address a; validator = address b } in
      let d : Data = message_data f (msg.WithdrawReward m) in
      let e = read_two {T = WithdrawReward} (λ x y. record { delegator = x; validator = y }) _ (address a) _ (address b)
      (member_read (spelled_by (user_in f)) 95 (codes "delegator") d (user_data f (address a)) (address a) refl (user_read f a ha))
      (member_read (spelled_by (operator_in f)) 94 (codes "validator") d (operator_data f (address b)) (address b) refl (operator_read f b hb)) in
      let g = read_one {T = Msg} (λ x. msg.WithdrawReward x) (withdraw_reward_of f d) m e in
      record {
        read = g;
        written = object_back 2 _ (one_more (user_written f 2 (address a)) (one_more (kind_written (codes "withdraw_reward") refl) (one_more (operator_written f 2 (address b)) no_more))) refl;
      }

  pub commission_back : (b : ℕ) → b < 256 → IsMessageBack f (msg.WithdrawCommission (record { validator = address b }))
  unfolding message_of kind_of withdraw_commission_of
  commission_back b hb =
      let m : WithdrawCommission = record { validator = address b } in
      let d : Data = message_data f (msg.WithdrawCommission m) in
      let e = read_one {T = WithdrawCommission} (λ x. record { validator = x }) _ (address b)
      (member_read (spelled_by (operator_in f)) 94 (codes "validator") d (operator_data f (address b)) (address b) refl (operator_read f b hb)) in
      let g = read_one {T = Msg} (λ x. msg.WithdrawCommission x) (withdraw_commission_of f d) m e in
      record {
        read = g;
        written = object_back 2 _ (one_more (kind_written (codes "withdraw_commission") refl) (one_more (operator_written f 2 (address b)) no_more)) refl;
      }

  alone_back : (a b n : ℕ) → a < 256 → b < 256 → 0 < n → n < 10 ^ 38 → IsMessageBack f (msg.Send (record { from = address a; to = account.User (address b); coins = alone n }))
  unfolding message_of kind_of send_of
  alone_back a b n ha hb hp hn =
      let m : Send = record { from = address a; to = account.User (address b); coins = alone n } in
      let d : Data = message_data f (msg.Send m) in
      let e = read_three {T = Send} (λ x y z. record { from = x; to = y; coins = z }) _ (address a) _ (account.User (address b)) _ (alone n)
      (member_read (spelled_by (user_in f)) 91 (codes "from") d (user_data f (address a)) (address a) refl (user_read f a ha))
      (member_read (spelled_by (account_in f)) 92 (codes "to") d (account_data f (account.User (address b))) (account.User (address b)) refl (account_read f b hb))
      (coins_read n 93 (codes "coins") d hp hn refl) in
      let g = read_one {T = Msg} (λ x. msg.Send x) (send_of f d) m e in
      record {
        read = g;
        written = object_back 2 _ (one_more (coins_written n hn) (one_more (user_written f 2 (address a)) (one_more (kind_written (codes "send") refl) (one_more (user_written f 2 (address b)) no_more)))) refl;
      }

  pub send_back : (a b n : ℕ) → a < 256 → b < 256 → 0 < n → n < 10 ^ 38 → IsMessageBack f (msg.Send (record { from = address a; to = account.User (address b); coins = coins n }))
  send_back a b n ha hb hp hn =
      subst (λ c. IsMessageBack f (msg.Send (record { from = address a; to = account.User (address b); coins = c }))) (sym (coins_one n hp)) (alone_back a b n ha hb hp hn)

  pub either_back : (b : Bool) (x y : Msg) → IsMessageBack f x → IsMessageBack f y → IsMessageBack f (if b then x else y)
  either_back true x y p q = p
  either_back false x y p q = q
