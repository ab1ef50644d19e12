-- Compact texts of messages.
use Rattle.std.proofs.Common.{◌≡◌, sym, refl, arith, ℕ, List, ◌++◌, Some, Ok, codes}
use Rattle.json.specs.Print.{escape_byte}
use Rattle.serde_json.specs.Data.{Data, Items, string, array, object, no_members, put}
use Rattle.base_types.specs.{declared.account.Account.Account, Accounts.account_from, Denom.denom_of, Modules.user_from}
use Rattle.base_bech32.specs.declared.form.Form.{Form}
use Rattle.base_coins.specs.{declared.coin.Coin.Coin, Coins.Money}
use Rattle.base_messages.specs.declared.message.{BeginRedelegate.BeginRedelegate, Delegate.Delegate, Msg.Msg, Send.Send}
use Rattle.base_messages.specs.declared.message.{Undelegate.Undelegate, WithdrawCommission.WithdrawCommission}
use Rattle.base_messages.specs.declared.message.WithdrawReward.{WithdrawReward}
use Rattle.base_messages.specs.declared.message.Msg.TheVariants as msg
use Rattle.line_compact.specs.Begins.{IsSpelled}
use Rattle.line_compact.proofs.BeginLemmas.{deeper, no_more_members, object_begins, one_more_member, string_begins}
use Rattle.line_json.specs.Addresses.{account_in, account_prefix, bytes_in, operator_in, operator_prefix, user_in}
use Rattle.line_json.specs.{Coin.{coin_of, coins_at}, Compact.{IsCompact, IsCompactCoin, IsCompactList, IsMoneyOf}}
use Rattle.line_json.specs.Members.{spelled_by}
use Rattle.line_json.specs.Messages.{begin_redelegate_of, delegate_of, kind_of, message_of, send_of, undelegate_of, withdraw_commission_of, withdraw_reward_of}
use Rattle.line_json.proofs.BackLemmas.{member_read, read_one, read_two, read_three, read_four}
use Rattle.line_json.proofs.CompactLemmas.{account_read, coins_read, one_coin_read, user_read}

-- ---- send

abbrev send_tree : List ℕ → List ℕ → Items → Data
send_tree from_word to_word coins_items =
    object (put (codes "coins") (array coins_items) (put (codes "from") (string from_word) (put (codes "kind") (string (codes "send")) (put (codes "to") (string to_word) no_members))))

send_read : (f : Form) (from_word : List ℕ) (to_word : List ℕ) (coins_items : Items) (from : List ℕ) (to : Account) (coins : Money)
    → user_in f from_word ≡ Some from → account_in f to_word ≡ Some to → coins_at 93 (codes "coins") (send_tree from_word to_word coins_items) ≡ Ok coins
    → message_of f (send_tree from_word to_word coins_items) ≡ Ok (msg.Send (record { from = from; to = to; coins = coins }))
unfolding message_of kind_of send_of
send_read f from_word to_word coins_items from to coins h₁ h₂ h₃ =
    let d : Data = send_tree from_word to_word coins_items in
    let m : Send = record { from = from; to = to; coins = coins } in
    read_one {T = Msg} (λ x. msg.Send x) (send_of f d) m
    (read_three {T = Send} (λ x y z. record { from = x; to = y; coins = z }) _ from _ to _ coins
    (member_read (spelled_by (user_in f)) 91 (codes "from") d (string from_word) from refl h₁)
    (member_read (spelled_by (account_in f)) 92 (codes "to") d (string to_word) to refl h₂)
    h₃)

pub send_is_compact : {text a₁ z₁ a₂ z₂ a₃ z₃ rest : List ℕ} (f : Form) (from_bytes from : List ℕ) (to_bytes : List ℕ) (to : Account) (parts : List Coin) (coins : Money)
    → Some from ≡ user_from from_bytes → to ≡ account_from to_bytes → IsMoneyOf parts coins
    → text ≡ codes "{\"kind\":\"send\",\"from\":" ++ a₁ → IsSpelled (bytes_in f account_prefix) a₁ from_bytes z₁
    → z₁ ≡ codes ",\"to\":" ++ a₂ → IsSpelled (bytes_in f account_prefix) a₂ to_bytes z₂
    → z₂ ≡ codes ",\"coins\":" ++ a₃ → IsCompactList coin_of 1 a₃ parts z₃
    → z₃ ≡ codes "}" ++ rest
    → IsCompact (message_of f) 3 text (msg.Send (record { from = from; to = to; coins = coins })) rest
unfolding escape_byte
send_is_compact f from_bytes from to_bytes to parts coins is_from is_to is_coins e₁ b₁ e₂ b₂ e₃ b₃ e₄ = record {
  tree = send_tree b₁.word b₂.word b₃.elements;
  begins = object_begins e₁
      (one_more_member (codes "kind") refl refl (deeper (omega arith) (string_begins (codes "send") refl refl refl))
      (one_more_member (codes "from") refl refl (deeper (omega arith) b₁.begins)
      (one_more_member (codes "to") refl e₂ (deeper (omega arith) b₂.begins)
      (one_more_member (codes "coins") refl e₃ (deeper (omega arith) b₃.begins)
      (no_more_members e₄)))));
  reads = send_read f b₁.word b₂.word b₃.elements from to coins
      (user_read f account_prefix b₁.word from_bytes from b₁.spells is_from)
      (account_read f b₂.word to_bytes to b₂.spells is_to)
      (coins_read 93 (codes "coins") _ coins b₃ is_coins refl);
}

pub send_is_compact_by_name : {text a₁ z₁ a₂ z₂ a₃ z₃ rest : List ℕ} (f : Form) (from_bytes from : List ℕ) (to_bytes : List ℕ) (to : Account) (parts : List Coin) (coins : Money)
    → Some from ≡ user_from from_bytes → to ≡ account_from to_bytes → IsMoneyOf parts coins
    → text ≡ codes "{\"coins\":" ++ a₁ → IsCompactList coin_of 1 a₁ parts z₁
    → z₁ ≡ codes ",\"from\":" ++ a₂ → IsSpelled (bytes_in f account_prefix) a₂ from_bytes z₂
    → z₂ ≡ codes ",\"kind\":\"send\",\"to\":" ++ a₃ → IsSpelled (bytes_in f account_prefix) a₃ to_bytes z₃
    → z₃ ≡ codes "}" ++ rest
    → IsCompact (message_of f) 3 text (msg.Send (record { from = from; to = to; coins = coins })) rest
unfolding escape_byte
send_is_compact_by_name f from_bytes from to_bytes to parts coins is_from is_to is_coins e₁ b₁ e₂ b₂ e₃ b₃ e₄ = record {
  tree = send_tree b₂.word b₃.word b₁.elements;
  begins = object_begins e₁
      (one_more_member (codes "coins") refl refl (deeper (omega arith) b₁.begins)
      (one_more_member (codes "from") refl e₂ (deeper (omega arith) b₂.begins)
      (one_more_member (codes "kind") refl e₃ (deeper (omega arith) (string_begins (codes "send") refl refl refl))
      (one_more_member (codes "to") refl refl (deeper (omega arith) b₃.begins)
      (no_more_members e₄)))));
  reads = send_read f b₂.word b₃.word b₁.elements from to coins
      (user_read f account_prefix b₂.word from_bytes from b₂.spells is_from)
      (account_read f b₃.word to_bytes to b₃.spells is_to)
      (coins_read 93 (codes "coins") _ coins b₁ is_coins refl);
}

-- ---- delegate

abbrev delegate_tree : List ℕ → List ℕ → Data → Data
delegate_tree delegator_word validator_word amount_tree =
    object (put (codes "amount") amount_tree (put (codes "delegator") (string delegator_word) (put (codes "kind") (string (codes "delegate")) (put (codes "validator") (string validator_word) no_members))))

delegate_read : (f : Form) (delegator_word : List ℕ) (validator_word : List ℕ) (amount_tree : Data) (delegator : List ℕ) (validator : List ℕ) (amount : Coin)
    → user_in f delegator_word ≡ Some delegator → operator_in f validator_word ≡ Some validator → coin_of amount_tree ≡ Ok amount
    → message_of f (delegate_tree delegator_word validator_word amount_tree) ≡ Ok (msg.Delegate (record { delegator = delegator; validator = validator; amount = amount }))
unfolding message_of kind_of delegate_of
delegate_read f delegator_word validator_word amount_tree delegator validator amount h₁ h₂ h₃ =
    let d : Data = delegate_tree delegator_word validator_word amount_tree in
    let m : Delegate = record { delegator = delegator; validator = validator; amount = amount } in
    read_one {T = Msg} (λ x. msg.Delegate x) (delegate_of f d) m
    (read_three {T = Delegate} (λ x y z. record { delegator = x; validator = y; amount = z }) _ delegator _ validator _ amount
    (member_read (spelled_by (user_in f)) 95 (codes "delegator") d (string delegator_word) delegator refl h₁)
    (member_read (spelled_by (operator_in f)) 94 (codes "validator") d (string validator_word) validator refl h₂)
    (one_coin_read 96 (codes "amount") d amount_tree amount refl h₃))

pub delegate_is_compact : {text a₁ z₁ a₂ z₂ a₃ z₃ rest : List ℕ} (f : Form) (delegator_bytes delegator : List ℕ) (validator_bytes validator : List ℕ) (name denom : List ℕ) (number : ℕ)
    → Some delegator ≡ user_from delegator_bytes → Some validator ≡ user_from validator_bytes → Some denom ≡ denom_of name
    → text ≡ codes "{\"kind\":\"delegate\",\"delegator\":" ++ a₁ → IsSpelled (bytes_in f account_prefix) a₁ delegator_bytes z₁
    → z₁ ≡ codes ",\"validator\":" ++ a₂ → IsSpelled (bytes_in f operator_prefix) a₂ validator_bytes z₂
    → z₂ ≡ codes ",\"amount\":" ++ a₃ → IsCompactCoin a₃ name number z₃
    → z₃ ≡ codes "}" ++ rest
    → IsCompact (message_of f) 3 text (msg.Delegate (record { delegator = delegator; validator = validator; amount = record { denom = denom; amount = number } })) rest
unfolding escape_byte
delegate_is_compact f delegator_bytes delegator validator_bytes validator name denom number is_delegator is_validator is_amount e₁ b₁ e₂ b₂ e₃ b₃ e₄ = record {
  tree = delegate_tree b₁.word b₂.word b₃.tree;
  begins = object_begins e₁
      (one_more_member (codes "kind") refl refl (deeper (omega arith) (string_begins (codes "delegate") refl refl refl))
      (one_more_member (codes "delegator") refl refl (deeper (omega arith) b₁.begins)
      (one_more_member (codes "validator") refl e₂ (deeper (omega arith) b₂.begins)
      (one_more_member (codes "amount") refl e₃ (deeper (omega arith) b₃.begins)
      (no_more_members e₄)))));
  reads = delegate_read f b₁.word b₂.word b₃.tree delegator validator (record { denom = denom; amount = number })
      (user_read f account_prefix b₁.word delegator_bytes delegator b₁.spells is_delegator)
      (user_read f operator_prefix b₂.word validator_bytes validator b₂.spells is_validator)
      (b₃.reads denom (sym is_amount));
}

pub delegate_is_compact_by_name : {text a₁ z₁ a₂ z₂ a₃ z₃ rest : List ℕ} (f : Form) (delegator_bytes delegator : List ℕ) (validator_bytes validator : List ℕ) (name denom : List ℕ) (number : ℕ)
    → Some delegator ≡ user_from delegator_bytes → Some validator ≡ user_from validator_bytes → Some denom ≡ denom_of name
    → text ≡ codes "{\"amount\":" ++ a₁ → IsCompactCoin a₁ name number z₁
    → z₁ ≡ codes ",\"delegator\":" ++ a₂ → IsSpelled (bytes_in f account_prefix) a₂ delegator_bytes z₂
    → z₂ ≡ codes ",\"kind\":\"delegate\",\"validator\":" ++ a₃ → IsSpelled (bytes_in f operator_prefix) a₃ validator_bytes z₃
    → z₃ ≡ codes "}" ++ rest
    → IsCompact (message_of f) 3 text (msg.Delegate (record { delegator = delegator; validator = validator; amount = record { denom = denom; amount = number } })) rest
unfolding escape_byte
delegate_is_compact_by_name f delegator_bytes delegator validator_bytes validator name denom number is_delegator is_validator is_amount e₁ b₁ e₂ b₂ e₃ b₃ e₄ = record {
  tree = delegate_tree b₂.word b₃.word b₁.tree;
  begins = object_begins e₁
      (one_more_member (codes "amount") refl refl (deeper (omega arith) b₁.begins)
      (one_more_member (codes "delegator") refl e₂ (deeper (omega arith) b₂.begins)
      (one_more_member (codes "kind") refl e₃ (deeper (omega arith) (string_begins (codes "delegate") refl refl refl))
      (one_more_member (codes "validator") refl refl (deeper (omega arith) b₃.begins)
      (no_more_members e₄)))));
  reads = delegate_read f b₂.word b₃.word b₁.tree delegator validator (record { denom = denom; amount = number })
      (user_read f account_prefix b₂.word delegator_bytes delegator b₂.spells is_delegator)
      (user_read f operator_prefix b₃.word validator_bytes validator b₃.spells is_validator)
      (b₁.reads denom (sym is_amount));
}

-- ---- undelegate

abbrev undelegate_tree : List ℕ → List ℕ → Data → Data
undelegate_tree delegator_word validator_word amount_tree =
    object (put (codes "amount") amount_tree (put (codes "delegator") (string delegator_word) (put (codes "kind") (string (codes "undelegate")) (put (codes "validator") (string validator_word) no_members))))

undelegate_read : (f : Form) (delegator_word : List ℕ) (validator_word : List ℕ) (amount_tree : Data) (delegator : List ℕ) (validator : List ℕ) (amount : Coin)
    → user_in f delegator_word ≡ Some delegator → operator_in f validator_word ≡ Some validator → coin_of amount_tree ≡ Ok amount
    → message_of f (undelegate_tree delegator_word validator_word amount_tree) ≡ Ok (msg.Undelegate (record { delegator = delegator; validator = validator; amount = amount }))
unfolding message_of kind_of undelegate_of
undelegate_read f delegator_word validator_word amount_tree delegator validator amount h₁ h₂ h₃ =
    let d : Data = undelegate_tree delegator_word validator_word amount_tree in
    let m : Undelegate = record { delegator = delegator; validator = validator; amount = amount } in
    read_one {T = Msg} (λ x. msg.Undelegate x) (undelegate_of f d) m
    (read_three {T = Undelegate} (λ x y z. record { delegator = x; validator = y; amount = z }) _ delegator _ validator _ amount
    (member_read (spelled_by (user_in f)) 95 (codes "delegator") d (string delegator_word) delegator refl h₁)
    (member_read (spelled_by (operator_in f)) 94 (codes "validator") d (string validator_word) validator refl h₂)
    (one_coin_read 96 (codes "amount") d amount_tree amount refl h₃))

pub undelegate_is_compact : {text a₁ z₁ a₂ z₂ a₃ z₃ rest : List ℕ} (f : Form) (delegator_bytes delegator : List ℕ) (validator_bytes validator : List ℕ) (name denom : List ℕ) (number : ℕ)
    → Some delegator ≡ user_from delegator_bytes → Some validator ≡ user_from validator_bytes → Some denom ≡ denom_of name
    → text ≡ codes "{\"kind\":\"undelegate\",\"delegator\":" ++ a₁ → IsSpelled (bytes_in f account_prefix) a₁ delegator_bytes z₁
    → z₁ ≡ codes ",\"validator\":" ++ a₂ → IsSpelled (bytes_in f operator_prefix) a₂ validator_bytes z₂
    → z₂ ≡ codes ",\"amount\":" ++ a₃ → IsCompactCoin a₃ name number z₃
    → z₃ ≡ codes "}" ++ rest
    → IsCompact (message_of f) 3 text (msg.Undelegate (record { delegator = delegator; validator = validator; amount = record { denom = denom; amount = number } })) rest
unfolding escape_byte
undelegate_is_compact f delegator_bytes delegator validator_bytes validator name denom number is_delegator is_validator is_amount e₁ b₁ e₂ b₂ e₃ b₃ e₄ = record {
  tree = undelegate_tree b₁.word b₂.word b₃.tree;
  begins = object_begins e₁
      (one_more_member (codes "kind") refl refl (deeper (omega arith) (string_begins (codes "undelegate") refl refl refl))
      (one_more_member (codes "delegator") refl refl (deeper (omega arith) b₁.begins)
      (one_more_member (codes "validator") refl e₂ (deeper (omega arith) b₂.begins)
      (one_more_member (codes "amount") refl e₃ (deeper (omega arith) b₃.begins)
      (no_more_members e₄)))));
  reads = undelegate_read f b₁.word b₂.word b₃.tree delegator validator (record { denom = denom; amount = number })
      (user_read f account_prefix b₁.word delegator_bytes delegator b₁.spells is_delegator)
      (user_read f operator_prefix b₂.word validator_bytes validator b₂.spells is_validator)
      (b₃.reads denom (sym is_amount));
}

pub undelegate_is_compact_by_name : {text a₁ z₁ a₂ z₂ a₃ z₃ rest : List ℕ} (f : Form) (delegator_bytes delegator : List ℕ) (validator_bytes validator : List ℕ) (name denom : List ℕ) (number : ℕ)
    → Some delegator ≡ user_from delegator_bytes → Some validator ≡ user_from validator_bytes → Some denom ≡ denom_of name
    → text ≡ codes "{\"amount\":" ++ a₁ → IsCompactCoin a₁ name number z₁
    → z₁ ≡ codes ",\"delegator\":" ++ a₂ → IsSpelled (bytes_in f account_prefix) a₂ delegator_bytes z₂
    → z₂ ≡ codes ",\"kind\":\"undelegate\",\"validator\":" ++ a₃ → IsSpelled (bytes_in f operator_prefix) a₃ validator_bytes z₃
    → z₃ ≡ codes "}" ++ rest
    → IsCompact (message_of f) 3 text (msg.Undelegate (record { delegator = delegator; validator = validator; amount = record { denom = denom; amount = number } })) rest
unfolding escape_byte
undelegate_is_compact_by_name f delegator_bytes delegator validator_bytes validator name denom number is_delegator is_validator is_amount e₁ b₁ e₂ b₂ e₃ b₃ e₄ = record {
  tree = undelegate_tree b₂.word b₃.word b₁.tree;
  begins = object_begins e₁
      (one_more_member (codes "amount") refl refl (deeper (omega arith) b₁.begins)
      (one_more_member (codes "delegator") refl e₂ (deeper (omega arith) b₂.begins)
      (one_more_member (codes "kind") refl e₃ (deeper (omega arith) (string_begins (codes "undelegate") refl refl refl))
      (one_more_member (codes "validator") refl refl (deeper (omega arith) b₃.begins)
      (no_more_members e₄)))));
  reads = undelegate_read f b₂.word b₃.word b₁.tree delegator validator (record { denom = denom; amount = number })
      (user_read f account_prefix b₂.word delegator_bytes delegator b₂.spells is_delegator)
      (user_read f operator_prefix b₃.word validator_bytes validator b₃.spells is_validator)
      (b₁.reads denom (sym is_amount));
}

-- ---- begin_redelegate

abbrev begin_redelegate_tree : List ℕ → List ℕ → List ℕ → Data → Data
begin_redelegate_tree delegator_word source_word target_word amount_tree =
    object (put (codes "amount") amount_tree (put (codes "delegator") (string delegator_word) (put (codes "kind") (string (codes "begin_redelegate")) (put (codes "source") (string source_word) (put (codes "target") (string target_word) no_members)))))

begin_redelegate_read : (f : Form) (delegator_word : List ℕ) (source_word : List ℕ) (target_word : List ℕ) (amount_tree : Data) (delegator : List ℕ) (source : List ℕ) (target : List ℕ) (amount : Coin)
    → user_in f delegator_word ≡ Some delegator → operator_in f source_word ≡ Some source → operator_in f target_word ≡ Some target → coin_of amount_tree ≡ Ok amount
    → message_of f (begin_redelegate_tree delegator_word source_word target_word amount_tree) ≡ Ok (msg.BeginRedelegate (record { delegator = delegator; source = source; target = target; amount = amount }))
unfolding message_of kind_of begin_redelegate_of
begin_redelegate_read f delegator_word source_word target_word amount_tree delegator source target amount h₁ h₂ h₃ h₄ =
    let d : Data = begin_redelegate_tree delegator_word source_word target_word amount_tree in
    let m : BeginRedelegate = record { delegator = delegator; source = source; target = target; amount = amount } in
    read_one {T = Msg} (λ x. msg.BeginRedelegate x) (begin_redelegate_of f d) m
    (read_four {T = BeginRedelegate} (λ x y z w. record { delegator = x; source = y; target = z; amount = w }) _ delegator _ source _ target _ amount
    (member_read (spelled_by (user_in f)) 95 (codes "delegator") d (string delegator_word) delegator refl h₁)
    (member_read (spelled_by (operator_in f)) 97 (codes "source") d (string source_word) source refl h₂)
    (member_read (spelled_by (operator_in f)) 98 (codes "target") d (string target_word) target refl h₃)
    (one_coin_read 96 (codes "amount") d amount_tree amount refl h₄))

pub begin_redelegate_is_compact : {text a₁ z₁ a₂ z₂ a₃ z₃ a₄ z₄ rest : List ℕ} (f : Form) (delegator_bytes delegator : List ℕ) (source_bytes source : List ℕ) (target_bytes target : List ℕ) (name denom : List ℕ) (number : ℕ)
    → Some delegator ≡ user_from delegator_bytes → Some source ≡ user_from source_bytes → Some target ≡ user_from target_bytes → Some denom ≡ denom_of name
    → text ≡ codes "{\"kind\":\"begin_redelegate\",\"delegator\":" ++ a₁ → IsSpelled (bytes_in f account_prefix) a₁ delegator_bytes z₁
    → z₁ ≡ codes ",\"source\":" ++ a₂ → IsSpelled (bytes_in f operator_prefix) a₂ source_bytes z₂
    → z₂ ≡ codes ",\"target\":" ++ a₃ → IsSpelled (bytes_in f operator_prefix) a₃ target_bytes z₃
    → z₃ ≡ codes ",\"amount\":" ++ a₄ → IsCompactCoin a₄ name number z₄
    → z₄ ≡ codes "}" ++ rest
    → IsCompact (message_of f) 3 text (msg.BeginRedelegate (record { delegator = delegator; source = source; target = target; amount = record { denom = denom; amount = number } })) rest
unfolding escape_byte
begin_redelegate_is_compact f delegator_bytes delegator source_bytes source target_bytes target name denom number is_delegator is_source is_target is_amount e₁ b₁ e₂ b₂ e₃ b₃ e₄ b₄ e₅ = record {
  tree = begin_redelegate_tree b₁.word b₂.word b₃.word b₄.tree;
  begins = object_begins e₁
      (one_more_member (codes "kind") refl refl (deeper (omega arith) (string_begins (codes "begin_redelegate") refl refl refl))
      (one_more_member (codes "delegator") refl refl (deeper (omega arith) b₁.begins)
      (one_more_member (codes "source") refl e₂ (deeper (omega arith) b₂.begins)
      (one_more_member (codes "target") refl e₃ (deeper (omega arith) b₃.begins)
      (one_more_member (codes "amount") refl e₄ (deeper (omega arith) b₄.begins)
      (no_more_members e₅))))));
  reads = begin_redelegate_read f b₁.word b₂.word b₃.word b₄.tree delegator source target (record { denom = denom; amount = number })
      (user_read f account_prefix b₁.word delegator_bytes delegator b₁.spells is_delegator)
      (user_read f operator_prefix b₂.word source_bytes source b₂.spells is_source)
      (user_read f operator_prefix b₃.word target_bytes target b₃.spells is_target)
      (b₄.reads denom (sym is_amount));
}

pub begin_redelegate_is_compact_by_name : {text a₁ z₁ a₂ z₂ a₃ z₃ a₄ z₄ rest : List ℕ} (f : Form) (delegator_bytes delegator : List ℕ) (source_bytes source : List ℕ) (target_bytes target : List ℕ) (name denom : List ℕ) (number : ℕ)
    → Some delegator ≡ user_from delegator_bytes → Some source ≡ user_from source_bytes → Some target ≡ user_from target_bytes → Some denom ≡ denom_of name
    → text ≡ codes "{\"amount\":" ++ a₁ → IsCompactCoin a₁ name number z₁
    → z₁ ≡ codes ",\"delegator\":" ++ a₂ → IsSpelled (bytes_in f account_prefix) a₂ delegator_bytes z₂
    → z₂ ≡ codes ",\"kind\":\"begin_redelegate\",\"source\":" ++ a₃ → IsSpelled (bytes_in f operator_prefix) a₃ source_bytes z₃
    → z₃ ≡ codes ",\"target\":" ++ a₄ → IsSpelled (bytes_in f operator_prefix) a₄ target_bytes z₄
    → z₄ ≡ codes "}" ++ rest
    → IsCompact (message_of f) 3 text (msg.BeginRedelegate (record { delegator = delegator; source = source; target = target; amount = record { denom = denom; amount = number } })) rest
unfolding escape_byte
begin_redelegate_is_compact_by_name f delegator_bytes delegator source_bytes source target_bytes target name denom number is_delegator is_source is_target is_amount e₁ b₁ e₂ b₂ e₃ b₃ e₄ b₄ e₅ = record {
  tree = begin_redelegate_tree b₂.word b₃.word b₄.word b₁.tree;
  begins = object_begins e₁
      (one_more_member (codes "amount") refl refl (deeper (omega arith) b₁.begins)
      (one_more_member (codes "delegator") refl e₂ (deeper (omega arith) b₂.begins)
      (one_more_member (codes "kind") refl e₃ (deeper (omega arith) (string_begins (codes "begin_redelegate") refl refl refl))
      (one_more_member (codes "source") refl refl (deeper (omega arith) b₃.begins)
      (one_more_member (codes "target") refl e₄ (deeper (omega arith) b₄.begins)
      (no_more_members e₅))))));
  reads = begin_redelegate_read f b₂.word b₃.word b₄.word b₁.tree delegator source target (record { denom = denom; amount = number })
      (user_read f account_prefix b₂.word delegator_bytes delegator b₂.spells is_delegator)
      (user_read f operator_prefix b₃.word source_bytes source b₃.spells is_source)
      (user_read f operator_prefix b₄.word target_bytes target b₄.spells is_target)
      (b₁.reads denom (sym is_amount));
}

-- ---- withdraw_reward

abbrev withdraw_reward_tree : List ℕ → List ℕ → Data
withdraw_reward_tree delegator_word validator_word =
    object (put (codes "delegator") (string delegator_word) (put (codes "kind") (string (codes "withdraw_reward")) (put (codes "validator") (string validator_word) no_members)))

withdraw_reward_read : (f : Form) (delegator_word : List ℕ) (validator_word : List ℕ) (delegator : List ℕ) (validator : List ℕ)
    → user_in f delegator_word ≡ Some delegator → operator_in f validator_word ≡ Some validator
    → message_of f (withdraw_reward_tree delegator_word validator_word) ≡ Ok (msg.WithdrawReward (record { delegator = delegator; validator = validator }))
unfolding message_of kind_of withdraw_reward_of
withdraw_reward_read f delegator_word validator_word delegator validator h₁ h₂ =
    let d : Data = withdraw_reward_tree delegator_word validator_word in
    let m : WithdrawReward = record { delegator = delegator; validator = validator } in
    read_one {T = Msg} (λ x. msg.WithdrawReward x) (withdraw_reward_of f d) m
    (read_two {T = WithdrawReward} (λ x y. record { delegator = x; validator = y }) _ delegator _ validator
    (member_read (spelled_by (user_in f)) 95 (codes "delegator") d (string delegator_word) delegator refl h₁)
    (member_read (spelled_by (operator_in f)) 94 (codes "validator") d (string validator_word) validator refl h₂))

pub withdraw_reward_is_compact : {text a₁ z₁ a₂ z₂ rest : List ℕ} (f : Form) (delegator_bytes delegator : List ℕ) (validator_bytes validator : List ℕ)
    → Some delegator ≡ user_from delegator_bytes → Some validator ≡ user_from validator_bytes
    → text ≡ codes "{\"kind\":\"withdraw_reward\",\"delegator\":" ++ a₁ → IsSpelled (bytes_in f account_prefix) a₁ delegator_bytes z₁
    → z₁ ≡ codes ",\"validator\":" ++ a₂ → IsSpelled (bytes_in f operator_prefix) a₂ validator_bytes z₂
    → z₂ ≡ codes "}" ++ rest
    → IsCompact (message_of f) 3 text (msg.WithdrawReward (record { delegator = delegator; validator = validator })) rest
unfolding escape_byte
withdraw_reward_is_compact f delegator_bytes delegator validator_bytes validator is_delegator is_validator e₁ b₁ e₂ b₂ e₃ = record {
  tree = withdraw_reward_tree b₁.word b₂.word;
  begins = object_begins e₁
      (one_more_member (codes "kind") refl refl (deeper (omega arith) (string_begins (codes "withdraw_reward") refl refl refl))
      (one_more_member (codes "delegator") refl refl (deeper (omega arith) b₁.begins)
      (one_more_member (codes "validator") refl e₂ (deeper (omega arith) b₂.begins)
      (no_more_members e₃))));
  reads = withdraw_reward_read f b₁.word b₂.word delegator validator
      (user_read f account_prefix b₁.word delegator_bytes delegator b₁.spells is_delegator)
      (user_read f operator_prefix b₂.word validator_bytes validator b₂.spells is_validator);
}

pub withdraw_reward_is_compact_by_name : {text a₁ z₁ a₂ z₂ rest : List ℕ} (f : Form) (delegator_bytes delegator : List ℕ) (validator_bytes validator : List ℕ)
    → Some delegator ≡ user_from delegator_bytes → Some validator ≡ user_from validator_bytes
    → text ≡ codes "{\"delegator\":" ++ a₁ → IsSpelled (bytes_in f account_prefix) a₁ delegator_bytes z₁
    → z₁ ≡ codes ",\"kind\":\"withdraw_reward\",\"validator\":" ++ a₂ → IsSpelled (bytes_in f operator_prefix) a₂ validator_bytes z₂
    → z₂ ≡ codes "}" ++ rest
    → IsCompact (message_of f) 3 text (msg.WithdrawReward (record { delegator = delegator; validator = validator })) rest
unfolding escape_byte
withdraw_reward_is_compact_by_name f delegator_bytes delegator validator_bytes validator is_delegator is_validator e₁ b₁ e₂ b₂ e₃ = record {
  tree = withdraw_reward_tree b₁.word b₂.word;
  begins = object_begins e₁
      (one_more_member (codes "delegator") refl refl (deeper (omega arith) b₁.begins)
      (one_more_member (codes "kind") refl e₂ (deeper (omega arith) (string_begins (codes "withdraw_reward") refl refl refl))
      (one_more_member (codes "validator") refl refl (deeper (omega arith) b₂.begins)
      (no_more_members e₃))));
  reads = withdraw_reward_read f b₁.word b₂.word delegator validator
      (user_read f account_prefix b₁.word delegator_bytes delegator b₁.spells is_delegator)
      (user_read f operator_prefix b₂.word validator_bytes validator b₂.spells is_validator);
}

-- ---- withdraw_commission

abbrev withdraw_commission_tree : List ℕ → Data
withdraw_commission_tree validator_word =
    object (put (codes "kind") (string (codes "withdraw_commission")) (put (codes "validator") (string validator_word) no_members))

withdraw_commission_read : (f : Form) (validator_word : List ℕ) (validator : List ℕ)
    → operator_in f validator_word ≡ Some validator
    → message_of f (withdraw_commission_tree validator_word) ≡ Ok (msg.WithdrawCommission (record { validator = validator }))
unfolding message_of kind_of withdraw_commission_of
withdraw_commission_read f validator_word validator h₁ =
    let d : Data = withdraw_commission_tree validator_word in
    let m : WithdrawCommission = record { validator = validator } in
    read_one {T = Msg} (λ x. msg.WithdrawCommission x) (withdraw_commission_of f d) m
    (read_one {T = WithdrawCommission} (λ x. record { validator = x }) _ validator
    (member_read (spelled_by (operator_in f)) 94 (codes "validator") d (string validator_word) validator refl h₁))

pub withdraw_commission_is_compact : {text a₁ z₁ rest : List ℕ} (f : Form) (validator_bytes validator : List ℕ)
    → Some validator ≡ user_from validator_bytes
    → text ≡ codes "{\"kind\":\"withdraw_commission\",\"validator\":" ++ a₁ → IsSpelled (bytes_in f operator_prefix) a₁ validator_bytes z₁
    → z₁ ≡ codes "}" ++ rest
    → IsCompact (message_of f) 3 text (msg.WithdrawCommission (record { validator = validator })) rest
unfolding escape_byte
withdraw_commission_is_compact f validator_bytes validator is_validator e₁ b₁ e₂ = record {
  tree = withdraw_commission_tree b₁.word;
  begins = object_begins e₁
      (one_more_member (codes "kind") refl refl (deeper (omega arith) (string_begins (codes "withdraw_commission") refl refl refl))
      (one_more_member (codes "validator") refl refl (deeper (omega arith) b₁.begins)
      (no_more_members e₂)));
  reads = withdraw_commission_read f b₁.word validator
      (user_read f operator_prefix b₁.word validator_bytes validator b₁.spells is_validator);
}
