-- Compact texts of votes, evidence, transactions and blocks.
use Rattle.std.proofs.Common.{◌≡◌, ◌∙◌, ap, sym, subst, refl, arith, ℕ, ◌^◌, ◌<◌, List, [], ◌++◌, Bool, Some, Ok, codes}
use Rattle.json.specs.Print.{escape_byte}
use Rattle.serde_json.specs.Data.{Data, Items, boolean, number, unsigned, string, array, object, no_members, put}
use Rattle.serde_json.specs.Find.{as_bool}
use Rattle.base_types.specs.{Modules.user_from, Moment.moment_of}
use Rattle.base_bech32.specs.declared.form.Form.{Form}
use Rattle.base_coins.specs.{declared.coin.Coin.Coin, Coins.Money, Steps.{◌>>=◌}}
use Rattle.base_roles.specs.declared.messages.{Evidence.Evidence, Vote.Vote}
use Rattle.base_messages.specs.declared.{message.Msg.Msg, block.{Block.Block, Tx.Tx}}
use Rattle.line_compact.specs.Begins.{Begins, IsSpelled}
use Rattle.line_compact.proofs.BeginLemmas.{deeper, no_more_members, object_begins, one_more_member, string_begins, whole_is_read}
use Rattle.line_json.specs.Addresses.{account_prefix, bytes_in, cons_in, cons_prefix, user_in}
use Rattle.line_json.specs.{Block.{block_of, block_of_tree, evidence_of, tx_of, vote_of}, Coin.{coin_of, coins_at}}
use Rattle.line_json.specs.{Compact.{IsCompact, IsCompactList, IsMoneyOf}, Members.{number_in, spelled_by}}
use Rattle.line_json.specs.{Messages.message_of, Nested.each_element}
use Rattle.line_json.proofs.BackLemmas.{member_read, read_three, read_four, read_five}
use Rattle.line_json.proofs.{CompactLemmas.{coins_read, list_read, number_read, user_read}, ReadingLemmas.tree_found}

-- ---- votes

pub vote_is_compact : {text a₁ z₁ a₂ z₂ a₃ z₃ rest : List ℕ} (f : Form) (bytes cons : List ℕ) (power : ℕ) (signed : Bool) → cons ≡ bytes → power < 2 ^ 63
    → text ≡ codes "{\"cons\":" ++ a₁ → IsSpelled (bytes_in f cons_prefix) a₁ bytes z₁
    → z₁ ≡ codes ",\"power\":" ++ a₂ → Begins 0 a₂ (number (unsigned power)) z₂
    → z₂ ≡ codes ",\"signed\":" ++ a₃ → Begins 0 a₃ (boolean signed) z₃
    → z₃ ≡ codes "}" ++ rest
    → IsCompact (vote_of f) 1 text (record { cons = cons; power = power; signed = signed }) rest
unfolding escape_byte vote_of
vote_is_compact f bytes cons power signed is small e₁ b₁ e₂ b₂ e₃ b₃ e₄ =
    let d : Data = object (put (codes "cons") (string b₁.word) (put (codes "power") (number (unsigned power)) (put (codes "signed") (boolean signed) no_members))) in
    record {
      tree = d;
      begins = object_begins e₁
          (one_more_member (codes "cons") refl refl b₁.begins
          (one_more_member (codes "power") refl e₂ b₂
          (one_more_member (codes "signed") refl e₃ b₃
          (no_more_members e₄))));
      reads = read_three {T = Vote} (λ x y z. record { cons = x; power = y; signed = z }) _ cons _ power _ signed
          (member_read (spelled_by (cons_in f)) 70 (codes "cons") d (string b₁.word) cons refl (b₁.spells ∙ ap Some (sym is)))
          (member_read number_in 71 (codes "power") d (number (unsigned power)) power refl (number_read power small))
          (member_read as_bool 72 (codes "signed") d (boolean signed) signed refl refl);
    }

-- ---- evidence

abbrev evidence_tree : List ℕ → ℕ → List ℕ → ℕ → Data
evidence_tree cons height moment power =
    object (put (codes "cons") (string cons) (put (codes "height") (number (unsigned height)) (put (codes "power") (number (unsigned power)) (put (codes "time") (string moment) no_members))))

evidence_read : (f : Form) (word cons : List ℕ) (height : ℕ) (moment : List ℕ) (time power : ℕ) → cons_in f word ≡ Some cons → height < 2 ^ 63 → moment_of moment ≡ Some time → power < 2 ^ 63
    → evidence_of f (evidence_tree word height moment power) ≡ Ok (record { cons = cons; height = height; time = time; power = power })
unfolding evidence_of
evidence_read f word cons height moment time power h low m small =
    let d : Data = evidence_tree word height moment power in
    read_four {T = Evidence} (λ x y z o. record { cons = x; height = y; time = z; power = o }) _ cons _ height _ time _ power
    (member_read (spelled_by (cons_in f)) 73 (codes "cons") d (string word) cons refl h)
    (member_read number_in 74 (codes "height") d (number (unsigned height)) height refl (number_read height low))
    (member_read (spelled_by moment_of) 75 (codes "time") d (string moment) time refl m)
    (member_read number_in 76 (codes "power") d (number (unsigned power)) power refl (number_read power small))

pub evidence_is_compact : {text a₁ z₁ a₂ z₂ a₃ z₃ a₄ z₄ rest : List ℕ} (f : Form) (bytes cons : List ℕ) (height : ℕ) (moment : List ℕ) (time power : ℕ)
    → cons ≡ bytes → height < 2 ^ 63 → moment_of moment ≡ Some time → power < 2 ^ 63
    → text ≡ codes "{\"cons\":" ++ a₁ → IsSpelled (bytes_in f cons_prefix) a₁ bytes z₁
    → z₁ ≡ codes ",\"height\":" ++ a₂ → Begins 0 a₂ (number (unsigned height)) z₂
    → z₂ ≡ codes ",\"time\":" ++ a₃ → Begins 0 a₃ (string moment) z₃
    → z₃ ≡ codes ",\"power\":" ++ a₄ → Begins 0 a₄ (number (unsigned power)) z₄
    → z₄ ≡ codes "}" ++ rest
    → IsCompact (evidence_of f) 1 text (record { cons = cons; height = height; time = time; power = power }) rest
unfolding escape_byte
evidence_is_compact f bytes cons height moment time power is low m small e₁ b₁ e₂ b₂ e₃ b₃ e₄ b₄ e₅ = record {
  tree = evidence_tree b₁.word height moment power;
  begins = object_begins e₁
      (one_more_member (codes "cons") refl refl b₁.begins
      (one_more_member (codes "height") refl e₂ b₂
      (one_more_member (codes "time") refl e₃ b₃
      (one_more_member (codes "power") refl e₄ b₄
      (no_more_members e₅)))));
  reads = evidence_read f b₁.word cons height moment time power (b₁.spells ∙ ap Some (sym is)) low m small;
}

pub evidence_is_compact_by_name : {text a₁ z₁ a₂ z₂ a₃ z₃ a₄ z₄ rest : List ℕ} (f : Form) (bytes cons : List ℕ) (height : ℕ) (moment : List ℕ) (time power : ℕ)
    → cons ≡ bytes → height < 2 ^ 63 → moment_of moment ≡ Some time → power < 2 ^ 63
    → text ≡ codes "{\"cons\":" ++ a₁ → IsSpelled (bytes_in f cons_prefix) a₁ bytes z₁
    → z₁ ≡ codes ",\"height\":" ++ a₂ → Begins 0 a₂ (number (unsigned height)) z₂
    → z₂ ≡ codes ",\"power\":" ++ a₃ → Begins 0 a₃ (number (unsigned power)) z₃
    → z₃ ≡ codes ",\"time\":" ++ a₄ → Begins 0 a₄ (string moment) z₄
    → z₄ ≡ codes "}" ++ rest
    → IsCompact (evidence_of f) 1 text (record { cons = cons; height = height; time = time; power = power }) rest
unfolding escape_byte
evidence_is_compact_by_name f bytes cons height moment time power is low m small e₁ b₁ e₂ b₂ e₃ b₃ e₄ b₄ e₅ = record {
  tree = evidence_tree b₁.word height moment power;
  begins = object_begins e₁
      (one_more_member (codes "cons") refl refl b₁.begins
      (one_more_member (codes "height") refl e₂ b₂
      (one_more_member (codes "power") refl e₃ b₃
      (one_more_member (codes "time") refl e₄ b₄
      (no_more_members e₅)))));
  reads = evidence_read f b₁.word cons height moment time power (b₁.spells ∙ ap Some (sym is)) low m small;
}

-- ---- transactions

abbrev tx_tree : List ℕ → Items → Items → Data
tx_tree payer fee msgs =
    object (put (codes "fee") (array fee) (put (codes "msgs") (array msgs) (put (codes "payer") (string payer) no_members)))

tx_read : (f : Form) (word : List ℕ) (parts elements : Items) (payer : List ℕ) (fee : Money) (msgs : List Msg)
    → user_in f word ≡ Some payer → coins_at 81 (codes "fee") (tx_tree word parts elements) ≡ Ok fee → each_element (message_of f) elements ≡ Ok msgs
    → tx_of f (tx_tree word parts elements) ≡ Ok (record { payer = payer; fee = fee; msgs = msgs })
unfolding tx_of
tx_read f word parts elements payer fee msgs h₁ h₂ h₃ =
    let d : Data = tx_tree word parts elements in
    read_three {T = Tx} (λ x y z. record { payer = x; fee = y; msgs = z }) _ payer _ fee _ msgs
    (member_read (spelled_by (user_in f)) 80 (codes "payer") d (string word) payer refl h₁)
    h₂
    (list_read (message_of f) 82 (codes "msgs") d elements msgs refl h₃)

pub tx_is_compact : {text a₁ z₁ a₂ z₂ a₃ z₃ rest : List ℕ} (f : Form) (bytes payer : List ℕ) (parts : List Coin) (fee : Money) (msgs : List Msg)
    → Some payer ≡ user_from bytes → IsMoneyOf parts fee
    → text ≡ codes "{\"payer\":" ++ a₁ → IsSpelled (bytes_in f account_prefix) a₁ bytes z₁
    → z₁ ≡ codes ",\"fee\":" ++ a₂ → IsCompactList coin_of 1 a₂ parts z₂
    → z₂ ≡ codes ",\"msgs\":" ++ a₃ → IsCompactList (message_of f) 3 a₃ msgs z₃
    → z₃ ≡ codes "}" ++ rest
    → IsCompact (tx_of f) 5 text (record { payer = payer; fee = fee; msgs = msgs }) rest
unfolding escape_byte
tx_is_compact f bytes payer parts fee msgs is ism e₁ b₁ e₂ b₂ e₃ b₃ e₄ = record {
  tree = tx_tree b₁.word b₂.elements b₃.elements;
  begins = object_begins e₁
      (one_more_member (codes "payer") refl refl (deeper (omega arith) b₁.begins)
      (one_more_member (codes "fee") refl e₂ (deeper (omega arith) b₂.begins)
      (one_more_member (codes "msgs") refl e₃ b₃.begins
      (no_more_members e₄))));
  reads = tx_read f b₁.word b₂.elements b₃.elements payer fee msgs
      (user_read f account_prefix b₁.word bytes payer b₁.spells is) (coins_read 81 (codes "fee") _ fee b₂ ism refl) b₃.reads;
}

pub tx_is_compact_by_name : {text a₁ z₁ a₂ z₂ a₃ z₃ rest : List ℕ} (f : Form) (bytes payer : List ℕ) (parts : List Coin) (fee : Money) (msgs : List Msg)
    → Some payer ≡ user_from bytes → IsMoneyOf parts fee
    → text ≡ codes "{\"fee\":" ++ a₁ → IsCompactList coin_of 1 a₁ parts z₁
    → z₁ ≡ codes ",\"msgs\":" ++ a₂ → IsCompactList (message_of f) 3 a₂ msgs z₂
    → z₂ ≡ codes ",\"payer\":" ++ a₃ → IsSpelled (bytes_in f account_prefix) a₃ bytes z₃
    → z₃ ≡ codes "}" ++ rest
    → IsCompact (tx_of f) 5 text (record { payer = payer; fee = fee; msgs = msgs }) rest
unfolding escape_byte
tx_is_compact_by_name f bytes payer parts fee msgs is ism e₁ b₁ e₂ b₂ e₃ b₃ e₄ = record {
  tree = tx_tree b₃.word b₁.elements b₂.elements;
  begins = object_begins e₁
      (one_more_member (codes "fee") refl refl (deeper (omega arith) b₁.begins)
      (one_more_member (codes "msgs") refl e₂ b₂.begins
      (one_more_member (codes "payer") refl e₃ (deeper (omega arith) b₃.begins)
      (no_more_members e₄))));
  reads = tx_read f b₃.word b₁.elements b₂.elements payer fee msgs
      (user_read f account_prefix b₃.word bytes payer b₃.spells is) (coins_read 81 (codes "fee") _ fee b₁ ism refl) b₂.reads;
}

-- ---- blocks

abbrev block_tree : ℕ → List ℕ → Items → Items → Items → Data
block_tree height moment votes evidence txs =
    object (put (codes "evidence") (array evidence) (put (codes "height") (number (unsigned height)) (put (codes "kind") (string (codes "block")) (put (codes "time") (string moment)
    (put (codes "txs") (array txs) (put (codes "votes") (array votes) no_members))))))

-- a whole line, whose tree has these elements
block_read : (f : Form) (line : List ℕ) (height : ℕ) (moment : List ℕ) (time : ℕ) (vs es ts : Items) (votes : List Vote) (evidence : List Evidence) (txs : List Tx)
    → height < 2 ^ 63 → moment_of moment ≡ Some time → each_element (vote_of f) vs ≡ Ok votes → each_element (evidence_of f) es ≡ Ok evidence → each_element (tx_of f) ts ≡ Ok txs
    → Begins 7 line (block_tree height moment vs es ts) []
    → block_of f line ≡ Ok (record { height = height; time = time; votes = votes; evidence = evidence; txs = txs })
unfolding block_of block_of_tree
block_read f line height moment time vs es ts votes evidence txs small m h₃ h₄ h₅ begins =
    let d : Data = block_tree height moment vs es ts in
    let whole = whole_is_read line d (deeper (omega arith) begins) in
    ap (λ r. r >>= block_of_tree f) (tree_found line d whole.1 whole.0)
    ∙ read_five {T = Block} (λ x y z o w. record { height = x; time = y; votes = z; evidence = o; txs = w }) _ height _ time _ votes _ evidence _ txs
    (member_read number_in 61 (codes "height") d (number (unsigned height)) height refl (number_read height small))
    (member_read (spelled_by moment_of) 62 (codes "time") d (string moment) time refl m)
    (list_read (vote_of f) 63 (codes "votes") d vs votes refl h₃)
    (list_read (evidence_of f) 64 (codes "evidence") d es evidence refl h₄)
    (list_read (tx_of f) 65 (codes "txs") d ts txs refl h₅)

pub block_is_compact : {line a₁ z₁ a₂ z₂ a₃ z₃ a₄ z₄ a₅ z₅ rest : List ℕ} (f : Form) (height : ℕ) (moment : List ℕ) (time : ℕ) (votes : List Vote) (evidence : List Evidence) (txs : List Tx)
    → height < 2 ^ 63 → moment_of moment ≡ Some time
    → line ≡ codes "{\"kind\":\"block\",\"height\":" ++ a₁ → Begins 0 a₁ (number (unsigned height)) z₁
    → z₁ ≡ codes ",\"time\":" ++ a₂ → Begins 0 a₂ (string moment) z₂
    → z₂ ≡ codes ",\"votes\":" ++ a₃ → IsCompactList (vote_of f) 1 a₃ votes z₃
    → z₃ ≡ codes ",\"evidence\":" ++ a₄ → IsCompactList (evidence_of f) 1 a₄ evidence z₄
    → z₄ ≡ codes ",\"txs\":" ++ a₅ → IsCompactList (tx_of f) 5 a₅ txs z₅
    → z₅ ≡ codes "}" ++ rest → rest ≡ []
    → block_of f line ≡ Ok (record { height = height; time = time; votes = votes; evidence = evidence; txs = txs })
unfolding escape_byte
block_is_compact {line} f height moment time votes evidence txs small m e₁ b₁ e₂ b₂ e₃ b₃ e₄ b₄ e₅ b₅ e₆ nothing =
    block_read f line height moment time b₃.elements b₄.elements b₅.elements votes evidence txs small m b₃.reads b₄.reads b₅.reads
    (subst (λ rest. Begins 7 line (block_tree height moment b₃.elements b₄.elements b₅.elements) rest) nothing
    (object_begins e₁
    (one_more_member (codes "kind") refl refl (deeper (omega arith) (string_begins (codes "block") refl refl refl))
    (one_more_member (codes "height") refl refl (deeper (omega arith) b₁)
    (one_more_member (codes "time") refl e₂ (deeper (omega arith) b₂)
    (one_more_member (codes "votes") refl e₃ (deeper (omega arith) b₃.begins)
    (one_more_member (codes "evidence") refl e₄ (deeper (omega arith) b₄.begins)
    (one_more_member (codes "txs") refl e₅ b₅.begins
    (no_more_members e₆)))))))))

pub block_is_compact_by_name : {line a₁ z₁ a₂ z₂ a₃ z₃ a₄ z₄ a₅ z₅ rest : List ℕ} (f : Form) (height : ℕ) (moment : List ℕ) (time : ℕ) (votes : List Vote) (evidence : List Evidence) (txs : List Tx)
    → height < 2 ^ 63 → moment_of moment ≡ Some time
    → line ≡ codes "{\"evidence\":" ++ a₁ → IsCompactList (evidence_of f) 1 a₁ evidence z₁
    → z₁ ≡ codes ",\"height\":" ++ a₂ → Begins 0 a₂ (number (unsigned height)) z₂
    → z₂ ≡ codes ",\"kind\":\"block\",\"time\":" ++ a₃ → Begins 0 a₃ (string moment) z₃
    → z₃ ≡ codes ",\"txs\":" ++ a₄ → IsCompactList (tx_of f) 5 a₄ txs z₄
    → z₄ ≡ codes ",\"votes\":" ++ a₅ → IsCompactList (vote_of f) 1 a₅ votes z₅
    → z₅ ≡ codes "}" ++ rest → rest ≡ []
    → block_of f line ≡ Ok (record { height = height; time = time; votes = votes; evidence = evidence; txs = txs })
unfolding escape_byte
block_is_compact_by_name {line} f height moment time votes evidence txs small m e₁ b₁ e₂ b₂ e₃ b₃ e₄ b₄ e₅ b₅ e₆ nothing =
    block_read f line height moment time b₅.elements b₁.elements b₄.elements votes evidence txs small m b₅.reads b₁.reads b₄.reads
    (subst (λ rest. Begins 7 line (block_tree height moment b₅.elements b₁.elements b₄.elements) rest) nothing
    (object_begins e₁
    (one_more_member (codes "evidence") refl refl (deeper (omega arith) b₁.begins)
    (one_more_member (codes "height") refl e₂ (deeper (omega arith) b₂)
    (one_more_member (codes "kind") refl e₃ (deeper (omega arith) (string_begins (codes "block") refl refl refl))
    (one_more_member (codes "time") refl refl (deeper (omega arith) b₃)
    (one_more_member (codes "txs") refl e₄ b₄.begins
    (one_more_member (codes "votes") refl e₅ (deeper (omega arith) b₅.begins)
    (no_more_members e₆)))))))))
