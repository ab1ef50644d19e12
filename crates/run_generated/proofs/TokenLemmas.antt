-- What a writer has written after one part of an object after another.
use Rattle.std.proofs.Common.{◌≡◌, ◌∙◌, ap, sym, refl, ℕ, List, [], ◌∷◌, ◌++◌, append_assoc, append-nil, codes}
use Rattle.json.specs.Token.{Token, begin_object, end_object, key}
use Rattle.serde_json.specs.Data.{Data, string, member, no_members}
use Rattle.line_json.specs.{Told.data_tokens, Values.{count_data, moment_data, user_data}}
use Rattle.base_bech32.specs.declared.form.Form.{Form}
use Rattle.base_roles.specs.declared.messages.{Evidence.Evidence, Vote.Vote}
use Rattle.base_messages.specs.declared.{block.{Block.Block, Tx.Tx}, genesis.Genesis.Genesis}
use Rattle.base_messages.specs.declared.genesis.{GenesisAccount.GenesisAccount, GenesisDelegation.GenesisDelegation}
use Rattle.base_messages.specs.declared.{genesis.GenesisValidator.GenesisValidator, message.UpdateParams.UpdateParams}
use Rattle.base_messages.specs.declared.message.Msg.TheVariants as msg
use Rattle.run_generated.specs.Lines.{block_data, delegation_data, evidence_data, genesis_data, holder_data, list_data, member_tokens, message_data, params_data, tx_data, validator_data, vote_data}

-- a part was written
grown : (old new part rest whole : List Token) → new ≡ old ++ part → old ++ (part ++ rest) ≡ whole → new ++ rest ≡ whole
grown old new part rest whole e before = ap (λ ts. ts ++ rest) e ∙ append_assoc old part rest ∙ before

-- all was
all_told : (new whole : List Token) → new ++ [] ≡ whole → new ≡ whole
all_told new whole e = sym (append-nil new) ∙ e

-- a member that is an array
abbrev list_told : {A : Type 0} → List ℕ → (A → Data) → List A → List Token
list_told name form xs = key name ∷ data_tokens (list_data form xs)

-- a list was written
list_grown : {A : Type 0} (name : List ℕ) (form : A → Data) (xs ys : List A) (old new rest whole : List Token) → new ≡ old ++ list_told name form xs → xs ≡ ys
    → old ++ (list_told name form ys ++ rest) ≡ whole → new ++ rest ≡ whole
list_grown name form xs ys old new rest whole e same before = grown old new (list_told name form ys) rest whole (e ∙ ap (λ zs. old ++ list_told name form zs) same) before

-- one member was written
one_grown : (name : List ℕ) (d : Data) (old new rest whole : List Token) → new ≡ old ++ member_tokens (member name d no_members)
    → old ++ ((key name ∷ data_tokens d) ++ rest) ≡ whole → new ++ rest ≡ whole
one_grown name d old new rest whole e before = grown old new (key name ∷ data_tokens d) rest whole (e ∙ ap (λ ts. old ++ key name ∷ ts) (append-nil (data_tokens d))) before

abbrev end : List Token
end = end_object ∷ []

-- ---- a block

abbrev votes_on : Form → Block → List Token
votes_on f b = list_told (codes "votes") (vote_data f) b.votes ++ end

abbrev txs_on : Form → Block → List Token
txs_on f b = list_told (codes "txs") (tx_data f) b.txs ++ votes_on f b

abbrev time_on : Form → Block → List Token
time_on f b = (key (codes "time") ∷ data_tokens (moment_data b.time)) ++ txs_on f b

abbrev kind_on : Form → Block → List Token
kind_on f b = (key (codes "kind") ∷ data_tokens (string (codes "block"))) ++ time_on f b

abbrev count_on : Form → Block → List Token
count_on f b = data_tokens (count_data b.height) ++ kind_on f b

abbrev height_on : Form → Block → List Token
height_on f b = (key (codes "height") ∷ []) ++ count_on f b

abbrev evidence_on : Form → Block → List Token
evidence_on f b = list_told (codes "evidence") (evidence_data f) b.evidence ++ height_on f b

pub block_told : (f : Form) (b : Block) (evidence : List Evidence) (txs : List Tx) (votes : List Vote) (old t0 t1 t2 t3 t4 t5 t6 t7 t8 : List Token)
    → evidence ≡ b.evidence → txs ≡ b.txs → votes ≡ b.votes
    → t0 ≡ old ++ begin_object ∷ []
    → t1 ≡ t0 ++ list_told (codes "evidence") (evidence_data f) evidence
    → t2 ≡ t1 ++ key (codes "height") ∷ []
    → t3 ≡ t2 ++ data_tokens (count_data b.height)
    → t4 ≡ t3 ++ key (codes "kind") ∷ data_tokens (string (codes "block"))
    → t5 ≡ t4 ++ member_tokens (member (codes "time") (moment_data b.time) no_members)
    → t6 ≡ t5 ++ list_told (codes "txs") (tx_data f) txs
    → t7 ≡ t6 ++ list_told (codes "votes") (vote_data f) votes
    → t8 ≡ t7 ++ end
    → t8 ≡ old ++ data_tokens (block_data f b)
block_told f b evidence txs votes old t0 t1 t2 t3 t4 t5 t6 t7 t8 of_evidence of_txs of_votes e0 e1 e2 e3 e4 e5 e6 e7 e8 =
    let whole = old ++ data_tokens (block_data f b) in
    let s0 : t0 ++ evidence_on f b ≡ whole = grown old t0 (begin_object ∷ []) (evidence_on f b) whole e0 refl in
    let s1 : t1 ++ height_on f b ≡ whole = list_grown (codes "evidence") (evidence_data f) evidence b.evidence t0 t1 (height_on f b) whole e1 of_evidence s0 in
    let s2 : t2 ++ count_on f b ≡ whole = grown t1 t2 (key (codes "height") ∷ []) (count_on f b) whole e2 s1 in
    let s3 : t3 ++ kind_on f b ≡ whole = grown t2 t3 (data_tokens (count_data b.height)) (kind_on f b) whole e3 s2 in
    let s4 : t4 ++ time_on f b ≡ whole = grown t3 t4 (key (codes "kind") ∷ data_tokens (string (codes "block"))) (time_on f b) whole e4 s3 in
    let s5 : t5 ++ txs_on f b ≡ whole = one_grown (codes "time") (moment_data b.time) t4 t5 (txs_on f b) whole e5 s4 in
    let s6 : t6 ++ votes_on f b ≡ whole = list_grown (codes "txs") (tx_data f) txs b.txs t5 t6 (votes_on f b) whole e6 of_txs s5 in
    let s7 : t7 ++ end ≡ whole = list_grown (codes "votes") (vote_data f) votes b.votes t6 t7 end whole e7 of_votes s6 in
    all_told t8 whole (grown t7 t8 end [] whole e8 s7)

-- ---- a genesis

abbrev validators_on : Form → Genesis → List Token
validators_on f g = list_told (codes "validators") (validator_data f) g.validators ++ end

abbrev start_on : Form → Genesis → List Token
start_on f g = (key (codes "time") ∷ data_tokens (moment_data g.time)) ++ validators_on f g

abbrev values_on : Form → Genesis → List Token
values_on f g = data_tokens (params_data f g.params) ++ start_on f g

abbrev params_on : Form → Genesis → List Token
params_on f g = (key (codes "params") ∷ []) ++ values_on f g

abbrev sort_on : Form → Genesis → List Token
sort_on f g = (key (codes "kind") ∷ data_tokens (string (codes "genesis"))) ++ params_on f g

abbrev delegations_on : Form → Genesis → List Token
delegations_on f g = list_told (codes "delegations") (delegation_data f) g.delegations ++ sort_on f g

abbrev accounts_on : Form → Genesis → List Token
accounts_on f g = list_told (codes "accounts") (holder_data f) g.accounts ++ delegations_on f g

pub genesis_told : (f : Form) (g : Genesis) (accounts : List GenesisAccount) (delegations : List GenesisDelegation) (validators : List GenesisValidator) (old t0 t1 t2 t3 t4 t5 t6 t7 t8 : List Token)
    → accounts ≡ g.accounts → delegations ≡ g.delegations → validators ≡ g.validators
    → t0 ≡ old ++ begin_object ∷ []
    → t1 ≡ t0 ++ list_told (codes "accounts") (holder_data f) accounts
    → t2 ≡ t1 ++ list_told (codes "delegations") (delegation_data f) delegations
    → t3 ≡ t2 ++ key (codes "kind") ∷ data_tokens (string (codes "genesis"))
    → t4 ≡ t3 ++ key (codes "params") ∷ []
    → t5 ≡ t4 ++ data_tokens (params_data f g.params)
    → t6 ≡ t5 ++ member_tokens (member (codes "time") (moment_data g.time) no_members)
    → t7 ≡ t6 ++ list_told (codes "validators") (validator_data f) validators
    → t8 ≡ t7 ++ end
    → t8 ≡ old ++ data_tokens (genesis_data f g)
genesis_told f g accounts delegations validators old t0 t1 t2 t3 t4 t5 t6 t7 t8 a d v e0 e1 e2 e3 e4 e5 e6 e7 e8 =
    let whole = old ++ data_tokens (genesis_data f g) in
    let s0 : t0 ++ accounts_on f g ≡ whole = grown old t0 (begin_object ∷ []) (accounts_on f g) whole e0 refl in
    let s1 : t1 ++ delegations_on f g ≡ whole = list_grown (codes "accounts") (holder_data f) accounts g.accounts t0 t1 (delegations_on f g) whole e1 a s0 in
    let s2 : t2 ++ sort_on f g ≡ whole = list_grown (codes "delegations") (delegation_data f) delegations g.delegations t1 t2 (sort_on f g) whole e2 d s1 in
    let s3 : t3 ++ params_on f g ≡ whole = grown t2 t3 (key (codes "kind") ∷ data_tokens (string (codes "genesis"))) (params_on f g) whole e3 s2 in
    let s4 : t4 ++ values_on f g ≡ whole = grown t3 t4 (key (codes "params") ∷ []) (values_on f g) whole e4 s3 in
    let s5 : t5 ++ start_on f g ≡ whole = grown t4 t5 (data_tokens (params_data f g.params)) (start_on f g) whole e5 s4 in
    let s6 : t6 ++ validators_on f g ≡ whole = one_grown (codes "time") (moment_data g.time) t5 t6 (validators_on f g) whole e6 s5 in
    let s7 : t7 ++ end ≡ whole = list_grown (codes "validators") (validator_data f) validators g.validators t6 t7 end whole e7 v s6 in
    all_told t8 whole (grown t7 t8 end [] whole e8 s7)

-- ---- a message that replaces the parameters

abbrev replaced_on : Form → UpdateParams → List Token
replaced_on f m = data_tokens (params_data f m.params) ++ end

abbrev replacing_on : Form → UpdateParams → List Token
replacing_on f m = (key (codes "params") ∷ []) ++ replaced_on f m

abbrev sender_told : Form → UpdateParams → List Token
sender_told f m = member_tokens (member (codes "authority") (user_data f m.authority) (member (codes "kind") (string (codes "update_params")) no_members))

pub update_told : (f : Form) (m : UpdateParams) (old t0 t1 t2 t3 t4 : List Token)
    → t0 ≡ old ++ begin_object ∷ []
    → t1 ≡ t0 ++ sender_told f m
    → t2 ≡ t1 ++ key (codes "params") ∷ []
    → t3 ≡ t2 ++ data_tokens (params_data f m.params)
    → t4 ≡ t3 ++ end
    → t4 ≡ old ++ data_tokens (message_data f (msg.UpdateParams m))
update_told f m old t0 t1 t2 t3 t4 e0 e1 e2 e3 e4 =
    let whole = old ++ data_tokens (message_data f (msg.UpdateParams m)) in
    let s0 : t0 ++ (sender_told f m ++ replacing_on f m) ≡ whole = grown old t0 (begin_object ∷ []) (sender_told f m ++ replacing_on f m) whole e0 refl in
    let s1 : t1 ++ replacing_on f m ≡ whole = grown t0 t1 (sender_told f m) (replacing_on f m) whole e1 s0 in
    let s2 : t2 ++ replaced_on f m ≡ whole = grown t1 t2 (key (codes "params") ∷ []) (replaced_on f m) whole e2 s1 in
    let s3 : t3 ++ end ≡ whole = grown t2 t3 (data_tokens (params_data f m.params)) end whole e3 s2 in
    all_told t4 whole (grown t3 t4 end [] whole e4 s3)
