-- The line of each kind of fact is read as the fact.
use Rattle.std.proofs.Common.{◌≡◌, ℕ, ◌^◌, ◌<◌, List, Some, Option, option_map, refl, ap, ◌∙◌, arith}
use Rattle.serde_json.specs.{Data.Data, Read.max_depth, Written.compact_text}
use Rattle.base_types.specs.declared.{account.{Account.Account, Module.Module}, status.BondStatus.BondStatus}
use Rattle.base_types.specs.Maybe.{◌>>=◌}
use Rattle.base_bech32.specs.declared.form.Form.{Form}
use Rattle.base_coins.specs.{Coins.Money, declared.coin.Coin.Coin}
use Rattle.base_roles.specs.declared.facts.Fact.{Fact}
use Rattle.base_roles.specs.declared.facts.Fact.TheVariants as fact
use Rattle.line_json.specs.{Facts.fact_data, Members.as_count, Values.count_data}
use Rattle.line_json.proofs.BackLemmas.{amount_is_read, denom_is_read}
use Rattle.line_json.proofs.WrittenLemmas.{IsPlain, count, decimals, deeper, end, more, read_written, text, whole, whole_object}
use Rattle.law_lines.specs.Ranges.{IsCount, IsFact}
use Rattle.law_lines.specs.Reading.{allocated_of, burn_of, changed_of, commission_of, fact_in, of_validator, paid_of, params_changed_of, period_of, pooled_of, slashed_of, started_of, told_by, transfer_of}
use Rattle.law_lines.proofs.ValueLemmas.{account_is_read, coins_are_read, dec_coins_are_read, decimal_is_read, module_is_read, operator_is_read, status_is_read, user_is_read}

-- ---- members, one after another

with_one : {A B : Type 0} (g : A → B) (o : Option A) (a : A) → o ≡ Some a → (o >>= (λ x. Some (g x))) ≡ Some (g a)
with_one g o a h = ap (λ p. p >>= (λ x. Some (g x))) h

with_two : {A B C : Type 0} (g : A → B → C) (o : Option A) (a : A) (p : Option B) (b : B) → o ≡ Some a → p ≡ Some b
    → (o >>= (λ x. p >>= (λ y. Some (g x y)))) ≡ Some (g a b)
with_two g o a p b h k = ap (λ q. q >>= (λ x. p >>= (λ y. Some (g x y)))) h ∙ with_one (g a) p b k

with_three : {A B C D : Type 0} (g : A → B → C → D) (o : Option A) (a : A) (p : Option B) (b : B) (q : Option C) (c : C) → o ≡ Some a → p ≡ Some b → q ≡ Some c
    → (o >>= (λ x. p >>= (λ y. q >>= (λ z. Some (g x y z))))) ≡ Some (g a b c)
with_three g o a p b q c h k l = ap (λ s. s >>= (λ x. p >>= (λ y. q >>= (λ z. Some (g x y z))))) h ∙ with_two (g a) p b q c k l

with_four : {A B C D E : Type 0} (g : A → B → C → D → E) (o : Option A) (a : A) (p : Option B) (b : B) (q : Option C) (c : C) (r : Option D) (d : D)
    → o ≡ Some a → p ≡ Some b → q ≡ Some c → r ≡ Some d
    → (o >>= (λ x. p >>= (λ y. q >>= (λ z. r >>= (λ w. Some (g x y z w)))))) ≡ Some (g a b c d)
with_four g o a p b q c r d h k l m = ap (λ s. s >>= (λ x. p >>= (λ y. q >>= (λ z. r >>= (λ w. Some (g x y z w)))))) h ∙ with_three (g a) p b q c r d k l m

with_five : {A B C D E F : Type 0} (g : A → B → C → D → E → F) (o : Option A) (a : A) (p : Option B) (b : B) (q : Option C) (c : C) (r : Option D) (d : D) (t : Option E) (e : E)
    → o ≡ Some a → p ≡ Some b → q ≡ Some c → r ≡ Some d → t ≡ Some e
    → (o >>= (λ x. p >>= (λ y. q >>= (λ z. r >>= (λ w. t >>= (λ v. Some (g x y z w v))))))) ≡ Some (g a b c d e)
with_five g o a p b q c r d t e h k l m n =
    ap (λ s. s >>= (λ x. p >>= (λ y. q >>= (λ z. r >>= (λ w. t >>= (λ v. Some (g x y z w v))))))) h ∙ with_four (g a) p b q c r d t e k l m n

count_is_read : (n : ℕ) → as_count (count_data n) ≡ Some n
count_is_read n = refl

-- a fact that was found, with its height
abbrev at_height : ℕ → Option Fact → Option (ℕ × Fact)
at_height h found = found >>= (λ told. Some (h, told))

-- what the tree of a line tells, the line tells
pub read_as : (f : Form) (d : Data) (o : Option (ℕ × Fact)) → IsPlain 3 d → told_by f d ≡ o → fact_in f (compact_text d) ≡ o
read_as f d o plain told = ap (λ t. t >>= told_by f) (read_written d (deeper 3 max_depth d (omega arith) plain)) ∙ told

-- ---- each kind

transfer_is_read : (f : Form) (h : ℕ) (from to : Account) (coins : Money) → IsFact (fact.Transfer from to coins) → transfer_of f (fact_data f h (fact.Transfer from to coins)) ≡ Some (fact.Transfer from to coins)
transfer_is_read f h from to coins r = let e = with_three fact.Transfer _ _ _ _ _ _ (account_is_read f from r.0) (account_is_read f to r.1) (coins_are_read coins r.2) in e

transfer_is_plain : (f : Form) (h : ℕ) (from to : Account) (coins : Money) → h < 2 ^ 64 → IsPlain 3 (fact_data f h (fact.Transfer from to coins))
transfer_is_plain f h from to coins few = whole_object (more (whole coins) (more text (more (count few) (more text (more text end)))))

burn_is_read : (f : Form) (h : ℕ) (from : Module) (coin : Coin) → IsFact (fact.Burn from coin) → burn_of f (fact_data f h (fact.Burn from coin)) ≡ Some (fact.Burn from coin)
burn_is_read f h from coin r = let e = with_three (λ m denom amount. fact.Burn m (record { denom = denom; amount = amount })) _ _ _ _ _ _ (module_is_read from) (denom_is_read coin.denom r.0) (amount_is_read coin.amount r.1) in e

burn_is_plain : (f : Form) (h : ℕ) (from : Module) (coin : Coin) → h < 2 ^ 64 → IsPlain 3 (fact_data f h (fact.Burn from coin))
burn_is_plain f h from coin few = whole_object (more text (more text (more text (more (count few) (more text end)))))

allocated_is_read : (f : Form) (h : ℕ) (validator : List ℕ) (share : Money) → IsFact (fact.Allocated validator share) → allocated_of f (fact_data f h (fact.Allocated validator share)) ≡ Some (fact.Allocated validator share)
allocated_is_read f h validator share r = let e = with_two fact.Allocated _ _ _ _ (operator_is_read f validator r.0) (dec_coins_are_read share r.1) in e

allocated_is_plain : (f : Form) (h : ℕ) (validator : List ℕ) (share : Money) → h < 2 ^ 64 → IsPlain 3 (fact_data f h (fact.Allocated validator share))
allocated_is_plain f h validator share few = whole_object (more (decimals share) (more (count few) (more text (more text end))))

pooled_is_read : (f : Form) (h : ℕ) (coins : Money) → IsFact (fact.Pooled coins) → pooled_of f (fact_data f h (fact.Pooled coins)) ≡ Some (fact.Pooled coins)
pooled_is_read f h coins r = let e = with_one fact.Pooled _ _ (dec_coins_are_read coins r) in e

pooled_is_plain : (f : Form) (h : ℕ) (coins : Money) → h < 2 ^ 64 → IsPlain 3 (fact_data f h (fact.Pooled coins))
pooled_is_plain f h coins few = whole_object (more (decimals coins) (more (count few) (more text end)))

period_is_read : (f : Form) (h : ℕ) (validator : List ℕ) (period : ℕ) (ratio : Money) → IsFact (fact.Period validator period ratio) → period_of f (fact_data f h (fact.Period validator period ratio)) ≡ Some (fact.Period validator period ratio)
period_is_read f h validator period ratio r = let e = with_three fact.Period _ _ _ _ _ _ (operator_is_read f validator r.0) (count_is_read period) (dec_coins_are_read ratio r.2) in e

period_is_plain : (f : Form) (h : ℕ) (validator : List ℕ) (period : ℕ) (ratio : Money) → h < 2 ^ 64 → IsFact (fact.Period validator period ratio) → IsPlain 3 (fact_data f h (fact.Period validator period ratio))
period_is_plain f h validator period ratio few r = whole_object (more (count few) (more text (more (count r.1) (more (decimals ratio) (more text end)))))

started_is_read : (f : Form) (h : ℕ) (delegator validator : List ℕ) (period stake : ℕ) → IsFact (fact.Started delegator validator period stake) → started_of f (fact_data f h (fact.Started delegator validator period stake)) ≡ Some (fact.Started delegator validator period stake)
started_is_read f h delegator validator period stake r = let e = with_four fact.Started _ _ _ _ _ _ _ _ (user_is_read f delegator r.0) (operator_is_read f validator r.1) (count_is_read period) (decimal_is_read stake r.3) in e

started_is_plain : (f : Form) (h : ℕ) (delegator validator : List ℕ) (period stake : ℕ) → h < 2 ^ 64 → IsFact (fact.Started delegator validator period stake) → IsPlain 3 (fact_data f h (fact.Started delegator validator period stake))
started_is_plain f h delegator validator period stake few r = whole_object (more text (more (count few) (more text (more (count r.2) (more text (more text end))))))

slashed_is_read : (f : Form) (h : ℕ) (validator : List ℕ) (fraction burned : ℕ) → IsFact (fact.Slashed validator fraction burned) → slashed_of f (fact_data f h (fact.Slashed validator fraction burned)) ≡ Some (fact.Slashed validator fraction burned)
slashed_is_read f h validator fraction burned r = let e = with_three fact.Slashed _ _ _ _ _ _ (operator_is_read f validator r.0) (decimal_is_read fraction r.1) (amount_is_read burned r.2) in e

slashed_is_plain : (f : Form) (h : ℕ) (validator : List ℕ) (fraction burned : ℕ) → h < 2 ^ 64 → IsPlain 3 (fact_data f h (fact.Slashed validator fraction burned))
slashed_is_plain f h validator fraction burned few = whole_object (more text (more text (more (count few) (more text (more text end)))))

paid_is_read : (f : Form) (h : ℕ) (delegator validator to : List ℕ) (reward coins : Money) → IsFact (fact.Paid delegator validator to reward coins) → paid_of f (fact_data f h (fact.Paid delegator validator to reward coins)) ≡ Some (fact.Paid delegator validator to reward coins)
paid_is_read f h delegator validator to reward coins r = let e = with_five fact.Paid _ _ _ _ _ _ _ _ _ _ (user_is_read f delegator r.0) (operator_is_read f validator r.1) (user_is_read f to r.2) (dec_coins_are_read reward r.3) (coins_are_read coins r.4) in e

paid_is_plain : (f : Form) (h : ℕ) (delegator validator to : List ℕ) (reward coins : Money) → h < 2 ^ 64 → IsPlain 3 (fact_data f h (fact.Paid delegator validator to reward coins))
paid_is_plain f h delegator validator to reward coins few = whole_object (more (whole coins) (more text (more (count few) (more text (more (decimals reward) (more text (more text end)))))))

commission_is_read : (f : Form) (h : ℕ) (validator to : List ℕ) (coins : Money) → IsFact (fact.Commission validator to coins) → commission_of f (fact_data f h (fact.Commission validator to coins)) ≡ Some (fact.Commission validator to coins)
commission_is_read f h validator to coins r = let e = with_three fact.Commission _ _ _ _ _ _ (operator_is_read f validator r.0) (user_is_read f to r.1) (coins_are_read coins r.2) in e

commission_is_plain : (f : Form) (h : ℕ) (validator to : List ℕ) (coins : Money) → h < 2 ^ 64 → IsPlain 3 (fact_data f h (fact.Commission validator to coins))
commission_is_plain f h validator to coins few = whole_object (more (whole coins) (more (count few) (more text (more text (more text end)))))

changed_is_read : (f : Form) (h : ℕ) (validator : List ℕ) (status : BondStatus) → IsFact (fact.Changed validator status) → changed_of f (fact_data f h (fact.Changed validator status)) ≡ Some (fact.Changed validator status)
changed_is_read f h validator status r = let e = with_two fact.Changed _ _ _ _ (operator_is_read f validator r) (status_is_read status) in e

changed_is_plain : (f : Form) (h : ℕ) (validator : List ℕ) (status : BondStatus) → h < 2 ^ 64 → IsPlain 3 (fact_data f h (fact.Changed validator status))
changed_is_plain f h validator status few = whole_object (more (count few) (more text (more text (more text end))))

jailed_is_read : (f : Form) (h : ℕ) (validator : List ℕ) → IsFact (fact.Jailed validator) → of_validator fact.Jailed f (fact_data f h (fact.Jailed validator)) ≡ Some (fact.Jailed validator)
jailed_is_read f h validator r = let e = ap (option_map fact.Jailed) (operator_is_read f validator r) in e

jailed_is_plain : (f : Form) (h : ℕ) (validator : List ℕ) → h < 2 ^ 64 → IsPlain 3 (fact_data f h (fact.Jailed validator))
jailed_is_plain f h validator few = whole_object (more (count few) (more text (more text end)))

unjailed_is_read : (f : Form) (h : ℕ) (validator : List ℕ) → IsFact (fact.Unjailed validator) → of_validator fact.Unjailed f (fact_data f h (fact.Unjailed validator)) ≡ Some (fact.Unjailed validator)
unjailed_is_read f h validator r = let e = ap (option_map fact.Unjailed) (operator_is_read f validator r) in e

unjailed_is_plain : (f : Form) (h : ℕ) (validator : List ℕ) → h < 2 ^ 64 → IsPlain 3 (fact_data f h (fact.Unjailed validator))
unjailed_is_plain f h validator few = whole_object (more (count few) (more text (more text end)))

tombstoned_is_read : (f : Form) (h : ℕ) (validator : List ℕ) → IsFact (fact.Tombstoned validator) → of_validator fact.Tombstoned f (fact_data f h (fact.Tombstoned validator)) ≡ Some (fact.Tombstoned validator)
tombstoned_is_read f h validator r = let e = ap (option_map fact.Tombstoned) (operator_is_read f validator r) in e

tombstoned_is_plain : (f : Form) (h : ℕ) (validator : List ℕ) → h < 2 ^ 64 → IsPlain 3 (fact_data f h (fact.Tombstoned validator))
tombstoned_is_plain f h validator few = whole_object (more (count few) (more text (more text end)))

removed_is_read : (f : Form) (h : ℕ) (validator : List ℕ) → IsFact (fact.Removed validator) → of_validator fact.Removed f (fact_data f h (fact.Removed validator)) ≡ Some (fact.Removed validator)
removed_is_read f h validator r = let e = ap (option_map fact.Removed) (operator_is_read f validator r) in e

removed_is_plain : (f : Form) (h : ℕ) (validator : List ℕ) → h < 2 ^ 64 → IsPlain 3 (fact_data f h (fact.Removed validator))
removed_is_plain f h validator few = whole_object (more (count few) (more text (more text end)))

params_changed_is_read : (f : Form) (h : ℕ) (authority : List ℕ) → IsFact (fact.ParamsChanged authority) → params_changed_of f (fact_data f h (fact.ParamsChanged authority)) ≡ Some (fact.ParamsChanged authority)
params_changed_is_read f h authority r = let e = ap (option_map fact.ParamsChanged) (user_is_read f authority r) in e

params_changed_is_plain : (f : Form) (h : ℕ) (authority : List ℕ) → h < 2 ^ 64 → IsPlain 3 (fact_data f h (fact.ParamsChanged authority))
params_changed_is_plain f h authority few = whole_object (more text (more (count few) (more text end)))

-- the line of a fact is read as the fact, at the height of its block
pub fact_is_read : (f : Form) (h : ℕ) (told : Fact) → IsCount h → IsFact told → fact_in f (compact_text (fact_data f h told)) ≡ Some (h, told)
fact_is_read f h (fact.Transfer from to coins) few r =
    read_as f (fact_data f h (fact.Transfer from to coins)) (Some (h, fact.Transfer from to coins)) (transfer_is_plain f h from to coins few) (ap (at_height h) (transfer_is_read f h from to coins r))
fact_is_read f h (fact.Burn from coin) few r =
    read_as f (fact_data f h (fact.Burn from coin)) (Some (h, fact.Burn from coin)) (burn_is_plain f h from coin few) (ap (at_height h) (burn_is_read f h from coin r))
fact_is_read f h (fact.Allocated validator share) few r =
    read_as f (fact_data f h (fact.Allocated validator share)) (Some (h, fact.Allocated validator share)) (allocated_is_plain f h validator share few) (ap (at_height h) (allocated_is_read f h validator share r))
fact_is_read f h (fact.Pooled coins) few r =
    read_as f (fact_data f h (fact.Pooled coins)) (Some (h, fact.Pooled coins)) (pooled_is_plain f h coins few) (ap (at_height h) (pooled_is_read f h coins r))
fact_is_read f h (fact.Period validator period ratio) few r =
    read_as f (fact_data f h (fact.Period validator period ratio)) (Some (h, fact.Period validator period ratio)) (period_is_plain f h validator period ratio few r) (ap (at_height h) (period_is_read f h validator period ratio r))
fact_is_read f h (fact.Started delegator validator period stake) few r =
    read_as f (fact_data f h (fact.Started delegator validator period stake)) (Some (h, fact.Started delegator validator period stake)) (started_is_plain f h delegator validator period stake few r) (ap (at_height h) (started_is_read f h delegator validator period stake r))
fact_is_read f h (fact.Slashed validator fraction burned) few r =
    read_as f (fact_data f h (fact.Slashed validator fraction burned)) (Some (h, fact.Slashed validator fraction burned)) (slashed_is_plain f h validator fraction burned few) (ap (at_height h) (slashed_is_read f h validator fraction burned r))
fact_is_read f h (fact.Paid delegator validator to reward coins) few r =
    read_as f (fact_data f h (fact.Paid delegator validator to reward coins)) (Some (h, fact.Paid delegator validator to reward coins)) (paid_is_plain f h delegator validator to reward coins few) (ap (at_height h) (paid_is_read f h delegator validator to reward coins r))
fact_is_read f h (fact.Commission validator to coins) few r =
    read_as f (fact_data f h (fact.Commission validator to coins)) (Some (h, fact.Commission validator to coins)) (commission_is_plain f h validator to coins few) (ap (at_height h) (commission_is_read f h validator to coins r))
fact_is_read f h (fact.Changed validator status) few r =
    read_as f (fact_data f h (fact.Changed validator status)) (Some (h, fact.Changed validator status)) (changed_is_plain f h validator status few) (ap (at_height h) (changed_is_read f h validator status r))
fact_is_read f h (fact.Jailed validator) few r =
    read_as f (fact_data f h (fact.Jailed validator)) (Some (h, fact.Jailed validator)) (jailed_is_plain f h validator few) (ap (at_height h) (jailed_is_read f h validator r))
fact_is_read f h (fact.Unjailed validator) few r =
    read_as f (fact_data f h (fact.Unjailed validator)) (Some (h, fact.Unjailed validator)) (unjailed_is_plain f h validator few) (ap (at_height h) (unjailed_is_read f h validator r))
fact_is_read f h (fact.Tombstoned validator) few r =
    read_as f (fact_data f h (fact.Tombstoned validator)) (Some (h, fact.Tombstoned validator)) (tombstoned_is_plain f h validator few) (ap (at_height h) (tombstoned_is_read f h validator r))
fact_is_read f h (fact.Removed validator) few r =
    read_as f (fact_data f h (fact.Removed validator)) (Some (h, fact.Removed validator)) (removed_is_plain f h validator few) (ap (at_height h) (removed_is_read f h validator r))
fact_is_read f h (fact.ParamsChanged authority) few r =
    read_as f (fact_data f h (fact.ParamsChanged authority)) (Some (h, fact.ParamsChanged authority)) (params_changed_is_plain f h authority few) (ap (at_height h) (params_changed_is_read f h authority r))
