-- Members as a writer tells them, one after another.
use Rattle.std.specs.Prelude.{ℕ, List, [], ◌∷◌, ◌++◌, map}
use Rattle.std.specs.Borrow.{Bor}
use Rattle.json.specs.Token.{Token}
use Rattle.json.specs.Tree.{json_tokens}
use Rattle.serde_json.specs.Data.{Data, Members, boolean, no_members, member, string}
use Rattle.serde_json.specs.Written.{compact_text, outline}
use Rattle.base_coins.specs.Coins.{Money}
use Rattle.base_roles.specs.Refusals.{refusal_number}
use Rattle.line_json.specs.declared.told.Told.{Told}
use Rattle.line_json.specs.declared.told.Told.TheVariants as told
use Rattle.line_json.specs.Values.{account_data, coins_data, cons_data, count_data, dec_coins_data, decimal_data, module_data, moment_data, operator_data, over_name, status_name, user_data, whole_data}

-- coins of lent denominations
abbrev pub coins_seen : List (Bor (List ℕ) × ℕ) → Money
coins_seen coins = map (λ c. (c.0.now, c.1)) coins

-- what a member tells, as data
abbrev pub told_data : Told → Data
told_data (told.Word word) = string word.now
told_data (told.Count n) = count_data n
told_data (told.Number refusal) = count_data (refusal_number refusal)
told_data (told.Flag b) = boolean b
told_data (told.Amount n) = whole_data n
told_data (told.Decimal n) = decimal_data n
told_data (told.Over kind) = string (over_name kind)
told_data (told.Status status) = string (status_name status)
told_data (told.Moment moment) = moment_data moment
told_data (told.User f bytes) = user_data f bytes.now
told_data (told.Operator f bytes) = operator_data f bytes.now
told_data (told.Account f account) = account_data f account.now
told_data (told.Module m) = module_data m
told_data (told.Cons f bytes) = cons_data f bytes.now
told_data (told.Denom name) = string name.now
told_data (told.Coins coins) = coins_data coins.now
told_data (told.Lent coins) = coins_data (coins_seen coins.now)
told_data (told.DecCoins coins) = dec_coins_data coins.now

-- members, in the order in which they are told
abbrev pub listed : List (Bor (List ℕ) × Told) → Members
listed [] = no_members
listed (m ∷ ms) = member m.0.now (told_data m.1) (listed ms)

-- what a writer writes for data
abbrev pub data_tokens : Data → List Token
data_tokens d = json_tokens (outline d)

-- pieces of text, each with the text of a value behind it, and a piece at the end
abbrev pub pieced : List (Bor (List ℕ) × Told) → List ℕ → List ℕ
pieced [] end = end
pieced (p ∷ ps) end = p.0.now ++ (compact_text (told_data p.1) ++ pieced ps end)
