-- Values are read from what is written of them.
use Rattle.std.proofs.Common.{◌≡◌, ℕ, ◌^◌, ◌<◌, List, [], ◌∷◌, map, Some, None, Option, option_and_then, option_map, refl, ap, ◌∙◌}
use Rattle.std.proofs.lemmas.List.Elements.{All-head, All-tail}
use Rattle.serde_json.specs.{Data.Data, View.items_of}
use Rattle.base_decimals.proofs.Inverse.{written_read}
use Rattle.base_types.specs.declared.account.{Account.Account, Module.Module}
use Rattle.base_types.specs.declared.account.Module.TheVariants.{FeeCollector, Bonded, NotBonded, Distribution}
use Rattle.base_types.specs.{declared.status.BondStatus.BondStatus, Maybe.{◌>>=◌}, Modules.{module_name, user_from}}
use Rattle.base_types.proofs.AccountLemmas.{address_of-module_name}
use Rattle.base_types.specs.declared.account.Account.TheVariants as account
use Rattle.base_types.specs.declared.status.BondStatus.TheVariants as status
use Rattle.base_bech32.specs.declared.form.Form.{Form, TheVariants.{Hex, Bech32}}
use Rattle.base_coins.specs.Coins.{Money}
use Rattle.line_json.specs.Addresses.{account_text_in, operator_in, operator_text, user_in, user_text}
use Rattle.line_json.specs.Values.{coin_data, coins_data, dec_coins_data, decimal_data, status_name, whole_data}
use Rattle.line_json.proofs.BackLemmas.{amount_is_read, denom_is_read, operator_back, user_back}
use Rattle.law_lines.specs.Ranges.{AreCoins, IsAccount, IsCoin, IsUser}
use Rattle.law_lines.specs.Reading.{account_named, amount_in, coin_in, coins_in, decimal_in, each, meant, modules, statuses, user_or_named}

-- ---- numbers

pub decimal_is_read : (n : ℕ) → n < 10 ^ 38 → decimal_in (decimal_data n) ≡ Some n
decimal_is_read n small = written_read n small

-- ---- names

pub module_is_read : (m : Module) → meant modules (module_name m) ≡ Some m
module_is_read FeeCollector = refl
module_is_read Bonded = refl
module_is_read NotBonded = refl
module_is_read Distribution = refl

pub status_is_read : (s : BondStatus) → meant statuses (status_name s) ≡ Some s
status_is_read status.Bonded = refl
status_is_read status.Unbonding = refl
status_is_read status.Unbonded = refl

-- ---- addresses

pub user_is_read : (f : Form) (bytes : List ℕ) → IsUser bytes → user_in f (user_text f bytes) ≡ Some bytes
user_is_read f bytes h = user_back f bytes h.0 h.1

pub operator_is_read : (f : Form) (bytes : List ℕ) → IsUser bytes → operator_in f (operator_text f bytes) ≡ Some bytes
operator_is_read f bytes h = operator_back f bytes h.0 h.1

-- a module's name is no text of an address
no_user : (f : Form) (m : Module) → user_in f (module_name m) ≡ None
no_user Hex m = ap (option_and_then user_from) (address_of-module_name m)
no_user Bech32 FeeCollector = refl
no_user Bech32 Bonded = refl
no_user Bech32 NotBonded = refl
no_user Bech32 Distribution = refl

pub account_is_read : (f : Form) (a : Account) → IsAccount a → account_named f (account_text_in f a) ≡ Some a
account_is_read f (account.User bytes) h = ap (λ o. user_or_named o (user_text f bytes)) (user_is_read f bytes h)
account_is_read f (account.Module m) h =
    ap (λ o. user_or_named o (module_name m)) (no_user f m) ∙ ap (option_map account.Module) (module_is_read m)

-- ---- coins

module _ (form : Data → Option ℕ) (amount_data : ℕ → Data) (amounts : (n : ℕ) → n < 10 ^ 38 → form (amount_data n) ≡ Some n) where
  coin_is_read : (c : List ℕ × ℕ) → IsCoin c → coin_in form (coin_data amount_data c) ≡ Some c
  coin_is_read c h =
      ap (λ o. o >>= (λ denom. form (amount_data c.1) >>= (λ amount. Some (denom, amount)))) (denom_is_read c.0 h.0)
      ∙ ap (λ o. o >>= (λ amount. Some (c.0, amount))) (amounts c.1 h.1)

  each_is_read : (coins : Money) → AreCoins coins → each (coin_in form) (items_of (map (coin_data amount_data) coins)) ≡ Some coins
  each_is_read [] h = refl
  each_is_read (c ∷ cs) h =
      ap (λ o. o >>= (λ x. each (coin_in form) (items_of (map (coin_data amount_data) cs)) >>= (λ xs. Some (x ∷ xs)))) (coin_is_read c (All-head IsCoin c cs h))
      ∙ ap (λ o. o >>= (λ xs. Some (c ∷ xs))) (each_is_read cs (All-tail IsCoin c cs h))

pub coins_are_read : (coins : Money) → AreCoins coins → coins_in amount_in (coins_data coins) ≡ Some coins
coins_are_read coins h = each_is_read amount_in whole_data amount_is_read coins h

pub dec_coins_are_read : (coins : Money) → AreCoins coins → coins_in decimal_in (dec_coins_data coins) ≡ Some coins
dec_coins_are_read coins h = each_is_read decimal_in decimal_data decimal_is_read coins h
