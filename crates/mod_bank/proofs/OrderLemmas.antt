-- The order in which the table of balances keeps its keys is that of places.
use Rattle.std.proofs.Common.{◌≡◌, ◌∙◌, ℕ, Bool, true, false, List, Option, Some, None, refl, sym, ap, subst, not}
use Rattle.std.specs.{BTreeMap.is_at, List.Sorted.IsStrictlySortedBy, Map.keys_of}
use Rattle.base_roles.{specs.{Holdings.coin_if, Orders.place_cmp}, proofs.HoldingLemmas.{place_order, place_order_is}}
use Rattle.mod_bank.specs.Items.{own_coin}
use Rattle.base_types.specs.{declared.account.Account.Account, Orders.account_cmp}
use Rattle.base_types.proofs.OrderLemmas.{account_equal, account_equal_at}
use Rattle.base_table.specs.Tabled.{Tabled, with_value, without_key}

pub put_at : (b b2 : Tabled (Account × List ℕ) ℕ) (k : Account × List ℕ) (n : ℕ) → b2 ≡ with_value place_order b k n → b2 ≡ with_value place_cmp b k n
put_at b b2 k n e = subst (λ order. b2 ≡ with_value order b k n) place_order_is e

pub removed_at : (b b2 : Tabled (Account × List ℕ) ℕ) (k : Account × List ℕ) → b2 ≡ without_key place_order b k → b2 ≡ without_key place_cmp b k
removed_at b b2 k e = subst (λ order. b2 ≡ without_key order b k) place_order_is e

pub ordered_at : (es : List ((Account × List ℕ) × ℕ)) → IsStrictlySortedBy place_order (keys_of es) → IsStrictlySortedBy place_cmp (keys_of es)
ordered_at es s = subst (λ order. IsStrictlySortedBy order (keys_of es)) place_order_is s

-- ---- whether two accounts are one

negated : (b : Bool) → not b ≡ true → b ≡ false
negated true h = absurd cc
negated false h = refl

affirmed : (b : Bool) → not b ≡ false → b ≡ true
affirmed true h = refl
affirmed false h = absurd cc

-- an entry of another account has no coin of this one
pub coin_of_other : (who : Account) (x : Option ((Account × List ℕ) × ℕ)) (e : (Account × List ℕ) × ℕ) (r : Bool) → x ≡ Some e → r ≡ not (account_equal who e.0.0) → r ≡ true → None ≡ own_coin who x
coin_of_other who x e r f p q =
    let other : is_at (account_cmp who) e.0.0 ≡ false = sym (account_equal_at who e.0.0) ∙ negated (account_equal who e.0.0) (sym p ∙ q) in
    sym (ap (own_coin who) f ∙ ap (λ b. coin_if b (e.0.1, e.1)) other)

pub coin_of_own : (who : Account) (x : Option ((Account × List ℕ) × ℕ)) (e : (Account × List ℕ) × ℕ) (r : Bool) → x ≡ Some e → r ≡ not (account_equal who e.0.0) → r ≡ false → Some (e.0.1, e.1) ≡ own_coin who x
coin_of_own who x e r f p q =
    let own : is_at (account_cmp who) e.0.0 ≡ true = sym (account_equal_at who e.0.0) ∙ affirmed (account_equal who e.0.0) (sym p ∙ q) in
    sym (ap (own_coin who) f ∙ ap (λ b. coin_if b (e.0.1, e.1)) own)
