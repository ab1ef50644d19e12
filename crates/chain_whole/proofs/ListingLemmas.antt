-- The supplies among the items of a bank.
use Rattle.std.proofs.Common.{◌≡◌, ◌∙◌, ℕ, ◌^◌, ◌<◌, Bool, true, false, List, [], ◌∷◌, ◌++◌, ◌+◌, map, take, length, get_or, refl, sym, ap, arith, rules, All, ◌||◌, nat_lt, Result, Ok, Err, IfErr, IsOk, true≢false, filter_map, option_to_list}
use Rattle.base_coins.specs.declared.{fault.CoinFault.CoinFault, coin.Coin.Coin}
use Rattle.base_coins.{specs.Coins.{Money, IsMoney, sorted_coins, stands_twice}, proofs.Amounts.same_list}
use Rattle.base_coins.proofs.{Order.rises_from_money, Sorting.{rises_sorted, amount-sorted, kept_once}}
use Rattle.base_coins.specs.declared.fault.CoinFault.TheVariants as fault
use Rattle.std.proofs.lemmas.{Bool.Decides.nat_tests, Grind.common_steps}
use Rattle.std.proofs.lemmas.List.Elements.{filter_map-append, All-nil, All-cons, All-head, All-tail}
use Rattle.std.proofs.lemmas.List.Sorted.{IsPermutation-refl}
use Rattle.base_roles.specs.{declared.items.Item.Item, Holdings.{Balances, Holdings, IsBacked}, Staked.Staked}
use Rattle.base_records.specs.Items.{rows_of}
use Rattle.mod_bank.specs.Items.{balance_item, supply_item, items_of}
use Rattle.mod_staking.specs.Items.{items_of as stake_items}
use Rattle.rule_machine.specs.{Genesis.has_too_much, Items.{holding_items, staked_items}}
use Rattle.chain_whole.{specs.Chained.coin_in, proofs.SupplyLemmas.not_too_much}

-- a coin as a denomination and an amount
abbrev pub pair : Coin → List ℕ × ℕ
pair c = (c.denom, c.amount)

after_balances : (balances : Balances) (supplies : Money) → filter_map coin_in (rows_of balance_item balances ++ rows_of supply_item supplies) ≡ filter_map coin_in (rows_of supply_item supplies)
unfolding coin_in
after_balances [] supplies = refl
after_balances (b ∷ balances) supplies = after_balances balances supplies

of_supplies : (supplies : Money) → map pair (filter_map coin_in (rows_of supply_item supplies)) ≡ supplies
unfolding coin_in
of_supplies [] = refl
of_supplies (s ∷ supplies) = ap (λ l. s ∷ l) (of_supplies supplies)

-- the coins among the items of a bank are its supplies
pub coins_of_items : (h : Holdings) → map pair (filter_map coin_in (items_of h)) ≡ h.supplies
coins_of_items h = ap (map pair) (after_balances h.balances h.supplies) ∙ of_supplies h.supplies

-- ---- supplies as a list of coins

-- each amount is below the limit
abbrev pub AllBelow : Money → Type 0
AllBelow s = All (λ d. d.1 < 10 ^ 38) s

small_by : (s : Money) → has_too_much s ≡ false → All (λ d. d.1 < 10 ^ 38) s
small_by [] e = All-nil (λ (d : List ℕ × ℕ). d.1 < 10 ^ 38)
small_by (c ∷ cs) e = All-cons (λ (d : List ℕ × ℕ). d.1 < 10 ^ 38) c cs (first c.1 (has_too_much cs) e) (small_by cs (later c.1 (has_too_much cs) e))
  where
    first : (n : ℕ) (b : Bool) → (nat_lt (10 ^ 18) n || b) ≡ false → n < 10 ^ 38
    first n b h = grind (arith, nat_tests)

    later : (n : ℕ) (b : Bool) → (nat_lt (10 ^ 18) n || b) ≡ false → b ≡ false
    later n b h = by (nat_lt (10 ^ 18) n) b h
      where
        by : (a b : Bool) → (a || b) ≡ false → b ≡ false
        by true b h = absurd cc
        by false b h = h

-- supplies of a bank in order are a list of coins
pub money_of : (h : Holdings) → IsBacked h → IsMoney h.supplies
money_of h b = record { sorted = b.supplies_ascend; positive = b.supplies_positive; below = small_by h.supplies (not_too_much h.supplies (record { ascend = b.supplies_ascend; most = b.bounded })) }

-- a list of coins is its own sorted list
pub sorted_same : (s : Money) → IsMoney s → sorted_coins s ≡ s
sorted_same s m = same_list (sorted_coins s) s (rises_sorted s m.below) (rises_from_money s m) (λ q. amount-sorted s q m.below)

-- and has each denomination once
pub once : (s : Money) → IsMoney s → stands_twice s ≡ false
once s m = kept_once s s (IsPermutation-refl s) m.sorted

-- the coins are below the limit where their pairs are
pub below_of : (coins : List Coin) → All (λ d. d.1 < 10 ^ 38) (map pair coins) → All (λ c. c.amount < 10 ^ 38) coins
below_of [] b = All-nil (λ (c : Coin). c.amount < 10 ^ 38)
below_of (c ∷ cs) b = All-cons (λ (x : Coin). x.amount < 10 ^ 38) c cs (All-head (λ (d : List ℕ × ℕ). d.1 < 10 ^ 38) (pair c) (map pair cs) b) (below_of cs (All-tail (λ (d : List ℕ × ℕ). d.1 < 10 ^ 38) (pair c) (map pair cs) b))

-- where no denomination stands twice there is a list of coins
pub is_list : (r : Result Money CoinFault) (x : Money) → IfErr r (λ why. (why ≡ fault.Repeated) × (stands_twice x ≡ true)) → stands_twice x ≡ false → IsOk r
is_list (Ok c) x h e = search rules
is_list (Err why) x h e = absurd (true≢false (sym h.1 ∙ e))

-- one more item gives its coin
pub coins_more : (items : List Item) (i : ℕ) (x : Item) (coins coins2 : List Coin) → i < length items → x ≡ get_or items i x → coins ≡ filter_map coin_in (take i items)
    → coins2 ≡ coins ++ option_to_list (coin_in x) → coins2 ≡ filter_map coin_in (take (i + 1) items)
coins_more items i x coins coins2 lt is so e = e ∙ ap (λ (l : List Coin). l ++ option_to_list (coin_in x)) so ∙ ap (λ (y : Item). filter_map coin_in (take i items) ++ option_to_list (coin_in y)) is ∙ sym (more items i x lt)
  where
    more : (xs : List Item) (i : ℕ) (d : Item) → i < length xs → filter_map coin_in (take (i + 1) xs) ≡ filter_map coin_in (take i xs) ++ option_to_list (coin_in (get_or xs i d))
    more xs i d lt = grind (arith, common_steps, filter_map-append)
