use Rattle.std.proofs.Common.{ℕ, List, Bor, Option, ap, option_map}
use Rattle.base_types.specs.declared.account.Account.{Account}
use Rattle.mod_bank.proofs.OrderLemmas.{coin_of_other, coin_of_own}
use Rattle.mod_bank.proofs.walk.own_coin.Goals as goal

pub returns-then-ne : goal.returns-then-ne
returns-then-ne c =
    coin_of_other c.args.who.now _ (c.in_ok-place.place.now, c.in_ok-place.amount.now) c.ne.result
    (ap (λ (x : Option (Bor (Account × List ℕ) × Bor ℕ)). option_map (λ (e : Bor (Account × List ℕ) × Bor ℕ). (e.0.now, e.1.now)) x) c.in_ok-place.was) c.ne.ensures c.if-ne.true

pub returns : goal.returns
returns c =
    coin_of_own c.args.who.now _ (c.in_ok-place.place.now, c.in_ok-place.amount.now) c.ne.result
    (ap (λ (x : Option (Bor (Account × List ℕ) × Bor ℕ)). option_map (λ (e : Bor (Account × List ℕ) × Bor ℕ). (e.0.now, e.1.now)) x) c.in_ok-place.was) c.ne.ensures c.if-ne.false
