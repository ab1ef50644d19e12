use Rattle.std.proofs.Common.{◌∙◌, ◌++◌, ap, subst, sym, append-nil}
use Rattle.base_coins.specs.Coins.{Money}
use Rattle.store_rows.specs.{Fields.{coin_bytes, coin_seen, coins_bytes}, Spelled.{AreCoins, IsName}}
use Rattle.store_rows.proofs.LoopLemmas.{each_done, each_more, each_seen, list_seen, writes_all, writes_on}
use Rattle.store_rows.proofs.writing.push_coins.Goals as goal

pub loop-coin-init : goal.loop-coin-init
loop-coin-init c = record { written = c.in_ok-push_len.ensures ∙ sym (append-nil _); range = tt }

pub loop-coin-preserved : goal.loop-coin-preserved
loop-coin-preserved c =
    let list = c.as_slice-list.result.now in
    let so_far = c.loop-coin.invariant in
    record {
      written = writes_on (λ x. coin_bytes (coin_seen x)) _ c.loop-coin.out.items _ list c.loop-coin.coin-index c.coin-item.result c.loop-coin-test.true c.coin-item.is so_far.written c.in_ok-push_coin.ensures.written;
      range = each_more (λ x. IsName (coin_seen x).0) list c.loop-coin.coin-index c.coin-item.result c.loop-coin-test.true c.coin-item.is so_far.range c.in_ok-push_coin.ensures.range;
    }

pub returns-clause-written : goal.returns-clause-written
returns-clause-written c =
    let list = c.as_slice-list.result.now in
    writes_all (λ x. coin_bytes (coin_seen x)) c.args.out.now.items _ list c.loop-coin.coin-index c.loop-coin-test.false c.loop-coin.invariant.written
    ∙ ap (λ bytes. c.args.out.now.items ++ bytes) (list_seen coin_bytes coin_seen list)
    ∙ ap (λ (m : Money). c.args.out.now.items ++ coins_bytes m) c.as_slice-list.ensures.value

pub returns-clause-range : goal.returns-clause-range
returns-clause-range c =
    let list = c.as_slice-list.result.now in
    let names = each_done (λ x. IsName (coin_seen x).0) list c.loop-coin.coin-index c.loop-coin-test.false c.loop-coin.invariant.range in
    subst (λ (m : Money). AreCoins m) c.as_slice-list.ensures.value (c.as_slice-list.ensures.money, each_seen (λ coin. IsName coin.0) coin_seen list names)
