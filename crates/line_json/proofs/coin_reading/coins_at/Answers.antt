use Rattle.std.proofs.Common.{◌≡◌, sym, ◌∙◌, Ok, ap}
use Rattle.line_json.{specs.{Nested.list_at, Coin.coin_of}, proofs.CoinLemmas.coins_below}
use Rattle.line_json.proofs.coin_reading.coins_at.Goals as goal

pub of-requires : goal.of-requires
of-requires g c =
    let read : list_at coin_of c.args.number c.args.name.now (g.N.Tree.seen c.args.tree.now) ≡ Ok c.into_vec.result.items = c.in_ok-list.ensures ∙ sym (ap Ok c.into_vec.ensures) in
    coins_below c.args.number c.args.name.now (g.N.Tree.seen c.args.tree.now) c.into_vec.result.items read
