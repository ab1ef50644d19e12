use Rattle.std.proofs.Common.{◌≡◌, ◌++◌, length, take, flat_map}
use Rattle.std.specs.List.{AllByRecursion}
use Rattle.store_rows.specs.{Fields.{coin_bytes, coin_seen, four_bytes}, Spelled.IsName}
use Rattle.store_rows.proofs.writing.push_coins.Given as goal

abbrev pub invariant-loop-coin : goal.invariant-loop-coin
invariant-loop-coin l = record {
  written : l.out.items ≡ (l.fn.out.items ++ four_bytes (length l.list)) ++ flat_map (λ c. coin_bytes (coin_seen c)) (take l.coin-index l.list);
  range : AllByRecursion (λ c. IsName (coin_seen c).0) (take l.coin-index l.list);
}
