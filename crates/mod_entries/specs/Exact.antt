-- Keys of two and of three addresses that compare equal are one key.
use Rattle.std.specs.Prelude.{◌≡◌, ℕ, List}
use Rattle.std.specs.Ordering.{ordering_then}
use Rattle.std.specs.declared.cmp.Ordering.TheVariants.{Equal}
use Rattle.std.proofs.lemmas.Map.Lookups.{exact_bytes, exact_pairs}
use Rattle.base_types.specs.Orders.{addr_cmp}
use Rattle.base_roles.specs.Orders.{pair_cmp}

pub exact_pair : (a b : List ℕ × List ℕ) → pair_cmp a b ≡ Equal → a ≡ b
exact_pair = exact_pairs addr_cmp addr_cmp exact_bytes exact_bytes

-- of a triple the first two parts are compared before the third
pub exact_triple : (a b : List ℕ × List ℕ × List ℕ) → ordering_then (pair_cmp (a.0, a.1) (b.0, b.1)) (addr_cmp a.2 b.2) ≡ Equal → a ≡ b
exact_triple a b h = let both = exact_pairs pair_cmp addr_cmp exact_pair exact_bytes ((a.0, a.1), a.2) ((b.0, b.1), b.2) h in λ i. ((both i).0.0, (both i).0.1, (both i).1)
