-- One step of the residue by the table, and the residue of lists that are joined.
use Rattle.std.proofs.Common.{◌≡◌, ◌∙◌, ap, refl, ℕ, zero, suc, ◌*◌, ◌/◌, ◌%◌, ◌^◌, ◌<◌, List, [], ◌∷◌, map, slice_index, arith, bit_and, bit_xor, nat_lt, true, ltb-true}
use Rattle.std.proofs.lemmas.{Bool.and_parts, List.FromFn.get_or-map-range_with_len, Nat.{and_mask, xor_lt, mod_below}}
use Rattle.std.specs.List.{list_all, range_with_len}
use Rattle.base_bech32.specs.{declared.residue.TheConstants.BROUGHT, Residue.{chosen, constants, residue_step}}

-- ---- the table

brought_are : BROUGHT ≡ map (λ bits. chosen bits constants) (range_with_len 0 32)
unfolding chosen
brought_are = refl

brought_at : (bits : ℕ) → bits < 32 → slice_index BROUGHT bits ≡ chosen bits constants
brought_at bits h =
    ap (λ (l : List ℕ). slice_index l bits) brought_are ∙ get_or-map-range_with_len (λ n. chosen n constants) 0 32 bits bits 0 h (omega arith)

all_below : (ns : List ℕ) → list_all (λ n. nat_lt n (2 ^ 30)) ns ≡ true → (i : ℕ) → slice_index ns i < 2 ^ 30
all_below [] e i = omega arith
all_below (n ∷ ns) e zero = ltb-true n (2 ^ 30) (and_parts (nat_lt n (2 ^ 30)) (list_all (λ n. nat_lt n (2 ^ 30)) ns) e).0
all_below (n ∷ ns) e (suc i) = all_below ns (and_parts (nat_lt n (2 ^ 30)) (list_all (λ n. nat_lt n (2 ^ 30)) ns) e).1 i

brought_below : (bits : ℕ) → slice_index BROUGHT bits < 2 ^ 30
brought_below bits = all_below BROUGHT refl bits

-- ---- a step

moved : (residue : ℕ) → bit_and residue 0x1ff_ffff * 32 % 2 ^ 32 ≡ residue % 2 ^ 25 * 32
moved residue =
    let low : bit_and residue 0x1ff_ffff ≡ residue % 2 ^ 25 = and_mask residue 25 in
    let small : residue % 2 ^ 25 < 2 ^ 25 = mod_below residue (2 ^ 25) (omega arith) in
    ap (λ n. n * 32 % 2 ^ 32) low ∙ omega arith

pub step_taken : (residue value : ℕ) → residue < 2 ^ 30
    → bit_xor (bit_xor (bit_and residue 0x1ff_ffff * 32 % 2 ^ 32) value) (slice_index BROUGHT (residue / 2 ^ 25)) ≡ residue_step residue value
unfolding residue_step
step_taken residue value h = λ i. bit_xor (bit_xor (moved residue i) value) (brought_at (residue / 2 ^ 25) (omega arith) i)

pub step_below : (residue value : ℕ) → value < 32
    → bit_xor (bit_xor (bit_and residue 0x1ff_ffff * 32 % 2 ^ 32) value) (slice_index BROUGHT (residue / 2 ^ 25)) < 2 ^ 30
step_below residue value h =
    let small : residue % 2 ^ 25 < 2 ^ 25 = mod_below residue (2 ^ 25) (omega arith) in
    let first : bit_and residue 0x1ff_ffff * 32 % 2 ^ 32 < 2 ^ 30 = omega (arith, moved residue) in
    let second : bit_xor (bit_and residue 0x1ff_ffff * 32 % 2 ^ 32) value < 2 ^ 30 = xor_lt 30 _ value first (omega arith) in
    xor_lt 30 _ _ second (brought_below (residue / 2 ^ 25))
