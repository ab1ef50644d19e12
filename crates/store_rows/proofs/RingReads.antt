-- The places of a window are read as they are packed in the first format.
use Rattle.std.proofs.Common.{◌≡◌, ◌∙◌, ℕ, zero, suc, ◌+◌, ◌-◌, ◌*◌, ◌/◌, ◌%◌, ◌^◌, ◌<◌, ◌≤◌, ◌⊎◌, inl, inr, min, Bool, true, false, not, cond, eqb, List, [], ◌∷◌, ◌++◌, length, take, drop, Result, Ok, Err, refl, sym, ap, ap₂, subst, append_assoc, arith, w32, eqb-true, append-nil, drop_at, length-append, length-drop, length-take, take_all, take_at, take-append-drop}
use Rattle.std.proofs.{Math.Nat.{div-div-eq-div-mul, pow-suc}, lemmas.{Bool.cases_lt, List.drop_all}}
use Rattle.base_coins.specs.Steps.{◌>>=◌}
use Rattle.store_rows.specs.declared.fault.RowFault.{RowFault, TheVariants.BadRow}
use Rattle.store_rows.specs.Fields.{four_bytes, packed, packed_len, packed_ring_bytes, places_byte, truth_byte}
use Rattle.store_rows.specs.Reading.{bytes_at, number_at, packed_ring_at, places_in, places_of, with_places}
use Rattle.store_rows.{specs.Spelled.IsCountable, proofs.ReadsLemmas.{IsBytes, Reads, bind_is, bind_ok, ok_is}}
use Rattle.store_rows.proofs.NumberLemmas.{bytes_read, four_read}

-- ---- one byte

-- a number as its lowest bit and its half
half : (b : Bool) (v : ℕ) → ((truth_byte b + 2 * v) % 2 ≡ truth_byte b) × ((truth_byte b + 2 * v) / 2 ≡ v)
half true v = (omega arith, omega arith)
half false v = (omega arith, omega arith)

lowest : (b : Bool) (n : ℕ) → n % 2 ≡ truth_byte b → not (eqb (n % 2) 0) ≡ b
lowest true n h = rw h refl
lowest false n h = rw h refl

odd_byte : (n : ℕ) → truth_byte (not (eqb (n % 2) 0)) ≡ n % 2
odd_byte n = go (n % 2) (omega arith)
  where
    go : (m : ℕ) → m < 2 → truth_byte (not (eqb m 0)) ≡ m
    go zero h = refl
    go (suc zero) h = refl
    go (suc (suc m)) h = absurd (omega (arith, h))

places_again : (ps : List Bool) → places_in (length ps) (places_byte ps) ≡ ps
places_again [] = refl
places_again (b ∷ ps) =
    let it = half b (places_byte ps) in
    ap₂ (λ (c : Bool) (t : List Bool). c ∷ t) (lowest b (truth_byte b + 2 * places_byte ps) it.0) (ap (places_in (length ps)) it.1 ∙ places_again ps)

length-places_in : (n byte : ℕ) → length (places_in n byte) ≡ n
length-places_in zero byte = refl
length-places_in (suc n) byte = ap suc (length-places_in n (byte / 2))

halved : (n byte : ℕ) → byte / 2 ^ suc n ≡ byte / 2 / 2 ^ n
halved n byte =
    let p : 2 ^ suc n ≡ 2 ^ n * 2 = pow-suc 2 n in
    let q : 2 ^ suc n ≡ 2 * 2 ^ n = omega (arith, p) in
    ap (λ (m : ℕ). byte / m) q ∙ sym (div-div-eq-div-mul byte 2 (2 ^ n))

two_parts : (x y byte : ℕ) → x ≡ byte % 2 → y ≡ byte / 2 → x + 2 * y ≡ byte
two_parts x y byte e f = omega arith

byte_again : (n byte : ℕ) → byte / 2 ^ n ≡ 0 → places_byte (places_in n byte) ≡ byte
byte_again zero byte h = omega (arith, h)
byte_again (suc n) byte h =
    let rest = byte_again n (byte / 2) (sym (halved n byte) ∙ h) in
    two_parts _ _ byte (odd_byte byte) rest

clear_behind : (ps : List Bool) → places_byte ps / 2 ^ length ps ≡ 0
clear_behind [] = refl
clear_behind (b ∷ ps) =
    halved (length ps) (truth_byte b + 2 * places_byte ps) ∙ ap (λ (m : ℕ). m / 2 ^ length ps) (half b (places_byte ps)).1 ∙ clear_behind ps

-- ---- many

zero_is : (n : ℕ) → n ≡ 0 → eqb n 0 ≡ true
zero_is n h = rw h refl

one_byte : (n k byte : ℕ) (bytes : List ℕ) → min n 8 ≡ k → places_of n (byte ∷ bytes) ≡ cond (eqb (byte / 2 ^ k) 0) (with_places (places_in k byte) (places_of (n - k) bytes)) (Err BadRow)
unfolding places_of
one_byte n k byte bytes here = ap (λ (j : ℕ). cond (eqb (byte / 2 ^ j) 0) (with_places (places_in j byte) (places_of (n - j) bytes)) (Err BadRow)) here

many_again : (m : ℕ) (ps : List Bool) → length ps ≤ 8 * m → places_of (length ps) (packed m ps) ≡ Ok ps
unfolding places_of
many_again zero [] le = refl
many_again zero (b ∷ ps) le = absurd (omega (arith, le))
many_again (suc m) ps le =
    let here : min (length ps) 8 ≡ length (take 8 ps) = omega (arith, length-take 8 ps) in
    let left : length ps - length (take 8 ps) ≡ length (drop 8 ps) = omega (arith, length-take 8 ps, length-drop 8 ps) in
    let clear : eqb (places_byte (take 8 ps) / 2 ^ length (take 8 ps)) 0 ≡ true = zero_is _ (clear_behind (take 8 ps)) in
    let rest = many_again m (drop 8 ps) (omega (arith, le, length-drop 8 ps)) in
    one_byte (length ps) (length (take 8 ps)) (places_byte (take 8 ps)) (packed m (drop 8 ps)) here
    ∙ ap (λ (b : Bool). cond b (with_places (places_in (length (take 8 ps)) (places_byte (take 8 ps))) (places_of (length ps - length (take 8 ps)) (packed m (drop 8 ps)))) (Err BadRow)) clear
    ∙ ap₂ with_places (places_again (take 8 ps)) (ap (λ (k : ℕ). places_of k (packed m (drop 8 ps))) left ∙ rest)
    ∙ ap (λ (xs : List Bool). Ok xs) (take-append-drop 8 ps)

pub passed : {A : Type 0} (b : Bool) (r : Result A RowFault) (y : A) → cond b r (Err BadRow) ≡ Ok y → (b ≡ true) × (r ≡ Ok y)
passed true r y e = (refl, e)
passed false r y e = absurd cc

many_take : (n : ℕ) (bytes : List ℕ) (ps : List Bool) → length bytes ≡ packed_len n → places_of n bytes ≡ Ok ps → (packed (length bytes) ps ≡ bytes) × (length ps ≡ n)
unfolding places_of
many_take n [] ps len e = subst (λ (xs : List Bool). (packed 0 xs ≡ []) × (length xs ≡ n)) (ok_is [] ps e) (refl, omega (arith, len))
many_take n (byte ∷ bytes) ps len e =
    let (clear, read) = passed (eqb (byte / 2 ^ min n 8) 0) (with_places (places_in (min n 8) byte) (places_of (n - min n 8) bytes)) ps e in
    let (qs, there, end) = bind_ok (places_of (n - min n 8) bytes) (λ qs. Ok (places_in (min n 8) byte ++ qs)) ps read in
    let (more, more_len) = many_take (n - min n 8) bytes qs (omega (arith, len)) there in
    let front = places_in (min n 8) byte in
    let front_len : length front ≡ min n 8 = length-places_in (min n 8) byte in
    let back : places_byte front ≡ byte = byte_again (min n 8) byte (eqb-true _ _ clear) in
    let split = parted front qs (elim (cases_lt n 8) [
      | inl few ↦ inr (no_places qs (omega (arith, more_len)))
      | inr many ↦ inl (omega (arith, front_len))
    ]) (omega (arith, front_len)) in
    subst (λ (xs : List Bool). (packed (suc (length bytes)) xs ≡ byte ∷ bytes) × (length xs ≡ n)) (ok_is (front ++ qs) ps end)
    (ap₂ (λ (b : ℕ) (bs : List ℕ). b ∷ bs) (ap places_byte split.0 ∙ back) (ap (packed (length bytes)) split.1 ∙ more), omega (arith, length-append front qs, front_len, more_len))
  where
    no_places : (qs : List Bool) → length qs ≡ 0 → qs ≡ []
    no_places [] h = refl
    no_places (q ∷ qs) h = absurd (omega (arith, h))

    -- the first eight places and the others
    parted : (front qs : List Bool) → (length front ≡ 8) ⊎ (qs ≡ []) → length front ≤ 8 → (take 8 (front ++ qs) ≡ front) × (drop 8 (front ++ qs) ≡ qs)
    parted front qs (inl full) le = (take_at front qs 8 full, drop_at front qs 8 full)
    parted front qs (inr none) le = (
      ap (λ (q : List Bool). take 8 (front ++ q)) none ∙ ap (take 8) (append-nil front) ∙ take_all 8 front le,
      ap (λ (q : List Bool). drop 8 (front ++ q)) none ∙ ap (drop 8) (append-nil front) ∙ drop_all 8 front le ∙ sym none,
    )

-- a number of so few bits is below their power
below_power : (n byte : ℕ) → byte / 2 ^ n ≡ 0 → n ≤ 8 → byte < 256
below_power zero byte h le = omega (arith, h)
below_power (suc zero) byte h le = omega (arith, h)
below_power (suc (suc zero)) byte h le = omega (arith, h)
below_power (suc (suc (suc zero))) byte h le = omega (arith, h)
below_power (suc (suc (suc (suc zero)))) byte h le = omega (arith, h)
below_power (suc (suc (suc (suc (suc zero))))) byte h le = omega (arith, h)
below_power (suc (suc (suc (suc (suc (suc zero)))))) byte h le = omega (arith, h)
below_power (suc (suc (suc (suc (suc (suc (suc zero))))))) byte h le = omega (arith, h)
below_power (suc (suc (suc (suc (suc (suc (suc (suc zero)))))))) byte h le = omega (arith, h)
below_power (suc (suc (suc (suc (suc (suc (suc (suc (suc n))))))))) byte h le = absurd (omega (arith, le))

pub packed_ring_reads : Reads packed_ring_at packed_ring_bytes IsCountable
unfolding packed_ring_at
packed_ring_reads = record {
  takes = λ bytes ps rest fits e.
      let (n, at_n, then) = bind_ok (number_at w32 bytes) (λ n. bytes_at (packed_len n.0) n.1 >>= λ p. places_of n.0 p.0 >>= λ places. Ok (places, p.1)) (ps, rest) e in
      let (n_parts, n_fits, below) = four_read.takes bytes n.0 n.1 fits at_n in
      let (p, at_p, later) = bind_ok (bytes_at (packed_len n.0) n.1) (λ p. places_of n.0 p.0 >>= λ places. Ok (places, p.1)) (ps, rest) then in
      let (p_parts, p_fits, (p_len, p_small)) = (bytes_read (packed_len n.0)).takes n.1 p.0 p.1 n_fits at_p in
      let (places, there, end) = bind_ok (places_of n.0 p.0) (λ places. Ok (places, p.1)) (ps, rest) later in
      let (packed_is, count) = many_take n.0 p.0 places p_len there in
      let same : p.0 ≡ packed (packed_len (length places)) places = sym packed_is ∙ ap (λ (m : ℕ). packed m places) (p_len ∙ ap packed_len (sym count)) in
      subst (λ (y : List Bool × List ℕ). (bytes ≡ packed_ring_bytes y.0 ++ y.1) × IsBytes y.1 × IsCountable y.0) (ok_is (places, p.1) (ps, rest) end)
      (n_parts ∙ ap (λ (r : List ℕ). four_bytes n.0 ++ r) (p_parts ∙ ap (λ (f : List ℕ). f ++ p.1) same) ∙ sym (append_assoc (four_bytes n.0) (packed (packed_len (length places)) places) p.1) ∙ ap (λ (k : ℕ). (four_bytes k ++ packed (packed_len (length places)) places) ++ p.1) (sym count), p_fits, omega (arith, below, count));
  again = λ ps rest count.
      let m = packed_len (length ps) in
      let len : length (packed m ps) ≡ m = length-packed m ps in
      let small : IsBytes (packed m ps) = packed_small m ps in
      let enough : length ps ≤ 8 * packed_len (length ps) = omega arith in
      ap packed_ring_at (append_assoc (four_bytes (length ps)) (packed m ps) rest)
      ∙ bind_is (number_at w32 (four_bytes (length ps) ++ (packed m ps ++ rest))) (length ps, packed m ps ++ rest) (λ n. bytes_at (packed_len n.0) n.1 >>= λ p. places_of n.0 p.0 >>= λ places. Ok (places, p.1)) (Ok (ps, rest))
      (four_read.again (length ps) (packed m ps ++ rest) count)
      (bind_is (bytes_at m (packed m ps ++ rest)) (packed m ps, rest) (λ p. places_of (length ps) p.0 >>= λ places. Ok (places, p.1)) (Ok (ps, rest)) ((bytes_read m).again (packed m ps) rest (len, small))
      (bind_is (places_of (length ps) (packed m ps)) ps (λ places. Ok (places, rest)) (Ok (ps, rest)) (many_again m ps enough) refl));
}
  where
    length-packed : (m : ℕ) (ps : List Bool) → length (packed m ps) ≡ m
    length-packed zero ps = refl
    length-packed (suc m) ps = ap suc (length-packed m (drop 8 ps))

    -- at most eight places are a byte
    byte_small : (ps : List Bool) → length ps ≤ 8 → places_byte ps < 256
    byte_small ps le = below_power (length ps) (places_byte ps) (clear_behind ps) le

    packed_small : (m : ℕ) (ps : List Bool) → IsBytes (packed m ps)
    packed_small zero ps i = omega arith
    packed_small (suc m) ps zero = byte_small (take 8 ps) (omega (arith, length-take 8 ps))
    packed_small (suc m) ps (suc i) = packed_small m (drop 8 ps) i
