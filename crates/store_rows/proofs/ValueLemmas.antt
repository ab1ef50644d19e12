-- The fields of a row are read as they are spelled.
use Rattle.std.proofs.Common.{◌≡◌, ◌∙◌, ℕ, zero, suc, ◌^◌, ◌<◌, Bool, true, false, cond, ltb, List, [], ◌∷◌, ◌++◌, length, Option, Some, None, Result, Ok, Err, refl, sym, ap, subst, append_assoc, arith, w32, flat_map, ltb-true, lt-ltb, le-ltb, take_at, drop_at, length-append}
use Rattle.std.{specs.{Int.w128, List.AllByRecursion}, proofs.lemmas.List.Concat.flat_map-cons}
use Rattle.base_types.specs.{Address.IsAddress, Calendar.end_of_time, Denom.{denom_of, is_denom}}
use Rattle.base_types.specs.declared.status.BondStatus.{BondStatus, TheVariants.{Bonded, Unbonding, Unbonded}}
use Rattle.base_types.specs.{declared.account.Module.Module, Modules.{module_of, user_or_none, user_from}}
use Rattle.base_types.specs.Moment.{moment_from}
use Rattle.base_coins.specs.Steps.{◌>>=◌}
use Rattle.store_rows.specs.declared.fault.RowFault.{RowFault, TheVariants.BadRow}
use Rattle.store_rows.specs.Fields.{denom_bytes, sixteen_bytes, truth_byte, status_byte, list_bytes, four_bytes}
use Rattle.store_rows.specs.Reading.{byte_at, number_at, bytes_at, or_bad, decimal_at, moment_at, user_at, denom_at, truth_at, status_at, each_at, with_front, list_at}
use Rattle.store_rows.specs.Spelled.{IsDecimal, IsMoment, IsUser, IsName, IsCountable}
use Rattle.store_rows.proofs.ReadsLemmas.{IsBytes, Reads, bind_is, bind_ok, ok_is}
use Rattle.store_rows.proofs.NumberLemmas.{bytes_read, four_read, sixteen_read}

-- a value that passes a test
passed : {A : Type 0} (b : Bool) (x y : A) → cond b (Ok x) (Err BadRow) ≡ Ok y → (b ≡ true) × (x ≡ y)
passed true x y e = (refl, cc)
passed false x y e = absurd cc

pub decimal_reads : Reads decimal_at sixteen_bytes IsDecimal
unfolding decimal_at
decimal_reads = record {
  takes = λ bytes n rest fits e.
      let (x, here, after) = bind_ok (number_at w128 bytes) (λ x. cond (ltb x.0 (10 ^ 38)) (Ok x) (Err BadRow)) (n, rest) e in
      let (parts, rest_fits, below) = sixteen_read.takes bytes x.0 x.1 fits here in
      let (small, same) = passed (ltb x.0 (10 ^ 38)) x (n, rest) after in
      subst (λ (y : ℕ × List ℕ). (bytes ≡ sixteen_bytes y.0 ++ y.1) × IsBytes y.1 × IsDecimal y.0) same (parts, rest_fits, ltb-true _ _ small);
  again = λ n rest below.
      let fits : n < 2 ^ 128 = omega (arith, below) in
      bind_is (number_at w128 (sixteen_bytes n ++ rest)) (n, rest) (λ x. cond (ltb x.0 (10 ^ 38)) (Ok x) (Err BadRow)) (Ok (n, rest)) (sixteen_read.again n rest fits) (ap (λ (b : Bool). cond b (Ok (n, rest)) (Err BadRow)) (lt-ltb n (10 ^ 38) below));
}

some_moment : (n m : ℕ) → cond (ltb n end_of_time) (Some n) None ≡ Some m → (n < end_of_time) × (n ≡ m)
some_moment n m e = go (ltb n end_of_time) refl e
  where
    go : (b : Bool) → ltb n end_of_time ≡ b → cond b (Some n) None ≡ Some m → (n < end_of_time) × (n ≡ m)
    go true is h = (ltb-true _ _ is, cc)
    go false is h = absurd cc

good : {A : Type 0} (o : Option A) (x : A) → or_bad o ≡ Ok x → o ≡ Some x
good None x e = absurd cc
good (Some y) x e = ap (λ z. Some z) (ok_is y x e)

pub moment_reads : Reads moment_at sixteen_bytes IsMoment
unfolding moment_at
moment_reads = record {
  takes = λ bytes n rest fits e.
      let (x, here, after) = bind_ok (number_at w128 bytes) (λ x. or_bad (moment_from x.0) >>= λ m. Ok (m, x.1)) (n, rest) e in
      let (m, is, end) = bind_ok (or_bad (moment_from x.0)) (λ m. Ok (m, x.1)) (n, rest) after in
      let (parts, rest_fits, below) = sixteen_read.takes bytes x.0 x.1 fits here in
      let (early, same) = some_moment x.0 m (good (moment_from x.0) m is) in
      subst (λ (y : ℕ × List ℕ). (bytes ≡ sixteen_bytes y.0 ++ y.1) × IsBytes y.1 × IsMoment y.0) (ok_is (m, x.1) (n, rest) end)
      (parts ∙ ap (λ (k : ℕ). sixteen_bytes k ++ x.1) same, rest_fits, subst IsMoment same early);
  again = λ n rest early.
      let fits : n < 2 ^ 128 = omega (arith, early) in
      bind_is (number_at w128 (sixteen_bytes n ++ rest)) (n, rest) (λ x. or_bad (moment_from x.0) >>= λ m. Ok (m, x.1)) (Ok (n, rest)) (sixteen_read.again n rest fits)
      (bind_is (or_bad (moment_from n)) n (λ m. Ok (m, rest)) (Ok (n, rest)) (ap (λ (b : Bool). or_bad (cond b (Some n) None)) (lt-ltb n end_of_time early)) refl);
}

user_is : (bytes u : List ℕ) → user_from bytes ≡ Some u → (module_of bytes ≡ None) × (bytes ≡ u)
user_is bytes u e = go (module_of bytes) refl e
  where
    go : (o : Option Module) → module_of bytes ≡ o → user_or_none bytes o ≡ Some u → (module_of bytes ≡ None) × (bytes ≡ u)
    go None is h = (is, cc)
    go (Some m) is h = absurd cc

pub user_reads : Reads user_at (λ bytes. bytes) IsUser
unfolding user_at
user_reads = record {
  takes = λ bytes u rest fits e.
      let (x, here, after) = bind_ok (bytes_at 20 bytes) (λ x. or_bad (user_from x.0) >>= λ u. Ok (u, x.1)) (u, rest) e in
      let (v, is, end) = bind_ok (or_bad (user_from x.0)) (λ u. Ok (u, x.1)) (u, rest) after in
      let (parts, rest_fits, (len, small)) = (bytes_read 20).takes bytes x.0 x.1 fits here in
      let (free, same) = user_is x.0 v (good (user_from x.0) v is) in
      subst (λ (y : List ℕ × List ℕ). (bytes ≡ y.0 ++ y.1) × IsBytes y.1 × IsUser y.0) (ok_is (v, x.1) (u, rest) end)
      (subst (λ (w : List ℕ). (bytes ≡ w ++ x.1) × IsBytes x.1 × IsUser w) same (parts, rest_fits, ((len, small), free)));
  again = λ u rest it.
      bind_is (bytes_at 20 (u ++ rest)) (u, rest) (λ x. or_bad (user_from x.0) >>= λ v. Ok (v, x.1)) (Ok (u, rest)) ((bytes_read 20).again u rest it.0)
      (bind_is (or_bad (user_from u)) u (λ v. Ok (v, rest)) (Ok (u, rest)) (ap (λ (o : Option Module). or_bad (user_or_none u o)) it.1) refl);
}

IsBytes-rest : (b : ℕ) (bytes : List ℕ) → IsBytes (b ∷ bytes) → IsBytes bytes
IsBytes-rest b bytes h i = h (suc i)

pub truth_reads : Reads truth_at (λ b. truth_byte b ∷ []) (λ b. Unit {0})
unfolding truth_at
truth_reads = record {
  takes = go;
  again = λ b rest it. elim b as (λ c. truth_at (truth_byte c ∷ rest) ≡ Ok (c, rest)) [ true ↦ refl | false ↦ refl ];
}
  where
    go : (bytes : List ℕ) (b : Bool) (rest : List ℕ) → IsBytes bytes → truth_at bytes ≡ Ok (b, rest) → (bytes ≡ truth_byte b ∷ rest) × IsBytes rest × Unit {0}
    go [] b rest fits e = absurd cc
    go (zero ∷ bytes) b rest fits e = subst (λ (y : Bool × List ℕ). (0 ∷ bytes ≡ truth_byte y.0 ∷ y.1) × IsBytes y.1 × Unit {0}) (ok_is (false, bytes) (b, rest) e) (refl, IsBytes-rest 0 bytes fits, tt)
    go (suc zero ∷ bytes) b rest fits e = subst (λ (y : Bool × List ℕ). (1 ∷ bytes ≡ truth_byte y.0 ∷ y.1) × IsBytes y.1 × Unit {0}) (ok_is (true, bytes) (b, rest) e) (refl, IsBytes-rest 1 bytes fits, tt)
    go (suc (suc n) ∷ bytes) b rest fits e = absurd cc

pub status_reads : Reads status_at (λ b. status_byte b ∷ []) (λ b. Unit {0})
unfolding status_at
status_reads = record {
  takes = go;
  again = λ b rest it. elim b as (λ c. status_at (status_byte c ∷ rest) ≡ Ok (c, rest)) [ Bonded ↦ refl | Unbonding ↦ refl | Unbonded ↦ refl ];
}
  where
    go : (bytes : List ℕ) (b : BondStatus) (rest : List ℕ) → IsBytes bytes → status_at bytes ≡ Ok (b, rest) → (bytes ≡ status_byte b ∷ rest) × IsBytes rest × Unit {0}
    go [] b rest fits e = absurd cc
    go (zero ∷ bytes) b rest fits e = subst (λ (y : BondStatus × List ℕ). (0 ∷ bytes ≡ status_byte y.0 ∷ y.1) × IsBytes y.1 × Unit {0}) (ok_is (Bonded, bytes) (b, rest) e) (refl, IsBytes-rest 0 bytes fits, tt)
    go (suc zero ∷ bytes) b rest fits e = subst (λ (y : BondStatus × List ℕ). (1 ∷ bytes ≡ status_byte y.0 ∷ y.1) × IsBytes y.1 × Unit {0}) (ok_is (Unbonding, bytes) (b, rest) e) (refl, IsBytes-rest 1 bytes fits, tt)
    go (suc (suc zero) ∷ bytes) b rest fits e = subst (λ (y : BondStatus × List ℕ). (2 ∷ bytes ≡ status_byte y.0 ∷ y.1) × IsBytes y.1 × Unit {0}) (ok_is (Unbonded, bytes) (b, rest) e) (refl, IsBytes-rest 2 bytes fits, tt)
    go (suc (suc (suc n)) ∷ bytes) b rest fits e = absurd cc

-- a consensus address is any twenty bytes
pub cons_reads : Reads (bytes_at 20) (λ b. b) IsAddress
cons_reads = bytes_read 20

named : (bytes d : List ℕ) → denom_of bytes ≡ Some d → (is_denom bytes ≡ true) × (bytes ≡ d)
named bytes d e = go (is_denom bytes) refl e
  where
    go : (b : Bool) → is_denom bytes ≡ b → cond b (Some bytes) None ≡ Some d → (is_denom bytes ≡ true) × (bytes ≡ d)
    go true is h = (is, cc)
    go false is h = absurd cc

byte_takes : (bytes : List ℕ) (n : ℕ) (rest : List ℕ) → IsBytes bytes → byte_at bytes ≡ Ok (n, rest) → (bytes ≡ n ∷ rest) × IsBytes rest
byte_takes [] n rest fits e = absurd cc
byte_takes (b ∷ bytes) n rest fits e = subst (λ (y : ℕ × List ℕ). (b ∷ bytes ≡ y.0 ∷ y.1) × IsBytes y.1) (ok_is (b, bytes) (n, rest) e) (refl, IsBytes-rest b bytes fits)

pub denom_reads : Reads denom_at denom_bytes IsName
unfolding denom_at
denom_reads = record {
  takes = λ bytes d rest fits e.
      let (len, here, after) = bind_ok (byte_at bytes) (λ len. bytes_at len.0 len.1 >>= λ name. or_bad (denom_of name.0) >>= λ denom. Ok (denom, name.1)) (d, rest) e in
      let (name, there, then) = bind_ok (bytes_at len.0 len.1) (λ name. or_bad (denom_of name.0) >>= λ denom. Ok (denom, name.1)) (d, rest) after in
      let (denom, is, end) = bind_ok (or_bad (denom_of name.0)) (λ denom. Ok (denom, name.1)) (d, rest) then in
      let (head, tail_fits) = byte_takes bytes len.0 len.1 fits here in
      let (parts, rest_fits, (count, small)) = (bytes_read len.0).takes len.1 name.0 name.1 tail_fits there in
      let (good_name, same) = named name.0 denom (good (denom_of name.0) denom is) in
      let whole : bytes ≡ denom_bytes name.0 ++ name.1 = head ∙ ap (λ (r : List ℕ). len.0 ∷ r) parts ∙ ap (λ (k : ℕ). k ∷ (name.0 ++ name.1)) (sym count) in
      subst (λ (y : List ℕ × List ℕ). (bytes ≡ denom_bytes y.0 ++ y.1) × IsBytes y.1 × IsName y.0) (ok_is (denom, name.1) (d, rest) end)
      (subst (λ (w : List ℕ). (bytes ≡ denom_bytes w ++ name.1) × IsBytes name.1 × IsName w) same (whole, rest_fits, good_name));
  again = λ d rest is.
      bind_is (bytes_at (length d) (d ++ rest)) (d, rest) (λ name. or_bad (denom_of name.0) >>= λ denom. Ok (denom, name.1)) (Ok (d, rest)) (taken d rest)
      (bind_is (or_bad (denom_of d)) d (λ denom. Ok (denom, rest)) (Ok (d, rest)) (ap (λ (b : Bool). or_bad (cond b (Some d) None)) is) refl);
}
  where
    -- so many bytes as the name has
    taken : (d rest : List ℕ) → bytes_at (length d) (d ++ rest) ≡ Ok (d, rest)
    taken d rest = rw (le-ltb (length (d ++ rest)) (length d) (omega (arith, length-append d rest)), take_at d rest (length d) refl, drop_at d rest (length d) refl) refl

-- ---- lists

module _ {A : Type 0} (p : List ℕ → Result (A × List ℕ) RowFault) (s : A → List ℕ) (F : A → Type 0) (one : Reads p s F) where
  each_takes : (n : ℕ) (bytes : List ℕ) (xs : List A) (rest : List ℕ) → IsBytes bytes → each_at p n bytes ≡ Ok (xs, rest) → (bytes ≡ flat_map s xs ++ rest) × IsBytes rest × AllByRecursion F xs × (length xs ≡ n)
  unfolding each_at
  each_takes zero bytes xs rest fits e = subst (λ (y : List A × List ℕ). (bytes ≡ flat_map s y.0 ++ y.1) × IsBytes y.1 × AllByRecursion F y.0 × (length y.0 ≡ 0)) (ok_is ([], bytes) (xs, rest) e) (refl, fits, tt, refl)
  each_takes (suc n) bytes xs rest fits e =
      let (x, here, after) = bind_ok (p bytes) (λ first. with_front (first.0 ∷ []) (each_at p n first.1)) (xs, rest) e in
      let (ys, there, end) = bind_ok (each_at p n x.1) (λ others. Ok ((x.0 ∷ []) ++ others.0, others.1)) (xs, rest) after in
      let (parts, first_fits, it) = one.takes bytes x.0 x.1 fits here in
      let (more, rest_fits, all, len) = each_takes n x.1 ys.0 ys.1 first_fits there in
      subst (λ (y : List A × List ℕ). (bytes ≡ flat_map s y.0 ++ y.1) × IsBytes y.1 × AllByRecursion F y.0 × (length y.0 ≡ suc n)) (ok_is (x.0 ∷ ys.0, ys.1) (xs, rest) end)
      (parts ∙ ap (λ (r : List ℕ). s x.0 ++ r) more ∙ sym (append_assoc (s x.0) (flat_map s ys.0) ys.1) ∙ ap (λ (f : List ℕ). f ++ ys.1) (sym (flat_map-cons s x.0 ys.0)), rest_fits, (it, all), ap suc len)

  each_again : (xs : List A) (rest : List ℕ) → AllByRecursion F xs → each_at p (length xs) (flat_map s xs ++ rest) ≡ Ok (xs, rest)
  unfolding each_at
  each_again [] rest all = refl
  each_again (x ∷ xs) rest all =
      let regrouped : flat_map s (x ∷ xs) ++ rest ≡ s x ++ (flat_map s xs ++ rest) = ap (λ (f : List ℕ). f ++ rest) (flat_map-cons s x xs) ∙ append_assoc (s x) (flat_map s xs) rest in
      ap (each_at p (suc (length xs))) regrouped
      ∙ bind_is (p (s x ++ (flat_map s xs ++ rest))) (x, flat_map s xs ++ rest) (λ first. with_front (first.0 ∷ []) (each_at p (length xs) first.1)) (Ok (x ∷ xs, rest)) (one.again x (flat_map s xs ++ rest) all.0)
      (ap (λ (r : Result (List A × List ℕ) RowFault). with_front (x ∷ []) r) (each_again xs rest all.1))

  pub list_reads : Reads (list_at p) (list_bytes s) (λ xs. IsCountable xs × AllByRecursion F xs)
  list_reads = record {
    takes = λ bytes xs rest fits e.
        let (n, here, after) = bind_ok (number_at w32 bytes) (λ n. each_at p n.0 n.1) (xs, rest) e in
        let (parts, then_fits, below) = four_read.takes bytes n.0 n.1 fits here in
        let (more, rest_fits, all, len) = each_takes n.0 n.1 xs rest then_fits after in
        (parts ∙ ap (λ (r : List ℕ). four_bytes n.0 ++ r) more ∙ sym (append_assoc (four_bytes n.0) (flat_map s xs) rest) ∙ ap (λ (k : ℕ). (four_bytes k ++ flat_map s xs) ++ rest) (sym len), rest_fits, (omega (arith, below, len), all));
    again = λ xs rest it.
        ap (list_at p) (append_assoc (four_bytes (length xs)) (flat_map s xs) rest)
        ∙ bind_is (number_at w32 (four_bytes (length xs) ++ (flat_map s xs ++ rest))) (length xs, flat_map s xs ++ rest) (λ n. each_at p n.0 n.1) (Ok (xs, rest)) (four_read.again (length xs) (flat_map s xs ++ rest) it.0) (each_again xs rest it.1);
  }
