-- What the rows of items tell before they are read.
use Rattle.std.proofs.Common.{◌≡◌, ◌∙◌, ℕ, ◌<◌, Bool, true, false, List, ◌++◌, length, Option, Some, None, Result, Ok, Err, refl, sym, ap, subst, w32}
use Rattle.base_coins.specs.Steps.{◌>>=◌}
use Rattle.base_io.specs.Rows.{Pair}
use Rattle.base_roles.specs.declared.items.Item.{Item}
use Rattle.base_roles.specs.declared.items.Item.TheVariants as item
use Rattle.store_rows.specs.declared.{fault.RowFault.{RowFault, TheVariants.BadRow}, format.Format.Format}
use Rattle.store_rows.specs.declared.format.Format.TheVariants.{First, Second}
use Rattle.store_rows.specs.Fields.{four_bytes, list_bytes, missed_of, packed, packed_len, ring_bytes}
use Rattle.store_rows.specs.{Reading.{info_at, length_at, number_at}, Rows.{info_bytes, key_bytes, row_in, value_in}}
use Rattle.store_rows.{specs.{Spelled.{HasRow, IsCountable}, Told.window_of}, proofs.ReadsLemmas.{bind_is, ok_is}}
use Rattle.store_rows.proofs.{NumberLemmas.four_read, RecordLemmas.info_reads}

-- a ring begins with its length
length_first : (f : Format) (ring : List Bool) → IsCountable ring → (number_at w32 (ring_bytes f ring) >>= λ n. Ok n.0) ≡ Ok (length ring)
length_first First ring count =
    let rest = packed (packed_len (length ring)) ring in
    bind_is (number_at w32 (four_bytes (length ring) ++ rest)) (length ring, rest) (λ n. Ok n.0) (Ok (length ring)) (four_read.again (length ring) rest count) refl
length_first Second ring count =
    let rest = list_bytes four_bytes (missed_of ring) in
    bind_is (number_at w32 (four_bytes (length ring) ++ rest)) (length ring, rest) (λ n. Ok n.0) (Ok (length ring)) (four_read.again (length ring) rest count) refl

abbrev told : Option ℕ → Result ℕ RowFault
told None = Err BadRow
told (Some n) = Ok n

length_told : (f : Format) (i : Item) → HasRow i → length_at (key_bytes i) (value_in f i) ≡ told (window_of i)
unfolding length_at
length_told f (item.Head height time) h = refl
length_told f (item.Parameters params) h = refl
length_told f (item.Balance account denom amount) h = refl
length_told f (item.Supply denom amount) h = refl
length_told f (item.Validator validator) h = refl
length_told f (item.Delegation operator delegator shares) h = refl
length_told f (item.Unbonding delegator operator entries) h = refl
length_told f (item.Redelegation delegator source target entries) h = refl
length_told f (item.Signing cons info ring) h =
    bind_is (info_at (info_bytes info ++ ring_bytes f ring)) (info, ring_bytes f ring) (λ i. number_at w32 i.1 >>= λ n. Ok n.0) (Ok (length ring)) (info_reads.again info (ring_bytes f ring) h.1.1) (length_first f ring h.0)
length_told f (item.Purse operator purse) h = refl
length_told f (item.Pool coins) h = refl
length_told f (item.Withdraw delegator to) h = refl
length_told f (item.CurrentPeriod operator period) h = refl
length_told f (item.Historical operator period history) h = refl
length_told f (item.Start operator delegator info) h = refl
length_told f (item.Event operator event) h = refl

told_some : (o : Option ℕ) (n : ℕ) → told o ≡ Ok n → o ≡ Some n
told_some None n e = absurd cc
told_some (Some m) n e = ap (λ k. Some k) (ok_is m n e)

pub window_is : (f : Format) (i : Item) (key value : List ℕ) (n : ℕ) → HasRow i → row_in f i ≡ (key, value) → length_at key value ≡ Ok n → window_of i ≡ Some n
window_is f i key value n has same e =
    told_some (window_of i) n (sym (length_told f i has) ∙ ap (λ (p : Pair). length_at p.0 p.1) same ∙ e)
