-- What holds of whatever is drawn holds of all that is drawn in turn.
use Rattle.std.proofs.Common.{◌≡◌, ◌∙◌, ap, refl, arith, ℕ, zero, suc, ◌+◌, ◌-◌, ◌/◌, ◌%◌, ◌^◌, ◌<◌, ◌≤◌, ◌==◌, Bool, true, false, List, [], ◌∷◌, length, if◌then◌else◌, nat_lt, All}
use Rattle.std.{specs.List.AllByRecursion, proofs.lemmas.List.Elements.{All-cons, All-nil}}
use Rattle.base_messages.specs.declared.block.Tx.{Tx}
use Rattle.base_roles.specs.declared.messages.Evidence.{Evidence}
use Rattle.run_generated.specs.Drawing.{Draw, done, in_turn, next, numbers_from}
use Rattle.run_generated.specs.Input.{block_drawn, chance_drawn, evidence_drawn, offence_drawn, signer, time_at, tx_drawn, vote_drawn}

-- ---- numbers

-- as many values as there are numbers
length_drawn : {A : Type 0} (draw : ℕ → Draw A) (ns : List ℕ) (x : ℕ) → length (in_turn draw ns x).value ≡ length ns
length_drawn draw [] x = refl
length_drawn draw (n ∷ ns) x = ap suc (length_drawn draw ns (draw n x).state)

length_numbers : (first many : ℕ) → length (numbers_from first many) ≡ many
length_numbers first zero = refl
length_numbers first (suc many) = ap suc (length_numbers (first + 1) many)

pub so_many : {A : Type 0} (draw : ℕ → Draw A) (first many x : ℕ) → length (in_turn draw (numbers_from first many) x).value ≡ many
so_many draw first many x = length_drawn draw (numbers_from first many) x ∙ length_numbers first many

-- numbers up to a greatest one
pub numbers_within : (first many most : ℕ) → first + many ≤ most + 1 → AllByRecursion (λ n. n ≤ most) (numbers_from first many)
numbers_within first zero most h = tt
numbers_within first (suc many) most h =
    let here : first ≤ most = omega (arith, h) in
    let there : first + 1 + many ≤ most + 1 = omega (arith, h) in
    (here, numbers_within (first + 1) many most there)

-- ---- values

-- what holds of whatever a draw gives holds of all that is drawn
pub each_so : {A : Type 0} (P : A → Type 0) (draw : ℕ → Draw A) → ((n x : ℕ) → P (draw n x).value) → (ns : List ℕ) (x : ℕ) → All P (in_turn draw ns x).value
each_so P draw h [] x = All-nil P
each_so P draw h (n ∷ ns) x = All-cons P (draw n x).value (in_turn draw ns (draw n x).state).value (h n x) (each_so P draw h ns (draw n x).state)

pub each_in_turn : {A : Type 0} (P : A → Type 0) (draw : ℕ → Draw A) → ((n x : ℕ) → P (draw n x).value) → (ns : List ℕ) (x : ℕ) → AllByRecursion P (in_turn draw ns x).value
each_in_turn P draw h [] x = tt
each_in_turn P draw h (n ∷ ns) x = (h n x, each_in_turn P draw h ns (draw n x).state)

-- so it is of numbers that have a property
pub each_of : {A : Type 0} (P : A → Type 0) (R : ℕ → Type 0) (draw : ℕ → Draw A) → ((n x : ℕ) → R n → P (draw n x).value) → (ns : List ℕ) (x : ℕ) → AllByRecursion R ns → AllByRecursion P (in_turn draw ns x).value
each_of P R draw h [] x r = tt
each_of P R draw h (n ∷ ns) x r = (h n x r.0, each_of P R draw h ns (draw n x).state r.1)

-- ---- parts of a block

below_four : (y : ℕ) → y % 4 < 4
below_four y = omega arith

-- what holds of up to three transactions that are drawn holds of those of a block
pub txs_so : (P : List Tx → Type 0) → ((many x : ℕ) → many < 4 → P (in_turn (λ place. tx_drawn) (numbers_from 0 many) x).value) → (height x : ℕ) → P (block_drawn height x).value.txs
txs_so P h height x =
    let s = (evidence_drawn height (in_turn vote_drawn (numbers_from 0 10) x).state).state in
    h (next s / 2 ^ 33 % 4) (next s) (below_four (next s / 2 ^ 33))

below_ten : (y : ℕ) → y % 10 < 10
below_ten y = omega arith

-- what holds of no evidence, and of one piece of the block before, holds of a block's
pub evidence_so : (P : List Evidence → Type 0) (height : ℕ) → P []
    → ((offender : ℕ) → offender < 10 → P (record { cons = signer offender; height = height - 1; time = time_at (height - 1); power = 10 } ∷ []))
    → (x : ℕ) → P (evidence_drawn height x).value
evidence_so P height none one x = early (nat_lt height 2)
  where
    offended : (y : ℕ) → P (offence_drawn height y).value
    offended y = one (next y / 2 ^ 33 % 10) (below_ten (next y / 2 ^ 33))

    rare : (y : ℕ) (c : Bool) → P ((if c then offence_drawn height else done []) y).value
    rare y true = offended y
    rare y false = none

    early : (b : Bool) → P ((if b then done [] else chance_drawn height) x).value
    early true = none
    early false = rare (next x) (next x / 2 ^ 33 % 500 == 0)
