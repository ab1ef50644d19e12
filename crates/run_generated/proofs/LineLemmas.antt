-- The line at a place of the generated input.
use Rattle.std.proofs.Common.{◌≡◌, ◌∙◌, ap, ap₂, sym, refl, arith, ℕ, zero, suc, ◌+◌, ◌-◌, ◌<◌, ◌==◌, false, Some, option_map, slice_get, if◌then◌else◌}
use Rattle.std.proofs.lemmas.Option.{slice_get-map}
use Rattle.run_generated.specs.Drawing.{Draw, in_turn, numbers_from}
use Rattle.run_generated.specs.Input.{block_at, block_drawn, blocks_of, first_genesis, state_behind}
use Rattle.run_generated.specs.Lines.{LinesByPlace, block_line, genesis_line}

-- what is drawn at a place is drawn behind what is drawn at those before it
value_at : {A : Type 0} (draw : ℕ → Draw A) (first many x k : ℕ) → k < many
    → slice_get (in_turn draw (numbers_from first many) x).value k ≡ Some (draw (first + k) (in_turn draw (numbers_from first k) x).state).value
value_at draw first zero x k h = absurd (omega (arith, h))
value_at draw first (suc more) x zero h =
    let same : first ≡ first + 0 = omega arith in
    ap (λ n. Some (draw n x).value) same
value_at draw first (suc more) x (suc k) h =
    let same : first + 1 + k ≡ first + suc k = omega arith in
    let less : k < more = omega (arith, h) in
    value_at draw (first + 1) more (draw first x).state k less
    ∙ ap (λ n. Some (draw n (in_turn draw (numbers_from (first + 1) k) (draw first x).state).state).value) same

pub lines_by_place : LinesByPlace
lines_by_place f seed many zero h = refl
lines_by_place f seed many (suc k) h =
    let less : k < many = omega (arith, h) in
    let height : 1 + k ≡ suc k = omega arith in
    let before : k ≡ suc k - 1 = omega arith in
    let later : (suc k == 0) ≡ false = grind arith in
    slice_get-map (block_line f) (blocks_of seed many) k
    ∙ ap (option_map (block_line f)) (value_at block_drawn 1 many seed k less)
    ∙ ap₂ (λ n b. Some (block_line f (block_drawn n (state_behind seed b)).value)) height before
    ∙ ap (λ b. Some (if b then genesis_line f first_genesis else block_line f (block_at seed (suc k)))) (sym later)
