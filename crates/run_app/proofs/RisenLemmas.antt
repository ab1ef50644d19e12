-- A block leads to a greater height, so what it leads to is a commit that every keeper takes.
use Rattle.std.proofs.Common.{◌≡◌, ◌∙◌, ℕ, ◌+◌, ◌<◌, ◌^◌, List, [], ◌∷◌, length, Option, Some, None, Ok, refl, sym, subst, arith, Contains}
use Rattle.base_bech32.specs.declared.form.Form.{Form}
use Rattle.line_json.specs.Block.{block_of}
use Rattle.rule_machine.specs.Machine.{step}
use Rattle.rule_modules.specs.{Chain.State, Sound.IsSound}
use Rattle.law_soundness.proofs.{Burns.total_in, Points.to_fits, Running.{StepFits, block_fits}, Steps.from_if}
use Rattle.store_commits.specs.Held.{HasRisen}
use Rattle.chain_whole.specs.Chained.{Chained}
use Rattle.run_app.specs.{Kept.HasGrown, Machine.{SettledAt, Standing, block_answer}, Runs.AreAnswered}
use Rattle.run_app.proofs.{ReadLemmas.{block_has_coins, height_is_low, its_coins}, OnwardLemmas.step_sound}
use Rattle.run_app.proofs.SoundLemmas.{Led, block_led, next_height, within}

some_state : (p q : State) → Some p ≡ Some q → p ≡ q
some_state p q e = cc

pub block_rises : (form : Form) (n : ℕ) (line : List ℕ) (p : State) → IsSound p → (text : List ℕ) (next : Standing) (q : State) → block_answer form n p (block_of form line) ≡ Ok (record { text = text; standing = next }) → next ≡ Some q
    → HasRisen p q
block_rises form n line p sound text next q is at =
    let P : List ℕ → Type 0 = Contains sound.few.some in
    let b : Led form line p (record { text = text; standing = next }) = block_led form n line p (block_of form line) refl (record { text = text; standing = next }) is in
    let height = next_height b.block p b.done b.done_is in
    let high = height_is_low form line b.block b.line_is in
    let room : p.view.ctx.height + 1 < 2 ^ 63 = omega (arith, height, high) in
    let coins = its_coins b.block (block_has_coins form line b.block b.line_is) in
    let after : StepFits P p b.done = from_if (StepFits P p) (step b.block p) b.done b.done_is (block_fits P b.block (total_in p.view) p coins (to_fits p sound) room) in
    let grown = after.height in
    let same : b.done.state ≡ q = some_state b.done.state q (sym b.standing_is ∙ at) in
    subst (HasRisen p) same (omega (arith, grown))

-- so do blocks, of which there is at least one
pub blocks_rise : (form : Form) (n : ℕ) (line : List ℕ) (lines : List (List ℕ)) (p : State) → IsSound p → (text : List ℕ) (end : Standing) (q : State) → AreAnswered form n (Some p) (line ∷ lines) text end → end ≡ Some q → HasRisen p q
blocks_rise form n line [] p sound text end q good at =
    let w = within form n (Some p) line good.0 good.2 in
    block_rises form n line p sound good.0.text good.0.standing q w.is (sym good.4.1 ∙ at)
blocks_rise form n line (line' ∷ lines) p sound text end q good at =
    let w = within form n (Some p) line good.0 good.2 in
    let b : Led form line p good.0 = block_led form n line p (block_of form line) refl good.0 w.is in
    let height = next_height b.block p b.done b.done_is in
    let high = height_is_low form line b.block b.line_is in
    let room : p.view.ctx.height + 1 < 2 ^ 63 = omega (arith, height, high) in
    let first : HasRisen p b.done.state = block_rises form n line p sound good.0.text good.0.standing b.done.state w.is b.standing_is in
    let next : IsSound b.done.state = step_sound b.block p b.done sound (block_has_coins form line b.block b.line_is) room b.done_is in
    let rest : AreAnswered form (n + 1) (Some b.done.state) (line' ∷ lines) good.1 end = rw b.standing_is at good.4 in
    let second : HasRisen b.done.state q = blocks_rise form (n + 1) line' lines b.done.state next good.1 end q rest at in
    omega (arith, first, second)

-- the same of where lines led that wait
pub lines_grow : (form : Form) (n : ℕ) (s t : Standing) (lines : List (List ℕ)) (text : List ℕ) → 0 < length lines → ((p : State) → s ≡ Some p → IsSound p) → AreAnswered form n s lines text t → HasGrown s t
lines_grow form n None t lines text some sound good = tt
lines_grow form n (Some p) None lines text some sound good = tt
lines_grow form n (Some p) (Some q) [] text some sound good = absurd (omega (arith, some))
lines_grow form n (Some p) (Some q) (line ∷ lines) text some sound good = blocks_rise form n line lines p (sound p refl) text (Some q) q good refl

-- and what was settled of a chain stands for a sound state
pub settled_sound : (o : Option Chained) (s : Standing) → SettledAt o s → (p : State) → s ≡ Some p → IsSound p
settled_sound None s same p is = absurd (never p (sym same ∙ is))
  where
    never : (p : State) → None ≡ Some p → ⊥
    never p e = cc
settled_sound (Some x) s same p is = let here : SettledAt (Some x) (Some p) = subst (SettledAt (Some x)) is same in here.sound
