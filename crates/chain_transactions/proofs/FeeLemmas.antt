-- The fee of a transaction: what its law gives, and modules that are steady behind it.
use Rattle.std.proofs.Common.{◌≡◌, ◌∙◌, ℕ, true, List, Ok, Err, sym, ap, IfOk, Contains}
use Rattle.base_types.specs.declared.account.Account.TheVariants as account
use Rattle.base_types.specs.declared.account.Module.TheVariants as holder
use Rattle.base_coins.specs.Coins.{Money, IsMoney}
use Rattle.base_roles.specs.{declared.{params.Ctx.Ctx, refusal.Refusal.TheVariants.FeeUnpaid}, Holdings.is_short}
use Rattle.base_roles.specs.{Flow.{◌>>◌, stop_if}, World.{View, over_view, sent}}
use Rattle.rule_modules.specs.{Chain.State, Effects.fee_paid, StepLaws.AreWhole, Sound.IsSound}
use Rattle.law_soundness.proofs.{Burns.total_in, Leaving.to_whole, Moves.fee_fits}
use Rattle.law_soundness.proofs.{Points.{StateLeft, from_fits, to_fits}, Steps.{from_if, weaker_if}}
use Rattle.chain_modules.specs.declared.modules.Modules.{Modules}
use Rattle.chain_modules.specs.{Kept.{KeptState, Keeps, StandsWhole, AreSteady, kept_of}, Marks.GoOn}
use Rattle.chain_modules.proofs.StandLemmas.{whole_same}
use Rattle.chain_transactions.proofs.EndLemmas.{IsNext, from_whole}

fee_next : (payer : List ℕ) (fee : Money) (p : State) → IsMoney fee → IsSound p → AreWhole p → IfOk (fee_paid payer fee p) (IsNext p)
fee_next payer fee p money s whole =
    let P : List ℕ → Type 0 = Contains s.few.some in
    let T : List ℕ → ℕ = total_in p.view in
    weaker_if (fee_paid payer fee p) (StateLeft P T p) (IsNext p) (fee_fits P T payer fee money p (to_fits p s))
    (λ due k. record { sound = from_fits due s.few.some T s.few.few k.fits; whole = from_whole due (k.whole (to_whole p whole)) })

-- what represents the state after a fee stands for it
pub fee_stands : (payer : List ℕ) (fee : Money) (p : State) (k k2 : KeptState) → IsMoney fee → StandsWhole k p → (due : State) × (fee_paid payer fee p ≡ Ok due) × Keeps k2 due → (due : State) × (fee_paid payer fee p ≡ Ok due) × StandsWhole k2 due
fee_stands payer fee p k k2 money s d =
    let n = from_if (IsNext p) (fee_paid payer fee p) d.0 d.1 (fee_next payer fee p money s.sound s.whole) in
    (d.0, d.1, record { keeps = d.2; sound = n.sound; whole = n.whole })

-- modules that stand for another state go on steady
pub steady_then : {E : Type 0} (old new : Modules E) → AreSteady old → GoOn old new → (due : State) → StandsWhole (kept_of new) due → AreSteady new
steady_then old new s on due stands = record {
  power = ap (λ b. b.staking.power_reduction) on.behind ∙ s.power ∙ ap (λ (c : Ctx). c.params.power_reduction) (sym on.ctx);
  state = due;
  stands = stands;
}

-- the same behind a fee that was paid
pub fee_steady : {E : Type 0} (payer : List ℕ) (fee : Money) (old new : Modules E) → AreSteady old → GoOn old new → ((p : State) → StandsWhole (kept_of old) p → (due : State) × (fee_paid payer fee p ≡ Ok due) × StandsWhole (kept_of new) due) → AreSteady new
fee_steady payer fee old new s on paid = let d = paid s.state s.stands in steady_then old new s on d.0 d.2
