-- The parts of a block's end, from what each leads to, and one after another.
use Rattle.std.proofs.Common.{Result, Ok, Err}
use Rattle.std.specs.Prelude.{⊤}
use Rattle.base_decimals.specs.declared.over.Over.{Over}
use Rattle.base_roles.specs.{declared.faults.HookFault.HookFault, Flow.{◌>>=◌}}
use Rattle.rule_modules.specs.Chain.{State}
use Rattle.chain_modules.specs.{declared.modules.Modules.Modules, Kept.{StandsWhole, AreSteady, kept_of}, Marks.GoOn}
use Rattle.chain_modules.proofs.MarkLemmas.{then_on}
use Rattle.chain_blocks.{specs.Answers.{Leads, TakesStep}, proofs.EndLemmas.steady_on}
use Rattle.chain_blocks.proofs.LeadLemmas.{stop_leads, then_leads}

pub takes : {E : Type 0} (step : State → Result State Over) (old new : Modules E) (answer : Result ⊤ HookFault) → AreSteady old → GoOn old new → ((p : State) → StandsWhole (kept_of old) p → Leads StandsWhole (step p) (kept_of new) answer)
    → TakesStep step old new answer
takes step old new answer s on leads = record { leads = leads; steady = steady_on step old new answer s on leads; go_on = on }

module _ {E : Type 0} (f g : State → Result State Over) (old mid new : Modules E) where
  -- the first part was taken, and then the second
  pub then_takes : (answer : Result ⊤ HookFault) → TakesStep f old mid (Ok tt) → TakesStep g mid new answer → TakesStep (λ p. f p >>= g) old new answer
  then_takes answer a b = record {
    leads = then_leads StandsWhole StandsWhole StandsWhole f g (kept_of old) (kept_of mid) (kept_of new) answer a.leads b.leads;
    steady = b.steady;
    go_on = then_on old mid new a.go_on b.go_on;
  }

-- the first part stopped
pub stop_takes : {E : Type 0} (f g : State → Result State Over) (old mid : Modules E) (fault : HookFault) → TakesStep f old mid (Err fault) → TakesStep (λ p. f p >>= g) old mid (Err fault)
stop_takes f g old mid fault a = record {
  leads = stop_leads StandsWhole StandsWhole StandsWhole f g (kept_of old) (kept_of mid) (kept_of mid) fault a.leads;
  steady = tt;
  go_on = a.go_on;
}
