-- Answers of one step within another, of messages that change entries and delegations.
use Rattle.std.proofs.Common.{◌≡◌, ℕ, refl, sym, ap, subst, Ok, Err, Result}
use Rattle.base_decimals.specs.declared.over.Over.{Over}
use Rattle.base_roles.specs.declared.{faults.HookFault.HookFault, refusal.Refusal.{Refusal, TheVariants.Overflow}}
use Rattle.base_roles.specs.{Answers.Follows, Flow.{◌>>=◌, stopping}, Stops.stop_of_hook, World.{View, World}}
use Rattle.base_roles.specs.declared.faults.HookFault.TheVariants as hook
use Rattle.base_roles.specs.declared.faults.MessageFault.TheVariants as stop
use Rattle.mod_entries.specs.Answers.{AnswersBoth}

pub answers_no_memory : {A U S H : Type 0} (r : Result (A × U × World S H) Refusal) (u : U) (s : S) (holds : H → Type 0) (v : View) → AnswersBoth r u s holds v (Err stop.NoMemory)
answers_no_memory (Ok p) u s holds v = tt
answers_no_memory (Err due) u s holds v = tt

pub answers_refused : {A U S H : Type 0} (r : Result (A × U × World S H) Refusal) (u : U) (s : S) (holds : H → Type 0) (v : View) (why : Refusal) → r ≡ Err why → AnswersBoth r u s holds v (Err (stop.Refused why))
answers_refused r u s holds v why e = subst (λ x. AnswersBoth x u s holds v (Err (stop.Refused why))) (sym e) refl

-- a call that is lent the delegations exceeds, or wants memory
pub answers_fault : {A U S H : Type 0} (r : Result (ℕ × World S H) Over) (f : ℕ × World S H → Result (A × U × World S H) Refusal) (s1 s : S) (holds1 holds : H → Type 0) (v1 v : View) (u : U) (fault : HookFault)
    → Follows r s1 holds1 v1 (Err fault) → AnswersBoth (stopping Overflow r >>= f) u s holds v (Err (stop_of_hook fault))
answers_fault (Ok p) f s1 s holds1 holds v1 v u (hook.Over over) l = absurd l
answers_fault (Ok p) f s1 s holds1 holds v1 v u hook.NoMemory l = answers_no_memory (f p) u s holds v
answers_fault (Err due) f s1 s holds1 holds v1 v u (hook.Over over) l = ap Overflow l
answers_fault (Err due) f s1 s holds1 holds v1 v u hook.NoMemory l = tt
