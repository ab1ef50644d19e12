-- What a rule reads and leaves, and what hooks tell.
use Rattle.std.specs.Prelude.{ℕ, List, [], ◌∷◌, ◌++◌, Result, Ok, Err}
use Rattle.base_decimals.specs.declared.over.Over.{Over}
use Rattle.base_types.specs.declared.account.Module.{Module}
use Rattle.base_types.specs.declared.account.Account.{Account}
use Rattle.base_types.specs.declared.account.Account.TheVariants as account
use Rattle.base_coins.specs.Coins.{Money}
pub use Rattle.base_roles.specs.declared.calls.Hook.{Hook}
pub use Rattle.base_roles.specs.declared.calls.Hook.TheVariants.{Created as created, Removed as removed, Bonded as bonded, Starting as starting, Modifying as modifying, Modified as modified, Slashing as slashing}
use Rattle.base_roles.specs.declared.facts.Fact.{Fact}
use Rattle.base_roles.specs.declared.params.Ctx.{Ctx}
use Rattle.base_roles.specs.Holdings.{Holdings, moved, burned, transfer_told, burn_told}
use Rattle.base_roles.specs.Log.{Log, LogEntry}

-- a ground: what the bank holds, where the call happens, and the facts so far
pub record View : Type 0 where
  pub bank : Holdings
  pub ctx : Ctx
  pub facts : List Fact

-- what is told of a hook: what the hooks then hold, the ground then and what is logged; or an excess
pub data Told (H : Type 0) : Type 0 where
  gives : H → View → Log → Told H
  exceeds : Over → Told H

-- what a module holds, what the hooks hold, the ground, and what was logged
pub record World (S H : Type 0) : Type 0 where
  pub mine : S
  pub hooks : H
  pub view : View
  pub log : Log

-- the ground with one more fact
abbrev pub noted : Fact → View → View
noted f v = record v { facts = v.facts ++ f ∷ [] }

-- the ground after coins were sent
abbrev pub sent : Account → Account → Money → View → View
sent from to coins v = record { bank = moved from to coins v.bank; ctx = v.ctx; facts = transfer_told from to coins v.facts }

-- the ground after a coin of a module was burned
abbrev pub burnt : Module → List ℕ → ℕ → View → View
burnt from d n v = record { bank = burned (account.Module from) d n v.bank; ctx = v.ctx; facts = burn_told from d n v.facts }

module _ {S H : Type 0} where
  -- with another ground
  abbrev pub over_view : (View → View) → World S H → World S H
  over_view f w = record w { view = f w.view }

  -- with other records of the module
  abbrev pub over_mine : (S → S) → World S H → World S H
  over_mine f w = record w { mine = f w.mine }

  -- with one more entry in the log
  abbrev pub logged : List ℕ → LogEntry → World S H → World S H
  logged operator e w = record w { log = w.log ++ (operator, e) ∷ [] }

  -- after a hook of which this is told
  abbrev pub hooked : Told H → World S H → Result (World S H) Over
  hooked (gives h v l) w = Ok (record { mine = w.mine; hooks = h; view = v; log = w.log ++ l })
  hooked (exceeds over) w = Err over

  -- after a call of a hook
  abbrev pub call : (H → Hook → View → Told H) → Hook → World S H → Result (World S H) Over
  call told hook w = hooked (told w.hooks hook w.view) w
