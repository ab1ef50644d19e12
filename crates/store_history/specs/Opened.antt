-- Why no history is kept, from what a keeper answers.
use Rattle.std.specs.Prelude.{Result, Ok, Err}
use Rattle.base_io.specs.declared.keeper.KeepFault.{KeepFault}
use Rattle.base_io.specs.declared.keeper.KeepFault.TheVariants as keep
use Rattle.store_history.specs.declared.loading.OpenFault.{OpenFault}
use Rattle.store_history.specs.declared.loading.OpenFault.TheVariants.{Failed, BadHistory, NoMemory}

abbrev pub open_fault : KeepFault → OpenFault
open_fault keep.Failed = Failed
open_fault keep.NoMemory = NoMemory

-- The fact holds where rows were loaded: whether a history in them is of its form or not.
abbrev pub OnLoaded : {X : Type 0} → Result X OpenFault → Type 0 → Type 0
OnLoaded (Ok x) fact = fact
OnLoaded (Err Failed) fact = Unit {0}
OnLoaded (Err BadHistory) fact = fact
OnLoaded (Err NoMemory) fact = Unit {0}

-- The fact holds, unless the keeper failed.
abbrev pub UnlessFailed : {X : Type 0} → Result X OpenFault → Type 0 → Type 0
UnlessFailed (Ok x) fact = fact
UnlessFailed (Err Failed) fact = Unit {0}
UnlessFailed (Err BadHistory) fact = fact
UnlessFailed (Err NoMemory) fact = fact
