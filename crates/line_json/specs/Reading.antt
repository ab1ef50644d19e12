-- What a line gives: the tree that it spells, or a fault.
use Rattle.std.specs.Prelude.{◌≡◌, ℕ, List, if◌then◌else◌, Option, Some, None, Result, Ok, Err}
use Rattle.std.specs.Str.{is_utf8}
use Rattle.serde_json.specs.Data.{Data}
use Rattle.serde_json.specs.Read.{read}
use Rattle.base_coins.specs.Steps.{◌>>=◌}
use Rattle.base_messages.specs.declared.faults.LineFault.{LineFault}
use Rattle.base_messages.specs.declared.faults.LineFault.TheVariants.{NotJson, BadShape, NoMemory}

-- the value, or this fault where there is none
abbrev pub or_fault : {A : Type 0} → LineFault → Option A → Result A LineFault
or_fault fault None = Err fault
or_fault fault (Some x) = Ok x

-- A call's fault is that of the reading, unless memory was wanting.
abbrev pub Fails : {Y : Type 0} → LineFault → Result Y LineFault → Type 0
Fails NoMemory reading = Unit {0}
Fails NotJson reading = reading ≡ Err NotJson
Fails (BadShape number) reading = reading ≡ Err (BadShape number)

-- A call's answer, each value seen by `seen`, is what reading gives, unless memory was wanting.
abbrev pub Gives : {X Y : Type 0} → (X → Y) → Result X LineFault → Result Y LineFault → Type 0
Gives seen (Ok x) reading = reading ≡ Ok (seen x)
Gives seen (Err fault) reading = Fails fault reading

-- the tree that `serde_json` reads from a line
unfoldable pub tree_of : List ℕ → Result Data LineFault
tree_of line = or_fault NotJson (if is_utf8 line then read line else None)

-- what the tree of a line stands for, or the first fault of it
abbrev pub value_of : {A : Type 0} → (Data → Result A LineFault) → List ℕ → Result A LineFault
value_of form line = tree_of line >>= form
