-- Members that are objects or lists.
use Rattle.std.specs.Prelude.{ℕ, List, [], ◌∷◌, ◌++◌, Result, Ok}
use Rattle.serde_json.specs.Data.{Data, Items, no_items, item}
use Rattle.serde_json.specs.Find.{get, as_array}
use Rattle.base_coins.specs.Steps.{◌>>=◌}
use Rattle.base_messages.specs.declared.faults.LineFault.{LineFault}
use Rattle.base_messages.specs.declared.faults.LineFault.TheVariants.{BadShape}
use Rattle.line_json.specs.Reading.{or_fault}
use Rattle.line_json.specs.Members.{member_at}

-- the member of this name, which has to be there, walked in full
abbrev pub object_at : {A : Type 0} → (Data → Result A LineFault) → ℕ → List ℕ → Data → Result A LineFault
object_at form number name d = or_fault (BadShape number) (get name d) >>= form

-- these values, and behind them those that reading gives
abbrev pub with_front : {A : Type 0} → List A → Result (List A) LineFault → Result (List A) LineFault
with_front front reading = reading >>= λ rest. Ok (front ++ rest)

-- every element, in order, each walked in full
abbrev pub each_element : {A : Type 0} → (Data → Result A LineFault) → Items → Result (List A) LineFault
each_element form no_items = Ok []
each_element form (item d ds) = form d >>= λ x. with_front (x ∷ []) (each_element form ds)

-- the member of this name, which has to be a list, and its elements
abbrev pub list_at : {A : Type 0} → (Data → Result A LineFault) → ℕ → List ℕ → Data → Result (List A) LineFault
list_at form number name d = member_at as_array number name d >>= each_element form
