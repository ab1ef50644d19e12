-- The table of validators with its lists, as it is seen, and what its calls make of it.
use Rattle.std.specs.Prelude.{◌≡◌, ℕ, List, [], ◌∷◌, ◌++◌, Option, Some, None}
use Rattle.base_types.specs.Orders.{addr_cmp}
use Rattle.base_roles.specs.declared.entities.Validator.{Validator}
use Rattle.base_roles.specs.Entries.{with, without}

-- validators by operator
abbrev pub Validators : Type 0
Validators = List (List ℕ × Validator)

-- The validators, those at each open mark with the latest last, those at the last settling, and how many tokens are one unit
-- of power.
pub record Listed : Type 0 where
  pub entries : Validators
  pub marks : List Validators
  pub settled : Validators
  pub power_reduction : ℕ

-- nothing stands yet
abbrev pub new_listed : ℕ → Listed
new_listed power_reduction = record { entries = []; marks = []; settled = []; power_reduction = power_reduction }

-- with other validators
abbrev pub having : Validators → Listed → Listed
having es l = record l { entries = es }

-- with one more mark
abbrev pub with_mark : Listed → Listed
with_mark l = record l { marks = l.marks ++ l.entries ∷ [] }

-- once it is settled
abbrev pub settled_now : Listed → Listed
settled_now l = record l { settled = l.entries }

-- the new one is the old one gone back to its latest mark, which is closed
pub record IsGoneBack (old new : Listed) : Type 0 where
  pub restored : new.marks ++ new.entries ∷ [] ≡ old.marks
  pub rest : new ≡ record old { entries = new.entries; marks = new.marks }

-- the new one is the old one with its latest mark closed
pub record IsForgotten (old new : Listed) : Type 0 where
  pub closed : (last : Validators) × (new.marks ++ last ∷ [] ≡ old.marks)
  pub rest : new ≡ record old { marks = new.marks }

-- the validators with this one under an operator, or with none
abbrev pub with_or_without : List ℕ → Option Validator → Validators → Validators
with_or_without operator None es = without addr_cmp es operator
with_or_without operator (Some v) es = with addr_cmp es operator v
