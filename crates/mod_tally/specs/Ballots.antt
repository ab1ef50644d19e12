-- Ballots: what each voter chose.
use Rattle.std.specs.Prelude.{ℕ, Bool, true, false, if◌then◌else◌, List, [], ◌∷◌, Option, Some, None}
use Rattle.std.specs.Option.{option_or}
use Rattle.base_roles.specs.Orders.{same_addr}
use Rattle.mod_tally.specs.declared.choice.Choice.{Choice}
use Rattle.mod_tally.specs.declared.choice.Choice.TheVariants.{Yes, Abstain, No, Veto}

-- what voters chose; nothing of one who cast no ballot
abbrev pub Chosen : Type 0
Chosen = List ℕ → Option Choice

-- ballots, by voter, in the order in which they were cast
abbrev pub Cast : Type 0
Cast = List (List ℕ × Choice)

-- the choice of a voter's last ballot
abbrev pub chosen_in : Cast → Chosen
chosen_in [] voter = None
chosen_in (b ∷ later) voter =
    option_or (chosen_in later voter) (if same_addr b.0 voter then Some b.1 else None)

-- whether two choices are one
abbrev pub same_choice : Choice → Choice → Bool
same_choice Yes Yes = true
same_choice Abstain Abstain = true
same_choice No No = true
same_choice Veto Veto = true
same_choice _ _ = false

-- whether a voter chose this
abbrev pub is_for : Option Choice → Choice → Bool
is_for None choice = false
is_for (Some chosen) choice = same_choice chosen choice
