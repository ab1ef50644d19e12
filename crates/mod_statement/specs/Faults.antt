-- The faults of the sums that bounds are made of.
use Rattle.std.specs.Prelude.{◌≡◌, Result, Err}
use Rattle.base_decimals.specs.declared.over.Over.{Over}
use Rattle.base_coins.specs.declared.fault.CoinFault.{CoinFault}
use Rattle.base_coins.specs.declared.fault.CoinFault.TheVariants as fault

-- what is due is over, with these operands; or memory is wanting
abbrev pub IsOverDue : {A : Type 0} → Result A Over → CoinFault → Type 0
IsOverDue due (fault.Over over) = due ≡ Err over
IsOverDue due fault.NoMemory = Unit {0}
IsOverDue due (fault.Short place) = ⊥
IsOverDue due fault.Repeated = ⊥
