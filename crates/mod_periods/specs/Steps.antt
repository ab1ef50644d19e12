-- What one call makes of the records that are kept, step by step of the code; the public contracts say it in the words of
-- the rules.
use Rattle.std.specs.Prelude.{ℕ, ◌+◌, ◌-◌, ◌^◌, ◌==◌, List, [], Option, Some, None, unwrap_or, Result, Ok}
use Rattle.base_decimals.specs.declared.over.Over.{Over}
use Rattle.base_decimals.specs.Decimals.{period_over}
use Rattle.base_coins.specs.Coins.{Money, coins_added}
use Rattle.base_roles.specs.declared.entities.Historical.{Historical}
use Rattle.base_roles.specs.declared.entities.SlashEvent.{SlashEvent}
use Rattle.base_roles.specs.declared.entities.StartingInfo.{StartingInfo}
use Rattle.base_roles.specs.Flow.{◌>>=◌, ◌>>◌, stop_if}
use Rattle.mod_periods.specs.Kept.{Kept, current_of, record_of, with_current, with_record, with_info, without_info, with_event, referred, released}

-- the period that runs
abbrev pub running : Kept → List ℕ → ℕ
running k operator = unwrap_or (current_of k operator) 0

abbrev pub ratio_in : Option Historical → Money
ratio_in None = []
ratio_in (Some h) = h.ratio

-- the ratio in the record of a period
abbrev pub ratio_of : Kept → List ℕ → ℕ → Money
ratio_of k operator period = ratio_in (record_of k operator period)

-- the ratio of the period that runs, once it ends with this increment
abbrev pub next_ratio : Money → List ℕ → Kept → Result Money Over
next_ratio increment operator k = do
  ratio ← coins_added (ratio_of k operator (running k operator - 1)) increment
  stop_if (running k operator == 10 ^ 18) period_over
  Ok ratio

-- a new operator's records
abbrev pub made_kept : List ℕ → Kept → Kept
made_kept operator k = with_current operator 1 (with_record operator 0 [] 1 k)

-- the period that runs has ended with this ratio
abbrev pub ended_kept : Money → List ℕ → Kept → Kept
ended_kept ratio operator k = with_current operator (running k operator + 1)
    (released operator (running k operator - 1) (with_record operator (running k operator) ratio 1 k))

-- the rewards of a delegation begin behind the last ended period
abbrev pub started_kept : List ℕ → List ℕ → StartingInfo → Kept → Kept
started_kept delegator operator s k = referred operator s.period (with_info delegator operator s k)

-- a slash event stands
abbrev pub slashed_kept : List ℕ → SlashEvent → Kept → Kept
slashed_kept operator e k = referred operator e.period (with_event operator e k)

-- a start that stood is gone, with its reference
abbrev pub stopped_kept : List ℕ → List ℕ → Option StartingInfo → Kept → Kept
stopped_kept delegator operator None k = without_info delegator operator k
stopped_kept delegator operator (Some s) k = released operator s.period (without_info delegator operator k)
