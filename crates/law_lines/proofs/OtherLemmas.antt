-- The lines of a genesis, of a block itself and of outcomes tell no fact.
use Rattle.std.proofs.Common.{◌≡◌, ℕ, [], None, codes, refl, arith}
use Rattle.serde_json.specs.{Data.Data, Written.compact_text}
use Rattle.base_bech32.specs.declared.form.Form.{Form}
use Rattle.base_coins.specs.Coins.{Money}
use Rattle.base_roles.specs.declared.refusal.Refusal.{Refusal}
use Rattle.base_roles.specs.declared.refusal.Refusal.TheVariants as refusal
use Rattle.base_messages.specs.declared.report.Outcome.{Outcome}
use Rattle.base_messages.specs.declared.report.Outcome.TheVariants as outcome
use Rattle.line_json.specs.{Line.told_at, Outcomes.{outcome_data, refused_members}, Written.{block_data, genesis_data}}
use Rattle.line_json.proofs.WrittenLemmas.{IsPlain, count, end, more, text, whole, whole_object}
use Rattle.law_lines.specs.{Ranges.{IsCount, IsOutcome, IsReason}, Reading.{fact_in, told_by}}
use Rattle.law_lines.proofs.FactLemmas.{read_as}

-- data that is read back, and tells no fact
abbrev TellsNothing : Form → Data → Type 0
TellsNothing f d = IsPlain 3 d × (told_by f d ≡ None)

nothing_read : (f : Form) (d : Data) → TellsNothing f d → fact_in f (compact_text d) ≡ None
nothing_read f d h = read_as f d None h.0 h.1

-- a refusal of this number, where nothing more is told of the reason
refused : (f : Form) (h place message number : ℕ) → IsCount h → IsCount place → IsCount message → IsCount number
    → TellsNothing f (told_at h (codes "refused") (refused_members place message number []))
refused f h place message number few i j k = (whole_object (more (count few) (more text (more (count j) (more (count k) (more (count i) end))))), refl)

reason_tells_nothing : (f : Form) (h place message : ℕ) (reason : Refusal) → IsCount h → IsCount place → IsCount message → IsReason reason
    → TellsNothing f (outcome_data h place (outcome.Refused message reason))
reason_tells_nothing f h place message refusal.InsufficientFunds few i j r = refused f h place message 1 few i j (omega arith)
reason_tells_nothing f h place message refusal.ModuleRecipient few i j r = refused f h place message 2 few i j (omega arith)
reason_tells_nothing f h place message refusal.WrongDenom few i j r = refused f h place message 3 few i j (omega arith)
reason_tells_nothing f h place message refusal.NonPositive few i j r = refused f h place message 4 few i j (omega arith)
reason_tells_nothing f h place message refusal.NoValidator few i j r = refused f h place message 5 few i j (omega arith)
reason_tells_nothing f h place message refusal.ValidatorExists few i j r = refused f h place message 6 few i j (omega arith)
reason_tells_nothing f h place message refusal.ConsKeyExists few i j r = refused f h place message 7 few i j (omega arith)
reason_tells_nothing f h place message refusal.CommissionRange few i j r = refused f h place message 8 few i j (omega arith)
reason_tells_nothing f h place message refusal.CommissionBelowMinimum few i j r = refused f h place message 9 few i j (omega arith)
reason_tells_nothing f h place message refusal.CommissionTooSoon few i j r = refused f h place message 10 few i j (omega arith)
reason_tells_nothing f h place message refusal.CommissionAboveMax few i j r = refused f h place message 11 few i j (omega arith)
reason_tells_nothing f h place message refusal.CommissionStep few i j r = refused f h place message 12 few i j (omega arith)
reason_tells_nothing f h place message refusal.MinSelfNotPositive few i j r = refused f h place message 13 few i j (omega arith)
reason_tells_nothing f h place message refusal.SelfBelowMinimum few i j r = refused f h place message 14 few i j (omega arith)
reason_tells_nothing f h place message refusal.MinSelfNotRaised few i j r = refused f h place message 15 few i j (omega arith)
reason_tells_nothing f h place message refusal.NoDelegation few i j r = refused f h place message 16 few i j (omega arith)
reason_tells_nothing f h place message refusal.TooManyShares few i j r = refused f h place message 17 few i j (omega arith)
reason_tells_nothing f h place message refusal.NoTokens few i j r = refused f h place message 18 few i j (omega arith)
reason_tells_nothing f h place message refusal.RateInvalid few i j r = refused f h place message 19 few i j (omega arith)
reason_tells_nothing f h place message refusal.UnbondingsFull few i j r = refused f h place message 20 few i j (omega arith)
reason_tells_nothing f h place message refusal.SelfRedelegation few i j r = refused f h place message 21 few i j (omega arith)
reason_tells_nothing f h place message refusal.Transitive few i j r = refused f h place message 22 few i j (omega arith)
reason_tells_nothing f h place message refusal.RedelegationsFull few i j r = refused f h place message 23 few i j (omega arith)
reason_tells_nothing f h place message refusal.TinyRedelegation few i j r = refused f h place message 24 few i j (omega arith)
reason_tells_nothing f h place message refusal.Jailed few i j r = refused f h place message 25 few i j (omega arith)
reason_tells_nothing f h place message refusal.NoEntry few i j r = refused f h place message 26 few i j (omega arith)
reason_tells_nothing f h place message refusal.CancelTooMuch few i j r = refused f h place message 27 few i j (omega arith)
reason_tells_nothing f h place message refusal.NotJailed few i j r = refused f h place message 28 few i j (omega arith)
reason_tells_nothing f h place message refusal.NoSelfDelegation few i j r = refused f h place message 29 few i j (omega arith)
reason_tells_nothing f h place message (refusal.StillJailed until) few i j r = (whole_object (more (count few) (more text (more (count j) (more (count (omega arith)) (more (count i) (more text end)))))), refl)
reason_tells_nothing f h place message refusal.Tombstoned few i j r = refused f h place message 31 few i j (omega arith)
reason_tells_nothing f h place message refusal.NoCommission few i j r = refused f h place message 32 few i j (omega arith)
reason_tells_nothing f h place message refusal.PoolTooSmall few i j r = refused f h place message 33 few i j (omega arith)
reason_tells_nothing f h place message refusal.NotAuthority few i j r = refused f h place message 34 few i j (omega arith)
reason_tells_nothing f h place message (refusal.Overflow over) few i j r = (whole_object (more text (more text (more text (more (count few) (more text (more (count j) (more (count (omega arith)) (more text (more (count i) end))))))))), refl)
reason_tells_nothing f h place message refusal.WithdrawFixed few i j r = refused f h place message 36 few i j (omega arith)
reason_tells_nothing f h place message refusal.TinyDelegation few i j r = refused f h place message 37 few i j (omega arith)
reason_tells_nothing f h place message (refusal.ParamRange number) few i j r = (whole_object (more (count few) (more text (more (count r) (more (count j) (more (count (omega arith)) (more (count i) end)))))), refl)
reason_tells_nothing f h place message (refusal.ParamFixed number) few i j r = (whole_object (more (count few) (more text (more (count r) (more (count j) (more (count (omega arith)) (more (count i) end)))))), refl)
reason_tells_nothing f h place message refusal.FeeUnpaid few i j r = refused f h place message 40 few i j (omega arith)

outcome_tells_nothing : (f : Form) (h place : ℕ) (ended : Outcome) → IsCount h → IsCount place → IsOutcome ended → TellsNothing f (outcome_data h place ended)
outcome_tells_nothing f h place outcome.Accepted few i r = (whole_object (more (count few) (more text (more (count i) end))), refl)
outcome_tells_nothing f h place outcome.FeeUnpaid few i r = (whole_object (more (count few) (more text (more (count (omega arith)) (more (count i) end)))), refl)
outcome_tells_nothing f h place (outcome.Refused message reason) few i r = reason_tells_nothing f h place message reason few i r.0 r.1

pub no_fact_of_outcome : (f : Form) (h place : ℕ) (ended : Outcome) → IsCount h → IsCount place → IsOutcome ended → fact_in f (compact_text (outcome_data h place ended)) ≡ None
no_fact_of_outcome f h place ended few i r = nothing_read f (outcome_data h place ended) (outcome_tells_nothing f h place ended few i r)

pub no_fact_of_block : (f : Form) (h time : ℕ) → IsCount h → fact_in f (compact_text (block_data h time)) ≡ None
no_fact_of_block f h time few = nothing_read f (block_data h time) (whole_object (more (count few) (more text (more text end))), refl)

pub no_fact_of_genesis : (f : Form) (supply : Money) → fact_in f (compact_text (genesis_data supply)) ≡ None
no_fact_of_genesis f supply = nothing_read f (genesis_data supply) (whole_object (more (count (omega arith)) (more text (more (whole supply) end))), refl)
