-- The lines that tell how transactions ended.
use Rattle.std.specs.Prelude.{ℕ, List, [], ◌∷◌, codes}
use Rattle.serde_json.specs.Data.{Data, string}
use Rattle.base_roles.specs.declared.refusal.Refusal.{Refusal}
use Rattle.base_roles.specs.declared.refusal.Refusal.TheVariants as refusal
use Rattle.base_roles.specs.Refusals.{refusal_number}
use Rattle.base_messages.specs.declared.report.Outcome.{Outcome}
use Rattle.base_messages.specs.declared.report.Outcome.TheVariants.{Accepted, FeeUnpaid, Refused}
use Rattle.line_json.specs.Line.{told_at}
use Rattle.line_json.specs.Values.{count_data, moment_data, over_name, whole_data}

-- the kind by which an outcome is told
abbrev pub outcome_kind : Outcome → List ℕ
outcome_kind Accepted = codes "accepted"
outcome_kind FeeUnpaid = codes "refused"
outcome_kind (Refused message reason) = codes "refused"

-- what is told of a reason beside its number: the moment until which a validator stays jailed, the operands of a result
-- past the limit, and the number of a parameter
abbrev pub reason_members : Refusal → List (List ℕ × Data)
reason_members (refusal.StillJailed until) = (codes "until", moment_data until) ∷ []
reason_members (refusal.Overflow over) =
    (codes "over", string (over_name over.kind)) ∷ (codes "a", whole_data over.a) ∷ (codes "b", whole_data over.b)
    ∷ (codes "c", whole_data over.c) ∷ []
reason_members (refusal.ParamRange number) = (codes "member", count_data number) ∷ []
reason_members (refusal.ParamFixed number) = (codes "member", count_data number) ∷ []
reason_members _ = []

-- which message of a transaction was refused, counted from 0, and for the reason of which number
abbrev pub refused_members : ℕ → ℕ → ℕ → List (List ℕ × Data) → List (List ℕ × Data)
refused_members place message number ms =
    (codes "tx", count_data place) ∷ (codes "msg", count_data message) ∷ (codes "number", count_data number) ∷ ms

-- what is told of an outcome beside the height and the kind: the place of the transaction in its block, counted from 0,
-- and why it was refused
abbrev pub outcome_members : ℕ → Outcome → List (List ℕ × Data)
outcome_members place Accepted = (codes "tx", count_data place) ∷ []
outcome_members place FeeUnpaid =
    (codes "tx", count_data place) ∷ (codes "number", count_data (refusal_number refusal.FeeUnpaid)) ∷ []
outcome_members place (Refused message reason) = refused_members place message (refusal_number reason) (reason_members reason)

-- how the transaction at a place of the block ended
abbrev pub outcome_data : ℕ → ℕ → Outcome → Data
outcome_data height place outcome = told_at height (outcome_kind outcome) (outcome_members place outcome)
