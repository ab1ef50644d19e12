-- What a run over blocks comes to, in one line.
use Rattle.std.specs.Prelude.{ℕ, ◌+◌, ◌^◌, ◌<◌, Bool, true, false, not, List, [], ◌∷◌, codes, count_by, length, sum_by, Option, Some, None, Result, Ok, Err}
use Rattle.serde_json.specs.Data.{Data, string}
use Rattle.base_coins.specs.Coins.{Money}
use Rattle.base_roles.specs.declared.facts.Fact.{Fact}
use Rattle.base_roles.specs.declared.facts.Fact.TheVariants as fact
use Rattle.base_messages.specs.declared.faults.BlockFault.{BlockFault}
use Rattle.base_messages.specs.declared.report.BlockReport.{BlockReport}
use Rattle.base_messages.specs.declared.report.Outcome.{Outcome}
use Rattle.base_messages.specs.declared.report.Outcome.TheVariants.{Accepted, FeeUnpaid, Refused}
use Rattle.base_messages.specs.declared.report.TxReport.{TxReport}
use Rattle.rule_modules.specs.Chain.{State, shared_in}
use Rattle.rule_machine.specs.Machine.{Run}
use Rattle.line_json.specs.Line.{line_of, object_of}
use Rattle.line_json.specs.Values.{coins_data, count_data, dec_coins_data, whole_data}
use Rattle.run_trial.specs.declared.counts.Counts.{Counts}

-- ---- what reports tell

-- it was carried out
abbrev pub accepts : Outcome → Bool
accepts Accepted = true
accepts FeeUnpaid = false
accepts (Refused place why) = false

-- the transaction was carried out
abbrev pub is_accepted : TxReport → Bool
is_accepted tx = accepts tx.outcome

-- how many transactions of a block were carried out
abbrev pub accepted_in : BlockReport → ℕ
accepted_in b = count_by is_accepted b.txs

-- and how many were not
abbrev pub refused_in : BlockReport → ℕ
refused_in b = count_by (λ tx. not (is_accepted tx)) b.txs

-- what a fact says was burned, of whatever denomination
abbrev pub burned_amount : Fact → ℕ
burned_amount (fact.Burn from coin) = coin.amount
burned_amount _ = 0

-- what facts say was burned
abbrev pub burned_by : List Fact → ℕ
burned_by facts = sum_by burned_amount facts

-- what the facts of a block say was burned: those of its beginning, of its transactions and of its end
abbrev pub burned_in : BlockReport → ℕ
burned_in b = burned_by b.begun + sum_by (λ tx. burned_by tx.facts) b.txs + burned_by b.ended

-- what the reports of blocks come to
abbrev pub counts_of : List BlockReport → Counts
counts_of reports = record {
  blocks = length reports;
  accepted = sum_by accepted_in reports;
  refused = sum_by refused_in reports;
  burned = sum_by burned_in reports;
}

-- there is room for the counts of one more block
pub record HasRoom (c : Counts) (b : BlockReport) : Type 0 where
  pub blocks : c.blocks + 1 < 2 ^ 64
  pub accepted : c.accepted + accepted_in b < 2 ^ 64
  pub refused : c.refused + refused_in b < 2 ^ 64
  pub burned : c.burned + burned_in b < 2 ^ 128

-- the counts with those of one more block
abbrev pub counted : Counts → BlockReport → Counts
counted c b = record {
  blocks = c.blocks + 1;
  accepted = c.accepted + accepted_in b;
  refused = c.refused + refused_in b;
  burned = c.burned + burned_in b;
}

-- ---- the line

-- the counts, and the supplies and the community pool at the end
abbrev pub summary_data : Counts → Money → Money → Data
summary_data c supply pool =
    object_of ((codes "accepted", count_data c.accepted) ∷ (codes "blocks", count_data c.blocks) ∷ (codes "burned", whole_data c.burned)
    ∷ (codes "kind", string (codes "trial")) ∷ (codes "pool", dec_coins_data pool) ∷ (codes "refused", count_data c.refused)
    ∷ (codes "supply", coins_data supply) ∷ [])

-- the summary of blocks with these reports, behind which the chain is in this state
abbrev pub summary_of : List BlockReport → State → List ℕ
summary_of reports w = line_of (summary_data (counts_of reports) w.view.bank.supplies (shared_in w).purses.pool)

-- why an input has no summary: its line of this number, the genesis being 1, is a block that may not follow, by this fault
pub record Stopped : Type 0 where
  pub line : ℕ
  pub fault : BlockFault

-- what a run comes to: its summary, or the block at which it stopped
abbrev pub outcome_by : Run → Option BlockFault → Result (List ℕ) Stopped
outcome_by r None = Ok (summary_of r.reports r.state)
outcome_by r (Some fault) = Err (record { line = length r.reports + 2; fault = fault })

abbrev pub run_outcome : Run → Result (List ℕ) Stopped
run_outcome r = outcome_by r r.fault
