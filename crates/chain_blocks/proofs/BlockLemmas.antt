-- A block: its parts one after the other, and the whole of it.
use Rattle.std.proofs.Common.{◌≡◌, ◌∙◌, ◌^◌, ◌<◌, List, [], Result, Ok, Err, refl, sym, ap, subst}
use Rattle.std.specs.Prelude.{⊤}
use Rattle.base_decimals.specs.declared.over.Over.{Over}
use Rattle.base_roles.specs.declared.{facts.Fact.Fact, faults.{HookFault.HookFault, RecordFault.RecordFault}}
use Rattle.base_roles.specs.{Flow.{◌>>=◌, ◌>>◌, stopping}, World.View}
use Rattle.base_roles.specs.declared.faults.HookFault.TheVariants as hook
use Rattle.base_roles.specs.declared.faults.RecordFault.TheVariants as kept
use Rattle.base_messages.specs.declared.{block.Block.Block, faults.BlockFault.BlockFault}
use Rattle.base_messages.specs.declared.report.{BlockReport.BlockReport, TxReport.TxReport}
use Rattle.base_messages.specs.declared.faults.BlockFault.TheVariants as block
use Rattle.rule_modules.specs.{Chain.{State, begin_block, end_block}, Laws.next_block}
use Rattle.rule_machine.specs.{GenesisState.without_facts, Machine.{Step, block_checked, step, txs_applied}}
use Rattle.chain_modules.specs.Kept.{KeptState, Keeps, StandsFor, StandsWhole}
use Rattle.chain_modules.proofs.StandLemmas.{cleared, stands_for, stands_same, whole_cleared}
use Rattle.chain_blocks.specs.Answers.{AnswersStep, Applies, FaultsAs, Leads, fault_of_hook, fault_of_record, parts_stepped}
use Rattle.chain_blocks.specs.Begun.{HasBegun}

-- ---- the parts

-- what follows a block's beginning
abbrev pub after_begin : Block → State → Result Step BlockFault
after_begin b begun =
    stopping block.RatioLimit (end_block (without_facts (txs_applied b.txs begun).state)) >>= λ ended. Ok (record {
      report = record { height = b.height; time = b.time; begun = begun.view.facts; txs = (txs_applied b.txs begun).reports; ended = ended.view.facts };
      state = without_facts ended;
    })

-- a part that met the limit, or wanted memory
part_stops : (r : Result State Over) (next : State → Result Step BlockFault) (k k2 : KeptState) (stands : KeptState → State → Type 0) (fault : HookFault) → Leads stands r k (Err fault)
    → AnswersStep (stopping block.RatioLimit r >>= next) k2 (Err (fault_of_hook fault))
part_stops (Ok due) next k k2 stands (hook.Over over) h = absurd h
part_stops (Ok due) next k k2 stands hook.NoMemory h = tt
part_stops (Err over) next k k2 stands (hook.Over o) h = ap (λ x. Err (block.RatioLimit x)) (sym h)
part_stops (Err over) next k k2 stands hook.NoMemory h = tt

pub begin_stops : (b : Block) (p : State) (k k2 : KeptState) (stands : KeptState → State → Type 0) (fault : HookFault) → Leads stands (begin_block b.votes b.evidence p) k (Err fault) → AnswersStep (parts_stepped b p) k2 (Err (fault_of_hook fault))
begin_stops b p k k2 stands fault h = part_stops (begin_block b.votes b.evidence p) (after_begin b) k k2 stands fault h

-- want of memory is never against the machine
pub record_stops : (due : Result Step BlockFault) (k : KeptState) (fault : RecordFault) → AnswersStep due k (Err (fault_of_record fault))
record_stops due k kept.NoMemory = tt

-- a part that was carried out
pub part_done : (r : Result State Over) (k : KeptState) (stands : KeptState → State → Type 0) → Leads stands r k (Ok tt) → (due : State) × (r ≡ Ok due) × stands k due
part_done (Ok due) k stands h = (due, refl, h)
part_done (Err over) k stands h = absurd h

-- once the beginning is through, what follows is the block
module _ (b : Block) (p begun : State) (begins : begin_block b.votes b.evidence p ≡ Ok begun) where
  through : parts_stepped b p ≡ after_begin b begun
  through = ap (λ r. stopping block.RatioLimit r >>= after_begin b) begins

  pub end_stops : (k k2 : KeptState) (stands : KeptState → State → Type 0) (fault : HookFault) → Leads stands (end_block (without_facts (txs_applied b.txs begun).state)) k (Err fault) → AnswersStep (parts_stepped b p) k2 (Err (fault_of_hook fault))
  end_stops k k2 stands fault h =
      subst (λ r. AnswersStep r k2 (Err (fault_of_hook fault))) (sym through)
      (part_stops (end_block (without_facts (txs_applied b.txs begun).state)) (λ ended. Ok (record {
        report = record { height = b.height; time = b.time; begun = begun.view.facts; txs = (txs_applied b.txs begun).reports; ended = ended.view.facts };
        state = without_facts ended;
      })) k k2 stands fault h)

  -- and it ends: what was told at the beginning, by the transactions and at the end is the report
  pub parts_end : (begins_with ends_with : List Fact) (reports : List TxReport) (ended : State) (k left : KeptState) → begins_with ≡ begun.view.facts → reports ≡ (txs_applied b.txs begun).reports
      → end_block (without_facts (txs_applied b.txs begun).state) ≡ Ok ended → StandsWhole k ended → ends_with ≡ k.view.facts → left ≡ cleared k
      → AnswersStep (parts_stepped b p) left (Ok (record { height = b.height; time = b.time; begun = begins_with; txs = reports; ended = ends_with }))
  parts_end begins_with ends_with reports ended k left first told ends s last same = (
    without_facts ended,
    through
        ∙ ap (λ r. stopping block.RatioLimit r >>= λ e. Ok (record {
          report = record { height = b.height; time = b.time; begun = begun.view.facts; txs = (txs_applied b.txs begun).reports; ended = e.view.facts };
          state = without_facts e;
        })) ends
        ∙ (λ i. Ok (record {
          report = record { height = b.height; time = b.time; begun = sym first i; txs = sym told i; ended = (ap (λ (v : View). v.facts) s.keeps.view ∙ sym last) i };
          state = without_facts ended;
        })),
    stands_same (cleared k) left (without_facts ended) same (stands_for (cleared k) (without_facts ended) (whole_cleared k ended s)),
  )

-- ---- the block

-- what is kept when a block begins, at its height and time
abbrev pub kept_begun : Block → KeptState → KeptState
kept_begun b k = record k { view = record { bank = k.view.bank; ctx = record { height = b.height; time = b.time; params = k.view.ctx.params }; facts = [] } }

abbrev pub opened : Block → State → State
opened b p = without_facts (next_block b.height b.time p)

pub has_begun : (b : Block) (k k2 : KeptState) (p : State) → StandsFor k p → block_checked b p ≡ Ok tt → b.height < 2 ^ 63 → k2 ≡ kept_begun b k → HasBegun b k2 (opened b p)
has_begun b k k2 p s checked few same = record {
  keeps = subst (λ x. Keeps x (opened b p)) (sym same) (record {
    stakes = s.keeps.stakes;
    shared = s.keeps.shared;
    signings = s.keeps.signings;
    view = λ i. record { bank = (s.keeps.view i).bank; ctx = record { height = b.height; time = b.time; params = (s.keeps.view i).ctx.params }; facts = [] };
  });
  before = p;
  sound = s.sound;
  checked = checked;
  height = few;
  begun = refl;
}

-- a block that may follow is its parts
pub steps_so : (b : Block) (p : State) → block_checked b p ≡ Ok tt → step b p ≡ parts_stepped b (opened b p)
steps_so b p e = ap (λ (r : Result ⊤ BlockFault). r >> parts_stepped b (opened b p)) e

pub applies_parts : (b : Block) (p : State) (k : KeptState) (answer : Result BlockReport BlockFault) → block_checked b p ≡ Ok tt → AnswersStep (parts_stepped b (opened b p)) k answer → Applies b p k answer
applies_parts b p k answer e h = subst (λ r. AnswersStep r k answer) (sym (steps_so b p e)) h

-- one that may not has the fault of its checks
pub faults : (b : Block) (p : State) (k : KeptState) (fault : BlockFault) → FaultsAs (block_checked b p) fault → Applies b p k (Err fault)
faults b p k block.NoMemory h = tt
faults b p k fault h = ap (λ (r : Result ⊤ BlockFault). r >> parts_stepped b (opened b p)) h

-- an error says nothing of what is kept
pub same_fault : (due : Result Step BlockFault) (k k2 : KeptState) (fault : BlockFault) → AnswersStep due k (Err fault) → AnswersStep due k2 (Err fault)
same_fault due k k2 block.NoMemory h = tt
same_fault due k k2 fault h = h
