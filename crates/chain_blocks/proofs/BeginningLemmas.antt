-- The parts of a block's beginning one after another.
use Rattle.std.proofs.Common.{◌∙◌, [], Result, Ok, Err, sym, subst, ap, All}
use Rattle.std.specs.Prelude.{⊤}
use Rattle.base_roles.specs.{declared.{faults.HookFault.HookFault, params.Ctx.Ctx}, Flow.{◌>>=◌, each}, World.View}
use Rattle.base_messages.specs.declared.block.Block.{Block}
use Rattle.rule_modules.specs.Chain.{State, allocation_step, begin_block, evidence_step, vote_step}
use Rattle.chain_modules.specs.{declared.modules.Modules.Modules, Kept.{KeptState, StandsWhole, kept_of}, Marks.GoOn}
use Rattle.chain_blocks.specs.{Answers.Leads, Begun.{AreBegun, HasBegun, MayAllocate, MayBeBrought, MayBegin}}
use Rattle.chain_blocks.proofs.LeadLemmas.{stop_leads, then_leads, weaker_leads}
use Rattle.chain_blocks.proofs.OpenLemmas.{begun_stands, brings, casts, opens}

-- evidence that a block may bring may still be brought behind its votes
pub brought_on : {E : Type 0} (b : Block) (old new : Modules E) → MayBegin b old → GoOn old new → All (MayBeBrought new.ground.ctx) b.evidence
brought_on b old new may on =
    subst (λ (c : Ctx). All (MayBeBrought c) b.evidence) (ap (λ (v : View). v.ctx) may.begun.keeps.view ∙ sym on.ctx) (brings b (kept_of old) may.state may.begun)

-- fees may be allocated among its votes
pub may_allocate : {E : Type 0} (b : Block) (m : Modules E) → MayBegin b m → MayAllocate b.votes m
may_allocate b m s = record { power = s.power; state = s.state; begun = opens b (kept_of m) s.state s.begun; cast = casts b (kept_of m) s.state s.begun }

module _ (b : Block) (k0 k1 : KeptState) where
  pub allocation_stops : (why : HookFault) → ((p : State) → AreBegun b.votes k0 p → Leads (AreBegun b.votes) (allocation_step b.votes p) k1 (Err why))
      → (p : State) → HasBegun b k0 p → Leads StandsWhole (begin_block b.votes b.evidence p) k1 (Err why)
  allocation_stops why one p h =
      stop_leads (AreBegun b.votes) (AreBegun b.votes) StandsWhole (allocation_step b.votes) (λ w1. each vote_step b.votes w1 >>= λ w2. each evidence_step b.evidence w2) k0 k1 k1 why one p (opens b k0 p h)

  module _ (k2 : KeptState) where
    pub votes_stop : (why : HookFault) → ((p : State) → AreBegun b.votes k0 p → Leads (AreBegun b.votes) (allocation_step b.votes p) k1 (Ok tt))
        → ((p : State) → AreBegun b.votes k1 p → Leads (AreBegun []) (each vote_step b.votes p) k2 (Err why))
        → (p : State) → HasBegun b k0 p → Leads StandsWhole (begin_block b.votes b.evidence p) k2 (Err why)
    votes_stop why one two p h =
        then_leads (AreBegun b.votes) (AreBegun b.votes) StandsWhole (allocation_step b.votes) (λ w1. each vote_step b.votes w1 >>= λ w2. each evidence_step b.evidence w2) k0 k1 k2 (Err why) one
        (stop_leads (AreBegun b.votes) (AreBegun []) StandsWhole (each vote_step b.votes) (λ w2. each evidence_step b.evidence w2) k1 k2 k2 why two) p (opens b k0 p h)

    pub begin_leads : (k3 : KeptState) (answer : Result ⊤ HookFault) → ((p : State) → AreBegun b.votes k0 p → Leads (AreBegun b.votes) (allocation_step b.votes p) k1 (Ok tt))
        → ((p : State) → AreBegun b.votes k1 p → Leads (AreBegun []) (each vote_step b.votes p) k2 (Ok tt))
        → ((p : State) → AreBegun [] k2 p → Leads (AreBegun []) (each evidence_step b.evidence p) k3 answer)
        → (p : State) → HasBegun b k0 p → Leads StandsWhole (begin_block b.votes b.evidence p) k3 answer
    begin_leads k3 answer one two three p h =
        then_leads (AreBegun b.votes) (AreBegun b.votes) StandsWhole (allocation_step b.votes) (λ w1. each vote_step b.votes w1 >>= λ w2. each evidence_step b.evidence w2) k0 k1 k3 answer one
        (then_leads (AreBegun b.votes) (AreBegun []) StandsWhole (each vote_step b.votes) (λ w2. each evidence_step b.evidence w2) k1 k2 k3 answer two
        (λ q s. weaker_leads (AreBegun []) StandsWhole (each evidence_step b.evidence q) k3 answer (begun_stands k3) (three q s))) p (opens b k0 p h)
