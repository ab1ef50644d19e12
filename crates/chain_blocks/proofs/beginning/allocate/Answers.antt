use Rattle.std.proofs.Common.{refl}
use Rattle.base_roles.specs.Staked.{lists_of}
use Rattle.rule_modules.specs.Chain.{allocation_step, shared_in}
use Rattle.chain_modules.{specs.{declared.modules.Modules.Modules, Kept.kept_of}, proofs.SceneLemmas.stand_shared}
use Rattle.chain_transactions.proofs.GoLemmas.{shared_on}
use Rattle.chain_blocks.proofs.{BeginLemmas.allocated_leads, CallLemmas.{cast_same, votes_kept}, LoopLemmas.may_vote}
use Rattle.chain_blocks.proofs.beginning.allocate.Goals as goal

pub begin_block-requires-clause-stand : goal.begin_block-requires-clause-stand
begin_block-requires-clause-stand g c = let s = c.requires.votes in (lists_of c.args.modules.now.stakes.staking.staked, stand_shared c.args.modules.now s.state s.begun.keeps s.begun.sound)

pub begin_block-requires-clause-votes : goal.begin_block-requires-clause-votes
begin_block-requires-clause-votes g c = let s = c.requires.votes in votes_kept c.args.modules.now s.state s.begun.keeps s.begun.sound c.args.votes.now s.cast

pub returns-clause-leads : goal.returns-clause-leads
returns-clause-leads g c = λ p b.
    let old : Modules g.row.E.Denot = c.args.modules.now in
    let after = c.begin_block.new in
    let new : Modules g.row.E.Denot = record { ground = after.g; stakes = old.stakes; hooks = record { first = record { first = after.self; second = record { listener = old.hooks.first.second.listener } }; second = old.hooks.second } } in
    let s = c.requires.votes in
    allocated_leads old new p c.begin_block.ensures.undone.ctx c.args.votes.now b (cast_same c.args.votes.now (kept_of old) s.state p s.begun.keeps b.keeps s.cast) refl refl c.begin_block.result
    (c.begin_block.ensures.allocated (shared_in p) b.keeps.shared)

pub returns-clause-may : goal.returns-clause-may
returns-clause-may g c =
    let old : Modules g.row.E.Denot = c.args.modules.now in
    let after = c.begin_block.new in
    let new : Modules g.row.E.Denot = record { ground = after.g; stakes = old.stakes; hooks = record { first = record { first = after.self; second = record { listener = old.hooks.first.second.listener } }; second = old.hooks.second } } in
    let s = c.requires.votes in
    may_vote c.args.votes.now old new (allocation_step c.args.votes.now s.state) c.begin_block.result (shared_on old new c.begin_block.result c.begin_block.ensures.undone c.begin_block.ensures.goes_on refl refl) s.power
    (allocated_leads old new s.state c.begin_block.ensures.undone.ctx c.args.votes.now s.begun s.cast refl refl c.begin_block.result (c.begin_block.ensures.allocated (shared_in s.state) s.begun.keeps.shared))

pub returns-clause-go_on : goal.returns-clause-go_on
returns-clause-go_on g c =
    let old : Modules g.row.E.Denot = c.args.modules.now in
    let after = c.begin_block.new in
    let new : Modules g.row.E.Denot = record { ground = after.g; stakes = old.stakes; hooks = record { first = record { first = after.self; second = record { listener = old.hooks.first.second.listener } }; second = old.hooks.second } } in
    shared_on old new c.begin_block.result c.begin_block.ensures.undone c.begin_block.ensures.goes_on refl refl
