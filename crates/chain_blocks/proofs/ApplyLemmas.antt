-- A block over the modules: facts that are taken out between its parts, and what is left once it is applied or given up.
use Rattle.std.proofs.Common.{◌≡◌, ◌∙◌, ◌<◌, ◌^◌, List, [], Ok, Err, sym, ap, subst}
use Rattle.base_roles.specs.{declared.{facts.Fact.Fact, faults.HookFault.HookFault, params.Ctx.Ctx}, World.View}
use Rattle.base_messages.specs.declared.{block.Block.Block, report.TxReport.TxReport}
use Rattle.rule_modules.specs.Chain.{State, begin_block, end_block}
use Rattle.rule_machine.specs.{GenesisState.without_facts, Machine.{TxSteps, block_checked, txs_applied}}
use Rattle.chain_modules.specs.declared.modules.Modules.{Modules}
use Rattle.chain_modules.specs.Kept.{KeptState, AreSteady, StandsWhole, kept_of, kept_over, parts_of}
use Rattle.chain_modules.specs.Marks.{AreAtRest, AreClosed, AreOpen, behind_of, marks_of, opened, settled_of}
use Rattle.chain_modules.proofs.MarkLemmas.{closed_again, marks_behind, open_again, restored}
use Rattle.chain_modules.proofs.StandLemmas.{stands_for, stands_same, whole_cleared, whole_same, cleared as without_told}
use Rattle.chain_transactions.proofs.TransactionLemmas.{starts_cleared}
use Rattle.chain_blocks.specs.{Answers.{AnswersStep, Leads, fault_of_hook, parts_stepped}, Begun.{HasBegun, MayBegin}}
use Rattle.chain_blocks.proofs.BlockLemmas.{end_stops, has_begun, kept_begun, part_done, parts_end, opened as opened_for}

-- ---- facts that are taken

-- the modules are the same, but that no fact is left; a listener hears how many there were
pub record IsTaken {E : Type 0} (old new : Modules E) : Type 0 where
  pub none : new.ground.facts ≡ []
  pub bank : new.ground.bank ≡ old.ground.bank
  pub ctx : new.ground.ctx ≡ old.ground.ctx
  pub stakes : new.stakes ≡ old.stakes
  pub shared : new.hooks.first.first ≡ old.hooks.first.first
  pub signings : new.hooks.second ≡ old.hooks.second

pub taken_kept : {E : Type 0} (old new : Modules E) → IsTaken old new → kept_of new ≡ without_told (kept_of old)
taken_kept old new t = λ i. record {
  stakes = record { staked = (t.stakes i).staking.staked; unbondings = (t.stakes i).unbondings.lists; redelegations = (t.stakes i).redelegations.lists };
  shared = (t.shared i).kept;
  signings = (t.signings i).kept;
  view = record { bank = (t.bank i).holdings; ctx = t.ctx i; facts = t.none i };
}

pub taken_behind : {E : Type 0} (old new : Modules E) → IsTaken old new → behind_of new ≡ behind_of old
taken_behind old new t = λ i. behind_of (record {
  ground = record { bank = t.bank i; ctx = old.ground.ctx; facts = old.ground.facts };
  stakes = t.stakes i;
  hooks = record { first = record { first = t.shared i; second = record { listener = old.hooks.first.second.listener } }; second = t.signings i };
})

pub taken_stands : {E : Type 0} (old new : Modules E) (p : State) → IsTaken old new → StandsWhole (kept_of old) p → StandsWhole (kept_of new) (without_facts p)
taken_stands old new p t s = whole_same (without_told (kept_of old)) (kept_of new) (without_facts p) (taken_kept old new t) (whole_cleared (kept_of old) p s)

pub taken_steady : {E : Type 0} (old new : Modules E) → IsTaken old new → AreSteady old → AreSteady new
taken_steady old new t s = record {
  power = ap (λ c. c.staking.power_reduction) t.stakes ∙ s.power ∙ ap (λ (c : Ctx). c.params.power_reduction) (sym t.ctx);
  state = without_facts s.state;
  stands = taken_stands old new s.state t s.stands;
}

-- what was told is what the state has
pub taken_told : {E : Type 0} (old : Modules E) (p : State) (told : List Fact) → told ≡ old.ground.facts → StandsWhole (kept_of old) p → told ≡ p.view.facts
taken_told old p told e s = e ∙ sym (ap (λ (v : View). v.facts) s.keeps.view)

-- ---- transactions that begin without facts

pub same_reports : (b : Block) (w : State) (reports : List TxReport) → reports ≡ (txs_applied b.txs (without_facts w)).reports → reports ≡ (txs_applied b.txs w).reports
same_reports b w reports e = e ∙ sym (ap (λ (s : TxSteps). s.reports) (starts_cleared b.txs w))

pub same_stands : (b : Block) (w : State) (k : KeptState) → StandsWhole k (without_facts (txs_applied b.txs (without_facts w)).state) → StandsWhole k (without_facts (txs_applied b.txs w).state)
same_stands b w k s = subst (λ (p : State). StandsWhole k p) (sym (ap (λ (x : TxSteps). x.state) (starts_cleared b.txs w))) s

-- ---- the parts of a block, one after another

-- From modules that begin a block: after its beginning, once its facts are taken, after its transactions.
module _ {E : Type 0} (b : Block) (first begun told applied : Modules E) (begins : (p : State) → HasBegun b (kept_of first) p → Leads StandsWhole (begin_block b.votes b.evidence p) (kept_of begun) (Ok tt)) (taken : IsTaken begun told)
    (applies : (p : State) → StandsWhole (kept_of told) p → StandsWhole (kept_of applied) (without_facts (txs_applied b.txs p).state)) where
  begun_by : (p : State) → HasBegun b (kept_of first) p → (due : State) × (begin_block b.votes b.evidence p ≡ Ok due) × StandsWhole (kept_of begun) due
  begun_by p h = part_done (begin_block b.votes b.evidence p) (kept_of begun) StandsWhole (begins p h)

  told_stands : (p : State) (h : HasBegun b (kept_of first) p) → StandsWhole (kept_of told) (without_facts (begun_by p h).0)
  told_stands p h = taken_stands begun told (begun_by p h).0 taken (begun_by p h).2

  applied_stands : (p : State) (h : HasBegun b (kept_of first) p) → StandsWhole (kept_of applied) (without_facts (txs_applied b.txs (begun_by p h).0).state)
  applied_stands p h = same_stands b (begun_by p h).0 (kept_of applied) (applies (without_facts (begun_by p h).0) (told_stands p h))

  -- the end stopped
  pub end_stopped : (ended : Modules E) (k : KeptState) (fault : HookFault) → ((q : State) → StandsWhole (kept_of applied) q → Leads StandsWhole (end_block q) (kept_of ended) (Err fault))
      → (p : State) → HasBegun b (kept_of first) p → AnswersStep (parts_stepped b p) k (Err (fault_of_hook fault))
  end_stopped ended k fault ends p h =
      let d = begun_by p h in
      end_stops b p d.0 d.1 (kept_of ended) k StandsWhole fault (ends (without_facts (txs_applied b.txs d.0).state) (applied_stands p h))

  -- all parts are through
  pub parts_done : (ended last : Modules E) → ((q : State) → StandsWhole (kept_of applied) q → Leads StandsWhole (end_block q) (kept_of ended) (Ok tt)) → IsTaken ended last → (begins_with ends_with : List Fact) (reports : List TxReport)
      → begins_with ≡ begun.ground.facts → ((q : State) → StandsWhole (kept_of told) q → reports ≡ (txs_applied b.txs q).reports) → ends_with ≡ ended.ground.facts
      → (p : State) → HasBegun b (kept_of first) p → AnswersStep (parts_stepped b p) (kept_of last) (Ok (record { height = b.height; time = b.time; begun = begins_with; txs = reports; ended = ends_with }))
  parts_done ended last ends out begins_with ends_with reports e f g p h =
      let d = begun_by p h in
      let due = part_done (end_block (without_facts (txs_applied b.txs d.0).state)) (kept_of ended) StandsWhole (ends (without_facts (txs_applied b.txs d.0).state) (applied_stands p h)) in
      parts_end b p d.0 d.1 begins_with ends_with reports due.0 (kept_of ended) (kept_of last) (taken_told begun d.0 begins_with e d.2) (same_reports b d.0 reports (f (without_facts d.0) (told_stands p h))) due.1 due.2 g
      (taken_kept ended last out)

-- ---- marks

-- what stands behind the records has what was settled
pub settled_behind : {E : Type 0} (old new : Modules E) → behind_of new ≡ behind_of old → settled_of new ≡ settled_of old
settled_behind old new e = λ i. record {
  bank = (e i).bank.settled;
  stakes = record { staked = (e i).staking.settled; unbondings = (e i).unbondings.settled; redelegations = (e i).redelegations.settled };
  shared = (e i).shared.settled;
  signings = (e i).signings.settled;
}

-- ---- a block

-- at the height and time of a block, behind a mark
pub begun_kept : {E : Type 0} (b : Block) (old marked : Modules E) → AreAtRest old → kept_of marked ≡ kept_of old
    → kept_over (parts_of marked) (record { height = b.height; time = b.time; params = old.ground.ctx.params }) marked.ground.facts ≡ kept_begun b (kept_of old)
begun_kept b old marked rest same = λ i. record {
  stakes = (same i).stakes;
  shared = (same i).shared;
  signings = (same i).signings;
  view = record { bank = (same i).view.bank; ctx = record { height = b.height; time = b.time; params = old.ground.ctx.params }; facts = (ap (λ (k : KeptState). k.view.facts) same ∙ rest.no_facts) i };
}

-- modules at rest that were marked, at the block's height and time, may begin it
module _ {E : Type 0} (b : Block) (old begun : Modules E) (rest : AreAtRest old) (same : kept_of begun ≡ kept_begun b (kept_of old)) where
  pub begins : block_checked b rest.state ≡ Ok tt → b.height < 2 ^ 63 → begun.stakes.staking.power_reduction ≡ old.stakes.staking.power_reduction → MayBegin b begun
  begins checked few power = record {
    power = power ∙ rest.power ∙ sym (ap (λ (k : KeptState). k.view.ctx.params.power_reduction) same);
    state = opened_for b rest.state;
    begun = has_begun b (kept_of old) (kept_of begun) rest.state rest.stands checked few same;
  }

-- what keeps the same, at rest
pub rest_same : {E : Type 0} (old new : Modules E) → AreAtRest old → kept_of new ≡ kept_of old → marks_of new ≡ marks_of old → new.stakes.staking.power_reduction ≡ old.stakes.staking.power_reduction → AreAtRest new
rest_same old new r same marks power = record {
  power = power ∙ r.power ∙ sym (ap (λ (k : KeptState). k.view.ctx.params.power_reduction) same);
  state = r.state;
  stands = stands_same (kept_of old) (kept_of new) r.state same r.stands;
  unmarked = marks ∙ r.unmarked;
  no_facts = ap (λ (k : KeptState). k.view.facts) same ∙ r.no_facts;
}

-- modules that ended a block, at rest once its mark is closed
module _ {E : Type 0} (old marked applied new : Modules E) (rest : AreAtRest old) (opens : marks_of marked ≡ opened old) (on : behind_of applied ≡ behind_of marked) where
  pub still_open : AreOpen (marks_of applied)
  still_open = open_again old (marks_of applied) (marks_behind marked applied on ∙ opens)

  pub rest_closed : AreSteady applied → applied.ground.facts ≡ [] → AreClosed (marks_of applied) (marks_of new) → kept_of new ≡ kept_of applied
      → new.stakes.staking.power_reduction ≡ applied.stakes.staking.power_reduction → AreAtRest new
  rest_closed s none closes same power = record {
    power = power ∙ s.power ∙ sym (ap (λ (k : KeptState). k.view.ctx.params.power_reduction) same);
    state = s.state;
    stands = stands_same (kept_of applied) (kept_of new) s.state same (stands_for (kept_of applied) s.state s.stands);
    unmarked = closed_again old (marks_of applied) (marks_of new) (marks_behind marked applied on ∙ opens) closes ∙ rest.unmarked;
    no_facts = ap (λ (k : KeptState). k.view.facts) same ∙ none;
  }

  -- and modules that gave it up
  pub back_kept : opened new ≡ marks_of applied → (ctx : Ctx) (facts : List Fact) → ctx ≡ old.ground.ctx → facts ≡ [] → kept_over (parts_of new) ctx facts ≡ kept_of old
  back_kept closes ctx facts c f =
      let r = restored old new (closes ∙ marks_behind marked applied on ∙ opens) in
      λ i. kept_over (r.same_parts i) (c i) ((f ∙ sym rest.no_facts) i)

  pub back_marks : opened new ≡ marks_of applied → marks_of new ≡ marks_of old
  back_marks closes = let r = restored old new (closes ∙ marks_behind marked applied on ∙ opens) in r.same_marks
