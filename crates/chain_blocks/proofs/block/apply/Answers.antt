use Rattle.std.proofs.Common.{◌∙◌, ◌^◌, ◌<◌, ◌≤◌, Ok, Err, refl, sym, ap, subst}
use Rattle.std.proofs.lemmas.Result.{err_from_is_err_and}
use Rattle.base_roles.specs.World.{View}
use Rattle.rule_machine.specs.{Listening.{heard_in, hearing, unheard}, Machine.step}
use Rattle.chain_modules.specs.declared.modules.Modules.{Modules}
use Rattle.chain_modules.specs.Kept.{KeptState, kept_of, kept_over, listener_of, parts_of}
use Rattle.chain_modules.proofs.{HeardLemmas.heard_again, MarkLemmas.one_more_some}
use Rattle.chain_blocks.specs.Answers.{AnswersStep, Applies, parts_heard, parts_stepped}
use Rattle.chain_blocks.proofs.ApplyLemmas.{back_kept, back_marks, begins, begun_kept, rest_closed, rest_same, settled_behind, still_open}
use Rattle.chain_blocks.proofs.HearLemmas.{block_hears}
use Rattle.chain_blocks.proofs.BlockLemmas.{applies_parts, faults, has_begun, opened, record_stops, same_fault}
use Rattle.chain_blocks.proofs.block.apply.Goals as goal

pub check_block-requires-clause-height : goal.check_block-requires-clause-height
check_block-requires-clause-height g c = let s = c.requires.rest.stands in subst (λ (v : View). v.ctx.height < 2 ^ 63) s.keeps.view s.sound.ground.height

pub check_block-requires-clause-some : goal.check_block-requires-clause-some
check_block-requires-clause-some g c = let s = c.requires.rest.stands in subst (λ (v : View). 1 ≤ v.ctx.params.power_reduction) s.keeps.view s.sound.ground.params.power_reduction

pub check_block-requires-clause-reduction : goal.check_block-requires-clause-reduction
check_block-requires-clause-reduction g c = let s = c.requires.rest.stands in subst (λ (v : View). v.ctx.params.power_reduction ≤ 10 ^ 18) s.keeps.view s.sound.ground.params.power_reduction_most

pub returns-in_err-check_block-clause-applies : goal.returns-in_err-check_block-clause-applies
returns-in_err-check_block-clause-applies g c = λ p s.
    let r = err_from_is_err_and c.from_residual.result c.from_residual.ensures.1 in
    rw (r.1, r.2) (faults c.args.block.now p (kept_of c.args.modules.now) c.in_err-check_block.field-0.0 (c.in_err-check_block.ensures.fault p s))

pub returns-in-Err-clause-applies : goal.returns-in-Err-clause-applies
returns-in-Err-clause-applies g c = λ p s.
    subst (λ f. AnswersStep (step c.args.block.now p) (kept_of c.mark.new.self) (Err f)) (sym c.fault_of_record.ensures) (record_stops (step c.args.block.now p) (kept_of c.mark.new.self) c.in-Err.fault)

pub returns-in-Err-clause-rest : goal.returns-in-Err-clause-rest
returns-in-Err-clause-rest g c = rest_same c.args.modules.now c.mark.new.self c.requires.rest c.mark.ensures.same c.in-Err.ensures.err c.mark.ensures.power

pub apply_parts-requires-clause-begins : goal.apply_parts-requires-clause-begins
apply_parts-requires-clause-begins g c =
    let old : Modules g.row.E.Denot = c.args.modules.now in
    let marked : Modules g.row.E.Denot = c.mark.new.self in
    let b = c.args.block.now in
    let begun : Modules g.row.E.Denot = record { ground = record { bank = marked.ground.bank; ctx = record { height = b.height; time = b.time; params = old.ground.ctx.params }; facts = marked.ground.facts }; stakes = marked.stakes; hooks = marked.hooks } in
    begins b old begun c.requires.rest (begun_kept b old marked c.requires.rest c.mark.ensures.same) (c.in_ok-check_block.ensures.checked c.requires.rest.state c.requires.rest.stands) c.requires.height c.mark.ensures.power

pub apply_parts-requires-clause-none : goal.apply_parts-requires-clause-none
apply_parts-requires-clause-none g c = ap (λ (k : KeptState). k.view.facts) c.mark.ensures.same ∙ c.requires.rest.no_facts

pub forget-requires : goal.forget-requires
forget-requires g c =
    let old : Modules g.row.E.Denot = c.args.modules.now in
    let marked : Modules g.row.E.Denot = c.mark.new.self in
    let b = c.args.block.now in
    let begun : Modules g.row.E.Denot = record { ground = record { bank = marked.ground.bank; ctx = record { height = b.height; time = b.time; params = old.ground.ctx.params }; facts = marked.ground.facts }; stakes = marked.stakes; hooks = marked.hooks } in
    let applied : Modules g.row.E.Denot = c.apply_parts.new.modules in
    record {
      «open» = still_open old begun applied applied c.requires.rest c.in_default.ensures.opened c.apply_parts.ensures.behind;
      listener = one_more_some _ _ _ (c.apply_parts.ensures.listener ∙ c.in_default.ensures.listener_opened);
    }

pub back-requires : goal.back-requires
back-requires g c =
    let old : Modules g.row.E.Denot = c.args.modules.now in
    let marked : Modules g.row.E.Denot = c.mark.new.self in
    let b = c.args.block.now in
    let begun : Modules g.row.E.Denot = record { ground = record { bank = marked.ground.bank; ctx = record { height = b.height; time = b.time; params = old.ground.ctx.params }; facts = marked.ground.facts }; stakes = marked.stakes; hooks = marked.hooks } in
    let applied : Modules g.row.E.Denot = c.apply_parts.new.modules in
    record {
      «open» = still_open old begun applied applied c.requires.rest c.in_default.ensures.opened c.apply_parts.ensures.behind;
      listener = one_more_some _ _ _ (c.apply_parts.ensures.listener ∙ c.in_default.ensures.listener_opened);
    }

pub returns-in-Ok-clause-applies : goal.returns-in-Ok-clause-applies
returns-in-Ok-clause-applies g c = λ p s.
    let old : Modules g.row.E.Denot = c.args.modules.now in
    let marked : Modules g.row.E.Denot = c.mark.new.self in
    let b = c.args.block.now in
    let begun : Modules g.row.E.Denot = record { ground = record { bank = marked.ground.bank; ctx = record { height = b.height; time = b.time; params = old.ground.ctx.params }; facts = marked.ground.facts }; stakes = marked.stakes; hooks = marked.hooks } in
    let checked = c.in_ok-check_block.ensures.checked p s in
    subst (λ k. Applies b p k (Ok c.in-Ok.report)) (sym c.forget.ensures.same)
    (applies_parts b p (kept_of c.apply_parts.new.modules) (Ok c.in-Ok.report) checked
    (c.in-Ok.ensures.steps (opened b p) (has_begun b (kept_of old) (kept_of begun) p s checked c.requires.height (begun_kept b old marked c.requires.rest c.mark.ensures.same))))

pub returns-in-Ok-clause-rest : goal.returns-in-Ok-clause-rest
returns-in-Ok-clause-rest g c =
    let old : Modules g.row.E.Denot = c.args.modules.now in
    let marked : Modules g.row.E.Denot = c.mark.new.self in
    let b = c.args.block.now in
    let begun : Modules g.row.E.Denot = record { ground = record { bank = marked.ground.bank; ctx = record { height = b.height; time = b.time; params = old.ground.ctx.params }; facts = marked.ground.facts }; stakes = marked.stakes; hooks = marked.hooks } in
    rest_closed old begun c.apply_parts.new.modules c.forget.new.self c.requires.rest c.in_default.ensures.opened c.apply_parts.ensures.behind c.in-Ok.ensures.steady c.in-Ok.ensures.none
    c.forget.ensures.closed c.forget.ensures.same c.forget.ensures.power

pub returns-in-Ok-clause-settled : goal.returns-in-Ok-clause-settled
returns-in-Ok-clause-settled g c =
    let marked : Modules g.row.E.Denot = c.mark.new.self in
    let b = c.args.block.now in
    let begun : Modules g.row.E.Denot = record { ground = record { bank = marked.ground.bank; ctx = record { height = b.height; time = b.time; params = c.args.modules.now.ground.ctx.params }; facts = marked.ground.facts }; stakes = marked.stakes; hooks = marked.hooks } in
    c.forget.ensures.settled ∙ settled_behind begun c.apply_parts.new.modules c.apply_parts.ensures.behind ∙ c.mark.ensures.settled

pub returns-clause-applies : goal.returns-clause-applies
returns-clause-applies g c = λ p s.
    let old : Modules g.row.E.Denot = c.args.modules.now in
    let marked : Modules g.row.E.Denot = c.mark.new.self in
    let b = c.args.block.now in
    let begun : Modules g.row.E.Denot = record { ground = record { bank = marked.ground.bank; ctx = record { height = b.height; time = b.time; params = old.ground.ctx.params }; facts = marked.ground.facts }; stakes = marked.stakes; hooks = marked.hooks } in
    let left : KeptState = kept_over (parts_of c.back.new.self) old.ground.ctx c.new.result in
    let checked = c.in_ok-check_block.ensures.checked p s in
    applies_parts b p left (Err c.in-Err-apply_parts.fault) checked
    (same_fault (parts_stepped b (opened b p)) (kept_of c.apply_parts.new.modules) left c.in-Err-apply_parts.fault
    (c.in-Err-apply_parts.ensures.steps (opened b p) (has_begun b (kept_of old) (kept_of begun) p s checked c.requires.height (begun_kept b old marked c.requires.rest c.mark.ensures.same))))

pub returns-clause-unchanged : goal.returns-clause-unchanged
returns-clause-unchanged g c =
    let old : Modules g.row.E.Denot = c.args.modules.now in
    let marked : Modules g.row.E.Denot = c.mark.new.self in
    let b = c.args.block.now in
    let begun : Modules g.row.E.Denot = record { ground = record { bank = marked.ground.bank; ctx = record { height = b.height; time = b.time; params = old.ground.ctx.params }; facts = marked.ground.facts }; stakes = marked.stakes; hooks = marked.hooks } in
    back_kept old begun c.apply_parts.new.modules c.back.new.self c.requires.rest c.in_default.ensures.opened c.apply_parts.ensures.behind c.back.ensures.back old.ground.ctx c.new.result refl c.new.ensures

pub returns-clause-rest : goal.returns-clause-rest
returns-clause-rest g c =
    let old : Modules g.row.E.Denot = c.args.modules.now in
    let marked : Modules g.row.E.Denot = c.mark.new.self in
    let b = c.args.block.now in
    let begun : Modules g.row.E.Denot = record { ground = record { bank = marked.ground.bank; ctx = record { height = b.height; time = b.time; params = old.ground.ctx.params }; facts = marked.ground.facts }; stakes = marked.stakes; hooks = marked.hooks } in
    let back : Modules g.row.E.Denot = c.back.new.self in
    let left : Modules g.row.E.Denot = record { ground = record { bank = back.ground.bank; ctx = old.ground.ctx; facts = c.new.result }; stakes = back.stakes; hooks = back.hooks } in
    rest_same old left c.requires.rest
    (back_kept old begun c.apply_parts.new.modules back c.requires.rest c.in_default.ensures.opened c.apply_parts.ensures.behind c.back.ensures.back old.ground.ctx c.new.result refl c.new.ensures)
    (back_marks old begun c.apply_parts.new.modules back c.requires.rest c.in_default.ensures.opened c.apply_parts.ensures.behind c.back.ensures.back)
    (c.back.ensures.power ∙ ap (λ x. x.staking.power_reduction) c.apply_parts.ensures.behind ∙ c.mark.ensures.power)

pub returns-clause-settled : goal.returns-clause-settled
returns-clause-settled g c =
    let marked : Modules g.row.E.Denot = c.mark.new.self in
    let b = c.args.block.now in
    let begun : Modules g.row.E.Denot = record { ground = record { bank = marked.ground.bank; ctx = record { height = b.height; time = b.time; params = c.args.modules.now.ground.ctx.params }; facts = marked.ground.facts }; stakes = marked.stakes; hooks = marked.hooks } in
    c.back.ensures.settled ∙ settled_behind begun c.apply_parts.new.modules c.apply_parts.ensures.behind ∙ c.mark.ensures.settled

pub returns-in-Err-clause-unheard : goal.returns-in-Err-clause-unheard
returns-in-Err-clause-unheard g c = g.met.E.Extra.listens.restores _ _ c.mark.ensures.listener_same

pub returns-in-Ok-clause-heard : goal.returns-in-Ok-clause-heard
returns-in-Ok-clause-heard g c = λ w s.
    let old : Modules g.row.E.Denot = c.args.modules.now in
    let marked : Modules g.row.E.Denot = c.mark.new.self in
    let b = c.args.block.now in
    let begun : Modules g.row.E.Denot = record { ground = record { bank = marked.ground.bank; ctx = record { height = b.height; time = b.time; params = old.ground.ctx.params }; facts = marked.ground.facts }; stakes = marked.stakes; hooks = marked.hooks } in
    let listens = g.met.E.Extra.listens in
    let checked = c.in_ok-check_block.ensures.checked (unheard w) s.0 in
    let first = hearing (heard_in w) (opened b (unheard w)) in
    block_hears g.E.Extra.heard g.E.Extra.hears g.E.Extra.parted g.E.Extra.ended c.apply_parts.new.modules c.forget.new.self (parts_heard g.E.Extra.hears g.E.Extra.parted g.E.Extra.ended b first) c.forget.ensures.same (listens.restores _ _ c.forget.ensures.listener_same)
    (c.in-Ok.ensures.heard first (has_begun b (kept_of old) (kept_of begun) (unheard w) s.0 checked c.requires.height (begun_kept b old marked c.requires.rest c.mark.ensures.same), listens.restores _ _ c.mark.ensures.listener_same ∙ s.1))

pub returns-clause-unheard : goal.returns-clause-unheard
returns-clause-unheard g c =
    heard_again g.met.E.Extra.listens (listener_of c.args.modules.now) (listener_of c.back.new.self) (c.back.ensures.listener ∙ c.apply_parts.ensures.listener ∙ c.in_default.ensures.listener_opened)
