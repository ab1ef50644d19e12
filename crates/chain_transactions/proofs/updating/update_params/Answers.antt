use Rattle.std.proofs.Common.{◌≡◌, Err, refl, sym, subst, rules}
use Rattle.base_roles.specs.declared.faults.MessageFault.TheVariants as stop
use Rattle.base_roles.proofs.RangeLemmas.{in_range}
use Rattle.rule_modules.{specs.Parameters.update_params, proofs.ParameterLemmas.let_in}
use Rattle.chain_modules.specs.{declared.modules.Modules.Modules, Kept.kept_of, Marks.behind_of}
use Rattle.chain_modules.proofs.MarkLemmas.{at_moment, stay_on}
use Rattle.chain_transactions.specs.Answers.{MessageEnds}
use Rattle.chain_transactions.proofs.UpdateLemmas.{IsUpdated, update_ends, update_on, update_steady, update_stops, update_wants, window_on, window_some}
use Rattle.chain_transactions.proofs.updating.update_params.Goals as goal

-- ---- the window is resized

pub resize-requires-clause-some : goal.resize-requires-clause-some
resize-requires-clause-some g c = (in_range c.args.m.now.params (let_in c.args.m.now.authority c.args.modules.now.ground.ctx.params c.args.m.now.params (sym c.in_ok-may_update.ensures)).0).signed_blocks_window

pub resize-requires-clause-most : goal.resize-requires-clause-most
resize-requires-clause-most g c = (in_range c.args.m.now.params (let_in c.args.m.now.authority c.args.modules.now.ground.ctx.params c.args.m.now.params (sym c.in_ok-may_update.ensures)).0).signed_blocks_window_most

-- ---- it is refused

pub returns-in_err-may_update-clause-ends : goal.returns-in_err-may_update-clause-ends
returns-in_err-may_update-clause-ends g c = λ p s.
    let old : Modules g.row.E.Denot = c.args.modules.now in
    let m = c.args.m.now in
    let why = c.in_err-may_update.field-0.0 in
    let given : c.from_residual.result ≡ Err (stop.Refused why) = search rules in
    subst (MessageEnds (update_params m.authority m.params p) (kept_of old)) (sym given) (update_stops m.authority m.params old (kept_of old) why (sym c.in_err-may_update.ensures) p s)

pub returns-in_err-may_update-clause-go_on : goal.returns-in_err-may_update-clause-go_on
returns-in_err-may_update-clause-go_on g c = at_moment c.args.modules.now c.args.modules.now (stay_on c.args.modules.now)

-- ---- memory is wanting

pub returns-in_err-resize-clause-ends : goal.returns-in_err-resize-clause-ends
returns-in_err-resize-clause-ends g c = λ p s.
    let old : Modules g.row.E.Denot = c.args.modules.now in
    let m = c.args.m.now in
    let left : Modules g.row.E.Denot = record { ground = old.ground; stakes = old.stakes; hooks = record { first = old.hooks.first; second = c.resize.new.self } } in
    let given : c.from_residual-in_err-resize.result ≡ Err stop.NoMemory = search rules in
    subst (MessageEnds (update_params m.authority m.params p) (kept_of left)) (sym given) (update_wants m.authority m.params old (kept_of left) (sym c.in_ok-may_update.ensures) p s)

pub returns-in_err-resize-clause-go_on : goal.returns-in_err-resize-clause-go_on
returns-in_err-resize-clause-go_on g c =
    let old : Modules g.row.E.Denot = c.args.modules.now in
    let left : Modules g.row.E.Denot = record { ground = old.ground; stakes = old.stakes; hooks = record { first = old.hooks.first; second = c.resize.new.self } } in
    window_on old left refl refl refl c.resize.ensures.goes_on.behind

pub returns-in_err-push-clause-ends : goal.returns-in_err-push-clause-ends
returns-in_err-push-clause-ends g c = λ p s.
    let old : Modules g.row.E.Denot = c.args.modules.now in
    let m = c.args.m.now in
    let left : Modules g.row.E.Denot = record { ground = record { bank = old.ground.bank; ctx = old.ground.ctx; facts = c.push.new.self }; stakes = old.stakes; hooks = record { first = old.hooks.first; second = c.resize.new.self } } in
    let given : c.from_residual-in_err-push.result ≡ Err stop.NoMemory = search rules in
    subst (MessageEnds (update_params m.authority m.params p) (kept_of left)) (sym given) (update_wants m.authority m.params old (kept_of left) (sym c.in_ok-may_update.ensures) p s)

pub returns-in_err-push-clause-go_on : goal.returns-in_err-push-clause-go_on
returns-in_err-push-clause-go_on g c =
    let old : Modules g.row.E.Denot = c.args.modules.now in
    let left : Modules g.row.E.Denot = record { ground = record { bank = old.ground.bank; ctx = old.ground.ctx; facts = c.push.new.self }; stakes = old.stakes; hooks = record { first = old.hooks.first; second = c.resize.new.self } } in
    window_on old left (λ i. record { bank = old.ground.bank; ctx = old.ground.ctx; facts = c.in_err-push.ensures.err i }) refl refl c.resize.ensures.goes_on.behind

-- ---- it is carried out

pub returns-clause-ends : goal.returns-clause-ends
returns-clause-ends g c = λ p s.
    let old : Modules g.row.E.Denot = c.args.modules.now in
    let m = c.args.m.now in
    let new : Modules g.row.E.Denot = record {
      ground = record { bank = old.ground.bank; ctx = record old.ground.ctx { params = m.params }; facts = c.push.new.self };
      stakes = old.stakes;
      hooks = record { first = old.hooks.first; second = c.resize.new.self };
    } in
    let is : IsUpdated m.authority m.params old new = record {
      bank = refl;
      ctx = refl;
      facts = c.in_ok-push.ensures.ok;
      stakes = refl;
      shared = refl;
      signings = λ i keeps. c.in_ok-resize.ensures.resized old.ground.ctx.params.signed_blocks_window i (window_some old c.requires.steady) keeps;
    } in
    update_ends m.authority m.params old new is (sym c.in_ok-may_update.ensures) p s

pub returns-clause-steady : goal.returns-clause-steady
returns-clause-steady g c =
    let old : Modules g.row.E.Denot = c.args.modules.now in
    let m = c.args.m.now in
    let new : Modules g.row.E.Denot = record {
      ground = record { bank = old.ground.bank; ctx = record old.ground.ctx { params = m.params }; facts = c.push.new.self };
      stakes = old.stakes;
      hooks = record { first = old.hooks.first; second = c.resize.new.self };
    } in
    let is : IsUpdated m.authority m.params old new = record {
      bank = refl;
      ctx = refl;
      facts = c.in_ok-push.ensures.ok;
      stakes = refl;
      shared = refl;
      signings = λ i keeps. c.in_ok-resize.ensures.resized old.ground.ctx.params.signed_blocks_window i (window_some old c.requires.steady) keeps;
    } in
    update_steady m.authority m.params old new is (sym c.in_ok-may_update.ensures) c.requires.steady refl

pub returns-clause-go_on : goal.returns-clause-go_on
returns-clause-go_on g c =
    let old : Modules g.row.E.Denot = c.args.modules.now in
    let m = c.args.m.now in
    let new : Modules g.row.E.Denot = record {
      ground = record { bank = old.ground.bank; ctx = record old.ground.ctx { params = m.params }; facts = c.push.new.self };
      stakes = old.stakes;
      hooks = record { first = old.hooks.first; second = c.resize.new.self };
    } in
    let is : IsUpdated m.authority m.params old new = record {
      bank = refl;
      ctx = refl;
      facts = c.in_ok-push.ensures.ok;
      stakes = refl;
      shared = refl;
      signings = λ i keeps. c.in_ok-resize.ensures.resized old.ground.ctx.params.signed_blocks_window i (window_some old c.requires.steady) keeps;
    } in
    update_on m.authority m.params old new is (sym c.in_ok-may_update.ensures) (λ i. record {
      bank = (behind_of old).bank;
      staking = (behind_of old).staking;
      unbondings = (behind_of old).unbondings;
      redelegations = (behind_of old).redelegations;
      shared = (behind_of old).shared;
      signings = c.resize.ensures.goes_on.behind i;
    })
