use Rattle.std.proofs.Common.{◌≡◌, ◌∙◌, map, Some, None, refl, sym, ap, subst}
use Rattle.base_roles.specs.Ground.{SameMoment}
use Rattle.rule_machine.specs.{Listening.{messages_heard, unheard}, Messages.effect_of}
use Rattle.rule_modules.specs.Effects.{effects_of}
use Rattle.chain_transactions.{specs.Answers.MessagesEnd, proofs.HearingLemmas.{accepted_hears, refused_hears}}
use Rattle.chain_transactions.proofs.TransactionLemmas.{accepted_ends, undone, refused_ends}
use Rattle.chain_modules.specs.declared.modules.Modules.{Modules}
use Rattle.chain_modules.specs.Kept.{KeptState, kept_of, kept_over, listener_of, parts_of}
use Rattle.chain_modules.proofs.{ErasingLemmas.messages_unheard, HeardLemmas.{heard_again, hears_same}}
use Rattle.chain_modules.proofs.StandLemmas.{whole_same}
use Rattle.chain_transactions.proofs.transaction.all_or_none.Goals as goal

pub returns-in-Ok-Some-clause-ended : goal.returns-in-Ok-Some-clause-ended
returns-in-Ok-Some-clause-ended g c = λ p s.
    let old = c.args.modules.now in
    let back = c.back.new.self in
    let place = c.in-Ok-Some.place in
    let why = c.in-Ok-Some.why in
    let is : c.in-Ok-Some.field-0 ≡ Some (place, why) = cc in
    let r = effects_of 0 (map effect_of c.args.messages.now) p in
    let left = kept_of c.apply_messages.new.modules in
    refused_ends p r left (kept_over (parts_of back) old.ground.ctx c.cut.new.self) (kept_of old) place why
    (subst (λ o. MessagesEnd r o left) is (c.in-Ok-Some.ensures.ends p (whole_same (kept_of old) (kept_of c.mark.new.self) p c.mark.ensures.same s)))
    (undone old c.mark.new.self c.apply_messages.new.modules back c.len-told.result c.cut.new.self c.mark.ensures.same c.in_ok-mark.ensures.opened c.apply_messages.ensures.go_on c.back.ensures.back
    c.back.ensures.facts c.len-told.ensures c.cut.ensures)
    s

pub returns-in-Ok-None-clause-ended : goal.returns-in-Ok-None-clause-ended
returns-in-Ok-None-clause-ended g c = λ p s.
    let old = c.args.modules.now in
    let is : c.in-Ok-None.field-0 ≡ None = cc in
    let r = effects_of 0 (map effect_of c.args.messages.now) p in
    let left = kept_of c.apply_messages.new.modules in
    accepted_ends p r left (kept_of c.forget.new.self)
    (subst (λ o. MessagesEnd r o left) is (c.in-Ok-None.ensures.ends p (whole_same (kept_of old) (kept_of c.mark.new.self) p c.mark.ensures.same s))) c.forget.ensures.same

pub returns-in-Ok-Some-clause-steady : goal.returns-in-Ok-Some-clause-steady
returns-in-Ok-Some-clause-steady g c =
    let old = c.args.modules.now in
    let back = c.back.new.self in
    let steady = c.requires.steady in
    let same =
    undone old c.mark.new.self c.apply_messages.new.modules back c.len-told.result c.cut.new.self c.mark.ensures.same c.in_ok-mark.ensures.opened c.apply_messages.ensures.go_on c.back.ensures.back
    c.back.ensures.facts c.len-told.ensures c.cut.ensures in
    record {
      power = c.back.ensures.power ∙ ap (λ b. b.staking.power_reduction) c.apply_messages.ensures.go_on.behind ∙ c.mark.ensures.power ∙ steady.power;
      state = steady.state;
      stands = whole_same (kept_of old) (kept_over (parts_of back) old.ground.ctx c.cut.new.self) steady.state same steady.stands;
    }

pub returns-in-Ok-None-clause-steady : goal.returns-in-Ok-None-clause-steady
returns-in-Ok-None-clause-steady g c =
    let is : c.in-Ok-None.field-0 ≡ None = cc in
    let applied = c.apply_messages.new.modules in
    let last = c.forget.new.self in
    let same = c.forget.ensures.same in
    let steady = c.in-Ok-None.ensures.steady is in
    record {
      power = c.forget.ensures.power ∙ steady.power ∙ sym (ap (λ (k : KeptState). k.view.ctx.params.power_reduction) same);
      state = steady.state;
      stands = whole_same (kept_of applied) (kept_of last) steady.state same steady.stands;
    }

pub returns-in-Ok-Some-clause-moment : goal.returns-in-Ok-Some-clause-moment
returns-in-Ok-Some-clause-moment g c = record { height = refl; time = refl; bond_denom = refl; power_reduction = refl }

pub returns-in-Ok-None-clause-moment : goal.returns-in-Ok-None-clause-moment
returns-in-Ok-None-clause-moment g c =
    let old = c.args.modules.now in
    let first = ap (λ (k : KeptState). k.view.ctx) c.mark.ensures.same in
    let last = ap (λ (k : KeptState). k.view.ctx) c.forget.ensures.same in
    subst (λ x. SameMoment x c.forget.new.self.ground.ctx) first (subst (SameMoment c.mark.new.self.ground.ctx) (sym last) c.apply_messages.ensures.go_on.moment)

pub returns-in-Ok-Some-clause-heard : goal.returns-in-Ok-Some-clause-heard
returns-in-Ok-Some-clause-heard g c = λ w s.
    let old : Modules g.row.E.Denot = c.args.modules.now in
    let back : Modules g.row.E.Denot = c.back.new.self in
    let left : Modules g.row.E.Denot = record { ground = record { bank = back.ground.bank; ctx = old.ground.ctx; facts = c.cut.new.self }; stakes = back.stakes; hooks = back.hooks } in
    let place = c.in-Ok-Some.place in
    let why = c.in-Ok-Some.why in
    let is : c.in-Ok-Some.field-0 ≡ Some (place, why) = cc in
    let r = effects_of 0 (map effect_of c.args.messages.now) (unheard w) in
    let after = kept_of c.apply_messages.new.modules in
    refused_hears g.E.Extra.heard g.E.Extra.hears old left w r (messages_heard g.E.Extra.hears c.args.messages.now w) (place, why) after (messages_unheard g.E.Extra.hears 0 c.args.messages.now w)
    (subst (λ o. MessagesEnd r o after) is (c.in-Ok-Some.ensures.ends (unheard w) (whole_same (kept_of old) (kept_of c.mark.new.self) (unheard w) c.mark.ensures.same s.0)))
    (undone old c.mark.new.self c.apply_messages.new.modules back c.len-told.result c.cut.new.self c.mark.ensures.same c.in_ok-mark.ensures.opened c.apply_messages.ensures.go_on c.back.ensures.back
    c.back.ensures.facts c.len-told.ensures c.cut.ensures)
    (heard_again g.met.E.Extra.listens (listener_of old) (listener_of back) (c.back.ensures.listener ∙ c.apply_messages.ensures.listener ∙ c.in_ok-mark.ensures.listener_opened)) s

pub returns-in-Ok-None-clause-heard : goal.returns-in-Ok-None-clause-heard
returns-in-Ok-None-clause-heard g c = λ w s.
    let old : Modules g.row.E.Denot = c.args.modules.now in
    let marked : Modules g.row.E.Denot = c.mark.new.self in
    let listens = g.met.E.Extra.listens in
    let is : c.in-Ok-None.field-0 ≡ None = cc in
    accepted_hears g.E.Extra.heard g.E.Extra.hears c.apply_messages.new.modules c.forget.new.self w (messages_heard g.E.Extra.hears c.args.messages.now w)
    (c.in-Ok-None.ensures.heard w (hears_same g.E.Extra.heard old marked w c.mark.ensures.same (listens.restores _ _ c.mark.ensures.listener_same) s) is) c.forget.ensures.same (listens.restores _ _ c.forget.ensures.listener_same)
