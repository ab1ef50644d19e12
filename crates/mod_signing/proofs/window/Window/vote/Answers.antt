use Rattle.std.proofs.Common.{◌≡◌, ◌∙◌, ◌<◌, Some, None, refl, sym, ap, subst}
use Rattle.base_roles.specs.{declared.entities.SigningInfo.SigningInfo, Ground.seen, Staked.validator_by_cons}
use Rattle.base_roles.specs.World.{World}
use Rattle.rule_modules.specs.Window.{signing_of, vote_counted}
use Rattle.mod_signing.specs.{Calls.{HasEntry, VoteAnswers}, Kept.signed_of, Stands.KeepsSignings}
use Rattle.mod_signing.proofs.{CallLemmas.{entry_has, entry_none}, StandLemmas.{none_at, plain_at}}
use Rattle.mod_signing.proofs.SlashLemmas.{falls-none}
use Rattle.mod_signing.proofs.VoteLemmas.{ground-same, skipped-gone, skipped-jailed, skipped-new, skips}
use Rattle.mod_signing.proofs.window.Window.vote.Goals as goal

pub returns-in-None-clause-told : goal.returns-in-None-clause-told
returns-in-None-clause-told g c = λ h o log i keeps.
    let s = g.S.Slasher in
    let cons = c.args.vote.now.cons in
    let window = c.args.g.now.ctx.params.signed_blocks_window in
    let w : World s.Held g.H.StakingHooks.Held = record { mine = s.held c.args.slasher.now; hooks = h; view = seen g.B.Bank.holdings c.args.g.now; log = log } in
    let gone : validator_by_cons (s.stake (s.held c.args.slasher.now)) cons ≡ None = ap (λ x. validator_by_cons x cons) (sym (g.met.S.Slasher.looks_up c.args.slasher.now)) ∙ sym c.in-None.ensures.value in
    skips (record { stake = s.stake; slash = s.slashes g.H.StakingHooks.Held g.H.StakingHooks.tells.told; jail = s.jails }) c.args.vote.now i w (validator_by_cons (s.stake (s.held c.args.slasher.now)) cons) (signing_of i cons)
    (skipped-gone (record { stake = s.stake; slash = s.slashes g.H.StakingHooks.Held g.H.StakingHooks.tells.told; jail = s.jails }) c.args.vote.now i w (validator_by_cons (s.stake (s.held c.args.slasher.now)) cons) (signing_of i cons) gone)
    (KeepsSignings window c.args.self.now.kept) (g.H.StakingHooks.holds c.args.hooks.now) keeps o

pub returns-in-None-entry-clause-told : goal.returns-in-None-entry-clause-told
returns-in-None-entry-clause-told g c = λ h o log i keeps.
    let s = g.S.Slasher in
    let cons = c.args.vote.now.cons in
    let window = c.args.g.now.ctx.params.signed_blocks_window in
    let w : World s.Held g.H.StakingHooks.Held = record { mine = s.held c.args.slasher.now; hooks = h; view = seen g.B.Bank.holdings c.args.g.now; log = log } in
    let known : validator_by_cons (s.stake (s.held c.args.slasher.now)) cons ≡ Some c.in-Some.v.now = ap (λ x. validator_by_cons x cons) (sym (g.met.S.Slasher.looks_up c.args.slasher.now)) ∙ sym c.in-Some.ensures.value in
    let new : signing_of i cons ≡ None = none_at window c.args.self.now.kept i cons keeps (ap (λ t. signed_of t.kept cons) (sym c.self.view_is) ∙ entry_none c.self.inside.tables.kept cons None c.in-None-entry.ensures.found refl) in
    skips (record { stake = s.stake; slash = s.slashes g.H.StakingHooks.Held g.H.StakingHooks.tells.told; jail = s.jails }) c.args.vote.now i w (validator_by_cons (s.stake (s.held c.args.slasher.now)) cons) (signing_of i cons)
    (ap (λ x. vote_counted (record { stake = s.stake; slash = s.slashes g.H.StakingHooks.Held g.H.StakingHooks.tells.told; jail = s.jails }) x (signing_of i cons) c.args.vote.now i w) known ∙ skipped-new (record { stake = s.stake; slash = s.slashes g.H.StakingHooks.Held g.H.StakingHooks.tells.told; jail = s.jails }) c.args.vote.now i w c.in-Some.v.now (signing_of i cons) new)
    (KeepsSignings window c.args.self.now.kept) (g.H.StakingHooks.holds c.args.hooks.now) keeps o

pub returns-then-v-clause-told : goal.returns-then-v-clause-told
returns-then-v-clause-told g c = λ h o log i keeps.
    let s = g.S.Slasher in
    let cons = c.args.vote.now.cons in
    let window = c.args.g.now.ctx.params.signed_blocks_window in
    let w : World s.Held g.H.StakingHooks.Held = record { mine = s.held c.args.slasher.now; hooks = h; view = seen g.B.Bank.holdings c.args.g.now; log = log } in
    let known : validator_by_cons (s.stake (s.held c.args.slasher.now)) cons ≡ Some c.in-Some.v.now = ap (λ x. validator_by_cons x cons) (sym (g.met.S.Slasher.looks_up c.args.slasher.now)) ∙ sym c.in-Some.ensures.value in
    let he : HasEntry cons c.in-Some-entry.entry.now.info c.in-Some-entry.entry.now.places c.args.self.now.kept = subst (λ t. HasEntry cons c.in-Some-entry.entry.now.info c.in-Some-entry.entry.now.places t.kept) c.self.view_is (entry_has c.self.inside.tables.kept cons (Some c.in-Some-entry.entry.now) c.in-Some-entry.ensures.found c.in-Some-entry.entry.now refl) in
    let plain = plain_at window c.args.self.now.kept i cons he.0 keeps he.1.0 in
    skips (record { stake = s.stake; slash = s.slashes g.H.StakingHooks.Held g.H.StakingHooks.tells.told; jail = s.jails }) c.args.vote.now i w (validator_by_cons (s.stake (s.held c.args.slasher.now)) cons) (signing_of i cons)
    ((λ j. vote_counted (record { stake = s.stake; slash = s.slashes g.H.StakingHooks.Held g.H.StakingHooks.tells.told; jail = s.jails }) (known j) (plain.1.0 j) c.args.vote.now i w) ∙ skipped-jailed (record { stake = s.stake; slash = s.slashes g.H.StakingHooks.Held g.H.StakingHooks.tells.told; jail = s.jails }) c.args.vote.now i w c.in-Some.v.now plain.0 c.if-v.true)
    (KeepsSignings window c.args.self.now.kept) (g.H.StakingHooks.holds c.args.hooks.now) keeps o

pub returns-clause-told : goal.returns-clause-told
returns-clause-told g c = λ h o log i keeps.
    let s = g.S.Slasher in
    let cons = c.args.vote.now.cons in
    let window = c.args.g.now.ctx.params.signed_blocks_window in
    let w : World s.Held g.H.StakingHooks.Held = record { mine = s.held c.args.slasher.now; hooks = h; view = seen g.B.Bank.holdings c.args.g.now; log = log } in
    let known : validator_by_cons (s.stake (s.held c.args.slasher.now)) cons ≡ Some c.in-Some.v.now = ap (λ x. validator_by_cons x cons) (sym (g.met.S.Slasher.looks_up c.args.slasher.now)) ∙ sym c.in-Some.ensures.value in
    let he : HasEntry cons c.in-Some-entry.entry.now.info c.in-Some-entry.entry.now.places c.args.self.now.kept = subst (λ t. HasEntry cons c.in-Some-entry.entry.now.info c.in-Some-entry.entry.now.places t.kept) c.self.view_is (entry_has c.self.inside.tables.kept cons (Some c.in-Some-entry.entry.now) c.in-Some-entry.ensures.found c.in-Some-entry.entry.now refl) in
    let plain = plain_at window c.args.self.now.kept i cons he.0 keeps he.1.0 in
    subst (λ r. VoteAnswers r (KeepsSignings window c.count.new.self.kept) (s.held c.count.new.slasher) (g.H.StakingHooks.holds c.count.new.hooks) (seen g.B.Bank.holdings c.count.new.g) c.count.result)
    (sym (λ j. vote_counted (record { stake = s.stake; slash = s.slashes g.H.StakingHooks.Held g.H.StakingHooks.tells.told; jail = s.jails }) (known j) (plain.1.0 j) c.args.vote.now i w)) (c.count.ensures.told h o log i keeps plain.0 plain.1.0)

pub count-requires-clause-known : goal.count-requires-clause-known
count-requires-clause-known g c =
    let s = g.S.Slasher in
    ap (λ x. validator_by_cons x c.args.vote.now.cons) (sym (g.met.S.Slasher.looks_up c.args.slasher.now)) ∙ sym c.in-Some.ensures.value

pub count-requires-clause-entry : goal.count-requires-clause-entry
count-requires-clause-entry g c =
    let cons = c.args.vote.now.cons in
    let x = c.in-Some-entry.entry.now in
    subst (λ t. HasEntry cons x.info x.places t.kept) c.self.view_is (entry_has c.self.inside.tables.kept cons (Some x) c.in-Some-entry.ensures.found x refl)

pub count-requires-clause-counted : goal.count-requires-clause-counted
count-requires-clause-counted g c =
    let cons = c.args.vote.now.cons in
    let x = c.in-Some-entry.entry.now in
    let he = entry_has c.self.inside.tables.kept cons (Some x) c.in-Some-entry.ensures.found x refl in
    subst (λ (f : SigningInfo). f.counted < c.args.g.now.ctx.height) (sym he.1.1.0) (c.requires.counted he.0 (ap (λ t. signed_of t.kept cons) (sym c.self.view_is) ∙ he.1.0))

pub returns-in-None-clause-ground : goal.returns-in-None-clause-ground
returns-in-None-clause-ground g c = ground-same g.B.Bank.marks g.B.Bank.most_steps g.H.StakingHooks.marks g.S.Slasher.marks c.args.g.now c.args.hooks.now c.args.slasher.now

pub returns-in-None-entry-clause-ground : goal.returns-in-None-entry-clause-ground
returns-in-None-entry-clause-ground g c = ground-same g.B.Bank.marks g.B.Bank.most_steps g.H.StakingHooks.marks g.S.Slasher.marks c.args.g.now c.args.hooks.now c.args.slasher.now

pub returns-then-v-clause-ground : goal.returns-then-v-clause-ground
returns-then-v-clause-ground g c = ground-same g.B.Bank.marks g.B.Bank.most_steps g.H.StakingHooks.marks g.S.Slasher.marks c.args.g.now c.args.hooks.now c.args.slasher.now

pub returns-in-None-clause-falls : goal.returns-in-None-clause-falls
returns-in-None-clause-falls g c = falls-none _ _ _

pub returns-in-None-entry-clause-falls : goal.returns-in-None-entry-clause-falls
returns-in-None-entry-clause-falls g c = falls-none _ _ _

pub returns-then-v-clause-falls : goal.returns-then-v-clause-falls
returns-then-v-clause-falls g c = falls-none _ _ _
