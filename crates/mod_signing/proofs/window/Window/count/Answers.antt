use Rattle.std.proofs.Common.{rules, Err, ◌≡◌, ◌∙◌, ◌+◌, ◌/◌, ◌≤◌, [], ◌∷◌, length, take, Some, refl, sym, ap, subst, arith, not, IsSome, is_some}
use Rattle.base_roles.specs.{Ground.seen, Log.Log, declared.faults.HookFault.TheVariants.NoMemory}
use Rattle.rule_modules.specs.{Amounts.seconds, Window.{Signing, info_of, vote_counted}}
use Rattle.mod_signing.specs.{Calls.{HasEntry, IsRow, VoteAnswers, ring_at}, Kept.{Signed, signed_of, with_signed}}
use Rattle.mod_signing.specs.{Rings.ring_with, Stands.{KeepsSignings, KeepsVotes, IsKept}}
use Rattle.mod_signing.proofs.CallLemmas.{kept_counted, kept_reset, place_fits, places_next}
use Rattle.mod_signing.proofs.{DownLemmas.{down_height, down_status}, SlashLemmas.falls-none, StandLemmas.plain_at}
use Rattle.mod_signing.proofs.VoteLemmas.{count-fails, count-leaves, count-wants, ground-same, not-both, punished_is, punished-leaves, punished-wants}
use Rattle.mod_signing.proofs.window.Window.count.Goals as goal

pub returns-in_err-punish-clause-told : goal.returns-in_err-punish-clause-told
returns-in_err-punish-clause-told g c = λ h o log i keeps r found.
    let s = g.S.Slasher in
    let hk = g.H.StakingHooks in
    let kept = c.self.inside.tables.kept in
    let info = c.args.entry.now.info in
    let places = c.args.entry.now.places in
    let window = c.args.g.now.ctx.params.signed_blocks_window in
    let he : HasEntry c.args.vote.now.cons info places kept = subst (λ w. HasEntry c.args.vote.now.cons info places w.kept) (sym c.self.view_is) c.requires.entry in
    let stands : KeepsSignings window kept i = subst (λ w. KeepsSignings window w.kept i) (sym c.self.view_is) keeps in
    let told : (k : Signed) → signed_of kept c.args.vote.now.cons ≡ Some k → (t : Signing) → KeepsVotes window k t → c.tally-tally.result.info ≡ info_of window (record t { votes = not c.args.vote.now.signed ∷ t.votes })
    = subst (λ w. (k : Signed) → signed_of w.kept c.args.vote.now.cons ≡ Some k → (t : Signing) → KeepsVotes window k t → c.tally-tally.result.info ≡ info_of window (record t { votes = not c.args.vote.now.signed ∷ t.votes })) (sym c.self.view_is) c.tally-tally.ensures.info in
    let given : c.from_residual.result ≡ Err c.in_err-punish.field-0.0 = search rules in
    subst (VoteAnswers (vote_counted (record { stake = s.stake; slash = s.slashes g.H.StakingHooks.Held g.H.StakingHooks.tells.told; jail = s.jails }) (Some c.args.v.now) (Some r) c.args.vote.now i (record { mine = s.held c.args.slasher.now; hooks = h; view = seen g.B.Bank.holdings c.args.g.now; log = log })) (KeepsSignings window c.args.self.now.kept) (s.held c.punish.new.slasher) (hk.holds c.punish.new.hooks) (seen g.B.Bank.holdings c.punish.new.g)) (sym given)
    (count-fails (record { stake = s.stake; slash = s.slashes g.H.StakingHooks.Held g.H.StakingHooks.tells.told; jail = s.jails }) c.args.vote.now i (record { mine = s.held c.args.slasher.now; hooks = h; view = seen g.B.Bank.holdings c.args.g.now; log = log }) c.args.v.now c.requires.free kept info places he c.tally-tally.result.info told stands r found
    (sym c.is_downtime.ensures ∙ c.if-is_downtime.true) (KeepsSignings window c.args.self.now.kept) (s.held c.punish.new.slasher) (hk.holds c.punish.new.hooks) (seen g.B.Bank.holdings c.punish.new.g) c.in_err-punish.field-0.0 (s.held c.punish.new.slasher) (hk.holds c.punish.new.hooks) (seen g.B.Bank.holdings c.punish.new.g) (c.in_err-punish.ensures.told h o log))

pub returns-in_err-put_info-clause-told : goal.returns-in_err-put_info-clause-told
returns-in_err-put_info-clause-told g c = λ h o log i keeps r found.
    let s = g.S.Slasher in
    let hk = g.H.StakingHooks in
    let kept = c.self.inside.tables.kept in
    let info = c.args.entry.now.info in
    let places = c.args.entry.now.places in
    let window = c.args.g.now.ctx.params.signed_blocks_window in
    let he : HasEntry c.args.vote.now.cons info places kept = subst (λ w. HasEntry c.args.vote.now.cons info places w.kept) (sym c.self.view_is) c.requires.entry in
    let stands : KeepsSignings window kept i = subst (λ w. KeepsSignings window w.kept i) (sym c.self.view_is) keeps in
    let told : (k : Signed) → signed_of kept c.args.vote.now.cons ≡ Some k → (t : Signing) → KeepsVotes window k t → c.tally-tally.result.info ≡ info_of window (record t { votes = not c.args.vote.now.signed ∷ t.votes })
    = subst (λ w. (k : Signed) → signed_of w.kept c.args.vote.now.cons ≡ Some k → (t : Signing) → KeepsVotes window k t → c.tally-tally.result.info ≡ info_of window (record t { votes = not c.args.vote.now.signed ∷ t.votes })) (sym c.self.view_is) c.tally-tally.ensures.info in
    let given : c.from_residual-in_err-put_info.result ≡ Err NoMemory = search rules in
    subst (VoteAnswers (vote_counted (record { stake = s.stake; slash = s.slashes g.H.StakingHooks.Held g.H.StakingHooks.tells.told; jail = s.jails }) (Some c.args.v.now) (Some r) c.args.vote.now i (record { mine = s.held c.args.slasher.now; hooks = h; view = seen g.B.Bank.holdings c.args.g.now; log = log })) (KeepsSignings window c.put_info.new.self.kept) (s.held c.punish.new.slasher) (hk.holds c.punish.new.hooks) (seen g.B.Bank.holdings c.punish.new.g)) (sym given)
    (punished-wants (record { stake = s.stake; slash = s.slashes g.H.StakingHooks.Held g.H.StakingHooks.tells.told; jail = s.jails }) c.args.vote.now i (record { mine = s.held c.args.slasher.now; hooks = h; view = seen g.B.Bank.holdings c.args.g.now; log = log }) c.args.v.now c.requires.free kept info places he c.tally-tally.result.info told stands r found
    (sym c.is_downtime.ensures ∙ c.if-is_downtime.true) (KeepsSignings window c.put_info.new.self.kept) (s.held c.punish.new.slasher) (hk.holds c.punish.new.hooks) (seen g.B.Bank.holdings c.punish.new.g) NoMemory refl (s.held c.punish.new.slasher) (hk.holds c.punish.new.hooks) (seen g.B.Bank.holdings c.punish.new.g) (c.in_ok-punish.ensures.told h o log))

pub returns-then-is_downtime-clause-told : goal.returns-then-is_downtime-clause-told
returns-then-is_downtime-clause-told g c = λ h o log i keeps r found.
    let s = g.S.Slasher in
    let hk = g.H.StakingHooks in
    let kept = c.self.inside.tables.kept in
    let info = c.args.entry.now.info in
    let places = c.args.entry.now.places in
    let window = c.args.g.now.ctx.params.signed_blocks_window in
    let he : HasEntry c.args.vote.now.cons info places kept = subst (λ w. HasEntry c.args.vote.now.cons info places w.kept) (sym c.self.view_is) c.requires.entry in
    let stands : KeepsSignings window kept i = subst (λ w. KeepsSignings window w.kept i) (sym c.self.view_is) keeps in
    let told : (k : Signed) → signed_of kept c.args.vote.now.cons ≡ Some k → (t : Signing) → KeepsVotes window k t → c.tally-tally.result.info ≡ info_of window (record t { votes = not c.args.vote.now.signed ∷ t.votes })
    = subst (λ w. (k : Signed) → signed_of w.kept c.args.vote.now.cons ≡ Some k → (t : Signing) → KeepsVotes window k t → c.tally-tally.result.info ≡ info_of window (record t { votes = not c.args.vote.now.signed ∷ t.votes })) (sym c.self.view_is) c.tally-tally.ensures.info in
    punished-leaves (record { stake = s.stake; slash = s.slashes g.H.StakingHooks.Held g.H.StakingHooks.tells.told; jail = s.jails }) c.args.vote.now i (record { mine = s.held c.args.slasher.now; hooks = h; view = seen g.B.Bank.holdings c.args.g.now; log = log }) c.args.v.now c.requires.free kept info places he c.tally-tally.result.info told stands r found
    (sym c.is_downtime.ensures ∙ c.if-is_downtime.true) c.put_info.new.self.kept (s.held c.punish.new.slasher) (hk.holds c.punish.new.hooks) (seen g.B.Bank.holdings c.punish.new.g)
    (c.args.g.now.ctx.time + seconds c.args.g.now.ctx.params.downtime_jail_duration) refl
    (ap (λ t. t.kept) c.in_ok-put_info.ensures.ok ∙ ap (λ x. with_signed c.args.vote.now.cons (record { info = x; ring = take 0 (ring_at kept c.args.vote.now.cons) }) kept) c.reset.ensures) (c.in_ok-punish.ensures.told h o log)

pub returns-in_err-put_vote-clause-told : goal.returns-in_err-put_vote-clause-told
returns-in_err-put_vote-clause-told g c = λ h o log i keeps r found.
    let s = g.S.Slasher in
    let hk = g.H.StakingHooks in
    let kept = c.self.inside.tables.kept in
    let info = c.args.entry.now.info in
    let places = c.args.entry.now.places in
    let window = c.args.g.now.ctx.params.signed_blocks_window in
    let he : HasEntry c.args.vote.now.cons info places kept = subst (λ w. HasEntry c.args.vote.now.cons info places w.kept) (sym c.self.view_is) c.requires.entry in
    let stands : KeepsSignings window kept i = subst (λ w. KeepsSignings window w.kept i) (sym c.self.view_is) keeps in
    let told : (k : Signed) → signed_of kept c.args.vote.now.cons ≡ Some k → (t : Signing) → KeepsVotes window k t → c.tally-tally.result.info ≡ info_of window (record t { votes = not c.args.vote.now.signed ∷ t.votes })
    = subst (λ w. (k : Signed) → signed_of w.kept c.args.vote.now.cons ≡ Some k → (t : Signing) → KeepsVotes window k t → c.tally-tally.result.info ≡ info_of window (record t { votes = not c.args.vote.now.signed ∷ t.votes })) (sym c.self.view_is) c.tally-tally.ensures.info in
    let given : c.from_residual-in_err-put_vote.result ≡ Err NoMemory = search rules in
    subst (VoteAnswers (vote_counted (record { stake = s.stake; slash = s.slashes g.H.StakingHooks.Held g.H.StakingHooks.tells.told; jail = s.jails }) (Some c.args.v.now) (Some r) c.args.vote.now i (record { mine = s.held c.args.slasher.now; hooks = h; view = seen g.B.Bank.holdings c.args.g.now; log = log })) (KeepsSignings window c.put_vote.new.self.kept) (s.held c.args.slasher.now) (hk.holds c.args.hooks.now) (seen g.B.Bank.holdings c.args.g.now)) (sym given)
    (count-wants (record { stake = s.stake; slash = s.slashes g.H.StakingHooks.Held g.H.StakingHooks.tells.told; jail = s.jails }) c.args.vote.now i (record { mine = s.held c.args.slasher.now; hooks = h; view = seen g.B.Bank.holdings c.args.g.now; log = log }) c.args.v.now c.requires.free kept info places he c.tally-tally.result.info told stands r found
    (sym c.is_downtime.ensures ∙ c.if-is_downtime.false) (KeepsSignings window c.put_vote.new.self.kept) (s.held c.args.slasher.now) (hk.holds c.args.hooks.now) (seen g.B.Bank.holdings c.args.g.now) NoMemory tt)

pub returns-clause-told : goal.returns-clause-told
returns-clause-told g c = λ h o log i keeps r found.
    let s = g.S.Slasher in
    let hk = g.H.StakingHooks in
    let kept = c.self.inside.tables.kept in
    let info = c.args.entry.now.info in
    let places = c.args.entry.now.places in
    let window = c.args.g.now.ctx.params.signed_blocks_window in
    let he : HasEntry c.args.vote.now.cons info places kept = subst (λ w. HasEntry c.args.vote.now.cons info places w.kept) (sym c.self.view_is) c.requires.entry in
    let stands : KeepsSignings window kept i = subst (λ w. KeepsSignings window w.kept i) (sym c.self.view_is) keeps in
    let told : (k : Signed) → signed_of kept c.args.vote.now.cons ≡ Some k → (t : Signing) → KeepsVotes window k t → c.tally-tally.result.info ≡ info_of window (record t { votes = not c.args.vote.now.signed ∷ t.votes })
    = subst (λ w. (k : Signed) → signed_of w.kept c.args.vote.now.cons ≡ Some k → (t : Signing) → KeepsVotes window k t → c.tally-tally.result.info ≡ info_of window (record t { votes = not c.args.vote.now.signed ∷ t.votes })) (sym c.self.view_is) c.tally-tally.ensures.info in
    count-leaves (record { stake = s.stake; slash = s.slashes g.H.StakingHooks.Held g.H.StakingHooks.tells.told; jail = s.jails }) c.args.vote.now i (record { mine = s.held c.args.slasher.now; hooks = h; view = seen g.B.Bank.holdings c.args.g.now; log = log }) c.args.v.now c.requires.free kept info places he c.tally-tally.result.info told stands r found
    (sym c.is_downtime.ensures ∙ c.if-is_downtime.false) c.requires.scene.stand.1.1.in_order.params.signed_blocks_window c.put_vote.new.self.kept (hk.holds c.args.hooks.now) o
    (ap (λ t. t.kept) c.in_ok-put_vote.ensures.ok ∙ ap (λ p. with_signed c.args.vote.now.cons (record { info = c.tally-tally.result.info; ring = ring_with p (not c.args.vote.now.signed) (ring_at kept c.args.vote.now.cons) }) kept) c.tally-tally.ensures.place)

-- ---- the records still stand for plain ones

pub returns-then-is_downtime-clause-kept : goal.returns-then-is_downtime-clause-kept
returns-then-is_downtime-clause-kept g c =
    let s = g.S.Slasher in
    let hk = g.H.StakingHooks in
    let kept = c.self.inside.tables.kept in
    let info = c.args.entry.now.info in
    let places = c.args.entry.now.places in
    let window = c.args.g.now.ctx.params.signed_blocks_window in
    let he : HasEntry c.args.vote.now.cons info places kept = subst (λ w. HasEntry c.args.vote.now.cons info places w.kept) (sym c.self.view_is) c.requires.entry in
    let told : (k : Signed) → signed_of kept c.args.vote.now.cons ≡ Some k → (t : Signing) → KeepsVotes window k t → c.tally-tally.result.info ≡ info_of window (record t { votes = not c.args.vote.now.signed ∷ t.votes })
    = subst (λ w. (k : Signed) → signed_of w.kept c.args.vote.now.cons ≡ Some k → (t : Signing) → KeepsVotes window k t → c.tally-tally.result.info ≡ info_of window (record t { votes = not c.args.vote.now.signed ∷ t.votes })) (sym c.self.view_is) c.tally-tally.ensures.info in
    kept_reset kept c.args.vote.now.cons info places he window (subst (λ w. IsKept window w.kept) (sym c.self.view_is) c.requires.kept) (not c.args.vote.now.signed) c.tally-tally.result.info told c.put_info.new.self.kept c.args.g.now.ctx refl
    (c.args.g.now.ctx.time + seconds c.args.g.now.ctx.params.downtime_jail_duration) refl
    (ap (λ t. t.kept) c.in_ok-put_info.ensures.ok ∙ ap (λ x. with_signed c.args.vote.now.cons (record { info = x; ring = take 0 (ring_at kept c.args.vote.now.cons) }) kept) c.reset.ensures)

pub returns-clause-kept : goal.returns-clause-kept
returns-clause-kept g c =
    let s = g.S.Slasher in
    let hk = g.H.StakingHooks in
    let kept = c.self.inside.tables.kept in
    let info = c.args.entry.now.info in
    let places = c.args.entry.now.places in
    let window = c.args.g.now.ctx.params.signed_blocks_window in
    let he : HasEntry c.args.vote.now.cons info places kept = subst (λ w. HasEntry c.args.vote.now.cons info places w.kept) (sym c.self.view_is) c.requires.entry in
    let told : (k : Signed) → signed_of kept c.args.vote.now.cons ≡ Some k → (t : Signing) → KeepsVotes window k t → c.tally-tally.result.info ≡ info_of window (record t { votes = not c.args.vote.now.signed ∷ t.votes })
    = subst (λ w. (k : Signed) → signed_of w.kept c.args.vote.now.cons ≡ Some k → (t : Signing) → KeepsVotes window k t → c.tally-tally.result.info ≡ info_of window (record t { votes = not c.args.vote.now.signed ∷ t.votes })) (sym c.self.view_is) c.tally-tally.ensures.info in
    kept_counted kept c.args.vote.now.cons info places he window (subst (λ w. IsKept window w.kept) (sym c.self.view_is) c.requires.kept) (not c.args.vote.now.signed) c.tally-tally.result.info told c.put_vote.new.self.kept
    c.requires.scene.stand.1.1.in_order.params.signed_blocks_window
    (ap (λ t. t.kept) c.in_ok-put_vote.ensures.ok ∙ ap (λ p. with_signed c.args.vote.now.cons (record { info = c.tally-tally.result.info; ring = ring_with p (not c.args.vote.now.signed) (ring_at kept c.args.vote.now.cons) }) kept) c.tally-tally.ensures.place)

-- ---- a vote that is punished is none of those whose steps are counted

pub returns-in_err-punish-clause-cost : goal.returns-in_err-punish-clause-cost
returns-in_err-punish-clause-cost g c = λ i keeps up.
    let h = c.requires.scene.stand.0 in
    let log : Log = [] in
    let s = g.S.Slasher in
    let hk = g.H.StakingHooks in
    let kept = c.self.inside.tables.kept in
    let info = c.args.entry.now.info in
    let places = c.args.entry.now.places in
    let window = c.args.g.now.ctx.params.signed_blocks_window in
    let he : HasEntry c.args.vote.now.cons info places kept = subst (λ w. HasEntry c.args.vote.now.cons info places w.kept) (sym c.self.view_is) c.requires.entry in
    let stands : KeepsSignings window kept i = subst (λ w. KeepsSignings window w.kept i) (sym c.self.view_is) keeps in
    let told : (k : Signed) → signed_of kept c.args.vote.now.cons ≡ Some k → (t : Signing) → KeepsVotes window k t → c.tally-tally.result.info ≡ info_of window (record t { votes = not c.args.vote.now.signed ∷ t.votes })
    = subst (λ w. (k : Signed) → signed_of w.kept c.args.vote.now.cons ≡ Some k → (t : Signing) → KeepsVotes window k t → c.tally-tally.result.info ≡ info_of window (record t { votes = not c.args.vote.now.signed ∷ t.votes })) (sym c.self.view_is) c.tally-tally.ensures.info in
    let plain = plain_at window kept i c.args.vote.now.cons he.0 stands he.1.0 in
    let r = plain.0 in
    let found = plain.1.0 in
    not-both _ (punished_is (record { stake = s.stake; slash = s.slashes g.H.StakingHooks.Held g.H.StakingHooks.tells.told; jail = s.jails }) c.args.vote.now i (record { mine = s.held c.args.slasher.now; hooks = h; view = seen g.B.Bank.holdings c.args.g.now; log = log }) c.args.v.now c.requires.free kept info places he c.tally-tally.result.info told stands r found
    (sym c.is_downtime.ensures ∙ c.if-is_downtime.true)) up

pub returns-in_err-put_info-clause-cost : goal.returns-in_err-put_info-clause-cost
returns-in_err-put_info-clause-cost g c = λ i keeps up.
    let h = c.requires.scene.stand.0 in
    let log : Log = [] in
    let s = g.S.Slasher in
    let hk = g.H.StakingHooks in
    let kept = c.self.inside.tables.kept in
    let info = c.args.entry.now.info in
    let places = c.args.entry.now.places in
    let window = c.args.g.now.ctx.params.signed_blocks_window in
    let he : HasEntry c.args.vote.now.cons info places kept = subst (λ w. HasEntry c.args.vote.now.cons info places w.kept) (sym c.self.view_is) c.requires.entry in
    let stands : KeepsSignings window kept i = subst (λ w. KeepsSignings window w.kept i) (sym c.self.view_is) keeps in
    let told : (k : Signed) → signed_of kept c.args.vote.now.cons ≡ Some k → (t : Signing) → KeepsVotes window k t → c.tally-tally.result.info ≡ info_of window (record t { votes = not c.args.vote.now.signed ∷ t.votes })
    = subst (λ w. (k : Signed) → signed_of w.kept c.args.vote.now.cons ≡ Some k → (t : Signing) → KeepsVotes window k t → c.tally-tally.result.info ≡ info_of window (record t { votes = not c.args.vote.now.signed ∷ t.votes })) (sym c.self.view_is) c.tally-tally.ensures.info in
    let plain = plain_at window kept i c.args.vote.now.cons he.0 stands he.1.0 in
    let r = plain.0 in
    let found = plain.1.0 in
    not-both _ (punished_is (record { stake = s.stake; slash = s.slashes g.H.StakingHooks.Held g.H.StakingHooks.tells.told; jail = s.jails }) c.args.vote.now i (record { mine = s.held c.args.slasher.now; hooks = h; view = seen g.B.Bank.holdings c.args.g.now; log = log }) c.args.v.now c.requires.free kept info places he c.tally-tally.result.info told stands r found
    (sym c.is_downtime.ensures ∙ c.if-is_downtime.true)) up

pub returns-then-is_downtime-clause-cost : goal.returns-then-is_downtime-clause-cost
returns-then-is_downtime-clause-cost g c = λ i keeps up.
    let h = c.requires.scene.stand.0 in
    let log : Log = [] in
    let s = g.S.Slasher in
    let hk = g.H.StakingHooks in
    let kept = c.self.inside.tables.kept in
    let info = c.args.entry.now.info in
    let places = c.args.entry.now.places in
    let window = c.args.g.now.ctx.params.signed_blocks_window in
    let he : HasEntry c.args.vote.now.cons info places kept = subst (λ w. HasEntry c.args.vote.now.cons info places w.kept) (sym c.self.view_is) c.requires.entry in
    let stands : KeepsSignings window kept i = subst (λ w. KeepsSignings window w.kept i) (sym c.self.view_is) keeps in
    let told : (k : Signed) → signed_of kept c.args.vote.now.cons ≡ Some k → (t : Signing) → KeepsVotes window k t → c.tally-tally.result.info ≡ info_of window (record t { votes = not c.args.vote.now.signed ∷ t.votes })
    = subst (λ w. (k : Signed) → signed_of w.kept c.args.vote.now.cons ≡ Some k → (t : Signing) → KeepsVotes window k t → c.tally-tally.result.info ≡ info_of window (record t { votes = not c.args.vote.now.signed ∷ t.votes })) (sym c.self.view_is) c.tally-tally.ensures.info in
    let plain = plain_at window kept i c.args.vote.now.cons he.0 stands he.1.0 in
    let r = plain.0 in
    let found = plain.1.0 in
    not-both _ (punished_is (record { stake = s.stake; slash = s.slashes g.H.StakingHooks.Held g.H.StakingHooks.tells.told; jail = s.jails }) c.args.vote.now i (record { mine = s.held c.args.slasher.now; hooks = h; view = seen g.B.Bank.holdings c.args.g.now; log = log }) c.args.v.now c.requires.free kept info places he c.tally-tally.result.info told stands r found
    (sym c.is_downtime.ensures ∙ c.if-is_downtime.true)) up

-- ---- the ground

pub returns-in_err-put_vote-clause-ground : goal.returns-in_err-put_vote-clause-ground
returns-in_err-put_vote-clause-ground g c = ground-same g.B.Bank.marks g.B.Bank.most_steps g.H.StakingHooks.marks g.S.Slasher.marks c.args.g.now c.args.hooks.now c.args.slasher.now

pub returns-clause-ground : goal.returns-clause-ground
returns-clause-ground g c = ground-same g.B.Bank.marks g.B.Bank.most_steps g.H.StakingHooks.marks g.S.Slasher.marks c.args.g.now c.args.hooks.now c.args.slasher.now

-- ---- what the calls ask

pub tally-tally-requires-clause-some : goal.tally-tally-requires-clause-some
tally-tally-requires-clause-some g c = c.requires.scene.stand.1.1.in_order.params.signed_blocks_window

pub tally-tally-requires-clause-counted : goal.tally-tally-requires-clause-counted
tally-tally-requires-clause-counted g c = let height = c.requires.scene.stand.1.1.in_order.height in omega (arith, height, c.requires.counted)

pub is_downtime-requires : goal.is_downtime-requires
is_downtime-requires g c = record { params = c.requires.scene.stand.1.1.in_order.params }

pub reset-requires : goal.reset-requires
reset-requires g c = let o = c.requires.scene.stand.1.1.in_order in record { params = o.params; time = o.time }

pub punish-requires-clause-known : goal.punish-requires-clause-known
punish-requires-clause-known g c = (c.args.v.now, (c.requires.known, down_status c.args.g.now.ctx c.tally-tally.result.info c.args.v.now.status (sym c.is_downtime.ensures ∙ c.if-is_downtime.true)))

pub punish-requires-clause-height : goal.punish-requires-clause-height
punish-requires-clause-height g c =
    down_height c.args.g.now.ctx c.tally-tally.result.info c.args.v.now.status c.requires.scene.stand.1.1.in_order.params.signed_blocks_window (sym c.is_downtime.ensures ∙ c.if-is_downtime.true)

pub put_vote-requires-clause-known : goal.put_vote-requires-clause-known
put_vote-requires-clause-known g c = subst (λ w. IsSome (signed_of w.kept c.args.vote.now.cons)) (sym c.self.view_is) (ap is_some c.requires.entry.1.0)

pub put_vote-requires-clause-place : goal.put_vote-requires-clause-place
put_vote-requires-clause-place g c =
    subst (λ w. c.tally-tally.result.place ≤ length (ring_at w.kept c.args.vote.now.cons)) (sym c.self.view_is)
    (subst (λ p. p ≤ length (ring_at c.args.self.now.kept c.args.vote.now.cons)) (sym c.tally-tally.ensures.place)
    (place_fits c.args.self.now.kept c.args.vote.now.cons c.args.entry.now.info c.args.entry.now.places c.requires.entry c.args.g.now.ctx.params.signed_blocks_window c.requires.kept c.requires.scene.stand.1.1.in_order.params.signed_blocks_window))

pub put_vote-requires-clause-places : goal.put_vote-requires-clause-places
put_vote-requires-clause-places g c =
    let within : c.tally-tally.result.place ≤ length (ring_at c.args.self.now.kept c.args.vote.now.cons)
    = subst (λ p. p ≤ length (ring_at c.args.self.now.kept c.args.vote.now.cons)) (sym c.tally-tally.ensures.place)
    (place_fits c.args.self.now.kept c.args.vote.now.cons c.args.entry.now.info c.args.entry.now.places c.requires.entry c.args.g.now.ctx.params.signed_blocks_window c.requires.kept c.requires.scene.stand.1.1.in_order.params.signed_blocks_window) in
    subst (λ w. c.max.result ≡ length (ring_with c.tally-tally.result.place (not c.args.vote.now.signed) (ring_at w.kept c.args.vote.now.cons))) (sym c.self.view_is)
    (c.max.ensures ∙ places_next c.args.self.now.kept c.args.vote.now.cons c.args.entry.now.info c.args.entry.now.places c.requires.entry c.args.g.now.ctx.params.signed_blocks_window c.requires.kept (not c.args.vote.now.signed) c.tally-tally.result.place within)

pub put_vote-requires-clause-row : goal.put_vote-requires-clause-row
put_vote-requires-clause-row g c = subst (λ w. IsRow (c.tally-tally.result.place / 128) c.tally-tally.result.row (ring_at w.kept c.args.vote.now.cons)) (sym c.self.view_is) c.tally-tally.ensures.row

-- ---- what has fallen

pub returns-then-is_downtime-clause-falls : goal.returns-then-is_downtime-clause-falls
returns-then-is_downtime-clause-falls g c = c.in_ok-punish.ensures.falls

pub returns-clause-falls : goal.returns-clause-falls
returns-clause-falls g c = falls-none _ _ _
