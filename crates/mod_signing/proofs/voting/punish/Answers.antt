use Rattle.std.proofs.Common.{rules, Err, ◌≡◌, ◌∙◌, ◌+◌, sym, subst}
use Rattle.base_roles.specs.{Ground.seen, Hooks.Stands, Staked.{lists_of, bonded_tokens, other_tokens}}
use Rattle.base_roles.proofs.{HookLemmas.stands-noted, StakeLemmas.{holds-jailed, still_known}}
use Rattle.rule_modules.specs.Answers.{Leaves}
use Rattle.mod_signing.specs.Calls.{downtime_slashed}
use Rattle.mod_signing.proofs.SlashLemmas.{falls-jailed, ground-noted, jail-wants, slash-fails, slash-jails}
use Rattle.mod_signing.proofs.voting.punish.Goals as goal

pub slash-requires-clause-factor : goal.slash-requires-clause-factor
slash-requires-clause-factor g c = c.requires.scene.stand.1.1.in_order.params.slash_fraction_downtime

pub jail-requires-clause-known : goal.jail-requires-clause-known
jail-requires-clause-known g c =
    let s = g.S.Slasher in
    still_known (s.stake (s.held c.args.slasher.now)) (s.stake (s.held c.slash.new.self)) c.args.vote.now.cons c.in_ok-slash.ensures.still_by_cons c.requires.known

pub returns-in_err-slash-clause-told : goal.returns-in_err-slash-clause-told
returns-in_err-slash-clause-told g c = λ h o log.
    let s = g.S.Slasher in
    let hs = g.H.StakingHooks.holds c.slash.new.hooks in
    let v = seen g.B.Bank.holdings c.slash.new.g in
    let given : c.from_residual.result ≡ Err c.in_err-slash.field-0.0 = search rules in
    subst (Leaves (downtime_slashed (record { stake = s.stake; slash = s.slashes g.H.StakingHooks.Held g.H.StakingHooks.tells.told; jail = s.jails }) c.args.vote.now.cons c.args.vote.now.power (record { mine = s.held c.args.slasher.now; hooks = h; view = seen g.B.Bank.holdings c.args.g.now; log = log })) (s.held c.slash.new.self) hs v) (sym given)
    (slash-fails (record { stake = s.stake; slash = s.slashes g.H.StakingHooks.Held g.H.StakingHooks.tells.told; jail = s.jails }) c.args.vote.now.cons _
    (s.held c.slash.new.self) (s.held c.slash.new.self) hs hs v v c.in_err-slash.field-0.0 (c.in_err-slash.ensures.told h o log))

pub returns-in_err-jail-clause-told : goal.returns-in_err-jail-clause-told
returns-in_err-jail-clause-told g c = λ h o log.
    let s = g.S.Slasher in
    let hs = g.H.StakingHooks.holds c.slash.new.hooks in
    let v = seen g.B.Bank.holdings c.slash.new.g in
    let v2 = record v { facts = c.jail.new.facts } in
    let given : c.from_residual-in_err-jail.result ≡ Err c.in_err-jail.field-0.0 = search rules in
    subst (Leaves (downtime_slashed (record { stake = s.stake; slash = s.slashes g.H.StakingHooks.Held g.H.StakingHooks.tells.told; jail = s.jails }) c.args.vote.now.cons c.args.vote.now.power (record { mine = s.held c.args.slasher.now; hooks = h; view = seen g.B.Bank.holdings c.args.g.now; log = log })) (s.held c.jail.new.self) hs v2) (sym given)
    (jail-wants (record { stake = s.stake; slash = s.slashes g.H.StakingHooks.Held g.H.StakingHooks.tells.told; jail = s.jails }) c.args.vote.now.cons _
    (s.held c.slash.new.self) (s.held c.jail.new.self) hs hs v v2 _ c.in_err-jail.field-0.0 c.in_err-jail.ensures.fault (c.in_ok-slash.ensures.told h o log))

pub returns-clause-told : goal.returns-clause-told
returns-clause-told g c = λ h o log.
    let s = g.S.Slasher in
    slash-jails (record { stake = s.stake; slash = s.slashes g.H.StakingHooks.Held g.H.StakingHooks.tells.told; jail = s.jails }) c.args.vote.now.cons _
    (s.held c.slash.new.self) (s.held c.jail.new.self) (g.H.StakingHooks.holds c.slash.new.hooks) (seen g.B.Bank.holdings c.slash.new.g) c.jail.new.facts _
    (c.in_ok-slash.ensures.told h o log) c.in_ok-jail.ensures.told c.in_ok-jail.ensures.facts

pub returns-clause-scene : goal.returns-clause-scene
returns-clause-scene g c =
    let s = g.S.Slasher in
    let h = g.H.StakingHooks in
    let h0 = s.held c.args.slasher.now in
    let h1 = s.held c.slash.new.self in
    let h2 = s.held c.jail.new.self in
    let v = seen g.B.Bank.holdings c.slash.new.g in
    record {
      sound = c.in_ok-jail.ensures.sound;
      stand = subst (Stands (h.holds c.slash.new.hooks) h.tells (record v { facts = c.jail.new.facts })) (sym c.in_ok-jail.ensures.lists)
          (stands-noted h.tells (h.holds c.slash.new.hooks) v c.jail.new.facts (lists_of (s.stake h1)) c.in_ok-slash.ensures.stand);
      accounts = holds-jailed (seen g.B.Bank.holdings c.args.g.now) v c.jail.new.facts
          (bonded_tokens (s.stake h0)) (other_tokens (s.stake h0) + s.owed h0) (bonded_tokens (s.stake h1)) (other_tokens (s.stake h1) + s.owed h1) (bonded_tokens (s.stake h2)) (other_tokens (s.stake h2) + s.owed h2)
          c.slash.ensures.undone.ctx c.in_ok-slash.ensures.falls c.in_ok-jail.ensures.bonded (λ i. c.in_ok-jail.ensures.other i + c.in_ok-jail.ensures.owed i) c.requires.scene.accounts;
    }

pub returns-in_err-jail-clause-ground : goal.returns-in_err-jail-clause-ground
returns-in_err-jail-clause-ground g c =
    ground-noted g.B.Bank.marks g.B.Bank.most_steps g.H.StakingHooks.marks g.S.Slasher.marks c.args.g.now c.slash.new.g c.args.hooks.now c.slash.new.hooks c.args.slasher.now c.jail.new.self
    c.slash.ensures.undone c.slash.ensures.bank c.slash.ensures.hook_marks (c.jail.ensures.marks ∙ c.slash.ensures.marks) c.jail.new.facts c.jail.ensures.grown

pub returns-clause-ground : goal.returns-clause-ground
returns-clause-ground g c =
    ground-noted g.B.Bank.marks g.B.Bank.most_steps g.H.StakingHooks.marks g.S.Slasher.marks c.args.g.now c.slash.new.g c.args.hooks.now c.slash.new.hooks c.args.slasher.now c.jail.new.self
    c.slash.ensures.undone c.slash.ensures.bank c.slash.ensures.hook_marks (c.jail.ensures.marks ∙ c.slash.ensures.marks) c.jail.new.facts c.jail.ensures.grown

pub returns-clause-falls : goal.returns-clause-falls
returns-clause-falls g c =
    let s = g.S.Slasher in
    let h0 = s.held c.args.slasher.now in
    let h1 = s.held c.slash.new.self in
    let h2 = s.held c.jail.new.self in
    falls-jailed (seen g.B.Bank.holdings c.args.g.now) (seen g.B.Bank.holdings c.slash.new.g) c.jail.new.facts
    (bonded_tokens (s.stake h0)) (other_tokens (s.stake h0) + s.owed h0) (bonded_tokens (s.stake h1)) (other_tokens (s.stake h1) + s.owed h1) (bonded_tokens (s.stake h2)) (other_tokens (s.stake h2) + s.owed h2)
    c.in_ok-slash.ensures.falls c.in_ok-jail.ensures.bonded (λ i. c.in_ok-jail.ensures.other i + c.in_ok-jail.ensures.owed i)
