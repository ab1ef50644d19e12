use Rattle.std.proofs.Common.{◌≡◌, true, false, refl}
use Rattle.base_roles.specs.{Owing.Lists, declared.{calls.{Hook.{TheVariants.{Modified as modified}}}}}
use Rattle.base_roles.proofs.ListenLemmas.{quiet_may}
use Rattle.chain_modules.specs.{declared.modules.Modules.Modules, Kept.ground_of}
use Rattle.chain_modules.proofs.ListeningLemmas.{listened, listened_ok}
use Rattle.chain_transactions.proofs.GoLemmas.{all_on, heard_kept, heard_wants}
use Rattle.chain_transactions.proofs.distributing.hear_start.Goals as goal

pub after_delegation_modified-requires : goal.after_delegation_modified-requires
after_delegation_modified-requires g c =
    let l : Lists = record { operators = λ o. true; started = λ w o. false } in
    let a = c.args in
    quiet_may g.E.StakingHooks.tells g.met.E.StakingHooks.lawful g.met.E.Extra.listens.quiet _ (g.met.E.Extra.listens.some a.modules.now.hooks.first.second.listener) (modified a.v.now a.delegator.now a.shares) (ground_of a.modules.now) l
    (refl, refl, c.requires.some, c.requires.most) c.requires.tokens c.requires.in_order

pub returns-clause-kept : goal.returns-clause-kept
returns-clause-kept g c =
    let a = c.args in
    let hook = modified a.v.now a.delegator.now a.shares in
    let old : Modules g.row.E.Denot = a.modules.now in
    let after = c.after_delegation_modified.new in
    let new : Modules g.row.E.Denot = record { ground = after.g; stakes = old.stakes; hooks = record { first = record { first = old.hooks.first.first; second = record { listener = after.self } }; second = old.hooks.second } } in
    heard_kept old new (g.E.Extra.hears (g.E.Extra.heard old.hooks.first.second.listener) hook (ground_of old)) (λ p. g.E.Extra.heard after.self ≡ p) refl refl refl c.after_delegation_modified.result
    (listened g.E.Extra.hears g.met.E.StakingHooks.lawful g.met.E.Extra.listens old.hooks.first.second.listener after.self (g.E.Extra.heard old.hooks.first.second.listener) hook (ground_of old) (ground_of new) c.after_delegation_modified.result refl
    c.after_delegation_modified.ensures.told)

pub returns-clause-fault : goal.returns-clause-fault
returns-clause-fault g c =
    let a = c.args in
    let hook = modified a.v.now a.delegator.now a.shares in
    let old : Modules g.row.E.Denot = a.modules.now in
    let after = c.after_delegation_modified.new in
    let new : Modules g.row.E.Denot = record { ground = after.g; stakes = old.stakes; hooks = record { first = record { first = old.hooks.first.first; second = record { listener = after.self } }; second = old.hooks.second } } in
    heard_wants (g.E.Extra.hears (g.E.Extra.heard old.hooks.first.second.listener) hook (ground_of old)) (λ p. g.E.Extra.heard after.self ≡ p) (ground_of old) (ground_of new) c.after_delegation_modified.result
    (listened g.E.Extra.hears g.met.E.StakingHooks.lawful g.met.E.Extra.listens old.hooks.first.second.listener after.self (g.E.Extra.heard old.hooks.first.second.listener) hook (ground_of old) (ground_of new) c.after_delegation_modified.result refl
    c.after_delegation_modified.ensures.told)

pub returns-clause-go_on : goal.returns-clause-go_on
returns-clause-go_on g c =
    let old : Modules g.row.E.Denot = c.args.modules.now in
    let after = c.after_delegation_modified.new in
    let new : Modules g.row.E.Denot = record { ground = after.g; stakes = old.stakes; hooks = record { first = record { first = old.hooks.first.first; second = record { listener = after.self } }; second = old.hooks.second } } in
    all_on old new c.after_delegation_modified.ensures.undone refl refl refl refl

pub returns-clause-listener : goal.returns-clause-listener
returns-clause-listener g c = g.met.E.Extra.listens.same_marks _ _ c.after_delegation_modified.ensures.marks

pub returns-clause-heard : goal.returns-clause-heard
returns-clause-heard g c =
    let a = c.args in
    listened_ok g.E.Extra.hears g.met.E.StakingHooks.lawful g.met.E.Extra.listens a.modules.now.hooks.first.second.listener c.after_delegation_modified.new.self (modified a.v.now a.delegator.now a.shares) (ground_of a.modules.now) _ c.after_delegation_modified.result
    c.after_delegation_modified.ensures.told
