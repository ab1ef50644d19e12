use Rattle.std.proofs.Common.{◌≡◌, ◌∙◌, ◌+◌, true, ap, sym, subst, arith}
use Rattle.std.proofs.lemmas.Grind.{common_steps}
use Rattle.base_roles_example.{specs.Caller.{can_be_slashed, can_be_banned}, proofs.StakeLemmas.{slashable, bannable}}
use Rattle.base_roles.specs.{Ground.seen, Hooks.Stands}
use Rattle.base_roles.specs.{Staked.{validator_by_cons, lists_of, bonded_tokens, other_tokens}, Entries.at}
use Rattle.base_roles.proofs.{HookLemmas.stands-noted, StakeLemmas.{holds-jailed, still_known}}
use Rattle.base_types.specs.Orders.{cons_cmp}
use Rattle.base_roles_example.proofs.callers.punish.Goals as goal

pub jail_if_not-requires-clause-known : goal.jail_if_not-requires-clause-known
jail_if_not-requires-clause-known g c =
    let s = c.args.slasher.now in
    let k = g.S.Slasher.stake (g.S.Slasher.held s) in
    let yes : c.can_be_slashed.result ≡ true = grind (arith, common_steps, c.if-not-can_be_slashed.false) in
    let answer : can_be_slashed (validator_by_cons k c.args.cons.now) ≡ true
    = sym (c.can_be_slashed.ensures ∙ ap can_be_slashed (c.by_cons.ensures.value ∙ ap (λ x. validator_by_cons x c.args.cons.now) (g.met.S.Slasher.looks_up s))) ∙ yes in
    still_known k (g.S.Slasher.stake (g.S.Slasher.held c.slash.new.self)) c.args.cons.now c.in_ok-slash.ensures.still_by_cons (slashable (validator_by_cons k c.args.cons.now) answer)

pub ban-requires-clause-known : goal.ban-requires-clause-known
ban-requires-clause-known g c =
    let infos = g.N.Signers.infos (g.N.Signers.held c.args.signers.now) in
    let yes : c.can_be_banned.result ≡ true = grind (arith, common_steps, c.if-not-can_be_banned.false) in
    bannable (at cons_cmp infos c.args.cons.now) (sym (c.can_be_banned.ensures ∙ ap can_be_banned c.info.ensures.value) ∙ yes)

pub returns-clause-stand : goal.returns-clause-stand
returns-clause-stand g c =
    let h = g.H.StakingHooks in
    let v = seen g.B.Bank.holdings c.slash.new.g in
    subst (Stands (h.holds c.slash.new.hooks) h.tells (record v { facts = c.jail_if_not.new.facts })) (sym c.in_ok-jail_if_not.ensures.lists)
    (stands-noted h.tells (h.holds c.slash.new.hooks) v c.jail_if_not.new.facts (lists_of (g.S.Slasher.stake (g.S.Slasher.held c.slash.new.self))) c.in_ok-slash.ensures.stand)

pub returns-clause-accounts : goal.returns-clause-accounts
returns-clause-accounts g c =
    let s = g.S.Slasher in
    let h0 = s.held c.args.slasher.now in
    let h1 = s.held c.slash.new.self in
    let h2 = s.held c.jail_if_not.new.slasher in
    holds-jailed (seen g.B.Bank.holdings c.args.g.now) (seen g.B.Bank.holdings c.slash.new.g) c.jail_if_not.new.facts
    (bonded_tokens (s.stake h0)) (other_tokens (s.stake h0) + s.owed h0) (bonded_tokens (s.stake h1)) (other_tokens (s.stake h1) + s.owed h1) (bonded_tokens (s.stake h2)) (other_tokens (s.stake h2) + s.owed h2)
    c.slash.ensures.undone.ctx c.in_ok-slash.ensures.falls c.in_ok-jail_if_not.ensures.bonded (λ i. c.in_ok-jail_if_not.ensures.other i + c.in_ok-jail_if_not.ensures.owed i) c.requires.accounts
