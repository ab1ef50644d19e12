use Rattle.std.proofs.Common.{◌≡◌, ◌∙◌, ◌*◌, ◌+◌, ◌^◌, ◌≤◌, true, ap, sym, subst, arith}
use Rattle.std.proofs.lemmas.Grind.{common_steps}
use Rattle.base_roles_example.{specs.Caller.can_be_jailed, proofs.StakeLemmas.jailable}
use Rattle.base_roles.specs.{Ground.seen, Hooks.Stands}
use Rattle.base_roles.specs.Staked.{validator_by_cons, lists_of, bonded_tokens, other_tokens}
use Rattle.base_roles.proofs.{HookLemmas.stands-noted, StakeLemmas.{holds-fallen, holds-jailed, on_ok, still_known}}
use Rattle.base_roles_example.proofs.callers.slash_jail_and_slash.Goals as goal

pub jail-requires-clause-known : goal.jail-requires-clause-known
jail-requires-clause-known g c =
    let s = c.args.slasher.now in
    let k = g.S.Slasher.stake (g.S.Slasher.held s) in
    let yes : c.can_be_jailed.result ≡ true = grind (arith, common_steps, c.if-not-can_be_jailed.false) in
    let answer : can_be_jailed (validator_by_cons k c.args.cons.now) ≡ true
    = sym (c.can_be_jailed.ensures ∙ ap can_be_jailed (c.by_cons.ensures.value ∙ ap (λ x. validator_by_cons x c.args.cons.now) (g.met.S.Slasher.looks_up s))) ∙ yes in
    still_known k (g.S.Slasher.stake (g.S.Slasher.held c.slash.new.self)) c.args.cons.now c.in_ok-slash.ensures.still_by_cons (jailable (validator_by_cons k c.args.cons.now) answer)

pub slash-requires-2-clause-power : goal.slash-requires-2-clause-power
slash-requires-2-clause-power g c = subst (λ x. c.args.power * x.params.power_reduction ≤ 10 ^ 18) (sym c.slash.ensures.undone.ctx) c.requires.power

pub slash-requires-2-clause-stand : goal.slash-requires-2-clause-stand
slash-requires-2-clause-stand g c =
    let h = g.H.StakingHooks in
    let v = seen g.B.Bank.holdings c.slash.new.g in
    subst (Stands (h.holds c.slash.new.hooks) h.tells (record v { facts = c.jail.new.facts })) (sym c.in_ok-jail.ensures.lists)
    (stands-noted h.tells (h.holds c.slash.new.hooks) v c.jail.new.facts (lists_of (g.S.Slasher.stake (g.S.Slasher.held c.slash.new.self))) c.in_ok-slash.ensures.stand)

pub slash-requires-2-clause-accounts : goal.slash-requires-2-clause-accounts
slash-requires-2-clause-accounts g c =
    let s = g.S.Slasher in
    let h0 = s.held c.args.slasher.now in
    let h1 = s.held c.slash.new.self in
    let h2 = s.held c.jail.new.self in
    holds-jailed (seen g.B.Bank.holdings c.args.g.now) (seen g.B.Bank.holdings c.slash.new.g) c.jail.new.facts
    (bonded_tokens (s.stake h0)) (other_tokens (s.stake h0) + s.owed h0) (bonded_tokens (s.stake h1)) (other_tokens (s.stake h1) + s.owed h1) (bonded_tokens (s.stake h2)) (other_tokens (s.stake h2) + s.owed h2)
    c.slash.ensures.undone.ctx c.in_ok-slash.ensures.falls c.in_ok-jail.ensures.bonded (λ i. c.in_ok-jail.ensures.other i + c.in_ok-jail.ensures.owed i) c.requires.accounts

pub returns-clause-accounts : goal.returns-clause-accounts
returns-clause-accounts g c =
    let s = g.S.Slasher in
    let h0 = s.held c.args.slasher.now in
    let h1 = s.held c.slash.new.self in
    let h2 = s.held c.jail.new.self in
    let h3 = s.held c.slash-2.new.self in
    let v = seen g.B.Bank.holdings c.slash.new.g in
    let before = holds-jailed (seen g.B.Bank.holdings c.args.g.now) v c.jail.new.facts
    (bonded_tokens (s.stake h0)) (other_tokens (s.stake h0) + s.owed h0) (bonded_tokens (s.stake h1)) (other_tokens (s.stake h1) + s.owed h1) (bonded_tokens (s.stake h2)) (other_tokens (s.stake h2) + s.owed h2)
    c.slash.ensures.undone.ctx c.in_ok-slash.ensures.falls c.in_ok-jail.ensures.bonded (λ i. c.in_ok-jail.ensures.other i + c.in_ok-jail.ensures.owed i) c.requires.accounts in
    on_ok c.slash-2.result
    (λ falls. holds-fallen (record v { facts = c.jail.new.facts }) (seen g.B.Bank.holdings c.slash-2.new.g)
    (bonded_tokens (s.stake h2)) (other_tokens (s.stake h2) + s.owed h2) (bonded_tokens (s.stake h3)) (other_tokens (s.stake h3) + s.owed h3)
    c.slash-2.ensures.undone.ctx falls before)
    c.slash-2.ensures.falls
