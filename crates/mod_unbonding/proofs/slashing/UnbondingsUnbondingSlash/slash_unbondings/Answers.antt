use Rattle.std.proofs.Common.{◌∙◌, ◌+◌, drop, refl, sym, ap, subst}
use Rattle.base_roles.specs.{Ground.seen, Holdings.IsBacked, Orders.pair_cmp, World.View}
use Rattle.base_roles.specs.declared.entities.UnbondingEntry.{UnbondingEntry}
use Rattle.rule_modules.specs.EntrySlashes.{counted, unbonding_made}
use Rattle.mod_entries.specs.{Kept.Kept, Lists.AreFew, Slashed.{all_counted, is_from}, Walked.keys_where}
use Rattle.mod_entries.proofs.{CountLemmas.next_of, UndoneLemmas.{undone-none, undone-then}}
use Rattle.mod_unbonding.{specs.Walked.{Key, slashed_in}, proofs.{EntriesLemmas.are_few, WalkedLemmas.stepped-next}}
use Rattle.mod_unbonding.proofs.SlashedLemmas.{IsSlashing, slashing-none, slashing-one, can_burn, slashed-all, u3}
use Rattle.mod_unbonding.proofs.slashing.UnbondingsUnbondingSlash.slash_unbondings.Goals as goal

pub counted-counted-requires-clause-entries : goal.counted-counted-requires-clause-entries
counted-counted-requires-clause-entries g c = subst (λ (k : Kept Key UnbondingEntry). AreFew pair_cmp unbonding_made k.lists) (sym c.self.view_is) (are_few c.args.self.now.lists c.requires.sound)

pub loop-key-init : goal.loop-key-init
loop-key-init g c = record {
  told = refl;
  stands = slashing-none c.args.self.now.lists (seen g.B.Bank.holdings c.args.g.now) c.requires.sound c.requires.in_order c.requires.account;
  undone = undone-none g.B.Bank.marks c.args.g.now;
  bank = refl;
  behind = refl;
}

pub slash_at-requires-clause-entries : goal.slash_at-requires-clause-entries
slash_at-requires-clause-entries g c = c.loop-key.invariant.stands.entries

pub slash_at-requires-clause-backed : goal.slash_at-requires-clause-backed
slash_at-requires-clause-backed g c = c.loop-key.invariant.stands.in_order.bank

pub slash_at-requires-clause-enough : goal.slash_at-requires-clause-enough
slash_at-requires-clause-enough g c =
    can_burn c.args.infraction c.args.factor c.args.self.now.lists (seen g.B.Bank.holdings c.args.g.now) c.loop-key.self.lists (seen g.B.Bank.holdings c.loop-key.g) c.loop-key.invariant.stands c.key-item.result

pub loop-key-preserved : goal.loop-key-preserved
loop-key-preserved g c =
    let holdings = g.B.Bank.holdings in
    let u = c.args.self.now.lists in
    let v = seen holdings c.args.g.now in
    let u2 = c.loop-key.self.lists in
    let v2 = seen holdings c.loop-key.g in
    let v3 = seen holdings c.slash_at.new.g in
    let key = c.key-item.result in
    let keys = c.deref-key-items.result.now in
    let h = c.loop-key.invariant in
    let change = slashed_in c.args.infraction c.args.factor in
    let lists = ap (λ k. k.lists) c.in_ok-slash_at.ensures.lists in
    let ground = c.in_ok-slash_at.ensures.ground in
    let left = next_of keys c.loop-key.key-index key c.loop-key-test.true c.key-item.is in
    let one = slashing-one c.args.infraction c.args.factor u v u2 v2 h.stands key (subst (λ (x : View). IsBacked x.bank) ground c.slash_at.ensures.backed) in
    record {
      told = stepped-next change (drop c.loop-key.key-index keys) (drop (c.loop-key.key-index + 1) keys) key u2 c.slash_at.new.self.lists v2 v3 left lists ground ∙ h.told;
      stands = subst (λ x. IsSlashing u v x v3) (sym lists) (subst (λ y. IsSlashing u v (u3 c.args.infraction c.args.factor u v u2 v2 h.stands key) y) (sym ground) one);
      undone = undone-then g.B.Bank.marks c.args.g.now c.loop-key.g c.slash_at.new.g h.undone c.slash_at.ensures.undone;
      bank = c.slash_at.ensures.bank ∙ h.bank;
      behind = c.slash_at.ensures.behind ∙ h.behind;
    }

pub returns-clause-told : goal.returns-clause-told
returns-clause-told g c =
    let holdings = g.B.Bank.holdings in
    let operator = c.args.operator.now in
    let now = c.args.g.now.ctx.time in
    let is = c.deref-key-items.ensures.value ∙ c.in_ok-keys.ensures.keys ∙ ap (λ (k : Kept Key UnbondingEntry). keys_where (is_from (λ (x : Key). x.1) operator) k.lists) c.self.view_is in
    let all = slashed-all operator c.args.infraction c.args.factor c.deref-key-items.result.now c.loop-key.key-index c.args.self.now.lists (seen holdings c.args.g.now) c.loop-key.self.lists (seen holdings c.loop-key.g)
    c.loop-key.invariant.told c.loop-key-test.false is c.requires.sound in
    let found = c.counted-counted.ensures.value ∙ ap (λ (k : Kept Key UnbondingEntry). counted (all_counted (λ (x : Key). x.1) unbonding_made operator c.args.infraction c.args.factor now k.lists)) c.self.view_is in
    (found, ap (λ p. p.0) all, ap (λ p. p.1) all)

pub returns-clause-most : goal.returns-clause-most
returns-clause-most g c = c.counted-counted.ensures.most

pub returns-clause-burned : goal.returns-clause-burned
returns-clause-burned g c = c.loop-key.invariant.stands.burned

pub returns-clause-sound : goal.returns-clause-sound
returns-clause-sound g c = c.loop-key.invariant.stands.entries

pub returns-clause-in_order : goal.returns-clause-in_order
returns-clause-in_order g c = c.loop-key.invariant.stands.in_order
