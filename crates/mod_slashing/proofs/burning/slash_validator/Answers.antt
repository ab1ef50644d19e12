use Rattle.std.proofs.Common.{◌∙◌, ◌≤◌, [], sym, ap, subst, refl, is_some, option_map}
use Rattle.base_types.specs.declared.account.Account.TheVariants as account
use Rattle.base_types.specs.declared.account.Module.{Module}
use Rattle.base_roles.specs.{Ground.seen, Holdings.balance_of, Hooks.Stand, Staked.lists_of, StakeChanges.StillStand}
use Rattle.base_roles.specs.World.{burnt}
use Rattle.mod_staking.{specs.Calls.with_if, proofs.ListLemmas.lists-put}
use Rattle.rule_modules.proofs.SoundLemmas.{to_points}
use Rattle.mod_slashing.proofs.BurntLemmas.{ready-slash, slash-leaves, has-burned, falls-own, stand-burnt, less_by, within}
use Rattle.mod_slashing.proofs.StillLemmas.{still-put}
use Rattle.mod_slashing.proofs.burning.slash_validator.Goals as goal

pub tell_slash-requires-clause-most : goal.tell_slash-requires-clause-most
tell_slash-requires-clause-most g c =
    let one = (to_points c.requires.hooked.sound.0 c.args.staking.now.staked c.requires.hooked.sound.1).validators c.args.v.now.operator c.args.v.now c.requires.stands in
    one.tokens

pub tell_slash-requires-clause-ready : goal.tell_slash-requires-clause-ready
tell_slash-requires-clause-ready g c =
    let s = c.args.staking.now.staked in
    let h = c.requires.hooked.stand in
    let one = (to_points c.requires.hooked.sound.0 s c.requires.hooked.sound.1).validators c.args.v.now.operator c.args.v.now c.requires.stands in
    (h.0, (h.1.0, (lists_of s, ready-slash g.H.StakingHooks.tells c.args.v.now c.smaller-burned.result h.0 (seen g.B.Bank.holdings c.args.g.now) (lists_of s) h.1.1 (ap is_some c.requires.stands) one.tokens)))

pub burn_bond-requires-clause-backed : goal.burn_bond-requires-clause-backed
burn_bond-requires-clause-backed g c =
    let s = c.args.staking.now.staked in
    let h = c.requires.hooked.stand in
    let one = (to_points c.requires.hooked.sound.0 s c.requires.hooked.sound.1).validators c.args.v.now.operator c.args.v.now c.requires.stands in
    let told = slash-leaves g.H.StakingHooks.tells c.args.v.now c.smaller-burned.result h.0 (seen g.B.Bank.holdings c.args.g.now) (lists_of s) g.met.H.StakingHooks.lawful s [] (g.H.StakingHooks.holds c.tell_slash.new.hooks) (seen g.B.Bank.holdings c.tell_slash.new.g)
    h.1.1 (ap is_some c.requires.stands) one.tokens (c.in_ok-tell_slash.ensures.told h.0 h.1.0 [] s) in
    told.1.1.in_order.bank

pub burn_bond-requires-clause-enough : goal.burn_bond-requires-clause-enough
burn_bond-requires-clause-enough g c =
    let s = c.args.staking.now.staked in
    let h = c.requires.hooked.stand in
    let u = seen g.B.Bank.holdings c.args.g.now in
    let u1 = seen g.B.Bank.holdings c.tell_slash.new.g in
    let one = (to_points c.requires.hooked.sound.0 s c.requires.hooked.sound.1).validators c.args.v.now.operator c.args.v.now c.requires.stands in
    let told = slash-leaves g.H.StakingHooks.tells c.args.v.now c.smaller-burned.result h.0 u (lists_of s) g.met.H.StakingHooks.lawful s [] (g.H.StakingHooks.holds c.tell_slash.new.hooks) u1
    h.1.1 (ap is_some c.requires.stands) one.tokens (c.in_ok-tell_slash.ensures.told h.0 h.1.0 [] s) in
    subst (λ (m : Module). c.smaller-burned.result ≤ balance_of u1.bank (account.Module m) u1.ctx.params.bond_denom) (sym c.pool_of.ensures)
    (has-burned c.args.v.now c.smaller-burned.result _ u u1 told.1.2 (within c.smaller-burned.result c.args.amount c.args.v.now.tokens c.smaller-burned.ensures) c.requires.tokens)

pub returns-clause-falls : goal.returns-clause-falls
returns-clause-falls g c =
    let s = c.args.staking.now.staked in
    let v = c.args.v.now in
    let n = c.smaller-burned.result in
    let h = c.requires.hooked.stand in
    let u = seen g.B.Bank.holdings c.args.g.now in
    let u1 = seen g.B.Bank.holdings c.tell_slash.new.g in
    let u2 = seen g.B.Bank.holdings c.burn_bond.new.g in
    let one = (to_points c.requires.hooked.sound.0 s c.requires.hooked.sound.1).validators v.operator v c.requires.stands in
    let told = slash-leaves g.H.StakingHooks.tells v n h.0 u (lists_of s) g.met.H.StakingHooks.lawful s [] (g.H.StakingHooks.holds c.tell_slash.new.hooks) u1
    h.1.1 (ap is_some c.requires.stands) one.tokens (c.in_ok-tell_slash.ensures.told h.0 h.1.0 [] s) in
    falls-own v n s c.burn_tokens.new.self.staked _ u u1 u2 c.requires.hooked.sound c.requires.stands (within n c.args.amount v.tokens c.smaller-burned.ensures)
    (c.in_ok-burn_tokens.ensures.burned ∙ ap (λ o. with_if (option_map (less_by n) o) s) c.requires.stands) told.1.2 told.1.1.in_order.bank c.requires.tokens
    (c.in_ok-burn_bond.ensures.burnt ∙ ap (λ (m : Module). burnt m u1.ctx.params.bond_denom n u1) c.pool_of.ensures)

pub returns-clause-still : goal.returns-clause-still
returns-clause-still g c =
    let s = c.args.staking.now.staked in
    let v = c.args.v.now in
    let n = c.smaller-burned.result in
    subst (StillStand s) (sym (c.in_ok-burn_tokens.ensures.burned ∙ ap (λ o. with_if (option_map (less_by n) o) s) c.requires.stands)) (still-put s (less_by n v) v c.requires.stands refl refl)

pub returns-clause-hooked : goal.returns-clause-hooked
returns-clause-hooked g c =
    let s = c.args.staking.now.staked in
    let v = c.args.v.now in
    let n = c.smaller-burned.result in
    let h = c.requires.hooked.stand in
    let tells = g.H.StakingHooks.tells in
    let u = seen g.B.Bank.holdings c.args.g.now in
    let u1 = seen g.B.Bank.holdings c.tell_slash.new.g in
    let u2 = seen g.B.Bank.holdings c.burn_bond.new.g in
    let one = (to_points c.requires.hooked.sound.0 s c.requires.hooked.sound.1).validators v.operator v c.requires.stands in
    let told = slash-leaves tells v n h.0 u (lists_of s) g.met.H.StakingHooks.lawful s [] (g.H.StakingHooks.holds c.tell_slash.new.hooks) u1
    h.1.1 (ap is_some c.requires.stands) one.tokens (c.in_ok-tell_slash.ensures.told h.0 h.1.0 [] s) in
    let put = c.in_ok-burn_tokens.ensures.burned ∙ ap (λ o. with_if (option_map (less_by n) o) s) c.requires.stands in
    record {
      sound = c.in_ok-burn_tokens.ensures.sound;
      stand = (
        told.0,
        (
          told.1.0,
          subst (Stand tells told.0 u2) (sym (ap lists_of put ∙ lists-put s (less_by n v) v c.requires.stands))
              (stand-burnt tells told.0 v.status n u1 u2 (lists_of s) (c.in_ok-burn_bond.ensures.burnt ∙ ap (λ (m : Module). burnt m u1.ctx.params.bond_denom n u1) c.pool_of.ensures)
              (has-burned v n _ u u1 told.1.2 (within n c.args.amount v.tokens c.smaller-burned.ensures) c.requires.tokens) c.burn_bond.ensures.backed told.1.1),
        ),
      );
    }
