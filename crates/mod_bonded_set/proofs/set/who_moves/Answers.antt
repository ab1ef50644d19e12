use Rattle.std.proofs.Common.{◌∙◌, sym, subst, option_map}
use Rattle.mod_staking.specs.{KnownSet.AreSet, Places.standing}
use Rattle.mod_bonded_set.{specs.Sets.IsUnmoved, proofs.KnownLemmas.{none-join, none-leave, unmoved_if}}
use Rattle.mod_bonded_set.proofs.StakeLemmas.{sound_ascend, sound_keyed}
use Rattle.mod_bonded_set.proofs.set.who_moves.Goals as goal

pub returns-then-knows_set-clause-joining : goal.returns-then-knows_set-clause-joining
returns-then-knows_set-clause-joining g c =
    let s = c.args.staking.now.staked in
    let most = c.args.most in
    c.nobody.ensures.joining
    ∙ sym (none-join c.args.power_reduction most s.validators (sound_ascend s c.requires.sound) (sound_keyed s c.requires.sound) (subst (λ r. AreSet r most s.validators) c.requires.power (c.knows_set.ensures c.if-knows_set.true)))

pub returns-then-knows_set-clause-leaving : goal.returns-then-knows_set-clause-leaving
returns-then-knows_set-clause-leaving g c =
    let s = c.args.staking.now.staked in
    let most = c.args.most in
    c.nobody.ensures.leaving
    ∙ sym (none-leave c.args.power_reduction most s.validators (sound_ascend s c.requires.sound) (sound_keyed s c.requires.sound) (subst (λ r. AreSet r most s.validators) c.requires.power (c.knows_set.ensures c.if-knows_set.true)))

pub returns-then-knows_set-clause-unmoved : goal.returns-then-knows_set-clause-unmoved
returns-then-knows_set-clause-unmoved g c = subst (λ l. IsUnmoved c.args.power_reduction c.args.most c.args.staking.now.staked (option_map standing l)) (sym c.nobody.ensures.last) tt

pub returns-clause-leaving : goal.returns-clause-leaving
returns-clause-leaving g c = c.in_ok-leaving.ensures.leaving c.args.most c.in_ok-set.ensures.set

pub returns-clause-unmoved : goal.returns-clause-unmoved
returns-clause-unmoved g c =
    let s = c.args.staking.now.staked in
    let r = c.args.power_reduction in
    let most = c.args.most in
    let joins = c.as_slice.ensures.value ∙ c.in_ok-set.ensures.joining in
    let leaves = c.as_slice-2.ensures.value ∙ c.in_ok-leaving.ensures.leaving most c.in_ok-set.ensures.set in
    let told = unmoved_if r most s (sound_ascend s c.requires.sound) (sound_keyed s c.requires.sound) c.as_slice.result.now c.as_slice-2.result.now joins leaves c.in_ok-set.set.last c.in_ok-set.ensures.set in
    subst (λ l. IsUnmoved r most s (option_map standing l)) (sym c.unmoved_last-last.ensures) told
