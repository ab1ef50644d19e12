use Rattle.std.proofs.Common.{subst, IsPermutation}
use Rattle.mod_bonded_set.proofs.{DueLemmas.due-sorted, StakeLemmas.{sound_ascend, sound_keyed}}
use Rattle.mod_bonded_set.proofs.maturing.who_matures.Goals as goal

pub returns-clause-due : goal.returns-clause-due
returns-clause-due g c =
    let s = c.args.staking.now.staked in
    due-sorted c.args.now c.args.staking.now.power_reduction s.validators (sound_ascend s c.requires.sound) (sound_keyed s c.requires.sound) c.sort_unstable.new.self.items
    (subst (λ l. IsPermutation l c.sort_unstable.new.self.items) c.in_ok-due.ensures.due c.sort_unstable.ensures.permutation) c.sort_unstable.ensures.sorted
