-- Delegations and unbonding entries that are lent together: what a slash, and one behind another, leave of them.
use Rattle.std.proofs.Common.{◌≡◌, ℕ, ◌+◌, refl}
use Rattle.base_roles.specs.{Ground.IsInOrder, Hooks.Tells, Lent.IsBurned}
use Rattle.base_roles.specs.{Staked.{Staked, lists_of, bonded_tokens, other_tokens}, StakeChanges.HoldsStake}
use Rattle.base_roles.{specs.World.View, proofs.FallLemmas.{falls-burned, falls-beside, falls-then}}
use Rattle.base_roles.proofs.StakeLemmas.{holds-fallen, holds-part, holds-rest, holds-burned, stands-burned, still-then}
use Rattle.mod_redelegation.specs.Scenes.{IsLentScene, IsSlashed, IsBothScene, AreBothSlashed}

-- nothing was slashed yet
pub both-none : (v : View) (s : Staked) (owed : ℕ) → AreBothSlashed v v s s owed owed
both-none v s owed = record {
  falls = record { from_bonded = λ d. refl; from_not_bonded = λ d. refl; supply = λ d. refl };
  still = λ o x e n. (x, (e, refl, refl));
}

-- one slash after another
pub both-then : (v v1 v2 : View) (s s1 s2 : Staked) (owed owed1 owed2 : ℕ) → v1.ctx ≡ v.ctx → AreBothSlashed v v1 s s1 owed owed1 → AreBothSlashed v1 v2 s1 s2 owed1 owed2 → AreBothSlashed v v2 s s2 owed owed2
both-then v v1 v2 s s1 s2 owed owed1 owed2 c a b = record {
  falls = falls-then v v1 v2 (bonded_tokens s) (other_tokens s + owed) (bonded_tokens s1) (other_tokens s1 + owed1) (bonded_tokens s2) (other_tokens s2 + owed2) c a.falls b.falls;
  still = still-then s s1 s2 a.still b.still;
}

module _ {H D U : Type 0} (tells : Tells H) (holds : H → Type 0) (sound_of : D → Type 0) (stake : D → Staked) (are_sound : U → Type 0) (owed : U → ℕ) (v : View) (d : D) (u : U) (scene : IsBothScene tells holds sound_of stake are_sound owed v d u) where
  abbrev bonded : ℕ
  bonded = bonded_tokens (stake d)

  abbrev other : ℕ
  other = other_tokens (stake d)

  -- the not-bonded account has what is owed to the entries
  pub entries-held : HoldsStake v 0 (owed u)
  entries-held = holds-rest v bonded other (owed u) scene.accounts

  -- behind a burn of entries
  module _ (v1 : View) (u1 : U) (c : v1.ctx ≡ v.ctx) (burned : IsBurned v v1 (owed u) (owed u1)) where
    held : HoldsStake v1 bonded (other + owed u1)
    held = holds-burned v v1 bonded other (owed u) (owed u1) c burned scene.accounts

    -- the delegations alone may be slashed
    pub lent-followed : IsInOrder v1 → IsLentScene tells holds sound_of stake v1 d
    lent-followed ordered = record {
      sound = scene.sound;
      stand = stands-burned tells holds v v1 (owed u) (owed u1) (lists_of (stake d)) c burned ordered scene.stand;
      accounts = holds-part v1 bonded other (owed u1) held;
    }

    module _ (v2 : View) (d2 : D) (slashed : IsSlashed v1 v2 (stake d) (stake d2)) where
      -- and both stand behind that
      pub both-scene : (holds2 : H → Type 0) → v2.ctx ≡ v1.ctx → are_sound u1 → IsLentScene tells holds2 sound_of stake v2 d2 → IsBothScene tells holds2 sound_of stake are_sound owed v2 d2 u1
      both-scene holds2 k entries lent = record {
        sound = lent.sound;
        entries = entries;
        stand = lent.stand;
        accounts = holds-fallen v1 v2 bonded (other + owed u1) (bonded_tokens (stake d2)) (other_tokens (stake d2) + owed u1) k (falls-beside v1 v2 bonded other (bonded_tokens (stake d2)) (other_tokens (stake d2)) (owed u1) slashed.falls) held;
      }

      pub both-slashed : AreBothSlashed v v2 (stake d) (stake d2) (owed u) (owed u1)
      both-slashed = record {
        falls = falls-then v v1 v2 bonded (other + owed u) bonded (other + owed u1) (bonded_tokens (stake d2)) (other_tokens (stake d2) + owed u1) c (falls-burned v v1 bonded other (owed u) (owed u1) burned)
            (falls-beside v1 v2 bonded other (bonded_tokens (stake d2)) (other_tokens (stake d2)) (owed u1) slashed.falls);
        still = slashed.still;
      }
