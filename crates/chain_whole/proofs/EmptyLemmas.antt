-- Modules over the bank of a genesis, before its first validator.
use Rattle.std.proofs.Common.{◌≡◌, ◌∙◌, ℕ, ◌≤◌, List, [], None, Some, refl, sym, ap, subst, arith, Contains}
use Rattle.std.{specs.{List.Sorted.IsStrictlySortedBy, Map.keys_of}, proofs.lemmas.List.Elements.All-nil}
use Rattle.base_coins.proofs.Order.{money-nil}
use Rattle.base_roles.specs.{declared.{bank.Ground.Ground, entities.Purse.Purse}, Hooks.Stand, Owing.HoldsOwed}
use Rattle.base_roles.specs.{Staked.{Staked, bonded_tokens, lists_of, other_tokens}, StakeChanges.HoldsStake}
use Rattle.base_roles.specs.World.{View}
use Rattle.base_messages.specs.declared.genesis.Genesis.{Genesis}
use Rattle.rule_modules.specs.{Distribution.nothing_shared, Owed.owed_from_distribution, Periods.Periods}
use Rattle.rule_modules.{specs.Sound.{PeriodsAreSound, PurseIsSound}, proofs.SoundLemmas.{from_points, none_sound}}
use Rattle.mod_bank.specs.Booked.{Booked}
use Rattle.mod_staking.specs.{Calls.IsSoundStake, Registered.{Registered, no_stake}, Scenes.IsScene}
use Rattle.mod_entries.specs.Kept as entries
use Rattle.mod_periods.proofs.InitLemmas.{none-kept}
use Rattle.mod_signing.specs.{Kept.Windowed, Stands.KeepsSignings}
use Rattle.mod_distribution.specs.{Kept.{Distributed, nothing_kept}, Stands.KeepsShared, Tells.AreFor}
use Rattle.rule_machine.specs.{Genesis.held_at_start, GenesisConditions.{accounts_at_start, start_condition}}
use Rattle.rule_machine.{specs.GenesisState.{empty_over, ground_at_start}, proofs.StartLemmas.start_in_order}
use Rattle.law_soundness.proofs.{Burns.total_in, Starting.{held_supplied, start_fits}}
use Rattle.chain_modules.specs.declared.modules.Modules.{Modules}
use Rattle.chain_modules.specs.Kept.{Keeps, IsNewOver, ground_of, hooks_hold, hooks_tell, kept_of}
use Rattle.chain_modules.{specs.Marks.{marks_of, no_marks}, proofs.HookLemmas.held_as}
use Rattle.chain_whole.specs.Founding.{IsEmpty}

-- ---- hooks that hold nothing

nothing_for : AreFor nothing_shared (lists_of no_stake)
unfolding IsStrictlySortedBy
nothing_for = record {
  stands = record { purses = λ o. refl; periods = λ o. refl; starts = λ who o. refl };
  started = λ who o t. absurd cc;
  purses = record { ascend = tt; purses = All-nil (λ (e : List ℕ × Purse). PurseIsSound e.1); pool = money-nil };
  rewards = record { periods_ascend = tt; starts_ascend = tt; periods = All-nil (λ (e : List ℕ × Periods). PeriodsAreSound 0 [] e.1) };
  payees = tt;
}

nothing_late : 0 ≤ 0
nothing_late = omega arith

none_below : (n : ℕ) → 0 ≤ n
none_below n = omega arith

module _ (g : Genesis) (e : start_condition g ≡ None) where
  -- the distribution account has nothing
  nothing_owed : HoldsOwed (Some (owed_from_distribution nothing_shared)) (ground_at_start g)
  nothing_owed =
      let h = held_at_start (accounts_at_start g) in
      (start_fits (Contains (keys_of h.supplies)) (total_in (ground_at_start g)) g e (held_supplied h (start_in_order g e).bank) (λ d. refl)).owed

  nobody_stands : (window : ℕ) → Stand hooks_tell (held_as window (nothing_shared, [])) (ground_at_start g) (lists_of no_stake)
  nobody_stands window = record {
    lists = (nothing_for, tt, refl);
    owed = nothing_owed;
    late = nothing_late;
    in_order = start_in_order g e;
  }

-- ---- the modules

nothing_stands : KeepsShared nothing_kept nothing_shared
nothing_stands = record { rewards = none-kept; purses = refl; withdraw = refl }

-- Modules over the ground that a genesis starts on, of which none but the bank has records.
module _ {E : Type 0} (g : Genesis) (ground : Ground Booked) (m : Modules E) (n : IsNewOver ground m) where
  no_hooks : (window : ℕ) → hooks_hold m.hooks (held_as window (nothing_shared, []))
  no_hooks window = (
    subst (λ (d : Distributed). KeepsShared d.kept nothing_shared) (sym n.shared) nothing_stands,
    subst (λ (w : Windowed). KeepsSignings window w.kept []) (sym n.signings) tt,
  )

  module _ (bank : ground.bank.holdings ≡ held_at_start (accounts_at_start g)) (ctx : ground.ctx ≡ (ground_at_start g).ctx) (facts : ground.facts ≡ []) where
    same_ground : ground_of m ≡ ground_at_start g
    same_ground = λ i. record {
      bank = (ap (λ (x : Ground Booked). x.bank.holdings) n.ground ∙ bank) i;
      ctx = (ap (λ (x : Ground Booked). x.ctx) n.ground ∙ ctx) i;
      facts = (ap (λ (x : Ground Booked). x.facts) n.ground ∙ facts) i;
    }

    keeps_empty : Keeps (kept_of m) (empty_over (ground_at_start g))
    keeps_empty = record {
      stakes = λ i. record {
        staked = ap (λ (r : Registered). r.staked) (sym n.staking) i;
        unbondings = ap (λ (x : entries.Kept _ _). x.lists) (sym n.unbondings) i;
        redelegations = ap (λ (x : entries.Kept _ _). x.lists) (sym n.redelegations) i;
      };
      shared = (no_hooks m.ground.ctx.params.signed_blocks_window).0;
      signings = (no_hooks m.ground.ctx.params.signed_blocks_window).1;
      view = sym same_ground;
    }

    over_empty : (P : View → Staked → Type 0) → P (ground_at_start g) no_stake → P (ground_of m) m.stakes.staking.staked
    over_empty P h = subst (λ (c : Staked). P (ground_of m) c) (ap (λ (r : Registered). r.staked) (sym n.staking)) (subst (λ (v : View). P v no_stake) (sym same_ground) h)

    scene_empty : start_condition g ≡ None → IsScene hooks_tell (hooks_hold m.hooks) (ground_of m) m.stakes.staking.staked
    scene_empty e = record {
      hooked = record {
        sound = over_empty (λ v c. IsSoundStake c) (0, from_points 0 no_stake none_sound);
        stand = (
          held_as m.ground.ctx.params.signed_blocks_window (nothing_shared, []),
          (
            no_hooks m.ground.ctx.params.signed_blocks_window,
            over_empty (λ v c. Stand hooks_tell (held_as m.ground.ctx.params.signed_blocks_window (nothing_shared, [])) v (lists_of c)) (nobody_stands g e m.ground.ctx.params.signed_blocks_window),
          ),
        );
      };
      accounts = over_empty (λ v c. HoldsStake v (bonded_tokens c) (other_tokens c)) (record { in_bonded = none_below _; in_not_bonded = none_below _ });
    }

    pub is_empty : start_condition g ≡ None → IsEmpty g m
    is_empty e = record {
      scene = record {
        power = ap (λ (r : Registered). r.power_reduction) n.staking ∙ sym (ap (λ (x : Ground Booked). x.ctx.params.power_reduction) n.ground);
        scene = scene_empty e;
      };
      keeps = keeps_empty;
    }

  pub new_marks : ground.bank.marks ≡ [] → marks_of m ≡ no_marks
  new_marks none = λ i. record {
    bank = (ap (λ (x : Ground Booked). x.bank.marks) n.ground ∙ none) i;
    stakes = record {
      staked = ap (λ (r : Registered). r.marks) n.staking i;
      unbondings = ap (λ (x : entries.Kept _ _). x.marks) n.unbondings i;
      redelegations = ap (λ (x : entries.Kept _ _). x.marks) n.redelegations i;
    };
    hooks = record {
      shared = ap (λ (d : Distributed). d.marks) n.shared i;
      signings = ap (λ (w : Windowed). w.marks) n.signings i;
    };
  }
