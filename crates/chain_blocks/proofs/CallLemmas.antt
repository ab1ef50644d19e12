-- What the calls of a block's beginning need, from a sound state that the modules represent, and what they leave behind.
use Rattle.std.proofs.Common.{◌≡◌, ◌∙◌, ℕ, ◌+◌, ◌*◌, ◌^◌, ◌<◌, ◌≤◌, List, length, map, Some, sym, ap, subst, arith, sum, All, is_some}
use Rattle.std.proofs.lemmas.List.Elements.{All-from_recursion, recursion_from_All}
use Rattle.base_roles.specs.declared.entities.{RedelegationEntry.RedelegationEntry, UnbondingEntry.UnbondingEntry}
use Rattle.base_roles.specs.{declared.{entities.Validator.Validator, messages.Vote.Vote}, Ground.CanBeUndone}
use Rattle.base_roles.specs.Staked.{bonded_tokens, other_tokens, validator_at, validator_by_cons}
use Rattle.base_roles.specs.{StakeChanges.HoldsStake, World.View, declared.calls.Hook.Hook}
use Rattle.rule_modules.{proofs.SoundLemmas.{IsSoundAt, to_points}, specs.Chain.{State, Stakes, shared_in, window_in}}
use Rattle.rule_modules.specs.{StepLaws.{CountsBelow, IsPower}, Owed.entry_balances, Purses.Purses, Sound.IsSound}
use Rattle.law_soundness.proofs.{Allocating.found_by_cons, Lists.weaker}
use Rattle.mod_bank.specs.Booked as bank
use Rattle.mod_staking.specs.Registered as book
use Rattle.mod_entries.specs.Kept as entries
use Rattle.mod_unbonding.specs.Calls as unbonding
use Rattle.mod_redelegation.specs.Calls as redelegate
use Rattle.mod_slashing.specs.Calls.{IsSoundCore}
use Rattle.mod_allocation.specs.Calls.{AreVotes, IsOfVoter}
use Rattle.mod_signing.specs.{Calls.IsScene, Kept.{Signed, signed_of}, Stands.{IsSound as IsSoundWindow}}
use Rattle.mod_signing.proofs.StandLemmas.{plain_at}
use Rattle.mod_signing.specs.Kept as window
use Rattle.mod_distribution.specs.Kept as distr
use Rattle.mod_distribution.specs.{Stands.KeepsShared, Tells.distribution_tells}
use Rattle.chain_modules.specs.{declared.modules.Modules.Modules, Heard.heard_shared}
use Rattle.chain_modules.specs.{Kept.{KeptState, Keeps, StakesSeen, ground_of, kept_of, stakes_kept}, Marks.GoOn}
use Rattle.chain_modules.proofs.HeardLemmas.{shared_stands}
use Rattle.chain_modules.proofs.SceneLemmas.{all_held, core_sound, stand_shared, window_kept}
use Rattle.chain_transactions.proofs.GoLemmas.{all_on}
use Rattle.chain_blocks.{specs.Begun.AreCast, proofs.CheckLemmas.power_alone}

-- ---- what stays behind

-- the marks of what staking keeps
abbrev pub core_marks : StakesSeen → book.Behind × entries.Behind (List ℕ × List ℕ) UnbondingEntry × entries.Behind (List ℕ × List ℕ × List ℕ) RedelegationEntry
core_marks s = (book.behind s.staking, entries.behind s.unbondings, entries.behind s.redelegations)

-- a vote, or evidence
pub punishing_on : {E : Type 0} (old new : Modules E) → CanBeUndone bank.behind old.ground new.ground → distr.behind new.hooks.first.first ≡ distr.behind old.hooks.first.first → core_marks new.stakes ≡ core_marks old.stakes
    → window.behind new.hooks.second ≡ window.behind old.hooks.second → GoOn old new
punishing_on old new ground shared stakes signings = all_on old new ground (λ i. (stakes i).0) (λ i. (stakes i).1) (λ i. (stakes i).2) (λ i. (shared i, signings i))

-- ---- votes

-- what is kept says who may vote, and with which power
pub cast_same : (votes : List Vote) (k : KeptState) (p q : State) → Keeps k p → Keeps k q → AreCast votes p → AreCast votes q
cast_same votes k p q h l c = record {
  known = subst (λ (s : Stakes). All (λ t. (v : Validator) × (validator_by_cons s.staked t.cons ≡ Some v)) votes) (h.stakes ∙ sym l.stakes) c.known;
  power = subst (λ (v : View). sum (map (λ t. t.power) votes) * v.ctx.params.power_reduction ≤ 10 ^ 18) (h.view ∙ sym l.view) c.power;
}

-- a voter that stands has a purse, and a rate of at most all
voter : (p : State) → IsSound p → (t : Vote) → (v : Validator) × (validator_by_cons p.mine.staked t.cons ≡ Some v) → IsOfVoter p.mine.staked (shared_in p).purses t
voter p s t f =
    let points : IsSoundAt p.view.ctx.height p.mine.staked = to_points p.view.ctx.height p.mine.staked s.staked in
    let found : validator_at p.mine.staked f.0.operator ≡ Some f.0 = found_by_cons p.view.ctx.height p.mine.staked t.cons f.0 points f.1 in
    let sound = points.validators f.0.operator f.0 found in
    record {
      v = f.0;
      found = f.1;
      purse = s.stands.purses f.0.operator ∙ ap is_some found;
      rate = at_most f.0.commission.rate f.0.commission.max_rate sound.rate sound.max_rate;
    }
  where
    at_most : (a b : ℕ) → a ≤ b → b ≤ 10 ^ 18 → a ≤ 10 ^ 18
    at_most a b h l = omega (arith, h, l)

cast_votes : (votes : List Vote) (p : State) → IsSound p → AreCast votes p → AreVotes p.mine.staked (shared_in p).purses votes
cast_votes votes p s c = record {
  known = All-from_recursion (IsOfVoter p.mine.staked (shared_in p).purses) votes
      (weaker (λ t. (v : Validator) × (validator_by_cons p.mine.staked t.cons ≡ Some v)) (IsOfVoter p.mine.staked (shared_in p).purses) (voter p s) votes
      (recursion_from_All (λ t. (v : Validator) × (validator_by_cons p.mine.staked t.cons ≡ Some v)) votes c.known));
  power = power_alone (sum (map (λ t. t.power) votes)) p.view.ctx.params.power_reduction s.ground.params.power_reduction c.power;
}

-- ---- over modules

module _ {E : Type 0} (m : Modules E) (p : State) (k : Keeps (kept_of m) p) (s : IsSound p) where
  -- fees may be allocated among votes
  pub votes_kept : (votes : List Vote) → AreCast votes p → AreVotes m.stakes.staking.staked m.hooks.first.first.kept.purses votes
  votes_kept votes c =
      subst (λ (u : Purses). AreVotes m.stakes.staking.staked u votes) (sym k.shared.purses)
      (subst (λ (c : Stakes). AreVotes c.staked (shared_in p).purses votes) k.stakes (cast_votes votes p s c))

  -- what staking keeps is sound
  pub core_kept : IsSoundCore unbonding.AreSoundLists redelegate.AreSoundLists (stakes_kept m.stakes)
  core_kept = subst (λ (c : Stakes). IsSoundCore unbonding.AreSoundLists redelegate.AreSoundLists c) k.stakes (core_sound p s)

  -- the staking accounts hold what is owed from them
  pub accounts_kept : HoldsStake (ground_of m) (bonded_tokens m.stakes.staking.staked) (other_tokens m.stakes.staking.staked + entry_balances m.stakes.unbondings.lists)
  accounts_kept =
      subst (λ (c : Stakes). HoldsStake (ground_of m) (bonded_tokens c.staked) (other_tokens c.staked + entry_balances c.unbondings)) k.stakes
      (subst (λ (v : View). HoldsStake v (bonded_tokens p.mine.staked) (other_tokens p.mine.staked + entry_balances p.mine.unbondings)) k.view (all_held p s))

  -- a vote may be counted, and evidence be handled
  pub punishing_scene : IsScene distribution_tells (KeepsShared m.hooks.first.first.kept) (ground_of m) (IsSoundCore unbonding.AreSoundLists redelegate.AreSoundLists (stakes_kept m.stakes)) m.stakes.staking.staked
      (entry_balances m.stakes.unbondings.lists)
  punishing_scene = record { sound = core_kept; stand = stand_shared m p k s; accounts = accounts_kept }

  -- of a record fewer votes were counted than the height is
  pub counted_kept : (cons : List ℕ) → CountsBelow cons p → (r : Signed) → signed_of m.hooks.second.kept cons ≡ Some r → r.info.counted < m.ground.ctx.height
  counted_kept cons counts r e =
      let plain = plain_at m.ground.ctx.params.signed_blocks_window m.hooks.second.kept (window_in p) cons r k.signings e in
      subst (λ n. n < m.ground.ctx.height) (sym (ap (λ i. i.counted) plain.1.1.info))
      (subst (λ (v : View). length plain.0.votes < v.ctx.height) k.view (counts plain.0 plain.1.0))

  -- a power of the state is one of the modules
  pub power_kept : (power : ℕ) → IsPower power p → power * m.ground.ctx.params.power_reduction ≤ 10 ^ 18
  power_kept power h = subst (λ (v : View). power * v.ctx.params.power_reduction ≤ 10 ^ 18) k.view h

  -- the signing records are sound
  pub signers_kept : IsSoundWindow m.hooks.second.kept
  signers_kept = record {
    window = m.ground.ctx.params.signed_blocks_window;
    some = subst (λ (v : View). 1 ≤ v.ctx.params.signed_blocks_window) k.view s.ground.params.signed_blocks_window;
    most = subst (λ (v : View). v.ctx.params.signed_blocks_window ≤ 100_000) k.view s.ground.params.signed_blocks_window_most;
    kept = window_kept m p k s;
  }

-- the same with a listener
pub punishing_heard : {E P : Type 0} (heard : E → P) (hears : P → Hook → View → P) (m : Modules E) (p : State) → Keeps (kept_of m) p → IsSound p
    → IsScene (heard_shared hears) (λ d. KeepsShared m.hooks.first.first.kept d.0 × (heard m.hooks.first.second.listener ≡ d.1)) (ground_of m) (IsSoundCore unbonding.AreSoundLists redelegate.AreSoundLists (stakes_kept m.stakes)) m.stakes.staking.staked
    (entry_balances m.stakes.unbondings.lists)
punishing_heard heard hears m p k s = let scene = punishing_scene m p k s in record { sound = scene.sound; stand = shared_stands hears heard m.hooks (ground_of m) _ scene.stand; accounts = scene.accounts }
