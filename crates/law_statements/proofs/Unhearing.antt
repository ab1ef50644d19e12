-- Steps that a recorder hears, and the machine's: one after another they are the same without what was heard.
use Rattle.std.proofs.Common.{◌≡◌, ◌∙◌, ◌+◌, List, [], ◌∷◌, map, Result, Ok, Err, refl, sym, ap, subst}
use Rattle.base_messages.specs.declared.{message.Msg.Msg, genesis.Genesis.Genesis}
use Rattle.base_roles.specs.declared.{messages.{Evidence.Evidence, Vote.Vote}, refusal.Refusal.Refusal}
use Rattle.base_roles.specs.{Flow.{◌>>=◌, each, stopping}, Staked.Staked, World.World}
use Rattle.rule_machine.specs.GenesisState.{delegation_added, stake_added, validator_added}
use Rattle.rule_machine.specs.Listening.{Hearing, Overheard, beginning_heard, effect_heard, ending_heard, evidence_heard, heard_in, hearing, maturing_heard, messages_heard, overheard_told, set_heard, silently, unheard, vote_heard}
use Rattle.rule_machine.specs.Messages.{effect_of}
use Rattle.rule_modules.specs.BondedSet.{set_updated, validators_matured}
use Rattle.rule_modules.specs.Chain.{Hooks, State, allocation_step, begin_block, chain_told, end_block, evidence_step, maturing_step, redelegations_step, set_step, staked_in, unbondings_step, vote_step, with_staked}
use Rattle.rule_modules.{specs.Effects.effects_of, proofs.GoingLemmas.same_ok}
use Rattle.mod_recorder.specs.Notes.{Noted, heard}
use Rattle.law_statements.specs.Unheard.{IsSame, RecorderChangesNothing, plainly}

-- ---- steps that are the same

-- where the one goes on, so does the other
pub from_same : {A B E F : Type 0} (f : B → A) (r : Result A E) (q : Result B F) (b : B) → IsSame f r q → q ≡ Ok b → r ≡ Ok (f b)
from_same {A} {B} f (Ok a) (Ok c) b same e = ap (λ (x : A). Ok x) same ∙ ap (λ (z : B). Ok (f z)) (same_ok c b e)
from_same f (Ok a) (Err d) b same e = absurd same
from_same f (Err d) (Ok c) b same e = absurd same
from_same f (Err d) (Err c) b same e = absurd cc

-- one after another
pub then_same : {A B C D E F : Type 0} (f : B → A) (g : D → C) (r : Result A E) (q : Result B F) (next : A → Result C E) (on : B → Result D F) → IsSame f r q → ((b : B) → IsSame g (next (f b)) (on b)) → IsSame g (r >>= next) (q >>= on)
then_same f g (Ok a) (Ok b) next on same h = subst (λ x. IsSame g (next x) (on b)) (sym same) (h b)
then_same f g (Ok a) (Err d) next on same h = absurd same
then_same f g (Err e) (Ok b) next on same h = absurd same
then_same f g (Err e) (Err d) next on same h = tt

pub each_same : {A B C E F : Type 0} (f : C → B) (step : A → B → Result B E) (on : A → C → Result C F) → ((x : A) (c : C) → IsSame f (step x (f c)) (on x c)) → (xs : List A) (c : C) → IsSame f (each step xs (f c)) (each on xs c)
each_same f step on h [] c = refl
each_same f step on h (x ∷ xs) c = then_same f f (step x (f c)) (on x c) (λ t. each step xs t) (λ t. each on xs t) (h x c) (λ t. each_same f step on h xs t)

-- a step that calls no hook
pub silent_same : {E : Type 0} (step : State → Result State E) (w : Hearing Noted) → IsSame unheard (step (unheard w)) (silently step w)
silent_same {E} step w = by (step (unheard w))
  where
    by : (r : Result State E) → IsSame unheard r (r >>= λ u. Ok (hearing (heard_in w) u))
    by (Ok u) = refl
    by (Err why) = tt

module _ (nothing : RecorderChangesNothing) where
  -- ---- a message

  pub effect_same : (m : Msg) (w u : Hearing Noted) → effect_heard heard m w ≡ Ok u → effect_of m (unheard w) ≡ Ok (unheard u)
  effect_same m w u e = by (effect_of m (unheard w)) (effect_heard heard m w) (nothing.messages (m ∷ []) w) e
    where
      by : (r : Result State Refusal) (q : Result (Hearing Noted) Refusal) → IsSame unheard (stopping (λ why. (0, why)) r >>= λ x. effects_of (0 + 1) [] x) (q >>= λ x. messages_heard heard [] x) → q ≡ Ok u → r ≡ Ok (unheard u)
      by (Ok x) (Ok y) same k = ap (λ (z : State). Ok z) same ∙ ap (λ (z : Hearing Noted). Ok (unheard z)) (same_ok y u k)
      by (Ok x) (Err why) same k = absurd same
      by (Err why) (Ok y) same k = absurd same
      by (Err why) (Err other) same k = absurd cc

  -- ---- the beginning and the end of a block

  pub beginning_same : (votes : List Vote) (evidence : List Evidence) (w : Hearing Noted) → IsSame unheard (begin_block votes evidence (unheard w)) (beginning_heard heard votes evidence w)
  beginning_same votes evidence w =
      then_same unheard unheard (allocation_step votes (unheard w)) (silently (allocation_step votes) w)
      (λ x. each vote_step votes x >>= λ y. each evidence_step evidence y) (λ x. each (vote_heard heard) votes x >>= λ y. each (evidence_heard heard) evidence y) (silent_same (allocation_step votes) w) (λ x.
      then_same unheard unheard (each vote_step votes (unheard x)) (each (vote_heard heard) votes x) (λ y. each evidence_step evidence y) (λ y. each (evidence_heard heard) evidence y)
      (each_same unheard vote_step (vote_heard heard) nothing.votes votes x) (λ y. each_same unheard evidence_step (evidence_heard heard) nothing.evidence evidence y))

  set_same : (w : Hearing Noted) → IsSame unheard (set_step (unheard w)) (set_heard heard w)
  set_same w =
      then_same plainly unheard (set_updated chain_told (plainly (staked_in w))) (set_updated (overheard_told heard) (staked_in w)) (λ s. Ok (with_staked (unheard w).mine s)) (λ s. Ok (with_staked w.mine s))
      (nothing.sets (staked_in w)) (λ s. refl)

  maturing_same : (w : Hearing Noted) → IsSame unheard (maturing_step (unheard w)) (maturing_heard heard w)
  maturing_same w =
      then_same plainly unheard (validators_matured chain_told (plainly (staked_in w))) (validators_matured (overheard_told heard) (staked_in w)) (λ s. Ok (with_staked (unheard w).mine s)) (λ s. Ok (with_staked w.mine s))
      (nothing.matures (staked_in w)) (λ s. refl)

  pub ending_same : (w : Hearing Noted) → IsSame unheard (end_block (unheard w)) (ending_heard heard w)
  ending_same w =
      then_same unheard unheard (set_step (unheard w)) (set_heard heard w) (λ a. maturing_step a >>= λ b. unbondings_step b >>= λ c. redelegations_step c)
      (λ a. maturing_heard heard a >>= λ b. silently unbondings_step b >>= λ c. silently redelegations_step c) (set_same w) (λ a.
      then_same unheard unheard (maturing_step (unheard a)) (maturing_heard heard a) (λ b. unbondings_step b >>= λ c. redelegations_step c)
      (λ b. silently unbondings_step b >>= λ c. silently redelegations_step c) (maturing_same a) (λ b.
      then_same unheard unheard (unbondings_step (unheard b)) (silently unbondings_step b) (λ c. redelegations_step c) (λ c. silently redelegations_step c) (silent_same unbondings_step b) (λ c. silent_same redelegations_step c)))

  -- ---- the stakes of a genesis

  pub validators_same : (g : Genesis) (s : World Staked (Overheard Noted)) → IsSame plainly (each (validator_added chain_told) g.validators (plainly s)) (each (validator_added (overheard_told heard)) g.validators s)
  validators_same g s = each_same plainly (validator_added chain_told) (validator_added (overheard_told heard)) nothing.validators g.validators s

  pub stake_same : (g : Genesis) (s : World Staked (Overheard Noted)) → IsSame plainly (stake_added chain_told g (plainly s)) (stake_added (overheard_told heard) g s)
  stake_same g s =
      then_same plainly plainly (each (validator_added chain_told) g.validators (plainly s)) (each (validator_added (overheard_told heard)) g.validators s)
      (λ u. each (delegation_added chain_told) g.delegations u) (λ u. each (delegation_added (overheard_told heard)) g.delegations u) (validators_same g s)
      (λ u. each_same plainly (delegation_added chain_told) (delegation_added (overheard_told heard)) nothing.delegations g.delegations u)
