-- What stands of a pair through the end of a block that a recorder hears: nothing of it happens there.
use Rattle.std.proofs.Common.{◌≡◌, ℕ, Bool, true, false, List, [], ◌∷◌, ◌++◌, IfOk, Option, Result, Ok, Err, if◌then◌else◌}
use Rattle.base_types.specs.declared.account.Account.TheVariants as account
use Rattle.base_types.specs.declared.account.Module.TheVariants as holder
use Rattle.base_roles.specs.declared.{entities.{UnbondingEntry.UnbondingEntry, Validator.Validator}, facts.Fact.Fact}
use Rattle.base_roles.specs.{Flow.{◌>>=◌}, Log.Log, World.{View, sent}}
use Rattle.rule_machine.specs.Listening.{Hearing, ending_heard, heard_in, maturing_heard, overheard_told, set_heard, silently}
use Rattle.rule_modules.specs.{Amounts.bond_coins, BondedSet.{set_updated, validators_matured}}
use Rattle.rule_modules.specs.Chain.{redelegations_step, staked_in, unbondings_step}
use Rattle.rule_modules.{specs.Unbondings.{UnbondingLists, completed, is_mature, paid_back}, proofs.GoingLemmas.on_bind}
use Rattle.law_rewards.proofs.Telling.{on_then}
use Rattle.mod_recorder.specs.Notes.{Noted, heard}
use Rattle.mod_tracking.specs.{declared.tracker.Pair.Pair, Tracking.Tracked}
use Rattle.law_statements.proofs.{Holding.{Holds, holds_sent}, Messages.overheard_is}
use Rattle.law_statements.proofs.{Staking.{maturing_holds, set_holds}, Transactions.Behind}

module _ (p : Pair) (v : Option Validator) (t0 : Tracked) (n0 : ℕ) (base : Log) (earlier : List Fact) where
  abbrev Keeps : Hearing Noted → Type 0
  Keeps w = Behind p v t0 n0 base earlier w

  -- ---- unbondings that are paid

  module _ (r : Noted) (l : Log) where
    abbrev Has : View → Type 0
    Has u = Holds p v t0 n0 base earlier 0 r u.facts l

    back_holds : (who : List ℕ) (es : List UnbondingEntry) (u : View) → Has u → Has (paid_back who es u)
    back_holds who [] u h = h
    back_holds who (e ∷ es) u h = by (is_mature u.ctx.time e) (λ x k. back_holds who es x k)
      where
        u1 : View
        u1 = sent (account.Module holder.NotBonded) (account.User who) (bond_coins u e.balance) u

        by : (b : Bool) → ((x : View) → Has x → Has (paid_back who es x)) → Has (if b then paid_back who es u1 else paid_back who es u)
        by true rest = rest u1 (holds_sent p v t0 n0 base earlier 0 r u.facts l (account.Module holder.NotBonded) (account.User who) (bond_coins u e.balance) h)
        by false rest = rest u h

    completed_holds : (us : UnbondingLists) (u : View) → Has u → Has (completed us u).1
    completed_holds [] u h = h
    completed_holds (q ∷ qs) u h = completed_holds qs (paid_back q.0.0 q.1 u) (back_holds q.0.0 q.1 u h)

  -- ---- all of it

  pub ending_holds : (w : Hearing Noted) → Keeps w → IfOk (ending_heard heard w) Keeps
  ending_holds w h =
      on_then {B = Hearing Noted} (set_heard heard w) (λ a. maturing_heard heard a >>= λ b. silently unbondings_step b >>= λ c. silently redelegations_step c) Keeps Keeps
      (on_bind (set_updated (overheard_told heard) (staked_in w)) _ Keeps (λ s e. set_holds p v t0 n0 base earlier (overheard_told heard) (λ g. g.0) overheard_is (staked_in w) s e h)) (λ a ka.
      on_then {B = Hearing Noted} (maturing_heard heard a) (λ b. silently unbondings_step b >>= λ c. silently redelegations_step c) Keeps Keeps
      (on_bind (validators_matured (overheard_told heard) (staked_in a)) _ Keeps (λ s e. maturing_holds p v t0 n0 base earlier (overheard_told heard) (λ g. g.0) overheard_is (staked_in a) s e ka)) (λ b kb.
      on_then {B = Hearing Noted} (silently unbondings_step b) (λ c. silently redelegations_step c) Keeps Keeps (completed_holds (heard_in b) b.log b.mine.unbondings b.view kb) (λ c kc. kc)))
