-- What stands of a pair through the beginning of a block that a recorder hears: its fees, its votes and its evidence.
use Rattle.std.proofs.Common.{◌≡◌, ◌∙◌, ℕ, ◌≤◌, List, [], ◌∷◌, ◌++◌, length, refl, sym, ap, Contains, IfOk, Option, Result, Ok, Err}
use Rattle.base_roles.specs.declared.{entities.Validator.Validator, facts.Fact.Fact, messages.Evidence.Evidence}
use Rattle.base_roles.specs.{declared.messages.Vote.Vote, Flow.{◌>>=◌, each}, Log.Log, Staked.validator_at}
use Rattle.rule_machine.specs.Listening.{Hearing, beginning_heard, beside_window, evidence_heard, heard_in, shared_told, silently, unheard, vote_heard}
use Rattle.rule_modules.specs.Allocation.{fees_allocated}
use Rattle.rule_modules.specs.Chain.{State, allocation_step, evidence_step, staked_in, vote_step}
use Rattle.rule_modules.specs.{Evidence.{equivocation_handled, window_bans}, Slashing.{core_slashes, plain_slash}}
use Rattle.rule_modules.{specs.Window.voted, proofs.GoingLemmas.{from_if, on_bind}}
use Rattle.law_soundness.proofs.{Allocating.found_by_cons, Points.StateFits}
use Rattle.law_soundness.proofs.Running.{AllocatedLeft, AreDistinct, AreKnown, CountBelow, allocated_left, counts_on}
use Rattle.law_soundness.proofs.Voting.{EvidenceLeft, VoteLeft, evidence_fits, vote_fits}
use Rattle.law_rewards.specs.{States.AreReached, StateLaws.NoneStartedHere}
use Rattle.law_rewards.proofs.{Punishing.{evidence_keeps_reached, votes_keep_reached}, Telling.on_then}
use Rattle.law_runs.proofs.Running.{allocation_reached, fees_are_coins, kept_at, same_counts, sound_at}
use Rattle.mod_recorder.specs.Notes.{Noted, heard}
use Rattle.mod_tracking.specs.{declared.tracker.Pair.Pair, Tracking.Tracked}
use Rattle.law_statements.{specs.Unheard.RecorderChangesNothing, proofs.{Fees.fees_keep, Holding.Holds}}
use Rattle.law_statements.proofs.Messages.{fit_in, shared_is, tied_in}
use Rattle.law_statements.proofs.{Slashes.{Fits, KeepsAll, evidence_keeps, vote_keeps}, Transactions.Behind}
use Rattle.law_statements.proofs.Unhearing.{from_same, silent_same}

module _ (p : Pair) (v : Option Validator) (t0 : Tracked) (n0 : ℕ) (base : Log) (earlier : List Fact) where
  abbrev Keeps : Hearing Noted → Type 0
  Keeps w = Behind p v t0 n0 base earlier w

  module _ (nothing : RecorderChangesNothing) (some : List (List ℕ)) (few : length some ≤ 1_000_000) (T : List ℕ → ℕ) where
    abbrev P : List ℕ → Type 0
    P = Contains some

    -- a state that fits, of reached accounts, where the pair stands so
    pub record Goes (w : Hearing Noted) : Type 0 where
      pub fits : StateFits P T (unheard w)
      pub reached : AreReached (unheard w)
      pub holds : Keeps w

    -- where a validator may be slashed, beside the window
    may_slash : (w : Hearing Noted) → Goes w → Fits p v t0 n0 base earlier (shared_told heard) (λ h. h) shared_is (staked_in (beside_window w))
    may_slash w g =
        let sound = sound_at some few T (unheard w) g.fits in
        record {
          goes = record { ascend = sound.staked.validators_ascend; ties = tied_in p v t0 n0 base earlier (unheard w) sound g.reached; holds = g.holds };
          fit = fit_in p v t0 n0 base earlier (unheard w) sound g.reached;
        }

    -- ---- fees

    fees_hold : (votes : List Vote) (w : Hearing Noted) → v ≡ validator_at w.mine.staked p.operator → Goes w → IfOk (silently (allocation_step votes) w) Keeps
    fees_hold votes w before g =
        let sound = sound_at some few T (unheard w) g.fits in
        on_then (allocation_step votes (unheard w)) _ (λ (u : State). Holds p v t0 n0 base earlier 0 (heard_in w) u.view.facts u.log) Keeps
        (on_then (fees_allocated w.mine.staked votes w.hooks.0.0 w.view) _ (λ x. Holds p v t0 n0 base earlier 0 (heard_in w) x.1.facts (w.log ++ x.2)) _
        (fees_keep p v t0 n0 base earlier (heard_in w) votes w.mine.staked w.hooks.0.0 w.view w.log before (λ cons val is. found_by_cons w.view.ctx.height w.mine.staked cons val g.fits.stake.staked is) (fees_are_coins (unheard w) sound) g.holds)
        (λ x k. k))
        (λ u k. k)

    -- ---- votes

    vote_holds : (t : Vote) (w : Hearing Noted) → Goes w → IfOk (vote_heard heard t w) Keeps
    vote_holds t w g =
        on_then (voted (core_slashes (shared_told heard) plain_slash) t w.hooks.1 (beside_window w)) _ (λ y. KeepsAll p v t0 n0 base earlier (shared_told heard) (λ h. h) shared_is y.2) Keeps
        (vote_keeps p v t0 n0 base earlier (shared_told heard) (λ h. h) shared_is t w.hooks.1 (beside_window w) (may_slash w g)) (λ y k. k)

    votes_hold : (ts : List Vote) (w : Hearing Noted) → AreDistinct ts → CountBelow (unheard w) ts → Goes w → IfOk (each (vote_heard heard) ts w) Goes
    votes_hold [] w distinct below g = g
    votes_hold (t ∷ ts) w distinct below g =
        on_bind {B = Hearing Noted} (vote_heard heard t w) (λ x. each (vote_heard heard) ts x) Goes (λ x e.
        let same : vote_step t (unheard w) ≡ Ok (unheard x) = from_same unheard (vote_step t (unheard w)) (vote_heard heard t w) x (nothing.votes t w) e in
        let left : VoteLeft P T t.cons (unheard w) (unheard x) = from_if (VoteLeft P T t.cons (unheard w)) (vote_step t (unheard w)) (unheard x) same (vote_fits P T t (unheard w) g.fits below.0) in
        let reached : AreReached (unheard x) = from_if AreReached (vote_step t (unheard w)) (unheard x) same (kept_at (vote_step t (unheard w)) (unheard w) g.reached (votes_keep_reached t (unheard w) (sound_at some few T (unheard w) g.fits))) in
        votes_hold ts x distinct.1 (counts_on P T (unheard w) (unheard x) t ts left.ctx left.others distinct.0 below.1)
        (record { fits = left.fits; reached = reached; holds = from_if Keeps (vote_heard heard t w) x e (vote_holds t w g) }))

    -- ---- evidence

    one_holds : (e : Evidence) (w : Hearing Noted) → Goes w → IfOk (evidence_heard heard e w) Keeps
    one_holds e w g =
        on_then (equivocation_handled (core_slashes (shared_told heard) plain_slash) window_bans e w.hooks.1 (beside_window w)) _ (λ y. KeepsAll p v t0 n0 base earlier (shared_told heard) (λ h. h) shared_is y.2) Keeps
        (evidence_keeps p v t0 n0 base earlier (shared_told heard) (λ h. h) shared_is e w.hooks.1 (beside_window w) (may_slash w g)) (λ y k. k)

    evidence_holds : (es : List Evidence) (w : Hearing Noted) → Goes w → IfOk (each (evidence_heard heard) es w) Keeps
    evidence_holds [] w g = g.holds
    evidence_holds (e ∷ es) w g =
        on_bind {B = Hearing Noted} (evidence_heard heard e w) (λ x. each (evidence_heard heard) es x) Keeps (λ x is.
        let same : evidence_step e (unheard w) ≡ Ok (unheard x) = from_same unheard (evidence_step e (unheard w)) (evidence_heard heard e w) x (nothing.evidence e w) is in
        let left : EvidenceLeft P T (unheard w) (unheard x) = from_if (EvidenceLeft P T (unheard w)) (evidence_step e (unheard w)) (unheard x) same (evidence_fits P T e (unheard w) g.fits) in
        let reached : AreReached (unheard x) = from_if AreReached (evidence_step e (unheard w)) (unheard x) same (kept_at (evidence_step e (unheard w)) (unheard w) g.reached (evidence_keeps_reached e (unheard w) (sound_at some few T (unheard w) g.fits))) in
        evidence_holds es x (record { fits = left.fits; reached = reached; holds = from_if Keeps (evidence_heard heard e w) x is (one_holds e w g) }))

    -- ---- all of it

    pub beginning_holds : (votes : List Vote) (evidence : List Evidence) (w : Hearing Noted) → NoneStartedHere (unheard w) → AreKnown w.mine.staked votes → AreDistinct votes → CountBelow (unheard w) votes → v ≡ validator_at w.mine.staked p.operator → Goes w
        → IfOk (beginning_heard heard votes evidence w) Keeps
    beginning_holds votes evidence w none known distinct below before g =
        on_bind {B = Hearing Noted} (silently (allocation_step votes) w) (λ x. each (vote_heard heard) votes x >>= λ y. each (evidence_heard heard) evidence y) Keeps (λ x e.
        let same : allocation_step votes (unheard w) ≡ Ok (unheard x) = from_same unheard (allocation_step votes (unheard w)) (silently (allocation_step votes) w) x (silent_same (allocation_step votes) w) e in
        let left : AllocatedLeft P T (unheard w) (unheard x) = from_if (AllocatedLeft P T (unheard w)) (allocation_step votes (unheard w)) (unheard x) same (allocated_left P T votes (unheard w) g.fits known) in
        let reached : AreReached (unheard x) = from_if AreReached (allocation_step votes (unheard w)) (unheard x) same (allocation_reached some few T votes (unheard w) g.fits g.reached none) in
        on_then {B = Hearing Noted} (each (vote_heard heard) votes x) (λ y. each (evidence_heard heard) evidence y) Goes Keeps
        (votes_hold votes x distinct (same_counts some few (unheard w) (unheard x) left.left.ctx left.window votes below)
        (record { fits = left.left.fits; reached = reached; holds = from_if Keeps (silently (allocation_step votes) w) x e (fees_hold votes w before g) }))
        (λ y k. evidence_holds evidence y k))
