-- A slash since a height, of what was unbonded and redelegated and of the validator itself, and jailing: a vote and a piece of
-- evidence keep accounts reached.
use Rattle.std.proofs.Common.{◌≡◌, ℕ, Bool, true, false, cond, List, [], ◌∷◌, refl, ap, subst, ◌∙◌, Some, Ok, find, is_eq}
use Rattle.std.{specs.{List.AllByRecursion, Map.values_of}, proofs.lemmas.List.Elements.recursion_from_All}
use Rattle.base_types.specs.Orders.{addr_cmp, cons_cmp}
use Rattle.base_roles.specs.declared.{entities.Validator.Validator, params.Ctx.Ctx}
use Rattle.base_roles.specs.Staked.{Staked, validator_at, validator_by_cons, delegation}
use Rattle.base_roles.specs.World.{View, World, over_view}
use Rattle.rule_modules.proofs.{EntryLemmas.to_all, OrderLemmas.addr_total, GoingLemmas.weaker_if}
use Rattle.rule_modules.proofs.SlashParts.{GoesThroughPunishing, beside_entries, entries_lost, evidence_goes, following_lost, after_jailing, target_lost, vote_goes, burnt_with, slash_noted, OwnTarget, own_target, entries_go}
use Rattle.rule_modules.proofs.BesideLemmas.{raised}
use Rattle.rule_modules.specs.Chain.{Stakes, State, chain_told, beside_window, with_window, vote_step, evidence_step, staked_in, with_staked, Hooks}
use Rattle.rule_modules.specs.{Distribution.Shared, EntrySlashes.entries_slashed, Sound.IsSound}
use Rattle.rule_modules.specs.{Unbonding.unbonded_shares, Unbondings.UnbondingLists, Window.Window}
use Rattle.law_rewards.specs.{States.AreReached, StateLaws.ReachedStays}
use Rattle.law_rewards.{specs.Changes.{VotesKeepReached, EvidenceKeepsReached}, proofs.Edits.standing_reached}
use Rattle.law_rewards.proofs.Quiet.{viewed_reached}
use Rattle.law_rewards.proofs.Fits.{Fits, nobody, fits_sound, put_fits, unbonded_fits, unbonded_then}
use Rattle.law_rewards.proofs.Slashing.{Going, empty_going, burnt_going}

-- ---- a slash

-- the slash of unbonding entries is within the block
entries_at : (operator : List ℕ) (infraction factor : ℕ) (u : UnbondingLists) (v : View) → (entries_slashed operator infraction factor u v).1.ctx ≡ v.ctx
entries_at = entries_go (λ u v. v.ctx ≡ u.ctx) (λ v. refl) (λ u v w p q. q ∙ p) (λ n v. refl)

-- a state beside its window
pub record Beside (i : Window) (w : World Stakes Shared) : Type 0 where
  pub fits : Fits nobody w.mine.staked w.hooks
  pub reached : AreReached (with_window i w)

-- what is of validators and delegations alone, and back
abbrev pub going_of : (i : Window) (w : World Stakes Shared) → Beside i w → Going w.mine i (staked_in w)
going_of i w g = record { fits = g.fits; reached = λ d u there. g.reached d u there }

abbrev beside_from : (c : Stakes) (i : Window) (x : World Staked Shared) → Going c i x → Beside i (with_staked c x)
beside_from c i x g = record { fits = g.fits; reached = λ d u there. g.reached d u there }

-- burns are within the block
viewed_beside : (i : Window) (w : World Stakes Shared) (u : UnbondingLists) (v : View) → v.ctx ≡ w.view.ctx → Beside i w
    → Beside i (beside_entries w.mine.redelegations u (record { mine = w.mine.staked; hooks = w.hooks; view = v; log = w.log }))
viewed_beside i w u v same g =
    let moved : AreReached (over_view (λ x. v) (with_window i w)) = viewed_reached (with_window i w) v (ap (λ (c : Ctx). c.height) same) g.reached in
    record { fits = g.fits; reached = λ d x there. moved d x there }

own_place : (i : Window) (operator : List ℕ) (v : Validator) (w : World Stakes Shared) → validator_at w.mine.staked operator ≡ Some v → Beside i w → validator_at w.mine.staked v.operator ≡ Some v
own_place i operator v w is g = ap (validator_at w.mine.staked) (g.fits.own operator v is) ∙ is

target_beside : (i : Window) (who : List ℕ) (t v : Validator) (held part : ℕ) (w : World Stakes Shared) (z : ℕ × World Staked Shared) → OwnTarget w.mine.staked who t v held part → delegation w.mine.staked who t.operator ≡ Some held
    → ((j : Window) → unbonded_shares chain_told v who held part (raised j (staked_in w)) ≡ Ok (z.0, raised j z.1)) → Beside i w → Beside i (target_lost t z w)
target_beside i who t v held part w z own has same g =
    let y : ℕ × World Staked Hooks = (z.0, raised i z.1) in
    let e : unbonded_shares chain_told t who held part (raised i (staked_in w)) ≡ Ok y = subst (λ (x : Validator). unbonded_shares chain_told x who held part (raised i (staked_in w)) ≡ Ok y) own.same (same i) in record {
      fits = (unbonded_fits (raised i (staked_in w)) t who held part y g.fits own.found e).fits;
      reached = λ d u there. unbonded_then (with_window i w) t who held part y g.fits own.found has own.within g.reached e d u there;
    }

-- ---- jailing

among_values : (Q : Validator → Type 0) (test : Validator → Bool) (es : List (List ℕ × Validator)) (v : Validator) → find test (values_of es) ≡ Some v → AllByRecursion (λ e. Q e.1) es → Q v
among_values Q test [] v h a = absurd cc
among_values Q test (e ∷ es) v h a = by (test e.1) h (λ k. among_values Q test es v k a.1)
  where
    by : (b : Bool) → cond b (Some e.1) (find test (values_of es)) ≡ Some v → (find test (values_of es) ≡ Some v → Q v) → Q v
    by true k later = let same : e.1 ≡ v = cc in subst Q same a.0
    by false k later = later k

known_by_cons : (s : Staked) (d : Shared) (cons : List ℕ) (v : Validator) → Fits nobody s d → validator_by_cons s cons ≡ Some v → validator_at s v.operator ≡ Some v
known_by_cons s d cons v f e =
    among_values (λ u. validator_at s u.operator ≡ Some u) (λ u. is_eq (cons_cmp u.cons cons)) s.validators v e
    (recursion_from_All (λ x. validator_at s x.1.operator ≡ Some x.1) s.validators
    (to_all addr_cmp addr_total (λ x. validator_at s x.1.operator ≡ Some x.1) s.validators f.validators_ascend (λ o u there. ap (validator_at s) (f.own o u there) ∙ there)))

jailed_beside : (i : Window) (cons : List ℕ) (v : Validator) (w : World Stakes Shared) → validator_by_cons w.mine.staked cons ≡ Some v → Beside i w → Beside i (after_jailing v w)
jailed_beside i cons v w is g =
    let found : validator_at w.mine.staked v.operator ≡ Some v = known_by_cons w.mine.staked w.hooks cons v g.fits is in
    let now : Validator = record v { jailed = true } in record {
      fits = put_fits nobody w.mine.staked w.hooks v now g.fits found (g.fits.tokens v.operator v found);
      reached = λ d u there. standing_reached (with_window i w) now v (record { operator = refl; tokens = refl; shares = refl }) found g.reached d u there;
    }

-- ---- votes and evidence

pub beside_of : (w : State) → IsSound w → AreReached w → Beside w.hooks.1 (beside_window w)
beside_of w sound reached = record { fits = fits_sound w sound; reached = λ d u there. reached d u there }

pub stays_beside : (i : Window) → GoesThroughPunishing (λ w y. Beside i w → Beside i y)
stays_beside i = record {
  slashes = record {
    stays = λ w g. g;
    goes_on = λ w x y p q g. q (p g);
    entries = λ operator infraction factor w g. viewed_beside i w (entries_lost operator infraction factor w).mine.unbondings (entries_lost operator infraction factor w).view (entries_at operator infraction factor w.mine.unbondings w.view) g;
    following = λ who operator from tokens w g. viewed_beside i w (following_lost who operator from tokens w).mine.unbondings (following_lost who operator from tokens w).view refl g;
    target = λ operator who t v held part w z is again has within same g. target_beside i who t v held part w z (own_target w.mine.staked operator who t v held part g.fits.own is again has within) has same g;
    empty = λ operator v burn w is none within g. beside_from w.mine i (burnt_with v burn w.view.ctx.params.bond_denom (staked_in w))
        (empty_going w.mine i (staked_in w) v burn w.view.ctx.params.bond_denom (going_of i w g) (own_place i operator v w is g) none);
    itself = λ operator v burn w z is some within ends g. beside_from w.mine i (burnt_with v burn w.view.ctx.params.bond_denom (slash_noted v burn z (staked_in w)))
        (burnt_going w.mine i (staked_in w) v burn w.view.ctx.params.bond_denom z (going_of i w g) (own_place i operator v w is g) some within ends);
  };
  jails = λ cons v w is g. jailed_beside i cons v w is g;
  bans = λ v w g. record { fits = g.fits; reached = λ d u there. g.reached d u there };
}

-- what stays reached beside the window does with it
with_it : (w new : State) → IsSound w → (Beside w.hooks.1 (beside_window w) → Beside w.hooks.1 (beside_window new)) → ReachedStays w new
with_it w new sound k reached = let g : Beside w.hooks.1 (beside_window new) = k (beside_of w sound reached) in λ d u there. g.reached d u there

pub votes_keep_reached : VotesKeepReached
votes_keep_reached = λ t w sound.
    weaker_if (vote_step t w) (λ x. Beside w.hooks.1 (beside_window w) → Beside w.hooks.1 (beside_window x)) (ReachedStays w) (vote_goes (λ u y. Beside w.hooks.1 u → Beside w.hooks.1 y) (stays_beside w.hooks.1) t w)
    (λ x k. with_it w x sound k)

pub evidence_keeps_reached : EvidenceKeepsReached
evidence_keeps_reached = λ ev w sound.
    weaker_if (evidence_step ev w) (λ x. Beside w.hooks.1 (beside_window w) → Beside w.hooks.1 (beside_window x)) (ReachedStays w) (evidence_goes (λ u y. Beside w.hooks.1 u → Beside w.hooks.1 y) (stays_beside w.hooks.1) ev w)
    (λ x k. with_it w x sound k)
