-- In a sound state whose accounts are reached, the payments that a vote or a piece of evidence tells are fair: those of a
-- slash are of what was redelegated, at each target.
use Rattle.std.proofs.Common.{◌≡◌, ℕ, List, [], ◌∷◌, ◌++◌, refl, subst, Some, Ok}
use Rattle.base_types.specs.declared.account.Module.TheVariants as holder
use Rattle.base_roles.specs.{declared.entities.Validator.Validator, Log.Log, Staked.{Staked, delegation}}
use Rattle.base_roles.specs.World.{View, World}
use Rattle.base_roles.specs.declared.facts.Fact.TheVariants as fact
use Rattle.base_roles.specs.Log as log
use Rattle.rule_modules.specs.Chain.{Stakes, chain_told, beside_window, vote_step, evidence_step, staked_in, Hooks, with_window}
use Rattle.rule_modules.specs.{Distribution.{Shared, ended}, EntrySlashes.{entries_slashed, followed}}
use Rattle.rule_modules.specs.{Slashing.slash_fraction, Stakes.pool_of, Unbonding.unbonded_shares}
use Rattle.rule_modules.{specs.{Unbondings.UnbondingLists, Window.Window}, proofs.GoingLemmas.weaker_if}
use Rattle.rule_modules.proofs.SlashParts.{GoesThroughPunishing, evidence_goes, target_lost, vote_goes, burnt_with, slash_noted, OwnTarget, own_target, entries_go}
use Rattle.rule_modules.proofs.BesideLemmas.{raised}
use Rattle.law_rewards.{specs.WithdrawalLaws.{VotesPayFairly, EvidencePaysFairly}, proofs.Fits.ready_fits}
use Rattle.law_rewards.proofs.Punishing.{Beside, beside_of, stays_beside}
use Rattle.law_rewards.proofs.Paying.{Pays, pays_then, pays_nothing, pays_logged, pays_noted, pays_burnt, pays_ended}
use Rattle.law_rewards.proofs.{Staking.{PaysIn, pays_unbonded}, Telling.where_reached}

-- ---- a validator

-- the end of the period, the slash event, the fact and the burn
itself_pays : (x : World Staked Shared) (v : Validator) (burn : ℕ) (denom : List ℕ) (z : ℕ × Shared × View × Log) → ended v x.hooks x.view ≡ Ok z → PaysIn x (burnt_with v burn denom (slash_noted v burn z x))
itself_pays x v burn denom z e =
    let out : World Staked Shared = slash_noted v burn z x in
    let before : Log = x.log ++ z.3 in
    let fraction : ℕ = slash_fraction burn v.tokens in
    pays_then x.log out.log out.log x.view.facts out.view.facts (burnt_with v burn denom out).view.facts
    (pays_then x.log before out.log x.view.facts z.2.facts out.view.facts (pays_ended x.log v x.hooks x.view z e)
    (pays_then before out.log out.log z.2.facts z.2.facts out.view.facts (pays_logged before ((v.operator, log.slashed burn v.tokens fraction) ∷ []) z.2.facts (tt, tt) refl)
    (pays_noted out.log z.2.facts (fact.Slashed v.operator fraction burn) (λ who op to reward coins k. cc))))
    (pays_burnt out.log (pool_of v.status) denom burn out.view.facts)

-- ---- what was redelegated

target_pays : (i : Window) (who : List ℕ) (t v : Validator) (held part : ℕ) (w : World Stakes Shared) (z : ℕ × World Staked Shared) → OwnTarget w.mine.staked who t v held part → delegation w.mine.staked who t.operator ≡ Some held
    → ((j : Window) → unbonded_shares chain_told v who held part (raised j (staked_in w)) ≡ Ok (z.0, raised j z.1)) → Beside i w → PaysIn w (target_lost t z w)
target_pays i who t v held part w z own has same g =
    let y : ℕ × World Staked Hooks = (z.0, raised i z.1) in
    let e : unbonded_shares chain_told t who held part (raised i (staked_in w)) ≡ Ok y = subst (λ (x : Validator). unbonded_shares chain_told x who held part (raised i (staked_in w)) ≡ Ok y) own.same (same i) in
    pays_then w.log z.1.log z.1.log w.view.facts z.1.view.facts (target_lost t z w).view.facts
    (pays_unbonded (with_window i w) t who held part y (ready_fits (with_window i w) t.operator t g.fits own.found) own.found has g.reached e)
    (pays_burnt z.1.log (pool_of t.status) w.view.ctx.params.bond_denom z.0 z.1.view.facts)

-- ---- a slash

entries_pay : (l : Log) (operator : List ℕ) (infraction factor : ℕ) (u : UnbondingLists) (v : View) → Pays l v.facts l (entries_slashed operator infraction factor u v).1.facts
entries_pay l =
    entries_go (λ u v. Pays l u.facts l v.facts) (λ v. pays_nothing l v.facts) (λ u v w p q. pays_then l l l u.facts v.facts w.facts p q) (λ n v. pays_burnt l holder.NotBonded v.ctx.params.bond_denom n v.facts)

-- ---- votes and evidence

-- what stays reached, and tells fair payments alone
abbrev StaysFair : Window → World Stakes Shared → World Stakes Shared → Type 0
StaysFair i w y = Beside i w → Beside i y × PaysIn w y

stays_fair : (i : Window) → GoesThroughPunishing (StaysFair i)
stays_fair i = let k = stays_beside i in record {
  slashes = record {
    stays = λ w g. (g, pays_nothing w.log w.view.facts);
    goes_on = λ w x y p q g. ((q (p g).0).0, pays_then w.log x.log y.log w.view.facts x.view.facts y.view.facts (p g).1 (q (p g).0).1);
    entries = λ operator infraction factor w g. (k.slashes.entries operator infraction factor w g, entries_pay w.log operator infraction factor w.mine.unbondings w.view);
    following = λ who operator from tokens w g. (
      k.slashes.following who operator from tokens w g,
      pays_burnt w.log holder.NotBonded w.view.ctx.params.bond_denom (followed who operator from tokens w.mine.unbondings w.view).0 w.view.facts,
    );
    target = λ operator who t v held part w z is again has within same g. (
      k.slashes.target operator who t v held part w z is again has within same g,
      target_pays i who t v held part w z (own_target w.mine.staked operator who t v held part g.fits.own is again has within) has same g,
    );
    empty = λ operator v burn w is none within g. (k.slashes.empty operator v burn w is none within g, pays_burnt w.log (pool_of v.status) w.view.ctx.params.bond_denom burn w.view.facts);
    itself = λ operator v burn w z is some within e g. (k.slashes.itself operator v burn w z is some within e g, itself_pays (staked_in w) v burn w.view.ctx.params.bond_denom z e);
  };
  jails = λ cons v w is g. (k.jails cons v w is g, pays_noted w.log w.view.facts (fact.Jailed v.operator) (λ who op to reward coins e. cc));
  bans = λ v w g. (k.bans v w g, pays_noted w.log w.view.facts (fact.Tombstoned v.operator) (λ who op to reward coins e. cc));
}

pub votes_pay_fairly : VotesPayFairly
votes_pay_fairly = λ t w sound. where_reached (vote_step t) w (λ reached.
    weaker_if (vote_step t w) (λ x. StaysFair w.hooks.1 (beside_window w) (beside_window x)) (PaysIn w) (vote_goes (StaysFair w.hooks.1) (stays_fair w.hooks.1) t w) (λ x k. (k (beside_of w sound reached)).1))

pub evidence_pays_fairly : EvidencePaysFairly
evidence_pays_fairly = λ ev w sound. where_reached (evidence_step ev) w (λ reached.
    weaker_if (evidence_step ev w) (λ x. StaysFair w.hooks.1 (beside_window w) (beside_window x)) (PaysIn w) (evidence_goes (StaysFair w.hooks.1) (stays_fair w.hooks.1) ev w) (λ x k. (k (beside_of w sound reached)).1))
