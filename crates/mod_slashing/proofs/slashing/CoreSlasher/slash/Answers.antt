use Rattle.std.proofs.Common.{◌≡◌, ◌∙◌, ◌+◌, ◌-◌, false, sym, ap, subst}
use Rattle.base_roles.specs.{Answers.Follows, Ground.seen}
use Rattle.base_roles.specs.Staked.{Staked, validator_at, is_unbonded, lists_of, bonded_tokens, other_tokens}
use Rattle.base_roles.{specs.World.World, proofs.FallLemmas.{falls-burned, falls-beside, falls-then}}
use Rattle.base_roles.proofs.StakeLemmas.{holds-fallen, holds-part, holds-burned, stands-burned, on_ok, on_both, still-then}
use Rattle.rule_modules.specs.Slashing.{Core, EntriesSlash, slash_amount, rest_slashed, slashed_at}
use Rattle.mod_staking.specs.Calls.{behind_log}
use Rattle.mod_slashing.proofs.{StillLemmas.still-by_cons, ToldLemmas.slashed-all}
use Rattle.mod_slashing.proofs.slashing.CoreSlasher.slash.Goals as goal

pub slash_redelegations-requires-clause-stand : goal.slash_redelegations-requires-clause-stand
slash_redelegations-requires-clause-stand g c =
    stands-burned g.H.StakingHooks.tells (g.H.StakingHooks.holds c.args.hooks.now) (seen g.B.Bank.holdings c.args.g.now) (seen g.B.Bank.holdings c.slash_unbondings.new.g) _ _ (lists_of c.args.self.now.staking.staked) c.slash_unbondings.ensures.undone.ctx
    c.in_ok-some.ensures.burned c.in_ok-some.ensures.in_order c.requires.stand

pub slash_redelegations-requires-clause-accounts : goal.slash_redelegations-requires-clause-accounts
slash_redelegations-requires-clause-accounts g c =
    let s = c.args.self.now.staking.staked in
    let n = g.U.UnbondingSlash.owed (g.U.UnbondingSlash.held c.args.self.now.unbondings) in
    let n2 = g.U.UnbondingSlash.owed (g.U.UnbondingSlash.held c.slash_unbondings.new.self) in
    holds-burned (seen g.B.Bank.holdings c.args.g.now) (seen g.B.Bank.holdings c.slash_unbondings.new.g) (bonded_tokens s) (other_tokens s) n n2 c.slash_unbondings.ensures.undone.ctx c.in_ok-some.ensures.burned c.requires.accounts

pub slash_rest-requires-clause-accounts : goal.slash_rest-requires-clause-accounts
slash_rest-requires-clause-accounts g c =
    let s = c.args.self.now.staking.staked in
    let s1 = c.slash_redelegations.new.delegations.staked in
    let n = g.U.UnbondingSlash.owed (g.U.UnbondingSlash.held c.args.self.now.unbondings) in
    let n1 = g.U.UnbondingSlash.owed (g.U.UnbondingSlash.held c.slash_unbondings.new.self) in
    let n2 = g.U.UnbondingSlash.owed (g.U.UnbondingSlash.held c.slash_redelegations.new.unbondings) in
    let v = seen g.B.Bank.holdings c.args.g.now in
    let v1 = seen g.B.Bank.holdings c.slash_unbondings.new.g in
    let v2 = seen g.B.Bank.holdings c.slash_redelegations.new.g in
    holds-part v2 (bonded_tokens s1) (other_tokens s1) n2
    (holds-fallen v1 v2 (bonded_tokens s) (other_tokens s + n1) (bonded_tokens s1) (other_tokens s1 + n2) c.slash_redelegations.ensures.undone.ctx c.in_ok-more.ensures.falls
    (holds-burned v v1 (bonded_tokens s) (other_tokens s) n n1 c.slash_unbondings.ensures.undone.ctx c.in_ok-some.ensures.burned c.requires.accounts))

pub returns-clause-falls : goal.returns-clause-falls
returns-clause-falls g c =
    let s = c.args.self.now.staking.staked in
    let s1 = c.slash_redelegations.new.delegations.staked in
    let s2 = c.slash_rest.new.staking.staked in
    let n = g.U.UnbondingSlash.owed (g.U.UnbondingSlash.held c.args.self.now.unbondings) in
    let n1 = g.U.UnbondingSlash.owed (g.U.UnbondingSlash.held c.slash_unbondings.new.self) in
    let n2 = g.U.UnbondingSlash.owed (g.U.UnbondingSlash.held c.slash_redelegations.new.unbondings) in
    let v = seen g.B.Bank.holdings c.args.g.now in
    let v1 = seen g.B.Bank.holdings c.slash_unbondings.new.g in
    let v2 = seen g.B.Bank.holdings c.slash_redelegations.new.g in
    let v3 = seen g.B.Bank.holdings c.slash_rest.new.g in
    let entries = falls-then v v1 v2 (bonded_tokens s) (other_tokens s + n) (bonded_tokens s) (other_tokens s + n1) (bonded_tokens s1) (other_tokens s1 + n2) c.slash_unbondings.ensures.undone.ctx
    (falls-burned v v1 (bonded_tokens s) (other_tokens s) n n1 c.in_ok-some.ensures.burned) c.in_ok-more.ensures.falls in
    on_ok c.slash_rest.result
    (λ f. falls-then v v2 v3 (bonded_tokens s) (other_tokens s + n) (bonded_tokens s1) (other_tokens s1 + n2) (bonded_tokens s2) (other_tokens s2 + n2) (c.slash_redelegations.ensures.undone.ctx ∙ c.slash_unbondings.ensures.undone.ctx) entries
    (falls-beside v2 v3 (bonded_tokens s1) (other_tokens s1) (bonded_tokens s2) (other_tokens s2) n2 f)) c.slash_rest.ensures.falls

pub returns-clause-told : goal.returns-clause-told
returns-clause-told g c = λ h o log.
    let s1 = c.slash_redelegations.new.delegations.staked in
    let s2 = c.slash_rest.new.staking.staked in
    let v = c.in-Some.v.now in
    let told = g.H.StakingHooks.tells.told in
    let holds = g.H.StakingHooks.holds c.slash_rest.new.hooks in
    let v2 = seen g.B.Bank.holdings c.slash_redelegations.new.g in
    let v3 = seen g.B.Bank.holdings c.slash_rest.new.g in
    let entries : EntriesSlash g.U.UnbondingSlash.Held g.R.RedelegationSlash.Held g.H.StakingHooks.Held
    = record { of_unbondings = g.U.UnbondingSlash.slashes; of_followed = record { follow = g.U.UnbondingSlash.follows }; of_redelegations = g.R.RedelegationSlash.slashes Staked g.U.UnbondingSlash.Held g.H.StakingHooks.Held } in
    let mine : Core g.U.UnbondingSlash.Held g.R.RedelegationSlash.Held
    = record { staked = c.args.self.now.staking.staked; unbondings = g.U.UnbondingSlash.held c.args.self.now.unbondings; redelegations = g.R.RedelegationSlash.held c.args.self.now.redelegations } in
    let left : Core g.U.UnbondingSlash.Held g.R.RedelegationSlash.Held
    = record { staked = s2; unbondings = g.U.UnbondingSlash.held c.slash_redelegations.new.unbondings; redelegations = g.R.RedelegationSlash.held c.slash_redelegations.new.self } in
    let w : World (Core g.U.UnbondingSlash.Held g.R.RedelegationSlash.Held) g.H.StakingHooks.Held = record { mine = mine; hooks = h; view = seen g.B.Bank.holdings c.args.g.now; log = log } in
    let unbonded : is_unbonded v.status ≡ false = sym c.is_unbonded.ensures ∙ c.if-is_unbonded.false in
    let amount : c.saturating_sub-left.result ≡ slash_amount c.args.power c.args.g.now.ctx.params.power_reduction c.args.factor - (c.in_ok-some.some + c.in_ok-more.more)
    = c.saturating_sub-left.ensures ∙ ap (λ m. m - (c.in_ok-some.some + c.in_ok-more.more)) c.slash_amount-amount.ensures in
    subst (λ x. Follows (slashed_at told entries x c.args.infraction c.args.power c.args.factor w) left holds v3 c.slash_rest.result) c.in-Some.ensures.value
    (slashed-all told entries v c.args.infraction c.args.power c.args.factor w holds v3 c.in_ok-some.some c.in_ok-more.more (g.U.UnbondingSlash.held c.slash_unbondings.new.self) (g.U.UnbondingSlash.held c.slash_redelegations.new.unbondings) (seen g.B.Bank.holdings c.slash_unbondings.new.g) v2
    (g.H.StakingHooks.holds c.slash_redelegations.new.hooks) s1 s2 (g.R.RedelegationSlash.held c.slash_redelegations.new.self) c.slash_rest.result unbonded c.in_ok-some.ensures.told (c.in_ok-more.ensures.told h o log)
    (λ h1 o1 past. subst (λ m. Follows (rest_slashed told (validator_at s1 v.operator) m (behind_log past s1 h1 v2)) s2 holds v3 c.slash_rest.result) amount (c.slash_rest.ensures.told h1 o1 past)))

pub returns-clause-still : goal.returns-clause-still
returns-clause-still g c =
    let s = c.args.self.now.staking.staked in
    let s1 = c.slash_redelegations.new.delegations.staked in
    on_ok c.slash_rest.result (λ k. still-then s s1 c.slash_rest.new.staking.staked c.in_ok-more.ensures.still k) c.slash_rest.ensures.still

pub returns-clause-still_by_cons : goal.returns-clause-still_by_cons
returns-clause-still_by_cons g c =
    let s = c.args.self.now.staking.staked in
    let s1 = c.slash_redelegations.new.delegations.staked in
    let s2 = c.slash_rest.new.staking.staked in
    on_both c.slash_rest.result (λ k h. still-by_cons s s2 c.requires.sound.staked h.sound (still-then s s1 s2 c.in_ok-more.ensures.still k)) c.slash_rest.ensures.still c.slash_rest.ensures.hooked
