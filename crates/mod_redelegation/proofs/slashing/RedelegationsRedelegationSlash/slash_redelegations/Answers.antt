use Rattle.std.proofs.Common.{◌≡◌, ◌∙◌, ◌+◌, List, drop, refl, sym, ap, subst, rules, Ok, Err}
use Rattle.base_roles.specs.{Ground.seen, Lent.{Unbonds, Following, FollowsLent}, Orders.triple_cmp}
use Rattle.base_roles.specs.declared.entities.RedelegationEntry.{RedelegationEntry}
use Rattle.rule_modules.specs.EntrySlashes.{counted, targets_slashed, sources_slashed, redelegation_made, redelegations_slashed}
use Rattle.mod_staking.specs.Calls.{behind_log}
use Rattle.mod_entries.specs.{Lists.{list_at, AreFew}, Kept.Kept, Slashed.{all_counted, is_from}, Walked.keys_where}
use Rattle.mod_entries.proofs.CountLemmas.{next_of, drop_end}
use Rattle.std.specs.{List.Sorted.IsStrictlySortedBy, Map.keys_of}
use Rattle.mod_redelegation.{specs.{Scenes.LeavesBoth, Slashed.keys_slashed}, proofs.BothLemmas.{both-none, both-then}}
use Rattle.mod_redelegation.proofs.{EntryLemmas.are_few, GoesOnLemmas.{both_go-none, both_go-then}}
use Rattle.mod_redelegation.proofs.OrderLemmas.{Key, triple_order, triple_order_is}
use Rattle.mod_redelegation.proofs.ReachedLemmas.{reached-first, reached-next, reached-err, reached-last, keys-next, keys-end, sources-keyed, follows-counted, follows-fault}
use Rattle.mod_redelegation.proofs.slashing.RedelegationsRedelegationSlash.slash_redelegations.Goals as goal

pub counted-counted-requires-clause-entries : goal.counted-counted-requires-clause-entries
counted-counted-requires-clause-entries g c =
    subst (λ (k : Kept Key RedelegationEntry). AreFew triple_order redelegation_made k.lists) (sym c.self.view_is)
    (subst (λ order. AreFew order redelegation_made c.args.self.now.lists) (sym triple_order_is) (are_few c.args.self.now.lists c.requires.sound))

pub loop-key-init : goal.loop-key-init
loop-key-init g c =
    let holdings = g.B.Bank.holdings in
    let told = g.H.StakingHooks.tells.told in
    let holds = g.H.StakingHooks.holds in
    let held = g.D.Unbonder.held in
    let lent : Unbonds g.D.Unbonder.Held g.H.StakingHooks.Held = record { stake = g.D.Unbonder.stake; unbond = g.D.Unbonder.unbonds g.H.StakingHooks.Held told } in
    let following : Following g.U.UnbondingSlash.Held = record { follow = g.U.UnbondingSlash.follows } in
    let v = seen holdings c.args.g.now in
    let d = held c.args.delegations.now in
    let u = g.U.UnbondingSlash.held c.args.unbondings.now in
    let slashed = keys_slashed lent following c.args.infraction c.args.factor c.deref-key-items.result.now c.args.self.now.lists in
    record {
      told = λ h o log. reached-first (slashed u (behind_log log d h v)) slashed u d (holds c.args.hooks.now) v h log o refl;
      scene = record { sound = c.requires.delegations; entries = c.requires.unbondings; stand = c.requires.stand; accounts = c.requires.accounts };
      slashed = both-none v (g.D.Unbonder.stake d) (g.U.UnbondingSlash.owed u);
      goes_on = both_go-none g.B.Bank.marks g.B.Bank.most_steps g.H.StakingHooks.marks g.D.Unbonder.marks g.U.UnbondingSlash.marks c.args.g.now c.args.hooks.now c.args.delegations.now c.args.unbondings.now;
    }

pub slash_at-requires-clause-scene : goal.slash_at-requires-clause-scene
slash_at-requires-clause-scene g c = c.loop-key.invariant.scene

pub slash_at-requires-clause-entries : goal.slash_at-requires-clause-entries
slash_at-requires-clause-entries g c = c.requires.sound

pub loop-key-preserved : goal.loop-key-preserved
loop-key-preserved g c =
    let holdings = g.B.Bank.holdings in
    let told = g.H.StakingHooks.tells.told in
    let holds = g.H.StakingHooks.holds in
    let held = g.D.Unbonder.held in
    let lent : Unbonds g.D.Unbonder.Held g.H.StakingHooks.Held = record { stake = g.D.Unbonder.stake; unbond = g.D.Unbonder.unbonds g.H.StakingHooks.Held told } in
    let following : Following g.U.UnbondingSlash.Held = record { follow = g.U.UnbondingSlash.follows } in
    let h0 = c.loop-key.invariant in
    let r = c.args.self.now.lists in
    let keys = c.deref-key-items.result.now in
    let v0 = seen holdings c.args.g.now in
    let v1 = seen holdings c.loop-key.g in
    let v2 = seen holdings c.slash_at.new.g in
    let d0 = held c.args.delegations.now in
    let u0 = g.U.UnbondingSlash.held c.args.unbondings.now in
    let d1 = held c.loop-key.delegations in
    let u1 = g.U.UnbondingSlash.held c.loop-key.unbondings in
    let d2 = held c.slash_at.new.delegations in
    let u2 = g.U.UnbondingSlash.held c.slash_at.new.unbondings in
    let key = c.key-item.result in
    let rest = drop c.loop-key.key-index keys in
    let later = drop (c.loop-key.key-index + 1) keys in
    let whole = keys_slashed lent following c.args.infraction c.args.factor keys r in
    let left = keys_slashed lent following c.args.infraction c.args.factor rest r in
    let next = keys_slashed lent following c.args.infraction c.args.factor later r in
    let one = targets_slashed lent following key.0 key.2 c.args.infraction c.args.factor (list_at triple_cmp r key) in
    let is = keys-next lent following c.args.infraction c.args.factor r rest key later (next_of keys c.loop-key.key-index key c.loop-key-test.true c.key-item.is) in
    record {
      told = λ h o log. reached-next (whole u0 (behind_log log d0 h v0)) left u1 d1 (holds c.loop-key.hooks) v1 (h0.told h o log) one next is u2 d2 (holds c.slash_at.new.hooks) v2 c.in_ok-slash_at.ensures.told;
      scene = c.in_ok-slash_at.ensures.scene;
      slashed = both-then v0 v1 v2 (g.D.Unbonder.stake d0) (g.D.Unbonder.stake d1) (g.D.Unbonder.stake d2) (g.U.UnbondingSlash.owed u0) (g.U.UnbondingSlash.owed u1) (g.U.UnbondingSlash.owed u2) h0.goes_on.undone.ctx h0.slashed c.in_ok-slash_at.ensures.slashed;
      goes_on = both_go-then g.B.Bank.marks g.B.Bank.most_steps g.H.StakingHooks.marks g.D.Unbonder.marks g.U.UnbondingSlash.marks c.args.g.now c.loop-key.g c.slash_at.new.g c.args.hooks.now c.loop-key.hooks c.slash_at.new.hooks
          c.args.delegations.now c.loop-key.delegations c.slash_at.new.delegations c.args.unbondings.now c.loop-key.unbondings c.slash_at.new.unbondings h0.goes_on c.slash_at.ensures.goes_on;
    }

pub returns-clause-told : goal.returns-clause-told
returns-clause-told g c = λ h o log.
    let holdings = g.B.Bank.holdings in
    let told = g.H.StakingHooks.tells.told in
    let holds = g.H.StakingHooks.holds in
    let held = g.D.Unbonder.held in
    let lent : Unbonds g.D.Unbonder.Held g.H.StakingHooks.Held = record { stake = g.D.Unbonder.stake; unbond = g.D.Unbonder.unbonds g.H.StakingHooks.Held told } in
    let following : Following g.U.UnbondingSlash.Held = record { follow = g.U.UnbondingSlash.follows } in
    let r = c.args.self.now.lists in
    let keys = c.deref-key-items.result.now in
    let rest = drop c.loop-key.key-index keys in
    let operator = c.args.operator.now in
    let v0 = seen holdings c.args.g.now in
    let v1 = seen holdings c.loop-key.g in
    let d1 = held c.loop-key.delegations in
    let u1 = g.U.UnbondingSlash.held c.loop-key.unbondings in
    let u0 = g.U.UnbondingSlash.held c.args.unbondings.now in
    let w = behind_log log (held c.args.delegations.now) h v0 in
    let slashed = λ (ks : List Key). keys_slashed lent following c.args.infraction c.args.factor ks r in
    let keyed : LeavesBoth (slashed keys u0 w) u1 d1 (holds c.loop-key.hooks) v1 (Ok tt) = reached-last (slashed keys u0 w) (slashed rest) u1 d1 (holds c.loop-key.hooks) v1 (c.loop-key.invariant.told h o log)
    (keys-end lent following c.args.infraction c.args.factor r rest (drop_end keys c.loop-key.key-index c.loop-key-test.false)) in
    let is : slashed keys u0 w ≡ sources_slashed lent following operator c.args.infraction c.args.factor r u0 w = ap (λ ks. slashed ks u0 w) (c.deref-key-items.ensures.value ∙ c.in_ok-keys.ensures.keys ∙ ap (λ (k : Kept Key RedelegationEntry). keys_where (is_from (λ (x : Key). x.1) operator) k.lists) c.self.view_is)
    ∙ sym (sources-keyed lent following c.args.infraction c.args.factor operator r (subst (λ (k : Kept Key RedelegationEntry). IsStrictlySortedBy triple_cmp (keys_of k.lists)) c.self.view_is c.known.ensures.ordered) u0 w) in
    let all = counted (all_counted (λ (k : Key). k.1) redelegation_made operator c.args.infraction c.args.factor v0.ctx.time r) in
    subst (λ n. FollowsLent (redelegations_slashed lent following operator c.args.infraction c.args.factor r u0 w) r u1 d1 (holds c.loop-key.hooks) v1 (Ok n)) (ap (λ (k : Kept Key RedelegationEntry). counted (all_counted (λ (x : Key). x.1) redelegation_made operator c.args.infraction c.args.factor v0.ctx.time k.lists)) (sym c.self.view_is) ∙ sym c.counted-counted.ensures.value)
    (follows-counted (sources_slashed lent following operator c.args.infraction c.args.factor r u0 w) all r u1 d1 (holds c.loop-key.hooks) v1 (subst (λ x. LeavesBoth x u1 d1 (holds c.loop-key.hooks) v1 (Ok tt)) is keyed))

pub returns-clause-most : goal.returns-clause-most
returns-clause-most g c = c.counted-counted.ensures.most

pub returns-clause-falls : goal.returns-clause-falls
returns-clause-falls g c = c.loop-key.invariant.slashed.falls

pub returns-clause-still : goal.returns-clause-still
returns-clause-still g c = c.loop-key.invariant.slashed.still

pub returns-clause-sound : goal.returns-clause-sound
returns-clause-sound g c = c.requires.sound

pub returns-clause-delegations : goal.returns-clause-delegations
returns-clause-delegations g c = c.loop-key.invariant.scene.sound

pub returns-clause-unbondings : goal.returns-clause-unbondings
returns-clause-unbondings g c = c.loop-key.invariant.scene.entries

pub returns-clause-stand : goal.returns-clause-stand
returns-clause-stand g c = c.loop-key.invariant.scene.stand

pub returns-in_err-slash_at-clause-told : goal.returns-in_err-slash_at-clause-told
returns-in_err-slash_at-clause-told g c = λ h o log.
    let holdings = g.B.Bank.holdings in
    let told = g.H.StakingHooks.tells.told in
    let holds = g.H.StakingHooks.holds in
    let held = g.D.Unbonder.held in
    let lent : Unbonds g.D.Unbonder.Held g.H.StakingHooks.Held = record { stake = g.D.Unbonder.stake; unbond = g.D.Unbonder.unbonds g.H.StakingHooks.Held told } in
    let following : Following g.U.UnbondingSlash.Held = record { follow = g.U.UnbondingSlash.follows } in
    let h0 = c.loop-key.invariant in
    let r = c.args.self.now.lists in
    let keys = c.deref-key-items.result.now in
    let v0 = seen holdings c.args.g.now in
    let v1 = seen holdings c.loop-key.g in
    let v2 = seen holdings c.slash_at.new.g in
    let d0 = held c.args.delegations.now in
    let u0 = g.U.UnbondingSlash.held c.args.unbondings.now in
    let d1 = held c.loop-key.delegations in
    let u1 = g.U.UnbondingSlash.held c.loop-key.unbondings in
    let d2 = held c.slash_at.new.delegations in
    let u2 = g.U.UnbondingSlash.held c.slash_at.new.unbondings in
    let key = c.key-item.result in
    let rest = drop c.loop-key.key-index keys in
    let later = drop (c.loop-key.key-index + 1) keys in
    let whole = keys_slashed lent following c.args.infraction c.args.factor keys r in
    let left = keys_slashed lent following c.args.infraction c.args.factor rest r in
    let next = keys_slashed lent following c.args.infraction c.args.factor later r in
    let one = targets_slashed lent following key.0 key.2 c.args.infraction c.args.factor (list_at triple_cmp r key) in
    let is = keys-next lent following c.args.infraction c.args.factor r rest key later (next_of keys c.loop-key.key-index key c.loop-key-test.true c.key-item.is) in
    let operator = c.args.operator.now in
    let w = behind_log log d0 h v0 in
    let fault = c.in_err-slash_at.field-0.0 in
    let given : c.from_residual-in_err-slash_at.result ≡ Err fault = search rules in
    let is_all : whole u0 w ≡ sources_slashed lent following operator c.args.infraction c.args.factor r u0 w = ap (λ ks. keys_slashed lent following c.args.infraction c.args.factor ks r u0 w) (c.deref-key-items.ensures.value ∙ c.in_ok-keys.ensures.keys ∙ ap (λ (k : Kept Key RedelegationEntry). keys_where (is_from (λ (x : Key). x.1) operator) k.lists) c.self.view_is)
    ∙ sym (sources-keyed lent following c.args.infraction c.args.factor operator r (subst (λ (k : Kept Key RedelegationEntry). IsStrictlySortedBy triple_cmp (keys_of k.lists)) c.self.view_is c.known.ensures.ordered) u0 w) in
    let stopped = reached-err (whole u0 w) left u1 d1 (holds c.loop-key.hooks) v1 (h0.told h o log) one next is u2 d2 (holds c.slash_at.new.hooks) v2 fault c.in_err-slash_at.ensures.told in
    subst (FollowsLent (redelegations_slashed lent following operator c.args.infraction c.args.factor r u0 w) r u2 d2 (holds c.slash_at.new.hooks) v2) (sym given)
    (follows-fault (sources_slashed lent following operator c.args.infraction c.args.factor r u0 w) _ r r u2 d2 (holds c.slash_at.new.hooks) v2 fault (subst (λ x. LeavesBoth x u2 d2 (holds c.slash_at.new.hooks) v2 (Err fault)) is_all stopped))
