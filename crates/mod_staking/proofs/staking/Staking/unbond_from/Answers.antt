use Rattle.std.proofs.Common.{◌≡◌, ◌∙◌, ◌-◌, ◌==◌, ◌<◌, ◌≤◌, true, false, None, Some, ap, sym, subst, refl, arith}
use Rattle.base_shares.specs.Shares.{amount_out}
use Rattle.base_roles.specs.{Ground.seen, Hooks.{Stand, Ready, with_started}}
use Rattle.base_roles.specs.Staked.{lists_of, validator_at, put_validator}
use Rattle.base_roles.specs.declared.calls.Hook.TheVariants.{Modifying as modifying, Modified as modified}
use Rattle.base_roles.proofs.HookLemmas.{told-of_ok, picked}
use Rattle.rule_modules.specs.Unbonding.{falls_below_minimum, left_standing}
use Rattle.rule_modules.proofs.SoundLemmas.{IsSoundAt, to_points, from_points, found_itself}
use Rattle.mod_staking.{specs.Calls.{behind_log, jailed_if, jail_noted}, proofs.GroundLemmas.keeps_then}
use Rattle.mod_staking.proofs.DelegateLemmas.{ready-before}
use Rattle.mod_staking.proofs.UnbondLemmas.{Going, now_of, less_of, told-left_err, leaves_picked, left_is, then_log, told-removed_err, told-removed_ok}
use Rattle.mod_staking.proofs.LeftLemmas.{some_held, held_few, stand_modifying, keeps_modifying, owes_modifying, ready_left, is_left, state_left, stands_left, sound_less, lists_less}
use Rattle.mod_staking.proofs.UnbondedLemmas.{is_gone, state_gone, mine_gone, is_unbonded_so}
use Rattle.mod_staking.proofs.staking.Staking.unbond_from.Goals as goal

pub before_shares_modified-requires : goal.before_shares_modified-requires
before_shares_modified-requires g c =
    let s = c.args.self.now.staked in
    let height = c.requires.hooked.sound.0 in
    let h = to_points height s c.requires.hooked.sound.1 in
    let v = c.args.v.now in
    let delegator = c.args.delegator.now in
    let t = g.H.StakingHooks.tells in
    let hs = c.requires.hooked.stand.0 in
    let u = seen g.B.Bank.holdings c.args.g.now in
    (hs, (c.requires.hooked.stand.1.0, (lists_of s, ready-before height s h v c.requires.stands delegator t hs u (Some c.args.held) c.requires.holds c.requires.hooked.stand.1.1)))

pub jail_if_low-requires-clause-tokens : goal.jail_if_low-requires-clause-tokens
jail_if_low-requires-clause-tokens g c =
    let height = c.requires.hooked.sound.0 in
    let h = to_points height c.args.self.now.staked c.requires.hooked.sound.1 in
    (h.validators c.args.v.now.operator c.args.v.now c.requires.stands).tokens

pub jail_if_low-requires-clause-some : goal.jail_if_low-requires-clause-some
jail_if_low-requires-clause-some g c =
    let height = c.requires.hooked.sound.0 in
    let s = c.args.self.now.staked in
    let h = to_points height s c.requires.hooked.sound.1 in
    let some = some_held height s h c.args.v.now c.requires.stands c.args.delegator.now c.args.held c.args.part c.requires.holds c.requires.part true in
    let few = held_few height s h c.args.v.now c.requires.stands c.args.delegator.now c.args.held c.args.part c.requires.holds c.requires.part true in
    let most = c.requires.part in
    omega (arith, some, few)

pub jail_if_low-requires-clause-left : goal.jail_if_low-requires-clause-left
jail_if_low-requires-clause-left g c =
    let height = c.requires.hooked.sound.0 in
    let s = c.args.self.now.staked in
    let h = to_points height s c.requires.hooked.sound.1 in
    let some = some_held height s h c.args.v.now c.requires.stands c.args.delegator.now c.args.held c.args.part c.requires.holds c.requires.part true in
    let few = held_few height s h c.args.v.now c.requires.stands c.args.delegator.now c.args.held c.args.part c.requires.holds c.requires.part true in
    let most = c.requires.part in
    let left = c.sub-left.ensures in
    omega (arith, few, most, left)

pub leave_standing-requires : goal.leave_standing-requires
leave_standing-requires g c =
    let s = c.args.self.now.staked in
    let height = c.requires.hooked.sound.0 in
    let h = to_points height s c.requires.hooked.sound.1 in
    let v = c.args.v.now in
    let delegator = c.args.delegator.now in
    let t = g.H.StakingHooks.tells in
    let hs = c.requires.hooked.stand.0 in
    let u = seen g.B.Bank.holdings c.args.g.now in
    let b = falls_below_minimum v delegator (c.args.held - c.args.part) in
    let lawful = g.met.H.StakingHooks.lawful in
    let u1 = seen g.B.Bank.holdings c.before_shares_modified.new.g in
    let first = picked (t.told hs (modifying v delegator c.args.held) u) (g.H.StakingHooks.holds c.before_shares_modified.new.self) u1 (c.in_ok-before_shares_modified.ensures.told hs c.requires.hooked.stand.1.0) in
    let h1 = first.0 in
    let told = first.1.1 in
    let left : c.sub-left.result ≡ c.args.held - c.args.part = c.sub-left.ensures in
    let now : c.in_ok-now.now ≡ now_of v b = c.in_ok-now.ensures.now ∙ ap (λ n. now_of v (falls_below_minimum v delegator n)) left in
    let staked1 : c.jail_if_low.new.self.staked ≡ jailed_if b v s = ap (λ r. r.staked) c.in_ok-now.ensures.staked ∙ ap (λ n. jailed_if (falls_below_minimum v delegator n) v s) left in
    let view1 : seen g.B.Bank.holdings c.jail_if_low.new.g ≡ jail_noted b v u1 = c.in_ok-now.ensures.ground ∙ ap (λ n. jail_noted (falls_below_minimum v delegator n) v u1) left in
    let a : Going = record { now = c.in_ok-now.now; left = c.sub-left.result; staked = c.jail_if_low.new.self.staked; view = seen g.B.Bank.holdings c.jail_if_low.new.g } in
    let going_is : a ≡ record { now = now_of v b; left = c.args.held - c.args.part; staked = jailed_if b v s; view = jail_noted b v u1 } = λ i. record { now = now i; left = left i; staked = staked1 i; view = view1 i } in
    record {
      ready = λ some. (
        h1,
        (
          first.1.0,
          (
            with_started delegator v.operator false (lists_of s),
            subst (λ (x : Going). Ready t h1 x.view (modified x.now delegator x.left) (with_started delegator v.operator false (lists_of s))) (sym going_is)
                (ready_left height s h v c.requires.stands delegator c.args.held c.args.part c.requires.holds c.requires.part b t lawful hs h1 u u1 c.requires.hooked.stand.1.1 told (subst (λ n. 0 < n) left some)),
          ),
        ),
      );
    }

pub returns-in-Err-clause-told : goal.returns-in-Err-clause-told
returns-in-Err-clause-told g c = λ hs o.
    let s = c.args.self.now.staked in
    let height = c.requires.hooked.sound.0 in
    let h = to_points height s c.requires.hooked.sound.1 in
    let v = c.args.v.now in
    let delegator = c.args.delegator.now in
    let t = g.H.StakingHooks.tells in
    let u = seen g.B.Bank.holdings c.args.g.now in
    let b = falls_below_minimum v delegator (c.args.held - c.args.part) in
    let lawful = g.met.H.StakingHooks.lawful in
    let u1 = seen g.B.Bank.holdings c.before_shares_modified.new.g in
    let first = picked (t.told hs (modifying v delegator c.args.held) u) (g.H.StakingHooks.holds c.before_shares_modified.new.self) u1 (c.in_ok-before_shares_modified.ensures.told hs o) in
    let h1 = first.0 in
    let told = first.1.1 in
    let left : c.sub-left.result ≡ c.args.held - c.args.part = c.sub-left.ensures in
    let now : c.in_ok-now.now ≡ now_of v b = c.in_ok-now.ensures.now ∙ ap (λ n. now_of v (falls_below_minimum v delegator n)) left in
    let staked1 : c.jail_if_low.new.self.staked ≡ jailed_if b v s = ap (λ r. r.staked) c.in_ok-now.ensures.staked ∙ ap (λ n. jailed_if (falls_below_minimum v delegator n) v s) left in
    let view1 : seen g.B.Bank.holdings c.jail_if_low.new.g ≡ jail_noted b v u1 = c.in_ok-now.ensures.ground ∙ ap (λ n. jail_noted (falls_below_minimum v delegator n) v u1) left in
    let a : Going = record { now = c.in_ok-now.now; left = c.sub-left.result; staked = c.jail_if_low.new.self.staked; view = seen g.B.Bank.holdings c.jail_if_low.new.g } in
    let going_is : a ≡ record { now = now_of v b; left = c.args.held - c.args.part; staked = jailed_if b v s; view = jail_noted b v u1 } = λ i. record { now = now i; left = left i; staked = staked1 i; view = view1 i } in
    let given = told-of_ok (t.told hs (modifying v delegator c.args.held) u) h1 u1 told in
    let s2 = c.leave_standing.new.self.staked in
    let h2 = g.H.StakingHooks.holds c.leave_standing.new.hooks in
    let u2 = seen g.B.Bank.holdings c.leave_standing.new.g in
    told-left_err t.told v delegator c.args.held c.args.part s hs u h1 u1 given.0 given.1 a going_is s2 h2 u2 c.in-Err.fault (c.in-Err.ensures.told h1 first.1.0 given.0)

pub remove-tokens-requires-clause-tokens : goal.remove-tokens-requires-clause-tokens
remove-tokens-requires-clause-tokens g c =
    let height = c.requires.hooked.sound.0 in
    let h = to_points height c.args.self.now.staked c.requires.hooked.sound.1 in
    (h.validators c.args.v.now.operator c.args.v.now c.requires.stands).tokens

pub remove-tokens-requires-clause-some : goal.remove-tokens-requires-clause-some
remove-tokens-requires-clause-some g c =
    let height = c.requires.hooked.sound.0 in
    let s = c.args.self.now.staked in
    let h = to_points height s c.requires.hooked.sound.1 in
    let some = some_held height s h c.args.v.now c.requires.stands c.args.delegator.now c.args.held c.args.part c.requires.holds c.requires.part true in
    let few = held_few height s h c.args.v.now c.requires.stands c.args.delegator.now c.args.held c.args.part c.requires.holds c.requires.part true in
    let most = c.requires.part in
    omega (arith, some, few)

pub remove-tokens-requires-clause-part : goal.remove-tokens-requires-clause-part
remove-tokens-requires-clause-part g c =
    let height = c.requires.hooked.sound.0 in
    let s = c.args.self.now.staked in
    let h = to_points height s c.requires.hooked.sound.1 in
    let some = some_held height s h c.args.v.now c.requires.stands c.args.delegator.now c.args.held c.args.part c.requires.holds c.requires.part true in
    let few = held_few height s h c.args.v.now c.requires.stands c.args.delegator.now c.args.held c.args.part c.requires.holds c.requires.part true in
    let most = c.requires.part in
    omega (arith, few, most)

pub put-requires : goal.put-requires
put-requires g c =
    let s = c.args.self.now.staked in
    let height = c.requires.hooked.sound.0 in
    let h = to_points height s c.requires.hooked.sound.1 in
    let v = c.args.v.now in
    let delegator = c.args.delegator.now in
    let t = g.H.StakingHooks.tells in
    let hs = c.requires.hooked.stand.0 in
    let u = seen g.B.Bank.holdings c.args.g.now in
    let b = falls_below_minimum v delegator (c.args.held - c.args.part) in
    let lawful = g.met.H.StakingHooks.lawful in
    let u1 = seen g.B.Bank.holdings c.before_shares_modified.new.g in
    let first = picked (t.told hs (modifying v delegator c.args.held) u) (g.H.StakingHooks.holds c.before_shares_modified.new.self) u1 (c.in_ok-before_shares_modified.ensures.told hs c.requires.hooked.stand.1.0) in
    let h1 = first.0 in
    let told = first.1.1 in
    let left : c.sub-left.result ≡ c.args.held - c.args.part = c.sub-left.ensures in
    let now : c.in_ok-now.now ≡ now_of v b = c.in_ok-now.ensures.now ∙ ap (λ n. now_of v (falls_below_minimum v delegator n)) left in
    let staked1 : c.jail_if_low.new.self.staked ≡ jailed_if b v s = ap (λ r. r.staked) c.in_ok-now.ensures.staked ∙ ap (λ n. jailed_if (falls_below_minimum v delegator n) v s) left in
    let view1 : seen g.B.Bank.holdings c.jail_if_low.new.g ≡ jail_noted b v u1 = c.in_ok-now.ensures.ground ∙ ap (λ n. jail_noted (falls_below_minimum v delegator n) v u1) left in
    let a : Going = record { now = c.in_ok-now.now; left = c.sub-left.result; staked = c.jail_if_low.new.self.staked; view = seen g.B.Bank.holdings c.jail_if_low.new.g } in
    let going_is : a ≡ record { now = now_of v b; left = c.args.held - c.args.part; staked = jailed_if b v s; view = jail_noted b v u1 } = λ i. record { now = now i; left = left i; staked = staked1 i; view = view1 i } in
    let given = told-of_ok (t.told hs (modifying v delegator c.args.held) u) h1 u1 told in
    let s2 = c.leave_standing.new.self.staked in
    let u2 = seen g.B.Bank.holdings c.leave_standing.new.g in
    let second = leaves_picked (left_standing t.told c.in_ok-now.now delegator c.sub-left.result (behind_log given.0 c.jail_if_low.new.self.staked h1 (seen g.B.Bank.holdings c.jail_if_low.new.g))) s2 (g.H.StakingHooks.holds c.leave_standing.new.hooks) u2 (c.in-Ok.ensures.told h1 first.1.0 given.0) in
    let h2 = second.0 in
    let leaves = second.1.1 in
    let eq = left_is t.told v delegator c.args.held c.args.part s hs u h1 u1 given.0 given.1 a going_is s2 h2 u2 leaves in
    let stand_mod = stand_modifying height s h v c.requires.stands delegator c.args.held c.args.part c.requires.holds c.requires.part b t lawful hs h1 u u1 c.requires.hooked.stand.1.1 told in
    let ready_mod = ready_left height s h v c.requires.stands delegator c.args.held c.args.part c.requires.holds c.requires.part b t lawful hs h1 u u1 c.requires.hooked.stand.1.1 told in
    let here = is_left t lawful (now_of v b) delegator (c.args.held - c.args.part) given.0 (jailed_if b v s) h1 (jail_noted b v u1) (lists_of s) ready_mod stand_mod eq.0 s2 h2 u2 eq.1 in
    let own : c.in_ok-now.now.operator ≡ v.operator = ap (λ x. x.operator) now in
    record {
      stands = record {
        old = now_of v b;
        found = (λ i. validator_at (here.mine i) (own i)) ∙ stands_left height s h v c.requires.stands delegator c.args.held c.args.part c.requires.holds c.requires.part b;
        cons = sym (ap (λ x. x.cons) now);
      };
    }

pub remove_if_empty-requires-clause-stands : goal.remove_if_empty-requires-clause-stands
remove_if_empty-requires-clause-stands g c =
    let s = c.args.self.now.staked in
    let height = c.requires.hooked.sound.0 in
    let h = to_points height s c.requires.hooked.sound.1 in
    let v = c.args.v.now in
    let delegator = c.args.delegator.now in
    let t = g.H.StakingHooks.tells in
    let hs = c.requires.hooked.stand.0 in
    let u = seen g.B.Bank.holdings c.args.g.now in
    let b = falls_below_minimum v delegator (c.args.held - c.args.part) in
    let lawful = g.met.H.StakingHooks.lawful in
    let u1 = seen g.B.Bank.holdings c.before_shares_modified.new.g in
    let first = picked (t.told hs (modifying v delegator c.args.held) u) (g.H.StakingHooks.holds c.before_shares_modified.new.self) u1 (c.in_ok-before_shares_modified.ensures.told hs c.requires.hooked.stand.1.0) in
    let h1 = first.0 in
    let told = first.1.1 in
    let left : c.sub-left.result ≡ c.args.held - c.args.part = c.sub-left.ensures in
    let now : c.in_ok-now.now ≡ now_of v b = c.in_ok-now.ensures.now ∙ ap (λ n. now_of v (falls_below_minimum v delegator n)) left in
    let staked1 : c.jail_if_low.new.self.staked ≡ jailed_if b v s = ap (λ r. r.staked) c.in_ok-now.ensures.staked ∙ ap (λ n. jailed_if (falls_below_minimum v delegator n) v s) left in
    let view1 : seen g.B.Bank.holdings c.jail_if_low.new.g ≡ jail_noted b v u1 = c.in_ok-now.ensures.ground ∙ ap (λ n. jail_noted (falls_below_minimum v delegator n) v u1) left in
    let a : Going = record { now = c.in_ok-now.now; left = c.sub-left.result; staked = c.jail_if_low.new.self.staked; view = seen g.B.Bank.holdings c.jail_if_low.new.g } in
    let going_is : a ≡ record { now = now_of v b; left = c.args.held - c.args.part; staked = jailed_if b v s; view = jail_noted b v u1 } = λ i. record { now = now i; left = left i; staked = staked1 i; view = view1 i } in
    let given = told-of_ok (t.told hs (modifying v delegator c.args.held) u) h1 u1 told in
    let s2 = c.leave_standing.new.self.staked in
    let u2 = seen g.B.Bank.holdings c.leave_standing.new.g in
    let second = leaves_picked (left_standing t.told c.in_ok-now.now delegator c.sub-left.result (behind_log given.0 c.jail_if_low.new.self.staked h1 (seen g.B.Bank.holdings c.jail_if_low.new.g))) s2 (g.H.StakingHooks.holds c.leave_standing.new.hooks) u2 (c.in-Ok.ensures.told h1 first.1.0 given.0) in
    let h2 = second.0 in
    let leaves = second.1.1 in
    let eq = left_is t.told v delegator c.args.held c.args.part s hs u h1 u1 given.0 given.1 a going_is s2 h2 u2 leaves in
    let stand_mod = stand_modifying height s h v c.requires.stands delegator c.args.held c.args.part c.requires.holds c.requires.part b t lawful hs h1 u u1 c.requires.hooked.stand.1.1 told in
    let ready_mod = ready_left height s h v c.requires.stands delegator c.args.held c.args.part c.requires.holds c.requires.part b t lawful hs h1 u u1 c.requires.hooked.stand.1.1 told in
    let here = is_left t lawful (now_of v b) delegator (c.args.held - c.args.part) given.0 (jailed_if b v s) h1 (jail_noted b v u1) (lists_of s) ready_mod stand_mod eq.0 s2 h2 u2 eq.1 in
    let tok : c.remove-tokens.result.0 ≡ v.tokens - amount_out v.tokens v.shares c.args.part = ap (λ p. p.0) c.remove-tokens.ensures.value in
    let sh : c.remove-tokens.result.1 ≡ v.shares - c.args.part = ap (λ p. p.1) c.remove-tokens.ensures.value in
    let out : c.remove-tokens.result.2 ≡ amount_out v.tokens v.shares c.args.part = ap (λ p. p.2) c.remove-tokens.ensures.value in
    let less = record c.in_ok-now.now { tokens = c.remove-tokens.result.0; shares = c.remove-tokens.result.1 } in
    let less_is : less ≡ less_of v b c.args.part = λ i. record (now i) { tokens = tok i; shares = sh i } in
    let s3 = c.put.new.self.staked in
    let s3_is : s3 ≡ put_validator less s2 = ap (λ r. r.staked) c.in_ok-put.ensures.ok in
    let s3_at : s3 ≡ put_validator (less_of v b c.args.part) (state_left height s h v c.requires.stands delegator c.args.held c.args.part c.requires.holds c.requires.part b)
    = s3_is ∙ (λ i. put_validator (less_is i) (here.mine i)) in
    ap (λ x. validator_at x c.in_ok-now.now.operator) s3_is ∙ found_itself s2 less

pub remove_if_empty-requires-clause-hooked : goal.remove_if_empty-requires-clause-hooked
remove_if_empty-requires-clause-hooked g c =
    let s = c.args.self.now.staked in
    let height = c.requires.hooked.sound.0 in
    let h = to_points height s c.requires.hooked.sound.1 in
    let v = c.args.v.now in
    let delegator = c.args.delegator.now in
    let t = g.H.StakingHooks.tells in
    let hs = c.requires.hooked.stand.0 in
    let u = seen g.B.Bank.holdings c.args.g.now in
    let b = falls_below_minimum v delegator (c.args.held - c.args.part) in
    let lawful = g.met.H.StakingHooks.lawful in
    let u1 = seen g.B.Bank.holdings c.before_shares_modified.new.g in
    let first = picked (t.told hs (modifying v delegator c.args.held) u) (g.H.StakingHooks.holds c.before_shares_modified.new.self) u1 (c.in_ok-before_shares_modified.ensures.told hs c.requires.hooked.stand.1.0) in
    let h1 = first.0 in
    let told = first.1.1 in
    let left : c.sub-left.result ≡ c.args.held - c.args.part = c.sub-left.ensures in
    let now : c.in_ok-now.now ≡ now_of v b = c.in_ok-now.ensures.now ∙ ap (λ n. now_of v (falls_below_minimum v delegator n)) left in
    let staked1 : c.jail_if_low.new.self.staked ≡ jailed_if b v s = ap (λ r. r.staked) c.in_ok-now.ensures.staked ∙ ap (λ n. jailed_if (falls_below_minimum v delegator n) v s) left in
    let view1 : seen g.B.Bank.holdings c.jail_if_low.new.g ≡ jail_noted b v u1 = c.in_ok-now.ensures.ground ∙ ap (λ n. jail_noted (falls_below_minimum v delegator n) v u1) left in
    let a : Going = record { now = c.in_ok-now.now; left = c.sub-left.result; staked = c.jail_if_low.new.self.staked; view = seen g.B.Bank.holdings c.jail_if_low.new.g } in
    let going_is : a ≡ record { now = now_of v b; left = c.args.held - c.args.part; staked = jailed_if b v s; view = jail_noted b v u1 } = λ i. record { now = now i; left = left i; staked = staked1 i; view = view1 i } in
    let given = told-of_ok (t.told hs (modifying v delegator c.args.held) u) h1 u1 told in
    let s2 = c.leave_standing.new.self.staked in
    let u2 = seen g.B.Bank.holdings c.leave_standing.new.g in
    let second = leaves_picked (left_standing t.told c.in_ok-now.now delegator c.sub-left.result (behind_log given.0 c.jail_if_low.new.self.staked h1 (seen g.B.Bank.holdings c.jail_if_low.new.g))) s2 (g.H.StakingHooks.holds c.leave_standing.new.hooks) u2 (c.in-Ok.ensures.told h1 first.1.0 given.0) in
    let h2 = second.0 in
    let leaves = second.1.1 in
    let eq = left_is t.told v delegator c.args.held c.args.part s hs u h1 u1 given.0 given.1 a going_is s2 h2 u2 leaves in
    let stand_mod = stand_modifying height s h v c.requires.stands delegator c.args.held c.args.part c.requires.holds c.requires.part b t lawful hs h1 u u1 c.requires.hooked.stand.1.1 told in
    let ready_mod = ready_left height s h v c.requires.stands delegator c.args.held c.args.part c.requires.holds c.requires.part b t lawful hs h1 u u1 c.requires.hooked.stand.1.1 told in
    let here = is_left t lawful (now_of v b) delegator (c.args.held - c.args.part) given.0 (jailed_if b v s) h1 (jail_noted b v u1) (lists_of s) ready_mod stand_mod eq.0 s2 h2 u2 eq.1 in
    let tok : c.remove-tokens.result.0 ≡ v.tokens - amount_out v.tokens v.shares c.args.part = ap (λ p. p.0) c.remove-tokens.ensures.value in
    let sh : c.remove-tokens.result.1 ≡ v.shares - c.args.part = ap (λ p. p.1) c.remove-tokens.ensures.value in
    let out : c.remove-tokens.result.2 ≡ amount_out v.tokens v.shares c.args.part = ap (λ p. p.2) c.remove-tokens.ensures.value in
    let less = record c.in_ok-now.now { tokens = c.remove-tokens.result.0; shares = c.remove-tokens.result.1 } in
    let less_is : less ≡ less_of v b c.args.part = λ i. record (now i) { tokens = tok i; shares = sh i } in
    let s3 = c.put.new.self.staked in
    let s3_is : s3 ≡ put_validator less s2 = ap (λ r. r.staked) c.in_ok-put.ensures.ok in
    let s3_at : s3 ≡ put_validator (less_of v b c.args.part) (state_left height s h v c.requires.stands delegator c.args.held c.args.part c.requires.holds c.requires.part b)
    = s3_is ∙ (λ i. put_validator (less_is i) (here.mine i)) in
    record {
      sound = (height, from_points height s3 (subst (IsSoundAt height) (sym s3_at) (sound_less height s h v c.requires.stands delegator c.args.held c.args.part c.requires.holds c.requires.part b)));
      stand = (h2, (second.1.0, subst (Stand t h2 u2) (sym (ap lists_of s3_at ∙ lists_less height s h v c.requires.stands delegator c.args.held c.args.part c.requires.holds c.requires.part b ((c.args.held - c.args.part) == 0) refl)) here.stand));
    }

pub returns-in-Err-remove_if_empty-clause-told : goal.returns-in-Err-remove_if_empty-clause-told
returns-in-Err-remove_if_empty-clause-told g c = λ hs o.
    let s = c.args.self.now.staked in
    let height = c.requires.hooked.sound.0 in
    let h = to_points height s c.requires.hooked.sound.1 in
    let v = c.args.v.now in
    let delegator = c.args.delegator.now in
    let t = g.H.StakingHooks.tells in
    let u = seen g.B.Bank.holdings c.args.g.now in
    let b = falls_below_minimum v delegator (c.args.held - c.args.part) in
    let lawful = g.met.H.StakingHooks.lawful in
    let u1 = seen g.B.Bank.holdings c.before_shares_modified.new.g in
    let first = picked (t.told hs (modifying v delegator c.args.held) u) (g.H.StakingHooks.holds c.before_shares_modified.new.self) u1 (c.in_ok-before_shares_modified.ensures.told hs o) in
    let h1 = first.0 in
    let told = first.1.1 in
    let left : c.sub-left.result ≡ c.args.held - c.args.part = c.sub-left.ensures in
    let now : c.in_ok-now.now ≡ now_of v b = c.in_ok-now.ensures.now ∙ ap (λ n. now_of v (falls_below_minimum v delegator n)) left in
    let staked1 : c.jail_if_low.new.self.staked ≡ jailed_if b v s = ap (λ r. r.staked) c.in_ok-now.ensures.staked ∙ ap (λ n. jailed_if (falls_below_minimum v delegator n) v s) left in
    let view1 : seen g.B.Bank.holdings c.jail_if_low.new.g ≡ jail_noted b v u1 = c.in_ok-now.ensures.ground ∙ ap (λ n. jail_noted (falls_below_minimum v delegator n) v u1) left in
    let a : Going = record { now = c.in_ok-now.now; left = c.sub-left.result; staked = c.jail_if_low.new.self.staked; view = seen g.B.Bank.holdings c.jail_if_low.new.g } in
    let going_is : a ≡ record { now = now_of v b; left = c.args.held - c.args.part; staked = jailed_if b v s; view = jail_noted b v u1 } = λ i. record { now = now i; left = left i; staked = staked1 i; view = view1 i } in
    let given = told-of_ok (t.told hs (modifying v delegator c.args.held) u) h1 u1 told in
    let s2 = c.leave_standing.new.self.staked in
    let u2 = seen g.B.Bank.holdings c.leave_standing.new.g in
    let second = leaves_picked (left_standing t.told c.in_ok-now.now delegator c.sub-left.result (behind_log given.0 c.jail_if_low.new.self.staked h1 (seen g.B.Bank.holdings c.jail_if_low.new.g))) s2 (g.H.StakingHooks.holds c.leave_standing.new.hooks) u2 (c.in-Ok.ensures.told h1 first.1.0 given.0) in
    let h2 = second.0 in
    let leaves = second.1.1 in
    let tok : c.remove-tokens.result.0 ≡ v.tokens - amount_out v.tokens v.shares c.args.part = ap (λ p. p.0) c.remove-tokens.ensures.value in
    let sh : c.remove-tokens.result.1 ≡ v.shares - c.args.part = ap (λ p. p.1) c.remove-tokens.ensures.value in
    let out : c.remove-tokens.result.2 ≡ amount_out v.tokens v.shares c.args.part = ap (λ p. p.2) c.remove-tokens.ensures.value in
    let less = record c.in_ok-now.now { tokens = c.remove-tokens.result.0; shares = c.remove-tokens.result.1 } in
    let less_is : less ≡ less_of v b c.args.part = λ i. record (now i) { tokens = tok i; shares = sh i } in
    let s3 = c.put.new.self.staked in
    let s3_is : s3 ≡ put_validator less s2 = ap (λ r. r.staked) c.in_ok-put.ensures.ok in
    let s4 = c.remove_if_empty.new.self.staked in
    let h4 = g.H.StakingHooks.holds c.remove_if_empty.new.hooks in
    let u4 = seen g.B.Bank.holdings c.remove_if_empty.new.g in
    let k = then_log t.told v delegator c.args.held c.args.part s hs u h1 u1 given.0 given.1 a going_is s2 h2 u2 leaves in
    told-removed_err t.told v delegator c.args.held c.args.part s hs u h1 u1 given.0 given.1 a going_is s2 h2 u2 leaves less s3 less_is s3_is s4 h4 u4 c.in-Err-remove_if_empty.fault (c.in-Err-remove_if_empty.ensures.told h2 second.1.0 k)

pub returns-in-Ok-remove_if_empty-clause-told : goal.returns-in-Ok-remove_if_empty-clause-told
returns-in-Ok-remove_if_empty-clause-told g c = λ hs o.
    let s = c.args.self.now.staked in
    let height = c.requires.hooked.sound.0 in
    let h = to_points height s c.requires.hooked.sound.1 in
    let v = c.args.v.now in
    let delegator = c.args.delegator.now in
    let t = g.H.StakingHooks.tells in
    let u = seen g.B.Bank.holdings c.args.g.now in
    let b = falls_below_minimum v delegator (c.args.held - c.args.part) in
    let lawful = g.met.H.StakingHooks.lawful in
    let u1 = seen g.B.Bank.holdings c.before_shares_modified.new.g in
    let first = picked (t.told hs (modifying v delegator c.args.held) u) (g.H.StakingHooks.holds c.before_shares_modified.new.self) u1 (c.in_ok-before_shares_modified.ensures.told hs o) in
    let h1 = first.0 in
    let told = first.1.1 in
    let left : c.sub-left.result ≡ c.args.held - c.args.part = c.sub-left.ensures in
    let now : c.in_ok-now.now ≡ now_of v b = c.in_ok-now.ensures.now ∙ ap (λ n. now_of v (falls_below_minimum v delegator n)) left in
    let staked1 : c.jail_if_low.new.self.staked ≡ jailed_if b v s = ap (λ r. r.staked) c.in_ok-now.ensures.staked ∙ ap (λ n. jailed_if (falls_below_minimum v delegator n) v s) left in
    let view1 : seen g.B.Bank.holdings c.jail_if_low.new.g ≡ jail_noted b v u1 = c.in_ok-now.ensures.ground ∙ ap (λ n. jail_noted (falls_below_minimum v delegator n) v u1) left in
    let a : Going = record { now = c.in_ok-now.now; left = c.sub-left.result; staked = c.jail_if_low.new.self.staked; view = seen g.B.Bank.holdings c.jail_if_low.new.g } in
    let going_is : a ≡ record { now = now_of v b; left = c.args.held - c.args.part; staked = jailed_if b v s; view = jail_noted b v u1 } = λ i. record { now = now i; left = left i; staked = staked1 i; view = view1 i } in
    let given = told-of_ok (t.told hs (modifying v delegator c.args.held) u) h1 u1 told in
    let s2 = c.leave_standing.new.self.staked in
    let u2 = seen g.B.Bank.holdings c.leave_standing.new.g in
    let second = leaves_picked (left_standing t.told c.in_ok-now.now delegator c.sub-left.result (behind_log given.0 c.jail_if_low.new.self.staked h1 (seen g.B.Bank.holdings c.jail_if_low.new.g))) s2 (g.H.StakingHooks.holds c.leave_standing.new.hooks) u2 (c.in-Ok.ensures.told h1 first.1.0 given.0) in
    let h2 = second.0 in
    let leaves = second.1.1 in
    let tok : c.remove-tokens.result.0 ≡ v.tokens - amount_out v.tokens v.shares c.args.part = ap (λ p. p.0) c.remove-tokens.ensures.value in
    let sh : c.remove-tokens.result.1 ≡ v.shares - c.args.part = ap (λ p. p.1) c.remove-tokens.ensures.value in
    let out : c.remove-tokens.result.2 ≡ amount_out v.tokens v.shares c.args.part = ap (λ p. p.2) c.remove-tokens.ensures.value in
    let less = record c.in_ok-now.now { tokens = c.remove-tokens.result.0; shares = c.remove-tokens.result.1 } in
    let less_is : less ≡ less_of v b c.args.part = λ i. record (now i) { tokens = tok i; shares = sh i } in
    let s3 = c.put.new.self.staked in
    let s3_is : s3 ≡ put_validator less s2 = ap (λ r. r.staked) c.in_ok-put.ensures.ok in
    let s4 = c.remove_if_empty.new.self.staked in
    let h4 = g.H.StakingHooks.holds c.remove_if_empty.new.hooks in
    let u4 = seen g.B.Bank.holdings c.remove_if_empty.new.g in
    let k = then_log t.told v delegator c.args.held c.args.part s hs u h1 u1 given.0 given.1 a going_is s2 h2 u2 leaves in
    told-removed_ok t.told v delegator c.args.held c.args.part s hs u h1 u1 given.0 given.1 a going_is s2 h2 u2 leaves less s3 less_is s3_is s4 h4 u4 c.remove-tokens.result.2 out (c.in-Ok-remove_if_empty.ensures.told h2 second.1.0 k)

pub returns-in-Ok-remove_if_empty-clause-unbonded : goal.returns-in-Ok-remove_if_empty-clause-unbonded
returns-in-Ok-remove_if_empty-clause-unbonded g c =
    let s = c.args.self.now.staked in
    let height = c.requires.hooked.sound.0 in
    let h = to_points height s c.requires.hooked.sound.1 in
    let v = c.args.v.now in
    let delegator = c.args.delegator.now in
    let t = g.H.StakingHooks.tells in
    let hs = c.requires.hooked.stand.0 in
    let u = seen g.B.Bank.holdings c.args.g.now in
    let b = falls_below_minimum v delegator (c.args.held - c.args.part) in
    let lawful = g.met.H.StakingHooks.lawful in
    let u1 = seen g.B.Bank.holdings c.before_shares_modified.new.g in
    let first = picked (t.told hs (modifying v delegator c.args.held) u) (g.H.StakingHooks.holds c.before_shares_modified.new.self) u1 (c.in_ok-before_shares_modified.ensures.told hs c.requires.hooked.stand.1.0) in
    let h1 = first.0 in
    let told = first.1.1 in
    let left : c.sub-left.result ≡ c.args.held - c.args.part = c.sub-left.ensures in
    let now : c.in_ok-now.now ≡ now_of v b = c.in_ok-now.ensures.now ∙ ap (λ n. now_of v (falls_below_minimum v delegator n)) left in
    let staked1 : c.jail_if_low.new.self.staked ≡ jailed_if b v s = ap (λ r. r.staked) c.in_ok-now.ensures.staked ∙ ap (λ n. jailed_if (falls_below_minimum v delegator n) v s) left in
    let view1 : seen g.B.Bank.holdings c.jail_if_low.new.g ≡ jail_noted b v u1 = c.in_ok-now.ensures.ground ∙ ap (λ n. jail_noted (falls_below_minimum v delegator n) v u1) left in
    let a : Going = record { now = c.in_ok-now.now; left = c.sub-left.result; staked = c.jail_if_low.new.self.staked; view = seen g.B.Bank.holdings c.jail_if_low.new.g } in
    let going_is : a ≡ record { now = now_of v b; left = c.args.held - c.args.part; staked = jailed_if b v s; view = jail_noted b v u1 } = λ i. record { now = now i; left = left i; staked = staked1 i; view = view1 i } in
    let given = told-of_ok (t.told hs (modifying v delegator c.args.held) u) h1 u1 told in
    let s2 = c.leave_standing.new.self.staked in
    let u2 = seen g.B.Bank.holdings c.leave_standing.new.g in
    let second = leaves_picked (left_standing t.told c.in_ok-now.now delegator c.sub-left.result (behind_log given.0 c.jail_if_low.new.self.staked h1 (seen g.B.Bank.holdings c.jail_if_low.new.g))) s2 (g.H.StakingHooks.holds c.leave_standing.new.hooks) u2 (c.in-Ok.ensures.told h1 first.1.0 given.0) in
    let h2 = second.0 in
    let leaves = second.1.1 in
    let eq = left_is t.told v delegator c.args.held c.args.part s hs u h1 u1 given.0 given.1 a going_is s2 h2 u2 leaves in
    let stand_mod = stand_modifying height s h v c.requires.stands delegator c.args.held c.args.part c.requires.holds c.requires.part b t lawful hs h1 u u1 c.requires.hooked.stand.1.1 told in
    let ready_mod = ready_left height s h v c.requires.stands delegator c.args.held c.args.part c.requires.holds c.requires.part b t lawful hs h1 u u1 c.requires.hooked.stand.1.1 told in
    let here = is_left t lawful (now_of v b) delegator (c.args.held - c.args.part) given.0 (jailed_if b v s) h1 (jail_noted b v u1) (lists_of s) ready_mod stand_mod eq.0 s2 h2 u2 eq.1 in
    let tok : c.remove-tokens.result.0 ≡ v.tokens - amount_out v.tokens v.shares c.args.part = ap (λ p. p.0) c.remove-tokens.ensures.value in
    let sh : c.remove-tokens.result.1 ≡ v.shares - c.args.part = ap (λ p. p.1) c.remove-tokens.ensures.value in
    let out : c.remove-tokens.result.2 ≡ amount_out v.tokens v.shares c.args.part = ap (λ p. p.2) c.remove-tokens.ensures.value in
    let less = record c.in_ok-now.now { tokens = c.remove-tokens.result.0; shares = c.remove-tokens.result.1 } in
    let less_is : less ≡ less_of v b c.args.part = λ i. record (now i) { tokens = tok i; shares = sh i } in
    let s3 = c.put.new.self.staked in
    let s3_is : s3 ≡ put_validator less s2 = ap (λ r. r.staked) c.in_ok-put.ensures.ok in
    let s3_at : s3 ≡ put_validator (less_of v b c.args.part) (state_left height s h v c.requires.stands delegator c.args.held c.args.part c.requires.holds c.requires.part b)
    = s3_is ∙ (λ i. put_validator (less_is i) (here.mine i)) in
    let s4 = c.remove_if_empty.new.self.staked in
    let h4 = g.H.StakingHooks.holds c.remove_if_empty.new.hooks in
    let u4 = seen g.B.Bank.holdings c.remove_if_empty.new.g in
    let k = then_log t.told v delegator c.args.held c.args.part s hs u h1 u1 given.0 given.1 a going_is s2 h2 u2 leaves in
    let kept = c.remove-tokens.ensures.no_token_lost in
    let within : c.remove-tokens.result.2 ≤ v.tokens = omega (arith, kept) in
    let gone = mine_gone t.told less k s3 h2 u2 s4 h4 u4 (c.in-Ok-remove_if_empty.ensures.told h2 second.1.0 k) in
    is_unbonded_so height s h v c.requires.stands delegator c.args.held c.args.part c.requires.holds c.requires.part s4 c.remove-tokens.result.2
    (gone ∙ (λ i. state_gone (is_gone (less_is i)) (less_is i).operator (s3_at i))) out within

pub returns-in-Ok-remove_if_empty-clause-keeps : goal.returns-in-Ok-remove_if_empty-clause-keeps
returns-in-Ok-remove_if_empty-clause-keeps g c = λ hs o stand.
    let s = c.args.self.now.staked in
    let height = c.requires.hooked.sound.0 in
    let h = to_points height s c.requires.hooked.sound.1 in
    let v = c.args.v.now in
    let delegator = c.args.delegator.now in
    let t = g.H.StakingHooks.tells in
    let u = seen g.B.Bank.holdings c.args.g.now in
    let b = falls_below_minimum v delegator (c.args.held - c.args.part) in
    let lawful = g.met.H.StakingHooks.lawful in
    let u1 = seen g.B.Bank.holdings c.before_shares_modified.new.g in
    let first = picked (t.told hs (modifying v delegator c.args.held) u) (g.H.StakingHooks.holds c.before_shares_modified.new.self) u1 (c.in_ok-before_shares_modified.ensures.told hs o) in
    let h1 = first.0 in
    let told = first.1.1 in
    let left : c.sub-left.result ≡ c.args.held - c.args.part = c.sub-left.ensures in
    let now : c.in_ok-now.now ≡ now_of v b = c.in_ok-now.ensures.now ∙ ap (λ n. now_of v (falls_below_minimum v delegator n)) left in
    let staked1 : c.jail_if_low.new.self.staked ≡ jailed_if b v s = ap (λ r. r.staked) c.in_ok-now.ensures.staked ∙ ap (λ n. jailed_if (falls_below_minimum v delegator n) v s) left in
    let view1 : seen g.B.Bank.holdings c.jail_if_low.new.g ≡ jail_noted b v u1 = c.in_ok-now.ensures.ground ∙ ap (λ n. jail_noted (falls_below_minimum v delegator n) v u1) left in
    let a : Going = record { now = c.in_ok-now.now; left = c.sub-left.result; staked = c.jail_if_low.new.self.staked; view = seen g.B.Bank.holdings c.jail_if_low.new.g } in
    let going_is : a ≡ record { now = now_of v b; left = c.args.held - c.args.part; staked = jailed_if b v s; view = jail_noted b v u1 } = λ i. record { now = now i; left = left i; staked = staked1 i; view = view1 i } in
    let given = told-of_ok (t.told hs (modifying v delegator c.args.held) u) h1 u1 told in
    let s2 = c.leave_standing.new.self.staked in
    let u2 = seen g.B.Bank.holdings c.leave_standing.new.g in
    let second = leaves_picked (left_standing t.told c.in_ok-now.now delegator c.sub-left.result (behind_log given.0 c.jail_if_low.new.self.staked h1 (seen g.B.Bank.holdings c.jail_if_low.new.g))) s2 (g.H.StakingHooks.holds c.leave_standing.new.hooks) u2 (c.in-Ok.ensures.told h1 first.1.0 given.0) in
    let h2 = second.0 in
    let leaves = second.1.1 in
    let eq = left_is t.told v delegator c.args.held c.args.part s hs u h1 u1 given.0 given.1 a going_is s2 h2 u2 leaves in
    let stand_mod = stand_modifying height s h v c.requires.stands delegator c.args.held c.args.part c.requires.holds c.requires.part b t lawful hs h1 u u1 stand told in
    let ready_mod = ready_left height s h v c.requires.stands delegator c.args.held c.args.part c.requires.holds c.requires.part b t lawful hs h1 u u1 stand told in
    let here = is_left t lawful (now_of v b) delegator (c.args.held - c.args.part) given.0 (jailed_if b v s) h1 (jail_noted b v u1) (lists_of s) ready_mod stand_mod eq.0 s2 h2 u2 eq.1 in
    let tok : c.remove-tokens.result.0 ≡ v.tokens - amount_out v.tokens v.shares c.args.part = ap (λ p. p.0) c.remove-tokens.ensures.value in
    let sh : c.remove-tokens.result.1 ≡ v.shares - c.args.part = ap (λ p. p.1) c.remove-tokens.ensures.value in
    let out : c.remove-tokens.result.2 ≡ amount_out v.tokens v.shares c.args.part = ap (λ p. p.2) c.remove-tokens.ensures.value in
    let less = record c.in_ok-now.now { tokens = c.remove-tokens.result.0; shares = c.remove-tokens.result.1 } in
    let less_is : less ≡ less_of v b c.args.part = λ i. record (now i) { tokens = tok i; shares = sh i } in
    let s3 = c.put.new.self.staked in
    let s3_is : s3 ≡ put_validator less s2 = ap (λ r. r.staked) c.in_ok-put.ensures.ok in
    let s3_at : s3 ≡ put_validator (less_of v b c.args.part) (state_left height s h v c.requires.stands delegator c.args.held c.args.part c.requires.holds c.requires.part b)
    = s3_is ∙ (λ i. put_validator (less_is i) (here.mine i)) in
    let s4 = c.remove_if_empty.new.self.staked in
    let h4 = g.H.StakingHooks.holds c.remove_if_empty.new.hooks in
    let u4 = seen g.B.Bank.holdings c.remove_if_empty.new.g in
    let k = then_log t.told v delegator c.args.held c.args.part s hs u h1 u1 given.0 given.1 a going_is s2 h2 u2 leaves in
    let kept1 = keeps_modifying height s h v c.requires.stands delegator c.args.held c.args.part c.requires.holds c.requires.part b t lawful hs h1 u u1 stand told in
    let owes = owes_modifying height s h v c.requires.stands delegator c.args.held c.args.part c.requires.holds c.requires.part b t lawful hs h1 u u1 stand told in
    keeps_then (t.owes hs ≡ None) (t.owes h2 ≡ None) u u2 u4 (λ n. here.owes (owes n))
    (keeps_then (t.owes hs ≡ None) (t.owes h1 ≡ None) u (jail_noted b v u1) u2 owes kept1 here.keeps) (c.in-Ok-remove_if_empty.ensures.keeps h2 second.1.0
    (subst (Stand t h2 u2) (sym (ap lists_of s3_at ∙ lists_less height s h v c.requires.stands delegator c.args.held c.args.part c.requires.holds c.requires.part b ((c.args.held - c.args.part) == 0) refl)) here.stand))
