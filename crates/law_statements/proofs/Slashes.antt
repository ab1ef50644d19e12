-- What stands of a pair through a slash: of unbonding entries, of shares at the targets of redelegations, and of a validator itself.
use Rattle.std.proofs.Common.{◌≡◌, ◌∙◌, ℕ, ◌+◌, ◌-◌, ◌*◌, ◌^◌, ◌<◌, ◌≤◌, ◌==◌, min, Bool, true, false, cond, List, [], ◌∷◌, ◌++◌, length, refl, sym, ap, subst, arith, Option, Some, None, Result, Ok, Err, IfOk, if◌then◌else◌, is_some, unwrap_or}
use Rattle.std.specs.{List.Sorted.IsStrictlySortedBy, Map.keys_of, BTreeMap.is_at}
use Rattle.std.proofs.lemmas.{Bool.Decides.nat_tests, Cmp.nat_list_cmp_total}
use Rattle.base_decimals.specs.{declared.over.Over.Over, Rounding.cut}
use Rattle.base_types.specs.{declared.account.Module.Module, Orders.addr_cmp}
use Rattle.base_types.proofs.MapLemmas.{ascend-put, ascend-taken}
use Rattle.base_types.specs.declared.account.Module.TheVariants as holder
use Rattle.base_shares.proofs.Fractions.{fraction_gives_burn}
use Rattle.base_roles.specs.declared.entities.{RedelegationEntry.RedelegationEntry, Validator.Validator}
use Rattle.base_roles.specs.declared.{facts.Fact.Fact, messages.{Evidence.Evidence, Vote.Vote}}
use Rattle.base_roles.specs.{Entries.{at, with, without}, Flow.{◌>>=◌}, Lent.jail_told, Log.Log, Orders.same_addr}
use Rattle.base_roles.specs.Staked.{Staked, delegation, is_unbonded, put_validator, validator_at, validator_by_cons}
use Rattle.base_roles.specs.World.{View, Told, World, burnt, call, logged, noted, over_mine, over_view}
use Rattle.base_roles.specs.declared.calls.Hook.{Hook}
use Rattle.base_roles.specs.declared.facts.Fact.TheVariants as fact
use Rattle.base_roles.specs.Log as log
use Rattle.base_roles.specs.declared.calls.Hook.TheVariants as hook
use Rattle.rule_modules.specs.{Chain.{Stakes, staked_in}, Distribution.{Shared, slash_recorded}}
use Rattle.rule_modules.specs.EntrySlashes.{burned_at_target, entry_hit, followed, is_hit, part_of, plain_following, shares_hit, sources_slashed, targets_slashed}
use Rattle.rule_modules.specs.{Evidence.{equivocation_handled, jailed_if_not, window_bans}, Periods.periods_of}
use Rattle.rule_modules.specs.{Purses.purse_of, Redelegations.RedelegationLists}
use Rattle.rule_modules.specs.Slashing.{core_slashes, jail_lent, plain_slash, rest_slashed, slash_fraction, slash_told, slashed, slashed_at, staked_unbonds}
use Rattle.rule_modules.specs.{Stakes.pool_of, Unbonding.{shares_unbonded, unbonded_of, unbonded_shares}}
use Rattle.rule_modules.specs.{Unbondings.UnbondingLists, Window.{Window, voted}}
use Rattle.rule_modules.proofs.GoingLemmas.{same_ok, step_parts}
use Rattle.rule_modules.proofs.SlashParts.{EntryParts, SlashParts, beside_entries, entries_go, entries_lost, entry_parts, event_put, evidence_leaves, once_leaves, slash_parts, vote_leaves}
use Rattle.law_rewards.proofs.{Entries.{addr_is, put_elsewhere, put_there}, Following.fraction_is}
use Rattle.law_rewards.proofs.Slashing.{recorded_parts, rule_told}
use Rattle.mod_recorder.specs.Notes.{Noted, burned_of, counted}
use Rattle.mod_statement.specs.declared.entry.Entry.TheVariants.{Slashed}
use Rattle.mod_tracking.specs.{declared.tracker.Pair.Pair, Tracking.Tracked}
use Rattle.law_statements.proofs.Holding.{Holds, Tied, ended_tied, holds_burnt, holds_ended, holds_slashed, holds_told}
use Rattle.law_statements.proofs.Hooks.{AreHeard, Goes, HoldsIn, IsCalled, called, event_ties}
use Rattle.law_statements.proofs.Staking.{gone_elsewhere, gone_there, may_end, unbonded_goes, unbonded_kept}
use Rattle.law_statements.proofs.Ties.{tied_flat}

-- ---- what validators are where one may be slashed

-- Each stands under its own operator, and has at most 10^18 tokens.
pub record AreFit (es : List (List ℕ × Validator)) : Type 0 where
  pub ascend : IsStrictlySortedBy addr_cmp (keys_of es)
  pub own : (o : List ℕ) (x : Validator) → at addr_cmp es o ≡ Some x → x.operator ≡ o
  pub tokens : (o : List ℕ) (x : Validator) → at addr_cmp es o ≡ Some x → x.tokens ≤ 10 ^ 18

same_some : {X : Type 0} (x y : X) → Some x ≡ Some y → x ≡ y
same_some x y h = cc

-- what a test that passes chooses
chosen : {X : Type 0} (b : Bool) (x y z : X) → b ≡ true → (if b then x else y) ≡ z → x ≡ z
chosen true x y z h e = e
chosen false x y z h e = absurd cc

never_none : {X : Type 0} (x : X) → ◌≡◌ {A = Option X} None (Some x) → ⊥
never_none x h = cc

fit_put : (x : Validator) (es : List (List ℕ × Validator)) → x.tokens ≤ 10 ^ 18 → AreFit es → AreFit (with addr_cmp es x.operator x)
fit_put x es few f = record {
  ascend = ascend-put addr_cmp nat_list_cmp_total es x.operator x f.ascend;
  own = λ o y h. own_by o y (same_addr o x.operator) refl h;
  tokens = λ o y h. tokens_by o y (same_addr o x.operator) refl h;
}
  where
    there : (o : List ℕ) (y : Validator) → same_addr o x.operator ≡ true → at addr_cmp (with addr_cmp es x.operator x) o ≡ Some y → (x ≡ y) × (o ≡ x.operator)
    there o y is h =
        let one : o ≡ x.operator = addr_is o x.operator is in
        (same_some x y (sym (put_there x.operator x es) ∙ sym (ap (λ (k : List ℕ). at addr_cmp (with addr_cmp es x.operator x) k) one) ∙ h), one)

    own_by : (o : List ℕ) (y : Validator) (q : Bool) → same_addr o x.operator ≡ q → at addr_cmp (with addr_cmp es x.operator x) o ≡ Some y → y.operator ≡ o
    own_by o y true is h = let t = there o y is h in ap (λ (z : Validator). z.operator) (sym t.0) ∙ sym t.1
    own_by o y false is h = f.own o y (sym (put_elsewhere x.operator o x es is) ∙ h)

    tokens_by : (o : List ℕ) (y : Validator) (q : Bool) → same_addr o x.operator ≡ q → at addr_cmp (with addr_cmp es x.operator x) o ≡ Some y → y.tokens ≤ 10 ^ 18
    tokens_by o y true is h = subst (λ (z : Validator). z.tokens ≤ 10 ^ 18) (there o y is h).0 few
    tokens_by o y false is h = f.tokens o y (sym (put_elsewhere x.operator o x es is) ∙ h)

fit_gone : (op : List ℕ) (es : List (List ℕ × Validator)) → AreFit es → AreFit (without addr_cmp es op)
fit_gone op es f = record {
  ascend = ascend-taken addr_cmp (is_at (addr_cmp op)) es f.ascend;
  own = λ o y h. f.own o y (back o y h);
  tokens = λ o y h. f.tokens o y (back o y h);
}
  where
    back : (o : List ℕ) (y : Validator) → at addr_cmp (without addr_cmp es op) o ≡ Some y → at addr_cmp es o ≡ Some y
    back o y h = by (same_addr o op) refl
      where
        by : (q : Bool) → same_addr o op ≡ q → at addr_cmp es o ≡ Some y
        by true is =
            let one : o ≡ op = addr_is o op is in
            absurd (never_none y (sym (gone_there o es f.ascend) ∙ ap (λ (k : List ℕ). at addr_cmp (without addr_cmp es k) o) one ∙ h))
        by false is = sym (gone_elsewhere op o es is) ∙ h

module _ (p : Pair) (v : Option Validator) (t0 : Tracked) (n0 : ℕ) (base : Log) (earlier : List Fact)
    {H : Type 0} (told : H → Hook → View → Told H) (of : H → Shared × Noted) (are : AreHeard told of) where
  abbrev Keeps : ℕ → World Staked H → Type 0
  Keeps b w = HoldsIn p v t0 n0 base earlier told of are b w

  abbrev Runs : ℕ → World Staked H → Type 0
  Runs b w = Goes p v t0 n0 base earlier told of are b w

  pub record Fits (w : World Staked H) : Type 0 where
    pub goes : Runs 0 w
    pub fit : AreFit w.mine.validators

  some_of : (o : Option Validator) (x : Validator) → o ≡ Some x → is_some o ≡ true
  some_of o x h = ap is_some h

  -- ---- burns

  burnt_fits : (from : Module) (d : List ℕ) (n : ℕ) (w : World Staked H) → Fits w → Fits (over_view (burnt from d n) w)
  burnt_fits from d n w f = record {
    goes = record { ascend = f.goes.ascend; ties = f.goes.ties; holds = holds_burnt p v t0 n0 base earlier 0 (of w.hooks).1 w.view.facts w.log from d n f.goes.holds };
    fit = f.fit;
  }

  -- ---- shares at a target

  unbonded_fit : (val : Validator) (who : List ℕ) (held part : ℕ) (w : World Staked H) (x : ℕ × World Staked H) → val.tokens ≤ 10 ^ 18 → unbonded_shares told val who held part w ≡ Ok x → AreFit w.mine.validators → AreFit x.1.mine.validators
  unbonded_fit val who held part w x few e f =
      unbonded_kept p v t0 n0 base earlier told of are AreFit val who held part w x (λ y es same less k. fit_put y es (fewer y.tokens less) k) (λ es k. fit_gone val.operator es k) e f
    where
      fewer : (n : ℕ) → n ≤ val.tokens → n ≤ 10 ^ 18
      fewer n h = omega (arith, h, few)

  shares_fit : (who operator : List ℕ) (part : ℕ) (w : World Staked H) (z : ℕ × World Staked H) → shares_unbonded told who operator part w ≡ Ok z → Fits w → Fits z.1
  shares_fit who operator part w z e f = by (validator_at w.mine operator) (delegation w.mine who operator) refl e
    where
      by : (r : Option Validator) (held : Option ℕ) → validator_at w.mine operator ≡ r → unbonded_of told r held who part w ≡ Ok z → Fits z.1
      by None held is h = subst (λ (y : ℕ × World Staked H). Fits y.1) (same_ok (0, w) z h) f
      by (Some x) None is h = subst (λ (y : ℕ × World Staked H). Fits y.1) (same_ok (0, w) z h) f
      by (Some x) (Some held) is h =
          let under : x.operator ≡ operator = f.fit.own operator x is in
          let stands : is_some (validator_at w.mine x.operator) ≡ true = ap (λ (o : List ℕ). is_some (validator_at w.mine o)) under ∙ some_of (validator_at w.mine operator) x is in
          record {
            goes = unbonded_goes p v t0 n0 base earlier told of are x who held part w z stands h f.goes;
            fit = unbonded_fit x who held part w z (f.fit.tokens operator x is) h f.fit;
          }

  target_fits : (r : Option Validator) (who : List ℕ) (part : ℕ) (w y : World Staked H) → burned_at_target (staked_unbonds told) r who part w ≡ Ok y → Fits w → Fits y
  target_fits None who part w y e f = subst Fits (same_ok w y e) f
  target_fits (Some t) who part w y e f = by (part == 0) e
    where
      out : ℕ × World Staked H → World Staked H
      out z = over_view (burnt (pool_of t.status) w.view.ctx.params.bond_denom z.0) z.1

      by : (q : Bool) → (if q then Ok w else (shares_unbonded told who t.operator part w >>= λ z. Ok (over_view (burnt (pool_of t.status) w.view.ctx.params.bond_denom z.0) z.1))) ≡ Ok y → Fits y
      by true k = subst Fits (same_ok w y k) f
      by false k =
          let one = step_parts (shares_unbonded told who t.operator part w) (λ z. Ok (out z)) y k in
          subst Fits (same_ok (out one.0) y one.2) (burnt_fits (pool_of t.status) w.view.ctx.params.bond_denom one.0.0 one.0.1 (shares_fit who t.operator part w one.0 one.1 f))

  -- ---- redelegation entries

  entry_fits : (who target : List ℕ) (factor : ℕ) (e : RedelegationEntry) (u : UnbondingLists) (w : World Staked H) (y : UnbondingLists × World Staked H)
      → entry_hit (staked_unbonds told) plain_following who target factor e u w ≡ Ok y → Fits w → Fits y.1
  entry_fits who target factor e u w y h f =
      let k : EntryParts told who target factor e u w y = entry_parts told who target factor e u w y h in
      let lost = followed who target e.created (part_of factor e.initial) u w.view in
      let w1 : World Staked H = over_view (λ x. lost.2) w in
      let first : Fits w1 = burnt_fits holder.NotBonded w.view.ctx.params.bond_denom lost.0 w f in
      subst (λ (z : UnbondingLists × World Staked H). Fits z.1) k.answer
      (target_fits (validator_at w.mine target) who (shares_hit (staked_unbonds told) who target k.part w) w1 k.left k.burned first)

  targets_fit : (es : List RedelegationEntry) (who target : List ℕ) (infraction factor : ℕ) (u : UnbondingLists) (w : World Staked H) (y : UnbondingLists × World Staked H)
      → targets_slashed (staked_unbonds told) plain_following who target infraction factor es u w ≡ Ok y → Fits w → Fits y.1
  targets_fit [] who target infraction factor u w y h f = subst (λ (z : UnbondingLists × World Staked H). Fits z.1) (same_ok (u, w) y h) f
  targets_fit (e ∷ es) who target infraction factor u w y h f = by (is_hit infraction w.view.ctx.time e.created e.completes) (λ x z. targets_fit es who target infraction factor x z y) h
    where
      Rest : UnbondingLists → World Staked H → Type 0
      Rest x z = targets_slashed (staked_unbonds told) plain_following who target infraction factor es x z ≡ Ok y

      by : (b : Bool) → ((x : UnbondingLists) (z : World Staked H) → Rest x z → Fits z → Fits y.1)
          → (if b then (entry_hit (staked_unbonds told) plain_following who target factor e u w >>= λ q. targets_slashed (staked_unbonds told) plain_following who target infraction factor es q.0 q.1)
          else targets_slashed (staked_unbonds told) plain_following who target infraction factor es u w) ≡ Ok y → Fits y.1
      by true rest k =
          let one = step_parts (entry_hit (staked_unbonds told) plain_following who target factor e u w) (λ q. targets_slashed (staked_unbonds told) plain_following who target infraction factor es q.0 q.1) y k in
          rest one.0.0 one.0.1 one.2 (entry_fits who target factor e u w one.0 one.1 f)
      by false rest k = rest u w k f

  sources_fit : (ps : RedelegationLists) (operator : List ℕ) (infraction factor : ℕ) (u : UnbondingLists) (w : World Staked H) (y : UnbondingLists × World Staked H)
      → sources_slashed (staked_unbonds told) plain_following operator infraction factor ps u w ≡ Ok y → Fits w → Fits y.1
  sources_fit [] operator infraction factor u w y h f = subst (λ (z : UnbondingLists × World Staked H). Fits z.1) (same_ok (u, w) y h) f
  sources_fit (q ∷ ps) operator infraction factor u w y h f = by (same_addr q.0.1 operator) (λ x z. sources_fit ps operator infraction factor x z y) h
    where
      Rest : UnbondingLists → World Staked H → Type 0
      Rest x z = sources_slashed (staked_unbonds told) plain_following operator infraction factor ps x z ≡ Ok y

      by : (b : Bool) → ((x : UnbondingLists) (z : World Staked H) → Rest x z → Fits z → Fits y.1)
          → (if b then (targets_slashed (staked_unbonds told) plain_following q.0.0 q.0.2 infraction factor q.1 u w >>= λ r. sources_slashed (staked_unbonds told) plain_following operator infraction factor ps r.0 r.1)
          else sources_slashed (staked_unbonds told) plain_following operator infraction factor ps u w) ≡ Ok y → Fits y.1
      by true rest k =
          let one = step_parts (targets_slashed (staked_unbonds told) plain_following q.0.0 q.0.2 infraction factor q.1 u w) (λ r. sources_slashed (staked_unbonds told) plain_following operator infraction factor ps r.0 r.1) y k in
          rest one.0.0 one.0.1 one.2 (targets_fit q.1 q.0.0 q.0.2 infraction factor u w one.0 one.1 f)
      by false rest k = rest u w k f

  -- ---- the validator itself

  -- the note of a slash tells what it burns
  burn_is : (burn tokens : ℕ) → burn ≤ tokens → 0 < tokens → tokens ≤ 10 ^ 18 → burned_of (slash_fraction burn tokens) tokens ≡ burn
  burn_is burn tokens within some few = ap (λ (n : ℕ). cut (n * tokens) (10 ^ 18)) (fraction_is burn tokens within some) ∙ fraction_gives_burn burn tokens within some few

  told_fits : (val : Validator) (burn : ℕ) (w y : World Staked H) → is_some (validator_at w.mine val.operator) ≡ true → burn ≤ val.tokens → val.tokens ≤ 10 ^ 18 → slash_told told val burn w ≡ Ok y → Runs 0 w → Runs 0 y × (y.mine ≡ w.mine)
  told_fits val burn w y stands within few e g = by (val.tokens == 0) refl e
    where
      fraction : ℕ
      fraction = slash_fraction burn val.tokens

      slashed_fact : Fact
      slashed_fact = fact.Slashed val.operator fraction burn

      behind : World Staked H → World Staked H
      behind x = over_view (noted slashed_fact) (logged val.operator (log.slashed burn val.tokens fraction) x)

      positive : (n : ℕ) → (n == 0) ≡ false → 0 < n
      positive n h = grind (arith, nat_tests)

      hit : (x : World Staked H) → call told (hook.Slashing val fraction) w ≡ Ok x → 0 < val.tokens → Runs 0 (behind x) × ((behind x).mine ≡ w.mine)
      hit x h some =
          let k : IsCalled p v t0 n0 base earlier told of are (hook.Slashing val fraction) w x = called p v t0 n0 base earlier told of are (hook.Slashing val fraction) w x h in
          let parts = recorded_parts val fraction (of w.hooks).0 w.view ((of x.hooks).0, x.view, k.more) (rule_told (slash_recorded val fraction (of w.hooks).0 w.view) ((of x.hooks).0, x.view, k.more) k.given) in
          let z : ℕ × Shared × View × Log = parts.0 in
          let shared : event_put val fraction z ≡ (of x.hooks).0 = ap (λ (t : Shared × View × Log). t.0) parts.2 in
          let view : z.2 ≡ x.view = ap (λ (t : Shared × View × Log). t.1) parts.2 in
          let more : z.3 ≡ k.more = ap (λ (t : Shared × View × Log). t.2) parts.2 in
          let closed : Holds p v t0 n0 base earlier 0 (of w.hooks).1 z.2.facts (w.log ++ z.3) =
          holds_ended p v t0 n0 base earlier val (of w.hooks).0 w.view z parts.1 0 (of w.hooks).1 w.log (may_end p v t0 n0 base earlier told of are 0 val w stands g) g.holds in
          let here : Holds p v t0 n0 base earlier 0 (of w.hooks).1 x.view.facts x.log =
          subst (λ (l : Log). Holds p v t0 n0 base earlier 0 (of w.hooks).1 x.view.facts l) (ap (λ (m : Log). w.log ++ m) more ∙ sym k.log)
          (subst (λ (u : View). Holds p v t0 n0 base earlier 0 (of w.hooks).1 u.facts (w.log ++ z.3)) view closed) in
          let both = holds_slashed p v t0 n0 base earlier 0 (of w.hooks).1 x.view.facts x.log here val.operator burn val.tokens fraction in
          let heard_so : (of x.hooks).1 ≡ record (of w.hooks).1 { notes = (of w.hooks).1.notes ++ record { operator = val.operator; delegator = None; facts = counted (of w.hooks).1.before (length x.view.facts); entry = Some (Slashed burn val.tokens) } ∷ [] } =
          k.hears ∙ ap (λ (n : ℕ). record (of w.hooks).1 { notes = (of w.hooks).1.notes ++ record { operator = val.operator; delegator = None; facts = counted (of w.hooks).1.before (length x.view.facts); entry = Some (Slashed n val.tokens) } ∷ [] }) (burn_is burn val.tokens within some few) in
          let noted_both : Holds p v t0 n0 base earlier 0 (of x.hooks).1 x.view.facts (x.log ++ (val.operator, log.slashed burn val.tokens fraction) ∷ []) =
          subst (λ (r : Noted). Holds p v t0 n0 base earlier 0 r x.view.facts (x.log ++ (val.operator, log.slashed burn val.tokens fraction) ∷ [])) (sym heard_so) both in (
            record {
              ascend = subst (λ (s : Staked). IsStrictlySortedBy addr_cmp (keys_of s.validators)) (sym k.mine) g.ascend;
              ties = λ there. (
                  let old = g.ties (ap (λ (s : Staked). is_some (validator_at s p.operator)) (sym k.mine) ∙ there) in
                  let end = ended_tied p v t0 n0 base earlier val (of w.hooks).0 w.view z parts.1 0 (of w.hooks).1 w.log old in
                  let put = event_ties p v t0 n0 base earlier val fraction z (w.log ++ z.3) end in
                  let flat = tied_flat p.operator (w.log ++ z.3) val.operator (log.slashed burn val.tokens fraction) (periods_of (event_put val fraction z).rewards p.operator) (purse_of (event_put val fraction z).purses p.operator).current
                  (record { stays = λ es. refl; rises = λ d. refl }) put in
                  subst (λ (l : Log). Ties (of x.hooks).0 (l ++ (val.operator, log.slashed burn val.tokens fraction) ∷ [])) (ap (λ (m : Log). w.log ++ m) more ∙ sym k.log)
                  (subst (λ (c : Shared). Ties c ((w.log ++ z.3) ++ (val.operator, log.slashed burn val.tokens fraction) ∷ [])) shared flat));
              holds = holds_told p v t0 n0 base earlier 0 (of x.hooks).1 x.view.facts (x.log ++ (val.operator, log.slashed burn val.tokens fraction) ∷ []) slashed_fact (λ f. refl) noted_both;
            },
            k.mine,
          )
        where
          Ties : Shared → Log → Type 0
          Ties c l = Tied p v t0 n0 base earlier c l

      by : (q : Bool) → (val.tokens == 0) ≡ q → (if q then Ok w else (call told (hook.Slashing val fraction) w >>= λ x. Ok (over_view (noted (fact.Slashed val.operator fraction burn)) (logged val.operator (log.slashed burn val.tokens fraction) x)))) ≡ Ok y
          → Runs 0 y × (y.mine ≡ w.mine)
      by true is h = subst (λ (x : World Staked H). Runs 0 x × (x.mine ≡ w.mine)) (same_ok w y h) (g, refl)
      by false is h =
          let one = step_parts (call told (hook.Slashing val fraction) w) (λ x. Ok (behind x)) y h in
          subst (λ (x : World Staked H). Runs 0 x × (x.mine ≡ w.mine)) (same_ok (behind one.0) y one.2) (hit one.0 one.1 (positive val.tokens is))

  rest_fits : (operator : List ℕ) (amount : ℕ) (w : World Staked H) (y : ℕ × World Staked H) → rest_slashed told (validator_at w.mine operator) amount w ≡ Ok y → Fits w → Keeps 0 y.1
  rest_fits operator amount w y e f = by (validator_at w.mine operator) refl e
    where
      by : (r : Option Validator) → validator_at w.mine operator ≡ r → rest_slashed told r amount w ≡ Ok y → Keeps 0 y.1
      by None is h = subst (λ (z : ℕ × World Staked H). Keeps 0 z.1) (same_ok (0, w) y h) f.goes.holds
      by (Some x) is h =
          let burn : ℕ = min amount x.tokens in
          let less : Validator = record x { tokens = x.tokens - burn } in
          let last : World Staked H → World Staked H = λ t. over_view (burnt (pool_of x.status) w.view.ctx.params.bond_denom burn) (over_mine (put_validator less) t) in
          let one = step_parts (slash_told told x burn w) (λ t. Ok (burn, last t)) y h in
          let under : x.operator ≡ operator = f.fit.own operator x is in
          let stands : is_some (validator_at w.mine x.operator) ≡ true = ap (λ (o : List ℕ). is_some (validator_at w.mine o)) under ∙ some_of (validator_at w.mine operator) x is in
          let hit = told_fits x burn w one.0 stands (within amount x.tokens) (f.fit.tokens operator x is) one.1 f.goes in
          subst (λ (z : ℕ × World Staked H). Keeps 0 z.1) (same_ok (burn, last one.0) y one.2)
          (holds_burnt p v t0 n0 base earlier 0 (of one.0.hooks).1 one.0.view.facts one.0.log (pool_of x.status) w.view.ctx.params.bond_denom burn hit.0.holds)
        where
          within : (m s : ℕ) → min m s ≤ s
          within m s = omega arith

  -- ---- all of a slash

  abbrev pub KeepsAll : World Stakes H → Type 0
  KeepsAll w = HoldsIn p v t0 n0 base earlier told of are 0 (staked_in w)

  entries_fit : (operator : List ℕ) (infraction factor : ℕ) (w : World Stakes H) → Fits (staked_in w) → Fits (staked_in (entries_lost operator infraction factor w))
  entries_fit operator infraction factor w f = record {
    goes = record {
      ascend = f.goes.ascend;
      ties = f.goes.ties;
      holds = entries_go (λ u x. Holds p v t0 n0 base earlier 0 (of w.hooks).1 u.facts w.log → Holds p v t0 n0 base earlier 0 (of w.hooks).1 x.facts w.log) (λ u h. h) (λ u x y g k h. k (g h))
          (λ n u h. holds_burnt p v t0 n0 base earlier 0 (of w.hooks).1 u.facts w.log holder.NotBonded u.ctx.params.bond_denom n h) operator infraction factor w.mine.unbondings w.view f.goes.holds;
    };
    fit = f.fit;
  }

  slashed_at_fits : (r : Option Validator) (infraction power factor : ℕ) (w : World Stakes H) (y : ℕ × World Stakes H) → slashed_at told plain_slash r infraction power factor w ≡ Ok y → Fits (staked_in w) → KeepsAll y.1
  slashed_at_fits None infraction power factor w y e f = subst (λ (z : ℕ × World Stakes H). KeepsAll z.1) (same_ok (0, w) y e) f.goes.holds
  slashed_at_fits (Some x) infraction power factor w y e f = by (is_unbonded x.status) refl
    where
      by : (b : Bool) → is_unbonded x.status ≡ b → KeepsAll y.1
      by true is = subst (λ (z : ℕ × World Stakes H). KeepsAll z.1) (same_ok (0, w) y (chosen (is_unbonded x.status) (Ok (0, w)) _ (Ok y) is e)) f.goes.holds
      by false is =
          let k : SlashParts told x infraction power factor w y = slash_parts told x infraction power factor w y is e in
          let w1 : World Stakes H = entries_lost x.operator infraction factor w in
          let through : Fits k.sources.1 = sources_fit w.mine.redelegations x.operator infraction factor w1.mine.unbondings (staked_in w1) k.sources k.of_sources (entries_fit x.operator infraction factor w f) in
          subst (λ (z : ℕ × World Stakes H). KeepsAll z.1) k.answer (rest_fits x.operator k.amount k.sources.1 k.rest k.of_itself through)

  pub slashed_keeps : (cons : List ℕ) (infraction power factor : ℕ) (w : World Stakes H) (y : ℕ × World Stakes H) → slashed told plain_slash cons infraction power factor w ≡ Ok y → Fits (staked_in w) → KeepsAll y.1
  slashed_keeps cons infraction power factor w y e f = slashed_at_fits (validator_by_cons w.mine.staked cons) infraction power factor w y e f

  -- ---- votes and evidence

  jailed_keeps : (cons : List ℕ) (w : World Stakes H) → KeepsAll w → KeepsAll (jail_lent (core_slashes told plain_slash) cons w)
  jailed_keeps cons w h = by (validator_by_cons w.mine.staked cons)
    where
      by : (r : Option Validator) → Holds p v t0 n0 base earlier 0 (of w.hooks).1 (jail_told r w.view.facts) w.log
      by None = h
      by (Some x) = holds_told p v t0 n0 base earlier 0 (of w.hooks).1 w.view.facts w.log (fact.Jailed x.operator) (λ f. refl) h

  pub vote_keeps : (t : Vote) (i : Window) (w : World Stakes H) → Fits (staked_in w) → IfOk (voted (core_slashes told plain_slash) t i w) (λ x. KeepsAll x.2)
  vote_keeps t i w f =
      vote_leaves (core_slashes told plain_slash) t i w (λ j y. KeepsAll y) f.goes.holds (λ s is. f.goes.holds)
      (λ s z is h. jailed_keeps t.cons z.1 (slashed_keeps t.cons (w.view.ctx.height - 2) t.power w.view.ctx.params.slash_fraction_downtime w z h f))

  pub evidence_keeps : (e : Evidence) (i : Window) (w : World Stakes H) → Fits (staked_in w) → IfOk (equivocation_handled (core_slashes told plain_slash) window_bans e i w) (λ x. KeepsAll x.2)
  evidence_keeps e i w f =
      evidence_leaves (core_slashes told plain_slash) e i w (λ j y. KeepsAll y) f.goes.holds (λ x z h. punished x z (slashed_keeps e.cons (e.height - 1) e.power w.view.ctx.params.slash_fraction_double_sign w z h f))
    where
      punished : (x : Validator) (z : ℕ × World Stakes H) → KeepsAll z.1 → KeepsAll (over_view (noted (fact.Tombstoned x.operator)) (jailed_if_not (core_slashes told plain_slash) window_bans (validator_by_cons z.1.mine.staked e.cons) e.cons z.1))
      punished x z h =
          let y : World Stakes H = jailed_if_not (core_slashes told plain_slash) window_bans (validator_by_cons z.1.mine.staked e.cons) e.cons z.1 in
          let k : KeepsAll y = once_leaves (core_slashes told plain_slash) window_bans e.cons z.1 KeepsAll h (jailed_keeps e.cons z.1 h) in
          holds_told p v t0 n0 base earlier 0 (of y.hooks).1 y.view.facts y.log (fact.Tombstoned x.operator) (λ f. refl) k
