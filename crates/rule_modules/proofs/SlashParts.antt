-- The rules of a slash, of a vote and of a piece of evidence, taken apart once: what holds of each step holds of the whole.
use Rattle.std.proofs.Common.{◌≡◌, ℕ, ◌+◌, ◌-◌, ◌≤◌, ◌==◌, Bool, true, false, List, [], ◌∷◌, map, filter, Option, Some, None, Result, Ok, Err, min, refl, subst, sym, arith, ◌<◌, ◌++◌, ◌∙◌, ap, cond, ◌||◌, IfOk, if◌then◌else◌, not, sum, unwrap_or}
use Rattle.std.{specs.Prelude.⊤, proofs.lemmas.Bool.Decides.nat_tests}
use Rattle.base_decimals.specs.declared.over.Over.{Over}
use Rattle.base_types.specs.Orders.{cons_cmp}
use Rattle.base_roles.specs.declared.entities.{RedelegationEntry.RedelegationEntry, Validator.Validator}
use Rattle.base_roles.specs.{declared.messages.{Evidence.Evidence, Vote.Vote}, Entries.with, Flow.{◌>>=◌}}
use Rattle.base_roles.specs.{Lent.jail_told, Orders.same_addr}
use Rattle.base_roles.specs.Staked.{Staked, delegation, is_unbonded, put_validator, validator_at, validator_by_cons}
use Rattle.base_roles.specs.World.{View, Told, World, burnt, noted, over_mine, over_view, hooked, logged}
use Rattle.base_roles.specs.{declared.calls.Hook.Hook, Log.Log}
use Rattle.base_roles.specs.declared.facts.Fact.TheVariants as fact
use Rattle.base_types.specs.declared.account.Module.TheVariants as holder
use Rattle.rule_modules.specs.Chain.{Stakes, State, beside_window, evidence_step, staked_in, vote_step, with_staked, with_window, chain_told}
use Rattle.rule_modules.specs.Distribution.{Shared, distribution_told, ended, told_of}
use Rattle.rule_modules.specs.EntrySlashes.{all_counted, burned_at_target, counted, counted_of, entries_slashed, entry_hit, followed, is_hit, part_left, part_of, plain_following, redelegation_made, redelegations_slashed, shares_hit, sources_slashed, targets_slashed, burned_of, entry_slashed}
use Rattle.rule_modules.specs.Evidence.{Bans, equivocation_handled, evidence_weighed, forever, is_too_old, jailed_if_not, window_bans}
use Rattle.rule_modules.specs.Redelegations.{RedelegationLists}
use Rattle.rule_modules.specs.Slashing.{Slashes, core_slashes, jail_lent, jailed_of, plain_slash, rest_slashed, slash_amount, slashed, slashed_at, staked_unbonds, slash_fraction, slash_told}
use Rattle.rule_modules.specs.{Stakes.pool_of, Unbonding.{shares_unbonded, unbonded_of, unbonded_shares}}
use Rattle.rule_modules.specs.Unbondings.{UnbondingLists}
use Rattle.rule_modules.specs.Window.{Signing, Window, is_downtime, reset_at, signing_of, vote_counted, voted}
use Rattle.rule_modules.specs.Periods.{event_recorded, periods_of, with_periods}
use Rattle.rule_modules.proofs.GoingLemmas.{from_if, mapped_stops, on_bind, same_ok, step_parts}
use Rattle.rule_modules.proofs.BesideLemmas.{raised, raised_answer, unbonded_same}
use Rattle.base_roles.specs.Log as log

-- ---- all that staking holds, after each step of a slash

module _ {H : Type 0} where
  -- validators and delegations beside the entries of both kinds
  abbrev pub beside_entries : RedelegationLists → UnbondingLists → World Staked H → World Stakes H
  beside_entries r u x = record { mine = record { staked = x.mine; unbondings = u; redelegations = r }; hooks = x.hooks; view = x.view; log = x.log }

  -- the slash of an operator's unbonding entries
  abbrev pub entries_lost : List ℕ → ℕ → ℕ → World Stakes H → World Stakes H
  entries_lost operator infraction factor w =
      let lost = entries_slashed operator infraction factor w.mine.unbondings w.view in
      beside_entries w.mine.redelegations lost.0 (record { mine = w.mine.staked; hooks = w.hooks; view = lost.1; log = w.log })

  -- the slash of unbonding entries that follow a redelegation
  abbrev pub following_lost : List ℕ → List ℕ → ℕ → ℕ → World Stakes H → World Stakes H
  following_lost delegator operator from tokens w =
      let lost = followed delegator operator from tokens w.mine.unbondings w.view in
      beside_entries w.mine.redelegations lost.1 (record { mine = w.mine.staked; hooks = w.hooks; view = lost.2; log = w.log })

  -- the burn of what was unbonded at a target
  abbrev pub target_lost : Validator → ℕ × World Staked H → World Stakes H → World Stakes H
  target_lost t z w = with_staked w.mine (over_view (burnt (pool_of t.status) w.view.ctx.params.bond_denom z.0) z.1)

  -- the jailing of a validator
  abbrev pub after_jailing : Validator → World Stakes H → World Stakes H
  after_jailing v w =
      over_view (λ u. record u { facts = jail_told (Some v) u.facts }) (over_mine (λ c. record c { staked = put_validator (record v { jailed = true }) c.staked }) w)

-- a validator burns an amount of its tokens
abbrev pub poorer : Validator → ℕ → Validator
poorer v burn = record v { tokens = v.tokens - burn }

abbrev pub burnt_with : Validator → ℕ → List ℕ → World Staked Shared → World Staked Shared
burnt_with v burn denom x = over_view (burnt (pool_of v.status) denom burn) (over_mine (put_validator (poorer v burn)) x)

-- what distribution then holds: a slash event behind the end of the period
abbrev pub event_put : Validator → ℕ → ℕ × Shared × View × Log → Shared
event_put v fraction z = record z.1 { rewards = with_periods v.operator (event_recorded z.2.ctx.height fraction (periods_of z.1.rewards v.operator)) z.1.rewards }

-- and the world, with the fact of the slash
abbrev pub slash_noted : Validator → ℕ → ℕ × Shared × View × Log → World Staked Shared → World Staked Shared
slash_noted v burn z x =
    let fraction = slash_fraction burn v.tokens in
    over_view (noted (fact.Slashed v.operator fraction burn)) (logged v.operator (log.slashed burn v.tokens fraction) (record { mine = x.mine; hooks = event_put v fraction z; view = z.2; log = x.log ++ z.3 }))

-- A relation between the worlds before and after that goes through a slash: it stays where nothing is done, goes on, and holds
-- of each step. Then it holds of the slash.
pub record GoesThrough (R : World Stakes Shared → World Stakes Shared → Type 0) : Type 0 where
  pub stays : (w : World Stakes Shared) → R w w
  pub goes_on : (w x y : World Stakes Shared) → R w x → R x y → R w y
  pub entries : (operator : List ℕ) (infraction factor : ℕ) (w : World Stakes Shared) → R w (entries_lost operator infraction factor w)
  pub following : (delegator operator : List ℕ) (from tokens : ℕ) (w : World Stakes Shared) → R w (following_lost delegator operator from tokens w)
  pub target : (operator who : List ℕ) (t v : Validator) (held part : ℕ) (w : World Stakes Shared) (z : ℕ × World Staked Shared) → validator_at w.mine.staked operator ≡ Some t → validator_at w.mine.staked t.operator ≡ Some v
      → delegation w.mine.staked who t.operator ≡ Some held → part ≤ unwrap_or (delegation w.mine.staked who operator) 0
      → ((i : Window) → unbonded_shares chain_told v who held part (raised i (staked_in w)) ≡ Ok (z.0, raised i z.1)) → R w (target_lost t z w)
  pub empty : (operator : List ℕ) (v : Validator) (burn : ℕ) (w : World Stakes Shared) → validator_at w.mine.staked operator ≡ Some v → v.tokens ≡ 0 → burn ≤ v.tokens
      → R w (with_staked w.mine (burnt_with v burn w.view.ctx.params.bond_denom (staked_in w)))
  pub itself : (operator : List ℕ) (v : Validator) (burn : ℕ) (w : World Stakes Shared) (z : ℕ × Shared × View × Log) → validator_at w.mine.staked operator ≡ Some v → 0 < v.tokens → burn ≤ v.tokens
      → ended v w.hooks w.view ≡ Ok z → R w (with_staked w.mine (burnt_with v burn w.view.ctx.params.bond_denom (slash_noted v burn z (staked_in w))))

-- ---- unbonding entries

-- What holds where nothing is done, goes on, and holds of each burn from the not-bonded account holds of the slash of unbonding
-- entries, of the ground before and after it.
pub entries_go : (Q : View → View → Type 0) → ((v : View) → Q v v) → ((u v w : View) → Q u v → Q v w → Q u w) → ((n : ℕ) (v : View) → Q v (burnt holder.NotBonded v.ctx.params.bond_denom n v))
    → (operator : List ℕ) (infraction factor : ℕ) (u : UnbondingLists) (v : View) → Q v (entries_slashed operator infraction factor u v).1
entries_go Q stays goes_on burns operator infraction factor [] v = stays v
entries_go Q stays goes_on burns operator infraction factor (p ∷ ps) v = by (same_addr p.0.1 operator) (λ u. entries_go Q stays goes_on burns operator infraction factor ps u)
  where
    burn : ℕ
    burn = burned_of infraction factor v.ctx.time p.1

    v1 : View
    v1 = burnt holder.NotBonded v.ctx.params.bond_denom burn v

    yes : UnbondingLists × View
    yes = ((p.0, map (entry_slashed infraction factor v.ctx.time) p.1) ∷ (entries_slashed operator infraction factor ps v1).0, (entries_slashed operator infraction factor ps v1).1)

    no : UnbondingLists × View
    no = (p ∷ (entries_slashed operator infraction factor ps v).0, (entries_slashed operator infraction factor ps v).1)

    by : (b : Bool) → ((u : View) → Q u (entries_slashed operator infraction factor ps u).1) → Q v (cond b yes no).1
    by true rest = goes_on v v1 (entries_slashed operator infraction factor ps v1).1 (burns burn v) (rest v1)
    by false rest = rest v

-- ---- the parts of an answer

module _ {H : Type 0} (told : H → Hook → View → Told H) where
  -- the parts of the slash of a redelegation entry: what follows it is slashed, then shares at its target
  pub record EntryParts (delegator target : List ℕ) (factor : ℕ) (e : RedelegationEntry) (u : UnbondingLists) (w : World Staked H) (y : UnbondingLists × World Staked H) : Type 0 where
    pub part : ℕ
    pub left : World Staked H
    pub given : part_left factor e.shares_dst (part_of factor e.initial) (followed delegator target e.created (part_of factor e.initial) u w.view).0 ≡ Ok part
    pub burned : burned_at_target (staked_unbonds told) (validator_at w.mine target) delegator (shares_hit (staked_unbonds told) delegator target part w)
        (over_view (λ v. (followed delegator target e.created (part_of factor e.initial) u w.view).2) w) ≡ Ok left
    pub answer : ((followed delegator target e.created (part_of factor e.initial) u w.view).1, left) ≡ y

  pub entry_parts : (delegator target : List ℕ) (factor : ℕ) (e : RedelegationEntry) (u : UnbondingLists) (w : World Staked H) (y : UnbondingLists × World Staked H)
      → entry_hit (staked_unbonds told) plain_following delegator target factor e u w ≡ Ok y → EntryParts delegator target factor e u w y
  entry_parts delegator target factor e u w y h =
      let count : ℕ = part_of factor e.initial in
      let lost : ℕ × UnbondingLists × View = followed delegator target e.created count u w.view in
      let w1 : World Staked H = over_view (λ v. lost.2) w in
      let burn : ℕ → Result (World Staked H) Over = λ part. burned_at_target (staked_unbonds told) (validator_at w.mine target) delegator (shares_hit (staked_unbonds told) delegator target part w) w1 in
      let back : World Staked H → UnbondingLists × World Staked H = λ x. (lost.1, x) in
      let one : (part : ℕ) × (part_left factor e.shares_dst count lost.0 ≡ Ok part) × ((burn part >>= λ x. Ok (back x)) ≡ Ok y) = step_parts (part_left factor e.shares_dst count lost.0) (λ part. burn part >>= λ x. Ok (back x)) y h in
      let two : (x : World Staked H) × (burn one.0 ≡ Ok x) × (Path (Result (UnbondingLists × World Staked H) Over) (Ok (back x)) (Ok y)) = step_parts (burn one.0) (λ x. Ok (back x)) y one.2 in
      record { part = one.0; left = two.0; given = one.1; burned = two.1; answer = same_ok (back two.0) y two.2 }

  -- the parts of the slash of a validator: of its unbonding entries, of the redelegation entries from it with what follows
  -- them, and of itself by what is left of the amount
  pub record SlashParts (v : Validator) (infraction power factor : ℕ) (w : World Stakes H) (y : ℕ × World Stakes H) : Type 0 where
    pub sources : UnbondingLists × World Staked H
    pub amount : ℕ
    pub rest : ℕ × World Staked H
    pub amount_is : amount ≡ slash_amount power w.view.ctx.params.power_reduction factor - (counted (all_counted v.operator infraction factor w.view.ctx.time w.mine.unbondings)
        + counted (sum (map (λ q. counted_of infraction factor (entries_lost v.operator infraction factor w).view.ctx.time (map redelegation_made q.1)) (filter (λ q. same_addr q.0.1 v.operator) w.mine.redelegations))))
    pub of_sources : sources_slashed (staked_unbonds told) plain_following v.operator infraction factor w.mine.redelegations (entries_lost v.operator infraction factor w).mine.unbondings
        (staked_in (entries_lost v.operator infraction factor w)) ≡ Ok sources
    pub of_itself : rest_slashed told (validator_at sources.1.mine v.operator) amount sources.1 ≡ Ok rest
    pub answer : (rest.0, beside_entries w.mine.redelegations sources.0 rest.1) ≡ y

  -- the answer of a slash, by whether the validator is unbonded
  abbrev slash_answers : Validator → ℕ → ℕ → ℕ → World Stakes H → Bool → Result (ℕ × World Stakes H) Over
  slash_answers v infraction power factor w b = if b then Ok (0, w) else (
      redelegations_slashed (staked_unbonds told) plain_following v.operator infraction factor w.mine.redelegations (entries_lost v.operator infraction factor w).mine.unbondings (staked_in (entries_lost v.operator infraction factor w)) >>= λ p.
      rest_slashed told (validator_at p.3.mine v.operator) (slash_amount power w.view.ctx.params.power_reduction factor - (counted (all_counted v.operator infraction factor w.view.ctx.time w.mine.unbondings) + p.0)) p.3 >>= λ z.
      Ok (z.0, beside_entries p.1 p.2 z.1))

  pub slash_parts : (v : Validator) (infraction power factor : ℕ) (w : World Stakes H) (y : ℕ × World Stakes H) → is_unbonded v.status ≡ false
      → slashed_at told plain_slash (Some v) infraction power factor w ≡ Ok y → SlashParts v infraction power factor w y
  slash_parts v infraction power factor w y bonded e =
      let op : List ℕ = v.operator in
      let w1 : World Stakes H = entries_lost op infraction factor w in
      let all : ℕ = sum (map (λ q. counted_of infraction factor w1.view.ctx.time (map redelegation_made q.1)) (filter (λ q. same_addr q.0.1 op) w.mine.redelegations)) in
      let amount : ℕ → ℕ = λ more. slash_amount power w.view.ctx.params.power_reduction factor - (counted (all_counted op infraction factor w.view.ctx.time w.mine.unbondings) + more) in
      let behind : ℕ × RedelegationLists × UnbondingLists × World Staked H → Result (ℕ × World Stakes H) Over = λ p.
      rest_slashed told (validator_at p.3.mine op) (amount p.0) p.3 >>= λ z. Ok (z.0, beside_entries p.1 p.2 z.1) in
      let hit : Result (UnbondingLists × World Staked H) Over = sources_slashed (staked_unbonds told) plain_following op infraction factor w.mine.redelegations w1.mine.unbondings (staked_in w1) in
      let counts : UnbondingLists × World Staked H → ℕ × RedelegationLists × UnbondingLists × World Staked H = λ x. (counted all, w.mine.redelegations, x.0, x.1) in
      let one : (p : ℕ × RedelegationLists × UnbondingLists × World Staked H) × ((hit >>= λ x. Ok (counts x)) ≡ Ok p) × (behind p ≡ Ok y) = step_parts (hit >>= λ x. Ok (counts x)) behind y (subst (λ b. slash_answers v infraction power factor w b ≡ Ok y) bonded e) in
      let two : (x : UnbondingLists × World Staked H) × (hit ≡ Ok x) × (Path (Result (ℕ × RedelegationLists × UnbondingLists × World Staked H) Over) (Ok (counts x)) (Ok one.0)) = step_parts hit (λ x. Ok (counts x)) one.0 one.1 in
      let next : behind (counts two.0) ≡ Ok y = subst (λ p. behind p ≡ Ok y) (sym {a = counts two.0} (same_ok (counts two.0) one.0 two.2)) one.2 in
      let three : (z : ℕ × World Staked H) × (rest_slashed told (validator_at two.0.1.mine op) (amount (counted all)) two.0.1 ≡ Ok z)
      × (Path (Result (ℕ × World Stakes H) Over) (Ok (z.0, beside_entries w.mine.redelegations two.0.0 z.1)) (Ok y)) =
      step_parts (rest_slashed told (validator_at two.0.1.mine op) (amount (counted all)) two.0.1) (λ z. Ok (z.0, beside_entries w.mine.redelegations two.0.0 z.1)) y next in
      record {
        sources = two.0;
        amount = amount (counted all);
        rest = three.0;
        amount_is = refl;
        of_sources = two.1;
        of_itself = three.1;
        answer = same_ok (three.0.0, beside_entries w.mine.redelegations two.0.0 three.0.1) y three.2;
      }

  -- an unbonded validator is not slashed
  unbonded_stays : (v : Validator) (infraction power factor : ℕ) (w : World Stakes H) (y : ℕ × World Stakes H) → is_unbonded v.status ≡ true
      → slashed_at told plain_slash (Some v) infraction power factor w ≡ Ok y → Path (Result (ℕ × World Stakes H) Over) (Ok (0, w)) (Ok y)
  unbonded_stays v infraction power factor w y unbonded e = subst (λ b. slash_answers v infraction power factor w b ≡ Ok y) unbonded e

-- ---- the slash of a validator itself

-- what its hook and its fact leave: nothing of a validator without tokens, and else a slash event behind the end of the period
told_leaves : (v : Validator) (burn : ℕ) (x y : World Staked Shared) (Q : World Staked Shared → Type 0) → (v.tokens ≡ 0 → Q x)
    → (0 < v.tokens → (z : ℕ × Shared × View × Log) → ended v x.hooks x.view ≡ Ok z → Q (slash_noted v burn z x)) → slash_told distribution_told v burn x ≡ Ok y → Q y
told_leaves v burn x y Q empty some e = by (v.tokens == 0) refl e
  where
    fraction : ℕ
    fraction = slash_fraction burn v.tokens

    none_of : (n : ℕ) → (n == 0) ≡ true → n ≡ 0
    none_of n h = grind (arith, nat_tests)

    some_of : (n : ℕ) → (n == 0) ≡ false → 0 < n
    some_of n h = grind (arith, nat_tests)

    answers : Result (ℕ × Shared × View × Log) Over → Result (World Staked Shared) Over
    answers r = hooked (told_of (r >>= λ z. Ok (event_put v fraction z, z.2, z.3))) x >>= λ t. Ok (over_view (noted (fact.Slashed v.operator fraction burn)) (logged v.operator (log.slashed burn v.tokens fraction) t))

    given : (r : Result (ℕ × Shared × View × Log) Over) → ended v x.hooks x.view ≡ r → 0 < v.tokens → answers r ≡ Ok y → Q y
    given (Ok z) is n h = subst Q (same_ok (slash_noted v burn z x) y h) (some n z is)
    given (Err over) is n h = let stops : Path (Result (World Staked Shared) Over) (Err over) (Ok y) = h in absurd cc

    by : (b : Bool) → (v.tokens == 0) ≡ b → (if b then Ok x else answers (ended v x.hooks x.view)) ≡ Ok y → Q y
    by true is h = subst Q (same_ok x y h) (empty (none_of v.tokens is))
    by false is h = given (ended v x.hooks x.view) refl (some_of v.tokens is) h

-- ---- shares that are unbonded at a target

-- nothing is where there is no validator or no delegation; else shares are unbonded, with any window beside
shares_leave : (who operator : List ℕ) (part : ℕ) (x : World Staked Shared) (z : ℕ × World Staked Shared) (Q : ℕ × World Staked Shared → Type 0) → Q (0, x)
    → ((v : Validator) (held : ℕ) → validator_at x.mine operator ≡ Some v → delegation x.mine who operator ≡ Some held → ((i : Window) → unbonded_shares chain_told v who held part (raised i x) ≡ Ok (z.0, raised i z.1)) → Q z)
    → shares_unbonded distribution_told who operator part x ≡ Ok z → Q z
shares_leave who operator part x z Q none some e = by (validator_at x.mine operator) (delegation x.mine who operator) refl refl e
  where
    by : (v : Option Validator) (held : Option ℕ) → validator_at x.mine operator ≡ v → delegation x.mine who operator ≡ held → unbonded_of distribution_told v held who part x ≡ Ok z → Q z
    by None held is has h = subst Q (same_ok (0, x) z h) none
    by (Some v) None is has h = subst Q (same_ok (0, x) z h) none
    by (Some v) (Some held) is has h = some v held is has (λ i. unbonded_same i v who held part x ∙ ap (raised_answer i) h)

-- the parts of an unbonding at a target, where each validator stands under its own operator
pub record OwnTarget (s : Staked) (who : List ℕ) (t v : Validator) (held part : ℕ) : Type 0 where
  pub found : validator_at s t.operator ≡ Some t
  pub same : v ≡ t
  pub within : part ≤ held

pub own_target : (s : Staked) (operator who : List ℕ) (t v : Validator) (held part : ℕ) → ((o : List ℕ) (x : Validator) → validator_at s o ≡ Some x → x.operator ≡ o) → validator_at s operator ≡ Some t → validator_at s t.operator ≡ Some v
    → delegation s who t.operator ≡ Some held → part ≤ unwrap_or (delegation s who operator) 0 → OwnTarget s who t v held part
own_target s operator who t v held part own is again has within =
    let under : t.operator ≡ operator = own operator t is in
    let found : validator_at s t.operator ≡ Some t = ap (validator_at s) under ∙ is in
    let holds : delegation s who operator ≡ Some held = ap (delegation s who) (sym under) ∙ has in
    record { found = found; same = same_some v t (sym again ∙ found); within = subst (λ r. part ≤ unwrap_or r 0) holds within }
  where
    same_some : (x y : Validator) → Some x ≡ Some y → x ≡ y
    same_some x y h = cc

-- ---- what goes through each step goes through the slash

module _ (R : World Stakes Shared → World Stakes Shared → Type 0) (goes : GoesThrough R) where
  target_goes : (operator who : List ℕ) (part : ℕ) (w : World Stakes Shared) (y : World Staked Shared) → part ≤ unwrap_or (delegation w.mine.staked who operator) 0
      → burned_at_target (staked_unbonds distribution_told) (validator_at w.mine.staked operator) who part (staked_in w) ≡ Ok y → R w (with_staked w.mine y)
  target_goes operator who part w y within e = by (validator_at w.mine.staked operator) refl e
    where
      by : (r : Option Validator) → validator_at w.mine.staked operator ≡ r → burned_at_target (staked_unbonds distribution_told) r who part (staked_in w) ≡ Ok y → R w (with_staked w.mine y)
      by None is h = subst (λ x. R w (with_staked w.mine x)) (same_ok (staked_in w) y h) (goes.stays w)
      by (Some t) is h = some_of (part == 0) h
        where
          out : ℕ × World Staked Shared → World Staked Shared
          out z = over_view (burnt (pool_of t.status) w.view.ctx.params.bond_denom z.0) z.1

          some_of : (b : Bool) → (if b then Ok (staked_in w) else (shares_unbonded distribution_told who t.operator part (staked_in w) >>= λ z. Ok (over_view (burnt (pool_of t.status) w.view.ctx.params.bond_denom z.0) z.1))) ≡ Ok y → R w (with_staked w.mine y)
          some_of true k = subst (λ x. R w (with_staked w.mine x)) (same_ok (staked_in w) y k) (goes.stays w)
          some_of false k =
              let one : (z : ℕ × World Staked Shared) × (shares_unbonded distribution_told who t.operator part (staked_in w) ≡ Ok z) × (Path (Result (World Staked Shared) Over) (Ok (out z)) (Ok y)) =
              step_parts (shares_unbonded distribution_told who t.operator part (staked_in w)) (λ z. Ok (out z)) y k in
              subst (λ x. R w (with_staked w.mine x)) (same_ok (out one.0) y one.2)
              (shares_leave who t.operator part (staked_in w) one.0 (λ z. R w (target_lost t z w)) (goes.stays w) (λ v held again has same. goes.target operator who t v held part w one.0 is again has within same) one.1)

  hit_within : (m s : ℕ) → min m s ≤ s
  hit_within m s = omega arith

  entry_goes : (r : RedelegationLists) (who target : List ℕ) (factor : ℕ) (e : RedelegationEntry) (u : UnbondingLists) (x : World Staked Shared) (y : UnbondingLists × World Staked Shared)
      → entry_hit (staked_unbonds distribution_told) plain_following who target factor e u x ≡ Ok y → R (beside_entries r u x) (beside_entries r y.0 y.1)
  entry_goes r who target factor e u x y h =
      let k : EntryParts distribution_told who target factor e u x y = entry_parts distribution_told who target factor e u x y h in
      let w : World Stakes Shared = beside_entries r u x in
      let w1 : World Stakes Shared = following_lost who target e.created (part_of factor e.initial) w in
      let burned : R w1 (with_staked w1.mine k.left) =
      target_goes target who (shares_hit (staked_unbonds distribution_told) who target k.part x) w1 k.left (hit_within k.part (unwrap_or (delegation x.mine who target) 0)) k.burned in
      subst (λ (z : UnbondingLists × World Staked Shared). R w (beside_entries r z.0 z.1)) k.answer
      (goes.goes_on w w1 (with_staked w1.mine k.left) (goes.following who target e.created (part_of factor e.initial) w) burned)

  targets_go : (r : RedelegationLists) (es : List RedelegationEntry) (who target : List ℕ) (infraction factor : ℕ) (u : UnbondingLists) (x : World Staked Shared) (y : UnbondingLists × World Staked Shared)
      → targets_slashed (staked_unbonds distribution_told) plain_following who target infraction factor es u x ≡ Ok y → R (beside_entries r u x) (beside_entries r y.0 y.1)
  targets_go r [] who target infraction factor u x y h = subst (λ (z : UnbondingLists × World Staked Shared). R (beside_entries r u x) (beside_entries r z.0 z.1)) (same_ok (u, x) y h) (goes.stays (beside_entries r u x))
  targets_go r (e ∷ es) who target infraction factor u x y h = by (is_hit infraction x.view.ctx.time e.created e.completes) (λ v z. targets_go r es who target infraction factor v z y) h
    where
      Rest : UnbondingLists → World Staked Shared → Type 0
      Rest v z = targets_slashed (staked_unbonds distribution_told) plain_following who target infraction factor es v z ≡ Ok y

      by : (b : Bool) → ((v : UnbondingLists) (z : World Staked Shared) → Rest v z → R (beside_entries r v z) (beside_entries r y.0 y.1))
          → (if b then (entry_hit (staked_unbonds distribution_told) plain_following who target factor e u x >>= λ p. targets_slashed (staked_unbonds distribution_told) plain_following who target infraction factor es p.0 p.1)
          else targets_slashed (staked_unbonds distribution_told) plain_following who target infraction factor es u x) ≡ Ok y → R (beside_entries r u x) (beside_entries r y.0 y.1)
      by true rest k =
          let one : (p : UnbondingLists × World Staked Shared) × (entry_hit (staked_unbonds distribution_told) plain_following who target factor e u x ≡ Ok p) × (Rest p.0 p.1) =
          step_parts (entry_hit (staked_unbonds distribution_told) plain_following who target factor e u x) (λ p. targets_slashed (staked_unbonds distribution_told) plain_following who target infraction factor es p.0 p.1) y k in
          goes.goes_on (beside_entries r u x) (beside_entries r one.0.0 one.0.1) (beside_entries r y.0 y.1) (entry_goes r who target factor e u x one.0 one.1) (rest one.0.0 one.0.1 one.2)
      by false rest k = rest u x k

  sources_go : (r ps : RedelegationLists) (operator : List ℕ) (infraction factor : ℕ) (u : UnbondingLists) (x : World Staked Shared) (y : UnbondingLists × World Staked Shared)
      → sources_slashed (staked_unbonds distribution_told) plain_following operator infraction factor ps u x ≡ Ok y → R (beside_entries r u x) (beside_entries r y.0 y.1)
  sources_go r [] operator infraction factor u x y h = subst (λ (z : UnbondingLists × World Staked Shared). R (beside_entries r u x) (beside_entries r z.0 z.1)) (same_ok (u, x) y h) (goes.stays (beside_entries r u x))
  sources_go r (p ∷ ps) operator infraction factor u x y h = by (same_addr p.0.1 operator) (λ v z. sources_go r ps operator infraction factor v z y) h
    where
      Rest : UnbondingLists → World Staked Shared → Type 0
      Rest v z = sources_slashed (staked_unbonds distribution_told) plain_following operator infraction factor ps v z ≡ Ok y

      by : (b : Bool) → ((v : UnbondingLists) (z : World Staked Shared) → Rest v z → R (beside_entries r v z) (beside_entries r y.0 y.1))
          → (if b then (targets_slashed (staked_unbonds distribution_told) plain_following p.0.0 p.0.2 infraction factor p.1 u x >>= λ q. sources_slashed (staked_unbonds distribution_told) plain_following operator infraction factor ps q.0 q.1)
          else sources_slashed (staked_unbonds distribution_told) plain_following operator infraction factor ps u x) ≡ Ok y → R (beside_entries r u x) (beside_entries r y.0 y.1)
      by true rest k =
          let one : (q : UnbondingLists × World Staked Shared) × (targets_slashed (staked_unbonds distribution_told) plain_following p.0.0 p.0.2 infraction factor p.1 u x ≡ Ok q) × (Rest q.0 q.1) =
          step_parts (targets_slashed (staked_unbonds distribution_told) plain_following p.0.0 p.0.2 infraction factor p.1 u x) (λ q. sources_slashed (staked_unbonds distribution_told) plain_following operator infraction factor ps q.0 q.1) y k in
          goes.goes_on (beside_entries r u x) (beside_entries r one.0.0 one.0.1) (beside_entries r y.0 y.1) (targets_go r p.1 p.0.0 p.0.2 infraction factor u x one.0 one.1) (rest one.0.0 one.0.1 one.2)
      by false rest k = rest u x k

  rest_goes : (operator : List ℕ) (amount : ℕ) (w : World Stakes Shared) (y : ℕ × World Staked Shared) → rest_slashed distribution_told (validator_at w.mine.staked operator) amount (staked_in w) ≡ Ok y → R w (with_staked w.mine y.1)
  rest_goes operator amount w y e = by (validator_at w.mine.staked operator) refl e
    where
      by : (r : Option Validator) → validator_at w.mine.staked operator ≡ r → rest_slashed distribution_told r amount (staked_in w) ≡ Ok y → R w (with_staked w.mine y.1)
      by None is h = subst (λ (z : ℕ × World Staked Shared). R w (with_staked w.mine z.1)) (same_ok (0, staked_in w) y h) (goes.stays w)
      by (Some v) is h =
          let burn : ℕ = min amount v.tokens in
          let last : World Staked Shared → World Staked Shared = burnt_with v burn w.view.ctx.params.bond_denom in
          let one : (t : World Staked Shared) × (slash_told distribution_told v burn (staked_in w) ≡ Ok t) × (Path (Result (ℕ × World Staked Shared) Over) (Ok (burn, last t)) (Ok y)) =
          step_parts (slash_told distribution_told v burn (staked_in w)) (λ t. Ok (burn, last t)) y h in
          subst (λ (z : ℕ × World Staked Shared). R w (with_staked w.mine z.1)) (same_ok (burn, last one.0) y one.2)
          (told_leaves v burn (staked_in w) one.0 (λ t. R w (with_staked w.mine (last t))) (λ none. goes.empty operator v burn w is none (hit_within amount v.tokens))
          (λ some z ends. goes.itself operator v burn w z is some (hit_within amount v.tokens) ends) one.1)

  slashed_at_goes : (r : Option Validator) (infraction power factor : ℕ) (w : World Stakes Shared) (y : ℕ × World Stakes Shared) → slashed_at distribution_told plain_slash r infraction power factor w ≡ Ok y → R w y.1
  slashed_at_goes None infraction power factor w y e = subst (λ (z : ℕ × World Stakes Shared). R w z.1) (same_ok (0, w) y e) (goes.stays w)
  slashed_at_goes (Some v) infraction power factor w y e = by (is_unbonded v.status) refl
    where
      by : (b : Bool) → is_unbonded v.status ≡ b → R w y.1
      by true is = subst (λ (z : ℕ × World Stakes Shared). R w z.1) (same_ok (0, w) y (unbonded_stays distribution_told v infraction power factor w y is e)) (goes.stays w)
      by false is =
          let k : SlashParts distribution_told v infraction power factor w y = slash_parts distribution_told v infraction power factor w y is e in
          let w1 : World Stakes Shared = entries_lost v.operator infraction factor w in
          let w2 : World Stakes Shared = beside_entries w.mine.redelegations k.sources.0 k.sources.1 in
          let w3 : World Stakes Shared = beside_entries w.mine.redelegations k.sources.0 k.rest.1 in
          let through : R w1 w2 = sources_go w.mine.redelegations w.mine.redelegations v.operator infraction factor w1.mine.unbondings (staked_in w1) k.sources k.of_sources in
          subst (λ (z : ℕ × World Stakes Shared). R w z.1) k.answer
          (goes.goes_on w w1 w3 (goes.entries v.operator infraction factor w) (goes.goes_on w1 w2 w3 through (rest_goes v.operator k.amount w2 k.rest k.of_itself)))

  pub slashed_goes : (cons : List ℕ) (infraction power factor : ℕ) (w : World Stakes Shared) (y : ℕ × World Stakes Shared) → slashed distribution_told plain_slash cons infraction power factor w ≡ Ok y → R w y.1
  slashed_goes cons infraction power factor w y e = slashed_at_goes (validator_by_cons w.mine.staked cons) infraction power factor w y e

-- ---- votes and evidence

module _ {S H : Type 0} (lent : Slashes S H) where
  -- what a vote does: nothing, or it counts, or its downtime is punished
  vote_cases : (t : Vote) (i : Window) (w : World S H) (P : Result (⊤ × Window × World S H) Over → Type 0) → P (Ok (tt, i, w))
      → ((s : Signing) → signing_of i t.cons ≡ Some s → P (Ok (tt, with cons_cmp i t.cons (record s { votes = not t.signed ∷ s.votes }), w)))
      → ((s : Signing) → signing_of i t.cons ≡ Some s → P (lent.slash t.cons (w.view.ctx.height - 2) t.power w.view.ctx.params.slash_fraction_downtime w >>= λ z.
      Ok (tt, with cons_cmp i t.cons (reset_at w.view.ctx (record s { votes = not t.signed ∷ s.votes })), jail_lent lent t.cons z.1)))
      → P (voted lent t i w)
  vote_cases t i w P stays counts punishes = by (validator_by_cons (lent.stake w.mine) t.cons) (signing_of i t.cons) refl
    where
      by : (v : Option Validator) (s : Option Signing) → signing_of i t.cons ≡ s → P (vote_counted lent v s t i w)
      by None s is = stays
      by (Some v) None is = stays
      by (Some v) (Some s) is = chosen v.jailed (is_downtime w.view.ctx now v)
        where
          now : Signing
          now = record s { votes = not t.signed ∷ s.votes }

          chosen : (a b : Bool) → P (if a then Ok (tt, i, w) else (if b then (lent.slash t.cons (w.view.ctx.height - 2) t.power w.view.ctx.params.slash_fraction_downtime w >>= λ z.
              Ok (tt, with cons_cmp i t.cons (reset_at w.view.ctx now), jail_lent lent t.cons z.1)) else Ok (tt, with cons_cmp i t.cons now, w)))
          chosen true b = stays
          chosen false true = punishes s is
          chosen false false = counts s is

  -- so it leaves
  pub vote_leaves : (t : Vote) (i : Window) (w : World S H) (Q : Window → World S H → Type 0) → Q i w
      → ((s : Signing) → signing_of i t.cons ≡ Some s → Q (with cons_cmp i t.cons (record s { votes = not t.signed ∷ s.votes })) w)
      → ((s : Signing) (z : ℕ × World S H) → signing_of i t.cons ≡ Some s → lent.slash t.cons (w.view.ctx.height - 2) t.power w.view.ctx.params.slash_fraction_downtime w ≡ Ok z
      → Q (with cons_cmp i t.cons (reset_at w.view.ctx (record s { votes = not t.signed ∷ s.votes }))) (jail_lent lent t.cons z.1))
      → IfOk (voted lent t i w) (λ x. Q x.1 x.2)
  vote_leaves t i w Q stays counts punishes =
      vote_cases t i w (λ r. IfOk r (λ x. Q x.1 x.2)) stays counts (λ s is.
      on_bind (lent.slash t.cons (w.view.ctx.height - 2) t.power w.view.ctx.params.slash_fraction_downtime w)
      (λ z. Ok (tt, with cons_cmp i t.cons (reset_at w.view.ctx (record s { votes = not t.signed ∷ s.votes })), jail_lent lent t.cons z.1)) (λ x. Q x.1 x.2) (λ z e. punishes s z is e))

  -- and its limit is that of its slash
  pub vote_stops : (t : Vote) (i : Window) (w : World S H) (over : Over) → voted lent t i w ≡ Err over → lent.slash t.cons (w.view.ctx.height - 2) t.power w.view.ctx.params.slash_fraction_downtime w ≡ Err over
  vote_stops t i w over =
      vote_cases t i w (λ r. r ≡ Err over → lent.slash t.cons (w.view.ctx.height - 2) t.power w.view.ctx.params.slash_fraction_downtime w ≡ Err over) (λ h. absurd cc) (λ s is h. absurd cc) (λ s is h.
      mapped_stops (lent.slash t.cons (w.view.ctx.height - 2) t.power w.view.ctx.params.slash_fraction_downtime w)
      (λ z. (tt, with cons_cmp i t.cons (reset_at w.view.ctx (record s { votes = not t.signed ∷ s.votes })), jail_lent lent t.cons z.1)) over h)

  -- jailing, where the validator is known and not jailed yet
  pub once_leaves : {N : Type 0} (bans : Bans N) (cons : List ℕ) (w : World S H) (Q : World S H → Type 0) → Q w → Q (jail_lent lent cons w) → Q (jailed_if_not lent bans (validator_by_cons (lent.stake w.mine) cons) cons w)
  once_leaves bans cons w Q stays jails = by (validator_by_cons (lent.stake w.mine) cons)
    where
      by : (r : Option Validator) → Q (jailed_if_not lent bans r cons w)
      by None = stays
      by (Some v) = chosen v.jailed
        where
          chosen : (b : Bool) → Q (if b then w else jail_lent lent cons w)
          chosen true = stays
          chosen false = jails

  -- what evidence does: nothing, or it is punished
  evidence_cases : (e : Evidence) (i : Window) (w : World S H) (P : Result (Bool × Window × World S H) Over → Type 0) → P (Ok (false, i, w))
      → ((v : Validator) → P (lent.slash e.cons (e.height - 1) e.power w.view.ctx.params.slash_fraction_double_sign w >>= λ z.
      Ok (true, window_bans.ban e.cons forever i, over_view (noted (fact.Tombstoned v.operator)) (jailed_if_not lent window_bans (validator_by_cons (lent.stake z.1.mine) e.cons) e.cons z.1))))
      → P (equivocation_handled lent window_bans e i w)
  evidence_cases e i w P stays punishes = by (validator_by_cons (lent.stake w.mine) e.cons) (window_bans.tombstoned i e.cons)
    where
      by : (v : Option Validator) (t : Option Bool) → P (evidence_weighed lent window_bans v t e i w)
      by None t = stays
      by (Some v) None = stays
      by (Some v) (Some t) = chosen (is_unbonded v.status || t || is_too_old w.view.ctx e)
        where
          chosen : (a : Bool) → P (if a then Ok (false, i, w) else (lent.slash e.cons (e.height - 1) e.power w.view.ctx.params.slash_fraction_double_sign w >>= λ z.
              Ok (true, window_bans.ban e.cons forever i, over_view (noted (fact.Tombstoned v.operator)) (jailed_if_not lent window_bans (validator_by_cons (lent.stake z.1.mine) e.cons) e.cons z.1))))
          chosen true = stays
          chosen false = punishes v

  -- so it leaves
  pub evidence_leaves : (e : Evidence) (i : Window) (w : World S H) (Q : Window → World S H → Type 0) → Q i w
      → ((v : Validator) (z : ℕ × World S H) → lent.slash e.cons (e.height - 1) e.power w.view.ctx.params.slash_fraction_double_sign w ≡ Ok z
      → Q (window_bans.ban e.cons forever i) (over_view (noted (fact.Tombstoned v.operator)) (jailed_if_not lent window_bans (validator_by_cons (lent.stake z.1.mine) e.cons) e.cons z.1)))
      → IfOk (equivocation_handled lent window_bans e i w) (λ x. Q x.1 x.2)
  evidence_leaves e i w Q stays punishes =
      evidence_cases e i w (λ r. IfOk r (λ x. Q x.1 x.2)) stays (λ v.
      on_bind (lent.slash e.cons (e.height - 1) e.power w.view.ctx.params.slash_fraction_double_sign w)
      (λ z. Ok (true, window_bans.ban e.cons forever i, over_view (noted (fact.Tombstoned v.operator)) (jailed_if_not lent window_bans (validator_by_cons (lent.stake z.1.mine) e.cons) e.cons z.1)))
      (λ x. Q x.1 x.2) (λ z h. punishes v z h))

  -- and its limit is that of its slash
  pub evidence_stops : (e : Evidence) (i : Window) (w : World S H) (over : Over) → equivocation_handled lent window_bans e i w ≡ Err over
      → lent.slash e.cons (e.height - 1) e.power w.view.ctx.params.slash_fraction_double_sign w ≡ Err over
  evidence_stops e i w over =
      evidence_cases e i w (λ r. r ≡ Err over → lent.slash e.cons (e.height - 1) e.power w.view.ctx.params.slash_fraction_double_sign w ≡ Err over) (λ h. absurd cc) (λ v h.
      mapped_stops (lent.slash e.cons (e.height - 1) e.power w.view.ctx.params.slash_fraction_double_sign w)
      (λ z. (true, window_bans.ban e.cons forever i, over_view (noted (fact.Tombstoned v.operator)) (jailed_if_not lent window_bans (validator_by_cons (lent.stake z.1.mine) e.cons) e.cons z.1))) over h)

-- A relation that goes through slashes, and holds of jailing and of a fact of a ban too: then it holds of each vote and of each
-- piece of evidence.
pub record GoesThroughPunishing (R : World Stakes Shared → World Stakes Shared → Type 0) : Type 0 where
  pub slashes : GoesThrough R
  pub jails : (cons : List ℕ) (v : Validator) (w : World Stakes Shared) → validator_by_cons w.mine.staked cons ≡ Some v → R w (after_jailing v w)
  pub bans : (v : Validator) (w : World Stakes Shared) → R w (over_view (noted (fact.Tombstoned v.operator)) w)

module _ (R : World Stakes Shared → World Stakes Shared → Type 0) (goes : GoesThroughPunishing R) where
  pub jail_goes : (cons : List ℕ) (w : World Stakes Shared) → R w (jail_lent (core_slashes distribution_told plain_slash) cons w)
  jail_goes cons w = by (validator_by_cons w.mine.staked cons) refl
    where
      by : (r : Option Validator) → validator_by_cons w.mine.staked cons ≡ r
          → R w (over_view (λ u. record u { facts = jail_told r u.facts }) (over_mine (λ c. record c { staked = jailed_of r c.staked }) w))
      by None is = goes.slashes.stays w
      by (Some v) is = goes.jails cons v w is

  -- what is jailed behind a slash
  pub slash_jail_goes : (cons : List ℕ) (infraction power factor : ℕ) (w : World Stakes Shared) (z : ℕ × World Stakes Shared) → slashed distribution_told plain_slash cons infraction power factor w ≡ Ok z
      → R w (jail_lent (core_slashes distribution_told plain_slash) cons z.1)
  slash_jail_goes cons infraction power factor w z e =
      goes.slashes.goes_on w z.1 (jail_lent (core_slashes distribution_told plain_slash) cons z.1) (slashed_goes R goes.slashes cons infraction power factor w z e) (jail_goes cons z.1)

  pub punished_goes : (e : Evidence) (v : Validator) (w : World Stakes Shared) (z : ℕ × World Stakes Shared)
      → slashed distribution_told plain_slash e.cons (e.height - 1) e.power w.view.ctx.params.slash_fraction_double_sign w ≡ Ok z
      → R w (over_view (noted (fact.Tombstoned v.operator)) (jailed_if_not (core_slashes distribution_told plain_slash) window_bans (validator_by_cons z.1.mine.staked e.cons) e.cons z.1))
  punished_goes e v w z h =
      let x : World Stakes Shared = jailed_if_not (core_slashes distribution_told plain_slash) window_bans (validator_by_cons z.1.mine.staked e.cons) e.cons z.1 in
      let jailed : R z.1 x = once_leaves (core_slashes distribution_told plain_slash) window_bans e.cons z.1 (R z.1) (goes.slashes.stays z.1) (jail_goes e.cons z.1) in
      goes.slashes.goes_on w x (over_view (noted (fact.Tombstoned v.operator)) x)
      (goes.slashes.goes_on w z.1 x (slashed_goes R goes.slashes e.cons (e.height - 1) e.power w.view.ctx.params.slash_fraction_double_sign w z h) jailed) (goes.bans v x)

  -- each vote, beside the window
  pub vote_goes : (t : Vote) (w : State) → IfOk (vote_step t w) (λ x. R (beside_window w) (beside_window x))
  vote_goes t w =
      let u : World Stakes Shared = beside_window w in
      on_bind (voted (core_slashes distribution_told plain_slash) t w.hooks.1 u) (λ x. Ok (with_window x.1 x.2)) (λ x. R u (beside_window x)) (λ x e.
      from_if (λ y. R u y.2) (voted (core_slashes distribution_told plain_slash) t w.hooks.1 u) x e
      (vote_leaves (core_slashes distribution_told plain_slash) t w.hooks.1 u (λ j y. R u y) (goes.slashes.stays u) (λ s is. goes.slashes.stays u)
      (λ s z is h. slash_jail_goes t.cons (w.view.ctx.height - 2) t.power w.view.ctx.params.slash_fraction_downtime u z h)))

  -- and each piece of evidence
  pub evidence_goes : (e : Evidence) (w : State) → IfOk (evidence_step e w) (λ x. R (beside_window w) (beside_window x))
  evidence_goes e w =
      let u : World Stakes Shared = beside_window w in
      on_bind (equivocation_handled (core_slashes distribution_told plain_slash) window_bans e w.hooks.1 u) (λ x. Ok (with_window x.1 x.2)) (λ x. R u (beside_window x)) (λ x h.
      from_if (λ y. R u y.2) (equivocation_handled (core_slashes distribution_told plain_slash) window_bans e w.hooks.1 u) x h
      (evidence_leaves (core_slashes distribution_told plain_slash) e w.hooks.1 u (λ j y. R u y) (goes.slashes.stays u) (λ v z k. punished_goes e v u z k)))
