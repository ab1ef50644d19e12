-- The slash of a validator, with its entries and the redelegations from it, keeps a state sound.
use Rattle.std.proofs.Common.{◌≡◌, ◌∙◌, ℕ, ◌+◌, ◌^◌, ◌≤◌, cond, List, [], ◌∷◌, ◌++◌, Some, Result, Ok, refl, sym, ap, subst, arith, ◌-◌, is_some}
use Rattle.base_types.specs.Orders.{addr_cmp}
use Rattle.base_roles.specs.{declared.{entities.Validator.Validator, params.Ctx.Ctx}, Owing.Lists, Log.Log}
use Rattle.base_roles.specs.{Flow.{◌>>=◌}, World.{View, World, burnt, noted, over_view, over_mine}}
use Rattle.base_roles.specs.Staked.{Staked, bonded_tokens, is_bonded, lists_of, other_tokens, delegation, validator_at, put_validator}
use Rattle.base_roles.specs.{StakeChanges.of_bond, declared.facts.Fact.Fact}
use Rattle.base_roles.specs.declared.facts.Fact.TheVariants as fact
use Rattle.rule_modules.specs.{Slashing.slash_fraction, Unbonding.unbonded_shares}
use Rattle.rule_modules.specs.Chain.{Hooks, Stakes, chain_told, staked_in, with_window, with_staked}
use Rattle.rule_modules.specs.{Distribution.{Shared, slash_recorded, ended}, Owed.entry_balances}
use Rattle.rule_modules.specs.{Sound.{RedelegationsAreSound, UnbondingsAreSound}, Stakes.pool_of}
use Rattle.rule_modules.{specs.{Unbondings.UnbondingLists, Window.Window}, proofs.SoundLemmas.{exact_addr, sound-put}}
use Rattle.rule_modules.proofs.TokenLemmas.{tokens-put}
use Rattle.rule_modules.proofs.SlashParts.{GoesThrough, beside_entries, entries_lost, following_lost, target_lost, burnt_with, event_put, poorer, slash_noted, OwnTarget, own_target}
use Rattle.rule_modules.proofs.BesideLemmas.{raised}
use Rattle.std.specs.BTreeMap.{is_at}
use Rattle.base_decimals.specs.declared.over.Over.{Over}
use Rattle.law_soundness.proofs.{Burns.{IsQuiet, quiet_behind}, Delegating.others}
use Rattle.law_soundness.proofs.{Entries.{from_pairs, to_pairs, PairsFit}, Hooking.stake_hooks}
use Rattle.law_soundness.proofs.{Lists.{all_put, looked_up}, Moves.{HooksFit, Leaves, stake_left, ground_told}}
use Rattle.law_soundness.proofs.{Points.{IsRecorded, StakeFits, StateFits}, Purses.there_still}
use Rattle.law_soundness.proofs.Slashing.{entries_fit, entries_fit_pairs, slash_leaves, stake_burnt, followed_fit, followed_pairs}
use Rattle.law_soundness.proofs.Standing.{own_place, stake_relisted}
use Rattle.law_soundness.proofs.{Unbonding.{HasUnbonded, less_bonded, less_other, unbonded_fits}, Steps.from_if}
use Rattle.base_shares.specs.Shares.{amount_out}

module _ (P : List ℕ → Type 0) (T : List ℕ → ℕ) (i : Window) where
  -- ---- a validator's own slash

  -- tokens leave a validator, without shares
  stake_poorer : (b n : ℕ) (l : Lists) (w : World Staked Hooks) (v : Validator) (a : ℕ) → StakeFits P T b n l w → validator_at w.mine v.operator ≡ Some v → a ≤ v.tokens
      → StakeFits P T (b + cond (is_bonded v.status) a 0) (n + cond (is_bonded v.status) 0 a) l (over_mine (put_validator (record v { tokens = v.tokens - a })) w)
  stake_poorer b n l w v a h found le =
      let u : Validator = record v { tokens = v.tokens - a } in
      let own = h.staked.validators v.operator v found in
      record {
        ground = h.ground;
        staked = sound-put w.view.ctx.height u v w.mine h.staked found (record {
          operator = refl;
          cons = refl;
          shares = refl;
          sound = record { max_rate = own.max_rate; rate = own.rate; max_change = own.max_change; tokens = fewer v.tokens own.tokens; empty = λ z. none v.tokens (own.empty z); unbonding_height = own.unbonding_height };
        });
        bonded = λ d. h.bonded d ∙ ap (of_bond w.view d) (less_bonded (is_bonded v.status) v.tokens a b (bonded_tokens w.mine) _ le (tokens-put is_bonded v.operator v u w.mine.validators h.staked.validators_ascend found));
        not_bonded = λ d. h.not_bonded d ∙ ap (of_bond w.view d) (less_other (is_bonded v.status) v.tokens a n (other_tokens w.mine) _ le (tokens-put others v.operator v u w.mine.validators h.staked.validators_ascend found));
        owed = h.owed;
        shared = h.shared;
        window = h.window;
        recorded = all_put (IsRecorded w.hooks.1) addr_cmp exact_addr v.operator u w.mine.validators
            (looked_up (IsRecorded w.hooks.1) (is_at (addr_cmp v.operator)) (λ x. IsRecorded w.hooks.1 (v.operator, x)) (λ o x t g. g) w.mine.validators v found h.recorded) h.recorded;
      }
    where
      fewer : (t : ℕ) → t ≤ 10 ^ 18 → t - a ≤ 10 ^ 18
      fewer t l = omega (arith, l)

      none : (t : ℕ) → t ≡ 0 → t - a ≡ 0
      none t e = omega (arith, e)

  same_leaves : (v : View) (l : Lists) (d : Shared) → HooksFit P T v l d → Leaves P T v l d v
  same_leaves v l d h = record { ctx = refl; ground = h.ground; bonded = λ e. refl; not_bonded = λ e. refl; owed = h.owed; shared = h.shared }

  noted_leaves : (v : View) (l : Lists) (d : Shared) (u : View) (f : Fact) → IsQuiet f → Leaves P T v l d u → Leaves P T v l d (noted f u)
  noted_leaves v l d u f q k = record { ctx = k.ctx; ground = ground_told P T (λ facts. facts ++ f ∷ []) u (quiet_behind u.facts f q) k.ground; bonded = k.bonded; not_bonded = k.not_bonded; owed = k.owed; shared = k.shared }

  -- ---- the slash

  -- a state beside the window, after a slash
  pub record SlashLeft (w x : World Stakes Shared) : Type 0 where
    pub fits : StateFits P T (with_window i x)
    pub ctx : x.view.ctx ≡ w.view.ctx
    pub pairs : (m : ℕ) → PairsFit m w.mine.unbondings → PairsFit m x.mine.unbondings

  -- all records fit, where validators, delegations and the ground do with these unbonding entries
  beside_left : (w : World Stakes Shared) (u : UnbondingLists) (x : World Staked Shared) → StateFits P T (with_window i w) → StakeFits P T 0 (entry_balances u) (lists_of x.mine) (raised i x) → x.view.ctx ≡ w.view.ctx
      → ((m : ℕ) → PairsFit m w.mine.unbondings → PairsFit m u) → SlashLeft w (beside_entries w.mine.redelegations u x)
  beside_left w u x h k same pairs =
      let height : ℕ = w.view.ctx.height in
      record {
        fits = record {
          stake = k;
          unbondings = subst (λ (c : Ctx). UnbondingsAreSound c.height u) (sym same) (from_pairs height u (pairs height (to_pairs height w.mine.unbondings h.unbondings)));
          redelegations = subst (λ (c : Ctx). RedelegationsAreSound c.height w.mine.redelegations) (sym same) h.redelegations;
        };
        ctx = same;
        pairs = pairs;
      }

  entries_left : (operator : List ℕ) (infraction factor : ℕ) (w : World Stakes Shared) → StateFits P T (with_window i w) → SlashLeft w (entries_lost operator infraction factor w)
  entries_left operator infraction factor w h =
      let u : UnbondingLists = w.mine.unbondings in
      let l : Lists = lists_of w.mine.staked in
      let w1 : World Stakes Shared = entries_lost operator infraction factor w in
      let k = entries_fit P T operator infraction factor u 0 l (staked_in (with_window i w)) (subst (λ m. StakeFits P T 0 m l (staked_in (with_window i w))) (none_first (entry_balances u)) h.stake) in
      beside_left w w1.mine.unbondings (staked_in w1) h (subst (λ m. StakeFits P T 0 m l (raised i (staked_in w1))) (sym (none_first (entry_balances w1.mine.unbondings))) k.0) k.1
      (λ m g. entries_fit_pairs P T operator infraction factor m u w.view g)
    where
      none_first : (n : ℕ) → n ≡ 0 + n
      none_first n = omega arith

  following_left : (who operator : List ℕ) (from tokens : ℕ) (w : World Stakes Shared) → StateFits P T (with_window i w) → SlashLeft w (following_lost who operator from tokens w)
  following_left who operator from tokens w h =
      let u : UnbondingLists = w.mine.unbondings in
      let height : ℕ = w.view.ctx.height in
      beside_left w (following_lost who operator from tokens w).mine.unbondings (staked_in (following_lost who operator from tokens w)) h
      (followed_fit P T height from tokens who operator u (lists_of w.mine.staked) (staked_in (with_window i w)) (to_pairs height u h.unbondings) h.stake) refl (λ m g. followed_pairs P T m from tokens who operator u w.view g)

  target_left : (who : List ℕ) (t v : Validator) (held part : ℕ) (w : World Stakes Shared) (z : ℕ × World Staked Shared) → OwnTarget w.mine.staked who t v held part → delegation w.mine.staked who t.operator ≡ Some held
      → ((j : Window) → unbonded_shares chain_told v who held part (raised j (staked_in w)) ≡ Ok (z.0, raised j z.1)) → StateFits P T (with_window i w) → SlashLeft w (target_lost t z w)
  target_left who t v held part w z own has same h =
      let n : ℕ = entry_balances w.mine.unbondings in
      let x : World Staked Hooks = raised i (staked_in w) in
      let y : ℕ × World Staked Hooks = (z.0, raised i z.1) in
      let out : ℕ = amount_out t.tokens t.shares part in
      let e : unbonded_shares chain_told t who held part x ≡ Ok y = subst (λ (u : Validator). unbonded_shares chain_told u who held part x ≡ Ok y) own.same (same i) in
      let k : HasUnbonded P T 0 n x t out y = from_if (HasUnbonded P T 0 n x t out) (unbonded_shares chain_told t who held part x) y e (unbonded_fits P T 0 n x t who held part h.stake own.found has own.within) in
      let fits : StakeFits P T (0 + cond (is_bonded t.status) z.0 0) (n + cond (is_bonded t.status) 0 z.0) (lists_of z.1.mine) (raised i z.1) =
      subst (λ m. StakeFits P T (0 + cond (is_bonded t.status) m 0) (n + cond (is_bonded t.status) 0 m) (lists_of z.1.mine) (raised i z.1)) (sym k.amount) k.fits in
      beside_left w w.mine.unbondings (over_view (burnt (pool_of t.status) w.view.ctx.params.bond_denom z.0) z.1) h
      (subst (λ (c : Ctx). StakeFits P T 0 n (lists_of z.1.mine) (over_view (burnt (pool_of t.status) c.params.bond_denom z.0) (raised i z.1))) k.ctx (stake_burnt P T (is_bonded t.status) 0 n (lists_of z.1.mine) (raised i z.1) z.0 fits))
      k.ctx (λ m g. g)

  -- a validator burns an amount, where what stands behind its hook fits
  burnt_left : (operator : List ℕ) (v : Validator) (burn : ℕ) (w : World Stakes Shared) (d : Shared) (u : View) (k : Log) → validator_at w.mine.staked operator ≡ Some v → burn ≤ v.tokens
      → StateFits P T (with_window i w) → ((found : validator_at w.mine.staked v.operator ≡ Some v) → Leaves P T w.view (lists_of w.mine.staked) d u)
      → SlashLeft w (with_staked w.mine (burnt_with v burn w.view.ctx.params.bond_denom (record { mine = w.mine.staked; hooks = d; view = u; log = k })))
  burnt_left operator v burn w d u k is within h leaves =
      let found : validator_at w.mine.staked v.operator ≡ Some v = own_place P T w.view.ctx.height w.mine.staked operator v h.stake.staked is in
      let l : Lists = lists_of w.mine.staked in
      let n : ℕ = entry_balances w.mine.unbondings in
      let left : Leaves P T w.view l d u = leaves found in
      let x : World Staked Shared = record { mine = w.mine.staked; hooks = d; view = u; log = k } in
      let y : World Staked Shared = over_mine (put_validator (poorer v burn)) x in
      let gone = stake_burnt P T (is_bonded v.status) 0 n l (raised i y) burn (stake_poorer 0 n l (raised i x) v burn (stake_left P T 0 n l l (staked_in (with_window i w)) d u k h.stake left) found within) in
      let out : World Staked Shared = burnt_with v burn w.view.ctx.params.bond_denom x in
      beside_left w w.mine.unbondings out h
      (stake_relisted P T 0 n l (lists_of out.mine) (raised i out) (subst (λ (c : Ctx). StakeFits P T 0 n l (over_view (burnt (pool_of v.status) c.params.bond_denom burn) (raised i y))) left.ctx gone)
      (λ o. there_still w.mine.staked.validators v.operator o v (poorer v burn) found) (λ who o. refl))
      left.ctx (λ m g. g)

  -- behind the end of the period, a slash event and a fact
  noted_left : (v : Validator) (burn : ℕ) (w : World Stakes Shared) (z : ℕ × Shared × View × Log) → ended v w.hooks w.view ≡ Ok z → StateFits P T (with_window i w) → validator_at w.mine.staked v.operator ≡ Some v
      → Leaves P T w.view (lists_of w.mine.staked) (event_put v (slash_fraction burn v.tokens) z) (noted (fact.Slashed v.operator (slash_fraction burn v.tokens) burn) z.2)
  noted_left v burn w z e h found =
      let l : Lists = lists_of w.mine.staked in
      let d : Shared = event_put v fraction z in
      noted_leaves w.view l d z.2 (fact.Slashed v.operator fraction burn) (λ x. refl)
      (from_if (λ (q : Shared × View × Log). Leaves P T w.view l q.0 q.1) (slash_recorded v fraction w.hooks w.view) (d, z.2, z.3) (ap (λ (r : Result (ℕ × Shared × View × Log) Over). r >>= λ t. Ok (event_put v fraction t, t.2, t.3)) e)
      (slash_leaves P T v fraction w.view l w.hooks (stake_hooks P T 0 (entry_balances w.mine.unbondings) l (staked_in (with_window i w)) h.stake) (ap is_some found) most))
    where
      fraction : ℕ
      fraction = slash_fraction burn v.tokens

      most : fraction ≤ 10 ^ 18
      most = omega arith

  -- what was sound stays so, in a slash
  abbrev pub StaysSound : World Stakes Shared → World Stakes Shared → Type 0
  StaysSound w x = StateFits P T (with_window i w) → SlashLeft w x

  pub slashes_stay_sound : GoesThrough StaysSound
  slashes_stay_sound = record {
    stays = λ w h. record { fits = h; ctx = refl; pairs = λ m g. g };
    goes_on = λ w x y p q h. (let k = p h in let j = q k.fits in record { fits = j.fits; ctx = j.ctx ∙ k.ctx; pairs = λ m g. j.pairs m (k.pairs m g) });
    entries = λ operator infraction factor w h. entries_left operator infraction factor w h;
    following = λ who operator from tokens w h. following_left who operator from tokens w h;
    target = λ operator who t v held part w z is again has within same h. target_left who t v held part w z (own_target w.mine.staked operator who t v held part h.stake.staked.operators is again has within) has same h;
    empty = λ operator v burn w is none within h.
        burnt_left operator v burn w w.hooks w.view w.log is within h (λ found. same_leaves w.view (lists_of w.mine.staked) w.hooks (stake_hooks P T 0 (entry_balances w.mine.unbondings) (lists_of w.mine.staked) (staked_in (with_window i w)) h.stake));
    itself = λ operator v burn w z is some within e h. (
        let out : World Staked Shared = slash_noted v burn z (staked_in w) in
        burnt_left operator v burn w out.hooks out.view out.log is within h (noted_left v burn w z e h));
  }
