-- Redelegating keeps a state sound.
use Rattle.std.proofs.Common.{◌≡◌, ◌∙◌, ℕ, ◌+◌, ◌^◌, ◌<◌, ◌≤◌, ◌==◌, Bool, true, false, cond, List, [], ◌∷◌, ◌++◌, length, Some, None, Option, refl, sym, ap, subst, arith, ◌||◌, All, IfOk, is_none, nat_le, unwrap_or, if◌then◌else◌, Equal}
use Rattle.std.specs.{BTreeMap.is_at, Cmp.{IsTotalOrder, on_total, then_total}, List.AllByRecursion}
use Rattle.std.{specs.{List.Sorted.IsStrictlySortedBy, Map.keys_of}, proofs.lemmas.Bool.Decides.nat_tests}
use Rattle.std.proofs.lemmas.Map.Lookups.{exact_bytes, exact_pairs}
use Rattle.std.proofs.lemmas.List.Elements.{All-from_recursion, recursion_from_All}
use Rattle.base_coins.specs.declared.coin.Coin.{Coin}
use Rattle.base_roles.specs.declared.entities.{RedelegationEntry.RedelegationEntry, Validator.Validator}
use Rattle.base_roles.specs.declared.params.Ctx.{Ctx}
use Rattle.base_roles.specs.declared.refusal.Refusal.TheVariants.{WrongDenom, NonPositive, NoValidator, SelfRedelegation, Transitive, RedelegationsFull, TinyRedelegation, Overflow}
use Rattle.base_roles.specs.{World.World, Entries.{at, number_at}, Orders.{pair_cmp, same_addr, triple_cmp}}
use Rattle.base_roles.specs.Staked.{Staked, is_bonded, lists_of, delegation, validator_at}
use Rattle.rule_modules.specs.Delegating.{pool, delegated, is_wrong, shares_given}
use Rattle.rule_modules.specs.{Chain.{Hooks, State, chain_told, staked_in}, Effects.begin_redelegate}
use Rattle.rule_modules.specs.Owed.{entry_balances}
use Rattle.rule_modules.specs.Redelegations.{RedelegationLists, appended, begin_info, is_transitive, redelegated, redelegations_of}
use Rattle.rule_modules.specs.Sound.{RedelegationIsSound, RedelegationsAreSound, UnbondingsAreSound, ValidatorIsSound}
use Rattle.rule_modules.specs.{Stakes.is_unbonding, Unbonding.{shares_to_unbond, unbonded_shares}}
use Rattle.rule_modules.{specs.Unbondings.completion, proofs.GoingLemmas.{on_found, on_next, on_stop}}
use Rattle.rule_modules.proofs.{EntryLemmas.ascend-put, OrderLemmas.addr_total}
use Rattle.rule_modules.proofs.SoundLemmas.{exact_pair, held_within, shares_at}
use Rattle.law_soundness.proofs.{Delegating.delegated_fits, Leaving.unbonding_within}
use Rattle.law_soundness.proofs.{Lists.{all_put, joined_all, looked_up, weaker}, Moves.keeps}
use Rattle.law_soundness.proofs.{Points.{StakeFits, StateFits, StateLeft, WholeEntries}, Standing.own_place}
use Rattle.law_soundness.proofs.{Steps.{on_lifted_then, on_then}, Unbonding.{HasUnbonded, out_within, unbonded_fits}}
use Rattle.law_soundness.specs.StepLaws.{RedelegatingKeepsSoundness}
use Rattle.base_shares.specs.Shares.{amount_out}
use Rattle.base_types.specs.Orders.{addr_cmp}

pub triple_total : IsTotalOrder triple_cmp
triple_total = then_total (on_total (λ (t : List ℕ × List ℕ × List ℕ). t.0) addr_total) (then_total (on_total (λ (t : List ℕ × List ℕ × List ℕ). t.1) addr_total) (on_total (λ (t : List ℕ × List ℕ × List ℕ). t.2) addr_total))

pub exact_triple : (a b : List ℕ × List ℕ × List ℕ) → triple_cmp a b ≡ Equal → a ≡ b
exact_triple a b h = let both = exact_pairs addr_cmp pair_cmp exact_bytes exact_pair (a.0, (a.1, a.2)) (b.0, (b.1, b.2)) h in λ i. ((both i).0, (both i).1.0, (both i).1.1)

-- ---- entries of a triple

pub record TripleFits (height : ℕ) (es : List RedelegationEntry) : Type 0 where
  pub some : 0 < length es
  pub most : length es ≤ 100
  pub entries : AllByRecursion (RedelegationIsSound height) es

pub record TriplesFit (height : ℕ) (r : RedelegationLists) : Type 0 where
  pub ascend : IsStrictlySortedBy triple_cmp (keys_of r)
  pub triples : AllByRecursion (λ p. TripleFits height p.1) r

pub to_triples : (height : ℕ) (r : RedelegationLists) → RedelegationsAreSound height r → TriplesFit height r
to_triples height r h = record { ascend = h.ascend; triples = each_triple r (recursion_from_All (λ p. 0 < length p.1) r h.some) (recursion_from_All (λ p. length p.1 ≤ 100) r h.most) (recursion_from_All (λ p. All (RedelegationIsSound height) p.1) r h.entries) }
  where
    each_triple : (v : RedelegationLists) → AllByRecursion (λ p. 0 < length p.1) v → AllByRecursion (λ p. length p.1 ≤ 100) v → AllByRecursion (λ p. All (RedelegationIsSound height) p.1) v → AllByRecursion (λ p. TripleFits height p.1) v
    each_triple [] a b c = tt
    each_triple (p ∷ ps) a b c = (record { some = a.0; most = b.0; entries = recursion_from_All (RedelegationIsSound height) p.1 c.0 }, each_triple ps a.1 b.1 c.1)

pub from_triples : (height : ℕ) (r : RedelegationLists) → TriplesFit height r → RedelegationsAreSound height r
from_triples height r h = record {
  ascend = h.ascend;
  some = All-from_recursion (λ p. 0 < length p.1) r (weaker (λ p. TripleFits height p.1) (λ p. 0 < length p.1) (λ p k. k.some) r h.triples);
  most = All-from_recursion (λ p. length p.1 ≤ 100) r (weaker (λ p. TripleFits height p.1) (λ p. length p.1 ≤ 100) (λ p k. k.most) r h.triples);
  entries = All-from_recursion (λ p. All (RedelegationIsSound height) p.1) r (weaker (λ p. TripleFits height p.1) (λ p. All (RedelegationIsSound height) p.1) (λ p k. All-from_recursion (RedelegationIsSound height) p.1 k.entries) r h.triples);
}

-- one entry behind others
length_behind : (es : List RedelegationEntry) (e : RedelegationEntry) → length (es ++ e ∷ []) ≡ length es + 1
length_behind [] e = omega arith
length_behind (x ∷ es) e = omega (arith, length_behind es e)

own_triple : (height : ℕ) (r : RedelegationLists) (who source target : List ℕ) → TriplesFit height r → AllByRecursion (RedelegationIsSound height) (redelegations_of r who source target)
own_triple height r who source target h = by (at triple_cmp r (who, source, target)) refl
  where
    by : (o : Option (List RedelegationEntry)) → at triple_cmp r (who, source, target) ≡ o → AllByRecursion (RedelegationIsSound height) (unwrap_or o [])
    by None e = tt
    by (Some es) e = looked_up (λ (p : (List ℕ × List ℕ × List ℕ) × List RedelegationEntry). TripleFits height p.1) (is_at (triple_cmp (who, source, target))) (AllByRecursion (RedelegationIsSound height)) (λ k x t g. g.entries) r es e h.triples

appended_fits : (height : ℕ) (who source target : List ℕ) (t : Option (ℕ × ℕ)) (amount shares : ℕ) (r : RedelegationLists) → TriplesFit height r → length (redelegations_of r who source target) + 1 ≤ 100 → amount ≤ 10 ^ 18
    → ((b : ℕ × ℕ) → t ≡ Some b → b.0 ≤ height) → TriplesFit height (appended who source target t amount shares r)
appended_fits height who source target None amount shares r h few most created = h
appended_fits height who source target (Some t) amount shares r h few most created =
    let es = redelegations_of r who source target in
    let e : RedelegationEntry = record { created = t.0; completes = t.1; initial = amount; shares_dst = shares } in
    let n = length_behind es e in
    record {
      ascend = ascend-put triple_cmp triple_total r (who, source, target) (es ++ e ∷ []) h.ascend;
      triples = all_put (λ (p : (List ℕ × List ℕ × List ℕ) × List RedelegationEntry). TripleFits height p.1) triple_cmp exact_triple (who, source, target) (es ++ e ∷ []) r
          (record {
            some = omega (arith, n);
            most = omega (arith, n, few);
            entries = joined_all (RedelegationIsSound height) es (e ∷ []) (own_triple height r who source target h) (record { initial = most; created = created t refl }, tt);
          }) h.triples;
    }

-- an entry is of a height that was
begun_height : (v : Validator) (gone : Bool) (c : Ctx) → v.unbonding_height ≤ c.height → (b : ℕ × ℕ) → begin_info v gone c ≡ Some b → b.0 ≤ c.height
begun_height v gone c h b e = by (is_bonded v.status || gone) (is_unbonding v.status) e
  where
    first_of : (x : ℕ × ℕ) → Some x ≡ Some b → x.0 ≡ b.0
    first_of x f = let same : x ≡ b = cc in ap (λ (y : ℕ × ℕ). y.0) same

    by : (s t : Bool) → (if s then Some (c.height, completion c) else if t then Some (v.unbonding_height, v.unbonding_time) else None) ≡ Some b → b.0 ≤ c.height
    by true t f = let same = first_of (c.height, completion c) f in omega (arith, same)
    by false true f = let same = first_of (v.unbonding_height, v.unbonding_time) f in omega (arith, same, h)
    by false false f = absurd cc

module _ (P : List ℕ → Type 0) (T : List ℕ → ℕ) where
  -- validators, delegations and redelegation entries after the message
  record TriplesLeft (n : ℕ) (w : World Staked Hooks) (r : RedelegationLists) (x : World Staked Hooks) : Type 0 where
    fits : StakeFits P T 0 n (lists_of x.mine) x
    ctx : x.view.ctx ≡ w.view.ctx
    triples : TriplesFit w.view.ctx.height r

  -- what goes out is within the tokens
  out_most : (v : Validator) (held part : ℕ) (n : ℕ) (source who : List ℕ) (w : World Staked Hooks) → StakeFits P T 0 n (lists_of w.mine) w → validator_at w.mine source ≡ Some v → delegation w.mine who source ≡ Some held → part ≤ held → amount_out v.tokens v.shares part ≤ v.tokens
  out_most v held part n source who w h found has within =
      let number : number_at pair_cmp w.mine.delegations (source, who) ≡ held = ap (λ r. unwrap_or r 0) has in
      let all : v.shares ≡ shares_at w.mine.delegations source = h.staked.shares source v found in
      let inside = held_within w.mine.delegations source who in
      let some : 0 < held = h.staked.positive (source, who) held has in
      out_within v.tokens v.shares part (omega (arith, number, all, inside, some)) (omega (arith, number, all, inside, within))

  redelegated_fits : (who source target : List ℕ) (coin : Coin) (r : RedelegationLists) (n : ℕ) (w : World Staked Hooks) → StakeFits P T 0 n (lists_of w.mine) w → TriplesFit w.view.ctx.height r
      → IfOk (redelegated chain_told who source target coin r w) (λ x. TriplesLeft n w x.1 x.2)
  redelegated_fits who source target coin r n w h triples =
      let height = w.view.ctx.height in
      on_stop (coin.amount == 0) NonPositive _ _ (λ a. on_found (validator_at w.mine source) NoValidator _ _ (λ v found.
      on_then (shares_to_unbond (delegation w.mine who source) v coin.amount) _ (λ x. (delegation w.mine who source ≡ Some x.0) × (x.1 ≤ x.0)) _ (unbonding_within (delegation w.mine who source) v coin.amount) (λ x within.
      on_stop (is_wrong coin w.view) WrongDenom _ _ (λ b. on_stop (same_addr source target) SelfRedelegation _ _ (λ apart. on_found (validator_at w.mine target) NoValidator _ _ (λ t there.
      on_stop (is_transitive r who source) Transitive _ _ (λ c. on_stop (nat_le w.view.ctx.params.max_entries (length (redelegations_of r who source target))) RedelegationsFull _ _ (λ full.
      let amount = amount_out v.tokens v.shares x.1 in
      on_stop (amount == 0) TinyRedelegation _ _ (λ d. on_next (shares_given t amount) _ _ (λ issued e.
      let same : v.operator ≡ source = h.staked.operators source v found in
      let target_is : t.operator ≡ target = h.staked.operators target t there in
      let own : ValidatorIsSound height v = h.staked.validators source v found in
      on_lifted_then Overflow (unbonded_shares chain_told v who x.0 x.1 w) _ (HasUnbonded P T 0 n w v amount) _
      (unbonded_fits P T 0 n w v who x.0 x.1 h (own_place P T height w.mine source v h.staked found) (ap (delegation w.mine who) same ∙ within.0) within.1) (λ y k.
      let fits = subst (λ m. StakeFits P T (0 + cond (is_bonded v.status) m 0) (n + cond (is_bonded v.status) 0 m) (lists_of y.1.mine) y.1) (sym k.amount) k.fits in
      let still : validator_at y.1.mine t.operator ≡ Some t = k.others t.operator ((λ i. same_addr (same i) (target_is i)) ∙ apart) ∙ own_place P T height w.mine target t h.staked there in
      on_then (delegated chain_told t who y.0 (pool v.status) y.1) _ (λ z. StakeFits P T 0 n (lists_of z.1.mine) z.1 × (z.1.view.ctx ≡ y.1.view.ctx)) _ (delegated_fits P T t who y.0 (pool v.status) 0 n y.1 fits still) (λ z j. record {
        fits = j.0;
        ctx = j.1 ∙ k.ctx;
        triples = appended_fits height who source target (begin_info v (is_none (validator_at y.1.mine source)) w.view.ctx) y.0 z.0 r triples
            (not_full (length (redelegations_of r who source target)) w.view.ctx.params.max_entries full h.ground.order.params.max_entries_most)
            (at_most y.0 amount v.tokens k.amount (out_most v x.0 x.1 n source who w h found within.0 within.1) own.tokens)
            (begun_height v (is_none (validator_at y.1.mine source)) w.view.ctx own.unbonding_height);
      }))))))))))))
    where
      not_full : (m most : ℕ) → nat_le most m ≡ false → most ≤ 100 → m + 1 ≤ 100
      not_full m most e p = grind (arith, nat_tests)

      at_most : (y a t : ℕ) → y ≡ a → a ≤ t → t ≤ 10 ^ 18 → y ≤ 10 ^ 18
      at_most y a t e f g = omega (arith, e, f, g)

  pub redelegate_fits : (who source target : List ℕ) (coin : Coin) (w : State) → StateFits P T w → IfOk (begin_redelegate who source target coin w) (StateLeft P T w)
  redelegate_fits who source target coin w h =
      on_then (redelegated chain_told who source target coin w.mine.redelegations (staked_in w)) _ (λ x. TriplesLeft (entry_balances w.mine.unbondings) (staked_in w) x.1 x.2) _
      (redelegated_fits who source target coin w.mine.redelegations (entry_balances w.mine.unbondings) (staked_in w) h.stake (to_triples w.view.ctx.height w.mine.redelegations h.redelegations)) (λ x k. record {
        fits = record {
          stake = k.fits;
          unbondings = subst (λ (c : Ctx). UnbondingsAreSound c.height w.mine.unbondings) (sym k.ctx) h.unbondings;
          redelegations = subst (λ (c : Ctx). RedelegationsAreSound c.height x.1) (sym k.ctx) (from_triples w.view.ctx.height x.1 k.triples);
        };
        whole = λ j. subst (λ (c : Ctx). AllByRecursion (λ p. WholeEntries c.height p.1) w.mine.unbondings) (sym k.ctx) j;
        ctx = k.ctx;
      })

pub redelegating_keeps_soundness : RedelegatingKeepsSoundness
redelegating_keeps_soundness who source target coin = keeps (begin_redelegate who source target coin) (λ P T w h. redelegate_fits P T who source target coin w h)
