-- The rule of the bonded set from its parts, and what the staking accounts hold behind it.
use Rattle.std.proofs.Common.{◌≡◌, ◌∙◌, ℕ, ◌+◌, ◌<◌, ◌≤◌, ◌==◌, Bool, true, false, cond, List, [], ◌∷◌, refl, sym, ap, subst, arith, ◌-◌, nat_lt, if◌then◌else◌, Result, Ok, Err}
use Rattle.std.specs.{List.{AllByRecursion, Sorted.IsStrictlySortedBy}, Map.{keys_of, values_of}}
use Rattle.std.proofs.lemmas.Bool.Decides.{nat_tests}
use Rattle.base_decimals.specs.declared.over.Over.{Over}
use Rattle.base_types.specs.declared.account.Account.TheVariants as account
use Rattle.base_types.specs.declared.account.Module.TheVariants as holder
use Rattle.base_types.specs.{declared.status.BondStatus.TheVariants.{Bonded, Unbonding}, Orders.addr_cmp}
use Rattle.base_coins.specs.Coins.{Money}
use Rattle.base_roles.specs.declared.{entities.Validator.Validator, faults.HookFault.HookFault, params.Ctx.Ctx}
use Rattle.base_roles.specs.{Holdings.{IsBacked, balance_of}, Hooks.{Tells, Stand}, Owing.Lists}
use Rattle.base_roles.specs.{Staked.{Staked, bonded_tokens, other_tokens, is_bonded}, StakeChanges.HoldsStake}
use Rattle.base_roles.specs.{Flow.{◌>>=◌, each}, World.{View, World, Told, sent, noted, over_view}}
use Rattle.base_roles.specs.declared.calls.Hook.{Hook}
use Rattle.base_roles.specs.declared.facts.Fact.TheVariants as fact
use Rattle.base_roles.specs.declared.faults.HookFault.TheVariants as hook
use Rattle.rule_modules.specs.{Amounts.bond_coins, Answers.Leaves}
use Rattle.rule_modules.specs.BondedSet.{HaveOwnOperators, joined_set, left_set, set_updated, joining_of, leaving_of, tokens_of, difference_moved}
use Rattle.rule_modules.specs.{Delegating.pool, Unbondings.completion}
use Rattle.mod_staking.proofs.GroundLemmas.{paid-accounts, stand-paid}
use Rattle.mod_bonded_set.specs.Sets.{AllStand, all_joined, all_left, all_leavings_noted}
use Rattle.mod_bonded_set.proofs.{JoinedLemmas.memory_wanting, LeftLemmas.each-left}
use Rattle.mod_bonded_set.proofs.TokenLemmas.{tokens-joined, tokens-left}

-- ---- the rule

module _ {H : Type 0} (told : H → Hook → View → Told H) (w : World Staked H) where
  abbrev p_reduction : ℕ
  p_reduction = w.view.ctx.params.power_reduction

  abbrev p_most : ℕ
  p_most = w.view.ctx.params.max_validators

  abbrev joining : List Validator
  joining = joining_of p_reduction p_most (values_of w.mine.validators)

  abbrev leaving : List Validator
  leaving = leaving_of p_reduction p_most (values_of w.mine.validators)

  -- what the rule leaves where those that join have joined
  abbrev updated : World Staked H → World Staked H
  updated w1 = record {
    mine = all_left w1.view.ctx.height (completion w1.view.ctx) leaving w1.mine;
    hooks = w1.hooks;
    view = difference_moved (tokens_of joining) (tokens_of leaving) (all_leavings_noted leaving w1.view);
    log = w1.log;
  }

  -- the last two steps of the rule
  abbrev ended : Result (World Staked H) Over → Result (World Staked H) Over
  ended r = r >>= λ w1. each (left_set told) leaving w1 >>= λ w2. Ok (over_view (difference_moved (tokens_of joining) (tokens_of leaving)) w2)

  ended-ok : (w1 : World Staked H) → ended (Ok w1) ≡ Ok (updated w1)
  ended-ok w1 = ap (λ r. r >>= λ w2. Ok (over_view (difference_moved (tokens_of joining) (tokens_of leaving)) w2)) (each-left told leaving w1.log w1.mine w1.hooks w1.view)

  pub leaves-updated : (s1 s2 : Staked) (holds : H → Type 0) (v1 v2 v3 : View) → Leaves (each (joined_set told) joining w) s1 holds v1 (Ok tt) → s2 ≡ all_left v1.ctx.height (completion v1.ctx) leaving s1 → v2 ≡ all_leavings_noted leaving v1
      → v3 ≡ difference_moved (tokens_of joining) (tokens_of leaving) v2 → Leaves (set_updated told w) s2 holds v3 (Ok tt)
  leaves-updated s1 s2 holds v1 v2 v3 a left noted moved = by (each (joined_set told) joining w) a
    where
      by : (r : Result (World Staked H) Over) → Leaves r s1 holds v1 (Ok tt) → Leaves (ended r) s2 holds v3 (Ok tt)
      by (Err over) b = absurd b
      by (Ok w1) b =
          let mine : s2 ≡ all_left w1.view.ctx.height (completion w1.view.ctx) leaving w1.mine = left ∙ (λ i. all_left (b.2 i).ctx.height (completion (b.2 i).ctx) leaving (b.0 i)) in
          let view : v3 ≡ difference_moved (tokens_of joining) (tokens_of leaving) (all_leavings_noted leaving w1.view) = moved ∙ (λ i. difference_moved (tokens_of joining) (tokens_of leaving) ((noted ∙ ap (all_leavings_noted leaving) b.2) i)) in
          subst (λ r. Leaves r s2 holds v3 (Ok tt)) (sym (ended-ok w1)) (mine, b.1, view)

  -- where one that joins exceeds, the rule does
  pub leaves-stopped : (s1 : Staked) (holds : H → Type 0) (v1 : View) (fault : HookFault) → Leaves (each (joined_set told) joining w) s1 holds v1 (Err fault) → Leaves (set_updated told w) s1 holds v1 (Err fault)
  leaves-stopped s1 holds v1 fault a = by (each (joined_set told) joining w) fault a
    where
      by : (r : Result (World Staked H) Over) (f : HookFault) → Leaves r s1 holds v1 (Err f) → Leaves (ended r) s1 holds v1 (Err f)
      by (Err over) f b = b
      by (Ok w1) (hook.Over over) b = absurd b
      by (Ok w1) hook.NoMemory b = memory_wanting (ended (Ok w1)) s1 holds v1

-- ---- the accounts

noted-bank : (vs : List Validator) (v : View) → ((all_leavings_noted vs v).bank ≡ v.bank) × ((all_leavings_noted vs v).ctx ≡ v.ctx)
noted-bank [] v = (refl, refl)
noted-bank (x ∷ xs) v = noted-bank xs (noted (fact.Changed x.operator Unbonding) v)

pub noted-holds : (vs : List Validator) (v : View) (a b : ℕ) → HoldsStake v a b → HoldsStake (all_leavings_noted vs v) a b
noted-holds vs v a b h =
    let n = noted-bank vs v in
    record {
      in_bonded = subst (λ x. a ≤ x) (sym (λ i. balance_of (n.0 i) (account.Module holder.Bonded) (n.1 i).params.bond_denom)) h.in_bonded;
      in_not_bonded = subst (λ x. b ≤ x) (sym (λ i. balance_of (n.0 i) (account.Module holder.NotBonded) (n.1 i).params.bond_denom)) h.in_not_bonded;
    }

-- what both accounts hold once the difference moved
pub record HasMoved (j l : ℕ) (v v2 : View) : Type 0 where
  pub ctx : v2.ctx ≡ v.ctx
  pub bonded : balance_of v2.bank (account.Module holder.Bonded) v.ctx.params.bond_denom + l ≡ balance_of v.bank (account.Module holder.Bonded) v.ctx.params.bond_denom + j
  pub other : balance_of v2.bank (account.Module holder.NotBonded) v.ctx.params.bond_denom + j ≡ balance_of v.bank (account.Module holder.NotBonded) v.ctx.params.bond_denom + l

more : (x y j l : ℕ) → nat_lt l j ≡ true → x + 0 ≡ y + (j - l) → x + l ≡ y + j
more x y j l e h = grind (arith, nat_tests)

less : (x y j l : ℕ) → nat_lt l j ≡ true → x + (j - l) ≡ y + 0 → x + j ≡ y + l
less x y j l e h = grind (arith, nat_tests)

less_back : (x y j l : ℕ) → nat_lt l j ≡ false → x + (l - j) ≡ y + 0 → x + l ≡ y + j
less_back x y j l e h = grind (arith, nat_tests)

more_back : (x y j l : ℕ) → nat_lt l j ≡ false → x + 0 ≡ y + (l - j) → x + j ≡ y + l
more_back x y j l e h = grind (arith, nat_tests)

some_more : (j l : ℕ) → nat_lt l j ≡ true → 0 < j - l
some_more j l e = grind (arith, nat_tests)

some_back : (n : ℕ) → (n == 0) ≡ false → 0 < n
some_back n e = grind (arith, nat_tests)

no_back : (j l : ℕ) → nat_lt l j ≡ false → ((l - j) == 0) ≡ true → j ≡ l
no_back j l e f = grind (arith, nat_tests)

-- which way it moved, if at all
data Way (v v2 : View) (j l : ℕ) : Type 0 where
  upward : nat_lt l j ≡ true → v2 ≡ sent (account.Module holder.NotBonded) (account.Module holder.Bonded) (bond_coins v (j - l)) v → Way v v2 j l
  downward : nat_lt l j ≡ false → ((l - j) == 0) ≡ false → v2 ≡ sent (account.Module holder.Bonded) (account.Module holder.NotBonded) (bond_coins v (l - j)) v → Way v v2 j l
  nowhere : j ≡ l → v2 ≡ v → Way v v2 j l

module _ (v v2 : View) (j l : ℕ) (backed : IsBacked v.bank) (to_bonded : j - l ≤ balance_of v.bank (account.Module holder.NotBonded) v.ctx.params.bond_denom) (from_bonded : l - j ≤ balance_of v.bank (account.Module holder.Bonded) v.ctx.params.bond_denom)
    (moved : v2 ≡ difference_moved j l v) where
  abbrev up : View
  up = sent (account.Module holder.NotBonded) (account.Module holder.Bonded) (bond_coins v (j - l)) v

  abbrev down : View
  down = sent (account.Module holder.Bonded) (account.Module holder.NotBonded) (bond_coins v (l - j)) v

  way : Way v v2 j l
  way = by (nat_lt l j) refl moved
    where
      nothing : (b : Bool) → nat_lt l j ≡ false → ((l - j) == 0) ≡ b → v2 ≡ down → Way v v2 j l
      nothing false e f m = downward e f m
      nothing true e f m = nowhere (no_back j l e f) (m ∙ ap (λ (c : Money). sent (account.Module holder.Bonded) (account.Module holder.NotBonded) c v) (ap (λ b. cond {A = Money} b [] ((v.ctx.params.bond_denom, l - j) ∷ [])) f))

      by : (b : Bool) → nat_lt l j ≡ b → v2 ≡ (if b then up else down) → Way v v2 j l
      by true e m = upward e m
      by false e m = nothing ((l - j) == 0) e refl m

  pub difference-accounts : HasMoved j l v v2
  difference-accounts = by way
    where
      by : Way v v2 j l → HasMoved j l v v2
      by (upward e m) =
          let paid = paid-accounts v v2 (j - l) (some_more j l e) backed Bonded (pool Unbonding) [] to_bonded m in
          record { ctx = paid.ctx; bonded = more _ _ j l e paid.bonded; other = less _ _ j l e paid.other }
      by (downward e f m) =
          let paid = paid-accounts v v2 (l - j) (some_back (l - j) f) backed Unbonding (pool Bonded) [] from_bonded m in
          record { ctx = paid.ctx; bonded = less_back _ _ j l e paid.bonded; other = more_back _ _ j l e paid.other }
      by (nowhere e m) = record {
        ctx = ap (λ x. x.ctx) m;
        bonded = ap (λ x. balance_of x.bank (account.Module holder.Bonded) v.ctx.params.bond_denom + l) m ∙ ap (λ n. balance_of v.bank (account.Module holder.Bonded) v.ctx.params.bond_denom + n) (sym e);
        other = ap (λ x. balance_of x.bank (account.Module holder.NotBonded) v.ctx.params.bond_denom + j) m ∙ ap (λ n. balance_of v.bank (account.Module holder.NotBonded) v.ctx.params.bond_denom + n) e;
      }

  pub stand-difference : {S : Type 0} (t : Tells S) (s : S) (ls : Lists) → IsBacked v2.bank → Stand t s v ls → Stand t s v2 ls
  stand-difference t s ls b p = by way
    where
      by : Way v v2 j l → Stand t s v2 ls
      by (upward e m) = stand-paid t s ls v v2 b (pool Unbonding) [] Bonded (j - l) m p
      by (downward e f m) = stand-paid t s ls v v2 b (pool Bonded) [] Unbonding (l - j) m p
      by (nowhere e m) = subst (λ x. Stand t s x ls) (sym m) p

-- ---- what is owed

within_more : (x y a b j l : ℕ) → a + l ≡ b + j → b ≤ y → x + l ≡ y + j → a ≤ x
within_more x y a b j l e f g = omega (arith, e, f, g)

enough_up : (o2 o0 j l held : ℕ) → o2 + j ≡ o0 + l → o0 ≤ held → j - l ≤ held
enough_up o2 o0 j l held e f = omega (arith, e, f)

module _ (s0 s1 s2 : Staked) (joining leaving : List Validator) (height time : ℕ) (joined : s1 ≡ all_joined joining s0) (left : s2 ≡ all_left height time leaving s1)
    (c0 : IsStrictlySortedBy addr_cmp (keys_of s0.validators)) (c1 : IsStrictlySortedBy addr_cmp (keys_of s1.validators)) (js : AllStand s0 joining) (ja : HaveOwnOperators joining) (jn : AllByRecursion (λ v. is_bonded v.status ≡ false) joining)
    (ls : AllStand s1 leaving) (la : HaveOwnOperators leaving) (lb : AllByRecursion (λ v. is_bonded v.status ≡ true) leaving) where
  added : (a b c j l : ℕ) → b ≡ a + j → c + l ≡ b → c + l ≡ a + j
  added a b c j l e f = omega (arith, e, f)

  taken : (a b c j l : ℕ) → b + j ≡ a → c ≡ b + l → c + j ≡ a + l
  taken a b c j l e f = omega (arith, e, f)

  pub sums : (bonded_tokens s2 + tokens_of leaving ≡ bonded_tokens s0 + tokens_of joining) × (other_tokens s2 + tokens_of joining ≡ other_tokens s0 + tokens_of leaving)
  sums =
      let one = tokens-joined joining s0 c0 js ja jn in
      let two = tokens-left height time leaving s1 c1 ls la lb in (
        added (bonded_tokens s0) (bonded_tokens s1) (bonded_tokens s2) (tokens_of joining) (tokens_of leaving) (ap bonded_tokens joined ∙ one.0) (ap (λ s. bonded_tokens s + tokens_of leaving) left ∙ two.0),
        taken (other_tokens s0) (other_tokens s1) (other_tokens s2) (tokens_of joining) (tokens_of leaving) (ap (λ s. other_tokens s + tokens_of joining) joined ∙ one.1) (ap other_tokens left ∙ two.1),
      )

  module _ (v2 v3 : View) (held : HoldsStake v2 (bonded_tokens s0) (other_tokens s0)) where
    pub enough-other : tokens_of joining - tokens_of leaving ≤ balance_of v2.bank (account.Module holder.NotBonded) v2.ctx.params.bond_denom
    enough-other = enough_up (other_tokens s2) (other_tokens s0) (tokens_of joining) (tokens_of leaving) _ sums.1 held.in_not_bonded

    pub enough-bonded : tokens_of leaving - tokens_of joining ≤ balance_of v2.bank (account.Module holder.Bonded) v2.ctx.params.bond_denom
    enough-bonded = enough_up (bonded_tokens s2) (bonded_tokens s0) (tokens_of leaving) (tokens_of joining) _ sums.0 held.in_bonded

    -- both accounts hold what is owed from them again
    pub holds-moved : HasMoved (tokens_of joining) (tokens_of leaving) v2 v3 → HoldsStake v3 (bonded_tokens s2) (other_tokens s2)
    holds-moved m =
        record {
          in_bonded = subst (λ (c : Ctx). bonded_tokens s2 ≤ balance_of v3.bank (account.Module holder.Bonded) c.params.bond_denom) (sym m.ctx)
              (within_more _ _ (bonded_tokens s2) (bonded_tokens s0) (tokens_of joining) (tokens_of leaving) sums.0 held.in_bonded m.bonded);
          in_not_bonded = subst (λ (c : Ctx). other_tokens s2 ≤ balance_of v3.bank (account.Module holder.NotBonded) c.params.bond_denom) (sym m.ctx)
              (within_more _ _ (other_tokens s2) (other_tokens s0) (tokens_of leaving) (tokens_of joining) sums.1 held.in_not_bonded m.other);
        }
