-- Messages of unbonding as their rules have them: what is refused first, and what follows.
use Rattle.std.proofs.Common.{◌≡◌, ◌∙◌, ℕ, ◌≤◌, Bool, true, false, List, Option, Some, None, refl, sym, ap, subst, arith, Ok, Err, Result, ◌==◌, nat_lt, nat_le, length, if◌then◌else◌}
use Rattle.std.proofs.lemmas.Bool.Decides.{nat_tests}
use Rattle.base_decimals.specs.declared.over.Over.{Over}
use Rattle.base_coins.specs.{Coins.Money, declared.coin.Coin.Coin}
use Rattle.base_types.specs.declared.account.Account.TheVariants as account
use Rattle.base_types.specs.declared.account.Module.TheVariants as holder
use Rattle.base_shares.specs.{declared.fault.ShareFault.ShareFault, Shares.shares_for_amount}
use Rattle.base_roles.specs.declared.{entities.Validator.Validator, params.Ctx.Ctx, refusal.Refusal.Refusal}
use Rattle.base_roles.specs.declared.refusal.Refusal.TheVariants.{WrongDenom, NonPositive, NoValidator, NoTokens, TooManyShares, UnbondingsFull, Overflow}
use Rattle.base_roles.specs.{Answers.Follows, Staked.{Staked, validator_at, delegation, is_bonded}}
use Rattle.base_roles.specs.{StakeChanges.HasShares, Flow.{◌>>=◌, ◌>>◌, stop_if, or_stop, stopping}}
use Rattle.base_roles.specs.{World.{View, Told, World, sent, over_view}, declared.calls.Hook.Hook}
use Rattle.rule_modules.specs.{Amounts.bond_coins, Delegating.is_wrong}
use Rattle.rule_modules.specs.Unbonding.{shares_to_unbond, unbonded_shares, unbonded_of, shares_unbonded}
use Rattle.rule_modules.specs.Unbondings.{UnbondingLists, entries_of, with_entries, completion, grown, undelegated}
use Rattle.mod_entries.specs.Answers.{AnswersBoth}
use Rattle.mod_unbonding.specs.Calls.{undelegation, moved_out}

-- ---- undelegating

abbrev both_of : ℕ → ℕ → Result (ℕ × ℕ) Refusal
both_of all part = Ok (all, part)

abbrev asked_of : Validator → ℕ × ℕ → Result (Validator × ℕ) Refusal
asked_of v q = Ok (v, q.1)

module _ {H : Type 0} (told : H → Hook → View → Told H) (delegator operator : List ℕ) (u : UnbondingLists) (w : World Staked H) where
  -- coins move from the bonded to the not-bonded account, if so
  abbrev pub world_out : Bool → Money → World Staked H → World Staked H
  world_out b coins w1 = if b then over_view (sent (account.Module holder.Bonded) (account.Module holder.NotBonded) coins) w1 else w1

  -- what stands once an amount went out
  abbrev pub entry_made : Validator → ℕ × World Staked H → Result (ℕ × UnbondingLists × World Staked H) Refusal
  entry_made v q =
      Ok (completion w.view.ctx, with_entries delegator operator (grown w.view.ctx.height (completion w.view.ctx) q.0 (entries_of u delegator operator)) u, world_out (is_bonded v.status) (bond_coins w.view q.0) q.1)

  -- undelegating from a validator
  abbrev pub undelegated_from : Validator × ℕ → Result (ℕ × UnbondingLists × World Staked H) Refusal
  undelegated_from p = stopping Overflow (shares_unbonded told delegator operator p.1 w) >>= entry_made p.0

  module _ (coin : Coin) where
    abbrev rule_at : Bool → Option Validator → Option ℕ → Bool → Bool → Result (ℕ × UnbondingLists × World Staked H) Refusal
    rule_at zero x held wrong full =
        stop_if zero NonPositive >> (or_stop x NoValidator >>= λ v. (shares_to_unbond held v coin.amount >>= λ q. (stop_if wrong WrongDenom >> (stop_if full UnbondingsFull >> (stopping Overflow (unbonded_shares told v delegator q.0 q.1 w) >>= entry_made v)))))

    abbrev asked_at : Bool → Option Validator → Option ℕ → Bool → Bool → Result (Validator × ℕ) Refusal
    asked_at zero x held wrong full =
        stop_if zero NonPositive >> (or_stop x NoValidator >>= λ v. (shares_to_unbond held v coin.amount >>= λ q. (stop_if wrong WrongDenom >> (stop_if full UnbondingsFull >> asked_of v q))))

    abbrev then_at : Option Validator → Option ℕ → Validator × ℕ → Result (ℕ × UnbondingLists × World Staked H) Refusal
    then_at x held p = stopping Overflow (unbonded_of told x held delegator p.1 w) >>= entry_made p.0

    by_parts : (x : Option Validator) (held : Option ℕ) (v : Validator) (all : ℕ) (wrong full : Bool) (few : ℕ → Bool) (r : Result ℕ ShareFault) → ((part : ℕ) → unbonded_of told x held delegator part w ≡ unbonded_shares told v delegator all part w)
        → ((stopping (λ fault. TooManyShares) r >>= λ part. (stop_if (few part) TooManyShares >> both_of all part)) >>= λ q. (stop_if wrong WrongDenom >> (stop_if full UnbondingsFull >> (stopping Overflow (unbonded_shares told v delegator q.0 q.1 w) >>= entry_made v))))
        ≡ (((stopping (λ fault. TooManyShares) r >>= λ part. (stop_if (few part) TooManyShares >> both_of all part)) >>= λ q. (stop_if wrong WrongDenom >> (stop_if full UnbondingsFull >> asked_of v q))) >>= then_at x held)
    by_parts x held v all wrong full few (Err fault) e = refl
    by_parts x held v all wrong full few (Ok part) e = by (few part) wrong full
      where
        by : (many wrong full : Bool)
            → ((stop_if many TooManyShares >> both_of all part) >>= λ q. (stop_if wrong WrongDenom >> (stop_if full UnbondingsFull >> (stopping Overflow (unbonded_shares told v delegator q.0 q.1 w) >>= entry_made v))))
            ≡ (((stop_if many TooManyShares >> both_of all part) >>= λ q. (stop_if wrong WrongDenom >> (stop_if full UnbondingsFull >> asked_of v q))) >>= then_at x held)
        by true wrong full = refl
        by false true full = refl
        by false false true = refl
        by false false false = ap (λ r. stopping Overflow r >>= entry_made v) (sym (e part))

    by_cases : (zero : Bool) (x : Option Validator) (held : Option ℕ) (wrong full : Bool) → rule_at zero x held wrong full ≡ (asked_at zero x held wrong full >>= then_at x held)
    by_cases true x held wrong full = refl
    by_cases false None held wrong full = refl
    by_cases false (Some v) None wrong full = refl
    by_cases false (Some v) (Some all) wrong full = tokens (v.tokens == 0)
      where
        tokens : (none : Bool)
            → ((stop_if none NoTokens >> (stopping (λ fault. TooManyShares) (shares_for_amount v.tokens v.shares coin.amount) >>= λ part. (stop_if (nat_lt all part) TooManyShares >> both_of all part)))
            >>= λ q. (stop_if wrong WrongDenom >> (stop_if full UnbondingsFull >> (stopping Overflow (unbonded_shares told v delegator q.0 q.1 w) >>= entry_made v))))
            ≡ (((stop_if none NoTokens >> (stopping (λ fault. TooManyShares) (shares_for_amount v.tokens v.shares coin.amount) >>= λ part. (stop_if (nat_lt all part) TooManyShares >> both_of all part)))
            >>= λ q. (stop_if wrong WrongDenom >> (stop_if full UnbondingsFull >> asked_of v q))) >>= then_at (Some v) (Some all))
        tokens true = refl
        tokens false = by_parts (Some v) (Some all) v all wrong full (nat_lt all) (shares_for_amount v.tokens v.shares coin.amount) (λ part. refl)

    -- what is refused first, and what follows
    pub undelegated-asked : undelegated told delegator operator coin u w ≡ (undelegation delegator operator coin u w.mine w.view >>= undelegated_from)
    undelegated-asked = by_cases (coin.amount == 0) (validator_at w.mine operator) (delegation w.mine delegator operator) (is_wrong coin w.view) (nat_le w.view.ctx.params.max_entries (length (entries_of u delegator operator)))

-- what an undelegation that isn't refused tells
pub record IsAsked (delegator operator : List ℕ) (u : UnbondingLists) (s : Staked) (view : View) (v : Validator) (part : ℕ) : Type 0 where
  pub found : validator_at s operator ≡ Some v
  pub shares : HasShares s delegator operator part
  pub room : nat_le view.ctx.params.max_entries (length (entries_of u delegator operator)) ≡ false

module _ (delegator operator : List ℕ) (coin : Coin) (u : UnbondingLists) (s : Staked) (view : View) (v : Validator) (part : ℕ) where
  abbrev Given : Result (Validator × ℕ) Refusal → Type 0
  Given r = r ≡ Ok (v, part)

  pair_is : (x : Validator) (n : ℕ) → ◌≡◌ {A = Result (Validator × ℕ) Refusal} (Ok (x, n)) (Ok (v, part)) → (x ≡ v) × (n ≡ part)
  pair_is x n e = (ap (λ r. seen r) e, ap (λ r. number r) e)
    where
      seen : Result (Validator × ℕ) Refusal → Validator
      seen (Ok p) = p.0
      seen (Err e) = x

      number : Result (Validator × ℕ) Refusal → ℕ
      number (Ok p) = p.1
      number (Err e) = n

  pub asked-given : undelegation delegator operator coin u s view ≡ Ok (v, part) → IsAsked delegator operator u s view v part
  asked-given = by (coin.amount == 0) (validator_at s operator) refl (delegation s delegator operator) refl (is_wrong coin view) (nat_le view.ctx.params.max_entries (length (entries_of u delegator operator))) refl
    where
      last : (x : Validator) (all n : ℕ) → validator_at s operator ≡ Some x → delegation s delegator operator ≡ Some all → nat_lt all n ≡ false → (wrong full : Bool) → nat_le view.ctx.params.max_entries (length (entries_of u delegator operator)) ≡ full
          → Given (stop_if wrong WrongDenom >> (stop_if full UnbondingsFull >> Ok (x, n))) → IsAsked delegator operator u s view v part
      last x all n f d few true full g e = absurd cc
      last x all n f d few false true g e = absurd cc
      last x all n f d few false false g e =
          let p = pair_is x n e in
          let most : n ≤ all = grind (arith, nat_tests) in
          record { found = f ∙ ap Some p.0; shares = (all, (d, subst (λ m. m ≤ all) p.1 most)); room = g }

      parts : (x : Validator) (all : ℕ) → validator_at s operator ≡ Some x → delegation s delegator operator ≡ Some all → (wrong full : Bool) → nat_le view.ctx.params.max_entries (length (entries_of u delegator operator)) ≡ full → (r : Result ℕ ShareFault)
          → Given ((stopping (λ fault. TooManyShares) r >>= λ n. (stop_if (nat_lt all n) TooManyShares >> both_of all n)) >>= λ q. (stop_if wrong WrongDenom >> (stop_if full UnbondingsFull >> asked_of x q))) → IsAsked delegator operator u s view v part
      parts x all f d wrong full g (Err fault) e = absurd cc
      parts x all f d wrong full g (Ok n) e = few (nat_lt all n) refl e
        where
          few : (b : Bool) → nat_lt all n ≡ b → Given ((stop_if b TooManyShares >> both_of all n) >>= λ q. (stop_if wrong WrongDenom >> (stop_if full UnbondingsFull >> asked_of x q))) → IsAsked delegator operator u s view v part
          few true p e = absurd cc
          few false p e = last x all n f d p wrong full g e

      tokens : (x : Validator) (all : ℕ) → validator_at s operator ≡ Some x → delegation s delegator operator ≡ Some all → (wrong full : Bool) → nat_le view.ctx.params.max_entries (length (entries_of u delegator operator)) ≡ full → (none : Bool)
          → Given ((stop_if none NoTokens >> (stopping (λ fault. TooManyShares) (shares_for_amount x.tokens x.shares coin.amount) >>= λ n. (stop_if (nat_lt all n) TooManyShares >> both_of all n))) >>= λ q. (stop_if wrong WrongDenom >> (stop_if full UnbondingsFull >> asked_of x q))) → IsAsked delegator operator u s view v part
      tokens x all f d wrong full g true e = absurd cc
      tokens x all f d wrong full g false e = parts x all f d wrong full g (shares_for_amount x.tokens x.shares coin.amount) e

      by : (zero : Bool) (x : Option Validator) → validator_at s operator ≡ x → (held : Option ℕ) → delegation s delegator operator ≡ held → (wrong full : Bool) → nat_le view.ctx.params.max_entries (length (entries_of u delegator operator)) ≡ full
          → Given (stop_if zero NonPositive >> (or_stop x NoValidator >>= λ y. (shares_to_unbond held y coin.amount >>= λ q. (stop_if wrong WrongDenom >> (stop_if full UnbondingsFull >> asked_of y q))))) → IsAsked delegator operator u s view v part
      by true x f held d wrong full g e = absurd cc
      by false None f held d wrong full g e = absurd cc
      by false (Some x) f None d wrong full g e = absurd cc
      by false (Some x) f (Some all) d wrong full g e = tokens x all f d wrong full g (x.tokens == 0) e

-- ---- an undelegation that is answered

module _ {H : Type 0} (told : H → Hook → View → Told H) (delegator operator : List ℕ) (u : UnbondingLists) (w : World Staked H) (v : Validator) (part : ℕ) where
  same_coins : (a b : View) (n : ℕ) → a.ctx ≡ b.ctx → bond_coins a n ≡ bond_coins b n
  same_coins a b n e = ap (λ (c : Ctx). bond_coins (record a { ctx = c }) n) e

  -- unbonding gave so much, which moved and stands as an entry
  pub answers_made : (s1 : Staked) (holds : H → Type 0) (v1 v2 : View) (out : ℕ) (u2 : UnbondingLists) → Follows (shares_unbonded told delegator operator part w) s1 holds v1 (Ok out) → v1.ctx ≡ w.view.ctx
      → u2 ≡ with_entries delegator operator (grown w.view.ctx.height (completion w.view.ctx) out (entries_of u delegator operator)) u → v2 ≡ moved_out (is_bonded v.status) out v1
      → AnswersBoth (undelegated_from told delegator operator u w (v, part)) u2 s1 holds v2 (Ok (completion w.view.ctx))
  answers_made s1 holds v1 v2 out u2 f c e m = by (shares_unbonded told delegator operator part w) f
    where
      mine_out : (b : Bool) (coins : Money) (q : World Staked H) → (world_out told delegator operator u w b coins q).mine ≡ q.mine
      mine_out true coins q = refl
      mine_out false coins q = refl

      hooks_out : (b : Bool) (coins : Money) (q : World Staked H) → (world_out told delegator operator u w b coins q).hooks ≡ q.hooks
      hooks_out true coins q = refl
      hooks_out false coins q = refl

      view_out : (b : Bool) (n : ℕ) (q : World Staked H) → v1 ≡ q.view → out ≡ n → moved_out b out v1 ≡ (world_out told delegator operator u w b (bond_coins w.view n) q).view
      view_out true n q a o = (λ i. sent (account.Module holder.Bonded) (account.Module holder.NotBonded) ((same_coins v1 w.view out c ∙ ap (bond_coins w.view) o) i) (a i))
      view_out false n q a o = a

      by : (r : Result (ℕ × World Staked H) Over) → Follows r s1 holds v1 (Ok out) → AnswersBoth (stopping Overflow r >>= entry_made told delegator operator u w v) u2 s1 holds v2 (Ok (completion w.view.ctx))
      by (Err due) l = absurd l
      by (Ok p) l = (
        refl,
        e ∙ ap (λ n. with_entries delegator operator (grown w.view.ctx.height (completion w.view.ctx) n (entries_of u delegator operator)) u) l.0,
        l.1 ∙ sym (mine_out (is_bonded v.status) (bond_coins w.view p.0) p.1),
        subst holds (sym (hooks_out (is_bonded v.status) (bond_coins w.view p.0) p.1)) l.2,
        m ∙ view_out (is_bonded v.status) p.0 p.1 l.3 l.0,
      )
