-- The tests of keys decide that distribution stands for validators and delegations, and those of starts that they are begun.
use Rattle.std.proofs.Common.{◌≡◌, ◌∙◌, ℕ, ◌^◌, ◌≤◌, ◌<◌, Bool, true, false, cond, List, [], ◌∷◌, Option, Some, None, map, refl, sym, ap, arith, ◌&&◌, nat_lt, nat_le, is_some, option_map, All, IsSome, Decides}
use Rattle.std.{specs.{BTreeMap.is_at, List.list_all}, proofs.lemmas.Bool.Decides.{nat_tests, Decides-and}}
use Rattle.base_types.specs.Orders.{addr_cmp, cons_cmp}
use Rattle.base_roles.specs.{declared.entities.Validator.Validator, Entries.at, Orders.pair_cmp}
use Rattle.base_roles.specs.Staked.{Staked, lists_of}
use Rattle.rule_modules.{specs.{Chain.shared_in, Sound.StandsFor}, proofs.OrderLemmas.{addr_total, pair_total}}
use Rattle.store_records.specs.{Plain.{SharedSeen, ListsSeen, PlainSeen}, States.{state_of, periods_in, rewards_of}}
use Rattle.store_soundness.specs.Standing.{have_same_keys, have_keys}
use Rattle.law_records.proofs.TestLemmas.{same_keys}

-- an operator has periods where one of them runs
current_mapped : (s : SharedSeen) (es : List (List ℕ × ℕ)) (operator : List ℕ) → is_some (at addr_cmp (map (λ (e : List ℕ × ℕ). (e.0, periods_in s e.0 e.1)) es) operator) ≡ is_some (at addr_cmp es operator)
current_mapped s [] operator = refl
current_mapped s (e ∷ es) operator = by (current_mapped s es operator) (is_at (addr_cmp operator) e.0)
  where
    by : is_some (at addr_cmp (map (λ (x : List ℕ × ℕ). (x.0, periods_in s x.0 x.1)) es) operator) ≡ is_some (at addr_cmp es operator) → (b : Bool)
        → is_some (cond b (Some (periods_in s e.0 e.1)) (at addr_cmp (map (λ (x : List ℕ × ℕ). (x.0, periods_in s x.0 x.1)) es) operator)) ≡ is_some (cond b (Some e.1) (at addr_cmp es operator))
    by later true = refl
    by later false = later

pub periods_stand : (s : SharedSeen) (operator : List ℕ) → is_some (at addr_cmp (rewards_of s).periods operator) ≡ is_some (at addr_cmp s.currents operator)
periods_stand s operator = current_mapped s s.currents operator

-- the tests of keys decide that distribution stands for validators and delegations
pub stands_decide : (r : PlainSeen) → Decides (have_keys r.lists) (StandsFor (shared_in (state_of r)) (lists_of r.lists.staked))
stands_decide r =
    let l = r.lists in
    let purses = same_keys addr_cmp addr_total l.staked.validators l.shared.purses in
    let currents = same_keys addr_cmp addr_total l.staked.validators l.shared.currents in
    let starts = same_keys pair_cmp pair_total l.staked.delegations l.shared.starts in
    let both = Decides-and (have_same_keys addr_cmp l.staked.validators l.shared.purses && have_same_keys addr_cmp l.staked.validators l.shared.currents) (have_same_keys pair_cmp l.staked.delegations l.shared.starts)
    (Decides-and (have_same_keys addr_cmp l.staked.validators l.shared.purses) (have_same_keys addr_cmp l.staked.validators l.shared.currents) purses currents) starts in (
      λ t. record {
        purses = λ operator. (both.0 t).0.0 operator;
        periods = λ operator. periods_stand l.shared operator ∙ (both.0 t).0.1 operator;
        starts = λ delegator operator. (both.0 t).1 (operator, delegator);
      },
      λ s. both.1 ((λ operator. s.purses operator, λ operator. sym (periods_stand l.shared operator) ∙ s.periods operator), λ key. s.starts key.1 key.0),
    )
