-- In each denomination, the reward in coins is the reward in that denomination.
use Rattle.std.proofs.Common.{◌≡◌, ℕ, ◌+◌, ◌-◌, ◌==◌, Bool, true, false, cond, List, [], ◌∷◌, map, arith, ap, sym, ◌∙◌, subst, Ok, nat_le}
use Rattle.std.{specs.List.AllByRecursion, proofs.lemmas.{Grind.common_steps, List.Elements.recursion_from_All}}
use Rattle.base_decimals.specs.Decimals.{mul_cut_of}
use Rattle.base_coins.specs.Coins.{Money, IsMoney, amount_of, coins_taken, coins_added, coins_mul_cut}
use Rattle.base_coins.proofs.{Order.{rises_from_money, money-nil}, Amounts.{amount-all, amount-by, amount-added}}
use Rattle.base_coins.proofs.{Results.{sum_is_money, taken_is_money}, Parts.{by_is_money, below_is, zero_mul_cut}}
use Rattle.base_roles.specs.{Flow.{◌>>=◌}, declared.entities.StartingInfo.StartingInfo}
use Rattle.rule_modules.specs.Periods.{Periods, Stretch, ratio_at, earned, stretches_of, reward_of}
pub use Rattle.rule_modules.proofs.GoingLemmas.{step_parts}
use Rattle.law_rewards.specs.{Account.{product_cut, earned_in, reward_in, ratio_in}, Laws.RewardsGoByDenomination}
use Rattle.law_rewards.proofs.Lists.{sum_more}

pub product_is : (n by m : ℕ) → mul_cut_of n by ≡ Ok m → m ≡ product_cut n by
product_is n by m e = grind (arith, common_steps)

-- what one stretch gives
part_goes : (d : List ℕ) (hi lo part : Money) (stake : ℕ) → IsMoney hi → IsMoney lo → coins_mul_cut (coins_taken hi lo) stake ≡ Ok part
    → IsMoney part × (amount_of part d ≡ product_cut (amount_of hi d - amount_of lo d) stake)
part_goes d hi lo part stake h l e =
    let grown : IsMoney (coins_taken hi lo) = taken_is_money hi lo h in
    let amount : amount_of (coins_taken hi lo) d ≡ amount_of hi d - amount_of lo d = amount-all (λ c n. n - amount_of lo c) (λ c. omega arith) hi d (rises_from_money hi h) in (
      by_is_money (λ n. mul_cut_of n stake) (λ n m h. below_is _ _ m h) (coins_taken hi lo) part grown e,
      product_is (amount_of (coins_taken hi lo) d) stake (amount_of part d) (amount-by (λ n. mul_cut_of n stake) (zero_mul_cut stake) (coins_taken hi lo) part d (rises_from_money (coins_taken hi lo) grown) e)
          ∙ ap (λ n. product_cut n stake) amount,
    )

earned_goes : (d : List ℕ) (ratio : ℕ → Money) (ts : List Stretch) (total full : Money) → ((p : ℕ) → IsMoney (ratio p)) → IsMoney total → earned ratio ts total ≡ Ok full
    → IsMoney full × (amount_of full d ≡ amount_of total d + earned_in (λ p. amount_of (ratio p) d) ts)
earned_goes d ratio [] total full each m e = let same : total ≡ full = cc in (subst IsMoney same m, omega (arith, ap (λ x. amount_of x d) same))
earned_goes d ratio (t ∷ ts) total full each m e =
    let own : ℕ = product_cut (amount_of (ratio t.last) d - amount_of (ratio t.after) d) t.stake in
    let one_part : (part : Money) × (coins_mul_cut (coins_taken (ratio t.last) (ratio t.after)) t.stake ≡ Ok part) × ((coins_added total part >>= λ s. earned ratio ts s) ≡ Ok full) =
    step_parts (coins_mul_cut (coins_taken (ratio t.last) (ratio t.after)) t.stake) (λ p. coins_added total p >>= λ s. earned ratio ts s) full e in
    let part : Money = one_part.0 in
    let p : IsMoney part × (amount_of part d ≡ own) = part_goes d (ratio t.last) (ratio t.after) part t.stake (each t.last) (each t.after) one_part.1 in
    let one_sum : (s : Money) × (coins_added total part ≡ Ok s) × (earned ratio ts s ≡ Ok full) = step_parts (coins_added total part) (λ s. earned ratio ts s) full one_part.2 in
    let s : Money = one_sum.0 in
    let sm : IsMoney s = sum_is_money total part s m p.0 one_sum.1 in
    let amount : amount_of s d ≡ amount_of total d + amount_of part d = amount-added total part s d (rises_from_money total m) (rises_from_money part p.0) one_sum.1 in
    let more : IsMoney full × (amount_of full d ≡ amount_of s d + earned_in (λ q. amount_of (ratio q) d) ts) = earned_goes d ratio ts s full each sm one_sum.2 in
    let first : earned_in (λ q. amount_of (ratio q) d) (t ∷ ts) ≡ own + earned_in (λ q. amount_of (ratio q) d) ts =
    sum_more own (map (λ u. product_cut (amount_of (ratio u.last) d - amount_of (ratio u.after) d) u.stake) ts) in
    (more.0, omega (arith, more.1, amount, p.1, first))

by_bool : (P : Money → Type 0) (b : Bool) (x y : Money) → P x → P y → P (cond b x y)
by_bool P true x y f g = f
by_bool P false x y f g = g

pub money_at : (rs : List (ℕ × Money)) → AllByRecursion (λ r. IsMoney r.1) rs → (p : ℕ) → IsMoney (ratio_at rs p)
money_at [] each p = money-nil
money_at (r ∷ rs) each p = by_bool IsMoney (nat_le r.0 p) r.1 (ratio_at rs p) each.0 (money_at rs each.1 p)

pub reward_goes : (d : List ℕ) (s : StartingInfo) (p : Periods) (last height value : ℕ) (full : Money) → AllByRecursion (λ r. IsMoney r.1) p.ratios → reward_of s p last height value ≡ Ok full
    → IsMoney full × (amount_of full d ≡ reward_in d s p last height value)
reward_goes d s p last height value full each e = given (s.height == height) e
  where
    given : (b : Bool) → (cond b (Ok []) (earned (ratio_at p.ratios) (stretches_of s p.events last value) [])) ≡ Ok full
        → IsMoney full × (amount_of full d ≡ cond b 0 (earned_in (ratio_in d p) (stretches_of s p.events last value)))
    given true h = let same : [] ≡ full = cc in (subst IsMoney same money-nil, sym (ap (λ x. amount_of x d) same))
    given false h =
        let all : IsMoney full × (amount_of full d ≡ 0 + earned_in (ratio_in d p) (stretches_of s p.events last value)) =
        earned_goes d (ratio_at p.ratios) (stretches_of s p.events last value) [] full (money_at p.ratios each) money-nil h in
        (all.0, omega (arith, all.1))

pub rewards_go_by_denomination : RewardsGoByDenomination
rewards_go_by_denomination = λ d s p last height value full each e. reward_goes d s p last height value full (recursion_from_All (λ r. IsMoney r.1) p.ratios each) e
