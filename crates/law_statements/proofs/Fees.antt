-- What stands of a pair when the fees of a block are allocated, which comes first in the block.
use Rattle.std.proofs.Common.{◌≡◌, ◌∙◌, ℕ, ◌-◌, ◌*◌, ◌^◌, ◌==◌, Bool, true, false, List, [], ◌∷◌, ◌++◌, append-nil, append_assoc, map, refl, sym, ap, subst, Option, Some, None, Result, Ok, Err, IfOk, if◌then◌else◌, nat_le, sum}
use Rattle.base_decimals.specs.{declared.over.Over.Over, Decimals.{mul_cut_of, quo_cut_of}}
use Rattle.base_types.specs.declared.account.Account.TheVariants as account
use Rattle.base_types.specs.declared.account.Module.TheVariants as holder
use Rattle.base_types.specs.Orders.{addr_cmp}
use Rattle.base_coins.specs.Coins.{Money, IsMoney, coins_added, coins_mul_cut, coins_mul_even, coins_taken}
use Rattle.base_coins.proofs.{Parts.{below_is, by_is_money}, Results.taken_is_money}
use Rattle.base_roles.specs.declared.{entities.{Purse.Purse, Validator.Validator}, facts.Fact.Fact, messages.Vote.Vote}
use Rattle.base_roles.specs.{Entries.with, Flow.{◌>>=◌}, Holdings.coins_of, Log.Log, Orders.same_addr}
use Rattle.base_roles.specs.{Staked.{Staked, validator_at, validator_by_cons}, World.{View, sent}}
use Rattle.base_roles.specs.declared.facts.Fact.TheVariants as fact
use Rattle.base_roles.specs.Log as log
use Rattle.rule_modules.specs.Allocation.{allocated, fees_allocated, share_given, shares_allocated, sharing}
use Rattle.rule_modules.specs.{Amounts.{in_units, is_empty}, Distribution.Shared}
use Rattle.rule_modules.specs.Purses.{Purses, pool_joined, pooled_told, purse_of, share_joined}
use Rattle.rule_modules.proofs.GoingLemmas.{on_bind, same_ok, step_parts}
use Rattle.law_rewards.proofs.{Entries.addr_is, Telling.on_then}
use Rattle.mod_statement.specs.declared.entry.Entry.TheVariants.{Allocated}
use Rattle.mod_recorder.specs.Notes.{Noted}
use Rattle.mod_tracking.specs.{declared.tracker.Pair.Pair, Tracking.{Tracked, allocation, rest_of, rest_or, with_entry}}
use Rattle.law_statements.proofs.Deeds.{meets_allocated}
use Rattle.law_statements.proofs.Holding.{Holds, holds_log_elsewhere, holds_pooled, holds_sent, holds_told, told_with}

module _ (p : Pair) (v : Option Validator) (t0 : Tracked) (n0 : ℕ) (base : Log) (earlier : List Fact) (r : Noted) where
  abbrev Keeps : List Fact → Log → Type 0
  Keeps facts l = Holds p v t0 n0 base earlier 0 r facts l

  -- what the delegators get of a share
  rest_is : (share : Money) (rate : ℕ) (purse : Purse) (x : Money × Purse) → IsMoney share → share_joined share rate purse ≡ Ok x → (rest_of share rate ≡ x.0) × IsMoney x.0
  rest_is share rate purse x money e =
      let one = step_parts (coins_mul_even share rate) (λ part. coins_added purse.commission part >>= λ c. coins_added purse.current (coins_taken share part) >>= λ u. coins_added purse.outstanding share >>= λ o. Ok (coins_taken share part, made o c u)) x e in
      let rest : Money = coins_taken share one.0 in
      let two = step_parts (coins_added purse.commission one.0) (λ c. coins_added purse.current rest >>= λ u. coins_added purse.outstanding share >>= λ o. Ok (rest, made o c u)) x one.2 in
      let three = step_parts (coins_added purse.current rest) (λ u. coins_added purse.outstanding share >>= λ o. Ok (rest, made o two.0 u)) x two.2 in
      let four = step_parts (coins_added purse.outstanding share) (λ o. Ok (rest, made o two.0 three.0)) x three.2 in
      let same : rest ≡ x.0 = ap (λ (y : Money × Purse). y.0) (same_ok (rest, made four.0 two.0 three.0) x four.2) in
      (ap (rest_or share) one.1 ∙ same, subst IsMoney same (taken_is_money share one.0 money))
    where
      made : Money → Money → Money → Purse
      made o c u = record { outstanding = o; commission = c; current = u }

  -- an allocation to a validator that stands, as it stood before the block
  allocated_keeps : (s : Staked) (val : Validator) (share rest : Money) (facts : List Fact) (l : Log) → v ≡ validator_at s p.operator → validator_at s val.operator ≡ Some val → rest_of share val.commission.rate ≡ rest → IsMoney rest → Keeps facts l
      → Keeps (facts ++ fact.Allocated val.operator share ∷ []) (l ++ (val.operator, log.allocated share rest val.tokens) ∷ [])
  allocated_keeps s val share rest facts l before found is money h = by (same_addr val.operator p.operator) refl
    where
      by : (q : Bool) → same_addr val.operator p.operator ≡ q → Keeps (facts ++ fact.Allocated val.operator share ∷ []) (l ++ (val.operator, log.allocated share rest val.tokens) ∷ [])
      by true own =
          let one : val.operator ≡ p.operator = addr_is val.operator p.operator own in
          let there : v ≡ Some val = before ∙ ap (validator_at s) (sym one) ∙ found in
          subst (λ (o : List ℕ). Keeps (facts ++ fact.Allocated o share ∷ []) (l ++ (o, log.allocated share rest val.tokens) ∷ [])) (sym one)
          (told_with p v t0 n0 base earlier 0 0 r facts l (l ++ (p.operator, log.allocated share rest val.tokens) ∷ []) (fact.Allocated p.operator share)
          (λ small m. meets_allocated p v t0 n0 base 0 r.notes (earlier ++ facts) l m small val share rest there (ap (λ (c : Money). with_entry (Allocated c val.tokens) m.due.tracked) is) money) h)
      by false apart =
          holds_log_elsewhere p v t0 n0 base earlier 0 r (facts ++ fact.Allocated val.operator share ∷ []) l val.operator (log.allocated share rest val.tokens) apart
          (holds_told p v t0 n0 base earlier 0 r facts l (fact.Allocated val.operator share) (λ w. ap (λ (q : Bool). record w { tracked = if q then allocation v share w.tracked else w.tracked }) apart) h)

  given_keeps : (s : Staked) (o : Option Validator) (share : Money) (q : Purses) (facts : List Fact) (l : Log) → v ≡ validator_at s p.operator → ((val : Validator) → o ≡ Some val → validator_at s val.operator ≡ Some val) → IsMoney share → Keeps facts l
      → IfOk (share_given o share q facts) (λ y. Keeps y.1 (l ++ y.2))
  given_keeps s None share q facts l before found money h = subst (Keeps facts) (sym (append-nil l)) h
  given_keeps s (Some val) share q facts l before found money h = by (is_empty share)
    where
      by : (b : Bool) → IfOk {T = Purses × List Fact × Log} {E = Over} (if b then Ok (q, facts, []) else (share_joined share val.commission.rate (purse_of q val.operator) >>= λ x.
          Ok (record q { purses = with addr_cmp q.purses val.operator x.1 }, facts ++ fact.Allocated val.operator share ∷ [], (val.operator, log.allocated share x.0 val.tokens) ∷ []))) (λ y. Keeps y.1 (l ++ y.2))
      by true = subst (Keeps facts) (sym (append-nil l)) h
      by false = on_bind (share_joined share val.commission.rate (purse_of q val.operator)) _ _ (λ x e.
          let k = rest_is share val.commission.rate (purse_of q val.operator) x money e in
          allocated_keeps s val share x.0 facts l before (found val refl) k.0 k.1 h)

  shares_keep : (votes : List Vote) (s : Staked) (amount : Money) (total : ℕ) (left : Money) (q : Purses) (facts : List Fact) (l start : Log) → v ≡ validator_at s p.operator → ((cons : List ℕ) (val : Validator) → validator_by_cons s cons ≡ Some val → validator_at s val.operator ≡ Some val)
      → IsMoney amount → Keeps facts (start ++ l) → IfOk (shares_allocated s amount total votes left q facts l) (λ x. Keeps x.1 (start ++ x.2))
  shares_keep [] s amount total left q facts l start before found money h = on_bind (pool_joined left q) _ _ (λ x e. holds_pooled p v t0 n0 base earlier 0 r facts (start ++ l) left h)
  shares_keep (t ∷ ts) s amount total left q facts l start before found money h =
      on_bind (quo_cut_of (t.power * 10 ^ 18) (total * 10 ^ 18)) _ _ (λ part a. on_bind (coins_mul_cut amount part) _ _ (λ share b.
      on_then (share_given (validator_by_cons s t.cons) share q facts) _ (λ y. Keeps y.1 ((start ++ l) ++ y.2)) _
      (given_keeps s (validator_by_cons s t.cons) share q facts (start ++ l) before (found t.cons) (by_is_money (λ n. mul_cut_of n part) (λ n k e. below_is _ _ k e) amount share money b) h) (λ y k.
      shares_keep ts s amount total (coins_taken left share) y.0 y.1 (l ++ y.2) start before found money (subst (Keeps y.1) (append_assoc start l y.2) k))))

  -- all fees of a block
  pub fees_keep : (votes : List Vote) (s : Staked) (d : Shared) (u : View) (l : Log) → v ≡ validator_at s p.operator → ((cons : List ℕ) (val : Validator) → validator_by_cons s cons ≡ Some val → validator_at s val.operator ≡ Some val)
      → IsMoney (in_units (coins_of u.bank (account.Module holder.FeeCollector))) → Keeps u.facts l → IfOk (fees_allocated s votes d u) (λ x. Keeps x.1.facts (l ++ x.2))
  fees_keep votes s d u l before found money h = by (nat_le u.ctx.height 1)
    where
      fees : Money
      fees = coins_of u.bank (account.Module holder.FeeCollector)

      first : View
      first = sent (account.Module holder.FeeCollector) (account.Module holder.Distribution) fees u

      total : ℕ
      total = sum (map (λ t. t.power) votes)

      sent_keeps : Keeps first.facts (l ++ [])
      sent_keeps = subst (Keeps first.facts) (sym (append-nil l)) (holds_sent p v t0 n0 base earlier 0 r u.facts l (account.Module holder.FeeCollector) (account.Module holder.Distribution) fees h)

      by : (b : Bool) → IfOk {T = Shared × View × Log} {E = Over} (if b then Ok (d, u, []) else (allocated s u.ctx.params fees votes d.purses first.facts >>= λ x.
          Ok (record d { purses = x.0 }, record first { facts = x.1 }, x.2))) (λ x. Keeps x.1.facts (l ++ x.2))
      by true = subst (Keeps u.facts) (sym (append-nil l)) h
      by false =
          on_then (allocated s u.ctx.params fees votes d.purses first.facts) _ (λ x. Keeps x.1 (l ++ x.2)) _
          (on_bind (coins_mul_cut (in_units fees) (10 ^ 18 - u.ctx.params.community_tax)) _ _ (λ amount e.
          shares_keep (sharing total votes) s amount total (in_units fees) d.purses first.facts [] l before found (by_is_money (λ n. mul_cut_of n (10 ^ 18 - u.ctx.params.community_tax)) (λ n k g. below_is _ _ k g) (in_units fees) amount money e) sent_keeps))
          (λ x k. k)
