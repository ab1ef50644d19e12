-- What was burned of all denominations together is what was burned of one, where nothing was burned of any other.
use Rattle.std.proofs.Common.{◌≡◌, ◌∙◌, ap, refl, sym, arith, ℕ, ◌+◌, List, [], ◌∷◌, ◌++◌, map, sum, sum_by, Less, Equal, Greater}
use Rattle.std.proofs.lemmas.List.Sums.{sum_by-append, sum_by-cons}
use Rattle.base_types.specs.Orders.{denom_cmp}
use Rattle.base_coins.proofs.Amounts.{itself}
use Rattle.base_coins.proofs.Order.{amount-first, amount-first_greater, amount-first_less, by_order, greater_back, less_back}
use Rattle.base_roles.specs.declared.facts.Fact.{Fact}
use Rattle.base_roles.specs.declared.facts.Fact.TheVariants as fact
use Rattle.base_messages.specs.declared.report.{BlockReport.BlockReport, TxReport.TxReport}
use Rattle.rule_machine.specs.Promises.{facts_of}
use Rattle.rule_modules.specs.Laws.{burned_in as burned_of, burned_in_fact}
use Rattle.run_trial.specs.Summary.{burned_amount, burned_by, burned_in}

-- of every other denomination it is nothing
abbrev pub IsNothingBut : List ℕ → (List ℕ → ℕ) → Type 0
IsNothingBut d n = (e : List ℕ) → (denom_cmp e d ≡ Equal → ⊥) → n e ≡ 0

-- ---- facts

fact_burned : (d : List ℕ) (f : Fact) → IsNothingBut d (λ e. burned_in_fact e f) → burned_amount f ≡ burned_in_fact d f
fact_burned d (fact.Burn from coin) h =
    by_order (denom_cmp d coin.denom)
    (λ less. none (λ same. absurd (apart (less_back d coin.denom less) same)) ∙ sym (amount-first_less d (coin.denom, coin.amount) [] less))
    (λ same. sym (amount-first d (coin.denom, coin.amount) [] same))
    (λ greater. none (λ same. absurd (behind (greater_back d coin.denom greater) same)) ∙ sym (amount-first_greater d (coin.denom, coin.amount) [] greater))
  where
    none : (denom_cmp coin.denom d ≡ Equal → ⊥) → coin.amount ≡ 0
    none other = sym (amount-first coin.denom (coin.denom, coin.amount) [] (itself coin.denom)) ∙ h coin.denom other

    apart : denom_cmp coin.denom d ≡ Greater → denom_cmp coin.denom d ≡ Equal → ⊥
    apart g e = absurd cc

    behind : denom_cmp coin.denom d ≡ Less → denom_cmp coin.denom d ≡ Equal → ⊥
    behind l e = absurd cc
fact_burned d (fact.Transfer from to coins) h = refl
fact_burned d (fact.Allocated validator share) h = refl
fact_burned d (fact.Pooled coins) h = refl
fact_burned d (fact.Period validator period ratio) h = refl
fact_burned d (fact.Started delegator validator period stake) h = refl
fact_burned d (fact.Slashed validator fraction burned) h = refl
fact_burned d (fact.Paid delegator validator to reward coins) h = refl
fact_burned d (fact.Commission validator to coins) h = refl
fact_burned d (fact.Changed validator status) h = refl
fact_burned d (fact.Jailed validator) h = refl
fact_burned d (fact.Unjailed validator) h = refl
fact_burned d (fact.Tombstoned validator) h = refl
fact_burned d (fact.Removed validator) h = refl
fact_burned d (fact.ParamsChanged authority) h = refl

first_none : (m n s : ℕ) → s ≡ m + n → s ≡ 0 → m ≡ 0
first_none m n s e z = omega (arith, e, z)

rest_none : (m n s : ℕ) → s ≡ m + n → s ≡ 0 → n ≡ 0
rest_none m n s e z = omega (arith, e, z)

both : (m n m' n' s s' : ℕ) → m ≡ m' → n ≡ n' → s ≡ m + n → s' ≡ m' + n' → s ≡ s'
both m n m' n' s s' e f g h = omega (arith, e, f, g, h)

facts_burned : (d : List ℕ) (facts : List Fact) → IsNothingBut d (λ e. burned_of e facts) → burned_by facts ≡ burned_of d facts
facts_burned d [] h = refl
facts_burned d (f ∷ facts) h =
    both (burned_amount f) (burned_by facts) (burned_in_fact d f) (burned_of d facts) (burned_by (f ∷ facts)) (burned_of d (f ∷ facts))
    (fact_burned d f (λ e other. first_none (burned_in_fact e f) (burned_of e facts) (burned_of e (f ∷ facts)) (said e) (h e other)))
    (facts_burned d facts (λ e other. rest_none (burned_in_fact e f) (burned_of e facts) (burned_of e (f ∷ facts)) (said e) (h e other)))
    (sum_by-cons burned_amount f facts) (said d)
  where
    said : (e : List ℕ) → burned_of e (f ∷ facts) ≡ burned_in_fact e f + burned_of e facts
    said e = sum_by-cons (λ n. n) (burned_in_fact e f) (map (burned_in_fact e) facts)

-- ---- blocks

-- facts of transactions, one after the other
in_turn_said : (g : List TxReport → List Fact) → g [] ≡ [] → ((t : TxReport) (ts : List TxReport) → g (t ∷ ts) ≡ t.facts ++ g ts) → (ts : List TxReport) → burned_by (g ts) ≡ sum_by (λ t. burned_by t.facts) ts
in_turn_said g none more [] = ap burned_by none
in_turn_said g none more (t ∷ ts) =
    ap burned_by (more t ts) ∙ sum_by-append burned_amount t.facts (g ts) ∙ ap (λ n. burned_by t.facts + n) (in_turn_said g none more ts)
    ∙ sym (sum_by-cons (λ (u : TxReport). burned_by u.facts) t ts)

parts_said : (begun ended : List Fact) (g : List TxReport → List Fact) → g [] ≡ [] → ((t : TxReport) (ts : List TxReport) → g (t ∷ ts) ≡ t.facts ++ g ts) → (ts : List TxReport)
    → burned_by (begun ++ g ts ++ ended) ≡ burned_by begun + sum_by (λ t. burned_by t.facts) ts + burned_by ended
parts_said begun ended g none more ts =
    sum_by-append burned_amount (begun ++ g ts) ended
    ∙ ap (λ n. n + burned_by ended) (sum_by-append burned_amount begun (g ts) ∙ ap (λ n. burned_by begun + n) (in_turn_said g none more ts))

block_said : (height time : ℕ) (begun ended : List Fact) (ts : List TxReport)
    → burned_by (facts_of (record { height = height; time = time; begun = begun; txs = ts; ended = ended })) ≡ burned_by begun + sum_by (λ t. burned_by t.facts) ts + burned_by ended
block_said height time begun ended = parts_said begun ended _ refl (λ t us. refl)

-- what blocks say was burned of a denomination
abbrev pub burned_of_all : List ℕ → List BlockReport → ℕ
burned_of_all d reports = sum (map (λ b. burned_of d (facts_of b)) reports)

pub all_burned : (d : List ℕ) (reports : List BlockReport) → IsNothingBut d (λ e. burned_of_all e reports) → sum_by burned_in reports ≡ burned_of_all d reports
all_burned d [] h = refl
all_burned d (b ∷ reports) h =
    both (burned_in b) (sum_by burned_in reports) (burned_of d (facts_of b)) (burned_of_all d reports) (sum_by burned_in (b ∷ reports)) (burned_of_all d (b ∷ reports))
    (sym (block_said b.height b.time b.begun b.ended b.txs)
    ∙ facts_burned d (facts_of b) (λ e other. first_none (burned_of e (facts_of b)) (burned_of_all e reports) (burned_of_all e (b ∷ reports)) (said e) (h e other)))
    (all_burned d reports (λ e other. rest_none (burned_of e (facts_of b)) (burned_of_all e reports) (burned_of_all e (b ∷ reports)) (said e) (h e other)))
    (sum_by-cons burned_in b reports) (said d)
  where
    said : (e : List ℕ) → burned_of_all e (b ∷ reports) ≡ burned_of e (facts_of b) + burned_of_all e reports
    said e = sum_by-cons (λ n. n) (burned_of e (facts_of b)) (map (λ r. burned_of e (facts_of r)) reports)
