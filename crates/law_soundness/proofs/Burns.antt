-- What is there and what facts say was burned: together they stay, whether coins move, burn or something is told.
use Rattle.std.proofs.Common.{◌≡◌, ◌∙◌, ℕ, ◌+◌, ◌≤◌, ◌==◌, Bool, true, false, cond, List, [], ◌∷◌, ◌++◌, Some, None, refl, sym, ap, arith, if◌then◌else◌, unwrap_or}
use Rattle.std.{specs.BTreeMap.is_at, proofs.lemmas.Bool.Decides.nat_tests}
use Rattle.std.proofs.lemmas.List.Sums.{sum_by-append, sum_by_push, sum-map}
use Rattle.base_types.specs.{declared.account.{Account.Account, Module.Module}, Orders.denom_cmp}
use Rattle.base_types.specs.declared.account.Account.TheVariants as account
use Rattle.base_coins.specs.Coins.{Money, amount_of}
use Rattle.base_roles.specs.declared.facts.Fact.{Fact}
use Rattle.base_roles.specs.Holdings.{balance_of, supply_of, moved, burned, transfer_told, burn_told, IsBacked}
use Rattle.base_roles.{specs.World.{View, sent, burnt}, proofs.BurnLemmas.burns_lower_supplies}
use Rattle.base_roles.proofs.HoldingLemmas.{supplies-moved}
use Rattle.base_roles.specs.declared.facts.Fact.TheVariants as fact
use Rattle.rule_modules.specs.{Amounts.is_empty, Laws.{burned_in, burned_in_fact}, Purses.pooled_told}

-- how much there is of a denomination, with what the facts say was burned of it
abbrev pub total_in : View → List ℕ → ℕ
total_in v d = supply_of v.bank d + burned_in d v.facts

-- facts that say no more of burns than others
abbrev pub SayNoMore : List Fact → List Fact → Type 0
SayNoMore old new = (d : List ℕ) → burned_in d new ≡ burned_in d old

-- a fact that says nothing of burns
abbrev pub IsQuiet : Fact → Type 0
IsQuiet f = (d : List ℕ) → burned_in_fact d f ≡ 0

-- ---- facts, one behind the other

burned_behind : (d : List ℕ) (facts : List Fact) (f : Fact) → burned_in d (facts ++ f ∷ []) ≡ burned_in d facts + burned_in_fact d f
burned_behind d facts f =
    sum-map (burned_in_fact d) (facts ++ f ∷ []) ∙ sum_by_push (burned_in_fact d) facts f ∙ ap (λ n. n + burned_in_fact d f) (sym (sum-map (burned_in_fact d) facts))

pub burned_together : (d : List ℕ) (facts more : List Fact) → burned_in d (facts ++ more) ≡ burned_in d facts + burned_in d more
burned_together d facts more =
    sum-map (burned_in_fact d) (facts ++ more) ∙ sum_by-append (burned_in_fact d) facts more
    ∙ (λ i. sym (sum-map (burned_in_fact d) facts) i + sym (sum-map (burned_in_fact d) more) i)

none_more : (x n : ℕ) → n ≡ 0 → x + n ≡ x
none_more x n e = omega (arith, e)

-- a quiet fact more
pub quiet_behind : (facts : List Fact) (f : Fact) → IsQuiet f → SayNoMore facts (facts ++ f ∷ [])
quiet_behind facts f q d = burned_behind d facts f ∙ none_more (burned_in d facts) (burned_in_fact d f) (q d)

pub quiet_pooled : (coins : Money) (facts : List Fact) → SayNoMore facts (pooled_told coins facts)
quiet_pooled coins facts = by (is_empty coins)
  where
    by : (b : Bool) → SayNoMore facts (if b then facts else facts ++ fact.Pooled coins ∷ [])
    by true = λ d. refl
    by false = quiet_behind facts (fact.Pooled coins) (λ d. refl)

quiet_transfer : (from to : Account) (coins : Money) (facts : List Fact) → SayNoMore facts (transfer_told from to coins facts)
quiet_transfer from to [] facts = λ d. refl
quiet_transfer from to (c ∷ cs) facts = quiet_behind facts (fact.Transfer from to (c ∷ cs)) (λ d. refl)

-- ---- coins that move, and coins that burn

pub total_sent : (from to : Account) (coins : Money) (v : View) (d : List ℕ) → total_in (sent from to coins v) d ≡ total_in v d
total_sent from to coins v d =
    let there : supply_of (moved from to coins v.bank) d ≡ supply_of v.bank d = ap (λ c. amount_of c d) (supplies-moved coins v.bank from to) in
    (λ i. there i + quiet_transfer from to coins v.facts d i)

burn_said : (from : Module) (e : List ℕ) (n : ℕ) (facts : List Fact) (d : List ℕ) → burned_in d (burn_told from e n facts) ≡ burned_in d facts + cond (is_at (denom_cmp d) e) n 0
burn_said from e n facts d = by (n == 0) refl
  where
    coin : Fact
    coin = fact.Burn from (record { denom = e; amount = n })

    nothing : (b : Bool) → n ≡ 0 → cond b n 0 ≡ 0
    nothing true z = z
    nothing false z = refl

    one : (b : Bool) → unwrap_or (cond b (Some n) None) 0 ≡ cond b n 0
    one true = refl
    one false = refl

    by : (z : Bool) → (n == 0) ≡ z → burned_in d (if z then facts else facts ++ coin ∷ []) ≡ burned_in d facts + cond (is_at (denom_cmp d) e) n 0
    by true z = sym (none_more (burned_in d facts) (cond (is_at (denom_cmp d) e) n 0) (nothing (is_at (denom_cmp d) e) (grind (arith, nat_tests, z))))
    by false z = burned_behind d facts coin ∙ ap (λ m. burned_in d facts + m) (one (is_at (denom_cmp d) e))

pub total_burnt : (from : Module) (e : List ℕ) (n : ℕ) (v : View) → IsBacked v.bank → n ≤ balance_of v.bank (account.Module from) e → (d : List ℕ) → total_in (burnt from e n v) d ≡ total_in v d
total_burnt from e n v backed le d =
    let less : supply_of (burned (account.Module from) e n v.bank) d + cond (is_at (denom_cmp d) e) n 0 ≡ supply_of v.bank d = burns_lower_supplies v.bank (account.Module from) e n backed le d in
    balanced _ _ _ _ _ less (burn_said from e n v.facts d)
  where
    balanced : (a b c x y : ℕ) → a + c ≡ b → y ≡ x + c → a + y ≡ b + x
    balanced a b c x y p q = omega (arith, p, q)
