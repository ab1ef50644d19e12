-- Accounts that are gathered from balances in order ascend.
use Rattle.std.proofs.Common.{◌≡◌, ◌∙◌, ◌⊎◌, inl, inr, ⊎_elim, sym, ℕ, List, [], ◌∷◌, ◌++◌, Bool, true, false, true≢false, cond, refl, ap, subst, Ordering, Less, Equal, Greater, is_eq}
use Rattle.std.specs.{BTreeMap.is_at, Cmp.tied_itself, List.{AllByRecursion, Sorted.IsStrictlySortedBy}, Map.keys_of}
use Rattle.std.{specs.Ordering.ordering_then, proofs.lemmas.Map.Keys.{sorted_head, sorted_tail}}
use Rattle.base_types.specs.{declared.account.Account.Account, Orders.{account_cmp, denom_cmp}}
use Rattle.base_coins.specs.Coins.{Money}
use Rattle.base_roles.{specs.{Holdings.Balances, Orders.place_cmp}, proofs.HoldingLemmas.account_total}
use Rattle.rule_machine.specs.Report.{accounts_in, joined}
use Rattle.line_report.proofs.TotalLemmas.{account_exact}

-- ---- accounts before and behind others

-- the balances are of accounts behind this one, or of itself
abbrev pub NotBefore : Account → Balances → Type 0
NotBefore who bs = AllByRecursion (λ b. (account_cmp who b.0.0 ≡ Less) ⊎ (who ≡ b.0.0)) bs

-- the accounts are behind this one
abbrev Behind : Account → List (Account × Money) → Type 0
Behind who accounts = AllByRecursion (λ other. account_cmp who other.0 ≡ Less) accounts

-- those after the first are
abbrev pub BehindFirst : Account → List (Account × Money) → Type 0
BehindFirst who [] = Unit {0}
BehindFirst who (a ∷ accounts) = Behind who accounts

first_part : (a b : Ordering) → ordering_then a b ≡ Less → (a ≡ Less) ⊎ (a ≡ Equal)
first_part Less b h = inl refl
first_part Equal b h = inr refl
first_part Greater b h = absurd cc

pub not_before : (place : Account × List ℕ) (bs : Balances) → AllByRecursion (λ y. place_cmp place y ≡ Less) (keys_of bs) → NotBefore place.0 bs
not_before place [] h = tt
not_before place (b ∷ bs) h =
    (⊎_elim (λ l. inl l) (λ e. inr (account_exact place.0 b.0.0 e)) (first_part (account_cmp place.0 b.0.0) (denom_cmp place.1 b.0.1) h.0), not_before place bs h.1)

less_or_same : (a b : Account) → (account_cmp a b ≡ Less) ⊎ (a ≡ b) → is_at (account_cmp a) b ≡ false → account_cmp a b ≡ Less
less_or_same a b (inl l) e = l
less_or_same a b (inr same) e = absurd (true≢false (sym (ap is_eq (tied_itself account_total a)) ∙ (ap (λ x. is_at (account_cmp a) x) same ∙ e)))

further : (a b : Account) (accounts : List (Account × Money)) → (account_cmp a b ≡ Less) ⊎ (a ≡ b) → Behind b accounts → Behind a accounts
further a b [] l h = tt
further a b (other ∷ accounts) l h =
    (⊎_elim (λ less. account_total.trans a b other.0 less h.0) (λ same. ap (λ x. account_cmp x other.0) same ∙ h.0) l, further a b accounts l h.1)

pub behind_head : (a b : Account) (accounts : List (Account × Money)) → (account_cmp a b ≡ Less) ⊎ (a ≡ b) → BehindFirst b accounts → BehindFirst a accounts
behind_head a b [] l h = tt
behind_head a b (other ∷ accounts) l h = further a b accounts l h

-- ---- the accounts of balances in order

-- coins join an account in front, of this name
record Front (who : Account) (accounts : List (Account × Money)) : Type 0 where
  coins : Money
  more : List (Account × Money)
  is : accounts ≡ (who, coins) ∷ more

in_front : (who : Account) (coins : Money) (rest : List (Account × Money)) → Front who (joined who coins rest)
in_front who coins [] = record { coins = coins; more = []; is = refl }
in_front who coins (a ∷ rest) = by (is_at (account_cmp who) a.0)
  where
    by : (t : Bool) → Front who (cond t ((who, coins ++ a.1) ∷ rest) ((who, coins) ∷ a ∷ rest))
    by true = record { coins = coins ++ a.1; more = rest; is = refl }
    by false = record { coins = coins; more = a ∷ rest; is = refl }

joined_behind : (who next : Account) (coins theirs : Money) (more : List (Account × Money)) → (account_cmp who next ≡ Less) ⊎ (who ≡ next) → Behind next more
    → BehindFirst who (joined who coins ((next, theirs) ∷ more))
joined_behind who next coins theirs more l h = by (is_at (account_cmp who) next) refl
  where
    by : (t : Bool) → is_at (account_cmp who) next ≡ t → BehindFirst who (cond t ((who, coins ++ theirs) ∷ more) ((who, coins) ∷ (next, theirs) ∷ more))
    by true e = further who next more l h
    by false e = let less = less_or_same who next l e in (less, further who next more (inl less) h)

-- each account is behind the first one
pub behind_itself : (b : (Account × List ℕ) × ℕ) (bs : Balances) → IsStrictlySortedBy place_cmp (keys_of (b ∷ bs)) → BehindFirst b.0.0 (accounts_in (b ∷ bs))
behind_itself b [] s = tt
behind_itself b (c ∷ cs) s =
    let front : Front c.0.0 (accounts_in (c ∷ cs)) = in_front c.0.0 ((c.0.1, c.1) ∷ []) (accounts_in cs) in
    let behind : Behind c.0.0 front.more =
    subst (BehindFirst c.0.0) front.is (behind_itself c cs (sorted_tail place_cmp b.0 (keys_of (c ∷ cs)) s)) in
    let first = not_before b.0 (c ∷ cs) (sorted_head place_cmp b.0 (keys_of (c ∷ cs)) s) in
    subst (λ accounts. BehindFirst b.0.0 (joined b.0.0 ((b.0.1, b.1) ∷ []) accounts)) (sym front.is)
    (joined_behind b.0.0 c.0.0 ((b.0.1, b.1) ∷ []) front.coins front.more first.0 behind)
