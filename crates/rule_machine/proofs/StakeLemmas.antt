-- Validators in the order of their operators, as one of them is put.
use Rattle.std.proofs.Common.{◌≡◌, ℕ, Bool, true, false, cond, List, [], ◌∷◌, Some, refl, subst, arith, All, Ordering, Less, Equal, Greater}
use Rattle.std.{proofs.lemmas.List.Elements.{All-cons, All-head, All-tail}, specs.Ordering.match_ordering}
use Rattle.std.specs.BTreeMap.{insert_entry}
use Rattle.base_types.specs.declared.status.BondStatus.{BondStatus, TheVariants.{Bonded, Unbonding, Unbonded}}
use Rattle.base_types.specs.Orders.{addr_cmp}
use Rattle.base_roles.specs.{declared.entities.Validator.Validator, Entries.{at, with}, Orders.same_addr}
use Rattle.base_roles.specs.Staked.{tokens_where, is_bonded, is_unbonded}
use Rattle.rule_modules.proofs.{EntryLemmas.{at-put, from_all}, OrderLemmas.addr_total, SoundLemmas.exact_addr}
use Rattle.rule_modules.proofs.TokenLemmas.{counted}

-- validators by operator
abbrev pub Validators : Type 0
Validators = List (List ℕ × Validator)

pub some_is : {A : Type 0} (a b : A) → Some a ≡ Some b → a ≡ b
some_is a b h = cc

-- the validator that stands at an operator after one was put
pub found-put : (es : Validators) (k q : List ℕ) (v : Validator) → at addr_cmp (with addr_cmp es k v) q ≡ cond (same_addr q k) (Some v) (at addr_cmp es q)
found-put es k q v = at-put addr_cmp addr_total es k q v

-- ---- what holds of all validators

module _ (P : List ℕ × Validator → Type 0) where
  pub all-put : (k : List ℕ) (v : Validator) (es : Validators) → P (k, v) → All P es → All P (with addr_cmp es k v)
  all-put k v [] p h = All-cons P (k, v) [] p h
  all-put k v (e ∷ es) p h = by (addr_cmp k e.0) refl (all-put k v es p (All-tail P e es h))
    where
      by : (r : Ordering) → addr_cmp k e.0 ≡ r → All P (insert_entry addr_cmp es k v) → All P (match_ordering r ((k, v) ∷ e ∷ es) ((e.0, v) ∷ es) (e ∷ insert_entry addr_cmp es k v))
      by Less q later = All-cons P (k, v) (e ∷ es) p h
      by Equal q later = All-cons P (e.0, v) es (subst (λ o. P (o, v)) (exact_addr k e.0 q) p) (All-tail P e es h)
      by Greater q later = All-cons P e (insert_entry addr_cmp es k v) (All-head P e es h) later

  pub all-found : (o : List ℕ) (v : Validator) (es : Validators) → All P es → at addr_cmp es o ≡ Some v → P (o, v)
  all-found o v es h f = from_all addr_cmp addr_total P es exact_addr h o v f

-- ---- tokens of the validators that pass a test

module _ (test : BondStatus → Bool) where
  pub tokens-none : (es : Validators) → All (λ e. e.1.tokens ≡ 0) es → tokens_where test es ≡ 0
  tokens-none [] h = refl
  tokens-none (e ∷ es) h =
      let first : counted test e.1 ≡ 0 = by (test e.1.status) (All-head (λ (x : List ℕ × Validator). x.1.tokens ≡ 0) e es h) in
      let rest = tokens-none es (All-tail (λ (x : List ℕ × Validator). x.1.tokens ≡ 0) e es h) in
      omega (arith, first, rest)
    where
      by : (b : Bool) → e.1.tokens ≡ 0 → cond b e.1.tokens 0 ≡ 0
      by true z = z
      by false z = refl

-- tokens of an unbonded validator count among the others
pub other-counted : (status : BondStatus) (n : ℕ) → is_unbonded status ≡ true → cond (cond (is_bonded status) false true) n 0 ≡ n
other-counted Bonded n e = absurd cc
other-counted Unbonding n e = absurd cc
other-counted Unbonded n e = refl
