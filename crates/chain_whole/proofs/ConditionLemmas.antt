-- The first of several conditions that holds.
use Rattle.std.proofs.Common.{◌≡◌, ◌∙◌, ℕ, Bool, true, false, List, [], ◌∷◌, ◌++◌, map, Option, Some, None, Result, Ok, Err, refl, sym, ap, subst, MatchOption, IfOk, nat_lt, not, ◌||◌}
use Rattle.std.specs.{List.list_any, BTreeMap.is_at}
use Rattle.base_types.specs.Orders.{addr_cmp}
use Rattle.base_messages.specs.declared.genesis.Genesis.{Genesis}
use Rattle.rule_machine.specs.Genesis.{first_that_holds, supplies_with, has_too_much, denominations_with}
use Rattle.rule_machine.specs.GenesisConditions.{accounts_at_start, has_operator_twice, has_cons_twice, has_wrong_rate, has_no_minimum, has_unknown_operator, has_pair_twice, has_empty_delegation, has_lonely_validator}

-- the first holds
pub holds_first : (n : ℕ) (b : Bool) (cs : List (ℕ × Bool)) → b ≡ true → Some n ≡ first_that_holds ((n, b) ∷ cs)
holds_first n true cs e = refl
holds_first n false cs e = absurd cc

-- the first does not hold
pub fails_first : (n : ℕ) (b : Bool) (cs : List (ℕ × Bool)) (o : Option ℕ) → b ≡ false → o ≡ first_that_holds cs → o ≡ first_that_holds ((n, b) ∷ cs)
fails_first n true cs o e f = absurd cc
fails_first n false cs o e f = f

-- one of the first conditions holds
pub holds_among : (cs ds : List (ℕ × Bool)) (o : Option ℕ) (n : ℕ) → o ≡ Some n → o ≡ first_that_holds cs → Some n ≡ first_that_holds (cs ++ ds)
holds_among [] ds o n e f = absurd cc
holds_among (c ∷ cs) ds o n e f = by c.1 f (λ g. holds_among cs ds o n e g)
  where
    by : (b : Bool) → o ≡ first_that_holds ((c.0, b) ∷ cs) → (o ≡ first_that_holds cs → Some n ≡ first_that_holds (cs ++ ds)) → Some n ≡ first_that_holds ((c.0, b) ∷ cs ++ ds)
    by true g later = sym e ∙ g
    by false g later = later g

-- none of the first conditions holds
pub fails_among : (cs ds : List (ℕ × Bool)) (o r : Option ℕ) → o ≡ None → o ≡ first_that_holds cs → r ≡ first_that_holds ds → r ≡ first_that_holds (cs ++ ds)
fails_among [] ds o r e f g = g
fails_among (c ∷ cs) ds o r e f g = by c.1 f (λ h. fails_among cs ds o r e h g)
  where
    by : (b : Bool) → o ≡ first_that_holds ((c.0, b) ∷ cs) → (o ≡ first_that_holds cs → r ≡ first_that_holds (cs ++ ds)) → r ≡ first_that_holds ((c.0, b) ∷ cs ++ ds)
    by true h later = absurd cc
    by false h later = later h

-- ---- what a match on an option leaves

pub at_none : {X : Type 0} (P : Type 0) (Q : X → Type 0) (o : Option X) → o ≡ None → MatchOption o P Q → P
at_none P Q None e m = m
at_none P Q (Some x) e m = absurd cc

pub at_some : {X : Type 0} (P : Type 0) (Q : X → Type 0) (o : Option X) (x : X) → o ≡ Some x → MatchOption o P Q → Q x
at_some P Q None x e m = absurd cc
at_some P Q (Some y) x e m = let same : y ≡ x = cc in subst Q same m

-- ---- the conditions, with their numbers

abbrev pub minimum_test : Genesis → List (ℕ × Bool)
minimum_test g = (6, has_no_minimum g.validators) ∷ []

abbrev pub rate_tests : Genesis → List (ℕ × Bool)
rate_tests g = (5, has_wrong_rate g.params g.validators) ∷ minimum_test g

abbrev pub cons_tests : Genesis → List (ℕ × Bool)
cons_tests g = (4, has_cons_twice g.validators) ∷ rate_tests g

abbrev pub validator_tests : Genesis → List (ℕ × Bool)
validator_tests g = (3, has_operator_twice g.validators) ∷ cons_tests g

abbrev pub lonely_test : Genesis → List (ℕ × Bool)
lonely_test g = (10, has_lonely_validator g.validators g.delegations) ∷ []

abbrev pub empty_tests : Genesis → List (ℕ × Bool)
empty_tests g = (9, has_empty_delegation g.delegations) ∷ lonely_test g

abbrev pub pair_tests : Genesis → List (ℕ × Bool)
pair_tests g = (8, has_pair_twice g.delegations) ∷ empty_tests g

abbrev pub delegation_tests : Genesis → List (ℕ × Bool)
delegation_tests g = (7, has_unknown_operator g.validators g.delegations) ∷ pair_tests g

abbrev pub many_test : Genesis → List (ℕ × Bool)
many_test g = (12, nat_lt 1_000_000 (denominations_with g.params.bond_denom (supplies_with (accounts_at_start g) []))) ∷ []

abbrev pub amount_tests : Genesis → List (ℕ × Bool)
amount_tests g = (11, has_too_much (supplies_with (accounts_at_start g) [])) ∷ many_test g

-- ---- keys among others

any-map : {A B : Type 0} (f : B → Bool) (g : A → B) (xs : List A) → list_any f (map g xs) ≡ list_any (λ x. f (g x)) xs
any-map f g [] = refl
any-map f g (x ∷ xs) = ap (λ b. f (g x) || b) (any-map f g xs)

not_not : (b : Bool) → not (not b) ≡ b
not_not true = refl
not_not false = refl

-- not all of these keys stand among others
pub not_among : {A B : Type 0} (key : A → List ℕ) (other : B → List ℕ) (xs : List A) (bs : List B) (keys others : List (List ℕ)) (b : Bool) → keys ≡ map key xs → others ≡ map other bs
    → b ≡ not (list_any (λ k. not (list_any (λ o. is_at (addr_cmp o) k) others)) keys) → not b ≡ list_any (λ a. not (list_any (λ x. is_at (addr_cmp (other x)) (key a)) bs)) xs
not_among {A = A} key other xs bs keys others b e f is =
    ap not is ∙ not_not (list_any (λ k. not (list_any (λ o. is_at (addr_cmp o) k) others)) keys)
    ∙ ap (λ (ks : List (List ℕ)). list_any (λ k. not (list_any (λ o. is_at (addr_cmp o) k) others)) ks) e
    ∙ ap (λ (os : List (List ℕ)). list_any (λ k. not (list_any (λ o. is_at (addr_cmp o) k) os)) (map key xs)) f
    ∙ any-map (λ k. not (list_any (λ o. is_at (addr_cmp o) k) (map other bs))) key xs
    ∙ ap (λ (test : A → Bool). list_any test xs) (λ i a. not (any-map (λ o. is_at (addr_cmp o) (key a)) other bs i))

-- ---- what follows of a clause on an answer of Ok

pub if_ok : {A E : Type 0} (P Q : A → Type 0) (r : Result A E) → IfOk r P → ((a : A) → P a → Q a) → IfOk r Q
if_ok P Q (Ok a) p f = f a p
if_ok P Q (Err e) p f = tt
