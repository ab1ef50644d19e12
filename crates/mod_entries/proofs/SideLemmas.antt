-- Entries whose keys begin with an address stand side by side by it: a walk from one of them on ends before another's.
use Rattle.std.proofs.Common.{◌≡◌, ◌∙◌, ℕ, Bool, true, false, cond, List, [], ◌∷◌, Option, Some, None, refl, sym, ap, subst, ◌&&◌, filter, Ordering, Less, Equal, Greater, is_eq}
use Rattle.std.specs.{Ordering.{ordering_then, ordering_reverse}, Cmp.eq_by_cmp_equiv, BTreeMap.is_at}
use Rattle.std.specs.{List.{AllByRecursion, Sorted.IsStrictlySortedBy}, Map.keys_of}
use Rattle.std.proofs.lemmas.Map.Lookups.{exact_bytes}
use Rattle.base_types.{specs.Orders.addr_cmp, proofs.MapLemmas.equal}
use Rattle.base_table.specs.Tabled.{first_of}
use Rattle.base_roles.specs.Orders.{same_addr}
use Rattle.rule_modules.proofs.OrderLemmas.{addr_total}

-- an address that is the same is equal, whichever way it is asked
pub same_turned : (a b : List ℕ) → same_addr b a ≡ is_at (addr_cmp a) b
same_turned a b = (eq_by_cmp_equiv addr_total).symm b a

pub same_equal : (a b : List ℕ) → same_addr b a ≡ true → addr_cmp a b ≡ Equal
same_equal a b h = equal (addr_cmp a b) (sym (same_turned a b) ∙ h)

same_test : (a b : List ℕ) (r : Ordering) → addr_cmp a b ≡ r → same_addr b a ≡ is_eq (ordering_reverse r)
same_test a b r p = ap is_eq (addr_total.antisymm b a ∙ ap ordering_reverse p)

module _ {P : Type 0} (part : P → List ℕ) (inner : P → P → Ordering) where
  -- by the address, then by the rest of the key
  abbrev pub side_cmp : P → P → Ordering
  side_cmp x y = ordering_then (addr_cmp (part x) (part y)) (inner x y)

  -- behind a key of a later address all keys are of later ones
  later : (a : List ℕ) (x y : P) → addr_cmp a (part x) ≡ Less → side_cmp x y ≡ Less → addr_cmp a (part y) ≡ Less
  later a x y p q = by (addr_cmp (part x) (part y)) refl
    where
      by : (r : Ordering) → addr_cmp (part x) (part y) ≡ r → addr_cmp a (part y) ≡ Less
      by Less e = addr_total.trans a (part x) (part y) p e
      by Equal e = subst (λ b. addr_cmp a b ≡ Less) (exact_bytes (part x) (part y) e) p
      by Greater e = let clash : Less ≡ Greater = sym q ∙ ap (λ r. ordering_then r (inner x y)) e in absurd cc

  module _ {V : Type 0} where
    -- the entries of an address
    abbrev pub of_addr : List ℕ → List (P × V) → List (P × V)
    of_addr a es = filter (λ e. same_addr (part e.0) a) es

    -- an entry, where there is one and it is the address's
    abbrev pub if_of_addr : List ℕ → Option (P × V) → Option (P × V)
    if_of_addr a None = None
    if_of_addr a (Some e) = cond (same_addr (part e.0) a) (Some e) None

    later-none : (a : List ℕ) (x : P) → addr_cmp a (part x) ≡ Less → (es : List (P × V)) → AllByRecursion (λ y. side_cmp x y ≡ Less) (keys_of es) → of_addr a es ≡ []
    later-none a x p [] h = refl
    later-none a x p (e ∷ es) h = ap (λ b. cond b (e ∷ of_addr a es) (of_addr a es)) (same_test a (part e.0) Less (later a x e.0 p h.0)) ∙ later-none a x p es h.1

    -- the entries from a key on, told by a test of how the key compares
    abbrev from : P → (Ordering → Bool) → List (P × V) → List (P × V)
    from k t es = filter (λ e. t (side_cmp k e.0) && true) es

    -- the first of them is of the key's own address, where any is
    pub side-first : (k : P) (t : Ordering → Bool) → t Less ≡ true → t Greater ≡ false → (es : List (P × V)) → IsStrictlySortedBy side_cmp (keys_of es)
        → if_of_addr (part k) (first_of (from k t es)) ≡ first_of (from k t (of_addr (part k) es))
    unfolding IsStrictlySortedBy
    side-first k t less greater [] s = refl
    side-first k t less greater (x ∷ es) s = by (addr_cmp (part k) (part x.0)) refl (side-first k t less greater es s.1)
      where
        a : List ℕ
        a = part k

        own : List (P × V)
        own = of_addr (part k) es

        all : AllByRecursion (λ y. side_cmp x.0 y ≡ Less) (keys_of es)
        all = s.0

        right : (q : Bool) → same_addr (part x.0) a ≡ q → first_of (from k t (cond (same_addr (part x.0) a) (x ∷ own) own)) ≡ first_of (from k t (cond q (x ∷ own) own))
        right q e = ap (λ p. first_of (from k t (cond p (x ∷ own) own))) e

        here : (q : Bool) → same_addr (part x.0) a ≡ true → if_of_addr a (first_of (from k t es)) ≡ first_of (from k t own)
            → if_of_addr a (first_of (cond (q && true) (x ∷ from k t es) (from k t es))) ≡ first_of (cond (q && true) (x ∷ from k t own) (from k t own))
        here true e ih = ap (λ p. cond p (Some x) None) e
        here false e ih = ih

        by : (r : Ordering) → addr_cmp a (part x.0) ≡ r → if_of_addr a (first_of (from k t es)) ≡ first_of (from k t own)
            → if_of_addr a (first_of (cond (t (ordering_then r (inner k x.0)) && true) (x ∷ from k t es) (from k t es))) ≡ first_of (from k t (cond (same_addr (part x.0) a) (x ∷ own) own))
        by Less p ih =
            ap (λ q. if_of_addr a (first_of (cond (q && true) (x ∷ from k t es) (from k t es)))) less ∙ ap (λ q. cond q (Some x) None) (same_test a (part x.0) Less p)
            ∙ sym (right false (same_test a (part x.0) Less p) ∙ ap (λ l. first_of (from k t l)) (later-none a x.0 p es all))
        by Equal p ih =
            here (t (inner k x.0)) (same_test a (part x.0) Equal p) ih
            ∙ sym (right true (same_test a (part x.0) Equal p) ∙ ap (λ r. first_of (cond (t (ordering_then r (inner k x.0)) && true) (x ∷ from k t own) (from k t own))) p)
        by Greater p ih = ap (λ q. if_of_addr a (first_of (cond (q && true) (x ∷ from k t es) (from k t es)))) greater ∙ ih ∙ sym (right false (same_test a (part x.0) Greater p))
