-- The ways to entries, as keys join, change and leave.
use Rattle.std.proofs.Common.{◌≡◌, ◌∙◌, ℕ, Bool, true, false, cond, List, Option, Some, None, refl, sym, ap, subst, ◌&&◌, is_some, if◌then◌else◌, Ordering}
use Rattle.std.specs.{Cmp.{IsTotalOrder, tied_then, on_total, then_total}, List.Sorted.IsStrictlySortedBy, Map.keys_of}
use Rattle.std.{specs.BTreeMap.is_at, proofs.lemmas.Cmp.nat_cmp_total}
use Rattle.base_types.{specs.Orders.{addr_cmp, moment_cmp}, proofs.MapLemmas.{at-put, at-taken, equal}}
use Rattle.base_roles.specs.{Entries.at, Orders.both_cmp}
use Rattle.rule_modules.{proofs.OrderLemmas.addr_total, specs.EntrySlashes.Made}
use Rattle.mod_entries.specs.{Lists.IsExact, Queue.{completion_of, Completions, IsQueue}}
use Rattle.mod_entries.specs.Sources.{source_of, AreSourced, Sources}
use Rattle.mod_entries.specs.Ways.{is_there, queued, standing, unqueued, IsWay, Way}

-- what stands there then: now in a, before in c, and the key is this one in b
placed : (a b c : Bool) (x y : Option Bool) → x ≡ y → (b ≡ true → y ≡ cond c (Some true) None) → cond (a && b) (Some true) (cond (c && b) None x) ≡ cond b (cond a (Some true) None) y
placed true true c x y e f = refl
placed false true true x y e f = refl
placed false true false x y e f = e ∙ f refl
placed true false true x y e f = e
placed true false false x y e f = e
placed false false true x y e f = e
placed false false false x y e f = e

module _ {P K : Type 0} (first : P → P → Ordering) (ordered : IsTotalOrder first) (cmp : K → K → Ordering) (total : IsTotalOrder cmp) where
  pub place_total : IsTotalOrder (both_cmp first cmp)
  place_total = then_total (on_total (λ (x : P × K). x.0) ordered) (on_total (λ (x : P × K). x.1) total)

  place_found : (p q : P) (a b : K) → is_at (both_cmp first cmp (p, a)) (q, b) ≡ (is_at (first p) q && is_at (cmp a) b)
  place_found p q a b = sym (tied_then (first p q) (cmp a b))

  at-queued : (key k : K) (p : P) (now : Option P) (w : Way P K) → at (both_cmp first cmp) (queued first cmp key now w) (p, k) ≡ cond (is_there first p now && is_at (cmp k) key) (Some true) (at (both_cmp first cmp) w (p, k))
  at-queued key k p None w = refl
  at-queued key k p (Some n) w = at-put (both_cmp first cmp) place_total w (n, key) (p, k) true ∙ ap (λ b. cond b (Some true) (at (both_cmp first cmp) w (p, k))) (place_found p n k key)

  at-unqueued : (key k : K) (p : P) (was : Option P) (w : Way P K) → IsStrictlySortedBy (both_cmp first cmp) (keys_of w)
      → at (both_cmp first cmp) (unqueued first cmp key was w) (p, k) ≡ cond (is_there first p was && is_at (cmp k) key) None (at (both_cmp first cmp) w (p, k))
  at-unqueued key k p None w in_order = refl
  at-unqueued key k p (Some n) w in_order = at-taken (both_cmp first cmp) place_total w (n, key) (p, k) in_order ∙ ap (λ b. cond b None (at (both_cmp first cmp) w (p, k))) (place_found p n k key)

  -- other entries stand under one key
  module _ {E : Type 0} (place : K → Option (List E) → Option P) (exact : IsExact cmp) (u u2 : List (K × List E)) (w : Way P K) (key : K) (now : Option (List E))
      (h : IsWay first cmp place u w) (changed : (k : K) → at cmp u2 k ≡ cond (is_at (cmp k) key) now (at cmp u k)) where
    here : (k : K) → is_at (cmp k) key ≡ true → k ≡ key
    here k s = exact k key (equal (cmp k key) s)

    at_key : (b : Bool) (p : P) (k : K) (other : Option (List E)) → (b ≡ true → k ≡ key) → cond b (standing first p (place key now)) (standing first p (place k other)) ≡ standing first p (place k (cond b now other))
    at_key true p k other same = ap (λ (x : K). standing first p (place x now)) (sym (same refl))
    at_key false p k other same = refl

    -- the way once the key goes from the place that it had to that which it has
    pub requeued : IsStrictlySortedBy (both_cmp first cmp) (keys_of w) → IsWay first cmp place u2 (queued first cmp key (place key now) (unqueued first cmp key (place key (at cmp u key)) w))
    requeued in_order p k =
        at-queued key k p (place key now) (unqueued first cmp key (place key (at cmp u key)) w)
        ∙ ap (cond (is_there first p (place key now) && is_at (cmp k) key) (Some true)) (at-unqueued key k p (place key (at cmp u key)) w in_order)
        ∙ placed (is_there first p (place key now)) (is_at (cmp k) key) (is_there first p (place key (at cmp u key))) (at (both_cmp first cmp) w (p, k)) (standing first p (place k (at cmp u k))) (h p k)
        (λ s. ap (λ (x : K). standing first p (place x (at cmp u x))) (here k s))
        ∙ at_key (is_at (cmp k) key) p k (at cmp u k) (here k)
        ∙ ap (λ l. standing first p (place k l)) (sym (changed k))

    -- where its place stays, the way does
    pub way-stays : place key now ≡ place key (at cmp u key) → IsWay first cmp place u2 w
    way-stays same p k = h p k ∙ by (is_at (cmp k) key) (here k) ∙ ap (λ l. standing first p (place k l)) (sym (changed k))
      where
        by : (b : Bool) → (b ≡ true → k ≡ key) → standing first p (place k (at cmp u k)) ≡ standing first p (place k (cond b now (at cmp u k)))
        by true is =
            ap (λ (x : K). standing first p (place x (at cmp u x))) (is refl) ∙ ap (standing first p) (sym same)
            ∙ ap (λ (x : K). standing first p (place x now)) (sym (is refl))
        by false is = refl

pub completion_total : {K : Type 0} (cmp : K → K → Ordering) → IsTotalOrder cmp → IsTotalOrder (both_cmp moment_cmp cmp)
completion_total cmp total = place_total moment_cmp nat_cmp_total cmp total

pub source_total : {K : Type 0} (cmp : K → K → Ordering) → IsTotalOrder cmp → IsTotalOrder (both_cmp addr_cmp cmp)
source_total cmp total = place_total addr_cmp addr_total cmp total

-- ---- both ways, once other entries stand under one key

module _ {K E : Type 0} (cmp : K → K → Ordering) (total : IsTotalOrder cmp) (exact : IsExact cmp) (u u2 : List (K × List E)) (key : K) where
  module _ (made : E → Made) (now : Option (List E)) (q : Completions K) (h : IsQueue cmp made u q) (in_order : IsStrictlySortedBy (both_cmp moment_cmp cmp) (keys_of q)) (changed : (k : K) → at cmp u2 k ≡ cond (is_at (cmp k) key) now (at cmp u k)) where
    pub queue-changed : IsQueue cmp made u2 (queued moment_cmp cmp key (completion_of made key now) (unqueued moment_cmp cmp key (completion_of made key (at cmp u key)) q))
    queue-changed = requeued moment_cmp nat_cmp_total cmp total (completion_of made) exact u u2 q key now h changed in_order

  module _ (source : K → List ℕ) (w : Sources K) (h : AreSourced cmp source u w) (in_order : IsStrictlySortedBy (both_cmp addr_cmp cmp) (keys_of w)) (stood : Bool) (is : stood ≡ is_some (at cmp u key)) where
    moved : (now : Option (List E)) → ((k : K) → at cmp u2 k ≡ cond (is_at (cmp k) key) now (at cmp u k)) → (o : Option (List E)) → at cmp u key ≡ o
        → AreSourced cmp source u2 (queued addr_cmp cmp key (source_of source key now) (unqueued addr_cmp cmp key (source_of source key o) w))
    moved now changed o e =
        subst (λ o. AreSourced cmp source u2 (queued addr_cmp cmp key (source_of source key now) (unqueued addr_cmp cmp key (source_of source key o) w))) e
        (requeued addr_cmp addr_total cmp total (source_of source) exact u u2 w key now h changed in_order)

    kept : (now : Option (List E)) → ((k : K) → at cmp u2 k ≡ cond (is_at (cmp k) key) now (at cmp u k)) → source_of source key now ≡ source_of source key (at cmp u key) → AreSourced cmp source u2 w
    kept now changed same = way-stays addr_cmp addr_total cmp total (source_of source) exact u u2 w key now h changed same

    pub sources-put : (list : List E) → ((k : K) → at cmp u2 k ≡ cond (is_at (cmp k) key) (Some list) (at cmp u k)) → AreSourced cmp source u2 (if stood then w else queued addr_cmp cmp key (Some (source key)) w)
    sources-put list changed = by stood (at cmp u key) refl is
      where
        by : (b : Bool) (o : Option (List E)) → at cmp u key ≡ o → b ≡ is_some o → AreSourced cmp source u2 (if b then w else queued addr_cmp cmp key (Some (source key)) w)
        by true None e s = let clash : true ≡ false = s in absurd cc
        by true (Some es) e s = kept (Some list) changed (sym (ap (source_of source key) e))
        by false None e s = moved (Some list) changed None e
        by false (Some es) e s = let clash : false ≡ true = s in absurd cc

    pub sources-taken : ((k : K) → at cmp u2 k ≡ cond (is_at (cmp k) key) None (at cmp u k)) → AreSourced cmp source u2 (if stood then unqueued addr_cmp cmp key (Some (source key)) w else w)
    sources-taken changed = by stood (at cmp u key) refl is
      where
        by : (b : Bool) (o : Option (List E)) → at cmp u key ≡ o → b ≡ is_some o → AreSourced cmp source u2 (if b then unqueued addr_cmp cmp key (Some (source key)) w else w)
        by true None e s = let clash : true ≡ false = s in absurd cc
        by true (Some es) e s = moved None changed (Some es) e
        by false None e s = kept None changed (sym (ap (source_of source key) e))
        by false (Some es) e s = let clash : false ≡ true = s in absurd cc
