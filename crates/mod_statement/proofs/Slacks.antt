-- The slacks of denominations in order, each once.
use Rattle.std.proofs.Common.{◌≡◌, ℕ, ◌+◌, ◌<◌, ◌≤◌, List, [], ◌∷◌, ◌++◌, length, drop, get_or, true, false, refl, sym, ap, ◌∙◌, subst, append_assoc, append-nil, add-one, drop-cons, Result, Ok, Err, Ordering, Less, Equal, Greater}
use Rattle.std.specs.{List.{AllByRecursion, Sorted.IsStrictlySortedBy}, Map.keys_of, BTreeSet.insert_key}
use Rattle.std.{specs.Ordering.match_ordering, proofs.lemmas.{Bool.false≢true, List.drop_all}}
use Rattle.std.proofs.lemmas.Map.Keys.{IsDistinct-from_sorted}
use Rattle.base_decimals.specs.declared.over.Over.{Over}
use Rattle.base_types.specs.Orders.{denom_cmp}
use Rattle.base_coins.specs.{Steps.{◌>>=◌}, Coins.{Money, sorted_coins, stands_twice}}
use Rattle.base_coins.proofs.{Order.{by_order, total, greater_back}, Amounts.{ok, same_ok, bind_ok}, Sorting.not_twice}
use Rattle.mod_statement.specs.declared.entry.Entry.{Entry, TheVariants.{Started, Allocated, Ended, Slashed, Touched}}
use Rattle.mod_statement.specs.Slack.{denoms_with, denoms_over, denoms_of, slack_coins, slack_in, slacks_of}

-- ---- denominations that ascend

abbrev Above : List ℕ → List (List ℕ) → Type 0
Above d ks = AllByRecursion (λ k. denom_cmp d k ≡ Less) ks

abbrev Ascend : List (List ℕ) → Type 0
Ascend [] = Unit {0}
Ascend (k ∷ ks) = Above k ks × Ascend ks

above_lower : (d e : List ℕ) (ks : List (List ℕ)) → denom_cmp d e ≡ Less → Above e ks → Above d ks
above_lower d e [] h a = tt
above_lower d e (k ∷ ks) h a = (total.trans d e k h a.0, above_lower d e ks h a.1)

above_put : (e d : List ℕ) (ks : List (List ℕ)) → denom_cmp e d ≡ Less → Above e ks → Above e (insert_key denom_cmp ks d)
above_put e d [] h a = (h, tt)
above_put e d (k ∷ ks) h a =
    elim (denom_cmp d k) as (λ r. Above e (match_ordering r (d ∷ k ∷ ks) (k ∷ ks) (k ∷ insert_key denom_cmp ks d)))
    [ Less ↦ (h, a) | Equal ↦ a | Greater ↦ (a.0, above_put e d ks h a.1) ]

put_ascends : (ks : List (List ℕ)) (d : List ℕ) → Ascend ks → Ascend (insert_key denom_cmp ks d)
put_ascends [] d a = (tt, tt)
put_ascends (k ∷ ks) d a =
    let In : Ordering → List (List ℕ) = λ r. match_ordering r (d ∷ k ∷ ks) (k ∷ ks) (k ∷ insert_key denom_cmp ks d) in
    by_order (denom_cmp d k)
    (λ h. subst (λ r. Ascend (In r)) (sym h) ((h, above_lower d k ks h a.0), a))
    (λ h. subst (λ r. Ascend (In r)) (sym h) a)
    (λ h. subst (λ r. Ascend (In r)) (sym h) (above_put k d ks (greater_back d k h) a.0, put_ascends ks d a.1))

with_ascends : (ks : List (List ℕ)) (coins : Money) → Ascend ks → Ascend (denoms_with ks coins)
with_ascends ks [] a = a
with_ascends ks (c ∷ cs) a = with_ascends (insert_key denom_cmp ks c.0) cs (put_ascends ks c.0 a)

over_ascends : (ks : List (List ℕ)) (es : List Entry) → Ascend ks → Ascend (denoms_over ks es)
over_ascends ks [] a = a
over_ascends ks (Started shares tokens all ∷ es) a = over_ascends ks es a
over_ascends ks (Allocated coins tokens ∷ es) a = over_ascends (denoms_with ks coins) es (with_ascends ks coins a)
over_ascends ks (Ended ∷ es) a = over_ascends ks es a
over_ascends ks (Slashed burned tokens ∷ es) a = over_ascends ks es a
over_ascends ks (Touched ∷ es) a = over_ascends ks es a

sorted_from : (ks : List (List ℕ)) → Ascend ks → IsStrictlySortedBy denom_cmp ks
unfolding IsStrictlySortedBy
sorted_from [] a = tt
sorted_from (k ∷ ks) a = (a.0, sorted_from ks a.1)

-- ---- each with its slack

slack_keys : (first : ℕ) (es : List Entry) (removals : ℕ) (ratio : Money) (ds : List (List ℕ)) (z : Money) → slacks_of first es removals ratio ds ≡ Ok z → keys_of z ≡ ds
slack_keys first es removals ratio [] z h = ap keys_of (sym (same_ok h))
slack_keys first es removals ratio (d ∷ ds) z h =
    let (n, here, h1) = bind_ok (slack_in d first es removals ratio) (λ n. slacks_of first es removals ratio ds >>= λ rest. ok ((d, n) ∷ rest)) z h in
    let (rest, there, h2) = bind_ok (slacks_of first es removals ratio ds) (λ rest. ok ((d, n) ∷ rest)) z h1 in
    ap keys_of (sym (same_ok h2)) ∙ ap (λ ks. d ∷ ks) (slack_keys first es removals ratio ds rest there)

-- no denomination stands twice among the slacks
pub slacks_once : (first : ℕ) (es : List Entry) (removals : ℕ) (ratio z : Money) → slacks_of first es removals ratio (denoms_of ratio es) ≡ Ok z → stands_twice z ≡ false
slacks_once first es removals ratio z h =
    let ds : List (List ℕ) = denoms_of ratio es in
    let sorted : IsStrictlySortedBy denom_cmp ds = sorted_from ds (over_ascends (denoms_with [] ratio) es (with_ascends [] ratio tt)) in
    not_twice z (IsDistinct-from_sorted denom_cmp (keys_of z) (subst (IsStrictlySortedBy denom_cmp) (sym (slack_keys first es removals ratio ds z h)) sorted))

-- ---- a loop over the denominations

-- a list in front of a list that may be over
abbrev pub behind : Money → Result Money Over → Result Money Over
behind out r = r >>= λ rest. ok (out ++ rest)

pub behind_none : (r : Result Money Over) → r ≡ behind [] r
behind_none (Ok z) = refl
behind_none (Err e) = refl

pub behind_end : (due : Result Money Over) (out : Money) → due ≡ behind out (Ok []) → due ≡ Ok out
behind_end due out e = e ∙ ap Ok (append-nil out)

one_behind : (out : Money) (d : List ℕ) (n : ℕ) (r : Result Money Over) → behind out (r >>= λ rest. ok ((d, n) ∷ rest)) ≡ behind (out ++ (d, n) ∷ []) r
one_behind out d n (Ok z) = ap Ok (sym (append_assoc out ((d, n) ∷ []) z))
one_behind out d n (Err e) = refl

pub rest_from : {X : Type 0} (xs : List X) (i : ℕ) (x : X) → i < length xs → x ≡ get_or xs i x → drop i xs ≡ x ∷ drop (i + 1) xs
rest_from xs i x lt is = rw (add-one) (drop-cons xs i x lt) ∙ ap (λ y. y ∷ drop (i + 1) xs) (sym is)

pub slack_more : (first : ℕ) (es : List Entry) (removals : ℕ) (ratio out grown : Money) (ds : List (List ℕ)) (due : Result Money Over) (i n : ℕ) (d : List ℕ)
    → i < length ds → d ≡ get_or ds i d → slack_in d first es removals ratio ≡ Ok n → grown ≡ out ++ (d, n) ∷ []
    → due ≡ behind out (slacks_of first es removals ratio (drop i ds)) → due ≡ behind grown (slacks_of first es removals ratio (drop (i + 1) ds))
slack_more first es removals ratio out grown ds due i n d lt is here g e =
    let rest : Result Money Over = slacks_of first es removals ratio (drop (i + 1) ds) in
    e ∙ ap (λ l. behind out (slacks_of first es removals ratio l)) (rest_from ds i d lt is)
    ∙ ap (λ (r : Result ℕ Over). behind out (r >>= λ n. rest >>= λ z. ok ((d, n) ∷ z))) here
    ∙ one_behind out d n rest ∙ ap (λ l. behind l rest) (sym g)

pub slack_over : (first : ℕ) (es : List Entry) (removals : ℕ) (ratio out : Money) (ds : List (List ℕ)) (due : Result Money Over) (i : ℕ) (d : List ℕ) (o : Over)
    → i < length ds → d ≡ get_or ds i d → slack_in d first es removals ratio ≡ Err o
    → due ≡ behind out (slacks_of first es removals ratio (drop i ds)) → due ≡ Err o
slack_over first es removals ratio out ds due i d o lt is here e =
    let rest : Result Money Over = slacks_of first es removals ratio (drop (i + 1) ds) in
    e ∙ ap (λ l. behind out (slacks_of first es removals ratio l)) (rest_from ds i d lt is)
    ∙ ap (λ (r : Result ℕ Over). behind out (r >>= λ n. rest >>= λ z. ok ((d, n) ∷ z))) here

pub slack_end : (first : ℕ) (es : List Entry) (removals : ℕ) (ratio out : Money) (ds : List (List ℕ)) (due : Result Money Over) (i : ℕ) → length ds ≤ i
    → due ≡ behind out (slacks_of first es removals ratio (drop i ds)) → due ≡ Ok out
slack_end first es removals ratio out ds due i h e = behind_end due out (e ∙ ap (λ l. behind out (slacks_of first es removals ratio l)) (drop_all i ds h))

pub slack_begin : (out : Money) (r : Result Money Over) → out ≡ [] → r ≡ behind out r
slack_begin out r e = behind_none r ∙ ap (λ l. behind l r) (sym e)

-- ---- the slack of a statement

pub slack_coins_over : (first : ℕ) (es : List Entry) (removals : ℕ) (ratio : Money) (ds : List (List ℕ)) (o : Over) → ds ≡ denoms_of ratio es
    → slacks_of first es removals ratio ds ≡ Err o → slack_coins first es removals ratio ≡ Err o
slack_coins_over first es removals ratio ds o e h =
    ap (λ (r : Result Money Over). r >>= λ s. ok (sorted_coins s)) (ap (slacks_of first es removals ratio) (sym e) ∙ h)

pub slack_coins_made : (first : ℕ) (es : List Entry) (removals : ℕ) (ratio z slack : Money) (ds : List (List ℕ)) → ds ≡ denoms_of ratio es
    → slacks_of first es removals ratio ds ≡ Ok z → slack ≡ sorted_coins z → slack_coins first es removals ratio ≡ Ok slack
slack_coins_made first es removals ratio z slack ds e h s =
    ap (λ (r : Result Money Over). r >>= λ s. ok (sorted_coins s)) (ap (slacks_of first es removals ratio) (sym e) ∙ h) ∙ ap Ok (sym s)

pub never_twice : (first : ℕ) (es : List Entry) (removals : ℕ) (ratio z : Money) (ds : List (List ℕ)) → ds ≡ denoms_of ratio es
    → slacks_of first es removals ratio ds ≡ Ok z → stands_twice z ≡ true → ⊥
never_twice first es removals ratio z ds e h twice =
    false≢true (sym (slacks_once first es removals ratio z (ap (slacks_of first es removals ratio) (sym e) ∙ h)) ∙ twice)
