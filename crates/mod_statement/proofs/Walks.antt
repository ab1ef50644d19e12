-- Loops over entries and coins: each step goes on from what the one before it came to.
use Rattle.std.proofs.Common.{◌≡◌, ℕ, ◌+◌, ◌<◌, ◌≤◌, List, [], ◌∷◌, map, length, drop, get_or, true, false, refl, sym, ap, ◌∙◌, Result, Ok, Err, if◌then◌else◌}
use Rattle.std.proofs.lemmas.List.{drop_all}
use Rattle.base_decimals.specs.{declared.over.Over.Over, Decimals.add_of}
use Rattle.base_coins.specs.{declared.{coin.DecCoin.DecCoin, fault.CoinFault.CoinFault}, Steps.{◌>>=◌}}
use Rattle.base_coins.specs.declared.fault.CoinFault.TheVariants as fault
use Rattle.mod_statement.specs.declared.entry.Entry.{Entry, TheVariants.{Started, Allocated, Ended, Slashed, Touched}}
use Rattle.mod_statement.specs.{declared.{sums.Sums.Sums, slack.Factor.Factor}, Entries.is_slash, Faults.IsOverDue}
use Rattle.mod_statement.specs.Sums.{coin_shared, coins_shared, sums_after, sums_over}
use Rattle.mod_statement.specs.Slack.{denoms_over, denoms_with, factor_after, first_stretch, given, later_stretches, number_after, rate_of, stretches_of, with_stretch}
use Rattle.mod_statement.proofs.Slacks.{rest_from}

-- a coin as lists have it
abbrev pub seen : DecCoin → List ℕ × ℕ
seen c = (c.denom, c.amount)

-- ---- the shares of coins

pub coins_more : (tokens : ℕ) (due : Result Sums Over) (s next : Sums) (xs : List DecCoin) (i : ℕ) (x : DecCoin) → i < length xs → x ≡ get_or xs i x
    → coin_shared tokens s (seen x) ≡ Ok next → due ≡ coins_shared tokens s (map seen (drop i xs)) → due ≡ coins_shared tokens next (map seen (drop (i + 1) xs))
coins_more tokens due s next xs i x lt is here e =
    e ∙ ap (λ l. coins_shared tokens s (map seen l)) (rest_from xs i x lt is)
    ∙ ap (λ (r : Result Sums Over). r >>= λ n. coins_shared tokens n (map seen (drop (i + 1) xs))) here

pub coins_end : (tokens : ℕ) (due : Result Sums Over) (s : Sums) (xs : List DecCoin) (i : ℕ) → length xs ≤ i
    → due ≡ coins_shared tokens s (map seen (drop i xs)) → due ≡ Ok s
coins_end tokens due s xs i h e = e ∙ ap (λ l. coins_shared tokens s (map seen l)) (drop_all i xs h)

-- ---- the sums of entries

pub sums_more : (due : Result Sums Over) (s next : Sums) (xs : List Entry) (i : ℕ) (x : Entry) → i < length xs → x ≡ get_or xs i x
    → sums_after s x ≡ Ok next → due ≡ sums_over s (drop i xs) → due ≡ sums_over next (drop (i + 1) xs)
sums_more due s next xs i x lt is here e =
    e ∙ ap (sums_over s) (rest_from xs i x lt is) ∙ ap (λ (r : Result Sums Over). r >>= λ n. sums_over n (drop (i + 1) xs)) here

pub sums_end : (due : Result Sums Over) (s : Sums) (xs : List Entry) (i : ℕ) → length xs ≤ i → due ≡ sums_over s (drop i xs) → due ≡ Ok s
sums_end due s xs i h e = e ∙ ap (sums_over s) (drop_all i xs h)

-- ---- the rate of a stretch

pub rate_more : (d : List ℕ) (due : Result ℕ Over) (rate next : ℕ) (xs : List Entry) (i : ℕ) (x : Entry) → i < length xs → x ≡ get_or xs i x
    → add_of rate (given d x) ≡ Ok next → due ≡ rate_of d rate (drop i xs) → due ≡ rate_of d next (drop (i + 1) xs)
rate_more d due rate next xs i x lt is here e =
    e ∙ ap (rate_of d rate) (rest_from xs i x lt is) ∙ ap (λ (r : Result ℕ Over). r >>= λ n. rate_of d n (drop (i + 1) xs)) here

pub rate_over : (d : List ℕ) (due : Result ℕ Over) (rate : ℕ) (xs : List Entry) (i : ℕ) (x : Entry) (o : Over) → i < length xs → x ≡ get_or xs i x
    → add_of rate (given d x) ≡ Err o → due ≡ rate_of d rate (drop i xs) → due ≡ Err o
rate_over d due rate xs i x o lt is here e =
    e ∙ ap (rate_of d rate) (rest_from xs i x lt is) ∙ ap (λ (r : Result ℕ Over). r >>= λ n. rate_of d n (drop (i + 1) xs)) here

pub rate_end : (d : List ℕ) (due : Result ℕ Over) (rate : ℕ) (xs : List Entry) (i : ℕ) → length xs ≤ i → due ≡ rate_of d rate (drop i xs) → due ≡ Ok rate
rate_end d due rate xs i h e = e ∙ ap (rate_of d rate) (drop_all i xs h)

-- ---- the stretches behind slashes

-- a first stretch that is walked
pub stretches_begin : (d : List ℕ) (first nothing : ℕ) (es stretch : List Entry) (r : Result Factor Over) → stretch ≡ first_stretch es → nothing ≡ 0
    → r ≡ with_stretch d first 1 stretch (record { sum = nothing; rate = nothing })
    → stretches_of d first es ≡ (r >>= λ f. later_stretches d first 1 f es)
stretches_begin d first nothing es stretch r stretch_is nothing_is h =
    ap (λ (q : Result Factor Over). q >>= λ f. later_stretches d first 1 f es)
    ((λ i. with_stretch d first 1 (sym stretch_is i) (record { sum = sym nothing_is i; rate = sym nothing_is i })) ∙ sym h)

pub stretch_step : (d : List ℕ) (first number number' : ℕ) (due : Result Factor Over) (f next : Factor) (xs : List Entry) (i : ℕ) (x : Entry) (rest : List Entry) → i < length xs
    → x ≡ get_or xs i x → rest ≡ drop (i + 1) xs → factor_after d first number x rest f ≡ Ok next → number' ≡ number_after number x
    → due ≡ later_stretches d first number f (drop i xs) → due ≡ later_stretches d first number' next (drop (i + 1) xs)
stretch_step d first number number' due f next xs i x rest lt is rest_is here number_is e =
    e ∙ ap (later_stretches d first number f) (rest_from xs i x lt is)
    ∙ ap (λ (q : Result Factor Over). q >>= λ n. later_stretches d first (number_after number x) n (drop (i + 1) xs)) (ap (λ l. factor_after d first number x l f) (sym rest_is) ∙ here)
    ∙ ap (λ k. later_stretches d first k next (drop (i + 1) xs)) (sym number_is)

pub stretch_stop : (d : List ℕ) (first number : ℕ) (due : Result Factor Over) (f : Factor) (xs : List Entry) (i : ℕ) (x : Entry) (rest : List Entry) (o : Over) → i < length xs
    → x ≡ get_or xs i x → rest ≡ drop (i + 1) xs → factor_after d first number x rest f ≡ Err o
    → due ≡ later_stretches d first number f (drop i xs) → due ≡ Err o
stretch_stop d first number due f xs i x rest o lt is rest_is here e =
    e ∙ ap (later_stretches d first number f) (rest_from xs i x lt is)
    ∙ ap (λ (q : Result Factor Over). q >>= λ n. later_stretches d first (number_after number x) n (drop (i + 1) xs)) (ap (λ l. factor_after d first number x l f) (sym rest_is) ∙ here)

pub stretch_end : (d : List ℕ) (first number : ℕ) (due : Result Factor Over) (f : Factor) (xs : List Entry) (i : ℕ) → length xs ≤ i
    → due ≡ later_stretches d first number f (drop i xs) → due ≡ Ok f
stretch_end d first number due f xs i h e = e ∙ ap (later_stretches d first number f) (drop_all i xs h)

-- one entry
pub factor_slash : (d : List ℕ) (first number : ℕ) (e : Entry) (rest stretch : List Entry) (f : Factor) (r : Result Factor Over) → is_slash e ≡ true → stretch ≡ first_stretch rest
    → r ≡ with_stretch d first (number + 1) stretch f → r ≡ factor_after d first number e rest f
factor_slash d first number e rest stretch f r slash stretch_is h =
    h ∙ ap (λ l. with_stretch d first (number + 1) l f) stretch_is
    ∙ ap (λ t. if t then with_stretch d first (number + 1) (first_stretch rest) f else Ok f) (sym slash)

pub factor_other : (d : List ℕ) (first number : ℕ) (e : Entry) (rest : List Entry) (f : Factor) → is_slash e ≡ false → Ok f ≡ factor_after d first number e rest f
factor_other d first number e rest f other = ap (λ t. if t then with_stretch d first (number + 1) (first_stretch rest) f else Ok f) (sym other)

-- ---- the denominations of coins

pub denoms_more : (due ds next : List (List ℕ)) (xs : List DecCoin) (i : ℕ) (x : DecCoin) → i < length xs → x ≡ get_or xs i x
    → next ≡ denoms_with ds (seen x ∷ []) → due ≡ denoms_with ds (map seen (drop i xs)) → due ≡ denoms_with next (map seen (drop (i + 1) xs))
denoms_more due ds next xs i x lt is here e =
    e ∙ ap (λ l. denoms_with ds (map seen l)) (rest_from xs i x lt is) ∙ ap (λ l. denoms_with l (map seen (drop (i + 1) xs))) (sym here)

pub denoms_end : (due ds : List (List ℕ)) (xs : List DecCoin) (i : ℕ) → length xs ≤ i → due ≡ denoms_with ds (map seen (drop i xs)) → due ≡ ds
denoms_end due ds xs i h e = e ∙ ap (λ l. denoms_with ds (map seen l)) (drop_all i xs h)

-- ---- a step that is over, or wants memory, ends all

pub stopped : {A B : Type 0} (due : Result B Over) (r : Result A Over) (k : A → Result B Over) (f : CoinFault) → due ≡ (r >>= k) → IsOverDue r f → IsOverDue due f
stopped due r k (fault.Over o) e h = e ∙ ap (λ q. q >>= k) h
stopped due r k fault.NoMemory e h = tt
stopped due r k (fault.Short place) e h = h
stopped due r k fault.Repeated e h = h

pub coins_fault : (tokens : ℕ) (due : Result Sums Over) (s : Sums) (xs : List DecCoin) (i : ℕ) (x : DecCoin) (f : CoinFault) → i < length xs → x ≡ get_or xs i x
    → IsOverDue (coin_shared tokens s (seen x)) f → due ≡ coins_shared tokens s (map seen (drop i xs)) → IsOverDue due f
coins_fault tokens due s xs i x f lt is h e =
    stopped due (coin_shared tokens s (seen x)) (λ n. coins_shared tokens n (map seen (drop (i + 1) xs))) f
    (e ∙ ap (λ l. coins_shared tokens s (map seen l)) (rest_from xs i x lt is)) h

pub sums_fault : (due : Result Sums Over) (s : Sums) (xs : List Entry) (i : ℕ) (x : Entry) (f : CoinFault) → i < length xs → x ≡ get_or xs i x
    → IsOverDue (sums_after s x) f → due ≡ sums_over s (drop i xs) → IsOverDue due f
sums_fault due s xs i x f lt is h e =
    stopped due (sums_after s x) (λ n. sums_over n (drop (i + 1) xs)) f (e ∙ ap (sums_over s) (rest_from xs i x lt is)) h

-- ---- the denominations of entries

one_first : (ds : List (List ℕ)) (x : Entry) (es : List Entry) → denoms_over ds (x ∷ es) ≡ denoms_over (denoms_over ds (x ∷ [])) es
one_first ds (Started shares tokens total) es = refl
one_first ds (Allocated coins tokens) es = refl
one_first ds Ended es = refl
one_first ds (Slashed burned tokens) es = refl
one_first ds Touched es = refl

pub entries_more : (due ds next : List (List ℕ)) (xs : List Entry) (i : ℕ) (x : Entry) → i < length xs → x ≡ get_or xs i x
    → next ≡ denoms_over ds (x ∷ []) → due ≡ denoms_over ds (drop i xs) → due ≡ denoms_over next (drop (i + 1) xs)
entries_more due ds next xs i x lt is here e =
    e ∙ ap (denoms_over ds) (rest_from xs i x lt is) ∙ one_first ds x (drop (i + 1) xs) ∙ ap (λ l. denoms_over l (drop (i + 1) xs)) (sym here)

pub entries_end : (due ds : List (List ℕ)) (xs : List Entry) (i : ℕ) → length xs ≤ i → due ≡ denoms_over ds (drop i xs) → due ≡ ds
entries_end due ds xs i h e = e ∙ ap (denoms_over ds) (drop_all i xs h)
