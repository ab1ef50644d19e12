-- What is earned, stretch by stretch.
use Rattle.std.proofs.Common.{◌≡◌, ℕ, suc, ◌+◌, ◌^◌, ◌<◌, ◌≤◌, ◌==◌, ◌&&◌, min, Bool, true, false, cond, nat_le, nat_lt, if◌then◌else◌, List, [], ◌∷◌, All, AllPairs, length, filter, drop, Option, Some, None, is_some, Result, Ok, Err, refl, sym, ◌∙◌, ap, subst, arith, get_or, drop-cons, add-one, zero, Bor, IsSome, IfErr, option_copied}
use Rattle.std.proofs.lemmas.{Bool.Decides.nat_tests, List.Elements.{All-nil, All-cons, All-head, All-tail, All-filter}}
use Rattle.std.proofs.lemmas.List.Kept.{AllPairs-filter}
use Rattle.base_decimals.specs.declared.over.Over.{Over}
use Rattle.base_coins.specs.Coins.{Money, coins_added, coins_taken, coins_mul_cut, first_short}
use Rattle.base_coins.proofs.{Order.rises_from_money, Shorts.short_by_amounts}
use Rattle.base_roles.specs.declared.entities.{Historical.Historical, StartingInfo.StartingInfo, SlashEvent.SlashEvent}
use Rattle.base_roles.specs.{Flow.{◌>>=◌}, declared.faults.HookFault.HookFault}
use Rattle.base_roles.specs.declared.faults.HookFault.TheVariants as hook
use Rattle.mod_sums.specs.Faults.{IsExcessOf}
use Rattle.mod_periods.specs.Earning.{events_since, ratios_with, kept_reward, stretch_added, CanEarn}
use Rattle.mod_periods.specs.{Kept.{Kept, record_of, events_of}, Steps.{ratio_in, ratio_of}}
use Rattle.rule_modules.specs.Periods.{Stretch, slashed_stake, stretches, falls_after, earned}

-- the events of later periods than the start's
abbrev pub later : StartingInfo → List SlashEvent → List SlashEvent
later s es = filter (λ e. nat_lt s.period e.period) es

-- those that fall after a start are those of later periods, among those that are not below its height
pub later-since : (s : StartingInfo) (es : List SlashEvent) → later s (events_since s.height es) ≡ filter (falls_after s) es
later-since s [] = refl
later-since s (e ∷ es) = by (nat_le s.height e.height) (nat_lt s.period e.period) (later-since s es)
  where
    by : (a b : Bool) → later s (events_since s.height es) ≡ filter (falls_after s) es
        → filter (λ d. nat_lt s.period d.period) (cond a (e ∷ events_since s.height es) (events_since s.height es)) ≡ cond (a && nat_lt s.period e.period) (e ∷ filter (falls_after s) es) (filter (falls_after s) es)
    by true b rest = ap (λ l. cond (nat_lt s.period e.period) (e ∷ l) l) rest
    by false b rest = rest

module _ (k : Kept) (o : List ℕ) (s : StartingInfo) (ending : ℕ) (ratio : Money) (value : ℕ) where
  abbrev ratios : ℕ → Money
  ratios n = ratios_with k o ending ratio n

  -- where a loop over the events stands: it has come to a period with a record
  pub record IsEarning (rest : List SlashEvent) (begin : Historical) (stake : ℕ) (total : Money) (period : ℕ) : Type 0 where
    pub begins : record_of k o period ≡ Some begin
    pub order : All (λ e. s.period < e.period → period ≤ e.period) rest
    pub ascend : AllPairs (λ a b. a.period ≤ b.period) rest
    pub stand : All (λ e. is_some (record_of k o e.period) ≡ true) rest
    pub fractions : All (λ e. e.fraction ≤ 10 ^ 18) rest
    pub due : earned (ratios_with k o ending ratio) (stretches period stake ending value (later s rest)) total ≡ kept_reward k o s ending ratio value

  module _ (can : CanEarn k o s ending ratio) where
    pub ratio-found : (n : ℕ) (x : Historical) → record_of k o n ≡ Some x → ratios n ≡ x.ratio
    ratio-found n x h = by (n == ending) refl
      where
        by : (b : Bool) → (n == ending) ≡ b → (if b then ratio else ratio_of k o n) ≡ x.ratio
        by true t = let same : n ≡ ending = grind (arith, nat_tests) in sym (can.same x (ap (λ m. record_of k o m) (sym same) ∙ h))
        by false t = ap ratio_in h

    pub ratio-last : ratios ending ≡ ratio
    ratio-last = by (ending == ending) (grind (arith, nat_tests))
      where
        by : (b : Bool) → b ≡ true → (if b then ratio else ratio_of k o ending) ≡ ratio
        by true t = refl
        by false t = cc

    -- a ratio does not fall short of an earlier one
    pub enough : (a b : ℕ) (x y : Historical) → a ≤ b → record_of k o a ≡ Some x → record_of k o b ≡ Some y → first_short y.ratio x.ratio ≡ None
    enough a b x y le f h = (short_by_amounts y.ratio x.ratio (rises_from_money x.ratio (can.coins a x f))).1 (can.rise a b x y le f h)

    pub enough-last : (a : ℕ) (x : Historical) → record_of k o a ≡ Some x → first_short ratio x.ratio ≡ None
    enough-last a x f = (short_by_amounts ratio x.ratio (rises_from_money x.ratio (can.coins a x f))).1 (can.last a x f)

    -- ---- one step of the sum

    then-ok : (x : Result Money Over) (total sum : Money) (g : Money → Result Money Over) → (x >>= λ part. coins_added total part) ≡ Ok sum
        → (x >>= λ part. coins_added total part >>= λ sum. g sum) ≡ g sum
    then-ok (Ok part) total sum g h = ap (λ y. y >>= λ sum. g sum) h
    then-ok (Err over) total sum g h = cc

    then-err : (x : Result Money Over) (total : Money) (over : Over) (g : Money → Result Money Over) → (x >>= λ part. coins_added total part) ≡ Err over
        → (x >>= λ part. coins_added total part >>= λ sum. g sum) ≡ Err over
    then-err (Ok part) total over g h = ap (λ y. y >>= λ sum. g sum) h
    then-err (Err e) total over g h = let same : e ≡ over = cc in ap Err same

    earned-first : (a b stake : ℕ) (x y : Historical) (ts : List Stretch) (total : Money) → record_of k o a ≡ Some x → record_of k o b ≡ Some y
        → earned ratios (record { after = a; last = b; stake = stake } ∷ ts) total
        ≡ (coins_mul_cut (coins_taken y.ratio x.ratio) stake >>= λ part. coins_added total part >>= λ sum. earned ratios ts sum)
    earned-first a b stake x y ts total f h =
        λ i. coins_mul_cut (coins_taken (ratio-found b y h i) (ratio-found a x f i)) stake >>= λ part. coins_added total part >>= λ sum. earned ratios ts sum

    later-yes : (e : SlashEvent) (es : List SlashEvent) → s.period < e.period → later s (e ∷ es) ≡ e ∷ later s es
    later-yes e es h = let t : nat_lt s.period e.period ≡ true = grind (arith, nat_tests) in ap (λ b. cond b (e ∷ later s es) (later s es)) t

    later-no : (e : SlashEvent) (es : List SlashEvent) → e.period ≤ s.period → later s (e ∷ es) ≡ later s es
    later-no e es h = let t : nat_lt s.period e.period ≡ false = grind (arith, nat_tests) in ap (λ b. cond b (e ∷ later s es) (later s es)) t

    module _ (e : SlashEvent) (rest : List SlashEvent) (begin : Historical) (stake : ℕ) (total : Money) (period : ℕ) (h : IsEarning (e ∷ rest) begin stake total period) where
      tail_ascend : AllPairs (λ (a b : SlashEvent). a.period ≤ b.period) rest
      tail_ascend = λ i j d lt within. h.ascend (suc i) (suc j) d (omega arith) (omega arith)

      after_this : All (λ (d : SlashEvent). s.period < d.period → e.period ≤ d.period) rest
      after_this = λ n d within lt. h.ascend 0 (suc n) d (omega arith) (omega arith)

      not-before : s.period < e.period → period ≤ e.period
      not-before lt = All-head (λ (d : SlashEvent). s.period < d.period → period ≤ d.period) e rest h.order lt

      pub enough-here : (end : Historical) → s.period < e.period → record_of k o e.period ≡ Some end → first_short end.ratio begin.ratio ≡ None
      enough-here end lt there = enough period e.period begin end (not-before lt) h.begins there

      pub stands-here : is_some (record_of k o e.period) ≡ true
      stands-here = All-head (λ (d : SlashEvent). is_some (record_of k o d.period) ≡ true) e rest h.stand

      pub fraction-here : e.fraction ≤ 10 ^ 18
      fraction-here = All-head (λ (d : SlashEvent). d.fraction ≤ 10 ^ 18) e rest h.fractions

      due-first : (end : Historical) → s.period < e.period → record_of k o e.period ≡ Some end
          → (coins_mul_cut (coins_taken end.ratio begin.ratio) stake >>= λ part. coins_added total part >>= λ sum. earned ratios (stretches e.period (slashed_stake stake e.fraction) ending value (later s rest)) sum)
          ≡ kept_reward k o s ending ratio value
      due-first end lt there =
          sym (earned-first period e.period stake begin end (stretches e.period (slashed_stake stake e.fraction) ending value (later s rest)) total h.begins there)
          ∙ sym (ap (λ es. earned ratios (stretches period stake ending value es) total) (later-yes e rest lt)) ∙ h.due

      pub earn-step : (end : Historical) (sum : Money) → s.period < e.period → record_of k o e.period ≡ Some end → stretch_added total begin.ratio end.ratio stake ≡ Ok sum
          → IsEarning rest end (slashed_stake stake e.fraction) sum e.period
      earn-step end sum lt there is = record {
        begins = there;
        order = after_this;
        ascend = tail_ascend;
        stand = All-tail (λ (d : SlashEvent). is_some (record_of k o d.period) ≡ true) e rest h.stand;
        fractions = All-tail (λ (d : SlashEvent). d.fraction ≤ 10 ^ 18) e rest h.fractions;
        due = sym (then-ok (coins_mul_cut (coins_taken end.ratio begin.ratio) stake) total sum (λ sum. earned ratios (stretches e.period (slashed_stake stake e.fraction) ending value (later s rest)) sum) is)
            ∙ due-first end lt there;
      }

      pub earn-fails : (end : Historical) → s.period < e.period → record_of k o e.period ≡ Some end → (over : Over) → stretch_added total begin.ratio end.ratio stake ≡ Err over
          → kept_reward k o s ending ratio value ≡ Err over
      earn-fails end lt there over is =
          sym (due-first end lt there) ∙ then-err (coins_mul_cut (coins_taken end.ratio begin.ratio) stake) total over (λ sum. earned ratios (stretches e.period (slashed_stake stake e.fraction) ending value (later s rest)) sum) is

      pub earn-skip : e.period ≤ s.period → IsEarning rest begin stake total period
      earn-skip le = record {
        begins = h.begins;
        order = All-tail (λ (d : SlashEvent). s.period < d.period → period ≤ d.period) e rest h.order;
        ascend = tail_ascend;
        stand = All-tail (λ (d : SlashEvent). is_some (record_of k o d.period) ≡ true) e rest h.stand;
        fractions = All-tail (λ (d : SlashEvent). d.fraction ≤ 10 ^ 18) e rest h.fractions;
        due = sym (ap (λ es. earned ratios (stretches period stake ending value es) total) (later-no e rest le)) ∙ h.due;
      }

    -- as the loop begins
    pub earn-begins : (begin : Historical) → record_of k o s.period ≡ Some begin → IsEarning (events_since s.height (events_of k o)) begin s.stake [] s.period
    earn-begins begin there = record {
      begins = there;
      order = trivially (events_since s.height (events_of k o));
      ascend = AllPairs-filter (λ (a b : SlashEvent). a.period ≤ b.period) (λ e. nat_le s.height e.height) (events_of k o) can.ascend;
      stand = All-filter (λ (e : SlashEvent). nat_le s.height e.height) (λ (e : SlashEvent). is_some (record_of k o e.period) ≡ true) (events_of k o) can.events;
      fractions = All-filter (λ (e : SlashEvent). nat_le s.height e.height) (λ (e : SlashEvent). e.fraction ≤ 10 ^ 18) (events_of k o) can.fractions;
      due = ap (λ es. earned ratios (stretches s.period s.stake ending value es) []) (later-since s (events_of k o));
    }
      where
        trivially : (es : List SlashEvent) → All (λ (e : SlashEvent). s.period < e.period → s.period ≤ e.period) es
        trivially [] = All-nil (λ (e : SlashEvent). s.period < e.period → s.period ≤ e.period)
        trivially (e ∷ es) = All-cons (λ (e : SlashEvent). s.period < e.period → s.period ≤ e.period) e es (λ lt. omega arith) (trivially es)

    -- the last stretch
    module _ (begin : Historical) (stake : ℕ) (total : Money) (period : ℕ) (h : IsEarning [] begin stake total period) where
      last_due : (coins_mul_cut (coins_taken ratio begin.ratio) (min stake value) >>= λ part. coins_added total part >>= λ sum. Ok sum) ≡ kept_reward k o s ending ratio value
      last_due =
          (λ i. coins_mul_cut (coins_taken (sym ratio-last i) (sym (ratio-found period begin h.begins) i)) (min stake value) >>= λ part. coins_added total part >>= λ sum. Ok sum) ∙ h.due

      pub enough-end : first_short ratio begin.ratio ≡ None
      enough-end = enough-last period begin h.begins

      pub earn-ends : (sum : Money) → stretch_added total begin.ratio ratio (min stake value) ≡ Ok sum → kept_reward k o s ending ratio value ≡ Ok sum
      earn-ends sum is = sym last_due ∙ then-ok (coins_mul_cut (coins_taken ratio begin.ratio) (min stake value)) total sum (λ sum. Ok sum) is

      pub earn-over : (over : Over) → stretch_added total begin.ratio ratio (min stake value) ≡ Err over → kept_reward k o s ending ratio value ≡ Err over
      earn-over over is = sym last_due ∙ then-err (coins_mul_cut (coins_taken ratio begin.ratio) (min stake value)) total over (λ sum. Ok sum) is

-- the item at a place, and what is left from there
pub item-of : {A : Type 0} (xs : List A) (i : ℕ) (x : A) → i < length xs → x ≡ get_or xs i x → drop i xs ≡ x ∷ drop (i + 1) xs
item-of xs i x lt is = rw (add-one, drop-cons xs i x) (ap (λ y. y ∷ drop (suc i) xs) (sym is))

pub none-left : {A : Type 0} (xs : List A) (n : ℕ) → length xs ≤ n → drop n xs ≡ []
none-left [] zero h = refl
none-left [] (suc n) h = refl
none-left (x ∷ xs) zero h = absurd (omega arith)
none-left (x ∷ xs) (suc n) h = none-left xs n (omega arith)

-- a record that was looked up
pub found : {A : Type 0} {x : Option (Bor A)} {b : Bor A} {y : Option A} → x ≡ Some b → option_copied x ≡ y → y ≡ Some b.now
found is copy = sym copy ∙ ap option_copied is

no_some : false ≡ true → ⊥
no_some h = cc

pub found-some : {A : Type 0} (x : Option (Bor A)) (y : Option A) → option_copied x ≡ y → is_some y ≡ true → IsSome x
found-some None y copy some = let no : false ≡ true = ap is_some copy ∙ some in absurd (no_some no)
found-some (Some b) y copy some = refl

-- an excess of one sum is that of another
pub excess-of : {A B : Type 0} (x : Result A Over) (y : Result B Over) (fault : HookFault) → ((over : Over) → x ≡ Err over → y ≡ Err over) → IsExcessOf x fault → IsExcessOf y fault
excess-of x y (hook.Over over) f h = f over h
excess-of x y hook.NoMemory f h = tt

pub err_weaker : {T E : Type 0} {P Q : E → Type 0} (r : Result T E) → ((e : E) → P e → Q e) → IfErr r P → IfErr r Q
err_weaker (Ok t) f h = tt
err_weaker (Err e) f h = f e h

-- the same place by equal values
pub moved : (k : Kept) (o : List ℕ) (s : StartingInfo) (ending : ℕ) (ratio : Money) (value : ℕ) {rest : List SlashEvent} {begin begin2 : Historical} {stake stake2 : ℕ} {total total2 : Money} {period : ℕ}
    → begin2 ≡ begin → stake2 ≡ stake → total2 ≡ total → IsEarning k o s ending ratio value rest begin stake total period → IsEarning k o s ending ratio value rest begin2 stake2 total2 period
moved k o s ending ratio value {rest} {begin} {begin2} {stake} {stake2} {total} {total2} {period} b st t h =
    subst (λ x. IsEarning k o s ending ratio value rest x stake2 total2 period) (sym b)
    (subst (λ x. IsEarning k o s ending ratio value rest begin x total2 period) (sym st)
    (subst (λ x. IsEarning k o s ending ratio value rest begin stake x period) (sym t) h))
