-- A block that may follow: what its checks give of the state at its beginning.
use Rattle.std.proofs.Common.{◌≡◌, ℕ, ◌+◌, ◌-◌, ◌*◌, ◌^◌, ◌<◌, ◌≤◌, Bool, true, false, List, [], ◌∷◌, ◌++◌, length, map, append_assoc, Result, Ok, refl, sym, ap, subst, arith, mul-le-mul_right, ◌||◌, ◌==◌, nat_lt, nat_le, All, Some, is_none}
use Rattle.std.specs.{Prelude.⊤, BTreeMap.is_at, List.{AllByRecursion, list_any}}
use Rattle.std.proofs.lemmas.{Bool.Decides.nat_tests, List.{Sums.sum_by-cons, Elements.All-from_recursion}}
use Rattle.base_types.specs.Orders.{cons_cmp}
use Rattle.base_roles.specs.declared.{messages.{Evidence.Evidence, Vote.Vote}, params.Ctx.Ctx}
use Rattle.base_roles.specs.{Staked.{Staked, validator_by_cons}, Flow.{◌>>◌, stop_if}}
use Rattle.base_messages.specs.declared.block.Block.{Block}
use Rattle.base_messages.specs.declared.faults.BlockFault.TheVariants.{BadEvidence, BadPower, RepeatedVote, UnknownVote}
use Rattle.rule_modules.specs.{Chain.{State, window_in}, Laws.next_block, StepLaws.{CountsBelow, IsPower}}
use Rattle.rule_modules.specs.{Sound.{IsSound, UnbondingsAreSound}, Window.{Signing, signing_of}}
use Rattle.rule_machine.specs.{Blocks.block_fault, GenesisState.without_facts}
use Rattle.rule_machine.specs.Machine.{evidence_checked, is_bad_evidence, power_of_votes, stop_at, vote_checked, votes_checked}
use Rattle.rule_machine.proofs.DueLemmas.{IsDue, is_due}
use Rattle.law_soundness.proofs.{Entries.to_pairs, Following.next_block_keeps_soundness}
use Rattle.law_soundness.proofs.{Running.{AreDistinct, first_ok, next_ok, older_whole, votes_are}, Voting.own_record}
use Rattle.chain_modules.{specs.Kept.{KeptState, StandsWhole}, proofs.StandLemmas.sound_cleared}
use Rattle.chain_transactions.proofs.EndLemmas.{from_whole}
use Rattle.chain_blocks.specs.Begun.{AreApart, AreBegun, AreCast, HasBegun, MayBeBrought}

-- ---- powers

passed : {A E : Type 0} (b : Bool) (why : E) (next : Result A E) (a : A) → (stop_if b why >> next) ≡ Ok a → (b ≡ false) × (next ≡ Ok a)
passed true why next a e = absurd cc
passed false why next a e = (refl, e)

last_passed : {E : Type 0} (b : Bool) (why : E) (a : ⊤) → stop_if b why ≡ Ok a → b ≡ false
last_passed true why a e = absurd cc
last_passed false why a e = refl

-- a vote that passed has its powers within the limit, with those before it
vote_within : (s : Staked) (reduction : ℕ) (before : List Vote) (t : Vote) (a : ⊤) → vote_checked s reduction before t ≡ Ok a → power_of_votes (before ++ t ∷ []) * reduction ≤ 10 ^ 18
vote_within s reduction before t a e =
    let one = passed (is_none (validator_by_cons s t.cons)) (UnknownVote (length before))
    (stop_if (list_any (λ u. is_at (cons_cmp t.cons) u.cons) before) (RepeatedVote (length before)) >> stop_if (nat_lt (10 ^ 18) (power_of_votes (before ++ t ∷ []) * reduction)) (BadPower (length before))) a e in
    let two = passed (list_any (λ u. is_at (cons_cmp t.cons) u.cons) before) (RepeatedVote (length before)) (stop_if (nat_lt (10 ^ 18) (power_of_votes (before ++ t ∷ []) * reduction)) (BadPower (length before))) a one.1 in
    at_most (power_of_votes (before ++ t ∷ []) * reduction) (last_passed (nat_lt (10 ^ 18) (power_of_votes (before ++ t ∷ []) * reduction)) (BadPower (length before)) a two.1)
  where
    at_most : (n : ℕ) → nat_lt (10 ^ 18) n ≡ false → n ≤ 10 ^ 18
    at_most n h = grind (arith, nat_tests)

votes_within : (s : Staked) (reduction : ℕ) (ts before : List Vote) → power_of_votes before * reduction ≤ 10 ^ 18 → votes_checked s reduction before ts ≡ Ok tt → power_of_votes (before ++ ts) * reduction ≤ 10 ^ 18
votes_within s reduction [] before h e = subst (λ l. power_of_votes l * reduction ≤ 10 ^ 18) (sym (nothing_more before)) h
  where
    nothing_more : (l : List Vote) → l ++ [] ≡ l
    nothing_more [] = refl
    nothing_more (x ∷ xs) = ap (λ l. x ∷ l) (nothing_more xs)
votes_within s reduction (t ∷ ts) before h e =
    let one = first_ok (vote_checked s reduction before t) (votes_checked s reduction (before ++ t ∷ []) ts) tt e in
    subst (λ l. power_of_votes l * reduction ≤ 10 ^ 18) (append_assoc before (t ∷ []) ts)
    (votes_within s reduction ts (before ++ t ∷ []) (vote_within s reduction before t one.0 one.1) (next_ok (vote_checked s reduction before t) (votes_checked s reduction (before ++ t ∷ []) ts) tt e))

-- each of them is at most all together
each_within : (reduction most : ℕ) (ts : List Vote) → power_of_votes ts * reduction ≤ most → AllByRecursion (λ t. t.power * reduction ≤ most) ts
each_within reduction most [] h = tt
each_within reduction most (t ∷ ts) h =
    let all = sum_by-cons (λ n. n) t.power (map (λ (u : Vote). u.power) ts) in (
      trans_of (t.power * reduction) (power_of_votes (t ∷ ts) * reduction) most (mul-le-mul_right reduction (own t.power (power_of_votes ts) (power_of_votes (t ∷ ts)) all)) h,
      each_within reduction most ts (trans_of (power_of_votes ts * reduction) (power_of_votes (t ∷ ts) * reduction) most (mul-le-mul_right reduction (rest t.power (power_of_votes ts) (power_of_votes (t ∷ ts)) all)) h),
    )
  where
    trans_of : (a b c : ℕ) → a ≤ b → b ≤ c → a ≤ c
    trans_of a b c p q = omega (arith, p, q)

    own : (a b c : ℕ) → c ≡ a + b → a ≤ c
    own a b c e = omega (arith, e)

    rest : (a b c : ℕ) → c ≡ a + b → b ≤ c
    rest a b c e = omega (arith, e)

-- ---- votes

apart_of : (ts : List Vote) → AreDistinct ts → AreApart ts
apart_of [] d = tt
apart_of (t ∷ ts) d = (All-from_recursion (λ u. is_at (cons_cmp u.cons) t.cons ≡ false) ts d.0, apart_of ts d.1)

counts_below : (p : State) (height : ℕ) → IsSound p → p.view.ctx.height < height → (ts : List Vote) → AllByRecursion (λ t. (s : Signing) → signing_of (window_in p) t.cons ≡ Some s → length s.votes < height) ts
counts_below p height s lt [] = tt
counts_below p height s lt (t ∷ ts) = ((λ r e. below (length r.votes) (own_record p.view.ctx.height t.cons r (window_in p) s.window e).counted), counts_below p height s lt ts)
  where
    below : (n : ℕ) → n ≤ p.view.ctx.height → n < height
    below n h = omega (arith, h, lt)

-- ---- evidence

-- evidence that passed may be brought
brought : (b : Block) (c : Ctx) (e : Evidence) → c.height ≡ b.height → c.time ≡ b.time → is_bad_evidence b c.params.power_reduction e ≡ false → MayBeBrought c e
brought b c e h t f = by (e.height == 0) (nat_le b.height e.height) (nat_lt b.time e.time) (nat_lt (10 ^ 18) (e.power * c.params.power_reduction)) refl refl refl refl f
  where
    by : (x y z u : Bool) → (e.height == 0) ≡ x → nat_le b.height e.height ≡ y → nat_lt b.time e.time ≡ z → nat_lt (10 ^ 18) (e.power * c.params.power_reduction) ≡ u → (x || y || z || u) ≡ false → MayBeBrought c e
    by false false false false p q r s g = record {
      power = within (e.power * c.params.power_reduction) s;
      some = positive e.height p;
      height = subst (λ n. e.height < n) (sym h) (lower e.height b.height q);
      time = subst (λ n. e.time ≤ n) (sym t) (not_later e.time b.time r);
    }
      where
        within : (n : ℕ) → nat_lt (10 ^ 18) n ≡ false → n ≤ 10 ^ 18
        within n k = grind (arith, nat_tests)

        positive : (n : ℕ) → (n == 0) ≡ false → 1 ≤ n
        positive n k = grind (arith, nat_tests)

        lower : (n m : ℕ) → nat_le m n ≡ false → n < m
        lower n m k = grind (arith, nat_tests)

        not_later : (n m : ℕ) → nat_lt m n ≡ false → n ≤ m
        not_later n m k = grind (arith, nat_tests)
    by true y z u p q r s g = absurd cc
    by false true z u p q r s g = absurd cc
    by false false true u p q r s g = absurd cc
    by false false false true p q r s g = absurd cc

all_brought : (b : Block) (c : Ctx) (place : ℕ) (es : List Evidence) → c.height ≡ b.height → c.time ≡ b.time → evidence_checked b c.params.power_reduction place es ≡ Ok tt → AllByRecursion (MayBeBrought c) es
all_brought b c place [] h t e = tt
all_brought b c place (x ∷ xs) h t e =
    let one = passed (is_bad_evidence b c.params.power_reduction x) (BadEvidence place) (evidence_checked b c.params.power_reduction (place + 1) xs) tt e in
    (brought b c x h t one.0, all_brought b c (place + 1) xs h t one.1)

-- ---- the block

module _ (b : Block) (k : KeptState) (p : State) (h : HasBegun b k p) where
  due : IsDue b h.before
  due = is_due b h.before h.checked

  checks : (votes_checked h.before.mine.staked h.before.view.ctx.params.power_reduction [] b.votes >> evidence_checked b h.before.view.ctx.params.power_reduction 0 b.evidence) ≡ Ok tt
  checks = next_ok (stop_at (block_fault h.before.view.ctx.height h.before.view.ctx.time b)) (votes_checked h.before.mine.staked h.before.view.ctx.params.power_reduction [] b.votes >> evidence_checked b h.before.view.ctx.params.power_reduction 0 b.evidence) tt h.checked

  voted_well : votes_checked h.before.mine.staked h.before.view.ctx.params.power_reduction [] b.votes ≡ Ok tt
  voted_well = let first = first_ok (votes_checked h.before.mine.staked h.before.view.ctx.params.power_reduction [] b.votes) (evidence_checked b h.before.view.ctx.params.power_reduction 0 b.evidence) tt checks in first.1

  later : h.before.view.ctx.height < b.height
  later = one_more b.height h.before.view.ctx.height due.height
    where
      one_more : (a c : ℕ) → a ≡ c + 1 → c < a
      one_more a c e = omega (arith, e)

  -- the state of the beginning, as it is put together
  abbrev opened : State
  opened = without_facts (next_block b.height b.time h.before)

  opened_sound : IsSound opened
  opened_sound = sound_cleared (next_block b.height b.time h.before) (next_block_keeps_soundness b.height b.time h.before h.sound later h.height due.time due.before_end)

  powers_fit : power_of_votes b.votes * h.before.view.ctx.params.power_reduction ≤ 10 ^ 18
  powers_fit = votes_within h.before.mine.staked h.before.view.ctx.params.power_reduction b.votes [] (nothing h.before.view.ctx.params.power_reduction) voted_well
    where
      nothing : (n : ℕ) → 0 * n ≤ 10 ^ 18
      nothing n = omega arith

  -- the votes may be counted, and the fees allocated among them
  pub opens : AreBegun b.votes k p
  opens = record {
    keeps = h.keeps;
    sound = subst IsSound (sym h.begun) opened_sound;
    some = subst (λ (w : State). 1 ≤ w.view.ctx.height) (sym h.begun) (some_height b.height h.before.view.ctx.height due.height);
    older = subst (λ (w : State). UnbondingsAreSound (w.view.ctx.height - 1) w.mine.unbondings) (sym h.begun) (subst (λ n. UnbondingsAreSound n h.before.mine.unbondings) (before_it b.height h.before.view.ctx.height due.height) h.sound.unbondings);
    apart = apart_of b.votes distinct;
    powers = subst (λ (w : State). All (λ t. IsPower t.power w) b.votes) (sym h.begun) (All-from_recursion (λ t. IsPower t.power opened) b.votes (each_within h.before.view.ctx.params.power_reduction (10 ^ 18) b.votes powers_fit));
    counts = subst (λ (w : State). All (λ t. CountsBelow t.cons w) b.votes) (sym h.begun) (All-from_recursion (λ t. CountsBelow t.cons opened) b.votes (counts_below h.before b.height h.sound later b.votes));
  }
    where
      distinct : AreDistinct b.votes
      distinct = let both = votes_are h.before.mine.staked h.before.view.ctx.params.power_reduction b.votes [] voted_well in both.1

      some_height : (a c : ℕ) → a ≡ c + 1 → 1 ≤ a
      some_height a c e = omega (arith, e)

      before_it : (a c : ℕ) → a ≡ c + 1 → c ≡ a - 1
      before_it a c e = omega (arith, e)

  pub casts : AreCast b.votes p
  casts =
      let both = votes_are h.before.mine.staked h.before.view.ctx.params.power_reduction b.votes [] voted_well in
      subst (λ (w : State). AreCast b.votes w) (sym h.begun) (record { known = All-from_recursion _ b.votes both.0; power = powers_fit })

  -- the evidence may be brought
  pub brings : All (MayBeBrought p.view.ctx) b.evidence
  brings =
      subst (λ (w : State). All (MayBeBrought w.view.ctx) b.evidence) (sym h.begun) (All-from_recursion (MayBeBrought opened.view.ctx) b.evidence
      (all_brought b opened.view.ctx 0 b.evidence refl refl
      (next_ok (votes_checked h.before.mine.staked h.before.view.ctx.params.power_reduction [] b.votes) (evidence_checked b h.before.view.ctx.params.power_reduction 0 b.evidence) tt checks)))

-- ---- behind the beginning

-- once votes and evidence are through, entries of this height, of which there are none yet, have lost nothing
pub begun_stands : (k : KeptState) (p : State) → AreBegun [] k p → StandsWhole k p
begun_stands k p b = record {
  keeps = b.keeps;
  sound = b.sound;
  whole = from_whole p (older_whole (p.view.ctx.height - 1) p.view.ctx.height p.mine.unbondings (below p.view.ctx.height b.some) (to_pairs (p.view.ctx.height - 1) p.mine.unbondings b.older));
}
  where
    below : (n : ℕ) → 1 ≤ n → n - 1 < n
    below n h = omega (arith, h)
