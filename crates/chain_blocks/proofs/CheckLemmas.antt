-- Votes and evidence that were checked so far.
use Rattle.std.proofs.Common.{◌≡◌, ◌∙◌, ℕ, ◌+◌, ◌*◌, ◌^◌, ◌<◌, ◌≤◌, Bool, true, false, List, [], ◌∷◌, ◌++◌, drop, length, get_or, map, Option, None, Some, Result, Ok, Err, refl, sym, ap, subst, arith, mul-le-mul_right, Bor, ◌||◌, is_none, is_some, nat_lt, not, OnOk, IfErr, option_copied}
use Rattle.std.{specs.{Prelude.⊤, BTreeMap.is_at, List.list_any}, proofs.lemmas.Bool.Decides.nat_tests}
use Rattle.std.proofs.lemmas.List.Sums.{sum_by-cons}
use Rattle.base_types.specs.Orders.{cons_cmp}
use Rattle.base_roles.specs.declared.{entities.Validator.Validator, messages.{Evidence.Evidence, Vote.Vote}}
use Rattle.base_roles.specs.{Staked.{Staked, validator_by_cons}, Flow.{◌>>◌, stop_if}}
use Rattle.base_messages.specs.declared.{block.Block.Block, faults.BlockFault.BlockFault}
use Rattle.base_messages.specs.declared.faults.BlockFault.TheVariants.{BadEvidence, BadPower, NoMemory, RepeatedVote, UnknownVote}
use Rattle.rule_modules.specs.Chain.{State}
use Rattle.rule_machine.specs.Blocks.{block_fault}
use Rattle.rule_machine.specs.Machine.{block_checked, evidence_checked, is_bad_evidence, power_of_votes, stop_at, vote_checked, votes_checked}
use Rattle.chain_modules.specs.Kept.{KeptState, Keeps}
use Rattle.chain_transactions.proofs.MessageLemmas.{next}
use Rattle.chain_blocks.specs.Answers.{FaultsAs}

-- ---- lists with one more

length_more : {A : Type 0} (xs : List A) (x : A) → length (xs ++ x ∷ []) ≡ length xs + 1
length_more [] x = refl
length_more (y ∷ ys) x = let rest = length_more ys x in omega (arith, rest)

power_more : (xs : List Vote) (x : Vote) → power_of_votes (xs ++ x ∷ []) ≡ power_of_votes xs + x.power
power_more [] x = sum_by-cons (λ n. n) x.power [] ∙ after_nothing x.power
  where
    after_nothing : (n : ℕ) → n + 0 ≡ 0 + n
    after_nothing n = omega arith
power_more (y ∷ ys) x =
    added (power_of_votes (y ∷ ys ++ x ∷ [])) (power_of_votes (y ∷ ys)) y.power (power_of_votes (ys ++ x ∷ [])) (power_of_votes ys) x.power
    (sum_by-cons (λ n. n) y.power (map (λ (u : Vote). u.power) (ys ++ x ∷ []))) (sum_by-cons (λ n. n) y.power (map (λ (u : Vote). u.power) ys)) (power_more ys x)
  where
    added : (m n a b c d : ℕ) → m ≡ a + b → n ≡ a + c → b ≡ c + d → m ≡ n + d
    added m n a b c d e f g = omega (arith, e, f, g)

swapped : (a b c : Bool) → (a || (b || c)) ≡ (b || (a || c))
swapped true true c = refl
swapped true false c = refl
swapped false true c = refl
swapped false false c = refl

any_more : {A : Type 0} (test : A → Bool) (xs : List A) (x : A) → list_any test (xs ++ x ∷ []) ≡ (test x || list_any test xs)
any_more test [] x = refl
any_more test (y ∷ ys) x = ap (λ b. test y || b) (any_more test ys x) ∙ swapped (test y) (test x) (list_any test ys)

-- ---- votes

-- The votes before this place were checked: what is left to check is all that is to be, the set has their addresses, and this is
-- their power, which is within the limit.
pub record VotesSoFar (s : Staked) (reduction : ℕ) (votes : List Vote) (place : ℕ) (seen : List (List ℕ)) (power : ℕ) : Type 0 where
  pub before : List Vote
  pub count : length before ≡ place
  pub same : votes_checked s reduction before (drop place votes) ≡ votes_checked s reduction [] votes
  pub keys : (q : List ℕ) → list_any (is_at (cons_cmp q)) seen ≡ list_any (λ u. is_at (cons_cmp q) u.cons) before
  pub total : power ≡ power_of_votes before
  pub within : power * reduction ≤ 10 ^ 18
  pub low : power ≤ 10 ^ 18

-- a power is at most its tokens
pub power_alone : (n r : ℕ) → 1 ≤ r → n * r ≤ 10 ^ 18 → n ≤ 10 ^ 18
power_alone n r some h = let more : 1 * n ≤ r * n = mul-le-mul_right n some in omega (arith, more, h)

module _ (s : Staked) (reduction : ℕ) (votes : List Vote) (place : ℕ) (t : Vote) (seen : List (List ℕ)) (power : ℕ) (lt : place < length votes) (is : t ≡ get_or votes place t) (so : VotesSoFar s reduction votes place seen power) where
  -- the vote's own checks, and then the others
  here : (vote_checked s reduction so.before t >> votes_checked s reduction (so.before ++ t ∷ []) (drop (place + 1) votes)) ≡ votes_checked s reduction [] votes
  here = sym (ap (λ (l : List Vote). votes_checked s reduction so.before l) (next votes place t lt is)) ∙ so.same

  abbrev later : Result ⊤ BlockFault
  later = votes_checked s reduction (so.before ++ t ∷ []) (drop (place + 1) votes)

  -- no validator has its address
  pub unknown : validator_by_cons s t.cons ≡ None → votes_checked s reduction [] votes ≡ Err (UnknownVote place)
  unknown e =
      sym here
      ∙ ap (λ o. (stop_if (is_none o) (UnknownVote (length so.before)) >> (stop_if (list_any (λ u. is_at (cons_cmp t.cons) u.cons) so.before) (RepeatedVote (length so.before)) >> stop_if (nat_lt (10 ^ 18) (power_of_votes (so.before ++ t ∷ []) * reduction)) (BadPower (length so.before)))) >> later) e
      ∙ ap (λ n. Err (UnknownVote n)) so.count

  module _ (v : Validator) (known : validator_by_cons s t.cons ≡ Some v) where
    known_on : vote_checked s reduction so.before t ≡ (stop_if (list_any (λ u. is_at (cons_cmp t.cons) u.cons) so.before) (RepeatedVote (length so.before)) >> stop_if (nat_lt (10 ^ 18) (power_of_votes (so.before ++ t ∷ []) * reduction)) (BadPower (length so.before)))
    known_on = ap (λ o. stop_if (is_none o) (UnknownVote (length so.before)) >> (stop_if (list_any (λ u. is_at (cons_cmp t.cons) u.cons) so.before) (RepeatedVote (length so.before)) >> stop_if (nat_lt (10 ^ 18) (power_of_votes (so.before ++ t ∷ []) * reduction)) (BadPower (length so.before)))) known

    -- an earlier vote has its address
    pub repeated : list_any (is_at (cons_cmp t.cons)) seen ≡ true → votes_checked s reduction [] votes ≡ Err (RepeatedVote place)
    repeated e =
        sym here ∙ ap (λ r. r >> later) known_on
        ∙ ap (λ b. (stop_if b (RepeatedVote (length so.before)) >> stop_if (nat_lt (10 ^ 18) (power_of_votes (so.before ++ t ∷ []) * reduction)) (BadPower (length so.before))) >> later) (sym (so.keys t.cons) ∙ e)
        ∙ ap (λ n. Err (RepeatedVote n)) so.count

    module _ (new : list_any (is_at (cons_cmp t.cons)) seen ≡ false) where
      new_on : vote_checked s reduction so.before t ≡ stop_if (nat_lt (10 ^ 18) (power_of_votes (so.before ++ t ∷ []) * reduction)) (BadPower (length so.before))
      new_on = known_on ∙ ap (λ b. stop_if b (RepeatedVote (length so.before)) >> stop_if (nat_lt (10 ^ 18) (power_of_votes (so.before ++ t ∷ []) * reduction)) (BadPower (length so.before))) (sym (so.keys t.cons) ∙ new)

      total_more : power_of_votes (so.before ++ t ∷ []) ≡ power + t.power
      total_more = power_more so.before t ∙ ap (λ n. n + t.power) (sym so.total)

      -- the powers so far are above the limit
      pub too_much : 10 ^ 18 < (power + t.power) * reduction → votes_checked s reduction [] votes ≡ Err (BadPower place)
      too_much h =
          sym here ∙ ap (λ r. r >> later) new_on
          ∙ ap (λ b. stop_if b (BadPower (length so.before)) >> later) (ap (λ n. nat_lt (10 ^ 18) (n * reduction)) total_more ∙ above ((power + t.power) * reduction) h)
          ∙ ap (λ n. Err (BadPower n)) so.count
        where
          above : (n : ℕ) → 10 ^ 18 < n → nat_lt (10 ^ 18) n ≡ true
          above n k = grind (arith, nat_tests)

      -- the vote is as it may be
      pub one_more_vote : (seen2 : List (List ℕ)) (power2 : ℕ) → ((test : List ℕ → Bool) → list_any test seen2 ≡ (test t.cons || list_any test seen)) → power2 ≡ power + t.power → power2 * reduction ≤ 10 ^ 18 → 1 ≤ reduction
          → VotesSoFar s reduction votes (place + 1) seen2 power2
      one_more_vote seen2 power2 added sums fits some = record {
        before = so.before ++ t ∷ [];
        count = length_more so.before t ∙ ap (λ n. n + 1) so.count;
        same = sym (ap (λ r. r >> later) (new_on ∙ ap (λ b. stop_if b (BadPower (length so.before))) (ap (λ n. nat_lt (10 ^ 18) (n * reduction)) (total_more ∙ sym sums) ∙ below (power2 * reduction) fits))) ∙ here;
        keys = λ q. added (is_at (cons_cmp q)) ∙ ap (λ b. is_at (cons_cmp q) t.cons || b) (so.keys q) ∙ sym (any_more (λ u. is_at (cons_cmp q) u.cons) so.before t);
        total = sums ∙ sym total_more;
        within = fits;
        low = power_alone power2 reduction some fits;
      }
        where
          below : (n : ℕ) → n ≤ 10 ^ 18 → nat_lt (10 ^ 18) n ≡ false
          below n k = grind (arith, nat_tests)

-- whose vote it is
pub known_vote : (r : Option (Bor Validator)) (o : Option Validator) (none : Bool) → option_copied r ≡ o → is_some r ≡ not none → none ≡ false → (v : Validator) × (o ≡ Some v)
known_vote None o true e f g = absurd cc
known_vote None o false e f g = absurd cc
known_vote (Some x) o none e f g = (x.now, sym e)

-- whether its address was there
pub not_new : (there : Bool) → false ≡ not there → there ≡ true
not_new true e = refl
not_new false e = absurd cc

pub is_new : (there : Bool) → true ≡ not there → there ≡ false
is_new true e = absurd cc
is_new false e = refl

-- ---- evidence

-- the evidence before this place is as it may be
abbrev pub EvidenceSoFar : Block → ℕ → List Evidence → ℕ → Type 0
EvidenceSoFar b reduction es place = evidence_checked b reduction place (drop place es) ≡ evidence_checked b reduction 0 es

module _ (b : Block) (reduction : ℕ) (es : List Evidence) (place : ℕ) (e : Evidence) (lt : place < length es) (is : e ≡ get_or es place e) (so : EvidenceSoFar b reduction es place) where
  found : (stop_if (is_bad_evidence b reduction e) (BadEvidence place) >> evidence_checked b reduction (place + 1) (drop (place + 1) es)) ≡ evidence_checked b reduction 0 es
  found = sym (ap (λ (l : List Evidence). evidence_checked b reduction place l) (next es place e lt is)) ∙ so

-- ---- all checks, over what is kept

-- a fault that is due
faults_as : (due : Result ⊤ BlockFault) (fault : BlockFault) → due ≡ Err fault → FaultsAs due fault
faults_as due NoMemory e = tt
faults_as due fault e = e

-- a fault of the first checks is one of all
fault_then : (first rest : Result ⊤ BlockFault) (fault : BlockFault) → FaultsAs first fault → FaultsAs (first >> rest) fault
fault_then first rest NoMemory h = tt
fault_then first rest fault h = ap (λ r. r >> rest) h

module _ (b : Block) (k : KeptState) (p : State) (s : Keeps k p) where
  abbrev votes_here : Result ⊤ BlockFault
  votes_here = votes_checked k.stakes.staked k.view.ctx.params.power_reduction [] b.votes

  abbrev evidence_here : Result ⊤ BlockFault
  evidence_here = evidence_checked b k.view.ctx.params.power_reduction 0 b.evidence

  checked_so : (stop_at (block_fault k.view.ctx.height k.view.ctx.time b) >> (votes_here >> evidence_here)) ≡ block_checked b p
  checked_so = λ i.
      stop_at (block_fault (sym s.view i).ctx.height (sym s.view i).ctx.time b)
      >> (votes_checked (sym s.stakes i).staked (sym s.view i).ctx.params.power_reduction [] b.votes >> evidence_checked b (sym s.view i).ctx.params.power_reduction 0 b.evidence)

  -- its height or its time
  pub not_due : (fault : BlockFault) → block_fault k.view.ctx.height k.view.ctx.time b ≡ Some fault → FaultsAs (block_checked b p) fault
  not_due fault e = faults_as (block_checked b p) fault (sym checked_so ∙ ap (λ o. stop_at o >> (votes_here >> evidence_here)) e)

  module _ (none : block_fault k.view.ctx.height k.view.ctx.time b ≡ None) where
    from_votes : (votes_here >> evidence_here) ≡ block_checked b p
    from_votes = ap (λ o. stop_at o >> (votes_here >> evidence_here)) (sym none) ∙ checked_so

    -- a vote
    pub votes_fault : (fault : BlockFault) → FaultsAs votes_here fault → FaultsAs (block_checked b p) fault
    votes_fault fault h = subst (λ r. FaultsAs r fault) from_votes (fault_then votes_here evidence_here fault h)

    module _ (voted : votes_here ≡ Ok tt) where
      from_evidence : evidence_here ≡ block_checked b p
      from_evidence = ap (λ r. r >> evidence_here) (sym voted) ∙ from_votes

      -- evidence, or none of them
      pub evidence_checks : (answer : Result ⊤ BlockFault) → OnOk answer (evidence_here ≡ Ok tt) → OnOk answer (block_checked b p ≡ Ok tt)
      evidence_checks (Ok a) h = sym from_evidence ∙ h
      evidence_checks (Err fault) h = tt

      pub evidence_faults : (answer : Result ⊤ BlockFault) → IfErr answer (FaultsAs evidence_here) → IfErr answer (FaultsAs (block_checked b p))
      evidence_faults (Ok a) h = tt
      evidence_faults (Err fault) h = subst (λ r. FaultsAs r fault) from_evidence h
