-- The beginning of a block: from what the modules' calls answer and leave to what its steps do, and what stays for the next of them.
use Rattle.std.proofs.Common.{◌≡◌, ◌∙◌, ℕ, ◌-◌, ◌*◌, ◌^◌, ◌<◌, ◌≤◌, false, List, [], ◌∷◌, length, Result, Ok, Err, refl, sym, ap, subst, IfOk, All, Contains}
use Rattle.std.specs.{Prelude.⊤, BTreeMap.is_at, List.AllByRecursion}
use Rattle.std.proofs.lemmas.List.Elements.{All-from_recursion, All-tail, recursion_from_All}
use Rattle.base_decimals.specs.declared.over.Over.{Over}
use Rattle.base_types.specs.Orders.{cons_cmp}
use Rattle.base_roles.specs.declared.{faults.HookFault.HookFault, messages.{Evidence.Evidence, Vote.Vote}}
use Rattle.base_roles.specs.{declared.params.Ctx.Ctx, Answers.Answers, Log.Log, Flow.{◌>>=◌}, World.{View, World}}
use Rattle.rule_modules.specs.Allocation.{fees_allocated}
use Rattle.rule_modules.specs.Chain.{State, Stakes, allocation_step, beside_window, evidence_step, shared_in, vote_step, window_in, with_shared, with_window}
use Rattle.rule_modules.specs.{Distribution.{Shared, distribution_told, told_of}, StepLaws.{CountsBelow, IsPower}}
use Rattle.rule_modules.specs.{Slashing.{core_slashes, plain_slash}, Sound.{IsSound, UnbondingsAreSound}}
use Rattle.rule_modules.specs.Window.{Window, signing_of, voted}
use Rattle.law_soundness.proofs.{Allocating.allocation_fits, Burns.total_in, Entries.{PairsFit, from_pairs, to_pairs}}
use Rattle.law_soundness.proofs.{Lists.weaker, Points.{StateLeft, from_fits, to_fits}, Steps.weaker_if}
use Rattle.law_soundness.proofs.Voting.{EvidenceLeft, VoteLeft, evidence_fits, vote_fits}
use Rattle.mod_signing.specs.{Calls.VoteAnswers, Stands.KeepsSignings}
use Rattle.mod_distribution.specs.Stands.{KeepsShared}
use Rattle.chain_modules.specs.declared.modules.Modules.{Modules}
use Rattle.chain_modules.specs.Kept.{KeptState, Keeps, ground_of, kept_of, stakes_kept}
use Rattle.chain_blocks.specs.{Answers.Leads, Begun.{AreApart, AreBegun, AreCast}}

-- what a step of the beginning leaves, so that the votes that are left may be counted
pub record IsBegunNext (votes : List Vote) (p due : State) : Type 0 where
  pub sound : IsSound due
  pub ctx : due.view.ctx ≡ p.view.ctx
  pub older : (m : ℕ) → PairsFit m p.mine.unbondings → PairsFit m due.mine.unbondings
  pub counts : AllByRecursion (λ t. CountsBelow t.cons due) votes

-- the beginning goes on with these votes
module _ (votes : List Vote) (k2 : KeptState) (p due : State) (n : IsBegunNext votes p due) (keeps : Keeps k2 due) (some : 1 ≤ p.view.ctx.height) (older : UnbondingsAreSound (p.view.ctx.height - 1) p.mine.unbondings)
    (apart : AreApart votes) (powers : All (λ t. IsPower t.power p) votes) where
  pub goes_on : AreBegun votes k2 due
  goes_on = record {
    keeps = keeps;
    sound = n.sound;
    some = subst (λ (c : Ctx). 1 ≤ c.height) (sym n.ctx) some;
    older = subst (λ (c : Ctx). UnbondingsAreSound (c.height - 1) due.mine.unbondings) (sym n.ctx)
        (from_pairs (p.view.ctx.height - 1) due.mine.unbondings (n.older (p.view.ctx.height - 1) (to_pairs (p.view.ctx.height - 1) p.mine.unbondings older)));
    apart = apart;
    powers = subst (λ (c : Ctx). All (λ t. t.power * c.params.power_reduction ≤ 10 ^ 18) votes) (sym n.ctx) powers;
    counts = All-from_recursion (λ t. CountsBelow t.cons due) votes n.counts;
  }

-- ---- allocation

-- records of votes stay, and the height
same_counts : (p due : State) (votes : List Vote) → due.view.ctx ≡ p.view.ctx → window_in due ≡ window_in p → AllByRecursion (λ t. CountsBelow t.cons p) votes → AllByRecursion (λ t. CountsBelow t.cons due) votes
same_counts p due votes c e h = weaker (λ t. CountsBelow t.cons p) (λ t. CountsBelow t.cons due)
    (λ t k s f. subst (λ (x : Ctx). length s.votes < x.height) (sym c) (k s (ap (λ i. signing_of i t.cons) (sym e) ∙ f))) votes h

allocated_next : (votes : List Vote) (p : State) → IsSound p → AreCast votes p → All (λ t. CountsBelow t.cons p) votes → IfOk (allocation_step votes p) (IsBegunNext votes p)
allocated_next votes p s known counts =
    by (fees_allocated p.mine.staked votes (shared_in p) p.view)
    (allocation_fits (Contains s.few.some) (total_in p.view) votes p (to_fits p s) (recursion_from_All _ votes known.known))
  where
    by : (r : Result (Shared × View × Log) Over) → IfOk (r >>= λ x. Ok (with_shared x.0 x.1 x.2 p)) (StateLeft (Contains s.few.some) (total_in p.view) p) → IfOk (r >>= λ x. Ok (with_shared x.0 x.1 x.2 p)) (IsBegunNext votes p)
    by (Ok x) k =
        let due : State = with_shared x.0 x.1 x.2 p in
        record {
          sound = from_fits due s.few.some (total_in p.view) s.few.few k.fits;
          ctx = k.ctx;
          older = λ m g. g;
          counts = same_counts p due votes k.ctx refl (recursion_from_All (λ t. CountsBelow t.cons p) votes counts);
        }
    by (Err over) k = tt

module _ {E : Type 0} (old new : Modules E) (p : State) (ctx : new.ground.ctx ≡ old.ground.ctx) where
  -- the window's number stayed
  numbered : (i : Window) → KeepsSignings old.ground.ctx.params.signed_blocks_window new.hooks.second.kept i → KeepsSignings new.ground.ctx.params.signed_blocks_window new.hooks.second.kept i
  numbered i h = subst (λ n. KeepsSignings n new.hooks.second.kept i) (ap (λ (c : Ctx). c.params.signed_blocks_window) (sym ctx)) h

  pub allocated_leads : (votes : List Vote) (b : AreBegun votes (kept_of old) p) → AreCast votes p → stakes_kept new.stakes ≡ stakes_kept old.stakes → new.hooks.second.kept ≡ old.hooks.second.kept
      → (answer : Result ⊤ HookFault) → Answers (told_of (fees_allocated old.stakes.staking.staked votes (shared_in p) (ground_of old))) (KeepsShared new.hooks.first.first.kept) (ground_of new) answer
      → Leads (AreBegun votes) (allocation_step votes p) (kept_of new) answer
  allocated_leads votes b known stakes signings answer h =
      by (fees_allocated p.mine.staked votes (shared_in p) p.view) answer
      (subst (λ r. Answers (told_of r) (KeepsShared new.hooks.first.first.kept) (ground_of new) answer) (λ i. fees_allocated (sym b.keeps.stakes i).staked votes (shared_in p) (sym b.keeps.view i)) h)
      (allocated_next votes p b.sound known b.counts)
    where
      by : (r : Result (Shared × View × Log) Over) (a : Result ⊤ HookFault) → Answers (told_of r) (KeepsShared new.hooks.first.first.kept) (ground_of new) a → IfOk (r >>= λ x. Ok (with_shared x.0 x.1 x.2 p)) (IsBegunNext votes p)
          → Leads (AreBegun votes) (r >>= λ x. Ok (with_shared x.0 x.1 x.2 p)) (kept_of new) a
      by (Ok x) (Ok a) h n =
          let due : State = with_shared x.0 x.1 x.2 p in
          goes_on votes (kept_of new) p due n
          (record {
            stakes = b.keeps.stakes ∙ sym stakes;
            shared = h.0;
            signings = numbered (window_in p) (subst (λ k. KeepsSignings old.ground.ctx.params.signed_blocks_window k (window_in p)) (sym signings) b.keeps.signings);
            view = sym h.1;
          }) b.some b.older b.apart b.powers
      by (Ok x) (Err fault) h n = h
      by (Err over) (Ok a) h n = h
      by (Err over) (Err fault) h n = h

  -- ---- votes

  -- the other records stay, so their votes are still fewer than the heights
  counts_on : (due : State) (t : Vote) (ts : List Vote) → due.view.ctx ≡ p.view.ctx → ((q : List ℕ) → is_at (cons_cmp q) t.cons ≡ false → signing_of (window_in due) q ≡ signing_of (window_in p) q)
      → AllByRecursion (λ u. is_at (cons_cmp u.cons) t.cons ≡ false) ts → AllByRecursion (λ u. CountsBelow u.cons p) ts → AllByRecursion (λ u. CountsBelow u.cons due) ts
  counts_on due t [] c o a h = tt
  counts_on due t (u ∷ ts) c o a h = (λ s f. subst (λ (k : Ctx). length s.votes < k.height) (sym c) (h.0 s (sym (o u.cons a.0) ∙ f)), counts_on due t ts c o a.1 h.1)

  vote_next : (t : Vote) (ts : List Vote) → AreBegun (t ∷ ts) (kept_of old) p → IfOk (vote_step t p) (IsBegunNext ts p)
  vote_next t ts b =
      let s = b.sound in
      let P : List ℕ → Type 0 = Contains s.few.some in
      let counts = recursion_from_All (λ u. CountsBelow u.cons p) (t ∷ ts) b.counts in
      let apart = recursion_from_All (λ u. is_at (cons_cmp u.cons) t.cons ≡ false) ts b.apart.0 in
      weaker_if (vote_step t p) (VoteLeft P (total_in p.view) t.cons p) (IsBegunNext ts p) (vote_fits P (total_in p.view) t p (to_fits p s) counts.0) (λ due k. record {
        sound = from_fits due s.few.some (total_in p.view) s.few.few k.fits;
        ctx = k.ctx;
        older = k.pairs;
        counts = counts_on due t ts k.ctx k.others apart counts.1;
      })

  pub vote_leads : (t : Vote) (ts : List Vote) → AreBegun (t ∷ ts) (kept_of old) p → (answer : Result ⊤ HookFault)
      → VoteAnswers (voted (core_slashes distribution_told plain_slash) t (window_in p) (record { mine = stakes_kept old.stakes; hooks = shared_in p; view = ground_of old; log = p.log }))
      (KeepsSignings old.ground.ctx.params.signed_blocks_window new.hooks.second.kept) (stakes_kept new.stakes) (KeepsShared new.hooks.first.first.kept) (ground_of new) answer
      → Leads (AreBegun ts) (vote_step t p) (kept_of new) answer
  vote_leads t ts b answer h =
      by (voted (core_slashes distribution_told plain_slash) t (window_in p) (beside_window p)) answer
      (subst (λ r. VoteAnswers r (KeepsSignings old.ground.ctx.params.signed_blocks_window new.hooks.second.kept) (stakes_kept new.stakes) (KeepsShared new.hooks.first.first.kept) (ground_of new) answer)
      (λ i. voted (core_slashes distribution_told plain_slash) t (window_in p) (record { mine = sym b.keeps.stakes i; hooks = shared_in p; view = sym b.keeps.view i; log = p.log })) h)
      (vote_next t ts b)
    where
      by : (r : Result (⊤ × Window × World Stakes Shared) Over) (a : Result ⊤ HookFault)
          → VoteAnswers r (KeepsSignings old.ground.ctx.params.signed_blocks_window new.hooks.second.kept) (stakes_kept new.stakes) (KeepsShared new.hooks.first.first.kept) (ground_of new) a
          → IfOk (r >>= λ x. Ok (with_window x.1 x.2)) (IsBegunNext ts p) → Leads (AreBegun ts) (r >>= λ x. Ok (with_window x.1 x.2)) (kept_of new) a
      by (Ok x) (Ok a) h n =
          goes_on ts (kept_of new) p (with_window x.1 x.2) n (record { stakes = sym h.1; shared = h.2; signings = numbered x.1 h.0; view = sym h.3 })
          b.some b.older b.apart.1 (All-tail (λ u. IsPower u.power p) t ts b.powers)
      by (Ok x) (Err fault) h n = h
      by (Err over) (Ok a) h n = h
      by (Err over) (Err fault) h n = h

  -- ---- evidence

  pub evidence_next : (e : Evidence) → IsSound p → IfOk (evidence_step e p) (IsBegunNext [] p)
  evidence_next e s =
      let P : List ℕ → Type 0 = Contains s.few.some in
      weaker_if (evidence_step e p) (EvidenceLeft P (total_in p.view) p) (IsBegunNext [] p) (evidence_fits P (total_in p.view) e p (to_fits p s)) (λ due k. record {
        sound = from_fits due s.few.some (total_in p.view) s.few.few k.fits;
        ctx = k.ctx;
        older = k.pairs;
        counts = tt;
      })
