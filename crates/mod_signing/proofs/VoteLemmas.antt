-- A vote by the rule, case by case, and what a call that follows it answers.
use Rattle.std.proofs.Common.{◌≡◌, ◌∙◌, ℕ, ◌-◌, ◌%◌, ◌≤◌, Bool, true, false, [], ◌∷◌, take, Option, Some, None, Result, Ok, Err, refl, sym, ap, subst, not, ◌&&◌, if◌then◌else◌, append-nil}
use Rattle.std.specs.Prelude.{⊤}
use Rattle.base_decimals.specs.declared.over.Over.{Over}
use Rattle.base_types.specs.Orders.{cons_cmp}
use Rattle.base_roles.specs.declared.{bank.Ground.Ground, entities.{Validator.Validator, SigningInfo.SigningInfo}}
use Rattle.base_roles.specs.declared.{faults.HookFault.{HookFault, TheVariants.NoMemory}, messages.Vote.Vote}
use Rattle.base_roles.specs.{Entries.with, Flow.{◌>>=◌}, World.{View, World}}
use Rattle.rule_modules.specs.{Answers.{Leaves, WantsMemory}, Slashing.{Slashes, jail_lent}}
use Rattle.rule_modules.specs.Window.{Signing, Window, info_of, is_downtime, reset_at, signing_of, vote_counted}
use Rattle.mod_signing.specs.Calls.{VoteAnswers, GroundGoesOn, HasEntry, down_of, downtime_slashed, is_punished, ring_at}
use Rattle.mod_signing.specs.{Kept.{Signed, Kept, signed_of, with_signed}, Rings.ring_with}
use Rattle.mod_signing.{specs.Stands.{KeepsSignings, KeepsVotes}, proofs.CallLemmas.{keeps_counted, keeps_reset}}
use Rattle.mod_signing.proofs.{DownLemmas.{down_by, reset_is}, StandLemmas.stands_at}

-- the votes of a record with one more
abbrev pub with_vote : Vote → Signing → Signing
with_vote vote s = record s { votes = not vote.signed ∷ s.votes }

true_false : true ≡ false → ⊥
true_false e = absurd cc

pub not-both : {A : Type 0} (b : Bool) → b ≡ true → b ≡ false → A
not-both b e f = absurd (true_false (sym e ∙ f))

-- nothing was changed
pub ground-same : {B M H N S K : Type 0} (bank_marks : B → M) (most_steps : B → ℕ) (marks_of : H → N) (slasher_marks : S → K) (g : Ground B) (hooks : H) (slasher : S) → GroundGoesOn bank_marks most_steps marks_of slasher_marks g g hooks hooks slasher slasher
ground-same bank_marks most_steps marks_of slasher_marks g hooks slasher = record {
  undone = record { marks = refl; ctx = refl; facts = ([], sym (append-nil g.facts)) };
  bank = refl;
  hook_marks = refl;
  slasher_marks = refl;
}

module _ {S H : Type 0} (lent : Slashes S H) (vote : Vote) (i : Window) (w : World S H) where
  -- ---- skipped

  pub skips : (v : Option Validator) (s : Option Signing) → vote_counted lent v s vote i w ≡ Ok (tt, i, w) → (stands : Window → Type 0) (holds : H → Type 0) → stands i → holds w.hooks → VoteAnswers (vote_counted lent v s vote i w) stands w.mine holds w.view (Ok tt)
  skips v s e stands holds st o = subst (λ r. VoteAnswers r stands w.mine holds w.view (Ok tt)) (sym e) (st, refl, o, refl)

  pub skipped-gone : (v : Option Validator) (s : Option Signing) → v ≡ None → vote_counted lent v s vote i w ≡ Ok (tt, i, w)
  skipped-gone v s e = ap (λ x. vote_counted lent x s vote i w) e

  pub skipped-new : (v : Validator) (s : Option Signing) → s ≡ None → vote_counted lent (Some v) s vote i w ≡ Ok (tt, i, w)
  skipped-new v s e = ap (λ x. vote_counted lent (Some v) x vote i w) e

  -- the slash and the jailing, with the record reset
  abbrev pub punished : Signing → Result (⊤ × Window × World S H) Over
  punished s = ◌>>=◌ (lent.slash vote.cons (w.view.ctx.height - 2) vote.power w.view.ctx.params.slash_fraction_downtime w)
      (λ p. Ok (tt, with cons_cmp i vote.cons (reset_at w.view.ctx (with_vote vote s)), jail_lent lent vote.cons p.1))

  -- the record with one more vote
  abbrev pub only_counted : Signing → Result (⊤ × Window × World S H) Over
  only_counted s = Ok (tt, with cons_cmp i vote.cons (with_vote vote s), w)

  module _ (v : Validator) (s : Signing) where
    abbrev by_tests : Bool → Bool → Result (⊤ × Window × World S H) Over
    by_tests jailed down = if jailed then Ok (tt, i, w) else (if down then punished s else only_counted s)

    pub skipped-jailed : v.jailed ≡ true → vote_counted lent (Some v) (Some s) vote i w ≡ Ok (tt, i, w)
    skipped-jailed e = ap (λ b. by_tests b (is_downtime w.view.ctx (with_vote vote s) v)) e

    -- ---- counted

    pub counted-only : v.jailed ≡ false → is_downtime w.view.ctx (with_vote vote s) v ≡ false → vote_counted lent (Some v) (Some s) vote i w ≡ only_counted s
    counted-only e f = (λ j. by_tests (e j) (f j))

    pub counted-punished : v.jailed ≡ false → is_downtime w.view.ctx (with_vote vote s) v ≡ true → vote_counted lent (Some v) (Some s) vote i w ≡ punished s
    counted-punished e f = (λ j. by_tests (e j) (f j))

  -- ---- what a call answers that punishes

  module _ (s : Signing) (stands : Window → Type 0) (mine : S) (holds : H → Type 0) (view : View) where
    pub punish-fails : (fault : HookFault) (m : S) (hs : H → Type 0) (u : View) → Leaves (downtime_slashed lent vote.cons vote.power w) m hs u (Err fault) → VoteAnswers (punished s) stands mine holds view (Err fault)
    punish-fails fault m hs u h = by (lent.slash vote.cons (w.view.ctx.height - 2) vote.power w.view.ctx.params.slash_fraction_downtime w) h
      where
        by : (r : Result (ℕ × World S H) Over) → Leaves (◌>>=◌ r (λ p. Ok (jail_lent lent vote.cons p.1))) m hs u (Err fault)
            → VoteAnswers (◌>>=◌ r (λ p. Ok (tt, with cons_cmp i vote.cons (reset_at w.view.ctx (with_vote vote s)), jail_lent lent vote.cons p.1))) stands mine holds view (Err fault)
        by (Ok p) k = k
        by (Err over) k = k

    pub punish-resets : stands (with cons_cmp i vote.cons (reset_at w.view.ctx (with_vote vote s))) → Leaves (downtime_slashed lent vote.cons vote.power w) mine holds view (Ok tt) → VoteAnswers (punished s) stands mine holds view (Ok tt)
    punish-resets st h = by (lent.slash vote.cons (w.view.ctx.height - 2) vote.power w.view.ctx.params.slash_fraction_downtime w) h
      where
        by : (r : Result (ℕ × World S H) Over) → Leaves (◌>>=◌ r (λ p. Ok (jail_lent lent vote.cons p.1))) mine holds view (Ok tt)
            → VoteAnswers (◌>>=◌ r (λ p. Ok (tt, with cons_cmp i vote.cons (reset_at w.view.ctx (with_vote vote s)), jail_lent lent vote.cons p.1))) stands mine holds view (Ok tt)
        by (Ok p) k = (st, k.0, k.1, k.2)
        by (Err over) k = absurd k

    pub punish-wants : (m : S) (hs : H → Type 0) (u : View) → Leaves (downtime_slashed lent vote.cons vote.power w) m hs u (Ok tt) → VoteAnswers (punished s) stands mine holds view (Err NoMemory)
    punish-wants m hs u h = by (lent.slash vote.cons (w.view.ctx.height - 2) vote.power w.view.ctx.params.slash_fraction_downtime w) h
      where
        by : (r : Result (ℕ × World S H) Over) → Leaves (◌>>=◌ r (λ p. Ok (jail_lent lent vote.cons p.1))) m hs u (Ok tt)
            → VoteAnswers (◌>>=◌ r (λ p. Ok (tt, with cons_cmp i vote.cons (reset_at w.view.ctx (with_vote vote s)), jail_lent lent vote.cons p.1))) stands mine holds view (Err NoMemory)
        by (Ok p) k = tt
        by (Err over) k = absurd k

-- ---- what a call answers that counts

module _ {S H : Type 0} (lent : Slashes S H) (vote : Vote) (i : Window) (w : World S H) (v : Validator) (free : v.jailed ≡ false)
    (kept : Kept) (info : SigningInfo) (places : ℕ) (he : HasEntry vote.cons info places kept) (next : SigningInfo)
    (told : (k : Signed) → signed_of kept vote.cons ≡ Some k → (s : Signing) → KeepsVotes w.view.ctx.params.signed_blocks_window k s → next ≡ info_of w.view.ctx.params.signed_blocks_window (record s { votes = not vote.signed ∷ s.votes }))
    (keeps : KeepsSignings w.view.ctx.params.signed_blocks_window kept i) (s : Signing) (found : signing_of i vote.cons ≡ Some s) where
  next_is : next ≡ info_of w.view.ctx.params.signed_blocks_window (with_vote vote s)
  next_is = told he.0 he.1.0 s (stands_at w.view.ctx.params.signed_blocks_window kept i vote.cons he.0 s keeps he.1.0 found)

  pub down_is : (b : Bool) → down_of w.view.ctx next v.status ≡ b → is_downtime w.view.ctx (with_vote vote s) v ≡ b
  down_is b e = sym (down_by w.view.ctx next (with_vote vote s) v next_is) ∙ e

  module _ (up : down_of w.view.ctx next v.status ≡ false) where
    counted_as : vote_counted lent (Some v) (Some s) vote i w ≡ only_counted lent vote i w s
    counted_as = counted-only lent vote i w v s free (down_is false up)

    pub count-wants : (stands : Window → Type 0) (mine : S) (holds : H → Type 0) (view : View) (fault : HookFault) → WantsMemory fault → VoteAnswers (vote_counted lent (Some v) (Some s) vote i w) stands mine holds view (Err fault)
    count-wants stands mine holds view fault h = subst (λ r. VoteAnswers r stands mine holds view (Err fault)) (sym counted_as) h

    pub count-leaves : 1 ≤ w.view.ctx.params.signed_blocks_window → (kept2 : Kept) (holds : H → Type 0) → holds w.hooks
        → kept2 ≡ with_signed vote.cons (record { info = next; ring = ring_with (info.counted % w.view.ctx.params.signed_blocks_window) (not vote.signed) (ring_at kept vote.cons) }) kept
        → VoteAnswers (vote_counted lent (Some v) (Some s) vote i w) (KeepsSignings w.view.ctx.params.signed_blocks_window kept2) w.mine holds w.view (Ok tt)
    count-leaves some kept2 holds o is =
        subst (λ r. VoteAnswers r (KeepsSignings w.view.ctx.params.signed_blocks_window kept2) w.mine holds w.view (Ok tt)) (sym counted_as) (
          subst (λ k. KeepsSignings w.view.ctx.params.signed_blocks_window k (with cons_cmp i vote.cons (with_vote vote s))) (sym is)
              (keeps_counted kept vote.cons info places he w.view.ctx.params.signed_blocks_window i keeps s found some (not vote.signed) next next_is),
          refl,
          o,
          refl,
        )

  module _ (down : down_of w.view.ctx next v.status ≡ true) where
    punished_as : vote_counted lent (Some v) (Some s) vote i w ≡ punished lent vote i w s
    punished_as = counted-punished lent vote i w v s free (down_is true down)

    pub punished_is : is_punished w.view.ctx (Some v) (signing_of i vote.cons) vote.signed ≡ true
    punished_is = ap (λ x. is_punished w.view.ctx (Some v) x vote.signed) found ∙ (λ j. not (free j) && down_is true down j)

    pub count-fails : (stands : Window → Type 0) (mine : S) (holds : H → Type 0) (view : View) (fault : HookFault) (m : S) (hs : H → Type 0) (u : View) → Leaves (downtime_slashed lent vote.cons vote.power w) m hs u (Err fault)
        → VoteAnswers (vote_counted lent (Some v) (Some s) vote i w) stands mine holds view (Err fault)
    count-fails stands mine holds view fault m hs u h = subst (λ r. VoteAnswers r stands mine holds view (Err fault)) (sym punished_as) (punish-fails lent vote i w s stands mine holds view fault m hs u h)

    pub punished-wants : (stands : Window → Type 0) (mine : S) (holds : H → Type 0) (view : View) (fault : HookFault) → fault ≡ NoMemory → (m : S) (hs : H → Type 0) (u : View) → Leaves (downtime_slashed lent vote.cons vote.power w) m hs u (Ok tt)
        → VoteAnswers (vote_counted lent (Some v) (Some s) vote i w) stands mine holds view (Err fault)
    punished-wants stands mine holds view fault e m hs u h =
        subst (λ f. VoteAnswers (vote_counted lent (Some v) (Some s) vote i w) stands mine holds view (Err f)) (sym e)
        (subst (λ r. VoteAnswers r stands mine holds view (Err NoMemory)) (sym punished_as) (punish-wants lent vote i w s stands mine holds view m hs u h))

    pub punished-leaves : (kept2 : Kept) (mine : S) (holds : H → Type 0) (view : View) (until : ℕ) → until ≡ (reset_at w.view.ctx (with_vote vote s)).jailed_until
        → kept2 ≡ with_signed vote.cons (record { info = record next { counted = 0; missed = 0; jailed_until = until }; ring = take 0 (ring_at kept vote.cons) }) kept
        → Leaves (downtime_slashed lent vote.cons vote.power w) mine holds view (Ok tt)
        → VoteAnswers (vote_counted lent (Some v) (Some s) vote i w) (KeepsSignings w.view.ctx.params.signed_blocks_window kept2) mine holds view (Ok tt)
    punished-leaves kept2 mine holds view until u is h =
        subst (λ r. VoteAnswers r (KeepsSignings w.view.ctx.params.signed_blocks_window kept2) mine holds view (Ok tt)) (sym punished_as)
        (punish-resets lent vote i w s (KeepsSignings w.view.ctx.params.signed_blocks_window kept2) mine holds view
        (subst (λ k. KeepsSignings w.view.ctx.params.signed_blocks_window k (with cons_cmp i vote.cons (reset_at w.view.ctx (with_vote vote s)))) (sym is)
        (keeps_reset kept vote.cons info places he w.view.ctx i keeps (with_vote vote s) (record next { counted = 0; missed = 0; jailed_until = until }) (reset_is w.view.ctx next (with_vote vote s) until next_is u))) h)
