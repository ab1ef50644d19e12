-- The loops of a block's beginning: the votes that were counted so far, and the evidence that was handled so far.
use Rattle.std.proofs.Common.{◌≡◌, ◌∙◌, ℕ, ◌+◌, ◌<◌, List, [], ◌∷◌, drop, length, get_or, Result, Ok, Err, refl, sym, ap, subst, All, OnOk}
use Rattle.std.{specs.Prelude.⊤, proofs.lemmas.List.Elements.{All-head, All-tail}}
use Rattle.base_decimals.specs.declared.over.Over.{Over}
use Rattle.base_roles.specs.declared.{faults.HookFault.HookFault, messages.{Evidence.Evidence, Vote.Vote}}
use Rattle.base_roles.specs.{declared.params.Ctx.Ctx, Flow.{◌>>=◌, each}}
use Rattle.base_messages.specs.declared.block.Block.{Block}
use Rattle.rule_modules.specs.Chain.{State, begin_block, evidence_step, vote_step}
use Rattle.chain_modules.specs.declared.modules.Modules.{Modules}
use Rattle.chain_modules.specs.{Kept.{KeptState, StandsWhole, AreSet, AreSteady, kept_of}, Marks.GoOn}
use Rattle.chain_modules.proofs.MarkLemmas.{stay_on, then_on}
use Rattle.chain_transactions.proofs.MessageLemmas.{next}
use Rattle.chain_blocks.specs.{Answers.Leads, Begun.{AreBegun, HasBegun, MayAccuse, MayBeBrought, MayBegin, MayVote}}
use Rattle.chain_blocks.proofs.{BlockLemmas.part_done, LeadLemmas.stop_leads}

-- ---- one step

-- what goes on has the power reduction of the parameters still
pub still_set : {E : Type 0} (old new : Modules E) → GoOn old new → AreSet old → AreSet new
still_set old new on power = ap (λ b. b.staking.power_reduction) on.behind ∙ power ∙ ap (λ (c : Ctx). c.params.power_reduction) (sym on.ctx)

-- after a step that was carried out these votes may be counted
pub may_vote : {E : Type 0} (votes : List Vote) (old new : Modules E) (r : Result State Over) (answer : Result ⊤ HookFault) → GoOn old new → AreSet old → Leads (AreBegun votes) r (kept_of new) answer → OnOk answer (MayVote votes new)
may_vote votes old new (Ok due) (Ok a) on power h = record { power = still_set old new on power; state = due; begun = h }
may_vote votes old new (Ok due) (Err fault) on power h = tt
may_vote votes old new (Err over) (Ok a) on power h = absurd h
may_vote votes old new (Err over) (Err fault) on power h = tt

-- after a beginning that was carried out the modules are steady
pub steady_begun : {E : Type 0} (b : Block) (old new : Modules E) (answer : Result ⊤ HookFault) → MayBegin b old → GoOn old new
    → ((p : State) → HasBegun b (kept_of old) p → Leads StandsWhole (begin_block b.votes b.evidence p) (kept_of new) answer) → OnOk answer (AreSteady new)
steady_begun b old new (Ok a) may on leads =
    let d = part_done (begin_block b.votes b.evidence may.state) (kept_of new) StandsWhole (leads may.state may.begun) in
    record { power = still_set old new on may.power; state = d.0; stands = d.2 }
steady_begun b old new (Err fault) may on leads = tt

-- ---- one item after another

-- A step for each item: from each state for which modules stood before the first, the steps that are left lead to what all of them do.
module _ {A : Type 0} (f : A → State → Result State Over) (stands : List A → KeptState → State → Type 0) where
  pub record EachSoFar {E : Type 0} (items : List A) (place : ℕ) (old new : Modules E) : Type 0 where
    pub go_on : GoOn old new
    pub rest : (p : State) → stands items (kept_of old) p → (q : State) × stands (drop place items) (kept_of new) q × (each f (drop place items) q ≡ each f items p)

  pub none_yet : {E : Type 0} (items : List A) (m : Modules E) → EachSoFar items 0 m m
  none_yet items m = record { go_on = stay_on m; rest = λ p s. (p, s, refl) }

  module _ {E : Type 0} (items : List A) (place : ℕ) (x : A) (old new last : Modules E) (lt : place < length items) (is : x ≡ get_or items place x) (so : EachSoFar items place old new) (on : GoOn new last) where
    abbrev others : List A
    others = drop (place + 1) items

    from_here : drop place items ≡ x ∷ others
    from_here = next items place x lt is

    here : (q : State) → stands (drop place items) (kept_of new) q → stands (x ∷ others) (kept_of new) q
    here q s = subst (λ l. stands l (kept_of new) q) from_here s

    -- the step was carried out
    pub one_more : ((q : State) → stands (x ∷ others) (kept_of new) q → Leads (stands others) (f x q) (kept_of last) (Ok tt)) → EachSoFar items (place + 1) old last
    one_more leads = record {
      go_on = then_on old new last so.go_on on;
      rest = λ p s.
          let r = so.rest p s in
          let d = part_done (f x r.0) (kept_of last) (stands others) (leads r.0 (here r.0 r.1)) in
          (d.0, d.2, ap (λ (z : Result State Over). z >>= λ t. each f others t) (sym d.1) ∙ ap (λ (l : List A). each f l r.0) (sym from_here) ∙ r.2);
    }

    -- it stopped
    pub one_stops : (ends : KeptState → State → Type 0) (why : HookFault) → ((q : State) → stands (x ∷ others) (kept_of new) q → Leads (stands others) (f x q) (kept_of last) (Err why))
        → (p : State) → stands items (kept_of old) p → Leads ends (each f items p) (kept_of last) (Err why)
    one_stops ends why leads p s =
        let r = so.rest p s in
        subst (λ z. Leads ends z (kept_of last) (Err why)) (ap (λ (l : List A). each f l r.0) (sym from_here) ∙ r.2)
        (stop_leads (stands (x ∷ others)) (stands others) ends (f x) (λ t. each f others t) (kept_of new) (kept_of last) (kept_of last) why leads r.0 (here r.0 r.1))

  -- all steps were carried out
  pub all_done : {E : Type 0} (items : List A) (place : ℕ) (old new : Modules E) → drop place items ≡ [] → EachSoFar items place old new → (p : State) → stands items (kept_of old) p → Leads (stands []) (each f items p) (kept_of new) (Ok tt)
  all_done items place old new end so p s =
      let r = so.rest p s in
      subst (λ z. Leads (stands []) z (kept_of new) (Ok tt)) (ap (λ (l : List A). each f l r.0) (sym end) ∙ r.2)
      (subst (λ l. stands l (kept_of new) r.0) end r.1)

-- ---- votes

-- The votes before this place were counted, and those that are left may be.
pub record VotesCounted {E : Type 0} (votes : List Vote) (place : ℕ) (old new : Modules E) : Type 0 where
  pub may : MayVote (drop place votes) new
  pub so : EachSoFar vote_step AreBegun votes place old new

pub no_votes_counted : {E : Type 0} (votes : List Vote) (m : Modules E) → MayVote votes m → VotesCounted votes 0 m m
no_votes_counted votes m may = record { may = may; so = none_yet vote_step AreBegun votes m }

module _ {E : Type 0} (votes : List Vote) (place : ℕ) (t : Vote) (old new : Modules E) (lt : place < length votes) (is : t ≡ get_or votes place t) (h : VotesCounted votes place old new) where
  -- this vote may be counted, and then the others
  pub vote_due : MayVote (t ∷ drop (place + 1) votes) new
  vote_due = subst (λ l. MayVote l new) (next votes place t lt is) h.may

  pub vote_counted : (last : Modules E) → GoOn new last → ((q : State) → AreBegun (t ∷ drop (place + 1) votes) (kept_of new) q → Leads (AreBegun (drop (place + 1) votes)) (vote_step t q) (kept_of last) (Ok tt))
      → VotesCounted votes (place + 1) old last
  vote_counted last on leads = record {
    may = may_vote (drop (place + 1) votes) new last (vote_step t vote_due.state) (Ok tt) on vote_due.power (leads vote_due.state vote_due.begun);
    so = one_more vote_step AreBegun votes place t old new last lt is h.so on leads;
  }

pub all_votes_counted : {E : Type 0} (votes : List Vote) (place : ℕ) (old new : Modules E) → drop place votes ≡ [] → VotesCounted votes place old new → MayVote [] new
all_votes_counted votes place old new end h = subst (λ l. MayVote l new) end h.may

-- ---- evidence

-- behind all votes nothing else is to come
abbrev pub AreThrough : List Evidence → KeptState → State → Type 0
AreThrough evidence = AreBegun []

-- The evidence before this place was handled, and that which is left may be.
pub record EvidenceHandled {E : Type 0} (evidence : List Evidence) (place : ℕ) (old new : Modules E) : Type 0 where
  pub may : MayAccuse (drop place evidence) new
  pub so : EachSoFar evidence_step AreThrough evidence place old new

pub no_evidence_handled : {E : Type 0} (evidence : List Evidence) (m : Modules E) → MayAccuse evidence m → EvidenceHandled evidence 0 m m
no_evidence_handled evidence m may = record { may = may; so = none_yet evidence_step AreThrough evidence m }

module _ {E : Type 0} (evidence : List Evidence) (place : ℕ) (e : Evidence) (old new : Modules E) (lt : place < length evidence) (is : e ≡ get_or evidence place e) (h : EvidenceHandled evidence place old new) where
  -- this evidence may be handled, and then the rest
  pub evidence_due : MayAccuse (e ∷ drop (place + 1) evidence) new
  evidence_due = subst (λ l. MayAccuse l new) (next evidence place e lt is) h.may

  pub brought_here : MayBeBrought new.ground.ctx e
  brought_here = All-head (MayBeBrought new.ground.ctx) e (drop (place + 1) evidence) evidence_due.brought

  pub evidence_handled : (last : Modules E) → GoOn new last → ((q : State) → AreBegun [] (kept_of new) q → Leads (AreBegun []) (evidence_step e q) (kept_of last) (Ok tt)) → EvidenceHandled evidence (place + 1) old last
  evidence_handled last on leads = record {
    may = record {
      behind = may_vote [] new last (evidence_step e evidence_due.behind.state) (Ok tt) on evidence_due.behind.power (leads evidence_due.behind.state evidence_due.behind.begun);
      brought = subst (λ c. All (MayBeBrought c) (drop (place + 1) evidence)) (sym on.ctx) (All-tail (MayBeBrought new.ground.ctx) e (drop (place + 1) evidence) evidence_due.brought);
    };
    so = one_more evidence_step AreThrough evidence place e old new last lt is h.so on leads;
  }
