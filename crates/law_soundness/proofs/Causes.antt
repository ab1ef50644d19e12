-- Each limit that a block's beginning meets has its cause: the allocation, or the slash of a vote or of a piece of evidence.
use Rattle.std.proofs.Common.{◌≡◌, ◌∙◌, List, [], ◌∷◌, Result, Ok, Err, inl, inr, refl, ap, ◌-◌, ◌⊎◌}
use Rattle.base_decimals.specs.declared.over.Over.{Over}
use Rattle.base_roles.specs.{declared.messages.{Evidence.Evidence, Vote.Vote}, Flow.{◌>>=◌, each}}
use Rattle.rule_machine.specs.GenesisState.{without_facts}
use Rattle.law_soundness.specs.Causes.{LimitCause, LimitsHaveCauses, MeetsLimit, SlashLimit}
use Rattle.rule_modules.specs.Chain.{State, allocation_step, beside_window, evidence_step, vote_step, with_window}
use Rattle.rule_modules.specs.{Distribution.distribution_told, Evidence.{window_bans, equivocation_handled}}
use Rattle.rule_modules.specs.{Laws.next_block, Slashing.{core_slashes, plain_slash}, Window.voted}
use Rattle.rule_modules.proofs.{GoingLemmas.mapped_stops, SlashParts.{evidence_stops, vote_stops}}

-- an answer of steps one after the other is that of the first that stops
then_stops : {A B : Type 0} (r : Result A Over) (f : A → Result B Over) (over : Over) → (r >>= f) ≡ Err over → (r ≡ Err over) ⊎ ((a : A) × (r ≡ Ok a) × (f a ≡ Err over))
then_stops (Ok a) f over e = inr (a, refl, e)
then_stops (Err x) f over e = let same : x ≡ over = cc in inl (ap Err same)

each_stops : {A : Type 0} (f : A → State → Result State Over) (xs : List A) (w : State) (over : Over) → each f xs w ≡ Err over → MeetsLimit f xs w over
each_stops f [] w over e = absurd cc
each_stops {A} f (x ∷ xs) w over e = by (f x w) refl (λ u g. each_stops f xs u over g) e
  where
    by : (r : Result State Over) → f x w ≡ r → ((u : State) → each f xs u ≡ Err over → MeetsLimit f xs u over) → (r >>= λ u. each f xs u) ≡ Err over → MeetsLimit f (x ∷ xs) w over
    by (Ok u) g rest h =
        let k : MeetsLimit f xs u over = rest u h in
        record {
          before = x ∷ k.before;
          one = k.one;
          after = k.after;
          middle = k.middle;
          parts = ap (λ ys. x ∷ ys) k.parts;
          reached = ap (λ (r : Result State Over). r >>= λ t. each f k.before t) g ∙ k.reached;
          stops = k.stops;
        }
    by (Err y) g rest h =
        let same : y ≡ over = cc in
        record { before = []; one = x; after = xs; middle = w; parts = refl; reached = refl; stops = g ∙ ap Err same }

-- ---- votes and evidence

vote_limit : (t : Vote) (w : State) (over : Over) → vote_step t w ≡ Err over → SlashLimit t.cons (w.view.ctx.height - 2) t.power w.view.ctx.params.slash_fraction_downtime w over
vote_limit t w over e =
    vote_stops (core_slashes distribution_told plain_slash) t w.hooks.1 (beside_window w) over
    (mapped_stops (voted (core_slashes distribution_told plain_slash) t w.hooks.1 (beside_window w)) (λ x. with_window x.1 x.2) over e)

evidence_limit : (e : Evidence) (w : State) (over : Over) → evidence_step e w ≡ Err over → SlashLimit e.cons (e.height - 1) e.power w.view.ctx.params.slash_fraction_double_sign w over
evidence_limit e w over f =
    evidence_stops (core_slashes distribution_told plain_slash) e w.hooks.1 (beside_window w) over
    (mapped_stops (equivocation_handled (core_slashes distribution_told plain_slash) window_bans e w.hooks.1 (beside_window w)) (λ x. with_window x.1 x.2) over f)

-- ---- the beginning of a block

pub limits_have_causes : LimitsHaveCauses
limits_have_causes b w over e = from_fees (then_stops (allocation_step b.votes w1) (λ x. each vote_step b.votes x >>= λ y. each evidence_step b.evidence y) over e)
  where
    w1 : State
    w1 = without_facts (next_block b.height b.time w)

    from_votes : (x : State) → allocation_step b.votes w1 ≡ Ok x → (each vote_step b.votes x ≡ Err over) ⊎ ((y : State) × (each vote_step b.votes x ≡ Ok y) × (each evidence_step b.evidence y ≡ Err over)) → LimitCause b w over
    from_votes x f (inl g) =
        let k = each_stops vote_step b.votes x over g in
        inr (inl (record { paid = x; allocated = f; stop = k; slash = vote_limit k.one k.middle over k.stops }))
    from_votes x f (inr g) =
        let k = each_stops evidence_step b.evidence g.0 over g.2 in
        inr (inr (record { paid = x; counted = g.0; allocated = f; votes = g.1; stop = k; slash = evidence_limit k.one k.middle over k.stops }))

    from_fees : (allocation_step b.votes w1 ≡ Err over) ⊎ ((x : State) × (allocation_step b.votes w1 ≡ Ok x) × ((each vote_step b.votes x >>= λ y. each evidence_step b.evidence y) ≡ Err over)) → LimitCause b w over
    from_fees (inl f) = inl f
    from_fees (inr f) = from_votes f.0 f.1 (then_stops (each vote_step b.votes f.0) (λ y. each evidence_step b.evidence y) over f.2)
