-- A piece of evidence, over the signing records that are kept and over the plain ones for which they stand.
use Rattle.std.proofs.Common.{◌≡◌, ◌∙◌, ℕ, ◌-◌, Bool, true, false, List, [], Option, Some, None, Result, Ok, Err, refl, sym, ap, subst, ◌||◌, if◌then◌else◌, option_map, IfOk}
use Rattle.std.specs.Prelude.{⊤}
use Rattle.base_decimals.specs.declared.over.Over.{Over}
use Rattle.base_roles.specs.declared.{entities.Validator.Validator, faults.HookFault.HookFault}
use Rattle.base_roles.specs.declared.{messages.Evidence.Evidence, params.Ctx.Ctx}
use Rattle.base_roles.specs.{Answers.{AsRuled, WantsMemory, ExceedsAs}, Staked.{is_unbonded, validator_by_cons}}
use Rattle.base_roles.specs.{Flow.{◌>>=◌}, World.{View, World, noted, over_view}}
use Rattle.base_roles.specs.declared.facts.Fact.TheVariants as fact
use Rattle.rule_modules.specs.Chain.{State, Stakes, beside_window, evidence_step, shared_in, window_in, with_window}
use Rattle.rule_modules.specs.Distribution.{Shared, distribution_told}
use Rattle.rule_modules.specs.Evidence.{Bans, banned, equivocation_handled, evidence_weighed, forever, is_too_old, jailed_if_not, window_bans}
use Rattle.rule_modules.specs.{Slashing.{Slashes, core_slashes, plain_slash}, Window.{Signing, Window, signing_of}}
use Rattle.mod_evidence.specs.Calls.{Handles, lent_bans}
use Rattle.mod_signing.specs.{Kept.{Kept, Signed, signed_of}, Stands.{KeepsSignings, bans_kept, infos_of}}
use Rattle.mod_signing.proofs.{InfoLemmas.info_at, StandLemmas.{Both, banning_carries, looked_up}}
use Rattle.mod_distribution.specs.Stands.{KeepsShared}
use Rattle.chain_modules.specs.{declared.modules.Modules.Modules, Kept.{ground_of, kept_of, stakes_kept}}
use Rattle.chain_blocks.specs.{Answers.Leads, Begun.AreBegun}
use Rattle.chain_blocks.proofs.BeginLemmas.{IsBegunNext, evidence_next, goes_on}

-- the records as they are lent
abbrev pub kept_bans : Bans Kept
kept_bans = lent_bans infos_of bans_kept

-- whether an address is tombstoned is the same of both
same_tombstoned : (window : ℕ) (kept : Kept) (i : Window) (cons : List ℕ) → KeepsSignings window kept i → kept_bans.tombstoned kept cons ≡ window_bans.tombstoned i cons
same_tombstoned window kept i cons k = ap (λ o. option_map (λ x. x.tombstoned) o) (info_at kept cons) ∙ by (signed_of kept cons) (signing_of i cons) (looked_up window kept i cons k)
  where
    by : (x : Option Signed) (y : Option Signing) → Both window x y → option_map (λ z. z.tombstoned) (option_map (λ z. z.info) x) ≡ option_map (λ z. z.tombstoned) y
    by None None h = refl
    by None (Some s) h = absurd h
    by (Some r) None h = absurd h
    by (Some r) (Some s) h = ap (λ z. Some z.tombstoned) h.info

-- What a piece of evidence leaves of records that are kept stands for what it leaves of the plain ones.
module _ {S H : Type 0} (lent : Slashes S H) (window : ℕ) (kept : Kept) (i : Window) (k : KeepsSignings window kept i) (n : Kept) (s : S) (holds : H → Type 0) (v : View) where
  -- the same of plain records
  abbrev pub HandlesPlain : Result (Bool × Window × World S H) Over → Result Bool HookFault → Type 0
  HandlesPlain rule answer = AsRuled rule answer (λ due done. KeepsSignings window n due.1 × (s ≡ due.2.mine) × holds due.2.hooks × (v ≡ due.2.view)) WantsMemory ExceedsAs

  -- evidence that is ignored
  ignored : (w : World S H) (a : Result Bool HookFault) → Handles (Ok (false, kept, w)) n s holds v a → HandlesPlain (Ok (false, i, w)) a
  ignored w (Ok done) h = (subst (λ x. KeepsSignings window x i) (sym h.1) k, h.2, h.3, h.4)
  ignored w (Err fault) h = h

  -- jailing does not look at the records
  same_jailed : (o : Option Validator) (cons : List ℕ) (w : World S H) → jailed_if_not lent kept_bans o cons w ≡ jailed_if_not lent window_bans o cons w
  same_jailed None cons w = refl
  same_jailed (Some x) cons w = refl

  weighed : (o : Option Validator) (t : Option Bool) (e : Evidence) (w : World S H) (a : Result Bool HookFault) → Handles (evidence_weighed lent kept_bans o t e kept w) n s holds v a → HandlesPlain (evidence_weighed lent window_bans o t e i w) a
  weighed None t e w a h = ignored w a h
  weighed (Some val) None e w a h = ignored w a h
  weighed (Some val) (Some t) e w a h = by (is_unbonded val.status || t || is_too_old w.view.ctx e) h
    where
      left : {N : Type 0} → Bans N → World S H → World S H
      left bans w1 = over_view (noted (fact.Tombstoned val.operator)) (jailed_if_not lent bans (validator_by_cons (lent.stake w1.mine) e.cons) e.cons w1)

      same_left : (w1 : World S H) → left kept_bans w1 ≡ left window_bans w1
      same_left w1 = ap (λ x. over_view (noted (fact.Tombstoned val.operator)) x) (same_jailed (validator_by_cons (lent.stake w1.mine) e.cons) e.cons w1)

      punished : (r : Result (ℕ × World S H) Over) (a : Result Bool HookFault) → Handles (r >>= λ x. Ok (true, bans_kept e.cons forever kept, left kept_bans x.1)) n s holds v a
          → HandlesPlain (r >>= λ x. Ok (true, banned e.cons forever i, left window_bans x.1)) a
      punished (Ok x) (Ok done) h = (subst (λ y. KeepsSignings window y (banned e.cons forever i)) (sym h.1) (banning_carries window kept i e.cons forever k), h.2 ∙ ap (λ y. y.mine) (same_left x.1), subst (λ y. holds y.hooks) (same_left x.1) h.3, h.4 ∙ ap (λ y. y.view) (same_left x.1))
      punished (Ok x) (Err fault) h = h
      punished (Err over) (Ok done) h = h
      punished (Err over) (Err fault) h = h

      by : (b : Bool) → Handles (if b then Ok (false, kept, w) else (lent.slash e.cons (e.height - 1) e.power w.view.ctx.params.slash_fraction_double_sign w >>= λ x. Ok (true, bans_kept e.cons forever kept, left kept_bans x.1))) n s holds v a
          → HandlesPlain (if b then Ok (false, i, w) else (lent.slash e.cons (e.height - 1) e.power w.view.ctx.params.slash_fraction_double_sign w >>= λ x. Ok (true, banned e.cons forever i, left window_bans x.1))) a
      by true h = ignored w a h
      by false h = punished (lent.slash e.cons (e.height - 1) e.power w.view.ctx.params.slash_fraction_double_sign w) a h

  pub handled_plain : (e : Evidence) (w : World S H) (a : Result Bool HookFault) → Handles (equivocation_handled lent kept_bans e kept w) n s holds v a → HandlesPlain (equivocation_handled lent window_bans e i w) a
  handled_plain e w a h =
      subst (λ t. HandlesPlain (evidence_weighed lent window_bans (validator_by_cons (lent.stake w.mine) e.cons) t e i w) a) (same_tombstoned window kept i e.cons k)
      (weighed (validator_by_cons (lent.stake w.mine) e.cons) (kept_bans.tombstoned kept e.cons) e w a h)

-- ---- over modules

-- an answer without its value
abbrev pub done_with : Result Bool HookFault → Result ⊤ HookFault
done_with (Ok done) = Ok tt
done_with (Err fault) = Err fault

module _ {E : Type 0} (old new : Modules E) (p : State) (b : AreBegun [] (kept_of old) p) (ctx : new.ground.ctx ≡ old.ground.ctx) where
  pub evidence_leads : (e : Evidence) (answer : Result Bool HookFault)
      → Handles (equivocation_handled (core_slashes distribution_told plain_slash) kept_bans e old.hooks.second.kept (record { mine = stakes_kept old.stakes; hooks = shared_in p; view = ground_of old; log = p.log }))
      new.hooks.second.kept (stakes_kept new.stakes) (KeepsShared new.hooks.first.first.kept) (ground_of new) answer
      → Leads (AreBegun []) (evidence_step e p) (kept_of new) (done_with answer)
  evidence_leads e answer h =
      by (equivocation_handled (core_slashes distribution_told plain_slash) window_bans e (window_in p) (beside_window p)) answer
      (handled_plain (core_slashes distribution_told plain_slash) old.ground.ctx.params.signed_blocks_window old.hooks.second.kept (window_in p) b.keeps.signings
      new.hooks.second.kept (stakes_kept new.stakes) (KeepsShared new.hooks.first.first.kept) (ground_of new) e (beside_window p) answer
      (subst (λ r. Handles r new.hooks.second.kept (stakes_kept new.stakes) (KeepsShared new.hooks.first.first.kept) (ground_of new) answer)
      (λ j. equivocation_handled (core_slashes distribution_told plain_slash) kept_bans e old.hooks.second.kept (record { mine = sym b.keeps.stakes j; hooks = shared_in p; view = sym b.keeps.view j; log = p.log })) h))
      (evidence_next old new p ctx e b.sound)
    where
      by : (r : Result (Bool × Window × World Stakes Shared) Over) (a : Result Bool HookFault)
          → AsRuled r a (λ due done. KeepsSignings old.ground.ctx.params.signed_blocks_window new.hooks.second.kept due.1 × (stakes_kept new.stakes ≡ due.2.mine) × KeepsShared new.hooks.first.first.kept due.2.hooks × (ground_of new ≡ due.2.view)) WantsMemory ExceedsAs
          → IfOk (r >>= λ x. Ok (with_window x.1 x.2)) (IsBegunNext [] p) → Leads (AreBegun []) (r >>= λ x. Ok (with_window x.1 x.2)) (kept_of new) (done_with a)
      by (Ok x) (Ok done) h n =
          goes_on [] (kept_of new) p (with_window x.1 x.2) n
          (record {
            stakes = sym h.1;
            shared = h.2;
            signings = subst (λ m. KeepsSignings m new.hooks.second.kept x.1) (ap (λ (c : Ctx). c.params.signed_blocks_window) (sym ctx)) h.0;
            view = sym h.3;
          }) b.some b.older tt b.powers
      by (Ok x) (Err fault) h n = h
      by (Err over) (Ok done) h n = h
      by (Err over) (Err fault) h n = h
