-- Votes and evidence keep a state sound.
use Rattle.std.proofs.Common.{◌≡◌, ◌∙◌, ℕ, ◌<◌, Bool, true, false, cond, List, [], ◌∷◌, ◌++◌, length, Some, None, Option, refl, sym, ap, subst, arith, ◌-◌, not, IfOk, IsSome, Contains}
use Rattle.std.{specs.BTreeMap.is_at, proofs.lemmas.List.Elements.{All-from_recursion, recursion_from_All}}
use Rattle.base_types.specs.Orders.{cons_cmp}
use Rattle.base_roles.specs.declared.{entities.Validator.Validator, messages.{Evidence.Evidence, Vote.Vote}}
use Rattle.base_roles.specs.{Lent.jail_told, World.{World, noted, over_view}, Entries.with}
use Rattle.base_roles.specs.{Staked.{validator_by_cons, validator_at}, declared.facts.Fact.Fact}
use Rattle.base_roles.specs.declared.facts.Fact.TheVariants as fact
use Rattle.rule_modules.specs.Evidence.{window_bans, banned, banned_of, forever, jailed_if_not, equivocation_handled}
use Rattle.rule_modules.specs.Slashing.{plain_slash, core_slashes}
use Rattle.rule_modules.specs.{Window.{Signing, Window, signing_of, reset_at, voted}, Amounts.over_facts}
use Rattle.rule_modules.specs.Chain.{Stakes, State, beside_window, evidence_step, staked_in, vote_step, with_window}
use Rattle.rule_modules.specs.{Distribution.{Shared, distribution_told}, Sound.{SigningIsSound, WindowIsSound}}
use Rattle.rule_modules.proofs.{EntryLemmas.{ascend-put, at-put}, OrderLemmas.cons_total, SoundLemmas.exact_addr}
use Rattle.rule_modules.proofs.SlashParts.{GoesThroughPunishing, evidence_leaves, punished_goes, after_jailing, slash_jail_goes, vote_leaves}
use Rattle.law_soundness.proofs.{Burns.{total_in, SayNoMore, quiet_behind}, Allocating.found_by_cons}
use Rattle.law_soundness.proofs.{Lists.{all_put, looked_up, weaker}, Points.{IsRecorded, StateFits, from_fits, to_fits}}
use Rattle.law_soundness.proofs.{Standing.{stake_told, state_standing}, Steps.{on_then, weaker_if}, Entries.PairsFit}
use Rattle.law_soundness.proofs.Punishing.{StaysSound, slashes_stay_sound}
use Rattle.law_soundness.specs.StepLaws.{EvidenceKeepsSoundness, IsSoundAfter, VotesKeepSoundness}

-- a record is put at a consensus address
record_put : (height : ℕ) (cons : List ℕ) (s : Signing) (i : Window) → WindowIsSound height i → SigningIsSound height s → WindowIsSound height (with cons_cmp i cons s)
record_put height cons s i h k = record {
  ascend = ascend-put cons_cmp cons_total i cons s h.ascend;
  records = All-from_recursion (λ e. SigningIsSound height e.1) (with cons_cmp i cons s) (all_put (λ (e : List ℕ × Signing). SigningIsSound height e.1) cons_cmp exact_addr cons s i k (recursion_from_All (λ e. SigningIsSound height e.1) i h.records));
}

recorded_put : (cons q : List ℕ) (s : Signing) (i : Window) → IsSome (signing_of i q) → IsSome (signing_of (with cons_cmp i cons s) q)
recorded_put cons q s i h = subst IsSome (sym (at-put cons_cmp cons_total i cons q s)) (by (is_at (cons_cmp q) cons) (signing_of i q) h)
  where
    by : (b : Bool) (r : Option Signing) → IsSome r → IsSome (cond b (Some s) r)
    by true r k = refl
    by false r k = k

pub own_record : (height : ℕ) (cons : List ℕ) (s : Signing) (i : Window) → WindowIsSound height i → signing_of i cons ≡ Some s → SigningIsSound height s
own_record height cons s i h e = looked_up (λ (x : List ℕ × Signing). SigningIsSound height x.1) (is_at (cons_cmp cons)) (SigningIsSound height) (λ k y t g. g) i s e (recursion_from_All (λ e. SigningIsSound height e.1) i h.records)

module _ (P : List ℕ → Type 0) (T : List ℕ → ℕ) where
  -- ---- the state with another signing record

  window_put : (w : State) (cons : List ℕ) (s : Signing) → StateFits P T w → SigningIsSound w.view.ctx.height s → StateFits P T (record { mine = w.mine; hooks = (w.hooks.0, with cons_cmp w.hooks.1 cons s); view = w.view; log = w.log })
  window_put w cons s h k = record {
    stake = record {
      ground = h.stake.ground;
      staked = h.stake.staked;
      bonded = h.stake.bonded;
      not_bonded = h.stake.not_bonded;
      owed = h.stake.owed;
      shared = h.stake.shared;
      window = record_put w.view.ctx.height cons s w.hooks.1 h.stake.window k;
      recorded = weaker (IsRecorded w.hooks.1) (IsRecorded (with cons_cmp w.hooks.1 cons s)) (λ e j t. recorded_put cons e.1.cons s w.hooks.1 (j t)) w.mine.staked.validators h.stake.recorded;
    };
    unbondings = h.unbondings;
    redelegations = h.redelegations;
  }

  -- ---- jailing

  state_told : (w : State) (f : List Fact → List Fact) → SayNoMore w.view.facts (f w.view.facts) → StateFits P T w → StateFits P T (over_view (over_facts f) w)
  state_told w f q h = record { stake = stake_told P T 0 _ _ (staked_in w) f q h.stake; unbondings = h.unbondings; redelegations = h.redelegations }

  jailed_fits : (i : Window) (cons : List ℕ) (v : Validator) (w : World Stakes Shared) → validator_by_cons w.mine.staked cons ≡ Some v → StateFits P T (with_window i w) → StateFits P T (with_window i (after_jailing v w))
  jailed_fits i cons v w e h =
      let found : validator_at w.mine.staked v.operator ≡ Some v = found_by_cons w.view.ctx.height w.mine.staked cons v h.stake.staked e in
      let k = h.stake.staked.validators v.operator v found in
      (state_standing P T (with_window i w) (record v { jailed = true }) v (λ facts. jail_told (Some v) facts) (quiet_behind w.view.facts (fact.Jailed v.operator) (λ d. refl)) h found (record {
        operator = refl;
        cons = refl;
        status = refl;
        tokens = refl;
        shares = refl;
        sound = record { max_rate = k.max_rate; rate = k.rate; max_change = k.max_change; tokens = k.tokens; empty = k.empty; unbonding_height = k.unbonding_height };
      })).fits

  -- what was sound stays so, where a slash is followed by jailing and by a ban
  punishing_stays_sound : (i : Window) → GoesThroughPunishing (StaysSound P T i)
  punishing_stays_sound i = record {
    slashes = slashes_stay_sound P T i;
    jails = λ cons v w e h. record { fits = jailed_fits i cons v w e h; ctx = refl; pairs = λ m g. g };
    bans = λ v w h. record { fits = state_told (with_window i w) (λ facts. facts ++ fact.Tombstoned v.operator ∷ []) (quiet_behind w.view.facts (fact.Tombstoned v.operator) (λ d. refl)) h; ctx = refl; pairs = λ m g. g };
  }

  -- ---- votes

  -- a vote counts once more, and leaves every other record
  pub record VoteLeft (cons : List ℕ) (w x : State) : Type 0 where
    pub fits : StateFits P T x
    pub ctx : x.view.ctx ≡ w.view.ctx
    pub others : (q : List ℕ) → is_at (cons_cmp q) cons ≡ false → signing_of x.hooks.1 q ≡ signing_of w.hooks.1 q
    pub pairs : (m : ℕ) → PairsFit m w.mine.unbondings → PairsFit m x.mine.unbondings

  others_put : (cons q : List ℕ) (s : Signing) (i : Window) → is_at (cons_cmp q) cons ≡ false → signing_of (with cons_cmp i cons s) q ≡ signing_of i q
  others_put cons q s i e = at-put cons_cmp cons_total i cons q s ∙ ap (λ b. cond b (Some s) (signing_of i q)) e

  pub vote_fits : (t : Vote) (w : State) → StateFits P T w → ((s : Signing) → signing_of w.hooks.1 t.cons ≡ Some s → length s.votes < w.view.ctx.height) → IfOk (vote_step t w) (VoteLeft t.cons w)
  vote_fits t w h fewer =
      on_then (voted (core_slashes distribution_told plain_slash) t w.hooks.1 (beside_window w)) _ (λ x. VoteLeft t.cons w (with_window x.1 x.2)) _
      (vote_leaves (core_slashes distribution_told plain_slash) t w.hooks.1 (beside_window w) (λ j y. VoteLeft t.cons w (with_window j y))
      (record { fits = h; ctx = refl; others = λ q e. refl; pairs = λ m k. k })
      (λ s e. (
      let now : Signing = record s { votes = not t.signed ∷ s.votes } in
      record { fits = window_put w t.cons now h (counted s e); ctx = refl; others = λ q f. others_put t.cons q now w.hooks.1 f; pairs = λ m k. k }))
      (λ s z e k. (
      let reset : Signing = reset_at w.view.ctx (record s { votes = not t.signed ∷ s.votes }) in
      let i : Window = with cons_cmp w.hooks.1 t.cons reset in
      let left = slash_jail_goes (StaysSound P T i) (punishing_stays_sound i) t.cons (w.view.ctx.height - 2) t.power w.view.ctx.params.slash_fraction_downtime (beside_window w) z k (window_put w t.cons reset h (anew s e)) in
      record { fits = left.fits; ctx = left.ctx; others = λ q f. others_put t.cons q reset w.hooks.1 f; pairs = left.pairs }))) (λ x k. k)
    where
      own : (s : Signing) → signing_of w.hooks.1 t.cons ≡ Some s → SigningIsSound w.view.ctx.height s
      own s e = own_record w.view.ctx.height t.cons s w.hooks.1 h.stake.window e

      counted : (s : Signing) → signing_of w.hooks.1 t.cons ≡ Some s → SigningIsSound w.view.ctx.height (record s { votes = not t.signed ∷ s.votes })
      counted s e = let below : length s.votes < w.view.ctx.height = fewer s e in record { counted = omega (arith, below); start = (own s e).start }

      anew : (s : Signing) → signing_of w.hooks.1 t.cons ≡ Some s → SigningIsSound w.view.ctx.height (reset_at w.view.ctx (record s { votes = not t.signed ∷ s.votes }))
      anew s e = record { counted = omega arith; start = (own s e).start }

  -- ---- evidence

  -- counts of votes stay
  pub record EvidenceLeft (w x : State) : Type 0 where
    pub fits : StateFits P T x
    pub ctx : x.view.ctx ≡ w.view.ctx
    pub pairs : (m : ℕ) → PairsFit m w.mine.unbondings → PairsFit m x.mine.unbondings

  banned_sound : (cons : List ℕ) (w : State) → StateFits P T w → StateFits P T (record { mine = w.mine; hooks = (w.hooks.0, banned cons forever w.hooks.1); view = w.view; log = w.log })
  banned_sound cons w h = by (signing_of w.hooks.1 cons) refl
    where
      by : (r : Option Signing) → signing_of w.hooks.1 cons ≡ r → StateFits P T (record { mine = w.mine; hooks = (w.hooks.0, banned_of r cons forever w.hooks.1); view = w.view; log = w.log })
      by None e = h
      by (Some s) e =
          let own = own_record w.view.ctx.height cons s w.hooks.1 h.stake.window e in
          window_put w cons (record s { jailed_until = forever; tombstoned = true }) h (record { counted = own.counted; start = own.start })

  pub evidence_fits : (e : Evidence) (w : State) → StateFits P T w → IfOk (evidence_step e w) (EvidenceLeft w)
  evidence_fits e w h =
      on_then (equivocation_handled (core_slashes distribution_told plain_slash) window_bans e w.hooks.1 (beside_window w)) _ (λ x. EvidenceLeft w (with_window x.1 x.2)) _
      (evidence_leaves (core_slashes distribution_told plain_slash) e w.hooks.1 (beside_window w) (λ j y. EvidenceLeft w (with_window j y))
      (record { fits = h; ctx = refl; pairs = λ m k. k })
      (λ v z k. (
      let left = punished_goes (StaysSound P T w.hooks.1) (punishing_stays_sound w.hooks.1) e v (beside_window w) z k h in
      record { fits = banned_sound e.cons (with_window w.hooks.1 (tombstoned_then v e z)) left.fits; ctx = left.ctx; pairs = left.pairs }))) (λ x k. k)
    where
      tombstoned_then : Validator → Evidence → ℕ × World Stakes Shared → World Stakes Shared
      tombstoned_then v e z = over_view (noted (fact.Tombstoned v.operator)) (jailed_if_not (core_slashes distribution_told plain_slash) window_bans (validator_by_cons z.1.mine.staked e.cons) e.cons z.1)

pub votes_keep_soundness : VotesKeepSoundness
votes_keep_soundness t w s power fewer =
    let P : List ℕ → Type 0 = Contains s.few.some in
    let T : List ℕ → ℕ = total_in w.view in
    weaker_if (vote_step t w) (VoteLeft P T t.cons w) (IsSoundAfter w) (vote_fits P T t w (to_fits w s) fewer) (λ x k. from_fits x s.few.some T s.few.few k.fits)

pub evidence_keeps_soundness : EvidenceKeepsSoundness
evidence_keeps_soundness e w s power least below before =
    let P : List ℕ → Type 0 = Contains s.few.some in
    let T : List ℕ → ℕ = total_in w.view in
    weaker_if (evidence_step e w) (EvidenceLeft P T w) (IsSoundAfter w) (evidence_fits P T e w (to_fits w s)) (λ x k. from_fits x s.few.some T s.few.few k.fits)
