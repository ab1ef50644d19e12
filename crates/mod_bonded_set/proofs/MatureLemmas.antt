-- An unbonding validator whose time has come is unbonded, and goes where it has no shares; and how far all of them have, from
-- each plain value that the hooks held before.
use Rattle.std.proofs.Common.{◌≡◌, ◌∙◌, ℕ, ◌+◌, ◌==◌, Bool, true, false, cond, List, [], ◌∷◌, ◌++◌, Some, None, refl, sym, ap, subst, arith, ◌&&◌, nat_le, if◌then◌else◌, filter, Result, Ok, Err}
use Rattle.std.specs.{Prelude.⊤, List.{AllByRecursion, Sorted.IsStrictlySortedBy}, Map.{keys_of, values_of}}
use Rattle.std.proofs.lemmas.Bool.Decides.{nat_tests}
use Rattle.base_decimals.specs.declared.over.Over.{Over}
use Rattle.base_types.specs.{declared.status.BondStatus.TheVariants.Unbonded, Orders.addr_cmp}
use Rattle.base_roles.specs.declared.{entities.Validator.Validator, faults.HookFault.HookFault}
use Rattle.base_roles.specs.{Hooks.{after, Tells, Stand, Ready, Lawful, Keeps}, Log.Log, Orders.same_addr}
use Rattle.base_roles.specs.{Staked.{Staked, validator_at, put_validator, lists_of}, Flow.{◌>>=◌, each}}
use Rattle.base_roles.specs.World.{View, World, Told, gives, exceeds, noted, hooked, over_view}
use Rattle.base_roles.specs.declared.calls.Hook.{Hook, TheVariants.{Removed as removed}}
use Rattle.base_roles.proofs.HookLemmas.{stand-noted}
use Rattle.base_roles.specs.declared.facts.Fact.TheVariants as fact
use Rattle.rule_modules.specs.{Amounts.count_where, Answers.Leaves, BondedSet.{HaveOwnOperators, matured}}
use Rattle.rule_modules.specs.{Stakes.{is_unbonding, without_validator}, Unbonding.validator_removed}
use Rattle.rule_modules.proofs.{OrderLemmas.same_back, SoundLemmas.{to_points, found_itself}}
use Rattle.mod_staking.{specs.Calls.{IsSoundStake, over, behind_log}, proofs.GroundLemmas.{keeps-noted, keeps_then}}
use Rattle.mod_staking.proofs.{ListLemmas.{lists-put, lists-left}, RemoveLemmas.ready-removed}
use Rattle.mod_staking.proofs.SoundLemmas.{sound-set, found-taken}
use Rattle.mod_bonded_set.{specs.Sets.{AllStand, goes_at, is_due}, proofs.DueLemmas.operators_of}
use Rattle.mod_bonded_set.proofs.{JoinLemmas.nothing_kept, JoinedLemmas.each-stopped, TokenLemmas.still_stand}

abbrev pub unbonded : Validator → Validator
unbonded v = record v { status = Unbonded }

-- the ground once it is told that one is unbonded
abbrev pub unbonded_told : Validator → View → View
unbonded_told v u = noted (fact.Changed v.operator Unbonded) u

-- ---- one of them, as the rule has it

module _ {H : Type 0} (told : H → Hook → View → Told H) (v : Validator) (log : Log) (h : H) where
  -- the log is only an output
  removed-log : (w : Validator) (s : Staked) (u : View) (s2 : Staked) (holds : H → Type 0) (u2 : View) (a : Result ⊤ HookFault) → Leaves (validator_removed told w (over s h u)) s2 holds u2 a → Leaves (validator_removed told w (behind_log log s h u)) s2 holds u2 a
  removed-log w s u s2 holds u2 a b = by (told h (removed w) u) a b
    where
      behind : Log → Told H → Result (World Staked H) Over
      behind k r = hooked r (record { mine = without_validator w.operator s; hooks = h; view = u; log = k }) >>= λ w1. Ok (over_view (noted (fact.Removed w.operator)) w1)

      by : (r : Told H) (x : Result ⊤ HookFault) → Leaves (hooked r (record { mine = without_validator w.operator s; hooks = h; view = u; log = [] }) >>= λ w1. Ok (over_view (noted (fact.Removed w.operator)) w1)) s2 holds u2 x
          → Leaves (hooked r (record { mine = without_validator w.operator s; hooks = h; view = u; log = log }) >>= λ w1. Ok (over_view (noted (fact.Removed w.operator)) w1)) s2 holds u2 x
      by (gives h2 u3 l) (Ok x) c = c
      by (gives h2 u3 l) (Err f) c = c
      by (exceeds over) (Ok x) c = c
      by (exceeds over) (Err f) c = c

  module _ (s : Staked) (u : View) (d : is_due u.ctx.time v ≡ true) where
    -- the world once it is unbonded
    abbrev changed_world : World Staked H
    changed_world = behind_log log (put_validator (unbonded v) s) h (unbonded_told v u)

    -- what the rule gives, by whether it has shares
    pub matured-is : (b : Bool) → (v.shares == 0) ≡ b → matured told v (behind_log log s h u) ≡ (if b then validator_removed told (unbonded v) changed_world else Ok changed_world)
    matured-is b e =
        ap (λ x. if x then (if (v.shares == 0) then validator_removed told (unbonded v) changed_world else Ok changed_world) else Ok (behind_log log s h u)) d
        ∙ ap (λ x. if x then validator_removed told (unbonded v) changed_world else Ok changed_world) e

    pub leaves-kept : (s2 : Staked) (holds : H → Type 0) (u2 : View) → (v.shares == 0) ≡ false → s2 ≡ put_validator (unbonded v) s → u2 ≡ unbonded_told v u → holds h → Leaves (matured told v (behind_log log s h u)) s2 holds u2 (Ok tt)
    leaves-kept s2 holds u2 e p q o = subst (λ r. Leaves r s2 holds u2 (Ok tt)) (sym (matured-is false e)) (p, o, q)

    pub leaves-removed : (s2 s3 : Staked) (holds : H → Type 0) (u2 u3 : View) (a : Result ⊤ HookFault) → (v.shares == 0) ≡ true → s2 ≡ put_validator (unbonded v) s → u2 ≡ unbonded_told v u
        → Leaves (validator_removed told (unbonded v) (over s2 h u2)) s3 holds u3 a → Leaves (matured told v (behind_log log s h u)) s3 holds u3 a
    leaves-removed s2 s3 holds u2 u3 a e p q b =
        subst (λ r. Leaves r s3 holds u3 a) (sym (matured-is true e))
        (removed-log (unbonded v) (put_validator (unbonded v) s) (unbonded_told v u) s3 holds u3 a (subst (λ r. Leaves r s3 holds u3 a) (λ i. validator_removed told (unbonded v) (over (p i) h (q i))) b))

-- ---- the others

still_without : (p : List ℕ) (s : Staked) (vs : List Validator) → IsStrictlySortedBy addr_cmp (keys_of s.validators) → AllByRecursion (λ u. same_addr p u.operator ≡ false) vs → AllStand s vs → AllStand (without_validator p s) vs
still_without p s [] c a h = tt
still_without p s (v ∷ vs) c a h = (found-taken s p v.operator c ∙ ap (λ b. cond b None (validator_at s v.operator)) (same_back v.operator p ∙ a.0) ∙ h.0, still_without p s vs c a.1 h.1)

-- ---- the next of them

-- The next that is due, with those behind it: those before it are passed over.
pub record NextDue {H : Type 0} (told : H → Hook → View → Told H) (now : ℕ) (rest : List Validator) (o : List ℕ) (more : List (List ℕ)) : Type 0 where
  pub v : Validator
  pub later : List Validator
  pub own : v.operator ≡ o
  pub due : is_due now v ≡ true
  pub left : operators_of (filter (is_due now) later) ≡ more
  pub stands : (s : Staked) → AllStand s rest → (validator_at s v.operator ≡ Some v) × AllStand s later
  pub apart : HaveOwnOperators rest → AllByRecursion (λ u. same_addr v.operator u.operator ≡ false) later × HaveOwnOperators later
  pub stays : count_where (goes_at now) rest ≡ 0 → ((v.shares == 0) ≡ false) × (count_where (goes_at now) later ≡ 0)
  pub rule : (w : World Staked H) → w.view.ctx.time ≡ now → each (matured told) rest w ≡ (matured told v w >>= λ w1. each (matured told) later w1)

module _ {H : Type 0} (told : H → Hook → View → Told H) (now : ℕ) where
  heads : (a b : List ℕ) (k l : List (List ℕ)) → a ∷ k ≡ b ∷ l → (a ≡ b) × (k ≡ l)
  heads a b k l e = let one : a ≡ b = cc in let rest : k ≡ l = cc in (one, rest)

  -- where none of these goes, the first has shares, where it is due
  first_stays : (v : Validator) (vs : List Validator) → is_due now v ≡ true → count_where (goes_at now) (v ∷ vs) ≡ 0 → ((v.shares == 0) ≡ false) × (count_where (goes_at now) vs ≡ 0)
  first_stays v vs d = by (is_due now v) (v.shares == 0) d
    where
      by : (due none : Bool) → due ≡ true → cond (due && none) 1 0 + count_where (goes_at now) vs ≡ 0 → (none ≡ false) × (count_where (goes_at now) vs ≡ 0)
      by true true d e = absurd (omega (arith, e))
      by true false d e = let rest : count_where (goes_at now) vs ≡ 0 = omega (arith, e) in (refl, rest)
      by false none d e = absurd cc

  others_stay : (v : Validator) (vs : List Validator) → count_where (goes_at now) (v ∷ vs) ≡ 0 → count_where (goes_at now) vs ≡ 0
  others_stay v vs e = let all : cond (goes_at now v) 1 0 + count_where (goes_at now) vs ≡ 0 = e in omega (arith, all)

  passed_over : (v : Validator) (w : World Staked H) → w.view.ctx.time ≡ now → is_due now v ≡ false → matured told v w ≡ Ok w
  passed_over v w q d = ap (λ b. if b then matured_if v w else Ok w) (ap (λ t. is_unbonding v.status && nat_le v.unbonding_time t) q ∙ d)
    where
      matured_if : Validator → World Staked H → Result (World Staked H) Over
      matured_if v w = if (v.shares == 0) then validator_removed told (unbonded v) (record { mine = put_validator (unbonded v) w.mine; hooks = w.hooks; view = unbonded_told v w.view; log = w.log })
          else Ok (record { mine = put_validator (unbonded v) w.mine; hooks = w.hooks; view = unbonded_told v w.view; log = w.log })

  pub next-due : (rest : List Validator) (o : List ℕ) (more : List (List ℕ)) → operators_of (filter (is_due now) rest) ≡ o ∷ more → NextDue told now rest o more
  next-due [] o more e = absurd cc
  next-due (v ∷ vs) o more e = by (is_due now v) refl e (λ f. next-due vs o more f)
    where
      by : (b : Bool) → is_due now v ≡ b → operators_of (cond b (v ∷ filter (is_due now) vs) (filter (is_due now) vs)) ≡ o ∷ more → (operators_of (filter (is_due now) vs) ≡ o ∷ more → NextDue told now vs o more) → NextDue told now (v ∷ vs) o more
      by true d f next =
          let both = heads v.operator o (operators_of (filter (is_due now) vs)) more f in
          record { v = v; later = vs; own = both.0; due = d; left = both.1; stands = λ s h. h; apart = λ a. a; stays = first_stays v vs d; rule = λ w q. refl }
      by false d f next =
          let n = next f in
          record {
            v = n.v;
            later = n.later;
            own = n.own;
            due = n.due;
            left = n.left;
            stands = λ s h. n.stands s h.1;
            apart = λ a. n.apart a.1;
            stays = λ e. n.stays (others_stay v vs e);
            rule = λ w q. ap (λ r. r >>= λ w1. each (matured told) vs w1) (passed_over v w q d) ∙ n.rule w q;
          }

  pub none-due : (rest : List Validator) (w : World Staked H) → operators_of (filter (is_due now) rest) ≡ [] → w.view.ctx.time ≡ now → each (matured told) rest w ≡ Ok w
  none-due [] w e q = refl
  none-due (v ∷ vs) w e q = by (is_due now v) refl e (λ f. none-due vs w f q)
    where
      by : (b : Bool) → is_due now v ≡ b → operators_of (cond b (v ∷ filter (is_due now) vs) (filter (is_due now) vs)) ≡ [] → (operators_of (filter (is_due now) vs) ≡ [] → each (matured told) vs w ≡ Ok w) → each (matured told) (v ∷ vs) w ≡ Ok w
      by true d f later = absurd cc
      by false d f later = ap (λ r. r >>= λ w1. each (matured told) vs w1) (passed_over v w q d) ∙ later f

-- ---- how far they have come

-- From a plain value that was held and what was logged before, so many have matured: one is held with which the rule goes on as it would have gone from
-- the start; it is as sure, owes nothing where the first did, stands where the first stood, and has kept what no hook changes.
pub record HasMatured {H : Type 0} (t : Tells H) (holds : H → Type 0) (h0 : H) (l0 : Log) (s0 : Staked) (v0 : View) (all rest : List Validator) (s : Staked) (v : View) : Type 0 where
  pub now : H
  pub log : Log
  pub held : holds now
  pub rule : each (matured t.told) rest (behind_log log s now v) ≡ each (matured t.told) all (behind_log l0 s0 h0 v0)
  pub sure : t.sure now ≡ t.sure h0
  pub owes : t.owes h0 ≡ None → t.owes now ≡ None
  pub stand : Stand t h0 v0 (lists_of s0) → Stand t now v (lists_of s)
  pub keeps : Stand t h0 v0 (lists_of s0) → Keeps (t.owes h0 ≡ None) v0 v

module _ {H : Type 0} (t : Tells H) (lawful : Lawful t) (h0 : H) (l0 : Log) (s0 : Staked) (v0 : View) (all : List Validator) where
  pub matured-first : (holds : H → Type 0) → holds h0 → HasMatured t holds h0 l0 s0 v0 all all s0 v0
  matured-first holds o = record {
    now = h0;
    log = l0;
    held = o;
    rule = refl;
    sure = refl;
    owes = λ e. e;
    stand = λ p. p;
    keeps = λ p. nothing_kept (t.owes h0 ≡ None) v0;
  }

  -- records with one unbonded
  sound_unbonded : (s : Staked) (v : Validator) → IsSoundStake s → validator_at s v.operator ≡ Some v → IsSoundStake (put_validator (unbonded v) s)
  sound_unbonded s v sound found =
      sound-set s (put_validator (unbonded v) s) (unbonded v) v sound found refl refl refl refl
      (λ m. record { max_rate = m.max_rate; rate = m.rate; max_change = m.max_change; tokens = m.tokens; empty = m.empty })

  module _ (holds holds2 : H → Type 0) (now : ℕ) (rest : List Validator) (o : List ℕ) (more : List (List ℕ)) (s s2 : Staked) (u u2 : View) (before : HasMatured t holds h0 l0 s0 v0 all rest s u) (next : NextDue t.told now rest o more)
      (time : u.ctx.time ≡ now) (sound : IsSoundStake s) (found : validator_at s next.v.operator ≡ Some next.v) where
    abbrev v : Validator
    v = next.v

    abbrev put : Staked
    put = put_validator (unbonded v) s

    abbrev told : View
    told = unbonded_told v u

    abbrev behind : Result (World Staked H) Over → Result (World Staked H) Over
    behind r = r >>= λ w1. each (matured t.told) next.later w1

    due : is_due u.ctx.time v ≡ true
    due = ap (λ n. is_due n v) time ∙ next.due

    -- the rule behind what it gives of this one
    so_far : behind (matured t.told v (behind_log before.log s before.now u)) ≡ each (matured t.told) all (behind_log l0 s0 h0 v0)
    so_far = sym (next.rule (behind_log before.log s before.now u) time) ∙ before.rule

    stand_told : Stand t h0 v0 (lists_of s0) → Stand t before.now told (lists_of put)
    stand_told p = subst (Stand t before.now told) (sym (lists-put s (unbonded v) v found)) (stand-noted t before.now u told.facts (lists_of s) (before.stand p))

    keeps_told : Stand t h0 v0 (lists_of s0) → Keeps (t.owes h0 ≡ None) v0 told
    keeps_told p = keeps-noted (t.owes h0 ≡ None) v0 u (fact.Changed v.operator Unbonded) told.facts refl (before.keeps p)

    kept : (v.shares == 0) ≡ false → Leaves (Ok (changed_world t.told v before.log before.now s u due)) s2 holds2 u2 (Ok tt) → HasMatured t holds2 h0 l0 s0 v0 all next.later s2 u2
    kept e a =
        let same : s2 ≡ put = a.0 in
        let ground : u2 ≡ told = a.2 in
        record {
          now = before.now;
          log = before.log;
          held = a.1;
          rule = (λ i. each (matured t.told) next.later (behind_log before.log (same i) before.now (ground i))) ∙ ap behind (sym (matured-is t.told v before.log before.now s u due false e)) ∙ so_far;
          sure = before.sure;
          owes = before.owes;
          stand = λ p. subst (λ y. Stand t before.now u2 (lists_of y)) (sym same) (subst (λ y. Stand t before.now y (lists_of put)) (sym ground) (stand_told p));
          keeps = λ p. subst (Keeps (t.owes h0 ≡ None) v0) (sym ground) (keeps_told p);
        }

    abbrev gone : Told H → Result (World Staked H) Over
    gone r = hooked r (record { mine = without_validator v.operator put; hooks = before.now; view = told; log = before.log }) >>= λ w1. Ok (over_view (noted (fact.Removed v.operator)) w1)

    taken : (v.shares == 0) ≡ true → (v.shares ≡ 0) → (r : Told H) → t.told before.now (removed (unbonded v)) told ≡ r → Leaves (gone r) s2 holds2 u2 (Ok tt) → HasMatured t holds2 h0 l0 s0 v0 all next.later s2 u2
    taken e z (exceeds over) g a = absurd a
    taken e z (gives h u3 log) g a =
        let sound2 = sound_unbonded s v sound found in
        let points = to_points sound2.0 put sound2.1 in
        let same : s2 ≡ without_validator v.operator put = a.0 in
        let ground : u2 ≡ noted (fact.Removed v.operator) u3 = a.2 in
        let ready : Stand t h0 v0 (lists_of s0) → Ready t before.now told (removed (unbonded v)) (lists_of put) = λ p. ready-removed sound2.0 put (unbonded v) points (found_itself s (unbonded v)) z t before.now told (stand_told p) in
        let lists : lists_of (without_validator v.operator put) ≡ after (removed (unbonded v)) (lists_of put) = lists-left put v.operator points.validators_ascend in
        let told2 = noted (fact.Removed v.operator) u3 in
        record {
          now = h;
          log = before.log ++ log;
          held = a.1;
          rule = (λ i. each (matured t.told) next.later (behind_log (before.log ++ log) (same i) h (ground i))) ∙ ap (λ r. behind (gone r)) (sym g) ∙ ap behind (sym (matured-is t.told v before.log before.now s u due true e)) ∙ so_far;
          sure = lawful.sure_stays before.now h (removed (unbonded v)) told u3 log g ∙ before.sure;
          owes = λ n. lawful.owes_nothing before.now h (removed (unbonded v)) told u3 log (before.owes n) g;
          stand = λ p.
              let left = subst (Stand t h u3) (sym lists) (lawful.follows before.now h (removed (unbonded v)) told u3 log (lists_of put) (ready p) g) in
              subst (λ y. Stand t h u2 (lists_of y)) (sym same) (subst (λ y. Stand t h y (lists_of (without_validator v.operator put))) (sym ground) (stand-noted t h u3 told2.facts (lists_of (without_validator v.operator put)) left));
          keeps = λ p.
              subst (Keeps (t.owes h0 ≡ None) v0) (sym ground)
              (keeps-noted (t.owes h0 ≡ None) v0 u3 (fact.Removed v.operator) told2.facts refl
              (keeps_then (t.owes h0 ≡ None) (t.owes before.now ≡ None) v0 told u3 before.owes (keeps_told p) (lawful.keeps before.now h (removed (unbonded v)) told u3 log (lists_of put) (ready p) g)));
        }

    zero_is : (n : ℕ) → (n == 0) ≡ true → n ≡ 0
    zero_is n e = grind (arith, nat_tests)

    pub matured-more : Leaves (matured t.told v (behind_log before.log s before.now u)) s2 holds2 u2 (Ok tt) → HasMatured t holds2 h0 l0 s0 v0 all next.later s2 u2
    matured-more a = by (v.shares == 0) refl
      where
        by : (b : Bool) → (v.shares == 0) ≡ b → HasMatured t holds2 h0 l0 s0 v0 all next.later s2 u2
        by false e = kept e (subst (λ r. Leaves r s2 holds2 u2 (Ok tt)) (matured-is t.told v before.log before.now s u due false e) a)
        by true e = taken e (zero_is v.shares e) (t.told before.now (removed (unbonded v)) told) refl (subst (λ r. Leaves r s2 holds2 u2 (Ok tt)) (matured-is t.told v before.log before.now s u due true e) a)

    pub others-stand : Leaves (matured t.told v (behind_log before.log s before.now u)) s2 holds2 u2 (Ok tt) → AllByRecursion (λ x. same_addr v.operator x.operator ≡ false) next.later → AllStand s next.later → AllStand s2 next.later
    others-stand a away h = by (v.shares == 0) refl
      where
        still : AllStand put next.later
        still = still_stand (unbonded v) s next.later away h

        left : (r : Told H) → Leaves (gone r) s2 holds2 u2 (Ok tt) → AllStand s2 next.later
        left (exceeds over) b = absurd b
        left (gives h2 u3 log) b =
            let sound2 = sound_unbonded s v sound found in
            let points = to_points sound2.0 put sound2.1 in
            subst (λ y. AllStand y next.later) (sym b.0) (still_without v.operator put next.later points.validators_ascend away still)

        by : (b : Bool) → (v.shares == 0) ≡ b → AllStand s2 next.later
        by false e = let b = subst (λ r. Leaves r s2 holds2 u2 (Ok tt)) (matured-is t.told v before.log before.now s u due false e) a in subst (λ y. AllStand y next.later) (sym b.0) still
        by true e = left (t.told before.now (removed (unbonded v)) told) (subst (λ r. Leaves r s2 holds2 u2 (Ok tt)) (matured-is t.told v before.log before.now s u due true e) a)

    pub matured-stopped : (fault : HookFault) → Leaves (matured t.told v (behind_log before.log s before.now u)) s2 holds2 u2 (Err fault) → Leaves (each (matured t.told) all (behind_log l0 s0 h0 v0)) s2 holds2 u2 (Err fault)
    matured-stopped fault a = subst (λ r. Leaves r s2 holds2 u2 (Err fault)) so_far (each-stopped (matured t.told) v next.later (behind_log before.log s before.now u) s2 holds2 u2 fault a)

  pub matured-all : (holds : H → Type 0) (now : ℕ) (rest : List Validator) (s : Staked) (u : View) → HasMatured t holds h0 l0 s0 v0 all rest s u → operators_of (filter (is_due now) rest) ≡ [] → u.ctx.time ≡ now
      → Leaves (each (matured t.told) all (behind_log l0 s0 h0 v0)) s holds u (Ok tt)
  matured-all holds now rest s u d e q = subst (λ r. Leaves r s holds u (Ok tt)) (sym (none-due t.told now rest (behind_log d.log s d.now u) e q) ∙ d.rule) (refl, d.held, refl)

-- How far all have come, from whichever plain value: who is left, of which those that are due have these operators.
pub record AreMaturing {H : Type 0} (t : Tells H) (first holds : H → Type 0) (now : ℕ) (s0 : Staked) (v0 : View) (operators : List (List ℕ)) (s : Staked) (v : View) : Type 0 where
  pub rest : List Validator
  pub left : operators_of (filter (is_due now) rest) ≡ operators
  pub stand : AllStand s rest
  pub apart : HaveOwnOperators rest
  pub stay : count_where (goes_at now) (values_of s0.validators) ≡ 0 → count_where (goes_at now) rest ≡ 0
  pub matured : (h : H) → first h → (log : Log) → HasMatured t holds h log s0 v0 (values_of s0.validators) rest s v
