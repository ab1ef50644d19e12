-- How far validators have joined the bonded set, from each plain value that the hooks held before.
use Rattle.std.proofs.Common.{◌≡◌, ◌∙◌, List, [], ◌∷◌, ◌++◌, Some, None, refl, sym, ap, subst, Result, Ok, Err}
use Rattle.base_decimals.specs.declared.over.Over.{Over}
use Rattle.base_types.specs.declared.status.BondStatus.TheVariants.{Bonded}
use Rattle.base_roles.specs.declared.{entities.Validator.Validator, faults.HookFault.HookFault}
use Rattle.base_roles.specs.{Hooks.{Tells, Stand, Ready, Lawful, Keeps}, Log.Log}
use Rattle.base_roles.specs.{Staked.{Staked, validator_at, put_validator, lists_of}, Flow.{◌>>=◌, each}}
use Rattle.base_roles.specs.World.{View, World, Told, gives, exceeds, noted, hooked}
use Rattle.base_roles.{specs.{declared.{calls.{Hook.{TheVariants.{Bonded as bonded}}}}}, proofs.HookLemmas.stand-noted}
use Rattle.base_roles.specs.declared.faults.HookFault.TheVariants as hook
use Rattle.base_roles.specs.declared.facts.Fact.TheVariants as fact
use Rattle.rule_modules.specs.{Answers.Leaves, BondedSet.joined_set}
use Rattle.mod_staking.{specs.Calls.{IsSoundStake, behind_log}, proofs.GroundLemmas.{keeps-noted, keeps_then}}
use Rattle.mod_bonded_set.proofs.JoinLemmas.{in_set, lists-joined_set, ready-bonded, nothing_kept}

-- ---- what a rule leaves of several validators

-- want of memory is no answer of a rule
pub memory_wanting : {S H : Type 0} (rule : Result (World S H) Over) (s : S) (holds : H → Type 0) (v : View) → Leaves rule s holds v (Err hook.NoMemory)
memory_wanting (Ok w) s holds v = tt
memory_wanting (Err over) s holds v = tt

-- where the next one stops, all do
pub each-stopped : {H : Type 0} (f : Validator → World Staked H → Result (World Staked H) Over) (x : Validator) (rest : List Validator) (w : World Staked H) (s : Staked) (holds : H → Type 0) (v : View) (fault : HookFault)
    → Leaves (f x w) s holds v (Err fault) → Leaves (each f (x ∷ rest) w) s holds v (Err fault)
each-stopped {H} f x rest w s holds v fault a = by (f x w) fault a
  where
    by : (r : Result (World Staked H) Over) (e : HookFault) → Leaves r s holds v (Err e) → Leaves (r >>= λ t. each f rest t) s holds v (Err e)
    by (Err over) e b = b
    by (Ok w1) (hook.Over over) b = absurd b
    by (Ok w1) hook.NoMemory b = memory_wanting (each f rest w1) s holds v

-- ---- how far they have come

-- From a plain value that was held and what was logged before, so many have joined: one is held with which the rule goes on as it would have gone from
-- the start; it touches as much, is as sure, owes nothing where the first did, stands where the first stood, and has kept
-- what no hook changes.
pub record HasJoined {H : Type 0} (t : Tells H) (holds : H → Type 0) (h0 : H) (l0 : Log) (s0 : Staked) (v0 : View) (all rest : List Validator) (s : Staked) (v : View) : Type 0 where
  pub now : H
  pub log : Log
  pub held : holds now
  pub rule : each (joined_set t.told) rest (behind_log log s now v) ≡ each (joined_set t.told) all (behind_log l0 s0 h0 v0)
  pub most_steps : t.most_steps now ≡ t.most_steps h0
  pub sure : t.sure now ≡ t.sure h0
  pub owes : t.owes h0 ≡ None → t.owes now ≡ None
  pub stand : Stand t h0 v0 (lists_of s0) → Stand t now v (lists_of s)
  pub keeps : Stand t h0 v0 (lists_of s0) → Keeps (t.owes h0 ≡ None) v0 v

module _ {H : Type 0} (t : Tells H) (lawful : Lawful t) (h0 : H) (l0 : Log) (s0 : Staked) (v0 : View) (all : List Validator) where
  pub joined-first : (holds : H → Type 0) → holds h0 → HasJoined t holds h0 l0 s0 v0 all all s0 v0
  joined-first holds o = record {
    now = h0;
    log = l0;
    held = o;
    rule = refl;
    most_steps = refl;
    sure = refl;
    owes = λ e. e;
    stand = λ p. p;
    keeps = λ p. nothing_kept (t.owes h0 ≡ None) v0;
  }

  -- what the rule gives of one more, where its hook gives something
  module _ (holds holds2 : H → Type 0) (x : Validator) (rest : List Validator) (s s2 : Staked) (v v2 : View) (before : HasJoined t holds h0 l0 s0 v0 all (x ∷ rest) s v) (found : validator_at s x.operator ≡ Some x) (sound : IsSoundStake s2) where
    abbrev told : View
    told = noted (fact.Changed x.operator Bonded) v

    -- the rule behind this one
    abbrev next : Result (World Staked H) Over → Result (World Staked H) Over
    next r = r >>= λ w. each (joined_set t.told) rest w

    step : (r : Told H) → t.told before.now (bonded (in_set x)) told ≡ r
        → Leaves (hooked r (record { mine = put_validator (in_set x) s; hooks = before.now; view = told; log = before.log })) s2 holds2 v2 (Ok tt) → HasJoined t holds2 h0 l0 s0 v0 all rest s2 v2
    step (exceeds over) e a = absurd a
    step (gives h v3 log) e a =
        let same : s2 ≡ put_validator (in_set x) s = a.0 in
        let ground : v2 ≡ v3 = a.2 in
        let lists = lists-joined_set s s2 x found same in
        let noted_stand : Stand t h0 v0 (lists_of s0) → Stand t before.now told (lists_of s2) = λ p. subst (Stand t before.now told) (sym lists) (stand-noted t before.now v told.facts (lists_of s) (before.stand p)) in
        let ready : Stand t h0 v0 (lists_of s0) → Ready t before.now told (bonded (in_set x)) (lists_of s2) = λ p. ready-bonded s2 s x sound same t before.now told (noted_stand p) in
        record {
          now = h;
          log = before.log ++ log;
          held = a.1;
          rule = (λ i. each (joined_set t.told) rest (behind_log (before.log ++ log) (same i) h (ground i)))
              ∙ ap (λ r. next (hooked r (record { mine = put_validator (in_set x) s; hooks = before.now; view = told; log = before.log }))) (sym e)
              ∙ before.rule;
          most_steps = lawful.steps_stay before.now h (bonded (in_set x)) told v3 log e ∙ before.most_steps;
          sure = lawful.sure_stays before.now h (bonded (in_set x)) told v3 log e ∙ before.sure;
          owes = λ n. lawful.owes_nothing before.now h (bonded (in_set x)) told v3 log (before.owes n) e;
          stand = λ p. subst (λ u. Stand t h u (lists_of s2)) (sym ground) (lawful.follows before.now h (bonded (in_set x)) told v3 log (lists_of s2) (ready p) e);
          keeps = λ p. subst (Keeps (t.owes h0 ≡ None) v0) (sym ground) (keeps_then (t.owes h0 ≡ None) (t.owes before.now ≡ None) v0 told v3 before.owes
              (keeps-noted (t.owes h0 ≡ None) v0 v (fact.Changed x.operator Bonded) told.facts refl (before.keeps p))
              (lawful.keeps before.now h (bonded (in_set x)) told v3 log (lists_of s2) (ready p) e));
        }

    pub joined-more : Leaves (joined_set t.told x (behind_log before.log s before.now v)) s2 holds2 v2 (Ok tt) → HasJoined t holds2 h0 l0 s0 v0 all rest s2 v2
    joined-more a = step (t.told before.now (bonded (in_set x)) told) refl a

  pub joined-stopped : (holds holds2 : H → Type 0) (x : Validator) (rest : List Validator) (s s2 : Staked) (v v2 : View) (fault : HookFault) (before : HasJoined t holds h0 l0 s0 v0 all (x ∷ rest) s v)
      → Leaves (joined_set t.told x (behind_log before.log s before.now v)) s2 holds2 v2 (Err fault) → Leaves (each (joined_set t.told) all (behind_log l0 s0 h0 v0)) s2 holds2 v2 (Err fault)
  joined-stopped holds holds2 x rest s s2 v v2 fault before a = subst (λ r. Leaves r s2 holds2 v2 (Err fault)) before.rule (each-stopped (joined_set t.told) x rest (behind_log before.log s before.now v) s2 holds2 v2 fault a)

  pub joined-all : (holds : H → Type 0) (s : Staked) (v : View) → HasJoined t holds h0 l0 s0 v0 all [] s v → Leaves (each (joined_set t.told) all (behind_log l0 s0 h0 v0)) s holds v (Ok tt)
  joined-all holds s v d = subst (λ r. Leaves r s holds v (Ok tt)) d.rule (refl, d.held, refl)
