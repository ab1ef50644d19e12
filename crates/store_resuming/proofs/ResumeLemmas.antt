-- A chain out of items: of records that pass the tests, and of no others.
use Rattle.std.proofs.Common.{◌≡◌, ◌∙◌, ◌^◌, ◌≤◌, Bool, true, false, List, [], Option, Some, None, Result, Ok, Err, refl, sym, ap, subst, IfSome, IfOk, IfErr, IsPermutation}
use Rattle.base_roles.specs.declared.{items.Item.Item, no_hooks.NoHooks.NoHooks}
use Rattle.rule_modules.specs.{Chain.State, Sound.IsSound}
use Rattle.chain_modules.specs.{declared.modules.Modules.Modules, Kept.{KeptState, Keeps, StandsFor, kept_of}}
use Rattle.chain_modules.{specs.Marks.AreAtRest, proofs.StandLemmas.stands_same}
use Rattle.store_records.specs.{Gathering.records_in, Plain.{PlainSeen, AreAscending, listed}, States.state_of}
use Rattle.store_soundness.specs.Sound.{is_sound}
use Rattle.law_records.{specs.{Coins.AreCoins, PassLaws.AreInMemory, Records.plain_of}, proofs.AgainLaws.plain_again}
use Rattle.law_records.proofs.{AscendLaws.records_ascend, GatheredLaws.states_gathered, ListedLaws.records_listed}
use Rattle.law_records.proofs.{PassLaws.{sound_records_pass, tests_make_sound}, RecordLaws.items_are_listed}
use Rattle.store_loading.specs.Loaded.{AreLoaded, kept_in}
use Rattle.store_resuming.proofs.KeepLaws.{keeps_records}
use Rattle.store_resuming.specs.Resumed.{IsJudged, IsResumeFault, IsStateOf, IsVerdict, IsResumed}
use Rattle.chain_whole.specs.{Chained.{Chained, chained}, declared.fault.ChainFault.ChainFault}
use Rattle.chain_whole.proofs.ChainLemmas.{settled_now}
use Rattle.chain_whole.specs.declared.fault.ChainFault.TheVariants as fault

one_some : {A : Type 0} (x y : A) → ◌≡◌ {A = Option A} (Some x) (Some y) → x ≡ y
one_some x y e = cc

none_or_some : {A : Type 0} (o : Option A) (x : A) → o ≡ Some x → o ≡ None → ⊥
none_or_some o x s n = cc

true_or_false : (b : Bool) → b ≡ true → b ≡ false → ⊥
true_or_false b t f = cc

-- ---- records of items

listed_so : (items : List Item) (r : PlainSeen) → records_in items ≡ Some r → IsPermutation (listed r) items
listed_so items r e = subst (λ (o : Option PlainSeen). IfSome o (λ x. IsPermutation (listed x) items)) e (records_listed items)

pub ascend_so : (items : List Item) (r : PlainSeen) → records_in items ≡ Some r → AreAscending r.lists
ascend_so items r e = subst (λ (o : Option PlainSeen). IfSome o (λ x. AreAscending x.lists)) e (records_ascend items)

-- ---- records that pass

module _ (r : PlainSeen) (ascending : AreAscending r.lists) (coins : AreCoins r) (memory : AreInMemory r) (passes : is_sound r ≡ true) where
  sound : IsSound (state_of r)
  sound = tests_make_sound r ascending coins memory passes

  -- what is kept of them stands for their plain state
  pub kept_stands : StandsFor (kept_in r) (state_of r)
  kept_stands = record {
    keeps = subst (λ (x : PlainSeen). Keeps (kept_in x) (state_of r)) (plain_again r ascending coins passes) (keeps_records (state_of r) sound refl);
    sound = sound;
  }

  pub least : 1 ≤ r.ctx.params.power_reduction
  least = sound.ground.params.power_reduction

  pub most : r.ctx.params.power_reduction ≤ 10 ^ 18
  most = sound.ground.params.power_reduction_most

  -- and its items are theirs
  pub has_items : (items : List Item) → records_in items ≡ Some r → IsStateOf items (state_of r)
  has_items items e = record {
    sound = sound;
    none = refl;
    has = subst (λ (l : List Item). IsPermutation l items) (sym (items_are_listed (state_of r) ∙ ap listed (plain_again r ascending coins passes))) (listed_so items r e);
  }

  -- modules that were loaded from them are at rest
  pub at_rest : {E : Type 0} (m : Modules E) → AreLoaded r m → AreAtRest m
  at_rest m l = record {
    power = l.power;
    state = state_of r;
    stands = stands_same (kept_in r) (kept_of m) (state_of r) l.kept kept_stands;
    unmarked = l.unmarked;
    no_facts = ap (λ (k : KeptState). k.view.facts) l.kept;
  }

-- what a chain over them is
pub is_resumed : (r : PlainSeen) (m : Modules NoHooks) → AreLoaded r m → IsResumed r (chained m m.ground.ctx false)
is_resumed r m l = record {
  kept = l.kept;
  settled = settled_now m l.settled (ap (λ (k : KeptState). k.view.facts) l.kept) ∙ l.kept;
  unspent = refl;
}

-- ---- states that have items

module _ (items : List Item) (p : State) (s : IsStateOf items p) where
  gathered : records_in items ≡ Some (plain_of p)
  gathered = states_gathered p items s.sound s.has

  -- the records of items are those of each state that has them
  same : (r : PlainSeen) → records_in items ≡ Some r → plain_of p ≡ r
  same r e = one_some (plain_of p) r (sym gathered ∙ e)

  -- so what is kept of these stands for it
  pub stands_so : (r : PlainSeen) → records_in items ≡ Some r → StandsFor (kept_in r) p
  stands_so r e = record {
    keeps = subst (λ (x : PlainSeen). Keeps (kept_in x) p) (same r e) (keeps_records p s.sound s.none);
    sound = s.sound;
  }

  -- there are such records, and they pass
  pub some_records : records_in items ≡ None → ⊥
  some_records none = none_or_some (records_in items) (plain_of p) gathered none

  pub pass : (r : PlainSeen) → AreInMemory r → records_in items ≡ Some r → is_sound r ≡ false → ⊥
  pass r memory e fails =
      true_or_false (is_sound r) (subst (λ (x : PlainSeen). is_sound x ≡ true) (same r e) (sound_records_pass p s.sound (subst AreInMemory (sym (same r e)) memory)).2) fails

-- ---- what is judged

-- records that pass
pub passes_so : {E : Type 0} (r : PlainSeen) (s : Result Bool E) → IfOk s (λ b. b ≡ is_sound r) → s ≡ Ok true → is_sound r ≡ true
passes_so {E} r s h e = sym (subst (λ (x : Result Bool E). IfOk x (λ b. b ≡ is_sound r)) e h)

pub if_ok_anyway : {T E : Type 0} (answer : Result T E) (P : Type 0) → P → IfOk answer (λ x. P)
if_ok_anyway (Ok x) P p = p
if_ok_anyway (Err why) P p = tt

-- and those that do not
pub judged_so : {E : Type 0} (r : PlainSeen) (s : Result Bool E) (why : ChainFault) → IfOk s (λ b. b ≡ is_sound r) → IsVerdict s why → IsJudged r why
judged_so r s (fault.BadGenesis n) h v = v
judged_so {E} r s fault.BadItems h v = sym (subst (λ (x : Result Bool E). IfOk x (λ b. b ≡ is_sound r)) v h)
judged_so r s fault.NoMemory h v = tt

-- items of no records
pub refused_so : (items : List Item) (why : ChainFault) → why ≡ fault.BadItems → records_in items ≡ None → IsResumeFault items why
refused_so items why is none = subst (IsResumeFault items) (sym is) (λ p s. some_records items p s none)

-- ---- what is answered

module _ (items : List Item) (r : PlainSeen) (is : records_in items ≡ Some r) where
  -- a chain of these records stands for each state that has the items
  pub all_stand : (answer : Result Chained ChainFault) → IfOk answer (IsResumed r) → IfOk answer (λ x. (p : State) → IsStateOf items p → StandsFor x.kept p)
  all_stand (Ok x) e = λ p s. subst (λ (k : KeptState). StandsFor k p) (sym e.kept) (stands_so items p s r is)
  all_stand (Err why) e = tt

  -- and there is such a state
  pub one_stands : (answer : Result Chained ChainFault) → AreCoins r → AreInMemory r → IfOk answer (λ x. is_sound r ≡ true) → IfOk answer (IsResumed r)
      → IfOk answer (λ x. (p : State) × IsStateOf items p × StandsFor x.kept p)
  one_stands (Ok x) coins memory passes e = (
    state_of r,
    has_items r (ascend_so items r is) coins memory passes items is,
    subst (λ (k : KeptState). StandsFor k (state_of r)) (sym e.kept) (kept_stands r (ascend_so items r is) coins memory passes),
  )
  one_stands (Err why) coins memory passes e = tt

  -- a fault is that of the items
  pub fault_so : (answer : Result Chained ChainFault) → AreInMemory r → IfErr answer (IsJudged r) → IfErr answer (IsResumeFault items)
  fault_so (Ok x) memory h = tt
  fault_so (Err (fault.BadGenesis n)) memory h = h
  fault_so (Err fault.BadItems) memory h = λ p s. pass items p s r memory is h
  fault_so (Err fault.NoMemory) memory h = tt

-- a chain of records has no facts, is settled, and not spent
pub no_facts : (r : PlainSeen) (answer : Result Chained ChainFault) → IfOk answer (IsResumed r) → IfOk answer (λ x. x.kept.view.facts ≡ [])
no_facts r (Ok x) e = ap (λ (k : KeptState). k.view.facts) e.kept
no_facts r (Err why) e = tt

pub is_settled : (r : PlainSeen) (answer : Result Chained ChainFault) → IfOk answer (IsResumed r) → IfOk answer (λ x. x.settled ≡ x.kept)
is_settled r (Ok x) e = e.settled ∙ sym e.kept
is_settled r (Err why) e = tt

pub is_unspent : (r : PlainSeen) (answer : Result Chained ChainFault) → IfOk answer (IsResumed r) → IfOk answer (λ x. x.spent ≡ false)
is_unspent r (Ok x) e = e.unspent
is_unspent r (Err why) e = tt
