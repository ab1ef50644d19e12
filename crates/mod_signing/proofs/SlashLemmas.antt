-- After a slash and a jailing: what has fallen, what is left of the ground, and what both together answer.
use Rattle.std.proofs.Common.{◌≡◌, ◌∙◌, ℕ, ◌++◌, append_assoc, List, Result, Ok, Err, refl, sym, ap, subst}
use Rattle.base_decimals.specs.declared.over.Over.{Over}
use Rattle.base_roles.specs.declared.{bank.Ground.Ground, facts.Fact.Fact, faults.HookFault.HookFault}
use Rattle.base_roles.specs.{declared.faults.HookFault.TheVariants.NoMemory, Answers.Follows, Ground.CanBeUndone}
use Rattle.base_roles.specs.{Lent.jail_told, Staked.validator_by_cons, StakeChanges.StakeFalls, Flow.{◌>>=◌}}
use Rattle.base_roles.specs.World.{View, World}
use Rattle.rule_modules.specs.{Answers.Leaves, Slashing.{Slashes, jail_lent}}
use Rattle.mod_signing.specs.Calls.{GroundGoesOn}

-- ---- the accounts and the ground

-- nothing has fallen
pub falls-none : (v : View) (b o : ℕ) → StakeFalls v v b o b o
falls-none v b o = record { from_bonded = λ d. refl; from_not_bonded = λ d. refl; supply = λ d. refl }

-- each account has lost as much as what is owed from it fell, and still after a jailing, which leaves what is owed
pub falls-jailed : (old v : View) (facts : List Fact) (b o b1 o1 b2 o2 : ℕ) → StakeFalls old v b o b1 o1 → b2 ≡ b1 → o2 ≡ o1 → StakeFalls old (record v { facts = facts }) b o b2 o2
falls-jailed old v facts b o b1 o1 b2 o2 f e h =
    subst (λ n. StakeFalls old (record v { facts = facts }) b o n o2) (sym e) (subst (λ n. StakeFalls old (record v { facts = facts }) b o b1 n) (sym h) (record { from_bonded = f.from_bonded; from_not_bonded = f.from_not_bonded; supply = f.supply }))

-- what is left of the ground after a slash and the facts of a jailing
pub ground-noted : {B M H N S K : Type 0} (bank_marks : B → M) (most_steps : B → ℕ) (marks_of : H → N) (slasher_marks : S → K) (g g2 : Ground B) (hooks hooks2 : H) (slasher slasher2 : S)
    → CanBeUndone bank_marks g g2 → most_steps g2.bank ≡ most_steps g.bank → marks_of hooks2 ≡ marks_of hooks → slasher_marks slasher2 ≡ slasher_marks slasher
    → (facts : List Fact) → (more : List Fact) × (facts ≡ g2.facts ++ more) → GroundGoesOn bank_marks most_steps marks_of slasher_marks g (record g2 { facts = facts }) hooks hooks2 slasher slasher2
ground-noted bank_marks most_steps marks_of slasher_marks g g2 hooks hooks2 slasher slasher2 u bank hook_marks marks facts grown = record {
  undone = record {
    marks = u.marks;
    ctx = u.ctx;
    facts = (u.facts.0 ++ grown.0, grown.1 ∙ ap (λ l. l ++ grown.0) u.facts.1 ∙ append_assoc g.facts u.facts.0 grown.0);
  };
  bank = bank;
  hook_marks = hook_marks;
  slasher_marks = marks;
}

-- ---- what both answer

module _ {S H : Type 0} (lent : Slashes S H) (cons : List ℕ) (r : Result (ℕ × World S H) Over) where
  -- the slash, then the jailing
  abbrev pub slashed_then_jailed : Result (World S H) Over
  slashed_then_jailed = ◌>>=◌ r (λ p. Ok (jail_lent lent cons p.1))

  pub slash-fails : (s s2 : S) (holds holds2 : H → Type 0) (v v2 : View) (fault : HookFault) → Follows r s holds v (Err fault) → Leaves slashed_then_jailed s2 holds2 v2 (Err fault)
  slash-fails s s2 holds holds2 v v2 fault h = by r h
    where
      by : (x : Result (ℕ × World S H) Over) → Follows x s holds v (Err fault) → Leaves (◌>>=◌ x (λ p. Ok (jail_lent lent cons p.1))) s2 holds2 v2 (Err fault)
      by (Ok p) k = k
      by (Err over) k = k

  pub jail-wants : (s s2 : S) (holds holds2 : H → Type 0) (v v2 : View) (n : ℕ) (fault : HookFault) → fault ≡ NoMemory → Follows r s holds v (Ok n) → Leaves slashed_then_jailed s2 holds2 v2 (Err fault)
  jail-wants s s2 holds holds2 v v2 n fault e h = subst (λ f. Leaves slashed_then_jailed s2 holds2 v2 (Err f)) (sym e) (by r h)
    where
      by : (x : Result (ℕ × World S H) Over) → Follows x s holds v (Ok n) → Leaves (◌>>=◌ x (λ p. Ok (jail_lent lent cons p.1))) s2 holds2 v2 (Err NoMemory)
      by (Ok p) k = tt
      by (Err over) k = absurd k

  pub slash-jails : (s s2 : S) (holds : H → Type 0) (v : View) (facts : List Fact) (n : ℕ) → Follows r s holds v (Ok n) → s2 ≡ lent.jail cons s → facts ≡ jail_told (validator_by_cons (lent.stake s) cons) v.facts
      → Leaves slashed_then_jailed s2 holds (record v { facts = facts }) (Ok tt)
  slash-jails s s2 holds v facts n h jails told = by r h
    where
      by : (x : Result (ℕ × World S H) Over) → Follows x s holds v (Ok n) → Leaves (◌>>=◌ x (λ p. Ok (jail_lent lent cons p.1))) s2 holds (record v { facts = facts }) (Ok tt)
      by (Err over) k = absurd k
      by (Ok p) k =
          let mine : s2 ≡ lent.jail cons p.1.mine = jails ∙ ap (lent.jail cons) k.1 in
          let is : facts ≡ jail_told (validator_by_cons (lent.stake p.1.mine) cons) p.1.view.facts = told ∙ (λ i. jail_told (validator_by_cons (lent.stake (k.1 i)) cons) (k.3 i).facts) in
          (mine, k.2, λ i. record (k.3 i) { facts = is i })
