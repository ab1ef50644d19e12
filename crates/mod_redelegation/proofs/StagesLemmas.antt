-- What a call leaves whose first step went well, behind which another went well or stopped.
use Rattle.std.proofs.Common.{◌≡◌, ◌∙◌, ℕ, true, false, refl, Result, Ok, Err}
use Rattle.base_roles.specs.declared.bank.Ground.{Ground}
use Rattle.mod_staking.specs.{Registered.Registered, Scenes.GoesOn}
use Rattle.mod_entries.proofs.UndoneLemmas.{undone-then}

module _ {B M H N : Type 0} (bank_marks : B → M) (most_steps : B → ℕ) (marks_of : H → N) (g g1 g2 : Ground B) (hooks hooks1 hooks2 : H) (s s1 s2 : Registered) where
  -- a step that went well found memory
  never : {A1 E1 : Type 0} (x : A1) → GoesOn {A = A1} {E = E1} bank_marks most_steps marks_of g g1 hooks hooks1 s s1 (Ok x) → s.spent ≡ true → ⊥
  never x a e = let clash : false ≡ true = a.register.spent_answer e in absurd cc

  pub goes-both : {A1 E1 A2 E2 A E : Type 0} (x : A1) (y : A2) (z : A) → GoesOn {A = A1} {E = E1} bank_marks most_steps marks_of g g1 hooks hooks1 s s1 (Ok x) → GoesOn {A = A2} {E = E2} bank_marks most_steps marks_of g1 g2 hooks1 hooks2 s1 s2 (Ok y)
      → GoesOn {A = A} {E = E} bank_marks most_steps marks_of g g2 hooks hooks2 s s2 (Ok z)
  goes-both x y z a b = record {
    undone = undone-then bank_marks g g1 g2 a.undone b.undone;
    bank = b.bank ∙ a.bank;
    hook_marks = b.hook_marks ∙ a.hook_marks;
    register = record {
      behind = b.register.behind ∙ a.register.behind;
      spent = λ e. b.register.spent (a.register.spent e);
      spent_answer = λ e. absurd (never x a e);
      unspent = b.register.unspent ∙ a.register.unspent;
    };
  }

  pub goes-stopped : {A1 E1 A2 E2 A E : Type 0} (x : A1) (y : Result A2 E2) (why : E) → GoesOn {A = A1} {E = E1} bank_marks most_steps marks_of g g1 hooks hooks1 s s1 (Ok x) → GoesOn {A = A2} {E = E2} bank_marks most_steps marks_of g1 g2 hooks1 hooks2 s1 s2 y
      → GoesOn {A = A} {E = E} bank_marks most_steps marks_of g g2 hooks hooks2 s s2 (Err why)
  goes-stopped x y why a b = record {
    undone = undone-then bank_marks g g1 g2 a.undone b.undone;
    bank = b.bank ∙ a.bank;
    hook_marks = b.hook_marks ∙ a.hook_marks;
    register = record {
      behind = b.register.behind ∙ a.register.behind;
      spent = λ e. b.register.spent (a.register.spent e);
      spent_answer = λ e. refl;
      unspent = tt;
    };
  }
