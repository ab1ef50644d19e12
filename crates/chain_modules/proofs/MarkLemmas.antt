-- Marks that are gone back to, and marks that are closed.
use Rattle.std.proofs.Common.{◌≡◌, ◌∙◌, List, [], ◌∷◌, ◌++◌, append_assoc, refl, sym, ap, ◌≢◌}
use Rattle.std.proofs.lemmas.List.{same_from_push}
use Rattle.base_roles.{specs.declared.facts.Fact.Fact, proofs.MomentLemmas.{same_moment, same_moment_twice}}
use Rattle.chain_modules.specs.{declared.modules.Modules.Modules, Kept.parts_of}
use Rattle.chain_modules.specs.Marks.{Marks, AreClosed, AreOpen, Follow, GoOn, MessagesGoOn, behind_of, marks_of, opened}

-- modules that keep what others kept, with the same open marks
pub record IsRestored {E : Type 0} (old new : Modules E) : Type 0 where
  pub same_marks : marks_of new ≡ marks_of old
  pub same_parts : parts_of new ≡ parts_of old

-- with one more mark each they are the same
pub restored : {E : Type 0} (old new : Modules E) → opened new ≡ opened old → IsRestored old new
restored old new e =
    let b = same_from_push new.ground.bank.marks old.ground.bank.marks new.ground.bank.holdings old.ground.bank.holdings (ap (λ (k : Marks). k.bank) e) in
    let s = same_from_push new.stakes.staking.marks old.stakes.staking.marks new.stakes.staking.staked old.stakes.staking.staked (ap (λ (k : Marks). k.stakes.staked) e) in
    let u = same_from_push new.stakes.unbondings.marks old.stakes.unbondings.marks new.stakes.unbondings.lists old.stakes.unbondings.lists (ap (λ (k : Marks). k.stakes.unbondings) e) in
    let r = same_from_push new.stakes.redelegations.marks old.stakes.redelegations.marks new.stakes.redelegations.lists old.stakes.redelegations.lists (ap (λ (k : Marks). k.stakes.redelegations) e) in
    let d = same_from_push new.hooks.first.first.marks old.hooks.first.first.marks new.hooks.first.first.kept old.hooks.first.first.kept (ap (λ (k : Marks). k.hooks.shared) e) in
    let w = same_from_push new.hooks.second.marks old.hooks.second.marks new.hooks.second.kept old.hooks.second.kept (ap (λ (k : Marks). k.hooks.signings) e) in
    record {
      same_marks = λ i. record {
        bank = b.0 i;
        stakes = record { staked = s.0 i; unbondings = u.0 i; redelegations = r.0 i };
        hooks = record { shared = d.0 i; signings = w.0 i };
      };
      same_parts = λ i. record {
        bank = b.1 i;
        stakes = record { staked = s.1 i; unbondings = u.1 i; redelegations = r.1 i };
        shared = d.1 i;
        signings = w.1 i;
      };
    }

-- marks that were opened and closed again are those that were open before
pub closed_again : {E : Type 0} (old : Modules E) (between last : Marks) → between ≡ opened old → AreClosed between last → last ≡ marks_of old
closed_again old between last e c =
    let b = same_from_push last.bank old.ground.bank.marks c.bank.0 old.ground.bank.holdings (c.bank.1 ∙ ap (λ (k : Marks). k.bank) e) in
    let s = same_from_push last.stakes.staked old.stakes.staking.marks c.stakes.staked.0 old.stakes.staking.staked (c.stakes.staked.1 ∙ ap (λ (k : Marks). k.stakes.staked) e) in
    let u = same_from_push last.stakes.unbondings old.stakes.unbondings.marks c.stakes.unbondings.0 old.stakes.unbondings.lists (c.stakes.unbondings.1 ∙ ap (λ (k : Marks). k.stakes.unbondings) e) in
    let r = same_from_push last.stakes.redelegations old.stakes.redelegations.marks c.stakes.redelegations.0 old.stakes.redelegations.lists (c.stakes.redelegations.1 ∙ ap (λ (k : Marks). k.stakes.redelegations) e) in
    let d = same_from_push last.hooks.shared old.hooks.first.first.marks c.shared.0 old.hooks.first.first.kept (c.shared.1 ∙ ap (λ (k : Marks). k.hooks.shared) e) in
    let w = same_from_push last.hooks.signings old.hooks.second.marks c.signings.0 old.hooks.second.kept (c.signings.1 ∙ ap (λ (k : Marks). k.hooks.signings) e) in
    λ i. record {
      bank = b.0 i;
      stakes = record { staked = s.0 i; unbondings = u.0 i; redelegations = r.0 i };
      hooks = record { shared = d.0 i; signings = w.0 i };
    }

-- ---- one list of marks

-- a list with one more is not empty
pub one_more_some : {A : Type 0} (xs ys : List A) (x : A) → ys ≡ xs ++ x ∷ [] → ys ≢ []
one_more_some xs ys x e none = by xs (sym none ∙ e)
  where
    by : (l : List _) → [] ≡ l ++ x ∷ [] → ⊥
    by [] f = absurd cc
    by (y ∷ l) f = absurd cc

pub open_again : {E : Type 0} (old : Modules E) (between : Marks) → between ≡ opened old → AreOpen between
open_again old between e = record {
  bank = one_more_some old.ground.bank.marks between.bank old.ground.bank.holdings (ap (λ (k : Marks). k.bank) e);
  staked = one_more_some old.stakes.staking.marks between.stakes.staked old.stakes.staking.staked (ap (λ (k : Marks). k.stakes.staked) e);
  unbondings = one_more_some old.stakes.unbondings.marks between.stakes.unbondings old.stakes.unbondings.lists (ap (λ (k : Marks). k.stakes.unbondings) e);
  redelegations = one_more_some old.stakes.redelegations.marks between.stakes.redelegations old.stakes.redelegations.lists (ap (λ (k : Marks). k.stakes.redelegations) e);
  shared = one_more_some old.hooks.first.first.marks between.hooks.shared old.hooks.first.first.kept (ap (λ (k : Marks). k.hooks.shared) e);
  signings = one_more_some old.hooks.second.marks between.hooks.signings old.hooks.second.kept (ap (λ (k : Marks). k.hooks.signings) e);
}

-- a mark that was opened and closed again
pub forgotten : {A : Type 0} (old mid new : List A) (x last : A) → mid ≡ old ++ x ∷ [] → new ++ last ∷ [] ≡ mid → new ≡ old
forgotten old mid new x last opens closes = let same = same_from_push new old last x (closes ∙ opens) in same.0

-- ---- steps one after the other

nothing_more : (a : List Fact) → a ++ [] ≡ a
nothing_more [] = refl
nothing_more (f ∷ fs) = ap (λ l. f ∷ l) (nothing_more fs)

pub stay_on : {E : Type 0} (m : Modules E) → GoOn m m
stay_on m = record { behind = refl; ctx = refl; facts = ([], sym (nothing_more m.ground.facts)) }

pub follow_on : (a b c : List Fact) → Follow a b → Follow b c → Follow a c
follow_on a b c f g = (f.0 ++ g.0, g.1 ∙ ap (λ l. l ++ g.0) f.1 ∙ append_assoc a f.0 g.0)

pub then_on : {E : Type 0} (a b c : Modules E) → GoOn a b → GoOn b c → GoOn a c
then_on a b c g h = record {
  behind = h.behind ∙ g.behind;
  ctx = h.ctx ∙ g.ctx;
  facts = follow_on a.ground.facts b.ground.facts c.ground.facts g.facts h.facts;
}

-- where the context stays, so does its moment
pub at_moment : {E : Type 0} (old new : Modules E) → GoOn old new → MessagesGoOn old new
at_moment old new g = record { behind = g.behind; moment = same_moment old.ground.ctx new.ground.ctx g.ctx; facts = g.facts }

pub then_messages : {E : Type 0} (a b c : Modules E) → MessagesGoOn a b → MessagesGoOn b c → MessagesGoOn a c
then_messages a b c g h = record {
  behind = h.behind ∙ g.behind;
  moment = same_moment_twice a.ground.ctx b.ground.ctx c.ground.ctx g.moment h.moment;
  facts = follow_on a.ground.facts b.ground.facts c.ground.facts g.facts h.facts;
}

-- what stands behind the records has the open marks
pub marks_behind : {E : Type 0} (old new : Modules E) → behind_of new ≡ behind_of old → marks_of new ≡ marks_of old
marks_behind old new e = λ i. record {
  bank = (e i).bank.marks;
  stakes = record { staked = (e i).staking.marks; unbondings = (e i).unbondings.marks; redelegations = (e i).redelegations.marks };
  hooks = record { shared = (e i).shared.marks; signings = (e i).signings.marks };
}
