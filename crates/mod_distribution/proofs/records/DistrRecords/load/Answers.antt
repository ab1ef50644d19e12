use Rattle.std.proofs.Common.{◌∙◌, refl, sym, ap, subst, ◌||◌}
use Rattle.base_roles.specs.{Items.{HasRoom, IsAdded}, Entries.with}
use Rattle.base_types.specs.Orders.{addr_cmp}
use Rattle.base_records.proofs.KindLemmas.{added-at}
use Rattle.mod_allocation.specs.Items.{is_shared}
use Rattle.mod_periods.specs.Items.{is_record}
use Rattle.mod_distribution.specs.{Kept.{distributed, kept_with}, Items.items_of}
use Rattle.mod_distribution.proofs.ItemLemmas.{first_or, loaded, no_payee, none_spent, of_kind, payee_added, record_items, room_in_records, room_in_shared, second_or, shared_items, unloaded}
use Rattle.mod_distribution.proofs.MarkLemmas.{marks_same}
use Rattle.mod_distribution.proofs.records.DistrRecords.load.Goals as goal

pub load-requires : goal.load-requires
load-requires g c = record { room = room_in_shared (distributed c.self.inside.f1 c.self.inside.alloc c.self.inside.withdraw c.self.inside.spent).kept c.args.item.now (subst (λ t. HasRoom (items_of t.kept) c.args.item.now) (sym c.self.view_is) c.requires.room) }

pub load-requires-2 : goal.load-requires-2
load-requires-2 g c = record { room = room_in_records (distributed c.self.inside.f1 c.self.inside.alloc c.self.inside.withdraw c.self.inside.spent).kept c.args.item.now (subst (λ t. HasRoom (items_of t.kept) c.args.item.now) (sym c.self.view_is) c.requires.room) }

pub returns-in-Withdraw-clause-added : goal.returns-in-Withdraw-clause-added
returns-in-Withdraw-clause-added g c = λ some.
    let k = (distributed c.self.inside.f1 c.self.inside.alloc c.self.inside.withdraw c.self.inside.spent).kept in
    let who = c.in-Withdraw.delegator in
    let to = c.in-Withdraw.to in
    added-at items_of k (record k { withdraw = with addr_cmp k.withdraw who to }) c.args.self.now.kept c.put_payee.new.self.kept _ c.args.item.now
    (payee_added k (shared_items k.purses) (record_items k.rewards) who to c.known.ensures.ordered)
    (ap (λ t. t.kept) c.self.view_is)
    (ap (λ t. t.kept) c.in_ok-put_payee.ensures.ok
    ∙ (λ i. kept_with (c.in_ok-is_rewarded.ensures.other (ap is_record c.in-Withdraw.is) i) (c.in_ok-is_pursed.ensures.other (ap is_shared c.in-Withdraw.is) i) (with addr_cmp k.withdraw who to))) c.in-Withdraw.is

pub returns-then-is_pursed : goal.returns-then-is_pursed
returns-then-is_pursed g c =
    let new = c.args.item.now in
    let none = no_payee new c.in_default.not-Withdraw in
    let k = (distributed c.self.inside.f1 c.self.inside.alloc c.self.inside.withdraw c.self.inside.spent).kept in
    let p = c.load.new.self in
    let r = c.load-2.new.self in
    let purses = c.in_ok-is_pursed.ensures in
    let rewards = c.in_ok-is_rewarded.ensures in
    record {
      kind = c.if-is_pursed.true ∙ first_or c.in_ok-is_pursed.is_pursed c.in_ok-is_rewarded.is_rewarded c.if-is_pursed.true ∙ of_kind new none c.in_ok-is_pursed.is_pursed c.in_ok-is_rewarded.is_rewarded purses.kind rewards.kind;
      added = λ some. subst (λ t. IsAdded (items_of t.kept) new (items_of (kept_with r.kept p.kept k.withdraw))) c.self.view_is (loaded k p.kept r.kept new none purses.added purses.other rewards.added rewards.other some);
      other = λ unlike. unloaded k p.kept r.kept new purses.other rewards.other unlike ∙ ap (λ t. t.kept) c.self.view_is;
      marks = marks_same c.self.inside.f1 r c.self.inside.alloc p c.self.inside.withdraw c.self.inside.withdraw rewards.marks purses.marks refl ∙ ap (λ t. t.marks) c.self.view_is;
      settled = (λ i. kept_with (rewards.settled i) (purses.settled i) c.self.inside.withdraw.settled) ∙ ap (λ t. t.settled) c.self.view_is;
      spent = λ h. none_spent c.self.inside.f1.spent c.self.inside.alloc.spent c.self.inside.spent rewards.spent purses.spent c.if-self.false (ap (λ t. t.spent) c.self.view_is ∙ h);
      spent_ok = (λ i. rewards.spent_ok i || (purses.spent_ok i || c.self.inside.spent)) ∙ ap (λ t. t.spent) c.self.view_is;
      spent_err = tt;
    }

pub returns-else-is_pursed : goal.returns-else-is_pursed
returns-else-is_pursed g c =
    let new = c.args.item.now in
    let none = no_payee new c.in_default.not-Withdraw in
    let k = (distributed c.self.inside.f1 c.self.inside.alloc c.self.inside.withdraw c.self.inside.spent).kept in
    let p = c.load.new.self in
    let r = c.load-2.new.self in
    let purses = c.in_ok-is_pursed.ensures in
    let rewards = c.in_ok-is_rewarded.ensures in
    record {
      kind = second_or c.in_ok-is_pursed.is_pursed c.in_ok-is_rewarded.is_rewarded c.if-is_pursed.false ∙ of_kind new none c.in_ok-is_pursed.is_pursed c.in_ok-is_rewarded.is_rewarded purses.kind rewards.kind;
      added = λ some. subst (λ t. IsAdded (items_of t.kept) new (items_of (kept_with r.kept p.kept k.withdraw))) c.self.view_is (loaded k p.kept r.kept new none purses.added purses.other rewards.added rewards.other some);
      other = λ unlike. unloaded k p.kept r.kept new purses.other rewards.other unlike ∙ ap (λ t. t.kept) c.self.view_is;
      marks = marks_same c.self.inside.f1 r c.self.inside.alloc p c.self.inside.withdraw c.self.inside.withdraw rewards.marks purses.marks refl ∙ ap (λ t. t.marks) c.self.view_is;
      settled = (λ i. kept_with (rewards.settled i) (purses.settled i) c.self.inside.withdraw.settled) ∙ ap (λ t. t.settled) c.self.view_is;
      spent = λ h. none_spent c.self.inside.f1.spent c.self.inside.alloc.spent c.self.inside.spent rewards.spent purses.spent c.if-self.false (ap (λ t. t.spent) c.self.view_is ∙ h);
      spent_ok = (λ i. rewards.spent_ok i || (purses.spent_ok i || c.self.inside.spent)) ∙ ap (λ t. t.spent) c.self.view_is;
      spent_err = tt;
    }
