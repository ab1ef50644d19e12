use Rattle.std.proofs.Common.{◌<◌, nat_lt, refl, sym, ◌∙◌, ap, subst, arith}
use Rattle.base_table.{specs.Places.{filled, is_full, len_changed, slots, unlisted}, proofs.ChangeLemmas.{few-seen, some-seen}}
use Rattle.base_table.proofs.{KeptLemmas.{is_open, not_open}, NotedLemmas.{kept-noted, seen-noted, stamped-noted}}
use Rattle.base_table.proofs.places.Places.change.Goals as goal

pub len_after-len-requires-clause-some : goal.len_after-len-requires-clause-some
len_after-len-requires-clause-some g c = λ had.
    subst (λ n. 0 < n) (sym c.self.invariant.0.fits.len)
    (some-seen g.met.K.Ord.total c.self.inside.tree.entries c.args.key.now c.len.ensures.ordered c.self.invariant.0.fits.named
    (ap is_full (sym c.in_ok-before.ensures.ok.found) ∙ sym c.is_full.ensures ∙ had))

pub len_after-len-requires-clause-few : goal.len_after-len-requires-clause-few
len_after-len-requires-clause-few g c =
    let few = few-seen g.met.K.Ord.total c.self.inside.tree.entries c.args.key.now c.len.ensures.ordered in
    let len = c.self.invariant.0.fits.len in
    let all = c.len.ensures.len in
    let small = c.len.ensures.small in
    omega (arith, few, len, all, small)

pub invariant_of-self-2 : goal.invariant_of-self-2
invariant_of-self-2 g c = (
  kept-noted g.met.K.Ord.total c.self.inside.log.items c.reserve.new.self.items c.note.new.log.items c.self.inside.here c.self.inside.depth c.len_after-len.result c.args.key.now c.in_ok-noted.noted
      c.self.inside.tree.entries c.exchange.new.tree.entries c.args.value c.self.inside.touched.entries c.self.inside.touched.entries c.self.inside.touched.entries c.exchange.new.touched.entries c.in_ok-before.before
      (unlisted g.K.Ord.cmp c.self.inside.touched.entries (filled (slots c.self.inside.tree.entries)) c.args.key.now)
      (nat_lt 0 c.self.inside.depth) (is_open c.self.inside.depth) (not_open c.self.inside.depth) c.len.ensures.ordered c.self.invariant.0 c.in_ok-before.ensures.ok
      c.in_ok-noted.ensures.same c.reserve.ensures.items refl refl c.note.ensures c.in_ok-before.ensures.listed
      (c.len_after-len.ensures ∙ (λ i. len_changed c.self.inside.here.len (c.is_full.ensures i) (c.is_some-has.ensures i))),
  stamped-noted g.met.K.Ord.total c.self.inside.log.items c.reserve.new.self.items c.note.new.log.items c.self.inside.here c.self.inside.depth c.len_after-len.result c.args.key.now c.in_ok-noted.noted
      c.self.inside.tree.entries c.exchange.new.tree.entries c.args.value c.self.inside.touched.entries c.self.inside.touched.entries c.self.inside.touched.entries c.exchange.new.touched.entries c.in_ok-before.before
      (unlisted g.K.Ord.cmp c.self.inside.touched.entries (filled (slots c.self.inside.tree.entries)) c.args.key.now)
      (nat_lt 0 c.self.inside.depth) (is_open c.self.inside.depth) (not_open c.self.inside.depth) c.len.ensures.ordered c.self.invariant.0 c.in_ok-before.ensures.ok
      c.in_ok-noted.ensures.same c.reserve.ensures.items refl refl c.note.ensures c.in_ok-before.ensures.listed,
)

pub returns-clause-ok : goal.returns-clause-ok
returns-clause-ok g c =
    seen-noted g.met.K.Ord.total c.self.inside.log.items c.reserve.new.self.items c.note.new.log.items c.self.inside.here c.self.inside.depth c.len_after-len.result c.args.key.now c.in_ok-noted.noted
    c.self.inside.tree.entries c.exchange.new.tree.entries c.args.value c.self.inside.touched.entries c.self.inside.touched.entries c.self.inside.touched.entries c.exchange.new.touched.entries c.in_ok-before.before
    (unlisted g.K.Ord.cmp c.self.inside.touched.entries (filled (slots c.self.inside.tree.entries)) c.args.key.now)
    (nat_lt 0 c.self.inside.depth) (is_open c.self.inside.depth) (not_open c.self.inside.depth) c.len.ensures.ordered c.self.invariant.0 c.in_ok-before.ensures.ok
    c.in_ok-noted.ensures.same c.reserve.ensures.items refl refl c.note.ensures c.in_ok-before.ensures.listed c.args.self.now c.self.view_is
