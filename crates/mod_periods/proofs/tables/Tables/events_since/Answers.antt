use Rattle.std.proofs.Common.{◌≡◌, ap, sym, subst, ◌∙◌, arith, true, false, Bool, ◌++◌, [], ◌∷◌, length, length-append, ℕ, not, refl, option_map, is_some, if◌then◌else◌}
use Rattle.std.{proofs.lemmas.Map.Text.is_eq-slice_cmp, specs.BTreeMap.Range.entries_between}
use Rattle.std.specs.declared.ops.Bound.TheVariants.{Included, Unbounded}
use Rattle.base_roles.specs.Orders.{same_addr}
use Rattle.base_table.specs.Tabled.{first_of}
use Rattle.mod_periods.specs.{Earning.events_since, Kept.{event_cmp, events_of}}
use Rattle.mod_periods.proofs.SinceLemmas.{IsRest, own_events, ahead, rest-begins, rest-listed, cons_of, ahead-falls, listed-all, listed-more}
use Rattle.mod_periods.proofs.tables.Tables.events_since.Goals as goal

opposite : (b : Bool) → b ≡ not (not b)
opposite true = refl
opposite false = refl

pub loop-entry-init : goal.loop-entry-init
loop-entry-init g c =
    let es = c.self.inside.events.entries in (
      entries_between event_cmp (Included (c.args.operator.now, c.args.height, 0)) Unbounded es,
      record {
        walk = rest-begins es c.args.operator.now c.args.height;
        entry = c.seek-entry.ensures.from;
        listed = ap (λ l. l ++ own_events c.args.operator.now (entries_between event_cmp (Included (c.args.operator.now, c.args.height, 0)) Unbounded es)) c.new-events.ensures.items
            ∙ rest-listed c.args.operator.now c.args.height es ∙ ap (λ t. events_since c.args.height (events_of t.kept c.args.operator.now)) c.self.view_is;
        cost = let none = ap length c.new-events.ensures.items in omega (arith, c.seek-entry.ensures.cost, none);
      },
    )

pub returns-then-ne-clause-events : goal.returns-then-ne-clause-events
returns-then-ne-clause-events g c =
    let differs : same_addr c.in-Some.key.now.0 c.args.operator.now ≡ false = is_eq-slice_cmp c.in-Some.key.now.0 c.args.operator.now ∙ opposite _ ∙ ap not (sym c.if-ne.ensures) in
    let inv = c.loop-entry.invariant in
    let seen = ap (option_map (λ e. (e.0.now, e.1.now))) (sym c.in-Some.is) ∙ inv.1.entry in
    listed-all c.self.inside.events.entries c.args.operator.now inv.0 (c.in-Some.key.now, c.in-Some.slash.now) c.loop-entry.events.items _ c.known.ensures.ordered inv.1.walk seen differs inv.1.listed

pub loop-entry-smaller : goal.loop-entry-smaller
loop-entry-smaller g c =
    let es = c.self.inside.events.entries in
    let inv = c.loop-entry.invariant in
    let seen = ap (option_map (λ e. (e.0.now, e.1.now))) (sym c.in-Some.is) ∙ inv.1.entry in
    let cons = cons_of inv.0 (c.in-Some.key.now, c.in-Some.slash.now) seen in
    let falls = ahead-falls es c.args.operator.now (c.in-Some.key.now, c.in-Some.slash.now) cons.0 c.known.ensures.ordered (subst (IsRest es c.args.operator.now) cons.1 inv.1.walk) in
    let one = ap (ahead es) c.next-entry.ensures.above in
    let two = ap (λ o. ahead es (option_map (λ e. (e.0.now, e.1.now)) o)) c.in-Some.is in
    omega (arith, one, two, falls)

pub loop-entry-preserved : goal.loop-entry-preserved
loop-entry-preserved g c =
    let same : same_addr c.in-Some.key.now.0 c.args.operator.now ≡ true = is_eq-slice_cmp c.in-Some.key.now.0 c.args.operator.now ∙ opposite _ ∙ ap not (sym c.if-ne.ensures) in
    let inv = c.loop-entry.invariant in
    let seen = ap (option_map (λ e. (e.0.now, e.1.now))) (sym c.in-Some.is) ∙ inv.1.entry in
    let more = listed-more c.self.inside.events.entries c.args.operator.now inv.0 (c.in-Some.key.now, c.in-Some.slash.now) c.loop-entry.events.items _ c.known.ensures.ordered inv.1.walk seen same inv.1.listed in
    let some = ap {B = ℕ} (λ o. if is_some o then 1 else 0) c.in-Some.is in
    let longer = ap length c.in_ok-push.ensures.items in
    let steps = c.next-entry.ensures.cost in
    let before = inv.1.cost in
    let one = length-append c.loop-entry.events.items (record { height = c.in-Some.key.now.1; period = c.in-Some.key.now.2; fraction = c.fraction.result } ∷ []) in (
      more.0,
      record {
        walk = more.1.walk;
        entry = c.next-entry.ensures.above ∙ ap first_of more.1.next;
        listed = ap (λ l. l ++ own_events c.args.operator.now more.0) c.in_ok-push.ensures.items
            ∙ ap (λ f. (c.loop-entry.events.items ++ record { height = c.in-Some.key.now.1; period = c.in-Some.key.now.2; fraction = f } ∷ []) ++ own_events c.args.operator.now more.0) c.fraction.ensures ∙ more.1.listed_too;
        cost = omega (arith, some, longer, steps, before, one);
      },
    )
