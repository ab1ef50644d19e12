use Rattle.std.proofs.Common.{◌∙◌, refl, ap, rules}
use Rattle.mod_signing.proofs.ResizedLemmas.{resized-none, told_all, told_has, told_more, told_shorter}
use Rattle.mod_signing.proofs.resizing.resize_all.Goals as goal

pub loop-at-init : goal.loop-at-init
loop-at-init g c = record { walked = resized-none c.args.window c.args.tables.now.kept; behind = refl; spent = refl }

pub resize_one-requires : goal.resize_one-requires
resize_one-requires g c =
    let e = c.in-Some.found.now in
    record {
      entry = told_has c.args.window c.args.tables.now.kept c.loop-at.tables.kept _ c.loop-at.after c.as_ref.ensures.value (c.in-Some.at.now, e.info, e.places) c.in-Some.ensures.above c.next.ensures.ordered
          c.loop-at.invariant.walked;
    }

pub loop-at-preserved : goal.loop-at-preserved
loop-at-preserved g c =
    let e = c.in-Some.found.now in
    record {
      walked = told_more c.args.window c.args.tables.now.kept c.loop-at.tables.kept _ c.loop-at.after c.as_ref.ensures.value (c.in-Some.at.now, e.info, e.places) c.in-Some.ensures.above c.next.ensures.ordered
          c.loop-at.invariant.walked c.resize_one.new.tables.kept (ap (λ w. w.kept) c.in_ok-resize_one.ensures.ok);
      behind = c.resize_one.ensures.behind ∙ c.loop-at.invariant.behind;
      spent = ap (λ w. w.spent) c.in_ok-resize_one.ensures.ok ∙ c.loop-at.invariant.spent;
    }

pub loop-at-smaller : goal.loop-at-smaller
loop-at-smaller g c =
    let e = c.in-Some.found.now in
    told_shorter c.args.window c.args.tables.now.kept c.loop-at.tables.kept _ c.loop-at.after c.as_ref.ensures.value (c.in-Some.at.now, e.info, e.places) c.in-Some.ensures.above c.next.ensures.ordered
    c.loop-at.invariant.walked c.resize_one.new.tables.kept (ap (λ w. w.kept) c.in_ok-resize_one.ensures.ok)

pub returns-in_err-resize_one-clause-goes_on : goal.returns-in_err-resize_one-clause-goes_on
returns-in_err-resize_one-clause-goes_on g c = record {
  behind = c.resize_one.ensures.behind ∙ c.loop-at.invariant.behind;
  spent = λ h. c.resize_one.ensures.spent (c.loop-at.invariant.spent ∙ h);
  unspent = search rules;
}

pub returns-clause-kept : goal.returns-clause-kept
returns-clause-kept g c = told_all c.args.window c.args.tables.now.kept c.loop-at.tables.kept _ c.loop-at.after c.as_ref.ensures.value c.in_default.ensures.above c.loop-at.invariant.walked

pub returns-clause-goes_on : goal.returns-clause-goes_on
returns-clause-goes_on g c = record {
  behind = c.loop-at.invariant.behind;
  spent = λ h. c.loop-at.invariant.spent ∙ h;
  unspent = c.loop-at.invariant.spent;
}
