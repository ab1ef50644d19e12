use Rattle.std.proofs.Common.{◌∙◌, sym, ap, subst}
use Rattle.rule_modules.specs.Window.{window_resized}
use Rattle.mod_signing.{specs.{Resizing.kept_resized, Stands.KeepsSignings}, proofs.ResizeLemmas.resizing_carries}
use Rattle.mod_signing.proofs.window.Window.resize.Goals as goal

pub returns-clause-resized : goal.returns-clause-resized
returns-clause-resized g c = λ old i some h.
    subst (λ k. KeepsSignings c.args.window k (window_resized old c.args.window i)) (sym (c.in_ok-resize_all.ensures.kept ∙ ap (λ w. kept_resized c.args.window w.kept) c.self.view_is))
    (resizing_carries old c.args.window c.args.self.now.kept i some c.requires.some h)
