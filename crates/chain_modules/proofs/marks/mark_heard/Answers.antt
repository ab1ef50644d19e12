use Rattle.chain_modules.proofs.MarkLemmas.{forgotten, one_more_some}
use Rattle.chain_modules.proofs.marks.mark_heard.Goals as goal

pub forget-requires : goal.forget-requires
forget-requires g c = let h = c.args.heard.now.first in one_more_some h.marks c.mark.new.self.marks h.kept c.in_ok-mark.ensures.opened

pub returns-in-Err-clause-err : goal.returns-in-Err-clause-err
returns-in-Err-clause-err g c =
    let h = c.args.heard.now.first in
    let k = c.forget.ensures.closed in
    forgotten h.marks c.mark.new.self.marks c.forget.new.self.marks h.kept k.0 c.in_ok-mark.ensures.opened k.1
