use Rattle.chain_modules.proofs.marks.forget_heard.Goals as goal

pub forget-requires : goal.forget-requires
forget-requires g c = c.requires.hooks

pub forget-requires-2 : goal.forget-requires-2
forget-requires-2 g c = c.requires.listener
