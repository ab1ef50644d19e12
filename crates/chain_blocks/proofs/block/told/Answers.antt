use Rattle.std.proofs.Common.{◌∙◌, length, ap}
use Rattle.chain_modules.specs.Kept.{listener_of}
use Rattle.chain_blocks.proofs.block.told.Goals as goal

pub returns-clause-heard : goal.returns-clause-heard
returns-clause-heard g c = c.after_part.ensures.heard ∙ ap (g.E.Extra.parted (g.E.Extra.heard (listener_of c.args.modules.now))) (c.len.ensures ∙ ap length c.replace-facts.ensures.value)
