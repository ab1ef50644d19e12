use Rattle.line_json.proofs.KeptLemmas.{module_kept}
use Rattle.line_json.proofs.pieces.push_account.Goals as goal

pub push_kept-requires : goal.push_kept-requires
push_kept-requires c = rw (c.as_bytes.ensures.value, c.name.ensures) (module_kept c.in-Module.module)
