use Rattle.line_json.proofs.TextLemmas.{read_as_text}
use Rattle.line_json.proofs.writing.push_digits.Goals as goal

pub unwrap-text-requires : goal.unwrap-text-requires
unwrap-text-requires c = read_as_text _ _ c.from_utf8.result c.address_digits-digits.ensures.utf8 c.from_utf8.ensures.cases
