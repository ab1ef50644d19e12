use Rattle.std.proofs.Common.{inl, inr}
use Rattle.base_decimals.proofs.Form.{says, reads_whole, reads_places}
use Rattle.base_decimals.proofs.laws.form_is_exact.Goals as goal

pub returns : goal.returns
returns c = λ text n. (λ e. says text n e, λ h. elim h [ inl whole ↦ reads_whole text n whole | inr places ↦ reads_places text n places ])
