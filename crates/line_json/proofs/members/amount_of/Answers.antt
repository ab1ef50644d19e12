use Rattle.std.proofs.Common.{◌≡◌, ◌∙◌, sym, true, Ok, refl}
use Rattle.std.specs.Str.Parse.{digits_value}
use Rattle.base_decimals.specs.Texts.{is_number}
use Rattle.line_json.proofs.ReadingLemmas.{amount_parsed}
use Rattle.line_json.proofs.members.amount_of.Goals as goal

pub returns-then-is_amount : goal.returns-then-is_amount
returns-then-is_amount c =
    let told : is_number 38 c.args.text.now ≡ true = sym c.is_amount.ensures ∙ c.if-is_amount.true in
    let parsed : c.parse.result ≡ Ok (digits_value 10 c.args.text.now) = amount_parsed c.args.text.now c.parse.result c.parse.ensures.value.0 told in
    rw (told, c.ok.ensures.value, parsed) refl
