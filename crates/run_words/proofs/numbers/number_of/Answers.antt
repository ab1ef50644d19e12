use Rattle.std.proofs.Common.{◌≡◌, ◌∙◌, sym, true, Ok, refl}
use Rattle.std.specs.Str.Parse.{digits_value}
use Rattle.base_decimals.specs.Texts.{is_number}
use Rattle.run_words.proofs.NumberLemmas.{number_parsed}
use Rattle.run_words.proofs.numbers.number_of.Goals as goal

pub returns-then-is_number : goal.returns-then-is_number
returns-then-is_number c =
    let told : is_number c.args.most c.args.word.now ≡ true = sym c.is_number.ensures ∙ c.if-is_number.true in
    let parsed : c.parse.result ≡ Ok (digits_value 10 c.args.word.now) = number_parsed c.args.most c.args.word.now c.parse.result c.requires c.parse.ensures.value.0 told in
    rw (told, c.ok.ensures.value, parsed) refl
