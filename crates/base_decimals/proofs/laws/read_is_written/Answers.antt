use Rattle.std.specs.Str.Parse.{digits_value}
use Rattle.std.proofs.Common.{ℕ, ◌+◌, ◌*◌, ◌^◌, List, sym, ap, ◌∙◌}
use Rattle.base_decimals.{specs.Texts.dec_of, proofs.Inverse.{dec_of_parts, read_written, read_small}}
use Rattle.base_decimals.proofs.laws.read_is_written.Goals as goal

pub returns : goal.returns
returns c = λ text t.
    let n : ℕ = digits_value 10 t.whole * 10 ^ 18 + digits_value 10 t.places in (
      n,
      read_small t.whole t.places t.whole_digits t.short t.place_digits t.all_places,
      ap (λ (l : List ℕ). dec_of l) t.is ∙ dec_of_parts t.whole t.places t.whole_digits t.some t.short t.place_digits t.all_places,
      read_written t.whole t.places t.whole_digits t.some t.short t.no_zeros t.place_digits t.all_places ∙ sym t.is,
    )
