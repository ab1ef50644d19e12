-- What the book of the tests has at first.
use Rattle.std.proofs.Common.{◌≡◌, [], ap, Result, Ok, Err, IfOk}
use Rattle.base_roles.specs.Holdings.{Holdings}
use Rattle.mod_bank.specs.Booked.{Booked, holding, new_book}

-- no mark is open
pub unmarked : {E : Type 0} (r : Result Booked E) (h : Holdings) → IfOk r (λ book. book ≡ holding h new_book) → IfOk r (λ book. book.marks ≡ [])
unmarked (Ok book) h e = ap (λ b. b.marks) e
unmarked (Err fault) h e = tt
