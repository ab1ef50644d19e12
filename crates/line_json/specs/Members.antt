-- The members of an object, each with its number and its form.
use Rattle.std.specs.Prelude.{ℕ, ◌^◌, List, map, bytes_eq, Bool, true, ◌&&◌, nat_lt, if◌then◌else◌, Option, Some, None, option_and_then, option_map, Result, Ok, ⊤}
use Rattle.std.specs.List.{list_any}
use Rattle.std.specs.Borrow.{Bor}
use Rattle.serde_json.specs.Data.{Data, Members, no_members, member}
use Rattle.serde_json.specs.Find.{get, as_bool, as_number, as_u64, as_str, as_object}
use Rattle.base_decimals.specs.Texts as texts
use Rattle.base_types.specs.declared.account.Account.{Account}
use Rattle.base_types.specs.Denom.{denom_of}
use Rattle.base_types.specs.Moment.{moment_of}
use Rattle.base_bech32.specs.declared.form.Form.{Form}
use Rattle.base_coins.specs.Steps.{◌>>=◌}
use Rattle.base_messages.specs.declared.faults.LineFault.{LineFault}
use Rattle.base_messages.specs.declared.faults.LineFault.TheVariants.{BadShape}
use Rattle.line_json.specs.Addresses.{account_in, cons_in, operator_in, user_in}
use Rattle.line_json.specs.Reading.{or_fault}

-- ---- forms

-- the number of 64 bits that a tree is
abbrev pub as_count : Data → Option ℕ
as_count d = option_and_then as_u64 (as_number d)

-- a whole number below 2^63, written with digits alone
abbrev pub number_in : Data → Option ℕ
number_in d = option_and_then (λ n. if nat_lt n (2 ^ 63) then Some n else None) (as_count d)

-- the whole amount that 1 to 38 digits spell
abbrev pub amount_of : List ℕ → Option ℕ
amount_of text = texts.number_of 38 text

-- what a string spells
abbrev pub spelled_by : {A : Type 0} → (List ℕ → Option A) → Data → Option A
spelled_by form d = option_and_then form (as_str d)

-- the string of this word
abbrev pub this_word : List ℕ → List ℕ → Option ⊤
this_word word text = if bytes_eq text word then Some tt else None

-- ---- members

-- the member of this name, which has to be there and of the form, else the fault has its number
abbrev pub member_at : {A : Type 0} → (Data → Option A) → ℕ → List ℕ → Data → Result A LineFault
member_at form number name d = or_fault (BadShape number) (option_and_then form (get name d))

-- a value of the form where there is one
abbrev pub form_if_there : {A : Type 0} → (Data → Option A) → ℕ → Option Data → Result (Option A) LineFault
form_if_there form number None = Ok None
form_if_there form number (Some d) = or_fault (BadShape number) (form d) >>= λ x. Ok (Some x)

-- the member of this name, which may be missing; where it is there, it has to be of the form
abbrev pub optional_at : {A : Type 0} → (Data → Option A) → ℕ → List ℕ → Data → Result (Option A) LineFault
optional_at form number name d = form_if_there form number (get name d)

-- a whole number
abbrev pub number_at : ℕ → List ℕ → Data → Result ℕ LineFault
number_at = member_at number_in

-- a string of 1 to 38 digits
abbrev pub amount_at : ℕ → List ℕ → Data → Result ℕ LineFault
amount_at = member_at (spelled_by amount_of)

-- a string that spells a decimal, in units of 10^-18
abbrev pub decimal_at : ℕ → List ℕ → Data → Result ℕ LineFault
decimal_at = member_at (spelled_by texts.dec_of)

-- a string that spells a moment
abbrev pub moment_at : ℕ → List ℕ → Data → Result ℕ LineFault
moment_at = member_at (spelled_by moment_of)

-- a string that names a denomination
abbrev pub denom_at : ℕ → List ℕ → Data → Result (List ℕ) LineFault
denom_at = member_at (spelled_by denom_of)

-- a string that is the text of a user's address
abbrev pub user_at : Form → ℕ → List ℕ → Data → Result (List ℕ) LineFault
user_at f = member_at (spelled_by (user_in f))

-- a string that is the text of an operator's address
abbrev pub operator_at : Form → ℕ → List ℕ → Data → Result (List ℕ) LineFault
operator_at f = member_at (spelled_by (operator_in f))

-- a string that is the text of the address of a user or of a module
abbrev pub account_at : Form → ℕ → List ℕ → Data → Result Account LineFault
account_at f = member_at (spelled_by (account_in f))

-- a string that is the text of a consensus address
abbrev pub cons_at : Form → ℕ → List ℕ → Data → Result (List ℕ) LineFault
cons_at f = member_at (spelled_by (cons_in f))

-- true or false
abbrev pub flag_at : ℕ → List ℕ → Data → Result Bool LineFault
flag_at = member_at as_bool

-- the string of this word
abbrev pub word_at : ℕ → List ℕ → List ℕ → Data → Result ⊤ LineFault
word_at number name word = member_at (spelled_by (this_word word)) number name

-- ---- no other members

-- what names in the code point to
abbrev pub texts_of : List (Bor (List ℕ)) → List (List ℕ)
texts_of names = map (λ name. name.now) names

-- the name is one of these
abbrev pub is_among : List (List ℕ) → List ℕ → Bool
is_among names name = list_any (λ known. bytes_eq known name) names

-- each member has one of these names
abbrev pub are_among : List (List ℕ) → Members → Bool
are_among names no_members = true
are_among names (member name d ms) = is_among names name && are_among names ms

-- whether each member has one of these names, where there are members
abbrev pub named_among : List (List ℕ) → Data → Option Bool
named_among names d = option_map (are_among names) (as_object d)

-- an object that has no member of another name; the fault of another has the number 0
abbrev pub only_named : List (List ℕ) → Data → Result ⊤ LineFault
only_named names d = or_fault (BadShape 0) (option_and_then (λ ms. if are_among names ms then Some tt else None) (as_object d))
