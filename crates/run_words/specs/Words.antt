-- The words that are a command, and what each asks for.
use Rattle.std.specs.Prelude.{ℕ, ◌^◌, ◌==◌, ◌&&◌, Bool, true, false, nat_lt, nat_le, if◌then◌else◌, List, [], ◌∷◌, bytes_eq, codes, slice_index, Option, Some, None, option_and_then, option_map}
use Rattle.base_bech32.specs.declared.form.Form.{Form}
use Rattle.base_bech32.specs.declared.form.Form.TheVariants.{Hex, Bech32}
use Rattle.base_decimals.specs.Texts.{number_of}
use Rattle.base_types.specs.declared.account.Account.{Account}
use Rattle.line_json.specs.Addresses.{account_in, operator_asked}
use Rattle.run_words.specs.declared.mode.Command.{Command}
use Rattle.run_words.specs.declared.mode.Mode.{Mode}
use Rattle.run_words.specs.declared.mode.Mode.TheVariants as mode
use Rattle.run_words.specs.Questions.{address_asked, kind_asked}

-- a word that begins with a hyphen (45)
abbrev pub is_option : List ℕ → Bool
is_option word = slice_index word 0 == 45

-- a word that begins with the digit 0 (48)
abbrev pub begins_with_zero : List ℕ → Bool
begins_with_zero word = slice_index word 0 == 48

-- a seed: 1 to 20 digits, below 2^64
abbrev pub seed_of : List ℕ → Option ℕ
seed_of word = option_and_then (λ n. if nat_lt n (2 ^ 64) then Some n else None) (number_of 20 word)

-- how many blocks: from 1 to 100,000, without zeros in front
abbrev pub count_of : List ℕ → Option ℕ
count_of word =
    if begins_with_zero word then None
    else option_and_then (λ n. if nat_le 1 n && nat_le n 100000 then Some n else None) (number_of 6 word)

-- at how many blocks commits are made: from 1 to 1,000,000, without zeros in front
abbrev pub every_of : List ℕ → Option ℕ
every_of word =
    if begins_with_zero word then None
    else option_and_then (λ n. if nat_le 1 n && nat_le n 1000000 then Some n else None) (number_of 7 word)

-- the height that the digit 0 alone spells
abbrev pub zero_of : List ℕ → Option ℕ
zero_of word = if bytes_eq word (codes "0") then Some 0 else None

-- a height: digits without zeros in front, at most 2^63 - 1
abbrev pub height_of : List ℕ → Option ℕ
height_of word =
    if begins_with_zero word then zero_of word
    else option_and_then (λ n. if nat_lt n (2 ^ 63) then Some n else None) (number_of 19 word)

-- a command that has a seed and a number of blocks
abbrev pub with_input : (ℕ → ℕ → Mode) → Option ℕ → Option ℕ → Option Mode
with_input form (Some seed) (Some count) = Some (form seed count)
with_input form (Some seed) None = None
with_input form None count = None

-- the command of this name that has a seed and a number of blocks
abbrev pub generating : List ℕ → List ℕ → List ℕ → Option Mode
generating name seed count =
    if bytes_eq name (codes "gen") then with_input mode.Gen (seed_of seed) (count_of count)
    else (if bytes_eq name (codes "trial") then with_input mode.Trial (seed_of seed) (count_of count) else None)

-- the command of this name that commits
abbrev pub committing : List ℕ → Option Mode
committing name =
    if bytes_eq name (codes "replay") then Some mode.Replay
    else (if bytes_eq name (codes "resume") then Some mode.Resume else None)

-- the command of this name alone
abbrev pub alone : List ℕ → Option Mode
alone name =
    if bytes_eq name (codes "tally") then Some mode.Tally
    else (if bytes_eq name (codes "check") then Some mode.Check else committing name)

-- the command of this name with one word
abbrev pub with_word : List ℕ → List ℕ → Option Mode
with_word name what = if bytes_eq name (codes "query") then option_map mode.Query (kind_asked what) else None

-- a query of this name, with two words, of which one is an address in this form
abbrev pub asking : Form → List ℕ → List ℕ → List ℕ → Option Mode
asking form name first second =
    if bytes_eq name (codes "query") then option_map mode.Query (address_asked form first second)
    else None

-- the statements of a delegator and of an operator, each of which may be a module
abbrev pub of_pair : Option Account → Option Account → Option Mode
of_pair (Some delegator) (Some operator) = Some (mode.Statement delegator operator)
of_pair (Some delegator) None = None
of_pair None operator = None

-- the command of this name with two words, of which some may be addresses in this form
abbrev pub with_words : Form → List ℕ → List ℕ → List ℕ → Option Mode
with_words form name first second =
    if bytes_eq name (codes "query") then option_map mode.Query (address_asked form first second)
    else (if bytes_eq name (codes "statement") then of_pair (account_in form first) (operator_asked form second)
    else generating name first second)

-- `replay`; `resume`; `tally`; `check`; `query` with a kind; `query` with a kind and an address in this form;
-- `statement` with the addresses of a delegator and an operator; `gen SEED COUNT`; `trial SEED COUNT`; and no other words
abbrev pub mode_of : Form → List (List ℕ) → Option Mode
mode_of form [] = None
mode_of form (name ∷ []) = alone name
mode_of form (name ∷ first ∷ []) = with_word name first
mode_of form (name ∷ first ∷ second ∷ []) = with_words form name first second
mode_of form (name ∷ first ∷ second ∷ other ∷ others) = None

-- ---- the words before a command

-- a word that tells that addresses are spelled as explorers print them
abbrev pub is_bech32 : List ℕ → Bool
is_bech32 word = bytes_eq word (codes "bech32")

-- a word that tells that what commits replace is kept
abbrev pub is_keep : List ℕ → Bool
is_keep word = bytes_eq word (codes "keep")

-- a word behind which the number of blocks stands at which commits are made
abbrev pub is_every : List ℕ → Bool
is_every word = bytes_eq word (codes "every")

-- a word behind which a height stands
abbrev pub is_past : List ℕ → Bool
is_past word = bytes_eq word (codes "past")

-- the command, which keeps nothing that it replaces, commits at each block and asks nothing of the past
abbrev pub plain : Form → Option Mode → Option Command
plain form found =
    option_map (λ m. record { form = form; keep = false; every = 1; past = None; mode = m }) found

-- the command, which keeps what it replaces, of each block
abbrev pub keeping : Form → Option Mode → Option Command
keeping form found =
    option_map (λ m. record { form = form; keep = true; every = 1; past = None; mode = m }) found

-- the command, which commits once for so many blocks
abbrev pub grouping : Form → Option ℕ → Option Mode → Option Command
grouping form (Some every) (Some m) =
    Some (record { form = form; keep = false; every = every; past = None; mode = m })
grouping form (Some every) None = None
grouping form None found = None

-- the command, which asks of the past at this height
abbrev pub at_height : Form → Option ℕ → Option Mode → Option Command
at_height form (Some height) (Some m) =
    Some (record { form = form; keep = false; every = 1; past = Some height; mode = m })
at_height form (Some height) None = None
at_height form None found = None

-- behind `keep`: `replay` or `resume`
abbrev pub kept_mode : List (List ℕ) → Option Mode
kept_mode [] = None
kept_mode (name ∷ []) = committing name
kept_mode (name ∷ other ∷ others) = None

-- behind `every`: a number of blocks, and `replay` or `resume`
abbrev pub every_mode : Form → List (List ℕ) → Option Command
every_mode form [] = None
every_mode form (every ∷ []) = None
every_mode form (every ∷ name ∷ []) = grouping form (every_of every) (committing name)
every_mode form (every ∷ name ∷ other ∷ others) = None

-- behind `past`: a height, and `query` with a kind, or with a kind and an address
abbrev pub past_of : Form → List (List ℕ) → Option Command
past_of form [] = None
past_of form (height ∷ []) = None
past_of form (height ∷ name ∷ []) = None
past_of form (height ∷ name ∷ what ∷ []) =
    at_height form (height_of height) (with_word name what)
past_of form (height ∷ name ∷ what ∷ text ∷ []) =
    at_height form (height_of height) (asking form name what text)
past_of form (height ∷ name ∷ what ∷ text ∷ other ∷ others) = None

-- `keep`, or `every` with a number of blocks, may stand before `replay` and `resume`, and `past` with a height before `query`
abbrev pub behind_form : Form → List (List ℕ) → Option Command
behind_form form [] = None
behind_form form (word ∷ words) =
    if is_keep word then keeping form (kept_mode words)
    else (if is_every word then every_mode form words
    else (if is_past word then past_of form words
    else plain form (mode_of form (word ∷ words))))

-- `bech32` may stand before all other words; without it addresses are hexadecimal
abbrev pub command_of : List (List ℕ) → Option Command
command_of [] = None
command_of (word ∷ words) =
    if is_bech32 word then behind_form Bech32 words else behind_form Hex (word ∷ words)

-- ---- the same by what stands at the places

-- what stands at a place, if anything does
abbrev pub Place : Type 0
Place = Option (List ℕ)

abbrev pub mode_at : Form → Place → Place → Place → Place → Option Mode
mode_at form (Some name) None None None = alone name
mode_at form (Some name) (Some first) None None = with_word name first
mode_at form (Some name) (Some first) (Some second) None = with_words form name first second
mode_at form _ _ _ _ = None

abbrev pub kept_at : Place → Place → Option Mode
kept_at (Some name) None = committing name
kept_at _ _ = None

abbrev pub every_at : Form → Place → Place → Place → Option Command
every_at form (Some every) (Some name) None = grouping form (every_of every) (committing name)
every_at form _ _ _ = None

abbrev pub past_at : Form → Place → Place → Place → Place → Place → Option Command
past_at form (Some height) (Some name) (Some what) None None =
    at_height form (height_of height) (with_word name what)
past_at form (Some height) (Some name) (Some what) (Some text) None =
    at_height form (height_of height) (asking form name what text)
past_at form _ _ _ _ _ = None

abbrev pub behind_at : Form → Place → Place → Place → Place → Place → Place → Option Command
behind_at form None second third fourth fifth sixth = None
behind_at form (Some word) second third fourth fifth sixth =
    if is_keep word then keeping form (kept_at second third)
    else (if is_every word then every_at form second third fourth
    else (if is_past word then past_at form second third fourth fifth sixth
    else plain form (mode_at form (Some word) second third fourth)))

abbrev pub command_at : Place → Place → Place → Place → Place → Place → Option Command
command_at None second third fourth fifth sixth = None
command_at (Some word) second third fourth fifth sixth =
    if is_bech32 word then behind_at Bech32 second third fourth fifth sixth None
    else behind_at Hex (Some word) second third fourth fifth sixth
