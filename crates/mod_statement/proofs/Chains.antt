-- One step after another of a stretch's factor and of a slack.
use Rattle.std.proofs.Common.{ℕ, ◌+◌, ◌^◌, List, Result, Ok, count_by}
use Rattle.base_decimals.specs.{declared.over.Over.Over, Decimals.add_of, Rounding.up}
use Rattle.base_coins.specs.{Steps.{◌>>=◌}, Coins.{Money, amount_of}}
use Rattle.mod_statement.specs.{declared.{entry.Entry.Entry, slack.Factor.Factor}, Entries.is_touch}
use Rattle.mod_statement.specs.{Rounding.{product_of, quotient_up_of}, Slack.rate_of}

abbrev pub one : ℕ
one = 10 ^ 18

-- ---- a stretch

abbrev pub after_part : Factor → ℕ → ℕ → Result Factor Over
after_part f rate part = add_of f.sum part >>= λ sum. Ok (record { sum = sum; rate = rate })

abbrev pub after_spread : Factor → ℕ → ℕ → ℕ → Result Factor Over
after_spread f alone rate spread = add_of alone spread >>= after_part f rate

abbrev pub after_rate : Factor → ℕ → ℕ → ℕ → Result Factor Over
after_rate f alone weight rate = quotient_up_of weight rate one >>= after_spread f alone rate

abbrev pub after_weight : List ℕ → List Entry → Factor → ℕ → ℕ → Result Factor Over
after_weight d stretch f alone weight = rate_of d 0 stretch >>= after_rate f alone weight

abbrev pub after_more : List ℕ → ℕ → List Entry → Factor → ℕ → ℕ → Result Factor Over
after_more d number stretch f alone more = product_of more number >>= after_weight d stretch f alone

abbrev pub after_alone : List ℕ → ℕ → ℕ → List Entry → Factor → ℕ → Result Factor Over
after_alone d first number stretch f alone = add_of one first >>= after_more d number stretch f alone

abbrev pub after_ended : List ℕ → ℕ → ℕ → List Entry → Factor → ℕ → Result Factor Over
after_ended d first number stretch f ended = add_of one ended >>= after_alone d first number stretch f

-- ---- a slack

abbrev pub after_overclaim : ℕ → ℕ → Result ℕ Over
after_overclaim within overclaim = add_of within overclaim >>= λ all. Ok (up all one)

abbrev pub after_within : List ℕ → ℕ → Money → ℕ → Result ℕ Over
after_within d removals ratio within = product_of (amount_of ratio d) removals >>= after_overclaim within

abbrev pub after_clamped : List ℕ → ℕ → Money → Factor → ℕ → Result ℕ Over
after_clamped d removals ratio f clamped = add_of f.sum clamped >>= after_within d removals ratio

abbrev pub after_factor : List ℕ → List Entry → ℕ → Money → Factor → Result ℕ Over
after_factor d es removals ratio f = product_of f.rate (count_by is_touch es + 2) >>= after_clamped d removals ratio f
