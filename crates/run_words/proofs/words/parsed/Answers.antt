use Rattle.std.proofs.Common.{◌≡◌, ◌∙◌, ap, sym, codes, map, string_bytes, true}
use Rattle.clap.specs.{Simple.{app_of, is_simple}, Matches.found_of, Takes.takes}
use Rattle.run_words.proofs.ClapLemmas.{any_of_texts, few_texts, found_at, six_is_simple, words_read}
use Rattle.run_words.proofs.words.parsed.Goals as goal

pub returns-in-Ok-clause-first : goal.returns-in-Ok-clause-first
returns-in-Ok-clause-first c =
    let words = map string_bytes c.args.words.now in
    let simple : is_simple (app_of c.in_ok-command.command) ≡ true = ap is_simple c.in_ok-command.ensures ∙ six_is_simple in
    found_at (codes "first") (found_of c.in-Ok.matches) (app_of c.in_ok-command.command) words _ c.in_ok-command.ensures (c.in-Ok.ensures.matches simple).0
    (words_read words (few_texts c.args.words.now c.requires.few) (sym (any_of_texts c.args.words.now) ∙ c.requires.plain)).first

pub returns-in-Ok-clause-second : goal.returns-in-Ok-clause-second
returns-in-Ok-clause-second c =
    let words = map string_bytes c.args.words.now in
    let simple : is_simple (app_of c.in_ok-command.command) ≡ true = ap is_simple c.in_ok-command.ensures ∙ six_is_simple in
    found_at (codes "second") (found_of c.in-Ok.matches) (app_of c.in_ok-command.command) words _ c.in_ok-command.ensures (c.in-Ok.ensures.matches simple).0
    (words_read words (few_texts c.args.words.now c.requires.few) (sym (any_of_texts c.args.words.now) ∙ c.requires.plain)).second

pub returns-in-Ok-clause-third : goal.returns-in-Ok-clause-third
returns-in-Ok-clause-third c =
    let words = map string_bytes c.args.words.now in
    let simple : is_simple (app_of c.in_ok-command.command) ≡ true = ap is_simple c.in_ok-command.ensures ∙ six_is_simple in
    found_at (codes "third") (found_of c.in-Ok.matches) (app_of c.in_ok-command.command) words _ c.in_ok-command.ensures (c.in-Ok.ensures.matches simple).0
    (words_read words (few_texts c.args.words.now c.requires.few) (sym (any_of_texts c.args.words.now) ∙ c.requires.plain)).third

pub returns-in-Ok-clause-fourth : goal.returns-in-Ok-clause-fourth
returns-in-Ok-clause-fourth c =
    let words = map string_bytes c.args.words.now in
    let simple : is_simple (app_of c.in_ok-command.command) ≡ true = ap is_simple c.in_ok-command.ensures ∙ six_is_simple in
    found_at (codes "fourth") (found_of c.in-Ok.matches) (app_of c.in_ok-command.command) words _ c.in_ok-command.ensures (c.in-Ok.ensures.matches simple).0
    (words_read words (few_texts c.args.words.now c.requires.few) (sym (any_of_texts c.args.words.now) ∙ c.requires.plain)).fourth

pub returns-in-Ok-clause-fifth : goal.returns-in-Ok-clause-fifth
returns-in-Ok-clause-fifth c =
    let words = map string_bytes c.args.words.now in
    let simple : is_simple (app_of c.in_ok-command.command) ≡ true = ap is_simple c.in_ok-command.ensures ∙ six_is_simple in
    found_at (codes "fifth") (found_of c.in-Ok.matches) (app_of c.in_ok-command.command) words _ c.in_ok-command.ensures (c.in-Ok.ensures.matches simple).0
    (words_read words (few_texts c.args.words.now c.requires.few) (sym (any_of_texts c.args.words.now) ∙ c.requires.plain)).fifth

pub returns-in-Ok-clause-sixth : goal.returns-in-Ok-clause-sixth
returns-in-Ok-clause-sixth c =
    let words = map string_bytes c.args.words.now in
    let simple : is_simple (app_of c.in_ok-command.command) ≡ true = ap is_simple c.in_ok-command.ensures ∙ six_is_simple in
    found_at (codes "sixth") (found_of c.in-Ok.matches) (app_of c.in_ok-command.command) words _ c.in_ok-command.ensures (c.in-Ok.ensures.matches simple).0
    (words_read words (few_texts c.args.words.now c.requires.few) (sym (any_of_texts c.args.words.now) ∙ c.requires.plain)).sixth

pub unreachable-requires : goal.unreachable-requires
unreachable-requires c =
    let words = map string_bytes c.args.words.now in
    let taken : takes (app_of c.in_ok-command.command) words ≡ true = ap (λ a. takes a words) c.in_ok-command.ensures ∙ (words_read words (few_texts c.args.words.now c.requires.few) (sym (any_of_texts c.args.words.now) ∙ c.requires.plain)).taken in
    c.in_default.not-OutOfMemory (c.kind.ensures ∙ c.in-Err.ensures.passes taken)
