use Rattle.std.proofs.Common.{rules, ◌≡◌, ◌∙◌, ap, ap₂, codes}
use Rattle.std.proofs.lemmas.Result.{IfOk-weaker}
use Rattle.clap.specs.{Walk.rule_of, Simple.{app_of, app_of_fields, new_app, new_rule, with_rule}}
use Rattle.run_words.specs.Line.{without_own_name}
use Rattle.run_words.proofs.words.command_line.Goals as goal

pub returns : goal.returns
returns c =
    let first : rule_of c.new-2.result ≡ new_rule (codes "first") = search rules in
    let second : rule_of c.new-3.result ≡ new_rule (codes "second") = search rules in
    let third : rule_of c.new-4.result ≡ new_rule (codes "third") = search rules in
    let fourth : rule_of c.new-5.result ≡ new_rule (codes "fourth") = search rules in
    let fifth : rule_of c.new-6.result ≡ new_rule (codes "fifth") = search rules in
    let sixth : rule_of c.new-7.result ≡ new_rule (codes "sixth") = search rules in
    let none : app_of c.no_binary_name.result ≡ without_own_name (new_app (codes "stakeplay")) = ap app_of_fields c.no_binary_name.ensures ∙ ap without_own_name c.new.ensures.app in
    let one = c.in_ok-arg.ensures.shape (search rules) ∙ ap₂ with_rule none first in
    let two = c.in_ok-arg-2.ensures.shape (search rules) ∙ ap₂ with_rule one second in
    let three = c.in_ok-arg-3.ensures.shape (search rules) ∙ ap₂ with_rule two third in
    let four = c.in_ok-arg-4.ensures.shape (search rules) ∙ ap₂ with_rule three fourth in
    let five = c.in_ok-arg-5.ensures.shape (search rules) ∙ ap₂ with_rule four fifth in
    IfOk-weaker c.arg-6.result _ _ (λ r h. h.shape (search rules) ∙ ap₂ with_rule five sixth) c.arg-6.ensures
