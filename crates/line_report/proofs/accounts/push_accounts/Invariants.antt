use Rattle.std.proofs.Common.{◌≡◌, ◌++◌, map, option_map}
use Rattle.rule_machine.specs.Report.{accounts_in}
use Rattle.line_report.specs.{Groups.opened, Lines.{account_line, text_of}}
use Rattle.line_json.specs.Told.{coins_seen}
use Rattle.line_report.proofs.accounts.push_accounts.Given as goal

abbrev pub invariant-loop-place : goal.invariant-loop-place
invariant-loop-place l =
    l.out.items ++ text_of (map (account_line l.form) (opened (option_map (λ o. (o.account, coins_seen o.coins.items)) l.last) (accounts_in l.place-iterator)))
    ≡ l.fn.out.items ++ text_of (map (account_line l.form) (accounts_in l.balances.entries))
