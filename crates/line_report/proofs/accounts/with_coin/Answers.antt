use Rattle.std.proofs.Common.{◌≡◌, ◌∙◌, ◌++◌, ◌∷◌, [], ℕ, List, true, false, sym, ap, option_map}
use Rattle.std.proofs.lemmas.List.{map-append}
use Rattle.line_json.specs.{Line.line_of, Told.coins_seen}
use Rattle.rule_machine.specs.Report.{is_same_account}
use Rattle.line_report.{specs.Lines.account_line, proofs.AccountLemmas.{first_gathered, other_gathered, same_gathered}}
use Rattle.line_report.proofs.accounts.with_coin.Goals.{in-Some+else-eq+in_ok-push_account, in_default}
use Rattle.base_types.proofs.OrderLemmas.{account_equal, account_equal_at}
use Rattle.line_report.proofs.accounts.with_coin.Goals as goal

pub returns-then-eq-clause-next : goal.returns-then-eq-clause-next
returns-then-eq-clause-next c = λ rest.
    let same : is_same_account c.in-Some.before.account c.args.account.now ≡ true
    = sym (account_equal_at c.in-Some.before.account c.args.account.now) ∙ (sym c.eq.ensures ∙ c.if-eq.true) in
    let more : coins_seen c.push.new.self.items ≡ coins_seen c.in-Some.before.coins.items ++ (c.args.denom.now, c.args.amount) ∷ []
    = ap coins_seen c.in_ok-push.ensures.items ∙ map-append _ c.in-Some.before.coins.items ((c.args.denom, c.args.amount) ∷ []) in
    same_gathered c.args.form c.in-Some.before.account c.args.account.now (coins_seen c.in-Some.before.coins.items) _ (c.args.denom.now, c.args.amount) _ rest _
    same more (ap (option_map (λ o. (o.account, coins_seen o.coins.items))) c.in-Some.is)

pub returns-clause-next : goal.returns-clause-next
returns-clause-next c = λ rest. elim c.match-last.branch [
  | in-Some+else-eq+in_ok-push_account w ↦
      let coin : List ℕ × ℕ = (c.args.denom.now, c.args.amount) in
      let other : account_equal w.in-Some.before.account c.args.account.now ≡ false = sym w.eq.ensures ∙ w.if-eq.false in
      let one : coins_seen c.push-2.new.self.items ≡ coin ∷ []
      = ap coins_seen (c.in_ok-push-2.ensures.items ∙ ap (λ xs. xs ++ (c.args.denom, c.args.amount) ∷ []) (ap (λ v. v.items) w.coins-is ∙ w.clear.ensures.items)) in
      other_gathered c.args.form w.in-Some.before.account c.args.account.now (coins_seen w.in-Some.before.coins.items) (coins_seen c.push-2.new.self.items) coin
      (option_map (λ o. (o.account, coins_seen o.coins.items)) c.args.last) rest c.args.out.now.items c.match-last.out.items
      other one (ap (option_map (λ o. (o.account, coins_seen o.coins.items))) w.in-Some.is)
      (ap (λ v. v.items) w.out-is ∙ (w.in_ok-push_account.ensures.ok
      ∙ ap (λ coins. c.args.out.now.items ++ line_of (account_line c.args.form (w.in-Some.before.account, coins_seen coins))) w.deref.ensures.value))
  | in_default w ↦
      let coin : List ℕ × ℕ = (c.args.denom.now, c.args.amount) in
      let one : coins_seen c.push-2.new.self.items ≡ coin ∷ []
      = ap coins_seen (c.in_ok-push-2.ensures.items ∙ ap (λ xs. xs ++ (c.args.denom, c.args.amount) ∷ []) (ap (λ v. v.items) w.coins-is ∙ c.new-coins.ensures.items)) in
      first_gathered c.args.form c.args.account.now (coins_seen c.push-2.new.self.items) coin
      (option_map (λ o. (o.account, coins_seen o.coins.items)) c.args.last) rest c.args.out.now.items c.match-last.out.items
      one (ap (option_map (λ o. (o.account, coins_seen o.coins.items))) w.in_default.is) (ap (λ v. v.items) w.out-is)
]
