-- What steps tell and log: each entry is fair by the log up to it, and the payments that are told are those that are logged.
use Rattle.std.proofs.Common.{◌≡◌, ℕ, ◌==◌, Bool, true, false, cond, List, [], ◌∷◌, ◌++◌, refl, sym, ap, subst, ◌∙◌, Option, Some, None, Result, Ok, append-nil, append_assoc, if◌then◌else◌}
use Rattle.base_decimals.specs.declared.over.Over.{Over}
use Rattle.base_types.specs.declared.account.{Account.{Account as Holder}, Module.Module}
use Rattle.base_types.specs.declared.account.Account.TheVariants as account
use Rattle.base_types.specs.declared.account.Module.TheVariants as holder
use Rattle.base_coins.specs.Coins.{Money, whole_coins, fractions}
use Rattle.base_shares.specs.Shares.{value_cut_of}
use Rattle.base_roles.specs.declared.{entities.Validator.Validator, facts.Fact.Fact}
use Rattle.base_roles.specs.{Holdings.{transfer_told, burn_told}, Log.{Log, LogEntry}}
use Rattle.base_roles.specs.{Staked.{validator_at, delegation}, Flow.{◌>>=◌}, World.{View, gives, noted}}
use Rattle.base_roles.specs.declared.facts.Fact.TheVariants as fact
use Rattle.base_roles.specs.Log as log
use Rattle.rule_modules.specs.{Amounts.{is_empty, over_facts}, Chain.State, Delegating.hook_before}
use Rattle.rule_modules.specs.Distribution.{Shared, distribution_told, ended, started, current_taken, reward_withdrawn, payee_of}
use Rattle.rule_modules.specs.Ideal.{span_of, history_of}
use Rattle.rule_modules.specs.Periods.{Periods, periods_of, with_periods, period_ended, last_ended}
use Rattle.rule_modules.specs.Purses.{Purses, purse_of, pooled_told}
use Rattle.law_rewards.specs.States.{AreReached}
use Rattle.law_rewards.specs.Withdrawals.{IsFairEntry, AreInTurn, AreFair, IsFairReward, reward_paid, coins_paid, paid_by, payments_of, is_payment, payments_in, IsSent, AreSent}
use Rattle.law_rewards.{specs.WithdrawalLaws.IsFairWithdrawal, proofs.Following.{now_is, own_addr}}
use Rattle.law_rewards.proofs.{Denominations.step_parts, Claims.IsReady, Quiet.same_ok, Hooked.answer_of}
use Rattle.law_rewards.proofs.{Entries.history_behind, Withdrawing.{IsMade, made_is, fair_withdrawal, fair_reward}}

-- ---- facts and entries one behind the other

-- Behind this log and these facts come those: each entry that is added is fair, the payments that are told are those of
-- the withdrawals that are logged, and each is sent.
pub record Pays (l : Log) (fs : List Fact) (k : Log) (gs : List Fact) : Type 0 where
  pub more : Log
  pub log_is : k ≡ l ++ more
  pub told : List Fact
  pub facts_are : gs ≡ fs ++ told
  pub fair : AreFair l more
  pub payments : payments_in told ≡ payments_of more
  pub sent : AreSent fs told

pub in_turn_joined : {A : Type 0} (P : List A → A → Type 0) (before a b : List A) → AreInTurn P before a → AreInTurn P (before ++ a) b → AreInTurn P before (a ++ b)
in_turn_joined P before [] b h k = subst (λ m. AreInTurn P m b) (append-nil before) k
in_turn_joined P before (x ∷ a) b h k =
    (h.0, in_turn_joined P (before ++ x ∷ []) a b h.1 (subst (λ m. AreInTurn P m b) (sym (append_assoc before (x ∷ []) a)) k))

pub fair_joined : (l a b : Log) → AreFair l a → AreFair (l ++ a) b → AreFair l (a ++ b)
fair_joined l a b h k = in_turn_joined (λ before e. IsFairEntry before e.0 e.1) l a b h k

pub sent_joined : (fs a b : List Fact) → AreSent fs a → AreSent (fs ++ a) b → AreSent fs (a ++ b)
sent_joined fs a b h k = in_turn_joined IsSent fs a b h k

pub told_joined : (fs gs : List Fact) → payments_in (fs ++ gs) ≡ payments_in fs ++ payments_in gs
told_joined [] gs = refl
told_joined (f ∷ fs) gs = by (is_payment f) (told_joined fs gs)
  where
    by : (b : Bool) → payments_in (fs ++ gs) ≡ payments_in fs ++ payments_in gs → cond b (f ∷ payments_in (fs ++ gs)) (payments_in (fs ++ gs)) ≡ cond b (f ∷ payments_in fs) (payments_in fs) ++ payments_in gs
    by true rest = ap (λ hs. f ∷ hs) rest
    by false rest = rest

pub logged_joined : (a b : Log) → payments_of (a ++ b) ≡ payments_of a ++ payments_of b
logged_joined [] b = refl
logged_joined (e ∷ a) b = ap (λ fs. paid_by e.0 e.1 ++ fs) (logged_joined a b) ∙ sym (append_assoc (paid_by e.0 e.1) (payments_of a) (payments_of b))

-- what is told and logged in two parts
pub payments_joined : (fs gs : List Fact) (a b : Log) → payments_in fs ≡ payments_of a → payments_in gs ≡ payments_of b → payments_in (fs ++ gs) ≡ payments_of (a ++ b)
payments_joined fs gs a b h k = told_joined fs gs ∙ ap (λ x. x ++ payments_in gs) h ∙ ap (λ x. payments_of a ++ x) k ∙ sym (logged_joined a b)

pub pays_then : (l k m : Log) (fs gs hs : List Fact) → Pays l fs k gs → Pays k gs m hs → Pays l fs m hs
pays_then l k m fs gs hs a b = record {
  more = a.more ++ b.more;
  log_is = b.log_is ∙ ap (λ x. x ++ b.more) a.log_is ∙ append_assoc l a.more b.more;
  told = a.told ++ b.told;
  facts_are = b.facts_are ∙ ap (λ x. x ++ b.told) a.facts_are ∙ append_assoc fs a.told b.told;
  fair = fair_joined l a.more b.more a.fair (subst (λ x. AreFair x b.more) a.log_is b.fair);
  payments = payments_joined a.told b.told a.more b.more a.payments b.payments;
  sent = sent_joined fs a.told b.told a.sent (subst (λ x. AreSent x b.told) a.facts_are b.sent);
}

pub pays_nothing : (l : Log) (fs : List Fact) → Pays l fs l fs
pays_nothing l fs = record { more = []; log_is = sym (append-nil l); told = []; facts_are = sym (append-nil fs); fair = tt; payments = refl; sent = tt }

-- entries that are fair, and no withdrawals
pub pays_logged : (l more : Log) (fs : List Fact) → AreFair l more → payments_of more ≡ [] → Pays l fs (l ++ more) fs
pays_logged l more fs fair none = record { more = more; log_is = refl; told = []; facts_are = sym (append-nil fs); fair = fair; payments = sym none; sent = tt }

-- a fact of something else
abbrev pub IsOther : Fact → Type 0
IsOther f = (who op to : List ℕ) (reward : Money) (coins : Money) → f ≡ fact.Paid who op to reward coins → ⊥

-- it is no payment, and so not sent as one
none_told : (f : Fact) → IsOther f → (payments_in (f ∷ []) ≡ []) × ((fs : List Fact) → IsSent fs f)
none_told (fact.Paid who op to reward coins) other = absurd (other who op to reward coins refl)
none_told f other = (refl, λ fs. tt)

pub pays_noted : (l : Log) (fs : List Fact) (f : Fact) → IsOther f → Pays l fs l (fs ++ f ∷ [])
pays_noted l fs f other = record { more = []; log_is = sym (append-nil l); told = f ∷ []; facts_are = refl; fair = tt; payments = (none_told f other).0; sent = ((none_told f other).1 fs, tt) }

pub pays_sent : (l : Log) (from to : Holder) (coins : Money) (fs : List Fact) → Pays l fs l (transfer_told from to coins fs)
pays_sent l from to [] fs = pays_nothing l fs
pays_sent l from to (c ∷ cs) fs = pays_noted l fs (fact.Transfer from to (c ∷ cs)) (λ who op t reward coins e. cc)

pub pays_burnt : (l : Log) (from : Module) (d : List ℕ) (n : ℕ) (fs : List Fact) → Pays l fs l (burn_told from d n fs)
pays_burnt l from d n fs = by (n == 0)
  where
    by : (b : Bool) → Pays l fs l (if b then fs else fs ++ fact.Burn from (record { denom = d; amount = n }) ∷ [])
    by true = pays_nothing l fs
    by false = pays_noted l fs (fact.Burn from (record { denom = d; amount = n })) (λ who op t reward coins e. cc)

pub pays_pooled : (l : Log) (coins : Money) (fs : List Fact) → Pays l fs l (pooled_told coins fs)
pays_pooled l coins fs = by (is_empty coins)
  where
    by : (b : Bool) → Pays l fs l (if b then fs else fs ++ fact.Pooled coins ∷ [])
    by true = pays_nothing l fs
    by false = pays_noted l fs (fact.Pooled coins) (λ who op t reward cs e. cc)

-- ---- rules of distribution

abbrev pub ended_with : Validator → Shared → View → Money × Money × Purses → Money × Periods → ℕ × Shared × View × Log
ended_with v d u t r = (
  last_ended r.1,
  record d { rewards = with_periods v.operator r.1 d.rewards; purses = t.2 },
  noted (fact.Period v.operator (last_ended r.1) r.0) (over_facts (pooled_told t.1) u),
  (v.operator, log.ended (last_ended r.1) t.0 v.tokens) ∷ [],
)

pub pays_ended : (l : Log) (v : Validator) (d : Shared) (u : View) (z : ℕ × Shared × View × Log) → ended v d u ≡ Ok z → Pays l u.facts (l ++ z.3) z.2.facts
pays_ended l v d u z e =
    let p : Periods = periods_of d.rewards v.operator in
    let one : (t : Money × Money × Purses) × (current_taken v d.purses ≡ Ok t) × ((period_ended t.0 p >>= λ r. Ok (ended_with v d u t r)) ≡ Ok z) =
    step_parts (current_taken v d.purses) (λ t. period_ended t.0 p >>= λ r. Ok (ended_with v d u t r)) z e in
    let t : Money × Money × Purses = one.0 in
    let two : (r : Money × Periods) × (period_ended t.0 p ≡ Ok r) × (Path (Result (ℕ × Shared × View × Log) Over) (Ok (ended_with v d u t r)) (Ok z)) =
    step_parts (period_ended t.0 p) (λ r. Ok (ended_with v d u t r)) z one.2 in
    let out : ℕ × Shared × View × Log = ended_with v d u t two.0 in
    let pooled : List Fact = pooled_told t.1 u.facts in
    let told : Pays l u.facts l out.2.facts =
    pays_then l l l u.facts pooled out.2.facts (pays_pooled l t.1 u.facts) (pays_noted l pooled (fact.Period v.operator (last_ended two.0.1) two.0.0) (λ who op to reward coins h. cc)) in
    subst (λ q. Pays l u.facts (l ++ q.3) q.2.facts) (same_ok out z two.2) (pays_then l l (l ++ out.3) u.facts out.2.facts out.2.facts told (pays_logged l out.3 out.2.facts (tt, tt) refl))

-- a start of a delegation whose rewards do not run
pub pays_started : (l : Log) (v : Validator) (who : List ℕ) (shares : ℕ) (d : Shared) (u : View) → span_of who (history_of v.operator l []) None ≡ None
    → Pays l u.facts (l ++ (started v who shares d u).2) (started v who shares d u).1.facts
pays_started l v who shares d u rests =
    let s : Shared × View × Log = started v who shares d u in
    pays_then l l (l ++ s.2) u.facts s.1.facts s.1.facts
    (pays_noted l u.facts (fact.Started who v.operator (last_ended (periods_of d.rewards v.operator)) (value_cut_of v.tokens v.shares shares)) (λ w op to reward coins h. cc)) (pays_logged l s.2 s.1.facts (rests, tt) refl)

-- a withdrawal that is logged and told, behind what is sent
pays_paid : (l : Log) (fs : List Fact) (who op to : List ℕ) (full outstanding : Money) (first : List Fact) → IsFairReward l who op full outstanding
    → fs ≡ pooled_told (fractions (reward_paid full outstanding)) (transfer_told (account.Module holder.Distribution) (account.User to) (coins_paid full outstanding) first)
    → Pays l fs (l ++ (op, log.withdrawn who to full outstanding) ∷ []) (fs ++ fact.Paid who op to (reward_paid full outstanding) (coins_paid full outstanding) ∷ [])
pays_paid l fs who op to full outstanding first fair is = record {
  more = (op, log.withdrawn who to full outstanding) ∷ [];
  log_is = refl;
  told = fact.Paid who op to (reward_paid full outstanding) (coins_paid full outstanding) ∷ [];
  facts_are = refl;
  fair = (fair, tt);
  payments = refl;
  sent = ((first, is), tt);
}

pub pays_withdrawn : (w : State) (v : Validator) (who : List ℕ) (shares : ℕ) (y : Money × Shared × View × Log) → IsReady w v.operator → validator_at w.mine.staked v.operator ≡ Some v
    → delegation w.mine.staked who v.operator ≡ Some shares → AreReached w → reward_withdrawn v who shares w.hooks.0 w.view ≡ Ok y → Pays w.log w.view.facts (w.log ++ y.3) y.2.facts
pays_withdrawn w v who shares y ready found held reached e =
    let k : IsFairWithdrawal w v who shares y = fair_withdrawal w v who shares y ready found held reached e in
    let l : Log = w.log ++ k.more in
    let to : List ℕ = payee_of k.closed who in
    let left : Money = (purse_of k.closed.purses v.operator).outstanding in
    let m : Log = (v.operator, log.withdrawn who to k.full left) ∷ [] in
    let sent_facts : List Fact = transfer_told (account.Module holder.Distribution) (account.User to) y.0 k.ground.facts in
    let pooled : List Fact = pooled_told (fractions k.reward) sent_facts in
    let paid : List Fact = pooled ++ fact.Paid who v.operator to (reward_paid k.full left) (coins_paid k.full left) ∷ [] in
    let coins : y.0 ≡ coins_paid k.full left = k.coins_are ∙ ap whole_coins k.reward_is in
    let last : pooled ++ fact.Paid who v.operator to k.reward y.0 ∷ [] ≡ paid = λ i. pooled ++ fact.Paid who v.operator to (k.reward_is i) (coins i) ∷ [] in
    let behind : pooled ≡ pooled_told (fractions (reward_paid k.full left)) (transfer_told (account.Module holder.Distribution) (account.User to) (coins_paid k.full left) k.ground.facts) =
    λ i. pooled_told (fractions (k.reward_is i)) (transfer_told (account.Module holder.Distribution) (account.User to) (coins i) k.ground.facts) in
    let first : Pays w.log w.view.facts l k.ground.facts = pays_ended w.log v w.hooks.0 w.view (k.period, k.closed, k.ground, k.more) k.ends in
    let rest : Pays l k.ground.facts (l ++ m) paid =
    pays_then l l (l ++ m) k.ground.facts sent_facts paid (pays_sent l (account.Module holder.Distribution) (account.User to) y.0 k.ground.facts)
    (pays_then l l (l ++ m) sent_facts pooled paid (pays_pooled l (fractions k.reward) sent_facts) (pays_paid l pooled who v.operator to k.full left k.ground.facts (fair_reward w v who shares y k) behind)) in
    let all : Pays w.log w.view.facts (l ++ m) paid = pays_then w.log l (l ++ m) w.view.facts k.ground.facts paid first rest in
    let logged : l ++ m ≡ w.log ++ y.3 = append_assoc w.log k.more m ∙ ap (λ x. w.log ++ x) (sym k.logged) in
    let told : paid ≡ y.2.facts = sym last ∙ ap (λ u. u.facts) (sym k.told) in
    subst (λ n. Pays w.log w.view.facts n y.2.facts) logged (subst (λ fs. Pays w.log w.view.facts (l ++ m) fs) told all)

-- behind it the rewards do not run
pub withdrawn_rests : (v : Validator) (who : List ℕ) (shares : ℕ) (s : Shared) (u : View) (y : Money × Shared × View × Log) (l : Log) → reward_withdrawn v who shares s u ≡ Ok y
    → span_of who (history_of v.operator (l ++ y.3) []) None ≡ None
withdrawn_rests v who shares s u y l e =
    let k : IsMade v who shares s u y = made_is v who shares s u y e in
    let entry : LogEntry = log.withdrawn who (payee_of k.z.1 who) k.full (purse_of k.z.1.purses v.operator).outstanding in
    let before : Log = l ++ k.z.3 in
    let es : List LogEntry = history_of v.operator before [] in
    let logged : y.3 ≡ k.z.3 ++ (v.operator, entry) ∷ [] = ap (λ x. x.3) k.answer_is in
    let history : history_of v.operator (l ++ y.3) [] ≡ es ++ entry ∷ [] =
    ap (λ x. history_of v.operator (l ++ x) []) logged ∙ ap (λ x. history_of v.operator x []) (sym (append_assoc l k.z.3 ((v.operator, entry) ∷ []))) ∙ history_behind v.operator before entry [] in
    ap (λ x. span_of who x None) history ∙ now_is who es entry (span_of who es None) refl ∙ ap (λ b. cond b None (span_of who es None)) (own_addr who)

-- the hook before a delegation
pub pays_before : (w : State) (v : Validator) (who : List ℕ) (z : Shared × View × Log) → IsReady w v.operator → validator_at w.mine.staked v.operator ≡ Some v → AreReached w
    → distribution_told w.hooks.0 (hook_before v who (delegation w.mine.staked who v.operator)) w.view ≡ gives z.0 z.1 z.2 → Pays w.log w.view.facts (w.log ++ z.2) z.1.facts
pays_before w v who z ready found reached e = by (delegation w.mine.staked who v.operator) refl e
  where
    by : (o : Option ℕ) → delegation w.mine.staked who v.operator ≡ o → distribution_told w.hooks.0 (hook_before v who o) w.view ≡ gives z.0 z.1 z.2 → Pays w.log w.view.facts (w.log ++ z.2) z.1.facts
    by None held h =
        let end : (p : ℕ) × (ended v w.hooks.0 w.view ≡ Ok (p, z.0, z.1, z.2)) = answer_of (ended v w.hooks.0 w.view) z h in
        pays_ended w.log v w.hooks.0 w.view (end.0, z.0, z.1, z.2) end.1
    by (Some shares) held h =
        let end : (coins : Money) × (reward_withdrawn v who shares w.hooks.0 w.view ≡ Ok (coins, z.0, z.1, z.2)) = answer_of (reward_withdrawn v who shares w.hooks.0 w.view) z h in
        pays_withdrawn w v who shares (end.0, z.0, z.1, z.2) ready found held reached end.1
