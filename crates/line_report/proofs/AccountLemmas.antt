-- Accounts that are joined with coins in front.
use Rattle.std.proofs.Common.{◌≡◌, ◌∙◌, sym, ℕ, List, [], ◌∷◌, ◌++◌, map, Bool, true, false, cond, refl, ap, append_assoc, Option, Some, None}
use Rattle.base_types.{specs.{declared.account.Account.Account, Orders.account_cmp}, proofs.MapLemmas.equal}
use Rattle.base_types.proofs.OrderLemmas.{account_equal, account_equal_at}
use Rattle.base_bech32.specs.declared.form.Form.{Form}
use Rattle.base_coins.specs.Coins.{Money}
use Rattle.line_json.specs.Line.{line_of}
use Rattle.rule_machine.specs.Report.{is_same_account, joined}
use Rattle.line_report.{specs.{Groups.opened, Lines.{account_line, text_of}}, proofs.TotalLemmas.account_exact}

same_by : (a b : Account) (coins more : Money) (first : Account × Money) (rest : List (Account × Money)) (same : Bool) → is_same_account a b ≡ true →
    joined a coins (cond same ((b, more ++ first.1) ∷ rest) ((b, more) ∷ first ∷ rest)) ≡ cond same ((a, (coins ++ more) ++ first.1) ∷ rest) ((a, coins ++ more) ∷ first ∷ rest)
same_by a b coins more first rest true h = rw h (ap (λ m. (a, m) ∷ rest) (sym (append_assoc coins more first.1)))
same_by a b coins more first rest false h = rw h refl

-- coins in front of more coins of the same account
pub joined_same : (a b : Account) (coins more : Money) (rest : List (Account × Money)) → is_same_account a b ≡ true → joined a coins (joined b more rest) ≡ joined a (coins ++ more) rest
joined_same a b coins more [] h = rw h refl
joined_same a b coins more (first ∷ rest) h =
    let alike : is_same_account a first.0 ≡ is_same_account b first.0 = ap (λ who. is_same_account who first.0) (account_exact a b (equal (account_cmp a b) h)) in
    same_by a b coins more first rest (is_same_account b first.0) h ∙ ap (λ s. cond s ((a, (coins ++ more) ++ first.1) ∷ rest) ((a, coins ++ more) ∷ first ∷ rest)) (sym alike)

apart_by : (a b : Account) (coins more : Money) (first : Account × Money) (rest : List (Account × Money)) (same : Bool) → is_same_account a b ≡ false →
    joined a coins (cond same ((b, more ++ first.1) ∷ rest) ((b, more) ∷ first ∷ rest)) ≡ (a, coins) ∷ cond same ((b, more ++ first.1) ∷ rest) ((b, more) ∷ first ∷ rest)
apart_by a b coins more first rest true h = rw h refl
apart_by a b coins more first rest false h = rw h refl

-- coins in front of those of another account
pub joined_apart : (a b : Account) (coins more : Money) (rest : List (Account × Money)) → is_same_account a b ≡ false → joined a coins (joined b more rest) ≡ (a, coins) ∷ joined b more rest
joined_apart a b coins more [] h = rw h refl
joined_apart a b coins more (first ∷ rest) h = apart_by a b coins more first rest (is_same_account b first.0) h

-- the text of accounts
abbrev pub told : Form → List (Account × Money) → List ℕ
told f accounts = text_of (map (account_line f) accounts)

-- the line of an account before the others
pub told_apart : (f : Form) (a b : Account) (coins more : Money) (rest : List (Account × Money)) (old new : List ℕ) → is_same_account a b ≡ false → new ≡ old ++ line_of (account_line f (a, coins)) →
    new ++ told f (joined b more rest) ≡ old ++ told f (joined a coins (joined b more rest))
told_apart f a b coins more rest old new h pushed =
    ap (λ x. x ++ told f (joined b more rest)) pushed ∙ (append_assoc old (line_of (account_line f (a, coins))) (told f (joined b more rest))
    ∙ ap (λ l. old ++ told f l) (sym (joined_apart a b coins more rest h)))

-- one more coin of the account that is gathered
pub same_gathered : (f : Form) (a b : Account) (old new : Money) (coin : List ℕ × ℕ) (last : Option (Account × Money)) (rest : List (Account × Money)) (out : List ℕ) →
    is_same_account a b ≡ true → new ≡ old ++ coin ∷ [] → last ≡ Some (a, old) → out ++ told f (joined a new rest) ≡ out ++ told f (opened last (joined b (coin ∷ []) rest))
same_gathered f a b old new coin last rest out same more found =
    ap (λ accounts. out ++ told f accounts) (ap (λ m. joined a m rest) more ∙ (sym (joined_same a b old (coin ∷ []) rest same)
    ∙ ap (λ o. opened o (joined b (coin ∷ []) rest)) (sym found)))

-- the first coin of an account behind another
pub other_gathered : (f : Form) (a b : Account) (old new : Money) (coin : List ℕ × ℕ) (last : Option (Account × Money)) (rest : List (Account × Money)) (out pushed : List ℕ) →
    account_equal a b ≡ false → new ≡ coin ∷ [] → last ≡ Some (a, old) → pushed ≡ out ++ line_of (account_line f (a, old)) →
    pushed ++ told f (joined b new rest) ≡ out ++ told f (opened last (joined b (coin ∷ []) rest))
other_gathered f a b old new coin last rest out pushed other one found line =
    ap (λ m. pushed ++ told f (joined b m rest)) one ∙ (told_apart f a b old (coin ∷ []) rest out pushed (sym (account_equal_at a b) ∙ other) line
    ∙ ap (λ o. out ++ told f (opened o (joined b (coin ∷ []) rest))) (sym found))

-- the first coin of the first account
pub first_gathered : (f : Form) (b : Account) (new : Money) (coin : List ℕ × ℕ) (last : Option (Account × Money)) (rest : List (Account × Money)) (out pushed : List ℕ) →
    new ≡ coin ∷ [] → last ≡ None → pushed ≡ out → pushed ++ told f (joined b new rest) ≡ out ++ told f (opened last (joined b (coin ∷ []) rest))
first_gathered f b new coin last rest out pushed one none same =
    (λ i. same i ++ told f (joined b (one i) rest)) ∙ ap (λ o. out ++ told f (opened o (joined b (coin ∷ []) rest))) (sym none)
