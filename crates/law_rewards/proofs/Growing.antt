-- Tokens and shares that come to a validator, and the start behind them: delegating keeps accounts reached.
use Rattle.std.proofs.Common.{◌≡◌, ℕ, ◌+◌, ◌<◌, ◌≤◌, ◌≢◌, ◌==◌, Bool, true, false, cond, List, [], ◌∷◌, map, filter, refl, arith, sym, ap, subst, ◌∙◌, Option, Some, Result, Ok, Err, unwrap_or, ◌&&◌, if◌then◌else◌}
use Rattle.std.{specs.List.AllByRecursion, proofs.lemmas.Bool.Decides.nat_tests}
use Rattle.base_decimals.specs.Decimals.{add_of}
use Rattle.base_types.specs.declared.account.Account.TheVariants as account
use Rattle.base_types.specs.{declared.status.BondStatus.BondStatus, Modules.module_number}
use Rattle.base_shares.specs.Shares.{issued_shares}
use Rattle.base_roles.specs.declared.{entities.Validator.Validator, refusal.Refusal.Refusal}
use Rattle.base_roles.specs.declared.refusal.Refusal.TheVariants.{InsufficientFunds, TinyDelegation, Overflow}
use Rattle.base_roles.specs.{Holdings.is_short, Log.Log, Orders.{pair_cmp, same_addr}}
use Rattle.base_roles.specs.Staked.{Staked, validator_at, delegation, put_validator}
use Rattle.base_roles.specs.Flow.{◌>>=◌, ◌>>◌, stop_if, stopping}
use Rattle.base_roles.specs.World.{View, Told, gives, World, call, sent, over_view, over_mine}
use Rattle.base_roles.specs.declared.calls.Hook.TheVariants.{Modified as modified}
use Rattle.rule_modules.{proofs.{EntryLemmas.at-put, OrderLemmas.{pair_total, pair_found}}, specs.Amounts.bond_coins}
use Rattle.rule_modules.specs.Chain.{Hooks, State, chain_told, staked_in, with_staked}
use Rattle.rule_modules.specs.Delegating.{Origin, wallet, pool, shares_given, paid_in, hook_before, delegated}
use Rattle.rule_modules.specs.{Distribution.{Shared, distribution_told, started}, Periods.Rewards}
use Rattle.rule_modules.specs.Stakes.{put_delegation, pool_of, refusal_of_shares}
use Rattle.law_rewards.specs.Account.{Start, Account, IsReached, counted_shares, account_after}
use Rattle.law_rewards.{specs.States.{starts_in, account_in, AreReached}, proofs.Following.{own_addr, other_addr}}
use Rattle.law_rewards.proofs.{Denominations.step_parts, Entries.{addr_is, put_there, put_elsewhere}}
use Rattle.law_rewards.proofs.{Reached.deeds_lead_on, Endings.{same_account, same_some}}
use Rattle.law_rewards.proofs.{Beginnings.{state_begun, begun_reached, went_on}, Quiet.{same_ok, passed}}
use Rattle.law_rewards.proofs.Hooked.{hook_gave, call_parts, same_told, IsOpen, HasOpened, state_told, before_is_idle}
use Rattle.law_rewards.specs.Account as deed

-- ---- starts over other delegations

-- no other delegation than this one changed
pub record OthersStay (s t : Staked) (who op : List ℕ) : Type 0 where
  pub stay : (x o : List ℕ) → (same_addr op o && same_addr who x) ≡ false → delegation t x o ≡ delegation s x o

both_false : (a b : Bool) → b ≡ false → (a && b) ≡ false
both_false true b h = h
both_false false b h = refl

first_false : (a b : Bool) → a ≡ false → (a && b) ≡ false
first_false true b h = absurd cc
first_false false b h = refl

map_same : {A B : Type 0} (P : B → Type 0) (f g : A → B) → ((x : A) → P (f x) → g x ≡ f x) → (xs : List A) → AllByRecursion P (map f xs) → map g xs ≡ map f xs
map_same P f g same [] each = refl
map_same P f g same (x ∷ xs) each = ap (λ y. y ∷ map g xs) (same x each.0) ∙ ap (λ ys. f x ∷ ys) (map_same P f g same xs each.1)

map_alike : {A B : Type 0} (f g : A → B) → ((x : A) → g x ≡ f x) → (xs : List A) → map g xs ≡ map f xs
map_alike f g same [] = refl
map_alike f g same (x ∷ xs) = ap (λ y. y ∷ map g xs) (same x) ∙ ap (λ ys. f x ∷ ys) (map_alike f g same xs)

-- where the delegator has no start, the starts are as they were
pub own_starts : (s t : Staked) (who op : List ℕ) (r : Rewards) → OthersStay s t who op → AllByRecursion (λ a. who ≢ a.who) (starts_in s r op) → starts_in t r op ≡ starts_in s r op
own_starts s t who op r k apart =
    map_same (λ a. who ≢ a.who)
    (λ e. let a : Start = record { who = e.0.1; shares = unwrap_or (delegation s e.0.1 op) 0; info = e.1 } in a)
    (λ e. let a : Start = record { who = e.0.1; shares = unwrap_or (delegation t e.0.1 op) 0; info = e.1 } in a)
    (λ e ne. ap (λ o. let a : Start = record { who = e.0.1; shares = unwrap_or o 0; info = e.1 } in a) (k.stay e.0.1 op (both_false (same_addr op op) (same_addr who e.0.1) (other_addr who e.0.1 ne))))
    (filter (λ e. same_addr e.0.0 op) r.starts) apart

pub other_starts : (s t : Staked) (who op o : List ℕ) (r : Rewards) → OthersStay s t who op → same_addr op o ≡ false → starts_in t r o ≡ starts_in s r o
other_starts s t who op o r k apart =
    map_alike
    (λ e. let a : Start = record { who = e.0.1; shares = unwrap_or (delegation s e.0.1 o) 0; info = e.1 } in a)
    (λ e. let a : Start = record { who = e.0.1; shares = unwrap_or (delegation t e.0.1 o) 0; info = e.1 } in a)
    (λ e. ap (λ q. let a : Start = record { who = e.0.1; shares = unwrap_or q 0; info = e.1 } in a) (k.stay e.0.1 o (first_false (same_addr op o) (same_addr who e.0.1) apart)))
    (filter (λ e. same_addr e.0.0 o) r.starts)

-- an address that is another's is so the other way
pub apart_back : (a b : List ℕ) → same_addr a b ≡ false → same_addr b a ≡ false
apart_back a b is = other_addr b a (λ h. true_not_false (sym (ap (λ o. same_addr o b) (sym h) ∙ own_addr b) ∙ is))
  where
    true_not_false : true ≡ false → ⊥
    true_not_false h = cc

shares_put : (s : Staked) (who op x o : List ℕ) (n : ℕ) → delegation (put_delegation who op n s) x o ≡ cond (same_addr o op && same_addr x who) (Some n) (delegation s x o)
shares_put s who op x o n = at-put pair_cmp pair_total s.delegations (op, who) (o, x) n ∙ ap (λ b. cond b (Some n) (delegation s x o)) (pair_found o op x who)

swapped : (a b c d : Bool) → (a ≡ false → c ≡ false) → (b ≡ false → d ≡ false) → (a && b) ≡ false → (c && d) ≡ false
swapped true b c d f g h = both_false c d (g h)
swapped false b c d f g h = first_false c d (f refl)

pub put_stays : (s : Staked) (who op : List ℕ) (n : ℕ) (v : Validator) → OthersStay s (put_delegation who op n (put_validator v s)) who op
put_stays s who op n v = record {
  stay = λ x o apart.
      shares_put s who op x o n ∙ ap (λ b. cond b (Some n) (delegation s x o)) (swapped (same_addr op o) (same_addr who x) (same_addr o op) (same_addr x who) (apart_back op o) (apart_back who x) apart);
}

pub shares_stay : (s : Staked) (who op : List ℕ) (n : ℕ) → OthersStay s (put_delegation who op n s) who op
shares_stay s who op n = record {
  stay = λ x o apart.
      shares_put s who op x o n ∙ ap (λ b. cond b (Some n) (delegation s x o)) (swapped (same_addr op o) (same_addr who x) (same_addr o op) (same_addr x who) (apart_back op o) (apart_back who x) apart);
}

pub own_shares : (s : Staked) (who op : List ℕ) (n : ℕ) → delegation (put_delegation who op n s) who op ≡ Some n
own_shares s who op n = shares_put s who op who op n ∙ ap (λ b. cond b (Some n) (delegation s who op)) (λ i. own_addr op i && own_addr who i)

-- ---- a state over other stakes and another ground

abbrev pub over_stake : State → Staked → View → State
over_stake w t u = record { mine = record w.mine { staked = t }; hooks = w.hooks; view = u; log = w.log }

-- another validator's account
pub other_stands : (d : List ℕ) (w : State) (t : Staked) (u : View) (who op : List ℕ) (x : Validator) → OthersStay w.mine.staked t who op → u.ctx.height ≡ w.view.ctx.height → same_addr op x.operator ≡ false
    → account_in d (over_stake w t u) x ≡ account_in d w x
other_stands d w t u who op x k height apart =
    let a : Account = account_in d (over_stake w t u) x in
    let b : Account = account_in d w x in
    same_account x.tokens x.shares a.height b.height a.current b.current a.commission b.commission a.outstanding b.outstanding a.periods b.periods a.starts b.starts a.history b.history
    height refl refl refl refl (other_starts w.mine.staked t who op x.operator w.hooks.0.rewards k apart) refl

-- the validator to which an amount came, with the shares that were issued for it
abbrev pub more_of : Validator → ℕ → ℕ → Validator
more_of v amount issued = record v { tokens = v.tokens + amount; shares = v.shares + issued }

abbrev grown_stake : State → Validator → List ℕ → ℕ → ℕ → ℕ → Staked
grown_stake w v who n amount issued = put_delegation who v.operator n (put_validator (more_of v amount issued) w.mine.staked)

issued_account : (d : List ℕ) (w : State) (v : Validator) (who : List ℕ) (n amount issued held : ℕ) (u : View) → IsOpen d w v who held → u.ctx.height ≡ w.view.ctx.height
    → account_in d (over_stake w (grown_stake w v who n amount issued) u) (more_of v amount issued) ≡ account_after d (account_in d w v) (deed.issue amount issued)
issued_account d w v who n amount issued held u k height =
    let t : Staked = grown_stake w v who n amount issued in
    let a : Account = account_in d (over_stake w t u) (more_of v amount issued) in
    let b : Account = account_in d w v in
    same_account (v.tokens + amount) (v.shares + issued) a.height b.height a.current b.current a.commission b.commission a.outstanding b.outstanding a.periods b.periods a.starts b.starts a.history b.history
    height refl refl refl refl (own_starts w.mine.staked t who v.operator w.hooks.0.rewards (put_stays w.mine.staked who v.operator n (more_of v amount issued)) k.apart) refl

issued_at : (d : List ℕ) (w : State) (v x : Validator) (who : List ℕ) (n amount issued held : ℕ) (u : View) → validator_at w.mine.staked v.operator ≡ Some v → IsOpen d w v who held → u.ctx.height ≡ w.view.ctx.height
    → issued_shares v.tokens v.shares amount ≡ Ok issued → AreReached w → validator_at (grown_stake w v who n amount issued) x.operator ≡ Some x → (b : Bool) → same_addr x.operator v.operator ≡ b
    → IsReached d (account_in d (over_stake w (grown_stake w v who n amount issued) u) x)
issued_at d w v x who n amount issued held u found k height is reached there true same =
    let t : Staked = grown_stake w v who n amount issued in
    let g : Validator = more_of v amount issued in
    let one : x ≡ g = same_some x g (validator_at t x.operator) (validator_at t v.operator) there (put_there v.operator g w.mine.staked.validators) (ap (λ o. validator_at t o) (addr_is x.operator v.operator same)) in
    subst (λ y. IsReached d (account_in d (over_stake w t u) y)) (sym one)
    (subst (λ a. IsReached d a) (sym (issued_account d w v who n amount issued held u k height))
    (deeds_lead_on d (account_in d w v) (deed.issue amount issued ∷ []) (reached d v found) ((k.none, is), tt)))
issued_at d w v x who n amount issued held u found k height is reached there false same =
    subst (λ a. IsReached d a) (sym (other_stands d w (grown_stake w v who n amount issued) u who v.operator x (put_stays w.mine.staked who v.operator n (more_of v amount issued)) height (apart_back x.operator v.operator same)))
    (reached d x (sym (put_elsewhere v.operator x.operator (more_of v amount issued) w.mine.staked.validators same) ∙ there))

-- tokens and shares came to the validator, and a start is made of them
grown_reached : (w : State) (v : Validator) (who : List ℕ) (amount issued held : ℕ) (u : View) → validator_at w.mine.staked v.operator ≡ Some v → ((d : List ℕ) → IsOpen d w v who held) → u.ctx.height ≡ w.view.ctx.height
    → issued_shares v.tokens v.shares amount ≡ Ok issued → 0 < issued → AreReached w
    → AreReached (state_begun (over_stake w (grown_stake w v who (held + issued) amount issued) u) (more_of v amount issued) who (held + issued))
grown_reached w v who amount issued held u found k height is some reached =
    let n : ℕ = held + issued in
    let t : Staked = grown_stake w v who n amount issued in
    let g : Validator = more_of v amount issued in
    let x : State = over_stake w t u in
    let issued_all : AreReached x = λ d y there. issued_at d w v y who n amount issued held u found (k d) height is reached there (same_addr y.operator v.operator) refl in
    λ d y there.
    begun_reached d x g y who n (put_there v.operator g w.mine.staked.validators) (own_shares (put_validator g w.mine.staked) who v.operator n)
    (let a : account_in d x g ≡ account_after d (account_in d w v) (deed.issue amount issued) = issued_account d w v who n amount issued held u (k d) height in
    let counted : counted_shares (account_in d x g) ≡ counted_shares (account_in d w v) = ap counted_shares a in
    let room : counted_shares (account_in d w v) + held ≤ v.shares = (k d).within in
    record {
      none = (k d).none;
      some = omega (arith, some);
      within = omega (arith, counted, room);
      apart = subst (λ ss. AllByRecursion (λ s. who ≢ s.who) ss) (sym (own_starts w.mine.staked t who v.operator w.hooks.0.rewards (put_stays w.mine.staked who v.operator n g) (k d).apart)) (k d).apart;
    })
    issued_all there (same_addr y.operator g.operator) refl

-- ---- delegating

positive : (n : ℕ) → (n == 0) ≡ false → 0 < n
positive n e = grind (arith, nat_tests)

pub not_stopped : {E B : Type 0} (b : Bool) (e : E) (r : Result B E) (z : B) → (stop_if b e >> r) ≡ Ok z → b ≡ false
not_stopped true e r z h = absurd cc
not_stopped false e r z h = refl

behind_it : {A B E : Type 0} (r : Result A E) (s : Result B E) (b : B) → (r >> s) ≡ Ok b → s ≡ Ok b
behind_it (Ok a) s b h = h
behind_it (Err e) s b h = absurd cc

pub given_is : (v : Validator) (amount issued : ℕ) → shares_given v amount ≡ Ok issued → (issued_shares v.tokens v.shares amount ≡ Ok issued) × (0 < issued)
given_is v amount issued e =
    let one : (n : ℕ) × (stopping refusal_of_shares (issued_shares v.tokens v.shares amount) ≡ Ok n) × ((stopping Overflow (add_of v.shares n) >> (stop_if (n == 0) TinyDelegation >> Ok n)) ≡ Ok issued) =
    step_parts (stopping refusal_of_shares (issued_shares v.tokens v.shares amount)) (λ n. stopping Overflow (add_of v.shares n) >> (stop_if (n == 0) TinyDelegation >> Ok n)) issued e in
    let two : (stop_if (one.0 == 0) TinyDelegation >> Ok one.0) ≡ Ok issued = behind_it (stopping Overflow (add_of v.shares one.0)) (stop_if (one.0 == 0) TinyDelegation >> Ok one.0) issued one.2 in
    let same : one.0 ≡ issued = same_ok one.0 issued (passed (one.0 == 0) TinyDelegation (Ok one.0) issued two) in
    let some : 0 < one.0 = positive one.0 (not_stopped (one.0 == 0) TinyDelegation (Ok one.0) issued two) in
    (went_on refusal_of_shares (issued_shares v.tokens v.shares amount) one.0 one.1 ∙ ap Ok same, subst (λ n. 0 < n) same some)

-- coins move within one block
pub paid_height : (origin : Origin) (who : List ℕ) (status : BondStatus) (amount : ℕ) (v u : View) → paid_in origin who status amount v ≡ Ok u → u.ctx.height ≡ v.ctx.height
paid_height wallet who status amount v u e = ap (λ x. x.ctx.height) (sym (same_ok _ u (passed (is_short v.bank (account.User who) (bond_coins v amount)) InsufficientFunds _ u e)))
paid_height (pool from) who status amount v u e = by (module_number (pool_of from) == module_number (pool_of status)) e
  where
    by : (b : Bool) → Path (Result View Refusal) (if b then Ok v else Ok (sent (account.Module (pool_of from)) (account.Module (pool_of status)) (bond_coins v amount) v)) (Ok u) → u.ctx.height ≡ v.ctx.height
    by true h = ap (λ x. x.ctx.height) (sym (same_ok v u h))
    by false h = ap (λ x. x.ctx.height) (sym (same_ok _ u h))

-- what the hook before a delegation leaves, where it leaves something
abbrev pub Opens : State → Validator → List ℕ → Type 0
Opens w v who = (z : Shared × View × Log) → distribution_told w.hooks.0 (hook_before v who (delegation w.mine.staked who v.operator)) w.view ≡ gives z.0 z.1 z.2 → HasOpened w v who z

told_is : (s t : Shared × View × Log) → Path (Told Shared) (gives s.0 s.1 s.2) (gives t.0 t.1 t.2) → s ≡ t
told_is s t h = let parts : (s.0 ≡ t.0) × (s.1 ≡ t.1) × (s.2 ≡ t.2) = same_told s.0 t.0 s.1 t.1 s.2 t.2 h in λ i. (parts.0 i, parts.1 i, parts.2 i)

-- a start that is told is the rule's
pub start_told : (v : Validator) (who : List ℕ) (shares : ℕ) (w y : World Staked Hooks) → call chain_told (modified v who shares) w ≡ Ok y → hook_gave w (started v who shares w.hooks.0 w.view) ≡ y
start_told v who shares w y e =
    let last : (z : Shared × View × Log) × (distribution_told w.hooks.0 (modified v who shares) w.view ≡ gives z.0 z.1 z.2) × (hook_gave w z ≡ y) = call_parts (modified v who shares) w y (λ u. refl) e in
    ap (hook_gave w) (told_is (started v who shares w.hooks.0 w.view) last.0 last.1) ∙ last.2

-- the world in which tokens and shares have come
abbrev pub more_world : World Staked Hooks → Validator → List ℕ → ℕ → ℕ → ℕ → View → World Staked Hooks
more_world w1 v who amount issued held u = over_view (λ y. u) (over_mine (λ s. put_delegation who v.operator (held + issued) (put_validator (more_of v amount issued) s)) w1)

-- what is done behind the hook
abbrev pub behind_hook : Validator → List ℕ → ℕ → Origin → ℕ → ℕ → World Staked Hooks → Result (ℕ × World Staked Hooks) Refusal
behind_hook v who amount origin issued held w1 =
    paid_in origin who v.status amount w1.view >>= λ u. stopping Overflow (call chain_told (modified (more_of v amount issued) who (held + issued)) (more_world w1 v who amount issued held u)) >>= λ w3. Ok (issued, w3)

behind_reached : (w : State) (v : Validator) (who : List ℕ) (amount issued : ℕ) (origin : Origin) (z : Shared × View × Log) (x : ℕ × World Staked Hooks) → validator_at w.mine.staked v.operator ≡ Some v → HasOpened w v who z
    → (issued_shares v.tokens v.shares amount ≡ Ok issued) × (0 < issued) → behind_hook v who amount origin issued (unwrap_or (delegation w.mine.staked who v.operator) 0) (hook_gave (staked_in w) z) ≡ Ok x
    → AreReached (with_staked w.mine x.1)
behind_reached w v who amount issued origin z x found k given e =
    let h : ℕ = unwrap_or (delegation w.mine.staked who v.operator) 0 in
    let w1 : World Staked Hooks = hook_gave (staked_in w) z in
    let g : Validator = more_of v amount issued in
    let one : (u : View) × (paid_in origin who v.status amount z.1 ≡ Ok u) × ((stopping Overflow (call chain_told (modified g who (h + issued)) (more_world w1 v who amount issued h u)) >>= λ w3. Ok (issued, w3)) ≡ Ok x) =
    step_parts (paid_in origin who v.status amount z.1) (λ u. stopping Overflow (call chain_told (modified g who (h + issued)) (more_world w1 v who amount issued h u)) >>= λ w3. Ok (issued, w3)) x e in
    let w2 : World Staked Hooks = more_world w1 v who amount issued h one.0 in
    let two : (w3 : World Staked Hooks) × (stopping Overflow (call chain_told (modified g who (h + issued)) w2) ≡ Ok w3) × (Path (Result (ℕ × World Staked Hooks) Refusal) (Ok (issued, w3)) (Ok x)) =
    step_parts (stopping Overflow (call chain_told (modified g who (h + issued)) w2)) (λ w3. Ok (issued, w3)) x one.2 in
    let is : hook_gave w2 (started g who (h + issued) w2.hooks.0 w2.view) ≡ x.1 =
    start_told g who (h + issued) w2 two.0 (went_on Overflow (call chain_told (modified g who (h + issued)) w2) two.0 two.1) ∙ ap (λ y. y.1) (same_ok (issued, two.0) x two.2) in
    subst (λ y. AreReached (with_staked w.mine y)) is
    (grown_reached (state_told w z) v who amount issued h one.0 found k.ready (paid_height origin who v.status amount z.1 one.0 one.1) given.0 given.1 k.reached)

pub delegated_reached : (w : State) (v : Validator) (who : List ℕ) (amount : ℕ) (origin : Origin) (x : ℕ × World Staked Hooks) → validator_at w.mine.staked v.operator ≡ Some v → Opens w v who
    → delegated chain_told v who amount origin (staked_in w) ≡ Ok x → AreReached (with_staked w.mine x.1)
delegated_reached w v who amount origin x found opens e =
    let held : Option ℕ = delegation w.mine.staked who v.operator in
    let before : Result (World Staked Hooks) Refusal = stopping Overflow (call chain_told (hook_before v who held) (staked_in w)) in
    let one : (issued : ℕ) × (shares_given v amount ≡ Ok issued) × ((before >>= λ w1. behind_hook v who amount origin issued (unwrap_or held 0) w1) ≡ Ok x) =
    step_parts (shares_given v amount) (λ issued. before >>= λ w1. behind_hook v who amount origin issued (unwrap_or held 0) w1) x e in
    let two : (w1 : World Staked Hooks) × (before ≡ Ok w1) × (behind_hook v who amount origin one.0 (unwrap_or held 0) w1 ≡ Ok x) =
    step_parts before (λ w1. behind_hook v who amount origin one.0 (unwrap_or held 0) w1) x one.2 in
    let told : (z : Shared × View × Log) × (distribution_told w.hooks.0 (hook_before v who held) w.view ≡ gives z.0 z.1 z.2) × (hook_gave (staked_in w) z ≡ two.0) =
    call_parts (hook_before v who held) (staked_in w) two.0 (before_is_idle (staked_in w) v who held) (went_on Overflow (call chain_told (hook_before v who held) (staked_in w)) two.0 two.1) in
    behind_reached w v who amount one.0 origin told.0 x found (opens told.0 told.1) (given_is v amount one.0 one.1)
    (subst (λ y. behind_hook v who amount origin one.0 (unwrap_or held 0) y ≡ Ok x) (sym told.2) two.2)
