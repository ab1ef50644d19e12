-- What each module's call leaves behind its records, so that what it changed can be taken back.
use Rattle.std.proofs.Common.{◌≡◌, ◌∙◌, ℕ, List, [], ◌∷◌, Result, Ok, Err, refl, sym, ap, OnOk, IfErr}
use Rattle.std.specs.Prelude.{⊤}
use Rattle.base_types.specs.declared.account.Account.{Account}
use Rattle.base_types.specs.declared.account.Account.TheVariants as account
use Rattle.base_coins.specs.Coins.{Money}
use Rattle.base_roles.specs.declared.{facts.Fact.Fact, faults.{BankFault.BankFault, HookFault.HookFault}}
use Rattle.base_roles.specs.{declared.faults.MessageFault.MessageFault, Answers.{Answers, Sends}, Ground.CanBeUndone}
use Rattle.base_roles.specs.{Holdings.{Holdings, transfer_told}, World.{View, gives}}
use Rattle.base_roles.specs.declared.facts.Fact.TheVariants as fact
use Rattle.base_roles.specs.declared.faults.BankFault.TheVariants as fault
use Rattle.base_roles.specs.declared.faults.HookFault.TheVariants as hook
use Rattle.base_roles.specs.declared.faults.MessageFault.TheVariants as stop
use Rattle.mod_bank.specs.Booked as bank
use Rattle.mod_bank.specs.{Booked.Booked, Sending.Transfers}
use Rattle.mod_staking.specs.Registered as book
use Rattle.mod_staking.specs.Scenes.{GoesOn, RegisterGoesOn}
use Rattle.mod_entries.specs.Answers.{EntriesGoOn}
use Rattle.mod_entries.specs.Kept as entries
use Rattle.mod_distribution.specs.Kept as distr
use Rattle.mod_distribution.specs.Kept.{SharedGoesOn}
use Rattle.mod_signing.specs.Kept as window
use Rattle.chain_modules.specs.{declared.modules.Modules.Modules, Kept.{HooksSeen, ground_of, kept_of}}
use Rattle.chain_modules.specs.Marks.{Follow, GoOn}
use Rattle.chain_transactions.proofs.MessageLemmas.{append_nil}

-- what stands behind the hooks
abbrev pub hooks_behind : {E : Type 0} → HooksSeen E → distr.Behind × window.Behind
hooks_behind h = (distr.behind h.first.first, window.behind h.second)

-- the same with the marks of a listener, of which it is told what they are
abbrev pub hook_marks : {E M : Type 0} → (E → M) → HooksSeen E → (distr.Behind × M) × window.Behind
hook_marks marks h = ((distr.behind h.first.first, marks h.first.second.listener), window.behind h.second)

pub unheard : {E M : Type 0} (marks : E → M) (old new : HooksSeen E) → hook_marks marks new ≡ hook_marks marks old → hooks_behind new ≡ hooks_behind old
unheard marks old new e = λ i. ((e i).0.0, (e i).1)

pub listener_behind : {E M : Type 0} (marks : E → M) (old new : HooksSeen E) → hook_marks marks new ≡ hook_marks marks old → marks new.first.second.listener ≡ marks old.first.second.listener
listener_behind marks old new e = λ i. (e i).0.1

pub all_on : {E : Type 0} (old new : Modules E) → CanBeUndone bank.behind old.ground new.ground → book.behind new.stakes.staking ≡ book.behind old.stakes.staking
    → entries.behind new.stakes.unbondings ≡ entries.behind old.stakes.unbondings → entries.behind new.stakes.redelegations ≡ entries.behind old.stakes.redelegations
    → hooks_behind new.hooks ≡ hooks_behind old.hooks → GoOn old new
all_on old new ground staking unbondings redelegations hooks = record {
  behind = λ i. record {
    bank = ground.marks i;
    staking = staking i;
    unbondings = unbondings i;
    redelegations = redelegations i;
    shared = (hooks i).0;
    signings = (hooks i).1;
  };
  ctx = ground.ctx;
  facts = ground.facts;
}

-- a call of staking
pub hooked_on : {A F E M : Type 0} (marks : E → M) (most_steps : Booked → ℕ) (old new : Modules E) (answer : Result A F) → GoesOn bank.behind most_steps (hook_marks marks) old.ground new.ground old.hooks new.hooks old.stakes.staking new.stakes.staking answer
    → new.stakes.unbondings ≡ old.stakes.unbondings → new.stakes.redelegations ≡ old.stakes.redelegations → GoOn old new
hooked_on marks most_steps old new answer g u r = all_on old new g.undone g.register.behind (ap entries.behind u) (ap entries.behind r) (unheard marks old.hooks new.hooks g.hook_marks)

-- one that changes unbondings too
pub unbonding_on : {A F E M : Type 0} (marks : E → M) (most_steps : Booked → ℕ) (old new : Modules E) (answer : Result A F) → GoesOn bank.behind most_steps (hook_marks marks) old.ground new.ground old.hooks new.hooks old.stakes.staking new.stakes.staking answer
    → EntriesGoOn old.stakes.unbondings new.stakes.unbondings answer → new.stakes.redelegations ≡ old.stakes.redelegations → GoOn old new
unbonding_on marks most_steps old new answer g u r = all_on old new g.undone g.register.behind u.behind (ap entries.behind r) (unheard marks old.hooks new.hooks g.hook_marks)

-- one that changes redelegations too
pub redelegating_on : {A F E M : Type 0} (marks : E → M) (most_steps : Booked → ℕ) (old new : Modules E) (answer : Result A F) → GoesOn bank.behind most_steps (hook_marks marks) old.ground new.ground old.hooks new.hooks old.stakes.staking new.stakes.staking answer
    → new.stakes.unbondings ≡ old.stakes.unbondings → EntriesGoOn old.stakes.redelegations new.stakes.redelegations answer → GoOn old new
redelegating_on marks most_steps old new answer g u r = all_on old new g.undone g.register.behind (ap entries.behind u) r.behind (unheard marks old.hooks new.hooks g.hook_marks)

-- one that changes validators and the ground alone
pub register_on : {A F E : Type 0} (old new : Modules E) (answer : Result A F) → CanBeUndone bank.behind old.ground new.ground → RegisterGoesOn old.stakes.staking new.stakes.staking answer
    → new.stakes.unbondings ≡ old.stakes.unbondings → new.stakes.redelegations ≡ old.stakes.redelegations → new.hooks ≡ old.hooks → GoOn old new
register_on old new answer g s u r h = all_on old new g s.behind (ap entries.behind u) (ap entries.behind r) (ap hooks_behind h)

-- one of distribution
pub shared_on : {A F E : Type 0} (old new : Modules E) (answer : Result A F) → CanBeUndone bank.behind old.ground new.ground → SharedGoesOn old.hooks.first.first new.hooks.first.first answer
    → new.stakes ≡ old.stakes → new.hooks.second ≡ old.hooks.second → GoOn old new
shared_on old new answer g d s w =
    all_on old new g (ap (λ c. book.behind c.staking) s) (ap (λ c. entries.behind c.unbondings) s) (ap (λ c. entries.behind c.redelegations) s)
    (λ i. (d.behind i, window.behind (w i)))

-- the ground stays
pub ground_stays : {E : Type 0} (old new : Modules E) → new.ground ≡ old.ground → CanBeUndone bank.behind old.ground new.ground
ground_stays old new e = record {
  marks = ap (λ g. bank.behind g.bank) e;
  ctx = ap (λ g. g.ctx) e;
  facts = ([], ap (λ g. g.facts) e ∙ sym (append_nil old.ground.facts));
}

-- ---- what a listener hears

-- where only the listener heard something, the modules keep the same
pub heard_kept : {E H : Type 0} (old new : Modules E) (h : H) (still : H → Type 0) → new.stakes ≡ old.stakes → new.hooks.first.first ≡ old.hooks.first.first → new.hooks.second ≡ old.hooks.second → (answer : Result ⊤ HookFault)
    → Answers (gives h (ground_of old) []) still (ground_of new) answer → OnOk answer (kept_of new ≡ kept_of old)
heard_kept old new h still stakes shared signings (Ok a) told = λ i. record {
  stakes = record { staked = (stakes i).staking.staked; unbondings = (stakes i).unbondings.lists; redelegations = (stakes i).redelegations.lists };
  shared = (shared i).kept;
  signings = (signings i).kept;
  view = told.1 i;
}
heard_kept old new h still stakes shared signings (Err fault) told = tt

-- and it has no error but want of memory
pub heard_wants : {H : Type 0} (h : H) (still : H → Type 0) (w u : View) (answer : Result ⊤ HookFault) → Answers (gives h w []) still u answer → IfErr answer (λ fault. fault ≡ hook.NoMemory)
heard_wants h still w u (Ok a) told = tt
heard_wants h still w u (Err (hook.Over over)) told = absurd told
heard_wants h still w u (Err hook.NoMemory) told = refl

-- ---- coins that move

-- a transfer is told behind the other facts, where there are coins
told_on : (from to : Account) (coins : Money) (facts : List Fact) → Follow facts (transfer_told from to coins facts)
told_on from to [] facts = ([], sym (append_nil facts))
told_on from to (c ∷ cs) facts = (fact.Transfer from to (c ∷ cs) ∷ [], refl)

follows_same : (facts facts2 : List Fact) → facts2 ≡ facts → Follow facts facts2
follows_same facts facts2 e = ([], e ∙ sym (append_nil facts))

follows_told : (from to : Account) (coins : Money) (facts facts2 : List Fact) → facts2 ≡ transfer_told from to coins facts → Follow facts facts2
follows_told from to coins facts facts2 e = let f = told_on from to coins facts in (f.0, e ∙ f.1)

-- the facts behind a send
pub sends_follow : (from to : Account) (coins : Money) (h h2 : Holdings) (facts facts2 : List Fact) (answer : Result ⊤ BankFault) → Sends from to coins h facts h2 facts2 answer → Follow facts facts2
sends_follow from to coins h h2 facts facts2 (Ok x) s = follows_told from to coins facts facts2 s.2
sends_follow from to coins h h2 facts facts2 (Err fault.Short) s = follows_same facts facts2 s.2
sends_follow from to coins h h2 facts facts2 (Err fault.NoMemory) s = follows_same facts facts2 s.1

-- the facts behind a transfer
pub transfers_follow : (from : List ℕ) (to : Account) (coins : Money) (h h2 : Holdings) (facts facts2 : List Fact) (answer : Result ⊤ MessageFault) → Transfers from to coins h facts h2 facts2 answer → Follow facts facts2
transfers_follow from to coins h h2 facts facts2 (Ok x) s = follows_told (account.User from) to coins facts facts2 s.2
transfers_follow from to coins h h2 facts facts2 (Err (stop.Refused why)) s = follows_same facts facts2 s.2
transfers_follow from to coins h h2 facts facts2 (Err stop.NoMemory) s = follows_same facts facts2 s.1
