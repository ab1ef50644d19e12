-- What the blocks of a run pay a pair, as the notes of a recorder and their facts tell it: each payment is stated rightly.
use Rattle.std.specs.Prelude.{◌≡◌, ℕ, ◌^◌, ◌<◌, List, [], ◌∷◌, ◌++◌, drop, length, All, IfOk, None, Ok}
use Rattle.base_coins.specs.Coins.{Money}
use Rattle.base_messages.specs.declared.block.Block.{Block}
use Rattle.base_roles.specs.Log.{Log}
use Rattle.base_roles.specs.Log as log
use Rattle.base_roles.specs.Staked.{validator_at}
use Rattle.rule_modules.specs.Chain.{State}
use Rattle.rule_machine.specs.GenesisState.{Start}
use Rattle.rule_machine.specs.Listening.{Hearing, block_heard, genesis_heard, heard_in, hearing}
use Rattle.rule_machine.specs.Machine.{Step, step}
use Rattle.rule_machine.specs.Promises.{Replayed, facts_of}
use Rattle.law_rewards.specs.Withdrawals.{reward_paid}
use Rattle.mod_recorder.specs.Notes.{Noted, ended, heard, nothing_noted, parted}
use Rattle.mod_tracking.specs.declared.tracker.Pair.{Pair}
use Rattle.mod_tracking.specs.Tracking.{Followed, Payment, Tracked, block_followed, unpaid, untracked}
use Rattle.law_statements.specs.Rightly.{IsStatedRightly}
use Rattle.law_statements.specs.Unheard.{RecorderChangesNothing}

-- ---- a block

-- what stands of the pair behind a block, with what it was paid in it
abbrev pub followed_in : Pair → State → Noted → Tracked → Step → Noted → Followed
followed_in p w before t s after = block_followed p (validator_at w.mine.staked p.operator) (facts_of s.report) (drop (length before.notes) after.notes) t

-- A payment is that of a withdrawal of the pair among what was logged behind a log; it is of the smaller of its full reward and what
-- was outstanding; and it is stated rightly, by the log up to it.
pub record IsOfWithdrawal (p : Pair) (height : ℕ) (l more : Log) (pay : Payment) : Type 0 where
  pub earlier : Log
  pub later : Log
  pub to : List ℕ
  pub full : Money
  pub outstanding : Money
  pub parts : more ≡ earlier ++ (p.operator, log.withdrawn p.delegator to full outstanding) ∷ later
  pub reward_is : pay.reward ≡ reward_paid full outstanding
  pub rightly : IsStatedRightly p height (l ++ earlier) pay

-- A block adds to the log, and each payment of the pair is of a withdrawal that it logs.
pub record PaysRightly (p : Pair) (w : State) (before : Noted) (t : Tracked) (s : Step) (after : Noted) : Type 0 where
  pub more : Log
  pub log_is : s.state.log ≡ w.log ++ more
  pub payments : All (IsOfWithdrawal p s.report.height w.log more) (followed_in p w before t s after).payments

-- Notes and the facts of a block are counted up to 2^64 - 1; there are fewer of each.
abbrev pub AreFew : Noted → Step → Type 0
AreFew after s = (length after.notes < 2 ^ 64) × (length (facts_of s.report) < 2 ^ 64)

-- ---- runs

-- so does each block of a run that may follow, which a recorder hears
abbrev pub RunPaysRightly : Pair → List Block → State → Noted → Tracked → Type 0
RunPaysRightly p [] w before t = Unit {0}
RunPaysRightly p (b ∷ blocks) w before t = IfOk (step b w) (λ s. (h : Hearing Noted)
    → block_heard heard parted ended b (hearing before w) ≡ Ok h
    → AreFew (heard_in h) s
    → PaysRightly p w before t s (heard_in h)
    × RunPaysRightly p blocks s.state (heard_in h) (followed_in p w before t s (heard_in h)).tracked)

-- what stands of the pair behind a genesis, with what it was paid in it
abbrev pub followed_first : Pair → Start → Noted → Followed
followed_first p start first = block_followed p None start.facts first.notes untracked

-- A good genesis pays nobody. And wherever it and blocks lead to, each payment of the pair is of a withdrawal, and its statement rests
-- on the entries of the delegation's span in the log: it has the lower and the upper bound of just these, a slack of at least the
-- exact one, and is right.
pub record PayRightly (r : Replayed) (p : Pair) (first : Hearing Noted) : Type 0 where
  pub unpaid_first : followed_first p r.start (heard_in first) ≡ unpaid (followed_first p r.start (heard_in first)).tracked
  pub blocks : RunPaysRightly p r.blocks r.start.state (heard_in first) (followed_first p r.start (heard_in first)).tracked

abbrev pub RunsPayRightly : Type 0
RunsPayRightly =
    (r : Replayed) (p : Pair) (first : Hearing Noted)
    → genesis_heard heard r.genesis nothing_noted ≡ Ok first
    → length (heard_in first).notes < 2 ^ 64 → length r.start.facts < 2 ^ 64
    → PayRightly r p first

-- So runs pay wherever a recorder changes nothing, as no listener does.
abbrev pub UnheardRunsPayRightly : Type 0
UnheardRunsPayRightly = RecorderChangesNothing → RunsPayRightly
