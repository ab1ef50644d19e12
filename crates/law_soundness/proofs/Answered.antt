-- A block that may follow is answered, and a fault has its cause: a condition against the block, or a limit that its beginning
-- met. Its end meets none.
use Rattle.std.proofs.Common.{◌≡◌, ℕ, suc, ◌+◌, ◌^◌, ◌<◌, ◌≤◌, List, [], ◌∷◌, length, Result, Ok, Err, inl, inr, refl, sym, subst, arith, All, Contains}
use Rattle.std.{specs.Prelude.⊤, proofs.lemmas.List.Elements.{All-head, All-tail}}
use Rattle.base_decimals.specs.declared.over.Over.{Over}
use Rattle.base_roles.specs.Flow.{◌>>=◌, ◌>>◌, stopping}
use Rattle.base_messages.specs.declared.{block.Block.Block, faults.BlockFault.{BlockFault, TheVariants.RatioLimit}}
use Rattle.rule_machine.specs.{GenesisState.without_facts, Machine.{Step, block_checked, step, txs_applied}}
use Rattle.rule_machine.specs.Promises.{TxHasCoins}
use Rattle.law_soundness.proofs.{Bonding.set_step_fits, Burns.total_in}
use Rattle.law_soundness.proofs.Giving.{Gives, gives_on, maturing_gives, set_step_gives}
use Rattle.law_soundness.proofs.Points.{StateFits, StateLeft, from_fits, to_fits}
use Rattle.law_soundness.proofs.Running.{HasBegun, HaveCoins, StepFits, begun_fits, block_fits, done_fits}
use Rattle.law_soundness.proofs.{Starting.{room, started_well}, Steps.from_if, Transactions.without_facts_fits}
use Rattle.law_soundness.specs.Kept.{AnsweredAlong, BlockIsAnswered, RunsAreAnswered, begun_by}
use Rattle.law_soundness.specs.StepLaws.{BlocksAreAnswered}
use Rattle.rule_modules.specs.Chain.{State, end_block, maturing_step, redelegations_step, set_step, unbondings_step}

module _ (P : List ℕ → Type 0) (T : List ℕ → ℕ) where
  -- the end of a block gives
  end_gives : (w : State) → StateFits P T w → Gives (end_block w)
  end_gives w h =
      let (a, e) = set_step_gives w in
      let k = from_if (StateLeft P T w) (set_step w) a e (set_step_fits P T w h) in
      let (b, f) = maturing_gives P T a k.fits in
      gives_on (set_step w) (λ a. maturing_step a >>= λ b. unbondings_step b >>= λ c. redelegations_step c) a e (gives_on (maturing_step a) (λ b. unbondings_step b >>= λ c. redelegations_step c) b f (_, refl))

-- what a block comes to, by its conditions, its beginning and its end
abbrev after_end : Block → State → State → Step
after_end b begun ended = record {
  report = record { height = b.height; time = b.time; begun = begun.view.facts; txs = (txs_applied b.txs begun).reports; ended = ended.view.facts };
  state = without_facts ended;
}

pub blocks_are_answered : BlocksAreAnswered
blocks_are_answered b w coins s few = by (block_checked b w) (begun_by b w) refl refl
  where
    P : List ℕ → Type 0
    P = Contains s.few.some

    ended_by : State → Result Step BlockFault
    ended_by begun = stopping RatioLimit (end_block (without_facts (txs_applied b.txs begun).state)) >>= λ ended. Ok (after_end b begun ended)

    ends : (begun : State) → block_checked b w ≡ Ok tt → begun_by b w ≡ Ok begun → Gives (ended_by begun)
    ends begun c e =
        let k : HasBegun P b w begun = from_if (HasBegun P b w) (begun_by b w) begun e (begun_fits P b (total_in w.view) w (to_fits w s) few c) in
        let done = done_fits P b w begun coins k in
        let x : State = (txs_applied b.txs begun).state in
        let (y, f) = end_gives P (total_in (without_facts x).view) (without_facts x) (without_facts_fits P (total_in x.view) x done.fits.fits) in
        subst (λ (r : Result State Over). Gives (stopping RatioLimit r >>= λ ended. Ok (after_end b begun ended))) (sym f) (after_end b begun y, refl)

    by : (c : Result ⊤ BlockFault) (r : Result State Over) → block_checked b w ≡ c → begun_by b w ≡ r → BlockIsAnswered b w (c >> (stopping RatioLimit r >>= ended_by))
    by (Err fault) r e f = inl e
    by (Ok t) (Err over) e f = inr (record { checked = e; over = over; fault_is = refl; begun = f })
    by (Ok t) (Ok begun) e f =
        let (x, g) = ends begun e f in
        subst (BlockIsAnswered b w) (sym g) (record { checked = e; begun = begun; begins = f })

-- ---- runs

pub all_answered : (some : List (List ℕ)) (few : length some ≤ 1_000_000) (blocks : List Block) (T : List ℕ → ℕ) (w : State) → HaveCoins blocks → StateFits (Contains some) T w → w.view.ctx.height + length blocks < 2 ^ 63 → AnsweredAlong blocks w
all_answered some few [] T w c h room = tt
all_answered some few (b ∷ blocks) T w c h room = (
  blocks_are_answered b w coins (from_fits w some T few h) (here (length blocks) room),
  λ s e.
      let k = from_if (StepFits (Contains some) w) (step b w) s e (block_fits (Contains some) b T w coins h (here (length blocks) room)) in
      all_answered some few blocks (total_in s.state.view) s.state (All-tail (λ (x : Block). All TxHasCoins x.txs) b blocks c) k.fits (later (length blocks) s.state.view.ctx.height room k.height),
)
  where
    coins : All TxHasCoins b.txs
    coins = All-head (λ (x : Block). All TxHasCoins x.txs) b blocks c

    here : (n : ℕ) → w.view.ctx.height + suc n < 2 ^ 63 → w.view.ctx.height + 1 < 2 ^ 63
    here n l = omega (arith, l)

    later : (n x : ℕ) → w.view.ctx.height + suc n < 2 ^ 63 → x ≡ w.view.ctx.height + 1 → x + n < 2 ^ 63
    later n x l e = omega (arith, l, e)

pub runs_are_answered : RunsAreAnswered
runs_are_answered r =
    let s = (started_well r).sound in
    all_answered s.few.some s.few.few r.blocks (total_in r.start.state.view) r.start.state r.input.coins (to_fits r.start.state s) (room r.start.state.view.ctx.height (length r.blocks) (started_well r).height r.input.few)
