-- Lines that are answered are a replay.
use Rattle.std.proofs.Common.{◌≡◌, ◌∙◌, ℕ, ◌+◌, ◌^◌, ◌<◌, ◌≤◌, Bool, true, false, cond, nat_lt, length, All, List, [], ◌∷◌, ◌++◌, Option, Some, None, Result, Ok, Err, refl, sym, ap, arith, Contains, IsOkAnd}
use Rattle.std.{specs.List.AllByRecursion, proofs.lemmas.{Bool.Decides.nat_tests, List.Elements.All-from_recursion}}
use Rattle.base_bech32.specs.declared.form.Form.{Form}
use Rattle.base_roles.specs.declared.refusal.Refusal.{Refusal}
use Rattle.base_messages.specs.declared.{faults.{BlockFault.BlockFault, LineFault.LineFault}, genesis.Genesis.Genesis}
use Rattle.base_messages.specs.declared.block.Block.{Block}
use Rattle.line_json.specs.{Genesis.genesis_of, Block.block_of, Written.{text_of_genesis, text_of_block}}
use Rattle.rule_modules.specs.{Chain.State, Sound.IsSound}
use Rattle.rule_machine.specs.{GenesisConditions.start_condition, GenesisState.{Start, chain_started}}
use Rattle.rule_machine.specs.Machine.{Run, Step, block_checked, going_on, run_of, step}
use Rattle.rule_machine.{specs.Promises.{IsGoodGenesis, Replayed}, proofs.DueLemmas.is_due}
use Rattle.law_soundness.proofs.{Points.{StateFits, to_fits}, Burns.total_in, Running.{StepFits, block_fits, first_ok}}
use Rattle.law_soundness.proofs.{Starting.started_well, Founding.genesis_is_sound, Steps.from_if}
use Rattle.run_app.specs.declared.status.LineStop.TheVariants as stop
use Rattle.run_app.specs.Machine.{Standing, Answer, longest, line_answer, answer_within, genesis_answer, started_answer, begun, told, block_answer, applied_answer, stepped}
use Rattle.run_app.specs.{Runs.AreAnswered, Laws.{SpellBlocks, texts_of, LinesAreReplayed}}
use Rattle.run_app.proofs.ReadLemmas.{AllHaveCoins, block_has_coins, all_have_coins, height_is_low, its_coins}
use Rattle.run_app.proofs.SizeLemmas.{delegations_few}

-- ---- a line that is answered

-- it is within the limit
pub record IsWithin (form : Form) (n : ℕ) (s : Standing) (line : List ℕ) (answer : Answer) : Type 0 where
  pub short : length line ≤ 4194304
  pub is : answer_within form n s line ≡ Ok answer

pub within : (form : Form) (n : ℕ) (s : Standing) (line : List ℕ) (answer : Answer) → line_answer form n s line ≡ Ok answer → IsWithin form n s line answer
unfolding line_answer
within form n s line answer e = by (nat_lt longest (length line)) refl e
  where
    by : (b : Bool) → nat_lt longest (length line) ≡ b → cond b (Err (stop.Long n)) (answer_within form n s line) ≡ Ok answer → IsWithin form n s line answer
    by true q h = absurd cc
    by false q h = record { short = grind (arith, nat_tests, q); is = h }

-- a block that the line spells was applied
pub record Led (form : Form) (line : List ℕ) (s : State) (answer : Answer) : Type 0 where
  pub block : Block
  pub line_is : block_of form line ≡ Ok block
  pub done : Step
  pub done_is : step block s ≡ Ok done
  pub standing_is : answer.standing ≡ Some done.state
  pub text_is : answer.text ≡ text_of_block form done.report

pub block_led : (form : Form) (n : ℕ) (line : List ℕ) (s : State) (r : Result Block LineFault) → block_of form line ≡ r → (answer : Answer) → block_answer form n s r ≡ Ok answer → Led form line s answer
block_led form n line s (Err fault) is answer e = absurd cc
block_led form n line s (Ok block) is answer e = by (step block s) refl e
  where
    by : (r : Result Step BlockFault) → step block s ≡ r → applied_answer form n r ≡ Ok answer → Led form line s answer
    by (Ok done) some h =
        let same : stepped form done ≡ answer = cc in
        record { block = block; line_is = is; done = done; done_is = some; standing_is = sym (ap (λ (a : Answer). a.standing) same); text_is = sym (ap (λ (a : Answer). a.text) same) }
    by (Err fault) none h = absurd cc

-- ---- blocks

-- the lines spell blocks, which lead from one state to the other and report this text, and no more of them than there are heights
record Runs (form : Form) (s : State) (lines : List (List ℕ)) (text : List ℕ) (end : Standing) : Type 0 where
  blocks : List Block
  spelled : SpellBlocks form lines blocks
  coins : AllByRecursion AllHaveCoins blocks
  low : s.view.ctx.height + length blocks < 2 ^ 63
  no_fault : (run_of blocks s).fault ≡ None
  text_is : text ≡ texts_of form (run_of blocks s).reports
  end_is : end ≡ Some (run_of blocks s).state

one_run : (b : Block) (blocks : List Block) (s : State) (done : Step) → step b s ≡ Ok done → going_on s (Ok done) (λ u. run_of blocks u) ≡ run_of (b ∷ blocks) s
one_run b blocks s done is = ap (λ (r : Result Step BlockFault). going_on s r (λ u. run_of blocks u)) (sym is)

pub next_height : (b : Block) (s : State) (done : Step) → step b s ≡ Ok done → b.height ≡ s.view.ctx.height + 1
next_height b s done e = let first = first_ok (block_checked b s) _ done e in (is_due b s first.1).height

module _ (form : Form) (P : List ℕ → Type 0) where
  lines_run : (n : ℕ) (s : State) → StateFits P (total_in s.view) s → s.view.ctx.height < 2 ^ 63 → (lines : List (List ℕ)) (text : List ℕ) (end : Standing) → AreAnswered form n (Some s) lines text end → Runs form s lines text end
  lines_run n s fits low [] text end answered = record { blocks = []; spelled = tt; coins = tt; low = omega (arith, low); no_fault = refl; text_is = answered.0; end_is = answered.1 }
  lines_run n s fits low (line ∷ lines) text end answered =
      let led : Led form line s answered.0 = block_led form n line s (block_of form line) refl answered.0 (within form n (Some s) line answered.0 answered.2).is in
      let next : State = led.done.state in
      let height = next_height led.block s led.done led.done_is in
      let high = height_is_low form line led.block led.line_is in
      let room : s.view.ctx.height + 1 < 2 ^ 63 = omega (arith, height, high) in
      let coins : AllHaveCoins led.block = block_has_coins form line led.block led.line_is in
      let after : StepFits P s led.done = from_if (StepFits P s) (step led.block s) led.done led.done_is (block_fits P led.block (total_in s.view) s (its_coins led.block coins) fits room) in
      let grown = after.height in
      let rest : AreAnswered form (n + 1) (Some next) lines answered.1 end = rw led.standing_is at answered.4 in
      let runs : Runs form next lines answered.1 end = lines_run (n + 1) next after.fits (omega (arith, grown, room)) lines answered.1 end rest in
      let few = runs.low in
      let run = one_run led.block runs.blocks s led.done led.done_is in
      record {
        blocks = led.block ∷ runs.blocks;
        spelled = (led.line_is, runs.spelled);
        coins = (coins, runs.coins);
        low = omega (arith, grown, few);
        no_fault = sym (ap (λ (r : Run). r.fault) run) ∙ runs.no_fault;
        text_is = answered.3 ∙ ap (λ (t : List ℕ). t ++ answered.1) led.text_is ∙ ap (λ (t : List ℕ). text_of_block form led.done.report ++ t) runs.text_is ∙ ap (λ (r : Run). texts_of form r.reports) run;
        end_is = runs.end_is ∙ ap (λ (r : Run). Some r.state) run;
      }

-- ---- the first line

pub record Begun (form : Form) (line : List ℕ) (answer : Answer) : Type 0 where
  pub genesis : Genesis
  pub line_is : genesis_of form line ≡ Ok genesis
  pub good : IsGoodGenesis genesis
  pub start : Start
  pub started : chain_started genesis ≡ Ok start
  pub standing_is : answer.standing ≡ Some start.state
  pub text_is : answer.text ≡ text_of_genesis start.state.view.bank.supplies

good_start : (g : Genesis) (r : Result Start Refusal) → IsOkAnd r (λ s. IsSound s.state) → (start : Start) × (r ≡ Ok start)
good_start g (Ok start) k = (start, refl)
good_start g (Err why) k = absurd k

pub genesis_led : (form : Form) (n : ℕ) (line : List ℕ) → length line ≤ 4194304 → (r : Result Genesis LineFault) → genesis_of form line ≡ r → (answer : Answer) → genesis_answer n r ≡ Ok answer → Begun form line answer
genesis_led form n line short (Err fault) is answer e = absurd cc
genesis_led form n line short (Ok g) is answer e = by (start_condition g) refl e
  where
    by : (o : Option ℕ) → start_condition g ≡ o → started_answer n g o ≡ Ok answer → Begun form line answer
    by None none h =
        let few = delegations_few form line g is in
        let good : IsGoodGenesis g = record { no_condition = none; few = omega (arith, few, short) } in
        let first = good_start g (chain_started g) (genesis_is_sound g good) in
        let same : told (begun g (chain_started g)) ≡ answer = cc in
        record {
          genesis = g;
          line_is = is;
          good = good;
          start = first.0;
          started = first.1;
          standing_is = sym (ap (λ (a : Answer). a.standing) same) ∙ ap (λ (r : Result Start Refusal). Some (begun g r)) first.1;
          text_is = sym (ap (λ (a : Answer). a.text) same) ∙ ap (λ (r : Result Start Refusal). text_of_genesis (begun g r).view.bank.supplies) first.1;
        }
    by (Some condition) some h = absurd cc

some_same : (x y : State) → Some x ≡ Some y → x ≡ y
some_same x y e = cc

no_coins : All AllHaveCoins []
no_coins = All-from_recursion AllHaveCoins [] tt

pub lines_replayed : (form : Form) → LinesAreReplayed form
lines_replayed form line lines text end answered =
    let first : Begun form line answered.0 = genesis_led form 1 line (within form 1 None line answered.0 answered.2).short (genesis_of form line) refl answered.0 (within form 1 None line answered.0 answered.2).is in
    let bare : Replayed = record { genesis = first.genesis; good = first.good; start = first.start; started = first.started; blocks = []; input = record { coins = all_have_coins [] tt; few = omega arith } } in
    let well = started_well bare in
    let zero = well.height in
    let s : State = first.start.state in
    let rest : AreAnswered form 2 (Some s) lines answered.1 (Some end) = rw first.standing_is at answered.4 in
    let runs : Runs form s lines answered.1 (Some end) = lines_run form (Contains well.sound.few.some) 2 s (to_fits s well.sound) (omega (arith, zero)) lines answered.1 (Some end) rest in
    let low = runs.low in
    record {
      replay = record { genesis = first.genesis; good = first.good; start = first.start; started = first.started; blocks = runs.blocks; input = record { coins = all_have_coins runs.blocks runs.coins; few = omega (arith, low, zero) } };
      genesis_is = first.line_is;
      blocks_are = runs.spelled;
      no_fault = runs.no_fault;
      text_is = answered.3 ∙ ap (λ (t : List ℕ). t ++ answered.1) first.text_is ∙ ap (λ (t : List ℕ). text_of_genesis s.view.bank.supplies ++ t) runs.text_is;
      end_is = sym (some_same end _ runs.end_is);
    }
