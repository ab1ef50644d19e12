-- How what was written grows, line by line.
use Rattle.std.proofs.Common.{◌≡◌, ◌∙◌, ap, sym, subst, refl, arith, ℕ, suc, ◌+◌, ◌-◌, ◌<◌, ◌≤◌, List, [], ◌∷◌, ◌++◌, map, append_assoc, append-nil, Option, Some, IfSome, OnErr, OnOk, Result, Ok, Err, flat_map}
use Rattle.base_io.specs.Calls.{AddsPart, Stays}
use Rattle.run_generated.specs.{Input.{block_drawn, blocks_of, first_genesis}, Lines.{block_line, genesis_line}}
use Rattle.run_generated.specs.Writing.{Grows, GrowsInPart, blocks_text, drawn_text, generated_text}
use Rattle.base_bech32.specs.declared.form.Form.{Form}
use Rattle.base_messages.specs.declared.block.Block.{Block}

-- ---- texts

-- the next block's line, and those behind it
next_text : (f : Form) (before many x : ℕ) → before < many
    → drawn_text f before (many - before) x ≡ block_line f (block_drawn (before + 1) x).value ++ drawn_text f (before + 1) (many - (before + 1)) (block_drawn (before + 1) x).state
next_text f before many x h =
    let one_more : many - before ≡ suc (many - (before + 1)) = omega (arith, h) in
    ap (λ n. drawn_text f before n x) one_more

none_text : (f : Form) (before many x : ℕ) → many ≤ before → drawn_text f before (many - before) x ≡ []
none_text f before many x h =
    let none : many - before ≡ 0 = omega (arith, h) in
    ap (λ n. drawn_text f before n x) none

same_text : (f : Form) (blocks : List Block) → flat_map (λ line. line) (map (block_line f) blocks) ≡ blocks_text f blocks
same_text f [] = refl
same_text f (b ∷ blocks) = ap (λ text. block_line f b ++ text) (same_text f blocks)

-- the input is the line of its genesis, and the lines of its blocks
whole_text : (f : Form) (seed many : ℕ) → generated_text f seed many ≡ genesis_line f first_genesis ++ blocks_text f (blocks_of seed many)
whole_text f seed many = ap (λ text. genesis_line f first_genesis ++ text) (same_text f (blocks_of seed many))

-- ---- growth

pub from_some : (w w' : Option (List ℕ)) (text : List ℕ) → IfSome w (λ bytes. w' ≡ Some (bytes ++ text)) → Grows w w' text
from_some w w' text h old e = subst (λ v. IfSome v (λ bytes. w' ≡ Some (bytes ++ text))) e h

-- nothing is a front
pub none_grown : (w : Option (List ℕ)) (text : List ℕ) → GrowsInPart w w text
none_grown w text old e = ([], record { rest = text; text_is = refl }, e ∙ ap Some (sym (append-nil old)))

-- all is a front
pub whole_grown : (w w' : Option (List ℕ)) (text : List ℕ) → Grows w w' text → GrowsInPart w w' text
whole_grown w w' text h old e = (text, record { rest = []; text_is = sym (append-nil text) }, h old e)

pub then_whole : (w w1 w2 : Option (List ℕ)) (text more whole : List ℕ) → Grows w w1 text → Grows w1 w2 more → whole ≡ text ++ more → Grows w w2 whole
then_whole w w1 w2 text more whole h k e old o =
    k (old ++ text) (h old o) ∙ ap Some (append_assoc old text more ∙ ap (λ t. old ++ t) (sym e))

pub then_part : (w w1 w2 : Option (List ℕ)) (text more whole : List ℕ) → Grows w w1 text → GrowsInPart w1 w2 more → whole ≡ text ++ more → GrowsInPart w w2 whole
then_part w w1 w2 text more whole h k e old o =
    let p = k (old ++ text) (h old o) in (
      text ++ p.0,
      record { rest = p.1.rest; text_is = e ∙ ap (λ t. text ++ t) p.1.text_is ∙ sym (append_assoc text p.0 p.1.rest) },
      p.2 ∙ ap Some (append_assoc old text p.0),
    )

-- a part of the first text is a front of both
pub part_grown : (w w' : Option (List ℕ)) (text more whole : List ℕ) → AddsPart w w' text → whole ≡ text ++ more → GrowsInPart w w' whole
part_grown w w' text more whole h e old o = (
  h.0,
  record { rest = h.1.rest ++ more; text_is = e ∙ ap (λ t. t ++ more) h.1.bytes_are ∙ append_assoc h.0 h.1.rest more },
  h.2 old o,
)

-- ---- the loop over blocks

-- behind what was written come the lines of so many blocks that are drawn from here on
abbrev pub IsOnTheWay : Form → Option (List ℕ) → Option (List ℕ) → ℕ → ℕ → ℕ → List ℕ → Type 0
IsOnTheWay f w w' before many x whole =
    (text : List ℕ) × Grows w w' text × (whole ≡ text ++ drawn_text f before (many - before) x)

pub way_begins : (f : Form) (w : Option (List ℕ)) (many x x' : ℕ) → x' ≡ x → IsOnTheWay f w w 0 many x' (blocks_text f (blocks_of x many))
way_begins f w many x x' e =
    let all : many - 0 ≡ many = omega arith in
    ([], (λ old o. o ∙ ap Some (sym (append-nil old))), sym (ap (λ n. drawn_text f 0 n x') all ∙ ap (λ s. drawn_text f 0 many s) e))

pub way_goes_on : (f : Form) (w w1 w2 : Option (List ℕ)) (before many x x' : ℕ) (line whole : List ℕ) → before < many
    → line ≡ block_line f (block_drawn (before + 1) x).value → x' ≡ (block_drawn (before + 1) x).state
    → IfSome w1 (λ bytes. w2 ≡ Some (bytes ++ line)) → IsOnTheWay f w w1 before many x whole → IsOnTheWay f w w2 (before + 1) many x' whole
way_goes_on f w w1 w2 before many x x' line whole h is state told p =
    let rest = drawn_text f (before + 1) (many - (before + 1)) x' in
    let next : drawn_text f before (many - before) x ≡ line ++ rest =
    next_text f before many x h ∙ ap (λ l. l ++ drawn_text f (before + 1) (many - (before + 1)) (block_drawn (before + 1) x).state) (sym is)
    ∙ ap (λ s. line ++ drawn_text f (before + 1) (many - (before + 1)) s) (sym state) in (
      p.0 ++ line,
      then_whole w w1 w2 p.0 line (p.0 ++ line) p.1 (from_some w1 w2 line told) refl,
      p.2 ∙ ap (λ t. p.0 ++ t) next ∙ sym (append_assoc p.0 line rest),
    )

pub way_ends : (f : Form) (w w' : Option (List ℕ)) (before many x : ℕ) (whole : List ℕ) → many ≤ before → IsOnTheWay f w w' before many x whole → Grows w w' whole
way_ends f w w' before many x whole h p =
    let all : whole ≡ p.0 = p.2 ∙ ap (λ t. p.0 ++ t) (none_text f before many x h) ∙ append-nil p.0 in
    subst (λ t. Grows w w' t) (sym all) p.1

-- where no line is made, and where a line is written in part
pub way_stops : (f : Form) (w w' : Option (List ℕ)) (before many x : ℕ) (whole : List ℕ) → IsOnTheWay f w w' before many x whole → GrowsInPart w w' whole
way_stops f w w' before many x whole p = then_part w w' w' p.0 (drawn_text f before (many - before) x) whole p.1 (none_grown w' _) p.2

pub way_breaks : (f : Form) (w w1 w2 : Option (List ℕ)) (before many x : ℕ) (line whole : List ℕ) → before < many
    → line ≡ block_line f (block_drawn (before + 1) x).value → AddsPart w1 w2 line → IsOnTheWay f w w1 before many x whole → GrowsInPart w w2 whole
way_breaks f w w1 w2 before many x line whole h is part p =
    let behind = drawn_text f (before + 1) (many - (before + 1)) (block_drawn (before + 1) x).state in
    let next : drawn_text f before (many - before) x ≡ line ++ behind = next_text f before many x h ∙ ap (λ l. l ++ behind) (sym is) in
    then_part w w1 w2 p.0 (drawn_text f before (many - before) x) whole p.1 (part_grown w1 w2 line behind _ part next) p.2

-- ---- the whole input

pub input_written : (f : Form) (w w1 w2 : Option (List ℕ)) (line : List ℕ) (seed many : ℕ) → line ≡ genesis_line f first_genesis
    → IfSome w (λ bytes. w1 ≡ Some (bytes ++ line)) → Grows w1 w2 (blocks_text f (blocks_of seed many)) → Grows w w2 (generated_text f seed many)
input_written f w w1 w2 line seed many is told rest =
    then_whole w w1 w2 line (blocks_text f (blocks_of seed many)) _ (from_some w w1 line told) rest
    (whole_text f seed many ∙ ap (λ l. l ++ blocks_text f (blocks_of seed many)) (sym is))

pub input_in_part : (f : Form) (w w1 w2 : Option (List ℕ)) (line : List ℕ) (seed many : ℕ) → line ≡ genesis_line f first_genesis
    → IfSome w (λ bytes. w1 ≡ Some (bytes ++ line)) → GrowsInPart w1 w2 (blocks_text f (blocks_of seed many)) → GrowsInPart w w2 (generated_text f seed many)
input_in_part f w w1 w2 line seed many is told rest =
    then_part w w1 w2 line (blocks_text f (blocks_of seed many)) _ (from_some w w1 line told) rest
    (whole_text f seed many ∙ ap (λ l. l ++ blocks_text f (blocks_of seed many)) (sym is))

pub genesis_in_part : (f : Form) (w w' : Option (List ℕ)) (line : List ℕ) (seed many : ℕ) → line ≡ genesis_line f first_genesis
    → AddsPart w w' line → GrowsInPart w w' (generated_text f seed many)
genesis_in_part f w w' line seed many is part =
    part_grown w w' line (blocks_text f (blocks_of seed many)) _ part (whole_text f seed many ∙ ap (λ l. l ++ blocks_text f (blocks_of seed many)) (sym is))

-- ---- the flush

-- what was written stays
pub then_stays : (w w1 w2 : Option (List ℕ)) (text : List ℕ) → Grows w w1 text → Stays w1 w2 → Grows w w2 text
then_stays w w1 w2 text h s old o = s (old ++ text) (h old o)

-- a part of the text is a front of it
pub part_of_text : (w w' : Option (List ℕ)) (text : List ℕ) → AddsPart w w' text → GrowsInPart w w' text
part_of_text w w' text part = part_grown w w' text [] text part (sym (append-nil text))

-- ---- answers

-- what holds in any case
pub ok_of : {A E : Type 0} (r : Result A E) (P : Type 0) → P → OnOk r P
ok_of (Ok x) P p = p
ok_of (Err e) P p = tt

pub err_of : {A E : Type 0} (r : Result A E) (P : Type 0) → P → OnErr r P
err_of (Ok x) P p = tt
err_of (Err e) P p = p

-- what is known of one answer is known of another
pub ok_too : {A E : Type 0} (r : Result A E) (P Q : Type 0) → (P → Q) → OnOk r P → OnOk r Q
ok_too (Ok x) P Q f h = f h
ok_too (Err e) P Q f h = tt

pub err_too : {A E : Type 0} (r : Result A E) (P Q : Type 0) → (P → Q) → OnErr r P → OnErr r Q
err_too (Ok x) P Q f h = tt
err_too (Err e) P Q f h = f h
