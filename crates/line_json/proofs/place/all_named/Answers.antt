use Rattle.std.proofs.Common.{◌≡◌, ◌∙◌, ap, subst, true, false, ◌&&◌, option_map, arith}
use Rattle.json.specs.Json as json
use Rattle.json.specs.Find.{NextMember}
use Rattle.line_json.specs.{Members.{is_among, texts_of}, Tape.keys_among}
use Rattle.line_json.proofs.place.all_named.Goals as goal

pub returns-then-not-is_expected : goal.returns-then-not-is_expected
returns-then-not-is_expected c ms within =
    let names = texts_of c.args.names.now in
    let now = c.loop-key.invariant ms within in
    let next = c.in-Some.ensures.value now.0 now.1 in
    let other : is_among names c.in-Some.key.now ≡ false = grind arith in
    now.2 ∙ ap (keys_among names) next.2 ∙ ap (λ b. b && keys_among names next.1) other

pub loop-key-preserved : goal.loop-key-preserved
loop-key-preserved c ms within =
    let names = texts_of c.args.names.now in
    let now = c.loop-key.invariant ms within in
    let next = c.in-Some.ensures.value now.0 now.1 in
    let known : is_among names c.in-Some.key.now ≡ true = grind arith in
    (next.1, next.4, now.2 ∙ ap (keys_among names) next.2 ∙ ap (λ b. b && keys_among names next.1) known)

pub returns : goal.returns
returns c ms within =
    let now = c.loop-key.invariant ms within in
    let done : now.0 ≡ json.no_members = subst (λ r. NextMember c.loop-key.members (option_map (λ m. (m.0.now, m.1)) r) c.next.new.self) c.in_default.is c.next.ensures.value now.0 now.1 in
    now.2 ∙ ap (keys_among (texts_of c.args.names.now)) done
