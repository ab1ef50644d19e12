use Rattle.std.proofs.Common.{rules, arith, refl, ◌≡◌, ◌≢◌, ◌∙◌, ◌≤◌, ◌<◌, ◌+◌, ◌⊎◌, inl, inr, ℕ, List, [], ◌++◌, length, length-append, take, slice_index_or, length-take, length-take-le}
use Rattle.run_app.specs.{Machine.longest, Outcome.most_bytes}
use Rattle.run_app.proofs.DriveLemmas.{byte_or, first_of, told_first, told_more}
use Rattle.run_app.proofs.TakingLemmas.{all_taken, fed_none, fed_number, over_input, over_long, part_taken, stop_may_end, stopped, unread}
use Rattle.run_app.proofs.taking.take_lines.Goals.{else-piece-ne10-via-then-piece-ne10+else-len-eq-LONGEST, else-piece-ne10-via-else-piece-ne10}
use Rattle.run_app.proofs.taking.take_lines.Goals as goal

one_is : (n : ℕ) → n ≤ 1 → (n ≡ 0 → ⊥) → n ≡ 1
one_is n h ne = omega arith

short_piece : (n : ℕ) (piece : List ℕ) → length (take n piece) ≤ n
short_piece n piece = omega (arith, length-take {A = ℕ} n piece)

pub loop-taken-init : goal.loop-taken-init
loop-taken-init g c = record {
  room = search rules;
  most = omega arith;
  at = ([], refl, fed_none (g.T.TakesLines.takes c.args.form) _ _ _ c.requires.number c.requires.line, told_first _);
  read_later = omega arith;
  read_quiet = refl;
  write_later = omega arith;
  write_quiet = refl;
}

pub returns-in-Err-clause-part : goal.returns-in-Err-clause-part
returns-in-Err-clause-part g c =
    let a = c.loop-taken.invariant.at in
    let most : length a.0 ≤ most_bytes = rw a.1 c.loop-taken.invariant.most in
    unread (g.T.TakesLines.takes c.args.form) (g.T.TakesLines.stops c.args.form) _ a.0 _ _ _ _ _ _ a.3 a.2 most c.in-Err.ensures.err

pub returns-in-Err-clause-may : goal.returns-in-Err-clause-may
returns-in-Err-clause-may g c = inr refl

pub returns-in-Ok-eq0-clause-all : goal.returns-in-Ok-eq0-clause-all
returns-in-Ok-eq0-clause-all g c =
    let read = rw c.in-Ok-eq0.field-0-test at c.in-Ok-eq0.ensures in
    let a = c.loop-taken.invariant.at in
    let most : length a.0 ≤ most_bytes = rw a.1 c.loop-taken.invariant.most in
    all_taken (g.T.TakesLines.takes c.args.form) c.last_line.result _ a.0 _ _ _ _ _ a.3 (read.end refl) read.moved most (c.last_line.ensures.all _ a.0 a.2)

pub returns-in-Ok-eq0-clause-part : goal.returns-in-Ok-eq0-clause-part
returns-in-Ok-eq0-clause-part g c =
    let read = rw c.in-Ok-eq0.field-0-test at c.in-Ok-eq0.ensures in
    let a = c.loop-taken.invariant.at in
    let most : length a.0 ≤ most_bytes = rw a.1 c.loop-taken.invariant.most in
    part_taken (g.T.TakesLines.takes c.args.form) (g.T.TakesLines.stops c.args.form) c.last_line.result _ a.0 _ _ _ _ _ a.3 (read.end refl) read.moved (c.last_line.ensures.part _ a.0 most a.2)

pub returns-in-Ok-eq0-clause-may : goal.returns-in-Ok-eq0-clause-may
returns-in-Ok-eq0-clause-may g c = stop_may_end c.last_line.result c.last_line.ensures.may

pub feed_lines-requires-clause-number : goal.feed_lines-requires-clause-number
feed_lines-requires-clause-number g c =
    let a = c.loop-taken.invariant.at in
    let number : c.loop-taken.reading.number ≤ 1 + length a.0 = fed_number (g.T.TakesLines.takes c.args.form) _ a.0 _ _ _ a.2 in
    let size : length a.0 ≡ c.loop-taken.taken = a.1 in
    let piece : length (take c.in-Ok.n c.read_at_most.new.piece) ≤ c.in-Ok.n = short_piece c.in-Ok.n c.read_at_most.new.piece in
    let within : c.in-Ok.n ≤ c.room.result = c.in-Ok.ensures.within in
    omega (arith, c.room.ensures.fits)

pub feed_lines-requires-clause-fed : goal.feed_lines-requires-clause-fed
feed_lines-requires-clause-fed g c =
    let a = c.loop-taken.invariant.at in
    (_, a.0, a.2)

pub returns-in-Err-feed_lines-clause-part : goal.returns-in-Err-feed_lines-clause-part
returns-in-Err-feed_lines-clause-part g c =
    let a = c.loop-taken.invariant.at in
    let size : length a.0 ≡ c.loop-taken.taken = a.1 in
    let piece : List ℕ = take c.in-Ok.n c.read_at_most.new.piece in
    let short : length piece ≤ c.in-Ok.n = short_piece c.in-Ok.n c.read_at_most.new.piece in
    let within : c.in-Ok.n ≤ c.room.result = c.in-Ok.ensures.within in
    let most : length (a.0 ++ piece) ≤ most_bytes = omega (arith, c.room.ensures.fits, length-append a.0 piece) in
    stopped (g.T.TakesLines.takes c.args.form) (g.T.TakesLines.stops c.args.form) c.in-Err-feed_lines.status _ (a.0 ++ piece) _ _ _ (told_more _ a.0 _ _ c.in-Ok.n c.read_at_most.new.piece a.3 c.in-Ok.ensures.moved) most (c.in-Err-feed_lines.ensures.stop _ a.0 a.2)

pub returns-in-Err-feed_lines-clause-may : goal.returns-in-Err-feed_lines-clause-may
returns-in-Err-feed_lines-clause-may g c = inl c.in-Err-feed_lines.ensures.may

pub loop-taken-preserved : goal.loop-taken-preserved
loop-taken-preserved g c =
    let a = c.loop-taken.invariant.at in
    let piece : List ℕ = take c.in-Ok.n c.read_at_most.new.piece in
    let size : length a.0 ≡ c.loop-taken.taken = a.1 in
    let within : c.in-Ok.n ≤ c.room.result = c.in-Ok.ensures.within in
    let full : length c.read_at_most.new.piece ≡ 4096 = omega (arith, c.read_at_most.auto.piece, c.loop-taken.invariant.room) in
    let fits : c.in-Ok.n ≤ length c.read_at_most.new.piece = omega (arith, c.room.ensures.within) in
    let exact : length piece ≡ c.in-Ok.n = length-take-le c.in-Ok.n c.read_at_most.new.piece fits in
    record {
      room = full;
      most = omega (arith, c.room.ensures.fits);
      at = (
        a.0 ++ piece,
        length-append a.0 piece ∙ (λ i. size i + exact i),
        c.in_default.ensures.fed _ a.0 a.2,
        told_more _ a.0 _ _ c.in-Ok.n c.read_at_most.new.piece a.3 c.in-Ok.ensures.moved,
      );
      read_later = omega (arith, c.loop-taken.invariant.read_later, c.read_at_most.ensures.later);
      read_quiet = c.in-Ok.ensures.quiet ∙ c.loop-taken.invariant.read_quiet;
      write_later = omega (arith, c.loop-taken.invariant.write_later, c.feed_lines.ensures.later);
      write_quiet = c.in_default.ensures.quiet ∙ c.loop-taken.invariant.write_quiet;
    }

pub returns-in-Err-read_at_most-clause-part : goal.returns-in-Err-read_at_most-clause-part
returns-in-Err-read_at_most-clause-part g c =
    let a = c.loop-taken.invariant.at in
    let most : length a.0 ≤ most_bytes = rw a.1 c.loop-taken.invariant.most in
    unread (g.T.TakesLines.takes c.args.form) (g.T.TakesLines.stops c.args.form) _ a.0 _ _ _ _ _ _ a.3 a.2 most c.in-Err-read_at_most.ensures.err

pub returns-in-Err-read_at_most-clause-may : goal.returns-in-Err-read_at_most-clause-may
returns-in-Err-read_at_most-clause-may g c = inr refl

pub returns-in-Ok-eq0-read_at_most-clause-all : goal.returns-in-Ok-eq0-read_at_most-clause-all
returns-in-Ok-eq0-read_at_most-clause-all g c =
    let read = rw c.in-Ok-eq0-read_at_most.field-0-test at c.in-Ok-eq0-read_at_most.ensures in
    let a = c.loop-taken.invariant.at in
    let most : length a.0 ≤ most_bytes = rw a.1 c.loop-taken.invariant.most in
    all_taken (g.T.TakesLines.takes c.args.form) c.last_line-in-Ok-eq0-read_at_most.result _ a.0 _ _ _ _ _ a.3 (read.end refl) read.moved most (c.last_line-in-Ok-eq0-read_at_most.ensures.all _ a.0 a.2)

pub returns-in-Ok-eq0-read_at_most-clause-part : goal.returns-in-Ok-eq0-read_at_most-clause-part
returns-in-Ok-eq0-read_at_most-clause-part g c =
    let read = rw c.in-Ok-eq0-read_at_most.field-0-test at c.in-Ok-eq0-read_at_most.ensures in
    let a = c.loop-taken.invariant.at in
    let most : length a.0 ≤ most_bytes = rw a.1 c.loop-taken.invariant.most in
    part_taken (g.T.TakesLines.takes c.args.form) (g.T.TakesLines.stops c.args.form) c.last_line-in-Ok-eq0-read_at_most.result _ a.0 _ _ _ _ _ a.3 (read.end refl) read.moved (c.last_line-in-Ok-eq0-read_at_most.ensures.part _ a.0 most a.2)

pub returns-in-Ok-eq0-read_at_most-clause-may : goal.returns-in-Ok-eq0-read_at_most-clause-may
returns-in-Ok-eq0-read_at_most-clause-may g c = stop_may_end c.last_line-in-Ok-eq0-read_at_most.result c.last_line-in-Ok-eq0-read_at_most.ensures.may

pub returns-then-len-eq-LONGEST-clause-part : goal.returns-then-len-eq-LONGEST-clause-part
returns-then-len-eq-LONGEST-clause-part g c =
    let a = c.loop-taken.invariant.at in
    let one : c.in-Ok-read_at_most.field-0 ≡ 1 = one_is c.in-Ok-read_at_most.field-0 c.in-Ok-read_at_most.ensures.within c.in-Ok-read_at_most.field-0-test.1 in
    let moved = rw one at c.in-Ok-read_at_most.ensures.moved in
    let room : 0 < length c.read_at_most-2.new.piece = omega (arith, c.read_at_most-2.auto.piece, c.loop-taken.invariant.room) in
    let full : length c.loop-taken.reading.line.items ≡ longest = search rules in
    let most : length a.0 ≤ most_bytes = rw a.1 c.loop-taken.invariant.most in
    over_long (g.T.TakesLines.takes c.args.form) (g.T.TakesLines.stops c.args.form) _ a.0 _ _ _ _ _ _ c.read_at_most-2.new.piece _ a.3 a.2 moved (first_of c.read_at_most-2.new.piece 0 room) most c.if-piece-ne10.true full

pub returns-then-len-eq-LONGEST-clause-may : goal.returns-then-len-eq-LONGEST-clause-may
returns-then-len-eq-LONGEST-clause-may g c = inl tt

pub returns-else-piece-ne10-clause-part : goal.returns-else-piece-ne10-clause-part
returns-else-piece-ne10-clause-part g c =
    let a = c.loop-taken.invariant.at in
    let one : c.in-Ok-read_at_most.field-0 ≡ 1 = one_is c.in-Ok-read_at_most.field-0 c.in-Ok-read_at_most.ensures.within c.in-Ok-read_at_most.field-0-test.1 in
    let moved = rw one at c.in-Ok-read_at_most.ensures.moved in
    let room : 0 < length c.read_at_most-2.new.piece = omega (arith, c.read_at_most-2.auto.piece, c.loop-taken.invariant.room) in
    let size : length a.0 ≡ c.loop-taken.taken = a.1 in
    let full : length a.0 ≡ most_bytes = omega (arith, c.loop-taken.invariant.most, c.loop-taken-test.false) in
    let short : (slice_index_or c.read_at_most-2.new.piece 0 0 ≡ 10) ⊎ (length c.loop-taken.reading.line.items ≢ longest) =
    elim c.else-piece-ne10.branch [
      | else-piece-ne10-via-then-piece-ne10+else-len-eq-LONGEST w ↦ let ne : length c.loop-taken.reading.line.items ≢ longest = search rules in inr ne
      | else-piece-ne10-via-else-piece-ne10 w ↦ let ten : slice_index_or c.read_at_most-2.new.piece 0 0 ≡ 10 = search rules in inl ten
    ] in
    over_input (g.T.TakesLines.takes c.args.form) (g.T.TakesLines.stops c.args.form) _ a.0 _ _ _ _ _ _ c.read_at_most-2.new.piece _ a.3 a.2 moved (first_of c.read_at_most-2.new.piece 0 room) full (byte_or _ _ short a.2.short)

pub returns-else-piece-ne10-clause-may : goal.returns-else-piece-ne10-clause-may
returns-else-piece-ne10-clause-may g c = inl tt
