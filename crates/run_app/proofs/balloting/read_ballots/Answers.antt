use Rattle.std.proofs.Common.{rules, arith, refl, ◌≡◌, ◌≢◌, ◌≤◌, ◌<◌, ◌+◌, ◌⊎◌, inl, inr, ℕ, List, [], ◌++◌, length, length-append, take, slice_index_or, length-take}
use Rattle.run_app.specs.{Machine.longest, Outcome.most_bytes}
use Rattle.run_app.proofs.BallotLemmas.{all_kept, all_uncounted, bytes_of_ballots, over_input, over_long, stopped, taken_first, taken_number, unread}
use Rattle.run_app.proofs.DriveLemmas.{byte_or, first_of, told_first, told_more}
use Rattle.run_app.proofs.balloting.read_ballots.Goals.{else-piece-ne10-via-then-piece-ne10+else-len-eq-LONGEST, else-piece-ne10-via-else-piece-ne10}
use Rattle.run_app.proofs.balloting.read_ballots.Goals as goal

one_is : (n : ℕ) → n ≤ 1 → (n ≡ 0 → ⊥) → n ≡ 1
one_is n h ne = omega arith

short_piece : (n : ℕ) (piece : List ℕ) → length (take n piece) ≤ n
short_piece n piece = omega (arith, length-take {A = ℕ} n piece)

pub loop-taken-init : goal.loop-taken-init
loop-taken-init g c = record {
  room = search rules;
  most = omega arith;
  at = ([], refl, taken_first c.args.form _ _ _ c.requires.number c.requires.line c.requires.none, told_first _);
  later = omega arith;
  quiet = refl;
}

pub feed_ballots-requires-clause-number : goal.feed_ballots-requires-clause-number
feed_ballots-requires-clause-number g c =
    let a = c.loop-taken.invariant.at in
    let number : c.loop-taken.balloting.number ≤ 1 + length a.0 = taken_number c.args.form a.0 _ _ _ a.2 in
    let size : length a.0 ≡ c.loop-taken.taken = a.1 in
    let piece : length (take c.in-Ok.n c.read_at_most.new.piece) ≤ c.in-Ok.n = short_piece c.in-Ok.n c.read_at_most.new.piece in
    let within : c.in-Ok.n ≤ c.room.result = c.in-Ok.ensures.within in
    omega (arith, c.room.ensures.fits)

pub returns-in-Err-feed_ballots-clause-uncounted : goal.returns-in-Err-feed_ballots-clause-uncounted
returns-in-Err-feed_ballots-clause-uncounted g c =
    let a = c.loop-taken.invariant.at in
    let size : length a.0 ≡ c.loop-taken.taken = a.1 in
    let piece : List ℕ = take c.in-Ok.n c.read_at_most.new.piece in
    let short : length piece ≤ c.in-Ok.n = short_piece c.in-Ok.n c.read_at_most.new.piece in
    let within : c.in-Ok.n ≤ c.room.result = c.in-Ok.ensures.within in
    let most : length (a.0 ++ piece) ≤ most_bytes = omega (arith, c.room.ensures.fits, length-append a.0 piece) in
    rw c.status_of.ensures
    (stopped c.args.form _ (a.0 ++ piece) _ c.in-Err-feed_ballots.stop (told_more _ a.0 _ _ c.in-Ok.n c.read_at_most.new.piece a.3 c.in-Ok.ensures.moved) most (c.in-Err-feed_ballots.ensures.stop a.0 a.2))

pub returns-in-Err-feed_ballots-clause-of_ballots : goal.returns-in-Err-feed_ballots-clause-of_ballots
returns-in-Err-feed_ballots-clause-of_ballots g c =
    let a = c.loop-taken.invariant.at in
    rw c.status_of.ensures (bytes_of_ballots c.args.form c.in-Err-feed_ballots.stop _ (c.in-Err-feed_ballots.ensures.stop a.0 a.2))

pub returns-then-len-eq-LONGEST-clause-uncounted : goal.returns-then-len-eq-LONGEST-clause-uncounted
returns-then-len-eq-LONGEST-clause-uncounted g c =
    let a = c.loop-taken.invariant.at in
    let one : c.in-Ok-read_at_most.field-0 ≡ 1 = one_is c.in-Ok-read_at_most.field-0 c.in-Ok-read_at_most.ensures.within c.in-Ok-read_at_most.field-0-test.1 in
    let moved = rw one at c.in-Ok-read_at_most.ensures.moved in
    let room : 0 < length c.read_at_most-2.new.piece = omega (arith, c.read_at_most-2.auto.piece, c.loop-taken.invariant.room) in
    let full : length c.loop-taken.balloting.line.items ≡ longest = search rules in
    let most : length a.0 ≤ most_bytes = rw a.1 c.loop-taken.invariant.most in
    over_long c.args.form _ a.0 _ _ _ _ _ c.read_at_most-2.new.piece _ a.3 a.2 moved (first_of c.read_at_most-2.new.piece 0 room) most c.if-piece-ne10.true full

pub returns-else-piece-ne10-clause-uncounted : goal.returns-else-piece-ne10-clause-uncounted
returns-else-piece-ne10-clause-uncounted g c =
    let a = c.loop-taken.invariant.at in
    let one : c.in-Ok-read_at_most.field-0 ≡ 1 = one_is c.in-Ok-read_at_most.field-0 c.in-Ok-read_at_most.ensures.within c.in-Ok-read_at_most.field-0-test.1 in
    let moved = rw one at c.in-Ok-read_at_most.ensures.moved in
    let room : 0 < length c.read_at_most-2.new.piece = omega (arith, c.read_at_most-2.auto.piece, c.loop-taken.invariant.room) in
    let size : length a.0 ≡ c.loop-taken.taken = a.1 in
    let full : length a.0 ≡ most_bytes = omega (arith, c.loop-taken.invariant.most, c.loop-taken-test.false) in
    let short : (slice_index_or c.read_at_most-2.new.piece 0 0 ≡ 10) ⊎ (length c.loop-taken.balloting.line.items ≢ longest) =
    elim c.else-piece-ne10.branch [
      | else-piece-ne10-via-then-piece-ne10+else-len-eq-LONGEST w ↦ let ne : length c.loop-taken.balloting.line.items ≢ longest = search rules in inr ne
      | else-piece-ne10-via-else-piece-ne10 w ↦ let ten : slice_index_or c.read_at_most-2.new.piece 0 0 ≡ 10 = search rules in inl ten
    ] in
    over_input c.args.form _ a.0 _ _ _ _ _ c.read_at_most-2.new.piece _ a.3 a.2 moved (first_of c.read_at_most-2.new.piece 0 room) full (byte_or _ _ short a.2.short)

pub returns-in-Err-clause-uncounted : goal.returns-in-Err-clause-uncounted
returns-in-Err-clause-uncounted g c =
    let a = c.loop-taken.invariant.at in
    let most : length a.0 ≤ most_bytes = rw a.1 c.loop-taken.invariant.most in
    unread c.args.form _ a.0 _ _ _ _ _ a.3 a.2 most c.in-Err.ensures.err

pub returns-in-Ok-eq0-clause-kept : goal.returns-in-Ok-eq0-clause-kept
returns-in-Ok-eq0-clause-kept g c =
    let read = rw c.in-Ok-eq0.field-0-test at c.in-Ok-eq0.ensures in
    let a = c.loop-taken.invariant.at in
    let most : length a.0 ≤ most_bytes = rw a.1 c.loop-taken.invariant.most in
    all_kept c.args.form c.last_ballot.result _ a.0 _ _ _ _ a.3 (read.end refl) read.moved most (c.last_ballot.ensures.kept a.0 a.2)

pub returns-in-Ok-eq0-clause-uncounted : goal.returns-in-Ok-eq0-clause-uncounted
returns-in-Ok-eq0-clause-uncounted g c =
    let read = rw c.in-Ok-eq0.field-0-test at c.in-Ok-eq0.ensures in
    let a = c.loop-taken.invariant.at in
    let most : length a.0 ≤ most_bytes = rw a.1 c.loop-taken.invariant.most in
    all_uncounted c.args.form c.last_ballot.result _ a.0 _ _ _ a.3 (read.end refl) read.moved (c.last_ballot.ensures.uncounted a.0 most a.2)

pub returns-in-Err-read_at_most-clause-uncounted : goal.returns-in-Err-read_at_most-clause-uncounted
returns-in-Err-read_at_most-clause-uncounted g c =
    let a = c.loop-taken.invariant.at in
    let most : length a.0 ≤ most_bytes = rw a.1 c.loop-taken.invariant.most in
    unread c.args.form _ a.0 _ _ _ _ _ a.3 a.2 most c.in-Err-read_at_most.ensures.err

pub returns-in-Ok-eq0-read_at_most-clause-kept : goal.returns-in-Ok-eq0-read_at_most-clause-kept
returns-in-Ok-eq0-read_at_most-clause-kept g c =
    let read = rw c.in-Ok-eq0-read_at_most.field-0-test at c.in-Ok-eq0-read_at_most.ensures in
    let a = c.loop-taken.invariant.at in
    let most : length a.0 ≤ most_bytes = rw a.1 c.loop-taken.invariant.most in
    all_kept c.args.form c.last_ballot-in-Ok-eq0-read_at_most.result _ a.0 _ _ _ _ a.3 (read.end refl) read.moved most (c.last_ballot-in-Ok-eq0-read_at_most.ensures.kept a.0 a.2)

pub returns-in-Ok-eq0-read_at_most-clause-uncounted : goal.returns-in-Ok-eq0-read_at_most-clause-uncounted
returns-in-Ok-eq0-read_at_most-clause-uncounted g c =
    let read = rw c.in-Ok-eq0-read_at_most.field-0-test at c.in-Ok-eq0-read_at_most.ensures in
    let a = c.loop-taken.invariant.at in
    let most : length a.0 ≤ most_bytes = rw a.1 c.loop-taken.invariant.most in
    all_uncounted c.args.form c.last_ballot-in-Ok-eq0-read_at_most.result _ a.0 _ _ _ a.3 (read.end refl) read.moved (c.last_ballot-in-Ok-eq0-read_at_most.ensures.uncounted a.0 most a.2)
