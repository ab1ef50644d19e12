use Rattle.std.proofs.Common.{◌≡◌, ◌∙◌, ◌+◌, ◌-◌, ◌/◌, rules, length, take_at, ap, arith}
use Rattle.std.specs.List.{splice}
use Rattle.store_rows.{specs.Fields.{four_bytes, missed_of}, proofs.MissedLemmas.{count_told, missed_few, ring_written}}
use Rattle.store_rows.proofs.missed.push_missed_ring.Goals as goal

pub set_len-requires-clause-within : goal.set_len-requires-clause-within
set_len-requires-clause-within c =
    let told = count_told c.push_len.new.out.items c.push_len-2.new.out.items c.push_each_missed.new.out.items (missed_of c.args.places.now) c.in_ok-push_len-2.ensures c.in_ok-push_each_missed.ensures in
    omega (arith, told.0, told.1, c.len-room.ensures, c.push_len.new.out.ok.0, ap length c.as_mut_slice.ensures.value)

pub set_len-requires-clause-len : goal.set_len-requires-clause-len
set_len-requires-clause-len c =
    let told = count_told c.push_len.new.out.items c.push_len-2.new.out.items c.push_each_missed.new.out.items (missed_of c.args.places.now) c.in_ok-push_len-2.ensures c.in_ok-push_each_missed.ensures in
    omega (arith, told.1, c.len-from.ensures, c.len.ensures, c.push_len-2.new.out.ok.0, c.push_each_missed.new.out.ok.0, missed_few 0 c.args.places.now, c.requires)

pub returns : goal.returns
returns c =
    let told = count_told c.push_len.new.out.items c.push_len-2.new.out.items c.push_each_missed.new.out.items (missed_of c.args.places.now) c.in_ok-push_len-2.ensures c.in_ok-push_each_missed.ensures in
    let count : (c.len.result - c.len-from.result) / 4 ≡ length (missed_of c.args.places.now) = omega (arith, told.1, c.len-from.ensures, c.len.ensures, c.push_len-2.new.out.ok.0, c.push_each_missed.new.out.ok.0) in
    take_at c.set_len.new.out _ c.push_each_missed.new.out.len (search rules)
    ∙ ring_written c.args.out.now.items c.push_len.new.out.items c.push_len-2.new.out.items c.push_each_missed.new.out.items c.set_len.new.out c.args.places.now c.len-room.result _
    c.in_ok-push_len.ensures (c.len-room.ensures ∙ c.push_len.new.out.ok.0) c.in_ok-push_len-2.ensures c.in_ok-push_each_missed.ensures count
    (c.set_len.ensures ∙ ap (λ bytes. splice bytes c.len-room.result (c.len-room.result + 4) (four_bytes ((c.len.result - c.len-from.result) / 4))) c.as_mut_slice.ensures.value)
