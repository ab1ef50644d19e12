use Rattle.std.proofs.Common.{◌∙◌, sym}
use Rattle.base_types.proofs.WordLemmas.{words_lie, differing, alike}
use Rattle.base_types.proofs.words.order_of.Goals as goal

pub returns-then-x-y : goal.returns-then-x-y
returns-then-x-y c =
    let apart = rw (c.word_at-x.ensures, c.word_at-y.ensures) at c.if-x-y.true in
    rw (c.cmp.ensures, c.word_at-x.ensures, c.word_at-y.ensures)
    (sym (differing _ _ _ apart) ∙ words_lie c.args.a.now c.args.b.now c.told-a c.told-b c.fits-a c.fits-b)

pub returns-then-x-y-2 : goal.returns-then-x-y-2
returns-then-x-y-2 c =
    let same = rw (c.word_at-x.ensures, c.word_at-y.ensures) at c.if-x-y.false in
    let apart = rw (c.word_at-x-2.ensures, c.word_at-y-2.ensures) at c.if-x-y-2.true in
    rw (c.cmp-then-x-y-2.ensures, c.word_at-x-2.ensures, c.word_at-y-2.ensures)
    (sym (alike _ _ _ same ∙ differing _ _ _ apart) ∙ words_lie c.args.a.now c.args.b.now c.told-a c.told-b c.fits-a c.fits-b)

pub returns : goal.returns
returns c =
    let same = rw (c.word_at-x.ensures, c.word_at-y.ensures) at c.if-x-y.false in
    let too = rw (c.word_at-x-2.ensures, c.word_at-y-2.ensures) at c.if-x-y-2.false in
    rw (c.cmp-2.ensures, c.half_word_at.ensures, c.half_word_at-2.ensures)
    (sym (alike _ _ _ same ∙ alike _ _ _ too) ∙ words_lie c.args.a.now c.args.b.now c.told-a c.told-b c.fits-a c.fits-b)
