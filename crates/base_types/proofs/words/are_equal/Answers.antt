use Rattle.base_types.proofs.WordLemmas.{words_equal}
use Rattle.base_types.proofs.words.are_equal.Goals as goal

pub returns : goal.returns
returns c =
    rw (c.word_at.ensures, c.word_at-2.ensures, c.word_at-3.ensures, c.word_at-4.ensures, c.half_word_at.ensures, c.half_word_at-2.ensures)
    (words_equal c.args.a.now c.args.b.now c.told-a c.told-b c.fits-a c.fits-b)
