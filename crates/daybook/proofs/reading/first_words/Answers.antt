use Rattle.std.proofs.Common.{◌≡◌}
use Rattle.daybook.proofs.Cutting.{four_cut, word_cut}
use Rattle.daybook.proofs.reading.first_words.Goals as goal
use Rattle.daybook.specs.Words.{words_of}
use Rattle.std.specs.Str.Iter.{split_ascii_whitespace_text}

pub returns : goal.returns
returns c =
    let whole : words_of (split_ascii_whitespace_text c.split_ascii_whitespace-words.result) ≡ words_of c.args.line.now = cc (c.split_ascii_whitespace-words.ensures.text) in
    rw (← whole) (four_cut _ _ _ _ _ c.next.result c.next-2.result c.next-3.result c.next-4.result (word_cut _ _ _ c.next.ensures.steps) (word_cut _ _ _ c.next-2.ensures.steps) (word_cut _ _ _ c.next-3.ensures.steps) (word_cut _ _ _ c.next-4.ensures.steps))
