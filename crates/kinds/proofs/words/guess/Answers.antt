-- That `words::guess` (src/words.rt) keeps its promise: its table has the byte of the one kind whose word it may be.
use Rattle.kinds.specs.Words.{word_of}
use Rattle.kinds.proofs.Spelling.{guessed}
use Rattle.kinds.proofs.words.guess.Goals as goal

pub returns : goal.returns
unfolding word_of
returns c kind is = rw (c.from-first.ensures, c.from-last.ensures, is) (guessed kind)
