-- A word that was read from the front of a line, and those behind it.
use Rattle.std.specs.Prelude.{◌+◌, List, length}
use Rattle.sig_flow.specs.Words.{Word, words_from}
use Rattle.sig_flow.specs.declared.word.Next.{Next}

abbrev pub word_of : Next → Word
word_of next = record { col = next.col; text = next.word.now }

-- the words behind it
abbrev pub words_behind : Next → List Word
words_behind next = words_from (next.col + length next.word.now) next.rest.now
