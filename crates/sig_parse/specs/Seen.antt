-- The leaves of the parser as those of the grammar.
use Rattle.sig_tree.specs.Terminals.{Terminal as SpecTerminal, Leaf as SpecLeaf, leaf, name, number, label}
use Rattle.sig_parse.specs.declared.leaf.Terminal.{Terminal}
use Rattle.sig_parse.specs.declared.leaf.Terminal.TheVariants.{Name, Number, Label, Keyword}
use Rattle.sig_parse.specs.declared.leaf.Leaf.{Leaf}
use Rattle.sig_parse.specs.inner.Keywords.{terminal_of}

abbrev pub terminal_seen : Terminal → SpecTerminal
terminal_seen (Name text) = name text.now
terminal_seen (Number n) = number n.value
terminal_seen (Label text) = label text.now
terminal_seen (Keyword keyword) = terminal_of keyword

abbrev pub leaf_seen : Leaf → SpecLeaf
leaf_seen l = leaf (terminal_seen l.terminal) l.at
