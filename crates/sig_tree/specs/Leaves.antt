-- The leaves of a text: its tokens, as the terminals of the grammar.
use Rattle.std.specs.Prelude.{◌-◌}
use Rattle.sig_tree.specs.Prelude.{ℕ, List, length, flat_map, slice_range, Option, None, Some, option_to_list, option_map, Token, TokenKind, Name, Word, Number, Label, Mark, Last, text_of}
use Rattle.sig_tree.specs.Terminals.{Terminal, name, word, number, label, mark, Leaf, leaf}

-- what a token of this kind and text says; the end of the text says nothing
abbrev pub terminal_of : TokenKind → List ℕ → Option Terminal
terminal_of Name text = Some (name text)
terminal_of Word text = Some (word text)
terminal_of (Number value) text = Some (number value)
terminal_of Label text = Some (label (slice_range text 1 (length text - 1)))
terminal_of Mark text = Some (mark text)
terminal_of Last text = None

-- the leaf that a token of a text is
abbrev pub leaf_of : List ℕ → Token → Option Leaf
leaf_of text t = option_map (λ terminal. leaf terminal t.at) (terminal_of t.kind (text_of text t))

-- the leaves that tokens of a text are
abbrev pub leaves_of : List ℕ → List Token → List Leaf
leaves_of text tokens = flat_map (λ t. option_to_list (leaf_of text t)) tokens
