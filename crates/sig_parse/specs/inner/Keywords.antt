-- The reserved words and the marks of the parser, as terminals.
use Rattle.std.specs.Prelude.{◌≡◌}
use Rattle.sig_parse.specs.Prelude.{ℕ, List, codes, Terminal, word, mark}
use Rattle.sig_parse.specs.declared.keyword.Keyword.{Keyword}
use Rattle.sig_parse.specs.declared.keyword.Keyword.TheVariants.{Process, Where, End, Integer, Boolean, Event, Init, When, Default, Cell, Not, And, Or, Xor, Modulo, True, False, Pragmas, BodyOpen, BodyClose, Bar, Open, Close, BraceOpen, BraceClose, Comma, Semicolon, Question, Exclamation, Define, SameClock, ClockPlus, ClockMeet, ClockLess, Clock, Dollar, Equal, NotEqual, Less, LessEqual, Greater, GreaterEqual, Plus, Minus, Times, Divide}

-- the terminal that a keyword is
abbrev pub terminal_of : Keyword → Terminal
terminal_of Process = word (codes "process")
terminal_of Where = word (codes "where")
terminal_of End = word (codes "end")
terminal_of Integer = word (codes "integer")
terminal_of Boolean = word (codes "boolean")
terminal_of Event = word (codes "event")
terminal_of Init = word (codes "init")
terminal_of When = word (codes "when")
terminal_of Default = word (codes "default")
terminal_of Cell = word (codes "cell")
terminal_of Not = word (codes "not")
terminal_of And = word (codes "and")
terminal_of Or = word (codes "or")
terminal_of Xor = word (codes "xor")
terminal_of Modulo = word (codes "modulo")
terminal_of True = word (codes "true")
terminal_of False = word (codes "false")
terminal_of Pragmas = word (codes "pragmas")
terminal_of BodyOpen = mark (codes "(|")
terminal_of BodyClose = mark (codes "|)")
terminal_of Bar = mark (codes "|")
terminal_of Open = mark (codes "(")
terminal_of Close = mark (codes ")")
terminal_of BraceOpen = mark (codes "{")
terminal_of BraceClose = mark (codes "}")
terminal_of Comma = mark (codes ",")
terminal_of Semicolon = mark (codes ";")
terminal_of Question = mark (codes "?")
terminal_of Exclamation = mark (codes "!")
terminal_of Define = mark (codes ":=")
terminal_of SameClock = mark (codes "^=")
terminal_of ClockPlus = mark (codes "^+")
terminal_of ClockMeet = mark (codes "^*")
terminal_of ClockLess = mark (codes "^-")
terminal_of Clock = mark (codes "^")
terminal_of Dollar = mark (codes "$")
terminal_of Equal = mark (codes "=")
terminal_of NotEqual = mark (codes "/=")
terminal_of Less = mark (codes "<")
terminal_of LessEqual = mark (codes "<=")
terminal_of Greater = mark (codes ">")
terminal_of GreaterEqual = mark (codes ">=")
terminal_of Plus = mark (codes "+")
terminal_of Minus = mark (codes "-")
terminal_of Times = mark (codes "*")
terminal_of Divide = mark (codes "/")

-- some keyword
abbrev pub IsKeyword : Terminal → Type 0
IsKeyword t = (keyword : Keyword) × (t ≡ terminal_of keyword)

-- its bytes
abbrev pub spelling_of : Keyword → List ℕ
spelling_of Process = codes "process"
spelling_of Where = codes "where"
spelling_of End = codes "end"
spelling_of Integer = codes "integer"
spelling_of Boolean = codes "boolean"
spelling_of Event = codes "event"
spelling_of Init = codes "init"
spelling_of When = codes "when"
spelling_of Default = codes "default"
spelling_of Cell = codes "cell"
spelling_of Not = codes "not"
spelling_of And = codes "and"
spelling_of Or = codes "or"
spelling_of Xor = codes "xor"
spelling_of Modulo = codes "modulo"
spelling_of True = codes "true"
spelling_of False = codes "false"
spelling_of Pragmas = codes "pragmas"
spelling_of BodyOpen = codes "(|"
spelling_of BodyClose = codes "|)"
spelling_of Bar = codes "|"
spelling_of Open = codes "("
spelling_of Close = codes ")"
spelling_of BraceOpen = codes "{"
spelling_of BraceClose = codes "}"
spelling_of Comma = codes ","
spelling_of Semicolon = codes ";"
spelling_of Question = codes "?"
spelling_of Exclamation = codes "!"
spelling_of Define = codes ":="
spelling_of SameClock = codes "^="
spelling_of ClockPlus = codes "^+"
spelling_of ClockMeet = codes "^*"
spelling_of ClockLess = codes "^-"
spelling_of Clock = codes "^"
spelling_of Dollar = codes "$"
spelling_of Equal = codes "="
spelling_of NotEqual = codes "/="
spelling_of Less = codes "<"
spelling_of LessEqual = codes "<="
spelling_of Greater = codes ">"
spelling_of GreaterEqual = codes ">="
spelling_of Plus = codes "+"
spelling_of Minus = codes "-"
spelling_of Times = codes "*"
spelling_of Divide = codes "/"
