-- Keywords and the terminals that they are.
use Rattle.sig_parse.proofs.Common.{◌≡◌, List, [], ◌∷◌, Option, None, Some, Bool, true, false, cond, refl, sym, ap, ◌∙◌, subst, ◌↔◌, IsTrue, MatchBool, Terminal, Leaf, StopsBefore, StartsWith, is_terminal, Keyword, Process, Where, End, Init, And, Or, Xor, Modulo, True, False, Pragmas, BodyOpen, BodyClose, Bar, Open, Close, BraceOpen, BraceClose, Comma, Semicolon, Question, Exclamation, Define, SameClock, ClockPlus, ClockMeet, ClockLess, Dollar, NotEqual, Less, LessEqual, Greater, GreaterEqual, Plus, Minus, Times, Divide, terminal_of}
use Rattle.sig_parse.specs.declared.keyword.Keyword.TheVariants.{Integer, Boolean, Event, When, Default, Cell, Not, Clock, Equal}

keywords : List Keyword
keywords = Process ∷ Where ∷ End ∷ Integer ∷ Boolean ∷ Event ∷ Init ∷ When ∷ Default ∷ Cell ∷ Not ∷ And ∷ Or ∷ Xor ∷ Modulo ∷ True ∷ False ∷ Pragmas
    ∷ BodyOpen ∷ BodyClose ∷ Bar ∷ Open ∷ Close ∷ BraceOpen ∷ BraceClose ∷ Comma ∷ Semicolon ∷ Question ∷ Exclamation ∷ Define ∷ SameClock
    ∷ ClockPlus ∷ ClockMeet ∷ ClockLess ∷ Clock ∷ Dollar ∷ Equal ∷ NotEqual ∷ Less ∷ LessEqual ∷ Greater ∷ GreaterEqual ∷ Plus ∷ Minus ∷ Times ∷ Divide ∷ []

found : List Keyword → Terminal → Option Keyword
found [] t = None
found (k ∷ ks) t = cond (is_terminal (terminal_of k) t) (Some k) (found ks t)

-- the keyword that a terminal is
keyword_of : Terminal → Option Keyword
keyword_of t = found keywords t

keyword_found : (k : Keyword) → keyword_of (terminal_of k) ≡ Some k
unfolding keyword_of found keywords
keyword_found Process = refl
keyword_found _ = refl

-- keywords of one terminal are the same
pub terminal_same : (a b : Keyword) → terminal_of a ≡ terminal_of b → a ≡ b
terminal_same a b e = let both : Some a ≡ Some b = sym (keyword_found a) ∙ ap keyword_of e ∙ keyword_found b in cc

-- what begins with one keyword does not begin with another
pub other_keyword : (found k : Keyword) (leaves : List Leaf) → StartsWith (λ t. t ≡ terminal_of found) leaves → (found ≡ k → ⊥) → StopsBefore (λ t. t ≡ terminal_of k) leaves
other_keyword found k [] starts other = tt
other_keyword found k (l ∷ leaves) starts other = λ e. other (terminal_same found k (sym starts ∙ e))

-- whether a keyword is next
pub whether : (found k : Keyword) (same : Bool) (leaves : List Leaf) → (IsTrue same ↔ found ≡ k) → StartsWith (λ t. t ≡ terminal_of found) leaves
    → MatchBool same (StartsWith (λ t. t ≡ terminal_of k) leaves) (StopsBefore (λ t. t ≡ terminal_of k) leaves)
whether found k true leaves is starts = subst (λ (o : Keyword). StartsWith (λ t. t ≡ terminal_of o) leaves) (is.0 refl) starts
whether found k false leaves is starts = other_keyword found k leaves starts (λ e. let t : false ≡ true = is.1 e in cc)
