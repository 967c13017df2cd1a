-- The canonical words of a program: one text for each tree. A parenthesis stands exactly where the
-- grammar needs it.
use Rattle.std.specs.Prelude.{◌++◌, ◌∷◌, if◌then◌else◌}
use Rattle.sig_print.specs.Prelude.{ℕ, ℤ, pos, negsuc, suc, List, [], codes, Option, None, Some, nat_lt, flat_map, Spaced, printed_text, Name, Word, Mark, TreeName, Constant, Int, Bool, Param, Item, Expression, Named, Truth, Unary, Binary, Delay, Cell, Declared, Placement, RightSide, Computed, Called, Equations, Together, Defines, Equal, Bodies, no_body, more_bodies, Heading, ProcessModel, Modelled, ProcessModels, no_model, more_models, default_level, mixed_level, delay_level, primary_level, operand_level, left_level, right_level, level_of}
use Rattle.sig_tree.specs.Syntax.{Number}
use Rattle.sig_print.specs.inner.Words.{after_blank, on_new_line, mark, reserved, name, number, one, label, truth, kind_word, unary_word, binary_word}

-- X { separator X }, and nothing for no X
abbrev pub further : {A : Type 0} → (A → List Spaced) → Spaced → List A → List Spaced
further words separator xs = flat_map (λ x. separator ∷ words x) xs

abbrev pub separated : {A : Type 0} → (A → List Spaced) → Spaced → List A → List Spaced
separated words separator [] = []
separated words separator (x ∷ xs) = words x ++ further words separator xs

abbrev pub integer_words : ℤ → List Spaced
integer_words (pos n) = number n ∷ []
integer_words (negsuc n) = mark (codes "-") ∷ number (suc n) ∷ []

abbrev pub constant_words : Constant → List Spaced
constant_words (Int value at) = integer_words value
constant_words (Bool holds at) = truth holds ∷ []
constant_words (Param n) = name n ∷ []

abbrev pub init_words : Constant → List Spaced
init_words constant = reserved (codes "init") ∷ constant_words constant

abbrev pub optional_init_words : Option Constant → List Spaced
optional_init_words None = []
optional_init_words (Some constant) = init_words constant

-- the words of an expression of a level, where one of a wanted level is asked for
abbrev pub fitted : (wanted level : ℕ) → List Spaced → List Spaced
fitted wanted level words = if nat_lt level wanted then mark (codes "(") ∷ (words ++ mark (codes ")") ∷ []) else words

-- an expression, without parentheses around it
abbrev pub bare_words : Expression → List Spaced
bare_words (Named n) = name n ∷ []
bare_words (Number value at) = number value ∷ []
bare_words (Truth holds at) = truth holds ∷ []
bare_words (Unary op operand at) = unary_word op ∷ fitted (operand_level op) (level_of operand) (bare_words operand)
bare_words (Binary op left right at) = fitted (left_level op) (level_of left) (bare_words left) ++ binary_word op ∷ fitted (right_level op) (level_of right) (bare_words right)
bare_words (Delay operand init at) = fitted delay_level (level_of operand) (bare_words operand) ++ mark (codes "$") ∷ one ∷ optional_init_words init
bare_words (Cell operand held init at) = fitted mixed_level (level_of operand) (bare_words operand)
    ++ reserved (codes "cell") ∷ (fitted primary_level (level_of held) (bare_words held) ++ init_words init)

abbrev pub expression_words : (wanted : ℕ) → Expression → List Spaced
expression_words wanted e = fitted wanted (level_of e) (bare_words e)

abbrev pub names_words : List TreeName → List Spaced
names_words names = separated (λ n. name n ∷ []) (mark (codes ",")) names

-- a left side: one name, or names in parentheses
abbrev pub left_words : List TreeName → List Spaced
left_words (n ∷ []) = name n ∷ []
left_words names = mark (codes "(") ∷ (names_words names ++ mark (codes ")") ∷ [])

-- constants in braces, where there are any
abbrev pub constants_words : List Constant → List Spaced
constants_words [] = []
constants_words (c ∷ cs) = mark (codes "{") ∷ (separated constant_words (mark (codes ",")) (c ∷ cs) ++ mark (codes "}") ∷ [])

abbrev pub right_words : RightSide → List Spaced
right_words (Computed e) = expression_words default_level e
right_words (Called n constants arguments) = name n ∷ (constants_words constants
    ++ mark (codes "(") ∷ (separated (expression_words default_level) (mark (codes ",")) arguments ++ mark (codes ")") ∷ []))

abbrev mutual
  pub body_words : Equations → List Spaced
  body_words (Together bodies) = on_new_line Mark (codes "(|") ∷ (bodies_words bodies ++ on_new_line Mark (codes "|)") ∷ [])
  body_words (Defines names right) = left_words names ++ mark (codes ":=") ∷ right_words right
  body_words (Equal operands) = separated (expression_words default_level) (mark (codes "^=")) operands

  pub bodies_words : Bodies → List Spaced
  bodies_words no_body = []
  bodies_words (more_bodies body rest) = body_words body ++ further_bodies_words rest

  pub further_bodies_words : Bodies → List Spaced
  further_bodies_words no_body = []
  further_bodies_words (more_bodies body rest) = on_new_line Mark (codes "|") ∷ (body_words body ++ further_bodies_words rest)

-- bodies in a list, with '|' between them
abbrev pub body_list_words : List Equations → List Spaced
body_list_words bodies = separated body_words (on_new_line Mark (codes "|")) bodies

abbrev pub item_words : Item → List Spaced
item_words item = name item.name ∷ optional_init_words item.init

abbrev pub group_words : Declared → List Spaced
group_words group = kind_word group.kind ∷ separated item_words (mark (codes ",")) group.items

abbrev pub groups_words : List Declared → List Spaced
groups_words groups = separated group_words (mark (codes ";")) groups

-- parameters in braces, where there are any
abbrev pub params_words : List Declared → List Spaced
params_words [] = []
params_words (group ∷ groups) = mark (codes "{") ∷ (groups_words (group ∷ groups) ++ mark (codes "}") ∷ [])

abbrev pub pragma_words : Placement → List Spaced
pragma_words pragma = after_blank Name (codes "RunOn") ∷ mark (codes "{") ∷ (names_words pragma.names ++ mark (codes "}") ∷ label pragma.label ∷ [])

abbrev pub pragmas_words : List Placement → List Spaced
pragmas_words [] = []
pragmas_words (pragma ∷ pragmas) = on_new_line Word (codes "pragmas")
    ∷ (flat_map pragma_words (pragma ∷ pragmas) ++ reserved (codes "end") ∷ reserved (codes "pragmas") ∷ [])

abbrev pub heading_words : Heading → List Spaced
heading_words heading = on_new_line Word (codes "process") ∷ name heading.name ∷ mark (codes "=") ∷ (params_words heading.params
    ++ mark (codes "(") ∷ mark (codes "?") ∷ (groups_words heading.inputs
    ++ mark (codes "!") ∷ (groups_words heading.outputs
    ++ mark (codes ")") ∷ [])))

abbrev pub heading_in : ProcessModel → Heading
heading_in (Modelled heading _ _ _ _) = heading

abbrev pub local_words : List Declared → List Spaced
local_words groups = flat_map (λ group. group_words group ++ mark (codes ";") ∷ []) groups

-- what is declared after `where`, where there is anything
abbrev pub where_words : List Declared → List Spaced → List Spaced
where_words [] [] = []
where_words groups inner = on_new_line Word (codes "where") ∷ (local_words groups ++ (inner ++ reserved (codes "end") ∷ []))

abbrev mutual
  pub process_words : ProcessModel → List Spaced
  process_words (Modelled heading pragmas body locals inner) = heading_words heading ++ (pragmas_words pragmas ++ (body_words body
      ++ (where_words locals (processes_words inner) ++ mark (codes ";") ∷ [])))

  pub processes_words : ProcessModels → List Spaced
  processes_words no_model = []
  processes_words (more_models model rest) = process_words model ++ processes_words rest

-- the canonical text of a program
abbrev pub canonical_text : List ProcessModel → List ℕ
canonical_text processes = printed_text (flat_map process_words processes)
