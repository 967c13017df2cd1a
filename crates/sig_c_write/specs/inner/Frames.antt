-- What stands around the operations, in the order in which it is written.
use Rattle.std.specs.Prelude.{◌+◌, ◌++◌, ℕ, List, codes}
use Rattle.sig_file.specs.Images.{ImageView}
use Rattle.sig_file.specs.declared.images.ImageMemory.{ImageMemory}
use Rattle.sig_file.specs.declared.images.ImageSignal.{ImageSignal}
use Rattle.sig_c.specs.SmallC.{Width, Truth, Set, Field, Get, Variable, When, Give, Ignored, Ignore}
use Rattle.sig_c.specs.Written.{Scope, name_at, width_text}
use Rattle.sig_c.specs.Layout.{lines_text, number_text}
use Rattle.sig_c.specs.File.{blanks}
use Rattle.sig_c_step.specs.Translation.{comes, next, one, value_given, width_of_kind}

-- a line of a comment behind another one
abbrev pub next_line : List ℕ → List ℕ
next_line line = codes "\n   " ++ line

-- the first value of a field
abbrev pub first_line : (fields : List (List ℕ)) → ℕ × ImageMemory → List ℕ
first_line fields (n, memory) = codes "    state->" ++ (name_at fields n ++ (codes " = " ++ (number_text memory.init ++ codes ";\n")))

-- a variable that is 0 at first
abbrev pub zero_line : Scope → Width → ℕ → List ℕ
zero_line scope width x = codes "    " ++ (width_text width ++ (codes " " ++ (name_at scope.variables x ++ codes " = 0;\n")))

abbrev pub signal_line : Scope → ℕ × ImageSignal → List ℕ
signal_line scope (n, signal) = zero_line scope (width_of_kind signal.kind) n

abbrev pub comes_line : ImageView → Scope → ℕ × ImageSignal → List ℕ
comes_line image scope (n, signal) = zero_line scope Truth (comes image n)

-- a variable that begins with a field
abbrev pub next_variable : ImageView → Scope → ℕ × ImageMemory → List ℕ
next_variable image scope (n, memory) =
    (codes "    " ++ (width_text (width_of_kind memory.kind) ++ codes " ")) ++ (name_at scope.variables (next image n) ++ (codes " = state->" ++ (name_at scope.fields n ++ codes ";\n")))

abbrev pub unread_line : Scope → Ignored → List ℕ
unread_line scope x = lines_text blanks scope (one (Ignore x))

abbrev pub stored_line : ImageView → Scope → ℕ × ImageMemory → List ℕ
stored_line image scope (n, memory) = lines_text blanks scope (one (Set (Field n) (Get (Variable (next image n)))))

abbrev pub given_line : ImageView → Scope → ℕ × ImageSignal → List ℕ
given_line image scope (y, signal) =
    lines_text blanks scope (one (When (Get (Variable (comes image y))) (one (Give y (value_given (image.inputs + y) signal.kind)))))
