-- The text of a clock hierarchy: a line for each class, in preorder, with two blanks for each level and the declared
-- signals of the class.
use Rattle.std.specs.Prelude.{◌≡◌, ◌+◌, ◌==◌, ◌∷◌, ◌++◌}
use Rattle.sig_hier.specs.Prelude.{ℕ, zero, suc, Bool, false, List, [], length, filter, slice_get, slice_index, slice_index_or, Option, None, Some, codes, flat_map, range_with_len, Signal, AreClocks, ClocksView, Node, Kernel}
use Rattle.sig_hier.specs.Trees.{IsTree}
use Rattle.sig_hier.specs.declared.preorder.Line.{Line}

abbrev pub is_parent : Option ℕ → ℕ → Bool
is_parent None class = false
is_parent (Some parent) class = parent == class

-- the classes whose parent this is, by number
abbrev pub children : List (Option ℕ) → ℕ → List ℕ
children tree class = filter (λ other. is_parent (slice_index_or tree other None) class) (range_with_len 0 (length tree))

-- a class at a level, and then its children, each with what is below it; at most so many levels
abbrev pub preorder_from : ℕ → List (Option ℕ) → ℕ → ℕ → List Line
preorder_from zero tree level class = []
preorder_from (suc levels) tree level class =
    record { level = level; class = class } ∷ flat_map (preorder_from levels tree (level + 1)) (children tree class)

-- The classes of a tree in preorder, from class 0 on. No tree has more levels than classes.
abbrev pub preorder : List (Option ℕ) → List Line
preorder tree = preorder_from (length tree) tree 0 0

abbrev pub indent : ℕ → List ℕ
indent zero = []
indent (suc level) = codes "  " ++ indent level

-- the declared signals of a class, by number
abbrev pub members : Kernel → List ℕ → ℕ → List ℕ
members kernel class_of class = filter (λ signal. slice_index class_of signal == class) (range_with_len 0 kernel.declared)

abbrev pub name_of : Option Signal → List ℕ
name_of None = []
name_of (Some signal) = signal.name

abbrev pub name_at : List Signal → ℕ → List ℕ
name_at signals signal = name_of (slice_get signals signal)

-- a blank and the name of each signal
abbrev pub others_text : List Signal → List ℕ → List ℕ
others_text signals others = flat_map (λ other. codes " " ++ name_at signals other) others

-- the names of signals, separated by blanks, or `-` where there is none
abbrev pub names_text : List Signal → List ℕ → List ℕ
names_text signals [] = codes "-"
names_text signals (first ∷ others) = name_at signals first ++ others_text signals others

abbrev pub line_text : Kernel → List ℕ → Line → List ℕ
line_text kernel class_of line = indent line.level ++ names_text kernel.signals (members kernel class_of line.class) ++ codes "\n"

-- the text of the tree of a kernel's clocks
abbrev pub text_of : Kernel → ClocksView → List (Option ℕ) → List ℕ
text_of kernel clocks tree = flat_map (line_text kernel clocks.class_of) (preorder tree)

-- the text of the hierarchy of a kernel's clocks, whose guards are references of some store
pub record IsTreeText (kernel : Kernel) (text : List ℕ) : Type 0 where
  pub nodes : List Node
  pub clocks : ClocksView
  pub are : AreClocks kernel nodes clocks
  pub tree : List (Option ℕ)
  pub is : IsTree nodes clocks tree
  pub says : text ≡ text_of kernel clocks tree
