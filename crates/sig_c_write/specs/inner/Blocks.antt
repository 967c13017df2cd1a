-- The operations in their blocks, in the order in which they are written.
use Rattle.std.specs.Prelude.{◌∷◌, ◌+◌, ◌++◌, ℕ, suc, zero, Bool, true, false, List, [], length, nat_eq, if◌then◌else◌, codes, replicate}
use Rattle.sig_file.specs.Images.{ImageView}
use Rattle.sig_file.specs.declared.images.ImageOp.{ImageOp}
use Rattle.sig_c.specs.Written.{Scope, name_at}
use Rattle.sig_c_write.specs.declared.blocks.Reached.{Reached}
use Rattle.sig_c.specs.Layout.{expression_text, lines_text}
use Rattle.sig_c.specs.File.{blanks}
use Rattle.sig_c_step.specs.Translation.{causes_of, doing, guard_of, is_left_out}

abbrev pub margin_of : (guard : ℕ) → List ℕ
margin_of (suc zero) = blanks
margin_of guard = replicate 8 32

abbrev pub note_bytes : (note : List ℕ) → List ℕ
note_bytes note = codes "/* " ++ (note ++ codes " */\n")

-- an operation, behind its comment
abbrev pub op_bytes : ImageView → Scope → (code : ℕ) → ImageOp → (note : List ℕ) → List ℕ
op_bytes image scope code op note = margin_of op.guard ++ (note_bytes note ++ lines_text (margin_of op.guard) scope (doing image code op.kind))

abbrev pub block_closing : (guard : ℕ) → List ℕ
block_closing (suc zero) = []
block_closing guard = codes "    }\n"

abbrev pub block_opening : ImageView → Scope → (guard : ℕ) → List ℕ
block_opening image scope (suc zero) = []
block_opening image scope guard = codes "    if (" ++ (expression_text scope (guard_of image guard) ++ codes ") {\n")

-- what stands between an operation under one guard and the next one under another
abbrev pub turn : ImageView → Scope → (is_same : Bool) → (last guard : ℕ) → List ℕ
turn image scope true last guard = []
turn image scope false last guard = block_closing last ++ block_opening image scope guard

-- an operation that is not left out, and how far the text is behind it
abbrev pub done_bytes : ImageView → Scope → (notes : List (List ℕ)) → Reached → ImageOp → List ℕ
done_bytes image scope notes reached op =
    turn image scope (nat_eq op.guard reached.guard) reached.guard op.guard ++ op_bytes image scope reached.code op (name_at notes reached.note)

abbrev pub after : Reached → ImageOp → Reached
after reached op = record { guard = op.guard; code = reached.code + length (causes_of op.kind); note = reached.note + 1 }

abbrev pub next_bytes : ImageView → Scope → (notes : List (List ℕ)) → Reached → ImageOp → List ℕ
next_bytes image scope notes reached op = if is_left_out op then [] else done_bytes image scope notes reached op

abbrev pub next_after : Reached → ImageOp → Reached
next_after reached op = if is_left_out op then reached else after reached op

-- the operations from one on
abbrev pub ops_bytes : ImageView → Scope → (notes : List (List ℕ)) → Reached → List ImageOp → List ℕ
ops_bytes image scope notes reached [] = block_closing reached.guard
ops_bytes image scope notes reached (op ∷ ops) = next_bytes image scope notes reached op ++ ops_bytes image scope notes (next_after reached op) ops

-- before the first operation
abbrev pub beginning : Reached
beginning = record { guard = 1; code = 1; note = 0 }
