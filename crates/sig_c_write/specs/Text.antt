-- The text of the step of an image: before the statements of each operation stands a comment.
use Rattle.std.specs.Prelude.{◌≡◌, ◌∷◌, ◌++◌, ◌+◌, ℕ, zero, suc, List, [], true, length, nat_eq, if◌then◌else◌, codes, replicate}
use Rattle.sig_file.specs.Images.{ImageView}
use Rattle.sig_file.specs.declared.images.ImageOp.{ImageOp}
use Rattle.sig_c.specs.SmallC.{Name}
use Rattle.sig_c.specs.Written.{Scope, scope_of}
use Rattle.sig_c.specs.Names.{is_file_name}
use Rattle.sig_c.specs.Layout.{expression_text, lines_text}
use Rattle.sig_c.specs.File.{AreComments, comment_text, blanks, file_text}
use Rattle.sig_c_step.specs.Names.{Names}
use Rattle.sig_c_step.specs.Translation.{variables_of, guard_of, doing, causes_of, is_left_out, ignoring, storing, giving, outputs_in, header_of, unit_of, joined}

-- words that mean nothing to C: the lines of the first comment, and a comment for each operation that is not left out
pub record Notes : Type 0 where
  pub head : List (List ℕ)
  pub operations : List (List ℕ)

abbrev pub first_of : List (List ℕ) → List ℕ
first_of [] = []
first_of (note ∷ notes) = note

abbrev pub others_of : List (List ℕ) → List (List ℕ)
others_of [] = []
others_of (note ∷ notes) = notes

module _ (image : ImageView) (names : Names) where
  abbrev pub scope : Scope
  scope = scope_of (header_of image names) (variables_of image names)

  -- what begins a line: a guard that is always true has no block
  abbrev pub margin : (guard : ℕ) → List ℕ
  margin (suc zero) = blanks
  margin guard = replicate 8 32

  abbrev pub block_end : (guard : ℕ) → List ℕ → List ℕ
  block_end (suc zero) rest = rest
  block_end guard rest = codes "    }\n" ++ rest

  abbrev pub block_beginning : (guard : ℕ) → List ℕ → List ℕ
  block_beginning (suc zero) rest = rest
  block_beginning guard rest = codes "    if (" ++ (expression_text scope (guard_of image guard) ++ (codes ") {\n" ++ rest))

  -- an operation whose first end has this number
  abbrev pub operation_text : (code : ℕ) → ImageOp → (note : List ℕ) → List ℕ → List ℕ
  operation_text code op note rest = margin op.guard ++ comment_text (note ∷ []) (lines_text (margin op.guard) scope (doing image code op.kind) ++ rest)

  -- the operations from one on, where a block of this guard has begun and the next end has this number
  abbrev pub operations_text : (guard code : ℕ) → (notes : List (List ℕ)) → List ImageOp → List ℕ → List ℕ
  operations_text guard code notes [] rest = block_end guard rest
  operations_text guard code notes (op ∷ ops) rest =
      if is_left_out op then operations_text guard code notes ops rest
      else (if nat_eq op.guard guard
      then operation_text code op (first_of notes) (operations_text guard (code + length (causes_of op.kind)) (others_of notes) ops rest)
      else block_end guard (block_beginning op.guard (operation_text code op (first_of notes) (operations_text op.guard (code + length (causes_of op.kind)) (others_of notes) ops rest))))

  -- the statements of the step
  abbrev pub body_text : (notes : List (List ℕ)) → List ℕ
  body_text notes =
      lines_text blanks scope (ignoring names.unread) ++ (codes "\n" ++ operations_text 1 1 notes image.ops (codes "\n"
      ++ lines_text blanks scope (joined (storing image 0 image.memories) (giving image 0 (outputs_in image)))))

-- The text of the step of an image, with its tables and helpers.
unfoldable pub text_of : ImageView → Names → (include : Name) → Notes → List ℕ
text_of image names include notes = file_text notes.head include (header_of image names) (unit_of image names) (body_text image names notes.operations)

-- the notes may be comments, and the file that is included has a name
pub record AreNotes (include : Name) (notes : Notes) : Type 0 where
  pub head : AreComments notes.head
  pub operations : AreComments notes.operations
  pub include_name : is_file_name include ≡ true
