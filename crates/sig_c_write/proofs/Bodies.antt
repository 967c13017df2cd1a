-- The text of a step's statements has the tokens of its statements.
use Rattle.std.proofs.Common.{◌≡◌, ◌+◌, ◌∷◌, ◌++◌, ℕ, zero, suc, Bool, true, false, List, [], Option, refl, sym, ap, ◌∙◌, subst, append_assoc, append-nil, length, nat_eq, if◌then◌else◌, replicate}
use Rattle.std.specs.Prelude.{codes}
use Rattle.sig_dd.specs.Nodes.{diagram}
use Rattle.sig_file.specs.Guarded.{nodes_in}
use Rattle.sig_file.specs.Images.{ImageView, MayDo, scope_of}
use Rattle.sig_file.specs.declared.images.ImageOp.{ImageOp}
use Rattle.sig_c.specs.SmallC.{Expression, Statements, none, more}
use Rattle.sig_c.specs.Tokens.{Token, Word, Sign, Mode, Fresh, Between, Scanned, scan, scanned}
use Rattle.sig_c.specs.Written as written
use Rattle.sig_c.specs.Written.{Scope, expression_tokens, statements_tokens}
use Rattle.sig_c.specs.Names as c
use Rattle.sig_c.specs.Names.{AreStatements, IsExpression}
use Rattle.sig_c.specs.Layout.{AreLaid, IsLaid, expression_text, lines_text}
use Rattle.sig_c.specs.File.{AreComments, blanks, comment_text, is_comment_behind}
use Rattle.sig_c.proofs.Scanning.{Makes}
use Rattle.sig_c.proofs.Layouts.{then_makes, closing, expression_piece}
use Rattle.sig_c.proofs.Lines.{lines_whole}
use Rattle.sig_c.proofs.Files.{IsBody, comment_line}
use Rattle.sig_c_step.specs.Names.{Names}
use Rattle.sig_c_step.specs.Translation.{block, blocks, causes_of, doing, giving, guard_of, ignoring, is_left_out, joined, outputs_in, step_in, storing}
use Rattle.sig_c_write.specs.Text.{block_beginning, block_end, body_text, first_of, margin, operation_text, operations_text, others_of, scope}
use Rattle.sig_c_step.proofs.LaidOut.{condition_laid, doing_laid}
use Rattle.sig_c_write.proofs.Laid.{MayAll, first_laid, last_laid}

-- ---- statements in two parts

joined_tokens : (s : Scope) (a b : Statements) → statements_tokens s (joined a b) ≡ statements_tokens s a ++ statements_tokens s b
joined_tokens s none b = refl
joined_tokens s (more statement rest) b = ap (λ (l : List Token). written.statement_tokens s statement ++ l) (joined_tokens s rest b) ∙ sym (append_assoc (written.statement_tokens s statement) (statements_tokens s rest) (statements_tokens s b))

joined_first : (s : Scope) (a b : Statements) → AreStatements s (joined a b) → AreStatements s a
joined_first s none b are = tt
joined_first s (more statement rest) b are = (are.0, joined_first s rest b are.1)

joined_last : (s : Scope) (a b : Statements) → AreStatements s (joined a b) → AreStatements s b
joined_last s none b are = are
joined_last s (more statement rest) b are = joined_last s rest b are.1

module _ (image : ImageView) (names : Names) (free : c.AreNames (scope image names)) where
  abbrev here : Scope
  here = scope image names

  -- ---- blocks and their tokens

  abbrev pub opens : (guard : ℕ) → List Token
  opens (suc zero) = []
  opens guard = Word (codes "if") ∷ Sign (codes "(") ∷ (expression_tokens here (guard_of image guard) ++ Sign (codes ")") ∷ Sign (codes "{") ∷ [])

  abbrev pub closes : (guard : ℕ) → List Token
  closes (suc zero) = []
  closes guard = Sign (codes "}") ∷ []

  when_tokens : (e body after : List Token) → (Word (codes "if") ∷ Sign (codes "(") ∷ (e ++ Sign (codes ")") ∷ Sign (codes "{") ∷ (body ++ Sign (codes "}") ∷ []))) ++ after
      ≡ (Word (codes "if") ∷ Sign (codes "(") ∷ (e ++ Sign (codes ")") ∷ Sign (codes "{") ∷ [])) ++ (body ++ Sign (codes "}") ∷ after)
  when_tokens e body after =
      ap (λ (l : List Token). Word (codes "if") ∷ Sign (codes "(") ∷ l) (append_assoc e (Sign (codes ")") ∷ Sign (codes "{") ∷ (body ++ Sign (codes "}") ∷ [])) after
      ∙ ap (λ (l : List Token). e ++ Sign (codes ")") ∷ Sign (codes "{") ∷ l) (append_assoc body (Sign (codes "}") ∷ []) after)
      ∙ sym (append_assoc e (Sign (codes ")") ∷ Sign (codes "{") ∷ []) (body ++ Sign (codes "}") ∷ after)))

  block_tokens : (guard : ℕ) (body after : Statements) → statements_tokens here (block image guard body after) ≡ opens guard ++ (statements_tokens here body ++ (closes guard ++ statements_tokens here after))
  block_tokens (suc zero) body after = joined_tokens here body after
  block_tokens zero body after = when_tokens (expression_tokens here (guard_of image 0)) (statements_tokens here body) (statements_tokens here after)
  block_tokens (suc (suc guard)) body after = when_tokens (expression_tokens here (guard_of image (suc (suc guard)))) (statements_tokens here body) (statements_tokens here after)

  abbrev done : (code : ℕ) → ImageOp → List Token
  done code op = statements_tokens here (doing image code op.kind)

  -- what is left of the operations, where a block of this guard has begun
  abbrev pub remaining : (guard code : ℕ) → List ImageOp → List Token
  remaining guard code [] = closes guard
  remaining guard code (op ∷ ops) =
      if is_left_out op then remaining guard code ops
      else (if nat_eq op.guard guard then done code op ++ remaining guard (code + length (causes_of op.kind)) ops
      else closes guard ++ (opens op.guard ++ (done code op ++ remaining op.guard (code + length (causes_of op.kind)) ops)))

  blocks_tokens : (ops : List ImageOp) (guard : ℕ) (body : Statements) (code : ℕ)
      → statements_tokens here (blocks image guard body code ops) ≡ opens guard ++ (statements_tokens here body ++ remaining guard code ops)
  blocks_tokens [] guard body code = block_tokens guard body none ∙ ap (λ (l : List Token). opens guard ++ (statements_tokens here body ++ l)) (append-nil (closes guard))
  blocks_tokens (op ∷ ops) guard body code =
      by (is_left_out op) (nat_eq op.guard guard) (blocks_tokens ops guard body code) (blocks_tokens ops guard (joined body (doing image code op.kind)) next_code) (blocks_tokens ops op.guard (doing image code op.kind) next_code)
    where
      next_code : ℕ
      next_code = code + length (causes_of op.kind)

      text : (b d : Bool) → Statements
      text b d = if b then blocks image guard body code ops
          else (if d then blocks image guard (joined body (doing image code op.kind)) next_code ops else block image guard body (blocks image op.guard (doing image code op.kind) next_code ops))

      left : (b d : Bool) → List Token
      left b d = if b then remaining guard code ops
          else (if d then done code op ++ remaining guard next_code ops else closes guard ++ (opens op.guard ++ (done code op ++ remaining op.guard next_code ops)))

      by : (b d : Bool) → statements_tokens here (blocks image guard body code ops) ≡ opens guard ++ (statements_tokens here body ++ remaining guard code ops)
          → statements_tokens here (blocks image guard (joined body (doing image code op.kind)) next_code ops) ≡ opens guard ++ (statements_tokens here (joined body (doing image code op.kind)) ++ remaining guard next_code ops)
          → statements_tokens here (blocks image op.guard (doing image code op.kind) next_code ops) ≡ opens op.guard ++ (done code op ++ remaining op.guard next_code ops)
          → statements_tokens here (text b d) ≡ opens guard ++ (statements_tokens here body ++ left b d)
      by true d out same other = out
      by false true out same other =
          same ∙ ap (λ (l : List Token). opens guard ++ (l ++ remaining guard next_code ops)) (joined_tokens here body (doing image code op.kind))
          ∙ ap (λ (l : List Token). opens guard ++ l) (append_assoc (statements_tokens here body) (done code op) (remaining guard next_code ops))
      by false false out same other =
          block_tokens guard body (blocks image op.guard (doing image code op.kind) next_code ops)
          ∙ ap (λ (l : List Token). opens guard ++ (statements_tokens here body ++ (closes guard ++ l))) other

  -- ---- parts of right statements

  abbrev pub GuardIs : (guard : ℕ) → Type 0
  GuardIs (suc zero) = Unit {0}
  GuardIs guard = IsExpression here (guard_of image guard)

  block_guard : (guard : ℕ) (body after : Statements) → AreStatements here (block image guard body after) → GuardIs guard
  block_guard (suc zero) body after are = tt
  block_guard zero body after are = are.0.0
  block_guard (suc (suc guard)) body after are = are.0.0

  block_body : (guard : ℕ) (body after : Statements) → AreStatements here (block image guard body after) → AreStatements here body
  block_body (suc zero) body after are = joined_first here body after are
  block_body zero body after are = are.0.1
  block_body (suc (suc guard)) body after are = are.0.1

  block_after : (guard : ℕ) (body after : Statements) → AreStatements here (block image guard body after) → AreStatements here after
  block_after (suc zero) body after are = joined_last here body after are
  block_after zero body after are = are.1
  block_after (suc (suc guard)) body after are = are.1

  body_part : (ops : List ImageOp) (guard : ℕ) (body : Statements) (code : ℕ) → AreStatements here (blocks image guard body code ops) → AreStatements here body
  body_part [] guard body code are = block_body guard body none are
  body_part (op ∷ ops) guard body code are =
      by (is_left_out op) (nat_eq op.guard guard) are (body_part ops guard body code) (λ more_are. joined_first here body (doing image code op.kind) (body_part ops guard (joined body (doing image code op.kind)) next_code more_are))
    where
      next_code : ℕ
      next_code = code + length (causes_of op.kind)

      by : (b d : Bool) → AreStatements here (if b then blocks image guard body code ops
          else (if d then blocks image guard (joined body (doing image code op.kind)) next_code ops else block image guard body (blocks image op.guard (doing image code op.kind) next_code ops)))
          → (AreStatements here (blocks image guard body code ops) → AreStatements here body)
          → (AreStatements here (blocks image guard (joined body (doing image code op.kind)) next_code ops) → AreStatements here body) → AreStatements here body
      by true d given out same = out given
      by false true given out same = same given
      by false false given out same = block_body guard body (blocks image op.guard (doing image code op.kind) next_code ops) given

  guard_part : (ops : List ImageOp) (guard : ℕ) (body : Statements) (code : ℕ) → AreStatements here (blocks image guard body code ops) → GuardIs guard
  guard_part [] guard body code are = block_guard guard body none are
  guard_part (op ∷ ops) guard body code are =
      by (is_left_out op) (nat_eq op.guard guard) are (guard_part ops guard body code) (guard_part ops guard (joined body (doing image code op.kind)) next_code)
    where
      next_code : ℕ
      next_code = code + length (causes_of op.kind)

      by : (b d : Bool) → AreStatements here (if b then blocks image guard body code ops
          else (if d then blocks image guard (joined body (doing image code op.kind)) next_code ops else block image guard body (blocks image op.guard (doing image code op.kind) next_code ops)))
          → (AreStatements here (blocks image guard body code ops) → GuardIs guard)
          → (AreStatements here (blocks image guard (joined body (doing image code op.kind)) next_code ops) → GuardIs guard) → GuardIs guard
      by true d given out same = out given
      by false true given out same = same given
      by false false given out same = block_guard guard body (blocks image op.guard (doing image code op.kind) next_code ops) given

  -- ---- the text of operations

  abbrev from_fresh : List ℕ → Option Scanned
  from_fresh l = scan l (record { mode = Fresh; tokens = [] })

  end_makes : (guard : ℕ) (rest : List ℕ) (mode : Mode) (others : List Token) → Makes Fresh rest mode others → Makes Fresh (block_end image names guard rest) mode (closes guard ++ others)
  end_makes (suc zero) rest mode others makes = makes
  end_makes zero rest mode others makes = then_makes (Sign (codes "}") ∷ []) Fresh rest mode others makes
  end_makes (suc (suc guard)) rest mode others makes = then_makes (Sign (codes "}") ∷ []) Fresh rest mode others makes

  if_makes : (e : Expression) → IsLaid e → IsExpression here e → (rest : List ℕ) (mode : Mode) (others : List Token) → Makes Fresh rest mode others
      → Makes Fresh (codes "    if (" ++ (expression_text here e ++ (codes ") {\n" ++ rest))) mode ((Word (codes "if") ∷ Sign (codes "(") ∷ (expression_tokens here e ++ Sign (codes ")") ∷ Sign (codes "{") ∷ [])) ++ others)
  if_makes e laid is rest mode others makes =
      let brace = then_makes (Sign (codes "{") ∷ []) Fresh rest mode others makes in
      let value = expression_piece here free e laid is 41 (Sign (codes ")") ∷ []) closing (codes " {\n" ++ rest) mode (Sign (codes "{") ∷ others) brace in
      then_makes (Word (codes "if") ∷ Sign (codes "(") ∷ []) Between (expression_text here e ++ (codes ") {\n" ++ rest)) mode (expression_tokens here e ++ Sign (codes ")") ∷ Sign (codes "{") ∷ others) value
      ∙ ap (λ (l : List Token). scanned mode (Word (codes "if") ∷ Sign (codes "(") ∷ l)) (sym (append_assoc (expression_tokens here e) (Sign (codes ")") ∷ Sign (codes "{") ∷ []) others))

  beginning_makes : (guard : ℕ) → GuardIs guard → (rest : List ℕ) (mode : Mode) (others : List Token) → Makes Fresh rest mode others → Makes Fresh (block_beginning image names guard rest) mode (opens guard ++ others)
  beginning_makes (suc zero) is rest mode others makes = makes
  beginning_makes zero is rest mode others makes = if_makes (guard_of image 0) (condition_laid image.conditions (diagram (nodes_in image.nodes) (record { number = 0 }))) is rest mode others makes
  beginning_makes (suc (suc guard)) is rest mode others makes =
      if_makes (guard_of image (suc (suc guard))) (condition_laid image.conditions (diagram (nodes_in image.nodes) (record { number = suc (suc guard) }))) is rest mode others makes

  first_note : (notes : List (List ℕ)) → AreComments notes → is_comment_behind 32 (first_of notes) ≡ true
  first_note [] are = refl
  first_note (note ∷ notes) are = are.0

  other_notes : (notes : List (List ℕ)) → AreComments notes → AreComments (others_of notes)
  other_notes [] are = tt
  other_notes (note ∷ notes) are = are.1

  lines_make : (n : ℕ) (note : List ℕ) (p : Statements) → is_comment_behind 32 note ≡ true → AreLaid p → AreStatements here p → (rest : List ℕ) (mode : Mode) (others : List Token) → Makes Fresh rest mode others
      → Makes Fresh (replicate (suc n) 32 ++ comment_text (note ∷ []) (lines_text (replicate (suc n) 32) here p ++ rest)) mode (statements_tokens here p ++ others)
  lines_make n note p is laid are rest mode others makes =
      comment_line n note is (lines_text (replicate (suc n) 32) here p ++ rest) mode (statements_tokens here p ++ others) (lines_whole here free n p laid are rest mode others makes)

  operation_makes : (guard code : ℕ) (op : ImageOp) (note : List ℕ) → op.guard ≡ guard → is_comment_behind 32 note ≡ true → MayDo (scope_of image) op.kind → AreStatements here (doing image code op.kind)
      → (rest : List ℕ) (mode : Mode) (others : List Token) → Makes Fresh rest mode others → Makes Fresh (operation_text image names code op note rest) mode (done code op ++ others)
  operation_makes (suc zero) code op note e is may are rest mode others makes =
      subst (λ (g : ℕ). Makes Fresh (margin image names g ++ comment_text (note ∷ []) (lines_text (margin image names g) here (doing image code op.kind) ++ rest)) mode (done code op ++ others)) (sym e)
      (lines_make 3 note (doing image code op.kind) is (doing_laid image code op.kind may) are rest mode others makes)
  operation_makes zero code op note e is may are rest mode others makes =
      subst (λ (g : ℕ). Makes Fresh (margin image names g ++ comment_text (note ∷ []) (lines_text (margin image names g) here (doing image code op.kind) ++ rest)) mode (done code op ++ others)) (sym e)
      (lines_make 7 note (doing image code op.kind) is (doing_laid image code op.kind may) are rest mode others makes)
  operation_makes (suc (suc guard)) code op note e is may are rest mode others makes =
      subst (λ (g : ℕ). Makes Fresh (margin image names g ++ comment_text (note ∷ []) (lines_text (margin image names g) here (doing image code op.kind) ++ rest)) mode (done code op ++ others)) (sym e)
      (lines_make 7 note (doing image code op.kind) is (doing_laid image code op.kind may) are rest mode others makes)

  operations_make : (ops : List ImageOp) (guard : ℕ) (body : Statements) (code : ℕ) (notes : List (List ℕ)) → MayAll image ops → AreComments notes → AreStatements here (blocks image guard body code ops)
      → (rest : List ℕ) (mode : Mode) (others : List Token) → Makes Fresh rest mode others → Makes Fresh (operations_text image names guard code notes ops rest) mode (remaining guard code ops ++ others)
  operations_make [] guard body code notes may comments are rest mode others makes = end_makes guard rest mode others makes
  operations_make (op ∷ ops) guard body code notes may comments are rest mode others makes =
      by (is_left_out op) (nat_eq op.guard guard) are
      (λ given. operations_make ops guard body code notes later comments given rest mode others makes)
      (λ more_body given. operations_make ops guard more_body next_code (others_of notes) later (other_notes notes comments) given rest mode others makes)
      (λ more_body given. operations_make ops op.guard more_body next_code (others_of notes) later (other_notes notes comments) given rest mode others makes)
    where
      next_code : ℕ
      next_code = code + length (causes_of op.kind)

      later : MayAll image ops
      later k other is = may (suc k) other is

      did : Statements
      did = doing image code op.kind

      same_text : List ℕ
      same_text = operations_text image names guard next_code (others_of notes) ops rest

      other_text : List ℕ
      other_text = operations_text image names op.guard next_code (others_of notes) ops rest

      one_operation : (tail : List ℕ) (tail_tokens : List Token) → AreStatements here did → Makes Fresh tail mode tail_tokens
          → Makes Fresh (operation_text image names code op (first_of notes) tail) mode (done code op ++ tail_tokens)
      one_operation tail tail_tokens right made = operation_makes op.guard code op (first_of notes) refl (first_note notes comments) (may 0 op refl) right tail mode tail_tokens made

      by : (b d : Bool) → AreStatements here (if b then blocks image guard body code ops
          else (if d then blocks image guard (joined body did) next_code ops else block image guard body (blocks image op.guard did next_code ops)))
          → (AreStatements here (blocks image guard body code ops) → Makes Fresh (operations_text image names guard code notes ops rest) mode (remaining guard code ops ++ others))
          → ((more_body : Statements) → AreStatements here (blocks image guard more_body next_code ops) → Makes Fresh same_text mode (remaining guard next_code ops ++ others))
          → ((more_body : Statements) → AreStatements here (blocks image op.guard more_body next_code ops) → Makes Fresh other_text mode (remaining op.guard next_code ops ++ others))
          → Makes Fresh (if b then operations_text image names guard code notes ops rest
          else (if d then operation_text image names code op (first_of notes) same_text
          else block_end image names guard (block_beginning image names op.guard (operation_text image names code op (first_of notes) other_text)))) mode
          ((if b then remaining guard code ops else (if d then done code op ++ remaining guard next_code ops else closes guard ++ (opens op.guard ++ (done code op ++ remaining op.guard next_code ops)))) ++ others)
      by true d given out same other = out given
      by false true given out same other =
          one_operation same_text (remaining guard next_code ops ++ others) (joined_last here body did (body_part ops guard (joined body did) next_code given)) (same (joined body did) given)
          ∙ ap (scanned mode) (sym (append_assoc (done code op) (remaining guard next_code ops) others))
      by false false given out same other =
          let after = block_after guard body (blocks image op.guard did next_code ops) given in
          let inner = one_operation other_text (remaining op.guard next_code ops ++ others) (body_part ops op.guard did next_code after) (other did after) in
          let begun = beginning_makes op.guard (guard_part ops op.guard did next_code after) (operation_text image names code op (first_of notes) other_text) mode (done code op ++ (remaining op.guard next_code ops ++ others)) inner in
          end_makes guard (block_beginning image names op.guard (operation_text image names code op (first_of notes) other_text)) mode (opens op.guard ++ (done code op ++ (remaining op.guard next_code ops ++ others))) begun
          ∙ ap (scanned mode) (sym (append_assoc (closes guard) (opens op.guard ++ (done code op ++ remaining op.guard next_code ops)) others
          ∙ ap (λ (l : List Token). closes guard ++ l) (append_assoc (opens op.guard) (done code op ++ remaining op.guard next_code ops) others
          ∙ ap (λ (l : List Token). opens op.guard ++ l) (append_assoc (done code op) (remaining op.guard next_code ops) others))))

  -- ---- what follows the operations

  end_append : (guard : ℕ) (text rest : List ℕ) → block_end image names guard text ++ rest ≡ block_end image names guard (text ++ rest)
  end_append (suc zero) text rest = refl
  end_append zero text rest = refl
  end_append (suc (suc guard)) text rest = refl

  if_append : (e text rest : List ℕ) → (codes "    if (" ++ (e ++ (codes ") {\n" ++ text))) ++ rest ≡ codes "    if (" ++ (e ++ (codes ") {\n" ++ (text ++ rest)))
  if_append e text rest = ap (λ (l : List ℕ). codes "    if (" ++ l) (append_assoc e (codes ") {\n" ++ text) rest)

  beginning_append : (guard : ℕ) (text rest : List ℕ) → block_beginning image names guard text ++ rest ≡ block_beginning image names guard (text ++ rest)
  beginning_append (suc zero) text rest = refl
  beginning_append zero text rest = if_append (expression_text here (guard_of image 0)) text rest
  beginning_append (suc (suc guard)) text rest = if_append (expression_text here (guard_of image (suc (suc guard)))) text rest

  operation_append : (code : ℕ) (op : ImageOp) (note text rest : List ℕ) → operation_text image names code op note text ++ rest ≡ operation_text image names code op note (text ++ rest)
  operation_append code op note text rest =
      let lines = lines_text (margin image names op.guard) here (doing image code op.kind) in
      append_assoc (margin image names op.guard) (comment_text (note ∷ []) (lines ++ text)) rest
      ∙ ap (λ (l : List ℕ). margin image names op.guard ++ (codes "/* " ++ l)) (append_assoc note (codes " */\n" ++ (lines ++ text)) rest ∙ ap (λ (l : List ℕ). note ++ (codes " */\n" ++ l)) (append_assoc lines text rest))

  operations_append : (ops : List ImageOp) (guard code : ℕ) (notes : List (List ℕ)) (text rest : List ℕ)
      → operations_text image names guard code notes ops text ++ rest ≡ operations_text image names guard code notes ops (text ++ rest)
  operations_append [] guard code notes text rest = end_append guard text rest
  operations_append (op ∷ ops) guard code notes text rest =
      by (is_left_out op) (nat_eq op.guard guard) (operations_append ops guard code notes text rest) (operations_append ops guard next_code (others_of notes) text rest) (operations_append ops op.guard next_code (others_of notes) text rest)
    where
      next_code : ℕ
      next_code = code + length (causes_of op.kind)

      all : (b d : Bool) → List ℕ → List ℕ
      all b d tail = if b then operations_text image names guard code notes ops tail
          else (if d then operation_text image names code op (first_of notes) (operations_text image names guard next_code (others_of notes) ops tail)
          else block_end image names guard (block_beginning image names op.guard (operation_text image names code op (first_of notes) (operations_text image names op.guard next_code (others_of notes) ops tail))))

      by : (b d : Bool) → operations_text image names guard code notes ops text ++ rest ≡ operations_text image names guard code notes ops (text ++ rest)
          → operations_text image names guard next_code (others_of notes) ops text ++ rest ≡ operations_text image names guard next_code (others_of notes) ops (text ++ rest)
          → operations_text image names op.guard next_code (others_of notes) ops text ++ rest ≡ operations_text image names op.guard next_code (others_of notes) ops (text ++ rest)
          → all b d text ++ rest ≡ all b d (text ++ rest)
      by true d out same other = out
      by false true out same other = operation_append code op (first_of notes) (operations_text image names guard next_code (others_of notes) ops text) rest ∙ ap (operation_text image names code op (first_of notes)) same
      by false false out same other =
          let tail = operations_text image names op.guard next_code (others_of notes) ops text in
          end_append guard (block_beginning image names op.guard (operation_text image names code op (first_of notes) tail)) rest
          ∙ ap (block_end image names guard) (beginning_append op.guard (operation_text image names code op (first_of notes) tail) rest
          ∙ ap (block_beginning image names op.guard) (operation_append code op (first_of notes) tail rest ∙ ap (operation_text image names code op (first_of notes)) other))

  -- ---- the whole

  abbrev ending : Statements
  ending = joined (storing image 0 image.memories) (giving image 0 (outputs_in image))

  step_tokens_are : statements_tokens here (step_in image names) ≡ statements_tokens here (ignoring names.unread) ++ (remaining 1 1 image.ops ++ statements_tokens here ending)
  step_tokens_are =
      joined_tokens here (ignoring names.unread) (joined (blocks image 1 none 1 image.ops) ending)
      ∙ ap (λ (l : List Token). statements_tokens here (ignoring names.unread) ++ l) (joined_tokens here (blocks image 1 none 1 image.ops) ending
      ∙ ap (λ (l : List Token). l ++ statements_tokens here ending) (blocks_tokens image.ops 1 none 1))

  pub body_is : (notes : List (List ℕ)) → MayAll image image.ops → AreComments notes → AreLaid (step_in image names) → AreStatements here (step_in image names) → IsBody here (body_text image names notes) (statements_tokens here (step_in image names))
  body_is notes may comments laid are rest mode others makes =
      let middle = joined_last here (ignoring names.unread) (joined (blocks image 1 none 1 image.ops) ending) are in
      let last = lines_whole here free 3 ending (last_laid (blocks image 1 none 1 image.ops) ending (last_laid (ignoring names.unread) (joined (blocks image 1 none 1 image.ops) ending) laid)) (joined_last here (blocks image 1 none 1 image.ops) ending middle) rest mode others makes in
      let operations = operations_make image.ops 1 none 1 notes may comments (joined_first here (blocks image 1 none 1 image.ops) ending middle) (codes "\n" ++ (lines_text blanks here ending ++ rest)) mode
      (statements_tokens here ending ++ others) last in
      let all = lines_whole here free 3 (ignoring names.unread) (first_laid (ignoring names.unread) (joined (blocks image 1 none 1 image.ops) ending) laid) (joined_first here (ignoring names.unread) (joined (blocks image 1 none 1 image.ops) ending) are)
      (codes "\n" ++ operations_text image names 1 1 notes image.ops (codes "\n" ++ (lines_text blanks here ending ++ rest))) mode (remaining 1 1 image.ops ++ (statements_tokens here ending ++ others)) operations in
      ap from_fresh (append_assoc (lines_text blanks here (ignoring names.unread)) (codes "\n" ++ operations_text image names 1 1 notes image.ops (codes "\n" ++ lines_text blanks here ending)) rest
      ∙ ap (λ (l : List ℕ). lines_text blanks here (ignoring names.unread) ++ (codes "\n" ++ l)) (operations_append image.ops 1 1 notes (codes "\n" ++ lines_text blanks here ending) rest))
      ∙ all ∙ ap (scanned mode) (sym (ap (λ (l : List Token). l ++ others) step_tokens_are
      ∙ append_assoc (statements_tokens here (ignoring names.unread)) (remaining 1 1 image.ops ++ statements_tokens here ending) others
      ∙ ap (λ (l : List Token). statements_tokens here (ignoring names.unread) ++ l) (append_assoc (remaining 1 1 image.ops) (statements_tokens here ending) others)))
