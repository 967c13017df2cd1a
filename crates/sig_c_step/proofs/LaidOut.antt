-- The file of an image is laid out so that its bytes make its tokens.
use Rattle.std.proofs.Common.{filter, ◌≡◌, ◌+◌, ◌-◌, ◌++◌, ◌&&◌, ℕ, zero, suc, pos, Bool, true, false, List, [], ◌∷◌, Option, Some, None, refl, sym, ap, subst, ◌∙◌, arith, IsTrue, length, map, nat_eq, slice_get, if◌then◌else◌, flat_map}
use Rattle.std.specs.Prelude.{nat_lt}
use Rattle.std.specs.List.{list_all, list_any}
use Rattle.std.proofs.lemmas.List.Concat.{flat_map-cons}
use Rattle.sig_base.specs.declared.ids.Kind.{Kind}
use Rattle.sig_base.specs.declared.ids.Kind.TheVariants.{Integer, Boolean, Event}
use Rattle.sig_base.specs.declared.ids.SigId.{SigId}
use Rattle.sig_dd.specs.Diagram.{Diagram, Constant, Choice}
use Rattle.sig_dd.specs.Nodes.{diagram}
use Rattle.sig_kernel.specs.Validity.{is_signal}
use Rattle.sig_kernel.specs.declared.equation.FunOp.{FunOp}
use Rattle.sig_kernel.specs.declared.equation.FunOp.TheVariants as fun
use Rattle.sig_kernel.specs.declared.equation.Operand.{Operand}
use Rattle.sig_kernel.specs.declared.equation.Operand.TheVariants.{Sig, Const}
use Rattle.sig_file.specs.Guarded.{nodes_in}
use Rattle.sig_file.specs.Images.{ImageView, IsImage, IsSignalBehind, MayDo, is_name, kind_at, scope_of}
use Rattle.sig_file.specs.declared.images.ImageMemory.{ImageMemory}
use Rattle.sig_file.specs.declared.images.ImageOp.{ImageOp}
use Rattle.sig_file.specs.declared.images.ImageOpKind.{ImageOpKind}
use Rattle.sig_file.specs.declared.images.ImageOpKind.TheVariants as does
use Rattle.sig_file.specs.declared.images.ImageSignal.{ImageSignal}
use Rattle.sig_exec.proofs.Common.{each_at}
use Rattle.sig_exec.proofs.KeptKinds.{no}
use Rattle.sig_exec.proofs.Places.{operation_at}
use Rattle.sig_c.specs.SmallC.{Name, Expression, Number, Variable, Operator, Less, LessEqual, Greater, GreaterEqual, Equal, NotEqual, Binary, Ignored, Set, Statements, none, more, EndCause, EndRow}
use Rattle.sig_c.specs.Meaning.{truth}
use Rattle.sig_c.specs.Tokens.{is_printable}
use Rattle.sig_c.specs.File.{AreHelpersLaid, ArePrintable}
use Rattle.sig_c.proofs.HelperBodies.{helpers_laid}
use Rattle.sig_c.specs.Layout.{AreLaid, IsDenied, IsGiftLaid, IsLaid}
use Rattle.sig_c_step.specs.Names.{Names}
use Rattle.sig_c_step.specs.Translation.{all_helpers, calls_helper, helpers_of, asking, block, blocks, causes_of, choice, comes, compared, computing, condition, condition_in, doing, ends_of, giving, ignoring, is_left_out, is_one_signal, is_output, joined, marking, name_in, one, operand, outputs_in, row_of, rows_of, step_in, storing, subject_of, value_given}

pub joined_laid : (a b : Statements) → AreLaid a → AreLaid b → AreLaid (joined a b)
joined_laid none b first second = second
joined_laid (more statement rest) b first second = (first.0, joined_laid rest b first.1 second)

-- ---- guards

choice_laid : (w : Expression) (low high : Diagram) (l h : Expression) → IsLaid w → IsDenied w → IsLaid l → IsLaid h → IsLaid (choice w low high l h)
choice_laid w (Constant false) (Constant true) l h one_is denied two three = one_is
choice_laid w (Constant true) (Constant false) l h one_is denied two three = denied
choice_laid w (Constant true) (Constant true) l h one_is denied two three = (one_is, two)
choice_laid w (Constant false) (Constant false) l h one_is denied two three = (denied, two)
choice_laid w (Choice v low high) (Constant true) l h one_is denied two three = (one_is, two)
choice_laid w (Choice v low high) (Constant false) l h one_is denied two three = (denied, two)
choice_laid w (Constant true) (Choice v low high) l h one_is denied two three = (denied, three)
choice_laid w (Constant false) (Choice v low high) l h one_is denied two three = (one_is, three)
choice_laid w (Choice u one_low one_high) (Choice v low high) l h one_is denied two three = (one_is, three, two)

asked_laid : (o : Option SigId) → IsLaid (condition_in o)
asked_laid None = tt
asked_laid (Some x) = tt

asked_denied : (o : Option SigId) → IsDenied (condition_in o)
asked_denied None = omega arith
asked_denied (Some x) = tt

pub condition_laid : (conditions : List SigId) (d : Diagram) → IsLaid (condition conditions d)
condition_laid conditions (Constant b) = tt
condition_laid conditions (Choice v low high) =
    choice_laid (condition_in (slice_get conditions v)) low high (condition conditions low) (condition conditions high) (asked_laid (slice_get conditions v)) (asked_denied (slice_get conditions v))
    (condition_laid conditions low) (condition_laid conditions high)

-- ---- operations

operand_laid : (a : Operand) → IsLaid (operand a)
operand_laid (Sig x) = tt
operand_laid (Const v) = tt

-- a function of one operand has a signal
operand_denied : (a : Operand) → IsTrue (list_any is_signal (a ∷ [])) → IsDenied (operand a)
operand_denied (Sig x) speaks = tt
operand_denied (Const v) speaks = no speaks

compared_laid : (operator : Operator) (same : Bool) (a b : Operand) → IsLaid (compared operator same a b)
compared_laid operator same a b = by (is_one_signal a b) where
  by : (c : Bool) → IsLaid (if c then Number (truth same) else Binary operator (operand a) (operand b))
  by true = tt
  by false = (operand_laid a, operand_laid b)

computing_laid : (y code : ℕ) (op : FunOp) (operands : List Operand) → IsTrue (list_any is_signal operands) → AreLaid (computing y code op operands)
computing_laid y code fun.Id (a ∷ []) speaks = (operand_laid a, tt)
computing_laid y code fun.Not (a ∷ []) speaks = (operand_denied a speaks, tt)
computing_laid y code fun.And (a ∷ b ∷ []) speaks = ((operand_laid a, operand_laid b), tt)
computing_laid y code fun.Or (a ∷ b ∷ []) speaks = ((operand_laid a, operand_laid b), tt)
computing_laid y code fun.Xor (a ∷ b ∷ []) speaks = (compared_laid NotEqual false a b, tt)
computing_laid y code fun.Eq (a ∷ b ∷ []) speaks = (compared_laid Equal true a b, tt)
computing_laid y code fun.Ne (a ∷ b ∷ []) speaks = (compared_laid NotEqual false a b, tt)
computing_laid y code fun.Lt (a ∷ b ∷ []) speaks = (compared_laid Less false a b, tt)
computing_laid y code fun.Le (a ∷ b ∷ []) speaks = (compared_laid LessEqual true a b, tt)
computing_laid y code fun.Gt (a ∷ b ∷ []) speaks = (compared_laid Greater false a b, tt)
computing_laid y code fun.Ge (a ∷ b ∷ []) speaks = (compared_laid GreaterEqual true a b, tt)
computing_laid y code fun.Neg (a ∷ []) speaks = ((tt, operand_laid a), tt)
computing_laid y code fun.Add (a ∷ b ∷ []) speaks = ((operand_laid a, operand_laid b), tt)
computing_laid y code fun.Sub (a ∷ b ∷ []) speaks = ((operand_laid a, operand_laid b), tt)
computing_laid y code fun.Mul (a ∷ b ∷ []) speaks = ((operand_laid a, operand_laid b), tt)
computing_laid y code fun.Div (a ∷ b ∷ []) speaks = (((operand_laid b, tt), (tt, tt)), ((operand_laid a, operand_laid b), tt))
computing_laid y code fun.Mod (a ∷ b ∷ []) speaks = (((operand_laid b, tt), (tt, tt)), ((operand_laid a, operand_laid b), tt))
computing_laid y code op operands speaks = tt

asking_laid : (x code : ℕ) (o : Option Kind) → AreLaid (asking x code o)
asking_laid x code (Some Event) = (tt, (tt, tt))
asking_laid x code (Some Integer) = (tt, tt)
asking_laid x code (Some Boolean) = (tt, tt)
asking_laid x code None = (tt, tt)

pub laid_helpers : (image : ImageView) → AreHelpersLaid (helpers_of image)
laid_helpers image = helpers_laid (filter (λ helper. list_any (calls_helper helper) image.ops) all_helpers)

module _ (image : ImageView) where
  pub marking_laid : (x : ℕ) → AreLaid (marking image x)
  marking_laid x = by (is_output image x) where
    by : (b : Bool) → AreLaid (if b then one (Set (Variable (comes image (x - image.inputs))) (Number (pos 1))) else none)
    by true = (tt, tt)
    by false = tt

  pub doing_laid : (code : ℕ) (kind : ImageOpKind) → MayDo (Rattle.sig_file.specs.Images.scope_of image) kind → AreLaid (doing image code kind)
  doing_laid code (does.Read x) may = joined_laid (asking x.0 code (kind_at image.signals x.0)) (marking image x.0) (asking_laid x.0 code (kind_at image.signals x.0)) (marking_laid x.0)
  doing_laid code (does.Fun y op operands) may = joined_laid (computing y.0 code op operands) (marking image y.0) (computing_laid y.0 code op operands may.speaks) (marking_laid y.0)
  doing_laid code (does.Copy y x) may = (tt, marking_laid y.0)
  doing_laid code (does.Const y v) may = (tt, marking_laid y.0)
  doing_laid code (does.DelayRead y n) may = (tt, marking_laid y.0)
  doing_laid code (does.Store n x) may = (tt, tt)

  pub block_laid : (guard : ℕ) (body after : Statements) → AreLaid body → AreLaid after → AreLaid (block image guard body after)
  block_laid zero body after first second = ((condition_laid image.conditions (diagram (nodes_in image.nodes) (record { number = 0 })), first), second)
  block_laid (suc zero) body after first second = joined_laid body after first second
  block_laid (suc (suc guard)) body after first second = ((condition_laid image.conditions (diagram (nodes_in image.nodes) (record { number = suc (suc guard) })), first), second)

  module _ (right : IsImage image) where
    blocks_laid : (ops : List ImageOp) (n code guard : ℕ) (body : Statements) → ((k : ℕ) → slice_get image.ops (n + k) ≡ slice_get ops k) → AreLaid body → AreLaid (blocks image guard body code ops)
    blocks_laid [] n code guard body stand laid = block_laid guard body none laid tt
    blocks_laid (op ∷ ops) n code guard body stand laid = by (is_left_out op) (nat_eq op.guard guard)
        (blocks_laid ops (suc n) code guard body later laid)
        (blocks_laid ops (suc n) (code + length (causes_of op.kind)) guard (joined body (doing image code op.kind)) later (joined_laid body (doing image code op.kind) laid did))
        (block_laid guard body (blocks image op.guard (doing image code op.kind) (code + length (causes_of op.kind)) ops) laid (blocks_laid ops (suc n) (code + length (causes_of op.kind)) op.guard (doing image code op.kind) later did))
      where
        later : (k : ℕ) → slice_get image.ops (suc n + k) ≡ slice_get ops k
        later k = let e : suc n + k ≡ n + suc k = omega arith in ap (slice_get image.ops) e ∙ stand (suc k)

        here : slice_get image.ops n ≡ Some op
        here = let e : n ≡ n + 0 = omega arith in ap (slice_get image.ops) e ∙ stand 0

        did : AreLaid (doing image code op.kind)
        did = doing_laid code op.kind (operation_at image right n op here).kind

        by : (out same : Bool) → AreLaid (blocks image guard body code ops)
            → AreLaid (blocks image guard (joined body (doing image code op.kind)) (code + length (causes_of op.kind)) ops)
            → AreLaid (block image guard body (blocks image op.guard (doing image code op.kind) (code + length (causes_of op.kind)) ops))
            → AreLaid (if out then blocks image guard body code ops
            else (if same then blocks image guard (joined body (doing image code op.kind)) (code + length (causes_of op.kind)) ops
            else block image guard body (blocks image op.guard (doing image code op.kind) (code + length (causes_of op.kind)) ops)))
        by true same first second third = first
        by false true first second third = second
        by false false first second third = third

    pub ignoring_laid : (unread : List Ignored) → AreLaid (ignoring unread)
    ignoring_laid [] = tt
    ignoring_laid (x ∷ unread) = (tt, ignoring_laid unread)

    pub storing_laid : (memories : List ImageMemory) (n : ℕ) → AreLaid (storing image n memories)
    storing_laid [] n = tt
    storing_laid (memory ∷ memories) n = (tt, storing_laid memories (suc n))

    gift_laid : (x : ℕ) (kind : Kind) → IsGiftLaid (value_given x kind)
    gift_laid x Integer = tt
    gift_laid x Boolean = tt
    gift_laid x Event = tt

    pub giving_laid : (signals : List ImageSignal) (y : ℕ) → AreLaid (giving image y signals)
    giving_laid [] y = (tt, tt)
    giving_laid (signal ∷ signals) y = ((tt, (gift_laid (image.inputs + y) signal.kind, tt)), giving_laid signals (suc y))

    pub step_laid : (names : Names) → AreLaid (step_in image names)
    step_laid names =
        joined_laid (ignoring names.unread) _ (ignoring_laid names.unread)
        (joined_laid (blocks image 1 none 1 image.ops) _ (blocks_laid image.ops 0 1 1 none (λ k. let e : 0 + k ≡ k = omega arith in ap (slice_get image.ops) e) tt)
        (joined_laid (storing image 0 image.memories) (giving image 0 (outputs_in image)) (storing_laid image.memories 0) (giving_laid (outputs_in image) 0)))

    -- ---- the names of ends

    printable_byte : (byte : ℕ) → nat_lt 32 byte && nat_lt byte 127 ≡ true → is_printable byte ≡ true
    printable_byte byte is = grind (arith, is)

    printable_name : (name : Name) → is_name name ≡ true → list_all is_printable name ≡ true
    printable_name [] is = refl
    printable_name (byte ∷ bytes) is = let parts = both (nat_lt 32 byte && nat_lt byte 127) (is_name bytes) is in
        rw (printable_byte byte parts.0) (printable_name bytes parts.1)
      where
        both : (a b : Bool) → a && b ≡ true → (a ≡ true) × (b ≡ true)
        both true b given = (refl, given)
        both false b given = no given

    printable_in : (x : ℕ) → list_all is_printable (name_in (slice_get image.signals x)) ≡ true
    printable_in x = by (slice_get image.signals x) refl where
      by : (o : Option ImageSignal) → slice_get image.signals x ≡ o → list_all is_printable (name_in o) ≡ true
      by None e = refl
      by (Some signal) e = printable_name signal.name (each_at (IsSignalBehind image.inputs) [] image.signals x signal right.signals e).printable

    rows_printable : (op : ImageOp) (causes : List EndCause) → ArePrintable (map (row_of image op) causes)
    rows_printable op [] = tt
    rows_printable op (because ∷ causes) = (printable_in (subject_of op.kind), rows_printable op causes)

    rows_joined : (a b : List EndRow) → ArePrintable a → ArePrintable b → ArePrintable (a ++ b)
    rows_joined [] b first second = second
    rows_joined (row ∷ a) b first second = (first.0, rows_joined a b first.1 second)

    all_printable : (ops : List ImageOp) → ArePrintable (flat_map (rows_of image) ops)
    all_printable [] = tt
    all_printable (op ∷ ops) =
        subst ArePrintable (sym (flat_map-cons (rows_of image) op ops)) (rows_joined (rows_of image op) (flat_map (rows_of image) ops) (by (is_left_out op)) (all_printable ops))
      where
        by : (b : Bool) → ArePrintable (if b then [] else map (row_of image op) (causes_of op.kind))
        by true = tt
        by false = rows_printable op (causes_of op.kind)

    pub ends_printable : ArePrintable (ends_of image)
    ends_printable = (refl, all_printable image.ops)
