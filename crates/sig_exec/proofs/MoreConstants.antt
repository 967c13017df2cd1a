-- Instructions stay right where cells of constants are added.
use Rattle.sig_exec.proofs.Common.{same_Some, ◌≡◌, ◌<◌, ◌≤◌, ◌++◌, inl, inr, ℕ, zero, suc, ℤ, pos, List, [], ◌∷◌, length, replicate, Some, refl, sym, ap, subst, ◌∙◌, arith, append_assoc, length-append, slice_get, length-map, length-replicate, FunOp, Operand, Const, Sig, ImageView, ImageMemory, ImageOp, ImageOpKind, BeginWith, Grows, IsCellOf, IsConstant, IsFor, IsFunctionWork, IsWorkOf, bound_of, cell, inits_of, Instruction, Work, get_pushed}
use Rattle.sig_file.specs.declared.images.ImageOpKind.TheVariants as does

-- signals and memories have their cells
pub begin_room : (image : ImageView) (cells : List ℤ) → BeginWith image cells → bound_of image ≤ length cells
begin_room image cells (more, all) =
    let first = ap (λ (l : List ℤ). length l) all in
    let second = length-append (replicate (length image.signals) (pos 0) ++ inits_of image) more in
    let third = length-append (replicate (length image.signals) (pos 0)) (inits_of image) in
    let fourth = length-replicate (length image.signals) (pos 0) in
    let fifth = length-map image.memories (λ (memory : ImageMemory). memory.init) in
    omega (arith, first, second, third, fourth, fifth)

-- cells in front stay
cell_front : (first more : List ℤ) (n : ℕ) → n < length first → cell (first ++ more) n ≡ cell first n
cell_front [] more n less = absurd (omega (arith, less))
cell_front (a ∷ first) more zero less = refl
cell_front (a ∷ first) more (suc n) less = cell_front first more n (omega (arith, less))

constant_grows : (bound : ℕ) (cells more : List ℤ) (value : ℤ) (n : ℕ) → IsConstant bound cells value n → IsConstant bound (cells ++ more) value n
constant_grows bound cells more value n (behind, within, holds) =
    let longer = length-append cells more in (behind, omega (arith, within, longer), cell_front cells more n within ∙ holds)

cell_grows : (bound : ℕ) (cells more : List ℤ) (operand : Operand) (n : ℕ) → IsCellOf bound cells operand n → IsCellOf bound (cells ++ more) operand n
cell_grows bound cells more (Sig x) n is = is
cell_grows bound cells more (Const value) n is = constant_grows bound cells more value n is

function_grows : (bound : ℕ) (cells more : List ℤ) (op : FunOp) (operands : List Operand) (work : Work) → IsFunctionWork bound cells op operands work → IsFunctionWork bound (cells ++ more) op operands work
function_grows bound cells more op [] work is = is
function_grows bound cells more op (a ∷ []) work (m, first, e) = (m, cell_grows bound cells more a m first, e)
function_grows bound cells more op (a ∷ b ∷ []) work (m, n, first, second, e) = (m, n, cell_grows bound cells more a m first, cell_grows bound cells more b n second, e)
function_grows bound cells more op (a ∷ b ∷ c ∷ operands) work is = is

work_grows : (image : ImageView) (cells more : List ℤ) (kind : ImageOpKind) (work : Work) → IsWorkOf image cells kind work → IsWorkOf image (cells ++ more) kind work
work_grows image cells more (does.Fun y op operands) work is = function_grows (bound_of image) cells more op operands work is
work_grows image cells more (does.Const y value) work (n, constant, e) = (n, constant_grows (bound_of image) cells more value n constant, e)
work_grows image cells more kind work is = is

for_grows : (image : ImageView) (cells more : List ℤ) (op : ImageOp) (instruction : Instruction) → IsFor image cells op instruction → IsFor image (cells ++ more) op instruction
for_grows image cells more op instruction is = record { work = work_grows image cells more op.kind instruction.work is.work; target = is.target }

-- these instructions are for the first operations
abbrev pub AreForFirst : ImageView → List ℤ → List Instruction → Type 0
AreForFirst image cells instructions =
    (place : ℕ) (instruction : Instruction) (op : ImageOp) → slice_get instructions place ≡ Some instruction → slice_get image.ops place ≡ Some op → IsFor image cells op instruction

pub grows_then : (first middle last : List ℤ) → Grows first middle → Grows middle last → Grows first last
grows_then first middle last (more, one) (added, two) = (more ++ added, two ∙ ap (λ (l : List ℤ). l ++ added) one ∙ append_assoc first more added)

pub one_more : (image : ImageView) (old new : List ℤ) (instructions : List Instruction) (instruction : Instruction) (op : ImageOp) → AreForFirst image old instructions → Grows old new
    → slice_get image.ops (length instructions) ≡ Some op → IsFor image new op instruction → AreForFirst image new (instructions ++ instruction ∷ [])
one_more image old new instructions instruction op are (more, grown) there is = λ place that other at here. elim (get_pushed instructions instruction place that at) [
  | inl before ↦ subst (λ (cells : List ℤ). IsFor image cells other that) (sym grown) (for_grows image old more other that (are place that other before here))
  | inr (last, same) ↦
      let one : op ≡ other = same_Some op other (sym there ∙ ap (slice_get image.ops) (sym last) ∙ here) in
      subst (λ (i : Instruction). IsFor image new other i) same (subst (λ (o : ImageOp). IsFor image new o instruction) one is)
]

pub grows_longer : (old new : List ℤ) → Grows old new → length old ≤ length new
grows_longer old new (more, grown) = let e = ap (λ (l : List ℤ). length l) grown in let f = length-append old more in omega (arith, e, f)
