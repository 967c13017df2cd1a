-- What follows from the rules of an image.
use Rattle.sig_file.proofs.Common.{◌≡◌, ◌<◌, ◌≤◌, ◌^◌, ◌++◌, ◌∷◌, [], ℕ, List, true, All, AllByRecursion, All-from_recursion, length, ltb, arith, leb-true, leb, HasFew, IsNamed, Each, IsOperation, IsSignalBehind, MayDo, Scope, is_name_length, operand_count, FunOp, Id, ImageOp, ImageOpKind, ImageSignal, and_parts}
use Rattle.sig_file.specs.declared.images.ImageOpKind.TheVariants as does

each_of : {A : Type 0} (right : List A → A → Type 0) (Q : A → Type 0) (before xs : List A) → ((b : List A) (x : A) → right b x → Q x) → Each right before xs → AllByRecursion Q xs
each_of right Q before [] f h = tt
each_of right Q before (x ∷ xs) f h = (f before x h.0, each_of right Q (before ++ x ∷ []) xs f h.1)

-- what the rule of an item asks holds of all
pub all_of : {A : Type 0} (right : List A → A → Type 0) (Q : A → Type 0) (xs : List A) → ((b : List A) (x : A) → right b x → Q x) → Each right [] xs → All Q xs
all_of right Q xs f h = All-from_recursion Q xs (each_of right Q [] xs f h)

pub is_short : (n : ℕ) → is_name_length n ≡ true → n < 2 ^ 32
is_short n e = let two = and_parts (ltb 0 n) (leb n 1048576) e in omega (arith, leb-true n 1048576 two.1)

pub all_named : (inputs : ℕ) (signals : List ImageSignal) → Each (IsSignalBehind inputs) [] signals → All IsNamed signals
all_named inputs signals h = all_of (IsSignalBehind inputs) IsNamed signals (λ b x right. is_short (length x.name) right.long) h

pub count_few : (op : FunOp) → operand_count op ≤ 2
count_few Id = omega arith
count_few other = omega arith

does_few : (scope : Scope) (kind : ImageOpKind) → MayDo scope kind → HasFew kind
does_few scope (does.Fun y op operands) h = omega (arith, count_few op, h.count)
does_few scope other h = tt

pub all_few : (scope : Scope) (ops : List ImageOp) → Each (λ before. IsOperation scope) [] ops → All (λ op. HasFew op.kind) ops
all_few scope ops h = all_of (λ before. IsOperation scope) (λ op. HasFew op.kind) ops (λ b op right. does_few scope op.kind right.kind) h
