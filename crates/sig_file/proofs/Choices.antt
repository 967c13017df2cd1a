-- What the bytes of kinds stand for.
use Rattle.sig_file.proofs.Common.{same_Some, ◌≡◌, ◌+◌, ◌∷◌, [], ℕ, zero, suc, List, Some, refl, ap, arith, length, map, slice_get, Kind, Integer, FunOp, Id, function_number, kind_number, functions, kinds, memory_kinds, op_tags, operand_tags, OpTag, OperandTag}
use Rattle.std.specs.List.{range_with_len}
use Rattle.sig_file.specs.declared.choice.OpTag.TheVariants as tag
use Rattle.sig_file.specs.declared.choice.OperandTag.TheVariants as operand
use Rattle.sig_file.proofs.Fields.{AreNumbered}

abbrev pub tag_number : OpTag → ℕ
tag_number tag.Read = 0
tag_number tag.Fun = 1
tag_number tag.Copy = 2
tag_number tag.Const = 3
tag_number tag.DelayRead = 4
tag_number tag.Store = 5

abbrev pub operand_number : OperandTag → ℕ
operand_number operand.Signal = 0
operand_number operand.Constant = 1

numbered_from : {A : Type 0} (number : A → ℕ) (xs : List A) (from n : ℕ) (x : A) → map number xs ≡ range_with_len from (length xs) → slice_get xs n ≡ Some x → from + n ≡ number x
numbered_from {A} number [] from n x are e = absurd cc
numbered_from {A} number (y ∷ xs) from zero x are e =
    let all : number y ∷ map number xs ≡ from ∷ range_with_len (from + 1) (length xs) = are in
    let first : number y ≡ from = cc in
    let same : number y ≡ number x = ap number (same_Some y x e) in
    omega (arith, first, same)
numbered_from {A} number (y ∷ xs) from (suc n) x are e =
    let all : number y ∷ map number xs ≡ from ∷ range_with_len (from + 1) (length xs) = are in
    let rest : map number xs ≡ range_with_len (from + 1) (length xs) = cc in
    let there = numbered_from number xs (from + 1) n x rest e in
    omega (arith, there)

-- a list of the numbers from 0 on
numbered : {A : Type 0} (number : A → ℕ) (xs : List A) → map number xs ≡ range_with_len 0 (length xs) → AreNumbered xs number
numbered {A} number xs are = record { there = λ n x e. (let is = numbered_from number xs 0 n x are e in omega (arith, is)) }

pub kinds_numbered : AreNumbered kinds kind_number
kinds_numbered = numbered kind_number kinds refl

pub memory_kinds_numbered : AreNumbered memory_kinds kind_number
memory_kinds_numbered = numbered kind_number memory_kinds refl

pub functions_numbered : AreNumbered functions function_number
functions_numbered = numbered function_number functions refl

pub op_tags_numbered : AreNumbered op_tags tag_number
op_tags_numbered = numbered tag_number op_tags refl

pub operand_tags_numbered : AreNumbered operand_tags operand_number
operand_tags_numbered = numbered operand_number operand_tags refl

pub kinds_there : (x : Kind) → slice_get kinds (kind_number x) ≡ Some x
kinds_there Integer = refl
kinds_there other = refl

pub functions_there : (x : FunOp) → slice_get functions (function_number x) ≡ Some x
functions_there Id = refl
functions_there other = refl

pub op_tags_there : (x : OpTag) → slice_get op_tags (tag_number x) ≡ Some x
op_tags_there tag.Read = refl
op_tags_there other = refl

pub operand_tags_there : (x : OperandTag) → slice_get operand_tags (operand_number x) ≡ Some x
operand_tags_there operand.Signal = refl
operand_tags_there operand.Constant = refl
