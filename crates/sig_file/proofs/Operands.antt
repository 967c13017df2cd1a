-- Functions and their operands, both ways.
use Rattle.sig_file.proofs.Common.{◌≡◌, ℕ, suc, ◌<◌, ◌≤◌, ◌^◌, ◌⊎◌, inl, inr, Bool, true, false, List, [], ◌∷◌, ◌++◌, length, Option, None, Some, refl, sym, ap, subst, ◌∙◌, arith, bytes_eq, bytes_eq-Decides, list_any, ltb, AllByRecursion, flat_map, ℤ, w64, ◌||◌, Kind, FunOp, Id, Neg, Not, Operand, Sig, Const, pos, Sort, Row, SIGNALS, function_rows, is_kind, is_signal, function_number, long_bytes, number_bytes, operand_bytes, function_at, functions, may_follow, operand_at, operand_from, operand_tags, signal_id, Each, IsFunction, are_operands, begins_row, kind_at, operand_count, operand_is, operands_begin, OperandTag, ImageOpKind, ImageSignal, and_from, and_parts, or_left, or_right}
use Rattle.sig_file.specs.declared.choice.OperandTag.TheVariants as operand
use Rattle.sig_file.specs.declared.images.ImageOpKind.TheVariants as does
use Rattle.sig_file.proofs.Choices.{functions_numbered, functions_there, operand_number, operand_tags_numbered, operand_tags_there}
use Rattle.sig_file.proofs.Fields.{Reads, choice_reads, if_reads, last_reads, long_reads, number_reads, reads_so, text_reads, then_reads}
use Rattle.sig_file.proofs.Rows.{several_reads}
use Rattle.sig_file.proofs.Rules.{count_few}
use Rattle.sig_file.proofs.Values.{constant_fits, fitting_below}
use mir.Val.{SFits}

-- ---- what fits, and how much of it

lead : {A Q : Type 0} (p : A → Bool) (x : A) (b rest : Bool) → p x ≡ b → ((y : A) → p y ≡ true → Q) → (rest ≡ true → Q) → (b || rest) ≡ true → Q
lead p x true rest here f later h = f x here
lead p x false rest here f later h = later h

any_leads : {A Q : Type 0} (p : A → Bool) (xs : List A) → ((x : A) → p x ≡ true → Q) → list_any p xs ≡ true → Q
any_leads p [] f e = absurd cc
any_leads p (x ∷ xs) f e = lead p x (p x) (list_any p xs) refl f (any_leads p xs f) e

more : {A : Type 0} (p q : A → Bool) (x : A) (b rest other : Bool) → p x ≡ b → ((y : A) → p y ≡ true → q y ≡ true) → (rest ≡ true → other ≡ true) → (b || rest) ≡ true → (q x || other) ≡ true
more p q x true rest other here f later h = or_left (q x) other (f x here)
more p q x false rest other here f later h = or_right (q x) other (later h)

any_more : {A : Type 0} (p q : A → Bool) (xs : List A) → ((x : A) → p x ≡ true → q x ≡ true) → list_any p xs ≡ true → list_any q xs ≡ true
any_more p q [] f e = e
any_more p q (x ∷ xs) f e = more p q x (p x) (list_any p xs) (list_any q xs) refl f (any_more p q xs f) e

begins_less : (signals : List ImageSignal) (xs ys : List Operand) (sorts : List Sort) → operands_begin signals (xs ++ ys) sorts ≡ true → operands_begin signals xs sorts ≡ true
begins_less signals [] ys sorts e = refl
begins_less signals (x ∷ xs) ys [] e = e
begins_less signals (x ∷ xs) ys (sort ∷ sorts) e =
    let two = and_parts (operand_is signals x sort) (operands_begin signals (xs ++ ys) sorts) e in
    and_from _ _ two.0 (begins_less signals xs ys sorts two.1)

row_less : (signals : List ImageSignal) (kind : Kind) (xs ys : List Operand) (row : Row) → begins_row signals kind (xs ++ ys) row ≡ true → begins_row signals kind xs row ≡ true
row_less signals kind xs ys row e =
    let two = and_parts (is_kind kind row.result) (operands_begin signals (xs ++ ys) row.operands) e in
    and_from _ _ two.0 (begins_less signals xs ys row.operands two.1)

-- the first of some operands that fit do
fewer : (signals : List ImageSignal) (op : FunOp) (kind : Option Kind) (xs ys : List Operand) → are_operands signals op kind (xs ++ ys) ≡ true → are_operands signals op kind xs ≡ true
fewer signals op None xs ys e = e
fewer signals op (Some kind) xs ys e = any_more (begins_row signals kind (xs ++ ys)) (begins_row signals kind xs) (function_rows op) (row_less signals kind xs ys) e

-- the numbers of an operand have their bytes
abbrev HasBytes : Operand → Type 0
HasBytes (Sig x) = x.0 < 2 ^ 32
HasBytes (Const constant) = SFits w64 constant

operand_bytes_fit : (signals : List ImageSignal) → length signals ≤ SIGNALS → (x : Operand) (sort : Sort) → operand_is signals x sort ≡ true → HasBytes x
operand_bytes_fit signals few (Sig x) sort e = let lt = fitting_below signals sort x.0 e in omega arith
operand_bytes_fit signals few (Const constant) sort e = constant_fits sort constant e

all_fit : (signals : List ImageSignal) → length signals ≤ SIGNALS → (xs : List Operand) (sorts : List Sort) → operands_begin signals xs sorts ≡ true → AllByRecursion HasBytes xs
all_fit signals few [] sorts e = tt
all_fit signals few (x ∷ xs) [] e = absurd cc
all_fit signals few (x ∷ xs) (sort ∷ sorts) e =
    let two = and_parts (operand_is signals x sort) (operands_begin signals xs sorts) e in
    (operand_bytes_fit signals few x sort two.0, all_fit signals few xs sorts two.1)

operands_fit : (signals : List ImageSignal) → length signals ≤ SIGNALS → (op : FunOp) (kind : Option Kind) (xs : List Operand) → are_operands signals op kind xs ≡ true → AllByRecursion HasBytes xs
operands_fit signals few op None xs e = absurd cc
operands_fit signals few op (Some kind) xs e =
    any_leads (begins_row signals kind xs) (function_rows op) (λ row h. all_fit signals few xs row.operands (and_parts (is_kind kind row.result) (operands_begin signals xs row.operands) h).1) e

-- ---- operands

abbrev tag_of : Operand → OperandTag
tag_of (Sig x) = operand.Signal
tag_of (Const constant) = operand.Constant

abbrev value_bytes : Operand → List ℕ
value_bytes (Sig x) = number_bytes x.0
value_bytes (Const constant) = long_bytes constant

abbrev signal_in : Operand → ℕ
signal_in (Sig x) = x.0
signal_in (Const constant) = 0

abbrev constant_in : Operand → ℤ
constant_in (Sig x) = pos 0
constant_in (Const constant) = constant

abbrev sig : ℕ → Operand
sig n = Sig (signal_id n)

signal_right : (x : Operand) → (signal_in x < 2 ^ 32) × (sig (signal_in x) ≡ x) → HasBytes x × (tag_of x ≡ operand.Signal)
signal_right (Sig x) h = (h.0, refl)
signal_right (Const constant) h = absurd (let e : sig 0 ≡ Const constant = h.1 in cc)

signal_back : (x : Operand) → HasBytes x × (tag_of x ≡ operand.Signal) → (signal_in x < 2 ^ 32) × (sig (signal_in x) ≡ x)
signal_back (Sig x) h = (h.0, refl)
signal_back (Const constant) h = absurd (let e : operand.Constant ≡ operand.Signal = h.1 in cc)

signal_spelled : (x : Operand) → (signal_in x < 2 ^ 32) × (sig (signal_in x) ≡ x) → number_bytes (signal_in x) ≡ value_bytes x
signal_spelled (Sig x) h = refl
signal_spelled (Const constant) h = absurd (let e : sig 0 ≡ Const constant = h.1 in cc)

constant_right : (x : Operand) → SFits w64 (constant_in x) × (Const (constant_in x) ≡ x) → HasBytes x × (tag_of x ≡ operand.Constant)
constant_right (Sig x) h = absurd (let e : Const (pos 0) ≡ Sig x = h.1 in cc)
constant_right (Const constant) h = (h.0, refl)

constant_back : (x : Operand) → HasBytes x × (tag_of x ≡ operand.Constant) → SFits w64 (constant_in x) × (Const (constant_in x) ≡ x)
constant_back (Sig x) h = absurd (let e : operand.Signal ≡ operand.Constant = h.1 in cc)
constant_back (Const constant) h = (h.0, refl)

constant_spelled : (x : Operand) → SFits w64 (constant_in x) × (Const (constant_in x) ≡ x) → long_bytes (constant_in x) ≡ value_bytes x
constant_spelled (Sig x) h = absurd (let e : Const (pos 0) ≡ Sig x = h.1 in cc)
constant_spelled (Const constant) h = refl

value_reads : (tag : OperandTag) → Reads (operand_from tag) (λ x. HasBytes x × (tag_of x ≡ tag)) value_bytes
unfolding operand_from
value_reads operand.Signal = reads_so _ _ _ _ _ signal_right signal_back signal_spelled (last_reads _ _ _ sig signal_in (λ n. refl) number_reads)
value_reads operand.Constant = reads_so _ _ _ _ _ constant_right constant_back constant_spelled (last_reads _ _ _ Const constant_in (λ c. refl) long_reads)

-- an operand of a function, behind those before it
record IsOperand (signals : List ImageSignal) (op : FunOp) (kind : Option Kind) (before : List Operand) (x : Operand) : Type 0 where
  pub follows : may_follow op before (tag_of x) ≡ true
  pub bytes : HasBytes x
  pub fit : are_operands signals op kind (before ++ x ∷ []) ≡ true

operand_spelled : (x : Operand) → (operand_number (tag_of x) ∷ []) ++ value_bytes x ≡ operand_bytes x
operand_spelled (Sig x) = refl
operand_spelled (Const constant) = refl

operand_reads : (signals : List ImageSignal) (op : FunOp) (kind : Option Kind) (before : List Operand) → Reads (operand_at signals op kind before) (IsOperand signals op kind before) operand_bytes
unfolding operand_at
operand_reads signals op kind before =
    reads_so _ _ _ _ _
    (λ x h. record { follows = h.0.1; bytes = h.1.0.0; fit = h.1.1 })
    (λ x h. ((operand_tags_there (tag_of x), h.follows), ((h.bytes, refl), h.fit)))
    (λ x h. operand_spelled x)
    (then_reads _ _ _ _ _ _ tag_of (if_reads _ _ _ (may_follow op before) (choice_reads operand_tags operand_number operand_tags_numbered))
    (λ tag. if_reads _ _ _ (λ x. are_operands signals op kind (before ++ x ∷ [])) (value_reads tag))
    (λ tag x h k. k.0.1))

-- ---- the operands of a function

speaks_alone : (op : FunOp) (x : Operand) → operand_count op ≡ 1 → may_follow op [] (tag_of x) ≡ true → list_any is_signal (x ∷ []) ≡ true
speaks_alone op (Sig x) e h = refl
speaks_alone op (Const constant) e h = absurd (let no : (ltb 1 1 || false) ≡ true = subst (λ (n : ℕ). (ltb 1 n || false) ≡ true) e h in cc)

follows_alone : (op : FunOp) (x : Operand) → list_any is_signal (x ∷ []) ≡ true → may_follow op [] (tag_of x) ≡ true
follows_alone op (Sig x) h = refl
follows_alone op (Const constant) h = absurd cc

speaks_after : (op : FunOp) (x y : Operand) → operand_count op ≡ 2 → may_follow op (x ∷ []) (tag_of y) ≡ true → list_any is_signal (x ∷ y ∷ []) ≡ true
speaks_after op (Sig x) y e h = refl
speaks_after op (Const constant) (Sig y) e h = refl
speaks_after op (Const constant) (Const other) e h = absurd (let no : (ltb 2 2 || false) ≡ true = subst (λ (n : ℕ). (ltb 2 n || false) ≡ true) e h in cc)

follows_after : (op : FunOp) (x y : Operand) → list_any is_signal (x ∷ y ∷ []) ≡ true → may_follow op (x ∷ []) (tag_of y) ≡ true
follows_after op x (Sig y) h = refl
follows_after op (Sig x) (Const other) h = or_right (ltb 2 (operand_count op)) true refl
follows_after op (Const constant) (Const other) h = absurd cc

follows_first : (op : FunOp) (x : Operand) → operand_count op ≡ 2 → may_follow op [] (tag_of x) ≡ true
follows_first op (Sig x) e = refl
follows_first op (Const constant) e = subst (λ (n : ℕ). (ltb 1 n || false) ≡ true) (sym e) refl

counted : (op : FunOp) → (operand_count op ≡ 1) ⊎ (operand_count op ≡ 2)
counted Id = inl refl
counted Neg = inl refl
counted Not = inl refl
counted other = inr refl

module _ (signals : List ImageSignal) (op : FunOp) (kind : Option Kind) where
  abbrev AreEach : List Operand → Type 0
  AreEach xs = Each (IsOperand signals op kind) [] xs

  to_right : (xs : List Operand) → length xs ≡ operand_count op → AreEach xs → (are_operands signals op kind xs ≡ true) × (list_any is_signal xs ≡ true)
  to_right [] len h = absurd (elim (counted op) [ inl e ↦ (let no : 0 ≡ 1 = len ∙ e in omega arith) | inr e ↦ (let no : 0 ≡ 2 = len ∙ e in omega arith) ])
  to_right (x ∷ []) len h = (h.0.fit, speaks_alone op x (sym len) h.0.follows)
  to_right (x ∷ y ∷ []) len h = (h.1.0.fit, speaks_after op x y (sym len) h.1.0.follows)
  to_right (x ∷ y ∷ z ∷ xs) len h = absurd (let most = count_few op in let l : suc (suc (suc (length xs))) ≡ operand_count op = len in omega arith)

  from_right : (few : length signals ≤ SIGNALS) (xs : List Operand) → length xs ≡ operand_count op → are_operands signals op kind xs ≡ true → list_any is_signal xs ≡ true → AreEach xs
  from_right few [] len fit speaks = tt
  from_right few (x ∷ []) len fit speaks = (record { follows = follows_alone op x speaks; bytes = (operands_fit signals few op kind (x ∷ []) fit).0; fit = fit }, tt)
  from_right few (x ∷ y ∷ []) len fit speaks =
      let bytes = operands_fit signals few op kind (x ∷ y ∷ []) fit in (
        record { follows = follows_first op x (sym len); bytes = bytes.0; fit = fewer signals op kind (x ∷ []) (y ∷ []) fit },
        (record { follows = follows_after op x y speaks; bytes = bytes.1.0; fit = fit }, tt),
      )
  from_right few (x ∷ y ∷ z ∷ xs) len fit speaks = absurd (let most = count_few op in let l : suc (suc (suc (length xs))) ≡ operand_count op = len in omega arith)

-- ---- functions

abbrev pub function_in : ImageOpKind → FunOp
function_in (does.Fun y op operands) = op
function_in other = Id

abbrev pub operands_in : ImageOpKind → List Operand
operands_in (does.Fun y op operands) = operands
operands_in other = []

-- the fields of a function behind its target
abbrev pub function_bytes : ImageOpKind → List ℕ
function_bytes kind = function_number (function_in kind) ∷ length (operands_in kind) ∷ flat_map operand_bytes (operands_in kind)

-- it is a function for the signal y
abbrev pub IsFunctionFor : List ImageSignal → ℕ → ImageOpKind → Type 0
IsFunctionFor signals y kind = IsFunction signals y (function_in kind) (operands_in kind) × (does.Fun (signal_id y) (function_in kind) (operands_in kind) ≡ kind)

pub function_reads : (signals : List ImageSignal) → length signals ≤ SIGNALS → (y : ℕ) → Reads (function_at signals y) (IsFunctionFor signals y) function_bytes
unfolding function_at
function_reads signals few y =
    let kind = kind_at signals y in
    reads_so _ _ _ _ _
    (λ k h. (let r = to_right signals (function_in k) kind (operands_in k) h.1.1.0.0 h.1.1.0.1 in (record { count = h.1.1.0.0; speaks = r.1; fit = r.0 }, h.1.1.1)))
    (λ k h. (
      (functions_there (function_in k), fewer signals (function_in k) kind [] (operands_in k) h.0.fit),
      (
        (refl, (bytes_eq-Decides (operand_count (function_in k) ∷ []) (operand_count (function_in k) ∷ [])).1 refl),
        ((h.0.count, from_right signals (function_in k) kind few (operands_in k) h.0.count h.0.fit h.0.speaks), h.1),
      ),
    ))
    (λ k h. ap (λ (n : ℕ). function_number (function_in k) ∷ n ∷ flat_map operand_bytes (operands_in k)) (sym h.1.1.0.0))
    (then_reads _ _ _ _ _ _ function_in (if_reads _ _ _ (λ op. are_operands signals op kind []) (choice_reads functions function_number functions_numbered))
    (λ op. then_reads _ _ _ _ _ _ (λ k. operand_count (function_in k) ∷ []) (if_reads _ _ _ (bytes_eq (operand_count op ∷ [])) (text_reads 1))
    (λ count. last_reads _ _ _ (does.Fun (signal_id y) op) operands_in (λ xs. refl)
    (several_reads (operand_at signals op kind) (IsOperand signals op kind) operand_bytes 2 (λ before small. operand_reads signals op kind before) (operand_count op) (count_few op)))
    (λ count k h l. ap (λ (f : ImageOpKind). operand_count (function_in f) ∷ []) (sym l.1) ∙ (bytes_eq-Decides (operand_count op ∷ []) count).0 h.1))
    (λ op k h l. ap function_in (sym l.1.1)))
