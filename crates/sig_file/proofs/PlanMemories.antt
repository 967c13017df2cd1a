-- The memories of a plan's image: those of the delays.
use Rattle.sig_file.proofs.Common.{◌≡◌, ℕ, zero, suc, ◌+◌, true, cond, List, [], ◌∷◌, ◌++◌, take, slice_get, Option, Some, None, refl, ap, ◌∙◌, arith, ℤ, Kind, Integer, Boolean, Event, SigId, AnInteger, Truth, Sig, Const, constant_is, kind_fits, value_is, filter_map, unwrap_or, cons_option, sum_by-cons, Signal, form_fits, keeps_to_one, kept, kind_of, target_fits, Equation, Form, Delay, Each, IsMemory, is_memory_kind, sort_of, is_delay, memory_number, memory_of, ImageMemory, two_parts}
use Rattle.sig_kernel.specs.Table.{operand_is}

-- a memory of this kind keeps this at first, and then what the signal has
pub record IsKept (signals : List Signal) (kind : Kind) (x : SigId) (init : ℤ) : Type 0 where
  pub kept : is_memory_kind kind ≡ true
  pub value : value_is kind init ≡ true
  pub source : kind_fits (sort_of kind) (kind_of (slice_get signals x.0)) ≡ true

kept_rows : (signals : List Signal) (kind : Kind) (x : SigId) (init : ℤ) → keeps_to_one signals kind (Sig x ∷ Const init ∷ []) kept ≡ true → IsKept signals kind x init
kept_rows signals Integer x init e = let p = two_parts (operand_is signals (Sig x) AnInteger) (constant_is AnInteger init) e in record { kept = refl; value = p.1; source = p.0 }
kept_rows signals Boolean x init e = let p = two_parts (operand_is signals (Sig x) Truth) (constant_is Truth init) e in record { kept = refl; value = p.1; source = p.0 }
kept_rows signals Event x init e = absurd cc

kept_by : (signals : List Signal) (y x : SigId) (init : ℤ) (o : Option Kind) → target_fits signals o (Delay y x init) ≡ true → IsKept signals (unwrap_or o Integer) x init
kept_by signals y x init None e = absurd cc
kept_by signals y x init (Some kind) e = kept_rows signals kind x init e

pub delay_kept : (signals : List Signal) (y x : SigId) (init : ℤ) → form_fits signals (Delay y x init) ≡ true → IsKept signals (unwrap_or (kind_of (slice_get signals y.0)) Integer) x init
delay_kept signals y x init e = kept_by signals y x init (kind_of (slice_get signals y.0)) e

memory_right : (signals : List Signal) (y x : SigId) (init : ℤ) → form_fits signals (Delay y x init) ≡ true → IsMemory (record { kind = unwrap_or (kind_of (slice_get signals y.0)) Integer; init = init })
memory_right signals y x init e = let k = delay_kept signals y x init e in record { kept = k.kept; init = k.value }

AreMemories : List ImageMemory → List ImageMemory → Type 0
AreMemories before memories = Each (λ (b : List ImageMemory). IsMemory) before memories

one_memory : (signals : List Signal) (form : Form) → form_fits signals form ≡ true → (rest : List ImageMemory) → ((b : List ImageMemory) → AreMemories b rest) → (before : List ImageMemory) → AreMemories before (cons_option (memory_of signals form) rest)
unfolding AreMemories
one_memory signals (Delay y x init) fits rest each before = (memory_right signals y x init fits, each (before ++ record { kind = unwrap_or (kind_of (slice_get signals y.0)) Integer; init = init } ∷ []))
one_memory signals other fits rest each before = each before

all_memories : (signals : List Signal) (equations : List Equation) → ((k : ℕ) (d : Equation) → slice_get equations k ≡ Some d → form_fits signals d.form ≡ true)
    → (before : List ImageMemory) → AreMemories before (filter_map (λ (d : Equation). memory_of signals d.form) equations)
unfolding AreMemories
all_memories signals [] fits before = tt
all_memories signals (d ∷ equations) fits before = one_memory signals d.form (fits 0 d refl) (filter_map (λ (d : Equation). memory_of signals d.form) equations) (all_memories signals equations (λ k. fits (suc k))) before

-- the memories of delays that fit are right
pub memories_right : (signals : List Signal) (equations : List Equation) → ((k : ℕ) (d : Equation) → slice_get equations k ≡ Some d → form_fits signals d.form ≡ true)
    → Each (λ (b : List ImageMemory). IsMemory) [] (filter_map (λ (d : Equation). memory_of signals d.form) equations)
unfolding AreMemories
memories_right signals equations fits = all_memories signals equations fits []

-- ---- the number of a memory

passed : (signals : List Signal) (form : Form) (rest : List ImageMemory) (m : ℕ) → slice_get (cons_option (memory_of signals form) rest) (cond (is_delay form) 1 0 + m) ≡ slice_get rest m
passed signals (Delay y x init) rest m = let n : 1 + m ≡ suc m = omega arith in ap (slice_get (cons_option (memory_of signals (Delay y x init)) rest)) n
passed signals other rest m = let n : 0 + m ≡ m = omega arith in ap (slice_get rest) n

-- the memory of a delay stands at its number
pub memory_there : (signals : List Signal) (equations : List Equation) (n : ℕ) (d : Equation) (y x : SigId) (init : ℤ) → slice_get equations n ≡ Some d → d.form ≡ Delay y x init
    → slice_get (filter_map (λ (d : Equation). memory_of signals d.form) equations) (memory_number equations n) ≡ memory_of signals (Delay y x init)
memory_there signals [] n d y x init e is = absurd cc
memory_there signals (c ∷ equations) zero d y x init e is =
    let same : c ≡ d = cc in
    let form : c.form ≡ Delay y x init = ap (λ (c : Equation). c.form) same ∙ is in
    ap (λ (f : Form). slice_get (cons_option (memory_of signals f) (filter_map (λ (d : Equation). memory_of signals d.form) equations)) 0) form
memory_there signals (c ∷ equations) (suc n) d y x init e is =
    ap (slice_get (filter_map (λ (d : Equation). memory_of signals d.form) (c ∷ equations))) (sum_by-cons (λ (d : Equation). cond (is_delay d.form) 1 0) c (take n equations))
    ∙ passed signals c.form (filter_map (λ (d : Equation). memory_of signals d.form) equations) (memory_number equations n)
    ∙ memory_there signals equations n d y x init e is
