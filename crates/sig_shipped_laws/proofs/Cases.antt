-- What each operation of a kernel is, by its equation, and what it does in an image.
use Rattle.sig_shipped_laws.proofs.Common.{◌≡◌, ◌<◌, ◌≤◌, inl, inr, zero, suc, ℕ, ℤ, List, [], ◌∷◌, length, get_or, Option, None, Some, refl, sym, ap, subst, ◌∙◌, arith, All, Contains, slice_get, pos, All-cons, All-nil, EqId, SigId, Signal, Span, signal_id, Equation, Form, Fun, Delay, When, WhenConst, Default, Sync, Event, FunOp, Operand, Sig, Const, Kernel, Operation, Presence, operations_of, signals_of, stores_of, without, writes_of, writing, OpKind, Read, Compute, Left, Right, DelayRead, Store, each_operation, only, Reads, Writes, does_of, image_op, memory_number, op_with, ImageOp, ImageOpKind, contains_cons, contains_head, contains_later, contains_none, slice_get-get_or}
use Rattle.sig_file.specs.declared.images.ImageOpKind.TheVariants as does

-- an operation of an equation, with what it writes and reads
pub record IsOf (kernel : Kernel) (p : Operation) (e : EqId) (d : Equation) (kind : OpKind) (form : Form) (writes : Option SigId) (reads : List SigId) : Type 0 where
  pub kind_is : p.kind ≡ kind
  pub equation : p.equation ≡ Some e
  pub at : slice_get kernel.equations e.0 ≡ Some d
  pub form_is : d.form ≡ form
  pub writes_is : p.writes ≡ writes
  pub reads_is : p.reads ≡ reads

pub record IsReading (kernel : Kernel) (p : Operation) (x : SigId) : Type 0 where
  pub kind_is : p.kind ≡ Read x
  pub writes_is : p.writes ≡ Some x
  pub reads_is : p.reads ≡ []
  pub input : x.0 < kernel.inputs

-- what an operation is: of a delay there are two, its read and its store, and of a default two, its left and its right one
pub data Case : Type 0 where
  Reading : SigId → Case
  Applies : EqId → Equation → SigId → FunOp → List Operand → Case
  Samples : EqId → Equation → SigId → SigId → SigId → Case
  Fixes : EqId → Equation → SigId → ℤ → SigId → Case
  Ticks : EqId → Equation → SigId → SigId → Case
  Lefts : EqId → Equation → SigId → SigId → SigId → Case
  Rights : EqId → Equation → SigId → SigId → SigId → Case
  Recalls : EqId → Equation → SigId → SigId → ℤ → Case
  Keeps : EqId → Equation → SigId → SigId → ℤ → Case

abbrev pub IsCase : Kernel → Operation → Case → Type 0
IsCase kernel p (Reading x) = IsReading kernel p x
IsCase kernel p (Applies e d y op operands) = IsOf kernel p e d Compute (Fun y op operands) (Some y) (signals_of operands)
IsCase kernel p (Samples e d y x b) = IsOf kernel p e d Compute (When y x b) (Some y) (x ∷ [])
IsCase kernel p (Fixes e d y v b) = IsOf kernel p e d Compute (WhenConst y v b) (Some y) []
IsCase kernel p (Ticks e d y x) = IsOf kernel p e d Compute (Event y x) (Some y) []
IsCase kernel p (Lefts e d y u v) = IsOf kernel p e d Left (Default y u v) (Some y) (u ∷ [])
IsCase kernel p (Rights e d y u v) = IsOf kernel p e d Right (Default y u v) (Some y) (v ∷ [])
IsCase kernel p (Recalls e d y x initial) = IsOf kernel p e d DelayRead (Delay y x initial) (Some y) []
IsCase kernel p (Keeps e d y x initial) = IsOf kernel p e d (Store e) (Delay y x initial) None (x ∷ [])

abbrev pub HasCase : Kernel → Operation → Type 0
HasCase kernel p = (c : Case) × IsCase kernel p c

module _ (kernel : Kernel) (presence : Presence) where
  record HasForm (number : EqId) (form : Form) : Type 0 where
    pub equation : Equation
    pub is : slice_get kernel.equations number.0 ≡ Some equation
    pub has : equation.form ≡ form

  cases_written : (number : EqId) (form : Form) → HasForm number form → All (HasCase kernel) (writes_of kernel.signals presence number form)
  cases_written number (Fun y op operands) h =
      only (HasCase kernel) _ (Applies number h.equation y op operands, record { kind_is = refl; equation = refl; at = h.is; form_is = h.has; writes_is = refl; reads_is = refl })
  cases_written number (When y x b) h =
      only (HasCase kernel) _ (Samples number h.equation y x b, record { kind_is = refl; equation = refl; at = h.is; form_is = h.has; writes_is = refl; reads_is = refl })
  cases_written number (WhenConst y v b) h =
      only (HasCase kernel) _ (Fixes number h.equation y v b, record { kind_is = refl; equation = refl; at = h.is; form_is = h.has; writes_is = refl; reads_is = refl })
  cases_written number (Event y x) h =
      only (HasCase kernel) _ (Ticks number h.equation y x, record { kind_is = refl; equation = refl; at = h.is; form_is = h.has; writes_is = refl; reads_is = refl })
  cases_written number (Delay y x initial) h =
      only (HasCase kernel) _ (Recalls number h.equation y x initial, record { kind_is = refl; equation = refl; at = h.is; form_is = h.has; writes_is = refl; reads_is = refl })
  cases_written number (Sync x y) h = All-nil (HasCase kernel)
  cases_written number (Default y u v) h =
      All-cons (HasCase kernel) (writing kernel.signals number Left (presence u) y (u ∷ [])) (writing kernel.signals number Right (without (presence v) (presence u)) y (v ∷ []) ∷ [])
      (Lefts number h.equation y u v, record { kind_is = refl; equation = refl; at = h.is; form_is = h.has; writes_is = refl; reads_is = refl })
      (only (HasCase kernel) _ (Rights number h.equation y u v, record { kind_is = refl; equation = refl; at = h.is; form_is = h.has; writes_is = refl; reads_is = refl }))

  cases_stored : (number : EqId) (form : Form) → HasForm number form → All (HasCase kernel) (stores_of kernel.signals presence number form)
  cases_stored number (Delay y x initial) h =
      only (HasCase kernel) _ (Keeps number h.equation y x initial, record { kind_is = refl; equation = refl; at = h.is; form_is = h.has; writes_is = refl; reads_is = refl })
  cases_stored number _ h = All-nil (HasCase kernel)

  -- each operation of a kernel is one of these
  pub all_cases : All (HasCase kernel) (operations_of kernel presence)
  all_cases =
      each_operation (HasCase kernel) kernel presence HasForm
      (λ k d lt. record { equation = get_or kernel.equations k d; is = slice_get-get_or kernel.equations k d lt; has = refl })
      (λ number below. (Reading (signal_id number), record { kind_is = refl; writes_is = refl; reads_is = refl; input = below }))
      cases_written cases_stored

-- ---- in an image

-- what an operation does
abbrev pub does_in : Kernel → Case → ImageOpKind
does_in kernel (Reading x) = does.Read x
does_in kernel (Applies e d y op operands) = does.Fun y op operands
does_in kernel (Samples e d y x b) = does.Copy y x
does_in kernel (Fixes e d y v b) = does.Const y v
does_in kernel (Ticks e d y x) = does.Const y (pos 1)
does_in kernel (Lefts e d y u v) = does.Copy y u
does_in kernel (Rights e d y u v) = does.Copy y v
does_in kernel (Recalls e d y x initial) = does.DelayRead y (memory_number kernel.equations e.0)
does_in kernel (Keeps e d y x initial) = does.Store (memory_number kernel.equations e.0) x

abbrev signal_span : Option Signal → Span
signal_span None = record { line = 0; col = 0 }
signal_span (Some signal) = signal.at

-- where it stands in the program
abbrev pub place_in : Kernel → Case → Span
place_in kernel (Reading x) = signal_span (slice_get kernel.signals x.0)
place_in kernel (Applies e d y op operands) = d.at
place_in kernel (Samples e d y x b) = d.at
place_in kernel (Fixes e d y v b) = d.at
place_in kernel (Ticks e d y x) = d.at
place_in kernel (Lefts e d y u v) = d.at
place_in kernel (Rights e d y u v) = d.at
place_in kernel (Recalls e d y x initial) = d.at
place_in kernel (Keeps e d y x initial) = d.at

abbrev pub made_op : Kernel → ℕ → Case → ImageOp
made_op kernel guard c = record { kind = does_in kernel c; guard = guard; at = place_in kernel c }

module _ (kernel : Kernel) (guard : ℕ) (p : Operation) where
  of_equation : (e : EqId) (d : Equation) (kind : OpKind) (form : Form) (writes : Option SigId) (reads : List SigId) (what : ImageOpKind) → IsOf kernel p e d kind form writes reads
      → ((m : ℕ) → m ≡ memory_number kernel.equations e.0 → does_of m kind form ≡ Some what) → ((x : SigId) → kind ≡ Read x → ⊥)
      → image_op kernel guard kind (Some e) ≡ op_with guard d.at (does_of (memory_number kernel.equations e.0) kind d.form)
      → image_op kernel guard p.kind p.equation ≡ Some (record { kind = what; guard = guard; at = d.at })
  of_equation e d kind form writes reads what is gives read numbered =
      ap (λ (k : OpKind). image_op kernel guard k p.equation) is.kind_is
      ∙ ap (image_op kernel guard kind) is.equation
      ∙ numbered
      ∙ ap (λ (f : Form). op_with guard d.at (does_of (memory_number kernel.equations e.0) kind f)) is.form_is
      ∙ ap (op_with guard d.at) (gives (memory_number kernel.equations e.0) refl)

  at_equation : (e : EqId) (d : Equation) (kind : OpKind) → slice_get kernel.equations e.0 ≡ Some d → ((x : SigId) → kind ≡ Read x → ⊥)
      → image_op kernel guard kind (Some e) ≡ op_with guard d.at (does_of (memory_number kernel.equations e.0) kind d.form)
  at_equation e d (Read x) at read = absurd (read x refl)
  at_equation e d _ at read = rw at refl

  module _ (e : EqId) (d : Equation) (kind : OpKind) (form : Form) (writes : Option SigId) (reads : List SigId) (is : IsOf kernel p e d kind form writes reads) (read : (x : SigId) → kind ≡ Read x → ⊥) where
    pub is_made : (what : ImageOpKind) → does_of (memory_number kernel.equations e.0) kind form ≡ Some what → image_op kernel guard p.kind p.equation ≡ Some (record { kind = what; guard = guard; at = d.at })
    is_made what gives = of_equation e d kind form writes reads what is (λ m same. ap (λ (n : ℕ). does_of n kind form) same ∙ gives) read (at_equation e d kind is.at read)

  reading_made : (x : SigId) (o : Option Signal) → slice_get kernel.signals x.0 ≡ o → IsReading kernel p x → x.0 < length kernel.signals
      → image_op kernel guard p.kind p.equation ≡ Some (record { kind = does.Read x; guard = guard; at = signal_span o })
  reading_made x None here is lt = absurd (none_there kernel.signals x.0 here lt) where
    none_there : (signals : List Signal) (n : ℕ) → slice_get signals n ≡ None → n < length signals → ⊥
    none_there [] n e below = omega (arith, below)
    none_there (s ∷ signals) zero e below = let f : Some s ≡ None = e in cc
    none_there (s ∷ signals) (suc n) e below = none_there signals n e (omega (arith, below))
  reading_made x (Some signal) here is lt = ap (λ (k : OpKind). image_op kernel guard k p.equation) is.kind_is ∙ rw here refl

  -- the operation that is made for one of a kernel, under a guard
  pub made : (c : Case) → IsCase kernel p c → kernel.inputs ≤ length kernel.signals → image_op kernel guard p.kind p.equation ≡ Some (made_op kernel guard c)
  made (Reading x) is few = reading_made x (slice_get kernel.signals x.0) refl is (let i = is.input in omega (arith, i, few))
  made (Applies e d y op operands) is few = is_made e d Compute (Fun y op operands) (Some y) (signals_of operands) is (λ x f. absurd cc) (does.Fun y op operands) refl
  made (Samples e d y x b) is few = is_made e d Compute (When y x b) (Some y) (x ∷ []) is (λ x f. absurd cc) (does.Copy y x) refl
  made (Fixes e d y v b) is few = is_made e d Compute (WhenConst y v b) (Some y) [] is (λ x f. absurd cc) (does.Const y v) refl
  made (Ticks e d y x) is few = is_made e d Compute (Event y x) (Some y) [] is (λ x f. absurd cc) (does.Const y (pos 1)) refl
  made (Lefts e d y u v) is few = is_made e d Left (Default y u v) (Some y) (u ∷ []) is (λ x f. absurd cc) (does.Copy y u) refl
  made (Rights e d y u v) is few = is_made e d Right (Default y u v) (Some y) (v ∷ []) is (λ x f. absurd cc) (does.Copy y v) refl
  made (Recalls e d y x initial) is few = is_made e d DelayRead (Delay y x initial) (Some y) [] is (λ x f. absurd cc) (does.DelayRead y (memory_number kernel.equations e.0)) refl
  made (Keeps e d y x initial) is few = is_made e d (Store e) (Delay y x initial) None (x ∷ []) is (λ x f. absurd cc) (does.Store (memory_number kernel.equations e.0) x) refl

-- ---- what it reads and writes there

among_signals : (operands : List Operand) (x : SigId) → Contains operands (Sig x) → Contains (signals_of operands) x
among_signals [] x there = absurd (contains_none (Sig x) there)
among_signals (Sig z ∷ operands) x there = elim (contains_cons (Sig z) (Sig x) operands there) [
  | inl same ↦ (let one : Sig x ≡ Sig z = same in let is : z ≡ x = cc in subst (λ (s : SigId). Contains (z ∷ signals_of operands) s) is (contains_head z (signals_of operands)))
  | inr later ↦ contains_later z x (signals_of operands) (among_signals operands x later)
]
among_signals (Const v ∷ operands) x there = elim (contains_cons (Const v) (Sig x) operands there) [
  | inl same ↦ absurd (let one : Sig x ≡ Const v = same in cc)
  | inr later ↦ among_signals operands x later
]

head_is : (x y : SigId) → x ≡ y → Contains (y ∷ []) x
head_is x y same = subst (λ (s : SigId). Contains (y ∷ []) s) (sym same) (contains_head y [])

module _ (kernel : Kernel) (p : Operation) where
  pub image_reads : (c : Case) → IsCase kernel p c → (x : SigId) → Reads (does_in kernel c) x → Contains p.reads x
  image_reads (Applies e d y op operands) is x reads = subst (λ (l : List SigId). Contains l x) (sym is.reads_is) (among_signals operands x reads)
  image_reads (Samples e d y z b) is x reads = subst (λ (l : List SigId). Contains l x) (sym is.reads_is) (head_is x z reads)
  image_reads (Lefts e d y u v) is x reads = subst (λ (l : List SigId). Contains l x) (sym is.reads_is) (head_is x u reads)
  image_reads (Rights e d y u v) is x reads = subst (λ (l : List SigId). Contains l x) (sym is.reads_is) (head_is x v reads)
  image_reads (Keeps e d y z initial) is x reads = subst (λ (l : List SigId). Contains l x) (sym is.reads_is) (head_is x z reads)
  image_reads _ is x reads = absurd reads

  pub image_writes : (c : Case) → IsCase kernel p c → (x : SigId) → Writes (does_in kernel c) x → p.writes ≡ Some x
  image_writes (Keeps e d y z initial) is x writes = absurd writes
  image_writes _ is x writes = is.writes_is ∙ ap Some (sym writes)

  one_written : (y x : SigId) → p.writes ≡ Some y → p.writes ≡ Some x → x ≡ y
  one_written y x one two = let same : Some x ≡ Some y = sym two ∙ one in cc

  pub writes_image : (c : Case) → IsCase kernel p c → (x : SigId) → p.writes ≡ Some x → Writes (does_in kernel c) x
  writes_image (Reading z) is x writes = one_written z x is.writes_is writes
  writes_image (Applies e d y op operands) is x writes = one_written y x is.writes_is writes
  writes_image (Samples e d y z b) is x writes = one_written y x is.writes_is writes
  writes_image (Fixes e d y v b) is x writes = one_written y x is.writes_is writes
  writes_image (Ticks e d y z) is x writes = one_written y x is.writes_is writes
  writes_image (Lefts e d y u v) is x writes = one_written y x is.writes_is writes
  writes_image (Rights e d y u v) is x writes = one_written y x is.writes_is writes
  writes_image (Recalls e d y z initial) is x writes = one_written y x is.writes_is writes
  writes_image (Keeps e d y z initial) is x writes = absurd (let none : None ≡ Some x = sym is.writes_is ∙ writes in cc)
