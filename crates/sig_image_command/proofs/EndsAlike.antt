-- The end of the run of a kernel's image is said as that of the kernel's run.
use Rattle.sig_image_command.proofs.Common.{◌≡◌, ◌∙◌, ◌∷◌, ℕ, zero, suc, List, [], map, slice_get, refl, ap, codes, flat_map, slice_index_or, decimal, Trace, EqId, SigId, Signal, output_text, Equation, Kernel, Cause, Ended, ImageView, names_of, image_signal, col_at, end_line, end_pieces, end_status, line_at, name_at, pieces_at, ended, cause_in, end_in, span_at, span_of, IsKernelImage, exec_line, exec_pieces, exec_status, name_in, executed}
use Rattle.sig_plan.specs.declared.ended.Cause.TheVariants.{Exhausted, Overflow, ZeroDivisor, Limit}

-- ---- places and names

line_is : (equations : List Equation) (n : ℕ) → (span_of (slice_get equations n)).line ≡ slice_index_or (map (λ (e : Equation). e.at.line) equations) n 0
line_is [] n = refl
line_is (e ∷ equations) zero = refl
line_is (e ∷ equations) (suc n) = line_is equations n

col_is : (equations : List Equation) (n : ℕ) → (span_of (slice_get equations n)).col ≡ slice_index_or (map (λ (e : Equation). e.at.col) equations) n 0
col_is [] n = refl
col_is (e ∷ equations) zero = refl
col_is (e ∷ equations) (suc n) = col_is equations n

names_same : (signals : List Signal) → names_of (map image_signal signals) ≡ map (λ (s : Signal). s.name) signals
names_same [] = refl
names_same (signal ∷ signals) = ap (λ names. signal.name ∷ names) (names_same signals)

name_same : (kernel : Kernel) (image : ImageView) → IsKernelImage kernel image → (x : SigId) → name_in image x ≡ name_at kernel x
name_same kernel image of x =
    ap (λ (i : ImageView). slice_index_or (names_of i.signals) x.0 []) of.is
    ∙ ap (λ (k : Kernel). slice_index_or (names_of (map image_signal k.signals)) x.0 []) of.of.same
    ∙ ap (λ names. slice_index_or names x.0 []) (names_same kernel.signals)

place_same : (what count : List ℕ) (kernel : Kernel) (e : EqId) → pieces_at what count (span_at kernel e).line (span_at kernel e).col ≡ pieces_at what count (line_at kernel e) (col_at kernel e)
place_same what count kernel e = λ j. pieces_at what count (line_is kernel.equations e.0 j) (col_is kernel.equations e.0 j)

-- ---- what is said

pieces_same : (kernel : Kernel) (image : ImageView) → IsKernelImage kernel image → (n : ℕ) (cause : Cause) → exec_pieces image n (cause_in kernel cause) ≡ end_pieces kernel n cause
pieces_same kernel image of n (Exhausted x) =
    ap (λ name. codes "end: input " ∷ name ∷ codes " exhausted after " ∷ decimal n ∷ codes " instants\n" ∷ []) (name_same kernel image of x)
pieces_same kernel image of n (Overflow e) = place_same (codes "overflow") (decimal n) kernel e
pieces_same kernel image of n (ZeroDivisor e) = place_same (codes "division by zero") (decimal n) kernel e
pieces_same kernel image of n Limit = refl

pub same_line : (kernel : Kernel) (image : ImageView) → IsKernelImage kernel image → (end : Ended) → exec_line image (end_in kernel end) ≡ end_line kernel end
same_line kernel image of end = ap (flat_map (λ piece. piece)) (pieces_same kernel image of end.instants end.cause)

pub same_status : (kernel : Kernel) (cause : Cause) → exec_status (cause_in kernel cause) ≡ end_status cause
same_status kernel (Exhausted x) = refl
same_status kernel other = refl

pub same_outcome : (kernel : Kernel) (image : ImageView) → IsKernelImage kernel image → (trace : Trace) (end : Ended) (file : List ℕ)
    → executed image (output_text kernel trace) (end_in kernel end) file ≡ ended kernel trace end file
same_outcome kernel image of trace end file =
    λ j. record (ended kernel trace end file) { status = same_status kernel end.cause j; line = same_line kernel image of end j }
