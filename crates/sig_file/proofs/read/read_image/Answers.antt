use Rattle.sig_file.proofs.{◌≡◌, ℕ, ◌-◌, ◌≤◌, length, Result, Ok, Err, sym, ap, ◌∙◌, arith, inr, BadImage, file_at, view_of, ok_is, file_again, file_short, file_takes}
use Rattle.sig_file.proofs.read.read_image.Goals as goal

both_no : {A : Type 0} (r : Result A ℕ) (x : A) (left : ℕ) → r ≡ Ok x → r ≡ Err left → ⊥
both_no (Ok y) x left e f = absurd cc
both_no (Err d) x left e f = absurd cc

pub invariant_of-result : goal.invariant_of-result
invariant_of-result c = (file_takes c.args.bytes.now (view_of c.in-Ok.parts) (λ i. omega (arith, c.type_inv.bytes i)) c.in-Ok.ensures).0

pub overflow_sub-result : goal.overflow_sub-result
overflow_sub-result c =
    let broken : file_at c.args.bytes.now ≡ Err c.in-Err-Broken.left = rw c.in-Err-Broken.field-0-is at c.in-Err-Broken.ensures in
    file_short c.args.bytes.now c.in-Err-Broken.left (λ i. omega (arith, c.type_inv.bytes i)) broken

pub returns-in-Ok-clause-right : goal.returns-in-Ok-clause-right
returns-in-Ok-clause-right c = (file_takes c.args.bytes.now (view_of c.in-Ok.parts) (λ i. omega (arith, c.type_inv.bytes i)) c.in-Ok.ensures).0

pub returns-in-Ok-clause-bytes : goal.returns-in-Ok-clause-bytes
returns-in-Ok-clause-bytes c = (file_takes c.args.bytes.now (view_of c.in-Ok.parts) (λ i. omega (arith, c.type_inv.bytes i)) c.in-Ok.ensures).1

pub returns-in-Ok-clause-given : goal.returns-in-Ok-clause-given
returns-in-Ok-clause-given c = λ image right e. ok_is (view_of c.in-Ok.parts) image (sym c.in-Ok.ensures ∙ ap file_at (sym e) ∙ file_again image right)

pub returns-in-Err-Broken-clause-given : goal.returns-in-Err-Broken-clause-given
returns-in-Err-Broken-clause-given c = λ image right e.
    let given : file_at c.args.bytes.now ≡ Ok image = ap file_at (sym e) ∙ file_again image right in
    let broken : file_at c.args.bytes.now ≡ Err c.in-Err-Broken.left = rw c.in-Err-Broken.field-0-is at c.in-Err-Broken.ensures in
    absurd (both_no (file_at c.args.bytes.now) image c.in-Err-Broken.left given broken)

pub returns-in-Err-Broken-clause-broken : goal.returns-in-Err-Broken-clause-broken
returns-in-Err-Broken-clause-broken c = λ offset e.
    let broken : file_at c.args.bytes.now ≡ Err c.in-Err-Broken.left = rw c.in-Err-Broken.field-0-is at c.in-Err-Broken.ensures in
    let same : length c.args.bytes.now - c.in-Err-Broken.left ≡ offset = cc in
    let short : c.in-Err-Broken.left ≤ length c.args.bytes.now = file_short c.args.bytes.now c.in-Err-Broken.left (λ i. omega (arith, c.type_inv.bytes i)) broken in
    record { left = c.in-Err-Broken.left; broken = broken; place = omega arith }

pub returns-in-Ok-clause-refused : goal.returns-in-Ok-clause-refused
returns-in-Ok-clause-refused c = λ offset is. absurd (both_no (file_at c.args.bytes.now) (view_of c.in-Ok.parts) is.left c.in-Ok.ensures is.broken)

one_left : {A : Type 0} (r : Result A ℕ) (a b : ℕ) → r ≡ Err a → r ≡ Err b → a ≡ b
one_left (Ok x) a b e f = absurd cc
one_left (Err d) a b e f = let p : d ≡ a = cc in let q : d ≡ b = cc in sym p ∙ q

pub returns-in-Err-Broken-clause-refused : goal.returns-in-Err-Broken-clause-refused
returns-in-Err-Broken-clause-refused c = λ offset is.
    let broken : file_at c.args.bytes.now ≡ Err c.in-Err-Broken.left = rw c.in-Err-Broken.field-0-is at c.in-Err-Broken.ensures in
    let same : c.in-Err-Broken.left ≡ is.left = one_left (file_at c.args.bytes.now) c.in-Err-Broken.left is.left broken is.broken in
    let there : length c.args.bytes.now - c.in-Err-Broken.left ≡ offset = omega (arith, is.place, same) in
    inr (ap (λ (n : ℕ). BadImage n) there)
