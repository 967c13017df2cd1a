-- The image of an accepted program is right: its signals have names of the form that an image asks for.
use Rattle.sig_image_command.proofs.Common.{◌≡◌, ◌≤◌, ◌+◌, ◌<◌, ◌^◌, ◌∷◌, ◌&&◌, ℕ, zero, suc, Bool, true, false, List, [], length, refl, sym, subst, arith, AllByRecursion, Contains, IsTrue, nat_lt, le-leb, lt-ltb, PROGRAM_BYTES, Signal, IsSignalName, Kernel, IsAccepted, PlanView, IsKernelText, image_bytes, IsSoundImage, ImageView, IsImage, is_name, image_of, HasName, HasNames, HavePlaces, IMAGE_BYTES, HasSignalNames, IsAcceptedAs, AreFewBytes, IsKernelImage, IsSoundFile, and_from}

printable : (name : List ℕ) → AllByRecursion (λ byte. (33 ≤ byte) × (byte ≤ 126)) name → is_name name ≡ true
printable [] all = refl
printable (byte ∷ name) all =
    and_from (nat_lt 32 byte && nat_lt byte 127) (is_name name)
    (and_from (nat_lt 32 byte) (nat_lt byte 127) (lt-ltb 32 byte (let from = all.0.0 in omega (arith, from))) (lt-ltb byte 127 (let to = all.0.1 in omega (arith, to))))
    (printable name all.1)

has_name : (signal : Signal) → IsSignalName signal.name → HasName signal
has_name signal is =
    let some = is.some in
    let few = is.few in
    record {
      long = and_from _ _ (lt-ltb 0 (length signal.name) (omega (arith, some))) (le-leb (length signal.name) 1048576 (omega (arith, few)));
      printable = printable signal.name is.graphic;
    }

named : (signals : List Signal) → AllByRecursion (λ (signal : Signal). IsSignalName signal.name) signals → (signal : Signal) → Contains signals signal → IsSignalName signal.name
named [] all signal (place, lt, e) = absurd (omega (arith, lt))
named (first ∷ signals) all signal (zero, lt, e) = subst (λ (s : Signal). IsSignalName s.name) e all.0
named (first ∷ signals) all signal (suc place, lt, e) = named signals all.1 signal (place, omega (arith, lt), e)

pub have_names : (kernel : Kernel) → HasSignalNames kernel → HasNames kernel
have_names kernel all = λ signal is. has_name signal (named kernel.signals all signal is)

pub of_kernel : ((text : List ℕ) (kernel : Kernel) → length text ≤ PROGRAM_BYTES → IsKernelText text kernel → AllByRecursion (λ (signal : Signal). IsSignalName signal.name) kernel.signals)
    → ((plan : PlanView) → IsAccepted plan → HasNames plan.kernel → HavePlaces (image_of plan).ops → length (image_bytes (image_of plan)) ≤ IMAGE_BYTES → IsImage (image_of plan))
    → ((plan : PlanView) → IsAccepted plan → IsSoundImage (image_of plan))
    → (bytes : List ℕ) (kernel : Kernel) (image : ImageView) → length bytes ≤ PROGRAM_BYTES → IsAcceptedAs false bytes kernel
    → IsKernelImage kernel image → HavePlaces image.ops → AreFewBytes (image_bytes image) → IsSoundFile (image_bytes image) image
of_kernel names right sound bytes kernel image short accepted of places few =
    let own = accepted.has.has.text in
    let texts : IsKernelText bytes kernel = subst (IsKernelText bytes) (sym accepted.has.becomes) own in
    let have = have_names kernel (names bytes kernel short texts) in
    let plan_names = subst HasNames (sym of.of.same) have in
    let plan_places = subst (λ (i : ImageView). HavePlaces i.ops) of.is places in
    let plan_few = subst (λ (i : ImageView). length (image_bytes i) ≤ IMAGE_BYTES) of.is few in
    record {
      file = record { right = subst IsImage (sym of.is) (right of.plan of.of.accepted plan_names plan_places plan_few); spelled = refl };
      sound = subst IsSoundImage (sym of.is) (sound of.plan of.of.accepted);
    }
