-- What pacing makes of a kernel is one thing: a kernel, or one line that says why it gets no paces.
use Rattle.sig_program.proofs.Common.{◌≡◌, ◌⊎◌, ◌∙◌, ℕ, List, inl, inr, refl, sym, ap, subst, Some, slice_get, SIGNALS, front_line, FrontAnswer, TooManySignals, IsValid, Kernel, GetsPaces, IsPaced, HasTooManySignals, IsNameTaken, many_or_paced, one_taken, taken_or_many, taken_or_paced, IsUnpaced, SaysNameTaken, SaysTooManySignals, taken_line}

same_name : (own : Kernel) (l m : List ℕ) → SaysNameTaken own l → SaysNameTaken own m → l ≡ m
same_name own l m one other =
    let there : slice_get own.signals other.signal ≡ Some one.named = subst (λ n. slice_get own.signals n ≡ Some one.named) (one_taken own one.signal other.signal one.taken other.taken) one.is in
    let both : Some one.named ≡ Some other.named = sym there ∙ other.is in
    let same : one.named ≡ other.named = cc in
    one.says ∙ ap taken_line same ∙ sym other.says

pub unpaced_once : (own : Kernel) (l m : List ℕ) → IsUnpaced own l → IsUnpaced own m → l ≡ m
unpaced_once own l m (inl a) (inl b) = same_name own l m a b
unpaced_once own l m (inl a) (inr b) = absurd (taken_or_many own a.signal a.taken b.many)
unpaced_once own l m (inr a) (inl b) = absurd (taken_or_many own b.signal b.taken a.many)
unpaced_once own l m (inr a) (inr b) = a.says ∙ sym b.says

pub paced_or_unpaced : (own kernel : Kernel) (line : List ℕ) → IsPaced own kernel → IsUnpaced own line → ⊥
paced_or_unpaced own kernel line paced (inl taken) = taken_or_paced own taken.signal kernel taken.taken paced
paced_or_unpaced own kernel line paced (inr many) = many_or_paced own kernel many.many paced

-- ---- each kernel becomes a valid one with paces, or it is told why it gets none

-- what pacing makes of a valid kernel is valid
valid_paced : (own kernel : Kernel) → ((least : List ℕ) → GetsPaces own kernel least → IsValid kernel) → IsValid own → IsPaced own kernel → IsValid kernel
valid_paced own kernel gets valid (inl same) = subst (λ (k : Kernel). IsValid k) (sym same.1) valid
valid_paced own kernel gets valid (inr paces) = gets paces.0 paces.1

abbrev pub IsPacedOrTold : Kernel → Type 0
IsPacedOrTold own = ((kernel : Kernel) × IsPaced own kernel × IsValid kernel) ⊎ ((line : List ℕ) × IsUnpaced own line)

pub told_or_paced : (own : Kernel) → ((kernel : Kernel) (least : List ℕ) → GetsPaces own kernel least → IsValid kernel) → IsValid own
    → ((kernel : Kernel) × IsPaced own kernel) ⊎ (((signal : ℕ) × IsNameTaken own signal) ⊎ HasTooManySignals own) → IsPacedOrTold own
told_or_paced own gets valid (inl paced) = inl (paced.0, paced.1, valid_paced own paced.0 (gets paced.0) valid paced.1)
told_or_paced own gets valid (inr (inl taken)) =
    let named = taken.1.first.holds.found in
    let says : SaysNameTaken own (taken_line named) = record { signal = taken.0; taken = taken.1; named = named; is = taken.1.first.holds.is; says = refl } in
    inr (taken_line named, inl says)
told_or_paced own gets valid (inr (inr many)) =
    let large : FrontAnswer = TooManySignals SIGNALS in
    let says : SaysTooManySignals own (front_line large) = record { many = many; says = refl } in
    inr (front_line large, inr says)
