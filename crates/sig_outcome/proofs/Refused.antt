-- What a file that gives nothing ends a command with.
use Rattle.sig_outcome.proofs.Common.{◌≡◌, ◌≤◌, ℕ, List, Option, None, Some, IfSome, length, inl, inr, refl, arith, string_bytes, Contents, Absent, AtData, AtProgram, Bad, Long, Outcome, long_program, AtNoBytes, HasCount, IsAboutData, IsAboutImage, IsAboutProgram, IsOfData, IsOfImage, IsOfLength, IsOfProgram, IsOwn, outcome_of, status_of, Refusal, Missing, ReadFault, LongProgram, Program, Budget, TooManyItems, LongFile, Data, LongImage, OutOfMemory}

-- two facts of what is told
pub told_both : (contents : Option Contents) (P Q R : Contents → Type 0) → ((held : Contents) → P held → Q held → R held) → IfSome contents P → IfSome contents Q → IfSome contents R
told_both None P Q R both p q = tt
told_both (Some held) P Q R both p q = both held p q

pub told : (contents : Option Contents) (P : Contents → Type 0) → ((held : Contents) → P held) → IfSome contents P
told None P holds = tt
told (Some held) P holds = holds held

-- ---- a file without bytes

pub no_program : {A : Type 0} (Says : List ℕ → A → Type 0) (Refuses : List ℕ → List ℕ → Type 0) (held : Contents) (name : List ℕ) (Next : A → Outcome → Type 0) (o : Outcome) → AtNoBytes 1048576 1 long_program held name o → AtProgram Says Refuses held name Next o
no_program Says Refuses held name Next o (inl none) = (Absent, none.0, none.1)
no_program Says Refuses held name Next o (inr long) = (Long, long.0, long.1)

-- ---- a file whose bytes are refused

module _ {A : Type 0} (Says : List ℕ → A → Type 0) (Refuses : List ℕ → List ℕ → Type 0) (held : Contents) (name bytes : List ℕ) (there : held name ≡ Some bytes) (Next : A → Outcome → Type 0) where
  pub refused_program : length bytes ≤ 1048576 → (IsBudget : ℕ → Type 0) (r : Refusal) (faults faults' : ℕ) → IsOfProgram (Refuses bytes) IsBudget r → IsOwn r faults faults' → AtProgram Says Refuses held name Next (outcome_of r (Some name))
  refused_program short IsBudget (Missing n) faults faults' is own = absurd is
  refused_program short IsBudget (ReadFault n) faults faults' is own = absurd is
  refused_program short IsBudget LongProgram faults faults' is own = absurd is
  refused_program short IsBudget (Program line) faults faults' is own =
      (Bad (string_bytes line), record { bytes = bytes; there = there; short = short; good = is }, refl)
  refused_program short IsBudget (Budget nodes) faults faults' is own = absurd own
  refused_program short IsBudget TooManyItems faults faults' is own = absurd is
  refused_program short IsBudget (LongFile n) faults faults' is own = absurd is
  refused_program short IsBudget (Data line) faults faults' is own = absurd is
  refused_program short IsBudget LongImage faults faults' is own = absurd is
  refused_program short IsBudget OutOfMemory faults faults' is own = absurd own

  pub refused_data : length bytes ≤ 67108864 → (r : Refusal) (faults faults' : ℕ) → IsOfData (Refuses bytes) r → IsOwn r faults faults' → AtData Says Refuses held name Next (outcome_of r (Some name))
  refused_data short (Missing n) faults faults' is own = absurd is
  refused_data short (ReadFault n) faults faults' is own = absurd is
  refused_data short LongProgram faults faults' is own = absurd is
  refused_data short (Program line) faults faults' is own = absurd is
  refused_data short (Budget nodes) faults faults' is own = absurd own
  refused_data short TooManyItems faults faults' is own = absurd is
  refused_data short (LongFile n) faults faults' is own = absurd is
  refused_data short (Data line) faults faults' is own =
      (Bad (string_bytes line), record { bytes = bytes; there = there; short = short; good = is }, refl)
  refused_data short LongImage faults faults' is own = absurd is
  refused_data short OutOfMemory faults faults' is own = absurd own

  pub refused_image : length bytes ≤ 67108864 → (IsBudget : ℕ → Type 0) (r : Refusal) (faults faults' : ℕ) → IsOfImage (Refuses bytes) IsBudget r → IsOwn r faults faults' → AtData Says Refuses held name Next (outcome_of r (Some name))
  refused_image short IsBudget (Missing n) faults faults' is own = absurd is
  refused_image short IsBudget (ReadFault n) faults faults' is own = absurd is
  refused_image short IsBudget LongProgram faults faults' is own = absurd is
  refused_image short IsBudget (Program line) faults faults' is own = absurd is
  refused_image short IsBudget (Budget nodes) faults faults' is own = absurd own
  refused_image short IsBudget TooManyItems faults faults' is own = absurd is
  refused_image short IsBudget (LongFile n) faults faults' is own = absurd is
  refused_image short IsBudget (Data line) faults faults' is own =
      (Bad (string_bytes line), record { bytes = bytes; there = there; short = short; good = is }, refl)
  refused_image short IsBudget LongImage faults faults' is own = absurd is
  refused_image short IsBudget OutOfMemory faults faults' is own = absurd own

-- ---- which refusals these are

-- a refusal of the bytes of a program has no count, and may be one of its file
module _ (IsLine : List ℕ → Type 0) (IsBudget : ℕ → Type 0) where
  pub count_of_program : (contents : Option Contents) (at : Option (List ℕ)) (misses misses' faults faults' : ℕ) (r : Refusal) → IsOfProgram IsLine IsBudget r → HasCount contents at misses misses' faults faults' r
  count_of_program contents at misses misses' faults faults' (Missing n) is = absurd is
  count_of_program contents at misses misses' faults faults' (ReadFault n) is = absurd is
  count_of_program contents at misses misses' faults faults' LongProgram is = tt
  count_of_program contents at misses misses' faults faults' (Program line) is = tt
  count_of_program contents at misses misses' faults faults' (Budget nodes) is = tt
  count_of_program contents at misses misses' faults faults' TooManyItems is = absurd is
  count_of_program contents at misses misses' faults faults' (LongFile n) is = tt
  count_of_program contents at misses misses' faults faults' (Data line) is = tt
  count_of_program contents at misses misses' faults faults' LongImage is = tt
  count_of_program contents at misses misses' faults faults' OutOfMemory is = tt

  pub about_bytes : (program : List ℕ) (MayBe : List ℕ → Type 0) (MayLack : ℕ → Type 0) → ((line : List ℕ) → IsLine line → MayBe line) → ((nodes : ℕ) → IsBudget nodes → MayLack nodes) → (r : Refusal) → IsOfProgram IsLine IsBudget r → IsAboutProgram program MayBe MayLack r
  about_bytes program MayBe MayLack lines nodes (Missing n) is = absurd is
  about_bytes program MayBe MayLack lines nodes (ReadFault n) is = absurd is
  about_bytes program MayBe MayLack lines nodes LongProgram is = tt
  about_bytes program MayBe MayLack lines nodes (Program line) is = lines (string_bytes line) is
  about_bytes program MayBe MayLack lines nodes (Budget n) is = nodes n is
  about_bytes program MayBe MayLack lines nodes TooManyItems is = absurd is
  about_bytes program MayBe MayLack lines nodes (LongFile n) is = absurd is
  about_bytes program MayBe MayLack lines nodes (Data line) is = absurd is
  about_bytes program MayBe MayLack lines nodes LongImage is = absurd is
  about_bytes program MayBe MayLack lines nodes OutOfMemory is = tt

  -- status 8 is that of nodes that do not suffice
  pub budget_of : (r : Refusal) → IsOfProgram IsLine IsBudget r → status_of r ≡ 8 → (nodes : ℕ) × IsBudget nodes
  budget_of (Missing n) is eight = absurd is
  budget_of (ReadFault n) is eight = absurd is
  budget_of LongProgram is eight = absurd is
  budget_of (Program line) is eight = absurd (omega (arith, eight))
  budget_of (Budget nodes) is eight = (nodes, is)
  budget_of TooManyItems is eight = absurd is
  budget_of (LongFile n) is eight = absurd is
  budget_of (Data line) is eight = absurd is
  budget_of LongImage is eight = absurd is
  budget_of OutOfMemory is eight = absurd (omega (arith, eight))

-- what may be a refusal of a program file, may be one with more lines
pub about_more : (program : List ℕ) (Less More : List ℕ → Type 0) (Few Many : ℕ → Type 0) → ((line : List ℕ) → Less line → More line) → ((nodes : ℕ) → Few nodes → Many nodes) → (r : Refusal) → IsAboutProgram program Less Few r → IsAboutProgram program More Many r
about_more program Less More Few Many lines nodes (Missing n) is = is
about_more program Less More Few Many lines nodes (ReadFault n) is = is
about_more program Less More Few Many lines nodes LongProgram is = tt
about_more program Less More Few Many lines nodes (Program line) is = lines (string_bytes line) is
about_more program Less More Few Many lines nodes (Budget n) is = nodes n is
about_more program Less More Few Many lines nodes TooManyItems is = absurd is
about_more program Less More Few Many lines nodes (LongFile n) is = absurd is
about_more program Less More Few Many lines nodes (Data line) is = absurd is
about_more program Less More Few Many lines nodes LongImage is = absurd is
about_more program Less More Few Many lines nodes OutOfMemory is = tt

-- a refusal of the bytes of a flow file or a trace file has no count, and may be one of that file
module _ (IsLine : List ℕ → Type 0) where
  pub about_data : (name : List ℕ) (MayBe : List ℕ → Type 0) → ((line : List ℕ) → IsLine line → MayBe line) → (r : Refusal) → IsOfData IsLine r → IsAboutData name MayBe r
  about_data name MayBe lines (Missing n) is = absurd is
  about_data name MayBe lines (ReadFault n) is = absurd is
  about_data name MayBe lines LongProgram is = absurd is
  about_data name MayBe lines (Program line) is = absurd is
  about_data name MayBe lines (Budget n) is = absurd is
  about_data name MayBe lines TooManyItems is = absurd is
  about_data name MayBe lines (LongFile n) is = absurd is
  about_data name MayBe lines (Data line) is = lines (string_bytes line) is
  about_data name MayBe lines LongImage is = absurd is
  about_data name MayBe lines OutOfMemory is = tt

-- a refusal of the bytes of an image file has no count, and may be one of that file
module _ (IsLine : List ℕ → Type 0) (IsBudget : ℕ → Type 0) where
  pub about_image : (name : List ℕ) (MayBe : List ℕ → Type 0) (MayLack : ℕ → Type 0) → ((line : List ℕ) → IsLine line → MayBe line) → ((nodes : ℕ) → IsBudget nodes → MayLack nodes) → (r : Refusal) → IsOfImage IsLine IsBudget r → IsAboutImage name MayBe MayLack r
  about_image name MayBe MayLack lines nodes (Missing n) is = absurd is
  about_image name MayBe MayLack lines nodes (ReadFault n) is = absurd is
  about_image name MayBe MayLack lines nodes LongProgram is = absurd is
  about_image name MayBe MayLack lines nodes (Program line) is = absurd is
  about_image name MayBe MayLack lines nodes (Budget n) is = nodes n is
  about_image name MayBe MayLack lines nodes TooManyItems is = absurd is
  about_image name MayBe MayLack lines nodes (LongFile n) is = absurd is
  about_image name MayBe MayLack lines nodes (Data line) is = lines (string_bytes line) is
  about_image name MayBe MayLack lines nodes LongImage is = absurd is
  about_image name MayBe MayLack lines nodes OutOfMemory is = tt

  -- status 8 is that of nodes that do not suffice
  pub budget_of_image : (r : Refusal) → IsOfImage IsLine IsBudget r → status_of r ≡ 8 → (nodes : ℕ) × IsBudget nodes
  budget_of_image (Missing n) is eight = absurd is
  budget_of_image (ReadFault n) is eight = absurd is
  budget_of_image LongProgram is eight = absurd is
  budget_of_image (Program line) is eight = absurd is
  budget_of_image (Budget nodes) is eight = (nodes, is)
  budget_of_image TooManyItems is eight = absurd is
  budget_of_image (LongFile n) is eight = absurd is
  budget_of_image (Data line) is eight = absurd (omega (arith, eight))
  budget_of_image LongImage is eight = absurd is
  budget_of_image OutOfMemory is eight = absurd (omega (arith, eight))

-- a refusal of an image that is too long has no count, and its status is another one than 8
pub count_of_length : (IsLong : Type 0) (contents : Option Contents) (at : Option (List ℕ)) (misses misses' faults faults' : ℕ) (r : Refusal) → IsOfLength IsLong r → HasCount contents at misses misses' faults faults' r
count_of_length IsLong contents at misses misses' faults faults' (Missing n) is = absurd is
count_of_length IsLong contents at misses misses' faults faults' (ReadFault n) is = absurd is
count_of_length IsLong contents at misses misses' faults faults' LongProgram is = tt
count_of_length IsLong contents at misses misses' faults faults' (Program line) is = tt
count_of_length IsLong contents at misses misses' faults faults' (Budget nodes) is = tt
count_of_length IsLong contents at misses misses' faults faults' TooManyItems is = tt
count_of_length IsLong contents at misses misses' faults faults' (LongFile n) is = tt
count_of_length IsLong contents at misses misses' faults faults' (Data line) is = tt
count_of_length IsLong contents at misses misses' faults faults' LongImage is = tt
count_of_length IsLong contents at misses misses' faults faults' OutOfMemory is = tt

pub no_budget_of_length : (IsLong : Type 0) (r : Refusal) → IsOfLength IsLong r → status_of r ≡ 8 → ⊥
no_budget_of_length IsLong (Missing n) is eight = absurd is
no_budget_of_length IsLong (ReadFault n) is eight = absurd is
no_budget_of_length IsLong LongProgram is eight = absurd is
no_budget_of_length IsLong (Program line) is eight = absurd is
no_budget_of_length IsLong (Budget nodes) is eight = absurd is
no_budget_of_length IsLong TooManyItems is eight = absurd is
no_budget_of_length IsLong (LongFile n) is eight = absurd is
no_budget_of_length IsLong (Data line) is eight = absurd is
no_budget_of_length IsLong LongImage is eight = omega (arith, eight)
no_budget_of_length IsLong OutOfMemory is eight = omega (arith, eight)

-- a count that did not rise since an earlier moment did not rise since a later one
pub later_own : (r : Refusal) (first middle last : ℕ) → first ≤ middle → IsOwn r first last → IsOwn r middle last
later_own (Missing name) first middle last le own = omega (arith, own, le)
later_own (ReadFault name) first middle last le own = own
later_own LongProgram first middle last le own = own
later_own (Program line) first middle last le own = own
later_own (Budget nodes) first middle last le own = own
later_own TooManyItems first middle last le own = own
later_own (LongFile name) first middle last le own = own
later_own (Data line) first middle last le own = own
later_own LongImage first middle last le own = own
later_own OutOfMemory first middle last le own = own

-- and a cause in counts since a later moment is one since an earlier moment
pub later_count : (contents : Option Contents) (at : Option (List ℕ)) (m0 m1 m2 f0 f1 f2 : ℕ) → m0 ≤ m1 → f0 ≤ f1 → (r : Refusal) → HasCount contents at m1 m2 f1 f2 r → HasCount contents at m0 m2 f0 f2 r
later_count contents at m0 m1 m2 f0 f1 f2 le_m le_f (Missing n) count = record { cause = omega (arith, le_m, count.cause); named = count.named; told = count.told }
later_count contents at m0 m1 m2 f0 f1 f2 le_m le_f (ReadFault n) count = record { cause = omega (arith, le_f, count.cause); named = count.named; told = count.told }
later_count contents at m0 m1 m2 f0 f1 f2 le_m le_f LongProgram count = tt
later_count contents at m0 m1 m2 f0 f1 f2 le_m le_f (Program line) count = tt
later_count contents at m0 m1 m2 f0 f1 f2 le_m le_f (Budget nodes) count = tt
later_count contents at m0 m1 m2 f0 f1 f2 le_m le_f TooManyItems count = tt
later_count contents at m0 m1 m2 f0 f1 f2 le_m le_f (LongFile n) count = tt
later_count contents at m0 m1 m2 f0 f1 f2 le_m le_f (Data line) count = tt
later_count contents at m0 m1 m2 f0 f1 f2 le_m le_f LongImage count = tt
later_count contents at m0 m1 m2 f0 f1 f2 le_m le_f OutOfMemory count = tt

-- a refusal of bytes by one line is one by each line that is told by it
pub of_more : (Less More : List ℕ → Type 0) (Few Many : ℕ → Type 0) → ((line : List ℕ) → Less line → More line) → ((nodes : ℕ) → Few nodes → Many nodes) → (r : Refusal) → IsOfProgram Less Few r → IsOfProgram More Many r
of_more Less More Few Many lines nodes (Missing n) is = absurd is
of_more Less More Few Many lines nodes (ReadFault n) is = absurd is
of_more Less More Few Many lines nodes LongProgram is = absurd is
of_more Less More Few Many lines nodes (Program line) is = lines (string_bytes line) is
of_more Less More Few Many lines nodes (Budget n) is = nodes n is
of_more Less More Few Many lines nodes TooManyItems is = absurd is
of_more Less More Few Many lines nodes (LongFile n) is = absurd is
of_more Less More Few Many lines nodes (Data line) is = absurd is
of_more Less More Few Many lines nodes LongImage is = absurd is
of_more Less More Few Many lines nodes OutOfMemory is = tt

pub of_more_data : (Less More : List ℕ → Type 0) → ((line : List ℕ) → Less line → More line) → (r : Refusal) → IsOfData Less r → IsOfData More r
of_more_data Less More lines (Missing n) is = absurd is
of_more_data Less More lines (ReadFault n) is = absurd is
of_more_data Less More lines LongProgram is = absurd is
of_more_data Less More lines (Program line) is = absurd is
of_more_data Less More lines (Budget n) is = absurd is
of_more_data Less More lines TooManyItems is = absurd is
of_more_data Less More lines (LongFile n) is = absurd is
of_more_data Less More lines (Data line) is = lines (string_bytes line) is
of_more_data Less More lines LongImage is = absurd is
of_more_data Less More lines OutOfMemory is = tt

pub of_more_image : (Less More : List ℕ → Type 0) (Few Many : ℕ → Type 0) → ((line : List ℕ) → Less line → More line) → ((nodes : ℕ) → Few nodes → Many nodes) → (r : Refusal) → IsOfImage Less Few r → IsOfImage More Many r
of_more_image Less More Few Many lines nodes (Missing n) is = absurd is
of_more_image Less More Few Many lines nodes (ReadFault n) is = absurd is
of_more_image Less More Few Many lines nodes LongProgram is = absurd is
of_more_image Less More Few Many lines nodes (Program line) is = absurd is
of_more_image Less More Few Many lines nodes (Budget n) is = nodes n is
of_more_image Less More Few Many lines nodes TooManyItems is = absurd is
of_more_image Less More Few Many lines nodes (LongFile n) is = absurd is
of_more_image Less More Few Many lines nodes (Data line) is = lines (string_bytes line) is
of_more_image Less More Few Many lines nodes LongImage is = absurd is
of_more_image Less More Few Many lines nodes OutOfMemory is = tt

-- a refusal of a program file without a budget has another status than 8
pub no_eight : (program : List ℕ) (IsLine : List ℕ → Type 0) (r : Refusal) → IsAboutProgram program IsLine (λ nodes. ⊥) r → status_of r ≡ 8 → ⊥
no_eight program IsLine (Missing n) is eight = omega (arith, eight)
no_eight program IsLine (ReadFault n) is eight = omega (arith, eight)
no_eight program IsLine LongProgram is eight = omega (arith, eight)
no_eight program IsLine (Program line) is eight = omega (arith, eight)
no_eight program IsLine (Budget n) is eight = is
no_eight program IsLine TooManyItems is eight = absurd is
no_eight program IsLine (LongFile n) is eight = absurd is
no_eight program IsLine (Data line) is eight = absurd is
no_eight program IsLine LongImage is eight = absurd is
no_eight program IsLine OutOfMemory is eight = omega (arith, eight)
