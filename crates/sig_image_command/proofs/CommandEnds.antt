-- A build with status 0 is one of an accepted program, one with status 10 of one whose image is too long; and a run of an image
-- with status 0 or 3 is one of a sound image over flows of its inputs.
use Rattle.sig_image_command.proofs.Common.{◌≡◌, ◌∙◌, ◌⊎◌, ℕ, ℤ, false, List, Option, None, Some, IfSome, inl, inr, refl, sym, ap, subst, arith, Contents, Settings, Kernel, ImageView, Absent, AtFile, Bad, Found, Good, Long, Outcome, long_file, long_program, IsOwn, outcome_of, status_of, IsDue, IsEnded, Owes, Refusal, Missing, ReadFault, Budget, OutOfMemory, FindsAccepted, FindsFlows, BuildComesTo, BuildsTo, HasBuilt, HasLongImage, ExecComesTo, ExecutesTo, HasExecuted, inputs_of_image, FindsImage}

two_numbers : (status m n : ℕ) → status ≡ m → status ≡ n → m ≡ n
two_numbers status m n a b = sym a ∙ b

-- ---- a build

module _ (held : Contents) (program : List ℕ) (before at : Option (List ℕ)) (status : ℕ) (Took Said : List ℕ → Type 0)
    (due : IsDue (BuildComesTo held program) held before at status (λ text line. Took text × Said line)) (zero : status ≡ 0) where
  no_refusal : (n : ℕ) → due.outcome.status ≡ n → n ≡ 0
  no_refusal n is = sym (due.numbered ∙ is) ∙ zero

  of_build : (kernel : Kernel) → FindsAccepted false (held program) (Good kernel) → BuildsTo kernel program due.outcome → HasBuilt held program Took
  of_build kernel accepted (inl few) = record {
    kernel = kernel;
    accepted = accepted;
    image = few.image;
    of = few.of;
    few = few.fact.0;
    bytes = subst (λ (o : Outcome). Took o.text) few.fact.1 due.fact.0;
  }
  of_build kernel accepted (inr many) = absurd (let ten = no_refusal 10 (ap (λ (o : Outcome). o.status) many.fact.1) in omega (arith, ten))

  of_built : (found : Found Kernel) → FindsAccepted false (held program) found → AtFile 1 long_program program found (λ kernel. BuildsTo kernel program) due.outcome → HasBuilt held program Took
  of_built Absent finds is = absurd (let five = no_refusal 5 (ap (λ (o : Outcome). o.status) is) in omega (arith, five))
  of_built Long finds is = absurd (let one = no_refusal 1 (ap (λ (o : Outcome). o.status) is) in omega (arith, one))
  of_built (Bad line) finds is = absurd (let one = no_refusal 1 (ap (λ (o : Outcome). o.status) is) in omega (arith, one))
  of_built (Good kernel) finds builds = of_build kernel finds builds

  pub has_built : HasBuilt held program Took
  has_built = of_built due.comes.0 due.comes.1 due.comes.2

-- ---- a build whose image is too long

module _ (held : Contents) (program : List ℕ) (o : Outcome) (ten : o.status ≡ 10) where
  of_long : (kernel : Kernel) → FindsAccepted false (held program) (Good kernel) → BuildsTo kernel program o → HasLongImage held program
  of_long kernel accepted (inl few) = absurd (let zero = two_numbers o.status 10 0 ten (ap (λ (p : Outcome). p.status) few.fact.1) in omega (arith, zero))
  of_long kernel accepted (inr many) = record { kernel = kernel; accepted = accepted; many = record { image = many.image; of = many.of; fact = many.fact.0 } }

  of_found : (found : Found Kernel) → FindsAccepted false (held program) found → AtFile 1 long_program program found (λ kernel. BuildsTo kernel program) o → HasLongImage held program
  of_found Absent finds is = absurd (let five = two_numbers o.status 10 5 ten (ap (λ (p : Outcome). p.status) is) in omega (arith, five))
  of_found Long finds is = absurd (let one = two_numbers o.status 10 1 ten (ap (λ (p : Outcome). p.status) is) in omega (arith, one))
  of_found (Bad line) finds is = absurd (let one = two_numbers o.status 10 1 ten (ap (λ (p : Outcome). p.status) is) in omega (arith, one))
  of_found (Good kernel) finds builds = of_long kernel finds builds

  pub long_of : BuildComesTo held program o → HasLongImage held program
  long_of comes = of_found comes.0 comes.1 comes.2

-- a refusal with status 10 is one that the contents alone decide
own_ten : (r : Refusal) (faults faults' : ℕ) → status_of r ≡ 10 → IsOwn r faults faults'
own_ten (Missing n) faults faults' ten = absurd (omega (arith, ten))
own_ten (ReadFault n) faults faults' ten = absurd (omega (arith, ten))
own_ten (Budget nodes) faults faults' ten = absurd (omega (arith, ten))
own_ten OutOfMemory faults faults' ten = absurd (omega (arith, ten))
own_ten other faults faults' ten = tt

pub has_long_image : (contents : Option Contents) (program : List ℕ) (r : Refusal) → status_of r ≡ 10 → (faults faults' : ℕ) (before at : Option (List ℕ))
    → (IsOwn r faults faults' → IfSome contents (λ held. Owes (BuildComesTo held program) held before at r)) → IfSome contents (λ held. HasLongImage held program)
has_long_image None program r ten faults faults' before at owed = tt
has_long_image (Some held) program r ten faults faults' before at owed =
    let owes : Owes (BuildComesTo held program) held before at r = owed (own_ten r faults faults' ten) in
    long_of held program (outcome_of r owes.file) ten owes.comes

-- ---- the run of an image

-- a status of a refusal is none of a run that came to its end
not_ended : (status n : ℕ) → IsEnded status → status ≡ n → (n ≡ 4) ⊎ (n ≡ 5) → ⊥
not_ended status n (inl zero) is (inl four) = omega (arith, zero, is, four)
not_ended status n (inl zero) is (inr five) = omega (arith, zero, is, five)
not_ended status n (inr three) is (inl four) = omega (arith, three, is, four)
not_ended status n (inr three) is (inr five) = omega (arith, three, is, five)

module _ (held : Contents) (file flows : List ℕ) (settings : Settings) (before at : Option (List ℕ)) (status : ℕ) (Took Said : List ℕ → Type 0)
    (due : IsDue (ExecComesTo held file flows settings) held before at status (λ text line. Took text × Said line)) (ends : IsEnded status) where
  refuses : (n : ℕ) → due.outcome.status ≡ n → (n ≡ 4) ⊎ (n ≡ 5) → ⊥
  refuses n is among = not_ended status n ends (due.numbered ∙ is) among

  of_run : (image : ImageView) (values : List (List ℤ)) → FindsImage (held file) file (Good image) → FindsFlows (held flows) flows (inputs_of_image image) (Good values)
      → ExecutesTo image values settings.instants flows due.outcome → HasExecuted held file flows settings status Took Said
  of_run image values sound read run = record {
    image = image;
    sound = sound;
    values = values;
    read = read;
    text = run.text;
    end = run.end;
    runs = run.runs;
    numbered = due.numbered ∙ ap (λ (o : Outcome). o.status) run.is;
    took = subst (λ (o : Outcome). Took o.text) run.is due.fact.0;
    said = subst (λ (o : Outcome). Said o.line) run.is due.fact.1;
  }

  of_flows : (image : ImageView) → FindsImage (held file) file (Good image) → (found : Found (List (List ℤ))) → FindsFlows (held flows) flows (inputs_of_image image) found
      → AtFile 4 (long_file flows) flows found (λ values. ExecutesTo image values settings.instants flows) due.outcome → HasExecuted held file flows settings status Took Said
  of_flows image sound Absent finds is = absurd (refuses 5 (ap (λ (o : Outcome). o.status) is) (inr refl))
  of_flows image sound Long finds is = absurd (refuses 4 (ap (λ (o : Outcome). o.status) is) (inl refl))
  of_flows image sound (Bad line) finds is = absurd (refuses 4 (ap (λ (o : Outcome). o.status) is) (inl refl))
  of_flows image sound (Good values) finds run = of_run image values sound finds run

  abbrev AtInputs : ImageView → Outcome → Type 0
  AtInputs image o =
      (found : Found (List (List ℤ))) × FindsFlows (held flows) flows (inputs_of_image image) found
      × AtFile 4 (long_file flows) flows found (λ values. ExecutesTo image values settings.instants flows) o

  of_image : (found : Found ImageView) → FindsImage (held file) file found → AtFile 4 (long_file file) file found (λ image. AtInputs image) due.outcome → HasExecuted held file flows settings status Took Said
  of_image Absent finds is = absurd (refuses 5 (ap (λ (o : Outcome). o.status) is) (inr refl))
  of_image Long finds is = absurd (refuses 4 (ap (λ (o : Outcome). o.status) is) (inl refl))
  of_image (Bad line) finds is = absurd (refuses 4 (ap (λ (o : Outcome). o.status) is) (inl refl))
  of_image (Good image) finds inputs = of_flows image finds inputs.0 inputs.1 inputs.2

  pub has_executed : HasExecuted held file flows settings status Took Said
  has_executed = of_image due.comes.0 due.comes.1 due.comes.2
