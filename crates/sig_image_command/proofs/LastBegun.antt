-- Which statuses say that nodes do not suffice, and which that all was written.
use Rattle.sig_image_command.proofs.Common.{◌≡◌, ◌⊎◌, ℕ, ℤ, List, Option, None, Some, Bool, IfSome, inl, inr, sym, ◌∙◌, Contents, ImageView, ImageCause, Exhausted, status_of, Refusal, Missing, Budget, IsAboutFlows, LacksMemory, exec_status, WritesExec}

-- no refusal has status 0
pub no_refusal : (r : Refusal) → status_of r ≡ 0 → ⊥
no_refusal (Missing name) e = absurd cc
no_refusal other e = absurd cc

-- no refusal of a flow file has status 8
pub no_flow_budget : (name : List ℕ) (r : Refusal) → IsAboutFlows name r → status_of r ≡ 8 → ⊥
no_flow_budget name (Budget nodes) about e = absurd about
no_flow_budget name other about e = absurd cc

no_end_budget : (cause : ImageCause) → exec_status cause ≡ 8 → ⊥
no_end_budget (Exhausted x) e = absurd cc
no_end_budget other e = absurd cc

by_number : (cause : ImageCause) (status : ℕ) → (status ≡ exec_status cause) ⊎ (status ≡ 6) → status ≡ 8 → ⊥
by_number cause status (inl ends) e = no_end_budget cause (sym ends ∙ e)
by_number cause status (inr six) e = let no : 6 ≡ 8 = sym six ∙ e in absurd cc

-- no run of an image has it
module _ {S : Type 0} {image : ImageView} {flows : List (List ℤ)} {limit : ℕ} {took : S → List ℕ → S → Type 0} {out out' : S} {wrote wrote' : ℕ} {clean : Bool} {Said : List ℕ → Type 0} {status : ℕ} where
  pub no_run_budget : WritesExec image flows limit took out out' wrote wrote' clean Said status ⊎ LacksMemory out out' Said status → status ≡ 8 → ⊥
  no_run_budget (inl writes) e = by_number writes.end.cause status writes.writes.numbers e
  no_run_budget (inr lacks) e = let no : 7 ≡ 8 = sym lacks.numbered ∙ e in absurd cc

pub told_never : (contents : Option Contents) (status : ℕ) (P : Contents → Type 0) → (status ≡ 8 → ⊥) → IfSome contents (λ held. status ≡ 8 → P held)
told_never None status P never = tt
told_never (Some held) status P never = λ e. absurd (never e)

pub told_by : (contents : Option Contents) (r : Refusal) (status : ℕ) (P : Contents → Type 0) → status ≡ status_of r
    → IfSome contents (λ held. status_of r ≡ 8 → P held) → IfSome contents (λ held. status ≡ 8 → P held)
told_by None r status P same h = tt
told_by (Some held) r status P same h = λ e. h (sym same ∙ e)

pub told_always : (contents : Option Contents) (status : ℕ) (P : Contents → Type 0) → IfSome contents P → IfSome contents (λ held. status ≡ 8 → P held)
told_always None status P h = tt
told_always (Some held) status P h = λ e. h
