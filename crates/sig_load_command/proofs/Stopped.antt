-- The refusals of a load.
use Rattle.sig_load_command.proofs.Common.{◌≡◌, ◌≤◌, ℕ, false, List, Option, None, length, inl, inr, refl, ap, sym, subst, arith, string_bytes, PROGRAM_BYTES, inputs_of, Kernel, flows, program, Contents, long_file, long_program, refused, HasCount, IsOfProgram, IsOwn, outcome_of, status_of, Refusal, Missing, ReadFault, LongProgram, Program, Budget, TooManyItems, LongFile, Data, OutOfMemory, told, AreRefused, IsBeyondBound, LacksNodes, plan_line, HoldFew, HoldTooMany, flow_line, Settings, IsLoadStatus, IsShortProgram, LoadComesTo, IsAboutLoad, IsOfFlowsText, IsOfProgramText, flows_name, StopsLoad}

-- a refusal of a load has a status of a load
pub load_number : (r : Refusal) → IsAboutLoad r → IsLoadStatus (status_of r)
load_number LongProgram about = inr (inr (inl refl))
load_number (Program line) about = inr (inr (inl refl))
load_number (Budget nodes) about = inr (inr (inr (inr (inr (inr refl)))))
load_number TooManyItems about = inr (inr (inr (inl refl)))
load_number (LongFile name) about = inr (inr (inr (inr (inl refl))))
load_number (Data line) about = inr (inr (inr (inr (inl refl))))
load_number OutOfMemory about = inr (inr (inr (inr (inr (inl refl)))))
load_number other about = absurd about

-- a refusal that may be one of a load has no cause in the counts
no_count : (contents : Option Contents) (at : Option (List ℕ)) (misses faults : ℕ) (r : Refusal) → IsAboutLoad r → HasCount contents at misses misses faults faults r
no_count contents at misses faults (Missing name) about = absurd about
no_count contents at misses faults (ReadFault name) about = absurd about
no_count contents at misses faults other about = tt

module _ (seed stages capacity : ℕ) where
  -- a refusal ends a load that comes to it
  stops : (r : Refusal) → IsAboutLoad r → (status_of r ≡ 8 → IsBeyondBound false (program stages))
      → ((settings : Settings) (faults : ℕ) → settings.capacity ≡ capacity → IsOwn r faults faults → LoadComesTo seed stages settings (outcome_of r None)) → StopsLoad seed stages capacity r
  stops r about beyond comes = λ settings contents at misses faults same. record {
    about = about;
    counted = no_count contents at misses faults r about;
    owed = told contents _ (λ held. λ own. record { file = None; comes = comes settings faults same own; last = refl });
    budget = told contents _ (λ held. beyond);
    begun = told contents _ (λ held. tt);
  }

  pub stops_memory : StopsLoad seed stages capacity OutOfMemory
  stops_memory = stops OutOfMemory tt (λ eight. absurd (omega (arith, eight))) (λ settings faults same own. absurd own)

  -- ---- the program

  about_text : (r : Refusal) → IsOfProgramText (program stages) r → IsAboutLoad r
  about_text LongProgram of = tt
  about_text (Program line) of = plan_line false (program stages) (string_bytes line) of.1
  about_text (Budget nodes) of = of.number
  about_text OutOfMemory of = tt
  about_text other of = absurd of

  beyond_text : (r : Refusal) → IsOfProgramText (program stages) r → status_of r ≡ 8 → IsBeyondBound false (program stages)
  beyond_text LongProgram of eight = absurd (omega (arith, eight))
  beyond_text (Program line) of eight = absurd (omega (arith, eight))
  beyond_text (Budget nodes) of eight = of.beyond
  beyond_text OutOfMemory of eight = absurd (omega (arith, eight))
  beyond_text other of eight = absurd of

  text_refuses : (settings : Settings) (faults : ℕ) (r : Refusal) → IsOfProgramText (program stages) r → IsOwn r faults faults → LoadComesTo seed stages settings (outcome_of r None)
  text_refuses settings faults LongProgram of own = inl (long_program, inl (of, refl), refl)
  text_refuses settings faults (Program line) of own = inl (string_bytes line, inr (of.0, of.1), refl)
  text_refuses settings faults (Budget nodes) of own = absurd own
  text_refuses settings faults OutOfMemory of own = absurd own
  text_refuses settings faults other of own = absurd of

  pub stops_program : (r : Refusal) → IsOfProgramText (program stages) r → StopsLoad seed stages capacity r
  stops_program r of = stops r (about_text r of) (beyond_text r of) (λ settings faults same own. text_refuses settings faults r of own)

  module _ (kernel : Kernel) (is : IsShortProgram (program stages) kernel) where
    -- ---- the links

    pub stops_items : HoldTooMany kernel capacity → StopsLoad seed stages capacity TooManyItems
    stops_items many =
        stops TooManyItems tt (λ eight. absurd (omega (arith, eight)))
        (λ settings faults same own. inr (kernel, is, inl (subst (λ n. HoldTooMany kernel n) (sym same) many, refl)))

    -- ---- the flows

    module _ (few : HoldFew kernel capacity) where
      about_flows : (r : Refusal) → IsOfFlowsText kernel (flows seed stages) r → IsAboutLoad r
      about_flows LongProgram of = tt
      about_flows TooManyItems of = tt
      about_flows (LongFile name) of = of.0
      about_flows (Data line) of = flow_line flows_name (inputs_of kernel) (flows seed stages) (string_bytes line) of.1
      about_flows OutOfMemory of = tt
      about_flows other of = absurd of

      no_budget : (r : Refusal) → IsOfFlowsText kernel (flows seed stages) r → status_of r ≡ 8 → IsBeyondBound false (program stages)
      no_budget (LongFile name) of eight = absurd (omega (arith, eight))
      no_budget (Data line) of eight = absurd (omega (arith, eight))
      no_budget OutOfMemory of eight = absurd (omega (arith, eight))
      no_budget other of eight = absurd of

      flows_refuse : (settings : Settings) (faults : ℕ) → settings.capacity ≡ capacity → (r : Refusal) → IsOfFlowsText kernel (flows seed stages) r → IsOwn r faults faults
          → LoadComesTo seed stages settings (outcome_of r None)
      flows_refuse settings faults same (LongFile name) of own =
          inr (kernel, is, inr (subst (λ n. HoldFew kernel n) (sym same) few, inl (of.1, ap (λ (n : List ℕ). refused 4 (long_file n) None) of.0)))
      flows_refuse settings faults same (Data line) of own =
          inr (kernel, is, inr (subst (λ n. HoldFew kernel n) (sym same) few, inr (inl (string_bytes line, of.0, of.1, refl))))
      flows_refuse settings faults same OutOfMemory of own = absurd own
      flows_refuse settings faults same other of own = absurd of

      pub stops_flows : (r : Refusal) → IsOfFlowsText kernel (flows seed stages) r → StopsLoad seed stages capacity r
      stops_flows r of = stops r (about_flows r of) (no_budget r of) (λ settings faults same own. flows_refuse settings faults same r of own)

-- ---- what the passes refuse

pub of_program : (bytes : List ℕ) → length bytes ≤ PROGRAM_BYTES → (r : Refusal) → IsOfProgram (AreRefused false bytes) (LacksNodes false bytes) r → IsOfProgramText bytes r
of_program bytes short (Program line) of = (short, of)
of_program bytes short (Budget nodes) of = of
of_program bytes short OutOfMemory of = tt
of_program bytes short other of = absurd of
