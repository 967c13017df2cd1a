-- Every text is that of a program or has a refusal, and so with flat bodies and with kernels.
use Rattle.sig_front.proofs.Common.{◌⊎◌, ℕ, List, length, inl, inr, refl, cases_lt, tokens_or_fault, tree_or_first_refusal, none_or_first, decided_rules, some_body, all_processes, rules_of, AreTokens, Token, IsFirstFault, LexAnswer, IsFirstRefusal, end_of, leaves_of, HasTree, IsText, IsTree, IsWellFormed, IsFirstOffence, Offence, IsFlatBody, FlatBody, ProcessModel, ParseAnswer, SIGNALS, Kernel, kernel_of, IsNoText, IsFlatText, IsGood, IsNoFlatText, answer_for, IsKernelText, IsNoKernelText, FrontAnswer, Lex, Parse, «Type» as TypeRefused, TooManySignals, OutOfMemory}

abbrev HasTextVerdict : List ℕ → Type 0
HasTextVerdict text = ((tree : List ProcessModel) × IsText text tree) ⊎ ((answer : FrontAnswer) × IsNoText text answer)

pub some_text : (text : List ℕ) → HasTextVerdict text
some_text text = at (tokens_or_fault text) where
  of_tokens : (tokens : List Token) → AreTokens text tokens
      → ((tree : List ProcessModel) × HasTree (leaves_of text tokens) tree) ⊎ ((refusal : ParseAnswer) × IsFirstRefusal (leaves_of text tokens) (end_of tokens) refusal) → HasTextVerdict text
  of_tokens tokens are (inl has) = inl (has.0, (tokens, are, has.1))
  of_tokens tokens are (inr refusal) = inr (Parse refusal.0, (tokens, are, refusal.1))

  at : ((tokens : List Token) × AreTokens text tokens) ⊎ ((fault : LexAnswer) × IsFirstFault text fault) → HasTextVerdict text
  at (inl found) = of_tokens found.0 found.1 (tree_or_first_refusal (leaves_of text found.0) (end_of found.0))
  at (inr fault) = inr (Lex fault.0, fault.1)

module _ (trees : (text : List ℕ) (tree : List ProcessModel) → IsText text tree → IsTree tree) (text : List ℕ) where
  abbrev HasFlatVerdict : Type 0
  HasFlatVerdict = ((flat : FlatBody) × IsFlatText text flat) ⊎ ((answer : FrontAnswer) × IsNoFlatText text answer)

  -- the flat body of a good program is kept, or is too large
  kept_or_large : (tree : List ProcessModel) → IsGood text tree → (flat : FlatBody) × IsFlatBody tree flat → HasFlatVerdict
  kept_or_large tree good found = elim (cases_lt SIGNALS (length found.0.signals)) [
    | inl many ↦ inr (TooManySignals SIGNALS, record { tree = tree; good = good; flat = found.0; expands = found.1; many = many; said = refl })
    | inr few ↦ inl (found.0, record { tree = tree; good = good; expands = found.1; few = few })
  ]

  of_tree : (tree : List ProcessModel) → IsText text tree → IsWellFormed tree ⊎ ((offence : Offence) × IsFirstOffence tree offence) → HasFlatVerdict
  of_tree tree reads (inl formed) = kept_or_large tree (record { reads = reads; formed = formed }) (some_body tree (trees text tree reads) formed)
  of_tree tree reads (inr first) = inr (TypeRefused (answer_for first.0), record { tree = tree; reads = reads; offence = first.0; first = first.1; named = refl })

  of_refusal : (answer : FrontAnswer) → IsNoText text answer → HasFlatVerdict
  of_refusal (Lex fault) none = inr (Lex fault, none)
  of_refusal (Parse refusal) none = inr (Parse refusal, none)
  of_refusal (TypeRefused answer) none = absurd none
  of_refusal (TooManySignals limit) none = absurd none
  of_refusal OutOfMemory none = absurd none

  pub some_flat : HasFlatVerdict
  some_flat = elim (some_text text) [
    | inl is ↦ of_tree is.0 is.1 (none_or_first (rules_of (all_processes is.0)) (decided_rules (all_processes is.0)))
    | inr none ↦ of_refusal none.0 none.1
  ]

  abbrev HasKernelVerdict : Type 0
  HasKernelVerdict = ((kernel : Kernel) × IsKernelText text kernel) ⊎ ((answer : FrontAnswer) × IsNoKernelText text answer)

  kernel_kept_or_large : (flat : FlatBody) → IsFlatText text flat → HasKernelVerdict
  kernel_kept_or_large flat says = elim (cases_lt SIGNALS (length (kernel_of flat).signals)) [
    | inl many ↦ inr (TooManySignals SIGNALS, inr (record { flat = flat; says = says; many = many; said = refl }))
    | inr few ↦ inl (kernel_of flat, record { flat = flat; says = says; made = refl; few = few })
  ]

  of_no_flat : (answer : FrontAnswer) → IsNoFlatText text answer → HasKernelVerdict
  of_no_flat (Lex fault) none = inr (Lex fault, none)
  of_no_flat (Parse refusal) none = inr (Parse refusal, none)
  of_no_flat (TypeRefused answer) none = inr (TypeRefused answer, none)
  of_no_flat (TooManySignals limit) none = inr (TooManySignals limit, inl none)
  of_no_flat OutOfMemory none = absurd none

  pub some_kernel : HasKernelVerdict
  some_kernel = elim some_flat [ inl is ↦ kernel_kept_or_large is.0 is.1 | inr none ↦ of_no_flat none.0 none.1 ]
