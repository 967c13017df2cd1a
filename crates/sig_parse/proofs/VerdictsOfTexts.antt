-- Leaves have a tree, or a first refusal.
use Rattle.sig_parse.proofs.Common.{◌⊎◌, List, inl, inr, refl, Span, ProcessModel, Leaf, HasTree, ParseAnswer, IsFirstRefusal, answer_for, place_of}
use Rattle.sig_parse.proofs.Verdicts.{read, refused, standing}
use Rattle.sig_parse.proofs.VerdictsOfProcesses.{ProgramVerdict, program_verdict}
use Rattle.sig_parse.proofs.RefusedPrograms.{is_refused}

pub tree_or_first_refusal : (leaves : List Leaf) (end : Span) → ((processes : List ProcessModel) × HasTree leaves processes) ⊎ ((answer : ParseAnswer) × IsFirstRefusal leaves end answer)
tree_or_first_refusal leaves end = at (program_verdict (standing leaves)) where
  at : ProgramVerdict (standing leaves) → ((processes : List ProcessModel) × HasTree leaves processes) ⊎ ((answer : ParseAnswer) × IsFirstRefusal leaves end answer)
  at (read processes t is) = inl (processes, is)
  at (refused cause after r) = inr (answer_for cause (place_of after end), (cause, place_of after end, refl, is_refused leaves end (place_of after end) cause refl refl r))
