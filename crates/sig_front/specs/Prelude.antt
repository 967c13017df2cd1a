-- What the definitions and the clauses of this crate cite of std and of the crates below, passed on from one place.
pub use Rattle.sig_base.specs.Traces.{IsLongest, IsPrefixOf, reduce}
pub use Rattle.std.specs.Prelude.{ℤ, IfErr, IfOk, IsErrAnd, List, MatchResult, bytes_eq, codes, decimal, length, map, ℕ, ◌++◌, ◌<◌, ◌^◌, ◌≡◌, ◌≤◌, ◌⊎◌}
pub use Rattle.sig_lex.specs.Shown.{fault_line}
pub use Rattle.sig_lex.specs.Tokens.{IsFirstFault}
pub use Rattle.sig_lex.specs.declared.answer.LexAnswer.{LexAnswer}
pub use Rattle.sig_lex.specs.declared.answer.LexAnswer.TheVariants.{BadByte, LongNumber, OpenComment, OutOfMemory as LexMemory}
pub use Rattle.sig_flat.specs.KernelOf.{kernel_of}
pub use Rattle.sig_flat.specs.Places.{AtPlacesOfKernel}
pub use Rattle.sig_flat.specs.Prelude.{IsKernelTrace, IsProcessTrace, IsValid, Kernel, Trace}
pub use Rattle.sig_flat.specs.Restricted.{restricted}
pub use Rattle.sig_flat.specs.declared.answer.FlatAnswer.{FlatAnswer}
pub use Rattle.sig_flat.specs.declared.answer.FlatAnswer.TheVariants.{OutOfMemory as FlatMemory, TooManySignals as TooManyMade}
pub use Rattle.sig_type.specs.Answers.{answer_line as type_line}
pub use Rattle.sig_type.specs.Prelude.{BadCall, BadPragma, BareConstant, Clash, DeclaredTwice, DefinedTwice, InputDefined, IsFirstOffence, NoInit, Offence, Recursive, Undefined, Unknown}
pub use Rattle.sig_type.specs.declared.answer.TypeAnswer.{TypeAnswer}
pub use Rattle.sig_type.specs.declared.answer.TypeAnswer.TheVariants.{OutOfMemory as TypeMemory}
pub use Rattle.sig_call.specs.Places.{IsWithin}
pub use Rattle.sig_call.specs.Prelude.{AllByRecursion, FlatBody, IsDistinct, IsFlatBody, IsSignalName, IsText, IsTree, IsWellFormed, PROGRAM_BYTES, ProcessModel, SIGNALS, flat_body_of, program_of}
pub use Rattle.sig_call.specs.declared.answer.CallAnswer.{CallAnswer}
pub use Rattle.sig_call.specs.declared.answer.CallAnswer.TheVariants.{OutOfMemory, TooManySignals}
pub use Rattle.sig_parse.specs.Exact.{IsFirstRefusal}
pub use Rattle.sig_parse.specs.Lines.{answer_line}
pub use Rattle.sig_parse.specs.Prelude.{AreTokens, Token, leaves_of, refusal}
pub use Rattle.sig_parse.specs.Refused.{end_of}
pub use Rattle.sig_parse.specs.declared.parse_answer.ParseAnswer.{ParseAnswer}
pub use Rattle.sig_parse.specs.declared.parse_answer.ParseAnswer.TheVariants.{Nesting, OutOfMemory as ParseMemory, Syntax}
