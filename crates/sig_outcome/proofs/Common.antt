-- What the proofs of this crate cite of std, of the crates below and of its own specs, passed on from one place.
pub use Rattle.std.proofs.Common.{Bool, Bor, IfSome, IsTrue, List, None, Option, Some, [], ap, append-nil, append_assoc, arith, codes, drop, flat_map, get_or, inl, inr, length, refl, string_bytes, subst, sym, take, take-append-drop, ℕ, ⊎_elim, ◌++◌, ◌+◌, ◌<◌, ◌∙◌, ◌≡◌, ◌≤◌, ◌⊎◌}
pub use Rattle.std.proofs.lemmas.Bool.{cases_lt}
pub use Rattle.std.proofs.lemmas.List.{drop_more}
pub use Rattle.std.proofs.lemmas.List.Concat.{flat_map-append}
pub use Rattle.std.proofs.lemmas.Result.{err_from_is_err_and}
pub use Rattle.sig_text.specs.Counts.{Rose, raised}
pub use Rattle.sig_text.specs.Files.{Contents, name_where_there}
pub use Rattle.sig_text.specs.Read.{IsLongerThan}
pub use Rattle.sig_text.specs.Sink.{Joins, TookPrefix, TookPrefix-longer, TookPrefix-then, TookPrefix-whole}
pub use Rattle.sig_outcome.specs.Outcomes.{Absent, AtData, AtFile, AtProgram, Bad, Finds, FindsData, FindsProgram, Found, Good, Holds, Long, OneAtMost, Outcome, done, long_file, long_program}
pub use Rattle.sig_outcome.specs.Refusals.{AtNoBytes, HasCount, IsAboutData, IsAboutImage, IsAboutProgram, IsOfData, IsOfImage, IsOfLength, IsOfProgram, IsOwn, line_of, outcome_of, status_of}
pub use Rattle.sig_outcome.specs.Tasks.{IsCut, IsDone, IsDue, IsRefused, MayAnswer, Owes, Performs, Reaches, Stops, Task, Writes, image_line, items_line, memory_line, write_line}
pub use Rattle.sig_outcome.specs.declared.refusal.Refusal.{Refusal}
pub use Rattle.sig_outcome.specs.declared.refusal.Refusal.TheVariants.{Budget, Data, LongFile, LongImage, LongProgram, Missing, OutOfMemory, Program, ReadFault, TooManyItems}
