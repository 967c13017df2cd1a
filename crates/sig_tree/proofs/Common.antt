-- What the proofs of this crate cite of std, of the crates below and of its own specs, passed on from one place.
pub use Rattle.std.proofs.Common.{Bool, List, None, Option, Some, [], ap, append-nil, append_assoc, arith, bytes_eq, codes, cond, false, flat_map, inl, inr, le-leb, leb, length, length-append, map, neg_ℤ, pos, refl, subst, suc, sym, true, zero, ℕ, ℤ, ⊎_elim, ◌++◌, ◌+◌, ◌<◌, ◌∙◌, ◌∷◌, ◌≡◌, ◌≤◌, ◌⊎◌}
pub use Rattle.std.proofs.lemmas.Bool.{cases_order}
pub use Rattle.std.proofs.Math.Decide.{map_dec}
pub use Rattle.std.specs.Prelude.{Any, Contains, is_some, zip, ⊤, ◌≢◌}
pub use Rattle.std.proofs.lemmas.List.{append_cancel_left, append_cancel_right}
pub use Rattle.std.proofs.lemmas.Option.{none-some, same_Some}
pub use Rattle.std.specs.List.{AllZip}
pub use Rattle.sig_lists.proofs.Bytes.{same_bytes}
pub use Rattle.sig_lists.proofs.Contained.{contains_cons, contains_head, contains_later, contains_none}
pub use Rattle.sig_lists.proofs.Decided.{dec_both, dec_contains, dec_either, dec_not, dec_number, dec_option, dec_some, dec_text, dec_truth}
pub use Rattle.sig_lists.proofs.Searched.{searched_members}
pub use Rattle.sig_lists.proofs.Each.{zip_back, zip_left, zip_same}
pub use Rattle.sig_base.specs.Functions.{And as FunctionAnd, Difference, Function, Gives, Greater, GreaterEqual, Less as FunctionLess, LessEqual, Negative, Not as FunctionNot, NotEqual, Or as FunctionOr, Product, Quotient, Remainder, Sum, Xor as FunctionXor}
pub use Rattle.sig_base.specs.Traces.{Bounded, Instant, IsLongest, IsPrefixOf, NoneSilent, Range, Seen, Trace, is_silent, reduce, seen_at}
pub use Rattle.sig_base.specs.declared.ids.Kind.{Kind}
pub use Rattle.sig_base.specs.declared.ids.Kind.TheVariants.{Boolean, Event, Integer}
pub use Rattle.sig_lex.specs.declared.token.Token.{Token}
pub use Rattle.sig_lex.proofs.Common.{AllByRecursion, Span, bytes_eq-Decides, cases_lt, lt-leb}
pub use Rattle.sig_tree.specs.Beginning.{BeginsBody, BeginsConstant, BeginsExpression, BeginsGroup, BeginsLeft, BeginsName, BeginsPlacement, BeginsProcess, StartsWith}
pub use Rattle.sig_tree.specs.Candidates.{Candidate, IsFirst, NoneHolds, Offence, candidate, each}
pub use Rattle.sig_tree.specs.Constants.{AreSignals, IsSignals, is_constant, is_function}
pub use Rattle.sig_tree.specs.Continuing.{ContinuesBodies, ContinuesBody, ContinuesClockEquation, ContinuesDefinition, ContinuesDelay, ContinuesEach, ContinuesExpression, ContinuesFurtherBodies, ContinuesGroup, ContinuesGroups, ContinuesInit, ContinuesList, ContinuesLocals, ContinuesNothing, ContinuesOptional, ContinuesParam, ContinuesPlacements, ContinuesProgram, IsInfix}
pub use Rattle.sig_tree.specs.Declarations.{all_processes, equations_of_model, inputs_of, outputs_of}
pub use Rattle.sig_tree.specs.Equations.{AreArguments, AreBodies, AreConstants, AreFurtherBodies, IsBody, IsClockEquation, IsDefinition, IsLeft, IsName, IsRight}
pub use Rattle.sig_tree.specs.Expressions.{Enclosed, IsAtLevel, IsBare, IsConstant, IsExpression, IsInit, IsOptionalInit, IsOptionalOne, Stands}
pub use Rattle.sig_tree.specs.FlatBody.{Copy, Defined, Ended, Equated, Expanded, Expands, IsFlatBody, Progress, called_copy, inputs_defined, outputs_defined, with_copy}
pub use Rattle.sig_tree.specs.FlatSyntax.{Const, Defines, Equal, FlatBody, FlatEquation, FlatExpression, Sig}
pub use Rattle.sig_tree.specs.Grammar.{HasTree, IsProgram}
pub use Rattle.sig_tree.specs.Leaves.{leaves_of}
pub use Rattle.sig_tree.specs.Levels.{binary_level, default_level, delay_level, left_level, level_of, mixed_level, operand_level, primary_level, relation_level, right_level, sum_level, unary_level}
pub use Rattle.sig_tree.specs.Limits.{Limits, MayHave, MayStandInside, both_limits, no_limits}
pub use Rattle.sig_tree.specs.Meaning.{IsCell, IsDelayed, IsHeld, IsOperand, IsPrevious, instant_at}
pub use Rattle.sig_tree.specs.Operators.{AppliesToBoth, AppliesToOne, Changes, Combines, OfBoth, OfOne, Operand, Samples, Signal, Yields, both_of, clock_of, delayed, either_of, held, merged, sampled, without}
pub use Rattle.sig_tree.specs.ProcessTraces.{HoldThroughout, HoldsAt, IsProcessTrace}
pub use Rattle.sig_tree.specs.Processes.{AreGroups, AreLocals, AreParams, ArePragmas, IsGroup, IsInterface, IsItem, IsLocalGroup, IsModel, IsParam, IsPlacement, IsPlainItem, IsWhere}
pub use Rattle.sig_tree.specs.Readings.{OneReading, StopsBefore}
pub use Rattle.sig_tree.specs.Repeated.{Between, Each, Further, Listed, Separated}
pub use Rattle.sig_tree.specs.Spines.{AreSoMany, IsAtom, IsInner, IsSpine, IsStep, Step, WithCell, WithDelay, WithOperand, stepped, stepped_all}
pub use Rattle.sig_tree.specs.Steps.{BodySteps, EquationSteps, HoldsBehind, Leads, Steps, kept}
pub use Rattle.sig_tree.specs.Syntax.{Binary, Bodies, Called, Cell, Computed, Declared, Delay, Equations, Expression, Heading, Modelled, Named, Number, Placement, ProcessModel, ProcessModels, RightSide, Together, Truth, Unary, more_bodies, more_models, no_body, no_model}
pub use Rattle.sig_tree.specs.Terminals.{Leaf, Terminal, binary_terminal, kind_word, label, leaf, mark, name, name_leaf, number, truth_word, unary_terminal, word}
pub use Rattle.sig_tree.specs.WellFormed.{rules_of}
pub use Rattle.sig_tree.specs.declared.expr.BinOp.{BinOp}
pub use Rattle.sig_tree.specs.declared.expr.BinOp.TheVariants.{Add, And, Default, Div, Eq, Ge, Gt, Le, Less, Lt, Meet, Mod, Mul, Ne, Or, Plus, Sub, Xor}
pub use Rattle.sig_tree.specs.declared.expr.Constant.{Constant}
pub use Rattle.sig_tree.specs.declared.expr.Constant.TheVariants.{Bool as BoolConstant, Int, Param}
pub use Rattle.sig_tree.specs.declared.expr.Name.{Name}
pub use Rattle.sig_tree.specs.declared.expr.UnOp.{UnOp}
pub use Rattle.sig_tree.specs.declared.expr.UnOp.TheVariants.{Clock, Neg, Not, When}
pub use Rattle.sig_tree.specs.declared.process.Item.{Item}
