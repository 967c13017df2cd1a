-- What the proofs of this crate cite of std, of the crates below and of its own specs, passed on from one place.
pub use Rattle.std.proofs.Common.{Bool, Contains, Err, BTreeMap, IfErr, IfOk, IfSome, IsErrAnd, IsTrue, List, None, Ok, Option, Result, Some, [], ap, arith, cond, eq-eqb, eqb-true, false, if◌then◌else◌, inl, inr, is_some, length, mul-le-mul, nat_eq, not, option_map, pow-suc, pow_mono, pow_pos, refl, slice_get, slice_index_or, subst, suc, sym, true, zero, ℕ, ℤ, ◌&&◌, ◌*◌, ◌+◌, ◌-◌, ◌<◌, ◌^◌, ◌||◌, ◌↔◌, ◌∙◌, ◌∷◌, ◌≡◌, ◌≤◌, ◌⊎◌}
pub use Rattle.std.proofs.lemmas.Bool.{cases_Bool}
pub use Rattle.std.proofs.lemmas.List.FromFn.{get_or-range_with_len}
pub use Rattle.std.proofs.lemmas.Option.{slice_get_cases}
pub use Rattle.std.specs.BTreeMap.{get}
pub use Rattle.std.specs.HashSet.{contains}
pub use Rattle.std.specs.Ordering.{nat_cmp}
unfoldable pub use Rattle.sig_dd.specs.Diagram.{StartsFrom, value_at}
pub use Rattle.sig_dd.specs.declared.answer.DdAnswer.{DdAnswer}
pub use Rattle.sig_dd.specs.declared.answer.DdAnswer.TheVariants.{Budget, OutOfMemory}
pub use Rattle.sig_dd.proofs.CallerLemmas.{Agree-kept, Depends-of_two, Holds-kept, Keeps-trans, Spans-kept, Spans-of, one_reference}
pub use Rattle.sig_dd.proofs.Canonical.{same_ref}
pub use Rattle.sig_dd.proofs.Common.{Agree, Asks, Depends, HasAll, HasVariable, IfOk-weaker, IsRefused, IsSide, Keeps, Share, Shares, SpanAll, Spans, allowance, cases_eq, earlier_of, eqb-false, node_numbered, refusal, side_of, test, truth_of}
pub use Rattle.sig_dd.proofs.Dependence.{choice_depends, variable_depends}
pub use Rattle.sig_dd.proofs.Listed.{diagram-false, diagram-true}
pub use Rattle.sig_dd.proofs.Operands.{IsEarlier, earlier_is, side_is}
pub use Rattle.sig_dd.proofs.Pairs.{constant_ref, constant_test, known_constant, known_itself, pair_split}
pub use Rattle.sig_dd.proofs.Sides.{HasVariable-node, own_first, starts_own, tests_own}
pub use Rattle.sig_dd.proofs.Variables.{Depends-Tests}
pub use Rattle.sig_file.specs.Guarded.{Guarded, Guards, IsSoundImage, IsSoundOperation, IsWrittenBefore, Reads, Writes, guarded_in, guards_of}
pub use Rattle.sig_file.specs.declared.images.ImageNode.{ImageNode}
pub use Rattle.sig_file.specs.declared.images.ImageOp.{ImageOp}
pub use Rattle.sig_file.specs.declared.images.ImageOpKind.{ImageOpKind}
pub use Rattle.sig_file.proofs.Behind.{each_at}
pub use Rattle.sig_file.proofs.Common.{Choice, Const, Constant, Diagram, FunOp, Holds, ImageView, IsImage, IsNodeBehind, IsOperation, IsProper, IsReduced, IsRefOf, IsStore, MayDo, NODES, Node, Operand, Ref, Scope, Sig, SigId, StoreView, Tests, and_from, and_parts, cases_lt, diagram, high_below, high_held, length-map, length-range_with_len, low_below, low_held, names_node, node_in, node_of, nodes_in, one_ref, or_cases, or_left, or_right, proper, ref_same, same_Some, scope_of, slice_get-get_or, slice_get-map, slice_get_within}
pub use Rattle.sig_file.proofs.Reduced.{reduced}
pub use Rattle.sig_file.proofs.Rules.{count_few}
pub use Rattle.sig_verify.specs.Verifying.{IsBeyondBound, IsFirstUnsound}
pub use Rattle.sig_verify.specs.contracts.pairs.PairPartialEq.TheImpl.{eq-value}
pub use Rattle.sig_verify.specs.declared.diagrams.Diagrams.{Diagrams}
pub use Rattle.sig_verify.specs.declared.pairs.Pair.{Pair}
pub use Rattle.sig_verify.specs.declared.pairs.Work.{Work}
pub use Rattle.sig_verify.specs.declared.verifier.Verifier.{Verifier}
pub use Rattle.sig_verify.specs.declared.walk.Told.{Told}
pub use Rattle.sig_verify.specs.inner.Asking.{AreGood, AreOf, AreTold, IsGood, IsGuard, IsScene, IsTold, IsWrittenWhere, asked, asked_of, guard_at, is_written, operands_of, target_of, true_at}
unfoldable pub use Rattle.sig_verify.specs.inner.Asking.{all_asked, choices}
pub use Rattle.sig_verify.specs.inner.Diagrams.{AreDiagrams, Follows, IsFor, IsOf, IsRefusal, variables}
pub use Rattle.sig_verify.specs.inner.Known.{IsFree, IsKnown, IsSoundAt, IsTakenIn, IsWant, is_target}
pub use Rattle.sig_verify.specs.inner.Pairs.{HoldsBoth, IsSplitInto, IsTired, IsWithin, Meets, weight}
