-- What the proofs of this crate cite of std, of the crates below and of its own specs, passed on from one place.
pub use Rattle.std.proofs.Common.{All, BTreeSet, Bool, Contains, Err, HashMap, IfOk, IfSome, IsErrAnd, IsSomeAnd, IsTrue, List, None, Ok, OnErr, OnOk, Option, Ordering, Result, Some, [], add-mul, ap, append-nil, append_assoc, arith, bit_or, cond, drop, drop-cons, eq-eqb, eqb, eqb-true, false, fold, get_or, get_or-set_other, get_or-set_same, if◌then◌else◌, inl, inr, is_eq, is_some, length, length-append, length-set, length-take, ltb-false, ltb-true, map, max, mul-le-mul, mul-suc, mul_assoc, nat_cmp, nat_eq, nat_lt, not, one-mul, option_map, position, pow-suc, pow_mono, refl, rules, set, slice_get, slice_index_or, subst, suc, suc-mul, sym, take, take-append-drop, take_all, true, true≢false, w64, zero, ℕ, ◌%◌, ◌&&◌, ◌*◌, ◌++◌, ◌+◌, ◌-◌, ◌<◌, ◌^◌, ◌||◌, ◌↔◌, ◌∙◌, ◌∷◌, ◌≡◌, ◌≢◌, ◌≤◌, ◌⊎◌}
pub use Rattle.std.proofs.Math.Seq.{get_or-append_seam}
pub use Rattle.std.proofs.lemmas.Bool.{cases_eq, cases_lt, eqb-false, false≢true}
pub use Rattle.std.proofs.lemmas.Cmp.{nat_cmp_total}
pub use Rattle.std.proofs.lemmas.List.{drop_all, get_or_append_left, get_or_default, get_or_push, get_or_read, length-map, length_push}
pub use Rattle.std.proofs.lemmas.List.Elements.{Contains-append_left, Contains-push, Contains-push_cases}
pub use Rattle.std.proofs.lemmas.List.Quantifiers.{position-Some}
pub use Rattle.std.proofs.lemmas.List.Sums.{fold-append}
pub use Rattle.std.proofs.lemmas.Map.Keys.{IsStrictlyIncreasing-from_sorted}
pub use Rattle.std.proofs.lemmas.Map.Lookups.{exact_unsigned}
pub use Rattle.std.proofs.lemmas.Map.Views.{btree_set_contains_iff}
pub use Rattle.std.proofs.lemmas.Nat.Bits.{bit_at-lt, bit_at-zero, bit_at_or, bit_at_set_other, bit_at_set_same}
pub use Rattle.std.proofs.lemmas.Option.{get_or_from_slice_get, slice_get-get_or, slice_get-map, slice_get_within}
pub use Rattle.std.proofs.lemmas.Result.{IfErr-at_err, IfOk-weaker}
pub use Rattle.std.specs.BTreeMap.{is_at}
pub use Rattle.std.specs.BTreeSet.{contains}
pub use Rattle.std.specs.HashMap.{get}
pub use Rattle.std.specs.Int.{bit_at}
pub use Rattle.std.specs.List.{list_any}
pub use Rattle.std.specs.List.Sorted.{IsStrictlyIncreasing}
pub use Rattle.std.specs.Map.{lookup}
pub use Rattle.std.specs.declared.cmp.Ordering.TheVariants.{Equal, Greater, Less}
pub use Rattle.indexmap.specs.IndexSet.{insert_key}
pub use Rattle.lru.specs.LruCache.{LruCache, lru_cache, put_entries}
pub use Rattle.lru.proofs.CallerLemmas.{Contains-lookup, Contains-put_entries}
pub use Rattle.sig_lists.proofs.Joined.{empty_more, get_before, get_last}
pub use Rattle.sig_lists.proofs.Places.{read_or_empty}
pub use Rattle.sig_lists.proofs.Truths.{and_first, and_second, same_truth}
pub use Rattle.sig_dd.specs.Cache.{IsCache, question_of}
pub use Rattle.sig_dd.specs.Diagram.{Agree, Choice, Constant, Depends, Diagram, truth_of}
unfoldable pub use Rattle.sig_dd.specs.Diagram.{StartsFrom, Tests, value_at, visited, with_truth}
pub use Rattle.sig_dd.specs.Nodes.{Holds, Implies, IsChoice, IsFull, IsNodeAt, IsReduced, IsRefOf, IsStore, Keeps, Spans, StoreView, allowance, node_numbered, node_of, test}
unfoldable pub use Rattle.sig_dd.specs.Nodes.{diagram, diagrams, with_node}
pub use Rattle.sig_dd.specs.Operand.{IsOperand, earlier_of, side_of}
pub use Rattle.sig_dd.specs.Products.{AgreeBut, AreProducts, IsJoined, IsPairProduct, IsPairSide, IsProduct, IsProductSplit, MeetWithout, PairTests, PairTestsOnly}
unfoldable pub use Rattle.sig_dd.specs.Products.{product_room}
pub use Rattle.sig_dd.specs.Question.{AllStartFrom, HasVariable, HoldsAll, IsAnswer, IsHalf, IsSide, IsSplit, IsStep, IsTable, SomeHas, SomeTests, TestsOnly, asked, weight}
pub use Rattle.sig_dd.specs.Shares.{HasAll, HoldAll, IsRefused, Share, Shares, SpanAll, Trail, refusal}
pub use Rattle.sig_dd.specs.Supports.{AreMasks, AreTestedBelow, HasBit, IsMask, IsSupport, IsTestedBelow, added}
pub use Rattle.sig_dd.specs.Walks.{Asks, IsIdle}
pub use Rattle.sig_dd.specs.contracts.meets.PairPartialEq.TheImpl.{eq-value}
pub use Rattle.sig_dd.specs.declared.answer.DdAnswer.{DdAnswer}
pub use Rattle.sig_dd.specs.declared.answer.DdAnswer.TheVariants.{Budget, OutOfMemory}
pub use Rattle.sig_dd.specs.declared.meets.Pair.{Pair}
pub use Rattle.sig_dd.specs.declared.node.Node.{Node}
pub use Rattle.sig_dd.specs.declared.node.Ref.{Ref}
pub use Rattle.sig_dd.specs.declared.operand.Operand.{Operand}
pub use Rattle.sig_dd.specs.declared.products.ProductSplit.{ProductSplit}
pub use Rattle.sig_dd.specs.declared.question.Question.{Question}
pub use Rattle.sig_dd.specs.declared.question.Question.TheVariants.{Fix, Pick}
pub use Rattle.sig_dd.specs.declared.question.Split.{Split}
pub use Rattle.sig_dd.specs.declared.question.Step.{Step}
pub use Rattle.sig_dd.specs.declared.question.Step.TheVariants.{Known, Open}
pub use Rattle.sig_dd.specs.inner.Meets.{HoldsPair, IsPairSplit, Meets, pair_weight}
pub use Rattle.sig_dd.specs.inner.Renaming.{AreRenamed, IsChoiceBy, IsRenamed, RefTestsOnly, truth_in}
