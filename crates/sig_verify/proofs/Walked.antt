-- What is told of a node, by what is told of its children.
use Rattle.sig_verify.proofs.Common.{◌≡◌, ℕ, ◌+◌, ◌-◌, ◌*◌, ◌<◌, ◌≤◌, Bool, true, false, List, Some, inl, inr, sym, ap, subst, ◌∙◌, arith, cases_eq, BTreeMap, ◌&&◌, if◌then◌else◌, nat_eq, slice_get, ImageNode, AreOf, IsTold, all_asked, asked, choices, guard_at, Follows, IsFor, IsRefusal, Constant, DdAnswer, Diagram, ImageView, IsImage, Ref, test, truth_of, value_at, Diagrams, Told, and_from, and_parts}
use Rattle.sig_verify.proofs.Calls.{for_same}
use Rattle.sig_verify.proofs.GuardNodes.{guard_choice, guard_false, guard_true}
use Rattle.sig_verify.proofs.Spent.{follows_more, follows_then, refusal_more, refusal_then}
use Rattle.sig_verify.proofs.Stays.{asked_kept, is_told_kept}

-- ---- constants

-- what is told by all that is written now is exact
told_now : (exact : Bool) (d : Diagrams) (image : ImageView) (w : ℕ → List Bool → Bool) (n : ℕ) (told : Told) → IsFor d (value_at (guard_at image n)) told.function
    → IsFor d (all_asked w (guard_at image n)) told.written → IsTold exact d image w n told
told_now exact d image w n told function written = record {
  function = function;
  of = written.of;
  sure = λ ts e. sym (written.is.function ts) ∙ e;
  all = λ e ts a. written.is.function ts ∙ a;
}

told_constant : (exact : Bool) (d : Diagrams) (image : ImageView) (w : ℕ → List Bool → Bool) (n : ℕ) (b : Bool) → guard_at image n ≡ Constant b → nat_eq n 1 ≡ b → (told : Told)
    → IsFor d (λ _. nat_eq n 1) told.function → IsFor d (λ _. true) told.written → IsTold exact d image w n told
unfolding value_at all_asked
told_constant exact d image w n b same is told function written =
    told_now exact d image w n told
    (for_same d (λ _. nat_eq n 1) (value_at (guard_at image n)) (λ ts. is ∙ ap (λ (e : Diagram). value_at e ts) (sym same)) told.function function)
    (for_same d (λ _. true) (all_asked w (guard_at image n)) (λ ts. ap (λ (e : Diagram). all_asked w e ts) (sym same)) told.written written)

pub constant_is_told : (exact : Bool) (d : Diagrams) (image : ImageView) (w : ℕ → List Bool → Bool) (n : ℕ) → n < 2 → (told : Told)
    → IsFor d (λ _. nat_eq n 1) told.function → IsFor d (λ _. true) told.written → IsTold exact d image w n told
constant_is_told exact d image w n lt told function written = elim (cases_eq n 0) [
  | inl none ↦ told_constant exact d image w n false (subst (λ k. guard_at image k ≡ Constant false) (sym none) (guard_false image)) (ap (λ k. nat_eq k 1) none) told function written
  | inr some ↦
      let one : n ≡ 1 = omega arith in
      told_constant exact d image w n true (subst (λ k. guard_at image k ≡ Constant true) (sym one) (guard_true image)) (ap (λ k. nat_eq k 1) one) told function written
]

-- what implies another choice by the same truth
chosen_more : (x a b c d : Bool) → (a ≡ true → c ≡ true) → (b ≡ true → d ≡ true) → (if x then a else b) ≡ true → (if x then c else d) ≡ true
chosen_more true a b c d high low h = high h
chosen_more false a b c d high low h = low h

-- ---- nodes

module _ (image : ImageView) (is : IsImage image) (n : ℕ) (node : ImageNode) (two : 2 ≤ n) (at : slice_get image.nodes (n - 2) ≡ Some node) where
  all_choices : choices (guard_at image n) ≡ choices (guard_at image node.low) + choices (guard_at image node.high) + 1
  unfolding choices
  all_choices = ap choices (guard_choice image is n node two at)

  pub low_next : (old mid : Diagrams) → Follows (5 * choices (guard_at image node.low)) old mid → Follows (5 * choices (guard_at image n)) old mid
  low_next old mid = let all = all_choices in follows_more (5 * choices (guard_at image node.low)) (5 * choices (guard_at image n)) (omega (arith, all)) old mid

  pub high_next : (old mid high : Diagrams) → Follows (5 * choices (guard_at image node.low)) old mid → Follows (5 * choices (guard_at image node.high)) mid high
      → Follows (5 * choices (guard_at image n)) old high
  high_next old mid high a b =
      let all = all_choices in
      follows_more (5 * choices (guard_at image node.low) + 5 * choices (guard_at image node.high)) (5 * choices (guard_at image n)) (omega (arith, all)) old high
      (follows_then (5 * choices (guard_at image node.low)) (5 * choices (guard_at image node.high)) old mid high a b)

  pub node_next : (old mid high new : Diagrams) → Follows (5 * choices (guard_at image node.low)) old mid → Follows (5 * choices (guard_at image node.high)) mid high → Follows 5 high new
      → Follows (5 * choices (guard_at image n)) old new
  node_next old mid high new a b c =
      let all = all_choices in
      follows_more (5 * choices (guard_at image node.low) + (5 * choices (guard_at image node.high) + 5)) (5 * choices (guard_at image n)) (omega (arith, all)) old new
      (follows_then (5 * choices (guard_at image node.low)) (5 * choices (guard_at image node.high) + 5) old mid new a (follows_then (5 * choices (guard_at image node.high)) 5 mid high new b c))

  pub low_refused : (old : Diagrams) (answer : DdAnswer) → IsRefusal old (5 * choices (guard_at image node.low)) answer → IsRefusal old (5 * choices (guard_at image n)) answer
  low_refused old answer = let all = all_choices in refusal_more (5 * choices (guard_at image node.low)) (5 * choices (guard_at image n)) (omega (arith, all)) old answer

  pub high_refused : (old mid : Diagrams) → Follows (5 * choices (guard_at image node.low)) old mid → (answer : DdAnswer) → IsRefusal mid (5 * choices (guard_at image node.high)) answer
      → IsRefusal old (5 * choices (guard_at image n)) answer
  high_refused old mid a answer h =
      let all = all_choices in
      refusal_more (5 * choices (guard_at image node.low) + 5 * choices (guard_at image node.high)) (5 * choices (guard_at image n)) (omega (arith, all)) old answer
      (refusal_then (5 * choices (guard_at image node.low)) (5 * choices (guard_at image node.high)) old mid a answer h)

  pub node_refused : (old mid high : Diagrams) → Follows (5 * choices (guard_at image node.low)) old mid → Follows (5 * choices (guard_at image node.high)) mid high
      → (answer : DdAnswer) → IsRefusal high 5 answer → IsRefusal old (5 * choices (guard_at image n)) answer
  node_refused old mid high a b answer h =
      let all = all_choices in
      refusal_more (5 * choices (guard_at image node.low) + (5 * choices (guard_at image node.high) + 5)) (5 * choices (guard_at image n)) (omega (arith, all)) old answer
      (refusal_then (5 * choices (guard_at image node.low)) (5 * choices (guard_at image node.high) + 5) old mid a answer (refusal_then (5 * choices (guard_at image node.high)) 5 mid high b answer h))

  module _ (exact : Bool) (written : BTreeMap ℕ Ref) (mid high new : Diagrams) (of : AreOf high written) (mid_of : AreOf mid written)
      (more : Follows (5 * choices (guard_at image node.high)) mid high) (last : Follows 5 high new) (low_told high_told own : Told)
      (low_is : IsTold exact mid image (asked mid image written) node.low low_told) (high_is : IsTold exact high image (asked high image written) node.high high_told)
      (function : IsFor new (λ ts. if truth_of ts node.variable then test high.store.nodes high_told.function ts else test high.store.nodes low_told.function ts) own.function)
      (asks : IsFor new (λ ts. asked high image written node.variable ts && (if truth_of ts node.variable then test high.store.nodes high_told.written ts else test high.store.nodes low_told.written ts)) own.written) where
    low_still : IsTold exact high image (asked high image written) node.low low_told
    low_still =
        is_told_kept (5 * choices (guard_at image node.high)) mid high more exact image (asked mid image written) (asked high image written)
        (asked_kept (5 * choices (guard_at image node.high)) mid high more image written mid_of) node.low low_told low_is

    function_is : IsFor new (value_at (guard_at image n)) own.function
    unfolding value_at
    function_is = for_same new _ (value_at (guard_at image n)) (λ ts.
        ap (λ b. if truth_of ts node.variable then b else test high.store.nodes low_told.function ts) (high_is.function.is.function ts)
        ∙ ap (λ b. if truth_of ts node.variable then value_at (guard_at image node.high) ts else b) (low_still.function.is.function ts)
        ∙ ap (λ (d : Diagram). value_at d ts) (sym (guard_choice image is n node two at))) own.function function

    -- what the walk from the node asks, by its children
    all_by_children : (ts : List Bool) → all_asked (asked high image written) (guard_at image n) ts
        ≡ (asked high image written node.variable ts && (if truth_of ts node.variable then all_asked (asked high image written) (guard_at image node.high) ts else all_asked (asked high image written) (guard_at image node.low) ts))
    unfolding all_asked
    all_by_children ts = ap (λ (d : Diagram). all_asked (asked high image written) d ts) (guard_choice image is n node two at)

    own_sure : (ts : List Bool) → test new.store.nodes own.written ts ≡ true → all_asked (asked high image written) (guard_at image n) ts ≡ true
    own_sure ts e =
        let parts = and_parts (asked high image written node.variable ts) (if truth_of ts node.variable then test high.store.nodes high_told.written ts else test high.store.nodes low_told.written ts)
        (sym (asks.is.function ts) ∙ e) in
        all_by_children ts ∙ and_from (asked high image written node.variable ts) _ parts.0
        (chosen_more (truth_of ts node.variable) (test high.store.nodes high_told.written ts) (test high.store.nodes low_told.written ts) _ _ (high_is.sure ts) (low_still.sure ts) parts.1)

    own_all : exact ≡ true → (ts : List Bool) → all_asked (asked high image written) (guard_at image n) ts ≡ true → test new.store.nodes own.written ts ≡ true
    own_all e ts a =
        let parts = and_parts (asked high image written node.variable ts)
        (if truth_of ts node.variable then all_asked (asked high image written) (guard_at image node.high) ts else all_asked (asked high image written) (guard_at image node.low) ts)
        (sym (all_by_children ts) ∙ a) in
        asks.is.function ts ∙ and_from (asked high image written node.variable ts) _ parts.0
        (chosen_more (truth_of ts node.variable) (all_asked (asked high image written) (guard_at image node.high) ts) (all_asked (asked high image written) (guard_at image node.low) ts) _ _
        (high_is.all e ts) (low_still.all e ts) parts.1)

    pub node_is_told : IsTold exact new image (asked new image written) n own
    node_is_told = subst (λ w. IsTold exact new image w n own) (sym (asked_kept 5 high new last image written of)) (record {
      function = function_is;
      of = asks.of;
      sure = own_sure;
      all = own_all;
    })
