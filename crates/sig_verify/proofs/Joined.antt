-- What is told of a node, call by call.
use Rattle.sig_verify.proofs.Common.{◌≡◌, ℕ, Bool, List, ap, ◌∙◌, arith, BTreeMap, ◌&&◌, if◌then◌else◌, AreOf, asked, Follows, IsFor, IsOf, IsRefusal, DdAnswer, ImageView, Ref, test, truth_of, Diagrams}
use Rattle.sig_verify.proofs.Calls.{for_kept, for_same, test_kept}
use Rattle.sig_verify.proofs.Spent.{refusal_more, refusal_then}
use Rattle.sig_verify.proofs.Stays.{are_of_kept, asked_kept}

module _ (d0 d1 d2 : Diagrams) (first : Follows 2 d0 d1) (second : Follows 2 d1 d2) where
  pub second_refused : (answer : DdAnswer) → IsRefusal d1 2 answer → IsRefusal d0 5 answer
  second_refused answer h = refusal_more 4 5 (omega arith) d0 answer (refusal_then 2 2 d0 d1 first answer h)

  pub third_refused : (answer : DdAnswer) → IsRefusal d2 1 answer → IsRefusal d0 5 answer
  third_refused answer h = refusal_then 2 3 d0 d1 first answer (refusal_then 2 1 d1 d2 second answer h)

  module _ (image : ImageView) (written : BTreeMap ℕ Ref) (are : AreOf d0 written) where
    pub still_of : AreOf d2 written
    still_of = are_of_kept 2 d1 d2 second written (are_of_kept 2 d0 d1 first written are)

    still_asked : asked d2 image written ≡ asked d0 image written
    still_asked = asked_kept 2 d1 d2 second image written (are_of_kept 2 d0 d1 first written are) ∙ asked_kept 2 d0 d1 first image written are

    module _ (d3 : Diagrams) (third : Follows 1 d2 d3) where
      pub function_joined : (f : List Bool → Bool) (r : Ref) → IsFor d1 f r → IsFor d3 f r
      function_joined f r is = for_kept 1 d2 d3 third f r (for_kept 2 d1 d2 second f r is)

      pub written_joined : (v : ℕ) (low high here below all : Ref) → IsOf d0 low → IsOf d0 high → IsFor d2 (asked d2 image written v) here
          → IsFor d2 (λ ts. if truth_of ts v then test d1.store.nodes high ts else test d1.store.nodes low ts) below
          → IsFor d3 (λ ts. test d2.store.nodes here ts && test d2.store.nodes below ts) all
          → IsFor d3 (λ ts. asked d0 image written v ts && (if truth_of ts v then test d0.store.nodes high ts else test d0.store.nodes low ts)) all
      written_joined v low high here below all of_low of_high is_here is_below is_all =
          for_same d3 (λ ts. test d2.store.nodes here ts && test d2.store.nodes below ts)
          (λ ts. asked d0 image written v ts && (if truth_of ts v then test d0.store.nodes high ts else test d0.store.nodes low ts))
          (λ ts.
          ap (λ b. b && test d2.store.nodes below ts) (is_here.is.function ts)
          ∙ ap (λ b. asked d2 image written v ts && b) (is_below.is.function ts)
          ∙ ap (λ w. w v ts && (if truth_of ts v then test d1.store.nodes high ts else test d1.store.nodes low ts)) still_asked
          ∙ ap (λ b. asked d0 image written v ts && (if truth_of ts v then b else test d1.store.nodes low ts)) (test_kept 2 d0 d1 first high of_high ts)
          ∙ ap (λ b. asked d0 image written v ts && (if truth_of ts v then test d0.store.nodes high ts else b)) (test_kept 2 d0 d1 first low of_low ts))
          all is_all
