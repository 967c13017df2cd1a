-- A guard that a literal and what is left of it tell.
use Rattle.sig_cells.proofs.Common.{◌≡◌, ◌<◌, ◌∙◌, if◌then◌else◌, ℕ, Bool, None, Option, Some, IfSome, IsSomeAnd, refl, sym, subst, ap, AsksWithin, IsJoined, IsTest, IsTestWith, Joined, Known, Scope, Ref, Registers, Test, holds_by, literal_holds, told_by}

-- where a test tells what is left, the test with the literal tells the guard
told_whole : (one other : Option Bool) (lit otherwise on whole : Bool) → IfSome one (λ holds. IsSomeAnd other (λ own. holds ≡ (if lit then own else otherwise)))
    → IfSome other (λ own. own ≡ on) → whole ≡ (if lit then on else otherwise) → IfSome one (λ holds. holds ≡ whole)
told_whole None other lit otherwise on whole one_tells other_tells value = tt
told_whole (Some holds) None lit otherwise on whole one_tells other_tells value = absurd one_tells
told_whole (Some holds) (Some own) lit otherwise on whole one_tells other_tells value = one_tells ∙ ap (λ (b : Bool). if lit then b else otherwise) other_tells ∙ sym value

pub test_joined : (scope : Scope) (known : Known) (guard : Ref) (joined : Joined) (rest t : Test) → IsJoined scope guard joined → IsTest scope known joined.rest rest → IsTestWith joined rest t
    → IsTest scope known guard t
test_joined scope known guard joined rest t is left whole = record {
  asks = whole.asks scope.signals is.asks left.asks;
  tells = λ registers on.
      told_whole (told_by t registers) (told_by rest registers) (literal_holds joined.literal registers) joined.otherwise (holds_by scope joined.rest registers) (holds_by scope guard registers)
      (whole.tells registers) (left.tells registers on) (is.value registers);
}

-- a test that tells what another one always tells, where the literal holds
pub test_with_told : (joined : Joined) (rest t : Test) (own : Registers → Bool) → ((registers : Registers) → told_by rest registers ≡ Some (own registers))
    → ((count : ℕ) → joined.literal.signal.0 < count → AsksWithin count rest → AsksWithin count t)
    → ((registers : Registers) → told_by t registers ≡ Some (if literal_holds joined.literal registers then own registers else joined.otherwise)) → IsTestWith joined rest t
test_with_told joined rest t own told asks tells = record {
  asks = asks;
  tells = λ registers.
      subst (λ (one : Option Bool). IfSome one (λ holds. IsSomeAnd (told_by rest registers) (λ own. holds ≡ (if literal_holds joined.literal registers then own else joined.otherwise)))) (sym (tells registers))
      (subst (λ (other : Option Bool). IsSomeAnd other (λ left. (if literal_holds joined.literal registers then own registers else joined.otherwise) ≡ (if literal_holds joined.literal registers then left else joined.otherwise))) (sym (told registers)) refl);
}
