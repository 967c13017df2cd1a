-- Operands that a form refuses.
use Rattle.sig_kinds.proofs.Common.{◌≡◌, ◌↔◌, refl, ap, sym, ◌∙◌, subst, Bool, true, false, not, IsTrue, Option, None, Some, Kind, FormRow, accepts, binary_kind, RefusesOne, RefusesTwo, unary_refused, binary_refused}

not_false : (b : Bool) → IsTrue (not b) → b ≡ false
not_false true e = absurd cc
not_false false e = refl

pub refuses_one : (form : FormRow) (first : Option Kind) → IsTrue (unary_refused form first) ↔ RefusesOne form first
refuses_one form None = (λ e. absurd cc, λ r. let n : None ≡ Some r.0 = r.1 in absurd cc)
refuses_one form (Some k) = (
  λ e. (k, refl, not_false (accepts form.operands k None) e),
  λ r. let same : k ≡ r.0 = (let s : Some k ≡ Some r.0 = r.1 in cc) in
      let refused : accepts form.operands k None ≡ false = ap (λ x. accepts form.operands x None) same ∙ r.2 in ap not refused,
)

pub refuses_two : (form : FormRow) (first second : Option Kind) → IsTrue (binary_refused form first second) ↔ RefusesTwo form first second
refuses_two form None second = (λ e. absurd cc, λ r. let n : None ≡ Some r.0 = r.2 in absurd cc)
refuses_two form (Some k) None = (λ e. absurd cc, λ r. let n : None ≡ Some r.1 = r.3 in absurd cc)
refuses_two form (Some k) (Some l) = (
  λ e. (k, l, refl, refl, not_false (accepts form.operands k (Some l)) e),
  λ r. let first : k ≡ r.0 = (let s : Some k ≡ Some r.0 = r.2 in cc) in
      let second : l ≡ r.1 = (let s : Some l ≡ Some r.1 = r.3 in cc) in
      let refused : accepts form.operands k (Some l) ≡ false = ap (λ x. accepts form.operands x (Some l)) first ∙ ap (λ y. accepts form.operands r.0 (Some y)) second ∙ r.4 in ap not refused,
)

-- the same of a form and of kinds that are worked out
pub refused_one : (b : Bool) (form row : FormRow) (given kind : Option Kind) → b ≡ unary_refused form given → form ≡ row → given ≡ kind → (IsTrue b ↔ RefusesOne row kind)
refused_one b form row given kind e f k =
    let is : b ≡ unary_refused row kind = e ∙ ap (λ x. unary_refused x given) f ∙ ap (unary_refused row) k in
    let P : Bool → Type 0 = λ x. IsTrue x ↔ RefusesOne row kind in subst P (sym is) (refuses_one row kind)

pub refused_two : (b : Bool) (form row : FormRow) (given kind other second : Option Kind) → b ≡ binary_refused form given other → form ≡ row → given ≡ kind → other ≡ second → (IsTrue b ↔ RefusesTwo row kind second)
refused_two b form row given kind other second e f k l =
    let is : b ≡ binary_refused row kind second = e ∙ ap (λ x. binary_refused x given other) f ∙ ap (λ x. binary_refused row x other) k ∙ ap (binary_refused row kind) l in
    let P : Bool → Type 0 = λ x. IsTrue x ↔ RefusesTwo row kind second in subst P (sym is) (refuses_two row kind second)

-- the kind of a form whose parts are worked out
pub kind_of_both : (result : Option Kind) (form row : FormRow) (o p k l : Option Kind) → result ≡ binary_kind form o p → form ≡ row → o ≡ k → p ≡ l → result ≡ binary_kind row k l
kind_of_both result form row o p k l e f a b = e ∙ ap (λ x. binary_kind x o p) f ∙ ap (λ x. binary_kind row x p) a ∙ ap (binary_kind row k) b
