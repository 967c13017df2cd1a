-- What the table of kinds says of the operands of an equation that defines no boolean, and of functions of booleans.
use Rattle.sig_rel.proofs.Common.{◌≡◌, ℤ, Bool, true, false, not, List, [], ◌∷◌, map, Option, None, Some, refl, sym, ap, ◌∙◌, inl, inr, if◌then◌else◌, ◌&&◌, ◌||◌, list_any, and_parts, false≢true, or_cases, Kind, Integer, Boolean, SigId, Signal, form_fits, kind_at, operand_is, Fun, When, Default, operands_are, is_signal, FunOp, Id, Neg, Not, And, Or, Xor, Eq, Ne, Lt, Le, Gt, Ge, Add, Sub, Mul, Div, Mod, Operand, Sig, Const, Sort, AnInteger, compares, constant_truth, is_boolean_kind, same_truth, truth_function, truth_given}
use Rattle.sig_base.specs.declared.ids.Kind.TheVariants.{Event}
use Rattle.sig_kernel.specs.declared.table.Sort.TheVariants.{Truth}

module _ (signals : List Signal) (y x : SigId) where
  -- the first operand of a When
  pub plain_when : (b : SigId) → form_fits signals (When y x b) ≡ true → is_boolean_kind (kind_at signals y) ≡ false → is_boolean_kind (kind_at signals x) ≡ false
  plain_when b fits plain = by (kind_at signals y) (kind_at signals x) refl refl where
    by : (k l : Option Kind) → kind_at signals y ≡ k → kind_at signals x ≡ l → is_boolean_kind (kind_at signals x) ≡ false
    by None l ek el = absurd (false≢true (rw ek at fits))
    by (Some Boolean) l ek el = absurd (false≢true (sym (rw ek at plain)))
    by (Some Integer) (Some Boolean) ek el = absurd (false≢true (rw (ek, el) at fits))
    by (Some Event) (Some Boolean) ek el = absurd (false≢true (rw (ek, el) at fits))
    by (Some k) _ ek el = ap is_boolean_kind el

  -- both operands of a Default
  pub plain_first : (v : SigId) → form_fits signals (Default y x v) ≡ true → is_boolean_kind (kind_at signals y) ≡ false → is_boolean_kind (kind_at signals x) ≡ false
  plain_first v fits plain = by (kind_at signals y) (kind_at signals x) refl refl where
    by : (k l : Option Kind) → kind_at signals y ≡ k → kind_at signals x ≡ l → is_boolean_kind (kind_at signals x) ≡ false
    by None l ek el = absurd (false≢true (rw ek at fits))
    by (Some Boolean) l ek el = absurd (false≢true (sym (rw ek at plain)))
    by (Some Integer) (Some Boolean) ek el = absurd (false≢true (rw (ek, el) at fits))
    by (Some Event) (Some Boolean) ek el = absurd (false≢true (rw (ek, el) at fits))
    by (Some k) _ ek el = ap is_boolean_kind el

  pub plain_second : (u : SigId) → form_fits signals (Default y u x) ≡ true → is_boolean_kind (kind_at signals y) ≡ false → is_boolean_kind (kind_at signals x) ≡ false
  plain_second u fits plain = by (kind_at signals y) (kind_at signals u) (kind_at signals x) refl refl refl where
    by : (k m l : Option Kind) → kind_at signals y ≡ k → kind_at signals u ≡ m → kind_at signals x ≡ l → is_boolean_kind (kind_at signals x) ≡ false
    by None m l ek em el = absurd (false≢true (rw ek at fits))
    by (Some Boolean) m l ek em el = absurd (false≢true (sym (rw ek at plain)))
    by (Some Integer) (Some Integer) (Some Boolean) ek em el = absurd (false≢true (rw (ek, em, el) at fits))
    by (Some Event) (Some Event) (Some Boolean) ek em el = absurd (false≢true (rw (ek, em, el) at fits))
    by _ _ (Some Boolean) ek em el = absurd (false≢true (rw (ek, em) at fits))
    by (Some k) m _ ek em el = ap is_boolean_kind el

-- the constant of a signal that is no boolean is true
pub plain_constant : (kind : Option Kind) (constant : ℤ) → is_boolean_kind kind ≡ false → constant_truth kind constant ≡ true
plain_constant (Some Boolean) constant plain = absurd (false≢true (sym plain))
plain_constant _ constant plain = refl

-- a function that gives a truth to a signal that is no boolean hands on that of another such signal
module _ (signals : List Signal) (y : SigId) (plain : is_boolean_kind (kind_at signals y) ≡ false) (truth : Operand → Bool)
    (operand_plain : (x : SigId) → is_boolean_kind (kind_at signals x) ≡ false → truth (Sig x) ≡ true) where
  plain_handed : (k : Kind) (x : SigId) (l : Option Kind) → kind_at signals y ≡ Some k → kind_at signals x ≡ l → form_fits signals (Fun y Id (Sig x ∷ [])) ≡ true → truth (Sig x) ≡ true
  plain_handed Boolean x l ek el fits = absurd (false≢true (sym (rw ek at plain)))
  plain_handed Integer x (Some Boolean) ek el fits = absurd (false≢true (rw (ek, el) at fits))
  plain_handed Event x (Some Boolean) ek el fits = absurd (false≢true (rw (ek, el) at fits))
  plain_handed k x _ ek el fits = operand_plain x (ap is_boolean_kind el)

  plain_id : (k : Kind) (operands : List Operand) (b : Bool) → kind_at signals y ≡ Some k → form_fits signals (Fun y Id operands) ≡ true → list_any is_signal operands ≡ true
      → truth_function Id (map truth operands) ≡ Some b → b ≡ true
  plain_id k (Const c ∷ []) b ek fits speaks gives = absurd (false≢true speaks)
  plain_id k (Sig x ∷ []) b ek fits speaks gives =
      let same : Some (truth (Sig x)) ≡ Some b = gives in
      let e : truth (Sig x) ≡ b = cc in
      sym e ∙ plain_handed k x (kind_at signals x) ek refl fits
  plain_id k _ b ek fits speaks gives = let no : None ≡ Some b = gives in absurd cc

  pub plain_function : (op : FunOp) (operands : List Operand) (b : Bool) → form_fits signals (Fun y op operands) ≡ true → list_any is_signal operands ≡ true
      → truth_given signals op operands truth ≡ Some b → b ≡ true
  plain_function op operands b fits speaks gives = by op (kind_at signals y) refl fits gives where
    by : (op : FunOp) (k : Option Kind) → kind_at signals y ≡ k → form_fits signals (Fun y op operands) ≡ true → truth_given signals op operands truth ≡ Some b → b ≡ true
    by op (Some Boolean) ek fits gives = absurd (false≢true (sym (rw ek at plain)))
    by Id (Some k) ek fits gives = plain_id k operands b ek fits speaks gives
    by Neg (Some k) ek fits gives = let no : None ≡ Some b = gives in absurd cc
    by Add (Some k) ek fits gives = let no : None ≡ Some b = gives in absurd cc
    by Sub (Some k) ek fits gives = let no : None ≡ Some b = gives in absurd cc
    by Mul (Some k) ek fits gives = let no : None ≡ Some b = gives in absurd cc
    by Div (Some k) ek fits gives = let no : None ≡ Some b = gives in absurd cc
    by Mod (Some k) ek fits gives = let no : None ≡ Some b = gives in absurd cc
    by Lt (Some k) ek fits gives = let no : None ≡ Some b = gives in absurd cc
    by Le (Some k) ek fits gives = let no : None ≡ Some b = gives in absurd cc
    by Gt (Some k) ek fits gives = let no : None ≡ Some b = gives in absurd cc
    by Ge (Some k) ek fits gives = let no : None ≡ Some b = gives in absurd cc
    by _ _ ek fits gives = absurd (false≢true (rw ek at fits))

-- as many operands as a row has
two_of : (signals : List Signal) (s t : Sort) (operands : List Operand) → operands_are signals operands (s ∷ t ∷ []) ≡ true → (a : Operand) × ((b : Operand) × (operands ≡ a ∷ b ∷ []))
two_of signals s t [] are = absurd (false≢true are)
two_of signals s t (a ∷ []) are = absurd (false≢true (and_parts (operand_is signals a s) false are).1)
two_of signals s t (a ∷ b ∷ []) are = (a, (b, refl))
two_of signals s t (a ∷ b ∷ c ∷ operands) are =
    absurd (false≢true (and_parts (operand_is signals b t) false (and_parts (operand_is signals a s) (operand_is signals b t && false) are).1).1)

one_of : (signals : List Signal) (s : Sort) (operands : List Operand) → operands_are signals operands (s ∷ []) ≡ true → (a : Operand) × (operands ≡ a ∷ [])
one_of signals s [] are = absurd (false≢true are)
one_of signals s (a ∷ []) are = (a, refl)
one_of signals s (a ∷ b ∷ operands) are = absurd (false≢true (and_parts (operand_is signals a s) false are).1)

only_row : (x : Bool) → (x || false) ≡ true → x ≡ true
only_row true e = refl
only_row false e = e

-- a function that defines a boolean and compares no integers gives its truth
module _ (signals : List Signal) (y : SigId) (truth : Operand → Bool) (boolean : kind_at signals y ≡ Some Boolean) (operands : List Operand) where
  from_one : (op : FunOp) → operands_are signals operands (Truth ∷ []) ≡ true → ((a : Bool) → (b : Bool) × (truth_function op (a ∷ []) ≡ Some b)) → (b : Bool) × (truth_function op (map truth operands) ≡ Some b)
  from_one op are gives =
      let one = one_of signals Truth operands are in
      let given = gives (truth one.0) in
      (given.0, ap (λ os. truth_function op (map truth os)) one.1 ∙ given.1)

  from_two : (op : FunOp) (s t : Sort) → operands_are signals operands (s ∷ t ∷ []) ≡ true → ((a c : Bool) → (b : Bool) × (truth_function op (a ∷ c ∷ []) ≡ Some b)) → (b : Bool) × (truth_function op (map truth operands) ≡ Some b)
  from_two op s t are gives =
      let two = two_of signals s t operands are in
      let given = gives (truth two.0) (truth two.1.0) in
      (given.0, ap (λ os. truth_function op (map truth os)) two.1.1 ∙ given.1)

  -- of the rows of an equality one holds
  from_equality : (op : FunOp) → (operands_are signals operands (AnInteger ∷ AnInteger ∷ []) || (operands_are signals operands (Truth ∷ Truth ∷ []) || false)) ≡ true
      → ((a c : Bool) → (b : Bool) × (truth_function op (a ∷ c ∷ []) ≡ Some b)) → compares signals op operands ≡ false
      → (b : Bool) × ((if compares signals op operands then None else truth_function op (map truth operands)) ≡ Some b)
  from_equality op fits gives differs =
      let given : (b : Bool) × (truth_function op (map truth operands) ≡ Some b) = elim (or_cases (operands_are signals operands (AnInteger ∷ AnInteger ∷ [])) (operands_are signals operands (Truth ∷ Truth ∷ []) || false) fits) [
        | inl are ↦ from_two op AnInteger AnInteger are gives
        | inr are ↦ from_two op Truth Truth (only_row (operands_are signals operands (Truth ∷ Truth ∷ [])) are) gives
      ] in
      (given.0, ap (λ (b : Bool). if b then None else truth_function op (map truth operands)) differs ∙ given.1)

  pub given_truth : (op : FunOp) → form_fits signals (Fun y op operands) ≡ true → compares signals op operands ≡ false → (b : Bool) × (truth_given signals op operands truth ≡ Some b)
  given_truth Id fits differs = from_one Id (only_row (operands_are signals operands (Truth ∷ [])) (rw boolean at fits)) (λ a. (a, refl))
  given_truth Not fits differs = from_one Not (only_row (operands_are signals operands (Truth ∷ [])) (rw boolean at fits)) (λ a. (not a, refl))
  given_truth And fits differs = from_two And Truth Truth (only_row (operands_are signals operands (Truth ∷ Truth ∷ [])) (rw boolean at fits)) (λ a c. (a && c, refl))
  given_truth Or fits differs = from_two Or Truth Truth (only_row (operands_are signals operands (Truth ∷ Truth ∷ [])) (rw boolean at fits)) (λ a c. (a || c, refl))
  given_truth Xor fits differs = from_two Xor Truth Truth (only_row (operands_are signals operands (Truth ∷ Truth ∷ [])) (rw boolean at fits)) (λ a c. (not (same_truth a c), refl))
  given_truth Eq fits differs = from_equality Eq (rw boolean at fits) (λ a c. (same_truth a c, refl)) differs
  given_truth Ne fits differs = from_equality Ne (rw boolean at fits) (λ a c. (not (same_truth a c), refl)) differs
  given_truth Lt fits differs = absurd (false≢true (sym differs))
  given_truth Le fits differs = absurd (false≢true (sym differs))
  given_truth Gt fits differs = absurd (false≢true (sym differs))
  given_truth Ge fits differs = absurd (false≢true (sym differs))
  given_truth _ fits differs = absurd (false≢true (rw boolean at fits))

pub boolean_kind : (kind : Option Kind) → is_boolean_kind kind ≡ true → kind ≡ Some Boolean
boolean_kind (Some Boolean) is = refl
boolean_kind _ is = absurd (false≢true is)
