-- What calls of helpers answer.
use Rattle.std.proofs.Common.{◌≡◌, ◌≢◌, inl, inr, ℤ, pos, Bool, true, false, Some, None, refl, ap, ◌∙◌, sym, arith, not}
use Rattle.std.specs.Prelude.{negsuc, zero, suc, ◌+ℤ◌, ◌-ℤ◌, ◌*ℤ◌}
use Rattle.std.proofs.lemmas.Int.{ints}
use Rattle.sig_base.specs.Traces.{has_64_bits}
use Rattle.sig_c.specs.SmallC.{Result, Plus, Minus, Times, Divide, Expression, Binary, Helper, Add, Subtract, Multiply, Quotient, Remainder}
use Rattle.sig_c.specs.Meaning.{Memory, with_value, truth, is_zero, fitted, int_same, value, answering, run}
use Rattle.sig_c.specs.Helpers.{a, b, sum_overflows, difference_overflows, product_overflows, quotient_overflows, body_of, called, no_functions, all_wide, tested_first, entered_with}
use Rattle.sig_c.proofs.Arithmetic.{sum_told, difference_told}
use Rattle.sig_c.proofs.Products.{product_told, divided_is}
use Rattle.sig_c.proofs.Quotients.{quotient_bits, quotient_told, remainder_bits, remainder_by_one}
use Rattle.sig_base.specs.Functions.{quotient, remainder}
use Rattle.sig_c.specs.Answers.{Answers, MayBeGiven, result_of}

there : (w : ℤ) → w ≢ pos 0 → is_zero w ≡ false
there (pos zero) may = absurd (may refl)
there (pos (suc n)) may = grind (arith)
there (negsuc n) may = refl

is_same : (v w : ℤ) → int_same v w ≡ true → v ≡ w
is_same v w e = grind (arith, ints, e)

tested_answers : (test e : Expression) (m : Memory) (r : ℤ) → value all_wide test m ≡ Some (truth (not (has_64_bits r))) → (has_64_bits r ≡ true → value all_wide e m ≡ Some r)
    → m.values Result ≡ None → Answers (answering (run no_functions all_wide (tested_first test e) m)) r
tested_answers test e m r told given fresh = by (has_64_bits r) refl
  where
    by : (small : Bool) → has_64_bits r ≡ small → Answers (answering (run no_functions all_wide (tested_first test e) m)) r
    by true is = inl (is, record { after = with_value Result r m; returns = rw told (rw is (rw (given is) (rw is refl))); writes = refl })
    by false is = inr (is, record { after = m; returns = rw told (rw is refl); leaves = fresh })

fitted_is : (r : ℤ) → has_64_bits r ≡ true → fitted r ≡ Some r
fitted_is r is = rw is refl

-- if (b == -1) { *result = 0; return 0; } *result = a % b; return 0;
remainder_answers : (v w : ℤ) → has_64_bits v ≡ true → has_64_bits w ≡ true → w ≢ pos 0 → Answers (answering (run no_functions all_wide (body_of Remainder) (entered_with v w))) (remainder v w)
remainder_answers v w small_v small_w may = by (int_same w (negsuc 0)) refl
  where
    by : (b : Bool) → int_same w (negsuc 0) ≡ b → Answers (answering (run no_functions all_wide (body_of Remainder) (entered_with v w))) (remainder v w)
    by true is = inl (
      remainder_bits v w small_w may,
      record {
        after = with_value Result (pos 0) (entered_with v w);
        returns = rw is refl;
        writes = ap Some (sym (ap (remainder v) (is_same w (negsuc 0) is) ∙ remainder_by_one v));
      },
    )
    by false is = inl (
      remainder_bits v w small_w may,
      record {
        after = with_value Result (remainder v w) (entered_with v w);
        returns = rw is (rw (there w may) (rw (quotient_bits v w small_v may is) (rw (remainder_bits v w small_w may) refl)));
        writes = refl;
      },
    )

pub helper_answers : (helper : Helper) (v w : ℤ) → has_64_bits v ≡ true → has_64_bits w ≡ true → MayBeGiven helper w → Answers (called (body_of helper) v w) (result_of helper v w)
unfolding called
helper_answers Add v w small_v small_w may = tested_answers sum_overflows (Binary Plus a b) (entered_with v w) (v +ℤ w) (sum_told v w small_v small_w) (fitted_is (v +ℤ w)) refl
helper_answers Subtract v w small_v small_w may = tested_answers difference_overflows (Binary Minus a b) (entered_with v w) (v -ℤ w) (difference_told v w small_v small_w) (fitted_is (v -ℤ w)) refl
helper_answers Multiply v w small_v small_w may = tested_answers product_overflows (Binary Times a b) (entered_with v w) (v *ℤ w) (product_told v w) (fitted_is (v *ℤ w)) refl
helper_answers Quotient v w small_v small_w may = tested_answers quotient_overflows (Binary Divide a b) (entered_with v w) (quotient v w) (quotient_told v w small_v may) (divided_is v w (there w may)) refl
helper_answers Remainder v w small_v small_w may = remainder_answers v w small_v small_w may
