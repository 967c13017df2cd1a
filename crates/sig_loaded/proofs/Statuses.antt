-- The statuses of runs that came to their end.
use Rattle.sig_loaded.proofs.Common.{◌≡◌, inl, inr, refl, arith, Cause, Exhausted, Overflow, ZeroDivisor, Limit, IsEnded, end_status}

pub no_six : (cause : Cause) → end_status cause ≡ 6 → ⊥
no_six (Exhausted x) six = omega (arith, six)
no_six (Overflow e) six = omega (arith, six)
no_six (ZeroDivisor e) six = omega (arith, six)
no_six Limit six = omega (arith, six)

pub is_ended : (cause : Cause) → IsEnded (end_status cause)
is_ended (Exhausted x) = inl refl
is_ended (Overflow e) = inr refl
is_ended (ZeroDivisor e) = inr refl
is_ended Limit = inl refl
