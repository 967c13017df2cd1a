-- Statements that are decided, from what they are made of.
use Rattle.sig_deciding_laws.proofs.Common.{◌≡◌, ap, EqId, SigId, map_dec, dec_number}

pub dec_signal : (x y : SigId) → Dec (x ≡ y)
dec_signal x y = map_dec (λ same. λ j. record { 0 = same j }) (λ same. ap (λ (z : SigId). z.0) same) (dec_number x.0 y.0)

pub dec_equation : (d e : EqId) → Dec (d ≡ e)
dec_equation d e = map_dec (λ same. λ j. record { 0 = same j }) (λ same. ap (λ (z : EqId). z.0) same) (dec_number d.0 e.0)
