use Rattle.sig_solve.proofs.{Decides-eqb, slice_eq-Decides, Decides, ◌≡◌, ◌==◌, ap, SigId, signal_id}
use Rattle.sig_solve.proofs.triangular.are_same.Goals as goal

same_id : (a b : SigId) → Decides (a.0 == b.0) (a ≡ b)
same_id a b = let d = Decides-eqb a.0 b.0 in ((λ t. ap signal_id (d.0 t)), (λ e. d.1 (ap (λ (s : SigId). s.0) e)))

pub returns : goal.returns
returns c t = (slice_eq-Decides {E = λ (a b : SigId). a.0 == b.0} same_id c.args.a.now c.args.b.now c.eq.result c.eq.ensures).0 t
