-- The expression of a guard has the truth of the guard.
use Rattle.std.proofs.Common.{◌≡◌, ℕ, zero, suc, pos, Bool, true, false, List, [], ◌∷◌, Option, Some, None, refl, sym, ap, ◌∙◌, slice_get, if◌then◌else◌}
use Rattle.sig_base.specs.Traces.{Instant, seen_at}
use Rattle.sig_base.specs.declared.ids.SigId.{SigId}
use Rattle.sig_dd.specs.Diagram.{Diagram, Constant, Choice, truth_of}
unfoldable use Rattle.sig_dd.specs.Diagram.{value_at}
use Rattle.sig_file.specs.ImageRuns.{is_true, proposal_of}
use Rattle.sig_c.specs.SmallC.{Place, Variable, Expression, Width}
use Rattle.sig_c.specs.Meaning.{Memory, truth, chosen, tested, denied, value}
use Rattle.sig_c_step.specs.Translation.{condition_in, choice, condition}

-- the truth of a condition, where there is one
abbrev pub truth_where : Instant → Option SigId → Bool
truth_where registers None = false
truth_where registers (Some x) = is_true (seen_at registers x.0)

truth_in : (conditions : List SigId) (registers : Instant) (v : ℕ) → truth_of (proposal_of conditions registers) v ≡ truth_where registers (slice_get conditions v)
truth_in [] registers v = refl
truth_in (c ∷ conditions) registers zero = refl
truth_in (c ∷ conditions) registers (suc v) = truth_in conditions registers v

-- ---- truths of choices

itself : (w : Bool) → Some (truth w) ≡ Some (truth (if w then true else false))
itself true = refl
itself false = refl

opposite : (w : Bool) → denied (Some (truth w)) ≡ Some (truth (if w then false else true))
opposite true = refl
opposite false = refl

either : (w l : Bool) → chosen None (Some (truth w)) (Some (pos 1)) (tested (Some (truth l))) ≡ Some (truth (if w then true else l))
either true l = refl
either false true = refl
either false false = refl

neither : (w l : Bool) → chosen None (denied (Some (truth w))) (tested (Some (truth l))) (Some (pos 0)) ≡ Some (truth (if w then false else l))
neither true l = refl
neither false true = refl
neither false false = refl

without : (w h : Bool) → chosen None (denied (Some (truth w))) (Some (pos 1)) (tested (Some (truth h))) ≡ Some (truth (if w then h else true))
without true true = refl
without true false = refl
without false h = refl

both : (w h : Bool) → chosen None (Some (truth w)) (tested (Some (truth h))) (Some (pos 0)) ≡ Some (truth (if w then h else false))
both true true = refl
both true false = refl
both false h = refl

one_of : (w l h : Bool) → chosen None (Some (truth w)) (Some (truth h)) (Some (truth l)) ≡ Some (truth (if w then h else l))
one_of true l h = refl
one_of false l h = refl

module _ (widths : Place → Width) (m : Memory) (w l h : Expression) (truths : List Bool) (b : Bool) (one : value widths w m ≡ Some (truth b)) where
  choice_is : (low high : Diagram) → value widths l m ≡ Some (truth (value_at low truths)) → value widths h m ≡ Some (truth (value_at high truths))
      → value widths (choice w low high l h) m ≡ Some (truth (if b then value_at high truths else value_at low truths))
  unfolding value_at
  choice_is (Constant false) (Constant true) two three = one ∙ itself b
  choice_is (Constant true) (Constant false) two three = ap denied one ∙ opposite b
  choice_is (Constant true) (Constant true) two three = ap (λ o. chosen None o (Some (pos 1)) (tested (value widths l m))) one ∙ ap (λ o. chosen None (Some (truth b)) (Some (pos 1)) (tested o)) two ∙ either b true
  choice_is (Constant false) (Constant false) two three = ap (λ o. chosen None (denied o) (tested (value widths l m)) (Some (pos 0))) one ∙ ap (λ o. chosen None (denied (Some (truth b))) (tested o) (Some (pos 0))) two ∙ neither b false
  choice_is (Choice v low high) (Constant true) two three = ap (λ o. chosen None o (Some (pos 1)) (tested (value widths l m))) one ∙ ap (λ o. chosen None (Some (truth b)) (Some (pos 1)) (tested o)) two ∙ either b (value_at (Choice v low high) truths)
  choice_is (Choice v low high) (Constant false) two three = ap (λ o. chosen None (denied o) (tested (value widths l m)) (Some (pos 0))) one ∙ ap (λ o. chosen None (denied (Some (truth b))) (tested o) (Some (pos 0))) two ∙ neither b (value_at (Choice v low high) truths)
  choice_is (Constant true) (Choice v low high) two three = ap (λ o. chosen None (denied o) (Some (pos 1)) (tested (value widths h m))) one ∙ ap (λ o. chosen None (denied (Some (truth b))) (Some (pos 1)) (tested o)) three ∙ without b (value_at (Choice v low high) truths)
  choice_is (Constant false) (Choice v low high) two three = ap (λ o. chosen None o (tested (value widths h m)) (Some (pos 0))) one ∙ ap (λ o. chosen None (Some (truth b)) (tested o) (Some (pos 0))) three ∙ both b (value_at (Choice v low high) truths)
  choice_is (Choice u one_low one_high) (Choice v low high) two three =
      ap (λ o. chosen None o (value widths h m) (value widths l m)) one ∙ ap (λ o. chosen None (Some (truth b)) o (value widths l m)) three ∙ ap (λ o. chosen None (Some (truth b)) (Some (truth (value_at (Choice v low high) truths))) o) two
      ∙ one_of b (value_at (Choice u one_low one_high) truths) (value_at (Choice v low high) truths)

-- the variables of conditions have their truths
abbrev pub Tell : List SigId → Instant → Memory → Type 0
Tell conditions registers m = (n : ℕ) (x : SigId) → slice_get conditions n ≡ Some x → m.values (Variable x.0) ≡ Some (truth (is_true (seen_at registers x.0)))

module _ (widths : Place → Width) (conditions : List SigId) (registers : Instant) (m : Memory) (tell : Tell conditions registers m) where
  asked_is : (v : ℕ) → value widths (condition_in (slice_get conditions v)) m ≡ Some (truth (truth_of (proposal_of conditions registers) v))
  asked_is v = by (slice_get conditions v) refl ∙ ap (λ b. Some (truth b)) (sym (truth_in conditions registers v)) where
    by : (o : Option SigId) → slice_get conditions v ≡ o → value widths (condition_in (slice_get conditions v)) m ≡ Some (truth (truth_where registers (slice_get conditions v)))
    by None e = rw e refl
    by (Some x) e = rw e (tell v x e)

  pub condition_is : (d : Diagram) → value widths (condition conditions d) m ≡ Some (truth (value_at d (proposal_of conditions registers)))
  unfolding value_at
  condition_is (Constant true) = refl
  condition_is (Constant false) = refl
  condition_is (Choice v low high) =
      choice_is widths m (condition_in (slice_get conditions v)) (condition conditions low) (condition conditions high) (proposal_of conditions registers)
      (truth_of (proposal_of conditions registers) v) (asked_is v) low high (condition_is low) (condition_is high)
